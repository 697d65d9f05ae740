-- The commands that lines give can be served.
use Rattle.std.proofs.Common.{◌≡◌, ℕ, zero, suc, Bool, true, false, List, [], ◌∷◌, ◌++◌, Option, None, Some, IfSome, length, refl}
use Rattle.std.specs.Prelude.{if◌then◌else◌, codes, nat_lt, option_map}
use Rattle.std.specs.Option.{option_and_then}
use Rattle.std.specs.List.{All}
use Rattle.std.specs.Str.{bytes_eq}
use Rattle.std.proofs.lemmas.List.Elements.{All-append, All-cons, All-nil}
use Rattle.jsh_tree.specs.Text.{most_source}
use Rattle.jsh_lex.specs.Spelling.{is_identifier}
use Rattle.jsh_complete.specs.declared.completion.Completeness.{Completeness}
use Rattle.jsh_complete.specs.declared.completion.Completeness.TheVariants as completeness
use Rattle.jsh_snippet.specs.declared.acts.Act.TheVariants as act
use Rattle.jsh_snippet.specs.declared.acts.Question.TheVariants as question
use Rattle.jsh_snippet.specs.declared.acts.Target.TheVariants as target
use Rattle.jsh_commands.specs.declared.commands.Command.{Command as Asked}
use Rattle.jsh_commands.specs.declared.commands.Command.TheVariants as asked
use Rattle.jsh_commands.specs.declared.words.Word.{Word}
use Rattle.jsh_commands.specs.declared.words.Word.TheVariants as word
use Rattle.jsh_commands.specs.Numbers.{number}
use Rattle.jsh_commands.specs.Words.{argument, first_word, trimmed as unblanked, word_of}
use Rattle.jsh_commands.specs.Commands.{act_of, alone, command as command_of, dropped, known, known_line, list, named, or_invalid}
use Rattle.jsh_cut.specs.declared.command.Command.{Command}
use Rattle.jsh_cut.specs.declared.command.Command.TheVariants.{Eval, Slash}
use Rattle.jsh_cut.specs.declared.held.Held.{Held}
use Rattle.jsh_cut.specs.declared.held.Held.TheVariants as held
use Rattle.jsh_cut.specs.Commands.{Gives, analyzed, by_act, by_command, by_kind, by_text, completion, cut_end, cut_line, is_command_line, submitted_before, ends_before, source_of, text_before, trimmed, waits}
use Rattle.jsh_core.specs.History.{IsTarget}
use Rattle.jsh_core.specs.Questions.{IsAnswered}
use Rattle.jsh_shell.specs.Serving.{IsServable}

one : (command : Command) → IsServable command → All IsServable (command ∷ [])
one command is = All-cons IsServable command [] is (All-nil IsServable)

before-line : (waiting : Held) (line : List ℕ) → All IsServable (submitted_before waiting line)
before-line held.Nothing line = All-nil IsServable
before-line (held.MayEnd text) line = by (ends_before line)
  where
    by : (ends : Bool) → All IsServable (if ends then Eval (source_of text) ∷ [] else [])
    by true = one (Eval (source_of text)) tt
    by false = All-nil IsServable
before-line (held.MustGoOn text) line = All-nil IsServable

-- what a command of a line may ask for
abbrev IsAllowed : Asked → Type 0
IsAllowed (asked.Drop target) = IsTarget target
IsAllowed (asked.Ask question) = IsAnswered question
IsAllowed _ = Unit {0}

abbrev AreAllowed : Option Asked → Type 0
AreAllowed found = IfSome found IsAllowed

alone-allowed : (this : Asked) (argument : List ℕ) → IsAllowed this → AreAllowed (alone this argument)
alone-allowed this [] is = is
alone-allowed this (c ∷ cs) is = tt

list-allowed : (argument : List ℕ) → AreAllowed (list argument)
list-allowed [] = tt
list-allowed (c ∷ cs) = by (bytes_eq (c ∷ cs) (codes "-all"))
  where
    by : (all : Bool) → AreAllowed (if all then Some (asked.Ask question.ListAll) else None)
    by true = tt
    by false = tt

named-allowed : (text : List ℕ) → AreAllowed (option_map asked.Drop (named text))
named-allowed text = by (is_identifier text) refl
  where
    by : (is : Bool) → is_identifier text ≡ is → AreAllowed (option_map asked.Drop (if is then Some (target.Named text) else None))
    by true e = e
    by false e = tt

dropped-allowed : (text : List ℕ) → AreAllowed (option_map asked.Drop (dropped text))
dropped-allowed text = by (number text) refl
  where
    by : (found : Option ℕ) → number text ≡ found → AreAllowed (option_map asked.Drop (dropped text))
    by (Some id) e = rw e tt
    by None e = rw e (named-allowed text)

known-allowed : (w : Word) (argument : List ℕ) → AreAllowed (known w argument)
known-allowed word.List argument = list-allowed argument
known-allowed word.Vars argument = alone-allowed (asked.Ask question.Vars) argument tt
known-allowed word.Methods argument = alone-allowed (asked.Ask question.Methods) argument tt
known-allowed word.Types argument = alone-allowed (asked.Ask question.Types) argument tt
known-allowed word.Imports argument = alone-allowed (asked.Ask question.Imports) argument tt
known-allowed word.Threads argument = alone-allowed (asked.Ask question.Threads) argument tt
known-allowed word.Help argument = alone-allowed (asked.Ask question.Help) argument tt
known-allowed word.Drop argument = dropped-allowed argument
known-allowed word.Stop argument = stop (number argument)
  where
    stop : (found : Option ℕ) → AreAllowed (option_map asked.Stop found)
    stop None = tt
    stop (Some run) = tt
known-allowed word.Reset argument = alone-allowed asked.Reset argument tt
known-allowed word.Exit argument = alone-allowed asked.Exit argument tt

or_invalid-allowed : (line : List ℕ) (found : Option Asked) → AreAllowed found → IsAllowed (or_invalid line found)
or_invalid-allowed line (Some this) is = is
or_invalid-allowed line None is = tt

line-allowed : (line : List ℕ) (found : Option Word) → AreAllowed (option_and_then (λ w. known w (argument line)) found)
line-allowed line None = tt
line-allowed line (Some w) = known-allowed w (argument line)

command-allowed : (line : List ℕ) → IsAllowed (command_of line)
unfolding command_of
command-allowed line = or_invalid-allowed (unblanked line) (known_line (unblanked line)) (line-allowed (unblanked line) (word_of (first_word (unblanked line))))

of-act : (this : Asked) → IsAllowed this → All IsServable (by_act (act_of this)).commands
of-act (asked.Drop target) is = one (Slash (act.Drop target)) is
of-act (asked.Stop run) is = one (Slash (act.Stop run)) tt
of-act asked.Reset is = one (Slash act.Reset) tt
of-act asked.Exit is = All-nil IsServable
of-act (asked.Ask question) is = one (Slash (act.Ask question)) is

of-command : (line : List ℕ) → All IsServable (by_command line).commands
of-command line = of-act (command_of (trimmed line)) (command-allowed (trimmed line))

of-waits : (waiting : Held) (source : List ℕ) → All IsServable (waits waiting source).commands
of-waits waiting source = by (nat_lt most_source (length source))
  where
    by : (long : Bool) → (let g : Gives = if long then record { commands = Eval source ∷ []; held = held.Nothing; exits = false } else record { commands = []; held = waiting; exits = false } in All IsServable g.commands)
    by true = one (Eval source) tt
    by false = All-nil IsServable

of-kind : (text : List ℕ) (onward : List ℕ → Gives) (kind : Completeness) → ((rest : List ℕ) → All IsServable (onward rest).commands) → All IsServable (by_kind text onward kind).commands
of-kind text onward completeness.Empty rest = All-nil IsServable
of-kind text onward completeness.Complete rest = All-cons IsServable _ _ tt (rest _)
of-kind text onward completeness.CompleteWithSemi rest = one (Eval (source_of text)) tt
of-kind text onward completeness.Unknown rest = one (Eval (source_of text)) tt
of-kind text onward completeness.ConsideredIncomplete rest = of-waits (held.MayEnd text) (source_of text)
of-kind text onward completeness.DefinitelyIncomplete rest = of-waits (held.MustGoOn text) (source_of text)

of-text : (most : ℕ) (text : List ℕ) → All IsServable (analyzed most text).commands
of-text zero text = All-nil IsServable
of-text (suc most) text = of-kind text (λ rest. analyzed most rest) (completion text).kind (λ rest. of-text most rest)

pub line-servable : (waiting : Held) (line : List ℕ) → All IsServable (cut_line waiting line).commands
unfolding cut_line
line-servable waiting line =
    All-append IsServable (submitted_before waiting line) _ (before-line waiting line) (by (is_command_line waiting line))
  where
    by : (own : Bool) → (let g : Gives = if own then by_command line else by_text (text_before waiting line ++ (line ++ 10 ∷ [])) in All IsServable g.commands)
    by true = of-command line
    by false = of-text (suc (length (text_before waiting line ++ (line ++ 10 ∷ [])))) (text_before waiting line ++ (line ++ 10 ∷ []))

pub end-servable : (waiting : Held) → All IsServable (cut_end waiting)
end-servable held.Nothing = All-nil IsServable
end-servable (held.MayEnd text) = one (Eval (source_of text)) tt
end-servable (held.MustGoOn text) = one (Eval (source_of text)) tt
