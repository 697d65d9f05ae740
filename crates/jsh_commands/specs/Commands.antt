-- What a line asks for that is a command.
use Rattle.std.specs.Prelude.{ℕ, List, [], Option, None, Some, option_map, codes, if◌then◌else◌}
use Rattle.std.specs.Option.{option_and_then}
use Rattle.std.specs.Str.{bytes_eq}
use Rattle.jsh_lex.specs.Spelling.{is_identifier}
use Rattle.jsh_snippet.specs.declared.acts.Act.{Act}
use Rattle.jsh_snippet.specs.declared.acts.Act.TheVariants as act
use Rattle.jsh_snippet.specs.declared.acts.Question.TheVariants as question
use Rattle.jsh_snippet.specs.declared.acts.Target.{Target}
use Rattle.jsh_snippet.specs.declared.acts.Target.TheVariants as target
use Rattle.jsh_commands.specs.declared.commands.Command.{Command}
use Rattle.jsh_commands.specs.declared.commands.Command.TheVariants.{Drop, Stop, Reset, Exit, Ask}
use Rattle.jsh_commands.specs.declared.words.Word.{Word}
use Rattle.jsh_commands.specs.declared.words.Word.TheVariants as word
use Rattle.jsh_commands.specs.Words.{trimmed, first_word, argument, word_of}
use Rattle.jsh_commands.specs.Numbers.{number}

-- a command that nothing follows
abbrev pub alone : Command → List ℕ → Option Command
alone this [] = Some this
alone this _ = None

-- `/list`, and `/list -all`
abbrev pub list : List ℕ → Option Command
list [] = Some (Ask question.List)
list argument = if bytes_eq argument (codes "-all") then Some (Ask question.ListAll) else None

-- the live declaration of a name, where the text is one
abbrev pub named : List ℕ → Option Target
named text = if is_identifier text then Some (target.Named text) else None

-- what a number or a name says to drop
abbrev pub dropped : List ℕ → Option Target
dropped text = by (number text)
  where
    by : Option ℕ → Option Target
    by (Some id) = Some (target.Id id)
    by None = named text

-- the command of a word and what follows it, if there is one
abbrev pub known : Word → List ℕ → Option Command
known word.List argument = list argument
known word.Vars argument = alone (Ask question.Vars) argument
known word.Methods argument = alone (Ask question.Methods) argument
known word.Types argument = alone (Ask question.Types) argument
known word.Imports argument = alone (Ask question.Imports) argument
known word.Threads argument = alone (Ask question.Threads) argument
known word.Help argument = alone (Ask question.Help) argument
known word.Drop argument = option_map Drop (dropped argument)
known word.Stop argument = option_map Stop (number argument)
known word.Reset argument = alone Reset argument
known word.Exit argument = alone Exit argument

-- the command of a line that begins with its first word, if it has one
abbrev pub known_line : List ℕ → Option Command
known_line line = option_and_then (λ word. known word (argument line)) (word_of (first_word line))

-- any other line is asked for as it stands
abbrev pub or_invalid : List ℕ → Option Command → Command
or_invalid line (Some this) = this
or_invalid line None = Ask (question.Invalid line)

-- the command of a line
unfoldable pub command : List ℕ → Command
command line = or_invalid (trimmed line) (known_line (trimmed line))

-- the act that a command asks the engine for; the exit asks for none
abbrev pub act_of : Command → Option Act
act_of (Drop target) = Some (act.Drop target)
act_of (Stop run) = Some (act.Stop run)
act_of Reset = Some act.Reset
act_of Exit = None
act_of (Ask question) = Some (act.Ask question)
