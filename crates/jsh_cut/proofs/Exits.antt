-- Of all commands the exit is the last.
use Rattle.std.proofs.Common.{◌≡◌, ℕ, zero, suc, Bool, true, false, not, ◌&&◌, nat_lt, List, [], ◌∷◌, ◌++◌, length, drop, map, refl, ap, ◌∙◌, append-nil}
use Rattle.std.specs.Prelude.{if◌then◌else◌, Option, None, Some}
use Rattle.jsh_tree.specs.Text.{most_source}
use Rattle.jsh_complete.specs.declared.completion.Completeness.{Completeness}
use Rattle.jsh_complete.specs.declared.completion.Completeness.TheVariants as completeness
use Rattle.jsh_lines.specs.Lines.{as_text, input_lines}
use Rattle.jsh_snippet.specs.declared.acts.Act.{Act}
use Rattle.jsh_commands.specs.Commands.{command as command_of, act_of}
use Rattle.jsh_cut.specs.declared.command.Command.{Command}
use Rattle.jsh_cut.specs.declared.command.Command.TheVariants as command
use Rattle.jsh_cut.specs.declared.held.Held.{Held}
use Rattle.jsh_cut.specs.declared.held.Held.TheVariants as held
use Rattle.jsh_cut.specs.Commands.{Gives, completion, source_of, submits, by_kind, analyzed, ends_before, submitted_before, is_command_line, text_before, trimmed, by_act, by_command, by_text, with_commands, cut_line, onward, cut_lines, cut_end, cut_input, before_exit, exits, commands, has_exit, without_exit}

-- ---- lists

none_more : (xs ys : List Command) → has_exit xs ≡ false → has_exit ys ≡ false → has_exit (xs ++ ys) ≡ false
none_more [] ys none nor = nor
none_more (command.Exit ∷ xs) ys none nor = absurd cc
none_more (command.Eval s ∷ xs) ys none nor = none_more xs ys none nor
none_more (command.Slash a ∷ xs) ys none nor = none_more xs ys none nor

none_dropped : (xs : List Command) → has_exit xs ≡ false → without_exit xs ≡ xs
none_dropped [] none = refl
none_dropped (command.Exit ∷ xs) none = absurd cc
none_dropped (command.Eval s ∷ xs) none = ap (λ (cs : List Command). command.Eval s ∷ cs) (none_dropped xs none)
none_dropped (command.Slash a ∷ xs) none = ap (λ (cs : List Command). command.Slash a ∷ cs) (none_dropped xs none)

last_dropped : (xs : List Command) → has_exit xs ≡ false → without_exit (xs ++ command.Exit ∷ []) ≡ xs
last_dropped [] none = refl
last_dropped (command.Exit ∷ xs) none = absurd cc
last_dropped (command.Eval s ∷ xs) none = ap (λ (cs : List Command). command.Eval s ∷ cs) (last_dropped xs none)
last_dropped (command.Slash a ∷ xs) none = ap (λ (cs : List Command). command.Slash a ∷ cs) (last_dropped xs none)

last_found : (xs : List Command) → has_exit (xs ++ command.Exit ∷ []) ≡ true
last_found [] = refl
last_found (command.Exit ∷ xs) = refl
last_found (command.Eval s ∷ xs) = last_found xs
last_found (command.Slash a ∷ xs) = last_found xs

-- ---- what lines give

none_waiting : (waiting : Held) (source : List ℕ) (long : Bool) →
    has_exit (if long then submits source else record { commands = []; held = waiting; exits = false }).commands ≡ false
none_waiting waiting source true = refl
none_waiting waiting source false = refl

none_by_kind : (text : List ℕ) (next : List ℕ → Gives) (kind : Completeness) → ((rest : List ℕ) → has_exit (next rest).commands ≡ false) →
    has_exit (by_kind text next kind).commands ≡ false
none_by_kind text next completeness.Empty later = refl
none_by_kind text next completeness.Complete later = later (drop (completion text).end text)
none_by_kind text next completeness.CompleteWithSemi later = refl
none_by_kind text next completeness.Unknown later = refl
none_by_kind text next completeness.ConsideredIncomplete later = none_waiting (held.MayEnd text) (source_of text) (nat_lt most_source (length (source_of text)))
none_by_kind text next completeness.DefinitelyIncomplete later = none_waiting (held.MustGoOn text) (source_of text) (nat_lt most_source (length (source_of text)))

none_analyzed : (most : ℕ) (text : List ℕ) → has_exit (analyzed most text).commands ≡ false
none_analyzed zero text = refl
none_analyzed (suc most) text = none_by_kind text (λ rest. analyzed most rest) (completion text).kind (λ rest. none_analyzed most rest)

none_if : (b : Bool) (x y : Gives) → has_exit x.commands ≡ false → has_exit y.commands ≡ false → has_exit (if b then x else y).commands ≡ false
none_if true x y none nor = none
none_if false x y none nor = nor

none_by_act : (what : Option Act) → has_exit (by_act what).commands ≡ false
none_by_act None = refl
none_by_act (Some what) = refl

none_by_command : (line : List ℕ) → has_exit (by_command line).commands ≡ false
none_by_command line = none_by_act (act_of (command_of (trimmed line)))

none_before : (before : Held) (line : List ℕ) → has_exit (submitted_before before line) ≡ false
none_before held.Nothing line = refl
none_before (held.MayEnd text) line = by (ends_before line)
  where
    by : (b : Bool) → has_exit (if b then command.Eval (source_of text) ∷ [] else []) ≡ false
    by true = refl
    by false = refl
none_before (held.MustGoOn text) line = refl

none_of_line : (before : Held) (line : List ℕ) → has_exit (cut_line before line).commands ≡ false
unfolding cut_line
none_of_line before line =
    let text = text_before before line ++ (line ++ 10 ∷ []) in
    none_more (submitted_before before line) _ (none_before before line)
    (none_if (is_command_line before line) (by_command line) (by_text text) (none_by_command line) (none_analyzed (suc (length text)) text))

none_onward : (gives : Gives) (next : Held → Gives) → has_exit gives.commands ≡ false → ((behind : Held) → has_exit (next behind).commands ≡ false) →
    has_exit (onward gives next).commands ≡ false
none_onward gives next none later =
    none_if gives.exits gives (with_commands gives.commands (next gives.held)) none (none_more gives.commands (next gives.held).commands none (later gives.held))

pub none_of_lines : (before : Held) (lines : List (List ℕ)) → has_exit (cut_lines before lines).commands ≡ false
none_of_lines before [] = refl
none_of_lines before (line ∷ lines) = none_onward (cut_line before line) (λ behind. cut_lines behind lines) (none_of_line before line) (λ behind. none_of_lines behind lines)

none_at_end : (before : Held) (b : Bool) → has_exit (if b then cut_end before else []) ≡ false
none_at_end held.Nothing true = refl
none_at_end (held.MayEnd text) true = refl
none_at_end (held.MustGoOn text) true = refl
none_at_end before false = refl

-- ---- all commands

pub none_before_exit : (bytes : List ℕ) (ended : Bool) → has_exit (before_exit bytes ended) ≡ false
none_before_exit bytes ended =
    let gives = cut_input bytes ended in
    none_more gives.commands (if ended && not gives.exits then cut_end gives.held else []) (none_of_lines held.Nothing (map as_text (input_lines bytes ended)))
    (none_at_end gives.held (ended && not gives.exits))

dropped_by : (cs : List Command) (b : Bool) → has_exit cs ≡ false → without_exit (cs ++ (if b then command.Exit ∷ [] else [])) ≡ cs
dropped_by cs true none = last_dropped cs none
dropped_by cs false none = ap without_exit (append-nil cs) ∙ none_dropped cs none

found_by : (cs : List Command) (b : Bool) → has_exit cs ≡ false → has_exit (cs ++ (if b then command.Exit ∷ [] else [])) ≡ b
found_by cs true none = last_found cs
found_by cs false none = ap has_exit (append-nil cs) ∙ none

-- without their exit they are those before it
pub without_exit-commands : (bytes : List ℕ) (ended : Bool) → without_exit (commands bytes ended) ≡ before_exit bytes ended
without_exit-commands bytes ended = dropped_by (before_exit bytes ended) (exits bytes ended) (none_before_exit bytes ended)

-- they have one once the input has ended, or a line exits
pub has_exit-commands : (bytes : List ℕ) (ended : Bool) → has_exit (commands bytes ended) ≡ exits bytes ended
has_exit-commands bytes ended = found_by (before_exit bytes ended) (exits bytes ended) (none_before_exit bytes ended)
