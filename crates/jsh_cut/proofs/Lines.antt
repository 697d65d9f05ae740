-- What one line more gives, case by case.
use Rattle.std.proofs.Common.{◌≡◌, ℕ, suc, ◌+◌, ◌≤◌, List, [], ◌∷◌, ◌++◌, length, Bool, true, false, refl, sym, arith, length-append}
use Rattle.std.specs.Prelude.{◌||◌, if◌then◌else◌, Option, None, Some}
use Rattle.jsh_snippet.specs.declared.acts.Act.{Act}
use Rattle.jsh_commands.specs.Commands.{command as command_of, act_of}
use Rattle.jsh_cut.specs.declared.command.Command.TheVariants as command
use Rattle.jsh_cut.specs.declared.held.Held.{Held}
use Rattle.jsh_cut.specs.declared.held.Held.TheVariants as held
use Rattle.jsh_cut.specs.Commands.{Gives, completion, nothing_more, source_of, by_text, with_command, held_text, is_command_line, is_slash_line, ends_before, text_before, trimmed, by_line, by_act, by_command, cut_line}
use Rattle.jsh_lines.specs.Lines.{is_blank}
use Rattle.jsh_complete.specs.declared.completion.Completeness.TheVariants as completeness
use Rattle.jsh_cut.proofs.Blanks.{blank_empty, blank_more}
use Rattle.jsh_cut.proofs.Cuttings.{held_analyzed, by_its_kind}

no_slash : (slash blank : Bool) → slash || blank ≡ false → slash ≡ false
no_slash false blank e = refl
no_slash true blank e = absurd cc

-- Nothing is held.
pub line_first : (line : List ℕ) → by_line line ≡ cut_line held.Nothing line
unfolding cut_line
line_first line = refl

pub line_text : (line : List ℕ) → ends_before line ≡ false → by_text (line ++ 10 ∷ []) ≡ by_line line
line_text line goes_on = let text_line : is_slash_line line ≡ false = no_slash (is_slash_line line) (is_blank line) goes_on in rw text_line

-- What is held ends before the line.
pub line_ends : (text line : List ℕ) → ends_before line ≡ true → with_command (command.Eval (source_of text)) (by_line line) ≡ cut_line (held.MayEnd text) line
unfolding cut_line
line_ends text line ends = rw ends

-- What may end goes on.
pub line_more : (text line : List ℕ) → ends_before line ≡ false → by_text (text ++ (line ++ 10 ∷ [])) ≡ cut_line (held.MayEnd text) line
unfolding cut_line
line_more text line goes_on =
    let text_line : is_slash_line line ≡ false = no_slash (is_slash_line line) (is_blank line) goes_on in
    rw (goes_on, text_line)

-- What must go on does.
pub line_on : (text line : List ℕ) → by_text (text ++ (line ++ 10 ∷ [])) ≡ cut_line (held.MustGoOn text) line
unfolding cut_line
line_on text line = refl

-- ---- what is held behind a line

held_if : (b : Bool) (x y : Gives) (n : ℕ) → length (held_text x.held) ≤ n → length (held_text y.held) ≤ n → length (held_text (if b then x else y).held) ≤ n
held_if true x y n p q = p
held_if false x y n p q = q

held_by_act : (what : Option Act) (n : ℕ) → length (held_text (by_act what).held) ≤ n
held_by_act None n = omega arith
held_by_act (Some what) n = omega arith

held_command : (line : List ℕ) (n : ℕ) → length (held_text (by_command line).held) ≤ n
held_command line n = held_by_act (act_of (command_of (trimmed line))) n

if_shorter : (b : Bool) (text : List ℕ) → length (if b then [] else text) ≤ length text
if_shorter true text = omega arith
if_shorter false text = omega arith

before_shorter : (before : Held) (line : List ℕ) → length (text_before before line) ≤ length (held_text before)
before_shorter held.Nothing line = omega arith
before_shorter (held.MayEnd text) line = if_shorter (ends_before line) text
before_shorter (held.MustGoOn text) line = omega arith

-- It is no longer than what was held, the line and its end.
pub held_behind : (before : Held) (line : List ℕ) → length (held_text (cut_line before line).held) ≤ length (held_text before) + length line + 1
unfolding cut_line
held_behind before line =
    let joined = text_before before line ++ (line ++ 10 ∷ []) in
    held_if (is_command_line before line) (by_command line) (by_text joined) _ (held_command line _)
    (omega (arith, held_analyzed (suc (length joined)) joined, before_shorter before line, length-append (text_before before line) (line ++ 10 ∷ []), length-append line (10 ∷ [])))

-- ---- a line of white space

other_way : (slash blank : Bool) → slash || blank ≡ true → slash ≡ false → blank ≡ true
other_way false blank e f = e
other_way true blank e f = absurd cc

-- It gives nothing.
pub line_blank : (line : List ℕ) → ends_before line ≡ true → is_slash_line line ≡ false → nothing_more ≡ by_line line
line_blank line ends text_line =
    let blank : is_blank line ≡ true = other_way (is_slash_line line) (is_blank line) ends text_line in
    let empty : (completion (line ++ 10 ∷ [])).kind ≡ completeness.Empty = blank_empty (line ++ 10 ∷ []) (blank_more line blank) in
    rw text_line (by_its_kind (line ++ 10 ∷ []) completeness.Empty nothing_more (sym empty) (λ onward. refl))
