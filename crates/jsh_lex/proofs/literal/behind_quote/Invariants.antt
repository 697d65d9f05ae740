use Rattle.std.proofs.Common.{◌≡◌, ◌≤◌, false, length}
use denote.Text.{Utf8}
use denote.Shadow.{shadow}
use Rattle.std.specs.Str.{chars}
use Rattle.jsh_lex.specs.Literal.{behind_quote}
use Rattle.jsh_lex.proofs.literal.behind_quote.Given as goal

abbrev pub invariant-loop-c : goal.invariant-loop-c
invariant-loop-c l =
    shadow (Utf8 l.text) × (behind_quote l.quote l.escaped (chars l.text) ≡ behind_quote l.quote false (chars l.initial.text))
    × (length l.text ≤ length l.initial.text)

abbrev pub decreases-loop-c : goal.decreases-loop-c
decreases-loop-c l = length l.text
