use Rattle.std.proofs.Common.{◌≡◌, false, length}
use denote.Text.{Utf8}
use denote.Shadow.{shadow}
use Rattle.std.specs.Str.{chars}
use Rattle.jsh_lex.specs.Literal.{escapes_hold}
use Rattle.jsh_lex.proofs.literal.escapes_hold.Given as goal

abbrev pub invariant-loop-c : goal.invariant-loop-c
invariant-loop-c l =
    shadow (Utf8 l.content) × (escapes_hold l.escaped (chars l.content) ≡ escapes_hold false (chars l.initial.content))

abbrev pub decreases-loop-c : goal.decreases-loop-c
decreases-loop-c l = length l.content
