use Rattle.std.proofs.Common.{◌≡◌, false, length}
use denote.Text.{Utf8}
use denote.Shadow.{shadow}
use Rattle.std.specs.Str.{chars}
use Rattle.jsh_lex.specs.Number.{is_float}
use Rattle.jsh_lex.proofs.number.is_float.Given as goal

abbrev pub invariant-loop-c : goal.invariant-loop-c
invariant-loop-c l = shadow (Utf8 l.text) × (is_float l.after_digit (chars l.text) ≡ is_float false (chars l.initial.text))

abbrev pub decreases-loop-c : goal.decreases-loop-c
decreases-loop-c l = length l.text
