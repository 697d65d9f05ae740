use Rattle.std.proofs.Common.{◌≡◌, ◌+◌, ◌≤◌, length, drop}
use denote.Text.{Utf8}
use denote.Shadow.{shadow}
use Rattle.std.specs.Str.{chars}
use Rattle.jsh_lex.specs.Chars.{begins}
use Rattle.jsh_lex.proofs.chars.strip.Given as goal

abbrev pub invariant-loop-spelling : goal.invariant-loop-spelling
invariant-loop-spelling l =
    shadow (Utf8 l.text) × (begins l.spelling (chars l.text) ≡ begins l.initial.spelling (chars l.initial.text))
    × (drop (length l.spelling) (chars l.text) ≡ drop (length l.initial.spelling) (chars l.initial.text)) × (length l.text + length l.initial.spelling ≤ length l.initial.text + length l.spelling)

abbrev pub decreases-loop-spelling : goal.decreases-loop-spelling
decreases-loop-spelling l = length l.spelling
