use Rattle.std.proofs.Common.{◌≡◌, length}
use denote.Text.{Utf8}
use denote.Shadow.{shadow}
use Rattle.std.specs.List.{list_all}
use Rattle.std.specs.Str.{chars}
use Rattle.jsh_lex.specs.Chars.{is_identifier_part}
use Rattle.jsh_lex.proofs.word.are_identifier_parts.Given as goal

abbrev pub invariant-loop-c : goal.invariant-loop-c
invariant-loop-c l =
    shadow (Utf8 l.text) × (list_all is_identifier_part (chars l.text) ≡ list_all is_identifier_part (chars l.initial.text))

abbrev pub decreases-loop-c : goal.decreases-loop-c
decreases-loop-c l = length l.text
