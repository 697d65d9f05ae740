use Rattle.std.proofs.Common.{◌≡◌, ◌≤◌, length}
use denote.Text.{Utf8}
use denote.Shadow.{shadow}
use Rattle.std.specs.Str.{chars}
use Rattle.jsh_lex.specs.Lexis.{behind_comment}
use Rattle.jsh_lex.proofs.chars.behind_comment.Given as goal

abbrev pub invariant-loop-rest : goal.invariant-loop-rest
invariant-loop-rest l =
    shadow (Utf8 l.text) × (behind_comment (chars l.text) ≡ behind_comment (chars l.initial.text)) × (length l.text ≤ length l.initial.text)

abbrev pub decreases-loop-rest : goal.decreases-loop-rest
decreases-loop-rest l = length l.text
