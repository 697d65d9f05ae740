use Rattle.std.proofs.Common.{◌≡◌, false, take}
use Rattle.jsh_lines.specs.Lines.{has_line_feed}
use Rattle.jsh_lines.proofs.line_end.Given as goal

abbrev pub invariant-loop-at : goal.invariant-loop-at
invariant-loop-at l = has_line_feed (take l.at l.piece) ≡ false
