-- What was made, with the text of the bytes that are left, is the text of the line.
use Rattle.std.proofs.Common.{◌≡◌, ◌++◌, ◌-◌, ◌≤◌, length, drop}
use Rattle.std.specs.String.{string_bytes}
use Rattle.jsh_lines.specs.Lines.{as_text}
use Rattle.jsh_lines.proofs.text_of.Given as goal

abbrev pub invariant-loop-at : goal.invariant-loop-at
invariant-loop-at l = record {
  within : l.at ≤ length l.line;
  so_far : string_bytes l.text ++ as_text (drop l.at l.line) ≡ as_text l.line;
}

abbrev pub decreases-loop-at : goal.decreases-loop-at
decreases-loop-at l = length l.line - l.at
