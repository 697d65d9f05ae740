use Rattle.std.proofs.Common.{◌≡◌, ◌++◌, take, flat_map}
use Rattle.jsh_render.specs.Texts.{answer_line}
use Rattle.jsh_render.proofs.push_lines.Given as goal

abbrev pub invariant-loop-line : goal.invariant-loop-line
invariant-loop-line l = l.bytes.items ≡ l.initial.bytes.items ++ flat_map answer_line (take l.line-index l.lines)
