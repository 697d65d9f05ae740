use Rattle.std.proofs.Common.{◌≡◌, take, flat_map}
use Rattle.jsh_core.specs.Parts.{state_from}
use Rattle.jsh_core.specs.Questions.{variable_line}
use Rattle.jsh_core.proofs.questions.variable_lines.Given as goal

abbrev pub invariant-loop-live : goal.invariant-loop-live
invariant-loop-live l = l.lines.items ≡ flat_map (variable_line (state_from l.parts)) (take l.live-index l.parts.generation.live.items)
