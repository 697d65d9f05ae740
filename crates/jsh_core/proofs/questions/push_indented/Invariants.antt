use Rattle.std.proofs.Common.{◌≡◌, ◌++◌, take, flat_map}
use Rattle.jsh_core.specs.Questions.{further_line}
use Rattle.jsh_core.proofs.questions.push_indented.Given as goal

abbrev pub invariant-loop-unit : goal.invariant-loop-unit
invariant-loop-unit l = l.text ≡ l.initial.text ++ flat_map further_line (take l.unit-index l.unit-items)
