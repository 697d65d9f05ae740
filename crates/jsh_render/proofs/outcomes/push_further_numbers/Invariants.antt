use Rattle.std.proofs.Common.{◌≡◌, ◌++◌, take, flat_map}
use Rattle.jsh_render.specs.Outcomes.{further_number}
use Rattle.jsh_render.proofs.outcomes.push_further_numbers.Given as goal

abbrev pub invariant-loop-number : goal.invariant-loop-number
invariant-loop-number l = l.bytes.items ≡ l.initial.bytes.items ++ flat_map further_number (take l.number-index l.numbers)
