use Rattle.std.proofs.Common.{◌≡◌, fold, take}
use Rattle.jsh_sum.specs.Sum.{value_with}
use Rattle.jsh_sum.proofs.value_of.Given as goal

abbrev pub invariant-loop-part : goal.invariant-loop-part
invariant-loop-part l = l.value ≡ fold value_with l.sum.first (take l.part-index l.sum.rest)
