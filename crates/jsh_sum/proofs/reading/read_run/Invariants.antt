use Rattle.std.proofs.Common.{◌≡◌, Some, fold, take}
use Rattle.jsh_sum.specs.Reading.{begun, next}
use Rattle.jsh_sum.proofs.reading.read_run.Given as goal

abbrev pub invariant-loop-operation : goal.invariant-loop-operation
invariant-loop-operation l =
    Some (record { sum = record { first = l.first.value; rest = l.parts.items }; too_big = l.too_big.items })
    ≡ fold next (Some (begun l.first)) (take l.operation-index l.rest)
