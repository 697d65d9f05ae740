use Rattle.std.proofs.Common.{◌≡◌, map, take}
use Rattle.jsh_library.specs.Made as spec
use Rattle.jsh_library.proofs.rows.types.Given as goal

abbrev pub invariant-loop-row : goal.invariant-loop-row
invariant-loop-row l = l.all.items ≡ map spec.type_of (take l.row-index l.rows)
