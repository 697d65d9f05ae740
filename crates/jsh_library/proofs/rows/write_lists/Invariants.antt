use Rattle.std.proofs.Common.{◌≡◌, map, take}
use Rattle.jsh_library.specs.Made as spec
use Rattle.jsh_library.proofs.rows.write_lists.Given as goal

abbrev pub invariant-loop-list : goal.invariant-loop-list
invariant-loop-list l = l.all.items ≡ map spec.list_of (take l.list-index l.lists)
