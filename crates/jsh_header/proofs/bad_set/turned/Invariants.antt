use Rattle.std.proofs.Common.{◌≡◌, map, not, take}
use Rattle.jsh_header.proofs.bad_set.turned.Given as goal

abbrev pub invariant-loop-mark : goal.invariant-loop-mark
invariant-loop-mark l = l.turned.items ≡ map not (take l.mark-index l.marks)
