use Rattle.std.proofs.Common.{take}
use Rattle.jsh_closure.specs.Reversals.{Appends}
use Rattle.jsh_closure.proofs.append_all.Given as goal

abbrev pub invariant-loop-target : goal.invariant-loop-target
invariant-loop-target l = Appends (take l.target-index l.targets) l.place l.initial.edges.items l.edges.items
