use Rattle.std.proofs.Common.{take}
use Rattle.jsh_closure.specs.Searches.{Adds}
use Rattle.jsh_closure.proofs.add.Given as goal

abbrev pub invariant-loop-place : goal.invariant-loop-place
invariant-loop-place l = Adds (take l.place-index l.places) l.initial.marks.items l.initial.waiting.items l.marks.items l.waiting.items
