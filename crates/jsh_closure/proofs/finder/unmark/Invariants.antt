use Rattle.std.proofs.Common.{drop}
use Rattle.jsh_closure.specs.Finding.{MarksOnly}
use Rattle.jsh_closure.proofs.finder.unmark.Given as goal

abbrev pub invariant-loop-place : goal.invariant-loop-place
invariant-loop-place l = MarksOnly (drop l.place-index l.places) l.marks.items
