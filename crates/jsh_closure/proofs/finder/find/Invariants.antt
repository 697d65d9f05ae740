use Rattle.std.proofs.Common.{◌+◌, not, length}
use Rattle.std.specs.List.{count_by}
use Rattle.jsh_closure.specs.Finding.{IsListing}
use Rattle.jsh_closure.proofs.finder.find.Given as goal

abbrev pub decreases-loop-place : goal.decreases-loop-place
decreases-loop-place l = length l.waiting.items + count_by not l.marks.items

abbrev pub invariant-loop-place : goal.invariant-loop-place
invariant-loop-place l = IsListing l.first l.edges l.marks.items l.waiting.items l.found.items
