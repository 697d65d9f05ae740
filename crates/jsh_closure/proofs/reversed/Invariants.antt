use Rattle.jsh_closure.specs.Reversals.{IsReversed}
use Rattle.jsh_closure.proofs.reversed.Given as goal

abbrev pub invariant-loop-place : goal.invariant-loop-place
invariant-loop-place l = IsReversed l.place l.edges l.back.items
