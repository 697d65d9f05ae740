-- The frames that are left do to the token what all of them do.
use Rattle.std.proofs.Common.{◌≤◌, length, take, reverse}
use Rattle.jsh_recognizer.proofs.Stepping.{SameSteps}
use Rattle.jsh_recognizer.proofs.recognizer.find.Given as goal

abbrev pub invariant-loop-left : goal.invariant-loop-left
invariant-loop-left l =
    (l.left ≤ length l.stack.items) ×
    SameSteps l.kind (reverse l.stack.items) (reverse (take l.left l.stack.items))

abbrev pub decreases-loop-left : goal.decreases-loop-left
decreases-loop-left l = l.left
