-- Nothing more need come of the frames before those that are left.
use Rattle.std.proofs.Common.{◌≡◌, ◌≤◌, length, take, reverse}
use Rattle.jsh_recognizer.specs.Machine.{may_all_stop}
use Rattle.jsh_recognizer.proofs.recognizer.Recognizer.is_whole.Given as goal

abbrev pub invariant-loop-left : goal.invariant-loop-left
invariant-loop-left l =
    (l.left ≤ length l.self.stack.items) ×
    (may_all_stop (reverse l.self.stack.items) ≡ may_all_stop (reverse (take l.left l.self.stack.items)))

abbrev pub decreases-loop-left : goal.decreases-loop-left
decreases-loop-left l = l.left
