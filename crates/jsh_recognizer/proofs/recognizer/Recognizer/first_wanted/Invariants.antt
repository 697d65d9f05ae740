-- The frames that are left do to any token what all of them do.
use Rattle.std.proofs.Common.{◌≤◌, length, take, reverse}
use Rattle.jsh_tree.specs.declared.token.TokenKind.{TokenKind}
use Rattle.jsh_recognizer.proofs.Stepping.{SameSteps}
use Rattle.jsh_recognizer.proofs.recognizer.Recognizer.first_wanted.Given as goal

abbrev pub invariant-loop-left : goal.invariant-loop-left
invariant-loop-left l =
    (l.left ≤ length l.self.stack.items) ×
    ((k : TokenKind) → SameSteps k (reverse l.self.stack.items) (reverse (take l.left l.self.stack.items)))

abbrev pub decreases-loop-left : goal.decreases-loop-left
decreases-loop-left l = l.left
