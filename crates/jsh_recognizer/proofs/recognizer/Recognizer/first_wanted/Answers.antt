-- The frame that was read is the next of those that are left; where it takes nothing, the others do what it did.
use Rattle.std.proofs.Common.{◌-◌, ◌≡◌, ◌∷◌, take, reverse, arith}
use Rattle.jsh_recognizer.proofs.Stepping.{next-of, same-past, wanted-found, none-left}
use Rattle.jsh_recognizer.proofs.recognizer.Recognizer.first_wanted.Goals as goal

pub returns-in-Some : goal.returns-in-Some
returns-in-Some c =
    let items = c.args.self.now.stack.items in
    let next : reverse (take c.loop-left.left items) ≡ c.frame_at-frame.result ∷ reverse (take (c.loop-left.left - 1) items) =
    next-of items c.loop-left.left c.frame_at-frame.result c.loop-left-test.true c.loop-left.invariant.0 c.frame_at-frame.ensures in
    wanted-found c.in-Some.kind _ _ _ c.frame_at-frame.result (c.loop-left.invariant.1 c.in-Some.kind) next c.in-Some.ensures

pub loop-left-preserved : goal.loop-left-preserved
loop-left-preserved c =
    let items = c.args.self.now.stack.items in
    let next : reverse (take c.loop-left.left items) ≡ c.frame_at-frame.result ∷ reverse (take (c.loop-left.left - 1) items) =
    next-of items c.loop-left.left c.frame_at-frame.result c.loop-left-test.true c.loop-left.invariant.0 c.frame_at-frame.ensures in
    (omega arith, λ k. same-past k _ _ _ c.frame_at-frame.result (c.loop-left.invariant.1 k) next (c.in_default.ensures k))

pub returns : goal.returns
returns c = none-left c.args.self.now.stack.items c.loop-left.left c.loop-left-test.false c.loop-left.invariant.1
