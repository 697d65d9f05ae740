-- The frame that was read is the next of those that are left; where it passes, the others do what it did.
use Rattle.std.proofs.Common.{◌-◌, ◌≡◌, ◌∷◌, take, reverse, subst, arith}
use Rattle.jsh_recognizer.specs.declared.answer.Answer.{Answer}
use Rattle.jsh_recognizer.specs.Stacks.{frames_of}
use Rattle.jsh_recognizer.specs.Recognizing.{Meets}
use Rattle.jsh_recognizer.proofs.Stepping.{depth-read, next-of, same-past}
use Rattle.jsh_recognizer.proofs.recognizer.find.Goals as goal

pub step-requires : goal.step-requires
step-requires c =
    let near = depth-read _ (c.loop-left.left - 1) c.args.stack.now.items c.frame_at-depth.result c.requires (omega arith) c.frame_at-depth.ensures in
    omega (arith, near)

pub loop-left-preserved : goal.loop-left-preserved
loop-left-preserved c =
    let items = c.args.stack.now.items in
    let P : Answer → Type 0 = λ a. Meets c.frame_at-depth.result.0 c.frame_at-depth.result.1 c.args.kind (frames_of c.step.new.fresh) a in
    let next : reverse (take c.loop-left.left items) ≡ c.frame_at-depth.result ∷ reverse (take (c.loop-left.left - 1) items) =
    next-of items c.loop-left.left c.frame_at-depth.result c.loop-left-test.true c.loop-left.invariant.0 c.frame_at-depth.ensures in
    (omega arith, same-past c.args.kind _ _ _ c.frame_at-depth.result c.loop-left.invariant.1 next (subst P c.in-Passed.is c.step.ensures))
