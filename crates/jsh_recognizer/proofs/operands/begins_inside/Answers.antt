-- The frames behind are put first, and then the operand's own in front of them.
use Rattle.std.proofs.Common.{ℕ, ◌+◌, ◌≡◌, subst, arith}
use Rattle.jsh_recognizer.specs.Machine as machine
use Rattle.jsh_recognizer.specs.Stacks.{frames_of, Does}
use Rattle.jsh_recognizer.proofs.Inside.{does-inside}
use Rattle.jsh_recognizer.proofs.operands.begins_inside.Goals as goal

pub returns : goal.returns
returns c =
    let same : c.from.result ≡ c.args.deeper = omega arith in
    let P : ℕ → Type 0 = λ n. Does (c.args.depth + n) (machine.begins c.args.context c.args.kind) (frames_of c.put_all.new.fresh)
    (frames_of c.begins-answer.new.fresh) c.begins-answer.result in
    does-inside c.args.depth c.args.deeper c.args.more.now (machine.begins c.args.context c.args.kind) (frames_of c.args.fresh.now)
    (frames_of c.put_all.new.fresh) (frames_of c.begins-answer.new.fresh) c.begins-answer.result c.closed.result c.put_all.ensures.frames
    (subst P same c.begins-answer.ensures) c.closed.ensures
