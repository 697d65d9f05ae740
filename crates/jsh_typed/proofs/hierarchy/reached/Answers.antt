use Rattle.std.proofs.Common.{rules, arith}
use Rattle.jsh_typed.proofs.Reached.{at_start, one_more, whole}
use Rattle.jsh_typed.proofs.hierarchy.reached.Goals as goal

pub returns-then-is_same : goal.returns-then-is_same
returns-then-is_same c =
    whole c.args.hierarchy.now c.args.class.now c.loop-step._step c.loop-step.marks.items c.loop-step.invariant (search rules) (omega arith)

pub loop-step-preserved : goal.loop-step-preserved
loop-step-preserved c =
    one_more c.args.hierarchy.now c.args.class.now c.loop-step._step c.loop-step.marks.items c.in_ok-next.next.items c.loop-step.invariant (search rules)

pub loop-step-init : goal.loop-step-init
loop-step-init c = at_start c.args.hierarchy.now c.args.class.now c.in_ok-marks.marks.items (search rules)
