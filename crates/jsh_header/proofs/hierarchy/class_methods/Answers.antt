use Rattle.std.proofs.Common.{◌≡◌, ℕ, ◌++◌, List, Option, length, sym, ◌∙◌, ap, arith, rules}
use Rattle.jsh_header.specs.declared.outlines.Outline.{Outline}
use Rattle.jsh_header.specs.SuperRules.{methods_at, class_methods}
use Rattle.jsh_header.proofs.Positions.{class_step, class_done, class_end}
use Rattle.jsh_header.proofs.hierarchy.class_methods.Goals as goal

pub loop-step-preserved : goal.loop-step-preserved
loop-step-preserved c =
    let types = c.args.types.now in
    class_step types (length types) c.loop-step._step c.in-Some.place c.loop-step.methods.items c.push_methods_at.new.methods.items _ c.loop-step.next c.superclass_at-next.result
    (omega (arith, c.loop-step-test.true)) c.in-Some.is
    (c.in_ok-push_methods_at.ensures ∙ ap (λ (of : Option Outline). c.loop-step.methods.items ++ methods_at of) c.outline_at.ensures)
    c.superclass_at-next.ensures c.loop-step.invariant

pub returns-in_default : goal.returns-in_default
unfolding class_methods
returns-in_default c =
    let types = c.args.types.now in
    class_done types _ c.loop-step.methods.items _ c.loop-step.next (search rules) c.loop-step.invariant

pub returns : goal.returns
unfolding class_methods
returns c =
    let types = c.args.types.now in
    class_end types (length types) c.loop-step._step c.loop-step.methods.items _ c.loop-step.next (omega (arith, c.loop-step-test.false)) c.loop-step.invariant
