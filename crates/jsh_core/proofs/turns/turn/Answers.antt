-- Step by step, the turn goes on.
use Rattle.std.proofs.Common.{◌≡◌, ◌≤◌, ◌+◌, ◌^◌, ℕ, ap, sym, subst, ◌∙◌, arith}
use Rattle.jsh_core.specs.Parts.{world_of, StepsAtMost}
use Rattle.jsh_core.specs.State.{World}
use Rattle.jsh_core.specs.Threads.{turned, Turned}
use Rattle.jsh_core.proofs.Bounds.{StepsAtMost-weaker}
use Rattle.jsh_core.proofs.StepBounds.{turned-further, IsFurther}
use Rattle.jsh_core.proofs.TurnLemmas.{GoesOn-start, GoesOn-more, GoesOn-done, GoesOn-stuck}
use Rattle.jsh_core.proofs.turns.turn.Goals as goal

pub loop-done-init : goal.loop-done-init
loop-done-init c = record {
  within = omega arith;
  world = c.requires.world;
  goes_on = GoesOn-start _ _;
}

pub step-requires-clause-few : goal.step-requires-clause-few
step-requires-clause-few c =
    let so_far : ◌≡◌ {A = Turned} (record { world = world_of c.loop-done.world; steps = c.loop-done.done }) (turned c.args.number c.loop-done.done (world_of c.args.world.now)) =
    GoesOn-done _ _ _ _ c.loop-done.invariant.goes_on in
    let further : IsFurther c.loop-done.done (world_of c.args.world.now) (turned c.args.number c.loop-done.done (world_of c.args.world.now)).world =
    turned-further c.args.number c.loop-done.done (world_of c.args.world.now) in
    let few : StepsAtMost (2 ^ 62 + c.loop-done.done) (turned c.args.number c.loop-done.done (world_of c.args.world.now)).world.threads = further.bound (2 ^ 62) c.requires.few in
    let wide : 2 ^ 62 + c.loop-done.done ≤ 2 ^ 63 = omega arith in
    StepsAtMost-weaker _ _ _ wide (subst (λ (t : Turned). StepsAtMost (2 ^ 62 + c.loop-done.done) t.world.threads) (sym so_far) few)

pub returns-in-Err-clause-err : goal.returns-in-Err-clause-err
returns-in-Err-clause-err c =
    ap (λ (w : World). record { world = w; steps = c.loop-done.done }) c.in-Err.ensures.err
    ∙ GoesOn-done _ _ _ _ c.loop-done.invariant.goes_on

pub loop-done-preserved : goal.loop-done-preserved
loop-done-preserved c = record {
  within = omega arith;
  world = c.step.ensures.world;
  goes_on = GoesOn-more _ _ _ _ _ (sym c.is_ready_at.ensures ∙ c.if-is_ready_at.true) c.in-Ok.ensures.ok c.loop-done.invariant.goes_on;
}

pub returns-else-is_ready_at-clause-ok : goal.returns-else-is_ready_at-clause-ok
returns-else-is_ready_at-clause-ok c =
    GoesOn-stuck _ _ _ _ _ c.loop-done.invariant.within (sym c.is_ready_at.ensures ∙ c.if-is_ready_at.false) c.loop-done.invariant.goes_on

pub returns-after-loop-done-clause-ok : goal.returns-after-loop-done-clause-ok
returns-after-loop-done-clause-ok c =
    let all : c.loop-done.done ≡ c.args.most = omega arith in
    subst (λ (n : ℕ). ◌≡◌ {A = Turned} (record { world = world_of c.loop-done.world; steps = c.loop-done.done }) (turned c.args.number n (world_of c.args.world.now))) all
    (GoesOn-done _ _ _ _ c.loop-done.invariant.goes_on)
