-- What the lists come to once both were gone through.
use Rattle.std.proofs.Common.{◌≡◌, ◌∙◌, ap, arith, length, refl}
use Rattle.std.specs.Vec.{with_items}
use Rattle.std.proofs.lemmas.List.{with_items_is}
use Rattle.jsh_core.specs.Threads.{stopped_states, stopped_threads}
use Rattle.jsh_core.proofs.StopLemmas.{StepsAtMost-stopped, length-stopped_states, length-stopped_threads, stopped_states-ended}
use Rattle.jsh_core.proofs.stopping.stop_threads.Goals as goal

pub returns-clause-after : goal.returns-clause-after
returns-clause-after c =
    let ended : c.end_threads.new.threads ≡ stopped_threads c.args.owner c.args.world.now.states.items c.args.world.now.threads.items = cc in
    let threads : (with_items c.args.world.now.threads c.end_threads.new.threads).items ≡ c.end_threads.new.threads =
    with_items_is c.args.world.now.threads c.end_threads.new.threads
    (omega (arith, ap length ended, length-stopped_threads c.args.owner c.args.world.now.states.items c.args.world.now.threads.items)) in
    let stopped : c.stop_states.new.states ≡ stopped_states c.args.owner c.args.world.now.states.items c.end_threads.new.threads = cc in
    let same : c.stop_states.new.states ≡ stopped_states c.args.owner c.args.world.now.states.items c.args.world.now.threads.items =
    stopped ∙ ap (stopped_states c.args.owner c.args.world.now.states.items) ended ∙ stopped_states-ended c.args.owner c.args.world.now.states.items c.args.world.now.threads.items in
    let states : (with_items c.args.world.now.states c.stop_states.new.states).items ≡ c.stop_states.new.states =
    with_items_is c.args.world.now.states c.stop_states.new.states
    (omega (arith, ap length same, length-stopped_states c.args.owner c.args.world.now.states.items c.args.world.now.threads.items)) in
    rw (threads, states, ended, same) refl

pub returns-clause-steps : goal.returns-clause-steps
returns-clause-steps c =
    let ended : c.end_threads.new.threads ≡ stopped_threads c.args.owner c.args.world.now.states.items c.args.world.now.threads.items = cc in
    let threads : (with_items c.args.world.now.threads c.end_threads.new.threads).items ≡ c.end_threads.new.threads =
    with_items_is c.args.world.now.threads c.end_threads.new.threads
    (omega (arith, ap length ended, length-stopped_threads c.args.owner c.args.world.now.states.items c.args.world.now.threads.items)) in
    λ bound h. StepsAtMost-stopped bound c.args.owner c.args.world.now.states.items c.args.world.now.threads.items _ (threads ∙ ended) h
