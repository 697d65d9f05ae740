-- An alive thread is stopped.
use Rattle.std.proofs.Common.{◌≡◌, true, arith}
use Rattle.std.proofs.lemmas.Grind.{common_steps}
use Rattle.jsh_core.specs.Threads.{is_thread_alive}
use Rattle.jsh_core.specs.Parts.{world_of}
use Rattle.jsh_core.proofs.StopLemmas.{Stops, Stops-alive, stop_thread-alive}
use Rattle.jsh_core.proofs.stopping.stop_thread.Goals as goal

pub overflow_sub-world : goal.overflow_sub-world
overflow_sub-world c =
    let alive : is_thread_alive (world_of c.args.world.now) c.args.number ≡ true = grind (arith, common_steps) in
    let stops : Stops c.args.world.now.states.items c.args.number = Stops-alive c.args.world.now.states.items c.args.number alive in
    omega (arith, stops.alive, c.requires.world.alive)

pub returns-clause-after : goal.returns-clause-after
returns-clause-after c =
    let alive : is_thread_alive (world_of c.args.world.now) c.args.number ≡ true = grind (arith, common_steps) in
    stop_thread-alive (world_of c.args.world.now) c.args.number _ _ alive c.requires.world.states c.index_mut-2.ensures.value c.end_by_stop.ensures

pub returns-clause-world : goal.returns-clause-world
returns-clause-world c =
    let alive : is_thread_alive (world_of c.args.world.now) c.args.number ≡ true = grind (arith, common_steps) in
    let stops : Stops c.args.world.now.states.items c.args.number = Stops-alive c.args.world.now.states.items c.args.number alive in
    record { states = grind (arith, common_steps); alive = omega (arith, stops.fewer, c.requires.world.alive) }
