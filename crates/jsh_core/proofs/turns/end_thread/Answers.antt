-- The thread was one of the living.
use Rattle.std.proofs.Common.{◌≡◌, ◌-◌, Some, ap, ◌∙◌, arith, length-set, set}
use Rattle.std.specs.List.{slice_get}
use Rattle.std.proofs.lemmas.Option.{get_or_from_slice_get}
use Rattle.jsh_sched.specs.declared.ThreadState.TheVariants as thread_state
use Rattle.jsh_core.specs.declared.world.Thread.{Thread}
use Rattle.jsh_core.specs.Parts.{world_of}
use Rattle.jsh_core.specs.Threads.{thread_returned}
use Rattle.jsh_core.proofs.ListLemmas.{numbered-place}
use Rattle.jsh_core.proofs.WorldLemmas.{Ends, Ends-ready}
use Rattle.jsh_core.proofs.turns.end_thread.Goals as goal

pub overflow_sub-world : goal.overflow_sub-world
overflow_sub-world c =
    let ends : Ends c.args.world.now.states.items c.args.number = Ends-ready _ _ c.requires.ready in
    omega (arith, ends.alive, c.requires.world.alive)

pub returns-clause-after : goal.returns-clause-after
returns-clause-after c = λ t frame below there.
    let place : slice_get c.args.world.now.threads.items (c.args.number - 1) ≡ Some t = numbered-place c.args.world.now.threads.items c.args.number t there in
    let here : c.index_mut-2.result.now ≡ t = c.index_mut-2.ensures.value ∙ get_or_from_slice_get c.args.world.now.threads.items (c.args.number - 1) t c.index_mut-2.result.now place in
    ap (λ (x : Thread). record (world_of c.args.world.now) {
      states = set c.args.world.now.states.items (c.args.number - 1) thread_state.Ended;
      threads = set c.args.world.now.threads.items (c.args.number - 1) x;
    }) (c.return_text.ensures ∙ ap (λ (x : Thread). thread_returned x c.args.text) here)

pub returns-clause-world : goal.returns-clause-world
returns-clause-world c =
    let ends : Ends c.args.world.now.states.items c.args.number = Ends-ready _ _ c.requires.ready in
    record {
      states = simp length-set c.requires.world.states;
      alive = omega (arith, ends.fewer, ends.alive, c.requires.world.alive);
    }
