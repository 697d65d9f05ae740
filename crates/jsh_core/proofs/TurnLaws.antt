-- A turn, by any client: what it leaves as it was, and how far it goes.
use Rattle.std.proofs.Common.{◌≡◌, ◌≢◌, ℕ, zero, suc, ◌<◌, ◌≤◌, true, false, [], length, refl, ap, sym, subst, ◌∙◌, arith}
use Rattle.jsh_snippet.specs.declared.acts.Act.TheVariants as act
use Rattle.jsh_snippet.specs.declared.replies.ReplyBody.TheVariants as body
use Rattle.jsh_core.specs.State.{State, World, numbered}
use Rattle.jsh_core.specs.Threads.{can_go_on, turned, Turned}
use Rattle.jsh_core.specs.Step.{step}
use Rattle.jsh_core.specs.Causes.{GoesSoFar}
use Rattle.jsh_core.proofs.CauseLemmas.{Goes, goes, world_after-zero}
use Rattle.jsh_core.proofs.DeliveryLaws.{by}
use Rattle.jsh_core.proofs.ThreadLaws.{LeavesOthers, turned-leaves}
use Rattle.jsh_core.proofs.TurnLemmas.{turned-stuck}

-- what a turn leaves as it was
pub record LeavesByTurn (thread : ℕ) (s after : State) : Type 0 where
  pub book : after.book ≡ s.book
  pub generation : after.generation ≡ s.generation
  pub clients : after.clients ≡ s.clients
  pub runs : after.world.runs ≡ s.world.runs
  pub pending : after.world.pending ≡ s.world.pending
  pub states : length after.world.states ≡ length s.world.states
  pub threads : length after.world.threads ≡ length s.world.threads
  pub other_states : (other : ℕ) → other ≢ thread → numbered after.world.states other ≡ numbered s.world.states other
  pub other_threads : (other : ℕ) → other ≢ thread → numbered after.world.threads other ≡ numbered s.world.threads other

pub turn-leaves : (s : State) (client thread steps : ℕ) → LeavesByTurn thread s (step s (by client (act.Turn thread steps))).state
turn-leaves s client thread steps =
    let leaves : LeavesOthers thread s.world (turned thread steps s.world).world = turned-leaves thread steps s.world in
    record {
      book = refl;
      generation = refl;
      clients = refl;
      runs = leaves.runs;
      pending = leaves.pending;
      states = leaves.states;
      threads = leaves.threads;
      other_states = leaves.other_states;
      other_threads = leaves.other_threads;
    }

-- a turn of a thread that can't go on does nothing
pub turn-nothing : (s : State) (client thread steps : ℕ) → can_go_on s.world thread ≡ false →
    step s (by client (act.Turn thread steps)) ≡ record { state = s; reply = record { output = []; body = body.Turned 0 } }
turn-nothing s client thread steps stuck =
    ap (λ (t : Turned). record { state = record s { world = t.world }; reply = record { output = []; body = body.Turned t.steps } }) (turned-stuck thread steps s.world stuck)

-- one of a thread that can go on does a step or more, and fewer than were asked for only where it can't go on behind them
pub record GoesSome (s : State) (client thread steps : ℕ) : Type 0 where
  pub done : ℕ
  pub reply : (step s (by client (act.Turn thread steps))).reply.body ≡ body.Turned done
  pub some : 0 < done
  pub most : done ≤ steps
  pub stops : done < steps → can_go_on (step s (by client (act.Turn thread steps))).state.world thread ≡ false

pub turn-some : (s : State) (client thread steps : ℕ) → can_go_on s.world thread ≡ true → 0 < steps → GoesSome s client thread steps
turn-some s client thread steps ready asked = record {
  done = (turned thread steps s.world).steps;
  reply = refl;
  some = from (turned thread steps s.world).steps refl;
  most = h.far.within;
  stops = λ less. subst (λ (x : World). can_go_on x thread ≡ false) (sym h.world) (h.far.stops less);
}
  where
    h : Goes thread steps s.world (turned thread steps s.world)
    h = goes thread steps s.world

    from : (n : ℕ) → (turned thread steps s.world).steps ≡ n → 0 < (turned thread steps s.world).steps
    from zero is =
        let far : GoesSoFar thread steps s.world 0 = subst (λ n. GoesSoFar thread steps s.world n) is (goes thread steps s.world).far in
        let stuck : can_go_on s.world thread ≡ false = subst (λ (x : World). can_go_on x thread ≡ false) (world_after-zero thread s.world) (far.stops asked) in
        let both : true ≡ false = sym ready ∙ stuck in
        cc
    from (suc n) is = omega arith
