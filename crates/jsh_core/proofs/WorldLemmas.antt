-- How a visible step changes the lists of a world.
use Rattle.std.proofs.Common.{◌≡◌, ℕ, ◌+◌, ◌-◌, ◌<◌, ◌≤◌, true, false, List, Option, None, Some, length, set, get_or, refl, subst, arith}
use Rattle.std.specs.List.{count_by, slice_get}
use Rattle.std.specs.Option.{option_map_or}
use Rattle.std.proofs.lemmas.Option.{get_or_from_slice_get, slice_get_within}
use Rattle.jsh_sched.specs.declared.ThreadState.{ThreadState}
use Rattle.jsh_sched.specs.declared.ThreadState.TheVariants as thread_state
use Rattle.jsh_sched.specs.ThreadState.{is_ready, is_alive}
use Rattle.jsh_core.specs.declared.world.Thread.{Thread}
use Rattle.jsh_core.specs.State.{numbered}
use Rattle.jsh_core.specs.Parts.{StepsAtMost}
use Rattle.jsh_core.proofs.Bounds.{StepsAtMost-set, StepsAtMost-at}
use Rattle.jsh_core.proofs.ListLemmas.{count_by-set_fewer, numbered-place}

-- a thread that has done one step more
pub StepsAtMost-stepped : (bound : ℕ) (ts us : List Thread) (number : ℕ) (t after : Thread) → numbered ts number ≡ Some t →
    us ≡ set ts (number - 1) after → after.steps ≡ t.steps + 1 → StepsAtMost bound ts → StepsAtMost (bound + 1) us
StepsAtMost-stepped bound ts us number t after there is more h =
    let place : slice_get ts (number - 1) ≡ Some t = numbered-place ts number t there in
    let within : number - 1 < length ts = slice_get_within ts (number - 1) t place in
    let same : get_or ts (number - 1) t ≡ t = get_or_from_slice_get ts (number - 1) t t place in
    let low : (get_or ts (number - 1) t).steps ≤ bound = StepsAtMost-at bound ts (number - 1) t within h in
    let few : t.steps ≤ bound = subst (λ (x : Thread). x.steps ≤ bound) same low in
    let enough : after.steps ≤ bound + 1 = omega arith in
    StepsAtMost-set bound ts us (number - 1) after is enough h

-- a ready thread is one of the living, and one fewer lives after its end
pub record Ends (states : List ThreadState) (number : ℕ) : Type 0 where
  pub alive : 0 < count_by is_alive states
  pub fewer : count_by is_alive (set states (number - 1) thread_state.Ended) + 1 ≡ count_by is_alive states

-- a thread that can go on is alive
pub ready_lives : (state : ThreadState) → is_ready state ≡ true → is_alive state ≡ true
ready_lives thread_state.Ready e = refl
ready_lives (thread_state.Joining other) e = cc
ready_lives thread_state.Ended e = cc
ready_lives thread_state.Stopped e = cc

pub Ends-ready : (states : List ThreadState) (number : ℕ) → option_map_or is_ready (numbered states number) false ≡ true → Ends states number
Ends-ready states number ready = from (numbered states number) refl ready
  where
    from : (found : Option ThreadState) → numbered states number ≡ found → option_map_or is_ready found false ≡ true → Ends states number
    from None e r = cc
    from (Some s) e r =
        let less : count_by is_alive (set states (number - 1) thread_state.Ended) + 1 ≡ count_by is_alive states =
        count_by-set_fewer is_alive states (number - 1) s thread_state.Ended (numbered-place states number s e) (ready_lives s r) refl in
        record { alive = omega (arith, less); fewer = less }
