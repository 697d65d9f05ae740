-- What stopping threads keeps.
use Rattle.std.proofs.Common.{◌≡◌, ℕ, suc, ◌+◌, ◌-◌, ◌<◌, ◌≤◌, Bool, true, false, List, [], ◌∷◌, Option, None, Some, length, set, get_or, refl, ap, sym, ◌∙◌, arith}
use Rattle.std.specs.Prelude.{◌&&◌, if◌then◌else◌}
use Rattle.std.specs.List.{All, count_by}
use Rattle.std.specs.Option.{option_map_or}
use Rattle.std.proofs.lemmas.List.Elements.{All-cons, All-head, All-tail, All-set, All-get_or}
use Rattle.jsh_sched.specs.declared.ThreadState.{ThreadState}
use Rattle.jsh_sched.specs.declared.ThreadState.TheVariants as thread_state
use Rattle.jsh_sched.specs.ThreadState.{is_alive}
use Rattle.jsh_core.specs.declared.world.Thread.{Thread}
use Rattle.jsh_core.specs.State.{World, numbered}
use Rattle.jsh_core.specs.Threads.{is_owned, is_thread_alive, ended_by_stop, stop_thread, stopped_states, stopped_threads}
use Rattle.jsh_core.specs.Parts.{StepsAtMost}
use Rattle.jsh_core.proofs.ListLemmas.{HasNumber, HasNumber-of, count_by-set_fewer, numbered-at}

owned_ended : (owner : Option ℕ) (t : Thread) → is_owned owner (ended_by_stop t) ≡ is_owned owner t
owned_ended None t = refl
owned_ended (Some client) t = refl

owned_kept : (owner : Option ℕ) (t : Thread) (stops : Bool) → is_owned owner (if stops then ended_by_stop t else t) ≡ is_owned owner t
owned_kept owner t true = owned_ended owner t
owned_kept owner t false = refl

-- threads that were stopped belong to whom they belonged
pub stopped_states-ended : (owner : Option ℕ) (states : List ThreadState) (threads : List Thread) →
    stopped_states owner states (stopped_threads owner states threads) ≡ stopped_states owner states threads
stopped_states-ended owner [] [] = refl
stopped_states-ended owner [] (thread ∷ threads) = refl
stopped_states-ended owner (state ∷ states) [] = refl
stopped_states-ended owner (state ∷ states) (thread ∷ threads) =
    rw (owned_kept owner thread (is_alive state && is_owned owner thread), stopped_states-ended owner states threads) refl

pub length-stopped_states : (owner : Option ℕ) (states : List ThreadState) (threads : List Thread) → length (stopped_states owner states threads) ≡ length states
length-stopped_states owner [] [] = refl
length-stopped_states owner [] (thread ∷ threads) = refl
length-stopped_states owner (state ∷ states) [] = refl
length-stopped_states owner (state ∷ states) (thread ∷ threads) = ap suc (length-stopped_states owner states threads)

pub length-stopped_threads : (owner : Option ℕ) (states : List ThreadState) (threads : List Thread) → length (stopped_threads owner states threads) ≡ length threads
length-stopped_threads owner [] [] = refl
length-stopped_threads owner [] (thread ∷ threads) = refl
length-stopped_threads owner (state ∷ states) [] = refl
length-stopped_threads owner (state ∷ states) (thread ∷ threads) = ap suc (length-stopped_threads owner states threads)

abbrev Below : ℕ → Thread → Type 0
Below bound t = t.steps ≤ bound

steps_ended : (bound : ℕ) (t : Thread) (stops : Bool) → t.steps ≤ bound → (if stops then ended_by_stop t else t).steps ≤ bound
steps_ended bound t true h = h
steps_ended bound t false h = h

All-stopped : (bound : ℕ) (owner : Option ℕ) (states : List ThreadState) (threads : List Thread) → All (Below bound) threads → All (Below bound) (stopped_threads owner states threads)
All-stopped bound owner [] [] h = h
All-stopped bound owner [] (thread ∷ threads) h = h
All-stopped bound owner (state ∷ states) [] h = h
All-stopped bound owner (state ∷ states) (thread ∷ threads) h =
    All-cons (Below bound) _ (stopped_threads owner states threads)
    (steps_ended bound thread (is_alive state && is_owned owner thread) (All-head (Below bound) thread threads h))
    (All-stopped bound owner states threads (All-tail (Below bound) thread threads h))

-- stopping takes no step
pub StepsAtMost-stopped : (bound : ℕ) (owner : Option ℕ) (states : List ThreadState) (threads after : List Thread) → after ≡ stopped_threads owner states threads →
    StepsAtMost bound threads → StepsAtMost bound after
StepsAtMost-stopped bound owner states threads after is h =
    rw is (record { each = All-stopped bound owner states threads h.each })

-- nor does stopping one thread
pub StepsAtMost-ended : (bound : ℕ) (threads after : List Thread) (i : ℕ) (t d : Thread) → i < length threads → after ≡ set threads i t → t.steps ≡ (get_or threads i d).steps →
    StepsAtMost bound threads → StepsAtMost bound after
StepsAtMost-ended bound threads after i t d within is same h =
    let few : (get_or threads i d).steps ≤ bound = All-get_or (Below bound) threads i d within h.each in
    rw is (record { each = All-set (Below bound) threads i t (rw same few) h.each })

-- an alive thread is one of the living, and one fewer lives once it is stopped
pub record Stops (states : List ThreadState) (number : ℕ) : Type 0 where
  pub within : number - 1 < length states
  pub positive : 0 < number
  pub alive : 0 < count_by is_alive states
  pub fewer : count_by is_alive (set states (number - 1) thread_state.Stopped) + 1 ≡ count_by is_alive states

pub Stops-alive : (states : List ThreadState) (number : ℕ) → option_map_or is_alive (numbered states number) false ≡ true → Stops states number
Stops-alive states number alive = from (numbered states number) refl alive
  where
    from : (found : Option ThreadState) → numbered states number ≡ found → option_map_or is_alive found false ≡ true → Stops states number
    from None e r = cc
    from (Some s) e r =
        let there : HasNumber states number s = HasNumber-of states number s e in
        let less : count_by is_alive (set states (number - 1) thread_state.Stopped) + 1 ≡ count_by is_alive states =
        count_by-set_fewer is_alive states (number - 1) s thread_state.Stopped there.place r refl in
        record { within = there.within; positive = there.positive; alive = omega (arith, less); fewer = less }

-- the world after an alive thread is stopped
pub stop_thread-alive : (w : World) (number : ℕ) (t u : Thread) → is_thread_alive w number ≡ true → length w.states ≡ length w.threads →
    t ≡ get_or w.threads (number - 1) t → u ≡ ended_by_stop t →
    record w { states = set w.states (number - 1) thread_state.Stopped; threads = set w.threads (number - 1) u } ≡ stop_thread w number
stop_thread-alive w number t u alive beside there is =
    let stops : Stops w.states number = Stops-alive w.states number alive in
    let within : number - 1 < length w.threads = omega (arith, stops.within) in
    let found : numbered w.threads number ≡ Some t = numbered-at w.threads number t stops.positive within ∙ ap Some (sym there) in
    rw (alive, found, is) refl
