-- On sums each thread is ready before its first or its second step, or has returned, or was stopped.
use Rattle.std.proofs.Common.{◌≡◌, ℕ, zero, suc, ◌-◌, ◌<◌, Bool, true, false, List, [], ◌∷◌, ◌++◌, Option, None, Some, length, set, refl, ap, sym, subst, ◌∙◌, arith, cond}
use Rattle.std.specs.Prelude.{◌&&◌}
use Rattle.std.specs.List.{slice_get}
use Rattle.std.specs.Fmt.{signed_decimal}
use Rattle.std.specs.Option.{option_map_or}
use Rattle.jsh_sched.specs.declared.ThreadState.{ThreadState}
use Rattle.jsh_sched.specs.declared.ThreadState.TheVariants as thread_state
use Rattle.jsh_sched.specs.ThreadState.{is_alive, is_ready}
use Rattle.jsh_sum.specs.Sum.{value_of}
use Rattle.jsh_core.specs.declared.world.Body.{Body}
use Rattle.jsh_core.specs.declared.world.Thread.{Thread}
use Rattle.jsh_core.specs.declared.world.ThreadEnd.TheVariants as thread_end
use Rattle.jsh_core.specs.State.{World, numbered}
use Rattle.jsh_core.specs.Snippets.{main_thread}
use Rattle.jsh_core.specs.Threads.{can_go_on, ended_by_stop, frames_step, is_owned, performed, stepped, stop_thread, stopped_states, stopped_threads, thread_answered, thread_returned, thread_step, turned, Turned}
use Rattle.jsh_core.specs.Threads.Next.{Sets, Returns}
use Rattle.jsh_core.proofs.ThreadLaws.{StopsThread, frame_answered, frame_begun, ready-at, view-stop_thread}
use Rattle.jsh_core.proofs.ThreadLaws.StopsThread.{idle, missing, stops}
use Rattle.jsh_core.proofs.TurnLemmas.{turned-stuck, turned-suc, turned-zero}
use Rattle.jsh_core.proofs.ListLemmas.{numbered-place}

-- how far a thread can be
pub data IsOnSum (state : ThreadState) (t : Thread) : Type 0 where
  begun : (what : Body) → state ≡ thread_state.Ready → t.steps ≡ 0 → t.frames ≡ frame_begun what ∷ [] → t.end ≡ None → IsOnSum state t
  answered : (what : Body) → state ≡ thread_state.Ready → t.steps ≡ 1 → t.frames ≡ frame_answered what ∷ [] → t.end ≡ None → IsOnSum state t
  returned : (text : List ℕ) → state ≡ thread_state.Ended → t.steps ≡ 2 → t.frames ≡ [] → t.end ≡ Some (thread_end.Returned (Some text)) → IsOnSum state t
  stopped : state ≡ thread_state.Stopped → t.steps < 2 → t.frames ≡ [] → t.end ≡ Some thread_end.Stopped → IsOnSum state t

-- each thread has a state, and is so far
abbrev pub AreOnSums : List ThreadState → List Thread → Type 0
AreOnSums [] [] = Unit {0}
AreOnSums [] (t ∷ threads) = ⊥
AreOnSums (state ∷ states) [] = ⊥
AreOnSums (state ∷ states) (t ∷ threads) = IsOnSum state t × AreOnSums states threads

pub sums-lengths : (states : List ThreadState) (threads : List Thread) → AreOnSums states threads → length states ≡ length threads
sums-lengths [] [] sums = refl
sums-lengths [] (t ∷ threads) sums = absurd sums
sums-lengths (state ∷ states) [] sums = absurd sums
sums-lengths (state ∷ states) (t ∷ threads) sums = ap suc (sums-lengths states threads sums.1)

sums-place : (states : List ThreadState) (threads : List Thread) (i : ℕ) (state : ThreadState) (t : Thread) → AreOnSums states threads →
    slice_get states i ≡ Some state → slice_get threads i ≡ Some t → IsOnSum state t
sums-place [] threads i state t sums state_is thread_is = cc
sums-place (x ∷ states) [] i state t sums state_is thread_is = cc
sums-place (x ∷ states) (y ∷ threads) zero state t sums state_is thread_is =
    let state_same : x ≡ state = cc in
    let thread_same : y ≡ t = cc in
    subst (λ (a : ThreadState). IsOnSum a t) state_same (subst (λ (b : Thread). IsOnSum x b) thread_same sums.0)
sums-place (x ∷ states) (y ∷ threads) (suc i) state t sums state_is thread_is = sums-place states threads i state t sums.1 state_is thread_is

-- the thread with this number
pub sums-at : (states : List ThreadState) (threads : List Thread) (number : ℕ) (state : ThreadState) (t : Thread) → AreOnSums states threads →
    numbered states number ≡ Some state → numbered threads number ≡ Some t → IsOnSum state t
sums-at states threads number state t sums state_is thread_is =
    sums-place states threads (number - 1) state t sums (numbered-place states number state state_is) (numbered-place threads number t thread_is)

pub sums-push : (states : List ThreadState) (threads : List Thread) (state : ThreadState) (t : Thread) → AreOnSums states threads → IsOnSum state t →
    AreOnSums (states ++ state ∷ []) (threads ++ t ∷ [])
sums-push [] [] state t sums new = (new, tt)
sums-push [] (y ∷ threads) state t sums new = absurd sums
sums-push (x ∷ states) [] state t sums new = absurd sums
sums-push (x ∷ states) (y ∷ threads) state t sums new = (sums.0, sums-push states threads state t sums.1 new)

sums-set : (states : List ThreadState) (threads : List Thread) (i : ℕ) (state : ThreadState) (t : Thread) → AreOnSums states threads → IsOnSum state t →
    AreOnSums (set states i state) (set threads i t)
sums-set [] [] i state t sums new = tt
sums-set [] (y ∷ threads) i state t sums new = absurd sums
sums-set (x ∷ states) [] i state t sums new = absurd sums
sums-set (x ∷ states) (y ∷ threads) zero state t sums new = (new, sums.1)
sums-set (x ∷ states) (y ∷ threads) (suc i) state t sums new = (sums.0, sums-set states threads i state t sums.1 new)

-- a thread that goes on and stays as ready as it is
sums-set_thread : (states : List ThreadState) (threads : List Thread) (i : ℕ) (state : ThreadState) (t : Thread) → AreOnSums states threads →
    slice_get states i ≡ Some state → IsOnSum state t → AreOnSums states (set threads i t)
sums-set_thread [] [] i state t sums is new = tt
sums-set_thread [] (y ∷ threads) i state t sums is new = absurd sums
sums-set_thread (x ∷ states) [] i state t sums is new = absurd sums
sums-set_thread (x ∷ states) (y ∷ threads) zero state t sums is new =
    let same : x ≡ state = cc in
    (subst (λ (a : ThreadState). IsOnSum a t) (sym same) new, sums.1)
sums-set_thread (x ∷ states) (y ∷ threads) (suc i) state t sums is new = (sums.0, sums-set_thread states threads i state t sums.1 is new)

-- a thread that is alive and is stopped
pub sum-stops : (state : ThreadState) (t : Thread) → IsOnSum state t → is_alive state ≡ true → IsOnSum thread_state.Stopped (ended_by_stop t)
sum-stops state t (begun what is steps frames none) alive = stopped refl (omega arith) refl refl
sum-stops state t (answered what is steps frames none) alive = stopped refl (omega arith) refl refl
sum-stops state t (returned text is steps frames end) alive = let both : false ≡ true = sym (ap is_alive is) ∙ alive in cc
sum-stops state t (stopped is steps frames end) alive = let both : false ≡ true = sym (ap is_alive is) ∙ alive in cc

pub sums-stopped : (owner : Option ℕ) (states : List ThreadState) (threads : List Thread) → AreOnSums states threads →
    AreOnSums (stopped_states owner states threads) (stopped_threads owner states threads)
sums-stopped owner [] [] sums = tt
sums-stopped owner [] (t ∷ threads) sums = absurd sums
sums-stopped owner (state ∷ states) [] sums = absurd sums
sums-stopped owner (state ∷ states) (t ∷ threads) sums =
    (from (is_alive state) (is_owned owner t) refl, sums-stopped owner states threads sums.1)
  where
    from : (alive mine : Bool) → is_alive state ≡ alive → IsOnSum (cond (alive && mine) thread_state.Stopped state) (cond (alive && mine) (ended_by_stop t) t)
    from true true e = sum-stops state t sums.0 e
    from true false e = sums.0
    from false mine e = sums.0

pub sums-stop_thread : (w : World) (number : ℕ) → AreOnSums w.states w.threads → AreOnSums (stop_thread w number).states (stop_thread w number).threads
sums-stop_thread w number sums = from (stop_thread w number) (view-stop_thread w number)
  where
    from : (after : World) → StopsThread w number after → AreOnSums after.states after.threads
    from after (idle dead is) = subst (λ (x : World). AreOnSums x.states x.threads) (sym is) sums
    from after (missing none is) = subst (λ (x : World). AreOnSums x.states x.threads) (sym is) sums
    from after (stops state t state_is lives thread_is is) = subst (λ (x : World). AreOnSums x.states x.threads) (sym is)
        (sums-set w.states w.threads (number - 1) thread_state.Stopped (ended_by_stop t) sums (sum-stops state t (sums-at w.states w.threads number state t sums state_is thread_is) lives))

-- the first step of a thread sets its variable, and the second returns the text of the value

pub stepped-begun : (w : World) (number : ℕ) (t : Thread) (what : Body) → numbered w.threads number ≡ Some t → t.frames ≡ frame_begun what ∷ [] →
    stepped w number ≡ performed w number t (frame_begun what) [] (Sets (value_of what.sum))
stepped-begun w number t what there frames = ap (thread_step w number) there ∙ ap (frames_step w number t) frames

pub stepped-answered : (w : World) (number : ℕ) (t : Thread) (what : Body) → numbered w.threads number ≡ Some t → t.frames ≡ frame_answered what ∷ [] →
    stepped w number ≡ performed w number t (frame_answered what) [] (Returns (signed_decimal (value_of what.sum)))
stepped-answered w number t what there frames = ap (thread_step w number) there ∙ ap (frames_step w number t) frames

-- the thread that has taken its first step, and its second one
pub sum-answered : (t : Thread) (what : Body) → t.steps ≡ 0 → t.end ≡ None → IsOnSum thread_state.Ready (thread_answered t (frame_begun what) [])
sum-answered t what steps none = answered what refl (omega arith) refl none

pub sum-returned : (t : Thread) (text : List ℕ) → t.steps ≡ 1 → IsOnSum thread_state.Ended (thread_returned t text)
sum-returned t text steps = returned text refl (omega arith) refl refl

sums-stepped_at : (w : World) (number : ℕ) (state : ThreadState) (t : Thread) → AreOnSums w.states w.threads → numbered w.states number ≡ Some state →
    numbered w.threads number ≡ Some t → is_ready state ≡ true → IsOnSum state t → AreOnSums (stepped w number).states (stepped w number).threads
sums-stepped_at w number state t sums state_is thread_is ready (begun what is steps frames none) =
    subst (λ (x : World). AreOnSums x.states x.threads) (sym (stepped-begun w number t what thread_is frames))
    (sums-set_thread w.states w.threads (number - 1) state (thread_answered t (frame_begun what) []) sums (numbered-place w.states number state state_is)
    (subst (λ (a : ThreadState). IsOnSum a (thread_answered t (frame_begun what) [])) (sym is) (sum-answered t what steps none)))
sums-stepped_at w number state t sums state_is thread_is ready (answered what is steps frames none) =
    subst (λ (x : World). AreOnSums x.states x.threads) (sym (stepped-answered w number t what thread_is frames))
    (sums-set w.states w.threads (number - 1) thread_state.Ended (thread_returned t (signed_decimal (value_of what.sum))) sums (sum-returned t _ steps))
sums-stepped_at w number state t sums state_is thread_is ready (returned text is steps frames end) = let both : false ≡ true = sym (ap is_ready is) ∙ ready in cc
sums-stepped_at w number state t sums state_is thread_is ready (stopped is steps frames end) = let both : false ≡ true = sym (ap is_ready is) ∙ ready in cc

pub sums-stepped : (w : World) (number : ℕ) → AreOnSums w.states w.threads → can_go_on w number ≡ true → AreOnSums (stepped w number).states (stepped w number).threads
sums-stepped w number sums goes = from (numbered w.states number) (numbered w.threads number) refl refl
  where
    from : (state : Option ThreadState) (t : Option Thread) → numbered w.states number ≡ state → numbered w.threads number ≡ t →
        AreOnSums (thread_step w number (numbered w.threads number)).states (thread_step w number (numbered w.threads number)).threads
    from None t state_is thread_is = let both : false ≡ true = sym (ap (λ (found : Option ThreadState). option_map_or is_ready found false) state_is) ∙ goes in cc
    from (Some state) None state_is thread_is = subst (λ (found : Option Thread). AreOnSums (thread_step w number found).states (thread_step w number found).threads) (sym thread_is) sums
    from (Some state) (Some t) state_is thread_is =
        sums-stepped_at w number state t sums state_is thread_is (ready-at w number state state_is goes) (sums-at w.states w.threads number state t sums state_is thread_is)

pub sums-turned : (number most : ℕ) (w : World) → AreOnSums w.states w.threads → AreOnSums (turned number most w).world.states (turned number most w).world.threads
sums-turned number zero w sums = subst (λ (x : Turned). AreOnSums x.world.states x.world.threads) (sym (turned-zero number w)) sums
sums-turned number (suc most) w sums = from (can_go_on w number) refl (λ later. sums-turned number most (stepped w number) later)
  where
    from : (ready : Bool) → can_go_on w number ≡ ready →
        (AreOnSums (stepped w number).states (stepped w number).threads → AreOnSums (turned number most (stepped w number)).world.states (turned number most (stepped w number)).world.threads) →
        AreOnSums (turned number (suc most) w).world.states (turned number (suc most) w).world.threads
    from true e rest = subst (λ (x : Turned). AreOnSums x.world.states x.world.threads) (sym (turned-suc number most w e)) (rest (sums-stepped w number sums e))
    from false e rest = subst (λ (x : Turned). AreOnSums x.world.states x.world.threads) (sym (turned-stuck number (suc most) w e)) sums

-- a new thread
pub sum-main : (client : ℕ) (what : Body) → IsOnSum thread_state.Ready (main_thread client what)
sum-main client what = begun what refl refl refl refl
