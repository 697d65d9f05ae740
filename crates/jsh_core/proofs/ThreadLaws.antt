-- How threads go on, end and are stopped: what a step of a world leaves of each of them.
use Rattle.std.proofs.Common.{◌≡◌, ◌≢◌, ◌⊎◌, inl, inr, ℕ, zero, suc, ◌-◌, ◌<◌, ◌≤◌, ◌==◌, Bool, true, false, List, [], ◌∷◌, Option, None, Some, length, set, refl, ap, sym, subst, ◌∙◌, arith, cond, length-set}
use Rattle.std.specs.Prelude.{◌&&◌}
use Rattle.std.specs.List.{slice_get}
use Rattle.std.specs.Fmt.{signed_decimal}
use Rattle.std.specs.Option.{option_map_or}
use Rattle.std.proofs.lemmas.Bool.{cases_eq}
use Rattle.std.proofs.Math.Nat.{le_refl}
use Rattle.jsh_sched.specs.declared.ThreadState.{ThreadState}
use Rattle.jsh_sched.specs.declared.ThreadState.TheVariants as thread_state
use Rattle.jsh_sched.specs.ThreadState.{is_alive, is_ready}
use Rattle.jsh_sum.specs.Sum.{value_of}
use Rattle.jsh_core.specs.declared.world.Answer.TheVariants as «answer»
use Rattle.jsh_core.specs.declared.world.Body.{Body}
use Rattle.jsh_core.specs.declared.world.Frame.{Frame}
use Rattle.jsh_core.specs.declared.world.Thread.{Thread}
use Rattle.jsh_core.specs.declared.world.ThreadEnd.TheVariants as thread_end
use Rattle.jsh_core.specs.State.{World, numbered}
use Rattle.jsh_core.specs.Threads.{Next, answered, can_go_on, ended_by_stop, frames_step, is_owned, is_thread_alive, next, performed, stop_found, stop_thread, stop_threads, stepped, stopped_states, stopped_threads, thread_answered, thread_returned, thread_step, turned, Turned}
use Rattle.jsh_core.specs.Threads.Next.{Sets, Returns}
use Rattle.jsh_core.proofs.Numbered.{numbered-set, numbered-set_other}
use Rattle.jsh_core.proofs.TurnLemmas.{turned-stuck, turned-suc, turned-zero}
use Rattle.jsh_core.proofs.ListLemmas.{numbered-positive}
use Rattle.jsh_core.proofs.WorldLemmas.{ready_lives}

-- a body that was entered and answered nothing, or once
abbrev pub frame_begun : Body → Frame
frame_begun what = record { body = what; args = []; answers = [] }

abbrev pub frame_answered : Body → Frame
frame_answered what = record { body = what; args = []; answers = «answer».Empty ∷ [] }

-- a thread evaluates this body, or has returned the text of its value, or was stopped
pub data Evaluates (what : Body) (state : ThreadState) (t : Thread) : Type 0 where
  begins : t.frames ≡ frame_begun what ∷ [] → Evaluates what state t
  goes_on : t.frames ≡ frame_answered what ∷ [] → Evaluates what state t
  gives : is_alive state ≡ false → t.end ≡ Some (thread_end.Returned (Some (signed_decimal (value_of what.sum)))) → Evaluates what state t
  halts : is_alive state ≡ false → t.end ≡ Some thread_end.Stopped → Evaluates what state t

-- what a thread comes to: it is the same client's, has done no fewer steps, and evaluates what it did; one that isn't alive stays as it is
pub record IsLater (state : ThreadState) (t : Thread) (state_after : ThreadState) (after : Thread) : Type 0 where
  pub owner : after.owner ≡ t.owner
  pub steps : t.steps ≤ after.steps
  pub dead : is_alive state ≡ false → (state_after ≡ state) × (after ≡ t)
  pub body : (what : Body) → Evaluates what state t → Evaluates what state_after after

-- the thread with this number in a later world
pub record GoesOver (w after : World) (number : ℕ) (state : ThreadState) (t : Thread) : Type 0 where
  pub state_after : ThreadState
  pub thread_after : Thread
  pub state_is : numbered after.states number ≡ Some state_after
  pub thread_is : numbered after.threads number ≡ Some thread_after
  pub later : IsLater state t state_after thread_after

pub IsLater-same : (state : ThreadState) (t : Thread) → IsLater state t state t
IsLater-same state t = record { owner = refl; steps = le_refl t.steps; dead = λ e. (refl, refl); body = λ what e. e }

pub IsLater-twice : (a : ThreadState) (t : Thread) (b : ThreadState) (u : Thread) (c : ThreadState) (v : Thread) → IsLater a t b u → IsLater b u c v → IsLater a t c v
IsLater-twice a t b u c v first second = record {
  owner = second.owner ∙ first.owner;
  steps = (let one : t.steps ≤ u.steps = first.steps in let two : u.steps ≤ v.steps = second.steps in omega arith);
  dead = λ e. (let still : (b ≡ a) × (u ≡ t) = first.dead e in
      let last : (c ≡ b) × (v ≡ u) = second.dead (ap is_alive still.0 ∙ e) in
      (last.0 ∙ still.0, last.1 ∙ still.1));
  body = λ what e. second.body what (first.body what e);
}

-- a thread of the same lists
pub GoesOver-same : (w after : World) (number : ℕ) (state : ThreadState) (t : Thread) → after.states ≡ w.states → after.threads ≡ w.threads →
    numbered w.states number ≡ Some state → numbered w.threads number ≡ Some t → GoesOver w after number state t
GoesOver-same w after number state t states threads state_is thread_is = record {
  state_after = state;
  thread_after = t;
  state_is = ap (λ (l : List ThreadState). numbered l number) states ∙ state_is;
  thread_is = ap (λ (l : List Thread). numbered l number) threads ∙ thread_is;
  later = IsLater-same state t;
}

-- what a world leaves behind a step of one thread, or behind its stop
pub record LeavesOthers (number : ℕ) (w after : World) : Type 0 where
  pub runs : after.runs ≡ w.runs
  pub pending : after.pending ≡ w.pending
  pub states : length after.states ≡ length w.states
  pub threads : length after.threads ≡ length w.threads
  pub other_states : (other : ℕ) → other ≢ number → numbered after.states other ≡ numbered w.states other
  pub other_threads : (other : ℕ) → other ≢ number → numbered after.threads other ≡ numbered w.threads other

pub LeavesOthers-same : (number : ℕ) (w : World) → LeavesOthers number w w
LeavesOthers-same number w =
    record { runs = refl; pending = refl; states = refl; threads = refl; other_states = λ other e. refl; other_threads = λ other e. refl }

pub LeavesOthers-twice : (number : ℕ) (w now after : World) → LeavesOthers number w now → LeavesOthers number now after → LeavesOthers number w after
LeavesOthers-twice number w now after first second = record {
  runs = second.runs ∙ first.runs;
  pending = second.pending ∙ first.pending;
  states = second.states ∙ first.states;
  threads = second.threads ∙ first.threads;
  other_states = λ other e. second.other_states other e ∙ first.other_states other e;
  other_threads = λ other e. second.other_threads other e ∙ first.other_threads other e;
}

-- a step

performed-leaves : (w : World) (number : ℕ) (t : Thread) (frame : Frame) (below : List Frame) (what : Next) → 0 < number →
    LeavesOthers number w (performed w number t frame below what)
performed-leaves w number t frame below (Sets v) some = record {
  runs = refl;
  pending = refl;
  states = refl;
  threads = length-set w.threads (number - 1) _;
  other_states = λ other e. refl;
  other_threads = λ other e. numbered-set_other w.threads number other _ some (λ is. e (sym is));
}
performed-leaves w number t frame below (Returns text) some = record {
  runs = refl;
  pending = refl;
  states = length-set w.states (number - 1) thread_state.Ended;
  threads = length-set w.threads (number - 1) _;
  other_states = λ other e. numbered-set_other w.states number other _ some (λ is. e (sym is));
  other_threads = λ other e. numbered-set_other w.threads number other _ some (λ is. e (sym is));
}

frames-leave : (w : World) (number : ℕ) (t : Thread) (frames : List Frame) → 0 < number → LeavesOthers number w (frames_step w number t frames)
frames-leave w number t [] some = LeavesOthers-same number w
frames-leave w number t (frame ∷ below) some = performed-leaves w number t frame below (next frame.body.sum frame.answers) some

pub stepped-leaves : (w : World) (number : ℕ) → LeavesOthers number w (stepped w number)
stepped-leaves w number = from (numbered w.threads number) refl
  where
    from : (found : Option Thread) → numbered w.threads number ≡ found → LeavesOthers number w (thread_step w number found)
    from None is = LeavesOthers-same number w
    from (Some t) is = frames-leave w number t t.frames (numbered-positive w.threads number t is)

pub turned-leaves : (number most : ℕ) (w : World) → LeavesOthers number w (turned number most w).world
turned-leaves number zero w = subst (λ (t : Turned). LeavesOthers number w t.world) (sym (turned-zero number w)) (LeavesOthers-same number w)
turned-leaves number (suc most) w = from (can_go_on w number) refl (turned-leaves number most (stepped w number))
  where
    from : (ready : Bool) → can_go_on w number ≡ ready → LeavesOthers number (stepped w number) (turned number most (stepped w number)).world →
        LeavesOthers number w (turned number (suc most) w).world
    from true e rest = subst (λ (t : Turned). LeavesOthers number w t.world) (sym (turned-suc number most w e))
        (LeavesOthers-twice number w (stepped w number) _ (stepped-leaves w number) rest)
    from false e rest = subst (λ (t : Turned). LeavesOthers number w t.world) (sym (turned-stuck number (suc most) w e)) (LeavesOthers-same number w)

-- the thread that takes the step
performed-over : (w : World) (number : ℕ) (state : ThreadState) (t : Thread) (frame : Frame) (below : List Frame) (what : Next) →
    numbered w.states number ≡ Some state → numbered w.threads number ≡ Some t → is_alive state ≡ true → t.frames ≡ frame ∷ below → next frame.body.sum frame.answers ≡ what →
    GoesOver w (performed w number t frame below what) number state t
performed-over w number state t frame below (Sets v) state_is thread_is alive frames does = record {
  state_after = state;
  thread_after = thread_answered t frame below;
  state_is = state_is;
  thread_is = numbered-set w.threads number t (thread_answered t frame below) thread_is;
  later = record { owner = refl; steps = omega arith; dead = λ e. (let both : true ≡ false = sym alive ∙ e in (cc)); body = body };
}
  where
    body : (what : Body) → Evaluates what state t → Evaluates what state (thread_answered t frame below)
    body what (begins is) =
        let both : frame ∷ below ≡ frame_begun what ∷ [] = sym frames ∙ is in
        let first : frame ≡ frame_begun what = cc in
        let rest : below ≡ [] = cc in
        goes_on (ap (λ (x : Frame). answered «answer».Empty x ∷ below) first ∙ ap (λ (l : List Frame). frame_answered what ∷ l) rest)
    body what (goes_on is) =
        let both : frame ∷ below ≡ frame_answered what ∷ [] = sym frames ∙ is in
        let first : frame ≡ frame_answered what = cc in
        let clash : Sets v ≡ Returns (signed_decimal (value_of what.sum)) = sym does ∙ ap (λ (x : Frame). next x.body.sum x.answers) first in
        cc
    body what (gives dead end) = let both : true ≡ false = sym alive ∙ dead in cc
    body what (halts dead end) = let both : true ≡ false = sym alive ∙ dead in cc
performed-over w number state t frame below (Returns text) state_is thread_is alive frames does = record {
  state_after = thread_state.Ended;
  thread_after = thread_returned t text;
  state_is = numbered-set w.states number state thread_state.Ended state_is;
  thread_is = numbered-set w.threads number t (thread_returned t text) thread_is;
  later = record { owner = refl; steps = omega arith; dead = λ e. (let both : true ≡ false = sym alive ∙ e in (cc)); body = body };
}
  where
    body : (what : Body) → Evaluates what state t → Evaluates what thread_state.Ended (thread_returned t text)
    body what (begins is) =
        let both : frame ∷ below ≡ frame_begun what ∷ [] = sym frames ∙ is in
        let first : frame ≡ frame_begun what = cc in
        let clash : Returns text ≡ Sets (value_of what.sum) = sym does ∙ ap (λ (x : Frame). next x.body.sum x.answers) first in
        cc
    body what (goes_on is) =
        let both : frame ∷ below ≡ frame_answered what ∷ [] = sym frames ∙ is in
        let first : frame ≡ frame_answered what = cc in
        let same : Returns text ≡ Returns (signed_decimal (value_of what.sum)) = sym does ∙ ap (λ (x : Frame). next x.body.sum x.answers) first in
        let value : text ≡ signed_decimal (value_of what.sum) = cc in
        gives refl (ap (λ (x : List ℕ). Some (thread_end.Returned (Some x))) value)
    body what (gives dead end) = let both : true ≡ false = sym alive ∙ dead in cc
    body what (halts dead end) = let both : true ≡ false = sym alive ∙ dead in cc

frames-over : (w : World) (number : ℕ) (state : ThreadState) (t : Thread) (frames : List Frame) → numbered w.states number ≡ Some state →
    numbered w.threads number ≡ Some t → is_alive state ≡ true → t.frames ≡ frames → GoesOver w (frames_step w number t frames) number state t
frames-over w number state t [] state_is thread_is alive is = GoesOver-same w w number state t refl refl state_is thread_is
frames-over w number state t (frame ∷ below) state_is thread_is alive is =
    performed-over w number state t frame below (next frame.body.sum frame.answers) state_is thread_is alive is refl

-- the state of a thread that can go on
pub ready-at : (w : World) (number : ℕ) (state : ThreadState) → numbered w.states number ≡ Some state → can_go_on w number ≡ true → is_ready state ≡ true
ready-at w number state is goes = sym (ap (λ (found : Option ThreadState). option_map_or is_ready found false) is) ∙ goes

stepped-own : (w : World) (number : ℕ) (state : ThreadState) (t : Thread) → numbered w.states number ≡ Some state → numbered w.threads number ≡ Some t →
    can_go_on w number ≡ true → GoesOver w (stepped w number) number state t
stepped-own w number state t state_is thread_is goes =
    subst (λ (after : World). GoesOver w after number state t) (sym (ap (thread_step w number) thread_is))
    (frames-over w number state t t.frames state_is thread_is (ready_lives state (ready-at w number state state_is goes)) refl)

-- any thread, behind a step of one that can go on
pub stepped-over : (w : World) (stepping number : ℕ) (state : ThreadState) (t : Thread) → numbered w.states number ≡ Some state →
    numbered w.threads number ≡ Some t → can_go_on w stepping ≡ true → GoesOver w (stepped w stepping) number state t
stepped-over w stepping number state t state_is thread_is goes = from (cases_eq number stepping)
  where
    from : (number ≡ stepping) ⊎ (number ≡ stepping → ⊥) → GoesOver w (stepped w stepping) number state t
    from (inl same) = subst (λ n. GoesOver w (stepped w n) number state t) same
        (stepped-own w number state t state_is thread_is (ap (can_go_on w) same ∙ goes))
    from (inr other) = record {
      state_after = state;
      thread_after = t;
      state_is = (stepped-leaves w stepping).other_states number other ∙ state_is;
      thread_is = (stepped-leaves w stepping).other_threads number other ∙ thread_is;
      later = IsLater-same state t;
    }

pub turned-over : (stepping most : ℕ) (w : World) (number : ℕ) (state : ThreadState) (t : Thread) → numbered w.states number ≡ Some state →
    numbered w.threads number ≡ Some t → GoesOver w (turned stepping most w).world number state t
turned-over stepping zero w number state t state_is thread_is =
    subst (λ (x : Turned). GoesOver w x.world number state t) (sym (turned-zero stepping w)) (GoesOver-same w w number state t refl refl state_is thread_is)
turned-over stepping (suc most) w number state t state_is thread_is =
    from (can_go_on w stepping) refl (λ found there found_is there_is. turned-over stepping most (stepped w stepping) number found there found_is there_is)
  where
    Rest : Type 0
    Rest = (found : ThreadState) (there : Thread) → numbered (stepped w stepping).states number ≡ Some found → numbered (stepped w stepping).threads number ≡ Some there →
        GoesOver (stepped w stepping) (turned stepping most (stepped w stepping)).world number found there

    further : Rest → GoesOver w (stepped w stepping) number state t → GoesOver w (turned stepping most (stepped w stepping)).world number state t
    further rest first =
        let second : GoesOver (stepped w stepping) (turned stepping most (stepped w stepping)).world number first.state_after first.thread_after =
        rest first.state_after first.thread_after first.state_is first.thread_is in
        record {
          state_after = second.state_after;
          thread_after = second.thread_after;
          state_is = second.state_is;
          thread_is = second.thread_is;
          later = IsLater-twice state t first.state_after first.thread_after second.state_after second.thread_after first.later second.later;
        }

    from : (ready : Bool) → can_go_on w stepping ≡ ready → Rest → GoesOver w (turned stepping (suc most) w).world number state t
    from true e rest = subst (λ (x : Turned). GoesOver w x.world number state t) (sym (turned-suc stepping most w e))
        (further rest (stepped-over w stepping number state t state_is thread_is e))
    from false e rest = subst (λ (x : Turned). GoesOver w x.world number state t) (sym (turned-stuck stepping (suc most) w e))
        (GoesOver-same w w number state t refl refl state_is thread_is)

-- a thread that is stopped

-- the world in which the thread with this number was stopped
abbrev pub with_stopped : World → ℕ → Thread → World
with_stopped w number t = record w {
  states = set w.states (number - 1) thread_state.Stopped;
  threads = set w.threads (number - 1) (ended_by_stop t);
}

pub data StopsThread (w : World) (number : ℕ) (after : World) : Type 0 where
  idle : is_thread_alive w number ≡ false → after ≡ w → StopsThread w number after
  missing : numbered w.threads number ≡ None → after ≡ w → StopsThread w number after
  stops : (state : ThreadState) (t : Thread) → numbered w.states number ≡ Some state → is_alive state ≡ true → numbered w.threads number ≡ Some t →
      after ≡ with_stopped w number t → StopsThread w number after

pub view-stop_thread : (w : World) (number : ℕ) → StopsThread w number (stop_thread w number)
view-stop_thread w number = from (numbered w.states number) refl
  where
    alive : (state : ThreadState) → numbered w.states number ≡ Some state → is_alive state ≡ true → (found : Option Thread) → numbered w.threads number ≡ found →
        StopsThread w number (stop_found w number found)
    alive state is lives None e = missing e refl
    alive state is lives (Some t) e = stops state t is lives e refl

    by_life : (state : ThreadState) → numbered w.states number ≡ Some state → (lives : Bool) → is_alive state ≡ lives →
        StopsThread w number (cond lives (stop_found w number (numbered w.threads number)) w)
    by_life state is true e = alive state is e (numbered w.threads number) refl
    by_life state is false e = idle (ap (λ (found : Option ThreadState). option_map_or is_alive found false) is ∙ e) refl

    from : (found : Option ThreadState) → numbered w.states number ≡ found →
        StopsThread w number (cond (option_map_or is_alive found false) (stop_found w number (numbered w.threads number)) w)
    from None is = idle (ap (λ (found : Option ThreadState). option_map_or is_alive found false) is) refl
    from (Some state) is = by_life state is (is_alive state) refl

pub stop_thread-leaves : (w : World) (number : ℕ) → LeavesOthers number w (stop_thread w number)
stop_thread-leaves w number = from (stop_thread w number) (view-stop_thread w number)
  where
    written : (t : Thread) → 0 < number → LeavesOthers number w (with_stopped w number t)
    written t some = record {
      runs = refl;
      pending = refl;
      states = length-set w.states (number - 1) thread_state.Stopped;
      threads = length-set w.threads (number - 1) (ended_by_stop t);
      other_states = λ other e. numbered-set_other w.states number other _ some (λ is. e (sym is));
      other_threads = λ other e. numbered-set_other w.threads number other _ some (λ is. e (sym is));
    }

    from : (after : World) → StopsThread w number after → LeavesOthers number w after
    from after (idle dead is) = subst (λ (x : World). LeavesOthers number w x) (sym is) (LeavesOthers-same number w)
    from after (missing none is) = subst (λ (x : World). LeavesOthers number w x) (sym is) (LeavesOthers-same number w)
    from after (stops state t state_is lives thread_is is) =
        subst (λ (x : World). LeavesOthers number w x) (sym is) (written t (numbered-positive w.threads number t thread_is))

pub stop_thread-over : (w : World) (stopping number : ℕ) (state : ThreadState) (t : Thread) → numbered w.states number ≡ Some state →
    numbered w.threads number ≡ Some t → GoesOver w (stop_thread w stopping) number state t
stop_thread-over w stopping number state t state_is thread_is = by_number (cases_eq number stopping)
  where
    own : (after : World) → StopsThread w number after → GoesOver w after number state t
    own after (idle dead is) = subst (λ (x : World). GoesOver w x number state t) (sym is) (GoesOver-same w w number state t refl refl state_is thread_is)
    own after (missing none is) = subst (λ (x : World). GoesOver w x number state t) (sym is) (GoesOver-same w w number state t refl refl state_is thread_is)
    own after (stops found u found_is lives there is) =
        let same : found ≡ state = (let e : Some found ≡ Some state = sym found_is ∙ state_is in cc) in
        let the_thread : u ≡ t = (let e : Some u ≡ Some t = sym there ∙ thread_is in cc) in
        subst (λ (x : World). GoesOver w x number state t) (sym is) (record {
          state_after = thread_state.Stopped;
          thread_after = ended_by_stop u;
          state_is = numbered-set w.states number state _ state_is;
          thread_is = numbered-set w.threads number t _ thread_is;
          later = record {
            owner = ap (λ (x : Thread). x.owner) the_thread;
            steps = subst (λ (x : Thread). x.steps ≤ u.steps) the_thread (le_refl u.steps);
            dead = λ e. (let both : true ≡ false = sym lives ∙ ap is_alive same ∙ e in (cc));
            body = λ what e. halts refl refl;
          };
        })

    by_number : (number ≡ stopping) ⊎ (number ≡ stopping → ⊥) → GoesOver w (stop_thread w stopping) number state t
    by_number (inl same) = subst (λ n. GoesOver w (stop_thread w n) number state t) same (own (stop_thread w number) (view-stop_thread w number))
    by_number (inr other) = record {
      state_after = state;
      thread_after = t;
      state_is = (stop_thread-leaves w stopping).other_states number other ∙ state_is;
      thread_is = (stop_thread-leaves w stopping).other_threads number other ∙ thread_is;
      later = IsLater-same state t;
    }

-- it isn't alive any more
pub stop_thread-dead : (w : World) (number : ℕ) (state : ThreadState) (t : Thread) → numbered w.states number ≡ Some state → numbered w.threads number ≡ Some t →
    is_thread_alive (stop_thread w number) number ≡ false
stop_thread-dead w number state t state_is thread_is = from (stop_thread w number) (view-stop_thread w number)
  where
    from : (after : World) → StopsThread w number after → is_thread_alive after number ≡ false
    from after (idle dead is) = ap (λ (x : World). is_thread_alive x number) is ∙ dead
    from after (missing none is) = let both : None ≡ Some t = sym none ∙ thread_is in cc
    from after (stops found u found_is lives there is) =
        ap (λ (x : World). is_thread_alive x number) is
        ∙ ap (λ (found : Option ThreadState). option_map_or is_alive found false) (numbered-set w.states number state thread_state.Stopped state_is)

-- the threads of an owner are stopped

pub stopped-lengths : (owner : Option ℕ) (states : List ThreadState) (threads : List Thread) →
    (length (stopped_states owner states threads) ≡ length states) × (length (stopped_threads owner states threads) ≡ length threads)
stopped-lengths owner (state ∷ states) (t ∷ threads) =
    let rest = stopped-lengths owner states threads in (ap suc rest.0, ap suc rest.1)
stopped-lengths owner (state ∷ states) [] = (refl, refl)
stopped-lengths owner [] (t ∷ threads) = (refl, refl)
stopped-lengths owner [] [] = (refl, refl)

-- whether a thread is one that is stopped
abbrev pub is_stopped_with : Option ℕ → ThreadState → Thread → Bool
is_stopped_with owner state t = is_alive state && is_owned owner t

stopped-place : (owner : Option ℕ) (states : List ThreadState) (threads : List Thread) (i : ℕ) (state : ThreadState) (t : Thread) →
    slice_get states i ≡ Some state → slice_get threads i ≡ Some t →
    (slice_get (stopped_states owner states threads) i ≡ Some (cond (is_stopped_with owner state t) thread_state.Stopped state))
    × (slice_get (stopped_threads owner states threads) i ≡ Some (cond (is_stopped_with owner state t) (ended_by_stop t) t))
stopped-place owner (x ∷ states) (y ∷ threads) zero state t state_is thread_is =
    let state_same : x ≡ state = cc in
    let thread_same : y ≡ t = cc in
    rw (state_same, thread_same) (refl, refl)
stopped-place owner (x ∷ states) (y ∷ threads) (suc i) state t state_is thread_is = stopped-place owner states threads i state t state_is thread_is
stopped-place owner (x ∷ states) [] i state t state_is thread_is = cc
stopped-place owner [] threads i state t state_is thread_is = cc

-- the thread with this number behind it
pub stopped-at : (owner : Option ℕ) (w : World) (number : ℕ) (state : ThreadState) (t : Thread) → numbered w.states number ≡ Some state → numbered w.threads number ≡ Some t →
    (numbered (stop_threads owner w).states number ≡ Some (cond (is_stopped_with owner state t) thread_state.Stopped state))
    × (numbered (stop_threads owner w).threads number ≡ Some (cond (is_stopped_with owner state t) (ended_by_stop t) t))
stopped-at owner w number state t state_is thread_is = from (number == 0) state_is thread_is
  where
    from : (first : Bool) → cond first None (slice_get w.states (number - 1)) ≡ Some state → cond first None (slice_get w.threads (number - 1)) ≡ Some t →
        (cond first None (slice_get (stopped_states owner w.states w.threads) (number - 1)) ≡ Some (cond (is_stopped_with owner state t) thread_state.Stopped state))
        × (cond first None (slice_get (stopped_threads owner w.states w.threads) (number - 1)) ≡ Some (cond (is_stopped_with owner state t) (ended_by_stop t) t))
    from true a b = cc
    from false a b = stopped-place owner w.states w.threads (number - 1) state t a b

pub stop_threads-over : (owner : Option ℕ) (w : World) (number : ℕ) (state : ThreadState) (t : Thread) → numbered w.states number ≡ Some state →
    numbered w.threads number ≡ Some t → GoesOver w (stop_threads owner w) number state t
stop_threads-over owner w number state t state_is thread_is =
    let at = stopped-at owner w number state t state_is thread_is in
    record { state_after = _; thread_after = _; state_is = at.0; thread_is = at.1; later = from (is_alive state) (is_owned owner t) refl }
  where
    from : (alive owned : Bool) → is_alive state ≡ alive → IsLater state t (cond (alive && owned) thread_state.Stopped state) (cond (alive && owned) (ended_by_stop t) t)
    from true true e = record { owner = refl; steps = le_refl t.steps; dead = λ d. (let both : true ≡ false = sym e ∙ d in (cc)); body = λ what b. halts refl refl }
    from true false e = IsLater-same state t
    from false owned e = IsLater-same state t
