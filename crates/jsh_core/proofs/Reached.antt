-- What holds of every state that an engine comes to.
use Rattle.std.proofs.Common.{◌≡◌, ◌≢◌, ◌⊎◌, inl, inr, ℕ, zero, suc, ◌+◌, ◌-◌, ◌<◌, ◌≤◌, ◌==◌, Bool, true, false, List, [], ◌∷◌, ◌++◌, map, set, Option, None, Some, length, length-set, length-append, refl, ap, sym, subst, ◌∙◌, arith, cond}
use Rattle.std.specs.Prelude.{◌&&◌}
use Rattle.std.specs.Option.{option_map_or}
use Rattle.std.proofs.lemmas.Bool.{cases_eq}
use Rattle.jsh_snippet.specs.declared.acts.Act.{Act}
use Rattle.jsh_snippet.specs.declared.acts.Act.TheVariants as act
use Rattle.jsh_snippet.specs.declared.acts.Entry.{Entry}
use Rattle.jsh_snippet.specs.declared.acts.Target.TheVariants as target
use Rattle.jsh_snippet.specs.declared.replies.Outcome.{Outcome}
use Rattle.jsh_snippet.specs.declared.replies.Outcome.TheVariants as outcome
use Rattle.jsh_sched.specs.declared.ThreadState.{ThreadState}
use Rattle.jsh_sched.specs.declared.ThreadState.TheVariants as thread_state
use Rattle.jsh_sched.specs.ThreadState.{is_alive, is_ready}
use Rattle.jsh_core.specs.declared.world.Body.{Body}
use Rattle.jsh_core.specs.declared.world.Frame.{Frame}
use Rattle.jsh_core.specs.declared.world.Run.{Run}
use Rattle.jsh_core.specs.declared.world.Thread.{Thread}
use Rattle.jsh_core.specs.State.{State, World, Acted, numbered, opening}
use Rattle.jsh_core.specs.Snippets.{main_thread, submitted}
use Rattle.jsh_core.specs.Threads.{Next, can_go_on, frames_step, is_thread_alive, next, performed, stepped, stop_thread, stop_threads, thread_step, turned, Turned}
use Rattle.jsh_core.specs.Threads.Next.{Sets, Returns}
use Rattle.jsh_core.specs.Runs.{alive_threads, collect, dropped, dropped_for, expire, given_up, over, stop, stop_run}
use Rattle.jsh_core.specs.Drops.{drop_id, drop_snippet}
use Rattle.jsh_core.specs.Clients.{enter}
use Rattle.jsh_core.specs.Step.{act_step, delivered, hands_over, step}
use Rattle.jsh_core.specs.History.{state_after, state_of}
use Rattle.jsh_core.proofs.DeliveryLaws.{handed, withheld}
use Rattle.jsh_core.proofs.Numbered.{numbered-append, numbered-longer, numbered-mapped, numbered-set, numbered-set_other, numbered-within}
use Rattle.jsh_core.proofs.Sums.{AreOnSums, sum-main, sums-lengths, sums-push, sums-stop_thread, sums-stopped, sums-turned}
use Rattle.jsh_core.proofs.ThreadLaws.{GoesOver, GoesOver-same, LeavesOthers, stop_thread-leaves, stop_thread-over, stop_threads-over, stopped-at, turned-leaves, turned-over}
use Rattle.jsh_core.proofs.TurnLemmas.{turned-stuck, turned-suc, turned-zero}
use Rattle.jsh_core.proofs.Views.{Collects, DropsId, DropsName, Enters, Expires, Stops, Submits, view-collect, view-drop_id, view-drop_name, view-enter, view-expire, view-stop, view-submit}
use Rattle.jsh_core.proofs.Views.{absent, accepted, crowded, drops, ended, enters, foreign, full, idle, only, rejected, running, spent, stalled, standing, unclear}
use Rattle.jsh_core.proofs.ListLemmas.{numbered-positive, numbered-push}

-- The main thread of a run. One that was stopped while its run is there has a client that stopped it.
pub record HasMain (states : List ThreadState) (threads : List Thread) (run : Run) : Type 0 where
  pub state : ThreadState
  pub thread : Thread
  pub state_is : numbered states run.main ≡ Some state
  pub thread_is : numbered threads run.main ≡ Some thread
  pub owner : thread.owner ≡ run.owner
  pub stopper : run.gone ≡ false → state ≡ thread_state.Stopped → (client : ℕ) × (run.stopper ≡ Some client)

-- how threads and runs fit together
pub record AreReached (states : List ThreadState) (threads : List Thread) (runs : List Run) : Type 0 where
  pub sums : AreOnSums states threads
  pub main : (number : ℕ) (run : Run) → numbered runs number ≡ Some run → HasMain states threads run
  pub mains : (a b : ℕ) (run other : Run) → numbered runs a ≡ Some run → numbered runs b ≡ Some other → run.main ≡ other.main → a ≡ b

pub record IsReached (s : State) : Type 0 where
  pub world : AreReached s.world.states s.world.threads s.world.runs
  pub pending : length s.world.pending ≡ length s.clients

-- each thread has a state
pub reached-fits : (s : State) → IsReached s → length s.world.states ≡ length s.world.threads
reached-fits s r = sums-lengths s.world.states s.world.threads r.world.sums

-- a run goes on as the same: its client, its main thread and its snippet stay, and one that is gone stays gone
pub record SameRun (run after : Run) : Type 0 where
  pub owner : after.owner ≡ run.owner
  pub main : after.main ≡ run.main
  pub snippet : after.snippet ≡ run.snippet
  pub gone : after.gone ≡ false → run.gone ≡ false

-- each of these runs comes of one with the same number
pub record ComeOf (runs after : List Run) : Type 0 where
  pub each : (number : ℕ) (later : Run) → numbered after number ≡ Some later → (run : Run) × (numbered runs number ≡ Some run) × SameRun run later

pub SameRun-same : (run : Run) → SameRun run run
SameRun-same run = record { owner = refl; main = refl; snippet = refl; gone = λ e. e }

pub ComeOf-same : (runs after : List Run) → after ≡ runs → ComeOf runs after
ComeOf-same runs after same = record { each = λ number later is. (later, ap (λ (l : List Run). numbered l number) (sym same) ∙ is, SameRun-same later) }

pub ComeOf-set : (runs : List Run) (number : ℕ) (run new : Run) → numbered runs number ≡ Some run → SameRun run new → ComeOf runs (set runs (number - 1) new)
ComeOf-set runs number run new found same = record { each = λ other later is. from other later is (cases_eq number other) }
  where
    from : (other : ℕ) (later : Run) → numbered (set runs (number - 1) new) other ≡ Some later → (number ≡ other) ⊎ (number ≡ other → ⊥) →
        (old : Run) × (numbered runs other ≡ Some old) × SameRun old later
    from other later is (inl e) =
        let there : numbered (set runs (number - 1) new) other ≡ Some new = subst (λ n. numbered (set runs (number - 1) new) n ≡ Some new) e (numbered-set runs number run new found) in
        let the_run : new ≡ later = (let both : Some new ≡ Some later = sym there ∙ is in cc) in
        (run, subst (λ n. numbered runs n ≡ Some run) e found, subst (λ (r : Run). SameRun run r) the_run same)
    from other later is (inr apart) =
        (later, sym (numbered-set_other runs number other new (numbered-positive runs number run found) apart) ∙ is, SameRun-same later)

pub ComeOf-map : (f : Run → Run) (runs : List Run) → ((run : Run) → SameRun run (f run)) → ComeOf runs (map f runs)
ComeOf-map f runs same = record { each = λ number later is. from number later (numbered-mapped f runs number later is) }
  where
    from : (number : ℕ) (later : Run) → ((old : Run) × (numbered runs number ≡ Some old) × (later ≡ f old)) →
        (old : Run) × (numbered runs number ≡ Some old) × SameRun old later
    from number later (old, found, is) = (old, found, subst (λ (r : Run). SameRun old r) (sym is) (same old))

-- What of a world's threads and runs is known behind an act.
pub record GoesOnFrom (w : World) (states : List ThreadState) (threads : List Thread) (runs : List Run) : Type 0 where
  pub sums : AreOnSums states threads
  pub come : ComeOf w.runs runs
  pub over : (number : ℕ) (state : ThreadState) (t : Thread) → numbered w.states number ≡ Some state → numbered w.threads number ≡ Some t →
      (later : ThreadState) × ((u : Thread) × (numbered states number ≡ Some later) × (numbered threads number ≡ Some u) × (u.owner ≡ t.owner))
  pub stopper : (number : ℕ) (later : Run) → numbered runs number ≡ Some later → later.gone ≡ false → numbered states later.main ≡ Some thread_state.Stopped →
      (client : ℕ) × (later.stopper ≡ Some client)

pub goes-on-from : (w : World) (states : List ThreadState) (threads : List Thread) (runs : List Run) → AreReached w.states w.threads w.runs →
    GoesOnFrom w states threads runs → AreReached states threads runs
goes-on-from w states threads runs r g = record { sums = g.sums; main = main; mains = mains }
  where
    main : (number : ℕ) (later : Run) → numbered runs number ≡ Some later → HasMain states threads later
    main number later is =
        let come : (run : Run) × (numbered w.runs number ≡ Some run) × SameRun run later = g.come.each number later is in
        let old : HasMain w.states w.threads come.0 = r.main number come.0 come.1 in
        let same : SameRun come.0 later = come.2 in
        let now = g.over come.0.main old.state old.thread old.state_is old.thread_is in
        let state_is : numbered states later.main ≡ Some now.0 = subst (λ n. numbered states n ≡ Some now.0) (sym same.main) now.1.1 in
        record {
          state = now.0;
          thread = now.1.0;
          state_is = state_is;
          thread_is = subst (λ n. numbered threads n ≡ Some now.1.0) (sym same.main) now.1.2;
          owner = now.1.3 ∙ old.owner ∙ sym same.owner;
          stopper = λ there is_stopped. g.stopper number later is there (state_is ∙ ap Some is_stopped);
        }

    mains : (a b : ℕ) (run other : Run) → numbered runs a ≡ Some run → numbered runs b ≡ Some other → run.main ≡ other.main → a ≡ b
    mains a b run other at_a at_b same =
        let one : (old : Run) × (numbered w.runs a ≡ Some old) × SameRun old run = g.come.each a run at_a in
        let two : (old : Run) × (numbered w.runs b ≡ Some old) × SameRun old other = g.come.each b other at_b in
        let first : SameRun one.0 run = one.2 in
        let second : SameRun two.0 other = two.2 in
        r.mains a b one.0 two.0 one.1 two.1 (sym first.main ∙ same ∙ second.main)

-- the thread with this number goes on as one of the same owner
over-from : (w after : World) (number : ℕ) (state : ThreadState) (t : Thread) → GoesOver w after number state t →
    (later : ThreadState) × ((u : Thread) × (numbered after.states number ≡ Some later) × (numbered after.threads number ≡ Some u) × (u.owner ≡ t.owner))
over-from w after number state t g = (g.state_after, (g.thread_after, g.state_is, g.thread_is, g.later.owner))

-- who has stopped a run whose thread an act leaves as it is
kept-stopper : (states : List ThreadState) (threads : List Thread) (runs : List Run) → AreReached states threads runs → (number : ℕ) (run : Run) → numbered runs number ≡ Some run →
    run.gone ≡ false → numbered states run.main ≡ Some thread_state.Stopped → (client : ℕ) × (run.stopper ≡ Some client)
kept-stopper states threads runs r number run found there is_stopped =
    let main : HasMain states threads run = r.main number run found in
    let same : main.state ≡ thread_state.Stopped = (let both : Some main.state ≡ Some thread_state.Stopped = sym main.state_is ∙ is_stopped in cc) in
    main.stopper there same

-- a turn stops no thread

performed-unstopped : (w : World) (number : ℕ) (state : ThreadState) (t : Thread) (frame : Frame) (below : List Frame) (what : Next) (other : ℕ) → numbered w.states number ≡ Some state →
    numbered (performed w number t frame below what).states other ≡ Some thread_state.Stopped → numbered w.states other ≡ Some thread_state.Stopped
performed-unstopped w number state t frame below (Sets v) other here is = is
performed-unstopped w number state t frame below (Returns text) other here is = from (cases_eq number other)
  where
    from : (number ≡ other) ⊎ (number ≡ other → ⊥) → numbered w.states other ≡ Some thread_state.Stopped
    from (inl e) =
        let there : numbered (set w.states (number - 1) thread_state.Ended) other ≡ Some thread_state.Ended =
        subst (λ n. numbered (set w.states (number - 1) thread_state.Ended) n ≡ Some thread_state.Ended) e (numbered-set w.states number state thread_state.Ended here) in
        let both : Some thread_state.Ended ≡ Some thread_state.Stopped = sym there ∙ is in
        cc
    from (inr apart) = sym (numbered-set_other w.states number other thread_state.Ended (numbered-positive w.states number state here) apart) ∙ is

frames-unstopped : (w : World) (number : ℕ) (state : ThreadState) (t : Thread) (frames : List Frame) (other : ℕ) → numbered w.states number ≡ Some state →
    numbered (frames_step w number t frames).states other ≡ Some thread_state.Stopped → numbered w.states other ≡ Some thread_state.Stopped
frames-unstopped w number state t [] other here is = is
frames-unstopped w number state t (frame ∷ below) other here is = performed-unstopped w number state t frame below (next frame.body.sum frame.answers) other here is

goes-state : (w : World) (number : ℕ) → can_go_on w number ≡ true → (state : ThreadState) × (numbered w.states number ≡ Some state)
goes-state w number goes = from (numbered w.states number) refl goes
  where
    from : (found : Option ThreadState) → numbered w.states number ≡ found → option_map_or is_ready found false ≡ true → (state : ThreadState) × (numbered w.states number ≡ Some state)
    from None is e = cc
    from (Some state) is e = (state, is)

stepped-unstopped : (w : World) (number other : ℕ) → can_go_on w number ≡ true → numbered (stepped w number).states other ≡ Some thread_state.Stopped →
    numbered w.states other ≡ Some thread_state.Stopped
stepped-unstopped w number other goes is = from (numbered w.threads number) is
  where
    from : (found : Option Thread) → numbered (thread_step w number found).states other ≡ Some thread_state.Stopped → numbered w.states other ≡ Some thread_state.Stopped
    from None is = is
    from (Some t) is = let here = goes-state w number goes in frames-unstopped w number here.0 t t.frames other here.1 is

turned-unstopped : (number most : ℕ) (w : World) (other : ℕ) → numbered (turned number most w).world.states other ≡ Some thread_state.Stopped →
    numbered w.states other ≡ Some thread_state.Stopped
turned-unstopped number zero w other is = subst (λ (x : Turned). numbered x.world.states other ≡ Some thread_state.Stopped) (turned-zero number w) is
turned-unstopped number (suc most) w other is = from (can_go_on w number) refl (λ e. turned-unstopped number most (stepped w number) other e) is
  where
    from : (ready : Bool) → can_go_on w number ≡ ready →
        (numbered (turned number most (stepped w number)).world.states other ≡ Some thread_state.Stopped → numbered (stepped w number).states other ≡ Some thread_state.Stopped) →
        numbered (turned number (suc most) w).world.states other ≡ Some thread_state.Stopped → numbered w.states other ≡ Some thread_state.Stopped
    from true e rest is = stepped-unstopped w number other e (rest (subst (λ (x : Turned). numbered x.world.states other ≡ Some thread_state.Stopped) (turned-suc number most w e) is))
    from false e rest is = subst (λ (x : Turned). numbered x.world.states other ≡ Some thread_state.Stopped) (turned-stuck number (suc most) w e) is

turn-reached : (w : World) (thread most : ℕ) → AreReached w.states w.threads w.runs →
    AreReached (turned thread most w).world.states (turned thread most w).world.threads (turned thread most w).world.runs
turn-reached w thread most r =
    let leaves : LeavesOthers thread w (turned thread most w).world = turned-leaves thread most w in
    subst (λ (runs : List Run). AreReached (turned thread most w).world.states (turned thread most w).world.threads runs) (sym leaves.runs)
    (goes-on-from w (turned thread most w).world.states (turned thread most w).world.threads w.runs r (record {
      sums = sums-turned thread most w r.sums;
      come = ComeOf-same w.runs w.runs refl;
      over = λ number state t state_is thread_is. over-from w (turned thread most w).world number state t (turned-over thread most w number state t state_is thread_is);
      stopper = λ number run found there is. kept-stopper w.states w.threads w.runs r number run found there (turned-unstopped thread most w run.main is);
    }))

-- one run more

-- a run that was just made
abbrev pub new_run : ℕ → ℕ → ℕ → Run
new_run client main snippet = record { owner = client; main = main; snippet = snippet; stopper = None; gone = false }

push-reached : (states : List ThreadState) (threads : List Thread) (runs : List Run) (client snippet : ℕ) (what : Body) → AreReached states threads runs →
    AreReached (states ++ thread_state.Ready ∷ []) (threads ++ main_thread client what ∷ []) (runs ++ new_run client (length threads + 1) snippet ∷ [])
push-reached states threads runs client snippet what r = record {
  sums = sums-push states threads thread_state.Ready (main_thread client what) r.sums (sum-main client what);
  main = λ number run is. main number run (numbered-longer runs (new_run client (length threads + 1) snippet) number run is);
  mains = λ a b run other at_a at_b same.
      apart a b run other (numbered-longer runs (new_run client (length threads + 1) snippet) a run at_a) (numbered-longer runs (new_run client (length threads + 1) snippet) b other at_b) same;
}
  where
    fits : length states ≡ length threads
    fits = sums-lengths states threads r.sums

    of_new : HasMain (states ++ thread_state.Ready ∷ []) (threads ++ main_thread client what ∷ []) (new_run client (length threads + 1) snippet)
    of_new = record {
      state = thread_state.Ready;
      thread = main_thread client what;
      state_is = numbered-push states (length threads + 1) thread_state.Ready (ap (λ n. n + 1) (sym fits));
      thread_is = numbered-push threads (length threads + 1) (main_thread client what) refl;
      owner = refl;
      stopper = λ there e. (cc);
    }

    main : (number : ℕ) (run : Run) → (numbered runs number ≡ Some run) ⊎ ((length runs + 1 ≡ number) × (run ≡ new_run client (length threads + 1) snippet)) →
        HasMain (states ++ thread_state.Ready ∷ []) (threads ++ main_thread client what ∷ []) run
    main number run (inl old) =
        let has : HasMain states threads run = r.main number run old in
        record {
          state = has.state;
          thread = has.thread;
          state_is = numbered-append states _ run.main has.state has.state_is;
          thread_is = numbered-append threads _ run.main has.thread has.thread_is;
          owner = has.owner;
          stopper = has.stopper;
        }
    main number run (inr (last, new)) = subst (λ (x : Run). HasMain (states ++ thread_state.Ready ∷ []) (threads ++ main_thread client what ∷ []) x) (sym new) of_new

    within : (number : ℕ) (run : Run) → numbered runs number ≡ Some run → run.main ≤ length threads
    within number run old =
        let has : HasMain states threads run = r.main number run old in
        numbered-within threads run.main has.thread has.thread_is

    apart : (a b : ℕ) (run other : Run) → (numbered runs a ≡ Some run) ⊎ ((length runs + 1 ≡ a) × (run ≡ new_run client (length threads + 1) snippet)) →
        (numbered runs b ≡ Some other) ⊎ ((length runs + 1 ≡ b) × (other ≡ new_run client (length threads + 1) snippet)) → run.main ≡ other.main → a ≡ b
    apart a b run other (inl one) (inl two) same = r.mains a b run other one two same
    apart a b run other (inl one) (inr (last, new)) same =
        let low : run.main ≤ length threads = within a run one in
        let high : other.main ≡ length threads + 1 = ap (λ (x : Run). x.main) new in
        absurd (omega arith)
    apart a b run other (inr (last, new)) (inl two) same =
        let low : other.main ≤ length threads = within b other two in
        let high : run.main ≡ length threads + 1 = ap (λ (x : Run). x.main) new in
        absurd (omega arith)
    apart a b run other (inr (last, new)) (inr (last_too, new_too)) same = sym last ∙ last_too

-- a run that is written to, whose main thread may be stopped

record Rewrites (w after : World) (number : ℕ) (run new : Run) : Type 0 where
  found : numbered w.runs number ≡ Some run
  same : SameRun run new
  stopper : new.gone ≡ false → (client : ℕ) × (new.stopper ≡ Some client)
  sums : AreOnSums after.states after.threads
  over : (n : ℕ) (state : ThreadState) (t : Thread) → numbered w.states n ≡ Some state → numbered w.threads n ≡ Some t → GoesOver w after n state t
  others : (other : ℕ) → other ≢ run.main → numbered after.states other ≡ numbered w.states other

rewrite-reached : (w after : World) (number : ℕ) (run new : Run) → AreReached w.states w.threads w.runs → Rewrites w after number run new →
    AreReached after.states after.threads (set w.runs (number - 1) new)
rewrite-reached w after number run new r h = goes-on-from w after.states after.threads (set w.runs (number - 1) new) r (record {
  sums = h.sums;
  come = ComeOf-set w.runs number run new h.found h.same;
  over = λ n state t state_is thread_is. over-from w after n state t (h.over n state t state_is thread_is);
  stopper = λ other later is there is_stopped. from other later is there is_stopped (cases_eq number other);
})
  where
    some : 0 < number
    some = numbered-positive w.runs number run h.found

    from : (other : ℕ) (later : Run) → numbered (set w.runs (number - 1) new) other ≡ Some later → later.gone ≡ false → numbered after.states later.main ≡ Some thread_state.Stopped →
        (number ≡ other) ⊎ (number ≡ other → ⊥) → (client : ℕ) × (later.stopper ≡ Some client)
    from other later is there is_stopped (inl e) =
        let at : numbered (set w.runs (number - 1) new) other ≡ Some new = subst (λ n. numbered (set w.runs (number - 1) new) n ≡ Some new) e (numbered-set w.runs number run new h.found) in
        let same : new ≡ later = (let both : Some new ≡ Some later = sym at ∙ is in cc) in
        let who : (client : ℕ) × (new.stopper ≡ Some client) = h.stopper (ap (λ (x : Run). x.gone) same ∙ there) in
        (who.0, ap (λ (x : Run). x.stopper) (sym same) ∙ who.1)
    from other later is there is_stopped (inr apart) =
        let old : numbered w.runs other ≡ Some later = sym (numbered-set_other w.runs number other new some apart) ∙ is in
        let differ : later.main ≢ run.main = (λ same. apart (sym (r.mains other number later run old h.found same))) in
        kept-stopper w.states w.threads w.runs r other later old there (sym (h.others later.main differ) ∙ is_stopped)

-- a run that is handed out, over or given up
pub gone-same : (run : Run) → SameRun run (record run { gone = true })
gone-same run = record { owner = refl; main = refl; snippet = refl; gone = λ e. (cc) }

over-reached : (w : World) (number : ℕ) (run : Run) → AreReached w.states w.threads w.runs → numbered w.runs number ≡ Some run →
    AreReached w.states w.threads (set w.runs (number - 1) (record run { gone = true }))
over-reached w number run r found = rewrite-reached w w number run (record run { gone = true }) r (record {
  found = found;
  same = gone-same run;
  stopper = λ e. (cc);
  sums = r.sums;
  over = λ n state t state_is thread_is. GoesOver-same w w n state t refl refl state_is thread_is;
  others = λ other e. refl;
})

stopped-reached : (w : World) (number : ℕ) (run new : Run) → AreReached w.states w.threads w.runs → numbered w.runs number ≡ Some run → SameRun run new →
    (new.gone ≡ false → (client : ℕ) × (new.stopper ≡ Some client)) →
    AreReached (stop_thread w run.main).states (stop_thread w run.main).threads (set w.runs (number - 1) new)
stopped-reached w number run new r found same stopper = rewrite-reached w (stop_thread w run.main) number run new r (record {
  found = found;
  same = same;
  stopper = stopper;
  sums = sums-stop_thread w run.main r.sums;
  over = λ n state t state_is thread_is. stop_thread-over w run.main n state t state_is thread_is;
  others = (stop_thread-leaves w run.main).other_states;
})

-- the state behind each act

over_state-reached : (s : State) (number : ℕ) (run : Run) → IsReached s → numbered s.world.runs number ≡ Some run → IsReached (over s number run).state
over_state-reached s number run r found = record { world = over-reached s.world number run r.world found; pending = r.pending }

given_up-reached : (s : State) (number : ℕ) (run : Run) (how : Outcome) → IsReached s → numbered s.world.runs number ≡ Some run → IsReached (given_up s number run how).state
given_up-reached s number run how r found =
    let leaves : LeavesOthers run.main s.world (stop_thread s.world run.main) = stop_thread-leaves s.world run.main in
    record {
      world = subst (λ (runs : List Run). AreReached (stop_thread s.world run.main).states (stop_thread s.world run.main).threads (set runs (number - 1) (record run { gone = true })))
          (sym leaves.runs) (stopped-reached s.world number run (record run { gone = true }) r.world found (gone-same run) (λ e. (cc)));
      pending = ap length leaves.pending ∙ r.pending;
    }

stop-reached : (s : State) (client number : ℕ) (run : Run) → IsReached s → numbered s.world.runs number ≡ Some run → IsReached (stop_run s client number run)
stop-reached s client number run r found = from (is_thread_alive s.world run.main)
  where
    leaves : LeavesOthers run.main s.world (stop_thread s.world run.main)
    leaves = stop_thread-leaves s.world run.main

    from : (alive : Bool) → IsReached (cond alive (record s { world = record (stop_thread s.world run.main) { runs = set s.world.runs (number - 1) (record run { stopper = Some client }) } }) s)
    from true = record {
      world = stopped-reached s.world number run (record run { stopper = Some client }) r.world found
          (record { owner = refl; main = refl; snippet = refl; gone = λ e. e }) (λ e. (client, refl));
      pending = ap length leaves.pending ∙ r.pending;
    }
    from false = r

dropped_for-same : (client : ℕ) (run : Run) → SameRun run (dropped_for client run)
dropped_for-same client run = from (run.owner == client)
  where
    from : (mine : Bool) → SameRun run (cond mine (record run { gone = true }) run)
    from true = gone-same run
    from false = SameRun-same run

leave-reached : (w : World) (client : ℕ) → AreReached w.states w.threads w.runs →
    AreReached (stop_threads (Some client) w).states (stop_threads (Some client) w).threads (map (dropped_for client) w.runs)
leave-reached w client r = goes-on-from w (stop_threads (Some client) w).states (stop_threads (Some client) w).threads (map (dropped_for client) w.runs) r (record {
  sums = sums-stopped (Some client) w.states w.threads r.sums;
  come = ComeOf-map (dropped_for client) w.runs (dropped_for-same client);
  over = λ number state t state_is thread_is. over-from w (stop_threads (Some client) w) number state t (stop_threads-over (Some client) w number state t state_is thread_is);
  stopper = λ number later is there is_stopped. from number later there is_stopped (numbered-mapped (dropped_for client) w.runs number later is);
})
  where
    spared : (number : ℕ) (old : Run) → numbered w.runs number ≡ Some old → (old.owner == client) ≡ false → old.gone ≡ false →
        numbered (stop_threads (Some client) w).states old.main ≡ Some thread_state.Stopped → (who : ℕ) × (old.stopper ≡ Some who)
    spared number old found other there is_stopped =
        let has : HasMain w.states w.threads old = r.main number old found in
        let owner : (has.thread.owner == client) ≡ false = ap (λ n. n == client) has.owner ∙ other in
        let at = stopped-at (Some client) w old.main has.state has.thread has.state_is has.thread_is in
        let stays : cond (is_alive has.state && (has.thread.owner == client)) thread_state.Stopped has.state ≡ has.state = unstopped (is_alive has.state) (has.thread.owner == client) owner has.state in
        let both : Some has.state ≡ Some thread_state.Stopped = ap Some (sym stays) ∙ sym at.0 ∙ is_stopped in
        let same : has.state ≡ thread_state.Stopped = cc in
        has.stopper there same
      where
        unstopped : (alive mine : Bool) → mine ≡ false → (state : ThreadState) → cond (alive && mine) thread_state.Stopped state ≡ state
        unstopped true true e state = cc
        unstopped true false e state = refl
        unstopped false mine e state = refl

    from : (number : ℕ) (later : Run) → later.gone ≡ false → numbered (stop_threads (Some client) w).states later.main ≡ Some thread_state.Stopped →
        ((old : Run) × (numbered w.runs number ≡ Some old) × (later ≡ dropped_for client old)) → (who : ℕ) × (later.stopper ≡ Some who)
    from number later there is_stopped (old, found, is) = by_owner (old.owner == client) refl is
      where
        by_owner : (mine : Bool) → (old.owner == client) ≡ mine → later ≡ cond mine (record old { gone = true }) old → (who : ℕ) × (later.stopper ≡ Some who)
        by_owner true e is = let both : true ≡ false = sym (ap (λ (x : Run). x.gone) is) ∙ there in cc
        by_owner false e is =
            let who = spared number old found e (sym (ap (λ (x : Run). x.gone) is) ∙ there)
            (subst (λ (x : Run). numbered (stop_threads (Some client) w).states x.main ≡ Some thread_state.Stopped) is is_stopped) in
            (who.0, ap (λ (x : Run). x.stopper) is ∙ who.1)

reset-reached : (w : World) → AreReached w.states w.threads w.runs → AreReached (stop_threads None w).states (stop_threads None w).threads (map dropped w.runs)
reset-reached w r = goes-on-from w (stop_threads None w).states (stop_threads None w).threads (map dropped w.runs) r (record {
  sums = sums-stopped None w.states w.threads r.sums;
  come = ComeOf-map dropped w.runs gone-same;
  over = λ number state t state_is thread_is. over-from w (stop_threads None w) number state t (stop_threads-over None w number state t state_is thread_is);
  stopper = λ number later is there is_stopped. from number later there (numbered-mapped dropped w.runs number later is);
})
  where
    from : (number : ℕ) (later : Run) → later.gone ≡ false → ((old : Run) × (numbered w.runs number ≡ Some old) × (later ≡ dropped old)) → (who : ℕ) × (later.stopper ≡ Some who)
    from number later there (old, found, is) = let both : true ≡ false = sym (ap (λ (x : Run). x.gone) is) ∙ there in cc

enter-reached : (s : State) (acted : Acted) → IsReached s → Enters s acted → IsReached acted.state
enter-reached s acted r (full many is) = subst (λ (a : Acted). IsReached a.state) (sym is) r
enter-reached s acted r (enters few is) = subst (λ (a : Acted). IsReached a.state) (sym is)
    (record { world = r.world; pending = simp length-append (ap (λ n. n + 1) r.pending) })

submit-reached : (s : State) (client : ℕ) (source : List ℕ) (acted : Acted) → IsReached s → Submits s client source acted → IsReached acted.state
submit-reached s client source acted r (full many is) = subst (λ (a : Acted). IsReached a.state) (sym is) r
submit-reached s client source acted r (rejected ds few found is) = subst (λ (a : Acted). IsReached a.state) (sym is) (record { world = r.world; pending = r.pending })
submit-reached s client source acted r (crowded sum few found many is) = subst (λ (a : Acted). IsReached a.state) (sym is) r
submit-reached s client source acted r (accepted sum few found room is) = subst (λ (a : Acted). IsReached a.state) (sym is)
    (record { world = push-reached s.world.states s.world.threads s.world.runs client (length s.book + 1) _ r.world; pending = r.pending })

collect-reached : (s : State) (client number : ℕ) (acted : Acted) → IsReached s → Collects s client number acted → IsReached acted.state
collect-reached s client number acted r (absent none is) = subst (λ (a : Acted). IsReached a.state) (sym is) r
collect-reached s client number acted r (foreign run found there other is) = subst (λ (a : Acted). IsReached a.state) (sym is) r
collect-reached s client number acted r (running run own alive goes is) = subst (λ (a : Acted). IsReached a.state) (sym is) r
collect-reached s client number acted r (stalled run own alive none is) = subst (λ (a : Acted). IsReached a.state) (sym is)
    (given_up-reached s number run (outcome.Stalled (alive_threads s.world.states)) r own.found)
collect-reached s client number acted r (ended run own dead is) = subst (λ (a : Acted). IsReached a.state) (sym is) (over_state-reached s number run r own.found)

expire-reached : (s : State) (client number steps : ℕ) (acted : Acted) → IsReached s → Expires s client number steps acted → IsReached acted.state
expire-reached s client number steps acted r (absent none is) = subst (λ (a : Acted). IsReached a.state) (sym is) r
expire-reached s client number steps acted r (foreign run found there other is) = subst (λ (a : Acted). IsReached a.state) (sym is) r
expire-reached s client number steps acted r (spent run own alive is) = subst (λ (a : Acted). IsReached a.state) (sym is) (given_up-reached s number run (outcome.Spent steps) r own.found)
expire-reached s client number steps acted r (ended run own dead is) = subst (λ (a : Acted). IsReached a.state) (sym is) (over_state-reached s number run r own.found)

stops-reached : (s : State) (client number : ℕ) (acted : Acted) → IsReached s → Stops s client number acted → IsReached acted.state
stops-reached s client number acted r (absent none is) = subst (λ (a : Acted). IsReached a.state) (sym is) r
stops-reached s client number acted r (standing run found is_there is) = subst (λ (a : Acted). IsReached a.state) (sym is) (stop-reached s client number run r found)

drop_id-reached : (s : State) (id : ℕ) (acted : Acted) → IsReached s → DropsId s id acted → IsReached acted.state
drop_id-reached s id acted r (absent none is) = subst (λ (a : Acted). IsReached a.state) (sym is) r
drop_id-reached s id acted r (idle x found why is) = subst (λ (a : Acted). IsReached a.state) (sym is) r
drop_id-reached s id acted r (drops x found why is) = subst (λ (a : Acted). IsReached a.state) (sym is) (record { world = r.world; pending = r.pending })

drop_name-reached : (s : State) (name : List ℕ) (acted : Acted) → IsReached s → DropsName s name acted → IsReached acted.state
drop_name-reached s name acted r (unclear why is) = subst (λ (a : Acted). IsReached a.state) (sym is) r
drop_name-reached s name acted r (only live found is) = subst (λ (a : Acted). IsReached a.state) (sym is) (drop_id-reached s live.id (drop_id s live.id) r (view-drop_id s live.id))

pub act-reached : (s : State) (client : ℕ) (what : Act) → IsReached s → IsReached (act_step s client what).state
act-reached s client act.Enter r = enter-reached s (enter s) r (view-enter s)
act-reached s client (act.Submit source) r = submit-reached s client source (submitted s client source) r (view-submit s client source)
act-reached s client (act.Turn thread steps) r = record {
  world = turn-reached s.world thread steps r.world;
  pending = ap length (turned-leaves thread steps s.world).pending ∙ r.pending;
}
act-reached s client (act.Collect run) r = collect-reached s client run (collect s client run) r (view-collect s client run)
act-reached s client (act.Expire run steps) r = expire-reached s client run steps (expire s client run steps) r (view-expire s client run steps)
act-reached s client (act.Stop run) r = stops-reached s client run (stop s client run) r (view-stop s client run)
act-reached s client (act.Drop (target.Id id)) r = drop_id-reached s id (drop_id s id) r (view-drop_id s id)
act-reached s client (act.Drop (target.Named name)) r = drop_name-reached s name (drop_snippet s (target.Named name)) r (view-drop_name s name)
act-reached s client (act.Ask question) r = r
act-reached s client act.Reset r = record { world = reset-reached s.world r.world; pending = r.pending }
act-reached s client act.Leave r = record { world = leave-reached s.world client r.world; pending = r.pending ∙ sym (length-set s.clients client false) }
act-reached s client act.Close r = r

delivered-reached : (client : ℕ) (acted : Acted) → IsReached acted.state → IsReached (delivered client acted).state
delivered-reached client acted r = from (hands_over acted.body)
  where
    from : (all : Bool) → IsReached (cond all (handed client acted) (withheld acted)).state
    from true = record { world = r.world; pending = length-set acted.state.world.pending client [] ∙ r.pending }
    from false = r

pub step-reached : (s : State) (entry : Entry) → IsReached s → IsReached (step s entry).state
step-reached s entry r = delivered-reached entry.client (act_step s entry.client entry.act) (act-reached s entry.client entry.act r)

pub none-numbered : (number : ℕ) (run : Run) → numbered [] number ≡ Some run → ⊥
none-numbered number run is = from (number == 0) is
  where
    from : (first : Bool) → cond first None None ≡ Some run → ⊥
    from true e = cc
    from false e = cc

pub opening-reached : IsReached opening
opening-reached = record {
  world = record {
    sums = tt;
    main = λ number run is. absurd (none-numbered number run is);
    mains = λ a b run other at_a at_b same. absurd (none-numbered a run at_a);
  };
  pending = refl;
}

pub reached_after : (s : State) (entries : List Entry) → IsReached s → IsReached (state_after s entries)
reached_after s [] r = r
reached_after s (entry ∷ entries) r = reached_after (step s entry).state entries (step-reached s entry r)

pub reached : (history : List Entry) → IsReached (state_of history)
reached history = reached_after opening history opening-reached
