-- How runs end: an ended run keeps its outcome, and nothing ends one but its own steps, a stop of it, and what takes it away.
use Rattle.std.proofs.Common.{◌≡◌, ◌≢◌, ◌⊎◌, inl, inr, ℕ, ◌-◌, ◌==◌, Bool, true, false, List, set, Option, Some, refl, ap, sym, subst, ◌∙◌, cond}
use Rattle.std.specs.Prelude.{◌&&◌}
use Rattle.std.specs.Option.{option_and_then, option_map_or, unwrap_or}
use Rattle.std.proofs.lemmas.Bool.{cases_eq, ne_eqb}
use Rattle.jsh_snippet.specs.declared.acts.Act.{Act}
use Rattle.jsh_snippet.specs.declared.acts.Act.TheVariants as act
use Rattle.jsh_snippet.specs.declared.acts.Entry.{Entry}
use Rattle.jsh_snippet.specs.declared.acts.Target.TheVariants as target
use Rattle.jsh_snippet.specs.declared.replies.Outcome.{Outcome}
use Rattle.jsh_snippet.specs.declared.replies.Outcome.TheVariants as outcome
use Rattle.jsh_snippet.specs.declared.replies.ReplyBody.{ReplyBody}
use Rattle.jsh_sched.specs.declared.ThreadState.{ThreadState}
use Rattle.jsh_sched.specs.declared.ThreadState.TheVariants as thread_state
use Rattle.jsh_sched.specs.ThreadState.{is_alive}
use Rattle.jsh_core.specs.declared.world.Run.{Run}
use Rattle.jsh_core.specs.declared.world.Thread.{Thread}
use Rattle.jsh_core.specs.State.{State, Acted, World, numbered}
use Rattle.jsh_core.specs.Snippets.{submitted}
use Rattle.jsh_core.specs.Threads.{ended_by_stop, is_thread_alive, stop_thread, turned}
use Rattle.jsh_core.specs.Runs.{alive_threads, collect, expire, given_up, outcome_of, outcome_with, stop}
use Rattle.jsh_core.specs.Drops.{drop_id, drop_snippet}
use Rattle.jsh_core.specs.Clients.{enter}
use Rattle.jsh_core.specs.Step.{act_step, delivered, step}
use Rattle.jsh_core.specs.Causes.{IsOwnRun}
use Rattle.jsh_core.specs.Fates.{HandsOut, Takes, TakesAway, is_over}
use Rattle.jsh_core.proofs.CauseLemmas.{HasEnded, has-ended}
use Rattle.jsh_core.proofs.CauseLemmas.HasEnded.{returns, stops}
use Rattle.jsh_core.proofs.DeliveryLaws.{IsDelivered, by, delivers}
use Rattle.jsh_core.proofs.Ended.{dead-stays}
use Rattle.jsh_core.proofs.FateLemmas.{IsStopOf}
use Rattle.jsh_core.proofs.Numbered.{numbered-append}
use Rattle.jsh_core.proofs.OwnRuns.{run-same}
use Rattle.jsh_core.proofs.Reached.{HasMain, IsReached}
use Rattle.jsh_core.proofs.ThreadLaws.{LeavesOthers, is_stopped_with, stop_thread-leaves, stopped-at, turned-leaves}
use Rattle.jsh_core.proofs.Views.{Collects, DropsId, DropsName, Enters, Expires, Stops, Submits, view-collect, view-drop_id, view-drop_name, view-enter, view-expire, view-stop, view-submit}
use Rattle.jsh_core.proofs.Views.{absent, accepted, crowded, drops, ended, enters, foreign, full, idle, only, rejected, running, spent, stalled, standing, unclear}

-- an ended run has returned a text, or was stopped by a client
pub ended-how : (s : State) (owner number : ℕ) (run : Run) → IsReached s → IsOwnRun s owner number run → is_thread_alive s.world run.main ≡ false →
    ((text : List ℕ) × (outcome_of s.world run ≡ outcome.Value text)) ⊎ ((client : ℕ) × (run.stopper ≡ Some client) × (outcome_of s.world run ≡ outcome.Stopped client))
ended-how s owner number run r own dead = from (has-ended s number run r own.found own.there dead)
  where
    from : HasEnded s run →
        ((text : List ℕ) × (outcome_of s.world run ≡ outcome.Value text)) ⊎ ((client : ℕ) × (run.stopper ≡ Some client) × (outcome_of s.world run ≡ outcome.Stopped client))
    from (returns text end) = inl (text, ap (outcome_with run) end)
    from (stops client end stopper) =
        inr (client, stopper, ap (outcome_with run) end ∙ ap (λ (found : Option ℕ). outcome.Stopped (unwrap_or found run.owner)) stopper)

-- a stop of a run that has ended changes nothing
dead-stop : (s : State) (client number : ℕ) (run : Run) (acted : Acted) → numbered s.world.runs number ≡ Some run → is_thread_alive s.world run.main ≡ false → Stops s client number acted →
    acted.state.world.runs ≡ s.world.runs
dead-stop s client number run acted found dead (absent none is) = ap (λ (a : Acted). a.state.world.runs) is
dead-stop s client number run acted found dead (standing other its there is) =
    let both : Some other ≡ Some run = sym its ∙ found in
    let same : other ≡ run = cc in
    let lives : is_thread_alive s.world other.main ≡ false = ap (λ (x : Run). is_thread_alive s.world x.main) same ∙ dead in
    ap (λ (a : Acted). a.state.world.runs) is
    ∙ ap (λ b. (cond b (record s { world = record (stop_thread s.world other.main) { runs = set s.world.runs (number - 1) (record other { stopper = Some client }) } }) s).world.runs) lives

-- an ended run that isn't taken away stays just as it is
pub ended-same : (s : State) (client : ℕ) (what : Act) (owner number : ℕ) (run : Run) → IsOwnRun s owner number run → is_thread_alive s.world run.main ≡ false →
    ¬ TakesAway s (by client what) owner number → IsOwnRun (step s (by client what)).state owner number run
ended-same s client (act.Stop asked) owner number run own dead stays = from (cases_eq asked number)
  where
    is : IsDelivered (stop s client asked) (delivered client (stop s client asked))
    is = delivers client (stop s client asked)

    from : (asked ≡ number) ⊎ (asked ≡ number → ⊥) → IsOwnRun (step s (by client (act.Stop asked))).state owner number run
    from (inl same) =
        let runs : (delivered client (stop s client asked)).state.world.runs ≡ s.world.runs =
        is.runs ∙ dead-stop s client asked run (stop s client asked) (ap (numbered s.world.runs) same ∙ own.found) dead (view-stop s client asked) in
        record { found = ap (λ (l : List Run). numbered l number) runs ∙ own.found; there = own.there; owner = own.owner }
    from (inr other) = run-same s (by client (act.Stop asked)) owner number run own stays other
ended-same s client act.Enter owner number run own dead stays = run-same s (by client act.Enter) owner number run own stays (λ e. e)
ended-same s client (act.Submit source) owner number run own dead stays = run-same s (by client (act.Submit source)) owner number run own stays (λ e. e)
ended-same s client (act.Turn thread steps) owner number run own dead stays = run-same s (by client (act.Turn thread steps)) owner number run own stays (λ e. e)
ended-same s client (act.Collect asked) owner number run own dead stays = run-same s (by client (act.Collect asked)) owner number run own stays (λ e. e)
ended-same s client (act.Expire asked steps) owner number run own dead stays = run-same s (by client (act.Expire asked steps)) owner number run own stays (λ e. e)
ended-same s client (act.Drop what) owner number run own dead stays = run-same s (by client (act.Drop what)) owner number run own stays (λ e. e)
ended-same s client (act.Ask question) owner number run own dead stays = run-same s (by client (act.Ask question)) owner number run own stays (λ e. e)
ended-same s client act.Reset owner number run own dead stays = run-same s (by client act.Reset) owner number run own stays (λ e. e)
ended-same s client act.Leave owner number run own dead stays = run-same s (by client act.Leave) owner number run own stays (λ e. e)
ended-same s client act.Close owner number run own dead stays = run-same s (by client act.Close) owner number run own stays (λ e. e)

-- an ended run stays ended, with its outcome
pub record KeepsOutcome (s after : State) (owner number : ℕ) (run : Run) : Type 0 where
  pub own : IsOwnRun after owner number run
  pub ended : is_thread_alive after.world run.main ≡ false
  pub outcome : outcome_of after.world run ≡ outcome_of s.world run

pub outcome-stays : (s : State) (entry : Entry) (owner number : ℕ) (run : Run) → IsReached s → IsOwnRun s owner number run → is_thread_alive s.world run.main ≡ false →
    ¬ TakesAway s entry owner number → KeepsOutcome s (step s entry).state owner number run
outcome-stays s entry owner number run r own dead stays = from (r.world.main number run own.found)
  where
    from : HasMain s.world.states s.world.threads run → KeepsOutcome s (step s entry).state owner number run
    from has =
        let lives : is_alive has.state ≡ false = sym (ap (λ (f : Option ThreadState). option_map_or is_alive f false) has.state_is) ∙ dead in
        let same = dead-stays s entry run.main has.state has.thread has.state_is has.thread_is lives in
        record {
          own = ended-same s entry.client entry.act owner number run own dead stays;
          ended = ap (λ (f : Option ThreadState). option_map_or is_alive f false) same.0 ∙ lives;
          outcome = ap (λ (f : Option Thread). outcome_with run (option_and_then (λ (t : Thread). t.end) f)) (same.1 ∙ sym has.thread_is);
        }

-- what an entry leaves of the main thread of a run

-- the act is a turn of this thread
abbrev pub IsTurnOf : Act → ℕ → Type 0
IsTurnOf (act.Turn thread steps) number = thread ≡ number
IsTurnOf _ number = ⊥

-- the thread with this number is as it was
pub record IsSameThread (w after : World) (number : ℕ) : Type 0 where
  pub state : numbered after.states number ≡ numbered w.states number
  pub thread : numbered after.threads number ≡ numbered w.threads number

same-lists : (w after : World) (number : ℕ) → after.states ≡ w.states → after.threads ≡ w.threads → IsSameThread w after number
same-lists w after number states threads =
    record { state = ap (λ (l : List ThreadState). numbered l number) states; thread = ap (λ (l : List Thread). numbered l number) threads }

same-acted : (s : State) (acted other : Acted) (number : ℕ) → acted ≡ other → IsSameThread s.world other.state.world number → IsSameThread s.world acted.state.world number
same-acted s acted other number is h = subst (λ (a : Acted). IsSameThread s.world a.state.world number) (sym is) h

-- the main threads of two runs differ
mains-differ : (s : State) (a b : ℕ) (run other : Run) → IsReached s → numbered s.world.runs a ≡ Some run → numbered s.world.runs b ≡ Some other → a ≢ b → run.main ≢ other.main
mains-differ s a b run other r at_a at_b apart same = apart (r.world.mains a b run other at_a at_b same)

stopped-elsewhere : (s : State) (asked number : ℕ) (other run : Run) → IsReached s → numbered s.world.runs asked ≡ Some other → numbered s.world.runs number ≡ Some run → asked ≢ number →
    IsSameThread s.world (stop_thread s.world other.main) run.main
stopped-elsewhere s asked number other run r its found apart =
    let leaves : LeavesOthers other.main s.world (stop_thread s.world other.main) = stop_thread-leaves s.world other.main in
    let differ : run.main ≢ other.main = mains-differ s number asked run other r found its (λ e. apart (sym e)) in
    record { state = leaves.other_states run.main differ; thread = leaves.other_threads run.main differ }

given_up-elsewhere : (s : State) (asked number : ℕ) (other run : Run) (how : Outcome) → IsReached s → numbered s.world.runs asked ≡ Some other → numbered s.world.runs number ≡ Some run → asked ≢ number →
    IsSameThread s.world (given_up s asked other how).state.world run.main
given_up-elsewhere s asked number other run how r its found apart =
    let h : IsSameThread s.world (stop_thread s.world other.main) run.main = stopped-elsewhere s asked number other run r its found apart in
    record { state = h.state; thread = h.thread }

-- a run that is handed out to its owner is taken away
hands : (s : State) (client owner asked number : ℕ) (other run : Run) (answer : ReplyBody) → IsOwnRun s client asked other → IsOwnRun s owner number run → asked ≡ number →
    is_over answer ≡ true → HandsOut client owner asked number answer
hands s client owner asked number other run answer its own same over =
    let both : Some other ≡ Some run = sym its.found ∙ ap (numbered s.world.runs) same ∙ own.found in
    let the_run : other ≡ run = cc in
    record { own = sym its.owner ∙ ap (λ (x : Run). x.owner) the_run ∙ own.owner; same = same; over = over }

collect-main : (s : State) (client asked owner number : ℕ) (run : Run) (acted : Acted) → IsReached s → IsOwnRun s owner number run → ¬ HandsOut client owner asked number acted.body →
    Collects s client asked acted → IsSameThread s.world acted.state.world run.main
collect-main s client asked owner number run acted r own stays (absent none is) = same-acted s acted _ run.main is (same-lists s.world s.world run.main refl refl)
collect-main s client asked owner number run acted r own stays (foreign other found there apart is) = same-acted s acted _ run.main is (same-lists s.world s.world run.main refl refl)
collect-main s client asked owner number run acted r own stays (running other its alive goes is) = same-acted s acted _ run.main is (same-lists s.world s.world run.main refl refl)
collect-main s client asked owner number run acted r own stays (ended other its dead is) = same-acted s acted _ run.main is (same-lists s.world _ run.main refl refl)
collect-main s client asked owner number run acted r own stays (stalled other its alive none is) = same-acted s acted _ run.main is (from (cases_eq asked number))
  where
    from : (asked ≡ number) ⊎ (asked ≡ number → ⊥) → IsSameThread s.world (given_up s asked other (outcome.Stalled (alive_threads s.world.states))).state.world run.main
    from (inl same) = absurd (stays (hands s client owner asked number other run acted.body its own same (ap (λ (a : Acted). is_over a.body) is)))
    from (inr apart) = given_up-elsewhere s asked number other run (outcome.Stalled (alive_threads s.world.states)) r its.found own.found apart

expire-main : (s : State) (client asked steps owner number : ℕ) (run : Run) (acted : Acted) → IsReached s → IsOwnRun s owner number run → ¬ HandsOut client owner asked number acted.body →
    Expires s client asked steps acted → IsSameThread s.world acted.state.world run.main
expire-main s client asked steps owner number run acted r own stays (absent none is) = same-acted s acted _ run.main is (same-lists s.world s.world run.main refl refl)
expire-main s client asked steps owner number run acted r own stays (foreign other found there apart is) = same-acted s acted _ run.main is (same-lists s.world s.world run.main refl refl)
expire-main s client asked steps owner number run acted r own stays (ended other its dead is) = same-acted s acted _ run.main is (same-lists s.world _ run.main refl refl)
expire-main s client asked steps owner number run acted r own stays (spent other its alive is) = same-acted s acted _ run.main is (from (cases_eq asked number))
  where
    from : (asked ≡ number) ⊎ (asked ≡ number → ⊥) → IsSameThread s.world (given_up s asked other (outcome.Spent steps)).state.world run.main
    from (inl same) = absurd (stays (hands s client owner asked number other run acted.body its own same (ap (λ (a : Acted). is_over a.body) is)))
    from (inr apart) = given_up-elsewhere s asked number other run (outcome.Spent steps) r its.found own.found apart

stop-main : (s : State) (client asked owner number : ℕ) (run : Run) (acted : Acted) → IsReached s → IsOwnRun s owner number run → asked ≢ number →
    Stops s client asked acted → IsSameThread s.world acted.state.world run.main
stop-main s client asked owner number run acted r own apart (absent none is) = same-acted s acted _ run.main is (same-lists s.world s.world run.main refl refl)
stop-main s client asked owner number run acted r own apart (standing other found there is) = same-acted s acted _ run.main is (from (is_thread_alive s.world other.main))
  where
    from : (alive : Bool) → IsSameThread s.world
        (cond alive (record s { world = record (stop_thread s.world other.main) { runs = set s.world.runs (asked - 1) (record other { stopper = Some client }) } }) s).world run.main
    from true =
        let h : IsSameThread s.world (stop_thread s.world other.main) run.main = stopped-elsewhere s asked number other run r found own.found apart in
        record { state = h.state; thread = h.thread }
    from false = same-lists s.world s.world run.main refl refl

enter-main : (s : State) (acted : Acted) (number : ℕ) → Enters s acted → IsSameThread s.world acted.state.world number
enter-main s acted number (full many is) = same-acted s acted _ number is (same-lists s.world s.world number refl refl)
enter-main s acted number (enters few is) = same-acted s acted _ number is (same-lists s.world _ number refl refl)

submit-main : (s : State) (client : ℕ) (source : List ℕ) (run : Run) (acted : Acted) → HasMain s.world.states s.world.threads run → Submits s client source acted →
    IsSameThread s.world acted.state.world run.main
submit-main s client source run acted has (full many is) = same-acted s acted _ run.main is (same-lists s.world s.world run.main refl refl)
submit-main s client source run acted has (rejected ds few found is) = same-acted s acted _ run.main is (same-lists s.world _ run.main refl refl)
submit-main s client source run acted has (crowded sum few found many is) = same-acted s acted _ run.main is (same-lists s.world s.world run.main refl refl)
submit-main s client source run acted has (accepted sum few found room is) = same-acted s acted _ run.main is (record {
  state = numbered-append s.world.states _ run.main has.state has.state_is ∙ sym has.state_is;
  thread = numbered-append s.world.threads _ run.main has.thread has.thread_is ∙ sym has.thread_is;
})

drop_id-main : (s : State) (id number : ℕ) (acted : Acted) → DropsId s id acted → IsSameThread s.world acted.state.world number
drop_id-main s id number acted (absent none is) = same-acted s acted _ number is (same-lists s.world s.world number refl refl)
drop_id-main s id number acted (idle x found why is) = same-acted s acted _ number is (same-lists s.world s.world number refl refl)
drop_id-main s id number acted (drops x found why is) = same-acted s acted _ number is (same-lists s.world _ number refl refl)

drop_name-main : (s : State) (name : List ℕ) (number : ℕ) (acted : Acted) → DropsName s name acted → IsSameThread s.world acted.state.world number
drop_name-main s name number acted (unclear many is) = same-acted s acted _ number is (same-lists s.world s.world number refl refl)
drop_name-main s name number acted (only live one is) = same-acted s acted _ number is (drop_id-main s live.id number (drop_id s live.id) (view-drop_id s live.id))

leave-main : (s : State) (client : ℕ) (run : Run) → HasMain s.world.states s.world.threads run → run.owner ≢ client →
    IsSameThread s.world (act_step s client act.Leave).state.world run.main
leave-main s client run has other =
    let at = stopped-at (Some client) s.world run.main has.state has.thread has.state_is has.thread_is in
    let apart : (has.thread.owner == client) ≡ false = ap (λ n. n == client) has.owner ∙ ne_eqb run.owner client other in
    let spared : is_stopped_with (Some client) has.state has.thread ≡ false = ap (λ b. is_alive has.state && b) apart ∙ neither (is_alive has.state) in
    record {
      state = at.0 ∙ ap (λ b. Some (cond b thread_state.Stopped has.state)) spared ∙ sym has.state_is;
      thread = at.1 ∙ ap (λ b. Some (cond b (ended_by_stop has.thread) has.thread)) spared ∙ sym has.thread_is;
    }
  where
    neither : (b : Bool) → (b && false) ≡ false
    neither true = refl
    neither false = refl

act-main : (s : State) (client : ℕ) (what : Act) (owner number : ℕ) (run : Run) → IsReached s → IsOwnRun s owner number run →
    ¬ Takes client what owner number (act_step s client what).body → ¬ IsStopOf what number → ¬ IsTurnOf what run.main → IsSameThread s.world (act_step s client what).state.world run.main
act-main s client act.Enter owner number run r own stays unstopped unturned = enter-main s (enter s) run.main (view-enter s)
act-main s client (act.Submit source) owner number run r own stays unstopped unturned =
    submit-main s client source run (submitted s client source) (r.world.main number run own.found) (view-submit s client source)
act-main s client (act.Turn thread steps) owner number run r own stays unstopped unturned =
    let leaves : LeavesOthers thread s.world (turned thread steps s.world).world = turned-leaves thread steps s.world in
    record { state = leaves.other_states run.main (λ e. unturned (sym e)); thread = leaves.other_threads run.main (λ e. unturned (sym e)) }
act-main s client (act.Collect asked) owner number run r own stays unstopped unturned = collect-main s client asked owner number run (collect s client asked) r own stays (view-collect s client asked)
act-main s client (act.Expire asked steps) owner number run r own stays unstopped unturned =
    expire-main s client asked steps owner number run (expire s client asked steps) r own stays (view-expire s client asked steps)
act-main s client (act.Stop asked) owner number run r own stays unstopped unturned = stop-main s client asked owner number run (stop s client asked) r own unstopped (view-stop s client asked)
act-main s client (act.Drop (target.Id id)) owner number run r own stays unstopped unturned = drop_id-main s id run.main (drop_id s id) (view-drop_id s id)
act-main s client (act.Drop (target.Named name)) owner number run r own stays unstopped unturned =
    drop_name-main s name run.main (drop_snippet s (target.Named name)) (view-drop_name s name)
act-main s client (act.Ask question) owner number run r own stays unstopped unturned = same-lists s.world s.world run.main refl refl
act-main s client act.Reset owner number run r own stays unstopped unturned = absurd (stays tt)
act-main s client act.Leave owner number run r own stays unstopped unturned = leave-main s client run (r.world.main number run own.found) (λ e. stays (sym e ∙ own.owner))
act-main s client act.Close owner number run r own stays unstopped unturned = same-lists s.world s.world run.main refl refl

-- Nothing changes the main thread of a run but a turn of it, a stop of the run, and what takes the run away: its owner's collect, expiry or leave, and a reset.
pub main-stays : (s : State) (entry : Entry) (owner number : ℕ) (run : Run) → IsReached s → IsOwnRun s owner number run → ¬ TakesAway s entry owner number →
    ¬ IsStopOf entry.act number → ¬ IsTurnOf entry.act run.main → IsSameThread s.world (step s entry).state.world run.main
main-stays s entry owner number run r own stays unstopped unturned =
    let acted : Acted = act_step s entry.client entry.act in
    let is : IsDelivered acted (delivered entry.client acted) = delivers entry.client acted in
    let h : IsSameThread s.world acted.state.world run.main =
    act-main s entry.client entry.act owner number run r own (λ t. stays (subst (λ (b : ReplyBody). Takes entry.client entry.act owner number b) (sym is.body) t)) unstopped unturned in
    record {
      state = ap (λ (l : List ThreadState). numbered l run.main) is.states ∙ h.state;
      thread = ap (λ (l : List Thread). numbered l run.main) is.threads ∙ h.thread;
    }

-- so the run goes on
pub alive-stays : (s : State) (entry : Entry) (owner number : ℕ) (run : Run) → IsReached s → IsOwnRun s owner number run → ¬ TakesAway s entry owner number →
    ¬ IsStopOf entry.act number → ¬ IsTurnOf entry.act run.main → is_thread_alive (step s entry).state.world run.main ≡ is_thread_alive s.world run.main
alive-stays s entry owner number run r own stays unstopped unturned =
    let h : IsSameThread s.world (step s entry).state.world run.main = main-stays s entry owner number run r own stays unstopped unturned in
    ap (λ (f : Option ThreadState). option_map_or is_alive f false) h.state
