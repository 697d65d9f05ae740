-- Threads and runs that have ended stay as they are, and how runs end.
use Rattle.std.proofs.Common.{◌≡◌, ℕ, ◌-◌, Bool, true, false, List, set, None, Some, refl, ap, sym, subst, ◌∙◌, cond}
use Rattle.jsh_snippet.specs.declared.acts.Act.{Act}
use Rattle.jsh_snippet.specs.declared.acts.Act.TheVariants as act
use Rattle.jsh_snippet.specs.declared.acts.Entry.{Entry}
use Rattle.jsh_snippet.specs.declared.acts.Target.TheVariants as target
use Rattle.jsh_snippet.specs.declared.replies.Outcome.{Outcome}
use Rattle.jsh_snippet.specs.declared.replies.Outcome.TheVariants as outcome
use Rattle.jsh_sched.specs.declared.ThreadState.{ThreadState}
use Rattle.jsh_sched.specs.ThreadState.{is_alive}
use Rattle.jsh_core.specs.declared.world.Run.{Run}
use Rattle.jsh_core.specs.declared.world.Thread.{Thread}
use Rattle.jsh_core.specs.State.{State, Acted, World, numbered}
use Rattle.jsh_core.specs.Snippets.{submitted}
use Rattle.jsh_core.specs.Threads.{is_thread_alive, stop_thread, stop_threads}
use Rattle.jsh_core.specs.Runs.{alive_threads, collect, expire, given_up, stop, stop_run}
use Rattle.jsh_core.specs.Drops.{drop_id, drop_snippet}
use Rattle.jsh_core.specs.Clients.{enter}
use Rattle.jsh_core.specs.Step.{act_step, delivered, step}
use Rattle.jsh_core.proofs.DeliveryLaws.{IsDelivered, delivers}
use Rattle.jsh_core.proofs.Numbered.{numbered-append}
use Rattle.jsh_core.proofs.ThreadLaws.{GoesOver, GoesOver-same, IsLater-same, stop_thread-over, stop_threads-over, turned-over}
use Rattle.jsh_core.proofs.Views.{Collects, DropsId, DropsName, Enters, Expires, Stops, Submits, view-collect, view-drop_id, view-drop_name, view-enter, view-expire, view-stop, view-submit}
use Rattle.jsh_core.proofs.Views.{absent, accepted, crowded, drops, ended, enters, foreign, full, idle, only, rejected, running, spent, stalled, standing, unclear}

-- a thread behind an act
abbrev Over : State → State → Type 0
Over s after = (number : ℕ) (state : ThreadState) (t : Thread) → numbered s.world.states number ≡ Some state → numbered s.world.threads number ≡ Some t →
    GoesOver s.world after.world number state t

over-same : (s after : State) → after.world.states ≡ s.world.states → after.world.threads ≡ s.world.threads → Over s after
over-same s after states threads number state t state_is thread_is = GoesOver-same s.world after.world number state t states threads state_is thread_is

-- a thread in a world with the same threads
over-in : (w middle after : World) (number : ℕ) (state : ThreadState) (t : Thread) → after.states ≡ middle.states → after.threads ≡ middle.threads →
    GoesOver w middle number state t → GoesOver w after number state t
over-in w middle after number state t states threads g = record {
  state_after = g.state_after;
  thread_after = g.thread_after;
  state_is = ap (λ (l : List ThreadState). numbered l number) states ∙ g.state_is;
  thread_is = ap (λ (l : List Thread). numbered l number) threads ∙ g.thread_is;
  later = g.later;
}

given_up-over : (s : State) (number : ℕ) (run : Run) (how : Outcome) → Over s (given_up s number run how).state
given_up-over s asked run how number state t state_is thread_is =
    over-in s.world (stop_thread s.world run.main) (given_up s asked run how).state.world number state t refl refl (stop_thread-over s.world run.main number state t state_is thread_is)

stop_run-over : (s : State) (client asked : ℕ) (run : Run) → Over s (stop_run s client asked run)
stop_run-over s client asked run number state t state_is thread_is = from (is_thread_alive s.world run.main)
  where
    from : (alive : Bool) → GoesOver s.world
        (cond alive (record s { world = record (stop_thread s.world run.main) { runs = set s.world.runs (asked - 1) (record run { stopper = Some client }) } }) s).world number state t
    from true = over-in s.world (stop_thread s.world run.main) _ number state t refl refl (stop_thread-over s.world run.main number state t state_is thread_is)
    from false = GoesOver-same s.world s.world number state t refl refl state_is thread_is

enter-over : (s : State) (acted : Acted) → Enters s acted → Over s acted.state
enter-over s acted (full many is) = over-same s acted.state (ap (λ (a : Acted). a.state.world.states) is) (ap (λ (a : Acted). a.state.world.threads) is)
enter-over s acted (enters few is) = over-same s acted.state (ap (λ (a : Acted). a.state.world.states) is) (ap (λ (a : Acted). a.state.world.threads) is)

submit-over : (s : State) (client : ℕ) (source : List ℕ) (acted : Acted) → Submits s client source acted → Over s acted.state
submit-over s client source acted (full many is) = over-same s acted.state (ap (λ (a : Acted). a.state.world.states) is) (ap (λ (a : Acted). a.state.world.threads) is)
submit-over s client source acted (rejected ds few found is) = over-same s acted.state (ap (λ (a : Acted). a.state.world.states) is) (ap (λ (a : Acted). a.state.world.threads) is)
submit-over s client source acted (crowded sum few found many is) = over-same s acted.state (ap (λ (a : Acted). a.state.world.states) is) (ap (λ (a : Acted). a.state.world.threads) is)
submit-over s client source acted (accepted sum few found room is) = λ number state t state_is thread_is. record {
  state_after = state;
  thread_after = t;
  state_is = ap (λ (a : Acted). numbered a.state.world.states number) is ∙ numbered-append s.world.states _ number state state_is;
  thread_is = ap (λ (a : Acted). numbered a.state.world.threads number) is ∙ numbered-append s.world.threads _ number t thread_is;
  later = IsLater-same state t;
}

collect-behind : (s : State) (client asked : ℕ) (acted : Acted) → Collects s client asked acted → Over s acted.state
collect-behind s client asked acted (absent none is) = over-same s acted.state (ap (λ (a : Acted). a.state.world.states) is) (ap (λ (a : Acted). a.state.world.threads) is)
collect-behind s client asked acted (foreign run found there other is) = over-same s acted.state (ap (λ (a : Acted). a.state.world.states) is) (ap (λ (a : Acted). a.state.world.threads) is)
collect-behind s client asked acted (running run own alive goes is) = over-same s acted.state (ap (λ (a : Acted). a.state.world.states) is) (ap (λ (a : Acted). a.state.world.threads) is)
collect-behind s client asked acted (stalled run own alive none is) = subst (λ (a : Acted). Over s a.state) (sym is)
    (given_up-over s asked run (outcome.Stalled (alive_threads s.world.states)))
collect-behind s client asked acted (ended run own dead is) = over-same s acted.state (ap (λ (a : Acted). a.state.world.states) is) (ap (λ (a : Acted). a.state.world.threads) is)

expire-behind : (s : State) (client asked steps : ℕ) (acted : Acted) → Expires s client asked steps acted → Over s acted.state
expire-behind s client asked steps acted (absent none is) = over-same s acted.state (ap (λ (a : Acted). a.state.world.states) is) (ap (λ (a : Acted). a.state.world.threads) is)
expire-behind s client asked steps acted (foreign run found there other is) = over-same s acted.state (ap (λ (a : Acted). a.state.world.states) is) (ap (λ (a : Acted). a.state.world.threads) is)
expire-behind s client asked steps acted (spent run own alive is) = subst (λ (a : Acted). Over s a.state) (sym is) (given_up-over s asked run (outcome.Spent steps))
expire-behind s client asked steps acted (ended run own dead is) = over-same s acted.state (ap (λ (a : Acted). a.state.world.states) is) (ap (λ (a : Acted). a.state.world.threads) is)

stops-behind : (s : State) (client asked : ℕ) (acted : Acted) → Stops s client asked acted → Over s acted.state
stops-behind s client asked acted (absent none is) = over-same s acted.state (ap (λ (a : Acted). a.state.world.states) is) (ap (λ (a : Acted). a.state.world.threads) is)
stops-behind s client asked acted (standing run found there is) = subst (λ (a : Acted). Over s a.state) (sym is) (stop_run-over s client asked run)

drop_id-behind : (s : State) (id : ℕ) (acted : Acted) → DropsId s id acted → Over s acted.state
drop_id-behind s id acted (absent none is) = over-same s acted.state (ap (λ (a : Acted). a.state.world.states) is) (ap (λ (a : Acted). a.state.world.threads) is)
drop_id-behind s id acted (idle x found why is) = over-same s acted.state (ap (λ (a : Acted). a.state.world.states) is) (ap (λ (a : Acted). a.state.world.threads) is)
drop_id-behind s id acted (drops x found why is) = over-same s acted.state (ap (λ (a : Acted). a.state.world.states) is) (ap (λ (a : Acted). a.state.world.threads) is)

drop_name-behind : (s : State) (name : List ℕ) (acted : Acted) → DropsName s name acted → Over s acted.state
drop_name-behind s name acted (unclear many is) = over-same s acted.state (ap (λ (a : Acted). a.state.world.states) is) (ap (λ (a : Acted). a.state.world.threads) is)
drop_name-behind s name acted (only live one is) = subst (λ (a : Acted). Over s a.state) (sym is) (drop_id-behind s live.id (drop_id s live.id) (view-drop_id s live.id))

act-over : (s : State) (client : ℕ) (what : Act) → Over s (act_step s client what).state
act-over s client act.Enter = enter-over s (enter s) (view-enter s)
act-over s client (act.Submit source) = submit-over s client source (submitted s client source) (view-submit s client source)
act-over s client (act.Turn thread steps) = λ number state t state_is thread_is. turned-over thread steps s.world number state t state_is thread_is
act-over s client (act.Collect run) = collect-behind s client run (collect s client run) (view-collect s client run)
act-over s client (act.Expire run steps) = expire-behind s client run steps (expire s client run steps) (view-expire s client run steps)
act-over s client (act.Stop run) = stops-behind s client run (stop s client run) (view-stop s client run)
act-over s client (act.Drop (target.Id id)) = drop_id-behind s id (drop_id s id) (view-drop_id s id)
act-over s client (act.Drop (target.Named name)) = drop_name-behind s name (drop_snippet s (target.Named name)) (view-drop_name s name)
act-over s client (act.Ask question) = over-same s s refl refl
act-over s client act.Reset = λ number state t state_is thread_is.
    over-in s.world (stop_threads None s.world) (act_step s client act.Reset).state.world number state t refl refl (stop_threads-over None s.world number state t state_is thread_is)
act-over s client act.Leave = λ number state t state_is thread_is.
    over-in s.world (stop_threads (Some client) s.world) (act_step s client act.Leave).state.world number state t refl refl (stop_threads-over (Some client) s.world number state t state_is thread_is)
act-over s client act.Close = over-same s s refl refl

-- a thread behind any entry: it is the same client's, has done no fewer steps, and is as it was where it had ended
pub step-over : (s : State) (entry : Entry) (number : ℕ) (state : ThreadState) (t : Thread) → numbered s.world.states number ≡ Some state → numbered s.world.threads number ≡ Some t →
    GoesOver s.world (step s entry).state.world number state t
step-over s entry number state t state_is thread_is =
    let acted : Acted = act_step s entry.client entry.act in
    let is : IsDelivered acted (delivered entry.client acted) = delivers entry.client acted in
    over-in s.world acted.state.world (delivered entry.client acted).state.world number state t is.states is.threads (act-over s entry.client entry.act number state t state_is thread_is)

-- a thread that isn't alive stays as it is
pub dead-stays : (s : State) (entry : Entry) (number : ℕ) (state : ThreadState) (t : Thread) → numbered s.world.states number ≡ Some state → numbered s.world.threads number ≡ Some t →
    is_alive state ≡ false → (numbered (step s entry).state.world.states number ≡ Some state) × (numbered (step s entry).state.world.threads number ≡ Some t)
dead-stays s entry number state t state_is thread_is dead =
    let g : GoesOver s.world (step s entry).state.world number state t = step-over s entry number state t state_is thread_is in
    let same : (g.state_after ≡ state) × (g.thread_after ≡ t) = g.later.dead dead in
    (g.state_is ∙ ap Some same.0, g.thread_is ∙ ap Some same.1)
