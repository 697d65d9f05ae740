-- Numbers only grow.
use Rattle.std.proofs.Common.{◌≡◌, ℕ, suc, ◌+◌, ◌-◌, ◌≤◌, Bool, true, false, List, [], ◌∷◌, map, set, Option, None, Some, length, length-set, length-append, refl, ap, sym, subst, ◌∙◌, arith, cond}
use Rattle.std.proofs.Math.Nat.{le_refl}
use Rattle.jsh_snippet.specs.declared.acts.Act.{Act}
use Rattle.jsh_snippet.specs.declared.acts.Act.TheVariants as act
use Rattle.jsh_snippet.specs.declared.acts.Entry.{Entry}
use Rattle.jsh_snippet.specs.declared.acts.Target.TheVariants as target
use Rattle.jsh_snippet.specs.declared.replies.Outcome.{Outcome}
use Rattle.jsh_snippet.specs.declared.replies.Outcome.TheVariants as outcome
use Rattle.jsh_sched.specs.declared.ThreadState.{ThreadState}
use Rattle.jsh_core.specs.declared.generation.Live.{Live}
use Rattle.jsh_core.specs.declared.world.Run.{Run}
use Rattle.jsh_core.specs.declared.world.Thread.{Thread}
use Rattle.jsh_core.specs.State.{State, Acted, Generation}
use Rattle.jsh_core.specs.Snippets.{submitted}
use Rattle.jsh_core.specs.Threads.{is_thread_alive, stop_thread, stop_threads, turned}
use Rattle.jsh_core.specs.Runs.{alive_threads, collect, dropped, dropped_for, expire, given_up, stop, stop_run}
use Rattle.jsh_core.specs.Drops.{drop_id, drop_snippet, generation_without, live_of}
use Rattle.jsh_core.specs.Clients.{enter}
use Rattle.jsh_core.specs.Step.{act_step, delivered, step}
use Rattle.jsh_core.proofs.DeliveryLaws.{IsDelivered, delivers}
use Rattle.jsh_core.proofs.ThreadLaws.{LeavesOthers, stop_thread-leaves, stopped-lengths, turned-leaves}
use Rattle.jsh_core.proofs.Views.{Collects, DropsId, DropsName, Enters, Expires, Stops, Submits, view-collect, view-drop_id, view-drop_name, view-enter, view-expire, view-stop, view-submit}
use Rattle.jsh_core.proofs.Views.{absent, accepted, crowded, drops, ended, enters, foreign, full, idle, only, rejected, running, spent, stalled, standing, unclear}

-- numbers of clients, threads, runs and generations go on, whatever is done
pub record Grows (s after : State) : Type 0 where
  pub clients : length s.clients ≤ length after.clients
  pub states : length s.world.states ≤ length after.world.states
  pub threads : length s.world.threads ≤ length after.world.threads
  pub runs : length s.world.runs ≤ length after.world.runs
  pub generation : s.generation.number ≤ after.generation.number
  pub fits : length s.world.states ≡ length s.world.threads → length after.world.states ≡ length after.world.threads

Grows-same : (s : State) → Grows s s
Grows-same s = record {
  clients = le_refl (length s.clients);
  states = le_refl (length s.world.states);
  threads = le_refl (length s.world.threads);
  runs = le_refl (length s.world.runs);
  generation = le_refl s.generation.number;
  fits = λ e. e;
}

-- where all lists stay as long as they are
record IsAsLong (s after : State) : Type 0 where
  clients : length after.clients ≡ length s.clients
  states : length after.world.states ≡ length s.world.states
  threads : length after.world.threads ≡ length s.world.threads
  runs : length after.world.runs ≡ length s.world.runs
  generation : s.generation.number ≤ after.generation.number

grows-as_long : (s after : State) → IsAsLong s after → Grows s after
grows-as_long s after h = record {
  clients = omega (arith, h.clients);
  states = omega (arith, h.states);
  threads = omega (arith, h.threads);
  runs = omega (arith, h.runs);
  generation = h.generation;
  fits = λ e. h.states ∙ e ∙ sym h.threads;
}

given_up-grows : (s : State) (number : ℕ) (run : Run) (how : Outcome) → Grows s (given_up s number run how).state
given_up-grows s number run how =
    let leaves : LeavesOthers run.main s.world (stop_thread s.world run.main) = stop_thread-leaves s.world run.main in
    grows-as_long s (given_up s number run how).state (record {
      clients = refl;
      states = leaves.states;
      threads = leaves.threads;
      runs = length-set (stop_thread s.world run.main).runs (number - 1) (record run { gone = true }) ∙ ap length leaves.runs;
      generation = le_refl s.generation.number;
    })

stop_run-grows : (s : State) (client number : ℕ) (run : Run) → Grows s (stop_run s client number run)
stop_run-grows s client number run = from (is_thread_alive s.world run.main)
  where
    leaves : LeavesOthers run.main s.world (stop_thread s.world run.main)
    leaves = stop_thread-leaves s.world run.main

    from : (alive : Bool) → Grows s (cond alive (record s { world = record (stop_thread s.world run.main) { runs = set s.world.runs (number - 1) (record run { stopper = Some client }) } }) s)
    from true = grows-as_long s _ (record {
      clients = refl;
      states = leaves.states;
      threads = leaves.threads;
      runs = length-set s.world.runs (number - 1) (record run { stopper = Some client });
      generation = le_refl s.generation.number;
    })
    from false = Grows-same s

map-length : (f : Run → Run) (runs : List Run) → length (map f runs) ≡ length runs
map-length f [] = refl
map-length f (run ∷ runs) = ap suc (map-length f runs)

stopped-grows : (s after : State) (owner : Option ℕ) (f : Run → Run) → after.world.states ≡ (stop_threads owner s.world).states → after.world.threads ≡ (stop_threads owner s.world).threads →
    after.world.runs ≡ map f s.world.runs → length after.clients ≡ length s.clients → s.generation.number ≤ after.generation.number → Grows s after
stopped-grows s after owner f states threads runs clients generation =
    let lengths = stopped-lengths owner s.world.states s.world.threads in
    grows-as_long s after (record {
      clients = clients;
      states = ap length states ∙ lengths.0;
      threads = ap length threads ∙ lengths.1;
      runs = ap length runs ∙ map-length f s.world.runs;
      generation = generation;
    })

generation-without_grows : (g : Generation) (id : ℕ) (live : Option Live) → g.number ≤ (generation_without g id live).number
generation-without_grows g id None = le_refl g.number
generation-without_grows g id (Some live) = omega arith

enter-grows : (s : State) (acted : Acted) → Enters s acted → Grows s acted.state
enter-grows s acted (full many is) = subst (λ (a : Acted). Grows s a.state) (sym is) (Grows-same s)
enter-grows s acted (enters few is) = subst (λ (a : Acted). Grows s a.state) (sym is) (record {
  clients = simp length-append (omega arith);
  states = le_refl (length s.world.states);
  threads = le_refl (length s.world.threads);
  runs = le_refl (length s.world.runs);
  generation = le_refl s.generation.number;
  fits = λ e. e;
})

submit-grows : (s : State) (client : ℕ) (source : List ℕ) (acted : Acted) → Submits s client source acted → Grows s acted.state
submit-grows s client source acted (full many is) = subst (λ (a : Acted). Grows s a.state) (sym is) (Grows-same s)
submit-grows s client source acted (rejected ds few found is) = subst (λ (a : Acted). Grows s a.state) (sym is)
    (grows-as_long s _ (record { clients = refl; states = refl; threads = refl; runs = refl; generation = le_refl s.generation.number }))
submit-grows s client source acted (crowded sum few found many is) = subst (λ (a : Acted). Grows s a.state) (sym is) (Grows-same s)
submit-grows s client source acted (accepted sum few found room is) = subst (λ (a : Acted). Grows s a.state) (sym is) (record {
  clients = le_refl (length s.clients);
  states = simp length-append (omega arith);
  threads = simp length-append (omega arith);
  runs = simp length-append (omega arith);
  generation = omega arith;
  fits = λ e. simp length-append (ap (λ n. n + 1) e);
})

collect-grows : (s : State) (client number : ℕ) (acted : Acted) → Collects s client number acted → Grows s acted.state
collect-grows s client number acted (absent none is) = subst (λ (a : Acted). Grows s a.state) (sym is) (Grows-same s)
collect-grows s client number acted (foreign run found there other is) = subst (λ (a : Acted). Grows s a.state) (sym is) (Grows-same s)
collect-grows s client number acted (running run own alive goes is) = subst (λ (a : Acted). Grows s a.state) (sym is) (Grows-same s)
collect-grows s client number acted (stalled run own alive none is) = subst (λ (a : Acted). Grows s a.state) (sym is)
    (given_up-grows s number run (outcome.Stalled (alive_threads s.world.states)))
collect-grows s client number acted (ended run own dead is) = subst (λ (a : Acted). Grows s a.state) (sym is) (grows-as_long s _
    (record { clients = refl; states = refl; threads = refl; runs = length-set s.world.runs (number - 1) (record run { gone = true }); generation = le_refl s.generation.number }))

expire-grows : (s : State) (client number steps : ℕ) (acted : Acted) → Expires s client number steps acted → Grows s acted.state
expire-grows s client number steps acted (absent none is) = subst (λ (a : Acted). Grows s a.state) (sym is) (Grows-same s)
expire-grows s client number steps acted (foreign run found there other is) = subst (λ (a : Acted). Grows s a.state) (sym is) (Grows-same s)
expire-grows s client number steps acted (spent run own alive is) = subst (λ (a : Acted). Grows s a.state) (sym is) (given_up-grows s number run (outcome.Spent steps))
expire-grows s client number steps acted (ended run own dead is) = subst (λ (a : Acted). Grows s a.state) (sym is) (grows-as_long s _
    (record { clients = refl; states = refl; threads = refl; runs = length-set s.world.runs (number - 1) (record run { gone = true }); generation = le_refl s.generation.number }))

stops-grows : (s : State) (client number : ℕ) (acted : Acted) → Stops s client number acted → Grows s acted.state
stops-grows s client number acted (absent none is) = subst (λ (a : Acted). Grows s a.state) (sym is) (Grows-same s)
stops-grows s client number acted (standing run found there is) = subst (λ (a : Acted). Grows s a.state) (sym is) (stop_run-grows s client number run)

drop_id-grows : (s : State) (id : ℕ) (acted : Acted) → DropsId s id acted → Grows s acted.state
drop_id-grows s id acted (absent none is) = subst (λ (a : Acted). Grows s a.state) (sym is) (Grows-same s)
drop_id-grows s id acted (idle x found why is) = subst (λ (a : Acted). Grows s a.state) (sym is) (Grows-same s)
drop_id-grows s id acted (drops x found why is) = subst (λ (a : Acted). Grows s a.state) (sym is) (grows-as_long s _
    (record { clients = refl; states = refl; threads = refl; runs = refl; generation = generation-without_grows s.generation id (live_of s.generation id) }))

drop_name-grows : (s : State) (name : List ℕ) (acted : Acted) → DropsName s name acted → Grows s acted.state
drop_name-grows s name acted (unclear many is) = subst (λ (a : Acted). Grows s a.state) (sym is) (Grows-same s)
drop_name-grows s name acted (only live one is) = subst (λ (a : Acted). Grows s a.state) (sym is) (drop_id-grows s live.id (drop_id s live.id) (view-drop_id s live.id))

turn-grows : (s : State) (client thread steps : ℕ) → Grows s (act_step s client (act.Turn thread steps)).state
turn-grows s client thread steps =
    let leaves : LeavesOthers thread s.world (turned thread steps s.world).world = turned-leaves thread steps s.world in
    grows-as_long s (act_step s client (act.Turn thread steps)).state
    (record { clients = refl; states = leaves.states; threads = leaves.threads; runs = ap length leaves.runs; generation = le_refl s.generation.number })

act-grows : (s : State) (client : ℕ) (what : Act) → Grows s (act_step s client what).state
act-grows s client act.Enter = enter-grows s (enter s) (view-enter s)
act-grows s client (act.Submit source) = submit-grows s client source (submitted s client source) (view-submit s client source)
act-grows s client (act.Turn thread steps) = turn-grows s client thread steps
act-grows s client (act.Collect run) = collect-grows s client run (collect s client run) (view-collect s client run)
act-grows s client (act.Expire run steps) = expire-grows s client run steps (expire s client run steps) (view-expire s client run steps)
act-grows s client (act.Stop run) = stops-grows s client run (stop s client run) (view-stop s client run)
act-grows s client (act.Drop (target.Id id)) = drop_id-grows s id (drop_id s id) (view-drop_id s id)
act-grows s client (act.Drop (target.Named name)) = drop_name-grows s name (drop_snippet s (target.Named name)) (view-drop_name s name)
act-grows s client (act.Ask question) = Grows-same s
act-grows s client act.Reset = stopped-grows s (act_step s client act.Reset).state None dropped refl refl refl refl (omega arith)
act-grows s client act.Leave =
    stopped-grows s (act_step s client act.Leave).state (Some client) (dropped_for client) refl refl refl (length-set s.clients client false) (le_refl s.generation.number)
act-grows s client act.Close = Grows-same s

pub step-grows : (s : State) (entry : Entry) → Grows s (step s entry).state
step-grows s entry =
    let acted : Acted = act_step s entry.client entry.act in
    let is : IsDelivered acted (delivered entry.client acted) = delivers entry.client acted in
    let h : Grows s acted.state = act-grows s entry.client entry.act in
    record {
      clients = subst (λ (l : List Bool). length s.clients ≤ length l) (sym is.clients) h.clients;
      states = subst (λ (l : List ThreadState). length s.world.states ≤ length l) (sym is.states) h.states;
      threads = subst (λ (l : List Thread). length s.world.threads ≤ length l) (sym is.threads) h.threads;
      runs = subst (λ (l : List Run). length s.world.runs ≤ length l) (sym is.runs) h.runs;
      generation = subst (λ (g : Generation). s.generation.number ≤ g.number) (sym is.generation) h.generation;
      fits = λ e. ap length is.states ∙ h.fits e ∙ sym (ap length is.threads);
    }

-- each thread has a state after any entry, where each had one before it
pub step-fits : (s : State) (entry : Entry) → length s.world.states ≡ length s.world.threads →
    length (step s entry).state.world.states ≡ length (step s entry).state.world.threads
step-fits s entry fits = let h : Grows s (step s entry).state = step-grows s entry in h.fits fits
