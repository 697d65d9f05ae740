-- Which parts of a state each act leaves as they were.
use Rattle.std.proofs.Common.{◌≡◌, ℕ, ◌-◌, Bool, true, false, List, set, Some, refl, ap, sym, subst, cond}
use Rattle.jsh_snippet.specs.declared.acts.Act.TheVariants as act
use Rattle.jsh_snippet.specs.declared.acts.Question.{Question}
use Rattle.jsh_snippet.specs.declared.acts.Target.{Target}
use Rattle.jsh_snippet.specs.declared.acts.Target.TheVariants as target
use Rattle.jsh_snippet.specs.declared.replies.Outcome.{Outcome}
use Rattle.jsh_snippet.specs.declared.replies.Outcome.TheVariants as outcome
use Rattle.jsh_core.specs.declared.world.Run.{Run}
use Rattle.jsh_core.specs.State.{State, Acted, World}
use Rattle.jsh_core.specs.Snippets.{submitted}
use Rattle.jsh_core.specs.Threads.{is_thread_alive, stop_thread, turned}
use Rattle.jsh_core.specs.Runs.{alive_threads, collect, expire, given_up, stop, stop_run}
use Rattle.jsh_core.specs.Drops.{drop_id, drop_snippet}
use Rattle.jsh_core.specs.Clients.{enter}
use Rattle.jsh_core.specs.Step.{act_step}
use Rattle.jsh_core.proofs.ThreadLaws.{StopsThread, view-stop_thread}
use Rattle.jsh_core.proofs.ThreadLaws.StopsThread.{idle, missing, stops}
use Rattle.jsh_core.proofs.ThreadLaws.{LeavesOthers, stop_thread-leaves, turned-leaves}
use Rattle.jsh_core.proofs.Views.{Collects, DropsId, DropsName, Enters, Expires, Stops, Submits, view-collect, view-drop_id, view-drop_name, view-enter, view-expire, view-stop, view-submit}
use Rattle.jsh_core.proofs.Views.{absent, accepted, crowded, drops, ended, enters, foreign, full, idle, only, rejected, running, spent, stalled, standing, unclear}

-- an entering client changes the clients and their pending output
pub record KeptByEnter (s after : State) : Type 0 where
  pub book : after.book ≡ s.book
  pub generation : after.generation ≡ s.generation
  pub cells : after.world.cells ≡ s.world.cells
  pub states : after.world.states ≡ s.world.states
  pub threads : after.world.threads ≡ s.world.threads
  pub runs : after.world.runs ≡ s.world.runs

-- a snippet changes the book, what is published, and the world, but neither clients nor output
pub record KeptBySubmit (s after : State) : Type 0 where
  pub clients : after.clients ≡ s.clients
  pub pending : after.world.pending ≡ s.world.pending

-- a turn changes cells and the thread that it is of
pub record KeptByTurn (s after : State) : Type 0 where
  pub book : after.book ≡ s.book
  pub generation : after.generation ≡ s.generation
  pub clients : after.clients ≡ s.clients
  pub runs : after.world.runs ≡ s.world.runs
  pub pending : after.world.pending ≡ s.world.pending

-- an act on a run changes runs and threads
pub record KeptByRunAct (s after : State) : Type 0 where
  pub book : after.book ≡ s.book
  pub generation : after.generation ≡ s.generation
  pub clients : after.clients ≡ s.clients
  pub cells : after.world.cells ≡ s.world.cells
  pub pending : after.world.pending ≡ s.world.pending

-- a drop changes the book and what is published
pub record KeptByDrop (s after : State) : Type 0 where
  pub clients : after.clients ≡ s.clients
  pub world : after.world ≡ s.world

-- a reset changes neither clients nor output
pub record KeptByReset (s after : State) : Type 0 where
  pub clients : after.clients ≡ s.clients
  pub pending : after.world.pending ≡ s.world.pending

-- a leave changes the clients, and their threads and runs
pub record KeptByLeave (s after : State) : Type 0 where
  pub book : after.book ≡ s.book
  pub generation : after.generation ≡ s.generation
  pub cells : after.world.cells ≡ s.world.cells
  pub pending : after.world.pending ≡ s.world.pending

pub enter-keeps : (s : State) (client : ℕ) → KeptByEnter s (act_step s client act.Enter).state
enter-keeps s client = from (enter s) (view-enter s)
  where
    from : (acted : Acted) → Enters s acted → KeptByEnter s acted.state
    from acted (full many is) = subst (λ (a : Acted). KeptByEnter s a.state) (sym is)
        (record { book = refl; generation = refl; cells = refl; states = refl; threads = refl; runs = refl })
    from acted (enters few is) = subst (λ (a : Acted). KeptByEnter s a.state) (sym is)
        (record { book = refl; generation = refl; cells = refl; states = refl; threads = refl; runs = refl })

pub submit-keeps : (s : State) (client : ℕ) (source : List ℕ) → KeptBySubmit s (act_step s client (act.Submit source)).state
submit-keeps s client source = from (submitted s client source) (view-submit s client source)
  where
    from : (acted : Acted) → Submits s client source acted → KeptBySubmit s acted.state
    from acted (full many is) = subst (λ (a : Acted). KeptBySubmit s a.state) (sym is) (record { clients = refl; pending = refl })
    from acted (rejected ds few found is) = subst (λ (a : Acted). KeptBySubmit s a.state) (sym is) (record { clients = refl; pending = refl })
    from acted (crowded sum few found many is) = subst (λ (a : Acted). KeptBySubmit s a.state) (sym is) (record { clients = refl; pending = refl })
    from acted (accepted sum few found room is) = subst (λ (a : Acted). KeptBySubmit s a.state) (sym is) (record { clients = refl; pending = refl })

pub turn-keeps : (s : State) (client thread steps : ℕ) → KeptByTurn s (act_step s client (act.Turn thread steps)).state
turn-keeps s client thread steps =
    let leaves : LeavesOthers thread s.world (turned thread steps s.world).world = turned-leaves thread steps s.world in
    record { book = refl; generation = refl; clients = refl; runs = leaves.runs; pending = leaves.pending }

stop_thread-cells : (w : World) (number : ℕ) → (stop_thread w number).cells ≡ w.cells
stop_thread-cells w number = from (stop_thread w number) (view-stop_thread w number)
  where
    from : (after : World) → StopsThread w number after → after.cells ≡ w.cells
    from after (idle dead is) = ap (λ (x : World). x.cells) is
    from after (missing none is) = ap (λ (x : World). x.cells) is
    from after (stops state t state_is lives thread_is is) = ap (λ (x : World). x.cells) is

same_kept : (s : State) → KeptByRunAct s s
same_kept s = record { book = refl; generation = refl; clients = refl; cells = refl; pending = refl }

given_up-keeps : (s : State) (number : ℕ) (run : Run) (how : Outcome) → KeptByRunAct s (given_up s number run how).state
given_up-keeps s number run how =
    let leaves : LeavesOthers run.main s.world (stop_thread s.world run.main) = stop_thread-leaves s.world run.main in
    record { book = refl; generation = refl; clients = refl; cells = stop_thread-cells s.world run.main; pending = leaves.pending }

pub collect-keeps : (s : State) (client number : ℕ) → KeptByRunAct s (act_step s client (act.Collect number)).state
collect-keeps s client number = from (collect s client number) (view-collect s client number)
  where
    from : (acted : Acted) → Collects s client number acted → KeptByRunAct s acted.state
    from acted (absent none is) = subst (λ (a : Acted). KeptByRunAct s a.state) (sym is) (same_kept s)
    from acted (foreign run found there other is) = subst (λ (a : Acted). KeptByRunAct s a.state) (sym is) (same_kept s)
    from acted (running run own alive goes is) = subst (λ (a : Acted). KeptByRunAct s a.state) (sym is) (same_kept s)
    from acted (stalled run own alive none is) = subst (λ (a : Acted). KeptByRunAct s a.state) (sym is)
        (given_up-keeps s number run (outcome.Stalled (alive_threads s.world.states)))
    from acted (ended run own dead is) = subst (λ (a : Acted). KeptByRunAct s a.state) (sym is)
        (record { book = refl; generation = refl; clients = refl; cells = refl; pending = refl })

pub expire-keeps : (s : State) (client number steps : ℕ) → KeptByRunAct s (act_step s client (act.Expire number steps)).state
expire-keeps s client number steps = from (expire s client number steps) (view-expire s client number steps)
  where
    from : (acted : Acted) → Expires s client number steps acted → KeptByRunAct s acted.state
    from acted (absent none is) = subst (λ (a : Acted). KeptByRunAct s a.state) (sym is) (same_kept s)
    from acted (foreign run found there other is) = subst (λ (a : Acted). KeptByRunAct s a.state) (sym is) (same_kept s)
    from acted (spent run own alive is) = subst (λ (a : Acted). KeptByRunAct s a.state) (sym is) (given_up-keeps s number run (outcome.Spent steps))
    from acted (ended run own dead is) = subst (λ (a : Acted). KeptByRunAct s a.state) (sym is)
        (record { book = refl; generation = refl; clients = refl; cells = refl; pending = refl })

stop_run-keeps : (s : State) (client number : ℕ) (run : Run) → KeptByRunAct s (stop_run s client number run)
stop_run-keeps s client number run = from (is_thread_alive s.world run.main)
  where
    leaves : LeavesOthers run.main s.world (stop_thread s.world run.main)
    leaves = stop_thread-leaves s.world run.main

    from : (alive : Bool) → KeptByRunAct s (cond alive (record s { world = record (stop_thread s.world run.main) { runs = set s.world.runs (number - 1) (record run { stopper = Some client }) } }) s)
    from true = record { book = refl; generation = refl; clients = refl; cells = stop_thread-cells s.world run.main; pending = leaves.pending }
    from false = same_kept s

pub stop-keeps : (s : State) (client number : ℕ) → KeptByRunAct s (act_step s client (act.Stop number)).state
stop-keeps s client number = from (stop s client number) (view-stop s client number)
  where
    from : (acted : Acted) → Stops s client number acted → KeptByRunAct s acted.state
    from acted (absent none is) = subst (λ (a : Acted). KeptByRunAct s a.state) (sym is) (same_kept s)
    from acted (standing run found there is) = subst (λ (a : Acted). KeptByRunAct s a.state) (sym is) (stop_run-keeps s client number run)

drop_id-keeps : (s : State) (id : ℕ) (acted : Acted) → DropsId s id acted → KeptByDrop s acted.state
drop_id-keeps s id acted (absent none is) = subst (λ (a : Acted). KeptByDrop s a.state) (sym is) (record { clients = refl; world = refl })
drop_id-keeps s id acted (idle x found why is) = subst (λ (a : Acted). KeptByDrop s a.state) (sym is) (record { clients = refl; world = refl })
drop_id-keeps s id acted (drops x found why is) = subst (λ (a : Acted). KeptByDrop s a.state) (sym is) (record { clients = refl; world = refl })

drop_name-keeps : (s : State) (name : List ℕ) (acted : Acted) → DropsName s name acted → KeptByDrop s acted.state
drop_name-keeps s name acted (unclear many is) = subst (λ (a : Acted). KeptByDrop s a.state) (sym is) (record { clients = refl; world = refl })
drop_name-keeps s name acted (only live one is) = subst (λ (a : Acted). KeptByDrop s a.state) (sym is) (drop_id-keeps s live.id (drop_id s live.id) (view-drop_id s live.id))

pub drop-keeps : (s : State) (client : ℕ) (what : Target) → KeptByDrop s (act_step s client (act.Drop what)).state
drop-keeps s client (target.Id id) = drop_id-keeps s id (drop_id s id) (view-drop_id s id)
drop-keeps s client (target.Named name) = drop_name-keeps s name (drop_snippet s (target.Named name)) (view-drop_name s name)

pub reset-keeps : (s : State) (client : ℕ) → KeptByReset s (act_step s client act.Reset).state
reset-keeps s client = record { clients = refl; pending = refl }

pub leave-keeps : (s : State) (client : ℕ) → KeptByLeave s (act_step s client act.Leave).state
leave-keeps s client = record { book = refl; generation = refl; cells = refl; pending = refl }

pub ask-keeps : (s : State) (client : ℕ) (what : Question) → (act_step s client (act.Ask what)).state ≡ s
ask-keeps s client what = refl

pub close-keeps : (s : State) (client : ℕ) → (act_step s client act.Close).state ≡ s
close-keeps s client = refl
