-- What becomes of runs.
use Rattle.std.specs.Prelude.{ℕ, ◌-◌, ◌==◌, List, [], ◌∷◌, Option, None, Some, Bool, true, not, ◌||◌, if◌then◌else◌, slice_set}
use Rattle.std.specs.Option.{option_and_then, option_map_or, unwrap_or}
use Rattle.std.specs.List.{list_any, enumerate_from}
use Rattle.std.specs.Prelude.{map, filter}
use Rattle.jsh_snippet.specs.declared.replies.ReplyBody.TheVariants as body
use Rattle.jsh_snippet.specs.declared.replies.Collected.TheVariants as «collected»
use Rattle.jsh_snippet.specs.declared.replies.Outcome.{Outcome}
use Rattle.jsh_snippet.specs.declared.replies.Outcome.TheVariants as outcome
use Rattle.jsh_snippet.specs.declared.replies.Refusal.TheVariants as refusal
use Rattle.jsh_snippet.specs.Keys.{temporary_name}
use Rattle.jsh_sched.specs.declared.ThreadState.{ThreadState}
use Rattle.jsh_sched.specs.ThreadState.{is_ready, is_alive}
use Rattle.jsh_core.specs.declared.world.Thread.{Thread}
use Rattle.jsh_core.specs.declared.world.ThreadEnd.{ThreadEnd}
use Rattle.jsh_core.specs.declared.world.ThreadEnd.TheVariants as thread_end
use Rattle.jsh_core.specs.declared.world.Run.{Run}
use Rattle.jsh_core.specs.declared.world.RunView.{RunView}
use Rattle.jsh_core.specs.State.{State, World, Acted, answers, refuses, numbered}
use Rattle.jsh_core.specs.Threads.{is_thread_alive, stop_thread}

-- how the main thread of a run has ended
abbrev pub end_of : World → Run → Option ThreadEnd
end_of w run = option_and_then (λ (t : Thread). t.end) (numbered w.threads run.main)

-- the steps of the main thread so far
abbrev pub steps_so_far : World → Run → ℕ
steps_so_far w run = option_map_or (λ (t : Thread). t.steps) (numbered w.threads run.main) 0

-- a body that has returned a text has a value, and one that has returned nothing has finished
abbrev pub returned_with : Option (List ℕ) → Outcome
returned_with (Some text) = outcome.Value text
returned_with None = outcome.Finished

-- the client that has stopped a run: who asked for it, or else its owner
abbrev pub stopper_of : Run → ℕ
stopper_of run = unwrap_or run.stopper run.owner

-- the outcome of a run whose main thread has ended so
abbrev pub outcome_with : Run → Option ThreadEnd → Outcome
outcome_with run (Some (thread_end.Returned text)) = returned_with text
outcome_with run (Some thread_end.Stopped) = outcome.Stopped (stopper_of run)
outcome_with run None = outcome.Stopped (stopper_of run)

-- how a run has ended whose main thread isn't alive
abbrev pub outcome_of : World → Run → Outcome
outcome_of w run = outcome_with run (end_of w run)

-- a run that is gone can't be asked for any more
abbrev pub set_gone : World → ℕ → Run → World
set_gone w number run = record w { runs = slice_set w.runs (number - 1) (record run { gone = true }) }

-- a run is handed out with this outcome, and can't be asked for again
abbrev pub handed_out : State → World → ℕ → Run → Outcome → Acted
handed_out s w number run how = record {
  state = record s { world = set_gone w number run };
  body = body.Collected («collected».Over run.snippet (temporary_name run.snippet) how);
}

-- a run that has ended is handed out with its own outcome
abbrev pub over : State → ℕ → Run → Acted
over s number run = handed_out s s.world number run (outcome_of s.world run)

-- a run that hasn't ended is given up with this outcome: its main thread is stopped
abbrev pub given_up : State → ℕ → Run → Outcome → Acted
given_up s number run how = handed_out s (stop_thread s.world run.main) number run how

-- an act on a run that is there, for a client that owns it
abbrev pub on_own_run : State → ℕ → ℕ → Option Run → (Run → Acted) → Acted
on_own_run s client number None act = refuses s (refusal.NoSuchRun number)
on_own_run s client number (Some run) act =
    if run.gone then refuses s (refusal.NoSuchRun number)
    else if run.owner == client then act run
    else refuses s (refusal.NotOwner run.owner)

-- the numbers of the alive threads, rising
abbrev pub alive_threads : List ThreadState → List ℕ
alive_threads states = map (λ numbered. numbered.0) (filter (λ numbered. is_alive numbered.1) (enumerate_from 1 states))

-- a run that hasn't ended goes on while some thread can go on, and is given up where none can
abbrev pub collect_alive : State → ℕ → Run → Acted
collect_alive s number run =
    if list_any is_ready s.world.states then answers s (body.Collected («collected».Running (steps_so_far s.world run)))
    else given_up s number run (outcome.Stalled (alive_threads s.world.states))

abbrev pub collect_own : State → ℕ → Run → Acted
collect_own s number run = if is_thread_alive s.world run.main then collect_alive s number run else over s number run

-- The outcome of a run is asked for: it has to be there, and to be the client's own.
abbrev pub collect : State → ℕ → ℕ → Acted
collect s client number = on_own_run s client number (numbered s.world.runs number) (collect_own s number)

abbrev pub expire_own : State → ℕ → ℕ → Run → Acted
expire_own s steps number run =
    if is_thread_alive s.world run.main then given_up s number run (outcome.Spent steps) else over s number run

-- A run is given up after so many steps, if it hasn't ended.
abbrev pub expire : State → ℕ → ℕ → ℕ → Acted
expire s client number steps = on_own_run s client number (numbered s.world.runs number) (expire_own s steps number)

-- a run that hasn't ended is stopped by this client; else nothing changes
abbrev pub stop_run : State → ℕ → ℕ → Run → State
stop_run s client number run =
    if is_thread_alive s.world run.main then record s {
      world = record (stop_thread s.world run.main) { runs = slice_set s.world.runs (number - 1) (record run { stopper = Some client }) };
    } else s

abbrev pub stop_found : State → ℕ → ℕ → Option Run → Acted
stop_found s client number None = refuses s (refusal.NoSuchRun number)
stop_found s client number (Some run) =
    if run.gone then refuses s (refusal.NoSuchRun number)
    else record { state = stop_run s client number run; body = body.StopDone number }

-- Any client may stop any run that is there.
abbrev pub stop : State → ℕ → ℕ → Acted
stop s client number = stop_found s client number (numbered s.world.runs number)

abbrev pub view_of : World → Run → Option RunView
view_of w run = if run.gone then None
    else Some (record { owner = run.owner; main = run.main; over = not (is_thread_alive w run.main) })

-- a run as it can be seen, None where it was never made, was collected or was dropped
abbrev pub run_view : State → ℕ → Option RunView
run_view s number = option_and_then (view_of s.world) (numbered s.world.runs number)

-- the runs of a client are dropped
abbrev pub dropped_for : ℕ → Run → Run
dropped_for client run = if run.owner == client then record run { gone = true } else run

-- every run is dropped
abbrev pub dropped : Run → Run
dropped run = record run { gone = true }
