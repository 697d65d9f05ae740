-- What the visible steps of a thread do, and how threads are stopped.
use Rattle.std.specs.Prelude.{ℕ, ℤ, ◌+◌, ◌-◌, ◌==◌, zero, suc, List, [], ◌∷◌, ◌++◌, Option, None, Some, Bool, true, false, ◌&&◌, if◌then◌else◌, slice_set}
use Rattle.std.specs.Option.{option_map_or}
use Rattle.std.specs.Fmt.{signed_decimal}
use Rattle.std.specs.List.{count_by}
use Rattle.jsh_text.specs.declared.value.Value.TheVariants as value
use Rattle.jsh_snippet.specs.declared.replies.ReplyBody.TheVariants as body
use Rattle.jsh_sched.specs.declared.ThreadState.{ThreadState}
use Rattle.jsh_sched.specs.declared.ThreadState.TheVariants as thread_state
use Rattle.jsh_sched.specs.ThreadState.{is_ready, is_alive}
use Rattle.jsh_sum.specs.declared.sums.Sum.{Sum}
use Rattle.jsh_sum.specs.Sum.{value_of}
use Rattle.jsh_core.specs.declared.world.Thread.{Thread}
use Rattle.jsh_core.specs.declared.world.ThreadEnd.TheVariants as thread_end
use Rattle.jsh_core.specs.declared.world.Frame.{Frame}
use Rattle.jsh_core.specs.declared.world.Answer.{Answer}
use Rattle.jsh_core.specs.declared.world.Answer.TheVariants as «answer»
use Rattle.jsh_core.specs.State.{State, World, Acted, numbered}
use Rattle.jsh_core.specs.Cells.{set_cell}

-- what a body does next: it asks for its variable to be set, or it returns a text
pub data Next : Type 0 where
  Sets : ℤ → Next
  Returns : List ℕ → Next

-- A sum, after these answers: its value goes into the variable, and then the text of it is returned (JLS 15.18).
abbrev pub next : Sum → List Answer → Next
next sum [] = Sets (value_of sum)
next sum (first ∷ rest) = Returns (signed_decimal (value_of sum))

-- a frame that is answered once more
abbrev pub answered : Answer → Frame → Frame
answered what frame = record frame { answers = frame.answers ++ what ∷ [] }

-- a thread after a step whose answer is empty, for its first frame
abbrev pub thread_answered : Thread → Frame → List Frame → Thread
thread_answered thread frame below = record thread { steps = thread.steps + 1; frames = answered «answer».Empty frame ∷ below }

-- a thread after its last step, which returns a text
abbrev pub thread_returned : Thread → List ℕ → Thread
thread_returned thread text = record thread { steps = thread.steps + 1; frames = []; end = Some (thread_end.Returned (Some text)) }

-- what a thread does to the world whose first frame does this next, above other frames
abbrev pub performed : World → ℕ → Thread → Frame → List Frame → Next → World
performed w number thread frame below (Sets v) = record w {
  cells = set_cell frame.body.variable (value.Int v) w.cells;
  threads = slice_set w.threads (number - 1) (thread_answered thread frame below);
}
performed w number thread frame below (Returns text) = record w {
  states = slice_set w.states (number - 1) thread_state.Ended;
  threads = slice_set w.threads (number - 1) (thread_returned thread text);
}

abbrev pub frames_step : World → ℕ → Thread → List Frame → World
frames_step w number thread [] = w
frames_step w number thread (frame ∷ below) = performed w number thread frame below (next frame.body.sum frame.answers)

abbrev pub thread_step : World → ℕ → Option Thread → World
thread_step w number None = w
thread_step w number (Some thread) = frames_step w number thread thread.frames

-- one visible step of the thread with this number: what its first frame does next
abbrev pub stepped : World → ℕ → World
stepped w number = thread_step w number (numbered w.threads number)

-- whether the thread with this number can go on
abbrev pub can_go_on : World → ℕ → Bool
can_go_on w number = option_map_or is_ready (numbered w.states number) false

-- a world, and how many steps it took
pub record Turned : Type 0 where
  pub world : World
  pub steps : ℕ

-- at most so many visible steps of a thread, or fewer only where it can't go on
unfoldable pub turned : ℕ → ℕ → World → Turned
turned number zero w = record { world = w; steps = 0 }
turned number (suc most) w =
    if can_go_on w number then one_more (turned number most (stepped w number)) else record { world = w; steps = 0 }
  where
    one_more : Turned → Turned
    one_more t = record t { steps = t.steps + 1 }

-- The thread goes on, and it is said how far.
abbrev pub turn : State → ℕ → ℕ → Acted
turn s number most =
    let t = turned number most s.world in
    record { state = record s { world = t.world }; body = body.Turned t.steps }

-- how many threads are alive
abbrev pub alive_count : World → ℕ
alive_count w = count_by is_alive w.states

-- whether the thread with this number is alive
abbrev pub is_thread_alive : World → ℕ → Bool
is_thread_alive w number = option_map_or is_alive (numbered w.states number) false

-- a thread that is stopped has left all its bodies
abbrev pub ended_by_stop : Thread → Thread
ended_by_stop thread = record thread { frames = []; end = Some thread_end.Stopped }

abbrev pub stop_found : World → ℕ → Option Thread → World
stop_found w number None = w
stop_found w number (Some thread) = record w {
  states = slice_set w.states (number - 1) thread_state.Stopped;
  threads = slice_set w.threads (number - 1) (ended_by_stop thread);
}

-- the thread with this number is stopped, if it is alive
abbrev pub stop_thread : World → ℕ → World
stop_thread w number = if is_thread_alive w number then stop_found w number (numbered w.threads number) else w

-- a thread is this client's; every thread is anyone's
abbrev pub is_owned : Option ℕ → Thread → Bool
is_owned None thread = true
is_owned (Some client) thread = thread.owner == client

-- the states of all threads after the alive ones of an owner are stopped
abbrev pub stopped_states : Option ℕ → List ThreadState → List Thread → List ThreadState
stopped_states owner (state ∷ states) (thread ∷ threads) =
    (if is_alive state && is_owned owner thread then thread_state.Stopped else state) ∷ stopped_states owner states threads
stopped_states owner states [] = states
stopped_states owner [] threads = []

-- the threads after the alive ones of an owner are stopped
abbrev pub stopped_threads : Option ℕ → List ThreadState → List Thread → List Thread
stopped_threads owner (state ∷ states) (thread ∷ threads) =
    (if is_alive state && is_owned owner thread then ended_by_stop thread else thread) ∷ stopped_threads owner states threads
stopped_threads owner states [] = []
stopped_threads owner [] threads = threads

-- every alive thread of an owner is stopped
abbrev pub stop_threads : Option ℕ → World → World
stop_threads owner w = record w {
  states = stopped_states owner w.states w.threads;
  threads = stopped_threads owner w.states w.threads;
}
