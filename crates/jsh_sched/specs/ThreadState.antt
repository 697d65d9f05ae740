-- What the state of a thread lets it do.
use Rattle.std.specs.Prelude.{Bool, true, false, IsTrue}
use Rattle.jsh_sched.specs.declared.ThreadState.{ThreadState}
use Rattle.jsh_sched.specs.declared.ThreadState.TheVariants.{Ready, Joining, Ended, Stopped}

-- its next step may be taken
abbrev pub is_ready : ThreadState → Bool
is_ready Ready = true
is_ready (Joining target) = false
is_ready Ended = false
is_ready Stopped = false

-- it may still take a step, now or once the thread that it waits for is over
abbrev pub is_alive : ThreadState → Bool
is_alive Ready = true
is_alive (Joining target) = true
is_alive Ended = false
is_alive Stopped = false

abbrev pub IsAlive : ThreadState → Type 0
IsAlive state = IsTrue (is_alive state)
