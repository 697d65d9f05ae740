-- Which thread runs next. Threads are numbered from 1, and the state of thread i + 1 stands at place i.
use Rattle.std.specs.Prelude.{ℕ, Bool, false, not, nat_lt, ◌==◌, List, map, filter, find, Option, None, Some, slice_get, if◌then◌else◌}
use Rattle.std.specs.List.{enumerate_from}
use Rattle.std.specs.Option.{option_or}
use Rattle.jsh_sched.specs.declared.ThreadState.{ThreadState}
use Rattle.jsh_sched.specs.ThreadState.{is_ready}

-- the numbers of the Ready threads, rising, where the first state is that of this thread
abbrev pub ready_from : ℕ → List ThreadState → List ℕ
ready_from first states = map (λ numbered. numbered.0) (filter (λ numbered. is_ready numbered.1) (enumerate_from first states))

abbrev pub ready_threads : List ThreadState → List ℕ
ready_threads states = ready_from 1 states

-- the number is that of the main thread
abbrev pub is_main : Option ℕ → ℕ → Bool
is_main None thread = false
is_main (Some main) thread = thread == main

abbrev pub other_threads : Option ℕ → List ℕ → List ℕ
other_threads main threads = filter (λ thread. not (is_main main thread)) threads

-- the first thread above the cursor or, going round, the first of all
abbrev pub next_after : ℕ → List ℕ → Option ℕ
next_after cursor threads = option_or (find (λ thread. nat_lt cursor thread) threads) (slice_get threads 0)

-- The main thread where it goes first and is Ready. Else the next Ready thread other than it, and
-- where there is none, the main thread if it is Ready.
abbrev pub picked : List ThreadState → ℕ → Option ℕ → Bool → Option ℕ
picked states cursor main main_first =
    let ready = ready_threads states in
    let ready_main = find (is_main main) ready in
    option_or (if main_first then ready_main else None) (option_or (next_after cursor (other_threads main ready)) ready_main)
