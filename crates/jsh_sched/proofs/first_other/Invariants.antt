-- The first from this place on is what the whole scan finds.
use Rattle.std.proofs.Common.{◌≡◌, ◌+◌, find, nat_lt, drop, slice_get}
use Rattle.jsh_sched.specs.Pick.{other_threads, ready_threads}
use Rattle.jsh_sched.proofs.ReadyThreads.{others_from}
use Rattle.jsh_sched.proofs.first_other.Given as goal

abbrev pub invariant-loop-place : goal.invariant-loop-place
invariant-loop-place l =
    find (λ thread. nat_lt l.after thread) (other_threads l.main (ready_threads l.states))
    ≡ slice_get (others_from l.main (l.place + 1) (drop l.place l.states)) 0
