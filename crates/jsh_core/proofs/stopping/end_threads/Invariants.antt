-- What is left to do, done after what was done, is all that is to be done.
use Rattle.std.proofs.Common.{◌≡◌, ◌++◌, take, drop}
use Rattle.jsh_core.specs.Threads.{stopped_threads}
use Rattle.jsh_core.proofs.stopping.end_threads.Given as goal

abbrev pub invariant-loop-i : goal.invariant-loop-i
invariant-loop-i l =
    stopped_threads l.owner l.states l.initial.threads ≡ take l.i l.threads ++ stopped_threads l.owner (drop l.i l.states) (drop l.i l.threads)
