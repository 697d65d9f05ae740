-- What is left to do, done after what was done, is all that is to be done.
use Rattle.std.proofs.Common.{◌≡◌, ◌++◌, take, drop}
use Rattle.jsh_core.specs.Threads.{stopped_states}
use Rattle.jsh_core.proofs.stopping.stop_states.Given as goal

abbrev pub invariant-loop-i : goal.invariant-loop-i
invariant-loop-i l =
    stopped_states l.owner l.initial.states l.threads ≡ take l.i l.states ++ stopped_states l.owner (drop l.i l.states) (drop l.i l.threads)
