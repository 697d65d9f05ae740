-- What is left to do, done after what was done, is all that is to be done.
use Rattle.std.proofs.Common.{◌≡◌, ◌++◌, take, drop, map}
use Rattle.jsh_core.specs.Runs.{dropped}
use Rattle.jsh_core.proofs.clients.drop_runs.Given as goal

abbrev pub invariant-loop-run : goal.invariant-loop-run
invariant-loop-run l = map dropped l.initial.runs ≡ take l.run-index l.runs ++ map dropped (drop l.run-index l.runs)
