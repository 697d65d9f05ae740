-- What is left to do, done after what was done, is all that is to be done.
use Rattle.std.proofs.Common.{◌≡◌, ◌++◌, take, drop, map}
use Rattle.jsh_core.specs.Runs.{dropped_for}
use Rattle.jsh_core.proofs.clients.drop_runs_of.Given as goal

abbrev pub invariant-loop-run : goal.invariant-loop-run
invariant-loop-run l =
    map (dropped_for l.client) l.initial.runs ≡ take l.run-index l.runs ++ map (dropped_for l.client) (drop l.run-index l.runs)
