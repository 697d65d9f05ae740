-- The numbers so far, and those of the alive threads that are left.
use Rattle.std.proofs.Common.{◌≡◌, ◌+◌, ◌++◌, drop}
use Rattle.jsh_core.proofs.RunLemmas.{alive_from}
use Rattle.jsh_core.proofs.runs.alive_threads.Given as goal

abbrev pub invariant-loop-i : goal.invariant-loop-i
invariant-loop-i l = alive_from 1 l.states ≡ l.numbers.items ++ alive_from (l.i + 1) (drop l.i l.states)
