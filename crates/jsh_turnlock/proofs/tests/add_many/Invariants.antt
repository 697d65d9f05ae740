use Rattle.std.proofs.Common.{◌≡◌}
use Rattle.jsh_turnlock.specs.Known.{lock_of}
use Rattle.jsh_turnlock.proofs.tests.add_many.Given as goal

abbrev pub invariant-loop-item : goal.invariant-loop-item
invariant-loop-item g l = lock_of l.pass ≡ lock_of l.initial.pass
