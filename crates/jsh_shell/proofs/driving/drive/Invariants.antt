-- Turns were taken, and so many steps of the budget are used.
use Rattle.std.proofs.Common.{◌≤◌, ◌-◌}
use Rattle.jsh_shell.specs.Serving.{Drives, IsOpen}
use Rattle.jsh_shell.proofs.driving.drive.Given as goal

abbrev pub invariant-turns : goal.invariant-turns
invariant-turns g l = record {
  «open» : IsOpen l.client l.session.core;
  within : l.used ≤ l.budget;
  drives : Drives l.budget l.client l.run 0 l.used l.initial.session l.session;
}

abbrev pub decreases-turns : goal.decreases-turns
decreases-turns g l = l.budget - l.used
