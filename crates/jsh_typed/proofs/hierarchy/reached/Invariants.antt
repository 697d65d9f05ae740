use Rattle.std.proofs.Common.{◌≡◌}
use Rattle.jsh_typed.specs.Hierarchy.{reached}
use Rattle.jsh_typed.proofs.hierarchy.reached.Given as goal

abbrev pub invariant-loop-step : goal.invariant-loop-step
invariant-loop-step l = l.marks.items ≡ reached l.hierarchy l.class l._step
