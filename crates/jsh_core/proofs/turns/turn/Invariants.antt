-- What is left of the turn, from the world as it is, is what is left of the whole turn.
use Rattle.std.proofs.Common.{◌-◌, ◌≤◌}
use Rattle.jsh_core.specs.Parts.{world_of, IsWorld}
use Rattle.jsh_core.proofs.TurnLemmas.{GoesOn}
use Rattle.jsh_core.proofs.turns.turn.Given as goal

abbrev pub invariant-loop-done : goal.invariant-loop-done
invariant-loop-done l = record {
  within : l.done ≤ l.most;
  world : IsWorld l.world;
  goes_on : GoesOn l.number l.done (world_of l.initial.world) (world_of l.world);
}

abbrev pub decreases-loop-done : goal.decreases-loop-done
decreases-loop-done l = l.most - l.done
