-- The link has no cell behind the places that are left.
use Rattle.std.proofs.Common.{◌≡◌, ◌≤◌, length, take}
use Rattle.jsh_core.specs.Cells.{cell_place}
use Rattle.jsh_core.proofs.cells.cell_place.Given as goal

abbrev pub invariant-loop-rest : goal.invariant-loop-rest
invariant-loop-rest l = record {
  within : l.rest ≤ length l.cells;
  found : cell_place l.link l.cells ≡ cell_place l.link (take l.rest l.cells);
}

abbrev pub decreases-loop-rest : goal.decreases-loop-rest
decreases-loop-rest l = l.rest
