use Rattle.std.proofs.Common.{take}
use Rattle.jsh_scope.specs.Indexes.{IsIndexOfAll}
use Rattle.jsh_header.specs.Units.{has_name}
use Rattle.jsh_header.proofs.units.places_by_name.Given as goal

abbrev pub invariant-loop-at : goal.invariant-loop-at
invariant-loop-at l = IsIndexOfAll has_name l.units (take l.at l.units) l.places
