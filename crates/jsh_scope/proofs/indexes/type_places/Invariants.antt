use Rattle.std.proofs.Common.{take}
use Rattle.jsh_scope.specs.Scope.{is_type}
use Rattle.jsh_scope.specs.Indexes.{IsIndex}
use Rattle.jsh_scope.proofs.indexes.type_places.Given as goal

abbrev pub invariant-loop-at : goal.invariant-loop-at
invariant-loop-at l = IsIndex is_type (take l.at l.members) l.places
