use Rattle.std.proofs.Common.{take}
use Rattle.jsh_scope.specs.Scope.{is_visible_variable}
use Rattle.jsh_scope.specs.Indexes.{IsIndex}
use Rattle.jsh_scope.proofs.indexes.variable_places.Given as goal

abbrev pub invariant-loop-at : goal.invariant-loop-at
invariant-loop-at l = IsIndex is_visible_variable (take l.at l.members) l.places
