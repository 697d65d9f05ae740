use Rattle.std.proofs.Common.{take}
use Rattle.jsh_scope.specs.Scope.{is_visible_method}
use Rattle.jsh_scope.specs.Indexes.{IsIndexOfAll}
use Rattle.jsh_scope.proofs.indexes.method_places.Given as goal

abbrev pub invariant-loop-at : goal.invariant-loop-at
invariant-loop-at l = IsIndexOfAll is_visible_method l.members (take l.at l.members) l.places
