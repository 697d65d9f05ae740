use Rattle.std.proofs.Common.{◌≡◌, take}
use Rattle.std.specs.List.{filter}
use Rattle.jsh_scope.specs.Scope.{is_visible_type}
use Rattle.jsh_scope.proofs.indexes.visible_types.Given as goal

abbrev pub invariant-loop-member : goal.invariant-loop-member
invariant-loop-member l = l.types.items ≡ filter is_visible_type (take l.member-index l.members)
