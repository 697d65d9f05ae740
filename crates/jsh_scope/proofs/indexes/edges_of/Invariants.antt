use Rattle.std.proofs.Common.{◌≡◌, map, take}
use Rattle.jsh_tree.specs.declared.library.Member.{Member}
use Rattle.jsh_scope.specs.Reached.{places_in}
use Rattle.jsh_scope.proofs.indexes.edges_of.Given as goal

abbrev pub invariant-loop-member : goal.invariant-loop-member
invariant-loop-member l = l.edges.items ≡ map (λ (member : Member). places_in l.types member.header) (take l.member-index l.types)
