use Rattle.std.proofs.Common.{◌≡◌, take, flat_map}
use Rattle.jsh_tree.specs.declared.library.Member.{Member}
use Rattle.jsh_scope.specs.Imports.{import_in}
use Rattle.jsh_scope.proofs.imported.imports_of.Given as goal

abbrev pub invariant-loop-member : goal.invariant-loop-member
invariant-loop-member l = l.imports.items ≡ flat_map (λ (member : Member). import_in member.key) (take l.member-index l.members)
