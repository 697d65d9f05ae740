use Rattle.std.proofs.Common.{◌≡◌, ◌++◌, map, take}
use Rattle.jsh_tree.specs.declared.library.Member.{Member}
use Rattle.jsh_header.specs.Outlines.{header_outline}
use Rattle.jsh_header.proofs.outlines.push_members.Given as goal

abbrev pub invariant-loop-member : goal.invariant-loop-member
invariant-loop-member l = l.types.items ≡ l.initial.types.items ++ map (λ (member : Member). header_outline l.names member.header) (take l.member-index l.live)
