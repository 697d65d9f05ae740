use Rattle.std.proofs.Common.{◌≡◌, map, take}
use Rattle.jsh_header.specs.Tables.{direct_of}
use Rattle.jsh_header.proofs.outlines.edges_of.Given as goal

abbrev pub invariant-loop-of : goal.invariant-loop-of
invariant-loop-of l = l.edges.items ≡ map direct_of (take l.of-index l.types)
