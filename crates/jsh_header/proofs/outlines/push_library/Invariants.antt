use Rattle.std.proofs.Common.{◌≡◌, ◌++◌, length, map, take}
use Rattle.jsh_header.specs.Outlines.{library_outline}
use Rattle.jsh_header.proofs.outlines.push_library.Given as goal

abbrev pub invariant-loop-of : goal.invariant-loop-of
invariant-loop-of l = l.types.items ≡ l.initial.types.items ++ map (library_outline l.names.library (length l.names.members)) (take l.of-index l.library)
