use Rattle.std.proofs.Common.{◌≡◌, ◌++◌, length, take}
use Rattle.jsh_header.specs.Outlines.{library_places}
use Rattle.jsh_header.proofs.outlines.push_library_places.Given as goal

abbrev pub invariant-loop-name : goal.invariant-loop-name
invariant-loop-name l = l.places.items ≡ l.initial.places.items ++ library_places l.names.library (length l.names.members) (take l.name-index l.written)
