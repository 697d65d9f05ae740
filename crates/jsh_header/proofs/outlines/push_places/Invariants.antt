use Rattle.std.proofs.Common.{◌≡◌, ◌++◌, take}
use Rattle.jsh_header.specs.Outlines.{places_of}
use Rattle.jsh_header.proofs.outlines.push_places.Given as goal

abbrev pub invariant-loop-name : goal.invariant-loop-name
invariant-loop-name l = l.places.items ≡ l.initial.places.items ++ places_of l.names (take l.name-index l.written)
