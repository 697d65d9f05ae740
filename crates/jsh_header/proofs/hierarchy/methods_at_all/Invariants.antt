use Rattle.std.proofs.Common.{◌≡◌, take}
use Rattle.jsh_header.specs.SuperRules.{methods_of}
use Rattle.jsh_header.proofs.hierarchy.methods_at_all.Given as goal

abbrev pub invariant-loop-place : goal.invariant-loop-place
invariant-loop-place l = l.methods.items ≡ methods_of l.types (take l.place-index l.places)
