use Rattle.std.proofs.Common.{◌≡◌, take, flat_map}
use Rattle.jsh_header.specs.Outlines.{object_method}
use Rattle.jsh_header.proofs.outlines.object_methods.Given as goal

abbrev pub invariant-loop-method : goal.invariant-loop-method
invariant-loop-method l = l.found.items ≡ flat_map object_method (take l.method-index l.methods)
