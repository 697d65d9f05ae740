use Rattle.std.proofs.Common.{◌≡◌, ◌++◌, take, flat_map}
use Rattle.jsh_scope.specs.Imports.{static_method}
use Rattle.jsh_scope.proofs.library.push_methods_of.Given as goal

abbrev pub invariant-loop-method : goal.invariant-loop-method
invariant-loop-method l = l.found.items ≡ l.initial.found.items ++ flat_map (static_method l.name l.of) (take l.method-index l.of.methods)
