use Rattle.std.proofs.Common.{◌≡◌, take, flat_map}
use Rattle.jsh_scope.specs.Imports.{methods_on_demand}
use Rattle.jsh_scope.proofs.library.all_methods_on_demand.Given as goal

abbrev pub invariant-loop-import : goal.invariant-loop-import
invariant-loop-import l = l.found.items ≡ flat_map (methods_on_demand l.library l.name) (take l.import-index l.imports)
