use Rattle.std.proofs.Common.{◌≡◌, take, flat_map}
use Rattle.jsh_scope.specs.Imports.{single_methods}
use Rattle.jsh_scope.proofs.library.all_single_methods.Given as goal

abbrev pub invariant-loop-import : goal.invariant-loop-import
invariant-loop-import l = l.found.items ≡ flat_map (single_methods l.library l.name) (take l.import-index l.imports)
