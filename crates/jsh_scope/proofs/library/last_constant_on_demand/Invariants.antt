use Rattle.std.proofs.Common.{◌≡◌, take}
use Rattle.jsh_scope.specs.Imports.{last_given, constant_on_demand}
use Rattle.jsh_scope.proofs.library.last_constant_on_demand.Given as goal

abbrev pub invariant-loop-import : goal.invariant-loop-import
invariant-loop-import l = l.last ≡ last_given (constant_on_demand l.library l.name) (take l.import-index l.imports)
