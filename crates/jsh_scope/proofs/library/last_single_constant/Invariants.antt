use Rattle.std.proofs.Common.{◌≡◌, take}
use Rattle.jsh_scope.specs.Imports.{last_given, single_constant}
use Rattle.jsh_scope.proofs.library.last_single_constant.Given as goal

abbrev pub invariant-loop-import : goal.invariant-loop-import
invariant-loop-import l = l.last ≡ last_given (single_constant l.library l.name) (take l.import-index l.imports)
