use Rattle.std.proofs.Common.{◌≡◌, take}
use Rattle.jsh_snippet.specs.Keys.{parameter_types}
use Rattle.jsh_snippet.proofs.keys.parameter_types.Given as goal

abbrev pub invariant-loop-parameter : goal.invariant-loop-parameter
invariant-loop-parameter l = l.types.items ≡ parameter_types (take l.parameter-index l.parameters)
