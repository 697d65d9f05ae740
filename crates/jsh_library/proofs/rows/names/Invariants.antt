use Rattle.std.proofs.Common.{◌≡◌, map, take}
use Rattle.jsh_library.specs.Made as spec
use Rattle.jsh_library.proofs.rows.names.Given as goal

abbrev pub invariant-loop-text : goal.invariant-loop-text
invariant-loop-text l = l.names.items ≡ map spec.text (take l.text-index l.texts)
