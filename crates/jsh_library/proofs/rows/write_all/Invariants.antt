use Rattle.std.proofs.Common.{◌≡◌, map, take}
use Rattle.jsh_library.specs.Rows as spec
use Rattle.jsh_library.proofs.rows.write_all.Given as goal

abbrev pub invariant-loop-word : goal.invariant-loop-word
invariant-loop-word l = l.all.items ≡ map spec.written (take l.word-index l.words)
