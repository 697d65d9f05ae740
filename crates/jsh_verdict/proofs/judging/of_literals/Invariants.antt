use Rattle.std.proofs.Common.{◌≡◌, take}
use Rattle.std.specs.Prelude.{map}
use Rattle.jsh_tree.specs.declared.diagnostic.Code.TheVariants as code
use Rattle.jsh_verdict.specs.Diagnostics.{diagnostic}
use Rattle.jsh_verdict.proofs.judging.of_literals.Given as goal

abbrev pub invariant-loop-place : goal.invariant-loop-place
invariant-loop-place l = l.diagnostics.items ≡ map (diagnostic code.NumberTooBig) (take l.place-index l.places)
