use Rattle.std.proofs.Common.{◌≡◌, take}
use Rattle.std.specs.Prelude.{map}
use Rattle.jsh_snippet.specs.Headers.{signature_of}
use Rattle.jsh_snippet.proofs.headers.signatures.Given as goal

abbrev pub invariant-loop-method : goal.invariant-loop-method
invariant-loop-method l = l.signatures.items ≡ map signature_of (take l.method-index l.methods)
