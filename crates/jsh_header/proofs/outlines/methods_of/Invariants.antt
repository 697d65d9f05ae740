use Rattle.std.proofs.Common.{◌≡◌, take}
use Rattle.jsh_header.proofs.outlines.methods_of.Given as goal

abbrev pub invariant-loop-signature : goal.invariant-loop-signature
invariant-loop-signature l = l.methods.items ≡ take l.signature-index l.signatures
