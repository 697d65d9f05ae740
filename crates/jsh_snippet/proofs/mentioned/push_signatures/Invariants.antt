use Rattle.std.proofs.Common.{◌≡◌, ◌++◌, take, flat_map}
use Rattle.jsh_snippet.specs.Mentions.{in_signature}
use Rattle.jsh_snippet.proofs.mentioned.push_signatures.Given as goal

abbrev pub invariant-loop-signature : goal.invariant-loop-signature
invariant-loop-signature l = l.names.items ≡ l.initial.names.items ++ flat_map in_signature (take l.signature-index l.signatures)
