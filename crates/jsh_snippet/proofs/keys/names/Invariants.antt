use Rattle.std.proofs.Common.{◌≡◌, take}
use Rattle.jsh_snippet.specs.Keys.{names_of}
use Rattle.jsh_snippet.proofs.keys.names.Given as goal

abbrev pub invariant-loop-identifier : goal.invariant-loop-identifier
invariant-loop-identifier l = l.names.items ≡ names_of (take l.identifier-index l.identifiers)
