use Rattle.std.proofs.Common.{◌≡◌, ◌++◌, length}
use Rattle.jsh_render.specs.Names.{enumerated}
use Rattle.jsh_render.proofs.names.push_enumerated.Given as goal

abbrev pub invariant-loop-names : goal.invariant-loop-names
invariant-loop-names l = l.bytes.items ++ enumerated l.names ≡ l.initial.bytes.items ++ enumerated l.initial.names

abbrev pub decreases-loop-names : goal.decreases-loop-names
decreases-loop-names l = length l.names
