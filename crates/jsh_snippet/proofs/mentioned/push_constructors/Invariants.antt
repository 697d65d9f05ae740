use Rattle.std.proofs.Common.{◌≡◌, ◌++◌, take, flat_map}
use Rattle.jsh_snippet.specs.Mentions.{in_types}
use Rattle.jsh_snippet.proofs.mentioned.push_constructors.Given as goal

abbrev pub invariant-loop-params : goal.invariant-loop-params
invariant-loop-params l = l.names.items ≡ l.initial.names.items ++ flat_map in_types (take l.params-index l.constructors)
