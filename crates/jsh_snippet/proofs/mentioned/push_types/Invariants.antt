use Rattle.std.proofs.Common.{◌≡◌, ◌++◌, take, flat_map}
use Rattle.jsh_snippet.specs.Mentions.{in_type}
use Rattle.jsh_snippet.proofs.mentioned.push_types.Given as goal

abbrev pub invariant-loop-written : goal.invariant-loop-written
invariant-loop-written l = l.names.items ≡ l.initial.names.items ++ flat_map in_type (take l.written-index l.types)
