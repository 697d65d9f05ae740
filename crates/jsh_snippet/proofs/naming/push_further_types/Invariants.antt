use Rattle.std.proofs.Common.{◌≡◌, ◌++◌, take, flat_map}
use Rattle.jsh_snippet.specs.Names.{further_type}
use Rattle.jsh_snippet.proofs.naming.push_further_types.Given as goal

abbrev pub invariant-loop-written : goal.invariant-loop-written
invariant-loop-written l = l.text ≡ l.initial.text ++ flat_map further_type (take l.written-index l.types)
