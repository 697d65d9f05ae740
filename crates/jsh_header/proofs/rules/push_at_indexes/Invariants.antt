use Rattle.std.proofs.Common.{◌≡◌, ◌++◌, flat_map}
use Rattle.std.specs.List.{range_with_len}
use Rattle.jsh_header.specs.SuperRules.{at_index}
use Rattle.jsh_header.proofs.rules.push_at_indexes.Given as goal

abbrev pub invariant-loop-index : goal.invariant-loop-index
invariant-loop-index l = l.breaches.items ≡ l.initial.breaches.items ++ flat_map (at_index l.firsts.no_superclass l.firsts.no_interface l.firsts.back) (range_with_len 0 l.index)
