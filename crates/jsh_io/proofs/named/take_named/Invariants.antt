use Rattle.std.proofs.Common.{◌≡◌, ◌≤◌, ◌++◌, length, take, drop}
use Rattle.jsh_io.specs.Named.{first_named, others_named}
use Rattle.jsh_io.proofs.named.take_named.Given as goal

abbrev pub invariant-loop-at : goal.invariant-loop-at
invariant-loop-at g l = record {
  within : l.at ≤ length l.initial.list.items;
  first : l.first ≡ first_named l.name (drop l.at l.initial.list.items);
  rest : l.list.items ≡ take l.at l.initial.list.items ++ others_named l.name (drop l.at l.initial.list.items);
}

abbrev pub decreases-loop-at : goal.decreases-loop-at
decreases-loop-at g l = l.at
