use Rattle.std.proofs.Common.{◌≡◌, ◌++◌}
use Rattle.std.specs.Vec.Iter.{into_iter_items}
use Rattle.jsh_core.specs.History.{replies_of}
use Rattle.jsh_replay.proofs.ReplayLaws.{IsAlike}
use Rattle.jsh_replay.proofs.replaying.replies_to.Given as goal

abbrev pub invariant-loop-entry : goal.invariant-loop-entry
invariant-loop-entry g l = record {
  alike : IsAlike l.core l.yielded;
  replies : l.replies.items ≡ replies_of l.yielded;
  parts : l.yielded ++ into_iter_items l.entry-iterator ≡ l.fn.history.items;
}
