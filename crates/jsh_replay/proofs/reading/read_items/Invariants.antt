use Rattle.std.proofs.Common.{length}
use Rattle.jsh_replay.proofs.OneReading.{IsFront}
use Rattle.jsh_replay.proofs.reading.read_items.Given as goal

abbrev pub invariant-loop-past : goal.invariant-loop-past
invariant-loop-past l = IsFront l.bytes l.past l.rest

abbrev pub decreases-loop-past : goal.decreases-loop-past
decreases-loop-past l = length l.rest
