use Rattle.std.proofs.Common.{◌-◌, length}
use Rattle.jsh_complete.specs.Reading.{HasRead}
use Rattle.jsh_complete.proofs.reading.Reader.read.Given as goal

abbrev pub invariant-loop-self : goal.invariant-loop-self
invariant-loop-self l = HasRead l.tokens l.self

abbrev pub decreases-loop-self : goal.decreases-loop-self
decreases-loop-self l = length l.tokens - l.self.taken
