use Rattle.jsh_complete.specs.Reading.{HasRead}
use Rattle.jsh_complete.proofs.tests.check_reader.Given as goal

abbrev pub invariant-loop-token : goal.invariant-loop-token
invariant-loop-token g l = HasRead l.front.items l.reader
