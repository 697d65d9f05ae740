-- No other answer is possible.
use Rattle.jsh_replay.proofs.AnswerLaws.{only-bad, only-replies}
use Rattle.jsh_replay.proofs.replaying.replay.Goals as goal

pub returns-clause-journals : goal.returns-clause-journals
returns-clause-journals c = λ history is. only-replies c.args.bytes.now history c.replayed.result c.replayed.ensures is

pub returns-clause-places : goal.returns-clause-places
returns-clause-places c = λ place is. only-bad c.args.bytes.now place c.replayed.result c.replayed.ensures is
