-- No other answer is possible.
use Rattle.jsh_replay.proofs.AnswerLaws.{only-history, only-place}
use Rattle.jsh_replay.proofs.reading.read_journal.Goals as goal

pub returns-clause-journals : goal.returns-clause-journals
returns-clause-journals c = λ history is. only-history c.args.bytes.now history c.read_items.result c.read_items.ensures is

pub returns-clause-places : goal.returns-clause-places
returns-clause-places c = λ place is. only-place c.args.bytes.now place c.read_items.result c.read_items.ensures is
