use Rattle.jsh_recognizer.proofs.Prefixes.{prefix_tells, whole_tells, viable_tells}
use Rattle.jsh_recognizer.proofs.Reaches.{reach_of}
use Rattle.jsh_recognizer.proofs.laws.functions_follow_table.Goals as goal

pub returns-clause-reach : goal.returns-clause-reach
returns-clause-reach c = reach_of

pub returns-clause-prefix : goal.returns-clause-prefix
returns-clause-prefix c = prefix_tells

pub returns-clause-whole : goal.returns-clause-whole
returns-clause-whole c = whole_tells

pub returns-clause-viable : goal.returns-clause-viable
returns-clause-viable c = viable_tells
