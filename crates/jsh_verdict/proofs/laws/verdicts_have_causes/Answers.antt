use Rattle.jsh_verdict.proofs.Because.{tree_found, accepted_because, rejected_because}
use Rattle.jsh_verdict.proofs.Decides.{tree_read, accepts, rejects}
use Rattle.jsh_verdict.proofs.laws.verdicts_have_causes.Goals as goal

pub returns-clause-tree : goal.returns-clause-tree
returns-clause-tree c = λ source tree. (tree_found source tree, tree_read source tree)

pub returns-clause-accepted : goal.returns-clause-accepted
returns-clause-accepted c = λ source sum. (accepted_because source sum, accepts source sum)

pub returns-clause-rejected : goal.returns-clause-rejected
returns-clause-rejected c = λ source ds utf8. (rejected_because source ds utf8, rejects source ds)
