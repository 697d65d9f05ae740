use Rattle.jsh_scope.proofs.Agreement.{same_answer}
use Rattle.jsh_scope.proofs.laws.answers_stay.Goals as goal

pub returns : goal.returns
returns c = λ query a b elsewhere. same_answer query a b elsewhere
