use Rattle.jsh_scope.proofs.Agreement.{given_same, footprint_same}
use Rattle.jsh_scope.proofs.laws.readers_agree.Goals as goal

pub returns-clause-given : goal.returns-clause-given
returns-clause-given g c = λ reader a b agree. given_same reader a b agree

pub returns-clause-asked : goal.returns-clause-asked
returns-clause-asked g c = λ reader a b agree. footprint_same reader a b agree
