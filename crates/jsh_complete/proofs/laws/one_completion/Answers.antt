use Rattle.jsh_complete.proofs.Total.{completes}
use Rattle.jsh_complete.proofs.Unique.{one}
use Rattle.jsh_complete.proofs.laws.one_completion.Goals as goal

pub returns-clause-one : goal.returns-clause-one
returns-clause-one c = one

pub returns-clause-given : goal.returns-clause-given
returns-clause-given c = completes
