-- The run of a sum has its value.
use Rattle.jsh_core.proofs.RunHistory.{value-history}
use Rattle.jsh_core.proofs.laws.sums_have_values.Goals as goal

pub returns : goal.returns
returns c = record { value = value-history }
