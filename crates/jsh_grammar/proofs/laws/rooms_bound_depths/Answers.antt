use Rattle.jsh_grammar.proofs.DepthsBounded.{depths_fit, depths_suffice}
use Rattle.jsh_grammar.proofs.laws.rooms_bound_depths.Goals as goal

pub returns-clause-fits : goal.returns-clause-fits
returns-clause-fits c = depths_fit

pub returns-clause-roomy : goal.returns-clause-roomy
returns-clause-roomy c = depths_suffice
