use Rattle.jsh_grammar.proofs.Onward.{viable_goes_on, whole_cut}
use Rattle.jsh_grammar.proofs.laws.fronts_go_on.Goals as goal

pub returns-clause-more : goal.returns-clause-more
returns-clause-more c = viable_goes_on

pub returns-clause-fewer : goal.returns-clause-fewer
returns-clause-fewer c = whole_cut
