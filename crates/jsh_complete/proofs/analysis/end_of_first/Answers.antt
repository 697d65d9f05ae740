use Rattle.jsh_complete.proofs.Judged.{end_of_first}
use Rattle.jsh_complete.proofs.analysis.end_of_first.Goals as goal

pub returns : goal.returns
returns c = end_of_first c.args.tokens.now c.args.count _ c.requires.some c.requires.all
