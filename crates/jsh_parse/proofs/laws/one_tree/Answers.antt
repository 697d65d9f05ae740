use Rattle.jsh_parse.proofs.Complete.{one_tree}
use Rattle.jsh_parse.proofs.laws.one_tree.Goals as goal

pub returns : goal.returns
returns c = record { unique = one_tree }
