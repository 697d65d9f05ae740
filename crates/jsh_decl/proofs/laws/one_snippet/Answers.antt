use Rattle.jsh_decl.proofs.Complete.{one_snippet}
use Rattle.jsh_decl.proofs.laws.one_snippet.Goals as goal

pub returns : goal.returns
returns c = record { unique = one_snippet }
