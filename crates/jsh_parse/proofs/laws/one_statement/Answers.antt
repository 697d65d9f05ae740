use Rattle.jsh_parse.proofs.StatementComplete.{one_stmt}
use Rattle.jsh_parse.proofs.laws.one_statement.Goals as goal

pub returns : goal.returns
returns c = record { unique = one_stmt }
