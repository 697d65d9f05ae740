use Rattle.jsh_pieces.proofs.LexisBehind.{behind_token}
use Rattle.jsh_pieces.proofs.laws.behind_a_token.Goals as goal

pub returns : goal.returns
returns c = record { rest = behind_token }
