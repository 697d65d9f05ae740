use Rattle.jsh_pieces.proofs.LexisStillOpen.{stays_open}
use Rattle.jsh_pieces.proofs.laws.still_open.Goals as goal

pub returns : goal.returns
returns c = record { still = stays_open }
