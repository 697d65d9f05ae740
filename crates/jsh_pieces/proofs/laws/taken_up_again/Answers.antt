use Rattle.jsh_pieces.proofs.LexisResumes.{resumes}
use Rattle.jsh_pieces.proofs.laws.taken_up_again.Goals as goal

pub returns : goal.returns
returns c = record { resumed = resumes }
