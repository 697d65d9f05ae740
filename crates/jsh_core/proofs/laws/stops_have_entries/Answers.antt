-- The history shows who has stopped a run.
use Rattle.jsh_core.proofs.RunHistory.{stopper-history}
use Rattle.jsh_core.proofs.laws.stops_have_entries.Goals as goal

pub returns : goal.returns
returns c = record { stopper = stopper-history }
