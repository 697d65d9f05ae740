-- The bytes tell the history, or the place.
use Rattle.jsh_replay.proofs.OneReading.{not_both, one_history, one_place, some_reading}
use Rattle.jsh_replay.proofs.laws.one_reading.Goals as goal

pub returns : goal.returns
returns c = record { some = some_reading; history = one_history; place = one_place; not_both = not_both }
