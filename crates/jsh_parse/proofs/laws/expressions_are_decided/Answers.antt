use Rattle.jsh_parse.proofs.Sound.{sound_whole}
use Rattle.jsh_parse.proofs.Complete.{complete-whole}
use Rattle.jsh_parse.proofs.laws.expressions_are_decided.Goals as goal

pub returns : goal.returns
returns c = record { decided = λ text room ts e. (sound_whole text room ts e, complete-whole text room ts e) }
