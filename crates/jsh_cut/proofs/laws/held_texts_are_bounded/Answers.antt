use Rattle.jsh_cut.proofs.Lines.{held_behind}
use Rattle.jsh_cut.proofs.laws.held_texts_are_bounded.Goals as goal

pub returns : goal.returns
returns c = held_behind
