-- Frames that stand where the one before stood are nothing deeper than it.
use Rattle.std.proofs.Common.{sym, ◌∙◌, add-zero}
use Rattle.jsh_recognizer.specs.Stacks.{frames_of}
use Rattle.jsh_recognizer.proofs.Inside.{onto-here}
use Rattle.jsh_recognizer.proofs.answer.goes.Goals as goal

pub returns : goal.returns
returns c = (sym (add-zero _), c.put_each.ensures.frames ∙ onto-here c.args.depth c.args.frames.now (frames_of c.args.fresh.now))
