-- An expected token is taken where it stands; with any other the frame does what its move says.
use Rattle.std.proofs.Common.{ap, reverse}
use Rattle.jsh_recognizer.specs.Stacks.{frames_of}
use Rattle.jsh_recognizer.proofs.Stepping.{meets, meets-expected}
use Rattle.jsh_recognizer.proofs.recognizer.step.Goals as goal

pub returns-then-awaits : goal.returns-then-awaits
returns-then-awaits c = meets-expected c.args.depth c.args.frame c.args.kind (reverse c.clear.new.self.items) (ap reverse c.clear.ensures) c.if-awaits.ensures

pub returns : goal.returns
returns c =
    meets c.args.depth c.args.frame c.args.kind (reverse c.clear.new.self.items) (frames_of c.move_of.new.fresh) c.move_of.result (ap reverse c.clear.ensures)
    c.if-awaits.ensures c.move_of.ensures
