use Rattle.std.proofs.Common.{ap, ◌∙◌, arith}
use Rattle.jsh_turnlock.specs.History.{own}
use Rattle.jsh_turnlock.proofs.Seats.{measures}
use Rattle.jsh_turnlock.proofs.Clauses.{goes_gathered}
use Rattle.jsh_turnlock.proofs.handles.TurnLock.peek.Goals as goal

pub load-requires : goal.load-requires
load-requires g c = let size = c.args.self.now.sized in (c.requires, omega arith, measures g.T.Chronicle.history g.T.Chronicle.numbers _ _ _)

pub returns-clause-gathered : goal.returns-clause-gathered
returns-clause-gathered g c = λ n has.
    let read = c.load.ensures.2 in
    ap (λ m. own m.0.seen n) read.2 ∙ goes_gathered c.args.pass.now.seat.me.0 read.0 c.args.pass.now.number (ap (λ m. m.0.numbers) c.args.pass.now.rests) read.3 n has
