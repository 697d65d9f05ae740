use Rattle.std.proofs.Common.{ap, ◌∙◌, subst, arith}
use Rattle.jsh_turnlock.specs.Rule.{Takes}
use Rattle.jsh_turnlock.proofs.Queue.{looks}
use Rattle.jsh_turnlock.proofs.Clauses.{looked}
use Rattle.jsh_turnlock.proofs.handles.TurnLock.wait_for_turn.Goals as goal

pub load-requires : goal.load-requires
load-requires g c =
    let i = c.loop.invariant in
    let w = c.requires.waits in
    let size = c.args.self.now.sized in
    (i.0 ∙ c.requires.lock, omega arith, looks g.T.Chronicle.history g.T.Chronicle.numbers _ _ _ w.0 (ap (λ m. m.0.ticket) i.1 ∙ w.2) (ap (λ m. m.0.count) i.1 ∙ w.3))

pub returns-then-load-ticket-clause-takes : goal.returns-then-load-ticket-clause-takes
returns-then-load-ticket-clause-takes g c =
    let i = c.loop.invariant in
    let w = c.requires.waits in
    let took = looked _ w.0 _ _ _ (c.if-load-ticket.true ∙ w.1) (ap (λ m. m.0.ticket) i.1 ∙ w.2) c.load.ensures.2 in
    subst (λ m. Takes g.T.Chronicle.history g.T.Chronicle.numbers m c.load.new.seat.me) i.1 took
