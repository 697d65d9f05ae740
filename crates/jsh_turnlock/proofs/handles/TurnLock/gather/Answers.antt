use Rattle.std.proofs.Common.{sym, ap, ◌∙◌, arith}
use Rattle.jsh_turnlock.proofs.Seats.{gathers}
use Rattle.jsh_turnlock.proofs.handles.TurnLock.gather.Goals as goal

pub join_seat-requires : goal.join_seat-requires
join_seat-requires g c =
    let size = c.args.self.now.sized in
    let met = c.meet.ensures in
    let rests = c.meet.new.other.rests in (
      met.same.0.0 ∙ c.requires.pass,
      met.same.1.0 ∙ c.requires.gone,
      ap (λ m. m.1) rests,
      omega arith,
      gathers g.T.Chronicle.history g.T.Chronicle.numbers _ _ _ _ (sym met.seen.1) (ap (λ m. m.0.ticket) rests) (ap (λ m. m.0.count) rests),
    )
