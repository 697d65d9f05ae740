use Rattle.std.proofs.Common.{ap, arith}
use Rattle.jsh_turnlock.proofs.Seats.{forks}
use Rattle.jsh_turnlock.proofs.handles.Held.split.Goals as goal

pub split_seat-seat-requires : goal.split_seat-seat-requires
split_seat-seat-requires g c =
    let size = c.args.self.now.lock.now.sized in
    (c.args.self.now.placed, omega arith, forks g.T.Chronicle.history g.T.Chronicle.numbers _ _ c.args.self.now.made (ap (λ m. m.0.count) c.args.self.now.holds) c.requires)
