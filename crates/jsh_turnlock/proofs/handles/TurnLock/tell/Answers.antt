use Rattle.std.proofs.Common.{◌∷◌, sym, ap, ◌∙◌, subst, arith}
use Rattle.std.specs.List.{Contains}
use Rattle.jsh_turnlock.specs.History.{own, longer}
use Rattle.jsh_turnlock.specs.Rule.{but_first}
use Rattle.jsh_turnlock.proofs.Seats.{notes, informs, compares}
use Rattle.jsh_turnlock.proofs.Clauses.{goes_gathered}
use Rattle.jsh_turnlock.proofs.handles.TurnLock.tell.Goals as goal

pub split_seat-note-requires : goal.split_seat-note-requires
split_seat-note-requires g c = let size = c.args.self.now.sized in (c.requires.from, omega arith, notes g.T.Chronicle.history g.T.Chronicle.numbers _ _)

pub join_seat-requires : goal.join_seat-requires
join_seat-requires g c =
    let size = c.args.self.now.sized in
    let cut = c.split_seat-note.ensures in (
      c.requires.to,
      cut.3 ∙ c.requires.from,
      ap (λ m. m.1) cut.4,
      omega arith,
      informs g.T.Chronicle.history g.T.Chronicle.numbers _ _ _ _ (ap (λ m. m.0.count) c.args.to.now.rests) (ap (λ m. m.0.numbers) cut.4) (ap (λ m. m.0.ticket) cut.4) (ap (λ m. m.0.count) cut.4),
    )

pub load-requires : goal.load-requires
load-requires g c =
    let size = c.args.self.now.sized in
    let joined = c.join_seat.ensures in
    (joined.0 ∙ c.requires.to, omega arith, compares g.T.Chronicle.history g.T.Chronicle.numbers _ _ _ (ap (λ m. m.0.count) joined.2 ∙ ap (λ m. m.0.count) c.args.to.now.rests))

pub returns-clause-gathered : goal.returns-clause-gathered
returns-clause-gathered g c = λ n has.
    let to = c.args.to.now in
    let joined = c.join_seat.ensures in
    let heard = c.load.ensures.2 in
    let log = longer c.join_seat.new.seat.me.0.seen c.join_seat.new.seat.me.0.told in
    let numbers = ap (λ m. m.0.numbers) joined.2 in
    let same = ap (λ m. own m.0.seen n) joined.2 in
    ap (λ m. own m.0.seen n) heard.0 ∙ (goes_gathered c.join_seat.new.seat.me.0 log to.number (numbers ∙ (ap (λ m. m.0.numbers) to.rests ∙ ap (λ ns. to.number ∷ but_first ns) (sym numbers))) heard.1 n (subst (λ ns. Contains (but_first ns) n) (sym numbers) has) ∙ same)
