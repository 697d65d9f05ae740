use Rattle.std.proofs.Common.{◌≡◌, ℕ, ◌<◌, ◌∷◌, length, Some, sym, ap, ◌∙◌, subst, arith}
use Rattle.std.specs.List.{Contains}
use Rattle.atomic_table.specs.Table.{rest}
use Rattle.jsh_turnlock.specs.History.{own}
use Rattle.jsh_turnlock.specs.Rule.{GoesOn, but_first}
use Rattle.jsh_turnlock.proofs.Lists.{contains_here}
use Rattle.jsh_turnlock.proofs.Queue.{draws}
use Rattle.jsh_turnlock.proofs.Clauses.{goes_gathered, home_or, taken_is}
use Rattle.jsh_turnlock.proofs.handles.TurnLock.take.Goals as goal

pub fetch_add-ticket-requires : goal.fetch_add-ticket-requires
fetch_add-ticket-requires g c =
    let size = c.args.self.now.sized in
    let rests = c.args.pass.rests in
    (c.requires, omega arith, draws g.T.Chronicle.history g.T.Chronicle.numbers _ _ _ (ap (λ m. m.0.ticket) rests) (subst (λ ns. 0 < length ns) (sym (ap (λ m. m.0.numbers) rests)) (omega arith)))

pub exchange-requires : goal.exchange-requires
exchange-requires g c =
    let takes = c.wait_for_turn.ensures.takes in
    let has = ap (λ m. m.1) takes.1 in
    (c.wait_for_turn.ensures.lock ∙ (c.fetch_add-ticket.ensures.0 ∙ c.requires), (Some takes.0, has ∙ ap (λ cs. (0, Some takes.0) ∷ rest cs) (sym has)))

pub returns-clause-gathered : goal.returns-clause-gathered
returns-clause-gathered g c = λ n has.
    let pass = c.args.pass in
    let takes = c.wait_for_turn.ensures.takes in
    let drew = c.fetch_add-ticket.ensures.2 in
    let goes : GoesOn pass.seat.me.0 (g.T.Chronicle.history takes.0.value) = subst (λ m. GoesOn m.0 (g.T.Chronicle.history takes.0.value)) drew.2 takes.2 in
    let same : Some takes.0 ≡ Some c.unwrap-value.result = taken_is _ _ (sym (ap (λ m. m.1) takes.1) ∙ c.exchange.ensures.2) ∙ c.unwrap-value.ensures in
    ap (λ o. own (g.T.Chronicle.history (home_or takes.0 o).value) n) (sym same) ∙ goes_gathered pass.seat.me.0 (g.T.Chronicle.history takes.0.value) pass.number (ap (λ m. m.0.numbers) pass.rests) goes n has

pub invariant_of-result-clause-numbered : goal.invariant_of-result-clause-numbered
invariant_of-result-clause-numbered g c =
    let pass = c.args.pass in
    let takes = c.wait_for_turn.ensures.takes in
    let drew = c.fetch_add-ticket.ensures.2 in
    let below : (n : ℕ) → Contains pass.seat.me.0.numbers n → n < takes.0.made = subst (λ m. (n : ℕ) → Contains m.0.numbers n → n < takes.0.made) drew.2 takes.4 in
    let same : Some takes.0 ≡ Some c.unwrap-value.result = taken_is _ _ (sym (ap (λ m. m.1) takes.1) ∙ c.exchange.ensures.2) ∙ c.unwrap-value.ensures in
    subst (λ o. pass.number < (home_or takes.0 o).made) same (below pass.number (subst (λ ns. Contains ns pass.number) (sym (ap (λ m. m.0.numbers) pass.rests)) (contains_here pass.number (but_first pass.seat.me.0.numbers))))
