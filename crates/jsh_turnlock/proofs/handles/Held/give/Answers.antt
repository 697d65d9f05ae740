use Rattle.std.proofs.Common.{◌≡◌, ◌+◌, ◌-◌, [], ◌∷◌, length, Some, refl, sym, ap, ◌∙◌, subst, arith, length-append}
use Rattle.std.specs.List.{Contains}
use Rattle.atomic_table.specs.Table.{rest}
use Rattle.jsh_turnlock.specs.declared.view.Home.{Home}
use Rattle.jsh_turnlock.specs.History.{IsAddedBy}
use Rattle.jsh_turnlock.specs.Rule.{resting, but_first}
use Rattle.jsh_turnlock.proofs.Lists.{contains_here}
use Rattle.jsh_turnlock.proofs.Queue.{counts, passes_on}
use Rattle.jsh_turnlock.proofs.Clauses.{given_back}
use Rattle.jsh_turnlock.proofs.handles.Held.give.Goals as goal

pub fetch_add-requires : goal.fetch_add-requires
fetch_add-requires g c =
    let turn = c.args.self in
    let size = turn.lock.now.sized in
    let put = c.exchange.ensures in
    let home : Home g.row.T.Denot = record { value = turn.value; made = turn.made } in
    let view = ap (λ m. m.0) put.3 in
    let whole = ap length c.requires.added.1 in
    let long : length (g.T.Chronicle.history turn.value) ≡ length c.exchange.new.seat.me.0.seen + (c.len.result - turn.found) =
    let same : length c.exchange.new.seat.me.0.seen ≡ length turn.seat.me.0.seen = ap (λ v. length v.seen) view in
    let found = turn.length_found in
    let len = c.len.ensures in
    omega (arith, length-append turn.seat.me.0.seen c.requires.added.0) in (
      put.0 ∙ turn.placed,
      omega arith,
      counts g.T.Chronicle.history g.T.Chronicle.numbers _ _ _ home turn.made turn.number (c.len.result - turn.found)
          (ap (λ m. m.1) put.3 ∙ ap (λ m. (0, Some home) ∷ rest m.1) turn.holds)
          (ap (λ v. v.count) view ∙ ap (λ m. m.0.count) turn.holds)
          (subst (λ v. Contains v.numbers turn.number) (sym (view ∙ ap (λ m. m.0) turn.holds)) (contains_here turn.number (but_first turn.seat.me.0.numbers)))
          (subst (λ v. IsAddedBy turn.number v.seen (g.T.Chronicle.history turn.value)) (sym view) c.requires.added)
          long
          (omega (arith, c.len.ensures, c.len.type_inv)),
    )

pub fetch_add-requires-2 : goal.fetch_add-requires-2
fetch_add-requires-2 g c =
    let turn = c.args.self in
    let size = turn.lock.now.sized in
    let put = c.exchange.ensures in
    let home : Home g.row.T.Denot = record { value = turn.value; made = turn.made } in
    let has = ap (λ m. m.1) put.3 ∙ ap (λ m. (0, Some home) ∷ rest m.1) turn.holds in
    let holds = ap (λ m. m.0.count) put.3 ∙ ap (λ m. m.0.count) turn.holds in
    let counted = c.fetch_add.ensures.2 home has in (
      c.fetch_add.ensures.0 ∙ (put.0 ∙ turn.placed),
      omega arith,
      passes_on g.T.Chronicle.history g.T.Chronicle.numbers _ _ _ home turn.made (ap (λ m. m.1) counted ∙ has) (ap (λ m. m.0.count) counted ∙ holds) (sym (ap (λ m. m.0.seen) counted)) c.requires.numbers refl,
    )

pub invariant_of-result : goal.invariant_of-result
invariant_of-result g c =
    let turn = c.args.self in
    let home : Home g.row.T.Denot = record { value = turn.value; made = turn.made } in
    let has = ap (λ m. m.1) c.exchange.ensures.3 ∙ ap (λ m. (0, Some home) ∷ rest m.1) turn.holds in
    let back = given_back _ _ _ _ _ _ _ _ _ turn.holds c.exchange.ensures.3 (c.fetch_add.ensures.2 home has) c.fetch_add-2.ensures.2 in
    record { rests = back ∙ ap (λ m. (resting turn.number m.0, [])) (sym back) }

pub returns-clause-same : goal.returns-clause-same
returns-clause-same g c =
    let turn = c.args.self in
    let home : Home g.row.T.Denot = record { value = turn.value; made = turn.made } in
    let has = ap (λ m. m.1) c.exchange.ensures.3 ∙ ap (λ m. (0, Some home) ∷ rest m.1) turn.holds in
    let back = given_back _ _ _ _ _ _ _ _ _ turn.holds c.exchange.ensures.3 (c.fetch_add.ensures.2 home has) c.fetch_add-2.ensures.2 in
    (c.fetch_add-2.ensures.0 ∙ (c.fetch_add.ensures.0 ∙ c.exchange.ensures.0), refl, ap (λ m. but_first m.0.numbers) back)

pub returns-clause-seen : goal.returns-clause-seen
returns-clause-seen g c =
    let turn = c.args.self in
    let home : Home g.row.T.Denot = record { value = turn.value; made = turn.made } in
    let has = ap (λ m. m.1) c.exchange.ensures.3 ∙ ap (λ m. (0, Some home) ∷ rest m.1) turn.holds in
    let back = given_back _ _ _ _ _ _ _ _ _ turn.holds c.exchange.ensures.3 (c.fetch_add.ensures.2 home has) c.fetch_add-2.ensures.2 in
    ap (λ m. m.0.seen) back
