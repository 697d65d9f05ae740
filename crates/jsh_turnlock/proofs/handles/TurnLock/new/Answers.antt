use Rattle.std.proofs.Common.{◌≡◌, [], ◌∷◌, ◌++◌, Some, refl, sym, ap, ◌∙◌, subst}
use Rattle.atomic_table.specs.Table.{opening}
use Rattle.jsh_turnlock.specs.declared.view.Home.{Home}
use Rattle.jsh_turnlock.specs.Rule.{Kept, fresh}
use Rattle.jsh_turnlock.proofs.Seats.{begins}
use Rattle.jsh_turnlock.proofs.handles.TurnLock.new.Goals as goal

pub new-requires : goal.new-requires
new-requires g c =
    let home : Home g.row.T.Denot = record { value = c.args.value; made = 1 } in
    let slots : c.push_reserved.new.self.items ≡ Some home ∷ [] = c.push_reserved.ensures.items ∙ ap (λ xs. xs ++ Some home ∷ []) c.in_ok-slots.ensures.items in
    subst (λ xs. Kept g.T.Chronicle.history g.T.Chronicle.numbers (opening (0 ∷ 0 ∷ 0 ∷ []) xs (fresh (0 ∷ [])))) (sym slots)
    (begins g.T.Chronicle.history g.T.Chronicle.numbers home c.requires.empty c.requires.numbers refl)
