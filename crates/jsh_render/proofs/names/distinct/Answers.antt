use Rattle.std.proofs.Common.{◌≡◌, ◌+◌, ◌++◌, ◌∷◌, [], ◌∙◌, List, ℕ, sym, ap, drop}
use Rattle.jsh_render.specs.Names.{further}
use Rattle.jsh_render.proofs.Distinct.{is_listed, listed_stays, listed_now}
use Rattle.jsh_render.proofs.names.distinct.Goals as goal
use Rattle.jsh_render.proofs.names.distinct.Goals.{then-not-contains+in_ok-clone+in_ok-push, else-not-contains}

pub loop-name-preserved : goal.loop-name-preserved
loop-name-preserved c =
    let name = c.name-item.result in
    let names = c.args.names.now in
    let before = c.loop-name.found.items in
    let at = c.loop-name.name-index in
    let tested : is_listed name before ≡ c.contains.result = ap (is_listed name) (sym c.deref.ensures.value) ∙ sym c.contains.ensures.value in
    elim c.if-not-contains.branch [
      | then-not-contains+in_ok-clone+in_ok-push w ↦ (
          let items : c.if-not-contains.found.items ≡ before ++ name ∷ [] =
          rw w.found-is (w.in_ok-push.ensures.items ∙ ap (λ (n : List ℕ). before ++ n ∷ []) w.in_ok-clone.ensures.cases) in
          ap (λ (found : List (List ℕ)). further found (drop (at + 1) names)) items
          ∙ (listed_now before names at name c.loop-name-test.true c.name-item.is (tested ∙ w.if-not-contains.true) ∙ c.loop-name.invariant))
      | else-not-contains w ↦
          rw w.found-is (listed_stays before names at name c.loop-name-test.true c.name-item.is (tested ∙ w.if-not-contains.false) ∙ c.loop-name.invariant)
    ]
