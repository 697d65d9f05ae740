use Rattle.std.proofs.Common.{◌≡◌, ℕ, List, [], ◌∷◌, ◌++◌, Some, cond, sym, ◌∙◌, ap, subst}
use Rattle.std.specs.Ordering.{is_eq, nat_cmp}
use Rattle.std.specs.Cmp.Lexicographic.{slice_cmp}
use Rattle.jsh_closure.specs.Closure.{places_at}
use Rattle.jsh_scope.specs.Indexes.{found}
use Rattle.jsh_scope.proofs.Names.{appends_inserted}
use Rattle.jsh_scope.proofs.indexes.append_place.Goals as goal

pub returns : goal.returns
returns c =
    let name = c.args.name.now in
    let old = c.args.places.now in
    let list : c.from_vec.result ≡ places_at (found old name) ++ c.args.at ∷ [] =
    c.from_vec.ensures ∙ c.in_ok-push.ensures.items ∙ ap (λ (some : List ℕ). some ++ c.args.at ∷ []) (c.listed-list.ensures ∙ ap places_at c.remove-removed.ensures.value) in
    appends_inserted name c.args.at old c.remove-removed.new.self c.insert.new.self c.remove-removed.ensures.updates.0
    (subst (λ (some : List ℕ). (q : List ℕ) → found c.insert.new.self q ≡ cond (is_eq (slice_cmp nat_cmp name q)) (Some some) (found c.remove-removed.new.self q)) list
    (subst (λ (k : List ℕ). (q : List ℕ) → found c.insert.new.self q ≡ cond (is_eq (slice_cmp nat_cmp k q)) (Some c.from_vec.result) (found c.remove-removed.new.self q)) c.in_ok-name.ensures.cases c.in_ok-insert.ensures.updates.0))
