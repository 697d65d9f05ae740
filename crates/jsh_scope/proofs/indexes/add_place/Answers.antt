use Rattle.std.proofs.Common.{◌≡◌, ℕ, List, Some, cond, sym, ◌∙◌, subst}
use Rattle.std.specs.Ordering.{is_eq, nat_cmp}
use Rattle.std.specs.Cmp.Lexicographic.{slice_cmp}
use Rattle.jsh_scope.specs.Indexes.{found}
use Rattle.jsh_scope.proofs.Names.{adds_inserted}
use Rattle.jsh_scope.proofs.indexes.add_place.Goals as goal

pub returns-in_ok-insert : goal.returns-in_ok-insert
returns-in_ok-insert c =
    adds_inserted c.args.name.now c.args.at c.args.places.now c.insert.new.self (sym c.contains_key.ensures ∙ c.if-not-contains_key.true)
    (subst (λ (name : List ℕ). (q : List ℕ) → found c.insert.new.self q ≡ cond (is_eq (slice_cmp nat_cmp name q)) (Some c.args.at) (found c.args.places.now q)) c.in_ok-name.ensures.cases c.in_ok-insert.ensures.updates.0)
