use Rattle.std.proofs.Common.{◌≡◌, ℕ, List, [], ◌∷◌, ◌++◌, ◌<◌, Some, length, get_or, arith, sym, ◌∙◌, ap, subst}
use Rattle.std.proofs.Math.ListN.{set}
use Rattle.std.proofs.lemmas.Option.{slice_get-get_or, get_or_from_slice_get}
use Rattle.jsh_closure.specs.Reversals.{Appends}
use Rattle.jsh_closure.proofs.Reversing.{appends_at}
use Rattle.jsh_closure.proofs.append.Goals as goal

pub returns-in_ok-push : goal.returns-in_ok-push
returns-in_ok-push c =
    let edges = c.args.edges.now.items in
    let target = c.args.target in
    let place = c.args.place in
    let old = c.index_mut-slot.result.now in
    let below : target < length edges = omega (arith, c.len.ensures) in
    let was : get_or edges target [] ≡ old = get_or_from_slice_get edges target old [] (slice_get-get_or edges target old below ∙ ap (λ (x : List ℕ). Some x) (sym c.index_mut-slot.ensures.value)) in
    let list : get_or edges target [] ++ place ∷ [] ≡ c.from_vec.result =
    ap (λ (x : List ℕ). x ++ place ∷ []) (was ∙ sym (c.into_vec-list.ensures ∙ c.replace.ensures.value)) ∙ sym c.in_ok-push.ensures.items ∙ sym c.from_vec.ensures in
    subst (λ (x : List ℕ). Appends (target ∷ []) place edges (set edges target x)) list (appends_at target place edges below)
