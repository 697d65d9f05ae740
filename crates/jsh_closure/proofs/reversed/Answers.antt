use Rattle.std.proofs.Common.{◌≡◌, ℕ, List, Some, sym, ◌∙◌, ap, subst}
use Rattle.std.specs.Prelude.{slice_get}
use Rattle.std.proofs.lemmas.Option.{slice_get-get_or}
use Rattle.jsh_closure.specs.Closure.{places_at}
use Rattle.jsh_closure.specs.Reversals.{Appends, IsReversed}
use Rattle.jsh_closure.proofs.Reversing.{reversed_none, reversed_more}
use Rattle.jsh_closure.proofs.reversed.Goals as goal

pub loop-place-init : goal.loop-place-init
loop-place-init c = subst (λ (back : List (List ℕ)). IsReversed 0 c.args.edges.now back) (sym c.in_ok-back.ensures) (reversed_none c.args.edges.now)

pub loop-place-preserved : goal.loop-place-preserved
loop-place-preserved c =
    let edges = c.args.edges.now in
    let place = c.loop-place.place in
    let targets = c.index-edges-place.result in
    let here : places_at (slice_get edges place) ≡ targets = ap places_at (slice_get-get_or edges place targets c.loop-place-test.true ∙ ap (λ (x : List ℕ). Some x) (sym c.index-edges-place.is)) in
    reversed_more place edges c.loop-place.back.items c.append_all.new.edges.items c.loop-place.invariant
    (subst (λ (some : List ℕ). Appends some place c.loop-place.back.items c.append_all.new.edges.items) (c.as_slice.ensures ∙ sym here) c.in_ok-append_all.ensures)
