use Rattle.std.proofs.Common.{◌≡◌, ℕ, Bool, List, [], ◌++◌, ◌-◌, take, sym, ◌∙◌, ap, subst}
use Rattle.jsh_closure.specs.Searches.{Adds}
use Rattle.jsh_closure.specs.Finding.{IsListing}
use Rattle.jsh_closure.proofs.Listing.{begin_listing, follow_listing, end_found, end_marks}
use Rattle.jsh_closure.proofs.finder.find.Goals as goal

pub loop-place-init : goal.loop-place-init
loop-place-init c =
    let first = c.args.first.now in
    let edges = c.args.edges.now in
    let m = c.add.new.marks.items in
    let w = c.add.new.waiting.items in
    subst (λ (found : List ℕ). IsListing first edges m w found) (sym c.new-found.ensures.items)
    (begin_listing first edges c.args.marks.now.items m w c.requires.size c.requires.blank
    (subst (λ (some : List ℕ). Adds first c.args.marks.now.items some m w) c.new-waiting.ensures.items c.in_ok-add.ensures))

pub loop-place-preserved : goal.loop-place-preserved
loop-place-preserved c =
    let first = c.args.first.now in
    let edges = c.args.edges.now in
    let m = c.loop-place.marks.items in
    let w = c.pop.new.self.items in
    let m1 = c.add-in-Some.new.marks.items in
    let w1 = c.add-in-Some.new.waiting.items in
    let found = c.loop-place.found.items in
    subst (λ (some : List ℕ). IsListing first edges m1 w1 some) (sym c.in_ok-push.ensures.items)
    (follow_listing first edges c.in-Some.place m w found m1 w1
    (subst (λ (some : List ℕ). IsListing first edges m some found) c.in-Some.ensures.items c.loop-place.invariant)
    (subst (λ (places : List ℕ). Adds places m w m1 w1) c.next_of.ensures c.in_ok-add-2.ensures))

pub returns : goal.returns
returns c =
    let first = c.args.first.now in
    let edges = c.args.edges.now in
    let m = c.loop-place.marks.items in
    let found = c.loop-place.found.items in
    let popped = c.in_default.ensures in
    let gone : c.pop.new.self.items ≡ [] = popped.rest ∙ ap (λ (n : ℕ). take (n - 1) c.loop-place.waiting.items) popped.cases.0 in
    let listing : IsListing first edges m [] found =
    subst (λ (w : List ℕ). IsListing first edges m w found) (popped.items ∙ ap (λ (w : List ℕ). w ++ []) gone) c.loop-place.invariant in
    record { found = end_found first edges m found listing; marked = end_marks first edges m found listing }
