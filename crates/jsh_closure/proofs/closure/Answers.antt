use Rattle.std.proofs.Common.{◌≡◌, ℕ, false, Bool, List, [], ◌++◌, ◌-◌, length, take, get_or, sym, ◌∙◌, ap, subst}
use Rattle.std.proofs.Math.ListN.{replicate, length-replicate}
use Rattle.jsh_closure.specs.Closure.{is_among, has_edge, marks, IsSmallest}
use Rattle.jsh_closure.specs.Searches.{Adds, IsSearch}
use Rattle.jsh_closure.proofs.Searching.{blank, begin, follow, end, is_smallest}
use Rattle.jsh_closure.proofs.closure.Goals as goal

pub loop-place-init : goal.loop-place-init
loop-place-init c =
    let first = c.args.first.now in
    let edges = c.args.edges.now in
    let none : c.in_ok-marks.marks.items ≡ replicate (length edges) false = c.in_ok-marks.ensures.items_if_clones_equal (λ y same. same) in
    let size : length c.in_ok-marks.marks.items ≡ length edges = ap (λ (m : List Bool). length m) none ∙ length-replicate (length edges) false in
    begin first edges c.in_ok-marks.marks.items c.add.new.marks.items c.add.new.waiting.items size
    (λ i. ap (λ (m : List Bool). get_or m i false) none ∙ blank (length edges) i)
    (subst (λ (w : List ℕ). Adds first c.in_ok-marks.marks.items w c.add.new.marks.items c.add.new.waiting.items) c.new-waiting.ensures.items c.in_ok-add.ensures)

pub loop-place-preserved : goal.loop-place-preserved
loop-place-preserved c =
    let first = c.args.first.now in
    let edges = c.args.edges.now in
    follow first edges c.in-Some.place c.loop-place.marks.items c.pop.new.self.items c.add-in-Some.new.marks.items c.add-in-Some.new.waiting.items
    (subst (λ (w : List ℕ). IsSearch first edges c.loop-place.marks.items w) c.in-Some.ensures.items c.loop-place.invariant)
    (subst (λ (places : List ℕ). Adds places c.loop-place.marks.items c.pop.new.self.items c.add-in-Some.new.marks.items c.add-in-Some.new.waiting.items) c.next_of.ensures c.in_ok-add-2.ensures)

pub returns : goal.returns
returns c =
    let first = c.args.first.now in
    let edges = c.args.edges.now in
    let popped = c.in_default.ensures in
    let gone : c.pop.new.self.items ≡ [] = popped.rest ∙ ap (λ (n : ℕ). take (n - 1) c.loop-place.waiting.items) popped.cases.0 in
    let found : c.loop-place.marks.items ≡ marks first edges = end first edges c.loop-place.marks.items
    (subst (λ (w : List ℕ). IsSearch first edges c.loop-place.marks.items w) (popped.items ∙ ap (λ (w : List ℕ). w ++ []) gone) c.loop-place.invariant) in
    record {
      marks = found;
      smallest = subst (λ (m : List Bool). IsSmallest (length edges) (is_among first) (has_edge edges) (λ place. get_or m place false)) (sym found) (is_smallest first edges);
    }
