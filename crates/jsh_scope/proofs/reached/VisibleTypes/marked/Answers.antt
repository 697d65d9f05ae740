use Rattle.std.proofs.Common.{◌≡◌, ℕ, false, cond, List, [], ◌++◌, Option, get_or, flat_map, sym, ◌∙◌, ap, arith}
use Rattle.std.specs.Prelude.{slice_get}
use Rattle.std.specs.List.{range_with_len}
use Rattle.jsh_tree.specs.declared.library.Member.{Member}
use Rattle.jsh_scope.specs.Reached.{Linked, linked_at, linked_where, marked_types}
use Rattle.jsh_scope.proofs.Reaching.{marked_more}
use Rattle.jsh_scope.proofs.reached.VisibleTypes.marked.Goals as goal

pub loop-place-preserved : goal.loop-place-preserved
loop-place-preserved c =
    let types = c.args.self.now in
    let marks = c.args.marks.now in
    let place = c.loop-place.place in
    c.in_ok-push_marked.ensures
    ∙ ap (λ (member : Option Member). c.loop-place.found.items ++ cond (get_or marks place false) (linked_at member) []) (c.get.ensures.value ∙ ap (λ (some : List Member). slice_get some place) c.self.view_is)
    ∙ ap (λ (some : List Linked). some ++ linked_where types (λ (k : ℕ). get_or marks k false) place) c.loop-place.invariant
    ∙ sym (marked_more types (λ (k : ℕ). get_or marks k false) place)

pub returns : goal.returns
unfolding marked_types
returns c =
    c.loop-place.invariant
    ∙ ap (λ (n : ℕ). flat_map (linked_where c.args.self.now (λ (place : ℕ). get_or c.args.marks.now place false)) (range_with_len 0 n)) (omega (arith, c.loop-place-test.false, c.loop-place.auto.place-end))
