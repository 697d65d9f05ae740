use Rattle.std.proofs.Common.{◌≡◌, ℕ, List, length, map, false, get_or, ◌∙◌, ap}
use Rattle.std.specs.List.{filter, range_with_len}
use Rattle.jsh_tree.specs.declared.library.Member.{Member}
use Rattle.jsh_scope.specs.Reached.{places_in}
use Rattle.jsh_header.specs.Replaced.{is_new_place, is_replaced}
use Rattle.jsh_header.proofs.Closing.{closing_marks, closing_least}
use Rattle.jsh_header.proofs.replaced_set.replaced.Goals as goal

pub returns : goal.returns
unfolding is_replaced
returns c =
    let old = c.args.old.now in
    let new = c.args.new.now in
    let first_is : c.as_slice.result.now ≡ filter (is_new_place old new) (range_with_len 0 (length new)) =
    c.as_slice.ensures.value ∙ c.in_ok-first.ensures ∙ ap (λ (some : List Member). filter (is_new_place some new) (range_with_len 0 (length new))) c.in_ok-units.ensures in
    let edges_are : c.as_slice-2.result.now ≡ map (λ (member : Member). places_in new member.header) new = c.as_slice-2.ensures ∙ c.in_ok-edges.ensures in
    record {
      marks = closing_marks new (is_new_place old new) c.as_slice.result.now c.as_slice-2.result.now c.in_ok-marks.marks.items first_is edges_are c.in_ok-marks.ensures.marks;
      smallest = closing_least new (is_new_place old new) c.as_slice.result.now c.as_slice-2.result.now (λ place. get_or c.in_ok-marks.marks.items place false) first_is edges_are c.in_ok-marks.ensures.smallest;
    }
