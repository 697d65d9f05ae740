use Rattle.std.proofs.Common.{◌≡◌, ℕ, List, length, map, false, get_or, ◌∙◌, ap}
use Rattle.std.specs.List.{filter, range_with_len}
use Rattle.jsh_tree.specs.declared.library.Member.{Member}
use Rattle.jsh_scope.specs.Scope.{Scope}
use Rattle.jsh_scope.specs.Reached.{places_in}
use Rattle.jsh_header.specs.Bad.{is_bad_itself, is_bad}
use Rattle.jsh_header.proofs.Closing.{closing_marks, closing_least}
use Rattle.jsh_header.proofs.bad_set.bad.Goals as goal

pub returns : goal.returns
unfolding is_bad
returns c =
    let live = c.args.live.now in
    let scope : Scope = record { members = live; library = c.args.library.now } in
    let first_is : c.as_slice.result.now ≡ filter (is_bad_itself scope) (range_with_len 0 (length live)) =
    c.as_slice.ensures.value ∙ c.in_ok-first.ensures ∙ ap (λ (some : Scope). filter (is_bad_itself some) (range_with_len 0 (length live))) c.in_ok-hierarchy.ensures in
    let edges_are : c.as_slice-2.result.now ≡ map (λ (member : Member). places_in live member.header) live = c.as_slice-2.ensures ∙ c.in_ok-edges.ensures in
    record {
      marks = closing_marks live (is_bad_itself scope) c.as_slice.result.now c.as_slice-2.result.now c.in_ok-marks.marks.items first_is edges_are c.in_ok-marks.ensures.marks;
      smallest = closing_least live (is_bad_itself scope) c.as_slice.result.now c.as_slice-2.result.now (λ place. get_or c.in_ok-marks.marks.items place false) first_is edges_are c.in_ok-marks.ensures.smallest;
    }
