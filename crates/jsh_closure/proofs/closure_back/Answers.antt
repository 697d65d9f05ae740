use Rattle.std.proofs.Common.{◌≡◌, ℕ, false, List, length, get_or, ◌∙◌, ap, subst}
use Rattle.jsh_closure.specs.Closure.{is_among, has_edge, marks, IsSmallest}
use Rattle.jsh_closure.specs.Reversals.{IsReversed}
use Rattle.jsh_closure.proofs.Reversing.{marks_reversed, smallest_reversed}
use Rattle.jsh_closure.proofs.closure_back.Goals as goal

pub returns : goal.returns
returns c =
    let first = c.args.first.now in
    let edges = c.args.edges.now in
    let back = c.in_ok-back.back.items in
    let reversed : IsReversed (length edges) edges back = c.in_ok-back.ensures in
    let seen : c.as_slice.result.now ≡ back = c.as_slice.ensures.value in
    record {
      marks = c.in_ok-marks.ensures.marks ∙ ap (λ (some : List (List ℕ)). marks first some) seen ∙ marks_reversed first edges back reversed;
      smallest = smallest_reversed first edges back reversed (λ place. get_or c.in_ok-marks.marks.items place false)
          (subst (λ (some : List (List ℕ)). IsSmallest (length some) (is_among first) (has_edge some) (λ place. get_or c.in_ok-marks.marks.items place false)) seen c.in_ok-marks.ensures.smallest);
    }
