use Rattle.std.proofs.Common.{◌≡◌, ℕ, false, get_or, flat_map}
use Rattle.std.specs.List.{range_with_len}
use Rattle.jsh_scope.specs.Reached.{linked_where}
use Rattle.jsh_scope.proofs.reached.VisibleTypes.marked.Given as goal

abbrev pub invariant-loop-place : goal.invariant-loop-place
invariant-loop-place l = l.found.items ≡ flat_map (linked_where l.self (λ (place : ℕ). get_or l.marks place false)) (range_with_len 0 l.place)
