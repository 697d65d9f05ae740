use Rattle.std.proofs.Common.{◌≡◌}
use Rattle.std.specs.List.{filter, range_with_len}
use Rattle.jsh_header.specs.Replaced.{is_new_place}
use Rattle.jsh_header.proofs.replaced_set.new_places.Given as goal

abbrev pub invariant-loop-place : goal.invariant-loop-place
invariant-loop-place l = l.places.items ≡ filter (is_new_place l.old l.new) (range_with_len 0 l.place)
