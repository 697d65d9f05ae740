use Rattle.std.proofs.Common.{◌≡◌}
use Rattle.std.specs.List.{filter, range_with_len}
use Rattle.jsh_header.specs.Bad.{is_bad_itself}
use Rattle.jsh_header.proofs.bad_set.bad_themselves.Given as goal

abbrev pub invariant-loop-place : goal.invariant-loop-place
invariant-loop-place l = record {
  kept : l.hierarchy ≡ l.initial.hierarchy;
  found : l.places.items ≡ filter (is_bad_itself l.initial.hierarchy) (range_with_len 0 l.place);
}
