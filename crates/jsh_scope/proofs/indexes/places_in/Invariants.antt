use Rattle.std.proofs.Common.{◌≡◌, List, ℕ, take, flat_map}
use Rattle.std.specs.Option.{option_to_list}
use Rattle.jsh_scope.specs.Scope.{is_type}
use Rattle.jsh_scope.specs.Reached.{first_place}
use Rattle.jsh_scope.proofs.indexes.places_in.Given as goal

abbrev pub invariant-loop-name : goal.invariant-loop-name
invariant-loop-name l = l.found.items ≡ flat_map (λ (name : List ℕ). option_to_list (first_place (is_type name) l.types)) (take l.name-index l.name-items)
