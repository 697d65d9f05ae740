-- Edges and the same edges from their other end.
use Rattle.std.specs.Prelude.{◌≡◌, ℕ, ◌<◌, ◌||◌, ◌&&◌, List, length, nat_eq, nat_lt}
use Rattle.jsh_closure.specs.Closure.{is_among, has_edge}

-- each of the targets has one edge more, to the place
pub record Appends (targets : List ℕ) (place : ℕ) (old new : List (List ℕ)) : Type 0 where
  pub size : length new ≡ length old
  pub edges : (i j : ℕ) → i < length old → has_edge new i j ≡ (has_edge old i j || (is_among targets i && nat_eq j place))

-- the edges of the first places, from their other ends
pub record IsReversed (count : ℕ) (edges back : List (List ℕ)) : Type 0 where
  pub size : length back ≡ length edges
  pub edges_back : (i j : ℕ) → i < length edges → has_edge back i j ≡ (nat_lt j count && has_edge edges j i)
