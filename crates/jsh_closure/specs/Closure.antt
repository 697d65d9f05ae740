-- The smallest set of places that holds some first ones and all that these lead to.
use Rattle.std.specs.Prelude.{◌≡◌, ℕ, zero, suc, ◌<◌, Bool, true, false, ◌||◌, ◌&&◌, List, [], Option, Some, None, map, length, nat_eq, slice_get}
use Rattle.std.specs.List.{list_any, range_with_len}

-- some place below n passes
abbrev pub any_below : ℕ → (ℕ → Bool) → Bool
any_below zero test = false
any_below (suc n) test = any_below n test || test n

module _ (n : ℕ) (first : ℕ → Bool) (leads : ℕ → ℕ → Bool) where
  -- the first places, and so many times what the places so far lead to, from places below n
  unfoldable pub within : ℕ → ℕ → Bool
  within zero place = first place
  within (suc k) place = within k place || any_below n (λ from. within k from && leads from place)

  -- n times are enough, since each time adds a place below n, or none is added from then on
  unfoldable pub closure : ℕ → Bool
  closure place = within n place

  -- a set that holds the first places, and what its places lead to
  pub record IsClosed (set : ℕ → Bool) : Type 0 where
    pub holds_first : (place : ℕ) → place < n → first place ≡ true → set place ≡ true
    pub holds_next : (from to : ℕ) → from < n → to < n → set from ≡ true → leads from to ≡ true → set to ≡ true

  -- a closed set that is a part of each closed set
  pub record IsSmallest (set : ℕ → Bool) : Type 0 where
    pub closed : IsClosed set
    pub contained : (other : ℕ → Bool) → IsClosed other → (place : ℕ) → place < n → set place ≡ true → other place ≡ true

-- it stands among them
abbrev pub is_among : List ℕ → ℕ → Bool
is_among places place = list_any (nat_eq place) places

-- the places that stand there
abbrev pub places_at : Option (List ℕ) → List ℕ
places_at None = []
places_at (Some places) = places

-- what stands for one place has the other
abbrev pub has_edge : List (List ℕ) → ℕ → ℕ → Bool
has_edge edges from to = is_among (places_at (slice_get edges from)) to

-- for each place, whether it is in the closure of the first ones along the edges
abbrev pub marks : List ℕ → List (List ℕ) → List Bool
marks first edges = map (closure (length edges) (is_among first) (has_edge edges)) (range_with_len 0 (length edges))

-- what stands for the other place has the one
abbrev pub has_edge_back : List (List ℕ) → ℕ → ℕ → Bool
has_edge_back edges from to = has_edge edges to from

-- for each place, whether it is in the closure of the first ones against the edges
abbrev pub marks_back : List ℕ → List (List ℕ) → List Bool
marks_back first edges = map (closure (length edges) (is_among first) (has_edge_back edges)) (range_with_len 0 (length edges))
