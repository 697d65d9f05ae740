-- What a search finds, as a list.
use Rattle.std.specs.Prelude.{◌≡◌, ℕ, ◌<◌, Bool, true, false, ◌||◌, List, length, slice_index_or}
use Rattle.jsh_closure.specs.Closure.{is_among, has_edge, closure}
use Rattle.jsh_closure.specs.Searches.{IsSearch}

-- nothing is marked
pub record IsBlank (marks : List Bool) : Type 0 where
  pub unmarked : (place : ℕ) → slice_index_or marks place false ≡ false

-- the places of the closure of the first ones along the edges, in any order
pub record IsFound (first : List ℕ) (edges : List (List ℕ)) (found : List ℕ) : Type 0 where
  pub within : (place : ℕ) → is_among found place ≡ true → place < length edges
  pub reached : (place : ℕ) → place < length edges → is_among found place ≡ closure (length edges) (is_among first) (has_edge edges) place

-- each place that is marked stands there
pub record MarksOnly (found : List ℕ) (marks : List Bool) : Type 0 where
  pub stands : (place : ℕ) → slice_index_or marks place false ≡ true → is_among found place ≡ true

-- the place isn't marked, and each other one is as it was
pub record Unmarks (place : ℕ) (old new : List Bool) : Type 0 where
  pub unmarked : slice_index_or new place false ≡ false
  pub others : (other : ℕ) → (other ≡ place → ⊥) → slice_index_or new other false ≡ slice_index_or old other false

-- a search that lists what no longer waits
pub record IsListing (first : List ℕ) (edges : List (List ℕ)) (marks : List Bool) (waiting found : List ℕ) : Type 0 where
  pub search : IsSearch first edges marks waiting
  pub listed : (place : ℕ) → slice_index_or marks place false ≡ true → (is_among waiting place || is_among found place) ≡ true
  pub found_marked : (place : ℕ) → is_among found place ≡ true → slice_index_or marks place false ≡ true
