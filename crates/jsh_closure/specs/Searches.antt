-- What a search along the edges keeps.
use Rattle.std.specs.Prelude.{◌≡◌, ℕ, ◌+◌, ◌<◌, Bool, true, false, not, ◌||◌, ◌&&◌, List, length, count_by, nat_lt, slice_index_or, ◌⊎◌}
use Rattle.jsh_closure.specs.Closure.{is_among, has_edge, closure}

-- the places are marked, and those that weren't before wait
pub record Adds (places : List ℕ) (marks : List Bool) (waiting : List ℕ) (new_marks : List Bool) (new_waiting : List ℕ) : Type 0 where
  pub size : length new_marks ≡ length marks
  pub marked : (i : ℕ) → slice_index_or new_marks i false ≡ (slice_index_or marks i false || (nat_lt i (length marks) && is_among places i))
  pub kept : (i : ℕ) → is_among waiting i ≡ true → is_among new_waiting i ≡ true
  pub added : (i : ℕ) → slice_index_or new_marks i false ≡ true → slice_index_or marks i false ≡ false → is_among new_waiting i ≡ true
  pub wait_marked : (i : ℕ) → is_among new_waiting i ≡ true → (is_among waiting i ≡ true) ⊎ (slice_index_or new_marks i false ≡ true)
  pub left : length new_waiting + count_by not new_marks ≡ length waiting + count_by not marks

-- a search: what is marked is found by right, and what it leads to is marked unless it still waits
pub record IsSearch (first : List ℕ) (edges : List (List ℕ)) (marks : List Bool) (waiting : List ℕ) : Type 0 where
  pub size : length marks ≡ length edges
  pub wait_marked : (i : ℕ) → is_among waiting i ≡ true → slice_index_or marks i false ≡ true
  pub begun : (i : ℕ) → i < length edges → is_among first i ≡ true → slice_index_or marks i false ≡ true
  pub sound : (i : ℕ) → i < length edges → slice_index_or marks i false ≡ true → closure (length edges) (is_among first) (has_edge edges) i ≡ true
  pub followed : (from to : ℕ) → to < length edges → slice_index_or marks from false ≡ true → is_among waiting from ≡ false → has_edge edges from to ≡ true → slice_index_or marks to false ≡ true
