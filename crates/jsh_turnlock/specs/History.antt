-- Histories: lists of entries, each a number and an item. The number is that of the pass that added the entry.
use Rattle.std.specs.Prelude.{◌≡◌, ℕ, ◌==◌, leb, if◌then◌else◌, List, ◌++◌, length}
use Rattle.std.specs.List.{filter, All}

module _ {I : Type 0} where
  -- the entries with this number, in their order
  abbrev pub own : List (ℕ × I) → ℕ → List (ℕ × I)
  own history number = filter (λ e. e.0 == number) history

  -- the history begins with what was seen
  abbrev pub StartsWith : List (ℕ × I) → List (ℕ × I) → Type 0
  StartsWith history seen = (rest : List (ℕ × I)) × (history ≡ seen ++ rest)

  -- the history is the one found, followed by entries with this number alone
  abbrev pub IsAddedBy : ℕ → List (ℕ × I) → List (ℕ × I) → Type 0
  IsAddedBy number found history = (added : List (ℕ × I)) × (history ≡ found ++ added) × All (λ e. e.0 ≡ number) added

  -- the longer of two histories
  abbrev pub longer : List (ℕ × I) → List (ℕ × I) → List (ℕ × I)
  longer one other = (if leb (length one) (length other) then other else one)
