-- Counts of faults, and what a sink holds after one.
use Rattle.std.specs.Prelude.{◌≡◌, ℕ, ◌+◌, ◌-◌, ◌^◌, ◌<◌, min, List, Option, length, take}
use Rattle.std.specs.Io.KnownBytes.{append_known}

-- A fault was counted: the count rose, or stood at the end of its type, where it stays.
abbrev pub Rose : ℕ → ℕ → Type 0
Rose old new = old < 2 ^ 64 - 1 → old < new

-- one more, up to the end of a u64
abbrev pub one_more : ℕ → ℕ
one_more n = min (n + 1) (2 ^ 64 - 1)

-- A sink that held the old bytes took some bytes from the front of the piece, and not all of it.
abbrev pub TakesPart : Option (List ℕ) → Option (List ℕ) → List ℕ → Type 0
TakesPart old new piece = (n : ℕ) × (n < length piece) × (new ≡ append_known old (take n piece))
