-- What a client reads.
use Rattle.std.specs.Prelude.{ℕ}

-- the bytes that a client may read
abbrev pub most_input : ℕ
most_input = 1073741824
