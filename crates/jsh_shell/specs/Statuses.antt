-- The statuses of a client and of a call.
use Rattle.std.specs.Prelude.{ℕ}

-- all was read and served
abbrev pub all_served : ℕ
all_served = 0

-- the words were refused
abbrev pub words_refused : ℕ
words_refused = 2

-- a read, or an opening for input, failed
abbrev pub read_failed : ℕ
read_failed = 3

-- a write failed
abbrev pub write_failed : ℕ
write_failed = 4

-- there was no memory
abbrev pub memory_short : ℕ
memory_short = 5

-- a limit was met
abbrev pub limit_met : ℕ
limit_met = 6
