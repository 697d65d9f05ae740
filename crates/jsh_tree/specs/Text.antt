-- Texts of snippets: white space, and how long a source may be.
use Rattle.std.specs.Prelude.{ℕ, Bool, ◌==◌, ◌||◌}

-- white space: space, tab, form feed, and the ends of a line, CR and LF (JLS 3.4, 3.6)
abbrev pub is_white : ℕ → Bool
is_white c = c == 32 || c == 9 || c == 12 || c == 13 || c == 10

-- the most bytes of one source
abbrev pub most_source : ℕ
most_source = 65536
