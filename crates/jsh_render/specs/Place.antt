-- Where a byte of a text stands, as feedback says it: lines and characters count from 1.
use Rattle.std.specs.Prelude.{ℕ, ◌+◌, ◌==◌, Bool, ◌||◌, not, nat_lt, nat_le, if◌then◌else◌, List, take, reverse, count_by}
use Rattle.std.specs.List.{take_while}
use Rattle.jsh_render.specs.declared.place.Position.{Position}

-- a line feed, which ends a line (JLS 3.4)
abbrev pub is_line_feed : ℕ → Bool
is_line_feed byte = byte == 10

-- a byte begins a character unless it is from 128 to 191 (RFC 3629, section 3)
abbrev pub begins_character : ℕ → Bool
begins_character byte = nat_lt byte 128 || nat_le 192 byte

-- the number of the line that comes behind these bytes: one more than the line feeds among them
abbrev pub line_behind : List ℕ → ℕ
line_behind bytes = count_by is_line_feed bytes + 1

-- the bytes of the last line among these, the last one first
abbrev pub back_to_line_feed : List ℕ → List ℕ
back_to_line_feed bytes = take_while (λ byte. not (is_line_feed byte)) (reverse bytes)

-- the number of the character that comes behind these bytes: one more than the characters of their last line
abbrev pub column_behind : List ℕ → ℕ
column_behind bytes = count_by begins_character (back_to_line_feed bytes) + 1

-- the column behind a byte that stands at this one
abbrev pub next_column : ℕ → ℕ → ℕ
next_column column byte = if is_line_feed byte then 1 else if begins_character byte then column + 1 else column

-- the position of the byte at a place of a text
unfoldable pub position_of : List ℕ → ℕ → Position
position_of source place = record { line = line_behind (take place source); column = column_behind (take place source) }
