-- How a client's input is cut into lines, and how a line is read as text.
use Rattle.std.specs.Prelude.{◌≡◌, ℕ, zero, suc, ◌+◌, ◌<◌, Bool, false, ◌==◌, List, [], ◌∷◌, ◌++◌, length, take, drop, if◌then◌else◌}
use Rattle.std.specs.List.{list_any, list_all}
use Rattle.std.specs.Str.Lossy.{utf8_valid_len, replacement_bytes}
use Rattle.jsh_tree.specs.Text.{is_white}

-- nothing but white space
abbrev pub is_blank : List ℕ → Bool
is_blank line = list_all is_white line

-- some byte ends a line
abbrev pub has_line_feed : List ℕ → Bool
has_line_feed bytes = list_any (λ byte. byte == 10) bytes

-- the first byte that ends a line is at this place, between what stands before it and what stands behind it
abbrev pub IsFirstLineFeed : List ℕ → ℕ → Type 0
IsFirstLineFeed bytes place = (place < length bytes) × (has_line_feed (take place bytes) ≡ false)
    × (bytes ≡ take place bytes ++ 10 ∷ drop (place + 1) bytes)

-- the lines that end with a line feed, each without it, and what stands behind the last line feed
pub record Cut : Type 0 where
  pub whole : List (List ℕ)
  pub rest : List ℕ

-- with an empty line before the others
abbrev pub with_empty_line : Cut → Cut
with_empty_line behind = record { whole = [] ∷ behind.whole; rest = behind.rest }

-- with a byte at the front of the first line, which is the rest where there is no whole line
abbrev pub with_byte : ℕ → Cut → Cut
with_byte byte behind = before behind.whole behind.rest
  where
    before : List (List ℕ) → List ℕ → Cut
    before [] rest = record { whole = []; rest = byte ∷ rest }
    before (line ∷ lines) rest = record { whole = (byte ∷ line) ∷ lines; rest = rest }

-- bytes cut into lines
abbrev pub cut : List ℕ → Cut
cut [] = record { whole = []; rest = [] }
cut (byte ∷ bytes) = if byte == 10 then with_empty_line (cut bytes) else with_byte byte (cut bytes)

-- `as_text`, for at most this many bytes at which no sequence begins
abbrev pub as_text_within : ℕ → List ℕ → List ℕ
as_text_within zero bytes = bytes
as_text_within (suc most) bytes = let valid = utf8_valid_len bytes in
    if valid == length bytes then bytes
    else take valid bytes ++ (replacement_bytes ++ as_text_within most (drop (valid + 1) bytes))

-- Bytes read as UTF-8 (Unicode, section 3.9; RFC 3629): each byte at which no valid sequence begins is
-- read as U+FFFD, and all else stays.
unfoldable pub as_text : List ℕ → List ℕ
as_text bytes = as_text_within (length bytes) bytes

-- the rest of an input that has ended, as a line where it has bytes
abbrev pub last_lines : List ℕ → List (List ℕ)
last_lines [] = []
last_lines (byte ∷ bytes) = (byte ∷ bytes) ∷ []

-- the lines of an input as far as it has come: its rest is a line only once it has ended, and an empty rest is none
abbrev pub input_lines : List ℕ → Bool → List (List ℕ)
input_lines bytes ended = (cut bytes).whole ++ (if ended then last_lines (cut bytes).rest else [])
