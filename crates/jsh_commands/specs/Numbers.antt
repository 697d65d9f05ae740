-- The numbers that commands name snippets and runs by.
use Rattle.std.specs.Prelude.{ℕ, ◌^◌, nat_lt, Bool, not, ◌&&◌, ◌==◌, List, length, slice_index, Option, None, Some, if◌then◌else◌}
use Rattle.std.specs.Char.{is_ascii_digit}
use Rattle.std.specs.List.{list_all}
use Rattle.std.specs.Str.Parse.{digits_value}

-- a zero with something behind it
abbrev pub has_leading_zero : List ℕ → Bool
has_leading_zero text = nat_lt 1 (length text) && slice_index text 0 == 48

-- one or more decimal digits, without a leading zero
abbrev pub is_decimal : List ℕ → Bool
is_decimal text = nat_lt 0 (length text) && list_all is_ascii_digit text && not (has_leading_zero text)

-- the number that a text is, where 32 bits hold it
unfoldable pub number : List ℕ → Option ℕ
number text = if is_decimal text && nat_lt (digits_value 10 text) (2 ^ 32) then Some (digits_value 10 text) else None
