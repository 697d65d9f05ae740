-- The number that a decimal text writes, as `Integer.parseInt` and `Long.parseLong` read ASCII text.
use Rattle.std.specs.Prelude.{ℕ, ◌^◌, Bool, ◌&&◌, List, [], ◌∷◌, length, nat_lt, ◌==◌, ℤ, pos, negsuc, neg_ℤ, if◌then◌else◌, Option, None, Some}
use Rattle.std.specs.Option.{option_map, option_and_then}
use Rattle.std.specs.Str.{all_ascii_digits}
use Rattle.std.specs.Str.Parse.{digits_value}

-- the number of one or more ASCII digits, and None for any other text
abbrev pub natural_value : List ℕ → Option ℕ
natural_value units = if nat_lt 0 (length units) && all_ascii_digits units then Some (digits_value 10 units) else None

-- the number, where 64 bits hold it
abbrev pub within_64_bits : ℕ → Option ℕ
within_64_bits n = if nat_lt n (2 ^ 64) then Some n else None

-- the number of digits after an optional `+` or `-`
abbrev pub decimal_value : List ℕ → Option ℤ
decimal_value [] = None
decimal_value (unit ∷ units) = if unit == 45 then option_map (λ n. neg_ℤ (pos n)) (natural_value units)
    else option_map pos (natural_value (if unit == 43 then units else unit ∷ units))

-- z lies from -2 ^ k to 2 ^ k - 1
abbrev pub has_signed_bits : ℕ → ℤ → Bool
has_signed_bits k (pos n) = nat_lt n (2 ^ k)
has_signed_bits k (negsuc n) = nat_lt n (2 ^ k)

-- the number, where it lies in that range
abbrev pub within_signed_bits : ℕ → ℤ → Option ℤ
within_signed_bits k z = if has_signed_bits k z then Some z else None

-- the `int` and the `long` that a text writes (JLS 4.2.1)
abbrev pub int_value : List ℕ → Option ℤ
int_value units = option_and_then (within_signed_bits 31) (decimal_value units)

abbrev pub long_value : List ℕ → Option ℤ
long_value units = option_and_then (within_signed_bits 63) (decimal_value units)
