-- Numbers of 32, 64 and 16 bits: conversions (JLS 5.1.2, 5.1.3), and operators that keep the lowest bits (JLS 15.15 to 15.22).
use Rattle.std.specs.Prelude.{ℕ, ℤ, pos, Bool, not, ◌/◌, ◌%◌, ◌^◌, if◌then◌else◌, Option, Some, None, option_map}
use Rattle.std.specs.Ordering.{int_eq}
use Rattle.std.specs.Int.{w32, w64, cast_signed, cast_unsigned, int_wrapping_add, int_wrapping_sub, int_wrapping_mul, int_wrapping_div, int_bit_and, int_bit_or, int_bit_xor, int_shl, int_shr}
use Rattle.std.specs.Int.RustNames.{int_lt, int_rem}
use Rattle.jsh_text.specs.declared.value.Value.{Value}
use Rattle.jsh_text.specs.declared.value.Value.TheVariants as value
use Rattle.jsh_typed.specs.declared.types.Numeric.{Numeric}
use Rattle.jsh_typed.specs.declared.types.Numeric.TheVariants as numeric
use Rattle.jsh_typed.specs.declared.types.Promoted.{Promoted}
use Rattle.jsh_typed.specs.declared.types.Promoted.TheVariants as promoted_to
use Rattle.jsh_typed.specs.declared.operation.Arithmetic.{Arithmetic}
use Rattle.jsh_typed.specs.declared.operation.Arithmetic.TheVariants as arithmetic
use Rattle.jsh_typed.specs.declared.operation.Shift.{Shift}
use Rattle.jsh_typed.specs.declared.operation.Shift.TheVariants as shift
use Rattle.jsh_typed.specs.declared.operation.Comparison.{Comparison}
use Rattle.jsh_typed.specs.declared.operation.Comparison.TheVariants as comparison

-- the lowest 32 bits of a long, as an int
abbrev pub low_32_bits : ℤ → ℤ
low_32_bits n = cast_signed w32 (cast_unsigned w64 n % 2 ^ 32)

-- a number as an int, a long and a char; None for what is no number
abbrev pub as_int : Value → Option ℤ
as_int (value.Int n) = Some n
as_int (value.Long n) = Some (low_32_bits n)
as_int (value.Char c) = Some (pos c)
as_int _ = None

abbrev pub as_long : Value → Option ℤ
as_long (value.Int n) = Some n
as_long (value.Long n) = Some n
as_long (value.Char c) = Some (pos c)
as_long _ = None

abbrev pub as_char : Value → Option ℕ
as_char (value.Int n) = Some (cast_unsigned w32 n % 2 ^ 16)
as_char (value.Long n) = Some (cast_unsigned w64 n % 2 ^ 16)
as_char (value.Char c) = Some c
as_char _ = None

-- a number as a number of the type
abbrev pub converted : Value → Numeric → Option Value
converted v numeric.Int = option_map (λ n. value.Int n) (as_int v)
converted v numeric.Long = option_map (λ n. value.Long n) (as_long v)
converted v numeric.Char = option_map (λ c. value.Char c) (as_char v)

-- None where the divisor is zero
abbrev pub unless_zero : ℤ → ℤ → Option ℤ
unless_zero divisor n = if int_eq divisor (pos 0) then None else Some n

-- Two ints: `+`, `-`, `*` wrap (JLS 15.17.1, 15.18.2), `/` rounds towards zero (JLS 15.17.2), `%` has the dividend's sign (JLS 15.17.3),
-- and `&`, `|`, `^` go bit by bit (JLS 15.22.1).
abbrev pub int_arithmetic : Arithmetic → ℤ → ℤ → Option ℤ
int_arithmetic arithmetic.Add x y = Some (int_wrapping_add w32 x y)
int_arithmetic arithmetic.Subtract x y = Some (int_wrapping_sub w32 x y)
int_arithmetic arithmetic.Multiply x y = Some (int_wrapping_mul w32 x y)
int_arithmetic arithmetic.Divide x y = unless_zero y (int_wrapping_div w32 x y)
int_arithmetic arithmetic.Remainder x y = unless_zero y (int_rem x y)
int_arithmetic arithmetic.And x y = Some (int_bit_and w32 x y)
int_arithmetic arithmetic.Or x y = Some (int_bit_or w32 x y)
int_arithmetic arithmetic.Xor x y = Some (int_bit_xor w32 x y)

-- the same for longs
abbrev pub long_arithmetic : Arithmetic → ℤ → ℤ → Option ℤ
long_arithmetic arithmetic.Add x y = Some (int_wrapping_add w64 x y)
long_arithmetic arithmetic.Subtract x y = Some (int_wrapping_sub w64 x y)
long_arithmetic arithmetic.Multiply x y = Some (int_wrapping_mul w64 x y)
long_arithmetic arithmetic.Divide x y = unless_zero y (int_wrapping_div w64 x y)
long_arithmetic arithmetic.Remainder x y = unless_zero y (int_rem x y)
long_arithmetic arithmetic.And x y = Some (int_bit_and w64 x y)
long_arithmetic arithmetic.Or x y = Some (int_bit_or w64 x y)
long_arithmetic arithmetic.Xor x y = Some (int_bit_xor w64 x y)

-- the six lowest bits of a shift distance of the type
abbrev pub distance_of : Promoted → Value → Option ℕ
distance_of promoted_to.Int (value.Int n) = Some (cast_unsigned w32 n % 64)
distance_of promoted_to.Long (value.Long n) = Some (cast_unsigned w64 n % 64)
distance_of _ _ = None

-- a shift of an int, by the five lowest bits of the distance, and of a long, by the six lowest (JLS 15.19)
abbrev pub int_shift : Shift → ℤ → ℕ → ℤ
int_shift shift.Left n distance = int_shl w32 n (distance % 32)
int_shift shift.Right n distance = int_shr n (distance % 32)
int_shift shift.UnsignedRight n distance = cast_signed w32 (cast_unsigned w32 n / 2 ^ (distance % 32))

abbrev pub long_shift : Shift → ℤ → ℕ → ℤ
long_shift shift.Left n distance = int_shl w64 n (distance % 64)
long_shift shift.Right n distance = int_shr n (distance % 64)
long_shift shift.UnsignedRight n distance = cast_signed w64 (cast_unsigned w64 n / 2 ^ (distance % 64))

-- a comparison of two numbers (JLS 15.20.1)
abbrev pub compares : Comparison → ℤ → ℤ → Bool
compares comparison.Less x y = int_lt x y
compares comparison.Greater x y = int_lt y x
compares comparison.LessOrEqual x y = not (int_lt y x)
compares comparison.GreaterOrEqual x y = not (int_lt x y)
