-- Integer literals (JLS 3.10.1). A number here is the longest run of identifier characters that begins with a digit, as its bytes.
use Rattle.std.specs.Prelude.{ℕ, ◌+◌, ◌-◌, ◌*◌, Bool, true, false, ◌&&◌, ◌||◌, if◌then◌else◌, ◌==◌, nat_lt, nat_le, List, [], ◌∷◌, length, drop, take, slice_index}
use Rattle.std.specs.Char.{is_ascii_digit, digit_value}
use Rattle.std.specs.List.{list_all}
use Rattle.jsh_tree.specs.declared.token.TokenKind.TheVariants.{IntLiteral, LongLiteral}
use Rattle.jsh_lex.specs.declared.lexeme.LexFault.TheVariants.{BadNumber, NumberTooBig}
use Rattle.jsh_lex.specs.declared.lexeme.Lexeme.{Lexeme}
use Rattle.jsh_lex.specs.declared.lexeme.Lexeme.TheVariants.{Spelled, Wrong}

-- the signs that make decimal digits a floating-point literal (JLS 3.10.2): . e E f F d D
abbrev pub is_float_mark : ℕ → Bool
is_float_mark c = c == 46 || c == 101 || c == 69 || c == 102 || c == 70 || c == 100 || c == 68

-- decimal digits, with underscores between them, and then such a sign; the flag says whether a digit stands right before
abbrev pub is_float : Bool → List ℕ → Bool
is_float after_digit [] = false
is_float after_digit (c ∷ cs) =
    if is_ascii_digit c then is_float true cs else (if c == 95 then is_float false cs else after_digit && is_float_mark c)

-- the suffix l or L ends the number
abbrev pub is_long : List ℕ → Bool
is_long number = slice_index number (length number - 1) == 108 || slice_index number (length number - 1) == 76

-- the number without its suffix
abbrev pub without_suffix : List ℕ → List ℕ
without_suffix number = if is_long number then take (length number - 1) number else number

-- the base of a number without suffix: 16 behind 0x, 2 behind 0b, 8 behind any other 0 that something follows, or 10
abbrev pub radix : List ℕ → ℕ
radix number =
    if slice_index number 0 == 48 && nat_lt 1 (length number)
    then (if slice_index number 1 == 120 then 16 else (if slice_index number 1 == 98 then 2 else 8))
    else 10

-- the digits behind the prefix; the leading 0 of an octal number is one of them
abbrev pub digits : List ℕ → List ℕ
digits number = if radix number == 16 || radix number == 2 then drop 2 number else number

abbrev pub is_digit : ℕ → ℕ → Bool
is_digit base c = nat_lt (digit_value c) base

abbrev pub is_digit_or_underscore : ℕ → ℕ → Bool
is_digit_or_underscore base c = c == 95 || is_digit base c

-- one digit of the base or more, with underscores between them
abbrev pub are_digits : ℕ → List ℕ → Bool
are_digits base ds =
    is_digit base (slice_index ds 0) && is_digit base (slice_index ds (length ds - 1)) && list_all (is_digit_or_underscore base) ds

-- the number that the digits stand for behind one that stands for n
abbrev pub value_behind : ℕ → ℕ → List ℕ → ℕ
value_behind base n [] = n
value_behind base n (c ∷ cs) = value_behind base (if c == 95 then n else n * base + digit_value c) cs

-- the value of an integer literal
unfoldable pub value_of : List ℕ → ℕ
value_of number = value_behind (radix (without_suffix number)) 0 (digits (without_suffix number))

-- The greatest value of a literal. The decimal ones are one more than an int's and a long's, for the operand of a minus.
abbrev pub bound : ℕ → Bool → ℕ
bound base is_long =
    if base == 10 then (if is_long then 9223372036854775808 else 2147483648) else (if is_long then 18446744073709551615 else 4294967295)

-- the number has the form of an integer literal
unfoldable pub is_integer : List ℕ → Bool
is_integer number = are_digits (radix (without_suffix number)) (digits (without_suffix number))

-- the value is within the bound of its base and suffix
unfoldable pub is_in_range : List ℕ → Bool
is_in_range number = nat_le (value_of number) (bound (radix (without_suffix number)) (is_long number))

-- what a number is
unfoldable pub integer : List ℕ → Lexeme
integer number =
    if is_integer number
    then (if is_in_range number then Spelled (if is_long number then LongLiteral else IntLiteral) else Wrong NumberTooBig)
    else Wrong BadNumber
