-- The values of literals, by their spellings.
use Rattle.std.specs.Prelude.{ℕ, zero, suc, ℤ, nat_lt, take, ◌++◌, Bool, false, not, ◌&&◌, if◌then◌else◌, ◌==◌, List, [], ◌∷◌, Option, Some, None}
use Rattle.std.specs.Char.Escape.{encode_utf16}
use Rattle.std.specs.Int.{cast_signed, w32, w64}
use Rattle.jsh_lex.specs.Literal.{behind_quote, content, escape_unit, escapes_hold, is_octal, unit_of}
use Rattle.jsh_lex.specs.Number.{is_long, without_suffix, radix, bound, value_of, is_integer, is_in_range}

-- The bytes are an integer literal without suffix, or with it
abbrev pub is_int : List ℕ → Bool
is_int number = is_integer number && is_in_range number && not (is_long number)

abbrev pub is_long_int : List ℕ → Bool
is_long_int number = is_integer number && is_in_range number && is_long number

-- The int with the bits of an int literal's value. That of 2147483648 is the least int, which a minus leaves as it is.
abbrev pub int_value : List ℕ → Option ℤ
int_value number = if is_int number then Some (cast_signed w32 (value_of number)) else None

-- the long with the bits of a long literal's value
abbrev pub long_value : List ℕ → Option ℤ
long_value number = if is_long_int number then Some (cast_signed w64 (value_of number)) else None

-- the literal is one of the two greatest decimal ones, which stand only behind a minus
abbrev pub needs_minus : List ℕ → Bool
needs_minus number = is_integer number && radix (without_suffix number) == 10 && value_of number == bound 10 (is_long number)

abbrev pub if_at_end : Option (List ℕ) → List ℕ → Option (List ℕ)
if_at_end None inside = None
if_at_end (Some []) inside = Some inside
if_at_end (Some (c ∷ cs)) inside = None

-- what stands between the quotes of a literal, where the characters are one
abbrev pub between : ℕ → List ℕ → Option (List ℕ)
between quote [] = None
between quote (c ∷ cs) = if c == quote then if_at_end (behind_quote quote false cs) (content quote false cs) else None

abbrev pub unit_between : Option (List ℕ) → Option ℕ
unit_between None = None
unit_between (Some inside) = unit_of inside

-- the UTF-16 unit of a character literal
abbrev pub char_value : List ℕ → Option ℕ
char_value cs = unit_between (between 39 cs)

-- how many octal digits begin the text, up to so many
abbrev pub octal_run : ℕ → List ℕ → ℕ
octal_run zero cs = 0
octal_run (suc n) [] = 0
octal_run (suc n) (c ∷ cs) = if is_octal c then suc (octal_run n cs) else 0

-- How many characters an escape has behind its backslash: one letter, or octal digits as far as they go, up to 377
abbrev pub escape_len : List ℕ → ℕ
escape_len [] = 0
escape_len (c ∷ cs) = if is_octal c then suc (octal_run (if nat_lt c 52 then 2 else 1) cs) else 1

abbrev pub one_unit : Option ℕ → List ℕ
one_unit None = []
one_unit (Some u) = u ∷ []

-- the UTF-16 units that a content spells; the number counts the characters that are left of an escape (JLS 3.10.5)
abbrev pub units_behind : ℕ → List ℕ → List ℕ
units_behind zero [] = []
units_behind zero (c ∷ cs) =
    if c == 92 then one_unit (escape_unit (take (escape_len cs) cs)) ++ units_behind (escape_len cs) cs else encode_utf16 c ++ units_behind zero cs
units_behind (suc left) [] = []
units_behind (suc left) (c ∷ cs) = units_behind left cs

abbrev pub units_between : Option (List ℕ) → Option (List ℕ)
units_between None = None
units_between (Some inside) = if escapes_hold false inside then Some (units_behind 0 inside) else None

-- the UTF-16 units of a string literal
abbrev pub string_value : List ℕ → Option (List ℕ)
string_value cs = units_between (between 34 cs)
