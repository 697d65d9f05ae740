-- What std's `parse` says of a decimal number.
use Rattle.std.proofs.Common.{◌≡◌, ℕ, ◌<◌, ◌^◌, Bool, true, false, ◌&&◌, List, length, None, Some, refl, arith, rules}
use Rattle.std.specs.Prelude.{nat_lt, not, Result, Ok, Err, MatchResult}
use Rattle.std.specs.Char.{is_ascii_digit}
use Rattle.std.specs.List.{list_all}
use Rattle.std.specs.Str.Parse.{ParsesUnsigned, digits_value}
use Rattle.std.proofs.lemmas.Bool.{lt-ltb}
use Rattle.std.proofs.lemmas.Bool.Decides.{nat_tests}
use Rattle.std.proofs.lemmas.Str.Parse.{IsNumeralModel, numerals_by_value, parse_digits}
use Rattle.jsh_commands.specs.Numbers.{has_leading_zero, is_decimal, number}

own : IsNumeralModel (λ ds. list_all is_ascii_digit ds ≡ true) (digits_value 10)
own = numerals_by_value (λ ds. list_all is_ascii_digit ds ≡ true) (search rules)

first : (a b : Bool) → (a && b) ≡ true → a ≡ true
first true b e = refl
first false b e = e

second : (a b : Bool) → (a && b) ≡ true → b ≡ true
second true b e = e
second false b e = absurd (cc)

digits : (text : List ℕ) → is_decimal text ≡ true → list_all is_ascii_digit text ≡ true
digits text e = second (nat_lt 0 (length text)) _ (first (nat_lt 0 (length text) && list_all is_ascii_digit text) (not (has_leading_zero text)) e)

some : (text : List ℕ) → is_decimal text ≡ true → 0 < length text
some text e =
    let t = first (nat_lt 0 (length text)) _ (first (nat_lt 0 (length text) && list_all is_ascii_digit text) (not (has_leading_zero text)) e) in
    grind (arith, nat_tests)

-- the number of a decimal, by what `parse` gives of it
pub parsed : {E : Type 0} (text : List ℕ) (r : Result ℕ E) → ParsesUnsigned 32 10 text r → is_decimal text ≡ true →
    MatchResult r (λ v. number text ≡ Some v) (λ e. number text ≡ None)
unfolding number
parsed {E = E} text (Ok v) h is =
    let gives = parse_digits own {E = E} 32 text (Ok v) h (digits text is) in
    rw (is, lt-ltb (digits_value 10 text) (2 ^ 32) gives.0.1, gives.1) refl
parsed {E = E} text (Err e) h is = by (nat_lt (digits_value 10 text) (2 ^ 32)) refl
  where
    by : (small : Bool) → nat_lt (digits_value 10 text) (2 ^ 32) ≡ small → number text ≡ None
    by true small = absurd (parse_digits own {E = E} 32 text (Err e) h (digits text is) (some text is, grind (arith, nat_tests)))
    by false small = rw (is, small) refl

pub no_number : (text : List ℕ) → is_decimal text ≡ false → number text ≡ None
unfolding number
no_number text is = rw is refl
