-- What std's `parse` says of digits.
use Rattle.std.proofs.Common.{◌≡◌, ℕ, ◌<◌, ◌≤◌, ◌^◌, Bool, true, false, ◌&&◌, List, [], ◌∷◌, length, Some, None, refl, sym, ap, ◌∙◌, subst, arith}
use Rattle.std.specs.Prelude.{if◌then◌else◌, nat_le, Result, Ok, Err, MatchResult}
use Rattle.std.specs.List.{list_all}
use Rattle.std.specs.Char.{digit_value}
use Rattle.std.specs.Str.Parse.{ParsesUnsigned, AllDigits, IsNumeral, digits_value, without_leading_plus}
use Rattle.std.proofs.lemmas.Str.Parse.{without_leading_plus_none}
use Rattle.std.proofs.lemmas.Bool.Decides.{nat_tests}
use Rattle.jsh_words.specs.Meant.{is_digit, is_number, number}

first : (a b : Bool) → (a && b) ≡ true → a ≡ true
first true b e = refl
first false b e = e

second : (a b : Bool) → (a && b) ≡ true → b ≡ true
second true b e = e
second false b e = absurd (cc)

digit_is : (c : ℕ) → is_digit c ≡ true → (48 ≤ c) × (c ≤ 57)
digit_is c e =
    let low = first (nat_le 48 c) (nat_le c 57) e in
    let high = second (nat_le 48 c) (nat_le c 57) e in
    (grind (arith, nat_tests), grind (arith, nat_tests))

digit_small : (c : ℕ) → is_digit c ≡ true → digit_value c < 10
digit_small c e = let d = digit_is c e in grind (arith, nat_tests)

all_digits : (bs : List ℕ) → list_all is_digit bs ≡ true → AllDigits 10 bs
all_digits [] e = tt
all_digits (b ∷ bs) e = (digit_small b (first (is_digit b) _ e), all_digits bs (second (is_digit b) _ e))

numeral : (bs : List ℕ) → is_number bs ≡ true → IsNumeral 10 bs
numeral bs e =
    let some = first (nat_le 1 (length bs)) (nat_le (length bs) 10) (first (nat_le 1 (length bs) && nat_le (length bs) 10) _ e) in
    (grind (arith, nat_tests), all_digits bs (second (nat_le 1 (length bs) && nat_le (length bs) 10) _ e))

plain : (bs : List ℕ) → is_number bs ≡ true → without_leading_plus bs ≡ bs
plain [] e = absurd (cc)
plain (b ∷ bs) e =
    let d = digit_is b (first (is_digit b) _ (second (nat_le 1 (length (b ∷ bs)) && nat_le (length (b ∷ bs)) 10) _ e)) in
    without_leading_plus_none (b ∷ bs) (λ is. omega arith)

-- what a number's digits are read as
pub parsed : {E : Type 0} (bs : List ℕ) (r : Result ℕ E) → ParsesUnsigned 32 10 bs r → is_number bs ≡ true → MatchResult r (λ v. v ≡ digits_value 10 bs) (λ e. 4294967296 ≤ digits_value 10 bs)
parsed bs (Ok v) p e = p.1 ∙ ap (digits_value 10) (plain bs e)
parsed bs (Err x) p e = by (nat_le 4294967296 (digits_value 10 bs)) refl
  where
    by : (b : Bool) → nat_le 4294967296 (digits_value 10 bs) ≡ b → 4294967296 ≤ digits_value 10 bs
    by true is = grind (arith, nat_tests)
    by false is = absurd (p (subst (λ ds. IsNumeral 10 ds × (digits_value 10 ds < 2 ^ 32)) (sym (plain bs e)) (numeral bs e, grind (arith, nat_tests))))

pub no_number : (least most : ℕ) (bs : List ℕ) → is_number bs ≡ false → number least most bs ≡ None
no_number least most bs e = ap (λ b. if b && (nat_le least (digits_value 10 bs) && nat_le (digits_value 10 bs) most) then Some (digits_value 10 bs) else None) e

is_within : (a b c : Bool) (d : ℕ) → a ≡ true → b ≡ true → c ≡ true → (if a && (b && c) then Some d else None) ≡ Some d
is_within a b c d x y z = ap (λ t. if t && (b && c) then Some d else None) x ∙ (ap (λ t. if t && c then Some d else None) y ∙ ap (λ t. if t then Some d else None) z)

is_outside : (a b c : Bool) (d : ℕ) → (b && c) ≡ false → (if a && (b && c) then Some d else None) ≡ None
is_outside true b c d x = ap (λ t. if t then Some d else None) x
is_outside false b c d x = refl

pub within : (least most : ℕ) (bs : List ℕ) (v : ℕ) → is_number bs ≡ true → v ≡ digits_value 10 bs → least ≤ v → v ≤ most → number least most bs ≡ Some v
within least most bs v e is low high =
    subst (λ d. number least most bs ≡ Some d) (sym is)
    (is_within (is_number bs) (nat_le least (digits_value 10 bs)) (nat_le (digits_value 10 bs) most) (digits_value 10 bs) e (grind (arith, nat_tests)) (grind (arith, nat_tests)))

pub too_small : (least most : ℕ) (bs : List ℕ) (v : ℕ) → v ≡ digits_value 10 bs → v < least → number least most bs ≡ None
too_small least most bs v is low = is_outside (is_number bs) (nat_le least (digits_value 10 bs)) (nat_le (digits_value 10 bs) most) (digits_value 10 bs) (grind (arith, nat_tests))

pub too_large : (least most : ℕ) (bs : List ℕ) → most < digits_value 10 bs → number least most bs ≡ None
too_large least most bs high = is_outside (is_number bs) (nat_le least (digits_value 10 bs)) (nat_le (digits_value 10 bs) most) (digits_value 10 bs) (grind (arith, nat_tests))
