-- Reading decimal digits from the left.
use Rattle.std.proofs.Common.{◌≡◌, ℕ, zero, suc, ◌+◌, ◌^◌, ◌<◌, ◌≤◌, Bool, true, false, cond, ◌&&◌, List, [], ◌∷◌, ◌++◌, length, get_or, take, None, Some, refl, ap, ◌∙◌, arith, nat_lt}
use Rattle.std.proofs.lemmas.Bool.{lt-ltb, le-ltb}
use Rattle.std.proofs.lemmas.List.{take_more}
use Rattle.std.proofs.lemmas.Str.Parse.{digits_value-take-le}
use Rattle.std.specs.Char.{is_ascii_digit}
use Rattle.std.specs.Option.{option_and_then}
use Rattle.std.specs.Str.{all_ascii_digits}
use Rattle.std.specs.Str.Parse.{digits_value}
use Rattle.jsh_text.specs.Decimal.{natural_value, within_64_bits}

and_false : (b : Bool) → (b && false) ≡ false
and_false true = refl
and_false false = refl

and_assoc : (a b c : Bool) → (a && (b && c)) ≡ ((a && b) && c)
and_assoc true b c = refl
and_assoc false b c = refl

all_ascii_digits-append : (xs ys : List ℕ) → all_ascii_digits (xs ++ ys) ≡ (all_ascii_digits xs && all_ascii_digits ys)
all_ascii_digits-append [] ys = refl
all_ascii_digits-append (x ∷ xs) ys = ap (λ b. is_ascii_digit x && b) (all_ascii_digits-append xs ys) ∙ and_assoc (is_ascii_digit x) _ _

-- one more digit
pub all_ascii_digits-more : (us : List ℕ) (i : ℕ) → i < length us → all_ascii_digits (take i us) ≡ true → is_ascii_digit (get_or us i 0) ≡ true → all_ascii_digits (take (i + 1) us) ≡ true
all_ascii_digits-more us i within before here =
    rw (take_more us i 0 within, all_ascii_digits-append (take i us) (get_or us i 0 ∷ []), before, here) refl

-- a unit that is no digit
no_digit : (us : List ℕ) (i : ℕ) → i < length us → is_ascii_digit (get_or us i 0) ≡ false → all_ascii_digits us ≡ false
no_digit [] i within here = absurd (omega arith)
no_digit (u ∷ us) zero within here = ap (λ b. b && all_ascii_digits us) here
no_digit (u ∷ us) (suc i) within here = ap (λ b. is_ascii_digit u && b) (no_digit us i (omega arith) here) ∙ and_false (is_ascii_digit u)

pub natural_value-no_digit : (us : List ℕ) (i : ℕ) → i < length us → is_ascii_digit (get_or us i 0) ≡ false → natural_value us ≡ None
natural_value-no_digit us i within here =
    ap (λ b. cond (nat_lt 0 (length us) && b) (Some (digits_value 10 us)) None) (no_digit us i within here)
    ∙ ap (λ b. cond b (Some (digits_value 10 us)) None) (and_false (nat_lt 0 (length us)))

-- the first digits are too large already
pub natural_value-too_large : (us : List ℕ) (i : ℕ) → 2 ^ 64 ≤ digits_value 10 (take i us) → option_and_then within_64_bits (natural_value us) ≡ None
natural_value-too_large us i large =
    let whole = digits_value-take-le 10 us i (omega arith) in
    elim (nat_lt 0 (length us) && all_ascii_digits us)
    as (λ b. option_and_then within_64_bits (cond b (Some (digits_value 10 us)) None) ≡ None)
    [ true ↦ ap (λ b. cond b (Some (digits_value 10 us)) None) (le-ltb (digits_value 10 us) (2 ^ 64) (omega arith)) | false ↦ refl ]

pub natural_value-digits : (us : List ℕ) → 0 < length us → all_ascii_digits us ≡ true → digits_value 10 us < 2 ^ 64 → option_and_then within_64_bits (natural_value us) ≡ Some (digits_value 10 us)
natural_value-digits us some digits small = rw (lt-ltb 0 (length us) some, digits, lt-ltb (digits_value 10 us) (2 ^ 64) small) refl

-- what the answer of a test says of it
pub test_failed : (b : Bool) (v : ℕ) → None ≡ cond b (Some v) None → b ≡ false
test_failed true v e = cc
test_failed false v e = refl

pub test_passed : (b : Bool) (v d : ℕ) → Some d ≡ cond b (Some v) None → (b ≡ true) × (d ≡ v)
test_passed true v d e = (refl, cc)
test_passed false v d e = cc
