-- The definitions agree: what is printed reads back, and a text's units show the text.
use Rattle.std.proofs.Common.{◌≡◌, ℕ, suc, ◌+◌, ◌-◌, ◌/◌, ◌%◌, ◌^◌, ◌<◌, ◌≤◌, true, false, cond, ◌==◌, List, [], ◌∷◌, ◌++◌, length, map, None, Some, ℤ, pos, negsuc, neg_ℤ, decimal, ⊎_elim, refl, ap, ◌∙◌, arith}
use Rattle.std.proofs.lemmas.Bool.{lt-ltb, cases_lt, and_parts}
use Rattle.std.proofs.lemmas.Fmt.{decimal_nonempty, digits_decimal, digits_value-decimal}
use Rattle.std.proofs.lemmas.Str.{encodes-chars, scalars-chars}
use Rattle.std.proofs.lemmas.Str.Parse.{IsNumeralModel, numerals_by_value, tells_all_ascii_digits}
use Rattle.std.proofs.str.Utf16.{IsPair, one_unit, two_units, lone_unit_char_low, lone_unit_char_high, utf16_chars-nil, utf16_chars_lone, utf16_chars_pair}
use Rattle.std.specs.Char.{is_ascii_digit}
use Rattle.std.specs.Char.Escape.{encode_utf16}
use Rattle.std.specs.Char.Utf16.{utf16_chars}
use Rattle.std.specs.Fmt.{signed_decimal}
use Rattle.std.specs.Option.{option_map, option_and_then, unwrap_or}
use Rattle.std.specs.Str.{IsUtf8, chars, encode_utf8_all, all_ascii_digits}
use Rattle.std.specs.Str.Parse.{digits_value}
use lib.Signed.{mag}
use lib.Utf8.{scalar, scalars, scalar_cases}
use Rattle.jsh_text.specs.Decimal.{natural_value, decimal_value, within_signed_bits, int_value, long_value}
use Rattle.jsh_text.specs.Utf.{utf16, shown_chars, utf8}

-- ---- decimal texts

own : IsNumeralModel (λ ds. all_ascii_digits ds ≡ true) (digits_value 10)
own = numerals_by_value _ tells_all_ascii_digits

natural_value-decimal : (n : ℕ) → n < 2 ^ 64 → natural_value (decimal n) ≡ Some n
natural_value-decimal n h = rw (lt-ltb 0 (length (decimal n)) (decimal_nonempty n h), digits_decimal own n h, digits_value-decimal own n h) refl

digit_is_no_sign : (d s : ℕ) → is_ascii_digit d ≡ true → s < 48 → (d == s) ≡ false
digit_is_no_sign d s h low = grind arith

decimal_value-digits : (ds : List ℕ) → 0 < length ds → all_ascii_digits ds ≡ true → decimal_value ds ≡ option_map pos (natural_value ds)
decimal_value-digits [] some h = absurd (omega arith)
decimal_value-digits (d ∷ ds) some h =
    let first = (and_parts (is_ascii_digit d) (all_ascii_digits ds) h).0 in
    rw (digit_is_no_sign d 45 first (omega arith), digit_is_no_sign d 43 first (omega arith)) refl

decimal_value-signed_decimal : (z : ℤ) → mag z < 2 ^ 63 → decimal_value (signed_decimal z) ≡ Some z
decimal_value-signed_decimal (pos n) h =
    decimal_value-digits (decimal n) (decimal_nonempty n (omega arith)) (digits_decimal own n (omega arith))
    ∙ ap (option_map pos) (natural_value-decimal n (omega arith))
decimal_value-signed_decimal (negsuc n) h = ap (option_map (λ k. neg_ℤ (pos k))) (natural_value-decimal (suc n) (omega arith))

within : (k : ℕ) (z : ℤ) → mag z < 2 ^ k → within_signed_bits k z ≡ Some z
within k (pos n) h = ap (λ b. cond b (Some (pos n)) None) (lt-ltb n (2 ^ k) h)
within k (negsuc n) h = ap (λ b. cond b (Some (negsuc n)) None) (lt-ltb n (2 ^ k) h)

-- `int_value` and `long_value` of what is printed
pub int_value-signed_decimal : (z : ℤ) → mag z < 2 ^ 31 → int_value (signed_decimal z) ≡ Some z
int_value-signed_decimal z h = ap (option_and_then (within_signed_bits 31)) (decimal_value-signed_decimal z (omega arith)) ∙ within 31 z h

pub long_value-signed_decimal : (z : ℤ) → mag z < 2 ^ 63 → long_value (signed_decimal z) ≡ Some z
long_value-signed_decimal z h = ap (option_and_then (within_signed_bits 63)) (decimal_value-signed_decimal z h) ∙ within 63 z h

-- ---- texts

utf16_chars-low : (c : ℕ) (us : List ℕ) → scalar c ≡ true → c < 0x1_0000 → utf16_chars (encode_utf16 c ++ us) ≡ Some c ∷ utf16_chars us
utf16_chars-low c us h low =
    ap (λ u. utf16_chars (u ++ us)) (one_unit c low)
    ∙ ⊎_elim
    (λ below. utf16_chars_lone c us (λ pair. omega arith) ∙ ap (λ o. o ∷ utf16_chars us) (lone_unit_char_low c below))
    (λ above. utf16_chars_lone c us (λ pair. omega arith) ∙ ap (λ o. o ∷ utf16_chars us) (lone_unit_char_high c above.0))
    (scalar_cases c h)

utf16_chars-high : (c : ℕ) (us : List ℕ) → c < 0x11_0000 → 0x1_0000 ≤ c → utf16_chars (encode_utf16 c ++ us) ≡ Some c ∷ utf16_chars us
utf16_chars-high c us fits high =
    let pair : IsPair (0xD800 + (c - 0x1_0000) / 0x400) (0xDC00 + (c - 0x1_0000) % 0x400) = (omega arith, omega arith, omega arith, omega arith) in
    ap (λ u. utf16_chars (u ++ us)) (two_units c high)
    ∙ utf16_chars_pair _ _ us pair
    ∙ ap (λ n. Some n ∷ utf16_chars us) (omega arith)

scalar_below : (c : ℕ) → scalar c ≡ true → c < 0x11_0000
scalar_below c h = ⊎_elim (λ below. omega arith) (λ above. above.1) (scalar_cases c h)

utf16_chars-first : (c : ℕ) (us : List ℕ) → scalar c ≡ true → utf16_chars (encode_utf16 c ++ us) ≡ Some c ∷ utf16_chars us
utf16_chars-first c us h = ⊎_elim (utf16_chars-low c us h) (utf16_chars-high c us (scalar_below c h)) (cases_lt c 0x1_0000)

shown_chars-utf16 : (cs : List ℕ) → scalars cs ≡ true → shown_chars (utf16 cs) ≡ cs
shown_chars-utf16 [] h = ap (map (λ c. unwrap_or c 63)) utf16_chars-nil
shown_chars-utf16 (c ∷ cs) h =
    let parts = and_parts (scalar c) (scalars cs) h in
    ap (map (λ o. unwrap_or o 63)) (utf16_chars-first c (utf16 cs) parts.0)
    ∙ ap (λ l. c ∷ l) (shown_chars-utf16 cs parts.1)

-- the units of a text show the text
pub utf8-utf16 : (bs : List ℕ) → IsUtf8 bs → utf8 (utf16 (chars bs)) ≡ bs
utf8-utf16 bs h = ap encode_utf8_all (shown_chars-utf16 (chars bs) (scalars-chars bs h)) ∙ encodes-chars bs h
