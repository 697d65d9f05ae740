-- Laws on reading bytes as text.
use Rattle.std.proofs.Common.{◌≡◌, ℕ, zero, suc, ◌+◌, ◌<◌, ◌≤◌, List, [], ◌++◌, length, take, drop, refl, sym, ap, ◌∙◌, ⊎_elim, arith, length-drop, append_assoc, append-nil}
use Rattle.std.specs.Str.{IsUtf8}
use Rattle.std.specs.Str.Lossy.{utf8_valid_len, replacement_bytes}
use Rattle.std.proofs.lemmas.Str.{utf8_valid_len_le, utf8_valid_len-IsUtf8}
use borrow.Author.Tests.{eq-eqb, ne_eqb}
use Rattle.std.proofs.lemmas.Bool.{cases_lt}
use Rattle.std.proofs.lemmas.List.{drop_all, take_all, length-take-le}
use Rattle.std.specs.Char.{encode_utf8}
use Rattle.jsh_lines.specs.Lines.{as_text, as_text_within}

pub within_valid : (most : ℕ) (bytes : List ℕ) → utf8_valid_len bytes ≡ length bytes → as_text_within most bytes ≡ bytes
within_valid zero bytes whole = refl
within_valid (suc most) bytes whole = rw (eq-eqb _ _ whole)

pub within_fault : (most : ℕ) (bytes : List ℕ) → ¬ (utf8_valid_len bytes ≡ length bytes) →
    as_text_within (suc most) bytes
    ≡ take (utf8_valid_len bytes) bytes ++ (replacement_bytes ++ as_text_within most (drop (utf8_valid_len bytes + 1) bytes))
within_fault most bytes faulty = rw (ne_eqb _ _ faulty)

-- any bound from the length up gives the same text
within_any : (k j : ℕ) (bytes : List ℕ) → length bytes ≤ k → length bytes ≤ j → as_text_within k bytes ≡ as_text_within j bytes
within_any zero j bytes p q = let within = utf8_valid_len_le bytes in sym (within_valid j bytes (omega arith))
within_any (suc k) zero bytes p q = let within = utf8_valid_len_le bytes in within_valid (suc k) bytes (omega arith)
within_any (suc k) (suc j) bytes p q = let within = utf8_valid_len_le bytes in ⊎_elim
    (λ short.
    let faulty : ¬ (utf8_valid_len bytes ≡ length bytes) = omega arith in
    let left = length-drop (utf8_valid_len bytes + 1) bytes in
    within_fault k bytes faulty
    ∙ ap (λ text. take (utf8_valid_len bytes) bytes ++ (replacement_bytes ++ text)) (within_any k j _ (omega arith) (omega arith))
    ∙ sym (within_fault j bytes faulty))
    (λ whole. within_valid (suc k) bytes (omega arith) ∙ sym (within_valid (suc j) bytes (omega arith)))
    (cases_lt (utf8_valid_len bytes) (length bytes))

-- Bytes that are UTF-8 stay as they are.
pub as_text-valid : (bytes : List ℕ) → utf8_valid_len bytes ≡ length bytes → as_text bytes ≡ bytes
unfolding as_text
as_text-valid bytes whole = within_valid (length bytes) bytes whole

pub as_text-IsUtf8 : (bytes : List ℕ) → IsUtf8 bytes → as_text bytes ≡ bytes
as_text-IsUtf8 bytes valid = as_text-valid bytes (utf8_valid_len-IsUtf8 bytes valid)

-- The first byte at which no sequence begins is read as U+FFFD, and the text goes on behind it.
pub as_text-fault : (bytes : List ℕ) → utf8_valid_len bytes < length bytes →
    as_text bytes ≡ take (utf8_valid_len bytes) bytes ++ (replacement_bytes ++ as_text (drop (utf8_valid_len bytes + 1) bytes))
unfolding as_text
as_text-fault bytes short =
    let left = length-drop (utf8_valid_len bytes + 1) bytes in
    let faulty : ¬ (utf8_valid_len bytes ≡ length bytes) = omega arith in
    within_any (length bytes) (suc (length bytes)) bytes (omega arith) (omega arith)
    ∙ within_fault (length bytes) bytes faulty
    ∙ ap (λ text. take (utf8_valid_len bytes) bytes ++ (replacement_bytes ++ text))
    (within_any (length bytes) (length (drop (utf8_valid_len bytes + 1) bytes)) _ (omega arith) (omega arith))

pub as_text-nil : as_text [] ≡ []
as_text-nil = let within = utf8_valid_len_le [] in as_text-valid [] (omega arith)

encode_utf8-replacement : encode_utf8 65533 ≡ replacement_bytes
unfolding encode_utf8
encode_utf8-replacement = refl

-- the front that is UTF-8
abbrev front : List ℕ → List ℕ
front bytes = take (utf8_valid_len bytes) bytes

pub length-front : (bytes : List ℕ) → length (front bytes) ≡ utf8_valid_len bytes
length-front bytes = length-take-le (utf8_valid_len bytes) bytes (utf8_valid_len_le bytes)

-- a text, and the text of bytes that are all UTF-8 behind it
pub pushed-all : (text bytes valid made : List ℕ) → valid ≡ front bytes → length valid ≡ length bytes → made ≡ text ++ valid →
    made ++ as_text (drop (length valid) bytes) ≡ text ++ as_text bytes
pushed-all text bytes valid made is_front all is_made =
    let whole : utf8_valid_len bytes ≡ length bytes = sym (length-front bytes) ∙ ap length (sym is_front) ∙ all in
    let same : valid ≡ bytes = is_front ∙ take_all (utf8_valid_len bytes) bytes (omega arith) in
    let none : as_text (drop (length valid) bytes) ≡ [] =
    ap as_text (drop_all (length valid) bytes (omega arith)) ∙ as_text-nil in
    ap (λ left. made ++ left) none ∙ append-nil made ∙ is_made ∙ ap (λ more. text ++ more) (same ∙ sym (as_text-valid bytes whole))

-- the same with a byte at which no sequence begins behind the front
pub pushed-fault : (text bytes valid with_front made : List ℕ) → valid ≡ front bytes → ¬ (length valid ≡ length bytes) →
    with_front ≡ text ++ valid → made ≡ with_front ++ encode_utf8 65533 →
    made ++ as_text (drop (length valid + 1) bytes) ≡ text ++ as_text bytes
pushed-fault text bytes valid with_front made is_front faulty is_with_front is_made =
    let same : length valid ≡ utf8_valid_len bytes = ap length is_front ∙ length-front bytes in
    let within = utf8_valid_len_le bytes in
    let left = as_text (drop (utf8_valid_len bytes + 1) bytes) in
    ap (λ n. made ++ as_text (drop (n + 1) bytes)) same
    ∙ ap (λ made. made ++ left) (is_made ∙ ap (λ sign. with_front ++ sign) encode_utf8-replacement
    ∙ ap (λ first. first ++ replacement_bytes) (is_with_front ∙ ap (λ valid. text ++ valid) is_front))
    ∙ append_assoc (text ++ front bytes) replacement_bytes left
    ∙ append_assoc text (front bytes) (replacement_bytes ++ left)
    ∙ ap (λ more. text ++ more) (sym (as_text-fault bytes (omega arith)))
