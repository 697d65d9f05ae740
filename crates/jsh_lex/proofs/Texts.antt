-- Texts as bytes and as characters.
use Rattle.std.proofs.Common.{zero, suc, subst, ◌≡◌, ℕ, ◌+◌, ◌-◌, ◌<◌, ◌≤◌, ◌==◌, ◌&&◌, Bool, true, false, not, cond, List, [], ◌∷◌, ◌++◌, length, take, Some, None, refl, sym, ap, ◌∙◌, arith, length-append}
use Rattle.std.proofs.Math.Seq.{take-append_seam}
use Rattle.std.proofs.lemmas.Bool.{eqb-true, and_parts}
use Rattle.std.proofs.lemmas.Str.{encodes-chars, encodes-append, encode_ascii, IsCharBoundary-at_seam, IsUtf8-append, IsUtf8-from_ascii, IsUtf8-take, chars_from_encodes}
use Rattle.std.specs.Prelude.{encode_utf8_all}
use Rattle.std.specs.Str.{chars, IsUtf8, IsAscii, IsCharBoundary}
use Rattle.jsh_lex.specs.Chars.{is_line_end, is_identifier_part, take_while, drop_while}
use Rattle.jsh_lex.specs.Literal.{behind_quote, content, escapes_next}
use Rattle.jsh_lex.specs.Lexis.{word_chars, word_bytes, behind_word}

-- a text whose characters are a front and those of a rest is the front and the rest
pub front_and_rest : (text rest front : List ℕ) → IsUtf8 text → IsUtf8 rest → chars text ≡ front ++ chars rest → text ≡ encode_utf8_all front ++ rest
front_and_rest text rest front t r e =
    sym (encodes-chars text t) ∙ (ap encode_utf8_all e ∙ (encodes-append front (chars rest) ∙ ap (λ xs. encode_utf8_all front ++ xs) (encodes-chars rest r)))

-- what stands before a rest
before_rest : (xs ys : List ℕ) → take (length (xs ++ ys) - length ys) (xs ++ ys) ≡ xs
before_rest xs ys =
    let n : length (xs ++ ys) - length ys ≡ length xs = omega (arith, length-append xs ys) in
    ap (λ k. take k (xs ++ ys)) n ∙ take-append_seam xs ys

pub take_drop_while : (p : ℕ → Bool) (cs : List ℕ) → cs ≡ take_while p cs ++ drop_while p cs
take_drop_while p [] = refl
take_drop_while p (c ∷ cs) =
    elim (p c) as (λ b. c ∷ cs ≡ cond b (c ∷ take_while p cs) [] ++ cond b (drop_while p cs) (c ∷ cs)) [
      | true ↦ ap (λ xs. c ∷ xs) (take_drop_while p cs)
      | false ↦ refl
    ]

pub word_split : (cs : List ℕ) → cs ≡ word_chars cs ++ behind_word cs
word_split [] = refl
word_split (c ∷ cs) = ap (λ xs. c ∷ xs) (take_drop_while is_identifier_part cs)

-- the bytes of the word are those in front of what stands behind it
pub word_taken : (text after : List ℕ) → IsUtf8 text → IsUtf8 after → chars after ≡ behind_word (chars text) → take (length text - length after) text ≡ word_bytes (chars text)
word_taken text after t a e =
    let parts = front_and_rest text after (word_chars (chars text)) t a (word_split (chars text) ∙ ap (λ xs. word_chars (chars text) ++ xs) (sym e)) in
    ap (λ xs. take (length xs - length after) xs) parts ∙ before_rest (word_bytes (chars text)) after

-- a text in front of whose rest a literal is closed is the content, the quote and the rest
pub quote_split : (q : ℕ) (escaped : Bool) (cs rest : List ℕ) → behind_quote q escaped cs ≡ Some rest → cs ≡ content q escaped cs ++ q ∷ rest
quote_split q escaped [] rest e = cc
quote_split q escaped (c ∷ cs) rest e =
    let inner : (b : Bool) → (not escaped && (c == q)) ≡ b → cond b (Some cs) (behind_quote q (escapes_next escaped c) cs) ≡ Some rest
    → c ∷ cs ≡ cond b [] (c ∷ content q (escapes_next escaped c) cs) ++ q ∷ rest
    = λ b. elim b as (λ v. (not escaped && (c == q)) ≡ v → cond v (Some cs) (behind_quote q (escapes_next escaped c) cs) ≡ Some rest
    → c ∷ cs ≡ cond v [] (c ∷ content q (escapes_next escaped c) cs) ++ q ∷ rest) [
      | true ↦ λ h k. let same : c ≡ q = eqb-true c q (and_parts (not escaped) (c == q) h).1 in cc
      | false ↦ λ h k. ap (λ xs. c ∷ xs) (quote_split q (escapes_next escaped c) cs rest k)
    ] in
    let outer : (b : Bool) → cond b None (cond (not escaped && (c == q)) (Some cs) (behind_quote q (escapes_next escaped c) cs)) ≡ Some rest
    → c ∷ cs ≡ content q escaped (c ∷ cs) ++ q ∷ rest
    = λ b. elim b as (λ v. cond v None (cond (not escaped && (c == q)) (Some cs) (behind_quote q (escapes_next escaped c) cs)) ≡ Some rest
    → c ∷ cs ≡ content q escaped (c ∷ cs) ++ q ∷ rest) [
      | true ↦ λ k. cc
      | false ↦ λ k. inner (not escaped && (c == q)) refl k
    ] in
    outer (is_line_end c) e

one_ascii : (q : ℕ) → q < 128 → IsAscii (q ∷ [])
one_ascii q h zero = h
one_ascii q h (suc i) = omega arith

-- where the content ends, in the text behind the opening quote
pub record Closes (q : ℕ) (text after : List ℕ) : Type 0 where
  pub longer : length after + 1 ≤ length text
  pub boundary : IsCharBoundary text (length text - length after - 1)
  pub inside : chars (take (length text - length after - 1) text) ≡ content q false (chars text)

pub closes : (q : ℕ) (text after : List ℕ) → q < 128 → IsUtf8 text → IsUtf8 after → behind_quote q false (chars text) ≡ Some (chars after) → Closes q text after
closes q text after ascii t a e =
    let inside = content q false (chars text) in
    let front = encode_utf8_all inside in
    let quote_first : IsUtf8 (q ∷ after) = subst (λ (xs : List ℕ). IsUtf8 (xs ++ after)) (encode_ascii q ascii) (IsUtf8-append _ after (subst (λ (xs : List ℕ). IsUtf8 xs) (sym (encode_ascii q ascii)) (IsUtf8-from_ascii (q ∷ []) (one_ascii q ascii))) a) in
    let tail : encode_utf8_all (q ∷ chars after) ≡ q ∷ after =
    ap (λ (xs : List ℕ). xs ++ encode_utf8_all (chars after)) (encode_ascii q ascii) ∙ ap (λ (xs : List ℕ). q ∷ xs) (encodes-chars after a) in
    let whole : text ≡ front ++ q ∷ after =
    sym (encodes-chars text t) ∙ (ap encode_utf8_all (quote_split q false (chars text) (chars after) e)
    ∙ (encodes-append inside (q ∷ chars after) ∙ ap (λ (xs : List ℕ). front ++ xs) tail)) in
    let size : length text ≡ length front + (length after + 1) = ap length whole ∙ (length-append front (q ∷ after) ∙ (omega arith)) in
    let at : length text - length after - 1 ≡ length front = omega arith in
    let boundary : IsCharBoundary text (length front) = IsCharBoundary-at_seam text front (q ∷ after) whole quote_first in
    let taken : take (length front) text ≡ front = ap (λ (xs : List ℕ). take (length front) xs) whole ∙ take-append_seam front (q ∷ after) in
    record {
      longer = omega arith;
      boundary = subst (λ (n : ℕ). IsCharBoundary text n) (sym at) boundary;
      inside = ap (λ (n : ℕ). chars (take n text)) at ∙ sym (chars_from_encodes inside (take (length front) text) (IsUtf8-take text (length front) t boundary) (sym taken));
    }
