-- No front of a text that is longer than the token there spells any kind.
use Rattle.std.proofs.Common.{◌≡◌, ℕ, ◌<◌, ◌==◌, ◌&&◌, ◌||◌, ◌⊎◌, Bool, true, false, not, cond, inl, inr, List, [], ◌∷◌, ◌++◌, length, drop, Some, None, refl, sym, ap, subst, ◌∙◌, append_assoc, length-append, arith}
use Rattle.std.proofs.lemmas.Bool.{eqb-true, eqb-false, eq-eqb, and_parts, and_from, or_left, or_right, or_parts, both_ways, not-true}
use Rattle.std.proofs.lemmas.List.Folds.{list_all-append}
use Rattle.std.specs.Char.{is_ascii_digit}
use Rattle.std.specs.List.{list_all}
use Rattle.unicode_ident.proofs.Computing.{unicode_ident}
use Rattle.jsh_tree.specs.declared.token.TokenKind.{TokenKind}
use Rattle.jsh_lex.specs.Chars.{is_identifier_start, is_identifier_part, is_line_end, take_while, drop_while, begins}
use Rattle.jsh_lex.specs.Literal.{behind_quote, content, escapes_next}
use Rattle.jsh_lex.specs.Table.{operators, longer_stand_first}
use Rattle.jsh_lex.specs.Lexis.{word_chars, behind_word}
use Rattle.jsh_lex.specs.Spelling.{Spells, a_word, a_number, a_string, a_character, an_operator, is_content, Lists}
use Rattle.jsh_lex.proofs.Texts.{quote_split}

abbrev pub NoLonger : List ℕ → List ℕ → Type 0
NoLonger s rest = (kind : TokenKind) (more tail : List ℕ) → rest ≡ more ++ tail → 0 < length more → Spells kind (s ++ more) → ⊥

-- ---- what first characters tell

-- a word or a number may begin with the character
abbrev pub begins_run : ℕ → Bool
begins_run c = is_identifier_start c || is_ascii_digit c

-- no word, number or literal begins with the first character
abbrev begins_none : List ℕ → Bool
begins_none [] = false
begins_none (c ∷ cs) = not (begins_run c) && (not (c == 34) && not (c == 39))

quote_begins_no_run : begins_run 34 ≡ false
unfolding unicode_ident
quote_begins_no_run = refl

apostrophe_begins_no_run : begins_run 39 ≡ false
unfolding unicode_ident
apostrophe_begins_no_run = refl

operators_begin_none : list_all (λ entry. begins_none entry.0) operators ≡ true
unfolding unicode_ident
operators_begin_none = refl

listed_pass : (p : List ℕ → Bool) (entries : List (List ℕ × TokenKind)) → list_all (λ entry. p entry.0) entries ≡ true
    → (s : List ℕ) (kind : TokenKind) → Lists entries s kind → p s ≡ true
listed_pass p [] h s kind l = absurd l
listed_pass p (entry ∷ entries) h s kind (inl l) =
    subst (λ (xs : List ℕ). p xs ≡ true) l.0 (and_parts (p entry.0) (list_all (λ entry. p entry.0) entries) h).0
listed_pass p (entry ∷ entries) h s kind (inr l) =
    listed_pass p entries (and_parts (p entry.0) (list_all (λ entry. p entry.0) entries) h).1 s kind l

operator_begins_none : (s : List ℕ) (kind : TokenKind) → Lists operators s kind → begins_none s ≡ true
operator_begins_none s kind l = listed_pass begins_none operators operators_begin_none s kind l

-- ---- words and numbers

first_fails : (p : ℕ → Bool) (cs : List ℕ) (m : ℕ) (ms : List ℕ) → drop_while p cs ≡ m ∷ ms → p m ≡ false
first_fails p [] m ms e = cc
first_fails p (c ∷ cs) m ms e =
    let go : (b : Bool) → p c ≡ b → cond b (drop_while p cs) (c ∷ cs) ≡ m ∷ ms → p m ≡ false
    = λ b. elim b as (λ v. p c ≡ v → cond v (drop_while p cs) (c ∷ cs) ≡ m ∷ ms → p m ≡ false) [
      | true ↦ λ h k. first_fails p cs m ms k
      | false ↦ λ h k. let same : c ≡ m = cc in subst (λ (x : ℕ). p x ≡ false) same h
    ] in
    go (p c) refl e

run_ends : (front more tail cs : List ℕ) → drop_while is_identifier_part cs ≡ more ++ tail → 0 < length more → list_all is_identifier_part (front ++ more) ≡ true → ⊥
run_ends front [] tail cs e some h = absurd (omega arith)
run_ends front (m ∷ ms) tail cs e some h =
    let parts = and_parts (list_all is_identifier_part front) (list_all is_identifier_part (m ∷ ms)) (sym (list_all-append is_identifier_part front (m ∷ ms)) ∙ h) in
    both_ways (is_identifier_part m) (first_fails is_identifier_part cs m (ms ++ tail) e)
    (and_parts (is_identifier_part m) (list_all is_identifier_part ms) parts.1).0

pub no_longer_run : (c : ℕ) (cs : List ℕ) → begins_run c ≡ true → (kind : TokenKind) (more tail : List ℕ) → behind_word (c ∷ cs) ≡ more ++ tail → 0 < length more
    → Spells kind (word_chars (c ∷ cs) ++ more) → ⊥
no_longer_run c cs h kind more tail e some (a_word is k) =
    run_ends (take_while is_identifier_part cs) more tail cs e some
    (and_parts (is_identifier_start c) (list_all is_identifier_part (take_while is_identifier_part cs ++ more)) is).1
no_longer_run c cs h kind more tail e some (a_number is k) =
    run_ends (take_while is_identifier_part cs) more tail cs e some
    (and_parts (is_ascii_digit c) (list_all is_identifier_part (take_while is_identifier_part cs ++ more)) is).1
no_longer_run c cs h kind more tail e some (a_string inside k is kept) =
    let same : c ≡ 34 = cc in
    both_ways (begins_run 34) quote_begins_no_run (subst (λ (x : ℕ). begins_run x ≡ true) same h)
no_longer_run c cs h kind more tail e some (a_character inside k is kept) =
    let same : c ≡ 39 = cc in
    both_ways (begins_run 39) apostrophe_begins_no_run (subst (λ (x : ℕ). begins_run x ≡ true) same h)
no_longer_run c cs h kind more tail e some (an_operator l) =
    let none = operator_begins_none (word_chars (c ∷ cs) ++ more) kind l in
    both_ways (begins_run c) (not-true (begins_run c) (and_parts (not (begins_run c)) (not (c == 34) && not (c == 39)) none).0) h

-- ---- literals

closes_there : (q : ℕ) (escaped : Bool) (inside tail : List ℕ) → is_line_end q ≡ false → is_content q escaped inside ≡ true
    → behind_quote q escaped (inside ++ q ∷ tail) ≡ Some tail
closes_there q escaped [] tail l h =
    ap (λ b. cond b None (cond (not escaped && (q == q)) (Some tail) (behind_quote q (escapes_next escaped q) tail))) l
    ∙ ap (λ b. cond b (Some tail) (behind_quote q (escapes_next escaped q) tail)) (and_from (not escaped) (q == q) h (eq-eqb q q refl))
closes_there q escaped (c ∷ inside) tail l h =
    let more = is_content q (escapes_next escaped c) inside in
    let both = and_parts (not (is_line_end c) && not (not escaped && (c == q))) more h in
    let here = and_parts (not (is_line_end c)) (not (not escaped && (c == q))) both.0 in
    ap (λ b. cond b None (cond (not escaped && (c == q)) (Some (inside ++ q ∷ tail)) (behind_quote q (escapes_next escaped c) (inside ++ q ∷ tail)))) (not-true (is_line_end c) here.0)
    ∙ (ap (λ b. cond b (Some (inside ++ q ∷ tail)) (behind_quote q (escapes_next escaped c) (inside ++ q ∷ tail))) (not-true (not escaped && (c == q)) here.1)
    ∙ closes_there q (escapes_next escaped c) inside tail l both.1)

literal_ends : (q : ℕ) (cs rest more tail inside : List ℕ) → is_line_end q ≡ false → behind_quote q false cs ≡ Some rest → rest ≡ more ++ tail → 0 < length more
    → (content q false cs ++ q ∷ []) ++ more ≡ inside ++ q ∷ [] → is_content q false inside ≡ true → ⊥
literal_ends q cs rest more tail inside l e parts some k h =
    let front = content q false cs in
    let whole : cs ≡ inside ++ q ∷ tail =
    quote_split q false cs rest e ∙ (ap (λ (xs : List ℕ). front ++ q ∷ xs) parts ∙ (sym (append_assoc front (q ∷ []) (more ++ tail))
    ∙ (sym (append_assoc (front ++ q ∷ []) more tail) ∙ (ap (λ (xs : List ℕ). xs ++ tail) k ∙ append_assoc inside (q ∷ []) tail)))) in
    let other : behind_quote q false cs ≡ Some tail = subst (λ (xs : List ℕ). behind_quote q false xs ≡ Some tail) (sym whole) (closes_there q false inside tail l h) in
    let same : rest ≡ tail = cc in
    absurd (omega (arith, ap length parts, ap length same, length-append more tail))

-- the same behind either quote
same_literal_ends : (q p : ℕ) (cs rest more tail inside : List ℕ) → is_line_end q ≡ false → behind_quote q false cs ≡ Some rest → rest ≡ more ++ tail → 0 < length more
    → q ∷ ((content q false cs ++ q ∷ []) ++ more) ≡ p ∷ (inside ++ p ∷ []) → is_content p false inside ≡ true → ⊥
same_literal_ends q p cs rest more tail inside l e parts some k h =
    let same : p ≡ q = cc in
    let k' : (content q false cs ++ q ∷ []) ++ more ≡ inside ++ p ∷ [] = cc in
    literal_ends q cs rest more tail inside l e parts some (subst (λ (x : ℕ). (content q false cs ++ q ∷ []) ++ more ≡ inside ++ x ∷ []) same k')
    (subst (λ (x : ℕ). is_content x false inside ≡ true) same h)

-- what a quote is
record IsQuote (q : ℕ) : Type 0 where
  in_line : is_line_end q ≡ false
  no_run : begins_run q ≡ false
  listed : (not (q == 34) && not (q == 39)) ≡ false

no_longer_literal : (q : ℕ) (cs rest : List ℕ) → IsQuote q → behind_quote q false cs ≡ Some rest → (kind : TokenKind) (more tail : List ℕ) → rest ≡ more ++ tail → 0 < length more
    → Spells kind ((q ∷ (content q false cs ++ q ∷ [])) ++ more) → ⊥
no_longer_literal q cs rest is_quote e kind more tail parts some (a_word is k) =
    both_ways (is_identifier_start q) (or_parts (is_identifier_start q) (is_ascii_digit q) is_quote.no_run).0
    (and_parts (is_identifier_start q) (list_all is_identifier_part ((content q false cs ++ q ∷ []) ++ more)) is).0
no_longer_literal q cs rest is_quote e kind more tail parts some (a_number is k) =
    both_ways (is_ascii_digit q) (or_parts (is_identifier_start q) (is_ascii_digit q) is_quote.no_run).1
    (and_parts (is_ascii_digit q) (list_all is_identifier_part ((content q false cs ++ q ∷ []) ++ more)) is).0
no_longer_literal q cs rest is_quote e kind more tail parts some (a_string inside k is kept) =
    same_literal_ends q 34 cs rest more tail inside is_quote.in_line e parts some k is
no_longer_literal q cs rest is_quote e kind more tail parts some (a_character inside k is kept) =
    same_literal_ends q 39 cs rest more tail inside is_quote.in_line e parts some k is
no_longer_literal q cs rest is_quote e kind more tail parts some (an_operator l) =
    let none = operator_begins_none (q ∷ ((content q false cs ++ q ∷ []) ++ more)) kind l in
    both_ways (not (q == 34) && not (q == 39)) is_quote.listed (and_parts (not (begins_run q)) (not (q == 34) && not (q == 39)) none).1

pub no_longer_string : (cs rest : List ℕ) → behind_quote 34 false cs ≡ Some rest → NoLonger (34 ∷ (content 34 false cs ++ 34 ∷ [])) rest
no_longer_string cs rest = no_longer_literal 34 cs rest (record { in_line = refl; no_run = quote_begins_no_run; listed = refl })

pub no_longer_character : (cs rest : List ℕ) → behind_quote 39 false cs ≡ Some rest → NoLonger (39 ∷ (content 39 false cs ++ 39 ∷ [])) rest
no_longer_character cs rest = no_longer_literal 39 cs rest (record { in_line = refl; no_run = apostrophe_begins_no_run; listed = refl })

-- ---- operators

begins_front : (s ys : List ℕ) → begins s (s ++ ys) ≡ true
begins_front [] ys = refl
begins_front (x ∷ s) ys = and_from (x == x) (begins s (s ++ ys)) (eq-eqb x x refl) (begins_front s ys)

pub begins_split : (s cs : List ℕ) → begins s cs ≡ true → cs ≡ s ++ drop (length s) cs
begins_split [] cs h = refl
begins_split (x ∷ s) [] h = cc
begins_split (x ∷ s) (c ∷ cs) h =
    let both = and_parts (c == x) (begins s cs) h in
    ap (λ (y : ℕ). y ∷ cs) (eqb-true c x both.0) ∙ ap (λ (xs : List ℕ). x ∷ xs) (begins_split s cs both.1)

-- the operators in front of these don't begin the text
abbrev pub NotEarlier : List (List ℕ × TokenKind) → List ℕ → Type 0
NotEarlier entries cs = (s : List ℕ) (kind : TokenKind) → Lists operators s kind → Lists entries s kind ⊎ (begins s cs ≡ false)

pub not_earlier_later : (entry : List ℕ × TokenKind) (entries : List (List ℕ × TokenKind)) (cs : List ℕ) → NotEarlier (entry ∷ entries) cs → begins entry.0 cs ≡ false
    → NotEarlier entries cs
not_earlier_later entry entries cs left h s kind l =
    elim (left s kind l) as (λ _. Lists entries s kind ⊎ (begins s cs ≡ false)) [
      | inl found ↦ elim found as (λ _. Lists entries s kind ⊎ (begins s cs ≡ false)) [
        | inl this ↦ inr (subst (λ (xs : List ℕ). begins xs cs ≡ false) this.0 h)
        | inr later ↦ inl later
      ]
      | inr none ↦ inr none
    ]

operator_ends : (s : List ℕ) (own kind : TokenKind) (entries : List (List ℕ × TokenKind)) (cs rest more tail : List ℕ) → longer_stand_first ((s, own) ∷ entries) ≡ true
    → NotEarlier ((s, own) ∷ entries) cs → cs ≡ s ++ rest → rest ≡ more ++ tail → 0 < length more → Lists operators (s ++ more) kind → ⊥
operator_ends s own kind entries cs rest more tail order left parts e some l =
    elim (left (s ++ more) kind l) as (λ _. ⊥) [
      | inl found ↦ elim found as (λ _. ⊥) [
        | inl this ↦ absurd (omega (arith, ap length this.0, length-append s more))
        | inr later ↦
            let free = listed_pass (λ ys. not (begins s ys)) entries (and_parts (list_all (λ later. not (begins s later.0)) entries) (longer_stand_first entries) order).0 (s ++ more) kind later in
            both_ways (begins s (s ++ more)) (not-true (begins s (s ++ more)) free) (begins_front s more)
      ]
      | inr none ↦
          let whole : cs ≡ (s ++ more) ++ tail = parts ∙ (ap (λ (xs : List ℕ). s ++ xs) e ∙ sym (append_assoc s more tail)) in
          both_ways (begins (s ++ more) ((s ++ more) ++ tail)) (subst (λ (xs : List ℕ). begins (s ++ more) xs ≡ false) whole none) (begins_front (s ++ more) tail)
    ]

pub no_longer_operator : (s : List ℕ) (own : TokenKind) (entries : List (List ℕ × TokenKind)) (cs rest : List ℕ) → longer_stand_first ((s, own) ∷ entries) ≡ true
    → NotEarlier ((s, own) ∷ entries) cs → cs ≡ s ++ rest → Lists operators s own
    → (kind : TokenKind) (more tail : List ℕ) → rest ≡ more ++ tail → 0 < length more → Spells kind (s ++ more) → ⊥
no_longer_operator s own entries cs rest order left parts listed kind more tail e some (an_operator l) =
    operator_ends s own kind entries cs rest more tail order left parts e some l
no_longer_operator [] own entries cs rest order left parts listed kind more tail e some spells =
    absurd (both_ways (begins_none []) refl (operator_begins_none [] own listed))
no_longer_operator (x ∷ xs) own entries cs rest order left parts listed kind more tail e some (a_word is k) =
    let none = and_parts (not (begins_run x)) (not (x == 34) && not (x == 39)) (operator_begins_none (x ∷ xs) own listed) in
    both_ways (begins_run x) (not-true (begins_run x) none.0)
    (or_left (is_identifier_start x) (is_ascii_digit x) (and_parts (is_identifier_start x) (list_all is_identifier_part (xs ++ more)) is).0)
no_longer_operator (x ∷ xs) own entries cs rest order left parts listed kind more tail e some (a_number is k) =
    let none = and_parts (not (begins_run x)) (not (x == 34) && not (x == 39)) (operator_begins_none (x ∷ xs) own listed) in
    both_ways (begins_run x) (not-true (begins_run x) none.0)
    (or_right (is_identifier_start x) (is_ascii_digit x) (and_parts (is_ascii_digit x) (list_all is_identifier_part (xs ++ more)) is).0)
no_longer_operator (x ∷ xs) own entries cs rest order left parts listed kind more tail e some (a_string inside k is kept) =
    let none = and_parts (not (begins_run x)) (not (x == 34) && not (x == 39)) (operator_begins_none (x ∷ xs) own listed) in
    let other = and_parts (not (x == 34)) (not (x == 39)) none.1 in
    let same : x ≡ 34 = cc in
    eqb-false x 34 (not-true (x == 34) other.0) same
no_longer_operator (x ∷ xs) own entries cs rest order left parts listed kind more tail e some (a_character inside k is kept) =
    let none = and_parts (not (begins_run x)) (not (x == 34) && not (x == 39)) (operator_begins_none (x ∷ xs) own listed) in
    let other = and_parts (not (x == 34)) (not (x == 39)) none.1 in
    let same : x ≡ 39 = cc in
    eqb-false x 39 (not-true (x == 39) other.1) same
