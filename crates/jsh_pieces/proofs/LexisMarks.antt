-- What marks the end of a lexeme: the line feed at the end of a text, and a comment's opening behind the lexeme.
use Rattle.std.proofs.Common.{◌≡◌, ℕ, ◌<◌, ◌==◌, ◌&&◌, ◌||◌, inl, inr, Bool, true, false, not, cond, List, [], ◌∷◌, ◌++◌, length, drop, refl, sym, ap, subst, ◌∙◌, arith}
use Rattle.std.proofs.lemmas.Bool.{eqb-true, and_parts, and_from, or_left, or_right, not-true, both_ways, false_from_ne_true}
use Rattle.std.specs.Char.{is_ascii_digit}
use Rattle.std.specs.List.{list_all, list_any}
use Rattle.std.specs.Prelude.{codes}
use Rattle.jsh_tree.specs.declared.token.TokenKind.{TokenKind}
use Rattle.jsh_tree.specs.Text.{is_white}
use Rattle.jsh_lex.specs.Chars.{drop_while, begins}
use Rattle.jsh_lex.specs.Number.{is_float, is_float_mark}
use Rattle.jsh_lex.specs.Spelling.{Lists}
use Rattle.jsh_lex.specs.Table.{operators}
use Rattle.jsh_lex.proofs.Longest.{begins_split}
use Rattle.jsh_pieces.specs.Pieces.{ends_line}
use Rattle.jsh_pieces.proofs.LexisFronts.{Marked, Stops}

-- ---- numbers

-- the character ends a run of digits and underscores
abbrev pub ends_digits : ℕ → Bool
ends_digits c = not (is_ascii_digit c) && not (c == 95)

float_same : (after_digit : Bool) (cs more : List ℕ) → list_any ends_digits cs ≡ true → is_float after_digit (cs ++ more) ≡ is_float after_digit cs
float_same after_digit [] more h = cc
float_same after_digit (c ∷ cs) more h =
    let last = after_digit && is_float_mark c in
    let go : (d u : Bool) → ((not d && not u) || list_any ends_digits cs) ≡ true
    → cond d (is_float true (cs ++ more)) (cond u (is_float false (cs ++ more)) last) ≡ cond d (is_float true cs) (cond u (is_float false cs) last)
    = λ d. elim d as (λ v. (u : Bool) → ((not v && not u) || list_any ends_digits cs) ≡ true
    → cond v (is_float true (cs ++ more)) (cond u (is_float false (cs ++ more)) last) ≡ cond v (is_float true cs) (cond u (is_float false cs) last)) [
      | true ↦ λ u k. float_same true cs more k
      | false ↦ λ u. elim u as (λ v. (not v || list_any ends_digits cs) ≡ true
          → cond v (is_float false (cs ++ more)) last ≡ cond v (is_float false cs) last) [
            | true ↦ λ k. float_same false cs more k
            | false ↦ λ k. refl
          ]
    ] in
    go (is_ascii_digit c) (c == 95) h

-- ---- operators

none_listed : (p : List ℕ → Bool) (entries : List (List ℕ × TokenKind)) → list_all (λ entry. not (p entry.0)) entries ≡ true
    → (s : List ℕ) (kind : TokenKind) → Lists entries s kind → p s ≡ false
none_listed p [] h s kind l = absurd l
none_listed p (entry ∷ entries) h s kind (inl l) =
    subst (λ (xs : List ℕ). p xs ≡ false) l.0 (not-true (p entry.0) (and_parts (not (p entry.0)) (list_all (λ entry. not (p entry.0)) entries) h).0)
none_listed p (entry ∷ entries) h s kind (inr l) =
    none_listed p entries (and_parts (not (p entry.0)) (list_all (λ entry. not (p entry.0)) entries) h).1 s kind l

-- what holds for a text and for each longer one, but for no operator, keeps operators from beginning with the text
no_operator : (p : List ℕ → Bool) → ((xs ys : List ℕ) → p xs ≡ true → p (xs ++ ys) ≡ true) → list_all (λ entry. not (p entry.0)) operators ≡ true
    → (cs : List ℕ) → p cs ≡ true → (s : List ℕ) (kind : TokenKind) → Lists operators s kind → begins cs s ≡ false
no_operator p grows none cs h s kind l =
    false_from_ne_true (begins cs s)
    (λ k. both_ways (p s) (none_listed p operators none s kind l) (subst (λ (xs : List ℕ). p xs ≡ true) (sym (begins_split cs s k)) (grows cs (drop (length cs) s) h)))

-- ---- line feeds

pub ends_later : (s rest : List ℕ) → ends_line (s ++ rest) ≡ true → ends_line rest ≡ true
ends_later [] rest h = h
ends_later (c ∷ []) [] h = refl
ends_later (c ∷ []) (d ∷ rest) h = h
ends_later (c ∷ d ∷ s) rest h = ends_later (d ∷ s) rest h

-- a character that a line feed has passes for the text
line_any : (p : ℕ → Bool) (cs : List ℕ) → p 10 ≡ true → ends_line cs ≡ true → 0 < length cs → list_any p cs ≡ true
line_any p [] h ends some = absurd (omega arith)
line_any p (c ∷ []) h ends some = or_left (p c) false (ap p (eqb-true c 10 ends) ∙ h)
line_any p (c ∷ d ∷ cs) h ends some = or_right (p c) (list_any p (d ∷ cs)) (line_any p (d ∷ cs) h ends (omega arith))

line_stops : (p : ℕ → Bool) (cs : List ℕ) → p 10 ≡ false → ends_line cs ≡ true → 0 < length cs → 0 < length (drop_while p cs)
line_stops p [] h ends some = absurd (omega arith)
line_stops p (c ∷ []) h ends some =
    let fails : p c ≡ false = ap p (eqb-true c 10 ends) ∙ h in
    subst (λ b. 0 < length (cond b [] (c ∷ []))) (sym fails) (omega arith)
line_stops p (c ∷ d ∷ cs) h ends some =
    elim (p c) as (λ b. 0 < length (cond b (drop_while p (d ∷ cs)) (c ∷ d ∷ cs))) [
      | true ↦ line_stops p (d ∷ cs) h ends (omega arith)
      | false ↦ omega arith
    ]

any_grows : (p : ℕ → Bool) (xs ys : List ℕ) → list_any p xs ≡ true → list_any p (xs ++ ys) ≡ true
any_grows p [] ys h = cc
any_grows p (x ∷ xs) ys h =
    let go : (b : Bool) → (b || list_any p xs) ≡ true → (b || list_any p (xs ++ ys)) ≡ true
    = λ b. elim b as (λ v. (v || list_any p xs) ≡ true → (v || list_any p (xs ++ ys)) ≡ true) [ true ↦ λ k. refl | false ↦ λ k. any_grows p xs ys k ] in
    go (p x) h

-- a text that ends with a line feed, and doesn't begin with white space, has more characters
black_some : (c : ℕ) (cs : List ℕ) → is_white c ≡ false → ends_line (c ∷ cs) ≡ true → 0 < length cs
black_some c [] black ends = absurd (both_ways (is_white c) black (ap is_white (eqb-true c 10 ends)))
black_some c (d ∷ cs) black ends = omega arith

pub marked_by_line : (c : ℕ) (cs : List ℕ) → is_white c ≡ false → ends_line (c ∷ cs) ≡ true → Marked c cs
marked_by_line c cs black ends =
    record {
      some = black_some c cs black ends;
      float = λ more. float_same false (c ∷ cs) more (line_any ends_digits (c ∷ cs) refl ends (omega arith));
      spelling = no_operator (list_any (λ d. d == 10)) (any_grows (λ d. d == 10)) refl (c ∷ cs) (line_any (λ d. d == 10) (c ∷ cs) refl ends (omega arith));
    }

pub stops_by_line : (c : ℕ) (cs rest : List ℕ) → is_white c ≡ false → ends_line (c ∷ cs) ≡ true → Stops cs rest
stops_by_line c cs rest black ends p h e =
    subst (λ (xs : List ℕ). 0 < length xs) e (line_stops p cs h (ends_later (c ∷ []) cs ends) (black_some c cs black ends))

-- ---- openings of comments

-- somewhere in the text stands /*
abbrev pub has_opening : List ℕ → Bool
has_opening [] = false
has_opening (c ∷ cs) = begins (codes "/*") (c ∷ cs) || has_opening cs

begins_grows : (s cs more : List ℕ) → begins s cs ≡ true → begins s (cs ++ more) ≡ true
begins_grows [] cs more h = refl
begins_grows (x ∷ s) [] more h = cc
begins_grows (x ∷ s) (c ∷ cs) more h =
    let both = and_parts (c == x) (begins s cs) h in
    and_from (c == x) (begins s (cs ++ more)) both.0 (begins_grows s cs more both.1)

opening_grows : (cs more : List ℕ) → has_opening cs ≡ true → has_opening (cs ++ more) ≡ true
opening_grows [] more h = cc
opening_grows (c ∷ cs) more h =
    let later = begins (codes "/*") (c ∷ (cs ++ more)) in
    let go : (b : Bool) → begins (codes "/*") (c ∷ cs) ≡ b → (b || has_opening cs) ≡ true → (later || has_opening (cs ++ more)) ≡ true
    = λ b. elim b as (λ v. begins (codes "/*") (c ∷ cs) ≡ v → (v || has_opening cs) ≡ true → (later || has_opening (cs ++ more)) ≡ true) [
      | true ↦ λ e k. or_left later (has_opening (cs ++ more)) (begins_grows (codes "/*") (c ∷ cs) more e)
      | false ↦ λ e k. or_right later (has_opening (cs ++ more)) (opening_grows cs more k)
    ] in
    go (begins (codes "/*") (c ∷ cs)) refl h

pub opening_behind : (s rest : List ℕ) → has_opening rest ≡ true → has_opening (s ++ rest) ≡ true
opening_behind [] rest h = h
opening_behind (c ∷ s) rest h = or_right (begins (codes "/*") (c ∷ (s ++ rest))) (has_opening (s ++ rest)) (opening_behind s rest h)

opening_ends_digits : (cs : List ℕ) → has_opening cs ≡ true → list_any ends_digits cs ≡ true
opening_ends_digits [] h = cc
opening_ends_digits (c ∷ cs) h =
    let go : (b : Bool) → begins (codes "/*") (c ∷ cs) ≡ b → (b || has_opening cs) ≡ true → list_any ends_digits (c ∷ cs) ≡ true
    = λ b. elim b as (λ v. begins (codes "/*") (c ∷ cs) ≡ v → (v || has_opening cs) ≡ true → list_any ends_digits (c ∷ cs) ≡ true) [
      | true ↦ λ e k. or_left (ends_digits c) (list_any ends_digits cs) (ap ends_digits (eqb-true c 47 (and_parts (c == 47) (begins (codes "*") cs) e).0))
      | false ↦ λ e k. or_right (ends_digits c) (list_any ends_digits cs) (opening_ends_digits cs k)
    ] in
    go (begins (codes "/*") (c ∷ cs)) refl h

opening_long : (cs : List ℕ) → has_opening cs ≡ true → 1 < length cs
opening_long [] h = cc
opening_long (c ∷ []) h =
    let go : (b : Bool) → ((b && false) || false) ≡ true → ⊥ = λ b. elim b as (λ v. ((v && false) || false) ≡ true → ⊥) [ true ↦ λ k. cc | false ↦ λ k. cc ] in
    absurd (go (c == 47) h)
opening_long (c ∷ d ∷ cs) h = omega arith

pub marked_by_opening : (c : ℕ) (cs : List ℕ) → has_opening (c ∷ cs) ≡ true → Marked c cs
marked_by_opening c cs h =
    record {
      some = omega (arith, opening_long (c ∷ cs) h);
      float = λ more. float_same false (c ∷ cs) more (opening_ends_digits (c ∷ cs) h);
      spelling = no_operator has_opening opening_grows refl (c ∷ cs) h;
    }

pub stops_by_opening : (cs rest : List ℕ) → has_opening rest ≡ true → Stops cs rest
stops_by_opening cs rest h p fails e = omega (arith, opening_long rest h)
