-- What stands at the front of a text stands at the front of a longer text, too, where something marks its end.
use Rattle.std.proofs.Common.{◌≡◌, ℕ, ◌<◌, ◌≤◌, ◌==◌, ◌&&◌, inl, inr, Bool, true, false, not, cond, List, [], ◌∷◌, ◌++◌, length, drop, Option, Some, None, refl, sym, ap, subst, ◌∙◌, arith}
use Rattle.std.proofs.lemmas.Bool.{eqb-true, eq-eqb, and_parts}
use Rattle.std.proofs.lemmas.List.{drop-append-le}
use Rattle.std.specs.Char.{is_ascii_digit}
use Rattle.std.specs.Prelude.{codes, encode_utf8_all}
use Rattle.unicode_ident.proofs.Computing.{unicode_ident}
use Rattle.jsh_tree.specs.declared.token.TokenKind.{TokenKind}
use Rattle.jsh_lex.specs.declared.lexeme.LexFault.TheVariants.{FloatNotHere}
use Rattle.jsh_lex.specs.declared.lexeme.Lexeme.{Lexeme}
use Rattle.jsh_lex.specs.declared.lexeme.Lexeme.TheVariants.{Gap, Spelled, Wrong}
use Rattle.jsh_tree.specs.Text.{is_white}
use Rattle.jsh_lex.specs.Chars.{is_line_end, is_in_line, is_identifier_start, is_identifier_part, take_while, drop_while, begins, first_passes}
use Rattle.jsh_lex.specs.Literal.{behind_quote, content, escapes_next, string, character}
use Rattle.jsh_lex.specs.Number.{is_float, integer}
use Rattle.jsh_lex.specs.Spelling.{Lists}
use Rattle.jsh_lex.specs.Table.{operator, operators, operator_in, word_kind}
use Rattle.jsh_lex.specs.Lexis.{Front, front, number, behind_comment, closed_comment, closed_literal}
use Rattle.jsh_pieces.proofs.LexisSteps.{IsRight}

-- ---- runs of characters

-- the characters pass up to a character of the text
pub run_taken : (p : ℕ → Bool) (cs more : List ℕ) → 0 < length (drop_while p cs) → take_while p (cs ++ more) ≡ take_while p cs
run_taken p [] more h = absurd (omega arith)
run_taken p (c ∷ cs) more h =
    let go : (b : Bool) → 0 < length (cond b (drop_while p cs) (c ∷ cs)) → cond b (c ∷ take_while p (cs ++ more)) [] ≡ cond b (c ∷ take_while p cs) []
    = λ b. elim b as (λ v. 0 < length (cond v (drop_while p cs) (c ∷ cs)) → cond v (c ∷ take_while p (cs ++ more)) [] ≡ cond v (c ∷ take_while p cs) []) [
      | true ↦ λ k. ap (λ (xs : List ℕ). c ∷ xs) (run_taken p cs more k)
      | false ↦ λ k. refl
    ] in
    go (p c) h

pub run_left : (p : ℕ → Bool) (cs more : List ℕ) → 0 < length (drop_while p cs) → drop_while p (cs ++ more) ≡ drop_while p cs ++ more
run_left p [] more h = absurd (omega arith)
run_left p (c ∷ cs) more h =
    let go : (b : Bool) → 0 < length (cond b (drop_while p cs) (c ∷ cs)) → cond b (drop_while p (cs ++ more)) (c ∷ (cs ++ more)) ≡ cond b (drop_while p cs) (c ∷ cs) ++ more
    = λ b. elim b as (λ v. 0 < length (cond v (drop_while p cs) (c ∷ cs)) → cond v (drop_while p (cs ++ more)) (c ∷ (cs ++ more)) ≡ cond v (drop_while p cs) (c ∷ cs) ++ more) [
      | true ↦ λ k. run_left p cs more k
      | false ↦ λ k. refl
    ] in
    go (p c) h

-- ---- beginnings

-- a spelling that the whole text doesn't begin is seen in the text, or isn't there
pub begins_same : (s cs more : List ℕ) → begins cs s ≡ false → begins s (cs ++ more) ≡ begins s cs
begins_same [] cs more h = refl
begins_same (x ∷ s) [] more h = cc
begins_same (x ∷ s) (c ∷ cs) more h =
    let go : (b : Bool) → (c == x) ≡ b → (b && begins s (cs ++ more)) ≡ (b && begins s cs)
    = λ b. elim b as (λ v. (c == x) ≡ v → (v && begins s (cs ++ more)) ≡ (v && begins s cs)) [
      | true ↦ λ k.
          let same : (x == c) ≡ true = eq-eqb x c (sym (eqb-true c x k)) in
          let rest : begins cs s ≡ false = sym (ap (λ b. b && begins cs s) same) ∙ h in
          begins_same s cs more rest
      | false ↦ λ k. refl
    ] in
    go (c == x) refl

pub begins_two : (a b c : ℕ) (cs more : List ℕ) → 0 < length cs → begins (a ∷ b ∷ []) (c ∷ (cs ++ more)) ≡ begins (a ∷ b ∷ []) (c ∷ cs)
begins_two a b c [] more h = absurd (omega arith)
begins_two a b c (d ∷ cs) more h = refl

begins_fits : (s cs : List ℕ) → begins s cs ≡ true → length s ≤ length cs
begins_fits [] cs h = omega arith
begins_fits (x ∷ s) [] h = cc
begins_fits (x ∷ s) (c ∷ cs) h = omega (arith, begins_fits s cs (and_parts (c == x) (begins s cs) h).1)

first_same : (p : ℕ → Bool) (cs more : List ℕ) → 0 < length cs → first_passes p (cs ++ more) ≡ first_passes p cs
first_same p [] more h = absurd (omega arith)
first_same p (c ∷ cs) more h = refl

-- ---- ends of comments and literals

pub comment_ends : (cs more rest : List ℕ) → behind_comment cs ≡ Some rest → behind_comment (cs ++ more) ≡ Some (rest ++ more)
comment_ends [] more rest e = cc
comment_ends (c ∷ []) more rest e =
    let go : (b : Bool) → cond (b && false) (Some []) None ≡ Some rest → ⊥
    = λ b. elim b as (λ v. cond (v && false) (Some []) None ≡ Some rest → ⊥) [ true ↦ λ k. cc | false ↦ λ k. cc ] in
    absurd (go (c == 42) e)
comment_ends (c ∷ d ∷ cs) more rest e =
    let go : (b : Bool) → cond b (Some cs) (behind_comment (d ∷ cs)) ≡ Some rest → cond b (Some (cs ++ more)) (behind_comment (d ∷ (cs ++ more))) ≡ Some (rest ++ more)
    = λ b. elim b as (λ v. cond v (Some cs) (behind_comment (d ∷ cs)) ≡ Some rest → cond v (Some (cs ++ more)) (behind_comment (d ∷ (cs ++ more))) ≡ Some (rest ++ more)) [
      | true ↦ λ k. let same : cs ≡ rest = cc in ap (λ (xs : List ℕ). Some (xs ++ more)) same
      | false ↦ λ k. comment_ends (d ∷ cs) more rest k
    ] in
    go (begins (codes "*/") (c ∷ d ∷ cs)) e

-- where a literal is closed in the text, its content and the text behind it
pub record Closed (q : ℕ) (escaped : Bool) (cs more rest : List ℕ) : Type 0 where
  pub behind : behind_quote q escaped (cs ++ more) ≡ Some (rest ++ more)
  pub inside : content q escaped (cs ++ more) ≡ content q escaped cs

pub literal_closed : (q : ℕ) (escaped : Bool) (cs more rest : List ℕ) → behind_quote q escaped cs ≡ Some rest → Closed q escaped cs more rest
literal_closed q escaped [] more rest e = cc
literal_closed q escaped (c ∷ cs) more rest e =
    let next = escapes_next escaped c in
    let Here : Bool → Bool → Type 0 = λ ends closes.
    (cond ends None (cond closes (Some (cs ++ more)) (behind_quote q next (cs ++ more))) ≡ Some (rest ++ more))
    × (cond closes [] (c ∷ content q next (cs ++ more)) ≡ cond closes [] (c ∷ content q next cs)) in
    let inner : (b : Bool) → cond b (Some cs) (behind_quote q next cs) ≡ Some rest → Here false b
    = λ b. elim b as (λ v. cond v (Some cs) (behind_quote q next cs) ≡ Some rest → Here false v) [
      | true ↦ λ k. let same : cs ≡ rest = cc in (ap (λ (xs : List ℕ). Some (xs ++ more)) same, refl)
      | false ↦ λ k. let later = literal_closed q next cs more rest k in (later.behind, ap (λ (xs : List ℕ). c ∷ xs) later.inside)
    ] in
    let outer : (b : Bool) → cond b None (cond (not escaped && (c == q)) (Some cs) (behind_quote q next cs)) ≡ Some rest → Here b (not escaped && (c == q))
    = λ b. elim b as (λ v. cond v None (cond (not escaped && (c == q)) (Some cs) (behind_quote q next cs)) ≡ Some rest → Here v (not escaped && (c == q))) [
      | true ↦ λ k. cc
      | false ↦ λ k. inner (not escaped && (c == q)) k
    ] in
    let both = outer (is_line_end c) e in
    record { behind = both.0; inside = both.1 }

-- ---- fronts

-- what is known of the text: it marks the end of its first lexeme
pub record Marked (c : ℕ) (cs : List ℕ) : Type 0 where
  pub some : 0 < length cs
  pub float : (more : List ℕ) → is_float false (c ∷ (cs ++ more)) ≡ is_float false (c ∷ cs)
  pub spelling : (s : List ℕ) (kind : TokenKind) → Lists operators s kind → begins (c ∷ cs) s ≡ false

-- a run that a line feed ends stops in the text
abbrev pub Stops : List ℕ → List ℕ → Type 0
Stops cs rest = (p : ℕ → Bool) → p 10 ≡ false → drop_while p cs ≡ rest → 0 < length rest

-- the front of the longer text is the front of the text, with more behind it
pub record GoesOn (cs more : List ℕ) (x y : Front) : Type 0 where
  pub holds : IsRight x.0 → Stops cs x.1 → y ≡ (x.0, x.1 ++ more)

choose : (b v : Bool) (cs more : List ℕ) (x y x' y' : Front) → v ≡ b → GoesOn cs more x x' → GoesOn cs more y y' → GoesOn cs more (cond b x y) (cond v x' y')
choose true true cs more x y x' y' e f g = f
choose false false cs more x y x' y' e f g = g
choose true false cs more x y x' y' e f g = cc
choose false true cs more x y x' y' e f g = cc

line_goes_on : (cs more : List ℕ) → GoesOn cs more (Gap, drop_while is_in_line cs) (Gap, drop_while is_in_line (cs ++ more))
line_goes_on cs more = record { holds = λ r stops. ap (λ (xs : List ℕ). (Gap, xs)) (run_left is_in_line cs more (stops is_in_line refl refl)) }

comment_goes_on : (cs more : List ℕ) → 0 < length cs
    → GoesOn cs more (closed_comment (behind_comment (drop 1 cs))) (closed_comment (behind_comment (drop 1 (cs ++ more))))
comment_goes_on cs more some =
    let go : (o : Option (List ℕ)) → behind_comment (drop 1 cs) ≡ o → GoesOn cs more (closed_comment o) (closed_comment (behind_comment (drop 1 (cs ++ more))))
    = λ o. elim o as (λ v. behind_comment (drop 1 cs) ≡ v → GoesOn cs more (closed_comment v) (closed_comment (behind_comment (drop 1 (cs ++ more))))) [
      | None ↦ λ e. record { holds = λ r stops. absurd r }
      | Some rest ↦ λ e. record {
        holds = λ r stops.
            ap closed_comment (ap behind_comment (drop-append-le 1 cs more (omega arith)) ∙ comment_ends (drop 1 cs) more rest e);
      }
    ] in
    go (behind_comment (drop 1 cs)) refl

literal_goes_on : (q : ℕ) (what : List ℕ → Lexeme) (cs more : List ℕ)
    → GoesOn cs more (closed_literal (what (content q false cs)) (behind_quote q false cs))
    (closed_literal (what (content q false (cs ++ more))) (behind_quote q false (cs ++ more)))
literal_goes_on q what cs more =
    let longer = closed_literal (what (content q false (cs ++ more))) (behind_quote q false (cs ++ more)) in
    let go : (o : Option (List ℕ)) → behind_quote q false cs ≡ o → GoesOn cs more (closed_literal (what (content q false cs)) o) longer
    = λ o. elim o as (λ v. behind_quote q false cs ≡ v → GoesOn cs more (closed_literal (what (content q false cs)) v) longer) [
      | None ↦ λ e. record { holds = λ r stops. absurd r }
      | Some rest ↦ λ e. record {
        holds = λ r stops.
            let closed = literal_closed q false cs more rest e in
            ap (λ (xs : List ℕ). closed_literal (what xs) (behind_quote q false (cs ++ more))) closed.inside
            ∙ ap (closed_literal (what (content q false cs))) closed.behind;
      }
    ] in
    go (behind_quote q false cs) refl

-- a line feed ends an identifier
line_feed_parts : is_identifier_part 10 ≡ false
unfolding unicode_ident
line_feed_parts = refl

run_goes_on : (what : List ℕ → Lexeme) (c : ℕ) (cs more : List ℕ)
    → GoesOn cs more (what (encode_utf8_all (c ∷ take_while is_identifier_part cs)), drop_while is_identifier_part cs)
    (what (encode_utf8_all (c ∷ take_while is_identifier_part (cs ++ more))), drop_while is_identifier_part (cs ++ more))
run_goes_on what c cs more =
    record {
      holds = λ r stops.
          let some = stops is_identifier_part line_feed_parts refl in
          ap (λ (xs : List ℕ). (what (encode_utf8_all (c ∷ xs)), drop_while is_identifier_part (cs ++ more))) (run_taken is_identifier_part cs more some)
          ∙ ap (λ (xs : List ℕ). (what (encode_utf8_all (c ∷ take_while is_identifier_part cs)), xs)) (run_left is_identifier_part cs more some);
    }

number_goes_on : (c : ℕ) (cs more : List ℕ) → Marked c cs → GoesOn cs more (number (c ∷ cs)) (number (c ∷ (cs ++ more)))
number_goes_on c cs more m =
    choose (is_float false (c ∷ cs)) (is_float false (c ∷ (cs ++ more))) cs more _ _ _ _ (m.float more)
    (record { holds = λ r stops. absurd r }) (run_goes_on integer c cs more)

operator_goes_on : (entries : List (List ℕ × TokenKind)) (c : ℕ) (cs more : List ℕ) → ((s : List ℕ) (kind : TokenKind) → Lists entries s kind → begins (c ∷ cs) s ≡ false)
    → GoesOn cs more (operator_in entries (c ∷ cs)) (operator_in entries (c ∷ (cs ++ more)))
operator_goes_on [] c cs more none = record { holds = λ r stops. absurd r }
operator_goes_on (entry ∷ entries) c cs more none =
    let same = begins_same entry.0 (c ∷ cs) more (none entry.0 entry.1 (inl (refl, refl))) in
    let go : (b : Bool) → begins entry.0 (c ∷ cs) ≡ b
    → GoesOn cs more (cond b (Spelled entry.1, drop (length entry.0) (c ∷ cs)) (operator_in entries (c ∷ cs)))
    (cond b (Spelled entry.1, drop (length entry.0) (c ∷ (cs ++ more))) (operator_in entries (c ∷ (cs ++ more))))
    = λ b. elim b as (λ v. begins entry.0 (c ∷ cs) ≡ v
    → GoesOn cs more (cond v (Spelled entry.1, drop (length entry.0) (c ∷ cs)) (operator_in entries (c ∷ cs)))
    (cond v (Spelled entry.1, drop (length entry.0) (c ∷ (cs ++ more))) (operator_in entries (c ∷ (cs ++ more))))) [
      | true ↦ λ h. record {
        holds = λ r stops.
            ap (λ (xs : List ℕ). (Spelled entry.1, xs)) (drop-append-le (length entry.0) (c ∷ cs) more (begins_fits entry.0 (c ∷ cs) h));
      }
      | false ↦ λ h. operator_goes_on entries c cs more (λ s kind l. none s kind (inr l))
    ] in
    let Longer : Bool → Type 0 = λ b. GoesOn cs more (operator_in (entry ∷ entries) (c ∷ cs))
    (cond b (Spelled entry.1, drop (length entry.0) (c ∷ (cs ++ more))) (operator_in entries (c ∷ (cs ++ more)))) in
    subst Longer (sym same) (go (begins entry.0 (c ∷ cs)) refl)

behind_false : (b : Bool) (cs more : List ℕ) (x y x' y' : Front) → b ≡ false → GoesOn cs more y y' → GoesOn cs more (cond b x y) (cond b x' y')
behind_false true cs more x y x' y' e g = cc
behind_false false cs more x y x' y' e g = g

pub front_goes_on : (c : ℕ) (cs more : List ℕ) → is_white c ≡ false → Marked c cs → GoesOn cs more (front (c ∷ cs)) (front (c ∷ (cs ++ more)))
unfolding front operator
front_goes_on c cs more black m =
    let wrong : GoesOn cs more (Wrong FloatNotHere, []) (Wrong FloatNotHere, []) = record { holds = λ r stops. absurd r } in
    let dot = ap (λ b. c == 46 && b) (first_same is_ascii_digit cs more m.some) in
    behind_false (is_white c) cs more _ _ _ _ black
    (choose (begins (codes "//") (c ∷ cs)) (begins (codes "//") (c ∷ (cs ++ more))) cs more _ _ _ _ (begins_two 47 47 c cs more m.some) (line_goes_on cs more)
    (choose (begins (codes "/*") (c ∷ cs)) (begins (codes "/*") (c ∷ (cs ++ more))) cs more _ _ _ _ (begins_two 47 42 c cs more m.some) (comment_goes_on cs more m.some)
    (choose (is_identifier_start c) (is_identifier_start c) cs more _ _ _ _ refl (run_goes_on (λ bytes. Spelled (word_kind bytes)) c cs more)
    (choose (is_ascii_digit c) (is_ascii_digit c) cs more _ _ _ _ refl (number_goes_on c cs more m)
    (choose (c == 46 && first_passes is_ascii_digit cs) (c == 46 && first_passes is_ascii_digit (cs ++ more)) cs more _ _ _ _ dot wrong
    (choose (c == 34) (c == 34) cs more _ _ _ _ refl (literal_goes_on 34 string cs more)
    (choose (c == 39) (c == 39) cs more _ _ _ _ refl (literal_goes_on 39 character cs more)
    (operator_goes_on operators c cs more m.spelling))))))))
