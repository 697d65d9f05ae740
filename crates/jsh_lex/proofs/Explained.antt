-- What stands at the front of a text is a front of it, and a token there spells its kind.
use Rattle.std.proofs.Common.{◌≡◌, ℕ, ◌<◌, ◌==◌, ◌&&◌, Bool, true, false, not, cond, inl, inr, nat_lt, List, [], ◌∷◌, ◌++◌, length, take, drop, Option, Some, None, refl, sym, ap, ◌∙◌, append_assoc, arith}
use Rattle.std.proofs.lemmas.Bool.{eqb-true, and_parts, and_from, or_left, or_right}
use Rattle.std.proofs.lemmas.List.{take-append-drop}
use Rattle.std.proofs.lemmas.Bool.Decides.{nat_tests}
use Rattle.std.specs.Char.{is_ascii_digit}
use Rattle.std.specs.List.{list_all}
use Rattle.std.specs.Prelude.{codes}
use Rattle.jsh_tree.specs.declared.token.TokenKind.{TokenKind}
use Rattle.jsh_lex.specs.declared.lexeme.Lexeme.{Lexeme}
use Rattle.jsh_lex.specs.declared.lexeme.Lexeme.TheVariants.{Gap, Spelled, Wrong}
use Rattle.jsh_lex.specs.declared.lexeme.LexFault.TheVariants.{FloatNotHere}
use Rattle.jsh_tree.specs.Text.{is_white}
use Rattle.jsh_lex.specs.Chars.{is_in_line, is_line_end, is_identifier_start, is_identifier_part, take_while, begins, first_passes}
use Rattle.jsh_lex.specs.Number.{integer, is_float}
use Rattle.jsh_lex.specs.Literal.{behind_quote, content, escapes_next, string, character}
use Rattle.jsh_lex.specs.Table.{operator, operators, operator_in, longer_stand_first, operators_in_order}
use Rattle.jsh_lex.specs.Lexis.{Front, front, word, number, word_chars, word_bytes, behind_word, behind_comment, closed_comment, closed_literal}
use Rattle.jsh_lex.specs.Spelling.{Spells, a_word, a_number, a_string, a_character, an_operator, is_content, Lists}
use Rattle.jsh_lex.proofs.Longest.{NoLonger, NotEarlier, begins_split, not_earlier_later, no_longer_run, no_longer_string, no_longer_character, no_longer_operator}
use Rattle.jsh_lex.proofs.Texts.{take_drop_while, word_split, quote_split}

-- a front of the text, which has characters and spells the kind, and that no longer front spells any
pub record Read (kind : TokenKind) (cs rest : List ℕ) : Type 0 where
  pub s : List ℕ
  pub parts : cs ≡ s ++ rest
  pub spells : Spells kind s
  pub some : 0 < length s
  pub longest : NoLonger s rest

abbrev pub ExplainsAs : Lexeme → List ℕ → List ℕ → Type 0
ExplainsAs Gap cs rest = (s : List ℕ) × (cs ≡ s ++ rest)
ExplainsAs (Spelled kind) cs rest = Read kind cs rest
ExplainsAs (Wrong fault) cs rest = Unit {0}

pub record Explains (cs : List ℕ) (x : Front) : Type 0 where
  pub holds : ExplainsAs x.0 cs x.1

choose : (b : Bool) (cs : List ℕ) (x y : Front) → (b ≡ true → Explains cs x) → Explains cs y → Explains cs (cond b x y)
choose true cs x y f g = f refl
choose false cs x y f g = g

-- ---- words and numbers

all_taken : (p : ℕ → Bool) (cs : List ℕ) → list_all p (take_while p cs) ≡ true
all_taken p [] = refl
all_taken p (c ∷ cs) =
    let go : (b : Bool) → p c ≡ b → list_all p (cond b (c ∷ take_while p cs) []) ≡ true
    = λ b. elim b as (λ v. p c ≡ v → list_all p (cond v (c ∷ take_while p cs) []) ≡ true) [
      | true ↦ λ h. and_from (p c) (list_all p (take_while p cs)) h (all_taken p cs)
      | false ↦ λ h. refl
    ] in
    go (p c) refl

word_explained : (c : ℕ) (cs : List ℕ) → is_identifier_start c ≡ true → Explains (c ∷ cs) (word (c ∷ cs))
word_explained c cs h =
    record {
      holds = record {
        s = word_chars (c ∷ cs);
        parts = word_split (c ∷ cs);
        spells = a_word (and_from (is_identifier_start c) (list_all is_identifier_part (take_while is_identifier_part cs)) h (all_taken is_identifier_part cs)) refl;
        some = omega arith;
        longest = no_longer_run c cs (or_left (is_identifier_start c) (is_ascii_digit c) h);
      };
    }

integer_explained : (c : ℕ) (cs : List ℕ) → is_ascii_digit c ≡ true → (l : Lexeme) → integer (word_bytes (c ∷ cs)) ≡ l → ExplainsAs l (c ∷ cs) (behind_word (c ∷ cs))
integer_explained c cs h Gap e = (word_chars (c ∷ cs), word_split (c ∷ cs))
integer_explained c cs h (Spelled kind) e =
    record {
      s = word_chars (c ∷ cs);
      parts = word_split (c ∷ cs);
      spells = a_number (and_from (is_ascii_digit c) (list_all is_identifier_part (take_while is_identifier_part cs)) h (all_taken is_identifier_part cs)) e;
      some = omega arith;
      longest = no_longer_run c cs (or_right (is_identifier_start c) (is_ascii_digit c) h);
    }
integer_explained c cs h (Wrong fault) e = tt

number_explained : (c : ℕ) (cs : List ℕ) → is_ascii_digit c ≡ true → Explains (c ∷ cs) (number (c ∷ cs))
number_explained c cs h =
    choose (is_float false (c ∷ cs)) (c ∷ cs) (Wrong FloatNotHere, []) (integer (word_bytes (c ∷ cs)), behind_word (c ∷ cs)) (λ k. record { holds = tt })
    (record { holds = integer_explained c cs h (integer (word_bytes (c ∷ cs))) refl })

-- ---- comments

comment_split : (cs rest : List ℕ) → behind_comment cs ≡ Some rest → (s : List ℕ) × (cs ≡ s ++ rest)
comment_split [] rest e = cc
comment_split (c ∷ cs) rest e =
    let go : (b : Bool) → cond b (Some (drop 1 cs)) (behind_comment cs) ≡ Some rest → (s : List ℕ) × (c ∷ cs ≡ s ++ rest)
    = λ b. elim b as (λ v. cond v (Some (drop 1 cs)) (behind_comment cs) ≡ Some rest → (s : List ℕ) × (c ∷ cs ≡ s ++ rest)) [
      | true ↦ λ k. let same : drop 1 cs ≡ rest = cc in
          (c ∷ take 1 cs, ap (λ (xs : List ℕ). c ∷ xs) (sym (take-append-drop 1 cs) ∙ ap (λ (xs : List ℕ). take 1 cs ++ xs) same))
      | false ↦ λ k. let more = comment_split cs rest k in (c ∷ more.0, ap (λ (xs : List ℕ). c ∷ xs) more.1)
    ] in
    go (begins (codes "*/") (c ∷ cs)) e

comment_explained : (c : ℕ) (cs : List ℕ) (o : Option (List ℕ)) → behind_comment (drop 1 cs) ≡ o → Explains (c ∷ cs) (closed_comment o)
comment_explained c cs None e = record { holds = tt }
comment_explained c cs (Some rest) e =
    let more = comment_split (drop 1 cs) rest e in
    record {
      holds = (
        c ∷ (take 1 cs ++ more.0),
        ap (λ (xs : List ℕ). c ∷ xs)
            (sym (take-append-drop 1 cs) ∙ (ap (λ (xs : List ℕ). take 1 cs ++ xs) more.1 ∙ sym (append_assoc (take 1 cs) more.0 rest))),
      );
    }

-- ---- literals

content_holds : (q : ℕ) (escaped : Bool) (cs rest : List ℕ) → behind_quote q escaped cs ≡ Some rest → is_content q escaped (content q escaped cs) ≡ true
content_holds q escaped [] rest e = cc
content_holds q escaped (c ∷ cs) rest e =
    let inner : (b : Bool) → is_line_end c ≡ false → (not escaped && (c == q)) ≡ b → cond b (Some cs) (behind_quote q (escapes_next escaped c) cs) ≡ Some rest
    → is_content q escaped (cond b [] (c ∷ content q (escapes_next escaped c) cs)) ≡ true
    = λ b. elim b as (λ v. is_line_end c ≡ false → (not escaped && (c == q)) ≡ v → cond v (Some cs) (behind_quote q (escapes_next escaped c) cs) ≡ Some rest
    → is_content q escaped (cond v [] (c ∷ content q (escapes_next escaped c) cs)) ≡ true) [
      | true ↦ λ l h k. (and_parts (not escaped) (c == q) h).0
      | false ↦ λ l h k.
          and_from (not (is_line_end c) && not (not escaped && (c == q))) (is_content q (escapes_next escaped c) (content q (escapes_next escaped c) cs))
          (and_from (not (is_line_end c)) (not (not escaped && (c == q))) (ap not l) (ap not h)) (content_holds q (escapes_next escaped c) cs rest k)
    ] in
    let outer : (b : Bool) → is_line_end c ≡ b → cond b None (cond (not escaped && (c == q)) (Some cs) (behind_quote q (escapes_next escaped c) cs)) ≡ Some rest
    → is_content q escaped (content q escaped (c ∷ cs)) ≡ true
    = λ b. elim b as (λ v. is_line_end c ≡ v → cond v None (cond (not escaped && (c == q)) (Some cs) (behind_quote q (escapes_next escaped c) cs)) ≡ Some rest
    → is_content q escaped (content q escaped (c ∷ cs)) ≡ true) [
      | true ↦ λ l k. cc
      | false ↦ λ l k. inner (not escaped && (c == q)) l refl k
    ] in
    outer (is_line_end c) refl e

literal_parts : (q c : ℕ) (cs rest : List ℕ) → (c == q) ≡ true → behind_quote q false cs ≡ Some rest → c ∷ cs ≡ (q ∷ (content q false cs ++ q ∷ [])) ++ rest
literal_parts q c cs rest same e =
    ap (λ (x : ℕ). x ∷ cs) (eqb-true c q same) ∙ ap (λ (xs : List ℕ). q ∷ xs) (quote_split q false cs rest e ∙ sym (append_assoc (content q false cs) (q ∷ []) rest))

string_explained : (c : ℕ) (cs : List ℕ) (o : Option (List ℕ)) (l : Lexeme) → (c == 34) ≡ true → behind_quote 34 false cs ≡ o → string (content 34 false cs) ≡ l → Explains (c ∷ cs) (closed_literal l o)
string_explained c cs None l same e is = record { holds = tt }
string_explained c cs (Some rest) Gap same e is = record { holds = (34 ∷ (content 34 false cs ++ 34 ∷ []), literal_parts 34 c cs rest same e) }
string_explained c cs (Some rest) (Spelled kind) same e is =
    record {
      holds = record {
        s = 34 ∷ (content 34 false cs ++ 34 ∷ []);
        parts = literal_parts 34 c cs rest same e;
        spells = a_string (content 34 false cs) refl (content_holds 34 false cs rest e) is;
        some = omega arith;
        longest = no_longer_string cs rest e;
      };
    }
string_explained c cs (Some rest) (Wrong fault) same e is = record { holds = tt }

character_explained : (c : ℕ) (cs : List ℕ) (o : Option (List ℕ)) (l : Lexeme) → (c == 39) ≡ true → behind_quote 39 false cs ≡ o → character (content 39 false cs) ≡ l → Explains (c ∷ cs) (closed_literal l o)
character_explained c cs None l same e is = record { holds = tt }
character_explained c cs (Some rest) Gap same e is = record { holds = (39 ∷ (content 39 false cs ++ 39 ∷ []), literal_parts 39 c cs rest same e) }
character_explained c cs (Some rest) (Spelled kind) same e is =
    record {
      holds = record {
        s = 39 ∷ (content 39 false cs ++ 39 ∷ []);
        parts = literal_parts 39 c cs rest same e;
        spells = a_character (content 39 false cs) refl (content_holds 39 false cs rest e) is;
        some = omega arith;
        longest = no_longer_character cs rest e;
      };
    }
character_explained c cs (Some rest) (Wrong fault) same e is = record { holds = tt }

-- ---- operators

listed_some : (entries : List (List ℕ × TokenKind)) → list_all (λ entry. nat_lt 0 (length entry.0)) entries ≡ true → (s : List ℕ) (kind : TokenKind) → Lists entries s kind → 0 < length s
listed_some [] h s kind l = absurd l
listed_some (entry ∷ entries) h s kind (inl l) =
    let both = and_parts (nat_lt 0 (length entry.0)) (list_all (λ entry. nat_lt 0 (length entry.0)) entries) h in
    grind (arith, nat_tests, both.0, ap length l.0)
listed_some (entry ∷ entries) h s kind (inr l) =
    listed_some entries (and_parts (nat_lt 0 (length entry.0)) (list_all (λ entry. nat_lt 0 (length entry.0)) entries) h).1 s kind l

operator_read : (entry : List ℕ × TokenKind) (entries : List (List ℕ × TokenKind)) (cs : List ℕ) → Lists operators entry.0 entry.1 → longer_stand_first (entry ∷ entries) ≡ true
    → NotEarlier (entry ∷ entries) cs → begins entry.0 cs ≡ true → Read entry.1 cs (drop (length entry.0) cs)
operator_read entry entries cs l order left h =
    record {
      s = entry.0;
      parts = begins_split entry.0 cs h;
      spells = an_operator l;
      some = listed_some operators refl entry.0 entry.1 l;
      longest = no_longer_operator entry.0 entry.1 entries cs (drop (length entry.0) cs) order left (begins_split entry.0 cs h) l;
    }

found_in : (entries : List (List ℕ × TokenKind)) (cs : List ℕ) → ((s : List ℕ) (kind : TokenKind) → Lists entries s kind → Lists operators s kind)
    → longer_stand_first entries ≡ true → NotEarlier entries cs → Explains cs (operator_in entries cs)
found_in [] cs listed order left = record { holds = tt }
found_in (entry ∷ entries) cs listed order left =
    let go : (b : Bool) → begins entry.0 cs ≡ b → Explains cs (cond b (Spelled entry.1, drop (length entry.0) cs) (operator_in entries cs))
    = λ b. elim b as (λ v. begins entry.0 cs ≡ v → Explains cs (cond v (Spelled entry.1, drop (length entry.0) cs) (operator_in entries cs))) [
      | true ↦ λ h. record { holds = operator_read entry entries cs (listed entry.0 entry.1 (inl (refl, refl))) order left h }
      | false ↦ λ h. found_in entries cs (λ s kind l. listed s kind (inr l))
          (and_parts (list_all (λ later. not (begins entry.0 later.0)) entries) (longer_stand_first entries) order).1 (not_earlier_later entry entries cs left h)
    ] in
    go (begins entry.0 cs) refl

operator_explained : (cs : List ℕ) → Explains cs (operator cs)
unfolding operator
operator_explained cs = found_in operators cs (λ s kind l. l) operators_in_order (λ s kind l. inl l)

-- ---- all of them

pub explained : (cs : List ℕ) → Explains cs (front cs)
unfolding front
explained [] = record { holds = ([], refl) }
explained (c ∷ cs) =
    choose (is_white c) (c ∷ cs) _ _ (λ h. record { holds = (c ∷ take_while is_white cs, ap (λ (xs : List ℕ). c ∷ xs) (take_drop_while is_white cs)) })
    (choose (begins (codes "//") (c ∷ cs)) (c ∷ cs) _ _ (λ h. record { holds = (c ∷ take_while is_in_line cs, ap (λ (xs : List ℕ). c ∷ xs) (take_drop_while is_in_line cs)) })
    (choose (begins (codes "/*") (c ∷ cs)) (c ∷ cs) _ _ (λ h. comment_explained c cs (behind_comment (drop 1 cs)) refl)
    (choose (is_identifier_start c) (c ∷ cs) _ _ (λ h. word_explained c cs h)
    (choose (is_ascii_digit c) (c ∷ cs) _ _ (λ h. number_explained c cs h)
    (choose (c == 46 && first_passes is_ascii_digit cs) (c ∷ cs) _ _ (λ h. record { holds = tt })
    (choose (c == 34) (c ∷ cs) _ _ (λ h. string_explained c cs (behind_quote 34 false cs) (string (content 34 false cs)) h refl refl)
    (choose (c == 39) (c ∷ cs) _ _ (λ h. character_explained c cs (behind_quote 39 false cs) (character (content 39 false cs)) h refl refl)
    (operator_explained (c ∷ cs)))))))))
