-- A lexeme takes characters, so the tokens of a rest don't depend on how many lexemes it may have, nor on the text in front of it.
use Rattle.std.proofs.Common.{◌≡◌, ℕ, zero, suc, ◌+◌, ◌<◌, ◌≤◌, Bool, true, false, cond, List, [], ◌∷◌, ◌++◌, length, drop, Option, Some, None, refl, ap, ◌∙◌, arith, length-append, length-drop}
use Rattle.std.specs.Char.{is_ascii_digit}
use Rattle.std.specs.Prelude.{codes, encode_utf8_all, ◌==◌, ◌&&◌}
use Rattle.std.proofs.lemmas.Str.{encodes-append}
use Rattle.jsh_tree.specs.declared.token.TokenKind.{TokenKind}
use Rattle.jsh_lex.specs.declared.lexeme.Lexeme.{Lexeme}
use Rattle.jsh_lex.specs.declared.lexeme.Lexeme.TheVariants.{Gap, Spelled, Wrong}
use Rattle.jsh_tree.specs.Text.{is_white}
use Rattle.jsh_lex.specs.Chars.{is_in_line, is_identifier_start, is_identifier_part, drop_while, begins, first_passes, width}
use Rattle.jsh_lex.specs.Literal.{behind_quote, content, string, character}
use Rattle.jsh_lex.specs.Number.{is_float}
use Rattle.jsh_lex.specs.Table.{operator, operators, operator_in}
use Rattle.jsh_lex.specs.Lexis.{Front, front, lexed, add_lexeme, place, behind_comment, closed_comment, closed_literal}
use Rattle.jsh_lex.proofs.Explained.{ExplainsAs, explained}
use Rattle.jsh_lex.proofs.Texts.{quote_split}
use Rattle.jsh_pieces.specs.Pieces.{moved_lexed}

-- the lexeme isn't a fault
abbrev pub IsRight : Lexeme → Type 0
IsRight Gap = Unit {0}
IsRight (Spelled kind) = Unit {0}
IsRight (Wrong fault) = ⊥

-- ---- a lexeme takes characters

pub width-append : (xs ys : List ℕ) → width (xs ++ ys) ≡ width xs + width ys
width-append xs ys = ap length (encodes-append xs ys) ∙ length-append (encode_utf8_all xs) (encode_utf8_all ys)

pub drop_while_le : (p : ℕ → Bool) (cs : List ℕ) → length (drop_while p cs) ≤ length cs
drop_while_le p [] = omega arith
drop_while_le p (c ∷ cs) =
    elim (p c) as (λ b. length (cond b (drop_while p cs) (c ∷ cs)) ≤ length (c ∷ cs)) [
      | true ↦ omega (arith, drop_while_le p cs)
      | false ↦ omega arith
    ]

-- a gap leaves so many characters at most
record Leaves (n : ℕ) (x : Front) : Type 0 where
  holds : x.0 ≡ Gap → length x.1 ≤ n

choose : (b : Bool) (n : ℕ) (x y : Front) → Leaves n x → Leaves n y → Leaves n (cond b x y)
choose true n x y f g = f
choose false n x y f g = g

comment_leaves : (cs rest : List ℕ) → behind_comment cs ≡ Some rest → length rest ≤ length cs
comment_leaves [] rest e = cc
comment_leaves (c ∷ cs) rest e =
    let go : (b : Bool) → cond b (Some (drop 1 cs)) (behind_comment cs) ≡ Some rest → length rest ≤ length (c ∷ cs)
    = λ b. elim b as (λ v. cond v (Some (drop 1 cs)) (behind_comment cs) ≡ Some rest → length rest ≤ length (c ∷ cs)) [
      | true ↦ λ k. let same : drop 1 cs ≡ rest = cc in omega (arith, ap length same, length-drop 1 cs)
      | false ↦ λ k. omega (arith, comment_leaves cs rest k)
    ] in
    go (begins (codes "*/") (c ∷ cs)) e

closed_comment_leaves : (cs : List ℕ) (o : Option (List ℕ)) → behind_comment (drop 1 cs) ≡ o → Leaves (length cs) (closed_comment o)
closed_comment_leaves cs None e = record { holds = λ k. omega arith }
closed_comment_leaves cs (Some rest) e = record { holds = λ k. omega (arith, comment_leaves (drop 1 cs) rest e, length-drop 1 cs) }

closed_literal_leaves : (q : ℕ) (lexeme : Lexeme) (cs : List ℕ) (o : Option (List ℕ)) → behind_quote q false cs ≡ o → Leaves (length cs) (closed_literal lexeme o)
closed_literal_leaves q lexeme cs None e = record { holds = λ k. omega arith }
closed_literal_leaves q lexeme cs (Some rest) e =
    record { holds = λ k. omega (arith, ap length (quote_split q false cs rest e), length-append (content q false cs) (q ∷ rest)) }

operator_leaves : (n : ℕ) (entries : List (List ℕ × TokenKind)) (cs : List ℕ) → Leaves n (operator_in entries cs)
operator_leaves n [] cs = record { holds = λ k. omega arith }
operator_leaves n (entry ∷ entries) cs =
    choose (begins entry.0 cs) n (Spelled entry.1, drop (length entry.0) cs) (operator_in entries cs) (record { holds = λ k. cc }) (operator_leaves n entries cs)

front_leaves : (c : ℕ) (cs : List ℕ) → Leaves (length cs) (front (c ∷ cs))
unfolding front operator
front_leaves c cs =
    choose (is_white c) (length cs) _ _ (record { holds = λ k. drop_while_le is_white cs })
    (choose (begins (codes "//") (c ∷ cs)) (length cs) _ _ (record { holds = λ k. drop_while_le is_in_line cs })
    (choose (begins (codes "/*") (c ∷ cs)) (length cs) _ _ (closed_comment_leaves cs (behind_comment (drop 1 cs)) refl)
    (choose (is_identifier_start c) (length cs) _ _ (record { holds = λ k. drop_while_le is_identifier_part cs })
    (choose (is_ascii_digit c) (length cs) _ _
    (choose (is_float false (c ∷ cs)) (length cs) _ _ (record { holds = λ k. omega arith }) (record { holds = λ k. drop_while_le is_identifier_part cs }))
    (choose (c == 46 && first_passes is_ascii_digit cs) (length cs) _ _ (record { holds = λ k. omega arith })
    (choose (c == 34) (length cs) _ _ (closed_literal_leaves 34 (string (content 34 false cs)) cs (behind_quote 34 false cs) refl)
    (choose (c == 39) (length cs) _ _ (closed_literal_leaves 39 (character (content 39 false cs)) cs (behind_quote 39 false cs) refl)
    (operator_leaves (length cs) operators (c ∷ cs)))))))))

-- what a lexeme takes of a text, and what it leaves
pub record Taken (cs : List ℕ) (x : Front) : Type 0 where
  pub s : List ℕ
  pub parts : cs ≡ s ++ x.1
  pub some : 0 < length s

pub taken : (c : ℕ) (cs : List ℕ) → IsRight (front (c ∷ cs)).0 → Taken (c ∷ cs) (front (c ∷ cs))
taken c cs right =
    let go : (l : Lexeme) → (front (c ∷ cs)).0 ≡ l → IsRight l → ExplainsAs l (c ∷ cs) (front (c ∷ cs)).1 → Taken (c ∷ cs) (front (c ∷ cs))
    = λ l. elim l as (λ v. (front (c ∷ cs)).0 ≡ v → IsRight v → ExplainsAs v (c ∷ cs) (front (c ∷ cs)).1 → Taken (c ∷ cs) (front (c ∷ cs))) [
      | Gap ↦ λ e r x.
          let less = (front_leaves c cs).holds e in
          record { s = x.0; parts = x.1; some = omega (arith, less, ap length x.1, length-append x.0 (front (c ∷ cs)).1) }
      | Spelled kind ↦ λ e r x. record { s = x.s; parts = x.parts; some = x.some }
      | Wrong fault ↦ λ e r x. absurd r
    ] in
    go (front (c ∷ cs)).0 refl right (explained (c ∷ cs)).holds

pub leaves_fewer : (c : ℕ) (cs : List ℕ) → IsRight (front (c ∷ cs)).0 → length (front (c ∷ cs)).1 ≤ length cs
leaves_fewer c cs right =
    let t = taken c cs right in
    omega (arith, t.some, ap length t.parts, length-append t.s (front (c ∷ cs)).1)

leaves_no_wider : (c : ℕ) (cs : List ℕ) → IsRight (front (c ∷ cs)).0 → width (front (c ∷ cs)).1 ≤ width (c ∷ cs)
leaves_no_wider c cs right =
    let t = taken c cs right in
    omega (arith, ap width t.parts, width-append t.s (front (c ∷ cs)).1)

-- ---- how many lexemes a rest may have doesn't matter

pub lexed_same : (n m : ℕ) (text cs : List ℕ) → length cs ≤ n → length cs ≤ m → lexed n text cs ≡ lexed m text cs
lexed_same zero zero text cs h k = refl
lexed_same zero (suc m) text [] h k = refl
lexed_same zero (suc m) text (c ∷ cs) h k = absurd (omega arith)
lexed_same (suc n) zero text [] h k = refl
lexed_same (suc n) zero text (c ∷ cs) h k = absurd (omega arith)
lexed_same (suc n) (suc m) text [] h k = refl
lexed_same (suc n) (suc m) text (c ∷ cs) h k =
    let rest = (front (c ∷ cs)).1 in
    let from = place text (c ∷ cs) in
    let to = place text rest in
    let go : (l : Lexeme) → (IsRight l → length rest ≤ length cs) → add_lexeme l from to (lexed n text rest) ≡ add_lexeme l from to (lexed m text rest)
    = λ l. elim l as (λ v. (IsRight v → length rest ≤ length cs) → add_lexeme v from to (lexed n text rest) ≡ add_lexeme v from to (lexed m text rest)) [
      | Gap ↦ λ less. lexed_same n m text rest (omega (arith, less tt)) (omega (arith, less tt))
      | Spelled kind ↦ λ less. ap (add_lexeme (Spelled kind) from to) (lexed_same n m text rest (omega (arith, less tt)) (omega (arith, less tt)))
      | Wrong fault ↦ λ less. refl
    ] in
    go (front (c ∷ cs)).0 (leaves_fewer c cs)

-- ---- a text in front of a rest moves its tokens

place_moved : (a b cs : List ℕ) → width cs ≤ width b → place (a ++ b) cs ≡ width a + place b cs
place_moved a b cs h = omega (arith, width-append a b)

pub lexed_moved : (n : ℕ) (a b cs : List ℕ) → width cs ≤ width b → lexed n (a ++ b) cs ≡ moved_lexed (width a) (lexed n b cs)
lexed_moved zero a b [] h = refl
lexed_moved zero a b (c ∷ cs) h = refl
lexed_moved (suc n) a b [] h = refl
lexed_moved (suc n) a b (c ∷ cs) h =
    let rest = (front (c ∷ cs)).1 in
    let from = place_moved a b (c ∷ cs) h in
    let go : (l : Lexeme) → (IsRight l → width rest ≤ width (c ∷ cs))
    → add_lexeme l (place (a ++ b) (c ∷ cs)) (place (a ++ b) rest) (lexed n (a ++ b) rest) ≡ moved_lexed (width a) (add_lexeme l (place b (c ∷ cs)) (place b rest) (lexed n b rest))
    = λ l. elim l as (λ v. (IsRight v → width rest ≤ width (c ∷ cs))
    → add_lexeme v (place (a ++ b) (c ∷ cs)) (place (a ++ b) rest) (lexed n (a ++ b) rest) ≡ moved_lexed (width a) (add_lexeme v (place b (c ∷ cs)) (place b rest) (lexed n b rest))) [
      | Gap ↦ λ less. lexed_moved n a b rest (omega (arith, less tt))
      | Spelled kind ↦ λ less.
          let to = place_moved a b rest (omega (arith, less tt)) in
          ap (λ k. add_lexeme (Spelled kind) k (place (a ++ b) rest) (lexed n (a ++ b) rest)) from
          ∙ (ap (λ k. add_lexeme (Spelled kind) (width a + place b (c ∷ cs)) k (lexed n (a ++ b) rest)) to
          ∙ ap (add_lexeme (Spelled kind) (width a + place b (c ∷ cs)) (width a + place b rest)) (lexed_moved n a b rest (omega (arith, less tt))))
      | Wrong fault ↦ λ less. ap (λ k. add_lexeme (Wrong fault) k (place (a ++ b) rest) (lexed n (a ++ b) rest)) from
    ] in
    go (front (c ∷ cs)).0 (leaves_no_wider c cs)
