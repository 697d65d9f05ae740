-- A comment that isn't closed has an opening.
use Rattle.std.proofs.Common.{◌≡◌, ℕ, zero, suc, ◌==◌, ◌&&◌, Bool, true, false, cond, List, [], ◌∷◌, length, drop, Option, Some, None, refl, sym, ap, subst, ◌∙◌}
use Rattle.std.proofs.lemmas.Bool.{or_left}
use Rattle.std.specs.Char.{is_ascii_digit}
use Rattle.std.specs.Prelude.{codes}
use Rattle.jsh_tree.specs.declared.token.TokenKind.{TokenKind}
use Rattle.jsh_lex.specs.declared.lexeme.LexFault.{LexFault}
use Rattle.jsh_lex.specs.declared.lexeme.LexFault.TheVariants.{OpenComment}
use Rattle.jsh_lex.specs.declared.lexeme.Lexeme.{Lexeme}
use Rattle.jsh_lex.specs.declared.lexeme.Lexeme.TheVariants.{Gap, Spelled, Wrong}
use Rattle.jsh_tree.specs.Text.{is_white}
use Rattle.jsh_lex.specs.Chars.{is_identifier_start, begins, first_passes}
use Rattle.jsh_lex.specs.Literal.{behind_quote, content, escapes_hold, unit_of, is_unit, string, character}
use Rattle.jsh_lex.specs.Number.{is_float, integer, is_integer, is_in_range}
use Rattle.jsh_lex.specs.Table.{operator, operators, operator_in}
use Rattle.jsh_lex.specs.Lexis.{Front, front, lexed, add_lexeme, place, closed_literal, word_bytes}
use Rattle.jsh_pieces.proofs.LexisSteps.{IsRight, Taken, taken}
use Rattle.jsh_pieces.proofs.LexisMarks.{has_opening, opening_behind}

-- a comment that isn't closed is told only where this holds
pub record Opens (opening : Bool) (l : Lexeme) : Type 0 where
  pub holds : l ≡ Wrong OpenComment → opening ≡ true

choose : (b opening : Bool) (x y : Front) → (b ≡ true → Opens opening x.0) → Opens opening y.0 → Opens opening (cond b x y).0
choose true opening x y f g = f refl
choose false opening x y f g = g

either : (b opening : Bool) (x y : Lexeme) → Opens opening x → Opens opening y → Opens opening (cond b x y)
either true opening x y f g = f
either false opening x y f g = g

integer_opens : (opening : Bool) (number : List ℕ) → Opens opening (integer number)
unfolding integer
integer_opens opening number =
    either (is_integer number) opening _ _ (either (is_in_range number) opening _ _ (record { holds = λ e. cc }) (record { holds = λ e. cc })) (record { holds = λ e. cc })

string_opens : (opening : Bool) (inside : List ℕ) → Opens opening (string inside)
string_opens opening inside = either (escapes_hold false inside) opening _ _ (record { holds = λ e. cc }) (record { holds = λ e. cc })

character_opens : (opening : Bool) (inside : List ℕ) → Opens opening (character inside)
character_opens opening inside =
    either (escapes_hold false inside) opening _ _ (either (is_unit (unit_of inside)) opening _ _ (record { holds = λ e. cc }) (record { holds = λ e. cc })) (record { holds = λ e. cc })

literal_opens : (opening : Bool) (l : Lexeme) (o : Option (List ℕ)) → Opens opening l → Opens opening (closed_literal l o).0
literal_opens opening l None f = record { holds = λ e. cc }
literal_opens opening l (Some rest) f = f

operator_opens : (opening : Bool) (entries : List (List ℕ × TokenKind)) (cs : List ℕ) → Opens opening (operator_in entries cs).0
operator_opens opening [] cs = record { holds = λ e. cc }
operator_opens opening (entry ∷ entries) cs =
    choose (begins entry.0 cs) opening (Spelled entry.1, drop (length entry.0) cs) (operator_in entries cs) (λ h. record { holds = λ e. cc }) (operator_opens opening entries cs)

pub front_opens : (c : ℕ) (cs : List ℕ) → Opens (begins (codes "/*") (c ∷ cs)) (front (c ∷ cs)).0
unfolding front operator
front_opens c cs =
    let opening = begins (codes "/*") (c ∷ cs) in
    let other : (l : Lexeme) → (l ≡ Wrong OpenComment → ⊥) → Opens opening l = λ l no. record { holds = λ e. absurd (no e) } in
    choose (is_white c) opening _ _ (λ h. other Gap (λ e. cc))
    (choose (begins (codes "//") (c ∷ cs)) opening _ _ (λ h. other Gap (λ e. cc))
    (choose opening opening _ _ (λ h. record { holds = λ e. h })
    (choose (is_identifier_start c) opening _ _ (λ h. record { holds = λ e. cc })
    (choose (is_ascii_digit c) opening _ _
    (λ h. choose (is_float false (c ∷ cs)) opening _ _ (λ k. record { holds = λ e. cc }) (integer_opens opening (word_bytes (c ∷ cs))))
    (choose (c == 46 && first_passes is_ascii_digit cs) opening _ _ (λ h. record { holds = λ e. cc })
    (choose (c == 34) opening _ _ (λ h. literal_opens opening (string (content 34 false cs)) (behind_quote 34 false cs) (string_opens opening (content 34 false cs)))
    (choose (c == 39) opening _ _ (λ h. literal_opens opening (character (content 39 false cs)) (behind_quote 39 false cs) (character_opens opening (content 39 false cs)))
    (operator_opens opening operators (c ∷ cs)))))))))

-- the kind and the place of a fault
kind_of : Option (LexFault × ℕ) → LexFault
kind_of None = OpenComment
kind_of (Some fault) = fault.0

place_of : Option (LexFault × ℕ) → ℕ
place_of None = 0
place_of (Some fault) = fault.1

pub same_kind : (x y : LexFault × ℕ) → Some x ≡ Some y → x.0 ≡ y.0
unfolding kind_of
same_kind x y e = ap kind_of e

pub same_place : (x y : LexFault × ℕ) → Some x ≡ Some y → x.1 ≡ y.1
unfolding place_of
same_place x y e = ap place_of e

-- a text whose fault is a comment that isn't closed has an opening
pub fault_opens : (n : ℕ) (text cs : List ℕ) (p : ℕ) → (lexed n text cs).fault ≡ Some (OpenComment, p) → has_opening cs ≡ true
fault_opens zero text [] p e = cc
fault_opens zero text (c ∷ cs) p e = cc
fault_opens (suc n) text [] p e = cc
fault_opens (suc n) text (c ∷ cs) p e =
    let rest = (front (c ∷ cs)).1 in
    let from = place text (c ∷ cs) in
    let to = place text rest in
    let more = lexed n text rest in
    let later : Taken (c ∷ cs) (front (c ∷ cs)) → more.fault ≡ Some (OpenComment, p) → has_opening (c ∷ cs) ≡ true
    = λ k f. subst (λ (xs : List ℕ). has_opening xs ≡ true) (sym k.parts) (opening_behind k.s rest (fault_opens n text rest p f)) in
    let go : (l : Lexeme) → (front (c ∷ cs)).0 ≡ l → (IsRight l → Taken (c ∷ cs) (front (c ∷ cs))) → (add_lexeme l from to more).fault ≡ Some (OpenComment, p) → has_opening (c ∷ cs) ≡ true
    = λ l. elim l as (λ v. (front (c ∷ cs)).0 ≡ v → (IsRight v → Taken (c ∷ cs) (front (c ∷ cs))) → (add_lexeme v from to more).fault ≡ Some (OpenComment, p) → has_opening (c ∷ cs) ≡ true) [
      | Gap ↦ λ is takes f. later (takes tt) f
      | Spelled kind ↦ λ is takes f. later (takes tt) f
      | Wrong fault ↦ λ is takes f.
          let same = same_kind (fault, from) (OpenComment, p) f in
          or_left (begins (codes "/*") (c ∷ cs)) (has_opening cs) ((front_opens c cs).holds (is ∙ ap Wrong same))
    ] in
    go (front (c ∷ cs)).0 refl (taken c cs) e
