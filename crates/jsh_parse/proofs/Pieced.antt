-- Small facts that the answers of the parser share.
use Rattle.std.proofs.Common.{◌≡◌, ℕ, suc, ◌+◌, ◌-◌, ◌<◌, Bool, true, false, ◌&&◌, not, List, [], ◌∷◌, Option, Some, None, length, drop, refl, sym, ap, ◌∙◌, arith, length-drop}
use Rattle.std.specs.Prelude.{option_map}
use Rattle.jsh_tree.specs.declared.token.Token.{Token}
use Rattle.jsh_tree.specs.declared.token.TokenKind.{TokenKind}
use Rattle.jsh_tree.specs.declared.expression.Literal.{Literal}
use Rattle.jsh_tree.specs.declared.expression.Expr.{Expr}
use Rattle.jsh_tree.specs.declared.expression.Expr.TheVariants as tree
use Rattle.jsh_parse.specs.Leaves.{literal_of}
use Rattle.jsh_parse.specs.Marks.{is_left_brace, is_right_brace, is_comma}
use Rattle.jsh_parse.specs.Reader.{Read, accept, sees}
use Rattle.jsh_parse.specs.Reading.{primary_at, braces_at, behind_value}
use Rattle.jsh_parse.proofs.Onward.{primary_literal}
use Rattle.jsh_parse.proofs.Rooms.{braces_empty}
use Rattle.jsh_parse.proofs.Passing.{next}

pub both_true : {a b : Bool} → a ≡ true → b ≡ true → a && b ≡ true
both_true h k = rw (h, k)

pub first_false : {a : Bool} (b : Bool) → a ≡ false → a && b ≡ false
first_false b h = rw h

pub second_false : {a b : Bool} → a ≡ true → b ≡ false → a && b ≡ false
second_false h k = rw (h, k)

pub left_not_pair : {a b : Bool} → a ≡ true → b ≡ false → a && not b ≡ true
left_not_pair h k = rw (h, k)

pub left_and_pair : {a b : Bool} → a ≡ true → b ≡ true → a && not b ≡ false
left_and_pair h k = rw (h, k)

-- a turn of a loop is one of those that are left
pub left_turn : (most turn : ℕ) → turn < most → most - turn ≡ suc (most - (turn + 1))
left_turn most turn h = omega arith

pub no_literal : (text : List ℕ) (t : Token) → option_map (λ (value : Literal). tree.Literal t.span value) (literal_of text t) ≡ None → literal_of text t ≡ None
no_literal text t h = at (literal_of text t) refl
  where
    at : (found : Option Literal) → literal_of text t ≡ found → literal_of text t ≡ None
    at None e = e
    at (Some value) e =
        let some : Some (tree.Literal t.span value) ≡ None = sym (ap (option_map (λ (value : Literal). tree.Literal t.span value)) e) ∙ h in cc

pub primary_tree : (text : List ℕ) (room : ℕ) (t : Token) (ts : List Token) (e : Expr) →
    option_map (λ (value : Literal). tree.Literal t.span value) (literal_of text t) ≡ Some e → primary_at text room (t ∷ ts) ≡ Some (e, ts)
primary_tree text room t ts e h = at (literal_of text t) refl
  where
    at : (found : Option Literal) → literal_of text t ≡ found → primary_at text room (t ∷ ts) ≡ Some (e, ts)
    at None k = let none : None ≡ Some e = sym (ap (option_map (λ (value : Literal). tree.Literal t.span value)) k) ∙ h in cc
    at (Some value) k =
        let same : Some (tree.Literal t.span value) ≡ Some e = sym (ap (option_map (λ (value : Literal). tree.Literal t.span value)) k) ∙ h in
        primary_literal text room t ts value k ∙ cc

pub braces_end : (text : List ℕ) (room : ℕ) (tokens ts : List Token) (r : ℕ) (t : Token) (at : ℕ) → room ≡ suc r →
    accept is_left_brace ts ≡ Some (t, drop at tokens) → sees is_right_brace (drop at tokens) ≡ true → braces_at text room ts ≡ Some ([], drop (at + 1) tokens)
braces_end text room tokens ts r t at z h s = ended (drop at tokens) refl
  where
    ended : (rest : List Token) → drop at tokens ≡ rest → braces_at text room ts ≡ Some ([], drop (at + 1) tokens)
    ended [] e = let seen : false ≡ true = sym (ap (sees is_right_brace) e) ∙ s in cc
    ended (u ∷ rest) e =
        braces_empty text room ts r t u rest z (h ∙ ap (λ ts. Some (t, ts)) e) (sym (ap (sees is_right_brace) e) ∙ s)
        ∙ ap (λ ts. Some ([], ts)) (sym (ap (drop 1) e) ∙ next tokens at)

pub value_end : (tokens : List Token) (at : ℕ) (t : Token) → drop at tokens ≡ t ∷ drop (at + 1) tokens → is_right_brace t.kind ≡ false → is_comma t.kind ≡ true →
    sees is_right_brace (drop (at + 1) tokens) ≡ true → behind_value (drop at tokens) ≡ Some (false, drop (at + 2) tokens)
value_end tokens at t h k l m =
    let later : at + 1 + 1 ≡ at + 2 = omega arith in
    ap behind_value h ∙ closed (drop (at + 1) tokens) m ∙ ap (λ ts. Some (false, ts)) (next tokens (at + 1) ∙ ap (λ n. drop n tokens) later)
  where
    closed : (ts : List Token) → sees is_right_brace ts ≡ true → behind_value (t ∷ ts) ≡ Some (false, drop 1 ts)
    closed ts m = rw (k, l, m)

accepted : (test : TokenKind → Bool) (ts rest : List Token) (t : Token) → accept test ts ≡ Some (t, rest) → length ts ≡ suc (length rest)
accepted test [] rest t h = cc
accepted test (u ∷ us) rest t h = at (test u.kind) refl
  where
    behind : Read Token → List Token
    behind None = us
    behind (Some found) = found.1

    at : (b : Bool) → test u.kind ≡ b → length (u ∷ us) ≡ suc (length rest)
    at true k = let same : us ≡ rest = ap behind (sym (taken k) ∙ h) in ap (λ (ts : List Token). suc (length ts)) same
      where
        taken : test u.kind ≡ true → accept test (u ∷ us) ≡ Some (u, us)
        taken k = rw k
    at false k = let none : ◌≡◌ {A = Read Token} None (Some (t, rest)) = sym (left k) ∙ h in cc
      where
        left : test u.kind ≡ false → accept test (u ∷ us) ≡ None
        left k = rw k

-- a token that is taken is left behind
pub goes_forward : (test : TokenKind → Bool) (tokens : List Token) (at behind : ℕ) (t : Token) → accept test (drop at tokens) ≡ Some (t, drop behind tokens) → at < behind
goes_forward test tokens at behind t h =
    let lengths : length tokens - at ≡ suc (length tokens - behind) =
    sym (length-drop at tokens) ∙ accepted test (drop at tokens) (drop behind tokens) t h ∙ ap suc (length-drop behind tokens) in
    omega arith
