-- How the readers of brackets and types go on, and what a path ends in.
use Rattle.std.proofs.Common.{◌≡◌, ℕ, suc, ◌-◌, ◌<◌, Bool, true, false, ◌&&◌, List, [], ◌∷◌, Some, length, drop, get_or, refl, sym, ap, ◌∙◌, arith}
use Rattle.jsh_tree.specs.declared.token.Token.{Token}
use Rattle.jsh_tree.specs.declared.expression.PathPart.{PathPart}
use Rattle.jsh_parse.specs.Leaves.{names_type, type_of, ends_in_place}
use Rattle.jsh_parse.specs.Marks.{is_left_bracket}
use Rattle.jsh_parse.specs.Reader.{and_then, accept, sees_brackets, brackets, type_read}

both_false : (b : Bool) → b && false ≡ true → true ≡ false
both_false true h = sym h
both_false false h = sym h

pub one_more_count : (ts : List Token) → sees_brackets ts ≡ true → (brackets ts).0 ≡ suc (brackets (drop 2 ts)).0
one_more_count [] h = cc
one_more_count (t ∷ []) h = let f = both_false (is_left_bracket t.kind) h in cc
one_more_count (t ∷ u ∷ ts) h = rw h

pub one_more_rest : (ts : List Token) → sees_brackets ts ≡ true → (brackets ts).1 ≡ (brackets (drop 2 ts)).1
one_more_rest [] h = cc
one_more_rest (t ∷ []) h = let f = both_false (is_left_bracket t.kind) h in cc
one_more_rest (t ∷ u ∷ ts) h = rw h

pub no_more_count : (ts : List Token) → sees_brackets ts ≡ false → (brackets ts).0 ≡ 0
no_more_count [] h = refl
no_more_count (t ∷ []) h = refl
no_more_count (t ∷ u ∷ ts) h = rw h

pub no_more_rest : (ts : List Token) → sees_brackets ts ≡ false → (brackets ts).1 ≡ ts
no_more_rest [] h = refl
no_more_rest (t ∷ []) h = refl
no_more_rest (t ∷ u ∷ ts) h = rw h

-- a type is read as its name and its brackets
pub type_by_name : (text : List ℕ) (ts : List Token) →
    type_read text ts ≡ and_then (accept names_type ts) (λ t rest. Some (type_of text t (brackets rest).0, (brackets rest).1))
type_by_name text [] = refl
type_by_name text (t ∷ ts) = at (names_type t.kind) refl
  where
    at : (b : Bool) → names_type t.kind ≡ b → type_read text (t ∷ ts) ≡ and_then (accept names_type (t ∷ ts)) (λ t rest. Some (type_of text t (brackets rest).0, (brackets rest).1))
    at true h = rw h
    at false h = rw h

pub at_last : {A : Type 0} (p q : A) (parts : List A) (last : A) → get_or (p ∷ q ∷ parts) (length (p ∷ q ∷ parts) - 1) last ≡ get_or (q ∷ parts) (length (q ∷ parts) - 1) last
at_last p q parts last =
    let one : suc (suc (length parts)) - 1 ≡ suc (suc (length parts) - 1) = omega arith in
    ap (λ k. get_or (p ∷ q ∷ parts) k last) one

pub at_only : {A : Type 0} (p last : A) → get_or (p ∷ []) (length (p ∷ []) - 1) last ≡ p
at_only p last = refl

-- a path ends in what its last part is
pub ends_in_last : (parts : List PathPart) (last : PathPart) → 0 < length parts → last ≡ get_or parts (length parts - 1) last →
    ends_in_place (last ∷ []) ≡ ends_in_place parts
ends_in_last [] last h e = absurd (omega arith)
ends_in_last (p ∷ []) last h e = ap (λ d. ends_in_place (d ∷ [])) (e ∙ at_only p last)
ends_in_last (p ∷ q ∷ parts) last h e = ends_in_last (q ∷ parts) last (omega arith) (e ∙ at_last p q parts last)
