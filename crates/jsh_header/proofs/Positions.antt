-- The first place that passes, and the classes up from one.
use Rattle.std.proofs.Common.{◌≡◌, ℕ, zero, suc, ◌+◌, ◌-◌, ◌<◌, ◌≤◌, Bool, true, false, cond, List, [], ◌∷◌, ◌++◌, Option, Some, None, length, get_or, take, drop, refl, sym, ◌∙◌, ap, arith, append_assoc, append-nil}
use Rattle.std.proofs.lemmas.List.{at_drop_more, at_drop_all, take_more}
use Rattle.std.specs.Prelude.{slice_get}
use Rattle.std.proofs.lemmas.Grind.{flat_map-append}
use Rattle.std.specs.List.{flat_map, position_from, range_with_len}
use Rattle.jsh_closure.proofs.Ranges.{range_more}
use Rattle.jsh_tree.specs.declared.key.Signature.{Signature}
use Rattle.jsh_header.specs.declared.outlines.Outline.{Outline}
use Rattle.jsh_header.specs.SuperRules.{methods_at, superclass_at, methods_of, superclasses}

-- the element passes
pub position_here : {A : Type 0} (p : A → Bool) (xs : List A) (k : ℕ) (x : A) → k < length xs → x ≡ get_or xs k x → p x ≡ true → position_from p k (drop k xs) ≡ Some k
position_here {A} p xs k x below is passes =
    at_drop_more (position_from p k) xs k x below
    ∙ ap (λ (b : Bool). cond b (Some k) (position_from p (k + 1) (drop (k + 1) xs))) (sym (ap p is) ∙ passes)

-- it doesn't
pub position_later : {A : Type 0} (p : A → Bool) (xs : List A) (k : ℕ) (x : A) → k < length xs → x ≡ get_or xs k x → p x ≡ false → position_from p k (drop k xs) ≡ position_from p (k + 1) (drop (k + 1) xs)
position_later {A} p xs k x below is fails =
    at_drop_more (position_from p k) xs k x below
    ∙ ap (λ (b : Bool). cond b (Some k) (position_from p (k + 1) (drop (k + 1) xs))) (sym (ap p is) ∙ fails)

pub position_none : {A : Type 0} (p : A → Bool) (xs : List A) (k : ℕ) → length xs ≤ k → position_from p k (drop k xs) ≡ None
position_none p xs k past = at_drop_all (position_from p k) xs k past

pub class_more : (types : List Outline) (n k place : ℕ) → k < n
    → methods_of types (superclasses types (n - k) (Some place)) ≡ methods_at (slice_get types place) ++ methods_of types (superclasses types (n - (k + 1)) (superclass_at (slice_get types place)))
class_more types n k place below = ap (λ (m : ℕ). methods_of types (superclasses types m (Some place))) more
  where
    more : n - k ≡ suc (n - (k + 1))
    more = omega arith

pub class_none : (types : List Outline) (n : ℕ) → methods_of types (superclasses types n None) ≡ []
class_none types zero = refl
class_none types (suc n) = refl

-- one class more
pub class_step : (types : List Outline) (n k place : ℕ) (methods new all : List Signature) (next after : Option ℕ) → k < n → next ≡ Some place → new ≡ methods ++ methods_at (slice_get types place) → after ≡ superclass_at (slice_get types place)
    → methods ++ methods_of types (superclasses types (n - k) next) ≡ all → new ++ methods_of types (superclasses types (n - (k + 1)) after) ≡ all
class_step types n k place methods new all next after below next_is new_is after_is so_far =
    ap (λ (some : List Signature). some ++ methods_of types (superclasses types (n - (k + 1)) after)) new_is
    ∙ ap (λ (one : Option ℕ). (methods ++ methods_at (slice_get types place)) ++ methods_of types (superclasses types (n - (k + 1)) one)) after_is
    ∙ append_assoc methods (methods_at (slice_get types place)) (methods_of types (superclasses types (n - (k + 1)) (superclass_at (slice_get types place))))
    ∙ ap (λ (some : List Signature). methods ++ some) (sym (class_more types n k place below))
    ∙ ap (λ (one : Option ℕ). methods ++ methods_of types (superclasses types (n - k) one)) (sym next_is)
    ∙ so_far

-- no class is left
pub class_done : (types : List Outline) (m : ℕ) (methods all : List Signature) (next : Option ℕ) → next ≡ None → methods ++ methods_of types (superclasses types m next) ≡ all → methods ≡ all
class_done types m methods all next next_is so_far =
    sym (append-nil methods)
    ∙ ap (λ (some : List Signature). methods ++ some) (sym (class_none types m))
    ∙ ap (λ (one : Option ℕ). methods ++ methods_of types (superclasses types m one)) (sym next_is)
    ∙ so_far

-- as many as there are types
pub class_end : (types : List Outline) (n k : ℕ) (methods all : List Signature) (next : Option ℕ) → n ≤ k → methods ++ methods_of types (superclasses types (n - k) next) ≡ all → methods ≡ all
class_end types n k methods all next past so_far =
    sym (append-nil methods) ∙ ap (λ (m : ℕ). methods ++ methods_of types (superclasses types m next)) none ∙ so_far
  where
    none : 0 ≡ n - k
    none = omega arith

-- what one index more gives
pub range_step : {A : Type 0} (f : ℕ → List A) (k : ℕ) (initial so_far new : List A) → so_far ≡ initial ++ flat_map f (range_with_len 0 k) → new ≡ so_far ++ f k
    → new ≡ initial ++ flat_map f (range_with_len 0 (k + 1))
range_step {A} f k initial so_far new so_far_is new_is =
    new_is
    ∙ ap (λ (some : List A). some ++ f k) so_far_is
    ∙ append_assoc initial (flat_map f (range_with_len 0 k)) (f k)
    ∙ ap (λ (some : List A). initial ++ some)
    (ap (λ (last : List A). flat_map f (range_with_len 0 k) ++ last) (sym (append-nil (f k)))
    ∙ sym (ap (flat_map f) (range_more k) ∙ flat_map-append f (range_with_len 0 k) (k ∷ [])))

-- the methods of one type more
pub methods_step : (types : List Outline) (places : List ℕ) (k : ℕ) (methods new : List Signature) → k < length places → methods ≡ methods_of types (take k places) → new ≡ methods ++ methods_at (slice_get types (get_or places k 0))
    → new ≡ methods_of types (take (k + 1) places)
methods_step types places k methods new below methods_are new_is =
    new_is
    ∙ ap (λ (some : List Signature). some ++ methods_at (slice_get types (get_or places k 0))) methods_are
    ∙ ap (λ (last : List Signature). methods_of types (take k places) ++ last) (sym (append-nil (methods_at (slice_get types (get_or places k 0)))))
    ∙ sym (ap (methods_of types) (take_more places k 0 below) ∙ flat_map-append (λ (place : ℕ). methods_at (slice_get types place)) (take k places) (get_or places k 0 ∷ []))
