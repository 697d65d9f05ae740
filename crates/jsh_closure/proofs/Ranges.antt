-- Ranges of places.
use Rattle.std.proofs.Common.{◌≡◌, ℕ, zero, suc, ◌+◌, ◌<◌, ◌≤◌, Bool, true, false, cond, ◌||◌, ◌&&◌, ◌⊎◌, inl, inr, List, [], ◌∷◌, ◌++◌, refl, sym, subst, ◌∙◌, ap, arith, add-zero, add-one, flat_map}
use Rattle.std.specs.Prelude.{nat_eq, nat_lt}
use Rattle.std.specs.List.{range_with_len, filter}
use Rattle.std.proofs.lemmas.Bool.{cases_eq, eq-eqb, ne_eqb, lt-ltb, le-ltb, cases_lt}
use Rattle.std.proofs.lemmas.List.Elements.{filter-append}
use Rattle.std.proofs.lemmas.List.Folds.{list_any-append}
use Rattle.jsh_closure.specs.Closure.{is_among}

range_push : (a n : ℕ) → range_with_len a (suc n) ≡ range_with_len a n ++ (a + n) ∷ []
range_push a zero = ap (λ (x : ℕ). x ∷ []) (sym (add-zero a))
range_push a (suc n) = ap (λ (xs : List ℕ). a ∷ xs) (range_push (a + 1) n ∙ ap (λ (x : ℕ). range_with_len (a + 1) n ++ x ∷ []) (omega arith))

pub range_more : (n : ℕ) → range_with_len 0 (n + 1) ≡ range_with_len 0 n ++ n ∷ []
range_more n = ap (range_with_len 0) (add-one n) ∙ range_push 0 n ∙ ap (λ (x : ℕ). range_with_len 0 n ++ x ∷ []) (omega arith)

-- what is filtered of a range, one place more
pub filter_range_more : (p : ℕ → Bool) (n : ℕ) → filter p (range_with_len 0 (n + 1)) ≡ filter p (range_with_len 0 n) ++ cond (p n) (n ∷ []) []
filter_range_more p n = ap (filter p) (range_more n) ∙ filter-append p (range_with_len 0 n) (n ∷ [])

-- lists of places are alike where their places are
pub flat_map_range : {A : Type 0} (f g : ℕ → List A) (a n : ℕ) → ((i : ℕ) → a ≤ i → i < a + n → f i ≡ g i) → flat_map f (range_with_len a n) ≡ flat_map g (range_with_len a n)
flat_map_range f g a zero same = refl
flat_map_range {A} f g a (suc n) same =
    ap (λ (xs : List A). xs ++ flat_map f (range_with_len (a + 1) n)) (same a (omega arith) (omega arith))
    ∙ ap (λ (xs : List A). g a ++ xs) (flat_map_range f g (a + 1) n (λ i from below. same i (omega arith) (omega arith)))

among_step : (p : ℕ → Bool) (n i : ℕ) → is_among (filter p (range_with_len 0 n)) i ≡ (nat_lt i n && p i) → is_among (filter p (range_with_len 0 (n + 1))) i ≡ (nat_lt i (n + 1) && p i)
among_step p n i before =
    ap (λ (xs : List ℕ). is_among xs i) (filter_range_more p n)
    ∙ list_any-append (nat_eq i) (filter p (range_with_len 0 n)) (cond (p n) (n ∷ []) [])
    ∙ ap (λ (x : Bool). x || is_among (cond (p n) (n ∷ []) []) i) before
    ∙ here (cases_eq i n) (p n) refl
  where
    or_false : (b : Bool) → (b || false) ≡ b
    or_false true = refl
    or_false false = refl

    here : (i ≡ n) ⊎ (i ≡ n → ⊥) → (b : Bool) → p n ≡ b → ((nat_lt i n && p i) || is_among (cond b (n ∷ []) []) i) ≡ (nat_lt i (n + 1) && p i)
    here (inl same) true is = rw (le-ltb i n (omega arith), lt-ltb i (n + 1) (omega arith), eq-eqb i n same) (sym (ap p same ∙ is))
    here (inl same) false is = rw (le-ltb i n (omega arith), lt-ltb i (n + 1) (omega arith)) (sym (ap p same ∙ is))
    here (inr apart) true is = rw (ne_eqb i n apart) (or_false (nat_lt i n && p i) ∙ ap (λ (x : Bool). x && p i) (lt_step (cases_lt i n)))
      where
        lt_step : (i < n) ⊎ (n ≤ i) → nat_lt i n ≡ nat_lt i (n + 1)
        lt_step (inl below) = lt-ltb i n below ∙ sym (lt-ltb i (n + 1) (omega arith))
        lt_step (inr past) = le-ltb i n past ∙ sym (le-ltb i (n + 1) (omega arith))
    here (inr apart) false is = or_false (nat_lt i n && p i) ∙ ap (λ (x : Bool). x && p i) (lt_step (cases_lt i n))
      where
        lt_step : (i < n) ⊎ (n ≤ i) → nat_lt i n ≡ nat_lt i (n + 1)
        lt_step (inl below) = lt-ltb i n below ∙ sym (lt-ltb i (n + 1) (omega arith))
        lt_step (inr past) = le-ltb i n past ∙ sym (le-ltb i (n + 1) (omega arith))

pub among_filter : (p : ℕ → Bool) (n i : ℕ) → is_among (filter p (range_with_len 0 n)) i ≡ (nat_lt i n && p i)
among_filter p zero i = ap (λ (x : Bool). x && p i) (sym (le-ltb i 0 (omega arith)))
among_filter p (suc n) i = subst (λ (m : ℕ). is_among (filter p (range_with_len 0 m)) i ≡ (nat_lt i m && p i)) (add-one n) (among_step p n i (among_filter p n i))

-- what is filtered of the first places has a place where that passes
pub among_filtered : (p : ℕ → Bool) (n i : ℕ) → i < n → is_among (filter p (range_with_len 0 n)) i ≡ p i
among_filtered p n i below = among_filter p n i ∙ ap (λ (x : Bool). x && p i) (lt-ltb i n below)
