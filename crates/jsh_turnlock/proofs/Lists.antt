-- Sums over the views of a table, and how often a number stands in a list.
use Rattle.std.proofs.Common.{◌≡◌, ◌≢◌, ℕ, zero, suc, ◌+◌, ◌<◌, ◌≤◌, List, [], ◌∷◌, ◌++◌, set, cond, eqb, refl, sym, ap, ◌∙◌, subst, ⊎_elim, arith, eq-eqb, ne_eqb}
use Rattle.std.specs.List.{Contains, sum_by}
use Rattle.std.proofs.lemmas.List.Sums.{sum_by-cons, sum_by-append}
use mathlib.Core.Option.{some, some-ne-none, some-injective}
use lib.ListN.{get_elem?}
use Rattle.atomic_table.proofs.Lists.{at_set}
use Rattle.jsh_turnlock.specs.Rule.{times}

module _ {A : Type 0} where
  pub sum_set : (f : A → ℕ) (xs : List A) (i : ℕ) (v w : A) → get_elem? xs i ≡ some v → sum_by f (set xs i w) + f v ≡ sum_by f xs + f w
  sum_set f [] i v w at = absurd (some-ne-none v (sym at))
  sum_set f (x ∷ xs) zero v w at =
      let same : f x ≡ f v = ap f (some-injective x v at) in omega (arith, sum_by-cons f x xs, sum_by-cons f w xs)
  sum_set f (x ∷ xs) (suc i) v w at = omega (arith, sum_by-cons f x xs, sum_by-cons f x (set xs i w), sum_set f xs i v w at)

  pub sum_at : (f : A → ℕ) (xs : List A) (i : ℕ) (v : A) → get_elem? xs i ≡ some v → f v ≤ sum_by f xs
  sum_at f [] i v at = absurd (some-ne-none v (sym at))
  sum_at f (x ∷ xs) zero v at = let same : f x ≡ f v = ap f (some-injective x v at) in omega (arith, sum_by-cons f x xs)
  sum_at f (x ∷ xs) (suc i) v at = omega (arith, sum_by-cons f x xs, sum_at f xs i v at)

  -- two places count both
  pub sum_two : (f : A → ℕ) (xs : List A) (i j : ℕ) (v w : A) → i ≢ j → get_elem? xs i ≡ some v → get_elem? xs j ≡ some w → f v + f w ≤ sum_by f xs
  sum_two f [] i j v w apart at there = absurd (some-ne-none v (sym at))
  sum_two f (x ∷ xs) zero zero v w apart at there = absurd (apart refl)
  sum_two f (x ∷ xs) zero (suc j) v w apart at there =
      let same : f x ≡ f v = ap f (some-injective x v at) in omega (arith, sum_by-cons f x xs, sum_at f xs j w there)
  sum_two f (x ∷ xs) (suc i) zero v w apart at there =
      let same : f x ≡ f w = ap f (some-injective x w there) in omega (arith, sum_by-cons f x xs, sum_at f xs i v at)
  sum_two f (x ∷ xs) (suc i) (suc j) v w apart at there =
      omega (arith, sum_by-cons f x xs, sum_two f xs i j v w (λ e. apart (ap suc e)) at there)

  pub sum_le : (f h : A → ℕ) (xs : List A) → ((i : ℕ) (v : A) → get_elem? xs i ≡ some v → f v ≤ h v) → sum_by f xs ≤ sum_by h xs
  sum_le f h [] le = omega arith
  sum_le f h (x ∷ xs) le =
      let here = le 0 x refl in omega (arith, sum_by-cons f x xs, sum_by-cons h x xs, sum_le f h xs (λ i v at. le (suc i) v at))

  pub sum_none : (f : A → ℕ) (xs : List A) → ((i : ℕ) (v : A) → get_elem? xs i ≡ some v → f v ≡ 0) → sum_by f xs ≡ 0
  sum_none f [] none_at = refl
  sum_none f (x ∷ xs) none_at =
      let here = none_at 0 x refl in omega (arith, sum_by-cons f x xs, sum_none f xs (λ i v at. none_at (suc i) v at))

  -- what holds of the new element, and of the others, holds of each
  pub each_set : (P : A → Type 0) (xs : List A) (i : ℕ) (w : A) → P w → ((j : ℕ) (u : A) → j ≢ i → get_elem? xs j ≡ some u → P u) → (j : ℕ) (u : A) → get_elem? (set xs i w) j ≡ some u → P u
  each_set P xs i w mine others j u at =
      ⊎_elim (λ (t : (j ≡ i) × (w ≡ u)). subst P t.1 mine) (λ (t : (j ≢ i) × (get_elem? xs j ≡ some u)). others j u t.0 t.1) (at_set xs i j w u at)

pub times-cons : (k x : ℕ) (xs : List ℕ) → times k (x ∷ xs) ≡ cond (eqb x k) 1 0 + times k xs
times-cons k x xs = sum_by-cons (λ y. cond (eqb y k) 1 0) x xs

pub times-append : (k : ℕ) (xs ys : List ℕ) → times k (xs ++ ys) ≡ times k xs + times k ys
times-append k xs ys = sum_by-append (λ y. cond (eqb y k) 1 0) xs ys

pub times_here : (k : ℕ) (xs : List ℕ) → times k (k ∷ xs) ≡ 1 + times k xs
times_here k xs = times-cons k k xs ∙ ap (λ b. cond b 1 0 + times k xs) (eq-eqb k k refl)

pub times_else : (k x : ℕ) (xs : List ℕ) → x ≢ k → times k (x ∷ xs) ≡ times k xs
times_else k x xs apart = omega (arith, times-cons k x xs, ap {B = ℕ} (λ b. cond b 1 0) (ne_eqb x k apart))

-- an element stands there at least once
pub times_some : (k : ℕ) (xs : List ℕ) → Contains xs k → 0 < times k xs
times_some k [] has = absurd (omega (arith, has.1))
times_some k (x ∷ xs) (zero, inside, at) = let same : x ≡ k = at in subst (λ y. 0 < times k (y ∷ xs)) (sym same) (omega (arith, times_here k xs))
times_some k (x ∷ xs) (suc i, inside, at) = omega (arith, times-cons k x xs, times_some k xs (i, omega (arith, inside), at))

pub contains_here : (k : ℕ) (xs : List ℕ) → Contains (k ∷ xs) k
contains_here k xs = (0, omega arith, refl)

pub contains_later : (k x : ℕ) (xs : List ℕ) → Contains xs k → Contains (x ∷ xs) k
contains_later k x xs has = (suc has.0, omega (arith, has.1), has.2)

module _ {A : Type 0} where
  pub sum_same : (f : A → ℕ) (xs : List A) (i : ℕ) (v w : A) → get_elem? xs i ≡ some v → f w ≡ f v → sum_by f (set xs i w) ≡ sum_by f xs
  sum_same f xs i v w at same = omega (arith, sum_set f xs i v w at)

  pub at_set_here : (xs : List A) (i : ℕ) (v w : A) → get_elem? xs i ≡ some v → get_elem? (set xs i w) i ≡ some w
  at_set_here [] i v w at = absurd (some-ne-none v (sym at))
  at_set_here (x ∷ xs) zero v w at = refl
  at_set_here (x ∷ xs) (suc i) v w at = at_set_here xs i v w at

-- what is no element never stands there
pub absent : (k : ℕ) (xs : List ℕ) → (Contains xs k → ⊥) → times k xs ≡ 0
absent k [] not = refl
absent k (x ∷ xs) not =
    times_else k x xs (λ e. not (subst (λ y. Contains (x ∷ xs) y) e (contains_here x xs))) ∙ absent k xs (λ has. not (contains_later k x xs has))
