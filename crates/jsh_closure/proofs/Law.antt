-- The closure is the smallest closed set.
use Rattle.std.proofs.Common.{◌≡◌, ℕ, zero, suc, ◌+◌, ◌<◌, ◌≤◌, Bool, true, false, cond, ◌||◌, ◌&&◌, ◌⊎◌, inl, inr, refl, sym, ◌∙◌, ap, arith}
use Rattle.std.proofs.lemmas.Bool.{or_cases, or_left, or_right, and_parts, and_from, cases_Bool, cases_eq, both_ways}
use Rattle.jsh_closure.specs.Closure.{any_below, within, closure, IsClosed, IsSmallest}

any_here : (n : ℕ) (test : ℕ → Bool) (place : ℕ) → test place ≡ true → (place ≡ n) ⊎ (place ≡ n → ⊥) → ((place ≡ n → ⊥) → any_below n test ≡ true) → (any_below n test || test n) ≡ true
any_here n test place passes (inl here) before = or_right (any_below n test) (test n) (sym (ap test here) ∙ passes)
any_here n test place passes (inr apart) before = or_left (any_below n test) (test n) (before apart)

any_at : (n : ℕ) (test : ℕ → Bool) (place : ℕ) → place < n → test place ≡ true → any_below n test ≡ true
any_at zero test place below passes = absurd (omega arith)
any_at (suc n) test place below passes = any_here n test place passes (cases_eq place n) (λ apart. any_at n test place (omega arith) passes)

Some : ℕ → (ℕ → Bool) → Type 0
Some n test = (place : ℕ) × (place < n) × (test place ≡ true)

some_here : (n : ℕ) (test : ℕ → Bool) → (any_below n test ≡ true) ⊎ (test n ≡ true) → (any_below n test ≡ true → Some n test) → Some (suc n) test
unfolding Some
some_here n test (inl before) earlier = let e = earlier before in (e.0, omega arith, e.2)
some_here n test (inr here) earlier = (n, omega arith, here)

some_of_any : (n : ℕ) (test : ℕ → Bool) → any_below n test ≡ true → Some n test
some_of_any zero test found = absurd (cc)
some_of_any (suc n) test found = some_here n test (or_cases (any_below n test) (test n) found) (λ before. some_of_any n test before)

-- how many places below n pass
count_below : ℕ → (ℕ → Bool) → ℕ
count_below zero test = 0
count_below (suc n) test = count_below n test + cond (test n) 1 0

count_least : (n : ℕ) (f g : ℕ → Bool) → ((place : ℕ) → place < n → f place ≡ true → g place ≡ true) → count_below n f ≤ count_below n g
unfolding count_below
count_least zero f g less = omega arith
count_least (suc n) f g less = at (f n) (g n) (less n (omega arith)) (count_least n f g (λ place below. less place (omega arith)))
  where
    at : (a b : Bool) → (a ≡ true → b ≡ true) → count_below n f ≤ count_below n g → count_below n f + cond a 1 0 ≤ count_below n g + cond b 1 0
    at true true both below = omega arith
    at true false both below = absurd (cc (both refl))
    at false true both below = omega arith
    at false false both below = omega arith

count_grows : (n : ℕ) (f g : ℕ → Bool) → ((place : ℕ) → place < n → f place ≡ true → g place ≡ true) → (place : ℕ) → place < n → f place ≡ false → g place ≡ true → count_below n f < count_below n g
unfolding count_below
count_grows zero f g less place below not_f yes_g = absurd (omega arith)
count_grows (suc n) f g less place below not_f yes_g = at (cases_eq place n) (λ apart. count_grows n f g (λ p b. less p (omega arith)) place (omega arith) not_f yes_g)
  where
    here : (a b : Bool) → a ≡ false → b ≡ true → count_below n f ≤ count_below n g → count_below n f + cond a 1 0 < count_below n g + cond b 1 0
    here true b p q below = absurd (cc)
    here false true p q below = omega arith
    here false false p q below = absurd (cc)

    earlier : (a b : Bool) → (a ≡ true → b ≡ true) → count_below n f < count_below n g → count_below n f + cond a 1 0 < count_below n g + cond b 1 0
    earlier true true both below = omega arith
    earlier true false both below = absurd (cc (both refl))
    earlier false true both below = omega arith
    earlier false false both below = omega arith

    at : (place ≡ n) ⊎ (place ≡ n → ⊥) → ((place ≡ n → ⊥) → count_below n f < count_below n g) → count_below n f + cond (f n) 1 0 < count_below n g + cond (g n) 1 0
    at (inl same) before = here (f n) (g n) (sym (ap f same) ∙ not_f) (sym (ap g same) ∙ yes_g) (count_least n f g (λ p b. less p (omega arith)))
    at (inr apart) before = earlier (f n) (g n) (less n (omega arith)) (before apart)

count_most : (n : ℕ) (f : ℕ → Bool) → count_below n f ≤ n
unfolding count_below
count_most zero f = omega arith
count_most (suc n) f = at (f n) (count_most n f)
  where
    at : (a : Bool) → count_below n f ≤ n → count_below n f + cond a 1 0 ≤ suc n
    at true most = omega arith
    at false most = omega arith

count_all_here : (n : ℕ) (f : ℕ → Bool) (place : ℕ) → (place ≡ n) ⊎ (place ≡ n → ⊥) → (a : Bool) → f n ≡ a → suc n ≤ count_below n f + cond a 1 0 → ((place ≡ n → ⊥) → n ≤ count_below n f → f place ≡ true) → f place ≡ true
count_all_here n f place (inl same) true e full before = ap f same ∙ e
count_all_here n f place (inr apart) true e full before = before apart (omega arith)
count_all_here n f place _ false e full before = absurd (omega (arith, count_most n f))

count_all : (n : ℕ) (f : ℕ → Bool) → n ≤ count_below n f → (place : ℕ) → place < n → f place ≡ true
unfolding count_below
count_all zero f all place below = absurd (omega arith)
count_all (suc n) f all place below = count_all_here n f place (cases_eq place n) (f n) refl all (λ apart many. count_all n f many place (omega arith))

module _ (n : ℕ) (first : ℕ → Bool) (leads : ℕ → ℕ → Bool) where
  grows : (k place : ℕ) → within n first leads k place ≡ true → within n first leads (suc k) place ≡ true
  unfolding within
  grows k place held = or_left (within n first leads k place) (any_below n (λ from. within n first leads k from && leads from place)) held

  -- none is added after k times
  IsStable : ℕ → Type 0
  IsStable k = (place : ℕ) → place < n → within n first leads (suc k) place ≡ true → within n first leads k place ≡ true

  -- a place that is added after k times, or none below m
  added_or_none : (k m : ℕ) → m ≤ n
      → ((place : ℕ) × (place < n) × (within n first leads k place ≡ false) × (within n first leads (suc k) place ≡ true))
      ⊎ ((place : ℕ) → place < m → within n first leads (suc k) place ≡ true → within n first leads k place ≡ true)
  added_or_none k zero most = inr (λ place below held. absurd (omega arith))
  added_or_none k (suc m) most = at (added_or_none k m (omega arith)) (cases_Bool (within n first leads k m)) (cases_Bool (within n first leads (suc k) m))
    where
      Goal : Type 0
      Goal = ((place : ℕ) × (place < n) × (within n first leads k place ≡ false) × (within n first leads (suc k) place ≡ true))
          ⊎ ((place : ℕ) → place < suc m → within n first leads (suc k) place ≡ true → within n first leads k place ≡ true)

      none_at : ((place : ℕ) → place < m → within n first leads (suc k) place ≡ true → within n first leads k place ≡ true)
          → (within n first leads (suc k) m ≡ true → within n first leads k m ≡ true)
          → (place : ℕ) → place < suc m → within n first leads (suc k) place ≡ true → within n first leads k place ≡ true
      none_at before here place below held = elim (cases_eq place m) [
        | inl same ↦ ap (within n first leads k) same ∙ here (sym (ap (within n first leads (suc k)) same) ∙ held)
        | inr apart ↦ before place (omega arith) held
      ]

      at : ((place : ℕ) × (place < n) × (within n first leads k place ≡ false) × (within n first leads (suc k) place ≡ true))
          ⊎ ((place : ℕ) → place < m → within n first leads (suc k) place ≡ true → within n first leads k place ≡ true)
          → (within n first leads k m ≡ true) ⊎ (within n first leads k m ≡ false)
          → (within n first leads (suc k) m ≡ true) ⊎ (within n first leads (suc k) m ≡ false)
          → ((place : ℕ) × (place < n) × (within n first leads k place ≡ false) × (within n first leads (suc k) place ≡ true))
          ⊎ ((place : ℕ) → place < suc m → within n first leads (suc k) place ≡ true → within n first leads k place ≡ true)
      at (inl some) _ _ = inl some
      at (inr none) (inl old) _ = inr (none_at none (λ _. old))
      at (inr none) (inr not_old) (inl new) = inl (m, omega arith, not_old, new)
      at (inr none) (inr not_old) (inr not_new) = inr (none_at none (λ new. absurd (both_ways _ not_new new)))

  step_stable : (k : ℕ) → IsStable k → IsStable (suc k)
  unfolding within IsStable Some
  step_stable k stable place below held = at (or_cases (within n first leads (suc k) place) (any_below n (λ from. within n first leads (suc k) from && leads from place)) held)
    where
      at : (within n first leads (suc k) place ≡ true) ⊎ (any_below n (λ from. within n first leads (suc k) from && leads from place) ≡ true) → within n first leads (suc k) place ≡ true
      at (inl before) = before
      at (inr next) =
          let e = some_of_any n (λ from. within n first leads (suc k) from && leads from place) next in
          let parts = and_parts (within n first leads (suc k) e.0) (leads e.0 place) e.2 in
          or_right (within n first leads k place) (any_below n (λ from. within n first leads k from && leads from place))
          (any_at n (λ from. within n first leads k from && leads from place) e.0 e.1
          (and_from (within n first leads k e.0) (leads e.0 place) (stable e.0 e.1 parts.0) parts.1))

  -- none is added from some time on, or so many are held
  stable_or_many : (k : ℕ) → IsStable k ⊎ (k ≤ count_below n (within n first leads k))
  unfolding IsStable
  stable_or_many zero = inr (omega arith)
  stable_or_many (suc k) = at (stable_or_many k) (added_or_none k n (omega arith))
    where
      at : IsStable k ⊎ (k ≤ count_below n (within n first leads k))
          → ((place : ℕ) × (place < n) × (within n first leads k place ≡ false) × (within n first leads (suc k) place ≡ true))
          ⊎ ((place : ℕ) → place < n → within n first leads (suc k) place ≡ true → within n first leads k place ≡ true)
          → IsStable (suc k) ⊎ (suc k ≤ count_below n (within n first leads (suc k)))
      at (inl stable) _ = inl (step_stable k stable)
      at (inr many) (inl some) = inr (omega (arith, count_grows n (within n first leads k) (within n first leads (suc k)) (λ place below held. grows k place held) some.0 some.1 some.2 some.3))
      at (inr many) (inr none) = inl (step_stable k none)

  stable_at_end : IsStable n
  unfolding IsStable
  stable_at_end place below held = at (stable_or_many n)
    where
      at : IsStable n ⊎ (n ≤ count_below n (within n first leads n)) → within n first leads n place ≡ true
      at (inl stable) = stable place below held
      at (inr many) = count_all n (within n first leads n) many place below

  from_first : (k place : ℕ) → first place ≡ true → within n first leads k place ≡ true
  unfolding within
  from_first zero place held = held
  from_first (suc k) place held = grows k place (from_first k place held)

  least_next : (other : ℕ → Bool) → IsClosed n first leads other → (k place : ℕ) → place < n
      → (within n first leads k place ≡ true) ⊎ (any_below n (λ from. within n first leads k from && leads from place) ≡ true)
      → ((from : ℕ) → from < n → within n first leads k from ≡ true → other from ≡ true) → other place ≡ true
  unfolding Some
  least_next other closed k place below (inl before) earlier = earlier place below before
  least_next other closed k place below (inr next) earlier =
      let e = some_of_any n (λ from. within n first leads k from && leads from place) next in
      let parts = and_parts (within n first leads k e.0) (leads e.0 place) e.2 in
      closed.holds_next e.0 place e.1 below (earlier e.0 e.1 parts.0) parts.1

  least : (other : ℕ → Bool) → IsClosed n first leads other → (k place : ℕ) → place < n → within n first leads k place ≡ true → other place ≡ true
  unfolding within
  least other closed zero place below held = closed.holds_first place below held
  least other closed (suc k) place below held = least_next other closed k place below (or_cases (within n first leads k place) (any_below n (λ from. within n first leads k from && leads from place)) held) (λ from from_below before. least other closed k from from_below before)

  next_within : (from to : ℕ) → from < n → to < n → within n first leads n from ≡ true → leads from to ≡ true → within n first leads (suc n) to ≡ true
  unfolding within
  next_within from to from_below to_below held next =
      or_right (within n first leads n to) (any_below n (λ place. within n first leads n place && leads place to))
      (any_at n (λ place. within n first leads n place && leads place to) from from_below (and_from (within n first leads n from) (leads from to) held next))

  pub smallest : IsSmallest n first leads (closure n first leads)
  unfolding closure IsStable
  smallest = record {
    closed = record {
      holds_first = λ place below held. from_first n place held;
      holds_next = λ from to from_below to_below held next. stable_at_end to to_below (next_within from to from_below to_below held next);
    };
    contained = λ other closed place below held. least other closed n place below held;
  }
