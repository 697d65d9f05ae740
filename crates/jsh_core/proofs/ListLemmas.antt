-- Items with numbers.
use Rattle.std.proofs.Common.{◌≡◌, ℕ, zero, suc, ◌+◌, ◌-◌, ◌<◌, Bool, true, false, List, [], ◌∷◌, ◌++◌, None, Some, length, set, get_or, refl, ap, ◌∙◌, arith, cond, ◌==◌}
use Rattle.std.specs.List.{count_by, slice_get, sum_by}
use Rattle.std.proofs.lemmas.Option.{get_or_from_slice_get, slice_get-get_or, slice_get_within}
use Rattle.std.proofs.lemmas.Bool.{eqb-true}
use Rattle.std.proofs.lemmas.List.Sums.{sum_by-set}
use Rattle.jsh_core.specs.State.{numbered}

-- where an item stands that has a number
pub numbered-place : {A : Type 0} (items : List A) (number : ℕ) (item : A) → numbered items number ≡ Some item → slice_get items (number - 1) ≡ Some item
numbered-place items number item e = from (number == 0) e
  where
    from : (first : Bool) → cond first None (slice_get items (number - 1)) ≡ Some item → slice_get items (number - 1) ≡ Some item
    from true e = cc
    from false e = e

-- a number that an item has
pub record HasNumber {A : Type 0} (items : List A) (number : ℕ) (item : A) : Type 0 where
  pub positive : 0 < number
  pub within : number - 1 < length items
  pub place : slice_get items (number - 1) ≡ Some item
  pub read : (d : A) → get_or items (number - 1) d ≡ item

pub HasNumber-of : {A : Type 0} (items : List A) (number : ℕ) (item : A) → numbered items number ≡ Some item → HasNumber items number item
HasNumber-of items zero item e = cc
HasNumber-of items (suc k) item e =
    let place : slice_get items (suc k - 1) ≡ Some item = numbered-place items (suc k) item e in
    record {
      positive = omega arith;
      within = slice_get_within items (suc k - 1) item place;
      place = place;
      read = λ d. get_or_from_slice_get items (suc k - 1) item d place;
    }

-- the item with a number, by its place
pub numbered-at : {A : Type 0} (items : List A) (number : ℕ) (d : A) → 0 < number → number - 1 < length items → numbered items number ≡ Some (get_or items (number - 1) d)
numbered-at items number d positive within = from (number == 0) refl
  where
    from : (first : Bool) → (number == 0) ≡ first → cond first None (slice_get items (number - 1)) ≡ Some (get_or items (number - 1) d)
    from true z = absurd (omega (arith, eqb-true number 0 z))
    from false z = slice_get-get_or items (number - 1) d within

-- numbers begin with 1
pub numbered-positive : {A : Type 0} (items : List A) (number : ℕ) (item : A) → numbered items number ≡ Some item → 0 < number
numbered-positive items zero item e = cc
numbered-positive items (suc k) item e = omega arith

slice_get-last : {A : Type 0} (items : List A) (item : A) → slice_get (items ++ item ∷ []) (length items) ≡ Some item
slice_get-last [] item = refl
slice_get-last (x ∷ xs) item = slice_get-last xs item

-- the item that is added has the next number
pub numbered-push : {A : Type 0} (items : List A) (number : ℕ) (item : A) → number ≡ length items + 1 → numbered (items ++ item ∷ []) number ≡ Some item
numbered-push items number item e = from (number == 0) refl
  where
    from : (first : Bool) → (number == 0) ≡ first → cond first None (slice_get (items ++ item ∷ []) (number - 1)) ≡ Some item
    from true z = absurd (omega (arith, e, eqb-true number 0 z))
    from false z =
        let m : number - 1 ≡ length items = omega (arith, e) in
        ap (slice_get (items ++ item ∷ [])) m ∙ slice_get-last items item

-- where an item that counts gives way to one that doesn't, one fewer counts
pub count_by-set_fewer : {A : Type 0} (counts : A → Bool) (items : List A) (i : ℕ) (old new : A) → slice_get items i ≡ Some old →
    counts old ≡ true → counts new ≡ false → count_by counts (set items i new) + 1 ≡ count_by counts items
count_by-set_fewer {A} counts items i old new place counted left =
    let within : i < length items = slice_get_within items i old place in
    let same : get_or items i old ≡ old = get_or_from_slice_get items i old old place in
    let moved : sum_by (λ (x : A). cond (counts x) 1 0) (set items i new) + cond (counts (get_or items i old)) 1 0 ≡ sum_by (λ (x : A). cond (counts x) 1 0) items + cond (counts new) 1 0
    = sum_by-set (λ (x : A). cond (counts x) 1 0) items i new old within in
    let one : ◌≡◌ {A = ℕ} (cond (counts (get_or items i old)) 1 0) 1 = rw (same, counted) refl in
    let none : ◌≡◌ {A = ℕ} (cond (counts new) 1 0) 0 = rw left refl in
    omega (arith, moved, one, none)
