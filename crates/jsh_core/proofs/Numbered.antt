-- Items by their numbers: what is found in a list that has grown, was written to, or was mapped.
use Rattle.std.proofs.Common.{◌≡◌, ◌≢◌, ℕ, zero, suc, ◌+◌, ◌-◌, ◌<◌, ◌≤◌, ◌==◌, ◌⊎◌, inl, inr, Bool, true, false, List, [], ◌∷◌, ◌++◌, map, set, None, Some, length, refl, ap, arith, cond}
use Rattle.std.specs.List.{slice_get}
use Rattle.std.proofs.lemmas.Bool.{eqb-true}
use Rattle.std.proofs.lemmas.Option.{slice_get_within}
use Rattle.jsh_core.specs.State.{numbered}
use Rattle.jsh_core.proofs.ListLemmas.{numbered-place, numbered-positive}

pub slice_get-append : {A : Type 0} (items more : List A) (i : ℕ) (item : A) → slice_get items i ≡ Some item → slice_get (items ++ more) i ≡ Some item
slice_get-append [] more i item e = cc
slice_get-append (x ∷ xs) more zero item e = e
slice_get-append (x ∷ xs) more (suc i) item e = slice_get-append xs more i item e

pub numbered-append : {A : Type 0} (items more : List A) (number : ℕ) (item : A) → numbered items number ≡ Some item → numbered (items ++ more) number ≡ Some item
numbered-append items more number item e = from (number == 0) e
  where
    from : (first : Bool) → cond first None (slice_get items (number - 1)) ≡ Some item → cond first None (slice_get (items ++ more) (number - 1)) ≡ Some item
    from true e = cc
    from false e = slice_get-append items more (number - 1) item e

-- an item of a longer list is an old one, or the new one
slice_get-longer : {A : Type 0} (items : List A) (new : A) (i : ℕ) (item : A) → slice_get (items ++ new ∷ []) i ≡ Some item →
    (slice_get items i ≡ Some item) ⊎ ((i ≡ length items) × (item ≡ new))
slice_get-longer [] new zero item e = inr (refl, (cc))
slice_get-longer [] new (suc i) item e = cc
slice_get-longer (x ∷ xs) new zero item e = inl e
slice_get-longer (x ∷ xs) new (suc i) item e = from (slice_get-longer xs new i item e)
  where
    from : (slice_get xs i ≡ Some item) ⊎ ((i ≡ length xs) × (item ≡ new)) → (slice_get xs i ≡ Some item) ⊎ ((suc i ≡ suc (length xs)) × (item ≡ new))
    from (inl old) = inl old
    from (inr (last, same)) = inr (ap suc last, same)

pub numbered-longer : {A : Type 0} (items : List A) (new : A) (number : ℕ) (item : A) → numbered (items ++ new ∷ []) number ≡ Some item →
    (numbered items number ≡ Some item) ⊎ ((length items + 1 ≡ number) × (item ≡ new))
numbered-longer items new number item e = from (number == 0) refl e
  where
    last_is : (number == 0) ≡ false → number - 1 ≡ length items → length items + 1 ≡ number
    last_is some last = positive number some last
      where
        positive : (n : ℕ) → (n == 0) ≡ false → n - 1 ≡ length items → length items + 1 ≡ n
        positive zero z l = cc
        positive (suc n) z l = omega arith

    from : (first : Bool) → (number == 0) ≡ first → cond first None (slice_get (items ++ new ∷ []) (number - 1)) ≡ Some item →
        (cond first None (slice_get items (number - 1)) ≡ Some item) ⊎ ((length items + 1 ≡ number) × (item ≡ new))
    from true z e = cc
    from false z e = at_place (slice_get-longer items new (number - 1) item e)
      where
        at_place : (slice_get items (number - 1) ≡ Some item) ⊎ ((number - 1 ≡ length items) × (item ≡ new)) →
            (slice_get items (number - 1) ≡ Some item) ⊎ ((length items + 1 ≡ number) × (item ≡ new))
        at_place (inl old) = inl old
        at_place (inr (last, same)) = inr (last_is z last, same)

pub slice_get-set_other : {A : Type 0} (items : List A) (i k : ℕ) (new : A) → i ≢ k → slice_get (set items i new) k ≡ slice_get items k
slice_get-set_other [] i k new other = refl
slice_get-set_other (x ∷ xs) zero zero new other = absurd (other refl)
slice_get-set_other (x ∷ xs) zero (suc k) new other = refl
slice_get-set_other (x ∷ xs) (suc i) zero new other = refl
slice_get-set_other (x ∷ xs) (suc i) (suc k) new other = slice_get-set_other xs i k new (λ same. other (ap suc same))

-- a write leaves the items with other numbers
pub numbered-set_other : {A : Type 0} (items : List A) (written number : ℕ) (new : A) → 0 < written → written ≢ number →
    numbered (set items (written - 1) new) number ≡ numbered items number
numbered-set_other items written number new some other = from (number == 0) refl
  where
    apart : (n : ℕ) → (n == 0) ≡ false → written ≢ n → written - 1 ≢ n - 1
    apart zero z differ = cc
    apart (suc n) z differ = λ same. differ (omega arith)

    from : (first : Bool) → (number == 0) ≡ first → cond first None (slice_get (set items (written - 1) new) (number - 1)) ≡ cond first None (slice_get items (number - 1))
    from true z = refl
    from false z = slice_get-set_other items (written - 1) (number - 1) new (apart number z other)

pub slice_get-set : {A : Type 0} (items : List A) (i : ℕ) (old item : A) → slice_get items i ≡ Some old → slice_get (set items i item) i ≡ Some item
slice_get-set [] i old item e = cc
slice_get-set (x ∷ xs) zero old item e = refl
slice_get-set (x ∷ xs) (suc i) old item e = slice_get-set xs i old item e

-- an item that was written is read back
pub numbered-set : {A : Type 0} (items : List A) (number : ℕ) (old item : A) → numbered items number ≡ Some old → numbered (set items (number - 1) item) number ≡ Some item
numbered-set items number old item there = from (number == 0) there
  where
    from : (first : Bool) → cond first None (slice_get items (number - 1)) ≡ Some old → cond first None (slice_get (set items (number - 1) item) (number - 1)) ≡ Some item
    from true e = cc
    from false e = slice_get-set items (number - 1) old item e

slice_get-mapped : {A B : Type 0} (f : A → B) (items : List A) (i : ℕ) (item : B) → slice_get (map f items) i ≡ Some item →
    (old : A) × (slice_get items i ≡ Some old) × (item ≡ f old)
slice_get-mapped f [] i item e = cc
slice_get-mapped f (x ∷ xs) zero item e = (x, refl, (cc))
slice_get-mapped f (x ∷ xs) (suc i) item e = slice_get-mapped f xs i item e

-- an item of a mapped list comes of one of the list
pub numbered-mapped : {A B : Type 0} (f : A → B) (items : List A) (number : ℕ) (item : B) → numbered (map f items) number ≡ Some item →
    (old : A) × (numbered items number ≡ Some old) × (item ≡ f old)
numbered-mapped {A} {B} f items number item e = from (number == 0) e
  where
    from : (first : Bool) → cond first None (slice_get (map f items) (number - 1)) ≡ Some item →
        (old : A) × (cond first None (slice_get items (number - 1)) ≡ Some old) × (item ≡ f old)
    from true e = cc
    from false e = slice_get-mapped f items (number - 1) item e

slice_get-map : {A B : Type 0} (f : A → B) (items : List A) (i : ℕ) (item : A) → slice_get items i ≡ Some item → slice_get (map f items) i ≡ Some (f item)
slice_get-map f [] i item e = cc
slice_get-map f (x ∷ xs) zero item e = let same : x ≡ item = cc in ap (λ y. Some (f y)) same
slice_get-map f (x ∷ xs) (suc i) item e = slice_get-map f xs i item e

pub numbered-map : {A B : Type 0} (f : A → B) (items : List A) (number : ℕ) (item : A) → numbered items number ≡ Some item → numbered (map f items) number ≡ Some (f item)
numbered-map f items number item e = from (number == 0) e
  where
    from : (first : Bool) → cond first None (slice_get items (number - 1)) ≡ Some item → cond first None (slice_get (map f items) (number - 1)) ≡ Some (f item)
    from true e = cc
    from false e = slice_get-map f items (number - 1) item e

-- a number is that of no item behind the last one
pub numbered-within : {A : Type 0} (items : List A) (number : ℕ) (item : A) → numbered items number ≡ Some item → number ≤ length items
numbered-within items number item e =
    let place : number - 1 < length items = slice_get_within items (number - 1) item (numbered-place items number item e) in
    let some : 0 < number = numbered-positive items number item e in
    omega arith

slice_get-there : {A : Type 0} (items : List A) (i : ℕ) → i < length items → (item : A) × (slice_get items i ≡ Some item)
slice_get-there [] i less = absurd (omega arith)
slice_get-there (x ∷ xs) zero less = (x, refl)
slice_get-there (x ∷ xs) (suc i) less = slice_get-there xs i (omega arith)

-- each number from 1 to the length is that of an item
pub numbered-there : {A : Type 0} (items : List A) (number : ℕ) → 0 < number → number ≤ length items → (item : A) × (numbered items number ≡ Some item)
numbered-there {A} items number some within = from (number == 0) refl
  where
    from : (first : Bool) → (number == 0) ≡ first → (item : A) × (cond first None (slice_get items (number - 1)) ≡ Some item)
    from true z = let none : number ≡ 0 = eqb-true number 0 z in absurd (omega arith)
    from false z = slice_get-there items (number - 1) (omega arith)

-- what is found by a number is found in a list of the same length
pub numbered-beside : {A B : Type 0} (items : List A) (others : List B) (number : ℕ) (item : A) → length others ≡ length items → numbered items number ≡ Some item →
    (other : B) × (numbered others number ≡ Some other)
numbered-beside items others number item same e =
    let within : number ≤ length items = numbered-within items number item e in
    numbered-there others number (numbered-positive items number item e) (omega arith)
