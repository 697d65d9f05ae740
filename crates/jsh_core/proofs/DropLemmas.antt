-- The only item that a test holds of, and what is in force without a declaration.
use Rattle.std.proofs.Common.{◌≡◌, ℕ, ◌≤◌, Bool, true, false, List, [], ◌∷◌, length, filter, find, Option, None, Some, refl, sym, arith, cond, ◌∙◌}
use Rattle.std.specs.List.{slice_get}
use Rattle.jsh_snippet.specs.declared.replies.Refusal.TheVariants as refusal
use Rattle.jsh_core.specs.declared.generation.Live.{Live}
use Rattle.std.specs.Option.{is_some}
use Rattle.jsh_core.specs.State.{Generation, State, refuses}
use Rattle.jsh_core.specs.Generations.{without}
use Rattle.jsh_core.specs.Drops.{drop_id, drop_only, generation_without}

-- the first item that is found is the first that is filtered
pub find-filter : {A : Type 0} (p : A → Bool) (xs : List A) → find p xs ≡ slice_get (filter p xs) 0
find-filter p [] = refl
find-filter p (x ∷ xs) = from (p x) (find-filter p xs)
  where
    from : (is : Bool) → find p xs ≡ slice_get (filter p xs) 0 → cond is (Some x) (find p xs) ≡ slice_get (cond is (x ∷ filter p xs) (filter p xs)) 0
    from true rest = refl
    from false rest = rest

one_item : {A : Type 0} (xs : List A) (x : A) → length xs ≡ 1 → slice_get xs 0 ≡ Some x → xs ≡ x ∷ []
one_item [] x one found = cc
one_item (y ∷ []) x one found = cc
one_item (y ∷ z ∷ xs) x one found = absurd (omega (arith, one))

-- one item that is filtered is the one that is found
pub only-found : {A : Type 0} (p : A → Bool) (xs : List A) (x : A) → length (filter p xs) ≡ 1 → find p xs ≡ Some x → filter p xs ≡ x ∷ []
only-found p xs x one found = one_item (filter p xs) x one (rw (find-filter p xs) at found)

pub length-filter_most : {A : Type 0} (p : A → Bool) (xs : List A) → length (filter p xs) ≤ length xs
length-filter_most p [] = omega arith
length-filter_most p (x ∷ xs) = from (p x) (length-filter_most p xs)
  where
    from : (is : Bool) → length (filter p xs) ≤ length xs → length (cond is (x ∷ filter p xs) (filter p xs)) ≤ length (x ∷ xs)
    from true rest = omega (arith, rest)
    from false rest = omega (arith, rest)

-- where another number than one is found, none is taken back
pub drop_only-other : (s : State) (name : List ℕ) (found : List Live) → (length found ≡ 1 → ⊥) → drop_only s name found ≡ refuses s (refusal.NoSuchName name (length found))
drop_only-other s name [] other = refl
drop_only-other s name (live ∷ []) other = absurd (other refl)
drop_only-other s name (live ∷ next ∷ rest) other = refl

has_first : {A : Type 0} (xs : List A) → length xs ≡ 1 → slice_get xs 0 ≡ None → ⊥
has_first [] one none = omega (arith, one)
has_first (x ∷ xs) one none = cc

-- where one is filtered, it is found
pub found-one : {A : Type 0} (p : A → Bool) (xs : List A) → length (filter p xs) ≡ 1 → find p xs ≡ None → ⊥
found-one p xs one none = has_first (filter p xs) one (sym (find-filter p xs) ∙ none)

-- the only one with the name is taken back
pub drop_only-one : (s : State) (name : List ℕ) (p : Live → Bool) (xs : List Live) (live : Live) → length (filter p xs) ≡ 1 → find p xs ≡ Some live →
    drop_only s name (filter p xs) ≡ drop_id s live.id
drop_only-one s name p xs live one found = rw (only-found p xs live one found) refl

-- a declaration that is in force goes
pub without_some : (g : Generation) (id : ℕ) (found : Option Live) → is_some found ≡ true → generation_without g id found ≡ without g id
without_some g id None is = cc
without_some g id (Some live) is = refl

-- one that isn't stays away
pub without_none : (g : Generation) (id : ℕ) (found : Option Live) → is_some found ≡ false → generation_without g id found ≡ g
without_none g id None is = refl
without_none g id (Some live) is = cc
