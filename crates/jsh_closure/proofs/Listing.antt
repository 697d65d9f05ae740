-- A search that lists what no longer waits ends with the places of the closure.
use Rattle.std.proofs.Common.{◌≡◌, ℕ, zero, suc, ◌+◌, ◌<◌, ◌≤◌, Bool, true, false, ◌||◌, ◌⊎◌, inl, inr, List, [], ◌∷◌, ◌++◌, length, get_or, drop, refl, sym, ◌∙◌, ap, subst, arith, add-one, drop-cons}
use Rattle.std.proofs.Math.ListN.{set}
use Rattle.std.proofs.lemmas.Bool.{or_cases, or_left, or_right, cases_Bool, cases_eq, cases_lt, both_ways, eqb-true, eq-eqb, ne_eqb}
use Rattle.std.proofs.lemmas.List.{get_or-set_same, get_or-set_other, get_or_past, at_drop_all}
use Rattle.std.proofs.lemmas.List.Folds.{list_any-append}
use Rattle.std.specs.Prelude.{nat_eq, slice_get}
use Rattle.jsh_closure.specs.Closure.{is_among, places_at, has_edge, closure}
use Rattle.jsh_closure.specs.Searches.{Adds, IsSearch}
use Rattle.jsh_closure.specs.Finding.{IsBlank, IsFound, MarksOnly, Unmarks, IsListing}
use Rattle.jsh_closure.proofs.Searching.{begin, follow, end, read, same_bool, marked_below}

one_among : (place i : ℕ) → is_among (place ∷ []) i ≡ true → i ≡ place
one_among place i held = at (or_cases (nat_eq i place) false held)
  where
    at : (nat_eq i place ≡ true) ⊎ (false ≡ true) → i ≡ place
    at (inl same) = eqb-true i place same
    at (inr never) = absurd (cc never)

self_among : (place : ℕ) → is_among (place ∷ []) place ≡ true
self_among place = or_left (nat_eq place place) false (eq-eqb place place refl)

module _ (first : List ℕ) (edges : List (List ℕ)) where
  pub begin_listing : (m0 m : List Bool) (w : List ℕ) → length m0 ≡ length edges → IsBlank m0 → Adds first m0 [] m w → IsListing first edges m w []
  begin_listing m0 m w size blank adds = record {
    search = begin first edges m0 m w size blank.unmarked adds;
    listed = λ i held. or_left (is_among w i) false (adds.added i held (blank.unmarked i));
    found_marked = λ i held. absurd (cc held);
  }

  pub follow_listing : (place : ℕ) (m : List Bool) (w found : List ℕ) (m1 : List Bool) (w1 : List ℕ)
      → IsListing first edges m (w ++ place ∷ []) found → Adds (places_at (slice_get edges place)) m w m1 w1 → IsListing first edges m1 w1 (found ++ place ∷ [])
  follow_listing place m w found m1 w1 listing adds = record {
    search = follow first edges place m w m1 w1 listing.search adds;
    listed = λ i held. lists i held (cases_Bool (get_or m i false));
    found_marked = λ i held. marks i (or_cases (is_among found i) (is_among (place ∷ []) i) (sym (list_any-append (nat_eq i) found (place ∷ [])) ∙ held));
  }
    where
      still : (i : ℕ) → get_or m i false ≡ true → get_or m1 i false ≡ true
      still i held = adds.marked i ∙ or_left (get_or m i false) _ held

      marks : (i : ℕ) → (is_among found i ≡ true) ⊎ (is_among (place ∷ []) i ≡ true) → get_or m1 i false ≡ true
      marks i (inl old) = still i (listing.found_marked i old)
      marks i (inr new) =
          ap (λ (k : ℕ). get_or m1 k false) (one_among place i new)
          ∙ still place (listing.search.wait_marked place (list_any-append (nat_eq place) w (place ∷ []) ∙ or_right (is_among w place) (is_among (place ∷ []) place) (self_among place)))

      in_found : (i : ℕ) → (is_among found i ≡ true) ⊎ (is_among (place ∷ []) i ≡ true) → (is_among w1 i || is_among (found ++ place ∷ []) i) ≡ true
      in_found i (inl old) = or_right (is_among w1 i) (is_among (found ++ place ∷ []) i) (list_any-append (nat_eq i) found (place ∷ []) ∙ or_left (is_among found i) (is_among (place ∷ []) i) old)
      in_found i (inr new) = or_right (is_among w1 i) (is_among (found ++ place ∷ []) i) (list_any-append (nat_eq i) found (place ∷ []) ∙ or_right (is_among found i) (is_among (place ∷ []) i) new)

      waited : (i : ℕ) → (is_among w i ≡ true) ⊎ (is_among (place ∷ []) i ≡ true) → (is_among w1 i || is_among (found ++ place ∷ []) i) ≡ true
      waited i (inl old) = or_left (is_among w1 i) (is_among (found ++ place ∷ []) i) (adds.kept i old)
      waited i (inr new) = in_found i (inr new)

      held_before : (i : ℕ) → (is_among (w ++ place ∷ []) i ≡ true) ⊎ (is_among found i ≡ true) → (is_among w1 i || is_among (found ++ place ∷ []) i) ≡ true
      held_before i (inl old) = waited i (or_cases (is_among w i) (is_among (place ∷ []) i) (sym (list_any-append (nat_eq i) w (place ∷ [])) ∙ old))
      held_before i (inr old) = in_found i (inl old)

      lists : (i : ℕ) → get_or m1 i false ≡ true → (get_or m i false ≡ true) ⊎ (get_or m i false ≡ false) → (is_among w1 i || is_among (found ++ place ∷ []) i) ≡ true
      lists i held (inl old) = held_before i (or_cases (is_among (w ++ place ∷ []) i) (is_among found i) (listing.listed i old))
      lists i held (inr new) = or_left (is_among w1 i) (is_among (found ++ place ∷ []) i) (adds.added i held new)

  pub end_found : (m : List Bool) (found : List ℕ) → IsListing first edges m [] found → IsFound first edges found
  end_found m found listing = record {
    within = λ i held. omega (arith, listing.search.size, marked_below first edges m i (listing.found_marked i held));
    reached = λ i below. same_bool (is_among found i) (get_or m i false) (listing.found_marked i) (listing.listed i) ∙ ap (λ (some : List Bool). get_or some i false) (end first edges m listing.search) ∙ read first edges i below;
  }

  pub end_marks : (m : List Bool) (found : List ℕ) → IsListing first edges m [] found → MarksOnly found m
  end_marks m found listing = record { stands = listing.listed }

pub none_marked : (marks : List Bool) → MarksOnly [] marks → IsBlank marks
none_marked marks only = record { unmarked = λ i. at i (cases_Bool (get_or marks i false)) }
  where
    at : (i : ℕ) → (get_or marks i false ≡ true) ⊎ (get_or marks i false ≡ false) → get_or marks i false ≡ false
    at i (inl held) = absurd (cc (only.stands i held))
    at i (inr none) = none

later : (places : List ℕ) (k i : ℕ) → k < length places → (i ≡ get_or places k 0 → ⊥) → is_among (drop k places) i ≡ true → is_among (drop (k + 1) places) i ≡ true
later places k i below apart held =
    at (or_cases (nat_eq i (get_or places k 0)) (is_among (drop (k + 1) places) i)
    (ap (λ (some : List ℕ). is_among some i) (ap (λ (n : ℕ). get_or places k 0 ∷ drop n places) (add-one k) ∙ sym (drop-cons places k 0 below)) ∙ held))
  where
    at : (nat_eq i (get_or places k 0) ≡ true) ⊎ (is_among (drop (k + 1) places) i ≡ true) → is_among (drop (k + 1) places) i ≡ true
    at (inl same) = absurd (apart (eqb-true i (get_or places k 0) same))
    at (inr rest) = rest

pub unmark_at : (place : ℕ) (marks : List Bool) → place < length marks → Unmarks place marks (set marks place false)
unmark_at place marks inside = record {
  unmarked = get_or-set_same marks place false false inside;
  others = λ i apart. get_or-set_other marks place i false false apart;
}

pub unmark_past : (place : ℕ) (marks : List Bool) → length marks ≤ place → Unmarks place marks marks
unmark_past place marks past = record { unmarked = get_or_past marks place false past; others = λ i apart. refl }

-- one place less
pub unmark_more : (places : List ℕ) (k : ℕ) (marks new : List Bool) → k < length places → MarksOnly (drop k places) marks → Unmarks (get_or places k 0) marks new → MarksOnly (drop (k + 1) places) new
unmark_more places k marks new below only unmarks = record { stands = λ i held. at i held (cases_eq i (get_or places k 0)) }
  where
    at : (i : ℕ) → get_or new i false ≡ true → (i ≡ get_or places k 0) ⊎ (i ≡ get_or places k 0 → ⊥) → is_among (drop (k + 1) places) i ≡ true
    at i held (inl same) = absurd (both_ways _ (ap (λ (j : ℕ). get_or new j false) same ∙ unmarks.unmarked) held)
    at i held (inr apart) = later places k i below apart (only.stands i (sym (unmarks.others i apart) ∙ held))

pub unmark_all : (places : List ℕ) (k : ℕ) (marks : List Bool) → length places ≤ k → MarksOnly (drop k places) marks → IsBlank marks
unmark_all places k marks past only = none_marked marks (subst (λ (some : List ℕ). MarksOnly some marks) (at_drop_all (λ (some : List ℕ). some) places k past) only)
