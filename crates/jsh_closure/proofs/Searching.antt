-- A search keeps its invariant, and ends with the closure.
use Rattle.std.proofs.Common.{◌≡◌, ℕ, zero, suc, ◌<◌, Bool, true, false, ◌&&◌, ◌⊎◌, inl, inr, List, [], ◌∷◌, ◌++◌, length, get_or, refl, sym, ◌∙◌, ap, arith}
use Rattle.std.proofs.lemmas.Bool.{or_cases, or_left, or_right, and_parts, and_from, cases_Bool, cases_eq, both_ways, lt-ltb, ltb-true, ltb-false, false_from_ne_true, eqb-true, eq-eqb}
use Rattle.std.proofs.Math.ListN.{replicate}
use Rattle.std.proofs.lemmas.List.{ext_get_or, get_or_past}
use Rattle.std.proofs.lemmas.List.Folds.{list_any-append}
use Rattle.std.proofs.lemmas.List.FromFn.{get_or-map-range_with_len, length-map-range_with_len}
use Rattle.std.specs.Prelude.{nat_eq, nat_lt, slice_get}
use Rattle.jsh_closure.specs.Closure.{is_among, places_at, has_edge, closure, marks, IsClosed, IsSmallest}
use Rattle.jsh_closure.specs.Searches.{Adds, IsSearch}
use Rattle.jsh_closure.proofs.Law.{smallest}

pub blank : (n i : ℕ) → get_or (replicate n false) i false ≡ false
blank zero i = refl
blank (suc n) zero = refl
blank (suc n) (suc i) = blank n i

-- two tests that pass together
pub same_bool : (a b : Bool) → (a ≡ true → b ≡ true) → (b ≡ true → a ≡ true) → a ≡ b
same_bool true true p q = refl
same_bool true false p q = absurd (cc (p refl))
same_bool false true p q = absurd (cc (q refl))
same_bool false false p q = refl

module _ (first : List ℕ) (edges : List (List ℕ)) where
  abbrev set_of : ℕ → Bool
  set_of = closure (length edges) (is_among first) (has_edge edges)

  law : IsSmallest (length edges) (is_among first) (has_edge edges) (closure (length edges) (is_among first) (has_edge edges))
  law = smallest (length edges) (is_among first) (has_edge edges)

  pub begin : (m0 m : List Bool) (w : List ℕ) → length m0 ≡ length edges → ((i : ℕ) → get_or m0 i false ≡ false) → Adds first m0 [] m w → IsSearch first edges m w
  begin m0 m w size blank adds = record {
    size = adds.size ∙ size;
    wait_marked = λ i held. waits i (adds.wait_marked i held);
    begun = λ i below held. adds.marked i ∙ or_right (get_or m0 i false) (nat_lt i (length m0) && is_among first i) (and_from (nat_lt i (length m0)) (is_among first i) (lt-ltb i (length m0) (omega arith)) held);
    sound = λ i below held. law.closed.holds_first i below (is_first i held);
    followed = λ from to below held apart next. absurd (both_ways _ apart (adds.added from held (blank from)));
  }
    where
      waits : (i : ℕ) → (is_among [] i ≡ true) ⊎ (get_or m i false ≡ true) → get_or m i false ≡ true
      waits i (inl never) = absurd (cc never)
      waits i (inr held) = held

      first_of : (i : ℕ) → (get_or m0 i false ≡ true) ⊎ ((nat_lt i (length m0) && is_among first i) ≡ true) → is_among first i ≡ true
      first_of i (inl never) = absurd (both_ways _ (blank i) never)
      first_of i (inr both) = (and_parts (nat_lt i (length m0)) (is_among first i) both).1

      is_first : (i : ℕ) → get_or m i false ≡ true → is_among first i ≡ true
      is_first i held = first_of i (or_cases (get_or m0 i false) (nat_lt i (length m0) && is_among first i) (sym (adds.marked i) ∙ held))

  pub marked_below : (m : List Bool) (i : ℕ) → get_or m i false ≡ true → i < length m
  marked_below m i held = at (cases_Bool (nat_lt i (length m)))
    where
      at : (nat_lt i (length m) ≡ true) ⊎ (nat_lt i (length m) ≡ false) → i < length m
      at (inl below) = ltb-true i (length m) below
      at (inr past) = absurd (both_ways _ (get_or_past m i false (omega (arith, ltb-false i (length m) past))) held)

  pub follow : (place : ℕ) (m : List Bool) (w : List ℕ) (m1 : List Bool) (w1 : List ℕ) → IsSearch first edges m (w ++ place ∷ []) → Adds (places_at (slice_get edges place)) m w m1 w1 → IsSearch first edges m1 w1
  follow place m w m1 w1 search adds = record {
    size = adds.size ∙ search.size;
    wait_marked = λ i held. waits i (adds.wait_marked i held);
    begun = λ i below held. still i (search.begun i below held);
    sound = λ i below held. sound i below (or_cases (get_or m i false) (nat_lt i (length m) && is_among (places_at (slice_get edges place)) i) (sym (adds.marked i) ∙ held));
    followed = λ from to below held apart next. follows from to below apart next (cases_Bool (get_or m from false)) held;
  }
    where
      still : (i : ℕ) → get_or m i false ≡ true → get_or m1 i false ≡ true
      still i held = adds.marked i ∙ or_left (get_or m i false) (nat_lt i (length m) && is_among (places_at (slice_get edges place)) i) held

      waited : (i : ℕ) → is_among w i ≡ true → is_among (w ++ place ∷ []) i ≡ true
      waited i held = list_any-append (nat_eq i) w (place ∷ []) ∙ or_left (is_among w i) (is_among (place ∷ []) i) held

      place_waited : is_among (w ++ place ∷ []) place ≡ true
      place_waited = list_any-append (nat_eq place) w (place ∷ []) ∙ or_right (is_among w place) (is_among (place ∷ []) place) (or_left (nat_eq place place) false (eq-eqb place place refl))

      place_marked : get_or m place false ≡ true
      place_marked = search.wait_marked place place_waited

      place_below : place < length edges
      place_below = omega (arith, search.size, marked_below m place place_marked)

      waits : (i : ℕ) → (is_among w i ≡ true) ⊎ (get_or m1 i false ≡ true) → get_or m1 i false ≡ true
      waits i (inl held) = still i (search.wait_marked i (waited i held))
      waits i (inr held) = held

      sound : (i : ℕ) → i < length edges → (get_or m i false ≡ true) ⊎ ((nat_lt i (length m) && is_among (places_at (slice_get edges place)) i) ≡ true) → closure (length edges) (is_among first) (has_edge edges) i ≡ true
      sound i below (inl old) = search.sound i below old
      sound i below (inr new) = law.closed.holds_next place i place_below below (search.sound place place_below place_marked) (and_parts (nat_lt i (length m)) (is_among (places_at (slice_get edges place)) i) new).1

      from_place : (to : ℕ) → to < length edges → has_edge edges place to ≡ true → get_or m1 to false ≡ true
      from_place to below next = adds.marked to ∙ or_right (get_or m to false) (nat_lt to (length m) && is_among (places_at (slice_get edges place)) to)
          (and_from (nat_lt to (length m)) (is_among (places_at (slice_get edges place)) to) (lt-ltb to (length m) (omega (arith, search.size))) next)

      not_waiting : (from : ℕ) → (from ≡ place → ⊥) → is_among w1 from ≡ false → is_among (w ++ place ∷ []) from ≡ false
      not_waiting from other apart = false_from_ne_true _ (λ held. at (or_cases (is_among w from) (is_among (place ∷ []) from) (sym (list_any-append (nat_eq from) w (place ∷ [])) ∙ held)))
        where
          here : (nat_eq from place ≡ true) ⊎ (false ≡ true) → ⊥
          here (inl same) = other (eqb-true from place same)
          here (inr never) = cc never

          at : (is_among w from ≡ true) ⊎ (is_among (place ∷ []) from ≡ true) → ⊥
          at (inl held) = both_ways _ apart (adds.kept from held)
          at (inr one) = here (or_cases (nat_eq from place) false one)

      old : (from to : ℕ) → to < length edges → is_among w1 from ≡ false → has_edge edges from to ≡ true → get_or m from false ≡ true → (from ≡ place) ⊎ (from ≡ place → ⊥) → get_or m1 to false ≡ true
      old from to below apart next held (inl same) = from_place to below (sym (ap (λ (k : ℕ). has_edge edges k to) same) ∙ next)
      old from to below apart next held (inr other) = still to (search.followed from to below held (not_waiting from other apart) next)

      follows : (from to : ℕ) → to < length edges → is_among w1 from ≡ false → has_edge edges from to ≡ true → (get_or m from false ≡ true) ⊎ (get_or m from false ≡ false) → get_or m1 from false ≡ true → get_or m1 to false ≡ true
      follows from to below apart next (inl held) _ = old from to below apart next held (cases_eq from place)
      follows from to below apart next (inr new) held = absurd (both_ways _ apart (adds.added from held new))

  pub end : (m : List Bool) → IsSearch first edges m [] → m ≡ marks first edges
  end m search = ext_get_or false m (marks first edges) (search.size ∙ sym (length-map-range_with_len set_of 0 (length edges)))
      (λ i below. at i (omega (arith, search.size)) ∙ sym (get_or-map-range_with_len set_of 0 (length edges) i i false (omega (arith, search.size)) (omega arith)))
    where
      closed : IsClosed (length edges) (is_among first) (has_edge edges) (λ i. get_or m i false)
      closed = record {
        holds_first = λ place below held. search.begun place below held;
        holds_next = λ from to from_below to_below held next. search.followed from to to_below held refl next;
      }

      at : (i : ℕ) → i < length edges → get_or m i false ≡ closure (length edges) (is_among first) (has_edge edges) i
      at i below = same_bool (get_or m i false) (closure (length edges) (is_among first) (has_edge edges) i) (search.sound i below) (law.contained (λ k. get_or m k false) closed i below)

  pub read : (place : ℕ) → place < length edges → get_or (marks first edges) place false ≡ closure (length edges) (is_among first) (has_edge edges) place
  read place below = get_or-map-range_with_len set_of 0 (length edges) place place false below (omega arith)

  pub is_smallest : IsSmallest (length edges) (is_among first) (has_edge edges) (λ place. get_or (marks first edges) place false)
  is_smallest = record {
    closed = record {
      holds_first = λ place below held. read place below ∙ law.closed.holds_first place below held;
      holds_next = λ from to from_below to_below held next. read to to_below ∙ law.closed.holds_next from to from_below to_below (sym (read from from_below) ∙ held) next;
    };
    contained = λ other closed place below held. law.contained other closed place below (sym (read place below) ∙ held);
  }
