-- Edges from their other end, and closures along edges that are the same.
use Rattle.std.proofs.Common.{◌≡◌, ℕ, zero, suc, ◌+◌, ◌<◌, ◌≤◌, Bool, true, false, ◌||◌, ◌&&◌, ◌⊎◌, inl, inr, List, [], ◌∷◌, ◌++◌, length, get_or, map, refl, sym, ◌∙◌, ap, subst, arith}
use Rattle.std.proofs.Math.ListN.{set, length-set, replicate, length-replicate}
use Rattle.std.specs.Prelude.{nat_eq, nat_lt, slice_get}
use Rattle.std.specs.List.{range_with_len}
use Rattle.std.proofs.lemmas.Bool.{cases_eq, cases_Bool, eq-eqb, ne_eqb, lt-ltb, le-ltb, ltb-true, ltb-false}
use Rattle.std.proofs.lemmas.List.{get_or-set_same, get_or-set_other, ext_get_or}
use Rattle.std.proofs.lemmas.List.Folds.{list_any-append}
use Rattle.std.proofs.lemmas.List.FromFn.{get_or-map-range_with_len, length-map-range_with_len}
use Rattle.jsh_closure.specs.Closure.{any_below, within, closure, IsSmallest, is_among, places_at, has_edge, has_edge_back, marks, marks_back}
use Rattle.jsh_closure.specs.Reversals.{Appends, IsReversed}

at_or : (edges : List (List ℕ)) (i : ℕ) → places_at (slice_get edges i) ≡ get_or edges i []
at_or [] i = refl
at_or (x ∷ xs) zero = refl
at_or (x ∷ xs) (suc i) = at_or xs i

or_nothing : (a b : Bool) → a ≡ (a || (false && b))
or_nothing true b = refl
or_nothing false b = refl

or_neither : (a b : Bool) → a ≡ (a || (b && false))
or_neither true true = refl
or_neither true false = refl
or_neither false true = refl
or_neither false false = refl

pub appends_none : (place : ℕ) (edges : List (List ℕ)) → Appends [] place edges edges
appends_none place edges = record { size = refl; edges = λ i j below. or_nothing (has_edge edges i j) (nat_eq j place) }

one_of : (target i : ℕ) → is_among (target ∷ []) i ≡ nat_eq i target
one_of target i = here (nat_eq i target)
  where
    here : (b : Bool) → (b || false) ≡ b
    here true = refl
    here false = refl

or_twice : (a x y c : Bool) → ((a || (x && c)) || (y && c)) ≡ (a || ((x || y) && c))
or_twice true x y c = refl
or_twice false true true true = refl
or_twice false true true false = refl
or_twice false true false true = refl
or_twice false true false false = refl
or_twice false false y c = refl

pub appends_more : (targets : List ℕ) (target place : ℕ) (a b c : List (List ℕ)) → Appends targets place a b → Appends (target ∷ []) place b c → Appends (targets ++ target ∷ []) place a c
appends_more targets target place a b c first last = record {
  size = last.size ∙ first.size;
  edges = λ i j below.
      last.edges i j (omega (arith, first.size))
      ∙ ap (λ (x : Bool). x || (is_among (target ∷ []) i && nat_eq j place)) (first.edges i j below)
      ∙ or_twice (has_edge a i j) (is_among targets i) (is_among (target ∷ []) i) (nat_eq j place)
      ∙ ap (λ (x : Bool). has_edge a i j || (x && nat_eq j place)) (sym (list_any-append (nat_eq i) targets (target ∷ [])));
}

pub appends_past : (target place : ℕ) (edges : List (List ℕ)) → length edges ≤ target → Appends (target ∷ []) place edges edges
appends_past target place edges past = record {
  size = refl;
  edges = λ i j below.
      or_nothing (has_edge edges i j) (nat_eq j place) ∙ ap (λ (x : Bool). has_edge edges i j || (x && nat_eq j place)) (sym (one_of target i ∙ ne_eqb i target (λ same. omega arith)));
}

pub appends_at : (target place : ℕ) (edges : List (List ℕ)) → target < length edges → Appends (target ∷ []) place edges (set edges target (get_or edges target [] ++ place ∷ []))
appends_at target place edges below = record { size = length-set edges target (get_or edges target [] ++ place ∷ []); edges = λ i j inside. here i j (cases_eq i target) }
  where
    and_true : (a b c : Bool) → b ≡ true → (a || c) ≡ (a || (b && c))
    and_true a true c is = refl
    and_true a false c is = absurd (cc)

    here : (i j : ℕ) → (i ≡ target) ⊎ (i ≡ target → ⊥) → has_edge (set edges target (get_or edges target [] ++ place ∷ [])) i j ≡ (has_edge edges i j || (is_among (target ∷ []) i && nat_eq j place))
    here i j (inl same) =
        ap (λ (places : List ℕ). is_among places j) (at_or (set edges target (get_or edges target [] ++ place ∷ [])) i ∙ ap (λ (k : ℕ). get_or (set edges target (get_or edges target [] ++ place ∷ [])) k []) same ∙ get_or-set_same edges target (get_or edges target [] ++ place ∷ []) [] below)
        ∙ list_any-append (nat_eq j) (get_or edges target []) (place ∷ [])
        ∙ ap (λ (x : Bool). is_among (get_or edges target []) j || x) (one_of place j)
        ∙ ap (λ (places : List ℕ). is_among places j || nat_eq j place) (ap (λ (k : ℕ). get_or edges k []) (sym same) ∙ sym (at_or edges i))
        ∙ and_true (has_edge edges i j) (is_among (target ∷ []) i) (nat_eq j place) (one_of target i ∙ eq-eqb i target same)
    here i j (inr apart) =
        ap (λ (places : List ℕ). is_among places j) (at_or (set edges target (get_or edges target [] ++ place ∷ [])) i ∙ get_or-set_other edges target i (get_or edges target [] ++ place ∷ []) [] apart ∙ sym (at_or edges i))
        ∙ or_nothing (has_edge edges i j) (nat_eq j place)
        ∙ ap (λ (x : Bool). has_edge edges i j || (x && nat_eq j place)) (sym (one_of target i ∙ ne_eqb i target apart))

none_at : (n i : ℕ) → places_at (slice_get (replicate n []) i) ≡ []
none_at zero i = refl
none_at (suc n) zero = refl
none_at (suc n) (suc i) = none_at n i

pub reversed_none : (edges : List (List ℕ)) → IsReversed 0 edges (replicate (length edges) [])
reversed_none edges = record {
  size = length-replicate (length edges) [];
  edges_back = λ i j below. ap (λ (places : List ℕ). is_among places j) (none_at (length edges) i) ∙ ap (λ (x : Bool). x && has_edge edges j i) (sym (le-ltb j 0 (omega arith)));
}

pub reversed_more : (k : ℕ) (edges back new : List (List ℕ)) → IsReversed k edges back → Appends (places_at (slice_get edges k)) k back new → IsReversed (k + 1) edges new
reversed_more k edges back new reversed appends = record {
  size = appends.size ∙ reversed.size;
  edges_back = λ i j below.
      appends.edges i j (omega (arith, reversed.size))
      ∙ ap (λ (x : Bool). x || (is_among (places_at (slice_get edges k)) i && nat_eq j k)) (reversed.edges_back i j below)
      ∙ here i j (cases_eq j k) (cases_Bool (nat_lt j k));
}
  where
    first_only : (a b : Bool) → ((true && a) || (b && false)) ≡ (true && a)
    first_only true true = refl
    first_only true false = refl
    first_only false true = refl
    first_only false false = refl

    last_only : (a b : Bool) → ((false && a) || (b && true)) ≡ (true && b)
    last_only a true = refl
    last_only a false = refl

    neither : (a b : Bool) → ((false && a) || (b && false)) ≡ (false && a)
    neither a true = refl
    neither a false = refl

    here : (i j : ℕ) → (j ≡ k) ⊎ (j ≡ k → ⊥) → (nat_lt j k ≡ true) ⊎ (nat_lt j k ≡ false)
        → ((nat_lt j k && has_edge edges j i) || (has_edge edges k i && nat_eq j k)) ≡ (nat_lt j (k + 1) && has_edge edges j i)
    here i j (inl same) _ =
        rw (le-ltb j k (omega arith), eq-eqb j k same, lt-ltb j (k + 1) (omega arith))
        (last_only (has_edge edges j i) (has_edge edges k i) ∙ ap (λ (m : ℕ). true && has_edge edges m i) (sym same))
    here i j (inr apart) (inl before) =
        rw (before, ne_eqb j k apart, lt-ltb j (k + 1) (omega (arith, ltb-true j k before))) (first_only (has_edge edges j i) (has_edge edges k i))
    here i j (inr apart) (inr not_before) =
        rw (not_before, ne_eqb j k apart, le-ltb j (k + 1) (omega (arith, ltb-false j k not_before))) (neither (has_edge edges j i) (has_edge edges k i))

pub reversed_all : (edges back : List (List ℕ)) → IsReversed (length edges) edges back → (from to : ℕ) → from < length edges → to < length edges → has_edge back from to ≡ has_edge_back edges from to
reversed_all edges back reversed from to from_below to_below = reversed.edges_back from to from_below ∙ ap (λ (x : Bool). x && has_edge edges to from) (lt-ltb to (length edges) to_below)

any_same : (n : ℕ) (f g : ℕ → Bool) → ((i : ℕ) → i < n → f i ≡ g i) → any_below n f ≡ any_below n g
any_same zero f g same = refl
any_same (suc n) f g same = ap (λ (x : Bool). x || f n) (any_same n f g (λ i below. same i (omega arith))) ∙ ap (λ (x : Bool). any_below n g || x) (same n (omega arith))

module _ (n : ℕ) (f g : ℕ → Bool) (l m : ℕ → ℕ → Bool) (first_same : (i : ℕ) → i < n → f i ≡ g i) (leads_same : (i j : ℕ) → i < n → j < n → l i j ≡ m i j) where
  within_same : (k i : ℕ) → i < n → within n f l k i ≡ within n g m k i
  unfolding within
  within_same zero i below = first_same i below
  within_same (suc k) i below =
      ap (λ (x : Bool). x || any_below n (λ from. within n f l k from && l from i)) (within_same k i below)
      ∙ ap (λ (x : Bool). within n g m k i || x) (any_same n (λ from. within n f l k from && l from i) (λ from. within n g m k from && m from i)
      (λ from from_below. ap (λ (x : Bool). x && l from i) (within_same k from from_below) ∙ ap (λ (x : Bool). within n g m k from && x) (leads_same from i from_below below)))

  pub closure_same : (i : ℕ) → i < n → closure n f l i ≡ closure n g m i
  unfolding closure
  closure_same i below = within_same n i below

  pub marks_same : map (closure n f l) (range_with_len 0 n) ≡ map (closure n g m) (range_with_len 0 n)
  marks_same = ext_get_or false (map (closure n f l) (range_with_len 0 n)) (map (closure n g m) (range_with_len 0 n))
      (length-map-range_with_len (closure n f l) 0 n ∙ sym (length-map-range_with_len (closure n g m) 0 n))
      (λ i below. let inside : i < n = omega (arith, length-map-range_with_len (closure n f l) 0 n) in
      get_or-map-range_with_len (closure n f l) 0 n i i false inside (omega arith) ∙ closure_same i inside ∙ sym (get_or-map-range_with_len (closure n g m) 0 n i i false inside (omega arith)))

  pub smallest_same : (set : ℕ → Bool) → IsSmallest n f l set → IsSmallest n g m set
  smallest_same set smallest = record {
    closed = record {
      holds_first = λ i below held. smallest.closed.holds_first i below (first_same i below ∙ held);
      holds_next = λ from to from_below to_below held next. smallest.closed.holds_next from to from_below to_below held (leads_same from to from_below to_below ∙ next);
    };
    contained = λ other closed i below held. smallest.contained other (record {
      holds_first = λ k inside first. closed.holds_first k inside (sym (first_same k inside) ∙ first);
      holds_next = λ from to from_below to_below is next. closed.holds_next from to from_below to_below is (sym (leads_same from to from_below to_below) ∙ next);
    }) i below held;
  }

pub marks_reversed : (first : List ℕ) (edges back : List (List ℕ)) → IsReversed (length edges) edges back → marks first back ≡ marks_back first edges
marks_reversed first edges back reversed =
    ap (λ (n : ℕ). map (closure n (is_among first) (has_edge back)) (range_with_len 0 n)) reversed.size
    ∙ marks_same (length edges) (is_among first) (is_among first) (has_edge back) (has_edge_back edges) (λ i below. refl) (λ i j i_below j_below. reversed_all edges back reversed i j i_below j_below)

pub smallest_reversed : (first : List ℕ) (edges back : List (List ℕ)) → IsReversed (length edges) edges back → (set : ℕ → Bool)
    → IsSmallest (length back) (is_among first) (has_edge back) set → IsSmallest (length edges) (is_among first) (has_edge_back edges) set
smallest_reversed first edges back reversed set smallest =
    smallest_same (length edges) (is_among first) (is_among first) (has_edge back) (has_edge_back edges) (λ i below. refl) (λ i j i_below j_below. reversed_all edges back reversed i j i_below j_below) set
    (subst (λ (n : ℕ). IsSmallest n (is_among first) (has_edge back) set) reversed.size smallest)
