-- Methods that are found in any order are those that are inherited.
use Rattle.std.proofs.Common.{◌≡◌, ℕ, zero, suc, ◌<◌, Bool, true, false, not, ◌||◌, ◌&&◌, ◌⊎◌, inl, inr, List, [], ◌∷◌, ◌++◌, length, map, flat_map, refl, sym, ◌∙◌, ap, subst}
use Rattle.std.proofs.lemmas.Bool.{or_cases, or_left, or_right, and_parts, cases_Bool, eq-eqb, eqb-true, ltb-true}
use Rattle.std.proofs.lemmas.List.{length-map}
use Rattle.std.proofs.lemmas.List.Folds.{list_any-append}
use Rattle.std.specs.Prelude.{nat_eq, nat_lt, slice_get}
use Rattle.std.specs.List.{list_any, filter, range_with_len}
use Rattle.jsh_tree.specs.declared.key.Signature.{Signature}
use Rattle.jsh_closure.specs.Closure.{closure, is_among, places_at, has_edge}
use Rattle.jsh_closure.specs.Finding.{IsFound}
use Rattle.jsh_closure.proofs.Ranges.{among_filter, among_filtered}
use Rattle.jsh_closure.proofs.Reversing.{closure_same}
use Rattle.jsh_closure.proofs.Searching.{same_bool}
use Rattle.jsh_scope.specs.Scope.{Scope}
use Rattle.jsh_header.specs.declared.outlines.Outline.{Outline}
use Rattle.jsh_header.specs.declared.rules.Breach.{Breach}
use Rattle.jsh_header.specs.Outlines.{outlines}
use Rattle.jsh_header.specs.SuperRules.{direct_at, methods_at, leads_up, above, methods_of, inherited, class_methods, contradicts, contradicts_any, has_contradiction, has_abstract, lacks_body_of, is_library_name, at_name, at_its_name}
use Rattle.jsh_header.specs.Tables.{AreAlike, direct_of}

any_same : {A : Type 0} (p q : A → Bool) → ((x : A) → p x ≡ q x) → (xs : List A) → list_any p xs ≡ list_any q xs
any_same p q same [] = refl
any_same p q same (x ∷ xs) = ap (λ (b : Bool). b || list_any p xs) (same x) ∙ ap (λ (b : Bool). q x || b) (any_same p q same xs)

-- a test of what some places give
any_flat : {A : Type 0} (p : A → Bool) (f : ℕ → List A) (places : List ℕ) → list_any p (flat_map f places) ≡ list_any (λ (place : ℕ). list_any p (f place)) places
any_flat p f [] = refl
any_flat p f (x ∷ xs) = list_any-append p (f x) (flat_map f xs) ∙ ap (λ (b : Bool). list_any p (f x) || b) (any_flat p f xs)

-- one that stands there and passes
any_one : (p : ℕ → Bool) (places : List ℕ) (x : ℕ) → is_among places x ≡ true → p x ≡ true → list_any p places ≡ true
any_one p [] x held passes = absurd (cc held)
any_one p (y ∷ ys) x held passes = at (or_cases (nat_eq x y) (is_among ys x) held) (λ later. any_one p ys x later passes)
  where
    at : (nat_eq x y ≡ true) ⊎ (is_among ys x ≡ true) → (is_among ys x ≡ true → list_any p ys ≡ true) → (p y || list_any p ys) ≡ true
    at (inl same) rest = or_left (p y) (list_any p ys) (sym (ap p (eqb-true x y same)) ∙ passes)
    at (inr later) rest = or_right (p y) (list_any p ys) (rest later)

-- a part of some places passes no test that these fail
any_part : (p : ℕ → Bool) (some others : List ℕ) → ((x : ℕ) → is_among some x ≡ true → is_among others x ≡ true) → list_any p some ≡ true → list_any p others ≡ true
any_part p [] others part found = absurd (cc found)
any_part p (y ∷ ys) others part found =
    at (or_cases (p y) (list_any p ys) found) (λ later. any_part p ys others (λ x held. part x (or_right (nat_eq x y) (is_among ys x) held)) later)
  where
    at : (p y ≡ true) ⊎ (list_any p ys ≡ true) → (list_any p ys ≡ true → list_any p others ≡ true) → list_any p others ≡ true
    at (inl here) rest = any_one p others y (part y (or_left (nat_eq y y) (is_among ys y) (eq-eqb y y refl))) here
    at (inr later) rest = rest later

any_places : (p : ℕ → Bool) (some others : List ℕ) → ((x : ℕ) → is_among some x ≡ is_among others x) → list_any p some ≡ list_any p others
any_places p some others same = same_bool (list_any p some) (list_any p others)
    (any_part p some others (λ x held. sym (same x) ∙ held))
    (any_part p others some (λ x held. same x ∙ held))

at_direct : (types : List Outline) (i : ℕ) → places_at (slice_get (map direct_of types) i) ≡ direct_at (slice_get types i)
at_direct [] i = refl
at_direct (x ∷ xs) zero = refl
at_direct (x ∷ xs) (suc i) = at_direct xs i

module _ (types : List Outline) (first found : List ℕ) where
  pub same_above : IsFound first (map direct_of types) found → (i : ℕ) → is_among found i ≡ is_among (above types first) i
  same_above search i = same_bool (is_among found i) (is_among (above types first) i) to from
    where
      count : length (map direct_of types) ≡ length types
      count = length-map types direct_of

      same_closure : i < length types → closure (length (map direct_of types)) (is_among first) (has_edge (map direct_of types)) i ≡ closure (length types) (is_among first) (leads_up types) i
      same_closure below =
          ap (λ (n : ℕ). closure n (is_among first) (has_edge (map direct_of types)) i) count
          ∙ closure_same (length types) (is_among first) (is_among first) (has_edge (map direct_of types)) (leads_up types) (λ k k_below. refl) (λ k l k_below l_below. ap (λ (places : List ℕ). is_among places l) (at_direct types k)) i below

      same_below : i < length types → is_among found i ≡ is_among (above types first) i
      same_below below =
          search.reached i (subst (λ (n : ℕ). i < n) (sym count) below)
          ∙ same_closure below
          ∙ sym (among_filtered (closure (length types) (is_among first) (leads_up types)) (length types) i below)

      to : is_among found i ≡ true → is_among (above types first) i ≡ true
      to held = sym (same_below (subst (λ (n : ℕ). i < n) count (search.within i held))) ∙ held

      from : is_among (above types first) i ≡ true → is_among found i ≡ true
      from held =
          let both = and_parts (nat_lt i (length types)) (closure (length types) (is_among first) (leads_up types) i) (sym (among_filter (closure (length types) (is_among first) (leads_up types)) (length types) i) ∙ held) in
          same_below (ltb-true i (length types) both.0) ∙ held

pub alike_found : (types : List Outline) (place : ℕ) (found : List ℕ) → IsFound (direct_at (slice_get types place)) (map direct_of types) found → AreAlike (methods_of types found) (inherited types place)
unfolding inherited
alike_found types place found search = record {
  passes = λ test.
      any_flat test (λ (other : ℕ). methods_at (slice_get types other)) found
      ∙ any_places (λ (other : ℕ). list_any test (methods_at (slice_get types other))) found (above types (direct_at (slice_get types place))) (same_above types (direct_at (slice_get types place)) found search)
      ∙ sym (any_flat test (λ (other : ℕ). methods_at (slice_get types other)) (above types (direct_at (slice_get types place))));
}

-- rules that ask for some method don't depend on the order
pub contradiction_alike : (own some others : List Signature) → AreAlike some others → has_contradiction own some ≡ has_contradiction own others
contradiction_alike own some others alike =
    any_same (λ (method : Signature). contradicts_any own method || contradicts_any some method) (λ (method : Signature). contradicts_any own method || contradicts_any others method)
    (λ method. ap (λ (b : Bool). contradicts_any own method || b) (alike.passes (contradicts method))) some
    ∙ alike.passes (λ (method : Signature). contradicts_any own method || contradicts_any others method)

pub lacks_alike : (of_classes own some others : List Signature) → AreAlike some others → lacks_body_of of_classes own some ≡ lacks_body_of of_classes own others
lacks_alike of_classes own some others alike = ap (λ (b : Bool). has_abstract own || b) (alike.passes _)

-- what is said at a type's name, one rule after another
pub said_at_name : (scope : Scope) (place : ℕ) (interface is_abstract : Bool) (name : List ℕ) (own some : List Signature) (contradicting may opened hides : Bool) (none fourth fifth sixth : List Breach)
    → AreAlike some (inherited (outlines scope) place)
    → contradicting ≡ has_contradiction own some
    → may ≡ (interface || is_abstract)
    → opened ≡ (not may && lacks_body_of (class_methods (outlines scope) place) own some)
    → hides ≡ is_library_name scope.library.types name
    → none ≡ []
    → fourth ≡ none ++ at_name 4 contradicting
    → fifth ≡ fourth ++ at_name 5 opened
    → sixth ≡ fifth ++ at_name 6 hides
    → sixth ≡ at_its_name scope place interface is_abstract name own
unfolding at_its_name
said_at_name scope place interface is_abstract name own some contradicting may opened hides none fourth fifth sixth alike contradicting_is may_is opened_is hides_is none_is fourth_is fifth_is sixth_is =
    let others = inherited (outlines scope) place in
    let classes = class_methods (outlines scope) place in
    sixth_is
    ∙ ap (λ (xs : List Breach). xs ++ at_name 6 hides) (fifth_is ∙ ap (λ (xs : List Breach). xs ++ at_name 5 opened) (fourth_is ∙ ap (λ (xs : List Breach). xs ++ at_name 4 contradicting) none_is))
    ∙ ap (λ (b : Bool). (at_name 4 b ++ at_name 5 opened) ++ at_name 6 hides) (contradicting_is ∙ contradiction_alike own some others alike)
    ∙ ap (λ (b : Bool). (at_name 4 (has_contradiction own others) ++ at_name 5 b) ++ at_name 6 hides)
    (opened_is ∙ ap (λ (b : Bool). not b && lacks_body_of classes own some) may_is ∙ ap (λ (b : Bool). not (interface || is_abstract) && b) (lacks_alike classes own some others alike))
    ∙ ap (λ (b : Bool). (at_name 4 (has_contradiction own others) ++ at_name 5 (not (interface || is_abstract) && lacks_body_of classes own others)) ++ at_name 6 b) hides_is
