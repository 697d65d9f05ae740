-- A search against mentions gives the smallest set of members that holds the first ones and each one whose header mentions a type of it.
use Rattle.std.proofs.Common.{◌≡◌, ℕ, ◌+◌, ◌<◌, Bool, cond, not, List, [], ◌∷◌, ◌++◌, length, map, refl, sym, subst, ◌∙◌, ap}
use Rattle.std.specs.Prelude.{slice_get}
use Rattle.std.specs.List.{range_with_len, filter}
use Rattle.std.proofs.lemmas.List.{length-map}
use Rattle.jsh_tree.specs.declared.library.Member.{Member}
use Rattle.jsh_closure.specs.Closure.{closure, is_among, has_edge, has_edge_back, marks_back, IsSmallest}
use Rattle.jsh_closure.proofs.Ranges.{among_filtered, filter_range_more}
use Rattle.jsh_closure.proofs.Reversing.{marks_same, smallest_same}
use Rattle.jsh_scope.specs.Reached.{places_in, leads}
use Rattle.jsh_scope.proofs.Reaching.{at_map}

module _ (members : List Member) (p : ℕ → Bool) where
  abbrev edges : List (List ℕ)
  edges = map (λ (member : Member). places_in members member.header) members

  abbrev mentioned : ℕ → ℕ → Bool
  mentioned from to = leads members to from

  count : length edges ≡ length members
  count = length-map members (λ (member : Member). places_in members member.header)

  edge_same : (i j : ℕ) → has_edge_back edges i j ≡ mentioned i j
  edge_same i j = ap (λ (places : List ℕ). is_among places i) (at_map members members j)

  pub closing : marks_back (filter p (range_with_len 0 (length members))) edges ≡ map (closure (length members) p (λ from to. leads members to from)) (range_with_len 0 (length members))
  closing =
      ap (λ (n : ℕ). map (closure n (is_among (filter p (range_with_len 0 (length members)))) (has_edge_back edges)) (range_with_len 0 n)) count
      ∙ marks_same (length members) (is_among (filter p (range_with_len 0 (length members)))) p (has_edge_back edges) mentioned (λ i below. among_filtered p (length members) i below) (λ i j i_below j_below. edge_same i j)

  pub closing_smallest : (set : ℕ → Bool) → IsSmallest (length edges) (is_among (filter p (range_with_len 0 (length members)))) (has_edge_back edges) set
      → IsSmallest (length members) p (λ from to. leads members to from) set
  closing_smallest set smallest =
      smallest_same (length members) (is_among (filter p (range_with_len 0 (length members)))) p (has_edge_back edges) mentioned (λ i below. among_filtered p (length members) i below) (λ i j i_below j_below. edge_same i j) set
      (subst (λ (n : ℕ). IsSmallest n (is_among (filter p (range_with_len 0 (length members)))) (has_edge_back edges) set) count smallest)

  -- what a search along these edges marks
  pub closing_marks : (first : List ℕ) (some : List (List ℕ)) (m : List Bool) → first ≡ filter p (range_with_len 0 (length members)) → some ≡ edges → m ≡ marks_back first some
      → m ≡ map (closure (length members) p (λ from to. leads members to from)) (range_with_len 0 (length members))
  closing_marks first some m first_is some_is m_is =
      m_is ∙ ap (λ (places : List ℕ). marks_back places some) first_is ∙ ap (λ (lists : List (List ℕ)). marks_back (filter p (range_with_len 0 (length members))) lists) some_is ∙ closing

  pub closing_least : (first : List ℕ) (some : List (List ℕ)) (set : ℕ → Bool) → first ≡ filter p (range_with_len 0 (length members)) → some ≡ edges
      → IsSmallest (length some) (is_among first) (has_edge_back some) set → IsSmallest (length members) p (λ from to. leads members to from) set
  closing_least first some set first_is some_is smallest =
      closing_smallest set
      (subst (λ (lists : List (List ℕ)). IsSmallest (length lists) (is_among (filter p (range_with_len 0 (length members)))) (has_edge_back lists) set) some_is
      (subst (λ (places : List ℕ). IsSmallest (length some) (is_among places) (has_edge_back some) set) first_is smallest))

pub map_turned : {A : Type 0} (f : A → Bool) (xs : List A) → map not (map f xs) ≡ map (λ (x : A). not (f x)) xs
map_turned f [] = refl
map_turned f (x ∷ xs) = ap (λ (rest : List Bool). not (f x) ∷ rest) (map_turned f xs)

-- one place more
pub filter_step : (p : ℕ → Bool) (k : ℕ) (passes : Bool) (places new : List ℕ) → places ≡ filter p (range_with_len 0 k) → passes ≡ p k → new ≡ places ++ cond passes (k ∷ []) []
    → new ≡ filter p (range_with_len 0 (k + 1))
filter_step p k passes places new places_are passes_is new_is =
    new_is
    ∙ ap (λ (some : List ℕ). some ++ cond passes (k ∷ []) []) places_are
    ∙ ap (λ (b : Bool). filter p (range_with_len 0 k) ++ cond b (k ∷ []) []) passes_is
    ∙ sym (filter_range_more p k)
