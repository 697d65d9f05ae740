-- The types whose places a search has marked are those that a header reaches.
use Rattle.std.proofs.Common.{◌≡◌, ℕ, zero, suc, ◌+◌, ◌<◌, Bool, true, false, cond, List, [], ◌∷◌, ◌++◌, length, get_or, map, Option, Some, None, refl, sym, ◌∙◌, ap, arith, append-nil, flat_map}
use Rattle.std.specs.Prelude.{slice_get}
use Rattle.std.specs.List.{range_with_len}
use Rattle.std.proofs.lemmas.Grind.{flat_map-append}
use Rattle.std.proofs.lemmas.List.{length-map}
use Rattle.std.proofs.lemmas.List.FromFn.{get_or-map-range_with_len, length-map-range_with_len}
use Rattle.jsh_tree.specs.declared.key.Header.{Header}
use Rattle.jsh_tree.specs.declared.library.Member.{Member}
use Rattle.jsh_closure.specs.Closure.{closure, is_among, places_at, has_edge, marks}
use Rattle.jsh_closure.proofs.Ranges.{range_more, flat_map_range}
use Rattle.jsh_closure.proofs.Reversing.{closure_same}
use Rattle.jsh_scope.specs.Reached.{Linked, linked_at, linked_where, marked_types, reached_types, places_in, places_from, leads, is_reached}

pub marked_more : (types : List Member) (passes : ℕ → Bool) (k : ℕ) → flat_map (linked_where types passes) (range_with_len 0 (k + 1)) ≡ flat_map (linked_where types passes) (range_with_len 0 k) ++ linked_where types passes k
marked_more types passes k =
    ap (flat_map (linked_where types passes)) (range_more k)
    ∙ flat_map-append (linked_where types passes) (range_with_len 0 k) (k ∷ [])
    ∙ ap (λ (last : List Linked). flat_map (linked_where types passes) (range_with_len 0 k) ++ last) (append-nil (linked_where types passes k))

pub at_map : (types some : List Member) (i : ℕ) → places_at (slice_get (map (λ (type : Member). places_in types type.header) some) i) ≡ places_from types (slice_get some i)
at_map types [] i = refl
at_map types (x ∷ xs) zero = refl
at_map types (x ∷ xs) (suc i) = at_map types xs i

pub reached_marked : (types : List Member) (header : Header) (edges : List (List ℕ)) (m : List Bool) → edges ≡ map (λ (type : Member). places_in types type.header) types → m ≡ marks (places_in types header) edges → marked_types types m ≡ reached_types types header
unfolding marked_types reached_types
reached_marked types header edges m edges_are m_is =
    ap (λ (n : ℕ). flat_map (linked_where types (λ (place : ℕ). get_or m place false)) (range_with_len 0 n)) size
    ∙ flat_map_range (linked_where types (λ (place : ℕ). get_or m place false)) (linked_where types (is_reached types header)) 0 (length types)
    (λ i from below. ap (λ (b : Bool). cond b (linked_at (slice_get types i)) []) (same i (omega arith)))
  where
    count : length edges ≡ length types
    count = ap (λ (some : List (List ℕ)). length some) edges_are ∙ length-map types (λ (type : Member). places_in types type.header)

    size : length m ≡ length types
    size = ap (λ (some : List Bool). length some) m_is ∙ length-map-range_with_len (closure (length edges) (is_among (places_in types header)) (has_edge edges)) 0 (length edges) ∙ ap (λ (some : List (List ℕ)). length some) edges_are ∙ length-map types (λ (type : Member). places_in types type.header)

    same : (i : ℕ) → i < length types → get_or m i false ≡ is_reached types header i
    same i below =
        ap (λ (some : List Bool). get_or some i false) m_is
        ∙ get_or-map-range_with_len (closure (length edges) (is_among (places_in types header)) (has_edge edges)) 0 (length edges) i i false (omega (arith, ap (λ (some : List (List ℕ)). length some) edges_are ∙ length-map types (λ (type : Member). places_in types type.header))) (omega arith)
        ∙ ap (λ (n : ℕ). closure n (is_among (places_in types header)) (has_edge edges) i) (ap (λ (some : List (List ℕ)). length some) edges_are ∙ length-map types (λ (type : Member). places_in types type.header))
        ∙ closure_same (length types) (is_among (places_in types header)) (is_among (places_in types header)) (has_edge edges) (leads types) (λ k k_below. refl) (λ k l k_below l_below. ap (λ (some : List (List ℕ)). has_edge some k l) edges_are ∙ ap (λ (places : List ℕ). is_among places l) (at_map types types k)) i below
