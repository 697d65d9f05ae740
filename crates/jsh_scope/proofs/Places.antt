-- One member more in the maps.
use Rattle.std.proofs.Common.{◌≡◌, ℕ, zero, suc, ◌+◌, ◌<◌, ◌≤◌, Bool, true, false, cond, List, [], ◌∷◌, ◌++◌, length, get_or, take, Option, Some, None, BTreeMap, refl, sym, ◌∙◌, ap, arith, add-zero}
use Rattle.std.specs.Prelude.{slice_get, nat_lt}
use Rattle.std.specs.Option.{option_or, option_to_list}
use Rattle.std.specs.List.{position_from, position_or_len, find, filter, flat_map}
use Rattle.std.specs.BTreeMap.{IsEmpty}
use Rattle.std.proofs.lemmas.List.{take_more, length-take}
use Rattle.std.proofs.lemmas.Bool.{ltb-false}
use Rattle.std.proofs.lemmas.List.Folds.{find_at}
use Rattle.std.proofs.lemmas.Iterator.Adapters.{position_from-zero}
use Rattle.std.proofs.lemmas.List.Elements.{filter-append}
use Rattle.std.proofs.lemmas.Grind.{flat_map-append}
use Rattle.std.proofs.lemmas.Option.{slice_get-get_or, slice_get_past}
use Rattle.jsh_tree.specs.declared.library.Member.{Member}
use Rattle.jsh_closure.specs.Closure.{places_at}
use Rattle.jsh_scope.specs.Reached.{first_place}
use Rattle.jsh_scope.specs.Answers.{member_at}
use Rattle.jsh_scope.specs.Indexes.{found, IsIndex, IsIndexOfAll, AddsPlace, AppendsPlace}

position_push : (p : Member → Bool) (i : ℕ) (xs : List Member) (x : Member) → position_from p i (xs ++ x ∷ []) ≡ option_or (position_from p i xs) (cond (p x) (Some (i + length xs)) None)
position_push p i [] x = rw add-zero refl
position_push p i (y ∷ ys) x = here (p y) (position_push p (i + 1) ys x)
  where
    later : (i + 1) + length ys ≡ i + suc (length ys)
    later = omega arith

    here : (b : Bool) → position_from p (i + 1) (ys ++ x ∷ []) ≡ option_or (position_from p (i + 1) ys) (cond (p x) (Some ((i + 1) + length ys)) None)
        → cond b (Some i) (position_from p (i + 1) (ys ++ x ∷ [])) ≡ option_or (cond b (Some i) (position_from p (i + 1) ys)) (cond (p x) (Some (i + suc (length ys))) None)
    here true rest = refl
    here false rest = rest ∙ ap (λ (n : ℕ). option_or (position_from p (i + 1) ys) (cond (p x) (Some n) None)) later

place_more : (p : Member → Bool) (xs : List Member) (k : ℕ) (d : Member) → k < length xs → first_place p (take (k + 1) xs) ≡ option_or (first_place p (take k xs)) (cond (p (get_or xs k d)) (Some k) None)
unfolding first_place
place_more p xs k d below =
    ap (λ (some : List Member). position_from p 0 some) (take_more xs k d below)
    ∙ position_push p 0 (take k xs) (get_or xs k d)
    ∙ ap (λ (n : ℕ). option_or (position_from p 0 (take k xs)) (cond (p (get_or xs k d)) (Some n) None)) (omega (arith, length-take k xs))

pub index_none : (passes : List ℕ → Member → Bool) (index : BTreeMap (List ℕ) ℕ) → IsEmpty index → IsIndex passes [] index
unfolding first_place
index_none passes index empty = record { places = λ name. rw empty refl }

pub index_more : (passes : List ℕ → Member → Bool) (members : List Member) (k : ℕ) (d : Member) (old new : BTreeMap (List ℕ) ℕ) → k < length members
    → IsIndex passes (take k members) old → AddsPlace (λ name. passes name (get_or members k d)) k old new → IsIndex passes (take (k + 1) members) new
index_more passes members k d old new below index adds = record {
  places = λ name.
      adds.places name
      ∙ ap (λ (place : Option ℕ). option_or place (cond (passes name (get_or members k d)) (Some k) None)) (index.places name)
      ∙ sym (place_more (passes name) members k d below);
}

pub all_none : (passes : List ℕ → Member → Bool) (members : List Member) (index : BTreeMap (List ℕ) (List ℕ)) → IsEmpty index → IsIndexOfAll passes members [] index
all_none passes members index empty = record { places = λ name. rw empty refl }

pub all_more : (passes : List ℕ → Member → Bool) (members : List Member) (k : ℕ) (d : Member) (old new : BTreeMap (List ℕ) (List ℕ)) → k < length members
    → IsIndexOfAll passes members (take k members) old → AppendsPlace (λ name. passes name (get_or members k d)) k old new → IsIndexOfAll passes members (take (k + 1) members) new
all_more passes members k d old new below index appends = record {
  places = λ name.
      ap (flat_map at) (appends.places name)
      ∙ flat_map-append at (places_at (found old name)) (cond (passes name x) (k ∷ []) [])
      ∙ ap (λ (some : List Member). some ++ flat_map at (cond (passes name x) (k ∷ []) [])) (index.places name)
      ∙ ap (λ (some : List Member). filter (passes name) (take k members) ++ some) (one name (passes name x) refl)
      ∙ sym (ap (filter (passes name)) (take_more members k d below) ∙ filter-append (passes name) (take k members) (x ∷ []));
}
  where
    at : ℕ → List Member
    at = λ place. option_to_list (slice_get members place)

    x : Member
    x = get_or members k d

    here : flat_map (λ (place : ℕ). option_to_list (slice_get members place)) (k ∷ []) ≡ get_or members k d ∷ []
    here = ap (λ (o : Option Member). option_to_list o ++ []) (slice_get-get_or members k d below)

    one : (name : List ℕ) (b : Bool) → passes name (get_or members k d) ≡ b
        → flat_map (λ (place : ℕ). option_to_list (slice_get members place)) (cond b (k ∷ []) []) ≡ cond b (get_or members k d ∷ []) []
    one name true e = here
    one name false e = refl

-- the member at the first place that passes is the first that passes
pub member_found : (p : Member → Bool) (members : List Member) → member_at members (first_place p members) ≡ find p members
unfolding first_place
member_found p members =
    ap (member_at members) (sym (position_from-zero p members))
    ∙ here (nat_lt (position_or_len p members) (length members)) refl
    ∙ sym (find_at p members)
  where
    here : (b : Bool) → nat_lt (position_or_len p members) (length members) ≡ b → member_at members (cond b (Some (position_or_len p members)) None) ≡ slice_get members (position_or_len p members)
    here true e = refl
    here false e = sym (slice_get_past members (position_or_len p members) (ltb-false (position_or_len p members) (length members) e))

pub flat_map_twice : {X Y Z : Type 0} (g : Y → List Z) (f : X → List Y) (xs : List X) → flat_map (λ (x : X). flat_map g (f x)) xs ≡ flat_map g (flat_map f xs)
flat_map_twice g f [] = refl
flat_map_twice {X} {Y} {Z} g f (x ∷ xs) = ap (λ (rest : List Z). flat_map g (f x) ++ rest) (flat_map_twice g f xs) ∙ sym (flat_map-append g (f x) (flat_map f xs))

pub filter_more : (p : Member → Bool) (xs : List Member) (k : ℕ) (x : Member) → k < length xs → x ≡ get_or xs k x → filter p (take (k + 1) xs) ≡ filter p (take k xs) ++ filter p (x ∷ [])
filter_more p xs k x below is =
    ap (filter p) (take_more xs k x below) ∙ filter-append p (take k xs) (get_or xs k x ∷ []) ∙ ap (λ (y : Member). filter p (take k xs) ++ filter p (y ∷ [])) (sym is)
