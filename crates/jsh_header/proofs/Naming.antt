-- Units by the name of their key.
use Rattle.std.proofs.Common.{◌≡◌, ℕ, ◌+◌, ◌<◌, ◌≤◌, Bool, true, false, cond, ◌||◌, ◌&&◌, ◌⊎◌, inl, inr, List, [], ◌∷◌, ◌++◌, length, get_or, take, drop, Option, Some, None, BTreeMap, flat_map, refl, sym, ◌∙◌, ap}
use Rattle.std.proofs.lemmas.Bool.{cases_Bool, and_parts, both_ways}
use Rattle.std.proofs.lemmas.List.{at_drop_more, at_drop_all}
use Rattle.std.proofs.lemmas.List.Folds.{list_any_more, find-append}
use Rattle.std.specs.Prelude.{nat_eq, slice_get}
use Rattle.std.specs.Ordering.{is_eq, nat_cmp}
use Rattle.std.specs.BTreeSet.{BTreeSet, contains}
use Rattle.std.specs.Cmp.{unsigned_tied}
use Rattle.std.specs.Option.{option_to_list, option_or}
use Rattle.std.specs.List.{filter, find}
use Rattle.std.specs.Cmp.Lexicographic.{pointwise, nat_list_eq_equiv}
use Rattle.jsh_tree.specs.declared.key.Key.{Key}
use Rattle.jsh_tree.specs.declared.key.Key.TheVariants as key
use Rattle.jsh_tree.specs.declared.library.Member.{Member}
use Rattle.jsh_closure.specs.Closure.{places_at}
use Rattle.jsh_scope.specs.Scope.{same_name}
use Rattle.jsh_scope.specs.Indexes.{found, IsIndexOfAll}
use Rattle.jsh_header.specs.Replaced.{same_key, of_key, has_record}
use Rattle.jsh_header.specs.Units.{name_of, is_name, has_name, HasRecords}

-- the first unit with a key at some places
abbrev pub found_at : List Member → Key → List ℕ → Option Member
found_at units wanted places = of_key wanted (flat_map (λ (place : ℕ). option_to_list (slice_get units place)) places)

turned : (a b : List ℕ) → same_name a b ≡ true → same_name b a ≡ true
turned a b same = sym (nat_list_eq_equiv.symm a b) ∙ same

by_name : (a b name : List ℕ) → b ≡ name → same_name b a ≡ true → same_name name a ≡ true
by_name a b name is same = ap (λ (n : List ℕ). same_name n a) (sym is) ∙ same

-- equal keys have one name
pub same_named : (a wanted : Key) (name : List ℕ) → name_of wanted ≡ Some name → same_key a wanted ≡ true → is_name name (name_of a) ≡ true
same_named (key.OfType a) (key.OfType b) name is same = by_name a b name (cc is) (turned a b same)
same_named (key.OfVar a) (key.OfVar b) name is same = by_name a b name (cc is) (turned a b same)
same_named (key.OfMethod a some) (key.OfMethod b others) name is same = by_name a b name (cc is) (turned a b (and_parts (same_name a b) _ same).0)
same_named a (key.OfImport is_static parts on_demand) name is same = absurd (cc is)
same_named a (key.OfRun id) name is same = absurd (cc is)
same_named a wanted name is same = absurd (cc same)

-- the first that passes is the first among those that pass a weaker test
pub find_named : (p q : Member → Bool) → ((x : Member) → p x ≡ true → q x ≡ true) → (units : List Member) → find p (filter q units) ≡ find p units
find_named p q less [] = refl
find_named p q less (x ∷ xs) = at (cases_Bool (p x)) (cases_Bool (q x)) (find_named p q less xs)
  where
    at : (p x ≡ true) ⊎ (p x ≡ false) → (q x ≡ true) ⊎ (q x ≡ false) → find p (filter q xs) ≡ find p xs → find p (cond (q x) (x ∷ filter q xs) (filter q xs)) ≡ cond (p x) (Some x) (find p xs)
    at (inl passes) (inl held) rest = rw (held, passes) refl
    at (inl passes) (inr apart) rest = absurd (both_ways _ apart (less x passes))
    at (inr fails) (inl held) rest = rw (held, fails) rest
    at (inr fails) (inr apart) rest = rw (apart, fails) rest

-- one record more in the set
pub records_more : (units : List Member) (k : ℕ) (unit : Member) (old new : BTreeSet ℕ) → k < length units → unit ≡ get_or units k unit
    → ((id : ℕ) → contains nat_cmp new id ≡ cond (is_eq (nat_cmp unit.id id)) true (contains nat_cmp old id)) → HasRecords (take k units) old → HasRecords (take (k + 1) units) new
records_more units k unit old new below is updates has = record {
  held = λ id.
      updates id
      ∙ ap (λ (b : Bool). cond b true (contains nat_cmp old id)) (unsigned_tied unit.id id)
      ∙ ap (λ (b : Bool). cond (nat_eq unit.id id) true b) (has.held id)
      ∙ either (nat_eq unit.id id) (has_record id (take k units))
      ∙ ap (λ (x : Member). has_record id (take k units) || nat_eq x.id id) is
      ∙ sym (list_any_more (λ (x : Member). nat_eq x.id id) units k unit below);
}
  where
    either : (a b : Bool) → cond a true b ≡ (b || a)
    either true true = refl
    either true false = refl
    either false true = refl
    either false false = refl

found_split : (units : List Member) (wanted : Key) (places : List ℕ) (k : ℕ) → k < length places
    → found_at units wanted (drop k places) ≡ option_or (of_key wanted (option_to_list (slice_get units (get_or places k 0)))) (found_at units wanted (drop (k + 1) places))
found_split units wanted places k below =
    at_drop_more (found_at units wanted) places k 0 below
    ∙ find-append (λ (unit : Member). same_key unit.key wanted) (option_to_list (slice_get units (get_or places k 0))) (flat_map (λ (place : ℕ). option_to_list (slice_get units place)) (drop (k + 1) places))

pub found_here : (units : List Member) (wanted : Key) (places : List ℕ) (k : ℕ) (unit : Member) → k < length places → Some unit ≡ of_key wanted (option_to_list (slice_get units (get_or places k 0)))
    → found_at units wanted (drop k places) ≡ Some unit
found_here units wanted places k unit below is =
    found_split units wanted places k below ∙ ap (λ (one : Option Member). option_or one (found_at units wanted (drop (k + 1) places))) (sym is)

pub found_later : (units : List Member) (wanted : Key) (places : List ℕ) (k : ℕ) → k < length places → None ≡ of_key wanted (option_to_list (slice_get units (get_or places k 0)))
    → found_at units wanted (drop k places) ≡ found_at units wanted (drop (k + 1) places)
found_later units wanted places k below is =
    found_split units wanted places k below ∙ ap (λ (one : Option Member). option_or one (found_at units wanted (drop (k + 1) places))) (sym is)

pub found_none : (units : List Member) (wanted : Key) (places : List ℕ) (k : ℕ) → length places ≤ k → found_at units wanted (drop k places) ≡ None
found_none units wanted places k past = at_drop_all (found_at units wanted) places k past

-- the first unit with a key, by the places of those with its name
pub found_by_name : (units : List Member) (index : BTreeMap (List ℕ) (List ℕ)) (wanted : Key) (name : List ℕ) → IsIndexOfAll has_name units units index → name_of wanted ≡ Some name
    → found_at units wanted (places_at (found index name)) ≡ of_key wanted units
found_by_name units index wanted name indexed is =
    ap (of_key wanted) (indexed.places name) ∙ find_named (λ (unit : Member). same_key unit.key wanted) (has_name name) (λ unit held. same_named unit.key wanted name is held) units
