-- How the maps of an environment stand for its list of members.
use Rattle.std.specs.Prelude.{◌≡◌, ℕ, Bool, List, [], ◌∷◌, ◌++◌, Option, Some, None, if◌then◌else◌, map, slice_get}
use Rattle.std.specs.Option.{option_or, option_to_list}
use Rattle.std.specs.List.{flat_map, filter}
use Rattle.std.specs.Ordering.{nat_cmp}
use Rattle.std.specs.Cmp.Lexicographic.{slice_cmp}
use Rattle.std.specs.BTreeMap.{BTreeMap, get}
use Rattle.jsh_tree.specs.declared.library.Member.{Member}
use Rattle.jsh_closure.specs.Closure.{places_at}
use Rattle.jsh_scope.specs.declared.imported.Imported.{Imported}
use Rattle.jsh_scope.specs.Scope.{same_name, is_type, is_visible_variable, is_visible_method}
use Rattle.jsh_scope.specs.Reached.{first_place, places_in}
use Rattle.jsh_scope.specs.Imports.{imports_of}

-- what a map by name has
abbrev pub found : {A : Type 0} → BTreeMap (List ℕ) A → List ℕ → Option A
found index name = get (slice_cmp nat_cmp) index name

-- for each name the first place of a member that passes
pub record IsIndex (passes : List ℕ → Member → Bool) (members : List Member) (index : BTreeMap (List ℕ) ℕ) : Type 0 where
  pub places : (name : List ℕ) → found index name ≡ first_place (passes name) members

-- for each name the places of the members that pass
pub record IsIndexOfAll (passes : List ℕ → Member → Bool) (members : List Member) (some : List Member) (index : BTreeMap (List ℕ) (List ℕ)) : Type 0 where
  pub places : (name : List ℕ) → flat_map (λ (place : ℕ). option_to_list (slice_get members place)) (places_at (found index name)) ≡ filter (passes name) some

-- the names that pass have the place, unless they had one
pub record AddsPlace (passes : List ℕ → Bool) (place : ℕ) (old new : BTreeMap (List ℕ) ℕ) : Type 0 where
  pub places : (name : List ℕ) → found new name ≡ option_or (found old name) (if passes name then Some place else None)

-- the names that pass have one place more
pub record AppendsPlace (passes : List ℕ → Bool) (place : ℕ) (old new : BTreeMap (List ℕ) (List ℕ)) : Type 0 where
  pub places : (name : List ℕ) → places_at (found new name) ≡ places_at (found old name) ++ (if passes name then place ∷ [] else [])

-- the parts of an environment that stand for its members
pub record AreIndexes (members : List Member) (imports : List Imported) (types variables : BTreeMap (List ℕ) ℕ) (methods : BTreeMap (List ℕ) (List ℕ)) : Type 0 where
  pub imports_are : imports ≡ imports_of members
  pub types_are : IsIndex is_type members types
  pub variables_are : IsIndex is_visible_variable members variables
  pub methods_are : IsIndexOfAll is_visible_method members members methods

-- the places of types by name, and for each of them the places of those that its header mentions
pub record AreTypes (types : List Member) (places : BTreeMap (List ℕ) ℕ) (edges : List (List ℕ)) : Type 0 where
  pub places_are : IsIndex is_type types places
  pub edges_are : edges ≡ map (λ (type : Member). places_in types type.header) types
