-- The six rules on supertypes, and which of them a type breaks.
use Rattle.std.specs.Prelude.{ℕ, suc, zero, Bool, true, false, not, ◌&&◌, ◌||◌, List, [], ◌∷◌, ◌++◌, Option, Some, None, if◌then◌else◌, length, map, slice_get, nat_eq}
use Rattle.std.specs.List.{flat_map, filter, find, list_any, position_from, range_with_len}
use Rattle.std.specs.Cmp.Lexicographic.{pointwise}
use Rattle.jsh_tree.specs.declared.key.Header.{Header}
use Rattle.jsh_tree.specs.declared.key.Header.TheVariants as header
use Rattle.jsh_tree.specs.declared.key.Signature.{Signature}
use Rattle.jsh_tree.specs.declared.name.TypeWritten.{TypeWritten}
use Rattle.jsh_tree.specs.declared.library.LibraryType.{LibraryType}
use Rattle.jsh_tree.specs.declared.library.Member.{Member}
use Rattle.jsh_closure.specs.Closure.{closure, is_among}
use Rattle.jsh_scope.specs.Scope.{Scope, same_name}
use Rattle.jsh_header.specs.declared.outlines.Outline.{Outline}
use Rattle.jsh_header.specs.declared.rules.Breach.{Breach}
use Rattle.jsh_header.specs.declared.written.Written.{Written}
use Rattle.jsh_header.specs.Outlines.{type_place, outlines}

-- equal written types
abbrev pub same_written : TypeWritten → TypeWritten → Bool
same_written a b = same_name a.name b.name && nat_eq a.dims b.dims

-- equal results, of which None is `void`
abbrev pub same_result : Option TypeWritten → Option TypeWritten → Bool
same_result None None = true
same_result (Some a) (Some b) = same_written a b
same_result _ _ = false

-- one name and the same parameter types (JLS 8.4.2)
abbrev pub same_signature : Signature → Signature → Bool
same_signature a b = same_name a.name b.name && pointwise same_written a.params b.params

-- one name, the same parameter types, and another result
abbrev pub contradicts : Signature → Signature → Bool
contradicts a b = same_signature a b && not (same_result a.result b.result)

-- the methods of the type that stands there
abbrev pub methods_at : Option Outline → List Signature
methods_at None = []
methods_at (Some type) = type.methods

abbrev pub superclass_at : Option Outline → Option ℕ
superclass_at None = None
superclass_at (Some type) = type.superclass

abbrev pub direct_at : Option Outline → List ℕ
direct_at None = []
direct_at (Some type) = type.direct

-- the type at an optional place
abbrev pub type_at : List Outline → Option ℕ → Option Outline
type_at types None = None
type_at types (Some place) = slice_get types place

module _ (types : List Outline) where
  -- the type at the other place is a direct supertype of that at the one
  abbrev pub leads_up : ℕ → ℕ → Bool
  leads_up from to = is_among (direct_at (slice_get types from)) to

  -- the places of the types at some places and of all their supertypes
  abbrev pub above : List ℕ → List ℕ
  above places = filter (closure (length types) (is_among places) leads_up) (range_with_len 0 (length types))

  -- the methods of the types at some places
  abbrev pub methods_of : List ℕ → List Signature
  methods_of places = flat_map (λ (place : ℕ). methods_at (slice_get types place)) places

  -- the methods of all supertypes of the type at a place, those among them that are overridden included
  unfoldable pub inherited : ℕ → List Signature
  inherited place = methods_of (above (direct_at (slice_get types place)))

  -- a class, its superclass, the superclass of that, and so on, so many at most
  abbrev pub superclasses : ℕ → Option ℕ → List ℕ
  superclasses zero place = []
  superclasses (suc more) None = []
  superclasses (suc more) (Some place) = place ∷ superclasses more (superclass_at (slice_get types place))

  -- the methods of the class at a place, those of its superclass, and so on up
  unfoldable pub class_methods : ℕ → List Signature
  class_methods place = methods_of (superclasses (length types) (Some place))

-- a method that has a body
abbrev pub has_body : Option Signature → Bool
has_body None = false
has_body (Some method) = not method.is_abstract

-- the first of the methods with this signature has a body
abbrev pub is_implemented : List Signature → Signature → Bool
is_implemented methods method = has_body (find (same_signature method) methods)

-- some method goes by another result than one of these
abbrev pub contradicts_any : List Signature → Signature → Bool
contradicts_any methods method = list_any (contradicts method) methods

-- some supertype's method goes by another result than one that the type has or gets from a supertype (JLS 8.4.8.3, 9.4.1.3)
abbrev pub has_contradiction : List Signature → List Signature → Bool
has_contradiction own others = list_any (λ (method : Signature). contradicts_any own method || contradicts_any others method) others

-- some abstract method of these has no body in the class or, where the class itself hasn't the method, in the first superclass up from it
-- that has it (JLS 8.1.1.1, 8.4.3.1)
abbrev pub lacks_body : List Signature → List Signature → Bool
lacks_body of_classes methods = list_any (λ (method : Signature). method.is_abstract && not (is_implemented of_classes method)) methods

-- some method has no body of its own
abbrev pub has_abstract : List Signature → Bool
has_abstract methods = list_any (λ (method : Signature). method.is_abstract) methods

-- it has an abstract method itself, or gets one that has no body in it
abbrev pub lacks_body_of : List Signature → List Signature → List Signature → Bool
lacks_body_of of_classes own others = has_abstract own || lacks_body of_classes others

-- a class that isn't final
abbrev pub may_be_superclass : Outline → Bool
may_be_superclass type = not type.interface && not type.is_final

-- a superclass is a class that isn't final (JLS 8.1.4)
abbrev pub is_no_superclass : Written → Option Outline → Bool
is_no_superclass written None = false
is_no_superclass written (Some type) = written.is_superclass && not (may_be_superclass type)

-- the others are interfaces (JLS 8.1.5, 9.1.3)
abbrev pub is_no_interface : Written → Option Outline → Bool
is_no_interface written None = false
is_no_interface written (Some type) = not written.is_superclass && not type.interface

-- no type is its own supertype (JLS 8.1.4, 9.1.3): the type at the first place is the other or above it
abbrev pub leads_back : List Outline → ℕ → Option ℕ → Bool
leads_back types place None = false
leads_back types place (Some other) = is_among (above types (other ∷ [])) place

-- a type of the library has the name
abbrev pub is_library_name : List LibraryType → List ℕ → Bool
is_library_name types name = list_any (λ (type : LibraryType). same_name type.name name) types

-- a supertype as a header writes it
abbrev pub superclass_named : List ℕ → Written
superclass_named name = record { is_superclass = true; name = name }

abbrev pub interface_named : List ℕ → Written
interface_named name = record { is_superclass = false; name = name }

-- in the order of the text (JLS 8.1.4, 8.1.5, 9.1.3)
abbrev pub written_supertypes : Bool → List (List ℕ) → List (List ℕ) → List Written
written_supertypes false extends implements = map superclass_named extends ++ map interface_named implements
written_supertypes true extends implements = map interface_named extends

-- a rule that is broken at the type's name
abbrev pub at_name : ℕ → Bool → List Breach
at_name rule broken = if broken then record { rule = rule; supertype = None } ∷ [] else []

-- a rule that is broken first at the supertype of this index
abbrev pub at_supertype : ℕ → ℕ → Option ℕ → List Breach
at_supertype index rule None = []
at_supertype index rule (Some first) = if nat_eq first index then record { rule = rule; supertype = Some index } ∷ [] else []

-- the first three rules at the supertype of this index, by where each of them is first broken
abbrev pub at_index : Option ℕ → Option ℕ → Option ℕ → ℕ → List Breach
at_index no_superclass no_interface back index = at_supertype index 1 no_superclass ++ at_supertype index 2 no_interface ++ at_supertype index 3 back

module _ (scope : Scope) where
  abbrev pub place_of : Written → Option ℕ
  place_of written = type_place scope written.name

  -- the first written supertype at which the first and the second rule is broken
  abbrev pub first_no_superclass : List Written → Option ℕ
  first_no_superclass supertypes = position_from (λ (written : Written). is_no_superclass written (type_at (outlines scope) (place_of written))) 0 supertypes

  abbrev pub first_no_interface : List Written → Option ℕ
  first_no_interface supertypes = position_from (λ (written : Written). is_no_interface written (type_at (outlines scope) (place_of written))) 0 supertypes

  module _ (place : ℕ) where
    -- that at which the third is
    abbrev pub first_back : List Written → Option ℕ
    first_back supertypes = position_from (λ (written : Written). leads_back (outlines scope) place (place_of written)) 0 supertypes

    -- at each supertype, in their order
    abbrev pub at_supertypes : List Written → List Breach
    at_supertypes supertypes = flat_map (at_index (first_no_superclass supertypes) (first_no_interface supertypes) (first_back supertypes)) (range_with_len 0 (length supertypes))

    -- open, by its own methods and all that it gets
    abbrev pub is_open : List Signature → Bool
    is_open methods = lacks_body_of (class_methods (outlines scope) place) methods (inherited (outlines scope) place)

    -- at the type's name: what it gets contradicts, it is open though it is no interface and isn't abstract, it has the name of a type of the library
    unfoldable pub at_its_name : Bool → Bool → List ℕ → List Signature → List Breach
    at_its_name interface is_abstract name methods =
        at_name 4 (has_contradiction methods (inherited (outlines scope) place))
        ++ at_name 5 (not (interface || is_abstract) && is_open methods)
        ++ at_name 6 (is_library_name scope.library.types name)

    -- which rules the type of this header breaks, which stands at the place: by where that is in its text, then by number
    unfoldable pub breaches_of : Header → List Breach
    breaches_of (header.OfType interface is_abstract name extends implements fields methods constructors) =
        at_its_name interface is_abstract name methods ++ at_supertypes (written_supertypes interface extends implements)
    breaches_of _ = []

abbrev pub breaches_at : Scope → ℕ → Option Member → List Breach
breaches_at scope place None = []
breaches_at scope place (Some member) = breaches_of scope place member.header

-- which rules the live snippet at a place breaks among all live types
abbrev pub breaches : Scope → ℕ → List Breach
breaches scope place = breaches_at scope place (slice_get scope.members place)

abbrev pub is_nonempty : List Breach → Bool
is_nonempty [] = false
is_nonempty (first ∷ rest) = true

-- the live snippet at a place breaks some rule
abbrev pub breaks_rule : Scope → ℕ → Bool
breaks_rule scope place = is_nonempty (breaches scope place)
