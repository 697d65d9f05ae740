-- The types among which the rules on supertypes are asked: at the place of a live type stands that type, and behind the live snippets
-- stand the types of the library. A name of a snippet is looked up as anywhere else (JLS 6.5.5), so that a live type hides what imports
-- give; a name of the library is one of its own types.
use Rattle.std.specs.Prelude.{ℕ, ◌+◌, Bool, true, false, List, [], ◌∷◌, ◌++◌, Option, Some, None, option_map, if◌then◌else◌, length, map, codes}
use Rattle.std.specs.Option.{option_or, option_to_list}
use Rattle.std.specs.List.{flat_map, position_from}
use Rattle.jsh_tree.specs.declared.key.Header.{Header}
use Rattle.jsh_tree.specs.declared.key.Header.TheVariants as header
use Rattle.jsh_tree.specs.declared.key.Signature.{Signature}
use Rattle.jsh_tree.specs.declared.library.Library.{Library}
use Rattle.jsh_tree.specs.declared.library.LibraryMethod.{LibraryMethod}
use Rattle.jsh_tree.specs.declared.library.LibraryType.{LibraryType}
use Rattle.jsh_tree.specs.declared.library.Member.{Member}
use Rattle.jsh_scope.specs.declared.answers.TypeAnswer.{TypeAnswer}
use Rattle.jsh_scope.specs.declared.answers.TypeAnswer.TheVariants as type_answer
use Rattle.jsh_scope.specs.Scope.{Scope, same_name, is_type}
use Rattle.jsh_scope.specs.Reached.{first_place}
use Rattle.jsh_scope.specs.Imports.{is_named, imports_of, imported_type}
use Rattle.jsh_header.specs.declared.outlines.Outline.{Outline}

-- where a type of the library stands
module _ (library : Library) (behind : ℕ) where
  abbrev pub place_named : (LibraryType → Bool) → Option ℕ
  place_named passes = option_map (λ (place : ℕ). behind + place) (position_from passes 0 library.types)

  -- `Object` (JLS 4.3.2)
  unfoldable pub object_place : Option ℕ
  object_place = place_named (is_named (codes "java.lang") (codes "Object"))

  -- one that a name of the library means
  unfoldable pub library_place : List ℕ → Option ℕ
  library_place name = place_named (λ (type : LibraryType). same_name type.name name)

  -- one that an import gives
  abbrev pub answered_place : Option TypeAnswer → Option ℕ
  answered_place (Some (type_answer.Library type)) = place_named (is_named type.package type.name)
  answered_place _ = None

  -- the superclass of a type of the library
  abbrev pub library_superclass : Option (List ℕ) → Option ℕ
  library_superclass None = None
  library_superclass (Some name) = library_place name

  abbrev pub library_places : List (List ℕ) → List ℕ
  library_places names = flat_map (λ (name : List ℕ). option_to_list (library_place name)) names

-- a method, where it is one of objects
abbrev pub object_method : LibraryMethod → List Signature
object_method method = if method.is_static then [] else method.signature ∷ []

-- a type of the library
abbrev pub library_outline : Library → ℕ → LibraryType → Outline
library_outline library behind type = record {
  interface = type.is_interface;
  is_final = type.is_final;
  is_abstract = type.is_abstract;
  superclass = library_superclass library behind type.extends;
  direct = option_to_list (library_superclass library behind type.extends) ++ library_places library behind type.implements;
  methods = flat_map object_method type.methods;
}

-- what stands where a snippet declares no type: nothing leads there
abbrev pub no_outline : Outline
no_outline = record { interface = false; is_final = false; is_abstract = false; superclass = None; direct = []; methods = [] }

module _ (scope : Scope) where
  -- behind the live snippets
  abbrev pub behind : ℕ
  behind = length scope.members

  -- where the type stands that a name of a snippet means, if it means one
  unfoldable pub type_place : List ℕ → Option ℕ
  type_place name = option_or
      (first_place (is_type name) scope.members)
      (answered_place scope.library behind (imported_type scope.library name (imports_of scope.members)))

  -- `Object`, where no superclass is written (JLS 8.1.4)
  abbrev pub superclass_of : List (List ℕ) → Option ℕ
  superclass_of [] = object_place scope.library behind
  superclass_of (name ∷ names) = type_place name

  abbrev pub places_of : List (List ℕ) → List ℕ
  places_of names = flat_map (λ (name : List ℕ). option_to_list (type_place name)) names

  -- a class (JLS 8.1.4, 8.1.5)
  abbrev pub class_outline : Bool → List (List ℕ) → List (List ℕ) → List Signature → Outline
  class_outline is_abstract extends implements methods = record {
    interface = false;
    is_final = false;
    is_abstract = is_abstract;
    superclass = superclass_of extends;
    direct = option_to_list (superclass_of extends) ++ places_of implements;
    methods = methods;
  }

  -- an interface (JLS 9.1.3), which has `Object` among its supertypes (JLS 4.10.2)
  abbrev pub interface_outline : Bool → List (List ℕ) → List Signature → Outline
  interface_outline is_abstract extends methods = record {
    interface = true;
    is_final = false;
    is_abstract = is_abstract;
    superclass = None;
    direct = option_to_list (object_place scope.library behind) ++ places_of extends;
    methods = methods;
  }

  -- a type that a snippet declares
  abbrev pub header_outline : Header → Outline
  header_outline (header.OfType false is_abstract name extends implements fields methods constructors) = class_outline is_abstract extends implements methods
  header_outline (header.OfType true is_abstract name extends implements fields methods constructors) = interface_outline is_abstract extends methods
  header_outline _ = no_outline

  -- all of them, at their places
  unfoldable pub outlines : List Outline
  outlines = map (λ (member : Member). header_outline member.header) scope.members ++ map (library_outline scope.library behind) scope.library.types
