-- How what is looked up once for all types stands for an environment.
use Rattle.std.specs.Prelude.{◌≡◌, ℕ, ◌+◌, ◌<◌, ◌^◌, Bool, List, length, map}
use Rattle.std.specs.List.{list_any}
use Rattle.jsh_tree.specs.declared.key.Signature.{Signature}
use Rattle.jsh_tree.specs.declared.library.Library.{Library}
use Rattle.jsh_scope.specs.Scope.{Scope}
use Rattle.jsh_header.specs.declared.outlines.Outline.{Outline}
use Rattle.jsh_header.specs.Outlines.{outlines}

-- the library of an environment, and where its types stand
pub record AreNames (scope : Scope) (library : Library) (behind : ℕ) : Type 0 where
  pub library_is : library ≡ scope.library
  pub behind_is : behind ≡ length scope.members
  pub fits : behind + length library.types < 2 ^ 64

abbrev pub direct_of : Outline → List ℕ
direct_of type = type.direct

-- the types of an environment, and the direct supertypes of each
pub record AreTypes (scope : Scope) (types : List Outline) (edges : List (List ℕ)) : Type 0 where
  pub types_are : types ≡ outlines scope
  pub edges_are : edges ≡ map direct_of types

-- the same methods, in any order
pub record AreAlike (some others : List Signature) : Type 0 where
  pub passes : (test : Signature → Bool) → list_any test some ≡ list_any test others
