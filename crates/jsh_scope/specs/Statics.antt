-- A static member of a library type, with its type.
use Rattle.jsh_tree.specs.declared.library.LibraryType.{LibraryType}
use Rattle.jsh_tree.specs.declared.library.LibraryMethod.{LibraryMethod}
use Rattle.jsh_tree.specs.declared.library.LibraryConstant.{LibraryConstant}

pub record StaticConstant : Type 0 where
  pub of : LibraryType
  pub constant : LibraryConstant

pub record StaticMethod : Type 0 where
  pub of : LibraryType
  pub method : LibraryMethod
