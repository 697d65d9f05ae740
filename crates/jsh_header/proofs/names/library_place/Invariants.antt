use Rattle.std.proofs.Common.{◌≡◌, drop}
use Rattle.std.specs.List.{position_from}
use Rattle.jsh_tree.specs.declared.library.LibraryType.{LibraryType}
use Rattle.jsh_scope.specs.Scope.{same_name}
use Rattle.jsh_header.proofs.names.library_place.Given as goal

abbrev pub invariant-loop-place : goal.invariant-loop-place
invariant-loop-place l =
    position_from (λ (type : LibraryType). same_name type.name l.name) l.place (drop l.place l.types) ≡ position_from (λ (type : LibraryType). same_name type.name l.name) 0 l.types
