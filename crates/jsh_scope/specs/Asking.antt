-- An environment with what it was asked.
use Rattle.std.specs.Prelude.{List}
use Rattle.jsh_tree.specs.declared.library.Query.{Query}
use Rattle.jsh_scope.specs.Scope.{Scope}

pub record Asking : Type 0 where
  pub scope : Scope
  -- in order
  pub asked : List Query
