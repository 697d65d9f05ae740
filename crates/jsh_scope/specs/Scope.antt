-- What an environment stands for, and how a name finds a member.
use Rattle.std.specs.Prelude.{ℕ, Bool, true, false, List, Option, nat_eq, ◌&&◌}
use Rattle.std.specs.Option.{is_some}
use Rattle.std.specs.Cmp.Lexicographic.{pointwise}
use Rattle.jsh_tree.specs.declared.key.Key.{Key}
use Rattle.jsh_tree.specs.declared.key.Key.TheVariants as key
use Rattle.jsh_tree.specs.declared.library.Library.{Library}
use Rattle.jsh_tree.specs.declared.library.Member.{Member}

-- the live snippets by rising id, and the library
pub record Scope : Type 0 where
  pub members : List Member
  pub library : Library

-- two names with the same bytes
abbrev pub same_name : List ℕ → List ℕ → Bool
same_name a b = pointwise nat_eq a b

-- the key of a type of this name
abbrev pub is_type_key : List ℕ → Key → Bool
is_type_key name (key.OfType found) = same_name name found
is_type_key name _ = false

-- the key of a variable of this name
abbrev pub is_variable_key : List ℕ → Key → Bool
is_variable_key name (key.OfVar found) = same_name name found
is_variable_key name _ = false

-- the key of a method of this name
abbrev pub is_method_key : List ℕ → Key → Bool
is_method_key name (key.OfMethod found params) = same_name name found
is_method_key name _ = false

-- a live type of this name
abbrev pub is_type : List ℕ → Member → Bool
is_type name member = is_type_key name member.key

-- the key of a type
abbrev pub is_some_type_key : Key → Bool
is_some_type_key (key.OfType found) = true
is_some_type_key _ = false

-- a visible type
abbrev pub is_visible_type : Member → Bool
is_visible_type member = is_some member.link && is_some_type_key member.key

-- a visible variable of this name
abbrev pub is_visible_variable : List ℕ → Member → Bool
is_visible_variable name member = is_some member.link && is_variable_key name member.key

-- a visible method of this name
abbrev pub is_visible_method : List ℕ → Member → Bool
is_visible_method name member = is_some member.link && is_method_key name member.key
