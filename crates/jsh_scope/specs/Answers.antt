-- What an environment answers about a simple name (JLS 6.5).
use Rattle.std.specs.Prelude.{ℕ, List, [], ◌∷◌, Option, Some, None, slice_get}
use Rattle.std.specs.Option.{option_or, option_to_list}
use Rattle.std.specs.List.{flat_map, filter, find}
use Rattle.jsh_tree.specs.declared.key.Header.{Header}
use Rattle.jsh_tree.specs.declared.key.Link.{Link}
use Rattle.jsh_tree.specs.declared.library.Member.{Member}
use Rattle.jsh_scope.specs.declared.answers.TypeAnswer.{TypeAnswer}
use Rattle.jsh_scope.specs.declared.answers.TypeAnswer.TheVariants as type_answer
use Rattle.jsh_scope.specs.declared.answers.VarAnswer.{VarAnswer}
use Rattle.jsh_scope.specs.declared.answers.VarAnswer.TheVariants as var_answer
use Rattle.jsh_scope.specs.declared.answers.MethodAnswer.{MethodAnswer}
use Rattle.jsh_scope.specs.declared.answers.MethodAnswer.TheVariants as method_answer
use Rattle.jsh_scope.specs.Scope.{Scope, is_type, is_visible_variable, is_visible_method}
use Rattle.jsh_scope.specs.Reached.{Visible, visible_types, reached_types}
use Rattle.jsh_scope.specs.Imports.{imports_of, imported_type, imported_constant, imported_methods, first_nonempty}

-- the member at a place
abbrev pub member_at : List Member → Option ℕ → Option Member
member_at members None = None
member_at members (Some place) = slice_get members place

module _ (types : List Member) where
  -- a declaration with this link and header, where these types are visible
  abbrev pub visible : Header → Link → Visible
  visible header link = record { link = link; header = header; reached = reached_types types header }

  -- a live type, which hides what imports give also where it isn't visible
  abbrev pub live_type : Header → Option Link → TypeAnswer
  live_type header None = type_answer.NotVisible
  live_type header (Some link) = type_answer.Live (visible header link)

  abbrev pub type_of : Option Member → Option TypeAnswer
  type_of None = None
  type_of (Some member) = Some (live_type member.header member.link)

  abbrev pub variable : Header → Option Link → Option VarAnswer
  variable header None = None
  variable header (Some link) = Some (var_answer.Live (visible header link))

  abbrev pub variable_of : Option Member → Option VarAnswer
  variable_of None = None
  variable_of (Some member) = variable member.header member.link

  abbrev pub method : Header → Option Link → List MethodAnswer
  method header None = []
  method header (Some link) = method_answer.Live (visible header link) ∷ []

  abbrev pub method_of : Member → List MethodAnswer
  method_of member = method member.header member.link

  -- the method at a place
  abbrev pub method_at : List Member → ℕ → List MethodAnswer
  method_at members place = flat_map method_of (option_to_list (slice_get members place))

-- a live type, else what the imports and `java.lang` give
unfoldable pub type_named : Scope → List ℕ → Option TypeAnswer
type_named scope name = option_or
    (type_of (visible_types scope.members) (find (is_type name) scope.members))
    (imported_type scope.library name (imports_of scope.members))

-- a visible variable, else what the static imports give
unfoldable pub var_named : Scope → List ℕ → Option VarAnswer
var_named scope name = option_or
    (variable_of (visible_types scope.members) (find (is_visible_variable name) scope.members))
    (imported_constant scope.library name (imports_of scope.members))

-- the visible methods by rising id, else what the static imports give
unfoldable pub methods_named : Scope → List ℕ → List MethodAnswer
methods_named scope name = first_nonempty
    (flat_map (method_of (visible_types scope.members)) (filter (is_visible_method name) scope.members))
    (imported_methods scope.library name (imports_of scope.members))
