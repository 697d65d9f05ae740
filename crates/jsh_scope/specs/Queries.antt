-- The three queries as one, and who asks them.
use Rattle.std.specs.Prelude.{◌≡◌, Bool, true, false, List, [], ◌∷◌, Option, ◌||◌, ⊤}
use Rattle.std.specs.List.{filter}
use Rattle.jsh_tree.specs.declared.key.Key.{Key}
use Rattle.jsh_tree.specs.declared.key.Key.TheVariants as key
use Rattle.jsh_tree.specs.declared.library.Member.{Member}
use Rattle.jsh_tree.specs.declared.library.Query.{Query}
use Rattle.jsh_tree.specs.declared.library.Query.TheVariants as query
use Rattle.jsh_scope.specs.declared.answers.TypeAnswer.{TypeAnswer}
use Rattle.jsh_scope.specs.declared.answers.VarAnswer.{VarAnswer}
use Rattle.jsh_scope.specs.declared.answers.MethodAnswer.{MethodAnswer}
use Rattle.jsh_scope.specs.Scope.{Scope, is_type, is_visible_type, is_visible_variable, is_visible_method}
use Rattle.jsh_scope.specs.Answers.{type_named, var_named, methods_named}

-- what a query is answered; that there is nothing is an answer too
pub data Answer : Type 0 where
  OfType : Option TypeAnswer → Answer
  OfVar : Option VarAnswer → Answer
  OfMethods : List MethodAnswer → Answer

abbrev pub answer : Scope → Query → Answer
answer scope (query.TypeNamed name) = OfType (type_named scope name)
answer scope (query.VarNamed name) = OfVar (var_named scope name)
answer scope (query.MethodsNamed name) = OfMethods (methods_named scope name)

-- two environments answer each of these queries alike
abbrev pub AgreeOn : Scope → Scope → List Query → Type 0
AgreeOn a b [] = ⊤
AgreeOn a b (query ∷ queries) = (answer a query ≡ answer b query) × AgreeOn a b queries

-- one who asks queries, each of which may depend on the answers so far, and then gives something
pub data Reader (A : Type 0) : Type 0 where
  Gives : A → Reader A
  Asks : Query → (Answer → Reader A) → Reader A

module _ {A : Type 0} where
  -- what a reader gives
  abbrev pub given : Reader A → Scope → A
  given (Gives a) scope = a
  given (Asks query next) scope = given (next (answer scope query)) scope

  -- what a reader asks, in order, the queries without an answer among them
  abbrev pub footprint : Reader A → Scope → List Query
  footprint (Gives a) scope = []
  footprint (Asks query next) scope = query ∷ footprint (next (answer scope query)) scope

-- the key of an import
abbrev pub is_import_key : Key → Bool
is_import_key (key.OfImport is_static parts on_demand) = true
is_import_key _ = false

-- the member is one that the query is about
abbrev pub is_about : Query → Member → Bool
is_about (query.TypeNamed name) member = is_type name member
is_about (query.VarNamed name) member = is_visible_variable name member
is_about (query.MethodsNamed name) member = is_visible_method name member

-- the answer to the query may depend on the member: the query is about it, it is an import, or a header may reach it
abbrev pub matters : Query → Member → Bool
matters query member = is_about query member || is_import_key member.key || is_visible_type member

-- two environments with the same library and with the same members that matter to the query, in the same order
pub record DifferElsewhere (query : Query) (a b : Scope) : Type 0 where
  pub library : a.library ≡ b.library
  pub members : filter (matters query) a.members ≡ filter (matters query) b.members
