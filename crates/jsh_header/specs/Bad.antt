-- Which live declarations are bad, by their places in the list of live snippets.
use Rattle.std.specs.Prelude.{ℕ, Bool, false, not, List, Option, Some, None, ◌||◌, length, map, slice_get}
use Rattle.std.specs.Option.{is_none}
use Rattle.std.specs.List.{list_any, range_with_len}
use Rattle.jsh_tree.specs.declared.key.Header.{Header}
use Rattle.jsh_tree.specs.declared.library.Member.{Member}
use Rattle.jsh_snippet.specs.Mentions.{mentions}
use Rattle.jsh_closure.specs.Closure.{closure}
use Rattle.jsh_scope.specs.Scope.{Scope}
use Rattle.jsh_scope.specs.Reached.{leads}
use Rattle.jsh_scope.specs.Answers.{type_named}
use Rattle.jsh_header.specs.SuperRules.{breaks_rule}

-- the header mentions a type name that no live type, live import or `java.lang` gives
abbrev pub lacks : Scope → Header → Bool
lacks scope header = list_any (λ (name : List ℕ). is_none (type_named scope name)) (mentions header)

abbrev pub lacks_at : Scope → Option Member → Bool
lacks_at scope None = false
lacks_at scope (Some member) = lacks scope member.header

module _ (scope : Scope) where
  -- bad by itself: its header mentions a name without a type, or breaks a rule on supertypes
  abbrev pub is_bad_itself : ℕ → Bool
  is_bad_itself place = lacks_at scope (slice_get scope.members place) || breaks_rule scope place

  -- the header of the other mentions the live type at the one place
  abbrev pub spoils : ℕ → ℕ → Bool
  spoils from to = leads scope.members to from

  -- the smallest set that holds what is bad by itself, and each one whose header mentions a type in the set
  unfoldable pub is_bad : ℕ → Bool
  is_bad place = closure (length scope.members) is_bad_itself spoils place

  -- for each live snippet, whether it is bad
  abbrev pub bad : List Bool
  bad = map is_bad (range_with_len 0 (length scope.members))

  -- for each live snippet, whether it is visible: all that isn't bad, imports among it
  abbrev pub visible : List Bool
  visible = map (λ (place : ℕ). not (is_bad place)) (range_with_len 0 (length scope.members))
