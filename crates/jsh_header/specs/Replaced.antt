-- Which units get a new link where the live list changes, after `Instrumentation.redefineClasses`. A unit is a visible type, method or
-- variable.
use Rattle.std.specs.Prelude.{ℕ, Bool, true, false, not, List, Option, Some, None, ◌||◌, ◌&&◌, length, map, slice_get, nat_eq}
use Rattle.std.specs.List.{list_any, find, range_with_len}
use Rattle.jsh_tree.specs.declared.key.Key.{Key}
use Rattle.jsh_tree.specs.declared.key.Key.TheVariants as key
use Rattle.jsh_tree.specs.declared.key.Header.{Header}
use Rattle.jsh_tree.specs.declared.library.Member.{Member}
use Rattle.jsh_tree.specs.contracts.key.KeyPartialEq.TheImpl as key_comparison
use Rattle.jsh_tree.specs.contracts.key.HeaderPartialEq.TheImpl as header_comparison
use Rattle.jsh_closure.specs.Closure.{closure}
use Rattle.jsh_scope.specs.Reached.{leads}

-- equal keys and equal headers, as `==` of `jsh_tree` has them, field by field
abbrev pub same_key : Key → Key → Bool
same_key a b = key_comparison.ghosts.eq a b

abbrev pub same_header : Header → Header → Bool
same_header a b = header_comparison.ghosts.eq a b

-- the key of a variable
abbrev pub is_variable : Key → Bool
is_variable (key.OfVar name) = true
is_variable _ = false

-- the unit of this key
abbrev pub of_key : Key → List Member → Option Member
of_key wanted units = find (λ (unit : Member). same_key unit.key wanted) units

-- the record of this id is among the units
abbrev pub has_record : ℕ → List Member → Bool
has_record id units = list_any (λ (unit : Member). nat_eq unit.id id) units

-- the unit of the same key had another shape, or there was none
abbrev pub has_new_shape : Header → Option Member → Bool
has_new_shape header None = true
has_new_shape header (Some unit) = not (same_header unit.header header)

-- new by itself: no old unit has its key, the one with its key has another header, or it is a variable with a new record
abbrev pub is_new : List Member → Member → Bool
is_new old unit = has_new_shape unit.header (of_key unit.key old) || (is_variable unit.key && not (has_record unit.id old))

abbrev pub is_new_at : List Member → Option Member → Bool
is_new_at old None = false
is_new_at old (Some unit) = is_new old unit

module _ (old new : List Member) where
  -- the header of the other mentions the type at the one place
  abbrev pub carries : ℕ → ℕ → Bool
  carries from to = leads new to from

  abbrev pub is_new_place : ℕ → Bool
  is_new_place place = is_new_at old (slice_get new place)

  -- the smallest set that holds what is new by itself, and each unit whose header mentions a type in the set
  unfoldable pub is_replaced : ℕ → Bool
  is_replaced place = closure (length new) is_new_place carries place

  -- for each new unit, whether it gets a new link
  abbrev pub replaced : List Bool
  replaced = map is_replaced (range_with_len 0 (length new))
