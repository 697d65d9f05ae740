-- Which types a header reaches through the types that it mentions.
use Rattle.std.specs.Prelude.{ℕ, Bool, false, List, [], ◌∷◌, Option, Some, None, if◌then◌else◌, length, slice_get, slice_index_or}
use Rattle.std.specs.Option.{option_to_list}
use Rattle.std.specs.List.{flat_map, filter, position_from, range_with_len}
use Rattle.jsh_tree.specs.declared.key.Header.{Header}
use Rattle.jsh_tree.specs.declared.key.Link.{Link}
use Rattle.jsh_tree.specs.declared.library.Member.{Member}
use Rattle.jsh_snippet.specs.Mentions.{mentions}
use Rattle.jsh_closure.specs.Closure.{closure, is_among}
use Rattle.jsh_scope.specs.Scope.{is_type, is_visible_type}

-- a visible declaration
pub record Linked : Type 0 where
  pub link : Link
  pub header : Header

-- a visible declaration with the types that its header reaches
pub record Visible : Type 0 where
  pub link : Link
  pub header : Header
  pub reached : List Linked

-- the first place of a member that passes
unfoldable pub first_place : (Member → Bool) → List Member → Option ℕ
first_place passes members = position_from passes 0 members

-- what is declared, where it is visible
abbrev pub linked : Header → Option Link → List Linked
linked header None = []
linked header (Some link) = record { link = link; header = header } ∷ []

abbrev pub linked_at : Option Member → List Linked
linked_at None = []
linked_at (Some member) = linked member.header member.link

-- the visible types, by rising id
unfoldable pub visible_types : List Member → List Member
visible_types members = filter is_visible_type members

module _ (types : List Member) where
  -- the places of the types that a header mentions, in its order
  unfoldable pub places_in : Header → List ℕ
  places_in header = flat_map (λ (name : List ℕ). option_to_list (first_place (is_type name) types)) (mentions header)

  -- the same of the type at a place
  abbrev pub places_from : Option Member → List ℕ
  places_from None = []
  places_from (Some type) = places_in type.header

  -- the header at the one place mentions the type at the other
  abbrev pub leads : ℕ → ℕ → Bool
  leads from to = is_among (places_from (slice_get types from)) to

  -- the types that a header mentions, those that the headers of these mention, and so on
  abbrev pub is_reached : Header → ℕ → Bool
  is_reached header = closure (length types) (is_among (places_in header)) leads

  -- a type, where its place passes
  abbrev pub linked_where : (ℕ → Bool) → ℕ → List Linked
  linked_where passes place = if passes place then linked_at (slice_get types place) else []

  -- the types whose place is marked
  unfoldable pub marked_types : List Bool → List Linked
  marked_types marks = flat_map (linked_where (λ (place : ℕ). slice_index_or marks place false)) (range_with_len 0 (length marks))

  -- each of them once, by rising id
  unfoldable pub reached_types : Header → List Linked
  reached_types header = flat_map (linked_where (is_reached header)) (range_with_len 0 (length types))

-- the visible types that a header reaches
abbrev pub reached : List Member → Header → List Linked
reached members header = reached_types (visible_types members) header
