-- The hierarchy of classes and interfaces: an entry for each, with its direct supertypes (JLS 4.10.2).
use Rattle.std.specs.Prelude.{ℕ, zero, suc, Bool, ◌&&◌, ◌||◌, List, map, length}
use Rattle.std.specs.List.{list_any, zip}
use Rattle.jsh_typed.specs.declared.types.ClassName.{ClassName}
use Rattle.jsh_typed.specs.declared.hierarchy.HierarchyEntry.{HierarchyEntry}
use Rattle.jsh_typed.specs.Types.{same_class, is_object}

-- the class is in the list
abbrev pub lists : List ClassName → ClassName → Bool
lists classes c = list_any (λ listed. same_class listed c) classes

-- an entry that is marked has the class as a direct supertype
unfoldable pub is_above : List HierarchyEntry → List Bool → ClassName → Bool
is_above hierarchy marks c = list_any (λ pair. pair.1 && lists pair.0.supertypes c) (zip hierarchy marks)

-- a mark on each entry of the class
abbrev pub entries_of : List HierarchyEntry → ClassName → List Bool
entries_of hierarchy c = map (λ entry. same_class entry.class c) hierarchy

-- an entry is of the class, or a direct supertype of one that is marked
unfoldable pub is_reached : List HierarchyEntry → ClassName → List Bool → HierarchyEntry → Bool
is_reached hierarchy c marks entry = same_class entry.class c || is_above hierarchy marks entry.class

-- one step more: a mark on each entry of the class, and on each direct supertype of one that is marked
abbrev pub further : List HierarchyEntry → ClassName → List Bool → List Bool
further hierarchy c marks = map (λ entry. is_reached hierarchy c marks entry) hierarchy

-- a mark on each entry that is reached from the class by at most so many steps
unfoldable pub reached : List HierarchyEntry → ClassName → ℕ → List Bool
reached hierarchy c zero = entries_of hierarchy c
reached hierarchy c (suc n) = further hierarchy c (reached hierarchy c n)

-- The first is the second or a subtype of it: the second is Object, or stands above an entry that is reached. No way up has more
-- steps than there are entries.
abbrev pub is_subclass : List HierarchyEntry → ClassName → ClassName → Bool
is_subclass hierarchy c d = same_class c d || is_object d || is_above hierarchy (reached hierarchy c (length hierarchy)) d
