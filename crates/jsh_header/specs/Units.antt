-- How units stand by name and by record.
use Rattle.std.specs.Prelude.{◌≡◌, ℕ, Bool, false, List, Option, Some, None}
use Rattle.std.specs.Ordering.{nat_cmp}
use Rattle.std.specs.BTreeMap.{BTreeMap}
use Rattle.std.specs.BTreeSet.{BTreeSet, contains}
use Rattle.jsh_tree.specs.declared.key.Key.{Key}
use Rattle.jsh_tree.specs.declared.key.Key.TheVariants as key
use Rattle.jsh_tree.specs.declared.library.Member.{Member}
use Rattle.jsh_scope.specs.Scope.{same_name}
use Rattle.jsh_scope.specs.Indexes.{IsIndexOfAll}
use Rattle.jsh_header.specs.Replaced.{has_record}

-- the name of a key that has one
abbrev pub name_of : Key → Option (List ℕ)
name_of (key.OfType name) = Some name
name_of (key.OfVar name) = Some name
name_of (key.OfMethod name params) = Some name
name_of _ = None

abbrev pub is_name : List ℕ → Option (List ℕ) → Bool
is_name name None = false
is_name name (Some found) = same_name name found

-- the unit's key has the name
abbrev pub has_name : List ℕ → Member → Bool
has_name name unit = is_name name (name_of unit.key)

-- the set has the records of the units
pub record HasRecords (units : List Member) (records : BTreeSet ℕ) : Type 0 where
  pub held : (id : ℕ) → contains nat_cmp records id ≡ has_record id units

pub record AreUnits (units : List Member) (places : BTreeMap (List ℕ) (List ℕ)) (records : BTreeSet ℕ) : Type 0 where
  pub places_are : IsIndexOfAll has_name units units places
  pub records_are : HasRecords units records
