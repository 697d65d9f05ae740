-- Which type converts to which (JLS 5), over a hierarchy.
use Rattle.std.specs.Prelude.{ℤ, pos, negsuc, Bool, true, false, not, ◌&&◌, ◌||◌, ◌==◌, nat_lt, if◌then◌else◌, List, Option, Some, None}
use Rattle.std.specs.List.{list_any}
use Rattle.jsh_text.specs.declared.value.Value.{Value}
use Rattle.jsh_text.specs.declared.value.Value.TheVariants as value
use Rattle.jsh_typed.specs.declared.types.ClassName.{ClassName}
use Rattle.jsh_typed.specs.declared.types.Element.{Element}
use Rattle.jsh_typed.specs.declared.types.Element.TheVariants as element
use Rattle.jsh_typed.specs.declared.types.ResolvedType.{ResolvedType}
use Rattle.jsh_typed.specs.declared.types.ResolvedType.TheVariants as type
use Rattle.jsh_typed.specs.declared.types.Numeric.{Numeric}
use Rattle.jsh_typed.specs.declared.types.Numeric.TheVariants as numeric
use Rattle.jsh_typed.specs.declared.types.Promoted.{Promoted}
use Rattle.jsh_typed.specs.declared.types.Promoted.TheVariants as promoted_to
use Rattle.jsh_typed.specs.declared.hierarchy.HierarchyEntry.{HierarchyEntry}
use Rattle.jsh_typed.specs.declared.conversion.ComparedAs.{ComparedAs}
use Rattle.jsh_typed.specs.declared.conversion.ComparedAs.TheVariants as compares
use Rattle.jsh_typed.specs.declared.conversion.BranchType.{BranchType}
use Rattle.jsh_typed.specs.declared.conversion.BranchType.TheVariants as branch
use Rattle.jsh_typed.specs.Types.{same_class, same_element, same_type, is_object, is_object_element, is_reference, is_text, is_char, is_boolean, numeric_element, numeric_of, number_widens, promoted_with}
use Rattle.jsh_typed.specs.Hierarchy.{is_subclass}

-- between types of numbers (JLS 5.1.2)
abbrev pub both_widen : Option Numeric → Option Numeric → Bool
both_widen (Some a) (Some b) = number_widens a b
both_widen _ _ = false

abbrev pub element_widens : Element → Element → Bool
element_widens a b = both_widen (numeric_element a) (numeric_element b)

-- between classes and interfaces; `String` is a final class with no supertype but Object (JLS 5.1.5)
abbrev pub reference_widens : List HierarchyEntry → Element → Element → Bool
reference_widens hierarchy (element.Class c) (element.Class d) = is_subclass hierarchy c d
reference_widens hierarchy element.Text (element.Class d) = is_object d
reference_widens hierarchy _ _ = false

-- The first type is the second or widens to it. Null widens to every reference. Arrays of as many dimensions widen as their
-- elements do, but for numbers, and an array widens to Object and to arrays of Object with fewer dimensions (JLS 4.10.3).
abbrev pub widens : List HierarchyEntry → ResolvedType → ResolvedType → Bool
widens hierarchy type.Null t = is_reference t
widens hierarchy (type.Of a m) type.Null = false
widens hierarchy (type.Of a m) (type.Of b n) =
    if m == n then same_element a b || ((m == 0 && element_widens a b) || reference_widens hierarchy a b) else nat_lt n m && is_object_element b

-- a constant int whose value a char has (JLS 5.2)
abbrev pub fits_16_bits : ℤ → Bool
fits_16_bits (pos n) = nat_lt n 65536
fits_16_bits (negsuc n) = false

abbrev pub fits_char : Option Value → Bool
fits_char (Some (value.Int n)) = fits_16_bits n
fits_char _ = false

-- an expression of the first type, with its value where it is constant, may be assigned to the second (JLS 5.2)
abbrev pub assigns : List HierarchyEntry → ResolvedType → Option Value → ResolvedType → Bool
assigns hierarchy s constant t = (is_char t && fits_char constant) || widens hierarchy s t

-- two types of numbers
abbrev pub are_both : Option Numeric → Option Numeric → Bool
are_both (Some a) (Some b) = true
are_both _ _ = false

abbrev pub are_numbers : Element → Element → Bool
are_numbers a b = are_both (numeric_element a) (numeric_element b)

-- an interface, by its entry
abbrev pub has_interface : List HierarchyEntry → ClassName → Bool
has_interface hierarchy c = list_any (λ entry. entry.is_interface && same_class entry.class c) hierarchy

abbrev pub is_interface : List HierarchyEntry → Element → Bool
is_interface hierarchy (element.Class c) = has_interface hierarchy c
is_interface hierarchy _ = false

-- a final class, by its entry
abbrev pub has_final : List HierarchyEntry → ClassName → Bool
has_final hierarchy c = list_any (λ entry. entry.is_final && same_class entry.class c) hierarchy

-- a class or interface that may have subtypes: it isn't final, and `String` is
abbrev pub is_open : List HierarchyEntry → Element → Bool
is_open hierarchy (element.Class c) = not (has_final hierarchy c)
is_open hierarchy _ = false

-- One is an interface and the other may have a subtype that implements it, or one widens to the other (JLS 5.5.1).
abbrev pub reference_casts : List HierarchyEntry → Element → Element → Bool
reference_casts hierarchy a b = (is_interface hierarchy a && is_open hierarchy b)
    || ((is_interface hierarchy b && is_open hierarchy a) || (reference_widens hierarchy a b || reference_widens hierarchy b a))

-- A type may be cast to the other: the same type, two types of numbers, or references. Arrays of as many dimensions may be cast as
-- their elements may, but for numbers; between an array and what has fewer dimensions, the latter is Object or an array of Object.
abbrev pub casts : List HierarchyEntry → ResolvedType → ResolvedType → Bool
casts hierarchy type.Null t = is_reference t
casts hierarchy (type.Of a m) type.Null = is_reference (type.Of a m)
casts hierarchy (type.Of a m) (type.Of b n) = if nat_lt m n then is_object_element a else (if nat_lt n m then is_object_element b
    else same_element a b || ((m == 0 && are_numbers a b) || reference_casts hierarchy a b))

-- `instanceof` takes an operand of the first type, and the second (JLS 15.20.2)
abbrev pub may_be_instance : List HierarchyEntry → ResolvedType → ResolvedType → Bool
may_be_instance hierarchy s t = (is_reference s && is_reference t) && casts hierarchy s t

-- the type that two types of numbers are promoted to together (JLS 5.6.2)
abbrev pub promoted_both : Option Numeric → Option Numeric → Option Promoted
promoted_both (Some a) (Some b) = Some (promoted_with a b)
promoted_both _ _ = None

abbrev pub common_number : ResolvedType → ResolvedType → Option Promoted
common_number s t = promoted_both (numeric_of s) (numeric_of t)

-- what `==` and `!=` compare (JLS 15.21): two numbers, two booleans, or two references of which one may be cast to the other, and
-- not two texts
abbrev pub compared_others : List HierarchyEntry → ResolvedType → ResolvedType → Option ComparedAs
compared_others hierarchy s t = if is_boolean s && is_boolean t then Some compares.Booleans
    else (if is_text s && is_text t then None else (if may_be_instance hierarchy s t then Some compares.References else None))

abbrev pub compared : List HierarchyEntry → ResolvedType → ResolvedType → Option ComparedAs
compared hierarchy s t = by (common_number s t)
  where
    by : Option Promoted → Option ComparedAs
    by (Some p) = Some (compares.Numbers p)
    by None = compared_others hierarchy s t

-- `?:` over numbers (JLS 15.25.2): char where one is char and the other a constant int that fits, and else what both are promoted to
abbrev pub number_branches : Numeric → Option Value → Numeric → Option Value → BranchType
number_branches numeric.Char c numeric.Int d = if fits_char d then branch.First else branch.Numbers promoted_to.Int
number_branches numeric.Int c numeric.Char d = if fits_char c then branch.Second else branch.Numbers promoted_to.Int
number_branches a c b d = branch.Numbers (promoted_with a b)

-- `?:` over references: the wider type, where one widens to the other
abbrev pub reference_branches : List HierarchyEntry → ResolvedType → ResolvedType → Option BranchType
reference_branches hierarchy s t = if not (is_reference s) || not (is_reference t) then None
    else (if widens hierarchy s t then Some branch.Second else (if widens hierarchy t s then Some branch.First else None))

-- the type of `?:` over branches of two types, each with its value where it is constant (JLS 15.25)
abbrev pub branches : List HierarchyEntry → ResolvedType → Option Value → ResolvedType → Option Value → Option BranchType
branches hierarchy s c t d = if same_type s t then Some branch.First else by (numeric_of s) (numeric_of t)
  where
    by : Option Numeric → Option Numeric → Option BranchType
    by (Some a) (Some b) = Some (number_branches a c b d)
    by _ _ = reference_branches hierarchy s t
