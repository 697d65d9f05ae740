-- Types, and which values they have (JLS 4).
use Rattle.std.specs.Prelude.{ℕ, Bool, true, false, not, ◌&&◌, ◌||◌, ◌==◌, if◌then◌else◌, List, codes, Option, Some, None}
use Rattle.jsh_text.specs.declared.value.KindName.{KindName}
use Rattle.jsh_text.specs.declared.value.KindName.TheVariants as kind
use Rattle.jsh_tree.specs.declared.key.Link.{Link}
use Rattle.jsh_tree.specs.contracts.key.LinkPartialEq.TheImpl as link_comparison
use Rattle.jsh_tree.specs.contracts.name.NamePartialEq.TheImpl as name_comparison
use Rattle.jsh_typed.specs.declared.types.ClassName.{ClassName}
use Rattle.jsh_typed.specs.declared.types.ClassName.TheVariants as class
use Rattle.jsh_typed.specs.declared.types.Element.{Element}
use Rattle.jsh_typed.specs.declared.types.Element.TheVariants as element
use Rattle.jsh_typed.specs.declared.types.ResolvedType.{ResolvedType}
use Rattle.jsh_typed.specs.declared.types.ResolvedType.TheVariants as type
use Rattle.jsh_typed.specs.declared.types.Numeric.{Numeric}
use Rattle.jsh_typed.specs.declared.types.Numeric.TheVariants as numeric
use Rattle.jsh_typed.specs.declared.types.Promoted.{Promoted}
use Rattle.jsh_typed.specs.declared.types.Promoted.TheVariants as promoted_to

-- equal names, and equal links, as `==` of `jsh_tree` has them: byte by byte, and field by field
abbrev pub same_name : List ℕ → List ℕ → Bool
same_name a b = name_comparison.ghosts.eq a b

abbrev pub same_link : Link → Link → Bool
same_link a b = link_comparison.ghosts.eq a b

-- one class or interface
abbrev pub same_class : ClassName → ClassName → Bool
same_class (class.Library a) (class.Library b) = same_name a b
same_class (class.Snippet a) (class.Snippet b) = same_link a b
same_class _ _ = false

-- `Object`, the supertype of every class, interface and array (JLS 4.3.2)
abbrev pub is_object : ClassName → Bool
is_object (class.Library name) = same_name name (codes "Object")
is_object (class.Snippet link) = false

-- one type that is no array
abbrev pub same_element : Element → Element → Bool
same_element element.Int element.Int = true
same_element element.Long element.Long = true
same_element element.Char element.Char = true
same_element element.Boolean element.Boolean = true
same_element element.Text element.Text = true
same_element (element.Class a) (element.Class b) = same_class a b
same_element _ _ = false

abbrev pub is_object_element : Element → Bool
is_object_element (element.Class c) = is_object c
is_object_element _ = false

-- one type (JLS 4.3.4)
abbrev pub same_type : ResolvedType → ResolvedType → Bool
same_type type.Null type.Null = true
same_type (type.Of a m) (type.Of b n) = m == n && same_element a b
same_type _ _ = false

-- reference types (JLS 4.3): `String`, classes, interfaces and arrays; the type of null counts as one
abbrev pub is_reference_element : Element → Bool
is_reference_element element.Text = true
is_reference_element (element.Class c) = true
is_reference_element _ = false

abbrev pub is_reference : ResolvedType → Bool
is_reference type.Null = true
is_reference (type.Of a m) = not (m == 0) || is_reference_element a

-- `String`
abbrev pub is_text : ResolvedType → Bool
is_text (type.Of element.Text m) = m == 0
is_text _ = false

-- `char`
abbrev pub is_char : ResolvedType → Bool
is_char (type.Of element.Char m) = m == 0
is_char _ = false

-- `boolean`
abbrev pub is_boolean : ResolvedType → Bool
is_boolean (type.Of element.Boolean m) = m == 0
is_boolean _ = false

-- the types of numbers (JLS 4.2)
abbrev pub numeric_element : Element → Option Numeric
numeric_element element.Int = Some numeric.Int
numeric_element element.Long = Some numeric.Long
numeric_element element.Char = Some numeric.Char
numeric_element _ = None

abbrev pub numeric_of : ResolvedType → Option Numeric
numeric_of type.Null = None
numeric_of (type.Of a m) = if m == 0 then numeric_element a else None

-- the kinds that the values of a type have: a reference is a `Ref`, and that to a text is the text, which an `Object` may be; null is of each
abbrev pub element_has_kind : Element → KindName → Bool
element_has_kind element.Int kind.Int = true
element_has_kind element.Long kind.Long = true
element_has_kind element.Char kind.Char = true
element_has_kind element.Boolean kind.Boolean = true
element_has_kind element.Text kind.Text = true
element_has_kind element.Text kind.Null = true
element_has_kind (element.Class c) kind.Ref = true
element_has_kind (element.Class c) kind.Null = true
element_has_kind (element.Class c) kind.Text = is_object c
element_has_kind _ _ = false

abbrev pub is_ref_or_null : KindName → Bool
is_ref_or_null kind.Ref = true
is_ref_or_null kind.Null = true
is_ref_or_null _ = false

abbrev pub is_null : KindName → Bool
is_null kind.Null = true
is_null _ = false

abbrev pub has_kind : ResolvedType → KindName → Bool
has_kind type.Null k = is_null k
has_kind (type.Of a m) k = if m == 0 then element_has_kind a k else is_ref_or_null k

-- unary numeric promotion (JLS 5.6.1)
abbrev pub promoted : Numeric → Promoted
promoted numeric.Long = promoted_to.Long
promoted _ = promoted_to.Int

-- binary numeric promotion (JLS 5.6.2)
abbrev pub promoted_with : Numeric → Numeric → Promoted
promoted_with numeric.Long b = promoted_to.Long
promoted_with a numeric.Long = promoted_to.Long
promoted_with a b = promoted_to.Int

-- the same type of numbers, or a wider one (JLS 5.1.2): char, int, long
abbrev pub number_widens : Numeric → Numeric → Bool
number_widens numeric.Char b = true
number_widens a numeric.Long = true
number_widens numeric.Int numeric.Int = true
number_widens a b = false
