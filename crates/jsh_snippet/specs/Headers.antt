-- What of a declaration other code depends on.
use Rattle.std.specs.Prelude.{Bool, true, false, List, [], ◌∷◌, Option, Some, None, option_map, map}
use Rattle.std.specs.List.{flat_map, list_any}
use Rattle.std.specs.Option.{option_to_list}
use Rattle.jsh_tree.specs.declared.tree.Tree.{Tree}
use Rattle.jsh_tree.specs.declared.tree.Tree.TheVariants as tree
use Rattle.jsh_tree.specs.declared.key.Header.{Header}
use Rattle.jsh_tree.specs.declared.key.Header.TheVariants as header
use Rattle.jsh_tree.specs.declared.key.Field.{Field}
use Rattle.jsh_tree.specs.declared.key.Signature.{Signature}
use Rattle.jsh_tree.specs.declared.name.TypeWritten.{TypeWritten}
use Rattle.jsh_tree.specs.declared.modifier.Modifier.{Modifier}
use Rattle.jsh_tree.specs.declared.modifier.Modifier.TheVariants as modifier
use Rattle.jsh_tree.specs.declared.declaration.ModifierUse.{ModifierUse}
use Rattle.jsh_tree.specs.declared.declaration.ClassDeclaration.{ClassDeclaration}
use Rattle.jsh_tree.specs.declared.declaration.FieldDeclaration.{FieldDeclaration}
use Rattle.jsh_tree.specs.declared.declaration.InterfaceDeclaration.{InterfaceDeclaration}
use Rattle.jsh_tree.specs.declared.declaration.MethodDeclaration.{MethodDeclaration}
use Rattle.jsh_tree.specs.declared.declaration.MemberDeclaration.{MemberDeclaration}
use Rattle.jsh_tree.specs.declared.declaration.MemberDeclaration.TheVariants as member
use Rattle.jsh_tree.specs.declared.expression.TypeUse.{TypeUse}
use Rattle.jsh_tree.specs.declared.statement.Block.{Block}
use Rattle.jsh_snippet.specs.Keys.{names_of, parameter_types}

-- a method has `;` in place of a block, which alone makes it abstract
abbrev pub has_no_block : Option Block → Bool
has_no_block None = true
has_no_block (Some block) = false

-- a result as it is written. None is `void`.
abbrev pub written_result : Option TypeUse → Option TypeWritten
written_result result = option_map (λ (type : TypeUse). type.written) result

-- a method of a type (JLS 8.4, 9.4)
abbrev pub signature_of : MethodDeclaration → Signature
signature_of method = record {
  name = method.name.name;
  result = written_result method.result;
  params = parameter_types method.parameters;
  is_abstract = has_no_block method.body;
}

-- a field of a class (JLS 8.3)
abbrev pub field_of : FieldDeclaration → Field
field_of field = record { written = field.written.written; name = field.name.name }

-- the field that a member is
abbrev pub field_in : MemberDeclaration → List Field
field_in (member.Field field) = field_of field ∷ []
field_in _ = []

-- the method that a member is
abbrev pub method_in : MemberDeclaration → List Signature
method_in (member.Method method) = signature_of method ∷ []
method_in _ = []

-- the parameter types of the constructor that a member is (JLS 8.8)
abbrev pub constructor_in : MemberDeclaration → List (List TypeWritten)
constructor_in (member.Constructor constructor) = parameter_types constructor.parameters ∷ []
constructor_in _ = []

-- a class that writes no constructor has one without parameters (JLS 8.8.9)
abbrev pub or_default : List (List TypeWritten) → List (List TypeWritten)
or_default [] = [] ∷ []
or_default (first ∷ rest) = first ∷ rest

-- the modifier `abstract`
abbrev pub is_abstract_word : Modifier → Bool
is_abstract_word modifier.Abstract = true
is_abstract_word _ = false

-- it stands among these modifiers
abbrev pub has_abstract : List ModifierUse → Bool
has_abstract modifiers = list_any (λ (found : ModifierUse). is_abstract_word found.modifier) modifiers

-- a class (JLS 8.1)
abbrev pub class_header : ClassDeclaration → Header
class_header class = header.OfType
    false
    (has_abstract class.modifiers)
    class.name.name
    (names_of (option_to_list class.extends))
    (names_of class.implements)
    (flat_map field_in class.members)
    (flat_map method_in class.members)
    (or_default (flat_map constructor_in class.members))

-- an interface, which is always abstract (JLS 9.1.1.1) and has no constructor
abbrev pub interface_header : InterfaceDeclaration → Header
interface_header interface = header.OfType
    true
    true
    interface.name.name
    (names_of interface.extends)
    []
    []
    (map signature_of interface.methods)
    []

-- a variable of this type. Nothing is known of a `var` and of a temporary before the entry.
abbrev pub variable_header : Option TypeWritten → Header
variable_header None = header.Empty
variable_header (Some type) = header.OfVar type

-- a variable's type: as it is written, or that which was fixed at the entry of a `var`
abbrev pub variable_type : Option TypeWritten → Option TypeUse → Option TypeWritten
variable_type fixed None = fixed
variable_type fixed (Some type) = Some type.written

-- The header of a snippet. The fixed type is that of a `var` or of a temporary, as it was at the entry; an expression that makes none
-- has none.
unfoldable pub header_of : Option TypeWritten → Tree → Header
header_of fixed (tree.Import import) = header.Empty
header_of fixed (tree.Class class) = class_header class
header_of fixed (tree.Interface interface) = interface_header interface
header_of fixed (tree.Method method) = header.OfMethod (written_result method.result) (parameter_types method.parameters)
header_of fixed (tree.Variable modifiers variable) = variable_header (variable_type fixed variable.written)
header_of fixed (tree.Block block) = header.Empty
header_of fixed (tree.Statement statement) = header.Empty
header_of fixed (tree.Expression e) = variable_header fixed
