-- What the functions of the parser of declarations promise: that they give what the readers give.
use Rattle.std.specs.Prelude.{ℕ, suc, Bool, true, if◌then◌else◌, List, [], ◌∷◌, Option, Some, None, length}
use Rattle.jsh_tree.specs.declared.token.Token.{Token}
use Rattle.jsh_tree.specs.declared.token.TokenKind.{TokenKind}
use Rattle.jsh_tree.specs.declared.modifier.Modifier.{Modifier}
use Rattle.jsh_tree.specs.declared.expression.Identifier.{Identifier}
use Rattle.jsh_tree.specs.declared.expression.TypeUse.{TypeUse}
use Rattle.jsh_tree.specs.declared.statement.Block.{Block}
use Rattle.jsh_tree.specs.declared.statement.Variable.{Variable}
use Rattle.jsh_tree.specs.declared.declaration.ModifierUse.{ModifierUse}
use Rattle.jsh_tree.specs.declared.declaration.Import.{Import}
use Rattle.jsh_tree.specs.declared.declaration.Parameter.{Parameter}
use Rattle.jsh_tree.specs.declared.declaration.MethodDeclaration.{MethodDeclaration}
use Rattle.jsh_tree.specs.declared.declaration.ConstructorCall.{ConstructorCall}
use Rattle.jsh_tree.specs.declared.declaration.MemberDeclaration.{MemberDeclaration}
use Rattle.jsh_tree.specs.declared.declaration.MemberDeclaration.TheVariants as member
use Rattle.jsh_tree.specs.declared.declaration.ClassDeclaration.{ClassDeclaration}
use Rattle.jsh_tree.specs.declared.declaration.InterfaceDeclaration.{InterfaceDeclaration}
use Rattle.jsh_tree.specs.declared.tree.Tree.{Tree}
use Rattle.jsh_tree.specs.declared.tree.Tree.TheVariants as tree
use Rattle.jsh_parse.specs.Marks.{is_right_brace}
use Rattle.jsh_parse.specs.Forms.{is_semicolon}
use Rattle.jsh_parse.specs.Reader.{Read, and_then, accept}
use Rattle.jsh_parse.specs.Reading.{expr_at}
use Rattle.jsh_parse.specs.StatementReading.{stmt_at, block_at, variable_at}
use Rattle.jsh_decl.specs.declared.modifiers.Place.{Place}
use Rattle.jsh_decl.specs.declared.modifiers.Place.TheVariants as place
use Rattle.jsh_decl.specs.declared.words.ListWord.{ListWord}
use Rattle.jsh_decl.specs.declared.words.ListWord.TheVariants as word
use Rattle.jsh_decl.specs.Words.{is_extends, is_implements, is_throws}
use Rattle.jsh_decl.specs.Declarations.{modifier_of, of_snippets, of_members, of_interfaces}
use Rattle.jsh_decl.specs.DeclarationReader as reader

-- what may stand before a declaration, by its place
abbrev pub allowed : Place → Modifier → Bool
allowed place.Snippet = of_snippets
allowed place.Member = of_members
allowed place.Interface = of_interfaces

-- the test of a word that names stand behind
abbrev pub test_of : ListWord → TokenKind → Bool
test_of word.Extends = is_extends
test_of word.Implements = is_implements
test_of word.Throws = is_throws

-- the modifier that stands first, where one that may stand there does
abbrev pub modifier_at : (Modifier → Bool) → List Token → Option ModifierUse
modifier_at permitted [] = None
modifier_at permitted (t ∷ ts) = by (modifier_of t.kind)
  where
    by : Option Modifier → Option ModifierUse
    by None = None
    by (Some m) = if permitted m then Some (record { modifier = m; span = t.span }) else None

-- {Modifier}, as many as may stand there
unfoldable pub modifiers_at : (Modifier → Bool) → List Token → Read (List ModifierUse)
modifiers_at permitted ts = Some (reader.modifiers_read permitted ts)

-- names with dots between them, and whether they end in a star
unfoldable pub dotted_at : List ℕ → List Token → Read (List Identifier × Bool)
dotted_at text ts = reader.dotted_read (suc (length ts)) text ts

-- an import, behind its word
unfoldable pub import_at : List ℕ → Token → List Token → Read Import
import_at text t ts = reader.import_read text t ts

-- names with commas between them
unfoldable pub names_at : List ℕ → List Token → Read (List Identifier)
names_at text ts = reader.names_read (suc (length ts)) text ts

-- names behind a word, or nothing where it doesn't stand there
unfoldable pub names_behind_at : (TokenKind → Bool) → List ℕ → List Token → Read (List Identifier)
names_behind_at test text ts = reader.names_behind_read test text ts

-- the class that a class extends
unfoldable pub superclass_at : List ℕ → List Token → Read (Option Identifier)
superclass_at text ts = reader.superclass_read text ts

-- a parameter, with its `final`
unfoldable pub parameter_at : List ℕ → List Token → Read Parameter
parameter_at text ts = reader.parameter_read text ts

-- parameters with commas between them
unfoldable pub listed_at : List ℕ → List Token → Read (List Parameter)
listed_at text ts = reader.parameters_listed_read (suc (length ts)) text ts

-- parameters with their parentheses
unfoldable pub parameters_at : List ℕ → List Token → Read (List Parameter)
parameters_at text ts = reader.parameters_read text ts

-- the type of a result, or `void`
unfoldable pub result_at : List ℕ → List Token → Read (Option TypeUse)
result_at text ts = reader.result_read text ts

-- a block, or the semicolon in its place
unfoldable pub body_at : List ℕ → ℕ → List Token → Read (Option Block)
body_at text room ts = reader.body_read text room ts

-- a method, behind its modifiers
unfoldable pub method_at : List ℕ → ℕ → List ModifierUse → List Token → Read MethodDeclaration
method_at text room modifiers ts = reader.method_read text room modifiers ts

-- the call of another constructor, where one stands first
unfoldable pub first_call_at : List ℕ → ℕ → List Token → Read (Option ConstructorCall)
first_call_at text room ts = reader.first_call_read text room ts

-- a constructor, behind its modifiers
unfoldable pub constructor_at : List ℕ → ℕ → List ModifierUse → List Token → Read MemberDeclaration
constructor_at text room modifiers ts = reader.constructor_read text room modifiers ts

-- a variable as a field, where its type is written
abbrev pub field_of : List ModifierUse → Variable → Option TypeUse → List Token → Read MemberDeclaration
field_of modifiers v None rest = None
field_of modifiers v (Some written) rest =
    Some (member.Field (record { modifiers = modifiers; written = written; name = v.name; initial = v.initial }), rest)

-- a field, behind its modifiers
unfoldable pub field_at : List ℕ → ℕ → List ModifierUse → List Token → Read MemberDeclaration
field_at text room modifiers ts = reader.field_read text room modifiers ts

-- a member, with its modifiers
unfoldable pub member_at : List ℕ → ℕ → List Token → Read MemberDeclaration
member_at text room ts = reader.member_read text room ts

-- a member, behind its modifiers
unfoldable pub member_behind_at : List ℕ → ℕ → List ModifierUse → List Token → Read MemberDeclaration
member_behind_at text room modifiers ts = reader.member_behind_read text room modifiers ts

-- no member more stands first
abbrev pub ends_members : List Token → Bool
ends_members [] = true
ends_members (t ∷ ts) = is_right_brace t.kind

-- the members up to a closing brace
unfoldable pub members_at : List ℕ → ℕ → List Token → Read (List MemberDeclaration)
members_at text room ts = reader.members_read (suc (length ts)) text room ts

-- a class, behind its word
unfoldable pub class_at : List ℕ → ℕ → List ModifierUse → List Token → Read ClassDeclaration
class_at text room modifiers ts = reader.class_read text room modifiers ts

-- one method of an interface, with its modifiers
unfoldable pub interface_method_at : List ℕ → ℕ → List Token → Read MethodDeclaration
interface_method_at text room ts = reader.interface_method_read text room ts

-- the methods of an interface, up to a closing brace
unfoldable pub interface_methods_at : List ℕ → ℕ → List Token → Read (List MethodDeclaration)
interface_methods_at text room ts = reader.interface_methods_read (suc (length ts)) text room ts

-- an interface, behind its word
unfoldable pub interface_at : List ℕ → ℕ → List ModifierUse → List Token → Read InterfaceDeclaration
interface_at text room modifiers ts = reader.interface_read text room modifiers ts

-- a method with a block
unfoldable pub whole_method_at : List ℕ → ℕ → List ModifierUse → List Token → Read Tree
whole_method_at text room modifiers ts = reader.whole_method_read text room modifiers ts

-- a variable and its semicolon
unfoldable pub variable_declaration_at : List ℕ → ℕ → List ModifierUse → List Token → Read Tree
variable_declaration_at text room modifiers ts =
    and_then (variable_at text room ts) (λ v rest. and_then (accept is_semicolon rest) (λ u end. Some (tree.Variable modifiers v, end)))

-- a declaration, behind its modifiers
unfoldable pub declaration_at : List ℕ → ℕ → List ModifierUse → List Token → Read Tree
declaration_at text room modifiers ts = reader.declaration_read text room modifiers ts

-- an expression and its semicolon
unfoldable pub expression_at : List ℕ → ℕ → List Token → Read Tree
expression_at text room ts = and_then (expr_at text room ts) (λ e rest. and_then (accept is_semicolon rest) (λ u end. Some (tree.Expression e, end)))

-- a block that is a snippet
unfoldable pub braced_at : List ℕ → ℕ → List Token → Read Tree
braced_at text room ts = and_then (block_at text room ts) (λ b end. Some (tree.Block b, end))

-- any other statement
unfoldable pub other_at : List ℕ → ℕ → List Token → Read Tree
other_at text room ts = and_then (stmt_at text room ts) (λ s end. Some (tree.Statement s, end))

-- a statement, a block or an expression
unfoldable pub statement_at : List ℕ → ℕ → List Token → Read Tree
statement_at text room ts = reader.statement_read text room ts
