-- What kind of snippet a tree is (`jdk.jshell.Snippet.Kind` and `SubKind`).
use Rattle.std.specs.Prelude.{ℕ, List, Option, Some, None, if◌then◌else◌}
use Rattle.jsh_tree.specs.declared.tree.Tree.{Tree}
use Rattle.jsh_tree.specs.declared.tree.Tree.TheVariants as tree
use Rattle.jsh_tree.specs.declared.declaration.Import.{Import}
use Rattle.jsh_tree.specs.declared.expression.Expr.{Expr, out-Expr}
use Rattle.jsh_tree.specs.declared.expression.Expr.TheOpen.{Expr-F}
use Rattle.jsh_tree.specs.declared.expression.Initial.{Initial}
use Rattle.jsh_tree.specs.declared.expression.Operation.{Operation}
use Rattle.jsh_tree.specs.declared.expression.PathPart.{PathPart}
use Rattle.jsh_snippet.specs.declared.kinds.Kind.{Kind}
use Rattle.jsh_snippet.specs.declared.kinds.Kind.TheVariants as kind
use Rattle.jsh_snippet.specs.declared.kinds.Subkind.{Subkind}
use Rattle.jsh_snippet.specs.declared.kinds.Subkind.TheVariants as subkind
use Rattle.jsh_snippet.specs.declared.classes.ExpressionType.{ExpressionType}
use Rattle.jsh_snippet.specs.declared.classes.ExpressionType.TheVariants as type

-- one level of an expression
abbrev pub Layer : Type 0
Layer = Expr-F Expr Initial Operation PathPart

-- the simple name that an expression is (JLS 6.2), by its outermost level
abbrev pub name_alone : Layer → Option (List ℕ)
name_alone (Expr-F.Name identifier) = Some identifier.name
name_alone _ = None

-- the simple name that an expression reads or assigns: `x`, and `x = value` (JLS 15.26.1)
abbrev pub simple_name : Layer → Option (List ℕ)
simple_name (Expr-F.Name identifier) = Some identifier.name
simple_name (Expr-F.Assign target None value) = name_alone (out-Expr target)
simple_name _ = None

-- an import (JLS 7.5.1 to 7.5.4)
abbrev pub import_subkind : Import → Subkind
import_subkind import =
    if import.is_static then (if import.on_demand then subkind.StaticImportOnDemand else subkind.SingleStaticImport)
    else (if import.on_demand then subkind.TypeImportOnDemand else subkind.SingleTypeImport)

-- a variable with this initializer
abbrev pub variable_subkind : Option Initial → Subkind
variable_subkind None = subkind.VarDeclaration
variable_subkind (Some initial) = subkind.VarDeclarationWithInitializer

-- an expression of this type that neither is nor assigns a simple name
abbrev pub value_subkind : ExpressionType → Subkind
value_subkind type.Void = subkind.Statement
value_subkind type.Null = subkind.OtherExpression
value_subkind type.Value = subkind.TempVarExpression

-- an assignment to this target, if that is a simple name
abbrev pub assignment_subkind : ExpressionType → Option (List ℕ) → Subkind
assignment_subkind of (Some name) = subkind.Assignment
assignment_subkind of None = value_subkind of

-- an expression of this type
abbrev pub expression_subkind : ExpressionType → Layer → Subkind
expression_subkind of (Expr-F.Name identifier) = subkind.VarValue
expression_subkind of (Expr-F.Assign target None value) = assignment_subkind of (name_alone (out-Expr target))
expression_subkind of _ = value_subkind of

-- the subkind of a snippet. The type is the expression's at its own entry, and counts for no other tree.
unfoldable pub subkind_of : ExpressionType → Tree → Subkind
subkind_of of (tree.Import import) = import_subkind import
subkind_of of (tree.Class class) = subkind.Class
subkind_of of (tree.Interface interface) = subkind.Interface
subkind_of of (tree.Method method) = subkind.Method
subkind_of of (tree.Variable modifiers variable) = variable_subkind variable.initial
subkind_of of (tree.Block block) = subkind.Statement
subkind_of of (tree.Statement statement) = subkind.Statement
subkind_of of (tree.Expression e) = expression_subkind of (out-Expr e)

-- the kind that a subkind belongs to
unfoldable pub kind_of : Subkind → Kind
kind_of subkind.SingleTypeImport = kind.Import
kind_of subkind.TypeImportOnDemand = kind.Import
kind_of subkind.SingleStaticImport = kind.Import
kind_of subkind.StaticImportOnDemand = kind.Import
kind_of subkind.Class = kind.TypeDecl
kind_of subkind.Interface = kind.TypeDecl
kind_of subkind.Method = kind.Method
kind_of subkind.VarDeclaration = kind.Var
kind_of subkind.VarDeclarationWithInitializer = kind.Var
kind_of subkind.TempVarExpression = kind.Var
kind_of subkind.VarValue = kind.Expression
kind_of subkind.Assignment = kind.Expression
kind_of subkind.OtherExpression = kind.Expression
kind_of subkind.Statement = kind.Statement
kind_of subkind.Unknown = kind.Erroneous
