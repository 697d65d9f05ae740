-- The name of a snippet as feedback shows it, in UTF-16 units.
use Rattle.std.specs.Prelude.{ℕ, List, [], ◌∷◌, ◌++◌, Option, Some, None, codes}
use Rattle.std.specs.List.{flat_map, repeat}
use Rattle.std.specs.Str.{chars}
use Rattle.jsh_tree.specs.declared.tree.Tree.{Tree}
use Rattle.jsh_tree.specs.declared.tree.Tree.TheVariants as tree
use Rattle.jsh_tree.specs.declared.name.TypeWritten.{TypeWritten}
use Rattle.jsh_tree.specs.declared.expression.Expr.{Expr, out-Expr}
use Rattle.jsh_text.specs.Utf.{utf16}
use Rattle.jsh_snippet.specs.declared.kinds.Kind.{Kind}
use Rattle.jsh_snippet.specs.declared.kinds.Kind.TheVariants as kind
use Rattle.jsh_snippet.specs.Kinds.{simple_name}
use Rattle.jsh_snippet.specs.Keys.{temporary_name, parameter_types}

-- the units of a text in UTF-8
abbrev pub units : List ℕ → List ℕ
units text = utf16 (chars text)

-- `int[][]`
abbrev pub type_text : TypeWritten → List ℕ
type_text type = units type.name ++ repeat type.dims (codes "[]")

-- a type behind another one
abbrev pub further_type : TypeWritten → List ℕ
further_type type = codes "," ++ type_text type

-- `int,long`
abbrev pub types_text : List TypeWritten → List ℕ
types_text [] = []
types_text (first ∷ rest) = type_text first ++ flat_map further_type rest

-- `f(int,long)`
abbrev pub method_text : List ℕ → List TypeWritten → List ℕ
method_text name types = units name ++ codes "(" ++ types_text types ++ codes ")"

-- the simple name that an expression reads or assigns, and nothing for any other
abbrev pub read_name : Option (List ℕ) → List ℕ
read_name None = []
read_name (Some name) = units name

-- a temporary has its name where the kind says that it is made
abbrev pub expression_name : Kind → ℕ → Expr → List ℕ
expression_name kind.Var id e = temporary_name id
expression_name _ id e = read_name (simple_name (out-Expr e))

-- a snippet that isn't rejected
abbrev pub accepted_name : Kind → ℕ → List ℕ → Tree → List ℕ
accepted_name of id source (tree.Import import) = units source
accepted_name of id source (tree.Class class) = codes "class " ++ units class.name.name
accepted_name of id source (tree.Interface interface) = codes "interface " ++ units interface.name.name
accepted_name of id source (tree.Method method) = method_text method.name.name (parameter_types method.parameters)
accepted_name of id source (tree.Variable modifiers variable) = units variable.name.name
accepted_name of id source (tree.Block block) = []
accepted_name of id source (tree.Statement statement) = []
accepted_name of id source (tree.Expression e) = expression_name of id e

-- The name of a snippet with this kind at its entry, number and source. One that is rejected has none.
unfoldable pub name_of : Kind → ℕ → List ℕ → Tree → List ℕ
name_of kind.Erroneous id source tree = []
name_of of id source tree = accepted_name of id source tree
