-- What identifies a snippet: a new declaration replaces the live one with the same key.
use Rattle.std.specs.Prelude.{ℕ, List, ◌∷◌, map, decimal}
use Rattle.jsh_tree.specs.declared.tree.Tree.{Tree}
use Rattle.jsh_tree.specs.declared.tree.Tree.TheVariants as tree
use Rattle.jsh_tree.specs.declared.key.Key.{Key}
use Rattle.jsh_tree.specs.declared.key.Key.TheVariants as key
use Rattle.jsh_tree.specs.declared.name.TypeWritten.{TypeWritten}
use Rattle.jsh_tree.specs.declared.declaration.Parameter.{Parameter}
use Rattle.jsh_tree.specs.declared.expression.Identifier.{Identifier}
use Rattle.jsh_snippet.specs.declared.kinds.Kind.{Kind}
use Rattle.jsh_snippet.specs.declared.kinds.Kind.TheVariants as kind

-- the name of a temporary variable: `$` and its snippet's number
abbrev pub temporary_name : ℕ → List ℕ
temporary_name id = 36 ∷ decimal id

-- the texts of names, without their places
abbrev pub names_of : List Identifier → List (List ℕ)
names_of identifiers = map (λ (identifier : Identifier). identifier.name) identifiers

-- the types of parameters as they are written, by simple name and dimensions
abbrev pub parameter_types : List Parameter → List TypeWritten
parameter_types parameters = map (λ (parameter : Parameter). parameter.written.written) parameters

-- of an expression: a variable's where the kind says that it makes a temporary, and its run's else
abbrev pub expression_key : Kind → ℕ → Key
expression_key kind.Var id = key.OfVar (temporary_name id)
expression_key _ id = key.OfRun id

-- the key of a snippet with this number, whose kind at its entry counts for an expression alone. A statement and an expression that
-- declares nothing have the key of their run.
unfoldable pub key_of : Kind → ℕ → Tree → Key
key_of of id (tree.Import import) = key.OfImport import.is_static (names_of import.parts) import.on_demand
key_of of id (tree.Class class) = key.OfType class.name.name
key_of of id (tree.Interface interface) = key.OfType interface.name.name
key_of of id (tree.Method method) = key.OfMethod method.name.name (parameter_types method.parameters)
key_of of id (tree.Variable modifiers variable) = key.OfVar variable.name.name
key_of of id (tree.Block block) = key.OfRun id
key_of of id (tree.Statement statement) = key.OfRun id
key_of of id (tree.Expression e) = expression_key of id
