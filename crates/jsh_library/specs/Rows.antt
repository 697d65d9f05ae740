-- What a row of the table is made of.
use Rattle.std.specs.Prelude.{ℕ, true, false, List, [], ◌∷◌, map, codes, Option, Some, None, option_map}
use Rattle.jsh_tree.specs.declared.name.TypeWritten.{TypeWritten}
use Rattle.jsh_tree.specs.declared.key.Signature.{Signature}
use Rattle.jsh_tree.specs.declared.expression.Literal.{Literal}
use Rattle.jsh_tree.specs.declared.library.LibraryMethod.{LibraryMethod}
use Rattle.jsh_tree.specs.declared.library.LibraryConstant.{LibraryConstant}
use Rattle.jsh_tree.specs.declared.library.LibraryType.{LibraryType}
use Rattle.jsh_library.specs.declared.rows.Word.{Word}
use Rattle.jsh_library.specs.declared.rows.Word.TheVariants.{Int, Long, Char, Boolean, String, Object, Runnable}

abbrev pub text_of : Word → List ℕ
text_of Int = codes "int"
text_of Long = codes "long"
text_of Char = codes "char"
text_of Boolean = codes "boolean"
text_of String = codes "String"
text_of Object = codes "Object"
text_of Runnable = codes "Runnable"

abbrev pub written : Word → TypeWritten
written word = record { name = text_of word; dims = 0 }

-- a method with its parameter types and its result, where it has one
abbrev pub signature : List ℕ → List Word → Option Word → Signature
signature name params gives = record { name = name; result = option_map written gives; params = map written params; is_abstract = false }

-- a method that is called on an object
abbrev pub method : List ℕ → List Word → Word → LibraryMethod
method name params gives = record { is_static = false; signature = signature name params (Some gives) }

-- one without a result
abbrev pub void_method : List ℕ → List Word → LibraryMethod
void_method name params = record { is_static = false; signature = signature name params None }

-- a static method (JLS 8.4.3.2)
abbrev pub static_method : List ℕ → List Word → Word → LibraryMethod
static_method name params gives = record { is_static = true; signature = signature name params (Some gives) }

-- a static field that is a constant (JLS 4.12.4)
abbrev pub constant : List ℕ → Word → Literal → LibraryConstant
constant name word value = record { name = name; written = written word; value = value }

-- a class of java.lang with its superclass, without members
abbrev pub class_row : List ℕ → List ℕ → LibraryType
class_row name parent = record {
  «package» = codes "java.lang";
  name = name;
  is_interface = false;
  is_final = false;
  is_abstract = false;
  extends = Some parent;
  implements = [];
  constructors = [];
  methods = [];
  constants = [];
}

-- a class that is final, below Object
abbrev pub final_row : List ℕ → LibraryType
final_row name = record (class_row name (codes "Object")) { is_final = true }

-- a throwable, with the constructors that each has (JLS 11.1.1)
abbrev pub throwable : List ℕ → List ℕ → LibraryType
throwable name parent = record (class_row name parent) { constructors = [] ∷ (written String ∷ []) ∷ [] }
