-- What is made of the rows of the code.
use Rattle.std.specs.Prelude.{ℕ, true, false, List, [], map, None, option_map}
use denote.Ref.{Bor}
use Rattle.jsh_tree.specs.declared.name.TypeWritten.{TypeWritten}
use Rattle.jsh_tree.specs.declared.key.Signature.{Signature}
use Rattle.jsh_tree.specs.declared.expression.Literal.TheVariants as literal
use Rattle.jsh_tree.specs.declared.library.LibraryMethod.{LibraryMethod}
use Rattle.jsh_tree.specs.declared.library.LibraryConstant.{LibraryConstant}
use Rattle.jsh_tree.specs.declared.library.LibraryType.{LibraryType}
use Rattle.jsh_library.specs.declared.rows.Word.{Word}
use Rattle.jsh_library.specs.declared.rows.Word.TheVariants as word
use Rattle.jsh_library.specs.declared.rows.MethodRow.{MethodRow}
use Rattle.jsh_library.specs.declared.rows.MethodRow.TheVariants.{Own, Void, Abstract, Static}
use Rattle.jsh_library.specs.declared.rows.ConstantRow.{ConstantRow}
use Rattle.jsh_library.specs.declared.rows.ConstantRow.TheVariants as constants
use Rattle.jsh_library.specs.declared.rows.OtherRow.{OtherRow}
use Rattle.jsh_library.specs.declared.rows.TypeRow.{TypeRow}
use Rattle.jsh_library.specs.declared.rows.TypeRow.TheVariants.{Throwable, Final, Other}
use Rattle.jsh_library.specs.Rows.{written, signature, method, void_method, static_method, constant, final_row, throwable}

abbrev pub text : Bor (List ℕ) → List ℕ
text name = name.now

abbrev pub list_of : Bor (List Word) → List TypeWritten
list_of words = map written words.now

abbrev pub method_of : MethodRow → LibraryMethod
method_of (Own name params gives) = method name.now params.now gives
method_of (Void name params) = void_method name.now params.now
method_of (Abstract name params) =
    record { is_static = false; signature = record (signature name.now params.now None) { is_abstract = true } }
method_of (Static name params gives) = static_method name.now params.now gives

abbrev pub signature_of : MethodRow → Signature
signature_of row = (method_of row).signature

abbrev pub constant_of : ConstantRow → LibraryConstant
constant_of (constants.Int name value) = constant name.now word.Int (literal.Int value false)
constant_of (constants.Long name value) = constant name.now word.Long (literal.Long value false)

abbrev pub final_of : List ℕ → List MethodRow → List ConstantRow → LibraryType
final_of name own fixed = record (final_row name) { methods = map method_of own; constants = map constant_of fixed }

abbrev pub other_of : OtherRow → LibraryType
other_of row = record {
  «package» = row.qualifier.now;
  name = row.name.now;
  is_interface = row.is_interface;
  is_final = row.is_final;
  is_abstract = row.is_abstract;
  extends = option_map text row.extends;
  implements = map text row.implements.now;
  constructors = map list_of row.constructors.now;
  methods = map method_of row.methods.now;
  constants = [];
}

abbrev pub type_of : TypeRow → LibraryType
type_of (Throwable name parent) = throwable name.now parent.now
type_of (Final name own fixed) = final_of name.now own.now fixed.now
type_of (Other row) = other_of row
