-- What imports give (JLS 7.5), by a library. A library type has its simple name and that of its package.
use Rattle.std.specs.Prelude.{ℕ, Bool, List, [], ◌∷◌, ◌++◌, ◌-◌, Option, Some, None, option_map, if◌then◌else◌, length, take, codes, ◌&&◌, slice_get}
use Rattle.std.specs.Option.{option_or}
use Rattle.std.specs.List.{flat_map, find}
use Rattle.jsh_tree.specs.declared.key.Key.{Key}
use Rattle.jsh_tree.specs.declared.key.Key.TheVariants as key
use Rattle.jsh_tree.specs.declared.library.Library.{Library}
use Rattle.jsh_tree.specs.declared.library.LibraryType.{LibraryType}
use Rattle.jsh_tree.specs.declared.library.LibraryMethod.{LibraryMethod}
use Rattle.jsh_tree.specs.declared.library.LibraryConstant.{LibraryConstant}
use Rattle.jsh_tree.specs.declared.library.Member.{Member}
use Rattle.jsh_scope.specs.declared.imported.Imported.{Imported}
use Rattle.jsh_scope.specs.declared.imported.Imported.TheVariants as imported
use Rattle.jsh_scope.specs.declared.answers.TypeAnswer.{TypeAnswer}
use Rattle.jsh_scope.specs.declared.answers.TypeAnswer.TheVariants as type_answer
use Rattle.jsh_scope.specs.declared.answers.VarAnswer.{VarAnswer}
use Rattle.jsh_scope.specs.declared.answers.VarAnswer.TheVariants as var_answer
use Rattle.jsh_scope.specs.declared.answers.MethodAnswer.{MethodAnswer}
use Rattle.jsh_scope.specs.declared.answers.MethodAnswer.TheVariants as method_answer
use Rattle.jsh_scope.specs.Scope.{same_name}

-- a name with a dot before it
abbrev pub further_part : List ℕ → List ℕ
further_part part = codes "." ++ part

-- names with a dot between each two
abbrev pub joined : List (List ℕ) → List ℕ
joined [] = []
joined (first ∷ rest) = first ++ flat_map further_part rest

abbrev pub last_part : List (List ℕ) → Option (List ℕ)
last_part parts = slice_get parts (length parts - 1)

abbrev pub all_but_last : List (List ℕ) → List (List ℕ)
all_but_last parts = take (length parts - 1) parts

-- `import package.name;` (JLS 7.5.1)
abbrev pub single_type_import : List ℕ → Option (List ℕ) → List Imported
single_type_import qualifier None = []
single_type_import qualifier (Some name) = imported.OfType qualifier name ∷ []

-- `import static package.type.*;` (JLS 7.5.4)
abbrev pub static_import_on_demand : List ℕ → Option (List ℕ) → List Imported
static_import_on_demand qualifier None = []
static_import_on_demand qualifier (Some type) = imported.OfStatics qualifier type ∷ []

-- `import static package.type.name;` (JLS 7.5.3)
abbrev pub single_static_import : List ℕ → Option (List ℕ) → Option (List ℕ) → List Imported
single_static_import qualifier None _ = []
single_static_import qualifier (Some type) None = []
single_static_import qualifier (Some type) (Some name) = imported.OfStatic qualifier type name ∷ []

-- an import that isn't static
abbrev pub type_import : List (List ℕ) → Bool → List Imported
type_import parts on_demand = if on_demand then imported.OfPackage (joined parts) ∷ [] else single_type_import (joined (all_but_last parts)) (last_part parts)

abbrev pub static_import : List (List ℕ) → Bool → List Imported
static_import parts on_demand =
    if on_demand
    then static_import_on_demand (joined (all_but_last parts)) (last_part parts)
    else single_static_import (joined (all_but_last (all_but_last parts))) (last_part (all_but_last parts)) (last_part parts)

-- the import that a key is; one with too few parts is none
abbrev pub import_in : Key → List Imported
import_in (key.OfImport is_static parts on_demand) = if is_static then static_import parts on_demand else type_import parts on_demand
import_in _ = []

-- the live imports, by rising id
unfoldable pub imports_of : List Member → List Imported
imports_of members = flat_map (λ (member : Member). import_in member.key) members

-- what the import with the greatest id gives, of those that give something
abbrev pub last_given : {A : Type 0} → (Imported → Option A) → List Imported → Option A
last_given given [] = None
last_given given (first ∷ rest) = option_or (last_given given rest) (given first)

-- the first of two lists that has something
abbrev pub first_nonempty : {A : Type 0} → List A → List A → List A
first_nonempty [] others = others
first_nonempty (first ∷ rest) others = first ∷ rest

-- the type has both names
abbrev pub is_named : List ℕ → List ℕ → LibraryType → Bool
is_named qualifier name type = same_name type.package qualifier && same_name type.name name

-- the constant of this name of a type
abbrev pub constant_in : List ℕ → Option LibraryType → Option VarAnswer
constant_in name None = None
constant_in name (Some type) =
    option_map (λ (constant : LibraryConstant). var_answer.Library (record { of = type; constant = constant })) (find (λ (constant : LibraryConstant). same_name constant.name name) type.constants)

-- a method, where it is static and has this name
abbrev pub static_method : List ℕ → LibraryType → LibraryMethod → List MethodAnswer
static_method name type method =
    if method.is_static && same_name method.signature.name name then method_answer.Library (record { of = type; method = method }) ∷ [] else []

-- the static methods of this name of a type
abbrev pub methods_in : List ℕ → Option LibraryType → List MethodAnswer
methods_in name None = []
methods_in name (Some type) = flat_map (static_method name type) type.methods

module _ (library : Library) where
  abbrev pub named : List ℕ → List ℕ → Option LibraryType
  named qualifier name = find (is_named qualifier name) library.types

  abbrev pub type_in : List ℕ → List ℕ → Option TypeAnswer
  type_in qualifier name = option_map (λ (type : LibraryType). type_answer.Library type) (named qualifier name)

  module _ (name : List ℕ) where
    abbrev pub single_type : Imported → Option TypeAnswer
    single_type (imported.OfType qualifier found) = if same_name found name then type_in qualifier name else None
    single_type _ = None

    abbrev pub type_on_demand : Imported → Option TypeAnswer
    type_on_demand (imported.OfPackage qualifier) = type_in qualifier name
    type_on_demand _ = None

    abbrev pub single_constant : Imported → Option VarAnswer
    single_constant (imported.OfStatic qualifier type found) = if same_name found name then constant_in name (named qualifier type) else None
    single_constant _ = None

    abbrev pub constant_on_demand : Imported → Option VarAnswer
    constant_on_demand (imported.OfStatics qualifier type) = constant_in name (named qualifier type)
    constant_on_demand _ = None

    abbrev pub single_methods : Imported → List MethodAnswer
    single_methods (imported.OfStatic qualifier type found) = if same_name found name then methods_in name (named qualifier type) else []
    single_methods _ = []

    abbrev pub methods_on_demand : Imported → List MethodAnswer
    methods_on_demand (imported.OfStatics qualifier type) = methods_in name (named qualifier type)
    methods_on_demand _ = []

    -- a type of the library: by a single import, else by one on demand, else of `java.lang` (JLS 6.4.1, 7.3)
    unfoldable pub imported_type : List Imported → Option TypeAnswer
    imported_type imports = option_or (last_given single_type imports) (option_or (last_given type_on_demand imports) (type_in (codes "java.lang") name))

    -- a constant of the library: by a single import, else by one on demand
    unfoldable pub imported_constant : List Imported → Option VarAnswer
    imported_constant imports = option_or (last_given single_constant imports) (last_given constant_on_demand imports)

    -- static methods of the library: of all single imports, else of all on demand
    unfoldable pub imported_methods : List Imported → List MethodAnswer
    imported_methods imports = first_nonempty (flat_map single_methods imports) (flat_map methods_on_demand imports)
