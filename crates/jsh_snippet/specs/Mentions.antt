-- Which type names a header mentions.
use Rattle.std.specs.Prelude.{ℕ, Bool, List, [], ◌∷◌, ◌++◌, Option, Some, None, if◌then◌else◌, nat_eq, codes}
use Rattle.std.specs.List.{flat_map, list_any}
use Rattle.std.specs.Cmp.Lexicographic.{pointwise}
use Rattle.jsh_tree.specs.declared.key.Header.{Header}
use Rattle.jsh_tree.specs.declared.key.Header.TheVariants as header
use Rattle.jsh_tree.specs.declared.key.Field.{Field}
use Rattle.jsh_tree.specs.declared.key.Signature.{Signature}
use Rattle.jsh_tree.specs.declared.name.TypeWritten.{TypeWritten}

-- the words of the primitive types (JLS 4.2)
abbrev pub is_primitive_word : List ℕ → Bool
is_primitive_word name = list_any (pointwise nat_eq name) (codes "int" ∷ codes "long" ∷ codes "char" ∷ codes "boolean" ∷ [])

-- the name that a written type mentions, if it isn't such a word
abbrev pub in_type : TypeWritten → List (List ℕ)
in_type type = if is_primitive_word type.name then [] else type.name ∷ []

abbrev pub in_types : List TypeWritten → List (List ℕ)
in_types types = flat_map in_type types

-- a result, which is None for `void`
abbrev pub in_result : Option TypeWritten → List (List ℕ)
in_result None = []
in_result (Some type) = in_type type

abbrev pub in_field : Field → List (List ℕ)
in_field field = in_type field.written

-- the result comes before the parameters
abbrev pub in_signature : Signature → List (List ℕ)
in_signature signature = in_result signature.result ++ in_types signature.params

-- The type names of a header, in order and as often as they stand there: supertypes, fields, methods, constructors.
unfoldable pub mentions : Header → List (List ℕ)
mentions (header.OfType interface is_abstract name extends implements fields methods constructors) =
    extends ++ implements ++ flat_map in_field fields ++ flat_map in_signature methods ++ flat_map in_types constructors
mentions (header.OfMethod result params) = in_result result ++ in_types params
mentions (header.OfVar type) = in_type type
mentions header.Empty = []
