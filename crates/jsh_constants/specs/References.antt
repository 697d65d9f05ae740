-- Texts of values, and when two references are one.
use Rattle.std.specs.Prelude.{ℕ, Bool, true, false, ◌==◌, ◌&&◌, if◌then◌else◌, List, [], ◌∷◌, codes, Option, Some, None}
use Rattle.std.specs.Fmt.{signed_decimal}
use Rattle.std.specs.Str.{bytes_eq}
use Rattle.jsh_text.specs.declared.value.Value.{Value}
use Rattle.jsh_text.specs.declared.value.Value.TheVariants as value

-- the text of a value (JLS 5.1.11); that of an object is what its `toString` gives
abbrev pub text_of : Value → Option (List ℕ)
text_of (value.Int n) = Some (signed_decimal n)
text_of (value.Long n) = Some (signed_decimal n)
text_of (value.Char c) = Some (c ∷ [])
text_of (value.Boolean b) = Some (if b then codes "true" else codes "false")
text_of (value.Text units) = Some units
text_of value.Null = Some (codes "null")
text_of (value.Ref object) = None

-- a reference: null, an object's number or a text
abbrev pub is_reference : Value → Bool
is_reference value.Null = true
is_reference (value.Ref object) = true
is_reference (value.Text units) = true
is_reference _ = false

-- Two references are one (JLS 15.21.3); a text is its units. None for what is no reference.
abbrev pub same_reference : Value → Value → Option Bool
same_reference value.Null value.Null = Some true
same_reference (value.Ref a) (value.Ref b) = Some (a == b)
same_reference (value.Text a) (value.Text b) = Some (bytes_eq a b)
same_reference v w = if is_reference v && is_reference w then Some false else None
