-- Lists of values by name.
use Rattle.std.specs.Prelude.{ℕ, Bool, List, [], ◌∷◌, Option, None, Some, not, filter, if◌then◌else◌, string_bytes}
use Rattle.std.specs.Str.{bytes_eq}
use Rattle.jsh_io.specs.declared.named.Named.{Named}

-- the value has this name
abbrev pub is_named : {T : Type 0} → List ℕ → Named T → Bool
is_named name value = bytes_eq name (string_bytes value.name)

-- the first value of this name
abbrev pub first_named : {T : Type 0} → List ℕ → List (Named T) → Option T
first_named name [] = None
first_named name (value ∷ values) = if is_named name value then Some value.value else first_named name values

-- the values of any other name
abbrev pub others_named : {T : Type 0} → List ℕ → List (Named T) → List (Named T)
others_named name values = filter (λ value. not (is_named name value)) values
