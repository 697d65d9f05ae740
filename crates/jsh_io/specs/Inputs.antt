-- What a desk has to read, and what each opening takes of it.
use Rattle.std.specs.Prelude.{◌≡◌, ℕ, List, [], ◌∷◌, Option, None, Some, IfSome, not, filter, if◌then◌else◌}
use Rattle.std.specs.Str.{bytes_eq}

-- the standard input, until it is taken, and the files that are left, each a name with its bytes
pub record Inputs : Type 0 where
  pub standard : Option (List ℕ)
  pub files : List (List ℕ × List ℕ)

-- the bytes of the file of this name
abbrev pub bytes_of : List ℕ → List (List ℕ × List ℕ) → Option (List ℕ)
bytes_of name [] = None
bytes_of name (file ∷ files) = if bytes_eq name file.0 then Some file.1 else bytes_of name files

-- the files of any other name
abbrev pub others : List ℕ → List (List ℕ × List ℕ) → List (List ℕ × List ℕ)
others name files = filter (λ file. not (bytes_eq name file.0)) files

-- what is left once the standard input is taken
abbrev pub without_standard : Inputs → Inputs
without_standard inputs = record { standard = None; files = inputs.files }

-- what is left once the file of this name is taken
abbrev pub without_file : List ℕ → Inputs → Inputs
without_file name inputs = record { standard = inputs.standard; files = others name inputs.files }

-- a sink that tells its bytes holds none
abbrev pub IsEmptyWhereTold : Option (List ℕ) → Type 0
IsEmptyWhereTold held = IfSome held (λ bytes. bytes ≡ [])
