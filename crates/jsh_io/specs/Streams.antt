-- Which stream of a desk an output is.
use Rattle.std.specs.Prelude.{◌≡◌, ℕ, List, Option, IfSome}

-- the standard stream, or the file of a name
pub data StreamName : Type 0 where
  StandardStream : StreamName
  FileNamed : List ℕ → StreamName

-- a sink that tells its name is this stream
abbrev pub IsStreamWhereTold : Option StreamName → StreamName → Type 0
IsStreamWhereTold told name = IfSome told (λ stream. stream ≡ name)
