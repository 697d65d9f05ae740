-- The kinds of values.
use Rattle.std.specs.Prelude.{ℕ, List, codes}
use Rattle.jsh_text.specs.declared.value.Value.{Value}
use Rattle.jsh_text.specs.declared.value.Value.TheVariants as value
use Rattle.jsh_text.specs.declared.value.KindName.{KindName}
use Rattle.jsh_text.specs.declared.value.KindName.TheVariants as kind

-- the kind of a value has the name of its variant
abbrev pub kind_of : Value → KindName
kind_of (value.Int n) = kind.Int
kind_of (value.Long n) = kind.Long
kind_of (value.Char unit) = kind.Char
kind_of (value.Boolean b) = kind.Boolean
kind_of (value.Text text) = kind.Text
kind_of (value.Ref object) = kind.Ref
kind_of value.Null = kind.Null

-- the name of a kind as it is printed
abbrev pub kind_text : KindName → List ℕ
kind_text kind.Int = codes "int"
kind_text kind.Long = codes "long"
kind_text kind.Char = codes "char"
kind_text kind.Boolean = codes "boolean"
kind_text kind.Text = codes "text"
kind_text kind.Ref = codes "ref"
kind_text kind.Null = codes "null"
