-- What is said of a snippet that is rejected.
use Rattle.std.specs.Prelude.{ℕ, List, [], ◌++◌, Option, None, Some, codes, decimal}
use Rattle.jsh_tree.specs.declared.diagnostic.Code.{Code}
use Rattle.jsh_tree.specs.declared.diagnostic.Code.TheVariants as code
use Rattle.jsh_tree.specs.declared.diagnostic.Diagnostic.{Diagnostic}
use Rattle.jsh_render.specs.declared.place.Position.{Position}
use Rattle.jsh_render.specs.Place.{position_of}

-- what is wrong, in words, with the name in question where the words have one
abbrev pub code_text : Code → List ℕ → List ℕ
code_text code.NoSnippet name = codes "one snippet is needed"
code_text code.BadToken name = codes "bad token"
code_text code.Unexpected name = codes "unexpected text"
code_text code.TooDeep name = codes "nested too deep"
code_text code.NumberTooBig name = codes "number too big"
code_text code.Unresolved name = codes "cannot find " ++ name
code_text code.NoMember name = codes "no member " ++ name
code_text code.Mismatch name = codes "wrong type"
code_text code.BadOperand name = codes "bad operand"
code_text code.NotApplicable name = codes "no " ++ name ++ codes " fits the arguments"
code_text code.Ambiguous name = codes "call of " ++ name ++ codes " is ambiguous"
code_text code.TextEquality name = codes "texts are compared by equals"
code_text code.Duplicate name = name ++ codes " is declared twice"
code_text code.BadModifier name = codes "modifier " ++ name ++ codes " not allowed here"
code_text (code.SuperRule number) name = codes "super rule S" ++ decimal number ++ codes " is broken"
code_text code.BadImport name = name ++ codes " cannot be imported"
code_text code.AbstractNew name = name ++ codes " is abstract"
code_text code.Misplaced name = codes "not allowed here"
code_text code.NotAssigned name = name ++ codes " might not be assigned"
code_text code.Unreachable name = codes "unreachable statement"
code_text code.MissingReturn name = codes "missing return"
code_text code.NotYet name = codes "not built yet"

-- the name in question, and nothing where a diagnostic has none
abbrev pub name_of : Option (List ℕ) → List ℕ
name_of None = []
name_of (Some name) = name

-- what is wrong
abbrev pub diagnostic_text : Diagnostic → List ℕ
diagnostic_text diagnostic = code_text diagnostic.code (name_of diagnostic.name)

-- `|  Error at 1:1: not built yet`
abbrev pub error_text : Position → List ℕ → List ℕ
error_text at text = codes "|  Error at " ++ decimal at.line ++ codes ":" ++ decimal at.column ++ codes ": " ++ text ++ codes "\n"

-- the line of a diagnostic in a source
abbrev pub error_line : List ℕ → Diagnostic → List ℕ
error_line source diagnostic = error_text (position_of source diagnostic.place) (diagnostic_text diagnostic)
