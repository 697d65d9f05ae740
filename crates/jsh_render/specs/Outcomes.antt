-- What is said of a run that is over.
use Rattle.std.specs.Prelude.{ℕ, ◌-◌, Bool, ◌==◌, List, [], ◌∷◌, ◌++◌, length, slice_index, Option, None, Some, codes, decimal, if◌then◌else◌}
use Rattle.std.specs.List.{flat_map}
use Rattle.jsh_text.specs.Utf.{utf8}
use Rattle.jsh_text.specs.Value.{kind_text}
use Rattle.jsh_snippet.specs.declared.replies.Collected.{Collected}
use Rattle.jsh_snippet.specs.declared.replies.Collected.TheVariants as «collected»
use Rattle.jsh_snippet.specs.declared.replies.Outcome.{Outcome}
use Rattle.jsh_snippet.specs.declared.replies.Outcome.TheVariants as outcome
use Rattle.jsh_render.specs.Names.{names_text}

-- `$1 ==> 3`, and `3` alone where there is no name
abbrev pub value_line : List ℕ → List ℕ → List ℕ
value_line [] text = utf8 text ++ codes "\n"
value_line name text = utf8 name ++ codes " ==> " ++ utf8 text ++ codes "\n"

-- the message of an exception that has one
abbrev pub message_text : Option (List ℕ) → List ℕ
message_text None = []
message_text (Some message) = codes ": " ++ utf8 message

-- `|  Exception java.lang.ArithmeticException: / by zero`
abbrev pub thrown_line : List ℕ → Option (List ℕ) → List ℕ
thrown_line class message = codes "|  Exception " ++ utf8 class ++ message_text message ++ codes "\n"

-- of what has code, a method's name ends with `)`, and a type's doesn't
abbrev pub is_method_name : List ℕ → Bool
is_method_name name = slice_index name (length name - 1) == 41

-- `call f()`, `use class A`
abbrev pub attempt : List ℕ → List ℕ
attempt name = (if is_method_name name then codes "call " else codes "use ") ++ utf8 name

-- why it can't be done
abbrev pub reason : List (List ℕ) → List ℕ
reason [] = codes "which has errors"
reason missing = codes "which cannot be invoked until " ++ names_text missing ++ codes " declared"

-- `|  attempted to call f() which cannot be invoked until g and x are declared`
abbrev pub unresolved_line : List ℕ → List (List ℕ) → List ℕ
unresolved_line name missing = codes "|  attempted to " ++ attempt name ++ codes " " ++ reason missing ++ codes "\n"

-- a number behind another one
abbrev pub further_number : ℕ → List ℕ
further_number n = codes ", " ++ decimal n

-- `3, 4`
abbrev pub numbers_text : List ℕ → List ℕ
numbers_text [] = []
numbers_text (first ∷ others) = decimal first ++ flat_map further_number others

-- how a run with this name ended
abbrev pub outcome_line : List ℕ → Outcome → List ℕ
outcome_line name outcome.NoRun = []
outcome_line name outcome.Finished = []
outcome_line name (outcome.Value text) = value_line name text
outcome_line name (outcome.Thrown class message) = thrown_line class message
outcome_line name (outcome.Unresolved id called missing) = unresolved_line called missing
outcome_line name (outcome.Stopped by) = codes "|  stopped by client " ++ decimal by ++ codes "\n"
outcome_line name (outcome.Spent steps) = codes "|  stopped after " ++ decimal steps ++ codes " steps\n"
outcome_line name (outcome.Stalled threads) = codes "|  stalled: " ++ numbers_text threads ++ codes "\n"
outcome_line name (outcome.Wrong wanted found) = codes "|  wrong kind: " ++ kind_text wanted ++ codes ", " ++ kind_text found ++ codes "\n"

-- a run that goes on has no line
abbrev pub collected_line : Collected → List ℕ
collected_line («collected».Over id name outcome) = outcome_line name outcome
collected_line («collected».Running steps) = []
