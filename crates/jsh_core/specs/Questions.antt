-- What a question is answered. It changes nothing.
use Rattle.std.specs.Prelude.{ℕ, ◌+◌, ◌-◌, ◌==◌, List, [], ◌∷◌, ◌++◌, Option, Some, None, Bool, true, false, if◌then◌else◌, codes, decimal, length, filter, map}
use Rattle.std.specs.Option.{option_and_then, option_map_or, option_to_list, unwrap_or}
use Rattle.std.specs.Prelude.{option_map}
use Rattle.std.specs.List.{flat_map, repeat, enumerate_from}
use Rattle.std.specs.Fmt.{signed_decimal}
use Rattle.std.specs.Str.{chars}
use Rattle.jsh_tree.specs.declared.key.Key.{Key}
use Rattle.jsh_tree.specs.declared.key.Key.TheVariants as key
use Rattle.jsh_tree.specs.declared.name.TypeWritten.{TypeWritten}
use Rattle.jsh_text.specs.Utf.{utf16}
use Rattle.jsh_text.specs.declared.value.Value.{Value}
use Rattle.jsh_text.specs.declared.value.Value.TheVariants as value
use Rattle.jsh_snippet.specs.declared.acts.Question.{Question}
use Rattle.jsh_snippet.specs.declared.acts.Question.TheVariants as question
use Rattle.jsh_snippet.specs.declared.kinds.Fate.{Fate}
use Rattle.jsh_snippet.specs.declared.kinds.Fate.TheVariants as fate
use Rattle.jsh_snippet.specs.declared.kinds.Status.{Status}
use Rattle.jsh_snippet.specs.declared.kinds.Status.TheVariants as status
use Rattle.jsh_snippet.specs.declared.records.Record.{Record}
use Rattle.jsh_snippet.specs.declared.replies.Line.{Line}
use Rattle.jsh_snippet.specs.declared.replies.ReplyBody.TheVariants as body
use Rattle.jsh_snippet.specs.Names.{type_text, units}
use Rattle.jsh_sched.specs.declared.ThreadState.{ThreadState}
use Rattle.jsh_sched.specs.declared.ThreadState.TheVariants as thread_state
use Rattle.jsh_core.specs.declared.generation.Live.{Live}
use Rattle.jsh_core.specs.declared.world.Thread.{Thread}
use Rattle.jsh_core.specs.State.{State, World, Acted, answers, numbered}
use Rattle.jsh_core.specs.Cells.{cell_value}
use Rattle.jsh_core.specs.Generations.{link_of}

abbrev pub line_of : List ℕ → Line
line_of text = record { text = text }

-- a number, right in so many places
abbrev pub right : ℕ → ℕ → List ℕ
right places number = repeat (places - length (decimal number)) (32 ∷ []) ++ decimal number

-- a line feed, and behind it the blanks that a further line of a source begins with
abbrev pub further_line : ℕ → List ℕ
further_line unit = if unit == 10 then 10 ∷ codes "       " else unit ∷ []

-- a source in a list, its further lines behind seven blanks
abbrev pub indented : List ℕ → List ℕ
indented source = flat_map further_line (units source)

-- `   1 : int x = 1;`
abbrev pub record_line : Record → Line
record_line r = line_of (right 4 r.id ++ codes " : " ++ indented r.source)

-- a record that is in force, or that was done
abbrev pub is_listed : Record → Bool
is_listed r = by r.fate
  where
    by : Fate → Bool
    by fate.Live = true
    by fate.Done = true
    by _ = false

abbrev pub list_lines : State → List Line
list_lines s = map record_line (filter is_listed s.book)

abbrev pub all_lines : State → List Line
all_lines s = map record_line s.book

-- The text of a value that a variable may have so far. The others aren't built yet.
abbrev pub value_text : Value → List ℕ
value_text (value.Int v) = signed_decimal v
value_text _ = []

-- the type of a variable that is fixed with its record
abbrev pub fixed_type : State → ℕ → List ℕ
fixed_type s id = option_map_or type_text (option_and_then (λ (r : Record). r.fixed) (numbered s.book id)) []

-- the text of what a declaration's variable holds
abbrev pub shown_value : World → Live → List ℕ
shown_value w live = option_map_or value_text (option_and_then (λ link. cell_value link w.cells) (link_of live)) (codes "(not-active)")

-- `|    int $1 = 3`, for a variable
abbrev pub variable_line : State → Live → List Line
variable_line s live = by live.key
  where
    by : Key → List Line
    by (key.OfVar name) =
        line_of (codes "|    " ++ fixed_type s live.id ++ codes " " ++ units name ++ codes " = " ++ shown_value s.world live) ∷ []
    by _ = []

abbrev pub variable_lines : State → List Line
variable_lines s = flat_map (variable_line s) s.generation.live

-- the state of a thread that is alive
abbrev pub state_text : ThreadState → Option (List ℕ)
state_text thread_state.Ready = Some (codes "READY")
state_text (thread_state.Joining other) = Some (codes "JOINING " ++ decimal other)
state_text thread_state.Ended = None
state_text thread_state.Stopped = None

-- `|    3 client 1 READY`
abbrev pub thread_line : ℕ → Thread → List ℕ → Line
thread_line number thread state = line_of (codes "|    " ++ decimal number ++ codes " client " ++ decimal thread.owner ++ codes " " ++ state)

-- one line for each thread that is alive, where the first has this number
abbrev pub thread_lines_from : ℕ → List ThreadState → List Thread → List Line
thread_lines_from first (state ∷ states) (thread ∷ threads) =
    option_to_list (option_map (thread_line first thread) (state_text state)) ++ thread_lines_from (first + 1) states threads
thread_lines_from first _ _ = []

abbrev pub thread_lines : World → List Line
thread_lines w = thread_lines_from 1 w.states w.threads

abbrev pub help_line : Line
help_line = line_of (codes "|  /list /vars /methods /types /imports /threads /complete /drop /stop /reset /exit")

-- `|  Invalid command: /foo`, the answer to a line that is no command
abbrev pub invalid_line : List ℕ → Line
invalid_line line = line_of (codes "|  Invalid command: " ++ units line)

-- The lines that answer a question. No snippet declares a method, a type or an import yet. Suggestions aren't built yet, and are asked for
-- in no history.
abbrev pub answer_lines : State → Question → List Line
answer_lines s question.List = list_lines s
answer_lines s question.ListAll = all_lines s
answer_lines s question.Vars = variable_lines s
answer_lines s question.Methods = []
answer_lines s question.Types = []
answer_lines s question.Imports = []
answer_lines s question.Threads = thread_lines s.world
answer_lines s question.Help = help_line ∷ []
answer_lines s (question.Complete text) = []
answer_lines s (question.Invalid line) = invalid_line line ∷ []

abbrev pub asked : State → Question → Acted
asked s what = answers s (body.Answered (answer_lines s what))

-- the questions that are answered so far
abbrev pub IsAnswered : Question → Type 0
IsAnswered (question.Complete text) = ⊥
IsAnswered _ = Unit {0}

-- the bytes of text that a question has
abbrev pub question_text : Question → List ℕ
question_text (question.Complete text) = text
question_text (question.Invalid line) = line
question_text _ = []
