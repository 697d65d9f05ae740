-- Reading items from left to right.
use Rattle.std.specs.Prelude.{◌≡◌, ℕ, ◌==◌, ◌||◌, List, [], ◌∷◌, length, take, drop, Option, Some, None, Result, Ok, Err, nat_lt, if◌then◌else◌}
use Rattle.std.specs.Int.{Width, w16, w32, w64, byte_len, from_be_bytes}
use Rattle.std.specs.Str.{is_utf8}
use Rattle.jsh_tree.specs.Text.{most_source}
use Rattle.jsh_snippet.specs.declared.acts.Act.{Act}
use Rattle.jsh_snippet.specs.declared.acts.Act.TheVariants as act
use Rattle.jsh_snippet.specs.declared.acts.Entry.{Entry}
use Rattle.jsh_snippet.specs.declared.acts.Question.{Question}
use Rattle.jsh_snippet.specs.declared.acts.Question.TheVariants as question
use Rattle.jsh_snippet.specs.declared.acts.Target.{Target}
use Rattle.jsh_snippet.specs.declared.acts.Target.TheVariants as target
use Rattle.jsh_replay.specs.declared.halt.Halt.{Halt}
use Rattle.jsh_replay.specs.declared.halt.Halt.TheVariants as halt

-- what a reader answers, seen by view, is what is read, unless memory ran out
abbrev pub Stops : {Y : Type 0} → Halt → Option Y → Type 0
Stops halt.NoMemory read = Unit {0}
Stops halt.NoItem read = read ≡ None

abbrev pub Gives : {X Y : Type 0} → (X → Y) → Result X Halt → Option Y → Type 0
Gives view (Ok x) read = read ≡ Some (view x)
Gives view (Err why) read = Stops why read

infixl 10 ◌>>=◌
abbrev pub ◌>>=◌ : {A B : Type 0} → Option A → (A → Option B) → Option B
(Some x) >>= f = f x
None >>= f = None

-- Each of these gives what the bytes begin with and the bytes behind it, or None.

abbrev pub number_at : Width → List ℕ → Option (ℕ × List ℕ)
number_at w bytes = if nat_lt (length bytes) (byte_len w) then None else Some (from_be_bytes w (take (byte_len w) bytes), drop (byte_len w) bytes)

-- a text of so many bytes
abbrev pub text_of : ℕ → List ℕ → Option (List ℕ × List ℕ)
text_of len bytes =
    if nat_lt most_source len || nat_lt (length bytes) len then None
    else if is_utf8 (take len bytes) then Some (take len bytes, drop len bytes) else None

unfoldable pub text_at : List ℕ → Option (List ℕ × List ℕ)
text_at bytes = do
  len ← number_at w32 bytes
  text_of len.0 len.1

unfoldable pub target_by : ℕ → List ℕ → Option (Target × List ℕ)
target_by kind bytes =
    if kind == 0 then (do
      id ← number_at w32 bytes
      Some (target.Id id.0, id.1))
    else if kind == 1 then (do
      name ← text_at bytes
      Some (target.Named name.0, name.1))
    else None

unfoldable pub target_at : List ℕ → Option (Target × List ℕ)
target_at [] = None
target_at (kind ∷ bytes) = target_by kind bytes

-- a question that has no text
unfoldable pub plain_question : ℕ → Option Question
plain_question kind =
    if kind == 0 then Some question.List
    else if kind == 1 then Some question.ListAll
    else if kind == 2 then Some question.Vars
    else if kind == 3 then Some question.Methods
    else if kind == 4 then Some question.Types
    else if kind == 5 then Some question.Imports
    else if kind == 6 then Some question.Threads
    else if kind == 7 then Some question.Help
    else None

unfoldable pub question_by : ℕ → List ℕ → Option (Question × List ℕ)
question_by kind bytes =
    if kind == 8 then (do
      text ← text_at bytes
      Some (question.Complete text.0, text.1))
    else if kind == 9 then (do
      line ← text_at bytes
      Some (question.Invalid line.0, line.1))
    else (do
      plain ← plain_question kind
      Some (plain, bytes))

unfoldable pub question_at : List ℕ → Option (Question × List ℕ)
question_at [] = None
question_at (kind ∷ bytes) = question_by kind bytes

unfoldable pub submit_at : List ℕ → Option (Act × List ℕ)
submit_at bytes = do
  source ← text_at bytes
  Some (act.Submit source.0, source.1)

unfoldable pub turn_at : List ℕ → Option (Act × List ℕ)
turn_at bytes = do
  thread ← number_at w32 bytes
  steps ← number_at w16 thread.1
  Some (act.Turn thread.0 steps.0, steps.1)

unfoldable pub collect_at : List ℕ → Option (Act × List ℕ)
collect_at bytes = do
  run ← number_at w32 bytes
  Some (act.Collect run.0, run.1)

unfoldable pub expire_at : List ℕ → Option (Act × List ℕ)
expire_at bytes = do
  run ← number_at w32 bytes
  steps ← number_at w64 run.1
  Some (act.Expire run.0 steps.0, steps.1)

unfoldable pub stop_at : List ℕ → Option (Act × List ℕ)
stop_at bytes = do
  run ← number_at w32 bytes
  Some (act.Stop run.0, run.1)

unfoldable pub drop_at : List ℕ → Option (Act × List ℕ)
drop_at bytes = do
  what ← target_at bytes
  Some (act.Drop what.0, what.1)

unfoldable pub ask_at : List ℕ → Option (Act × List ℕ)
ask_at bytes = do
  what ← question_at bytes
  Some (act.Ask what.0, what.1)

-- an act by its tag
unfoldable pub act_by : ℕ → List ℕ → Option (Act × List ℕ)
act_by kind bytes =
    if kind == 1 then Some (act.Enter, bytes)
    else if kind == 2 then submit_at bytes
    else if kind == 3 then turn_at bytes
    else if kind == 4 then collect_at bytes
    else if kind == 5 then expire_at bytes
    else if kind == 6 then stop_at bytes
    else if kind == 7 then drop_at bytes
    else if kind == 8 then ask_at bytes
    else if kind == 9 then Some (act.Reset, bytes)
    else if kind == 10 then Some (act.Leave, bytes)
    else if kind == 11 then Some (act.Close, bytes)
    else None

unfoldable pub entry_at : List ℕ → Option (Entry × List ℕ)
entry_at (kind ∷ client ∷ bytes) = do
  what ← act_by kind bytes
  Some (record { client = client; act = what.0 }, what.1)
entry_at _ = None

-- what stands behind the end mark of so many entries
unfoldable pub behind_end : ℕ → List ℕ → Option (List ℕ)
behind_end count [] = None
behind_end count (mark ∷ bytes) =
    if mark == 255 then (do
      told ← number_at w32 bytes
      if told.0 == count then Some told.1 else None)
    else None
