-- Histories: the lists of entries that an engine may have, and what they come to.
use Rattle.std.specs.Prelude.{◌≡◌, ℕ, ◌+◌, ◌<◌, ◌≤◌, List, [], ◌∷◌, ◌++◌, Option, Some, Bool, true, false, length, slice_get, sum_by, position}
use Rattle.std.specs.List.{list_any}
use Rattle.jsh_tree.specs.Text.{most_source}
use Rattle.jsh_lex.specs.Spelling.{is_identifier}
use Rattle.jsh_snippet.specs.declared.acts.Act.{Act}
use Rattle.jsh_snippet.specs.declared.acts.Act.TheVariants as act
use Rattle.jsh_snippet.specs.declared.acts.Entry.{Entry}
use Rattle.jsh_snippet.specs.declared.acts.Question.{Question}
use Rattle.jsh_snippet.specs.declared.acts.Target.{Target}
use Rattle.jsh_snippet.specs.declared.acts.Target.TheVariants as target
use Rattle.jsh_snippet.specs.declared.replies.Reply.{Reply}
use Rattle.jsh_core.specs.Limits.{most_bytes, most_entries, most_steps}
use Rattle.jsh_core.specs.State.{State, opening}
use Rattle.jsh_core.specs.Step.{step}
use Rattle.jsh_core.specs.Questions.{question_text, IsAnswered}

-- the state after these entries
abbrev pub state_after : State → List Entry → State
state_after s [] = s
state_after s (entry ∷ entries) = state_after (step s entry).state entries

-- the state of the one-thread engine after a history
abbrev pub state_of : List Entry → State
state_of history = state_after opening history

-- the replies to these entries
abbrev pub replies_after : State → List Entry → List Reply
replies_after s [] = []
replies_after s (entry ∷ entries) = (step s entry).reply ∷ replies_after (step s entry).state entries

abbrev pub replies_of : List Entry → List Reply
replies_of history = replies_after opening history

-- the text of a target: the name by which a snippet is taken back
abbrev pub target_text : Target → List ℕ
target_text (target.Id id) = []
target_text (target.Named name) = name

-- the text that an act hands in
abbrev pub act_text : Act → List ℕ
act_text (act.Submit source) = source
act_text (act.Drop target) = target_text target
act_text (act.Ask question) = question_text question
act_text _ = []

-- the bytes of source that an act has, those of a name and of a question's text among them
abbrev pub act_bytes : Act → ℕ
act_bytes what = length (act_text what)

abbrev pub source_bytes : List Entry → ℕ
source_bytes history = sum_by (λ (entry : Entry). act_bytes entry.act) history

abbrev pub is_close : Act → Bool
is_close act.Close = true
is_close _ = false

-- the place of the close
abbrev pub closed_at : List Entry → Option ℕ
closed_at history = position (λ (entry : Entry). is_close entry.act) history

-- a history has at most so many entries, and behind them leaves and a close
abbrev pub HasRoom : List Entry → Type 0
HasRoom history = length history < most_entries

-- a history has room for an entry with this text
abbrev pub HasRoomFor : List Entry → List ℕ → Type 0
HasRoomFor history text =
    HasRoom history × (length text ≤ most_source) × (source_bytes history + length text ≤ most_bytes)

-- a snippet is taken back by its number, or by a name (JLS 3.8)
abbrev pub IsTarget : Target → Type 0
IsTarget (target.Id id) = Unit {0}
IsTarget (target.Named name) = is_identifier name ≡ true

-- the acts that a client may do after a history
abbrev pub MayDo : List Entry → ℕ → Act → Type 0
MayDo history client act.Enter = HasRoom history
MayDo history client (act.Submit source) = HasRoomFor history source
MayDo history client (act.Turn thread steps) = HasRoom history × (1 ≤ steps) × (steps ≤ most_steps)
MayDo history client (act.Collect run) = HasRoom history
MayDo history client (act.Expire run steps) = HasRoom history
MayDo history client (act.Stop run) = HasRoom history
MayDo history client (act.Drop target) = HasRoomFor history (target_text target) × IsTarget target
MayDo history client (act.Ask question) = HasRoomFor history (question_text question) × IsAnswered question
MayDo history client act.Reset = HasRoom history
MayDo history client act.Leave = Unit {0}
MayDo history client act.Close = client ≡ 0

-- an entry that may come after a history: its client is there, nothing was closed, and the client may do the act
pub record Allows (history : List Entry) (entry : Entry) : Type 0 where
  pub present : slice_get (state_of history).clients entry.client ≡ Some true
  pub «open» : list_any (λ (e : Entry). is_close e.act) history ≡ false
  pub may : MayDo history entry.client entry.act

-- each entry may come after those before it
abbrev pub IsLegalAfter : List Entry → List Entry → Type 0
IsLegalAfter past [] = Unit {0}
IsLegalAfter past (entry ∷ entries) = Allows past entry × IsLegalAfter (past ++ entry ∷ []) entries

abbrev pub IsLegal : List Entry → Type 0
IsLegal history = IsLegalAfter [] history
