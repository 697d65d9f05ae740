-- What an act comes to in what the engine keeps.
use Rattle.std.specs.Prelude.{◌≡◌, ℕ, ◌+◌, ◌<◌, ◌≤◌, Bool, true, false, if◌then◌else◌, Result, Ok, Err, length}
use Rattle.std.specs.Str.{IsUtf8}
use Rattle.jsh_tree.specs.Text.{most_source}
use Rattle.jsh_text.specs.declared.memory.NoMemory.{NoMemory}
use Rattle.jsh_snippet.specs.declared.acts.Act.{Act}
use Rattle.jsh_snippet.specs.declared.acts.Act.TheVariants as act
use Rattle.jsh_snippet.specs.declared.replies.ReplyBody.{ReplyBody}
use Rattle.jsh_snippet.specs.declared.replies.ReplyBody.TheVariants as body
use Rattle.jsh_core.specs.declared.parts.Parts.{Parts}
use Rattle.jsh_core.specs.declared.turns.CutShort.{CutShort}
use Rattle.jsh_core.specs.Limits.{most_steps}
use Rattle.jsh_core.specs.State.{State}
use Rattle.jsh_core.specs.Parts.{state_from, IsSound, IsWithin}
use Rattle.jsh_core.specs.Questions.{question_text, IsAnswered}
use Rattle.jsh_core.specs.Step.{act_step}

-- the acts for which room was left: a client goes, and the engine is closed
abbrev pub is_last : Act → Bool
is_last act.Leave = true
is_last act.Close = true
is_last _ = false

-- what each act needs of the state, and of the texts and numbers that it hands in
abbrev pub IsServed : State → ℕ → Act → Type 0
IsServed s client (act.Submit source) = length source ≤ most_source
IsServed s client (act.Turn thread steps) = steps ≤ most_steps
IsServed s client (act.Ask question) = (length (question_text question) ≤ most_source) × IsAnswered question
IsServed s client act.Leave = client < length s.clients
IsServed s client _ = Unit {0}

-- an act that adds to what is kept: the others find room also behind the last entry that has any
abbrev pub entries_with : ℕ → Act → ℕ
entries_with entries what = if is_last what then entries else entries + 1

-- an act is done and answered: what is kept then stands for the state behind it
pub record IsDone (before after : Parts) (client : ℕ) (what : Act) (answered : ReplyBody) : Type 0 where
  pub step : record { state = state_from after; body = answered } ≡ act_step (state_from before) client what
  pub sound : IsSound after
  pub within : (entries : ℕ) → IsWithin entries before → IsWithin (entries_with entries what) after

-- An act is cut short for want of memory, with so many steps done.
pub data IsCut (before after : Parts) (client : ℕ) (what : Act) (done : ℕ) : Type 0 where
  -- all is as before
  nothing : done ≡ 0 → state_from after ≡ state_from before → IsSound after → IsCut before after client what done
  -- some steps of a turn are done, fewer than were asked for, and a turn of just these does the same
  some : (thread asked : ℕ) → what ≡ act.Turn thread asked → 0 < done → done < asked →
      IsDone before after client (act.Turn thread done) (body.Turned done) → IsCut before after client what done

-- an act that has no steps is done whole or not at all
abbrev pub at_once : Result ReplyBody NoMemory → Result ReplyBody CutShort
at_once (Ok answered) = Ok answered
at_once (Err why) = Err (record { done = 0 })

-- the source that an act hands in is UTF-8
abbrev pub HandsInUtf8 : Act → Type 0
HandsInUtf8 (act.Submit source) = IsUtf8 source
HandsInUtf8 _ = Unit {0}
