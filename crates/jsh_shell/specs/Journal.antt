-- The journal of a call, and what each client of it has been served.
use Rattle.std.specs.Prelude.{◌≡◌, ℕ, ◌<◌, ◌≤◌, ◌⊎◌, Bool, true, false, List, [], ◌∷◌, ◌++◌, Option, Some, IfSome, IsSomeAnd, length, replicate, take}
use Rattle.std.specs.List.{All}
use Rattle.std.specs.Io.KnownBytes.{prepend_known}
use Rattle.jsh_io.specs.Count.{Rose}
use Rattle.jsh_io.specs.Inputs.{Inputs}
use Rattle.jsh_snippet.specs.declared.acts.Act.{Act}
use Rattle.jsh_snippet.specs.declared.acts.Act.TheVariants as act
use Rattle.jsh_snippet.specs.declared.acts.Entry.{Entry}
use Rattle.jsh_cut.specs.Commands.{before_exit, exits}
use Rattle.jsh_core.specs.State.{opening}
use Rattle.jsh_shell.specs.Progress.{Progress, Follows, IsAtEnd, begins}
use Rattle.jsh_shell.specs.Progress.Phase.{CutShort}
use Rattle.jsh_shell.specs.Transcript.{transcript}
use Rattle.jsh_shell.specs.Limited.{IsLimited, IsSurelyLimited}
use Rattle.jsh_shell.specs.Input.{most_input}
use Rattle.jsh_shell.specs.Statuses.{all_served, limit_met, memory_short, read_failed, write_failed}

abbrev pub entry_of : ℕ → Act → Entry
entry_of client what = record { client = client; act = what }

-- Client 0 enters the clients, they do what they do, and client 0 closes.
pub record IsFramed (clients : ℕ) (journal : List Entry) : Type 0 where
  pub middle : List Entry
  pub whole : journal ≡ replicate clients (entry_of 0 act.Enter) ++ (middle ++ entry_of 0 act.Close ∷ [])
  pub theirs : All (λ (entry : Entry). (0 < entry.client) × (entry.client ≤ clients)) middle

-- the entries of a client end in its leave
pub record Leaves (client : ℕ) (journal : List Entry) : Type 0 where
  pub before : List Entry
  pub after : List Entry
  pub whole : journal ≡ before ++ entry_of client act.Leave ∷ after
  pub nothing : All (λ (entry : Entry). entry.client ≡ client → ⊥) after

-- all commands have all their entries, and the last of these wasn't refused at a limit
pub record IsDone (p : Progress) : Type 0 where
  pub at_end : IsAtEnd p
  pub commands : p.commands ≡ []
  pub limited : p.limited ≡ false

-- What holds of a client that was served: its status, the bytes that it had to read, where they are told, those that
-- are left, those that it was written, where they are told, and the counts of faults of its source and its sink.
pub record IsServed (budget client status : ℕ) (journal : List Entry) (given left held : Option (List ℕ)) (reads_before reads_after writes_before writes_after : ℕ) : Type 0 where
  -- the bytes that were read, and whether that was all there was
  pub read : List ℕ
  pub ended : Bool
  pub reads : given ≡ prepend_known read left
  pub all_read : ended ≡ true → IfSome left (λ rest. rest ≡ [])
  pub few : length read ≤ most_input
  -- its entries are those of its commands, in order and without the exit, as far as it has come, and then its leave
  pub progress : Progress
  pub follows : Follows budget client opening (begins (before_exit read ended)) journal progress
  pub has_left : progress.has_left ≡ true
  pub leaves : Leaves client journal
  -- what the statuses say, and when each may come
  pub statuses : (status ≡ all_served) ⊎ (status ≡ read_failed) ⊎ (status ≡ write_failed) ⊎ (status ≡ memory_short) ⊎ (status ≡ limit_met)
  pub ok : status ≡ all_served → IsDone progress × (exits read ended ≡ true) × (length read < most_input)
  pub failed_read_part : status ≡ read_failed → IsDone progress × (exits read ended ≡ false) × (length read < most_input)
  pub limited : status ≡ limit_met → IsLimited leaves.before progress ⊎ (IsDone progress × (ended ≡ false) × (length read ≡ most_input))
  pub at_limit : IsSurelyLimited leaves.before progress ⊎ (length read ≡ most_input) → (Rose writes_before writes_after → ⊥) → (status ≡ limit_met) ⊎ (status ≡ memory_short)
  pub memory : progress.phase ≡ CutShort → status ≡ memory_short
  -- a read that failed decides the status, unless the last write fails or has no memory, and a write that failed always does
  pub source_failed : status ≡ read_failed → Rose reads_before reads_after
  pub source_well : (reads_after ≡ reads_before) ⊎ (status ≡ read_failed) ⊎ (status ≡ write_failed) ⊎ (status ≡ memory_short)
  pub sink_failed : status ≡ write_failed → Rose writes_before writes_after
  pub sink_well : (writes_after ≡ writes_before) ⊎ (status ≡ write_failed)
  -- what it was written
  pub written : (status ≡ all_served) ⊎ (status ≡ read_failed) ⊎ (status ≡ limit_met) → IfSome held (λ bytes. bytes ≡ transcript client journal)
  pub part : IfSome held (λ bytes. (n : ℕ) × (bytes ≡ take n (transcript client journal)))

-- a sink that tells its bytes holds the whole line, or a true front of it where a write failed
abbrev pub IsUsage : Option (List ℕ) → List ℕ → Type 0 → Type 0
IsUsage held line failed_write = IfSome held (λ bytes. bytes ≡ line)
    ⊎ (failed_write × IfSome held (λ bytes. (n : ℕ) × (n < length line) × (bytes ≡ take n line)))

-- a source that tells its bytes has all those that the desk told
abbrev pub IsUnread : Option Inputs → Option (List ℕ) → Type 0
IsUnread told left = IfSome told (λ all. IsSomeAnd all.standard (λ bytes. left ≡ Some bytes))
