-- Where a limit keeps a client from going on.
use Rattle.std.specs.Prelude.{◌≡◌, ℕ, ◌+◌, ◌<◌, ◌≤◌, ◌⊎◌, true, false, List, [], ◌∷◌, length}
use Rattle.jsh_tree.specs.Text.{most_source}
use Rattle.jsh_snippet.specs.declared.acts.Entry.{Entry}
use Rattle.jsh_cut.specs.declared.command.Command.{Command}
use Rattle.jsh_core.specs.Limits.{most_bytes, most_entries}
use Rattle.jsh_core.specs.History.{act_bytes, source_bytes, HasRoom}
use Rattle.jsh_shell.specs.Progress.{Phase, Progress, command_act, IsAtEnd}
use Rattle.jsh_shell.specs.Progress.Phase.{Between, Evaluating, CutShort}

-- so many bytes are too many for one text, or with those before them
abbrev pub HasNoRoomFor : List Entry → ℕ → Type 0
HasNoRoomFor before bytes = (most_source < bytes) ⊎ (most_bytes < source_bytes before + bytes)

-- so many bytes have room
abbrev pub HasRoomOf : List Entry → ℕ → Type 0
HasRoomOf before bytes = HasRoom before × (bytes ≤ most_source) × (source_bytes before + bytes ≤ most_bytes)

-- the text of the first command without an entry is too long
abbrev pub IsTooLong : List Entry → List Command → Type 0
IsTooLong before [] = ⊥
IsTooLong before (command ∷ commands) = HasNoRoomFor before (act_bytes (command_act command))

abbrev pub HasCommand : List Command → Type 0
HasCommand [] = ⊥
HasCommand (command ∷ commands) = Unit {0}

-- a command has no entry, or the rest of one has none that no reset lets end
abbrev pub IsUndone : Progress → Type 0
IsUndone p = by p.phase
  where
    by : Phase → Type 0
    by Between = HasCommand p.commands
    by (Evaluating run used) = (p.was_reset ≡ false) ⊎ HasCommand p.commands
    by CutShort = Unit {0}

-- the rest of an evaluation has no entry, also where a reset lets it end
abbrev pub HasRest : Phase → Type 0
HasRest Between = ⊥
HasRest (Evaluating run used) = Unit {0}
HasRest CutShort = Unit {0}

-- After these entries, a client with this progress is at a limit: its last entry was refused at one, the text of the next entry is
-- too long, or the history is full and this is so.
abbrev pub IsLimitedWhere : Type 0 → List Entry → Progress → Type 0
IsLimitedWhere undone before p = (p.limited ≡ true) ⊎ (IsAtEnd p × IsTooLong before p.commands)
    ⊎ (undone × (most_entries ≤ length before))

-- a limit keeps the client from going on
abbrev pub IsLimited : List Entry → Progress → Type 0
IsLimited before p = IsLimitedWhere (IsUndone p ⊎ HasRest p.phase) before p

-- the same by more than the rest of an evaluation that a reset lets end
abbrev pub IsSurelyLimited : List Entry → Progress → Type 0
IsSurelyLimited before p = IsLimitedWhere (IsUndone p) before p
