-- What is answered where bytes aren't read.
use Rattle.std.specs.Prelude.{◌≡◌, ℕ, List}
use Rattle.jsh_snippet.specs.declared.acts.Entry.{Entry}
use Rattle.jsh_snippet.specs.declared.replies.Reply.{Reply}
use Rattle.jsh_core.specs.History.{replies_of}
use Rattle.jsh_replay.specs.declared.journal_error.JournalError.{JournalError}
use Rattle.jsh_replay.specs.declared.journal_error.JournalError.TheVariants as error
use Rattle.jsh_replay.specs.Journal.{IsBadPlace, IsJournal}

-- bytes have the place that an error names, and want of memory says nothing of them
abbrev pub HasCause : List ℕ → JournalError → Type 0
HasCause bytes error.NoMemory = Unit {0}
HasCause bytes (error.BadJournal place) = IsBadPlace bytes place

-- an error names this place, or is want of memory
abbrev pub IsShortOr : ℕ → JournalError → Type 0
IsShortOr place error.NoMemory = Unit {0}
IsShortOr place (error.BadJournal found) = found ≡ place

-- the replies to the history whose journal the bytes are
abbrev pub IsReplay : List ℕ → List Reply → Type 0
IsReplay bytes replies = (history : List Entry) × IsJournal bytes history × (replies ≡ replies_of history)
