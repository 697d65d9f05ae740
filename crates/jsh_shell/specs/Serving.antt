-- What a call on the engine and the sink of a client has brought about.
use Rattle.std.specs.Prelude.{◌≡◌, ℕ, ◌<◌, ◌≤◌, ◌==◌, ◌||◌, Bool, true, false, List, [], ◌∷◌, ◌++◌, ◌⊎◌, ◌≢◌, IfSome, Option, None, Some, Result, Ok, Err, length, take, slice_get}
use Rattle.std.specs.List.{All, list_any}
use Rattle.std.specs.Io.KnownBytes.{append_known, prepend_known}
use Rattle.jsh_io.specs.Count.{Rose}
use Rattle.jsh_snippet.specs.declared.acts.Act.{Act}
use Rattle.jsh_snippet.specs.declared.acts.Act.TheVariants as act
use Rattle.jsh_snippet.specs.declared.acts.Entry.{Entry}
use Rattle.jsh_snippet.specs.declared.replies.Reply.{Reply}
use Rattle.jsh_render.specs.Texts.{shown}
use Rattle.jsh_cut.specs.Commands.{before_exit, exits}
use Rattle.jsh_cut.specs.declared.command.Command.{Command}
use Rattle.jsh_cut.specs.declared.command.Command.TheVariants.{Eval, Slash, Exit}
use Rattle.jsh_core.specs.State.{State}
use Rattle.jsh_core.specs.Step.{step}
use Rattle.jsh_core.specs.Questions.{IsAnswered}
use Rattle.jsh_core.specs.History.{state_of, is_close, IsTarget}
use Rattle.jsh_shell.specs.declared.halts.Halt.{Halt}
use Rattle.jsh_shell.specs.declared.halts.Halt.TheVariants as halt
use Rattle.jsh_shell.specs.declared.session.Session.{Session}
use Rattle.jsh_shell.specs.declared.driving.Driven.{Driven}
use Rattle.jsh_shell.specs.declared.driving.Driven.TheVariants as driven
use Rattle.jsh_shell.specs.Progress.{Phase, Progress, Follows, is_limit, is_running}
use Rattle.jsh_shell.specs.Progress.Phase.{Between, Evaluating, CutShort}
use Rattle.jsh_shell.specs.Transcript.{transcript_after}
use Rattle.jsh_shell.specs.Limited.{IsLimited}
use Rattle.jsh_shell.specs.Input.{most_input}
use Rattle.jsh_shell.specs.Statuses.{all_served, limit_met, memory_short, read_failed, write_failed}

-- the client and the root may act, and nothing was closed
pub record IsOpen (client : ℕ) (history : List Entry) : Type 0 where
  pub present : slice_get (state_of history).clients client ≡ Some true
  pub root : slice_get (state_of history).clients 0 ≡ Some true
  pub «open» : list_any (λ (e : Entry). is_close e.act) history ≡ false

-- the client stands in this phase, at no limit, and these commands are left
pub record Stands (at : Phase) (session : Session) (commands : List Command) (p : Progress) : Type 0 where
  pub phase : p.phase ≡ at
  pub left : p.commands ≡ commands
  pub limited : p.limited ≡ false
  pub has_left : p.has_left ≡ false
  -- the session knows the client's last turns
  pub last_turn : p.last_turn ≡ session.last_turn
  pub cursor : p.cursor ≡ session.cursor

-- these entries are the client's own
abbrev pub AreOwn : ℕ → List Entry → Type 0
AreOwn client entries = All (λ (entry : Entry). entry.client ≡ client) entries

-- New entries of its own take the client from one progress to another, and it is written what is said to them.
pub record Advances (budget client : ℕ) (before after : List Entry) (held_before held_after : Option (List ℕ)) (p q : Progress) : Type 0 where
  pub entries : List Entry
  pub grows : after ≡ before ++ entries
  pub own : AreOwn client entries
  pub follows : Follows budget client (state_of before) p entries q
  pub written : held_after ≡ append_known held_before (transcript_after client (state_of before) entries)

-- New entries of its own take the client to where it is served no further, and it is written what is said to them, or
-- a part of it.
pub record Halts (why : Halt) (budget client : ℕ) (before after : List Entry) (held_before held_after : Option (List ℕ)) (p q : Progress) : Type 0 where
  pub entries : List Entry
  pub grows : after ≡ before ++ entries
  pub own : AreOwn client entries
  pub follows : Follows budget client (state_of before) p entries q
  pub count : ℕ
  pub written : held_after ≡ append_known held_before (take count (transcript_after client (state_of before) entries))
  pub whole : why ≡ halt.Limit → length (transcript_after client (state_of before) entries) ≤ count
  pub limit : why ≡ halt.Limit → IsLimited after q
  pub phase : q.phase ≡ CutShort → why ≡ halt.NoMemory
  pub has_left : q.has_left ≡ false

-- a sink's count of faults over a call that halted: it rose where a write failed, and else it stays
abbrev pub HasCause : Halt → ℕ → ℕ → Type 0
HasCause halt.SinkFailed before after = Rose before after
HasCause halt.NoMemory before after = after ≡ before
HasCause halt.Limit before after = after ≡ before

-- the same over any call: where it went well, no write failed
abbrev pub Counts : {A : Type 0} → Result A Halt → ℕ → ℕ → Type 0
Counts (Ok x) before after = after ≡ before
Counts (Err why) before after = HasCause why before after

-- the sink took bytes from the front of a text
abbrev pub WritesPart : Option (List ℕ) → Option (List ℕ) → List ℕ → Type 0
WritesPart held_before held_after text = (n : ℕ) × (held_after ≡ append_known held_before (take n text))

-- an act was done and answered, and what is said to it was written
pub record Shows (before after : List Entry) (entry : Entry) (answer : Reply) (held_before held_after : Option (List ℕ)) : Type 0 where
  pub reply : answer ≡ (step (state_of before) entry).reply
  pub grows : after ≡ before ++ entry ∷ []
  pub written : held_after ≡ append_known held_before (shown entry answer)

-- an act was done, but not all that is said to it was written
pub record BreaksOff (before after : List Entry) (entry : Entry) (held_before held_after : Option (List ℕ)) : Type 0 where
  pub grows : after ≡ before ++ entry ∷ []
  pub part : WritesPart held_before held_after (shown entry (step (state_of before) entry).reply)

-- an act was refused at a limit, and that was written
abbrev pub IsRefused : List Entry → List Entry → Entry → Option (List ℕ) → Option (List ℕ) → Type 0
IsRefused before after entry held_before held_after =
    (answer : Reply) × Shows before after entry answer held_before held_after × (is_limit answer.body ≡ true)

-- an act was not done for want of memory, or it broke off, or it was refused at a limit
abbrev pub Fails : Halt → List Entry → List Entry → Entry → Option (List ℕ) → Option (List ℕ) → Type 0
Fails why before after entry held_before held_after =
    ((after ≡ before) × (held_after ≡ held_before) × (why ≡ halt.NoMemory))
    ⊎ (BreaksOff before after entry held_before held_after × (why ≢ halt.Limit))
    ⊎ (IsRefused before after entry held_before held_after × (why ≡ halt.Limit))

-- These commands were served, from one phase to another, whatever comes behind them.
pub record Serves (budget client : ℕ) (from to : Phase) (before after : Session) (held_before held_after : Option (List ℕ)) (served : List Command) : Type 0 where
  pub each : (p : Progress) (more : List Command) → Stands from before (served ++ more) p →
      (q : Progress) × Advances budget client before.core after.core held_before held_after p q × Stands to after more q

-- The serving of these commands halted.
pub record ServesPart (why : Halt) (budget client : ℕ) (from : Phase) (before after : Session) (held_before held_after : Option (List ℕ)) (served : List Command) : Type 0 where
  pub each : (p : Progress) (more : List Command) → Stands from before (served ++ more) p →
      (q : Progress) × Halts why budget client before.core after.core held_before held_after p q

-- turns of a run were taken, behind some steps and up to others, and nothing was written
abbrev pub Drives : ℕ → ℕ → ℕ → ℕ → ℕ → Session → Session → Type 0
Drives budget client run used_before used_after before after =
    (held : Option (List ℕ)) → Serves budget client (Evaluating run used_before) (Evaluating run used_after) before after held held []

-- the taking of turns halted
abbrev pub DrivesPart : Halt → ℕ → ℕ → ℕ → ℕ → Session → Session → Type 0
DrivesPart why budget client run used before after =
    (held : Option (List ℕ)) → ServesPart why budget client (Evaluating run used) before after held held []

-- a client that asks for the run isn't answered that it goes on
abbrev pub GoesOnNoMore : List Entry → ℕ → ℕ → Type 0
GoesOnNoMore history client run = is_running (step (state_of history) (record { client = client; act = act.Collect run })).reply.body ≡ false

-- All turns of a run were taken: it goes on no more, below the budget, or the budget is used.
abbrev pub DrivesTo : Driven → ℕ → ℕ → ℕ → Session → Session → Type 0
DrivesTo driven.Still budget client run before after =
    (used : ℕ) × (used < budget) × GoesOnNoMore after.core client run × Drives budget client run 0 used before after
DrivesTo driven.Spent budget client run before after = Drives budget client run 0 budget before after

-- an act that a slash line may stand for
abbrev pub IsSlash : Act → Type 0
IsSlash (act.Stop run) = Unit {0}
IsSlash (act.Drop target) = IsTarget target
IsSlash (act.Ask question) = IsAnswered question
IsSlash act.Reset = Unit {0}
IsSlash _ = ⊥

-- a command that a client is served: it is no exit
abbrev pub IsServable : Command → Type 0
IsServable (Eval source) = Unit {0}
IsServable (Slash what) = IsSlash what
IsServable Exit = ⊥

-- the status of a client that is served no further
abbrev pub status_of : Halt → ℕ
status_of halt.NoMemory = memory_short
status_of halt.Limit = limit_met
status_of halt.SinkFailed = write_failed

-- the client is written no more
abbrev pub is_unheard : ℕ → Bool
is_unheard status = status == write_failed || status == memory_short

-- what is said to the client's leave
abbrev pub farewell : List Entry → ℕ → List ℕ
farewell history client = shown (record { client = client; act = act.Leave }) (step (state_of history) (record { client = client; act = act.Leave })).reply

-- The client has left, and what is said to that was written, or a part of it, which may change its status.
pub data TakesLeave (status after : ℕ) (text : List ℕ) (held_before held_after : Option (List ℕ)) (writes_before writes_after : ℕ) : Type 0 where
  unheard : is_unheard status ≡ true → after ≡ status → held_after ≡ held_before → writes_after ≡ writes_before →
      TakesLeave status after text held_before held_after writes_before writes_after
  heard : is_unheard status ≡ false → after ≡ status → held_after ≡ append_known held_before text → writes_after ≡ writes_before →
      TakesLeave status after text held_before held_after writes_before writes_after
  short : is_unheard status ≡ false → after ≡ memory_short → WritesPart held_before held_after text → writes_after ≡ writes_before →
      TakesLeave status after text held_before held_after writes_before writes_after
  failed : is_unheard status ≡ false → after ≡ write_failed → WritesPart held_before held_after text → Rose writes_before writes_after →
      TakesLeave status after text held_before held_after writes_before writes_after

-- How the serving of a client ended, with the counts of faults of its streams: its input has ended or it asked for an
-- end, a read failed, it has read all that it may, or it was served no further.
abbrev pub Ends : ℕ → ℕ → ℕ → Session → Session → Option (List ℕ) → Option (List ℕ) → List ℕ → Bool → ℕ → ℕ → ℕ → ℕ → Type 0
Ends budget client status before after held_before held_after read ended reads_before reads_after writes_before writes_after =
    ((status ≡ all_served) × (exits read ended ≡ true) × (length read < most_input) × (reads_after ≡ reads_before) × (writes_after ≡ writes_before)
    × Serves budget client Between Between before after held_before held_after (before_exit read ended))
    ⊎ ((status ≡ read_failed) × (exits read ended ≡ false) × (length read < most_input) × Rose reads_before reads_after × (writes_after ≡ writes_before)
    × Serves budget client Between Between before after held_before held_after (before_exit read ended))
    ⊎ ((status ≡ limit_met) × (ended ≡ false) × (length read ≡ most_input) × (reads_after ≡ reads_before) × (writes_after ≡ writes_before)
    × Serves budget client Between Between before after held_before held_after (before_exit read ended))
    ⊎ ((why : Halt) × (status ≡ status_of why) × (reads_after ≡ reads_before) × HasCause why writes_before writes_after
    × ServesPart why budget client Between before after held_before held_after (before_exit read ended))

-- What a client had read, and what of it was served.
pub record IsServedBy (budget client status : ℕ) (before after : Session) (left_before left_after held_before held_after : Option (List ℕ)) (reads_before reads_after writes_before writes_after : ℕ) : Type 0 where
  pub read : List ℕ
  pub ended : Bool
  pub reads : left_before ≡ prepend_known read left_after
  pub all_read : ended ≡ true → IfSome left_after (λ rest. rest ≡ [])
  pub few : length read ≤ most_input
  pub outcome : Ends budget client status before after held_before held_after read ended reads_before reads_after writes_before writes_after
