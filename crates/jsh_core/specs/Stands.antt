-- What the one-thread engine keeps stands for its history.
use Rattle.std.specs.Prelude.{◌≡◌, ℕ, ◌+◌, ◌<◌, ◌≤◌, min, List, [], ◌∷◌, ◌++◌, ◌⊎◌, Bool, None, length, vec_capacity}
use Rattle.std.specs.List.{count_by}
use Rattle.jsh_snippet.specs.declared.acts.Act.{Act}
use Rattle.jsh_snippet.specs.declared.acts.Act.TheVariants as act
use Rattle.jsh_snippet.specs.declared.acts.Entry.{Entry}
use Rattle.jsh_snippet.specs.declared.replies.ReplyBody.TheVariants as body
use Rattle.jsh_core.specs.declared.log.Log.{Log}
use Rattle.jsh_core.specs.declared.parts.Parts.{Parts}
use Rattle.jsh_core.specs.Limits.{most_clients, most_entries}
use Rattle.jsh_core.specs.Parts.{state_from, IsSound, IsWithin}
use Rattle.jsh_core.specs.Step.{step}
use Rattle.jsh_core.specs.History.{IsLegal, state_of, source_bytes, closed_at}

-- how many clients are there
abbrev pub present_count : List Bool → ℕ
present_count clients = count_by (λ (there : Bool). there) clients

-- the room that an entry wants: its own, and behind it that of the leaves of all clients and of the close
abbrev pub entry_room : ℕ
entry_room = most_clients + 2

-- the log is that of a legal history, and the parts stand for the state that it comes to
pub record StandsFor (log : Log) (parts : Parts) : Type 0 where
  pub legal : IsLegal log.history.items
  pub state : state_from parts ≡ state_of log.history.items
  pub sound : IsSound parts
  pub within : IsWithin (min (length log.history.items) most_entries) parts
  pub bytes : log.bytes ≡ source_bytes log.history.items
  pub closed : log.closed ≡ closed_at log.history.items
  -- the leaves of the clients that are there, and the close, find room
  pub room : log.closed ≡ None → length log.history.items + present_count parts.clients.items + 1 ≤ vec_capacity log.history

-- A turn has done some steps, fewer than were asked for, and stands with these: its own reply counts just them.
pub record HasTurned (history : List Entry) (client thread asked : ℕ) (after : List Entry) : Type 0 where
  pub done : ℕ
  pub some : 0 < done
  pub fewer : done < asked
  pub reply : (step (state_of history) (record { client = client; act = act.Turn thread done })).reply.body ≡ body.Turned done
  pub longer : after ≡ history ++ record { client = client; act = act.Turn thread done } ∷ []

-- After want of memory all is as before, but a turn may have done some of its steps.
abbrev pub IsCutShort : List Entry → Entry → List Entry → Type 0
IsCutShort history entry after = (after ≡ history) ⊎ HasStepped history entry.client entry.act after
  where
    HasStepped : List Entry → ℕ → Act → List Entry → Type 0
    HasStepped history client (act.Turn thread steps) after = HasTurned history client thread steps after
    HasStepped history client _ after = ⊥
