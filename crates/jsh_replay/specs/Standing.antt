-- What a reader keeps beside the entries, to say which entry may come next.
use Rattle.std.specs.Prelude.{◌≡◌, ℕ, List, [], ◌∷◌, ◌++◌, Bool, true, false, nat_le, length, slice_set, if◌then◌else◌}
use Rattle.std.specs.List.{list_any}
use Rattle.jsh_snippet.specs.declared.acts.Act.{Act}
use Rattle.jsh_snippet.specs.declared.acts.Act.TheVariants as act
use Rattle.jsh_snippet.specs.declared.acts.Entry.{Entry}
use Rattle.jsh_core.specs.Limits.{most_clients}
use Rattle.jsh_core.specs.History.{is_close, source_bytes, state_of}

-- whether a history has a close
abbrev pub is_closed : List Entry → Bool
is_closed history = list_any (λ (entry : Entry). is_close entry.act) history

-- these are a history's source bytes, for each client that it numbered whether it is there, and whether it has a close
pub record Keeps (history : List Entry) (sources : ℕ) (clients : List Bool) (closed : Bool) : Type 0 where
  pub sources_are : sources ≡ source_bytes history
  pub clients_are : clients ≡ (state_of history).clients
  pub closed_is : closed ≡ is_closed history

-- the clients behind an act of one of them
unfoldable pub clients_after : List Bool → ℕ → Act → List Bool
clients_after clients client act.Enter = if nat_le most_clients (length clients) then clients else clients ++ true ∷ []
clients_after clients client act.Leave = slice_set clients client false
clients_after clients client _ = clients
