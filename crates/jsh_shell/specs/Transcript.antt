-- What a client is written: the replies to its entries, other than turns, in order.
use Rattle.std.specs.Prelude.{ℕ, ◌==◌, Bool, true, false, not, ◌&&◌, List, [], ◌∷◌, ◌++◌, if◌then◌else◌}
use Rattle.jsh_snippet.specs.declared.acts.Act.{Act}
use Rattle.jsh_snippet.specs.declared.acts.Act.TheVariants as act
use Rattle.jsh_snippet.specs.declared.acts.Entry.{Entry}
use Rattle.jsh_render.specs.Texts.{shown}
use Rattle.jsh_core.specs.State.{State, opening}
use Rattle.jsh_core.specs.Step.{step}

abbrev pub is_turn : Act → Bool
is_turn (act.Turn thread steps) = true
is_turn _ = false

-- what of one entry a client is written
abbrev pub shown_to : ℕ → State → Entry → List ℕ
shown_to client s entry = if (entry.client == client) && not (is_turn entry.act) then shown entry (step s entry).reply else []

abbrev pub transcript_after : ℕ → State → List Entry → List ℕ
transcript_after client s [] = []
transcript_after client s (entry ∷ entries) = shown_to client s entry ++ transcript_after client (step s entry).state entries

abbrev pub transcript : ℕ → List Entry → List ℕ
transcript client journal = transcript_after client opening journal
