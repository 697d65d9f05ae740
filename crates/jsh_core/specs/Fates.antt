-- What becomes of runs in a history: they are made, stopped, and collected, given up or dropped.
use Rattle.std.specs.Prelude.{◌≡◌, ℕ, ◌⊎◌, List, [], ◌∷◌, Bool, true, false, Some}
use Rattle.jsh_snippet.specs.declared.acts.Act.{Act}
use Rattle.jsh_snippet.specs.declared.acts.Act.TheVariants as act
use Rattle.jsh_snippet.specs.declared.acts.Entry.{Entry}
use Rattle.jsh_snippet.specs.declared.replies.ReplyBody.{ReplyBody}
use Rattle.jsh_snippet.specs.declared.replies.ReplyBody.TheVariants as body
use Rattle.jsh_snippet.specs.declared.replies.Collected.TheVariants as «collected»
use Rattle.jsh_core.specs.declared.world.RunView.{RunView}
use Rattle.jsh_core.specs.State.{State, opening}
use Rattle.jsh_core.specs.Snippets.{run_of}
use Rattle.jsh_core.specs.Runs.{run_view}
use Rattle.jsh_core.specs.Step.{step}

-- the reply hands out a run that is over
abbrev pub is_over : ReplyBody → Bool
is_over (body.Collected («collected».Over id name outcome)) = true
is_over answered = false

-- the entry is this client's, and its reply has this run
abbrev pub Makes : State → Entry → ℕ → ℕ → Type 0
Makes s entry owner number = (entry.client ≡ owner) × (run_of (step s entry).reply.body ≡ Some number)

-- this client hands in an act on a run that hands it out
pub record HandsOut (client owner asked number : ℕ) (answered : ReplyBody) : Type 0 where
  pub own : client ≡ owner
  pub same : asked ≡ number
  pub over : is_over answered ≡ true

-- What takes a run of this client away: its own leave, its act that hands the run out to it, or anyone's reset.
abbrev pub Takes : ℕ → Act → ℕ → ℕ → ReplyBody → Type 0
Takes client act.Leave owner number answered = client ≡ owner
Takes client (act.Collect run) owner number answered = HandsOut client owner run number answered
Takes client (act.Expire run steps) owner number answered = HandsOut client owner run number answered
Takes client act.Reset owner number answered = Unit {0}
Takes client _ owner number answered = ⊥

-- the entry takes the run of this client away
abbrev pub TakesAway : State → Entry → ℕ → ℕ → Type 0
TakesAway s entry owner number = Takes entry.client entry.act owner number (step s entry).reply.body

-- no entry takes the run away
abbrev pub Stays : State → List Entry → ℕ → ℕ → Type 0
Stays s [] owner number = Unit {0}
Stays s (entry ∷ entries) owner number = (¬ TakesAway s entry owner number) × Stays (step s entry).state entries owner number

-- an entry makes the run for this client, and none after it takes it away
abbrev pub WasMade : State → List Entry → ℕ → ℕ → Type 0
WasMade s [] owner number = ⊥
WasMade s (entry ∷ entries) owner number =
    (Makes s entry owner number × Stays (step s entry).state entries owner number) ⊎ WasMade (step s entry).state entries owner number

-- a history has a run of this client with this number: it was made, and was neither collected, given up nor dropped
unfoldable pub HasRun : List Entry → ℕ → ℕ → Type 0
HasRun history owner number = WasMade opening history owner number

-- the act is a stop of the run, which is there and hasn't ended
abbrev pub StopsRun : State → Act → ℕ → Type 0
StopsRun s (act.Stop asked) number = (asked ≡ number) × ((view : RunView) × (run_view s number ≡ Some view) × (view.over ≡ false))
StopsRun s _ number = ⊥

-- the entry is this client's, and stops the run
abbrev pub Halts : State → Entry → ℕ → ℕ → Type 0
Halts s entry client number = (entry.client ≡ client) × StopsRun s entry.act number

-- an entry of this client stops the run
abbrev pub WasHalted : State → List Entry → ℕ → ℕ → Type 0
WasHalted s [] client number = ⊥
WasHalted s (entry ∷ entries) client number = Halts s entry client number ⊎ WasHalted (step s entry).state entries client number

-- in a history the run with this number was stopped by this client
unfoldable pub WasStopped : List Entry → ℕ → ℕ → Type 0
WasStopped history client number = WasHalted opening history client number
