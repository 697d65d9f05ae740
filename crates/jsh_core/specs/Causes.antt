-- The causes of the answers, both ways: what stands before an act, and what is answered to it.
use Rattle.std.specs.Prelude.{◌≡◌, ◌≢◌, ◌↔◌, ◌⊎◌, ℕ, zero, suc, ◌+◌, ◌<◌, ◌≤◌, true, false, List, [], ◌∷◌, length, None, Some}
use Rattle.jsh_tree.specs.declared.diagnostic.Diagnostic.{Diagnostic}
use Rattle.jsh_snippet.specs.declared.acts.Act.{Act}
use Rattle.jsh_snippet.specs.declared.acts.Act.TheVariants as act
use Rattle.jsh_snippet.specs.declared.acts.Entry.{Entry}
use Rattle.jsh_snippet.specs.declared.acts.Question.{Question}
use Rattle.jsh_snippet.specs.declared.acts.Question.TheVariants as question
use Rattle.jsh_snippet.specs.declared.acts.Target.{Target}
use Rattle.jsh_snippet.specs.declared.acts.Target.TheVariants as target
use Rattle.jsh_snippet.specs.declared.events.Event.{Event}
use Rattle.jsh_snippet.specs.declared.kinds.Fate.{Fate}
use Rattle.jsh_snippet.specs.declared.kinds.Fate.TheVariants as fate
use Rattle.jsh_snippet.specs.declared.kinds.Kind.{Kind}
use Rattle.jsh_snippet.specs.declared.kinds.Kind.TheVariants as kind
use Rattle.jsh_snippet.specs.declared.kinds.Subkind.TheVariants as subkind
use Rattle.jsh_snippet.specs.declared.records.Record.{Record}
use Rattle.jsh_snippet.specs.declared.replies.ReplyBody.{ReplyBody}
use Rattle.jsh_snippet.specs.declared.replies.ReplyBody.TheVariants as body
use Rattle.jsh_snippet.specs.declared.replies.Submitted.{Submitted}
use Rattle.jsh_snippet.specs.declared.replies.Collected.TheVariants as «collected»
use Rattle.jsh_snippet.specs.declared.replies.Outcome.{Outcome}
use Rattle.jsh_snippet.specs.declared.replies.Outcome.TheVariants as outcome
use Rattle.jsh_snippet.specs.declared.replies.Refusal.TheVariants as refusal
use Rattle.jsh_snippet.specs.declared.replies.LimitKind.TheVariants as limit
use Rattle.jsh_snippet.specs.Keys.{temporary_name}
use Rattle.jsh_verdict.specs.Causes.{IsAccepted, IsRejected}
use Rattle.jsh_sum.specs.declared.sums.Sum.{Sum}
use Rattle.jsh_core.specs.declared.generation.Live.{Live}
use Rattle.jsh_core.specs.declared.world.Run.{Run}
use Rattle.jsh_core.specs.declared.world.RunView.{RunView}
use Rattle.jsh_core.specs.declared.world.ThreadEnd.TheVariants as thread_end
use Rattle.jsh_core.specs.Limits.{most_clients, most_records, most_threads}
use Rattle.jsh_core.specs.State.{State, World, numbered}
use Rattle.jsh_core.specs.Generations.{live_named}
use Rattle.jsh_core.specs.Snippets.{accepted_event, rejected_event}
use Rattle.jsh_core.specs.Threads.{alive_count, can_go_on, is_thread_alive, stepped}
use Rattle.jsh_core.specs.Runs.{alive_threads, end_of, run_view, steps_so_far}
use Rattle.jsh_core.specs.Drops.{drop_event, kind_of_record, live_of, name_of_record}
use Rattle.jsh_core.specs.Questions.{answer_lines}
use Rattle.jsh_core.specs.Step.{step}

-- a client is numbered below the limit alone
pub record CausesOfEnter (s : State) (answered : ReplyBody) : Type 0 where
  pub entered : (answered ≡ body.Entered (length s.clients)) ↔ (length s.clients < most_clients)
  pub clients : (answered ≡ body.Refused (refusal.Limit limit.Clients most_clients)) ↔ (most_clients ≤ length s.clients)

-- the reply to a snippet that is accepted, a temporary variable, with its run
abbrev pub accepted_reply : ℕ → ℕ → Submitted
accepted_reply id run = record {
  id = id;
  kind = kind.Var;
  subkind = subkind.TempVarExpression;
  name = temporary_name id;
  events = accepted_event id ∷ [];
  ignored = [];
  diagnostics = [];
  unresolved = [];
  run = Some run;
  value = None;
}

-- the reply to a snippet that is rejected
abbrev pub rejected_reply : ℕ → List Diagnostic → Submitted
rejected_reply id diagnostics = record {
  id = id;
  kind = kind.Erroneous;
  subkind = subkind.Unknown;
  name = [];
  events = rejected_event id ∷ [];
  ignored = [];
  diagnostics = diagnostics;
  unresolved = [];
  run = None;
  value = None;
}

-- the source is accepted with some sum
abbrev pub IsSum : List ℕ → Type 0
IsSum source = (sum : Sum) × IsAccepted source sum

-- a snippet is accepted where it is a sum and stands below both limits, and is rejected with what is wrong with it
pub record CausesOfSubmit (s : State) (source : List ℕ) (answered : ReplyBody) : Type 0 where
  pub records : (answered ≡ body.Refused (refusal.Limit limit.Records most_records)) ↔ (most_records ≤ length s.book)
  pub rejected : (ds : List Diagnostic) →
      (answered ≡ body.Submitted (rejected_reply (length s.book + 1) ds)) ↔ ((length s.book < most_records) × IsRejected source ds)
  pub threads : (answered ≡ body.Refused (refusal.Limit limit.Threads most_threads))
      ↔ ((length s.book < most_records) × IsSum source × (most_threads ≤ alive_count s.world))
  pub accepted : (answered ≡ body.Submitted (accepted_reply (length s.book + 1) (length s.world.runs + 1)))
      ↔ ((length s.book < most_records) × IsSum source × (alive_count s.world < most_threads))

-- the world after so many visible steps of a thread
unfoldable pub world_after : ℕ → ℕ → World → World
world_after thread zero w = w
world_after thread (suc steps) w = world_after thread steps (stepped w thread)

-- the thread can go on before each of these steps, and stops at the most that was asked for or where it can't go on
pub record GoesSoFar (thread most : ℕ) (w : World) (steps : ℕ) : Type 0 where
  pub within : steps ≤ most
  pub before : (k : ℕ) → k < steps → can_go_on (world_after thread k w) thread ≡ true
  pub stops : steps < most → can_go_on (world_after thread steps w) thread ≡ false

-- a turn says how far the thread went, and this is the world that it leaves
pub record CausesOfTurn (s : State) (thread most : ℕ) (after : World) (answered : ReplyBody) : Type 0 where
  pub always : (steps : ℕ) × (answered ≡ body.Turned steps)
  pub turned : (steps : ℕ) → (answered ≡ body.Turned steps) ↔ GoesSoFar thread most s.world steps
  pub none : (answered ≡ body.Turned 0) ↔ (can_go_on s.world thread ≡ false)
  pub leaves : (steps : ℕ) → answered ≡ body.Turned steps → after ≡ world_after thread steps s.world
  pub short : (steps : ℕ) → answered ≡ body.Turned steps → steps < most → can_go_on after thread ≡ false

-- the run with this number can be seen, and this client owns it
pub record IsOwner (s : State) (client number : ℕ) : Type 0 where
  pub view : RunView
  pub seen : run_view s number ≡ Some view
  pub owner : view.owner ≡ client

-- the run with this number is there, and this client owns it
pub record IsOwnRun (s : State) (client number : ℕ) (run : Run) : Type 0 where
  pub found : numbered s.world.runs number ≡ Some run
  pub there : run.gone ≡ false
  pub owner : run.owner ≡ client

-- it hasn't ended
pub record IsAliveRun (s : State) (client number : ℕ) (run : Run) : Type 0 where
  pub own : IsOwnRun s client number run
  pub alive : is_thread_alive s.world run.main ≡ true

-- it has ended, and evaluated this snippet
pub record IsEndedRun (s : State) (client number id : ℕ) (run : Run) : Type 0 where
  pub own : IsOwnRun s client number run
  pub ended : is_thread_alive s.world run.main ≡ false
  pub snippet : run.snippet ≡ id

-- some thread can go on
abbrev pub SomeGoesOn : World → Type 0
SomeGoesOn w = (thread : ℕ) × (can_go_on w thread ≡ true)

-- the run of this snippet is over with this outcome
abbrev pub over_with : ℕ → Outcome → ReplyBody
over_with id how = body.Collected («collected».Over id (temporary_name id) how)

-- a run is refused that isn't there, or is another client's
pub record CausesOfRefusal (s : State) (client number : ℕ) (answered : ReplyBody) : Type 0 where
  pub no_such_run : (answered ≡ body.Refused (refusal.NoSuchRun number)) ↔ (run_view s number ≡ None)
  pub not_owner : (owner : ℕ) → (answered ≡ body.Refused (refusal.NotOwner owner)) ↔ ((owner ≢ client) × IsOwner s owner number)

-- a run that has ended is handed out with what its main thread has returned, or with who has stopped it
pub record CausesOfEnd (s : State) (client number : ℕ) (answered : ReplyBody) : Type 0 where
  pub value : (id : ℕ) (text : List ℕ) → (answered ≡ over_with id (outcome.Value text))
      ↔ ((run : Run) × IsEndedRun s client number id run × (end_of s.world run ≡ Some (thread_end.Returned (Some text))))
  pub finished : (id : ℕ) → (answered ≡ over_with id outcome.Finished)
      ↔ ((run : Run) × IsEndedRun s client number id run × (end_of s.world run ≡ Some (thread_end.Returned None)))
  pub stopped : (id by : ℕ) → (answered ≡ over_with id (outcome.Stopped by))
      ↔ ((run : Run) × IsEndedRun s client number id run × (end_of s.world run ≡ Some thread_end.Stopped) × (run.stopper ≡ Some by))

-- a run that hasn't ended goes on while some thread can, and is given up where none can
pub record CausesOfCollect (s : State) (client number : ℕ) (answered : ReplyBody) : Type 0 where
  pub refused : CausesOfRefusal s client number answered
  pub running : (steps : ℕ) → (answered ≡ body.Collected («collected».Running steps))
      ↔ ((run : Run) × IsAliveRun s client number run × SomeGoesOn s.world × (steps_so_far s.world run ≡ steps))
  pub stalled : (id : ℕ) (threads : List ℕ) → (answered ≡ over_with id (outcome.Stalled threads))
      ↔ ((run : Run) × IsAliveRun s client number run × (¬ SomeGoesOn s.world) × (run.snippet ≡ id) × (alive_threads s.world.states ≡ threads))
  pub ended : CausesOfEnd s client number answered

-- a run that hasn't ended is given up
pub record CausesOfExpire (s : State) (client number steps : ℕ) (answered : ReplyBody) : Type 0 where
  pub refused : CausesOfRefusal s client number answered
  pub spent : (id count : ℕ) → (answered ≡ over_with id (outcome.Spent count))
      ↔ ((run : Run) × IsAliveRun s client number run × (run.snippet ≡ id) × (steps ≡ count))
  pub ended : CausesOfEnd s client number answered

-- any client may stop any run that is there
pub record CausesOfStop (s : State) (number : ℕ) (answered : ReplyBody) : Type 0 where
  pub no_such_run : (answered ≡ body.Refused (refusal.NoSuchRun number)) ↔ (run_view s number ≡ None)
  pub done : (answered ≡ body.StopDone number) ↔ ((view : RunView) × (run_view s number ≡ Some view))

-- what is in force, or was done, may be taken back
abbrev pub IsDroppable : Fate → Type 0
IsDroppable what = (what ≡ fate.Live) ⊎ (what ≡ fate.Done)

-- the snippet with this number stands, and may be taken back
pub record CausesOfDropId (s : State) (id : ℕ) (answered : ReplyBody) : Type 0 where
  pub no_such_snippet : (answered ≡ body.Refused (refusal.NoSuchSnippet id (length s.book))) ↔ (numbered s.book id ≡ None)
  pub not_live : (why : Fate) → (answered ≡ body.Refused (refusal.NotLive id why))
      ↔ ((r : Record) × (numbered s.book id ≡ Some r) × (r.fate ≡ why) × (¬ IsDroppable why))
  pub dropped : (what : Kind) (name : List ℕ) (events : List Event) → (answered ≡ body.Dropped id what name events)
      ↔ ((r : Record) × (numbered s.book id ≡ Some r) × IsDroppable r.fate × (kind_of_record r ≡ what) × (name_of_record id ≡ name)
      × (drop_event id (live_of s.generation id) ∷ [] ≡ events))

-- exactly one declaration in force has the name
pub record CausesOfDropName (s : State) (name : List ℕ) (answered : ReplyBody) : Type 0 where
  pub no_such_name : (count : ℕ) → (answered ≡ body.Refused (refusal.NoSuchName name count))
      ↔ ((length (live_named name s.generation) ≡ count) × (count ≢ 1))
  pub found : (live : Live) → live_named name s.generation ≡ live ∷ [] → CausesOfDropId s live.id answered

abbrev pub CausesOfDrop : State → Target → ReplyBody → Type 0
CausesOfDrop s (target.Id id) answered = CausesOfDropId s id answered
CausesOfDrop s (target.Named name) answered = CausesOfDropName s name answered

-- a question is answered, whatever stands. That for suggestions isn't built yet.
abbrev pub CausesOfAsk : State → Question → ReplyBody → Type 0
CausesOfAsk s (question.Complete text) answered = ⊥
CausesOfAsk s what answered = answered ≡ body.Answered (answer_lines s what)

-- each answer to this act has its own cause
unfoldable pub CausesOfAct : State → ℕ → Act → ReplyBody → Type 0
CausesOfAct s client act.Enter answered = CausesOfEnter s answered
CausesOfAct s client (act.Submit source) answered = CausesOfSubmit s source answered
CausesOfAct s client (act.Turn thread steps) answered =
    CausesOfTurn s thread steps (step s (record { client = client; act = act.Turn thread steps })).state.world answered
CausesOfAct s client (act.Collect run) answered = CausesOfCollect s client run answered
CausesOfAct s client (act.Expire run steps) answered = CausesOfExpire s client run steps answered
CausesOfAct s client (act.Stop run) answered = CausesOfStop s run answered
CausesOfAct s client (act.Drop what) answered = CausesOfDrop s what answered
CausesOfAct s client (act.Ask question) answered = CausesOfAsk s question answered
CausesOfAct s client act.Reset answered = answered ≡ body.ResetDone (length s.book)
CausesOfAct s client act.Leave answered = answered ≡ body.Left
CausesOfAct s client act.Close answered = answered ≡ body.Closed

-- what is answered to an entry in a state has its cause
abbrev pub AnswerHasCause : State → Entry → ReplyBody → Type 0
AnswerHasCause s entry answered = CausesOfAct s entry.client entry.act answered
