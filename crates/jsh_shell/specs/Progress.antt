-- How a client's entries in a journal follow its commands, with other clients' entries between them.
use Rattle.std.specs.Prelude.{◌≡◌, ℕ, ◌+◌, ◌-◌, ◌<◌, ◌≤◌, ◌==◌, ◌⊎◌, Bool, true, false, not, ◌||◌, List, [], ◌∷◌, Option, None, Some, min, if◌then◌else◌, MatchBool}
use Rattle.std.specs.List.{list_any}
use Rattle.jsh_snippet.specs.declared.acts.Act.{Act}
use Rattle.jsh_snippet.specs.declared.acts.Act.TheVariants as act
use Rattle.jsh_snippet.specs.declared.acts.Entry.{Entry}
use Rattle.jsh_snippet.specs.declared.replies.ReplyBody.{ReplyBody}
use Rattle.jsh_snippet.specs.declared.replies.ReplyBody.TheVariants as body
use Rattle.jsh_snippet.specs.declared.replies.Collected.TheVariants as «collected»
use Rattle.jsh_snippet.specs.declared.replies.Refusal.TheVariants as refusal
use Rattle.jsh_sched.specs.ThreadState.{is_ready}
use Rattle.jsh_sched.specs.Pick.{picked}
use Rattle.jsh_cut.specs.declared.command.Command.{Command}
use Rattle.jsh_cut.specs.declared.command.Command.TheVariants.{Eval, Slash, Exit}
use Rattle.jsh_core.specs.declared.world.RunView.{RunView}
use Rattle.jsh_core.specs.Limits.{most_steps}
use Rattle.jsh_core.specs.State.{State}
use Rattle.jsh_core.specs.Snippets.{run_of}
use Rattle.jsh_core.specs.Step.{step}
use Rattle.jsh_core.specs.Runs.{run_view}
use Rattle.jsh_core.specs.Threads.{can_go_on}

-- between two commands; in an evaluation, with its run and the steps of its turns so far; or behind a turn that want of memory cut short
pub data Phase : Type 0 where
  Between : Phase
  Evaluating : ℕ → ℕ → Phase
  CutShort : Phase

-- how far a client has come
pub record Progress : Type 0 where
  pub phase : Phase
  -- the commands that have no entry yet
  pub commands : List Command
  -- the thread of its last turn, 0 before the first one
  pub last_turn : ℕ
  -- the thread of its last turn that wasn't of the main thread of its own evaluation, or 0
  pub cursor : ℕ
  -- in some state since its last entry no thread was Ready
  pub was_idle : Bool
  -- since the entry of its last command another client has reset all
  pub was_reset : Bool
  -- its last entry was refused at a limit
  pub limited : Bool
  pub has_left : Bool

-- a client with these commands, before its first entry
abbrev pub begins : List Command → Progress
begins commands = record {
  phase = Between;
  commands = commands;
  last_turn = 0;
  cursor = 0;
  was_idle = false;
  was_reset = false;
  limited = false;
  has_left = false;
}

-- ---- replies, acts and states

-- a refusal at a limit
abbrev pub is_limit : ReplyBody → Bool
is_limit (body.Refused (refusal.Limit which count)) = true
is_limit _ = false

-- a run that was asked for goes on
abbrev pub is_running : ReplyBody → Bool
is_running (body.Collected («collected».Running steps)) = true
is_running _ = false

abbrev pub is_reset : Act → Bool
is_reset act.Reset = true
is_reset _ = false

-- no thread is Ready
abbrev pub is_idle : State → Bool
is_idle s = not (list_any is_ready s.world.states)

-- ---- the entry of a command

-- the act that a command stands for
abbrev pub command_act : Command → Act
command_act (Eval source) = act.Submit source
command_act (Slash what) = what
command_act Exit = act.Leave

-- a source that gets a run is evaluated
abbrev pub phase_after : Option ℕ → Phase
phase_after None = Between
phase_after (Some run) = Evaluating run 0

abbrev pub is_source : Command → Bool
is_source (Eval source) = true
is_source _ = false

-- the run that the reply to a command has to be evaluated: a slash line is one entry
abbrev pub run_behind : Bool → ReplyBody → Option ℕ
run_behind source reply = if source then run_of reply else None

-- the next command has its entry
abbrev pub behind_command : Progress → Command → List Command → State → ReplyBody → Progress
behind_command p command commands after reply = record p {
  phase = phase_after (run_behind (is_source command) reply);
  commands = commands;
  was_idle = is_idle after;
  was_reset = false;
  limited = is_limit reply;
}

-- an own entry is the act of the next command
abbrev pub TakesNext : Progress → List Command → Act → State → ReplyBody → Progress → Type 0
TakesNext p [] what after reply q = ⊥
TakesNext p (command ∷ commands) what after reply q = (what ≡ command_act command) × (q ≡ behind_command p command commands after reply)

-- ---- the entries of an evaluation behind the first one

-- The thread whose turn it is in the evaluation of a run, where the run isn't over. The main thread goes first unless it had the
-- client's last turn.
abbrev pub next_thread : State → ℕ → ℕ → RunView → Option ℕ
next_thread s last_turn cursor run = if run.over then None else picked s.world.states cursor (Some run.main) (not (last_turn == run.main))

-- the steps that a turn is given, where so many of the budget are used
abbrev pub turn_steps : ℕ → ℕ → ℕ
turn_steps budget used = min most_steps (budget - used)

-- a turn was this thread's
abbrev pub behind_turn : Progress → State → ℕ → ℕ → Phase → Progress
behind_turn p after main thread phase = record p {
  phase = phase;
  last_turn = thread;
  cursor = if thread == main then p.cursor else thread;
  was_idle = is_idle after;
  limited = false;
}

-- a turn has all its steps, or fewer only where its thread can't go on behind it
pub record IsWholeTurn (budget run used main thread steps : ℕ) (after : State) (p q : Progress) : Type 0 where
  pub most : steps ≤ turn_steps budget used
  pub fewer : steps < turn_steps budget used → can_go_on after.world thread ≡ false
  pub behind : q ≡ behind_turn p after main thread (Evaluating run (used + steps))

-- want of memory leaves a turn fewer steps
pub record IsCutTurn (budget used main thread steps : ℕ) (after : State) (p q : Progress) : Type 0 where
  pub fewer : steps < turn_steps budget used
  pub behind : q ≡ behind_turn p after main thread CutShort

-- a turn is of the thread whose turn it is, and its reply counts all its steps
pub record IsTurn (budget run used thread steps : ℕ) (s after : State) (reply : ReplyBody) (p q : Progress) : Type 0 where
  pub view : RunView
  pub found : run_view s run ≡ Some view
  pub picked : next_thread s p.last_turn p.cursor view ≡ Some thread
  pub some : 0 < steps
  pub counted : reply ≡ body.Turned steps
  pub how : IsWholeTurn budget run used view.main thread steps after p q ⊎ IsCutTurn budget used view.main thread steps after p q

-- the evaluation has ended
abbrev pub behind_end : Progress → State → ReplyBody → Progress
behind_end p after reply = record p { phase = Between; was_idle = is_idle after; limited = is_limit reply }

-- the run was asked for: where it goes on, so does the evaluation
abbrev pub behind_collect : Progress → State → ReplyBody → Progress
behind_collect p after reply =
    if is_running reply then record p { was_idle = is_idle after; limited = false } else behind_end p after reply

-- The run is asked for below the budget. It goes on only where no thread was Ready once, so that no turn could be taken.
pub record IsCollect (budget run used asked : ℕ) (after : State) (reply : ReplyBody) (p q : Progress) : Type 0 where
  pub own : asked ≡ run
  pub below : used < budget
  pub running : is_running reply ≡ true → p.was_idle ≡ true
  pub behind : q ≡ behind_collect p after reply

-- the run is given up once the whole budget is used
pub record IsExpire (budget run used asked steps : ℕ) (after : State) (reply : ReplyBody) (p q : Progress) : Type 0 where
  pub own : asked ≡ run
  pub carried : steps ≡ budget
  pub whole : used ≡ budget
  pub behind : q ≡ behind_end p after reply

-- An own entry within an evaluation: a turn, or the run is asked for or given up. Behind a reset it may also be that of the next command.
abbrev pub Evaluates : ℕ → State → Progress → ℕ → ℕ → Act → State → ReplyBody → Progress → Type 0
Evaluates budget s p run used (act.Turn thread steps) after reply q = IsTurn budget run used thread steps s after reply p q
Evaluates budget s p run used (act.Collect asked) after reply q = IsCollect budget run used asked after reply p q
Evaluates budget s p run used (act.Expire asked steps) after reply q = IsExpire budget run used asked steps after reply p q
Evaluates budget s p run used what after reply q = (p.was_reset ≡ true) × TakesNext p p.commands what after reply q

-- ---- entry by entry

-- an own entry other than the leave
abbrev pub GoesOn : ℕ → State → Progress → Phase → Act → State → ReplyBody → Progress → Type 0
GoesOn budget s p Between what after reply q = TakesNext p p.commands what after reply q
GoesOn budget s p (Evaluating run used) what after reply q = Evaluates budget s p run used what after reply q
GoesOn budget s p CutShort what after reply q = ⊥

-- an own entry: the client can leave at any time
abbrev pub OwnGoes : ℕ → State → Progress → Act → State → ReplyBody → Progress → Type 0
OwnGoes budget s p act.Leave after reply q = q ≡ record p { has_left = true }
OwnGoes budget s p what after reply q = GoesOn budget s p p.phase what after reply q

-- another client's entry, as long as the client is there
abbrev pub behind_other : Progress → Act → State → Progress
behind_other p what after = if p.has_left then p
    else record p { was_idle = p.was_idle || is_idle after; was_reset = p.was_reset || is_reset what }

-- An entry takes the client from one progress to the next. Nobody goes on after its leave.
abbrev pub Goes : ℕ → ℕ → State → Progress → Entry → Progress → Type 0
Goes budget client s p entry q = MatchBool (entry.client == client)
    ((p.has_left ≡ false) × OwnGoes budget s p entry.act (step s entry).state (step s entry).reply.body q)
    (q ≡ behind_other p entry.act (step s entry).state)

-- the entries take the client from one progress to another
abbrev pub Follows : ℕ → ℕ → State → Progress → List Entry → Progress → Type 0
Follows budget client s p [] q = q ≡ p
Follows budget client s p (entry ∷ entries) q =
    (m : Progress) × Goes budget client s p entry m × Follows budget client (step s entry).state m entries q

-- ---- the end of a command

-- the last command has all its entries, or a reset lets its evaluation end
abbrev pub IsAtEnd : Progress → Type 0
IsAtEnd p = by p.phase
  where
    by : Phase → Type 0
    by Between = Unit {0}
    by (Evaluating run used) = p.was_reset ≡ true
    by CutShort = ⊥
