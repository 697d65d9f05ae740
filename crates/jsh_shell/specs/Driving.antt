-- Whose turn it is in an evaluation, and how it ends.
use Rattle.std.specs.Prelude.{◌≡◌, ℕ, Some}
use Rattle.jsh_snippet.specs.declared.acts.Act.{Act}
use Rattle.jsh_snippet.specs.declared.acts.Act.TheVariants as act
use Rattle.jsh_snippet.specs.declared.replies.ReplyBody.{ReplyBody}
use Rattle.jsh_snippet.specs.declared.replies.ReplyBody.TheVariants as body
use Rattle.jsh_core.specs.declared.world.RunView.{RunView}
use Rattle.jsh_core.specs.Runs.{run_view}
use Rattle.jsh_core.specs.History.{state_of}
use Rattle.jsh_shell.specs.declared.session.Session.{Session}
use Rattle.jsh_shell.specs.declared.driving.Driven.{Driven}
use Rattle.jsh_shell.specs.declared.driving.Driven.TheVariants as driven
use Rattle.jsh_shell.specs.declared.driving.NextTurn.{NextTurn}
use Rattle.jsh_shell.specs.Progress.{next_thread}

-- it is this thread's turn in the evaluation of a run
pub record HasTurn (session : Session) (run : ℕ) (turn : NextTurn) : Type 0 where
  pub view : RunView
  pub found : run_view (state_of session.core) run ≡ Some view
  pub main : view.main ≡ turn.main
  pub picked : next_thread (state_of session.core) session.last_turn session.cursor view ≡ Some turn.thread

-- the steps that a turn has done
abbrev pub done_of : ReplyBody → ℕ
done_of (body.Turned steps) = steps
done_of _ = 0

-- a run that goes on no more is asked for, and one that has used the budget is given up
abbrev pub last_act : Driven → ℕ → ℕ → Act
last_act driven.Still run budget = act.Collect run
last_act driven.Spent run budget = act.Expire run budget
