-- What was served of a client's input as far as it is cut, and what stands behind that.
use Rattle.std.specs.Prelude.{◌≡◌, ℕ, not, List, [], ◌++◌, map, Option, if◌then◌else◌}
use Rattle.jsh_lines.specs.Lines.{as_text, cut, last_lines}
use Rattle.jsh_cut.specs.declared.command.Command.{Command}
use Rattle.jsh_cut.specs.declared.held.Held.{Held}
use Rattle.jsh_cut.specs.Commands.{Gives, cut_lines, cut_end}
use Rattle.jsh_shell.specs.declared.lines.Behind.{Behind}
use Rattle.jsh_shell.specs.declared.session.Session.{Session}
use Rattle.jsh_shell.specs.Progress.Phase.{Between}
use Rattle.jsh_shell.specs.Serving.{Serves}

-- the commands were served that lines give before they exit, and this stands behind them
pub record ServesCut (budget client : ℕ) (before after : Session) (held_before held_after : Option (List ℕ)) (gives : Gives) (behind : Behind) : Type 0 where
  pub serves : Serves budget client Between Between before after held_before held_after gives.commands
  pub held : behind.held ≡ gives.held
  pub exits : behind.exits ≡ gives.exits

-- what the whole lines of some bytes give behind a text that is held
abbrev pub piece_gives : Held → List ℕ → Gives
piece_gives before bytes = cut_lines before (map as_text (cut bytes).whole)

-- the commands that stand behind the last line, where the input ends
abbrev pub closing : Gives → List Command
closing gives = if not gives.exits then cut_end gives.held else []

-- the commands of a last line that no line feed ends, and of what is held behind it
abbrev pub ending : Held → List ℕ → List Command
ending before rest = by (cut_lines before (map as_text (last_lines rest)))
  where
    by : Gives → List Command
    by gives = gives.commands ++ closing gives
