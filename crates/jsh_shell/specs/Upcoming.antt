-- What comes next of a line.
use Rattle.std.specs.Prelude.{[]}
use Rattle.jsh_cut.specs.Commands.{Gives, with_command}
use Rattle.jsh_cut.specs.Cuttings.{coming}
use Rattle.jsh_shell.specs.declared.lines.Upcoming.{Upcoming}
use Rattle.jsh_shell.specs.declared.lines.Upcoming.TheVariants.{First, Last}

-- a command and all that comes behind it, or what stands behind the last one
abbrev pub comes : Upcoming → Gives
comes (First command rest) = with_command command (coming rest)
comes (Last behind) = record { commands = []; held = behind.held; exits = behind.exits }
