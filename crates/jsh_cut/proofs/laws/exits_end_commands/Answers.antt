use Rattle.jsh_cut.proofs.Exits.{without_exit-commands, has_exit-commands}
use Rattle.jsh_cut.proofs.laws.exits_end_commands.Goals as goal

pub returns-clause-without : goal.returns-clause-without
returns-clause-without c = without_exit-commands

pub returns-clause-has : goal.returns-clause-has
returns-clause-has c = has_exit-commands
