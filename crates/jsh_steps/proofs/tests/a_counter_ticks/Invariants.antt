-- The ledger of the blank that the test makes.
use Rattle.jsh_steps.proofs.tests.a_counter_ticks.Given as goal

abbrev pub ghosts-ticked : goal.ghosts-ticked
ghosts-ticked a = record { name = a.blank.name; parts = a.blank.parts }
