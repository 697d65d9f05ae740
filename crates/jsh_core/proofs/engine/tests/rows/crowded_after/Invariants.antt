-- The ledger of the blank that counts nothing.
use Rattle.jsh_core.proofs.engine.tests.rows.crowded_after.Given as goal

abbrev pub ghosts-crowded : goal.ghosts-crowded
ghosts-crowded a = record { name = a.blank.name; parts = a.blank.parts }
