-- The ledger of the blank that is passed on.
use Rattle.jsh_shell.proofs.shell.serve_standard.Given as goal

abbrev pub ghosts-serve_counted : goal.ghosts-serve_counted
ghosts-serve_counted g a = record { name = a.blank.name; parts = a.blank.parts }
