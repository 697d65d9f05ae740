use Rattle.jsh_replay.proofs.replaying.replayed.Given as goal

abbrev pub ghosts-replies_to : goal.ghosts-replies_to
ghosts-replies_to a = record { name = a.blank.name; parts = a.blank.parts }
