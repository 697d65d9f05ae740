use Rattle.std.proofs.Common.{◌≡◌, drop}
use Rattle.std.specs.List.{list_all}
use Rattle.jsh_words.specs.Clap.{texts}
use Rattle.jsh_words.specs.Meant.{is_file}
use Rattle.jsh_words.proofs.checks.are_files.Given as goal

abbrev pub invariant-loop-name : goal.invariant-loop-name
invariant-loop-name l = list_all is_file (texts (drop l.name-index l.names)) ≡ list_all is_file (texts l.names)
