-- What was found of the words.
use Rattle.jsh_words.specs.declared.found.Found.{Found}
use Rattle.jsh_words.specs.Clap.{texts}
use Rattle.jsh_words.specs.Meant.{Given}

-- the values of each option, and the scripts
abbrev pub given_in : Found → Given
given_in found = record {
  workers = texts found.workers.items;
  budget = texts found.budget.items;
  journal = texts found.journal.items;
  startup = texts found.startup.items;
  demo = texts found.demo.items;
  replay = texts found.replay.items;
  scripts = texts found.scripts.items;
}
