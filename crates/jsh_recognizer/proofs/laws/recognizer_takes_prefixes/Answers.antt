use Rattle.jsh_recognizer.proofs.MeantRuns.{runs_lead, runs_fulfil}
use Rattle.jsh_recognizer.proofs.TakesRuns.{leads_runs, whole_stops}
use Rattle.jsh_recognizer.proofs.laws.recognizer_takes_prefixes.Goals as goal

pub returns-clause-taken : goal.returns-clause-taken
returns-clause-taken c = runs_lead

pub returns-clause-all : goal.returns-clause-all
returns-clause-all c = leads_runs

pub returns-clause-whole : goal.returns-clause-whole
returns-clause-whole c = λ n f limit ks last starts runs. (runs_fulfil n f limit ks last starts runs, whole_stops n f limit ks last starts runs)
