-- No thread and no run is added.
use Rattle.std.proofs.Common.{arith}
use Rattle.std.proofs.lemmas.Grind.{common_steps}
use Rattle.jsh_core.proofs.WithinLemmas.{IsWithin-of}
use Rattle.jsh_core.proofs.runs.give_up.Goals as goal

pub returns-clause-within : goal.returns-clause-within
returns-clause-within c =
    λ entries h. IsWithin-of entries entries c.args.parts.now _ (omega arith) h.generation (grind (arith, common_steps)) (grind (arith, common_steps)) c.stop_thread.ensures.steps h
