-- One generation is added, and no thread and no run.
use Rattle.std.proofs.Common.{arith, ◌+◌}
use Rattle.std.proofs.lemmas.Grind.{common_steps}
use Rattle.jsh_core.proofs.WithinLemmas.{IsWithin-of}
use Rattle.jsh_core.proofs.clients.reset_all.Goals as goal

pub returns-clause-within : goal.returns-clause-within
returns-clause-within c =
    λ entries h. IsWithin-of entries (entries + 1) c.args.parts.now _ (omega arith) (grind (arith, common_steps)) (grind (arith, common_steps)) (grind (arith, common_steps)) c.stop_threads.ensures.steps h
