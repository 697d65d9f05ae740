-- A command is handed in, and its run is evaluated.
use Rattle.std.proofs.Common.{ap, ◌∙◌, refl, [], ◌∷◌}
use Rattle.jsh_shell.specs.Progress.{phase_after}
use Rattle.jsh_shell.specs.Progress.Phase.{Between, Evaluating}
use Rattle.jsh_shell.proofs.ServeLemmas.{cause-later, serves-append, serves-part-append}
use Rattle.jsh_shell.proofs.evaluation.serve_command.Goals as goal

pub hand_in-requires-clause-open : goal.hand_in-requires-clause-open
hand_in-requires-clause-open g c = c.requires.open

pub hand_in-requires-clause-servable : goal.hand_in-requires-clause-servable
hand_in-requires-clause-servable g c = c.requires.servable

pub returns-in-Err-clause-err : goal.returns-in-Err-clause-err
returns-in-Err-clause-err g c = c.in-Err.ensures.err c.args.budget

pub returns-in-Err-clause-open : goal.returns-in-Err-clause-open
returns-in-Err-clause-open g c = c.in-Err.ensures.open

pub returns-in-Err-clause-counts : goal.returns-in-Err-clause-counts
returns-in-Err-clause-counts g c = c.in-Err.ensures.counts

pub returns-in-Err-clause-stream : goal.returns-in-Err-clause-stream
returns-in-Err-clause-stream g c = c.in-Err.ensures.stream

pub evaluate-requires : goal.evaluate-requires
evaluate-requires g c = c.in-Ok.ensures.open

pub returns-in-None-clause-ok : goal.returns-in-None-clause-ok
returns-in-None-clause-ok g c = rw c.in-None.is at (c.in-Ok.ensures.ok c.args.budget)

pub returns-in-None-clause-open : goal.returns-in-None-clause-open
returns-in-None-clause-open g c = c.in-Ok.ensures.open

pub returns-in-None-clause-counts : goal.returns-in-None-clause-counts
returns-in-None-clause-counts g c = c.in-Ok.ensures.counts

pub returns-in-None-clause-stream : goal.returns-in-None-clause-stream
returns-in-None-clause-stream g c = c.in-Ok.ensures.stream

pub returns-in-Err-evaluate-clause-err : goal.returns-in-Err-evaluate-clause-err
returns-in-Err-evaluate-clause-err g c =
    serves-part-append c.in-Err-evaluate.why _ _ Between (Evaluating c.in-Some.run' 0) _ _ _ _ _ _ (c.args.command ∷ []) [] (rw c.in-Some.is at (c.in-Ok.ensures.ok c.args.budget)) c.in-Err-evaluate.ensures.err

pub returns-in-Err-evaluate-clause-open : goal.returns-in-Err-evaluate-clause-open
returns-in-Err-evaluate-clause-open g c = c.in-Err-evaluate.ensures.open

pub returns-in-Err-evaluate-clause-counts : goal.returns-in-Err-evaluate-clause-counts
returns-in-Err-evaluate-clause-counts g c = cause-later c.in-Err-evaluate.why _ _ _ c.in-Ok.ensures.counts c.in-Err-evaluate.ensures.counts

pub returns-in-Err-evaluate-clause-stream : goal.returns-in-Err-evaluate-clause-stream
returns-in-Err-evaluate-clause-stream g c = c.in-Err-evaluate.ensures.stream ∙ c.in-Ok.ensures.stream

pub returns-clause-ok : goal.returns-clause-ok
returns-clause-ok g c =
    serves-append _ _ Between (Evaluating c.in-Some.run' 0) Between _ _ _ _ _ _ (c.args.command ∷ []) [] (rw c.in-Some.is at (c.in-Ok.ensures.ok c.args.budget)) c.in-Ok-evaluate.ensures.ok

pub returns-clause-open : goal.returns-clause-open
returns-clause-open g c = c.in-Ok-evaluate.ensures.open

pub returns-clause-counts : goal.returns-clause-counts
returns-clause-counts g c = c.in-Ok-evaluate.ensures.counts ∙ c.in-Ok.ensures.counts

pub returns-clause-stream : goal.returns-clause-stream
returns-clause-stream g c = c.in-Ok-evaluate.ensures.stream ∙ c.in-Ok.ensures.stream
