-- The run that is shown is the one that the history made.
use Rattle.std.proofs.Common.{List, ap, ◌∙◌}
use Rattle.jsh_snippet.specs.declared.acts.Entry.{Entry}
use Rattle.jsh_core.specs.State.{State}
use Rattle.jsh_core.specs.Runs.{run_view}
use Rattle.jsh_core.specs.History.{state_of}
use Rattle.jsh_core.proofs.FateLemmas.{shown-history}
use Rattle.jsh_core.proofs.engine.Core.run.Goals as goal

pub returns-clause-made : goal.returns-clause-made
returns-clause-made c =
    shown-history c.args.self.now c.args.run c.view_run.result
    (c.view_run.ensures ∙ ap (λ (s : State). run_view s c.args.run) c.self.invariant.state ∙ ap (λ (h : List Entry). run_view (state_of h) c.args.run) c.self.view_is)
