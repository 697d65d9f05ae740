-- No thread is picked.
use Rattle.std.proofs.Common.{◌≡◌, ◌==◌, List, None, Some, subst, sym}
use Rattle.std.specs.Prelude.{not}
use Rattle.jsh_sched.specs.declared.ThreadState.{ThreadState}
use Rattle.jsh_sched.specs.Pick.{picked}
use Rattle.jsh_shell.proofs.DriveLemmas.{no-more-idle}
use Rattle.jsh_shell.proofs.driving.next_turn.Goals as goal

pub returns-in-None-pick-clause-none : goal.returns-in-None-pick-clause-none
returns-in-None-pick-clause-none c = λ client.
    no-more-idle c.args.session.now.core client c.args.run c.args.session.now.cursor (Some c.in-Some.view.main) (not (c.args.session.now.last_turn == c.in-Some.view.main))
    (subst (λ (states : List ThreadState). picked states c.args.session.now.cursor (Some c.in-Some.view.main) (not (c.args.session.now.last_turn == c.in-Some.view.main)) ≡ None) c.states.ensures.threads (sym c.in-None-pick.ensures.value))
