use Rattle.std.proofs.Common.{◌∙◌, sym}
use Rattle.jsh_sched.specs.Pick.{other_threads, ready_threads}
use Rattle.jsh_sched.proofs.ReadyThreads.{first_of_others, next_after-round}
use Rattle.jsh_sched.proofs.next_other.Goals as goal

pub returns-in-None : goal.returns-in-None
returns-in-None c =
    c.first_other-in-None.ensures
    ∙ first_of_others c.args.main c.args.states.now
    ∙ sym (next_after-round c.args.cursor (other_threads c.args.main (ready_threads c.args.states.now)) (sym c.first_other.ensures ∙ c.in-None.is))
