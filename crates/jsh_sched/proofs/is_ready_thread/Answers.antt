use Rattle.std.proofs.Common.{arith, ◌-◌}
use Rattle.jsh_sched.proofs.ReadyThreads.{find_main_at, find_main_below, find_main_past}
use Rattle.jsh_sched.proofs.is_ready_thread.Goals as goal
use Rattle.jsh_sched.proofs.is_ready_thread.Goals.{then-number-eq0-via-then-number-eq0, then-number-eq0-via-else-number-eq0+then-number-states}

pub returns-then-number-eq0 : goal.returns-then-number-eq0
returns-then-number-eq0 c =
    elim c.then-number-eq0.branch [
      | then-number-eq0-via-then-number-eq0 w ↦ find_main_below c.args.states.now 1 c.args.thread (omega arith)
      | then-number-eq0-via-else-number-eq0+then-number-states w ↦ find_main_past c.args.states.now 1 c.args.thread (omega arith)
    ]

pub returns : goal.returns
returns c = rw c.is_ready.ensures (find_main_at c.args.states.now 1 (c.args.thread - 1) c.args.thread _ (omega arith) (omega arith))
