use Rattle.std.proofs.Common.{arith}
use Rattle.jsh_sched.proofs.ReadyThreads.{find_above}
use Rattle.jsh_sched.proofs.first_other.Goals as goal

pub loop-place-init : goal.loop-place-init
loop-place-init c = find_above c.args.main c.args.states.now 0 c.args.after c.args.after (omega arith)
