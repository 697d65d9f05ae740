use Rattle.std.proofs.Common.{arith, ◌≡◌}
use Rattle.std.proofs.lemmas.Grind.{common_steps}
use Rattle.jsh_sched.specs.Pick.{picked}
use Rattle.jsh_sched.proofs.ReadyThreads.{picked-is_none}
use Rattle.jsh_sched.proofs.pick.Goals as goal

pub returns-in_default-clause-none : goal.returns-in_default-clause-none
returns-in_default-clause-none c =
    let value : c.or.result ≡ picked c.args.states.now c.args.cursor c.args.main c.args.main_first = grind (arith, common_steps) in
    rw value (picked-is_none c.args.states.now c.args.cursor c.args.main c.args.main_first)
