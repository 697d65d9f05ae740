use Rattle.std.proofs.Common.{arith, ◌∙◌}
use Rattle.jsh_io.proofs.Known.{append_known-take}
use Rattle.jsh_io.proofs.writing.write_whole.Goals as goal

pub loop-done-preserved : goal.loop-done-preserved
loop-done-preserved g c = record {
  within = omega (arith, c.in_ok-taken.ensures.bound);
  bytes = append_known-take _ _ _ _ _ _ c.loop-done.invariant.bytes c.in_ok-taken.ensures.bytes;
  no_fault = c.in_ok-taken.ensures.no_fault (omega arith) ∙ c.loop-done.invariant.no_fault;
  stream = c.in_ok-taken.ensures.stream ∙ c.loop-done.invariant.stream;
}
