use Rattle.std.proofs.Common.{◌≡◌}
use Rattle.std.specs.Io.KnownBytes.{Keeps}
use Rattle.jsh_io.proofs.adapters.WriterSinkSink.write.Given as goal

abbrev pub invariant-tries : goal.invariant-tries
invariant-tries g l = record {
  keeps : Keeps (g.W.Write.contents l.initial.self.writer) (g.W.Write.contents l.self.writer);
  faults : l.self.faults ≡ l.initial.self.faults;
}
