use Rattle.std.proofs.Common.{length, ◌-◌, ◌≡◌, ◌≤◌, take}
use Rattle.std.specs.Io.KnownBytes.{append_known}
use Rattle.jsh_io.proofs.writing.write_whole.Given as goal

abbrev pub invariant-loop-done : goal.invariant-loop-done
invariant-loop-done g l = record {
  within : l.done ≤ length l.piece;
  bytes : g.O.Sink.held l.sink ≡ append_known (g.O.Sink.held l.initial.sink) (take l.done l.piece);
  no_fault : g.O.Sink.faults l.sink ≡ g.O.Sink.faults l.initial.sink;
  stream : g.O.Sink.stream l.sink ≡ g.O.Sink.stream l.initial.sink;
}

abbrev pub decreases-loop-done : goal.decreases-loop-done
decreases-loop-done g l = length l.piece - l.done
