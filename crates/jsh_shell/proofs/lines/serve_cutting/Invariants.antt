-- Some commands were served, and the others are still to come.
use Rattle.std.proofs.Common.{◌≡◌, length}
use Rattle.jsh_cut.specs.Cuttings.{coming}
use Rattle.jsh_shell.specs.Serving.{IsOpen}
use Rattle.jsh_shell.proofs.CuttingLemmas.{IsCutting}
use Rattle.jsh_shell.proofs.lines.serve_cutting.Given as goal

abbrev pub invariant-each : goal.invariant-each
invariant-each g l = record {
  «open» : IsOpen l.client l.session.core;
  cut : IsCutting l.budget l.client l.initial.session l.session (g.O.Sink.held l.initial.sink) (g.O.Sink.held l.sink) (coming l.fn.cutting) (coming l.left);
  unwritten : g.O.Sink.faults l.sink ≡ g.O.Sink.faults l.initial.sink;
  stream : g.O.Sink.stream l.sink ≡ g.O.Sink.stream l.initial.sink;
}

abbrev pub decreases-each : goal.decreases-each
decreases-each g l = length (coming l.left).commands
