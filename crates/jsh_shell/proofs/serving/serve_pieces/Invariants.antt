-- So much was read, its whole lines were served, its rest begins a line, and what waits is held.
use Rattle.std.proofs.Common.{◌≡◌, ◌≤◌, ◌-◌, ◌+◌, ◌*◌, length}
use Rattle.jsh_cut.specs.Commands.{held_text}
use Rattle.jsh_shell.specs.Input.{most_input}
use Rattle.jsh_shell.specs.Serving.{IsOpen}
use Rattle.jsh_shell.proofs.ReadLemmas.{IsReading}
use Rattle.jsh_shell.proofs.serving.serve_pieces.Given as goal

abbrev pub invariant-pieces : goal.invariant-pieces
invariant-pieces g l = record {
  «open» : IsOpen l.client l.session.core;
  few : l.total ≤ most_input;
  short : length (held_text l.held) + 3 * length l.begun.items ≤ 3 * l.total;
  reading : IsReading l.budget l.client l.initial.session l.session (g.I.Source.left l.initial.source) (g.I.Source.left l.source) (g.O.Sink.held l.initial.sink) (g.O.Sink.held l.sink) l.held l.begun.items l.total;
  unread : g.I.Source.faults l.source ≡ g.I.Source.faults l.initial.source;
  unwritten : g.O.Sink.faults l.sink ≡ g.O.Sink.faults l.initial.sink;
  stream : g.O.Sink.stream l.sink ≡ g.O.Sink.stream l.initial.sink;
}

abbrev pub decreases-pieces : goal.decreases-pieces
decreases-pieces g l = most_input - l.total
