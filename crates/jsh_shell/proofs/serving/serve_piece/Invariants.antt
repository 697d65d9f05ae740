-- Of what was begun and the piece, some lines were served, and the rest is left.
use Rattle.std.proofs.Common.{◌≡◌, ◌≤◌, ◌+◌, ◌*◌, ◌++◌, length}
use Rattle.jsh_lines.specs.Lines.{cut}
use Rattle.jsh_cut.specs.Commands.{held_text}
use Rattle.jsh_shell.specs.Serving.{IsOpen}
use Rattle.jsh_shell.proofs.PieceLemmas.{IsAlong}
use Rattle.jsh_shell.proofs.serving.serve_piece.Given as goal

abbrev pub invariant-lines : goal.invariant-lines
invariant-lines g l = record {
  «open» : IsOpen l.client l.session.core;
  uncut : (cut l.begun.items).rest ≡ l.begun.items;
  few : length (held_text l.waiting) + 3 * (length l.begun.items + length l.rest) ≤ length (held_text l.initial.waiting) + 3 * (length l.initial.begun.items + length l.piece);
  along : IsAlong l.budget l.client l.initial.session l.session (g.O.Sink.held l.initial.sink) (g.O.Sink.held l.sink) l.initial.waiting l.waiting (l.initial.begun.items ++ l.piece) (l.begun.items ++ l.rest);
  unwritten : g.O.Sink.faults l.sink ≡ g.O.Sink.faults l.initial.sink;
  stream : g.O.Sink.stream l.sink ≡ g.O.Sink.stream l.initial.sink;
}

abbrev pub decreases-lines : goal.decreases-lines
decreases-lines g l = length l.rest
