use Rattle.std.proofs.Common.{◌≡◌, ◌-◌, ◌≤◌, length, drop}
use Rattle.std.specs.Str.{IsCharBoundary}
use Rattle.jsh_lex.specs.Chars.{drop_while}
use Rattle.jsh_lines.specs.Edges.{is_outer}
use Rattle.jsh_lines.proofs.edge.first_place.Given as goal

abbrev pub invariant-loop-at : goal.invariant-loop-at
invariant-loop-at l = record {
  same : drop_while (is_outer l.edge) (drop l.at l.bytes) ≡ drop_while (is_outer l.edge) l.bytes;
  within : l.at ≤ length l.bytes;
  between : IsCharBoundary l.bytes l.at;
}

abbrev pub decreases-loop-at : goal.decreases-loop-at
decreases-loop-at l = length l.bytes - l.at
