use Rattle.std.proofs.Common.{◌≡◌, ◌≤◌, length, take, reverse}
use Rattle.std.specs.Str.{IsCharBoundary}
use Rattle.jsh_lex.specs.Chars.{drop_while}
use Rattle.jsh_lines.specs.Edges.{is_outer}
use Rattle.jsh_lines.proofs.edge.last_place.Given as goal

abbrev pub invariant-loop-end : goal.invariant-loop-end
invariant-loop-end l = record {
  same : drop_while (is_outer l.edge) (reverse (take l.end l.bytes)) ≡ drop_while (is_outer l.edge) (reverse l.bytes);
  within : l.end ≤ length l.bytes;
  between : IsCharBoundary l.bytes l.end;
}

abbrev pub decreases-loop-end : goal.decreases-loop-end
decreases-loop-end l = l.end
