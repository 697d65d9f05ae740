use Rattle.std.proofs.Common.{◌≡◌, ◌∙◌, true, get_or, arith}
use Rattle.std.proofs.lemmas.Str.{IsCharBoundary-start, IsCharBoundary-after_ascii}
use Rattle.jsh_lines.specs.Edges.{is_outer}
use Rattle.jsh_lines.proofs.Edges.{outer-ascii, front_drops}
use Rattle.jsh_lines.proofs.edge.first_place.Goals as goal
use Rattle.std.proofs.Common.{refl}

pub loop-at-init : goal.loop-at-init
loop-at-init c = record { same = refl; within = omega arith; between = IsCharBoundary-start c.as_bytes-bytes.result.now c.as_bytes-bytes.ensures.utf8 }

pub loop-at-preserved : goal.loop-at-preserved
loop-at-preserved c =
    let bytes = c.as_bytes-bytes.result.now in
    let is : is_outer c.args.edge (get_or bytes c.loop-at.at 0) ≡ true = cc in
    record {
      same = front_drops (is_outer c.args.edge) bytes c.loop-at.at (omega arith) is ∙ c.loop-at.invariant.same;
      within = omega arith;
      between = IsCharBoundary-after_ascii bytes c.loop-at.at c.as_bytes-bytes.ensures.utf8 (omega arith) (outer-ascii c.args.edge _ is);
    }
