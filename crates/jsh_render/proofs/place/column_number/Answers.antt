use Rattle.std.proofs.Common.{get_or, arith, ◌∙◌, ap, sym}
use Rattle.jsh_render.specs.Place.{next_column}
use Rattle.jsh_render.proofs.Columns.{column-more}
use Rattle.jsh_render.proofs.place.column_number.Goals as goal

pub loop-byte-preserved : goal.loop-byte-preserved
loop-byte-preserved c = record {
  value = c.column_after-column.ensures.value ∙ ap (λ column. next_column column (get_or c.args.before.now c.loop-byte.byte-index 0)) c.loop-byte.invariant.value ∙ sym (column-more c.args.before.now c.loop-byte.byte-index c.loop-byte-test.true);
  bound = omega (arith, c.column_after-column.ensures.bound, c.loop-byte.invariant.bound);
}
