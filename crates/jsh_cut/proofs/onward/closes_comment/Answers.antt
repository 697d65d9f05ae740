use Rattle.std.proofs.Common.{◌∙◌, ap, sym, arith}
use Rattle.std.specs.Prelude.{codes}
use Rattle.std.proofs.lemmas.List.{take_rest}
use Rattle.jsh_lex.specs.Chars.{begins}
use Rattle.jsh_cut.proofs.Onwards.{not_closed_here}
use Rattle.jsh_cut.proofs.onward.closes_comment.Goals as goal

pub loop-at-preserved : goal.loop-at-preserved
loop-at-preserved c = record {
  same =
      not_closed_here c.as_bytes-bytes.result.now c.loop-at.at c.loop-at-test.true
      (sym (c.begins_closing.ensures ∙ ap (begins (codes "*/")) (take_rest c.as_bytes-bytes.result.now c.loop-at.at)) ∙ c.if-begins_closing.false)
      ∙ c.loop-at.invariant.same;
  within = omega arith;
}
