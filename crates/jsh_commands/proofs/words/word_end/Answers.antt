use Rattle.std.proofs.Common.{◌≡◌, ◌∙◌, true, get_or, ap, sym, arith}
use Rattle.std.specs.Prelude.{not}
use Rattle.jsh_commands.specs.Words.{is_no_space}
use Rattle.jsh_lines.proofs.Edges.{front_drops}
use Rattle.jsh_commands.proofs.FirstWords.{word_grows}
use Rattle.jsh_commands.proofs.words.word_end.Goals as goal

pub loop-at-preserved : goal.loop-at-preserved
loop-at-preserved c =
    let bytes = c.as_bytes-bytes.result.now in
    let is : is_no_space (get_or bytes c.loop-at.at 0) ≡ true = ap not (sym c.is_space.ensures ∙ c.if-not-is_space.true) in
    record {
      word = word_grows is_no_space bytes c.loop-at.at (omega arith) is ∙ c.loop-at.invariant.word;
      rest = front_drops is_no_space bytes c.loop-at.at (omega arith) is ∙ c.loop-at.invariant.rest;
      within = omega arith;
    }
