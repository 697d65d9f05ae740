use Rattle.std.proofs.Common.{◌∙◌, ap, arith}
use Rattle.jsh_pieces.specs.Pieces.{ends_line}
use Rattle.jsh_cut.proofs.Onwards.{ends_by_last}
use Rattle.jsh_cut.proofs.onward.ends_line.Goals as goal

pub returns-in-len1-up : goal.returns-in-len1-up
returns-in-len1-up c = ends_by_last c.as_bytes.result.now (omega (arith, c.in-len1-up.len_at_least)) ∙ ap ends_line c.as_bytes.ensures.value
