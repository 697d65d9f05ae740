use Rattle.std.proofs.Common.{◌∙◌, arith}
use Rattle.jsh_parse.proofs.Types.{ends_in_last}
use Rattle.jsh_parse.proofs.leaves.ends_in_place.Goals as goal

pub returns-in-len1-up : goal.returns-in-len1-up
returns-in-len1-up c = c.is_place.ensures ∙ ends_in_last c.args.parts.now c.last-item.result (omega arith) c.last-item.is
