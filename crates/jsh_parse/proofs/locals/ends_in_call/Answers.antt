use Rattle.std.proofs.Common.{◌∙◌, arith}
use Rattle.jsh_parse.proofs.LeafOnward.{call_is_last}
use Rattle.jsh_parse.proofs.locals.ends_in_call.Goals as goal

pub returns-in-len1-up : goal.returns-in-len1-up
returns-in-len1-up c =
    c.is_call.ensures ∙ call_is_last c.args.parts.now c.last-item.result (omega arith) c.last-item.is
