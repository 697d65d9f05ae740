use Rattle.std.proofs.Common.{arith}
use Rattle.jsh_parse.proofs.Types.{type_by_name}
use Rattle.jsh_parse.proofs.leaves.type_use.Goals as goal

pub returns : goal.returns
returns c = (omega (arith, c.in_ok-name.ensures.value.0), simp (type_by_name c.args.input.now.text.now, c.in_ok-name.ensures.value.1, c.in_ok-type_of.ensures, c.brackets-dims.ensures.dims, c.brackets-dims.ensures.rest))
