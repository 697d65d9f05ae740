use Rattle.jsh_scope.proofs.Clones.{member_same}
use Rattle.jsh_scope.proofs.copies.member_copy.Goals as goal

pub returns : goal.returns
returns c = member_same c.args.member.now c.in_ok-copy.copy c.in_ok-copy.ensures.cases
