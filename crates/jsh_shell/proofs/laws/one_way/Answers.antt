use Rattle.jsh_shell.proofs.OneWay.{one-way, one-rest}
use Rattle.jsh_shell.proofs.laws.one_way.Goals as goal

pub returns-clause-whole : goal.returns-clause-whole
returns-clause-whole c = one-way

pub returns-clause-rest : goal.returns-clause-rest
returns-clause-rest c = one-rest
