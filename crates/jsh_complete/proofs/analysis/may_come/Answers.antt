use Rattle.jsh_complete.proofs.Judged.{may_come, may_not_come}
use Rattle.jsh_complete.proofs.analysis.may_come.Goals as goal

pub returns-in-Taken : goal.returns-in-Taken
returns-in-Taken c = may_come c.args.kind c.looks.result c.looks.ensures c.in-Taken.is

pub returns-in-Refused : goal.returns-in-Refused
returns-in-Refused c = may_not_come c.args.kind c.looks.result c.looks.ensures c.in-Refused.is
