use Rattle.jsh_complete.proofs.Judged.{semicolon_lacks, semicolon_refused}
use Rattle.jsh_complete.proofs.analysis.lacks_semicolon.Goals as goal

pub returns-then-may_come : goal.returns-then-may_come
returns-then-may_come c = λ ks runs lacks. let brace = c.if-may_come.ensures ks runs in lacks.1 brace.0 brace.1

pub returns-in-Taken : goal.returns-in-Taken
returns-in-Taken c = λ ks runs. semicolon_lacks ks c.is_whole_with_semicolon.result (c.if-may_come.ensures ks runs) (c.is_whole_with_semicolon.ensures ks runs)

pub returns-in-TooDeep : goal.returns-in-TooDeep
returns-in-TooDeep c = λ ks runs lacks. semicolon_refused c.looks.result c.looks.ensures c.in-TooDeep.is ks runs lacks.0
