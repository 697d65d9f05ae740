use Rattle.jsh_parse.proofs.StatementTableDerived.{stmt_derived}
use Rattle.jsh_parse.proofs.StatementTableSpelled.{stmt_spelled}
use Rattle.jsh_parse.proofs.TableValues.{values_taken}
use Rattle.jsh_parse.proofs.laws.statements_are_in_the_table.Goals as goal

pub returns-clause-derived : goal.returns-clause-derived
returns-clause-derived c = λ text room dangling ts s d. (stmt_derived d).is

pub returns-clause-spelled : goal.returns-clause-spelled
returns-clause-spelled c = λ text room ts utf8 taken w. stmt_spelled text room ts (values_taken text ts utf8 taken) w
