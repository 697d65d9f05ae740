use Rattle.jsh_grammar.specs.Productions.{expression}
use Rattle.jsh_parse.proofs.TableDerived.{expr_derived}
use Rattle.jsh_parse.proofs.TableSpelled.{tree_spelled}
use Rattle.jsh_parse.proofs.TableValues.{values_taken}
use Rattle.jsh_parse.proofs.laws.expressions_are_in_the_table.Goals as goal

pub returns-clause-derived : goal.returns-clause-derived
returns-clause-derived c = λ text room ts e d. (expr_derived d).is

pub returns-clause-spelled : goal.returns-clause-spelled
returns-clause-spelled c = λ text room ts utf8 taken w. tree_spelled text expression room ts w (values_taken text ts utf8 taken)
