use Rattle.jsh_grammar.specs.Productions.{snippet}
use Rattle.jsh_parse.proofs.TableValues.{values_taken}
use Rattle.jsh_decl.proofs.TableDerived.{snippet_derived}
use Rattle.jsh_decl.proofs.TableSpelled.{declared_spelled}
use Rattle.jsh_decl.proofs.laws.snippets_are_in_the_table.Goals as goal

pub returns-clause-derived : goal.returns-clause-derived
returns-clause-derived c = λ text room ts tree d. (snippet_derived d).is

pub returns-clause-spelled : goal.returns-clause-spelled
returns-clause-spelled c = λ text room ts utf8 taken w. declared_spelled text snippet room ts w (values_taken text ts utf8 taken)
