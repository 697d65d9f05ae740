use Rattle.std.proofs.Common.{rules}
use Rattle.jsh_parse.specs.Reading.{spelled}
use Rattle.jsh_parse.proofs.tests.expression_of.Goals as goal

pub parse_expr-requires-clause-taken : goal.parse_expr-requires-clause-taken
parse_expr-requires-clause-taken g c = spelled c.deref.result.now (search rules)
