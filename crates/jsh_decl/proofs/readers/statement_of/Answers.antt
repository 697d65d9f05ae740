use Rattle.std.proofs.Common.{rules}
use Rattle.jsh_parse.specs.Reading.{spelled}
use Rattle.jsh_decl.proofs.readers.statement_of.Goals as goal

pub parse_stmt-requires-clause-taken : goal.parse_stmt-requires-clause-taken
parse_stmt-requires-clause-taken g c = spelled c.deref.result.now (search rules)
