use Rattle.std.proofs.Common.{rules}
use Rattle.jsh_parse.specs.Reading.{spelled}
use Rattle.jsh_decl.proofs.tests.a_snippet_has_its_semicolon.Goals as goal

pub parse_snippet-requires-clause-taken : goal.parse_snippet-requires-clause-taken
parse_snippet-requires-clause-taken g c = spelled c.deref.result.now (search rules)
