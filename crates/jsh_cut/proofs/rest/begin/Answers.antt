use Rattle.std.proofs.Common.{arith}
use Rattle.jsh_tree.specs.declared.token.TokenKind.TheVariants.{Identifier}
use Rattle.jsh_cut.proofs.Placed.{first_placed}
use Rattle.jsh_cut.proofs.rest.begin.Goals as goal

pub overflow_sub-result : goal.overflow_sub-result
overflow_sub-result c =
    (first_placed c.args.base c.args.rest.now c.args.tokens.now record { kind = Identifier; span = record { from = 0; to = 0 } } c.utf8.rest c.requires (omega arith)).behind

pub returns-in-len1-up-clause-between : goal.returns-in-len1-up-clause-between
returns-in-len1-up-clause-between c =
    (first_placed c.args.base c.args.rest.now c.args.tokens.now record { kind = Identifier; span = record { from = 0; to = 0 } } c.utf8.rest c.requires (omega arith)).between
