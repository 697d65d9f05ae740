use Rattle.std.proofs.Common.{arith}
use Rattle.jsh_tree.specs.declared.token.TokenKind.TheVariants.{Identifier}
use Rattle.jsh_cut.proofs.Ends.{ends_last}
use Rattle.jsh_cut.proofs.scan.last_end.Goals as goal

pub returns-in-len1-up : goal.returns-in-len1-up
returns-in-len1-up c = ends_last c.args.tokens.now record { kind = Identifier; span = record { from = 0; to = 0 } } (omega arith)
