use Rattle.std.proofs.Common.{Bool, sym, subst, arith}
use Rattle.jsh_parse.specs.Statements.{IsStmt}
use Rattle.jsh_parse.proofs.StatementAllTokens.{whole_spelled, left_over, refuses_trees}
use Rattle.jsh_parse.proofs.whole_statement.Goals as goal

pub returns-in_err-tree-clause-refused : goal.returns-in_err-tree-clause-refused
returns-in_err-tree-clause-refused c =
    refuses_trees c.args.input.now.text.now 256 c.args.input.now.tokens.now 0 c.in_err-tree.field-0.0 c.from_residual.result c.from_residual.ensures.1 c.in_err-tree.ensures

pub returns-then-behind-input-clause-refused : goal.returns-then-behind-input-clause-refused
returns-then-behind-input-clause-refused c = λ n.
    left_over c.args.input.now.text.now 256 c.args.input.now.tokens.now c.in_ok-tree.tree c.in_ok-tree.behind (omega arith) c.in_ok-tree.ensures.1

pub returns-clause-ok : goal.returns-clause-ok
returns-clause-ok c =
    subst (λ tree. (dangling : Bool) × IsStmt c.args.input.now.text.now 256 dangling c.args.input.now.tokens.now tree) (sym c.into_inner.ensures)
    (whole_spelled c.args.input.now.text.now 256 c.args.input.now.tokens.now c.in_ok-tree.tree c.in_ok-tree.behind (omega arith) c.in_ok-tree.ensures.1)
