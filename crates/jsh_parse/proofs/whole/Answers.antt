use Rattle.std.proofs.Common.{sym, subst, arith}
use Rattle.jsh_parse.specs.Grammar.{IsExpr}
use Rattle.jsh_parse.proofs.AllTokens.{whole_spelled, left_over, refuses_trees}
use Rattle.jsh_parse.proofs.whole.Goals as goal

pub returns-in_err-tree-clause-refused : goal.returns-in_err-tree-clause-refused
returns-in_err-tree-clause-refused c =
    refuses_trees c.args.input.now.text.now 256 c.args.input.now.tokens.now 0 c.in_err-tree.field-0.0 c.from_residual.result c.from_residual.ensures.1 c.in_err-tree.ensures

pub returns-then-end-input-clause-refused : goal.returns-then-end-input-clause-refused
returns-then-end-input-clause-refused c = λ n.
    left_over c.args.input.now.text.now 256 c.args.input.now.tokens.now c.in_ok-tree.tree c.in_ok-tree.end (omega arith) c.in_ok-tree.ensures.1

pub returns-clause-ok : goal.returns-clause-ok
returns-clause-ok c =
    subst (λ tree. IsExpr c.args.input.now.text.now 256 c.args.input.now.tokens.now tree) (sym c.into_inner.ensures)
    (whole_spelled c.args.input.now.text.now 256 c.args.input.now.tokens.now c.in_ok-tree.tree c.in_ok-tree.end (omega arith) c.in_ok-tree.ensures.1)
