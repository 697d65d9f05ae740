use Rattle.std.proofs.Common.{drop, arith}
use Rattle.jsh_parse.specs.StatementReading.{stmt_at}
use Rattle.jsh_parse.proofs.Passing.{hands_on}
use Rattle.jsh_decl.specs.DeclarationReading.{other_at}
use Rattle.jsh_decl.proofs.snippet.other.Goals as goal

pub returns-in_err-tree : goal.returns-in_err-tree
unfolding other_at
returns-in_err-tree c =
    let tokens = c.args.input.now.tokens.now in
    let text = c.args.input.now.text.now in
    let room = c.args.room in
    let here = drop c.args.at tokens in
    hands_on tokens c.args.at c.args.at (other_at text room here) (stmt_at text room here)
    c.in_err-tree.field-0.0 c.from_residual.result c.from_residual.ensures.1
    (λ n. simp n) c.in_err-tree.ensures

pub returns : goal.returns
unfolding other_at
returns c =
    let tokens = c.args.input.now.tokens.now in
    let text = c.args.input.now.text.now in
    let room = c.args.room in
    let here = drop c.args.at tokens in (
      omega (arith, c.in_ok-tree.ensures.0),
      simp (c.in_ok-tree.ensures.1, c.in_ok-new.ensures, c.into_inner.ensures),
    )
