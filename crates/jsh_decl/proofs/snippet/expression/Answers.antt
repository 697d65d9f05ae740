use Rattle.std.proofs.Common.{drop, arith}
use Rattle.jsh_parse.specs.Forms.{is_semicolon}
use Rattle.jsh_parse.specs.Reader.{accept}
use Rattle.jsh_parse.specs.Reading.{expr_at}
use Rattle.jsh_parse.proofs.Passing.{hands_on}
use Rattle.jsh_decl.specs.DeclarationReading.{expression_at}
use Rattle.jsh_decl.proofs.snippet.expression.Goals as goal

pub returns-in_err-tree : goal.returns-in_err-tree
unfolding expression_at
returns-in_err-tree c =
    let tokens = c.args.input.now.tokens.now in
    let text = c.args.input.now.text.now in
    let room = c.args.room in
    let here = drop c.args.at tokens in
    hands_on tokens c.args.at c.args.at (expression_at text room here) (expr_at text room here)
    c.in_err-tree.field-0.0 c.from_residual.result c.from_residual.ensures.1
    (λ n. simp n) c.in_err-tree.ensures

pub returns-in_err-end : goal.returns-in_err-end
unfolding expression_at
returns-in_err-end c =
    let tokens = c.args.input.now.tokens.now in
    let text = c.args.input.now.text.now in
    let room = c.args.room in
    let here = drop c.args.at tokens in
    hands_on tokens c.in_ok-tree.rest c.args.at (expression_at text room here) (accept is_semicolon (drop c.in_ok-tree.rest tokens))
    c.in_err-end.field-0.0 c.from_residual-in_err-end.result c.from_residual-in_err-end.ensures.1
    (λ n. simp (c.in_ok-tree.ensures.1, n)) c.in_err-end.ensures

pub returns : goal.returns
unfolding expression_at
returns c =
    let tokens = c.args.input.now.tokens.now in
    let text = c.args.input.now.text.now in
    let room = c.args.room in
    let here = drop c.args.at tokens in (
      omega (arith, c.in_ok-tree.ensures.0, c.in_ok-end.ensures.0),
      simp (c.in_ok-tree.ensures.1, c.in_ok-end.ensures.1, c.in_ok-new.ensures, c.into_inner.ensures),
    )
