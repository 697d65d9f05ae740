use Rattle.std.proofs.Common.{drop, ◌∙◌, arith}
use Rattle.jsh_parse.specs.Reader.{accept}
use Rattle.jsh_parse.specs.Reading.{expr_at}
use Rattle.jsh_parse.specs.Marks.{is_left_paren, is_right_paren}
use Rattle.jsh_parse.specs.StatementReading.{condition_at}
use Rattle.jsh_parse.proofs.Passing.{hands_on}
use Rattle.jsh_parse.proofs.LeafOnward.{condition_by}
use Rattle.jsh_parse.proofs.locals.condition.Goals as goal

pub returns-in_err-rest : goal.returns-in_err-rest
returns-in_err-rest c =
    let tokens = c.args.input.now.tokens.now in
    let text = c.args.input.now.text.now in
    let here = drop c.args.at tokens in
    let room = c.args.room in
    hands_on tokens c.args.at c.args.at (condition_at text room here)
    (accept is_left_paren here)
    c.in_err-rest.field-0.0 c.from_residual.result c.from_residual.ensures.1
    (λ n. condition_by text room here ∙ simp n) c.in_err-rest.ensures

pub returns-in_err-tree : goal.returns-in_err-tree
returns-in_err-tree c =
    let tokens = c.args.input.now.tokens.now in
    let text = c.args.input.now.text.now in
    let here = drop c.args.at tokens in
    let room = c.args.room in
    hands_on tokens c.in_ok-rest.rest c.args.at
    (condition_at text room here)
    (expr_at text room (drop c.in_ok-rest.rest tokens))
    c.in_err-tree.field-0.0 c.from_residual-in_err-tree.result c.from_residual-in_err-tree.ensures.1
    (λ n. condition_by text room here ∙ simp (c.in_ok-rest.ensures.1, n)) c.in_err-tree.ensures

pub returns-in_err-end : goal.returns-in_err-end
returns-in_err-end c =
    let tokens = c.args.input.now.tokens.now in
    let text = c.args.input.now.text.now in
    let here = drop c.args.at tokens in
    let room = c.args.room in
    hands_on tokens c.in_ok-tree.behind c.args.at
    (condition_at text room here)
    (accept is_right_paren (drop c.in_ok-tree.behind tokens))
    c.in_err-end.field-0.0 c.from_residual-in_err-end.result c.from_residual-in_err-end.ensures.1
    (λ n. condition_by text room here ∙ simp (c.in_ok-rest.ensures.1, c.in_ok-tree.ensures.1, n)) c.in_err-end.ensures

pub returns : goal.returns
returns c =
    let tokens = c.args.input.now.tokens.now in
    let text = c.args.input.now.text.now in (
      omega (arith, c.in_ok-rest.ensures.0, c.in_ok-tree.ensures.0, c.in_ok-end.ensures.0),
      condition_by text c.args.room (drop c.args.at tokens) ∙ simp (c.in_ok-rest.ensures.1, c.in_ok-tree.ensures.1, c.in_ok-end.ensures.1),
    )
