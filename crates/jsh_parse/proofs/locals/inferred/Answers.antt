use Rattle.std.proofs.Common.{drop, arith}
use Rattle.jsh_parse.specs.Reader.{accept}
use Rattle.jsh_parse.specs.Reading.{name_read, expr_at}
use Rattle.jsh_parse.specs.Forms.{is_assign}
use Rattle.jsh_parse.specs.StatementReading.{inferred_at}
use Rattle.jsh_parse.proofs.Passing.{hands_on}
use Rattle.jsh_parse.proofs.locals.inferred.Goals as goal

pub returns-in_err-name : goal.returns-in_err-name
unfolding inferred_at
returns-in_err-name c =
    let tokens = c.args.input.now.tokens.now in
    let text = c.args.input.now.text.now in
    let here = drop c.args.at tokens in
    hands_on tokens c.args.at c.args.at (inferred_at text c.args.room here)
    (name_read text here)
    c.in_err-name.field-0.0 c.from_residual.result c.from_residual.ensures.1
    (λ n. simp n) c.in_err-name.ensures

pub returns-in_err-behind : goal.returns-in_err-behind
unfolding inferred_at
returns-in_err-behind c =
    let tokens = c.args.input.now.tokens.now in
    let text = c.args.input.now.text.now in
    hands_on tokens c.in_ok-name.rest c.args.at
    (inferred_at text c.args.room (drop c.args.at tokens))
    (accept is_assign (drop c.in_ok-name.rest tokens))
    c.in_err-behind.field-0.0 c.from_residual-in_err-behind.result c.from_residual-in_err-behind.ensures.1
    (λ n. simp (c.in_ok-name.ensures.1, n)) c.in_err-behind.ensures

pub returns-in_err-value : goal.returns-in_err-value
unfolding inferred_at
returns-in_err-value c =
    let tokens = c.args.input.now.tokens.now in
    let text = c.args.input.now.text.now in
    let room = c.args.room in
    hands_on tokens c.in_ok-behind.behind c.args.at
    (inferred_at text room (drop c.args.at tokens))
    (expr_at text room (drop c.in_ok-behind.behind tokens))
    c.in_err-value.field-0.0 c.from_residual-in_err-value.result c.from_residual-in_err-value.ensures.1
    (λ n. simp (c.in_ok-name.ensures.1, c.in_ok-behind.ensures.1, n)) c.in_err-value.ensures

pub returns : goal.returns
unfolding inferred_at
returns c = (
  omega (arith, c.in_ok-name.ensures.0, c.in_ok-behind.ensures.0, c.in_ok-value.ensures.0),
  simp (c.in_ok-name.ensures.1, c.in_ok-behind.ensures.1, c.in_ok-value.ensures.1, c.in_ok-variable.ensures, c.into_inner.ensures),
)
