use Rattle.std.proofs.Common.{drop, arith}
use Rattle.jsh_parse.specs.Reader.{accept}
use Rattle.jsh_parse.specs.Forms.{is_semicolon}
use Rattle.jsh_parse.specs.StatementReading.{optional_at, return_at}
use Rattle.jsh_parse.proofs.Passing.{hands_on}
use Rattle.jsh_parse.proofs.simple.return_from.Goals as goal

pub returns-in_err-value : goal.returns-in_err-value
unfolding return_at
returns-in_err-value c =
    let tokens = c.args.input.now.tokens.now in
    let text = c.args.input.now.text.now in
    let here = drop c.args.at tokens in
    let room = c.args.room in
    hands_on tokens c.args.at c.args.at
    (return_at text room c.args.token here)
    (optional_at text room here)
    c.in_err-value.field-0.0 c.from_residual.result c.from_residual.ensures.1
    (λ n. simp n) c.in_err-value.ensures

pub returns-in_err-end : goal.returns-in_err-end
unfolding return_at
returns-in_err-end c =
    let tokens = c.args.input.now.tokens.now in
    let text = c.args.input.now.text.now in
    hands_on tokens c.in_ok-value.behind c.args.at
    (return_at text c.args.room c.args.token (drop c.args.at tokens))
    (accept is_semicolon (drop c.in_ok-value.behind tokens))
    c.in_err-end.field-0.0 c.from_residual-in_err-end.result c.from_residual-in_err-end.ensures.1
    (λ n. simp (c.in_ok-value.ensures.1, n)) c.in_err-end.ensures

pub returns : goal.returns
unfolding return_at
returns c = (
  omega (arith, c.in_ok-value.ensures.0, c.in_ok-end.ensures.0),
  simp (c.in_ok-value.ensures.1, c.in_ok-end.ensures.1, c.in_ok-returned.ensures),
)
