use Rattle.std.proofs.Common.{drop, sym, arith}
use Rattle.jsh_parse.specs.Reader.{accept}
use Rattle.jsh_parse.specs.Forms.{is_semicolon}
use Rattle.jsh_parse.specs.StatementReading.{variable_at, local_at}
use Rattle.jsh_parse.proofs.Passing.{hands_on}
use Rattle.jsh_parse.proofs.locals.local.Goals as goal

pub returns-in_err-variable : goal.returns-in_err-variable
unfolding local_at
returns-in_err-variable c =
    let tokens = c.args.input.now.tokens.now in
    let text = c.args.input.now.text.now in
    let room = c.args.room in
    hands_on tokens c.final_word-is_final.result.1 c.args.at
    (local_at text room (drop c.args.at tokens))
    (variable_at text room (drop c.final_word-is_final.result.1 tokens))
    c.in_err-variable.field-0.0 c.from_residual.result c.from_residual.ensures.1
    (λ n. simp (sym c.final_word-is_final.ensures.rest, n)) c.in_err-variable.ensures

pub returns-in_err-end : goal.returns-in_err-end
unfolding local_at
returns-in_err-end c =
    let tokens = c.args.input.now.tokens.now in
    let text = c.args.input.now.text.now in
    hands_on tokens c.in_ok-variable.behind c.args.at
    (local_at text c.args.room (drop c.args.at tokens))
    (accept is_semicolon (drop c.in_ok-variable.behind tokens))
    c.in_err-end.field-0.0 c.from_residual-in_err-end.result c.from_residual-in_err-end.ensures.1
    (λ n. simp (sym c.final_word-is_final.ensures.rest, c.in_ok-variable.ensures.1, n)) c.in_err-end.ensures

pub returns : goal.returns
unfolding local_at
returns c = (
  omega (arith, c.final_word-is_final.ensures.forward, c.in_ok-variable.ensures.0, c.in_ok-end.ensures.0),
  simp (
    sym c.final_word-is_final.ensures.rest,
    c.in_ok-variable.ensures.1,
    c.in_ok-end.ensures.1,
    sym c.final_word-is_final.ensures.value,
    c.span_at-span.ensures,
    c.in_ok-local_variable.ensures,
  ),
)
