use Rattle.std.proofs.Common.{Some, drop, sym, ap, arith}
use Rattle.jsh_parse.specs.Reader.{accept}
use Rattle.jsh_parse.specs.Reading.{name_read, expr_at}
use Rattle.jsh_parse.specs.Marks.{is_right_paren, is_colon}
use Rattle.jsh_parse.specs.StatementReading.{element_type, each_head_at}
use Rattle.jsh_parse.proofs.Passing.{hands_on}
use Rattle.jsh_parse.proofs.heads.each_head.Goals as goal

pub returns-in_err-written : goal.returns-in_err-written
unfolding each_head_at
returns-in_err-written c =
    let tokens = c.args.input.now.tokens.now in
    let text = c.args.input.now.text.now in
    hands_on tokens c.final_word-is_final.result.1 c.args.at
    (each_head_at text c.args.room (drop c.args.at tokens))
    (element_type text (drop c.final_word-is_final.result.1 tokens))
    c.in_err-written.field-0.0 c.from_residual.result c.from_residual.ensures.1
    (λ n. simp (sym c.final_word-is_final.ensures.rest, n)) c.in_err-written.ensures

pub returns-in_err-name : goal.returns-in_err-name
unfolding each_head_at
returns-in_err-name c =
    let tokens = c.args.input.now.tokens.now in
    let text = c.args.input.now.text.now in
    hands_on tokens c.in_ok-written.rest c.args.at
    (each_head_at text c.args.room (drop c.args.at tokens))
    (name_read text (drop c.in_ok-written.rest tokens))
    c.in_err-name.field-0.0 c.from_residual-in_err-name.result c.from_residual-in_err-name.ensures.1
    (λ n. simp (sym c.final_word-is_final.ensures.rest, c.in_ok-written.ensures.1, n)) c.in_err-name.ensures

pub returns-in_err-more : goal.returns-in_err-more
unfolding each_head_at
returns-in_err-more c =
    let tokens = c.args.input.now.tokens.now in
    let text = c.args.input.now.text.now in
    hands_on tokens c.in_ok-name.behind c.args.at
    (each_head_at text c.args.room (drop c.args.at tokens))
    (accept is_colon (drop c.in_ok-name.behind tokens))
    c.in_err-more.field-0.0 c.from_residual-in_err-more.result c.from_residual-in_err-more.ensures.1
    (λ n. simp (sym c.final_word-is_final.ensures.rest, c.in_ok-written.ensures.1, c.in_ok-name.ensures.1, n)) c.in_err-more.ensures

pub returns-in_err-array : goal.returns-in_err-array
unfolding each_head_at
returns-in_err-array c =
    let tokens = c.args.input.now.tokens.now in
    let text = c.args.input.now.text.now in
    let room = c.args.room in
    hands_on tokens c.in_ok-more.more c.args.at
    (each_head_at text room (drop c.args.at tokens))
    (expr_at text room (drop c.in_ok-more.more tokens))
    c.in_err-array.field-0.0 c.from_residual-in_err-array.result c.from_residual-in_err-array.ensures.1
    (λ n. simp (
      sym c.final_word-is_final.ensures.rest,
      c.in_ok-written.ensures.1,
      c.in_ok-name.ensures.1,
      c.in_ok-more.ensures.1,
      n,
    )) c.in_err-array.ensures

pub returns-in_err-end : goal.returns-in_err-end
unfolding each_head_at
returns-in_err-end c =
    let tokens = c.args.input.now.tokens.now in
    let text = c.args.input.now.text.now in
    hands_on tokens c.in_ok-array.last c.args.at
    (each_head_at text c.args.room (drop c.args.at tokens))
    (accept is_right_paren (drop c.in_ok-array.last tokens))
    c.in_err-end.field-0.0 c.from_residual-in_err-end.result c.from_residual-in_err-end.ensures.1
    (λ n. simp (
      sym c.final_word-is_final.ensures.rest,
      c.in_ok-written.ensures.1,
      c.in_ok-name.ensures.1,
      c.in_ok-more.ensures.1,
      c.in_ok-array.ensures.1,
      n,
    )) c.in_err-end.ensures

pub returns : goal.returns
unfolding each_head_at
returns c = (
  omega (
    arith,
    c.final_word-is_final.ensures.forward,
    c.in_ok-written.ensures.0,
    c.in_ok-name.ensures.0,
    c.in_ok-more.ensures.0,
    c.in_ok-array.ensures.0,
    c.in_ok-end.ensures.0,
  ),
  simp (
    sym c.final_word-is_final.ensures.rest,
    c.in_ok-written.ensures.1,
    c.in_ok-name.ensures.1,
    c.in_ok-more.ensures.1,
    c.in_ok-array.ensures.1,
    c.in_ok-end.ensures.1,
    sym c.final_word-is_final.ensures.value,
  ) (ap (λ head. Some (head, drop c.in_ok-end.end c.args.input.now.tokens.now)) (sym c.in_ok-new.ensures)),
)
