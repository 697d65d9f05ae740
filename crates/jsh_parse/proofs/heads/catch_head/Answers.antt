use Rattle.std.proofs.Common.{drop, sym, arith}
use Rattle.jsh_parse.specs.Reader.{accept}
use Rattle.jsh_parse.specs.Reading.{name_read}
use Rattle.jsh_parse.specs.Marks.{is_left_paren, is_right_paren}
use Rattle.jsh_parse.specs.Forms.{is_catch}
use Rattle.jsh_parse.specs.StatementReading.{catch_head_at}
use Rattle.jsh_parse.proofs.Passing.{hands_on}
use Rattle.jsh_parse.proofs.heads.catch_head.Goals as goal

pub returns-in_err-rest : goal.returns-in_err-rest
unfolding catch_head_at
returns-in_err-rest c =
    let tokens = c.args.input.now.tokens.now in
    let text = c.args.input.now.text.now in
    let here = drop c.args.at tokens in
    hands_on tokens c.args.at c.args.at (catch_head_at text here)
    (accept is_catch here)
    c.in_err-rest.field-0.0 c.from_residual.result c.from_residual.ensures.1
    (λ n. simp n) c.in_err-rest.ensures

pub returns-in_err-behind : goal.returns-in_err-behind
unfolding catch_head_at
returns-in_err-behind c =
    let tokens = c.args.input.now.tokens.now in
    let text = c.args.input.now.text.now in
    hands_on tokens c.in_ok-rest.rest c.args.at (catch_head_at text (drop c.args.at tokens))
    (accept is_left_paren (drop c.in_ok-rest.rest tokens))
    c.in_err-behind.field-0.0 c.from_residual-in_err-behind.result c.from_residual-in_err-behind.ensures.1
    (λ n. simp (c.in_ok-rest.ensures.1, n)) c.in_err-behind.ensures

pub returns-in_err-class : goal.returns-in_err-class
unfolding catch_head_at
returns-in_err-class c =
    let tokens = c.args.input.now.tokens.now in
    let text = c.args.input.now.text.now in
    hands_on tokens c.final_word-is_final.result.1 c.args.at
    (catch_head_at text (drop c.args.at tokens))
    (name_read text (drop c.final_word-is_final.result.1 tokens))
    c.in_err-class.field-0.0 c.from_residual-in_err-class.result c.from_residual-in_err-class.ensures.1
    (λ n. simp (c.in_ok-rest.ensures.1, c.in_ok-behind.ensures.1, sym c.final_word-is_final.ensures.rest, n)) c.in_err-class.ensures

pub returns-in_err-name : goal.returns-in_err-name
unfolding catch_head_at
returns-in_err-name c =
    let tokens = c.args.input.now.tokens.now in
    let text = c.args.input.now.text.now in
    hands_on tokens c.in_ok-class.more c.args.at (catch_head_at text (drop c.args.at tokens))
    (name_read text (drop c.in_ok-class.more tokens))
    c.in_err-name.field-0.0 c.from_residual-in_err-name.result c.from_residual-in_err-name.ensures.1
    (λ n. simp (
      c.in_ok-rest.ensures.1,
      c.in_ok-behind.ensures.1,
      sym c.final_word-is_final.ensures.rest,
      c.in_ok-class.ensures.1,
      n,
    )) c.in_err-name.ensures

pub returns-in_err-end : goal.returns-in_err-end
unfolding catch_head_at
returns-in_err-end c =
    let tokens = c.args.input.now.tokens.now in
    let text = c.args.input.now.text.now in
    hands_on tokens c.in_ok-name.closing c.args.at (catch_head_at text (drop c.args.at tokens))
    (accept is_right_paren (drop c.in_ok-name.closing tokens))
    c.in_err-end.field-0.0 c.from_residual-in_err-end.result c.from_residual-in_err-end.ensures.1
    (λ n. simp (
      c.in_ok-rest.ensures.1,
      c.in_ok-behind.ensures.1,
      sym c.final_word-is_final.ensures.rest,
      c.in_ok-class.ensures.1,
      c.in_ok-name.ensures.1,
      n,
    )) c.in_err-end.ensures

pub returns : goal.returns
unfolding catch_head_at
returns c = (
  omega (
    arith,
    c.in_ok-rest.ensures.0,
    c.in_ok-behind.ensures.0,
    c.final_word-is_final.ensures.forward,
    c.in_ok-class.ensures.0,
    c.in_ok-name.ensures.0,
    c.in_ok-end.ensures.0,
  ),
  simp (
    c.in_ok-rest.ensures.1,
    c.in_ok-behind.ensures.1,
    sym c.final_word-is_final.ensures.rest,
    c.in_ok-class.ensures.1,
    c.in_ok-name.ensures.1,
    c.in_ok-end.ensures.1,
    sym c.final_word-is_final.ensures.value,
    c.in_ok-new.ensures,
  ),
)
