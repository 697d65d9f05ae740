use Rattle.std.proofs.Common.{drop, arith}
use Rattle.jsh_parse.specs.Reader.{accept}
use Rattle.jsh_parse.specs.Marks.{is_right_paren}
use Rattle.jsh_parse.specs.Forms.{is_semicolon}
use Rattle.jsh_parse.specs.StatementReading.{optional_at, update_at, start_at, for_head_at}
use Rattle.jsh_parse.proofs.Passing.{hands_on}
use Rattle.jsh_parse.proofs.heads.for_head.Goals as goal

pub returns-in_err-start : goal.returns-in_err-start
unfolding for_head_at
returns-in_err-start c =
    let tokens = c.args.input.now.tokens.now in
    let text = c.args.input.now.text.now in
    let here = drop c.args.at tokens in
    let room = c.args.room in
    hands_on tokens c.args.at c.args.at (for_head_at text room here)
    (start_at text room here)
    c.in_err-start.field-0.0 c.from_residual.result c.from_residual.ensures.1
    (λ n. simp n) c.in_err-start.ensures

pub returns-in_err-behind : goal.returns-in_err-behind
unfolding for_head_at
returns-in_err-behind c =
    let tokens = c.args.input.now.tokens.now in
    let text = c.args.input.now.text.now in
    hands_on tokens c.in_ok-start.rest c.args.at
    (for_head_at text c.args.room (drop c.args.at tokens))
    (accept is_semicolon (drop c.in_ok-start.rest tokens))
    c.in_err-behind.field-0.0 c.from_residual-in_err-behind.result c.from_residual-in_err-behind.ensures.1
    (λ n. simp (c.in_ok-start.ensures.1, n)) c.in_err-behind.ensures

pub returns-in_err-condition : goal.returns-in_err-condition
unfolding for_head_at
returns-in_err-condition c =
    let tokens = c.args.input.now.tokens.now in
    let text = c.args.input.now.text.now in
    let room = c.args.room in
    hands_on tokens c.in_ok-behind.behind c.args.at
    (for_head_at text room (drop c.args.at tokens))
    (optional_at text room (drop c.in_ok-behind.behind tokens))
    c.in_err-condition.field-0.0 c.from_residual-in_err-condition.result c.from_residual-in_err-condition.ensures.1
    (λ n. simp (c.in_ok-start.ensures.1, c.in_ok-behind.ensures.1, n)) c.in_err-condition.ensures

pub returns-in_err-last : goal.returns-in_err-last
unfolding for_head_at
returns-in_err-last c =
    let tokens = c.args.input.now.tokens.now in
    let text = c.args.input.now.text.now in
    hands_on tokens c.in_ok-condition.more c.args.at
    (for_head_at text c.args.room (drop c.args.at tokens))
    (accept is_semicolon (drop c.in_ok-condition.more tokens))
    c.in_err-last.field-0.0 c.from_residual-in_err-last.result c.from_residual-in_err-last.ensures.1
    (λ n. simp (c.in_ok-start.ensures.1, c.in_ok-behind.ensures.1, c.in_ok-condition.ensures.1, n)) c.in_err-last.ensures

pub returns-in_err-update : goal.returns-in_err-update
unfolding for_head_at
returns-in_err-update c =
    let tokens = c.args.input.now.tokens.now in
    let text = c.args.input.now.text.now in
    let room = c.args.room in
    hands_on tokens c.in_ok-last.last c.args.at
    (for_head_at text room (drop c.args.at tokens))
    (update_at text room (drop c.in_ok-last.last tokens))
    c.in_err-update.field-0.0 c.from_residual-in_err-update.result c.from_residual-in_err-update.ensures.1
    (λ n. simp (c.in_ok-start.ensures.1, c.in_ok-behind.ensures.1, c.in_ok-condition.ensures.1, c.in_ok-last.ensures.1, n)) c.in_err-update.ensures

pub returns-in_err-end : goal.returns-in_err-end
unfolding for_head_at
returns-in_err-end c =
    let tokens = c.args.input.now.tokens.now in
    let text = c.args.input.now.text.now in
    hands_on tokens c.in_ok-update.closing c.args.at
    (for_head_at text c.args.room (drop c.args.at tokens))
    (accept is_right_paren (drop c.in_ok-update.closing tokens))
    c.in_err-end.field-0.0 c.from_residual-in_err-end.result c.from_residual-in_err-end.ensures.1
    (λ n. simp (
      c.in_ok-start.ensures.1,
      c.in_ok-behind.ensures.1,
      c.in_ok-condition.ensures.1,
      c.in_ok-last.ensures.1,
      c.in_ok-update.ensures.1,
      n,
    )) c.in_err-end.ensures

pub returns : goal.returns
unfolding for_head_at
returns c = (
  omega (
    arith,
    c.in_ok-start.ensures.0,
    c.in_ok-behind.ensures.0,
    c.in_ok-condition.ensures.0,
    c.in_ok-last.ensures.0,
    c.in_ok-update.ensures.0,
    c.in_ok-end.ensures.0,
  ),
  simp (
    c.in_ok-start.ensures.1,
    c.in_ok-behind.ensures.1,
    c.in_ok-condition.ensures.1,
    c.in_ok-last.ensures.1,
    c.in_ok-update.ensures.1,
    c.in_ok-end.ensures.1,
    c.in_ok-new.ensures,
  ),
)
