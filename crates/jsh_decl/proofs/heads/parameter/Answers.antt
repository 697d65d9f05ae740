use Rattle.std.proofs.Common.{drop, sym, arith}
use Rattle.jsh_parse.specs.Reader.{type_read}
use Rattle.jsh_parse.specs.Reading.{name_read}
use Rattle.jsh_parse.proofs.Passing.{hands_on}
use Rattle.jsh_decl.specs.DeclarationReading.{parameter_at}
use Rattle.jsh_decl.proofs.heads.parameter.Goals as goal

pub returns-in_err-written : goal.returns-in_err-written
unfolding parameter_at
returns-in_err-written c =
    let tokens = c.args.input.now.tokens.now in
    let text = c.args.input.now.text.now in
    let here = drop c.args.at tokens in
    hands_on tokens c.final_word-is_final.result.1 c.args.at (parameter_at text here) (type_read text (drop c.final_word-is_final.result.1 tokens))
    c.in_err-written.field-0.0 c.from_residual.result c.from_residual.ensures.1
    (λ n. simp (sym c.final_word-is_final.ensures.rest, n)) c.in_err-written.ensures

pub returns-in_err-name : goal.returns-in_err-name
unfolding parameter_at
returns-in_err-name c =
    let tokens = c.args.input.now.tokens.now in
    let text = c.args.input.now.text.now in
    let here = drop c.args.at tokens in
    hands_on tokens c.in_ok-written.rest c.args.at (parameter_at text here) (name_read text (drop c.in_ok-written.rest tokens))
    c.in_err-name.field-0.0 c.from_residual-in_err-name.result c.from_residual-in_err-name.ensures.1
    (λ n. simp (sym c.final_word-is_final.ensures.rest, c.in_ok-written.ensures.1, n)) c.in_err-name.ensures

pub returns : goal.returns
unfolding parameter_at
returns c =
    let tokens = c.args.input.now.tokens.now in
    let text = c.args.input.now.text.now in
    let here = drop c.args.at tokens in (
      omega (arith, c.final_word-is_final.ensures.forward, c.in_ok-written.ensures.0, c.in_ok-name.ensures.0),
      simp (sym c.final_word-is_final.ensures.rest, c.in_ok-written.ensures.1, c.in_ok-name.ensures.1, c.final_word-is_final.ensures.value),
    )
