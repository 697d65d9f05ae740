use Rattle.std.proofs.Common.{true, false, drop, sym, ◌∙◌, arith}
use Rattle.jsh_parse.specs.Reader.{accept}
use Rattle.jsh_parse.specs.Forms.{is_case_value}
use Rattle.jsh_parse.specs.StatementReading.{case_at, case_of}
use Rattle.jsh_parse.proofs.Passing.{hands_on, as_read}
use Rattle.jsh_parse.proofs.LabelOnward.{case_signed, case_plain}
use Rattle.jsh_parse.proofs.labels.case.Goals as goal

pub returns-in_err-value : goal.returns-in_err-value
returns-in_err-value c =
    let tokens = c.args.input.now.tokens.now in
    let text = c.args.input.now.text.now in
    let here = drop c.args.at tokens in
    hands_on tokens c.in_ok-sign.rest c.args.at (case_at text here)
    (accept is_case_value (drop c.in_ok-sign.rest tokens))
    c.in_err-value.field-0.0 c.from_residual-in_err-value.result c.from_residual-in_err-value.ensures.1
    (λ n. case_signed text here (sym c.if-sees_minus.ensures.value) ∙ simp (c.in_ok-sign.ensures.1, n)) c.in_err-value.ensures.value

pub returns-then-sees_minus : goal.returns-then-sees_minus
returns-then-sees_minus c =
    let tokens = c.args.input.now.tokens.now in
    let text = c.args.input.now.text.now in
    let here = drop c.args.at tokens in
    as_read tokens c.args.at c.in_ok-value.behind (case_at text here) (case_of text true c.in_ok-sign.sign c.in_ok-value.value
    (drop c.in_ok-value.behind tokens)) c.case_of.result
    (omega (arith, c.in_ok-sign.ensures.0, c.in_ok-value.ensures.value.0))
    (case_signed text here (sym c.if-sees_minus.ensures.value) ∙ simp (c.in_ok-sign.ensures.1, c.in_ok-value.ensures.value.1)) c.case_of.ensures

pub returns-in_err-value-2 : goal.returns-in_err-value-2
returns-in_err-value-2 c =
    let tokens = c.args.input.now.tokens.now in
    let text = c.args.input.now.text.now in
    let here = drop c.args.at tokens in
    hands_on tokens c.args.at c.args.at (case_at text here)
    (accept is_case_value here)
    c.in_err-value-2.field-0.0 c.from_residual-in_err-value-2.result c.from_residual-in_err-value-2.ensures.1
    (λ n. case_plain text here (sym c.if-sees_minus.ensures.value) ∙ simp n) c.in_err-value-2.ensures.value

pub returns : goal.returns
returns c =
    let tokens = c.args.input.now.tokens.now in
    let text = c.args.input.now.text.now in
    let here = drop c.args.at tokens in
    as_read tokens c.args.at c.in_ok-value-2.behind (case_at text here) (case_of text false c.in_ok-value-2.value c.in_ok-value-2.value
    (drop c.in_ok-value-2.behind tokens)) c.case_of-2.result
    (omega (arith, c.in_ok-value-2.ensures.value.0))
    (case_plain text here (sym c.if-sees_minus.ensures.value) ∙ simp c.in_ok-value-2.ensures.value.1) c.case_of-2.ensures
