use Rattle.std.proofs.Common.{◌+◌, drop, sym, ap, ◌∙◌, arith}
use Rattle.jsh_parse.specs.Reader.{type_read}
use Rattle.jsh_parse.specs.Reading.{name_read, initial_at}
use Rattle.jsh_parse.specs.StatementReading.{variable_at, inferred_at}
use Rattle.jsh_parse.proofs.Passing.{hands_on, as_read, next}
use Rattle.jsh_parse.proofs.LeafOnward.{variable_inferred, variable_typed}
use Rattle.jsh_parse.proofs.locals.variable.Goals as goal

pub returns-then-sees_var : goal.returns-then-sees_var
returns-then-sees_var c =
    let tokens = c.args.input.now.tokens.now in
    let text = c.args.input.now.text.now in
    let here = drop c.args.at tokens in
    let room = c.args.room in
    as_read tokens c.args.at (c.args.at + 1) (variable_at text room here) (inferred_at text room (drop (c.args.at + 1) tokens)) c.inferred.result
    (omega arith)
    (variable_inferred text room here (sym c.if-sees_var.ensures.value) ∙ ap (inferred_at text room) (next tokens c.args.at))
    c.inferred.ensures

pub returns-in_err-written : goal.returns-in_err-written
returns-in_err-written c =
    let tokens = c.args.input.now.tokens.now in
    let text = c.args.input.now.text.now in
    let here = drop c.args.at tokens in
    let room = c.args.room in
    hands_on tokens c.args.at c.args.at (variable_at text room here)
    (type_read text here)
    c.in_err-written.field-0.0 c.from_residual.result c.from_residual.ensures.1
    (λ n. variable_typed text room here (sym c.if-sees_var.ensures.value) ∙ simp n) c.in_err-written.ensures

pub returns-in_err-name : goal.returns-in_err-name
returns-in_err-name c =
    let tokens = c.args.input.now.tokens.now in
    let text = c.args.input.now.text.now in
    let here = drop c.args.at tokens in
    let room = c.args.room in
    hands_on tokens c.in_ok-written.rest c.args.at
    (variable_at text room here)
    (name_read text (drop c.in_ok-written.rest tokens))
    c.in_err-name.field-0.0 c.from_residual-in_err-name.result c.from_residual-in_err-name.ensures.1
    (λ n. variable_typed text room here (sym c.if-sees_var.ensures.value) ∙ simp (c.in_ok-written.ensures.1, n)) c.in_err-name.ensures

pub returns-then-not-sees_assign : goal.returns-then-not-sees_assign
returns-then-not-sees_assign c =
    let tokens = c.args.input.now.tokens.now in
    let text = c.args.input.now.text.now in (
      omega (arith, c.in_ok-written.ensures.0, c.in_ok-name.ensures.0),
      variable_typed text c.args.room (drop c.args.at tokens) (sym c.if-sees_var.ensures.value) ∙ simp (
        c.in_ok-written.ensures.1,
        c.in_ok-name.ensures.1,
        sym c.if-not-sees_assign.ensures.value,
        c.in_ok-variable.ensures,
      ),
    )

pub returns-in_err-value : goal.returns-in_err-value
returns-in_err-value c =
    let tokens = c.args.input.now.tokens.now in
    let text = c.args.input.now.text.now in
    let here = drop c.args.at tokens in
    let room = c.args.room in
    hands_on tokens (c.in_ok-name.behind + 1) c.args.at
    (variable_at text room here)
    (initial_at text room (drop (c.in_ok-name.behind + 1) tokens))
    c.in_err-value.field-0.0 c.from_residual-in_err-value.result c.from_residual-in_err-value.ensures.1
    (λ n. variable_typed text room here (sym c.if-sees_var.ensures.value) ∙ simp (
      c.in_ok-written.ensures.1,
      c.in_ok-name.ensures.1,
      sym c.if-not-sees_assign.ensures.value,
      next tokens c.in_ok-name.behind,
      n,
    )) c.in_err-value.ensures

pub returns : goal.returns
returns c =
    let tokens = c.args.input.now.tokens.now in
    let text = c.args.input.now.text.now in (
      omega (arith, c.in_ok-written.ensures.0, c.in_ok-name.ensures.0, c.in_ok-value.ensures.0),
      variable_typed text c.args.room (drop c.args.at tokens) (sym c.if-sees_var.ensures.value) ∙ simp (
        c.in_ok-written.ensures.1,
        c.in_ok-name.ensures.1,
        sym c.if-not-sees_assign.ensures.value,
        next tokens c.in_ok-name.behind,
        c.in_ok-value.ensures.1,
        c.into_inner-value.ensures,
        c.in_ok-variable-2.ensures,
      ),
    )
