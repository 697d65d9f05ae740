use Rattle.std.proofs.Common.{drop, sym, ap, ◌∙◌, arith, Some, None}
use Rattle.jsh_parse.specs.Reader.{type_read}
use Rattle.jsh_parse.proofs.Passing.{hands_on, next}
use Rattle.jsh_decl.specs.DeclarationReading.{result_at}
use Rattle.jsh_decl.proofs.DeclarationOnward.{result_void, result_typed}
use Rattle.jsh_decl.proofs.heads.result_type.Goals as goal

pub returns-then-sees_void : goal.returns-then-sees_void
returns-then-sees_void c =
    let tokens = c.args.input.now.tokens.now in
    let text = c.args.input.now.text.now in
    let here = drop c.args.at tokens in
    (omega arith, result_void text here (sym c.if-sees_void.ensures.value) ∙ ap (λ us. Some (None, us)) (next tokens c.args.at))

pub returns-in_err-written : goal.returns-in_err-written
returns-in_err-written c =
    let tokens = c.args.input.now.tokens.now in
    let text = c.args.input.now.text.now in
    let here = drop c.args.at tokens in
    hands_on tokens c.args.at c.args.at (result_at text here) (type_read text here)
    c.in_err-written.field-0.0 c.from_residual.result c.from_residual.ensures.1
    (λ n. result_typed text here (sym c.if-sees_void.ensures.value) ∙ simp n) c.in_err-written.ensures

pub returns : goal.returns
returns c =
    let tokens = c.args.input.now.tokens.now in
    let text = c.args.input.now.text.now in
    let here = drop c.args.at tokens in (
      omega (arith, c.in_ok-written.ensures.0),
      result_typed text here (sym c.if-sees_void.ensures.value) ∙ simp c.in_ok-written.ensures.1,
    )
