use Rattle.std.proofs.Common.{drop, sym, ◌∙◌, arith, ◌+◌}
use Rattle.jsh_parse.specs.Reading.{name_read}
use Rattle.jsh_parse.proofs.Passing.{hands_on, next}
use Rattle.jsh_decl.specs.DeclarationReading.{superclass_at}
use Rattle.jsh_decl.proofs.DeclarationOnward.{superclass_absent, superclass_stands}
use Rattle.jsh_decl.proofs.names.superclass.Goals as goal

pub returns-then-not-sees_extends : goal.returns-then-not-sees_extends
returns-then-not-sees_extends c =
    let tokens = c.args.input.now.tokens.now in
    let text = c.args.input.now.text.now in
    let here = drop c.args.at tokens in
    (omega arith, superclass_absent text here (sym c.if-not-sees_extends.ensures.value))

pub returns-in_err-name : goal.returns-in_err-name
returns-in_err-name c =
    let tokens = c.args.input.now.tokens.now in
    let text = c.args.input.now.text.now in
    let here = drop c.args.at tokens in
    hands_on tokens (c.args.at + 1) c.args.at (superclass_at text here) (name_read text (drop (c.args.at + 1) tokens))
    c.in_err-name.field-0.0 c.from_residual.result c.from_residual.ensures.1
    (λ n. superclass_stands text here (sym c.if-not-sees_extends.ensures.value) ∙ simp (next tokens c.args.at, n)) c.in_err-name.ensures

pub returns : goal.returns
returns c =
    let tokens = c.args.input.now.tokens.now in
    let text = c.args.input.now.text.now in
    let here = drop c.args.at tokens in (
      omega (arith, c.in_ok-name.ensures.0),
      superclass_stands text here (sym c.if-not-sees_extends.ensures.value) ∙ simp (next tokens c.args.at, c.in_ok-name.ensures.1),
    )
