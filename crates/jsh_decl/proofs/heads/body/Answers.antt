use Rattle.std.proofs.Common.{drop, sym, ap, ◌∙◌, arith, Some, None}
use Rattle.jsh_parse.specs.StatementReading.{block_at}
use Rattle.jsh_parse.proofs.Passing.{hands_on, next}
use Rattle.jsh_decl.specs.DeclarationReading.{body_at}
use Rattle.jsh_decl.proofs.DeclarationOnward.{body_absent, body_stands}
use Rattle.jsh_decl.proofs.heads.body.Goals as goal

pub returns-then-sees_semicolon : goal.returns-then-sees_semicolon
returns-then-sees_semicolon c =
    let tokens = c.args.input.now.tokens.now in
    let text = c.args.input.now.text.now in
    let room = c.args.room in
    let here = drop c.args.at tokens in
    (omega arith, body_absent text room here (sym c.if-sees_semicolon.ensures.value) ∙ ap (λ us. Some (None, us)) (next tokens c.args.at))

pub returns-in_err-block : goal.returns-in_err-block
returns-in_err-block c =
    let tokens = c.args.input.now.tokens.now in
    let text = c.args.input.now.text.now in
    let room = c.args.room in
    let here = drop c.args.at tokens in
    hands_on tokens c.args.at c.args.at (body_at text room here) (block_at text room here)
    c.in_err-block.field-0.0 c.from_residual.result c.from_residual.ensures.1
    (λ n. body_stands text room here (sym c.if-sees_semicolon.ensures.value) ∙ simp n) c.in_err-block.ensures

pub returns : goal.returns
returns c =
    let tokens = c.args.input.now.tokens.now in
    let text = c.args.input.now.text.now in
    let room = c.args.room in
    let here = drop c.args.at tokens in (
      omega (arith, c.in_ok-block.ensures.0),
      body_stands text room here (sym c.if-sees_semicolon.ensures.value) ∙ simp c.in_ok-block.ensures.1,
    )
