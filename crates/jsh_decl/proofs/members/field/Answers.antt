use Rattle.std.proofs.Common.{drop, ◌∙◌, arith}
use Rattle.jsh_parse.specs.Forms.{is_semicolon}
use Rattle.jsh_parse.specs.Reader.{accept}
use Rattle.jsh_parse.specs.StatementReading.{variable_at}
use Rattle.jsh_parse.proofs.Passing.{hands_on, as_read}
use Rattle.jsh_decl.specs.DeclarationReading.{field_of, field_at}
use Rattle.jsh_decl.proofs.DeclarationMembers.{field_by}
use Rattle.jsh_decl.proofs.members.field.Goals as goal

pub returns-in_err-variable : goal.returns-in_err-variable
returns-in_err-variable c =
    let tokens = c.args.input.now.tokens.now in
    let text = c.args.input.now.text.now in
    let room = c.args.room in
    let here = drop c.args.at tokens in
    hands_on tokens c.args.at c.args.at (field_at text room c.args.modifiers here) (variable_at text room here)
    c.in_err-variable.field-0.0 c.from_residual.result c.from_residual.ensures.1
    (λ n. field_by text room c.args.modifiers here ∙ simp n) c.in_err-variable.ensures

pub returns-in_err-end : goal.returns-in_err-end
returns-in_err-end c =
    let tokens = c.args.input.now.tokens.now in
    let text = c.args.input.now.text.now in
    let room = c.args.room in
    let here = drop c.args.at tokens in
    hands_on tokens c.in_ok-variable.rest c.args.at (field_at text room c.args.modifiers here) (accept is_semicolon (drop c.in_ok-variable.rest tokens))
    c.in_err-end.field-0.0 c.from_residual-in_err-end.result c.from_residual-in_err-end.ensures.1
    (λ n. field_by text room c.args.modifiers here ∙ simp (c.in_ok-variable.ensures.1, n)) c.in_err-end.ensures

pub returns : goal.returns
returns c =
    let tokens = c.args.input.now.tokens.now in
    let text = c.args.input.now.text.now in
    let room = c.args.room in
    let here = drop c.args.at tokens in
    as_read tokens c.args.at c.in_ok-end.end (field_at text room c.args.modifiers here)
    (field_of c.args.modifiers c.in_ok-variable.variable c.in_ok-variable.variable.written (drop c.in_ok-end.end tokens)) c.field_of.result (omega (
      arith,
      c.in_ok-variable.ensures.0,
      c.in_ok-end.ensures.0,
    ))
    (field_by text room c.args.modifiers here ∙ simp (c.in_ok-variable.ensures.1, c.in_ok-end.ensures.1)) c.field_of.ensures
