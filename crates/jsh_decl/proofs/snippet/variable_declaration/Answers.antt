use Rattle.std.proofs.Common.{drop, arith}
use Rattle.jsh_parse.specs.Forms.{is_semicolon}
use Rattle.jsh_parse.specs.Reader.{accept}
use Rattle.jsh_parse.specs.StatementReading.{variable_at}
use Rattle.jsh_parse.proofs.Passing.{hands_on}
use Rattle.jsh_decl.specs.DeclarationReading.{variable_declaration_at}
use Rattle.jsh_decl.proofs.snippet.variable_declaration.Goals as goal

pub returns-in_err-variable : goal.returns-in_err-variable
unfolding variable_declaration_at
returns-in_err-variable c =
    let tokens = c.args.input.now.tokens.now in
    let text = c.args.input.now.text.now in
    let room = c.args.room in
    let here = drop c.args.at tokens in
    hands_on tokens c.args.at c.args.at (variable_declaration_at text room c.args.modifiers here) (variable_at text room here)
    c.in_err-variable.field-0.0 c.from_residual.result c.from_residual.ensures.1
    (λ n. simp n) c.in_err-variable.ensures

pub returns-in_err-end : goal.returns-in_err-end
unfolding variable_declaration_at
returns-in_err-end c =
    let tokens = c.args.input.now.tokens.now in
    let text = c.args.input.now.text.now in
    let room = c.args.room in
    let here = drop c.args.at tokens in
    hands_on tokens c.in_ok-variable.behind c.args.at (variable_declaration_at text room c.args.modifiers here) (accept is_semicolon
    (drop c.in_ok-variable.behind tokens))
    c.in_err-end.field-0.0 c.from_residual-in_err-end.result c.from_residual-in_err-end.ensures.1
    (λ n. simp (c.in_ok-variable.ensures.1, n)) c.in_err-end.ensures

pub returns : goal.returns
unfolding variable_declaration_at
returns c =
    let tokens = c.args.input.now.tokens.now in
    let text = c.args.input.now.text.now in
    let room = c.args.room in
    let here = drop c.args.at tokens in (
      omega (arith, c.in_ok-variable.ensures.0, c.in_ok-end.ensures.0),
      simp (c.in_ok-variable.ensures.1, c.in_ok-end.ensures.1, c.in_ok-new.ensures, c.into_inner-variable.ensures),
    )
