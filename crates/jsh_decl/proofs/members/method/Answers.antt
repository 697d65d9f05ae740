use Rattle.std.proofs.Common.{drop, ◌∙◌, arith}
use Rattle.jsh_parse.specs.Reading.{name_read}
use Rattle.jsh_parse.proofs.Passing.{hands_on}
use Rattle.jsh_decl.specs.Words.{is_throws}
use Rattle.jsh_decl.specs.DeclarationReading.{names_behind_at, parameters_at, result_at, body_at, method_at}
use Rattle.jsh_decl.proofs.DeclarationMembers.{method_by}
use Rattle.jsh_decl.proofs.members.method.Goals as goal

pub returns-in_err-returned : goal.returns-in_err-returned
returns-in_err-returned c =
    let tokens = c.args.input.now.tokens.now in
    let text = c.args.input.now.text.now in
    let room = c.args.room in
    let here = drop c.args.at tokens in
    hands_on tokens c.args.at c.args.at (method_at text room c.args.modifiers here) (result_at text here)
    c.in_err-returned.field-0.0 c.from_residual.result c.from_residual.ensures.1
    (λ n. method_by text room c.args.modifiers here ∙ simp n) c.in_err-returned.ensures

pub returns-in_err-name : goal.returns-in_err-name
returns-in_err-name c =
    let tokens = c.args.input.now.tokens.now in
    let text = c.args.input.now.text.now in
    let room = c.args.room in
    let here = drop c.args.at tokens in
    hands_on tokens c.in_ok-returned.rest c.args.at (method_at text room c.args.modifiers here) (name_read text (drop c.in_ok-returned.rest tokens))
    c.in_err-name.field-0.0 c.from_residual-in_err-name.result c.from_residual-in_err-name.ensures.1
    (λ n. method_by text room c.args.modifiers here ∙ simp (c.in_ok-returned.ensures.1, n)) c.in_err-name.ensures

pub returns-in_err-parameters : goal.returns-in_err-parameters
returns-in_err-parameters c =
    let tokens = c.args.input.now.tokens.now in
    let text = c.args.input.now.text.now in
    let room = c.args.room in
    let here = drop c.args.at tokens in
    hands_on tokens c.in_ok-name.behind c.args.at (method_at text room c.args.modifiers here) (parameters_at text (drop c.in_ok-name.behind tokens))
    c.in_err-parameters.field-0.0 c.from_residual-in_err-parameters.result c.from_residual-in_err-parameters.ensures.1
    (λ n. method_by text room c.args.modifiers here ∙ simp (c.in_ok-returned.ensures.1, c.in_ok-name.ensures.1, n)) c.in_err-parameters.ensures

pub returns-in_err-throws : goal.returns-in_err-throws
returns-in_err-throws c =
    let tokens = c.args.input.now.tokens.now in
    let text = c.args.input.now.text.now in
    let room = c.args.room in
    let here = drop c.args.at tokens in
    hands_on tokens c.in_ok-parameters.more c.args.at (method_at text room c.args.modifiers here) (names_behind_at is_throws text
    (drop c.in_ok-parameters.more tokens))
    c.in_err-throws.field-0.0 c.from_residual-in_err-throws.result c.from_residual-in_err-throws.ensures.1
    (λ n. method_by text room c.args.modifiers here ∙
    simp (c.in_ok-returned.ensures.1, c.in_ok-name.ensures.1, c.in_ok-parameters.ensures.1, n)) c.in_err-throws.ensures

pub returns-in_err-body : goal.returns-in_err-body
returns-in_err-body c =
    let tokens = c.args.input.now.tokens.now in
    let text = c.args.input.now.text.now in
    let room = c.args.room in
    let here = drop c.args.at tokens in
    hands_on tokens c.in_ok-throws.last c.args.at (method_at text room c.args.modifiers here) (body_at text room (drop c.in_ok-throws.last tokens))
    c.in_err-body.field-0.0 c.from_residual-in_err-body.result c.from_residual-in_err-body.ensures.1
    (λ n. method_by text room c.args.modifiers here ∙
    simp (c.in_ok-returned.ensures.1, c.in_ok-name.ensures.1, c.in_ok-parameters.ensures.1, c.in_ok-throws.ensures.1, n)) c.in_err-body.ensures

pub returns : goal.returns
returns c =
    let tokens = c.args.input.now.tokens.now in
    let text = c.args.input.now.text.now in
    let room = c.args.room in
    let here = drop c.args.at tokens in (
      omega (arith, c.in_ok-returned.ensures.0, c.in_ok-name.ensures.0, c.in_ok-parameters.ensures.0, c.in_ok-throws.ensures.0, c.in_ok-body.ensures.0),
      method_by text room c.args.modifiers here ∙
          simp (c.in_ok-returned.ensures.1, c.in_ok-name.ensures.1, c.in_ok-parameters.ensures.1, c.in_ok-throws.ensures.1, c.in_ok-body.ensures.1),
    )
