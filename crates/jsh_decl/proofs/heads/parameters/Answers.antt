use Rattle.std.proofs.Common.{drop, sym, ap, ◌∙◌, arith, Some, [], ◌+◌}
use Rattle.jsh_parse.specs.Marks.{is_left_paren, is_right_paren}
use Rattle.jsh_parse.specs.Reader.{accept}
use Rattle.jsh_parse.proofs.Passing.{hands_on, next}
use Rattle.jsh_decl.specs.DeclarationReading.{listed_at, parameters_at}
use Rattle.jsh_decl.proofs.DeclarationOnward.{parameters_fail, parameters_none, parameters_some}
use Rattle.jsh_decl.proofs.heads.parameters.Goals as goal

pub returns-in_err-rest : goal.returns-in_err-rest
returns-in_err-rest c =
    let tokens = c.args.input.now.tokens.now in
    let text = c.args.input.now.text.now in
    let here = drop c.args.at tokens in
    hands_on tokens c.args.at c.args.at (parameters_at text here) (accept is_left_paren here)
    c.in_err-rest.field-0.0 c.from_residual.result c.from_residual.ensures.1
    (λ n. parameters_fail text here n) c.in_err-rest.ensures

pub returns-then-sees_right_paren : goal.returns-then-sees_right_paren
returns-then-sees_right_paren c =
    let tokens = c.args.input.now.tokens.now in
    let text = c.args.input.now.text.now in
    let here = drop c.args.at tokens in (
      omega (arith, c.in_ok-rest.ensures.0),
      parameters_none text here c.in_ok-rest.field-0-0 (drop c.in_ok-rest.rest tokens) c.in_ok-rest.ensures.1 (sym c.if-sees_right_paren.ensures.value) ∙
          ap (λ us. Some ([], us)) (next tokens c.in_ok-rest.rest) ∙ ap (λ ps. Some (ps, drop (c.in_ok-rest.rest + 1) tokens)) (sym c.new.ensures),
    )

pub returns-in_err-parameters : goal.returns-in_err-parameters
returns-in_err-parameters c =
    let tokens = c.args.input.now.tokens.now in
    let text = c.args.input.now.text.now in
    let here = drop c.args.at tokens in
    hands_on tokens c.in_ok-rest.rest c.args.at (parameters_at text here) (listed_at text (drop c.in_ok-rest.rest tokens))
    c.in_err-parameters.field-0.0 c.from_residual-in_err-parameters.result c.from_residual-in_err-parameters.ensures.1
    (λ n. parameters_some text here c.in_ok-rest.field-0-0 (drop c.in_ok-rest.rest tokens) c.in_ok-rest.ensures.1 (sym c.if-sees_right_paren.ensures.value) ∙
    simp n) c.in_err-parameters.ensures

pub returns-in_err-end : goal.returns-in_err-end
returns-in_err-end c =
    let tokens = c.args.input.now.tokens.now in
    let text = c.args.input.now.text.now in
    let here = drop c.args.at tokens in
    hands_on tokens c.in_ok-parameters.behind c.args.at (parameters_at text here) (accept is_right_paren (drop c.in_ok-parameters.behind tokens))
    c.in_err-end.field-0.0 c.from_residual-in_err-end.result c.from_residual-in_err-end.ensures.1
    (λ n. parameters_some text here c.in_ok-rest.field-0-0 (drop c.in_ok-rest.rest tokens) c.in_ok-rest.ensures.1 (sym c.if-sees_right_paren.ensures.value) ∙
    simp (c.in_ok-parameters.ensures.1, n)) c.in_err-end.ensures

pub returns : goal.returns
returns c =
    let tokens = c.args.input.now.tokens.now in
    let text = c.args.input.now.text.now in
    let here = drop c.args.at tokens in (
      omega (arith, c.in_ok-rest.ensures.0, c.in_ok-parameters.ensures.0, c.in_ok-end.ensures.0),
      parameters_some text here c.in_ok-rest.field-0-0 (drop c.in_ok-rest.rest tokens) c.in_ok-rest.ensures.1 (sym c.if-sees_right_paren.ensures.value) ∙
          simp (c.in_ok-parameters.ensures.1, c.in_ok-end.ensures.1),
    )
