use Rattle.std.proofs.Common.{drop, sym, ◌∙◌, arith, ◌+◌}
use Rattle.jsh_parse.specs.Forms.{is_semicolon}
use Rattle.jsh_parse.specs.Reader.{accept}
use Rattle.jsh_parse.specs.Reading.{arguments_at}
use Rattle.jsh_parse.proofs.Passing.{hands_on}
use Rattle.jsh_decl.specs.DeclarationReading.{first_call_at}
use Rattle.jsh_decl.proofs.DeclarationMembers.{call_nowhere, call_other, call_bare, call_stands}
use Rattle.jsh_decl.proofs.members.first_call.Goals as goal

pub returns-in_default : goal.returns-in_default
returns-in_default c =
    let tokens = c.args.input.now.tokens.now in
    let text = c.args.input.now.text.now in
    let room = c.args.room in
    let here = drop c.args.at tokens in
    (omega arith, call_nowhere text room here c.in_default.ensures.found)

pub returns-then-not-calls_constructor : goal.returns-then-not-calls_constructor
returns-then-not-calls_constructor c =
    let tokens = c.args.input.now.tokens.now in
    let text = c.args.input.now.text.now in
    let room = c.args.room in
    let here = drop c.args.at tokens in
    (omega arith, call_other text room here c.in-Some.token (drop (c.args.at + 1) tokens) c.in-Some.ensures.found (sym c.if-not-calls_constructor.ensures))

pub returns-then-not-sees_left_paren : goal.returns-then-not-sees_left_paren
returns-then-not-sees_left_paren c =
    let tokens = c.args.input.now.tokens.now in
    let text = c.args.input.now.text.now in
    let room = c.args.room in
    let here = drop c.args.at tokens in (
      omega arith,
      call_bare text room here c.in-Some.token (drop (c.args.at + 1) tokens) c.in-Some.ensures.found (sym c.if-not-calls_constructor.ensures)
          (sym c.if-not-sees_left_paren.ensures),
    )

pub returns-in_err-arguments : goal.returns-in_err-arguments
returns-in_err-arguments c =
    let tokens = c.args.input.now.tokens.now in
    let text = c.args.input.now.text.now in
    let room = c.args.room in
    let here = drop c.args.at tokens in
    hands_on tokens (c.args.at + 1) c.args.at (first_call_at text room here) (arguments_at text room (drop (c.args.at + 1) tokens))
    c.in_err-arguments.field-0.0 c.from_residual.result c.from_residual.ensures.1
    (λ n. call_stands text room here c.in-Some.token (drop (c.args.at + 1) tokens) c.in-Some.ensures.found (sym c.if-not-calls_constructor.ensures)
    (sym c.if-not-sees_left_paren.ensures) ∙ simp n) c.in_err-arguments.ensures

pub returns-in_err-end : goal.returns-in_err-end
returns-in_err-end c =
    let tokens = c.args.input.now.tokens.now in
    let text = c.args.input.now.text.now in
    let room = c.args.room in
    let here = drop c.args.at tokens in
    hands_on tokens c.in_ok-arguments.rest c.args.at (first_call_at text room here) (accept is_semicolon (drop c.in_ok-arguments.rest tokens))
    c.in_err-end.field-0.0 c.from_residual-in_err-end.result c.from_residual-in_err-end.ensures.1
    (λ n. call_stands text room here c.in-Some.token (drop (c.args.at + 1) tokens) c.in-Some.ensures.found (sym c.if-not-calls_constructor.ensures)
    (sym c.if-not-sees_left_paren.ensures) ∙ simp (c.in_ok-arguments.ensures.1, n)) c.in_err-end.ensures

pub returns : goal.returns
returns c =
    let tokens = c.args.input.now.tokens.now in
    let text = c.args.input.now.text.now in
    let room = c.args.room in
    let here = drop c.args.at tokens in (
      omega (arith, c.in_ok-arguments.ensures.0, c.in_ok-end.ensures.0),
      call_stands text room here c.in-Some.token (drop (c.args.at + 1) tokens) c.in-Some.ensures.found (sym c.if-not-calls_constructor.ensures)
          (sym c.if-not-sees_left_paren.ensures) ∙ simp (c.in_ok-arguments.ensures.1, c.in_ok-end.ensures.1, c.is_super.ensures),
    )
