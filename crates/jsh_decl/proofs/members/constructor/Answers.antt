use Rattle.std.proofs.Common.{drop, sym, ap, ◌∙◌, arith, Some}
use Rattle.jsh_parse.specs.Marks.{is_left_brace, is_right_brace}
use Rattle.jsh_parse.specs.Reader.{accept}
use Rattle.jsh_parse.specs.Reading.{name_read}
use Rattle.jsh_parse.specs.StatementReading.{statements_at}
use Rattle.jsh_parse.proofs.Passing.{hands_on, too_deep}
use Rattle.jsh_decl.specs.Words.{is_throws}
use Rattle.jsh_decl.specs.DeclarationReading.{names_behind_at, parameters_at, first_call_at, constructor_at}
use Rattle.jsh_decl.proofs.DeclarationMembers.{constructor_flat, constructor_by, constructor_reads}
use Rattle.jsh_decl.proofs.members.constructor.Goals as goal

pub returns-in_err-inner : goal.returns-in_err-inner
returns-in_err-inner c =
    let tokens = c.args.input.now.tokens.now in
    let text = c.args.input.now.text.now in
    let room = c.args.room in
    let here = drop c.args.at tokens in
    too_deep tokens c.args.at (constructor_at text room c.args.modifiers here) c.in_err-inner.field-0.0 c.from_residual.result c.from_residual.ensures.1
    c.in_err-inner.ensures.1
    (constructor_flat text room c.args.modifiers here c.in_err-inner.ensures.0)

pub returns-in_err-name : goal.returns-in_err-name
returns-in_err-name c =
    let tokens = c.args.input.now.tokens.now in
    let text = c.args.input.now.text.now in
    let room = c.args.room in
    let here = drop c.args.at tokens in
    hands_on tokens c.args.at c.args.at (constructor_at text room c.args.modifiers here) (name_read text here)
    c.in_err-name.field-0.0 c.from_residual-in_err-name.result c.from_residual-in_err-name.ensures.1
    (λ n. constructor_by text room c.in_ok-inner.inner c.args.modifiers here c.in_ok-inner.ensures ∙ simp n) c.in_err-name.ensures

pub returns-in_err-parameters : goal.returns-in_err-parameters
returns-in_err-parameters c =
    let tokens = c.args.input.now.tokens.now in
    let text = c.args.input.now.text.now in
    let room = c.args.room in
    let here = drop c.args.at tokens in
    hands_on tokens c.in_ok-name.rest c.args.at (constructor_at text room c.args.modifiers here) (parameters_at text (drop c.in_ok-name.rest tokens))
    c.in_err-parameters.field-0.0 c.from_residual-in_err-parameters.result c.from_residual-in_err-parameters.ensures.1
    (λ n. constructor_by text room c.in_ok-inner.inner c.args.modifiers here c.in_ok-inner.ensures ∙
    simp (c.in_ok-name.ensures.1, n)) c.in_err-parameters.ensures

pub returns-in_err-throws : goal.returns-in_err-throws
returns-in_err-throws c =
    let tokens = c.args.input.now.tokens.now in
    let text = c.args.input.now.text.now in
    let room = c.args.room in
    let here = drop c.args.at tokens in
    hands_on tokens c.in_ok-parameters.behind c.args.at (constructor_at text room c.args.modifiers here) (names_behind_at is_throws text
    (drop c.in_ok-parameters.behind tokens))
    c.in_err-throws.field-0.0 c.from_residual-in_err-throws.result c.from_residual-in_err-throws.ensures.1
    (λ n. constructor_by text room c.in_ok-inner.inner c.args.modifiers here c.in_ok-inner.ensures ∙
    simp (c.in_ok-name.ensures.1, c.in_ok-parameters.ensures.1, n)) c.in_err-throws.ensures

pub returns-in_err-brace : goal.returns-in_err-brace
returns-in_err-brace c =
    let tokens = c.args.input.now.tokens.now in
    let text = c.args.input.now.text.now in
    let room = c.args.room in
    let here = drop c.args.at tokens in
    hands_on tokens c.in_ok-throws.more c.args.at (constructor_at text room c.args.modifiers here) (accept is_left_brace (drop c.in_ok-throws.more tokens))
    c.in_err-brace.field-0.0 c.from_residual-in_err-brace.result c.from_residual-in_err-brace.ensures.1
    (λ n. constructor_by text room c.in_ok-inner.inner c.args.modifiers here c.in_ok-inner.ensures ∙
    simp (c.in_ok-name.ensures.1, c.in_ok-parameters.ensures.1, c.in_ok-throws.ensures.1, n)) c.in_err-brace.ensures

pub returns-in_err-first : goal.returns-in_err-first
returns-in_err-first c =
    let tokens = c.args.input.now.tokens.now in
    let text = c.args.input.now.text.now in
    let room = c.args.room in
    let here = drop c.args.at tokens in
    hands_on tokens c.in_ok-brace.front c.args.at (constructor_at text room c.args.modifiers here) (first_call_at text c.in_ok-inner.inner
    (drop c.in_ok-brace.front tokens))
    c.in_err-first.field-0.0 c.from_residual-in_err-first.result c.from_residual-in_err-first.ensures.1
    (λ n. constructor_by text room c.in_ok-inner.inner c.args.modifiers here c.in_ok-inner.ensures ∙
    simp (c.in_ok-name.ensures.1, c.in_ok-parameters.ensures.1, c.in_ok-throws.ensures.1, c.in_ok-brace.ensures.1, n)) c.in_err-first.ensures

pub returns-in_err-statements : goal.returns-in_err-statements
returns-in_err-statements c =
    let tokens = c.args.input.now.tokens.now in
    let text = c.args.input.now.text.now in
    let room = c.args.room in
    let here = drop c.args.at tokens in
    hands_on tokens c.in_ok-first.body c.args.at (constructor_at text room c.args.modifiers here) (statements_at text c.in_ok-inner.inner
    (drop c.in_ok-first.body tokens))
    c.in_err-statements.field-0.0 c.from_residual-in_err-statements.result c.from_residual-in_err-statements.ensures.1
    (λ n. constructor_by text room c.in_ok-inner.inner c.args.modifiers here c.in_ok-inner.ensures ∙
    simp (
      c.in_ok-name.ensures.1,
      c.in_ok-parameters.ensures.1,
      c.in_ok-throws.ensures.1,
      c.in_ok-brace.ensures.1,
      c.in_ok-first.ensures.1,
      n,
    )) c.in_err-statements.ensures

pub returns-in_err-end : goal.returns-in_err-end
returns-in_err-end c =
    let tokens = c.args.input.now.tokens.now in
    let text = c.args.input.now.text.now in
    let room = c.args.room in
    let here = drop c.args.at tokens in
    hands_on tokens c.in_ok-statements.last c.args.at (constructor_at text room c.args.modifiers here) (accept is_right_brace
    (drop c.in_ok-statements.last tokens))
    c.in_err-end.field-0.0 c.from_residual-in_err-end.result c.from_residual-in_err-end.ensures.1
    (λ n. constructor_by text room c.in_ok-inner.inner c.args.modifiers here c.in_ok-inner.ensures ∙
    simp (
      c.in_ok-name.ensures.1,
      c.in_ok-parameters.ensures.1,
      c.in_ok-throws.ensures.1,
      c.in_ok-brace.ensures.1,
      c.in_ok-first.ensures.1,
      c.in_ok-statements.ensures.1,
      n,
    )) c.in_err-end.ensures

pub returns : goal.returns
returns c =
    let tokens = c.args.input.now.tokens.now in
    let text = c.args.input.now.text.now in
    let room = c.args.room in
    let here = drop c.args.at tokens in (
      omega (
        arith,
        c.in_ok-name.ensures.0,
        c.in_ok-parameters.ensures.0,
        c.in_ok-throws.ensures.0,
        c.in_ok-brace.ensures.0,
        c.in_ok-first.ensures.0,
        c.in_ok-statements.ensures.0,
        c.in_ok-end.ensures.0,
      ),
      constructor_reads text c.in_ok-inner.inner c.args.modifiers here c.in_ok-name.name (drop c.in_ok-name.rest tokens) c.in_ok-parameters.parameters
          (drop c.in_ok-parameters.behind tokens) c.in_ok-throws.throws (drop c.in_ok-throws.more tokens) c.in_ok-brace.brace
          (drop c.in_ok-brace.front tokens) c.in_ok-first.first (drop c.in_ok-first.body tokens) c.in_ok-statements.statements
          (drop c.in_ok-statements.last tokens) c.in_ok-end.field-0-0 (drop c.in_ok-end.end tokens) room c.in_ok-inner.ensures c.in_ok-name.ensures.1
          c.in_ok-parameters.ensures.1 c.in_ok-throws.ensures.1 c.in_ok-brace.ensures.1 c.in_ok-first.ensures.1 c.in_ok-statements.ensures.1
          c.in_ok-end.ensures.1 ∙ ap (λ m. Some (m, drop c.in_ok-end.end tokens)) (sym c.in_ok-member.ensures),
    )
