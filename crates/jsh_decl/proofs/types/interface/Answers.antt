use Rattle.std.proofs.Common.{drop, ◌∙◌, arith}
use Rattle.jsh_parse.specs.Marks.{is_left_brace, is_right_brace}
use Rattle.jsh_parse.specs.Reader.{accept}
use Rattle.jsh_parse.specs.Reading.{name_read}
use Rattle.jsh_parse.proofs.Passing.{hands_on, too_deep}
use Rattle.jsh_decl.specs.Words.{is_extends}
use Rattle.jsh_decl.specs.DeclarationReading.{names_behind_at, interface_methods_at, interface_at}
use Rattle.jsh_decl.proofs.DeclarationSnippets.{interface_flat, interface_by}
use Rattle.jsh_decl.proofs.types.interface.Goals as goal

pub returns-in_err-inner : goal.returns-in_err-inner
returns-in_err-inner c =
    let tokens = c.args.input.now.tokens.now in
    let text = c.args.input.now.text.now in
    let room = c.args.room in
    let here = drop c.args.at tokens in
    too_deep tokens c.args.at (interface_at text room c.args.modifiers here) c.in_err-inner.field-0.0 c.from_residual.result c.from_residual.ensures.1
    c.in_err-inner.ensures.1
    (interface_flat text room c.args.modifiers here c.in_err-inner.ensures.0)

pub returns-in_err-name : goal.returns-in_err-name
returns-in_err-name c =
    let tokens = c.args.input.now.tokens.now in
    let text = c.args.input.now.text.now in
    let room = c.args.room in
    let here = drop c.args.at tokens in
    hands_on tokens c.args.at c.args.at (interface_at text room c.args.modifiers here) (name_read text here)
    c.in_err-name.field-0.0 c.from_residual-in_err-name.result c.from_residual-in_err-name.ensures.1
    (λ n. interface_by text room c.in_ok-inner.inner c.args.modifiers here c.in_ok-inner.ensures ∙ simp n) c.in_err-name.ensures

pub returns-in_err-extends : goal.returns-in_err-extends
returns-in_err-extends c =
    let tokens = c.args.input.now.tokens.now in
    let text = c.args.input.now.text.now in
    let room = c.args.room in
    let here = drop c.args.at tokens in
    hands_on tokens c.in_ok-name.rest c.args.at (interface_at text room c.args.modifiers here) (names_behind_at is_extends text
    (drop c.in_ok-name.rest tokens))
    c.in_err-extends.field-0.0 c.from_residual-in_err-extends.result c.from_residual-in_err-extends.ensures.1
    (λ n. interface_by text room c.in_ok-inner.inner c.args.modifiers here c.in_ok-inner.ensures ∙ simp (c.in_ok-name.ensures.1, n)) c.in_err-extends.ensures

pub returns-in_err-front : goal.returns-in_err-front
returns-in_err-front c =
    let tokens = c.args.input.now.tokens.now in
    let text = c.args.input.now.text.now in
    let room = c.args.room in
    let here = drop c.args.at tokens in
    hands_on tokens c.in_ok-extends.behind c.args.at (interface_at text room c.args.modifiers here) (accept is_left_brace
    (drop c.in_ok-extends.behind tokens))
    c.in_err-front.field-0.0 c.from_residual-in_err-front.result c.from_residual-in_err-front.ensures.1
    (λ n. interface_by text room c.in_ok-inner.inner c.args.modifiers here c.in_ok-inner.ensures ∙
    simp (c.in_ok-name.ensures.1, c.in_ok-extends.ensures.1, n)) c.in_err-front.ensures

pub returns-in_err-methods : goal.returns-in_err-methods
returns-in_err-methods c =
    let tokens = c.args.input.now.tokens.now in
    let text = c.args.input.now.text.now in
    let room = c.args.room in
    let here = drop c.args.at tokens in
    hands_on tokens c.in_ok-front.front c.args.at (interface_at text room c.args.modifiers here) (interface_methods_at text c.in_ok-inner.inner
    (drop c.in_ok-front.front tokens))
    c.in_err-methods.field-0.0 c.from_residual-in_err-methods.result c.from_residual-in_err-methods.ensures.1
    (λ n. interface_by text room c.in_ok-inner.inner c.args.modifiers here c.in_ok-inner.ensures ∙
    simp (c.in_ok-name.ensures.1, c.in_ok-extends.ensures.1, c.in_ok-front.ensures.1, n)) c.in_err-methods.ensures

pub returns-in_err-end : goal.returns-in_err-end
returns-in_err-end c =
    let tokens = c.args.input.now.tokens.now in
    let text = c.args.input.now.text.now in
    let room = c.args.room in
    let here = drop c.args.at tokens in
    hands_on tokens c.in_ok-methods.last c.args.at (interface_at text room c.args.modifiers here) (accept is_right_brace (drop c.in_ok-methods.last tokens))
    c.in_err-end.field-0.0 c.from_residual-in_err-end.result c.from_residual-in_err-end.ensures.1
    (λ n. interface_by text room c.in_ok-inner.inner c.args.modifiers here c.in_ok-inner.ensures ∙
    simp (c.in_ok-name.ensures.1, c.in_ok-extends.ensures.1, c.in_ok-front.ensures.1, c.in_ok-methods.ensures.1, n)) c.in_err-end.ensures

pub returns : goal.returns
returns c =
    let tokens = c.args.input.now.tokens.now in
    let text = c.args.input.now.text.now in
    let room = c.args.room in
    let here = drop c.args.at tokens in (
      omega (arith, c.in_ok-name.ensures.0, c.in_ok-extends.ensures.0, c.in_ok-front.ensures.0, c.in_ok-methods.ensures.0, c.in_ok-end.ensures.0),
      interface_by text room c.in_ok-inner.inner c.args.modifiers here c.in_ok-inner.ensures ∙
          simp (c.in_ok-name.ensures.1, c.in_ok-extends.ensures.1, c.in_ok-front.ensures.1, c.in_ok-methods.ensures.1, c.in_ok-end.ensures.1),
    )
