use Rattle.std.proofs.Common.{drop, sym, ap, ◌∙◌, arith}
use Rattle.jsh_parse.specs.Forms.{is_semicolon}
use Rattle.jsh_parse.specs.Reader.{accept}
use Rattle.jsh_parse.proofs.Passing.{hands_on, refuses}
use Rattle.jsh_decl.specs.DeclarationReading.{dotted_at, import_at}
use Rattle.jsh_decl.proofs.DeclarationOnward.{import_by, import_bare, import_whole}
use Rattle.jsh_decl.proofs.names.import.Goals as goal

pub returns-in_err-parts : goal.returns-in_err-parts
returns-in_err-parts c =
    let tokens = c.args.input.now.tokens.now in
    let text = c.args.input.now.text.now in
    let here = drop c.args.at tokens in
    hands_on tokens c.static_word-is_static.result.1 c.args.at (import_at text c.args.token here) (dotted_at text
    (drop c.static_word-is_static.result.1 tokens))
    c.in_err-parts.field-0.0 c.from_residual.result c.from_residual.ensures.1
    (λ n. import_by text c.args.token here ∙ simp (sym c.static_word-is_static.ensures.rest, n)) c.in_err-parts.ensures

pub returns-then-is_bare : goal.returns-then-is_bare
returns-then-is_bare c =
    let tokens = c.args.input.now.tokens.now in
    let text = c.args.input.now.text.now in
    let here = drop c.args.at tokens in
    refuses tokens c.args.at (import_at text c.args.token here) c.refuse.result c.refuse.ensures
    (import_bare text c.args.token here (drop c.in_ok-parts.behind tokens) c.in_ok-parts.parts c.in_ok-parts.on_demand
    (ap (dotted_at text) (sym c.static_word-is_static.ensures.rest) ∙ c.in_ok-parts.ensures.1) (sym c.if-is_bare.ensures))

pub returns-in_err-end : goal.returns-in_err-end
returns-in_err-end c =
    let tokens = c.args.input.now.tokens.now in
    let text = c.args.input.now.text.now in
    let here = drop c.args.at tokens in
    hands_on tokens c.in_ok-parts.behind c.args.at (import_at text c.args.token here) (accept is_semicolon (drop c.in_ok-parts.behind tokens))
    c.in_err-end.field-0.0 c.from_residual-in_err-end.result c.from_residual-in_err-end.ensures.1
    (λ n. import_whole text c.args.token here (drop c.in_ok-parts.behind tokens) c.in_ok-parts.parts c.in_ok-parts.on_demand
    (ap (dotted_at text) (sym c.static_word-is_static.ensures.rest) ∙ c.in_ok-parts.ensures.1) (sym c.if-is_bare.ensures) ∙ simp n) c.in_err-end.ensures

pub returns : goal.returns
returns c =
    let tokens = c.args.input.now.tokens.now in
    let text = c.args.input.now.text.now in
    let here = drop c.args.at tokens in (
      omega (arith, c.static_word-is_static.ensures.forward, c.in_ok-parts.ensures.0, c.in_ok-end.ensures.0),
      import_whole text c.args.token here (drop c.in_ok-parts.behind tokens) c.in_ok-parts.parts c.in_ok-parts.on_demand
          (ap (dotted_at text) (sym c.static_word-is_static.ensures.rest) ∙ c.in_ok-parts.ensures.1) (sym c.if-is_bare.ensures) ∙
          simp (c.in_ok-end.ensures.1, c.static_word-is_static.ensures.value),
    )
