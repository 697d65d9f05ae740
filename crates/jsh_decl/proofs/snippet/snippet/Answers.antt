use Rattle.std.proofs.Common.{drop, sym, ◌∙◌, arith, ◌+◌, ◌≡◌, refl, true, false}
use Rattle.jsh_decl.specs.declared.modifiers.Place.TheVariants as place
use Rattle.jsh_parse.proofs.Passing.{hands_on, refuses, as_read}
use Rattle.jsh_decl.specs.DeclarationReader.{snippet_at}
use Rattle.jsh_decl.specs.DeclarationReading.{allowed, modifiers_at, import_at, declaration_at, statement_at}
use Rattle.jsh_decl.proofs.DeclarationTurns.{modifiers_stand}
use Rattle.jsh_decl.proofs.DeclarationSnippets.{snippet_nowhere, snippet_import, snippet_bare, snippet_declared, snippet_modified}
use Rattle.jsh_decl.proofs.snippet.snippet.Goals as goal

pub returns-in_default : goal.returns-in_default
returns-in_default c =
    let tokens = c.args.input.now.tokens.now in
    let text = c.args.input.now.text.now in
    let room = c.args.room in
    let here = drop c.args.at tokens in
    refuses tokens c.args.at (snippet_at text room here) c.refuse.result c.refuse.ensures
    (snippet_nowhere text room here c.in_default.ensures.found)

pub returns-in_err-import : goal.returns-in_err-import
returns-in_err-import c =
    let tokens = c.args.input.now.tokens.now in
    let text = c.args.input.now.text.now in
    let room = c.args.room in
    let here = drop c.args.at tokens in
    hands_on tokens (c.args.at + 1) c.args.at (snippet_at text room here) (import_at text c.in-Some.token (drop (c.args.at + 1) tokens))
    c.in_err-import.field-0.0 c.from_residual.result c.from_residual.ensures.1
    (λ n. snippet_import text room here c.in-Some.token (drop (c.args.at + 1) tokens) c.in-Some.ensures.found (sym c.if-is_import.ensures) ∙
    simp n) c.in_err-import.ensures

pub returns-then-is_import : goal.returns-then-is_import
returns-then-is_import c =
    let tokens = c.args.input.now.tokens.now in
    let text = c.args.input.now.text.now in
    let room = c.args.room in
    let here = drop c.args.at tokens in (
      omega (arith, c.in_ok-import.ensures.0),
      snippet_import text room here c.in-Some.token (drop (c.args.at + 1) tokens) c.in-Some.ensures.found (sym c.if-is_import.ensures) ∙
          simp (c.in_ok-import.ensures.1, c.in_ok-new.ensures),
    )

pub returns-in_err-modifiers : goal.returns-in_err-modifiers
returns-in_err-modifiers c =
    let tokens = c.args.input.now.tokens.now in
    let text = c.args.input.now.text.now in
    let room = c.args.room in
    let here = drop c.args.at tokens in
    hands_on tokens c.args.at c.args.at (snippet_at text room here) (modifiers_at (allowed place.Snippet) here)
    c.in_err-modifiers.field-0.0 c.from_residual-in_err-modifiers.result c.from_residual-in_err-modifiers.ensures.1
    (λ n. modifiers_stand (allowed place.Snippet) (snippet_at text room here) here n) c.in_err-modifiers.ensures

pub returns-then-not-is_empty : goal.returns-then-not-is_empty
returns-then-not-is_empty c =
    let tokens = c.args.input.now.tokens.now in
    let text = c.args.input.now.text.now in
    let room = c.args.room in
    let here = drop c.args.at tokens in
    as_read tokens c.args.at c.in_ok-modifiers.rest (snippet_at text room here) (declaration_at text room c.in_ok-modifiers.modifiers
    (drop c.in_ok-modifiers.rest tokens)) c.declaration.result (omega (arith, c.in_ok-modifiers.ensures.0))
    (snippet_modified text room here c.in-Some.token (drop (c.args.at + 1) tokens)
    (drop c.in_ok-modifiers.rest tokens) c.in_ok-modifiers.modifiers c.in-Some.ensures.found (sym c.if-is_import.ensures) c.in_ok-modifiers.ensures.1
    (λ h. let no : false ≡ true = c.if-not-is_empty.ensures.1 h in cc)) c.declaration.ensures

pub returns-then-begins_declaration : goal.returns-then-begins_declaration
returns-then-begins_declaration c =
    let tokens = c.args.input.now.tokens.now in
    let text = c.args.input.now.text.now in
    let room = c.args.room in
    let here = drop c.args.at tokens in
    as_read tokens c.args.at c.in_ok-modifiers.rest (snippet_at text room here) (declaration_at text room c.in_ok-modifiers.modifiers
    (drop c.in_ok-modifiers.rest tokens)) c.declaration-then-begins_declaration.result (omega (arith, c.in_ok-modifiers.ensures.0))
    (snippet_declared text room here c.in-Some.token (drop (c.args.at + 1) tokens)
    (drop c.in_ok-modifiers.rest tokens) c.in_ok-modifiers.modifiers c.in-Some.ensures.found (sym c.if-is_import.ensures) c.in_ok-modifiers.ensures.1
    (c.if-not-is_empty.ensures.0 refl) (sym c.if-begins_declaration.ensures)) c.declaration-then-begins_declaration.ensures

pub returns : goal.returns
returns c =
    let tokens = c.args.input.now.tokens.now in
    let text = c.args.input.now.text.now in
    let room = c.args.room in
    let here = drop c.args.at tokens in
    as_read tokens c.args.at c.in_ok-modifiers.rest (snippet_at text room here) (statement_at text room
    (drop c.in_ok-modifiers.rest tokens)) c.statement.result (omega (arith, c.in_ok-modifiers.ensures.0))
    (snippet_bare text room here c.in-Some.token (drop (c.args.at + 1) tokens)
    (drop c.in_ok-modifiers.rest tokens) c.in_ok-modifiers.modifiers c.in-Some.ensures.found (sym c.if-is_import.ensures) c.in_ok-modifiers.ensures.1
    (c.if-not-is_empty.ensures.0 refl) (sym c.if-begins_declaration.ensures)) c.statement.ensures
