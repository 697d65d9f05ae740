use Rattle.std.proofs.Common.{drop, sym, ◌∙◌, arith, ◌+◌}
use Rattle.jsh_parse.proofs.Passing.{refuses, as_read}
use Rattle.jsh_decl.specs.DeclarationReading.{expression_at, braced_at, other_at, statement_at}
use Rattle.jsh_decl.proofs.DeclarationSnippets.{statement_nowhere, statement_expression, statement_block, statement_other}
use Rattle.jsh_decl.proofs.snippet.statement.Goals as goal

pub returns-in_default : goal.returns-in_default
returns-in_default c =
    let tokens = c.args.input.now.tokens.now in
    let text = c.args.input.now.text.now in
    let room = c.args.room in
    let here = drop c.args.at tokens in
    refuses tokens c.args.at (statement_at text room here) c.refuse.result c.refuse.ensures
    (statement_nowhere text room here c.in_default.ensures.found)

pub returns-in-Expression : goal.returns-in-Expression
returns-in-Expression c =
    let tokens = c.args.input.now.tokens.now in
    let text = c.args.input.now.text.now in
    let room = c.args.room in
    let here = drop c.args.at tokens in
    as_read tokens c.args.at c.args.at (statement_at text room here) (expression_at text room here) c.expression.result (omega arith)
    (statement_expression text room here c.in-Some.token (drop (c.args.at + 1) tokens) c.in-Some.ensures.found (sym c.form_of.ensures ∙
    c.in-Expression.is)) c.expression.ensures

pub returns-in-Block : goal.returns-in-Block
returns-in-Block c =
    let tokens = c.args.input.now.tokens.now in
    let text = c.args.input.now.text.now in
    let room = c.args.room in
    let here = drop c.args.at tokens in
    as_read tokens c.args.at c.args.at (statement_at text room here) (braced_at text room here) c.braced.result (omega arith)
    (statement_block text room here c.in-Some.token (drop (c.args.at + 1) tokens) c.in-Some.ensures.found (sym c.form_of.ensures ∙
    c.in-Block.is)) c.braced.ensures

pub returns-in_default-form_of : goal.returns-in_default-form_of
returns-in_default-form_of c =
    let tokens = c.args.input.now.tokens.now in
    let text = c.args.input.now.text.now in
    let room = c.args.room in
    let here = drop c.args.at tokens in
    as_read tokens c.args.at c.args.at (statement_at text room here) (other_at text room here) c.other.result (omega arith)
    (statement_other text room here c.in-Some.token (drop (c.args.at + 1) tokens) c.in-Some.ensures.found
    (λ h. c.in_default-form_of.not-Expression (c.form_of.ensures ∙ h)) (λ h. c.in_default-form_of.not-Block (c.form_of.ensures ∙ h))) c.other.ensures
