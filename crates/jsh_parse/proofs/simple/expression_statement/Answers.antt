use Rattle.std.proofs.Common.{drop, sym, ap, ◌∙◌, arith}
use Rattle.jsh_parse.specs.Reader.{accept}
use Rattle.jsh_parse.specs.Reading.{expr_at}
use Rattle.jsh_parse.specs.Statements.{is_statement}
use Rattle.jsh_parse.specs.Forms.{is_semicolon}
use Rattle.jsh_parse.specs.StatementReading.{expression_at}
use Rattle.jsh_parse.proofs.Passing.{hands_on, refuses}
use Rattle.jsh_parse.proofs.LabelOnward.{expression_by, expression_unfit, expression_fit}
use Rattle.jsh_parse.proofs.simple.expression_statement.Goals as goal

pub returns-in_err-tree : goal.returns-in_err-tree
returns-in_err-tree c =
    let tokens = c.args.input.now.tokens.now in
    let text = c.args.input.now.text.now in
    let here = drop c.args.at tokens in
    let room = c.args.room in
    hands_on tokens c.args.at c.args.at (expression_at text room here)
    (expr_at text room here)
    c.in_err-tree.field-0.0 c.from_residual.result c.from_residual.ensures.1
    (λ n. expression_by text room here ∙ simp n) c.in_err-tree.ensures

pub returns-then-not-is_statement : goal.returns-then-not-is_statement
returns-then-not-is_statement c =
    let tokens = c.args.input.now.tokens.now in
    let text = c.args.input.now.text.now in
    let here = drop c.args.at tokens in
    let room = c.args.room in
    refuses tokens c.args.at (expression_at text room here) c.refuse.result c.refuse.ensures
    (expression_unfit text room here c.in_ok-tree.tree (drop c.in_ok-tree.behind tokens) c.in_ok-tree.ensures.1 (sym (c.if-not-is_statement.ensures ∙
    ap is_statement c.get.ensures)))

pub returns-in_err-end : goal.returns-in_err-end
returns-in_err-end c =
    let tokens = c.args.input.now.tokens.now in
    let text = c.args.input.now.text.now in
    let here = drop c.args.at tokens in
    let room = c.args.room in
    hands_on tokens c.in_ok-tree.behind c.args.at
    (expression_at text room here)
    (accept is_semicolon (drop c.in_ok-tree.behind tokens))
    c.in_err-end.field-0.0 c.from_residual-in_err-end.result c.from_residual-in_err-end.ensures.1
    (λ n. expression_fit text room here c.in_ok-tree.tree (drop c.in_ok-tree.behind tokens) c.in_ok-tree.ensures.1 (sym
    (c.if-not-is_statement.ensures ∙ ap is_statement c.get.ensures)) ∙ simp n) c.in_err-end.ensures

pub returns : goal.returns
returns c =
    let tokens = c.args.input.now.tokens.now in
    let text = c.args.input.now.text.now in (
      omega (arith, c.in_ok-tree.ensures.0, c.in_ok-end.ensures.0),
      expression_fit text c.args.room (drop c.args.at tokens) c.in_ok-tree.tree (drop c.in_ok-tree.behind tokens) c.in_ok-tree.ensures.1 (sym
          (c.if-not-is_statement.ensures ∙ ap is_statement c.get.ensures)) ∙ simp (c.in_ok-end.ensures.1, c.in_ok-alone.ensures),
    )
