use Rattle.std.proofs.Common.{drop, sym, ap, ◌∙◌, arith}
use Rattle.jsh_parse.specs.Reading.{expr_at}
use Rattle.jsh_parse.specs.Statements.{is_statement}
use Rattle.jsh_parse.specs.StatementReading.{update_at}
use Rattle.jsh_parse.proofs.Passing.{hands_on, refuses}
use Rattle.jsh_parse.proofs.LeafOnward.{update_absent, update_there, update_unfit, update_fit}
use Rattle.jsh_parse.proofs.locals.update.Goals as goal

pub returns-then-sees_right_paren : goal.returns-then-sees_right_paren
returns-then-sees_right_paren c =
    let tokens = c.args.input.now.tokens.now in
    let text = c.args.input.now.text.now in
    (omega arith, update_absent text c.args.room (drop c.args.at tokens) (sym c.if-sees_right_paren.ensures.value))

pub returns-in_err-tree : goal.returns-in_err-tree
returns-in_err-tree c =
    let tokens = c.args.input.now.tokens.now in
    let text = c.args.input.now.text.now in
    let here = drop c.args.at tokens in
    let room = c.args.room in
    hands_on tokens c.args.at c.args.at (update_at text room here)
    (expr_at text room here)
    c.in_err-tree.field-0.0 c.from_residual.result c.from_residual.ensures.1
    (λ n. update_there text room here (sym c.if-sees_right_paren.ensures.value) ∙ simp n) c.in_err-tree.ensures

pub returns-then-not-is_statement : goal.returns-then-not-is_statement
returns-then-not-is_statement c =
    let tokens = c.args.input.now.tokens.now in
    let text = c.args.input.now.text.now in
    let here = drop c.args.at tokens in
    let room = c.args.room in
    refuses tokens c.args.at (update_at text room here) c.refuse.result c.refuse.ensures
    (update_unfit text room here c.in_ok-tree.tree (drop c.in_ok-tree.end tokens) (sym c.if-sees_right_paren.ensures.value) c.in_ok-tree.ensures.1
    (sym (c.if-not-is_statement.ensures ∙ ap is_statement c.get.ensures)))

pub returns : goal.returns
returns c =
    let tokens = c.args.input.now.tokens.now in
    let text = c.args.input.now.text.now in (
      omega (arith, c.in_ok-tree.ensures.0),
      update_fit text c.args.room (drop c.args.at tokens) c.in_ok-tree.tree (drop c.in_ok-tree.end tokens)
          (sym c.if-sees_right_paren.ensures.value) c.in_ok-tree.ensures.1 (sym (c.if-not-is_statement.ensures ∙ ap is_statement c.get.ensures)),
    )
