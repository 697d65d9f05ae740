use Rattle.std.proofs.Common.{drop, sym, ◌∙◌, arith}
use Rattle.jsh_parse.specs.Reading.{expr_at}
use Rattle.jsh_parse.specs.StatementReading.{optional_at}
use Rattle.jsh_parse.proofs.Passing.{hands_on}
use Rattle.jsh_parse.proofs.LeafOnward.{optional_absent, optional_there}
use Rattle.jsh_parse.proofs.locals.optional.Goals as goal

pub returns-then-sees_semicolon : goal.returns-then-sees_semicolon
returns-then-sees_semicolon c =
    let tokens = c.args.input.now.tokens.now in
    let text = c.args.input.now.text.now in
    (omega arith, optional_absent text c.args.room (drop c.args.at tokens) (sym c.if-sees_semicolon.ensures.value))

pub returns-in_err-tree : goal.returns-in_err-tree
returns-in_err-tree c =
    let tokens = c.args.input.now.tokens.now in
    let text = c.args.input.now.text.now in
    let here = drop c.args.at tokens in
    let room = c.args.room in
    hands_on tokens c.args.at c.args.at (optional_at text room here)
    (expr_at text room here)
    c.in_err-tree.field-0.0 c.from_residual.result c.from_residual.ensures.1
    (λ n. optional_there text room here (sym c.if-sees_semicolon.ensures.value) ∙ simp n) c.in_err-tree.ensures

pub returns : goal.returns
returns c =
    let tokens = c.args.input.now.tokens.now in
    let text = c.args.input.now.text.now in (
      omega (arith, c.in_ok-tree.ensures.0),
      optional_there text c.args.room (drop c.args.at tokens) (sym c.if-sees_semicolon.ensures.value) ∙ simp c.in_ok-tree.ensures.1,
    )
