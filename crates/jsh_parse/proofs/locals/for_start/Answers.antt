use Rattle.std.proofs.Common.{Some, drop, sym, ap, ◌∙◌, arith}
use Rattle.jsh_parse.specs.Reading.{expr_at}
use Rattle.jsh_parse.specs.Statements.{is_statement}
use Rattle.jsh_parse.specs.StatementReading.{variable_at, start_at}
use Rattle.jsh_parse.proofs.Passing.{hands_on, refuses}
use Rattle.jsh_parse.proofs.LeafOnward.{start_absent, start_local, start_there, start_unfit, start_fit}
use Rattle.jsh_parse.proofs.locals.for_start.Goals as goal

pub returns-then-sees_semicolon : goal.returns-then-sees_semicolon
returns-then-sees_semicolon c =
    let tokens = c.args.input.now.tokens.now in
    let text = c.args.input.now.text.now in
    let here = drop c.args.at tokens in (
      omega arith,
      start_absent text c.args.room here (sym c.if-sees_semicolon.ensures.value) ∙
          ap (λ s. Some (s, here)) (sym c.in_ok-new.ensures),
    )

pub returns-in_err-variable : goal.returns-in_err-variable
returns-in_err-variable c =
    let tokens = c.args.input.now.tokens.now in
    let text = c.args.input.now.text.now in
    let here = drop c.args.at tokens in
    let room = c.args.room in
    hands_on tokens c.final_word-is_final.result.1 c.args.at
    (start_at text room here)
    (variable_at text room (drop c.final_word-is_final.result.1 tokens))
    c.in_err-variable.field-0.0 c.from_residual-in_err-variable.result c.from_residual-in_err-variable.ensures.1
    (λ n. start_local text room here (sym c.if-sees_semicolon.ensures.value) (sym c.if-begins_local.ensures) ∙
    simp (sym c.final_word-is_final.ensures.rest, n)) c.in_err-variable.ensures

pub returns-then-begins_local : goal.returns-then-begins_local
returns-then-begins_local c =
    let tokens = c.args.input.now.tokens.now in
    let text = c.args.input.now.text.now in (
      omega (arith, c.final_word-is_final.ensures.forward, c.in_ok-variable.ensures.0),
      start_local text c.args.room (drop c.args.at tokens) (sym c.if-sees_semicolon.ensures.value) (sym c.if-begins_local.ensures) ∙
          simp (
            sym c.final_word-is_final.ensures.rest,
            sym c.final_word-is_final.ensures.value,
            c.span_at-span.ensures,
            c.in_ok-variable.ensures.1,
            c.in_ok-start.ensures,
          ),
    )

pub returns-in_err-tree : goal.returns-in_err-tree
returns-in_err-tree c =
    let tokens = c.args.input.now.tokens.now in
    let text = c.args.input.now.text.now in
    let here = drop c.args.at tokens in
    let room = c.args.room in
    hands_on tokens c.args.at c.args.at (start_at text room here)
    (expr_at text room here)
    c.in_err-tree.field-0.0 c.from_residual-in_err-tree.result c.from_residual-in_err-tree.ensures.1
    (λ n. start_there text room here (sym c.if-sees_semicolon.ensures.value) (sym c.if-begins_local.ensures) ∙ simp n) c.in_err-tree.ensures

pub returns-then-not-is_statement : goal.returns-then-not-is_statement
returns-then-not-is_statement c =
    let tokens = c.args.input.now.tokens.now in
    let text = c.args.input.now.text.now in
    let here = drop c.args.at tokens in
    let room = c.args.room in
    refuses tokens c.args.at (start_at text room here) c.refuse.result c.refuse.ensures
    (start_unfit text room here c.in_ok-tree.tree (drop c.in_ok-tree.end tokens) (sym c.if-sees_semicolon.ensures.value)
    (sym c.if-begins_local.ensures) c.in_ok-tree.ensures.1 (sym (c.if-not-is_statement.ensures ∙ ap is_statement c.get.ensures)))

pub returns : goal.returns
returns c =
    let tokens = c.args.input.now.tokens.now in
    let text = c.args.input.now.text.now in (
      omega (arith, c.in_ok-tree.ensures.0),
      start_fit text c.args.room (drop c.args.at tokens) c.in_ok-tree.tree (drop c.in_ok-tree.end tokens) (sym c.if-sees_semicolon.ensures.value)
          (sym c.if-begins_local.ensures) c.in_ok-tree.ensures.1 (sym (c.if-not-is_statement.ensures ∙ ap is_statement c.get.ensures)) ∙
          simp (c.in_ok-start-2.ensures, c.into_inner.ensures),
    )
