use Rattle.std.proofs.Common.{◌+◌, not, drop, sym, ap, ◌∙◌, arith}
use Rattle.jsh_parse.specs.StatementReading.{stmt_at, braced_at, expression_at, local_at}
use Rattle.jsh_parse.proofs.Passing.{handed, too_deep, refuses, as_read, next}
use Rattle.jsh_parse.proofs.StatementOnward.{stmt_none, stmt_block, stmt_empty, stmt_if, stmt_while, stmt_do, stmt_for, stmt_switch, stmt_break, stmt_continue, stmt_return, stmt_throw, stmt_try, stmt_expression, braced_by, block_fails, local_first, statement_first, try_by}
use Rattle.jsh_parse.proofs.StatementRuns.{run_begins, run_ends, run_fails, run_goes_on, run_exhausted, statements_run, statements_by, statements_onward, statements_zero, groups_run, groups_by, groups_onward, groups_zero, group_by, catches_run, catches_by, catches_onward, catches_zero, catch_by}
use Rattle.jsh_parse.proofs.StatementRooms.{if_flat, if_by, if_alone, if_else, while_flat, while_by, do_flat, do_by, for_flat, for_fails, for_each_by, for_parts_by, switch_flat, switch_by, block_flat, block_by}
use Rattle.jsh_parse.proofs.statement.+statements.Goals as goal

pub stmt-returns-in_default : goal.stmt-returns-in_default
stmt-returns-in_default t c =
    refuses c.args.input.now.tokens.now c.args.at _ _ c.refuse.ensures (ap (stmt_at _ _) c.in_default.ensures.found ∙ stmt_none _ _)

pub stmt-returns-in-Block : goal.stmt-returns-in-Block
stmt-returns-in-Block t c =
    as_read _ _ _ _ _ _ (omega arith)
    (ap (stmt_at _ _) c.in-Some.ensures.found ∙ stmt_block _ _ _ _ (sym c.form_of.ensures ∙ c.in-Block.is) ∙ ap (braced_at _ _) (sym c.in-Some.ensures.found))
    c.block_alone.ensures

pub stmt-returns-in-Empty : goal.stmt-returns-in-Empty
stmt-returns-in-Empty t c =
    as_read _ _ _ _ _ _ (omega arith)
    (ap (stmt_at _ _) c.in-Some.ensures.found ∙ stmt_empty _ _ _ _ (sym c.form_of.ensures ∙ c.in-Empty.is))
    c.empty.ensures

pub stmt-returns-in-If : goal.stmt-returns-in-If
stmt-returns-in-If t c =
    as_read _ _ _ _ _ _ (omega arith)
    (ap (stmt_at _ _) c.in-Some.ensures.found ∙ stmt_if _ _ _ _ (sym c.form_of.ensures ∙ c.in-If.is))
    c.branch-input.ensures

pub stmt-returns-in-While : goal.stmt-returns-in-While
stmt-returns-in-While t c =
    as_read _ _ _ _ _ _ (omega arith)
    (ap (stmt_at _ _) c.in-Some.ensures.found ∙ stmt_while _ _ _ _ (sym c.form_of.ensures ∙ c.in-While.is))
    c.looped.ensures

pub stmt-returns-in-Do : goal.stmt-returns-in-Do
stmt-returns-in-Do t c =
    as_read _ _ _ _ _ _ (omega arith)
    (ap (stmt_at _ _) c.in-Some.ensures.found ∙ stmt_do _ _ _ _ (sym c.form_of.ensures ∙ c.in-Do.is))
    c.do_while.ensures

pub stmt-returns-in-For : goal.stmt-returns-in-For
stmt-returns-in-For t c =
    as_read _ _ _ _ _ _ (omega arith)
    (ap (stmt_at _ _) c.in-Some.ensures.found ∙ stmt_for _ _ _ _ (sym c.form_of.ensures ∙ c.in-For.is))
    c.for_loop.ensures

pub stmt-returns-in-Switch : goal.stmt-returns-in-Switch
stmt-returns-in-Switch t c =
    as_read _ _ _ _ _ _ (omega arith)
    (ap (stmt_at _ _) c.in-Some.ensures.found ∙ stmt_switch _ _ _ _ (sym c.form_of.ensures ∙ c.in-Switch.is))
    c.switch.ensures

pub stmt-returns-in-Break : goal.stmt-returns-in-Break
stmt-returns-in-Break t c =
    as_read _ _ _ _ _ _ (omega arith)
    (ap (stmt_at _ _) c.in-Some.ensures.found ∙ stmt_break _ _ _ _ (sym c.form_of.ensures ∙ c.in-Break.is))
    c.break_off.ensures

pub stmt-returns-in-Continue : goal.stmt-returns-in-Continue
stmt-returns-in-Continue t c =
    as_read _ _ _ _ _ _ (omega arith)
    (ap (stmt_at _ _) c.in-Some.ensures.found ∙ stmt_continue _ _ _ _ (sym c.form_of.ensures ∙ c.in-Continue.is))
    c.continue_on.ensures

pub stmt-returns-in-Return : goal.stmt-returns-in-Return
stmt-returns-in-Return t c =
    as_read _ _ _ _ _ _ (omega arith)
    (ap (stmt_at _ _) c.in-Some.ensures.found ∙ stmt_return _ _ _ _ (sym c.form_of.ensures ∙ c.in-Return.is))
    c.return_from.ensures

pub stmt-returns-in-Throw : goal.stmt-returns-in-Throw
stmt-returns-in-Throw t c =
    as_read _ _ _ _ _ _ (omega arith)
    (ap (stmt_at _ _) c.in-Some.ensures.found ∙ stmt_throw _ _ _ _ (sym c.form_of.ensures ∙ c.in-Throw.is))
    c.throw_up.ensures

pub stmt-returns-in-Try : goal.stmt-returns-in-Try
stmt-returns-in-Try t c =
    as_read _ _ _ _ _ _ (omega arith)
    (ap (stmt_at _ _) c.in-Some.ensures.found ∙ stmt_try _ _ _ _ (sym c.form_of.ensures ∙ c.in-Try.is))
    c.try_block.ensures

pub stmt-returns-in-Expression : goal.stmt-returns-in-Expression
stmt-returns-in-Expression t c =
    as_read _ _ _ _ _ _ (omega arith)
    (ap (stmt_at _ _) c.in-Some.ensures.found ∙ stmt_expression _ _ _ _ (sym c.form_of.ensures ∙ c.in-Expression.is)
    ∙ ap (expression_at _ _) (sym c.in-Some.ensures.found))
    c.expression_statement.ensures

pub block_alone-returns-in_err-block : goal.block_alone-returns-in_err-block
block_alone-returns-in_err-block t c =
    handed _ _ _ _ _ _ c.from_residual.ensures.1 c.in_err-block.ensures
    (λ n. braced_by _ _ _ ∙ rw n)

pub block_alone-returns : goal.block_alone-returns
block_alone-returns t c = (
  omega (arith, c.in_ok-block.ensures.0),
  braced_by _ _ _ ∙ simp (c.in_ok-block.ensures.1, c.in_ok-braced.ensures),
)

pub branch-returns-in_err-inner : goal.branch-returns-in_err-inner
branch-returns-in_err-inner t c =
    too_deep _ _ _ _ _ c.from_residual.ensures.1 c.in_err-inner.ensures.1 (if_flat _ _ _ _ c.in_err-inner.ensures.0)

pub branch-returns-in_err-condition : goal.branch-returns-in_err-condition
branch-returns-in_err-condition t c =
    handed _ _ _ _ _ _ c.from_residual-in_err-condition.ensures.1 c.in_err-condition.ensures
    (λ n. if_by _ _ _ _ _ c.in_ok-inner.ensures ∙ rw n)

pub branch-returns-in_err-then : goal.branch-returns-in_err-then
branch-returns-in_err-then t c =
    handed _ _ _ _ _ _ c.from_residual-in_err-then.ensures.1 c.in_err-then.ensures
    (λ n. if_by _ _ _ _ _ c.in_ok-inner.ensures ∙ simp (c.in_ok-condition.ensures.1, n))

pub branch-returns-then-not-sees_else : goal.branch-returns-then-not-sees_else
branch-returns-then-not-sees_else t c = (
  omega (arith, c.in_ok-condition.ensures.0, c.in_ok-then.ensures.0),
  if_alone _ _ _ _ _ c.in_ok-inner.ensures _ _ _ _ c.in_ok-condition.ensures.1 c.in_ok-then.ensures.1 (sym c.if-not-sees_else.ensures.value)
      ∙ rw c.in_ok-tree.ensures,
)

pub branch-returns-in_err-otherwise : goal.branch-returns-in_err-otherwise
branch-returns-in_err-otherwise t c =
    handed _ _ _ _ _ _ c.from_residual-in_err-otherwise.ensures.1 c.in_err-otherwise.ensures
    (λ n. if_else _ _ _ _ _ c.in_ok-inner.ensures _ _ _ _ c.in_ok-condition.ensures.1 c.in_ok-then.ensures.1 (sym c.if-not-sees_else.ensures.value)
    ∙ simp (next c.args.input.now.tokens.now c.in_ok-then.behind, n))

pub branch-returns : goal.branch-returns
branch-returns t c = (
  omega (arith, c.in_ok-condition.ensures.0, c.in_ok-then.ensures.0, c.in_ok-otherwise.ensures.0),
  if_else _ _ _ _ _ c.in_ok-inner.ensures _ _ _ _ c.in_ok-condition.ensures.1 c.in_ok-then.ensures.1 (sym c.if-not-sees_else.ensures.value)
      ∙ simp (next c.args.input.now.tokens.now c.in_ok-then.behind, c.in_ok-otherwise.ensures.1, c.in_ok-tree-2.ensures),
)

pub looped-returns-in_err-inner : goal.looped-returns-in_err-inner
looped-returns-in_err-inner t c =
    too_deep _ _ _ _ _ c.from_residual.ensures.1 c.in_err-inner.ensures.1 (while_flat _ _ _ _ c.in_err-inner.ensures.0)

pub looped-returns-in_err-condition : goal.looped-returns-in_err-condition
looped-returns-in_err-condition t c =
    handed _ _ _ _ _ _ c.from_residual-in_err-condition.ensures.1 c.in_err-condition.ensures
    (λ n. while_by _ _ _ _ _ c.in_ok-inner.ensures ∙ rw n)

pub looped-returns-in_err-body : goal.looped-returns-in_err-body
looped-returns-in_err-body t c =
    handed _ _ _ _ _ _ c.from_residual-in_err-body.ensures.1 c.in_err-body.ensures
    (λ n. while_by _ _ _ _ _ c.in_ok-inner.ensures ∙ simp (c.in_ok-condition.ensures.1, n))

pub looped-returns : goal.looped-returns
looped-returns t c = (
  omega (arith, c.in_ok-condition.ensures.0, c.in_ok-body.ensures.0),
  while_by _ _ _ _ _ c.in_ok-inner.ensures ∙ simp (c.in_ok-condition.ensures.1, c.in_ok-body.ensures.1, c.in_ok-while_loop.ensures),
)

pub do_while-returns-in_err-inner : goal.do_while-returns-in_err-inner
do_while-returns-in_err-inner t c =
    too_deep _ _ _ _ _ c.from_residual.ensures.1 c.in_err-inner.ensures.1 (do_flat _ _ _ _ c.in_err-inner.ensures.0)

pub do_while-returns-in_err-body : goal.do_while-returns-in_err-body
do_while-returns-in_err-body t c =
    handed _ _ _ _ _ _ c.from_residual-in_err-body.ensures.1 c.in_err-body.ensures
    (λ n. do_by _ _ _ _ _ c.in_ok-inner.ensures ∙ rw n)

pub do_while-returns-in_err-behind : goal.do_while-returns-in_err-behind
do_while-returns-in_err-behind t c =
    handed _ _ _ _ _ _ c.from_residual-in_err-behind.ensures.1 c.in_err-behind.ensures
    (λ n. do_by _ _ _ _ _ c.in_ok-inner.ensures ∙ simp (c.in_ok-body.ensures.1, n))

pub do_while-returns-in_err-condition : goal.do_while-returns-in_err-condition
do_while-returns-in_err-condition t c =
    handed _ _ _ _ _ _ c.from_residual-in_err-condition.ensures.1 c.in_err-condition.ensures
    (λ n. do_by _ _ _ _ _ c.in_ok-inner.ensures ∙ simp (c.in_ok-body.ensures.1, c.in_ok-behind.ensures.1, n))

pub do_while-returns-in_err-end : goal.do_while-returns-in_err-end
do_while-returns-in_err-end t c =
    handed _ _ _ _ _ _ c.from_residual-in_err-end.ensures.1 c.in_err-end.ensures
    (λ n. do_by _ _ _ _ _ c.in_ok-inner.ensures ∙ simp (c.in_ok-body.ensures.1, c.in_ok-behind.ensures.1, c.in_ok-condition.ensures.1, n))

pub do_while-returns : goal.do_while-returns
do_while-returns t c = (
  omega (arith, c.in_ok-body.ensures.0, c.in_ok-behind.ensures.0, c.in_ok-condition.ensures.0, c.in_ok-end.ensures.0),
  do_by _ _ _ _ _ c.in_ok-inner.ensures
      ∙ simp (c.in_ok-body.ensures.1, c.in_ok-behind.ensures.1, c.in_ok-condition.ensures.1, c.in_ok-end.ensures.1, c.in_ok-do_loop.ensures),
)

pub for_loop-returns-in_err-inner : goal.for_loop-returns-in_err-inner
for_loop-returns-in_err-inner t c =
    too_deep _ _ _ _ _ c.from_residual.ensures.1 c.in_err-inner.ensures.1 (for_flat _ _ _ _ c.in_err-inner.ensures.0)

pub for_loop-returns-in_err-rest : goal.for_loop-returns-in_err-rest
for_loop-returns-in_err-rest t c =
    handed _ _ _ _ _ _ c.from_residual-in_err-rest.ensures.1 c.in_err-rest.ensures
    (λ n. for_fails _ _ _ _ _ c.in_ok-inner.ensures n)

pub for_loop-returns-in_err-head : goal.for_loop-returns-in_err-head
for_loop-returns-in_err-head t c =
    handed _ _ _ _ _ _ c.from_residual-in_err-head.ensures.1 c.in_err-head.ensures
    (λ n. for_each_by _ _ _ _ _ c.in_ok-inner.ensures _ _ c.in_ok-rest.ensures.1 (sym c.if-is_for_each.ensures) ∙ rw n)

pub for_loop-returns-in_err-body : goal.for_loop-returns-in_err-body
for_loop-returns-in_err-body t c =
    handed _ _ _ _ _ _ c.from_residual-in_err-body.ensures.1 c.in_err-body.ensures
    (λ n. for_each_by _ _ _ _ _ c.in_ok-inner.ensures _ _ c.in_ok-rest.ensures.1 (sym c.if-is_for_each.ensures) ∙ simp (c.in_ok-head.ensures.1, n))

pub for_loop-returns-then-is_for_each : goal.for_loop-returns-then-is_for_each
for_loop-returns-then-is_for_each t c = (
  omega (arith, c.in_ok-rest.ensures.0, c.in_ok-head.ensures.0, c.in_ok-body.ensures.0),
  for_each_by _ _ _ _ _ c.in_ok-inner.ensures _ _ c.in_ok-rest.ensures.1 (sym c.if-is_for_each.ensures)
      ∙ simp (c.in_ok-head.ensures.1, c.in_ok-body.ensures.1, c.in_ok-each.ensures),
)

pub for_loop-returns-in_err-head-2 : goal.for_loop-returns-in_err-head-2
for_loop-returns-in_err-head-2 t c =
    handed _ _ _ _ _ _ c.from_residual-in_err-head-2.ensures.1 c.in_err-head-2.ensures
    (λ n. for_parts_by _ _ _ _ _ c.in_ok-inner.ensures _ _ c.in_ok-rest.ensures.1 (sym c.if-is_for_each.ensures) ∙ rw n)

pub for_loop-returns-in_err-body-2 : goal.for_loop-returns-in_err-body-2
for_loop-returns-in_err-body-2 t c =
    handed _ _ _ _ _ _ c.from_residual-in_err-body-2.ensures.1 c.in_err-body-2.ensures
    (λ n. for_parts_by _ _ _ _ _ c.in_ok-inner.ensures _ _ c.in_ok-rest.ensures.1 (sym c.if-is_for_each.ensures) ∙ simp (c.in_ok-head-2.ensures.1, n))

pub for_loop-returns : goal.for_loop-returns
for_loop-returns t c = (
  omega (arith, c.in_ok-rest.ensures.0, c.in_ok-head-2.ensures.0, c.in_ok-body-2.ensures.0),
  for_parts_by _ _ _ _ _ c.in_ok-inner.ensures _ _ c.in_ok-rest.ensures.1 (sym c.if-is_for_each.ensures)
      ∙ simp (c.in_ok-head-2.ensures.1, c.in_ok-body-2.ensures.1, c.in_ok-counted.ensures),
)

pub switch-returns-in_err-inner : goal.switch-returns-in_err-inner
switch-returns-in_err-inner t c =
    too_deep _ _ _ _ _ c.from_residual.ensures.1 c.in_err-inner.ensures.1 (switch_flat _ _ _ _ c.in_err-inner.ensures.0)

pub switch-returns-in_err-selector : goal.switch-returns-in_err-selector
switch-returns-in_err-selector t c =
    handed _ _ _ _ _ _ c.from_residual-in_err-selector.ensures.1 c.in_err-selector.ensures
    (λ n. switch_by _ _ _ _ _ c.in_ok-inner.ensures ∙ rw n)

pub switch-returns-in_err-behind : goal.switch-returns-in_err-behind
switch-returns-in_err-behind t c =
    handed _ _ _ _ _ _ c.from_residual-in_err-behind.ensures.1 c.in_err-behind.ensures
    (λ n. switch_by _ _ _ _ _ c.in_ok-inner.ensures ∙ simp (c.in_ok-selector.ensures.1, n))

pub switch-returns-in_err-groups : goal.switch-returns-in_err-groups
switch-returns-in_err-groups t c =
    handed _ _ _ _ _ _ c.from_residual-in_err-groups.ensures.1 c.in_err-groups.ensures
    (λ n. switch_by _ _ _ _ _ c.in_ok-inner.ensures ∙ simp (c.in_ok-selector.ensures.1, c.in_ok-behind.ensures.1, n))

pub switch-returns-in_err-end : goal.switch-returns-in_err-end
switch-returns-in_err-end t c =
    handed _ _ _ _ _ _ c.from_residual-in_err-end.ensures.1 c.in_err-end.ensures
    (λ n. switch_by _ _ _ _ _ c.in_ok-inner.ensures ∙ simp (c.in_ok-selector.ensures.1, c.in_ok-behind.ensures.1, c.in_ok-groups.ensures.1, n))

pub switch-returns : goal.switch-returns
switch-returns t c = (
  omega (arith, c.in_ok-selector.ensures.0, c.in_ok-behind.ensures.0, c.in_ok-groups.ensures.0, c.in_ok-end.ensures.0),
  switch_by _ _ _ _ _ c.in_ok-inner.ensures
      ∙ simp (c.in_ok-selector.ensures.1, c.in_ok-behind.ensures.1, c.in_ok-groups.ensures.1, c.in_ok-end.ensures.1, c.in_ok-selection.ensures),
)

pub group-returns-in_err-labels : goal.group-returns-in_err-labels
group-returns-in_err-labels t c =
    handed _ _ _ _ _ _ c.from_residual.ensures.1 c.in_err-labels.ensures
    (λ n. group_by _ _ _ ∙ rw n)

pub group-returns-in_err-statements : goal.group-returns-in_err-statements
group-returns-in_err-statements t c =
    handed _ _ _ _ _ _ c.from_residual-in_err-statements.ensures.1 c.in_err-statements.ensures
    (λ n. group_by _ _ _ ∙ simp (c.in_ok-labels.ensures.1, n))

pub group-returns : goal.group-returns
group-returns t c = (
  omega (arith, c.in_ok-labels.ensures.0, c.in_ok-statements.ensures.0),
  group_by _ _ _ ∙ simp (c.in_ok-labels.ensures.1, c.in_ok-statements.ensures.1, c.in_ok-grouped.ensures),
)

pub catch-returns-in_err-head : goal.catch-returns-in_err-head
catch-returns-in_err-head t c =
    handed _ _ _ _ _ _ c.from_residual.ensures.1 c.in_err-head.ensures
    (λ n. catch_by _ _ _ ∙ rw n)

pub catch-returns-in_err-block : goal.catch-returns-in_err-block
catch-returns-in_err-block t c =
    handed _ _ _ _ _ _ c.from_residual-in_err-block.ensures.1 c.in_err-block.ensures
    (λ n. catch_by _ _ _ ∙ simp (c.in_ok-head.ensures.1, n))

pub catch-returns : goal.catch-returns
catch-returns t c = (
  omega (arith, c.in_ok-head.ensures.0, c.in_ok-block.ensures.0),
  catch_by _ _ _ ∙ simp (c.in_ok-head.ensures.1, c.in_ok-block.ensures.1, c.in_ok-caught.ensures),
)

pub block_statement-returns-then-begins_local : goal.block_statement-returns-then-begins_local
block_statement-returns-then-begins_local t c =
    as_read c.args.input.now.tokens.now c.args.at c.args.at _ (local_at c.args.input.now.text.now c.args.room (drop c.args.at c.args.input.now.tokens.now))
    c.local.result (omega arith) (local_first _ _ _ (sym c.if-begins_local.ensures)) c.local.ensures

pub block_statement-returns-in_err-tree : goal.block_statement-returns-in_err-tree
block_statement-returns-in_err-tree t c =
    handed _ _ _ _ _ _ c.from_residual.ensures.1 c.in_err-tree.ensures
    (λ n. statement_first _ _ _ (sym c.if-begins_local.ensures) ∙ rw n)

pub block_statement-returns : goal.block_statement-returns
block_statement-returns t c = (
  omega (arith, c.in_ok-tree.ensures.0),
  statement_first _ _ _ (sym c.if-begins_local.ensures) ∙ simp (c.in_ok-tree.ensures.1, c.in_ok-inside_block.ensures),
)

pub block-returns-in_err-brace : goal.block-returns-in_err-brace
block-returns-in_err-brace t c =
    handed _ _ _ _ _ _ c.from_residual.ensures.1 c.in_err-brace.ensures
    (λ n. block_fails _ _ _ n)

pub block-returns-in_err-inner : goal.block-returns-in_err-inner
block-returns-in_err-inner t c =
    too_deep _ _ _ _ _ c.from_residual-in_err-inner.ensures.1 c.in_err-inner.ensures.1 (block_flat _ _ _ _ _ c.in_err-inner.ensures.0 c.in_ok-brace.ensures.1)

pub block-returns-in_err-statements : goal.block-returns-in_err-statements
block-returns-in_err-statements t c =
    handed _ _ _ _ _ _ c.from_residual-in_err-statements.ensures.1 c.in_err-statements.ensures
    (λ n. block_by _ _ _ _ _ _ c.in_ok-inner.ensures c.in_ok-brace.ensures.1 ∙ rw n)

pub block-returns-in_err-end : goal.block-returns-in_err-end
block-returns-in_err-end t c =
    handed _ _ _ _ _ _ c.from_residual-in_err-end.ensures.1 c.in_err-end.ensures
    (λ n. block_by _ _ _ _ _ _ c.in_ok-inner.ensures c.in_ok-brace.ensures.1 ∙ simp (c.in_ok-statements.ensures.1, n))

pub block-returns : goal.block-returns
block-returns t c = (
  omega (arith, c.in_ok-brace.ensures.0, c.in_ok-statements.ensures.0, c.in_ok-end.ensures.0),
  block_by _ _ _ _ _ _ c.in_ok-inner.ensures c.in_ok-brace.ensures.1 ∙ simp (c.in_ok-statements.ensures.1, c.in_ok-end.ensures.1),
)

pub try_block-returns-in_err-block : goal.try_block-returns-in_err-block
try_block-returns-in_err-block t c =
    handed _ _ _ _ _ _ c.from_residual.ensures.1 c.in_err-block.ensures
    (λ n. try_by _ _ _ _ ∙ rw n)

pub try_block-returns-in_err-catches : goal.try_block-returns-in_err-catches
try_block-returns-in_err-catches t c =
    handed _ _ _ _ _ _ c.from_residual-in_err-catches.ensures.1 c.in_err-catches.ensures
    (λ n. try_by _ _ _ _ ∙ simp (c.in_ok-block.ensures.1, n))

pub try_block-returns : goal.try_block-returns
try_block-returns t c =
    as_read _ _ _ _ _ _ (omega (arith, c.in_ok-block.ensures.0, c.in_ok-catches.ensures.0)) (try_by _ _ _ _
    ∙ simp (c.in_ok-block.ensures.1, c.in_ok-catches.ensures.1)) c.tried.ensures

pub statements-loop-turn-init : goal.statements-loop-turn-init
statements-loop-turn-init t c =
    record {
      forward = omega arith;
      reads = run_begins (statements_run c.args.input.now.text.now c.args.room) _ _ _ _ (statements_by _ _ _) c.left-most.ensures c.new-inside.ensures.items;
    }

pub statements-returns-then-ends_block : goal.statements-returns-then-ends_block
statements-returns-then-ends_block t c = (
  omega (arith, c.loop-turn.invariant.forward),
  run_ends (statements_run c.args.input.now.text.now c.args.room) _ _ (statements_onward c.args.input.now.text.now c.args.room) _
      (c.left-most.result + 1) c.loop-turn._turn _ _ c.loop-turn.invariant.reads (omega arith) (sym c.if-ends_block.ensures)
      ∙ rw c.from_vec.ensures,
)

pub statements-returns-in_err-further : goal.statements-returns-in_err-further
statements-returns-in_err-further t c =
    handed _ _ _ _ _ _ c.from_residual.ensures.1 c.in_err-further.ensures
    (λ n. run_fails (statements_run c.args.input.now.text.now c.args.room) _ _ (statements_onward c.args.input.now.text.now c.args.room) _
    (c.left-most.result + 1) c.loop-turn._turn _ _ c.loop-turn.invariant.reads (omega arith) (sym c.if-ends_block.ensures) n)

pub statements-loop-turn-preserved : goal.statements-loop-turn-preserved
statements-loop-turn-preserved t c =
    record {
      forward = omega (arith, c.loop-turn.invariant.forward, c.in_ok-further.ensures.0);
      reads = run_goes_on (statements_run c.args.input.now.text.now c.args.room) _ _ (statements_onward c.args.input.now.text.now c.args.room) _
          (c.left-most.result + 1) c.loop-turn._turn _ _ c.loop-turn.invariant.reads (omega arith) (sym c.if-ends_block.ensures)
          _ _ c.in_ok-further.ensures.1 _ c.in_ok-add.ensures;
    }

pub statements-returns : goal.statements-returns
statements-returns t c =
    refuses c.args.input.now.tokens.now c.args.from _ _ c.refuse.ensures
    (run_exhausted (statements_run c.args.input.now.text.now c.args.room) _ _ (statements_onward c.args.input.now.text.now c.args.room) _
    (c.left-most.result + 1) c.loop-turn._turn _ _ c.loop-turn.invariant.reads (omega arith) (statements_zero _ _ _))

pub groups-loop-turn-init : goal.groups-loop-turn-init
groups-loop-turn-init t c =
    record {
      forward = omega arith;
      reads = run_begins (groups_run c.args.input.now.text.now c.args.room) _ _ _ _ (groups_by _ _ _) c.left-most.ensures c.new-groups.ensures.items;
    }

pub groups-returns-then-not-sees_label : goal.groups-returns-then-not-sees_label
groups-returns-then-not-sees_label t c = (
  omega (arith, c.loop-turn.invariant.forward),
  run_ends (groups_run c.args.input.now.text.now c.args.room) _ _ (groups_onward c.args.input.now.text.now c.args.room) _
      (c.left-most.result + 1) c.loop-turn._turn _ _ c.loop-turn.invariant.reads (omega arith) (ap not (sym c.if-not-sees_label.ensures.value))
      ∙ rw c.from_vec.ensures,
)

pub groups-returns-in_err-further : goal.groups-returns-in_err-further
groups-returns-in_err-further t c =
    handed _ _ _ _ _ _ c.from_residual.ensures.1 c.in_err-further.ensures
    (λ n. run_fails (groups_run c.args.input.now.text.now c.args.room) _ _ (groups_onward c.args.input.now.text.now c.args.room) _
    (c.left-most.result + 1) c.loop-turn._turn _ _ c.loop-turn.invariant.reads (omega arith) (ap not (sym c.if-not-sees_label.ensures.value)) n)

pub groups-loop-turn-preserved : goal.groups-loop-turn-preserved
groups-loop-turn-preserved t c =
    record {
      forward = omega (arith, c.loop-turn.invariant.forward, c.in_ok-further.ensures.0);
      reads = run_goes_on (groups_run c.args.input.now.text.now c.args.room) _ _ (groups_onward c.args.input.now.text.now c.args.room) _
          (c.left-most.result + 1) c.loop-turn._turn _ _ c.loop-turn.invariant.reads (omega arith) (ap not (sym c.if-not-sees_label.ensures.value))
          _ _ c.in_ok-further.ensures.1 _ c.in_ok-add.ensures;
    }

pub groups-returns : goal.groups-returns
groups-returns t c =
    refuses c.args.input.now.tokens.now c.args.from _ _ c.refuse.ensures
    (run_exhausted (groups_run c.args.input.now.text.now c.args.room) _ _ (groups_onward c.args.input.now.text.now c.args.room) _
    (c.left-most.result + 1) c.loop-turn._turn _ _ c.loop-turn.invariant.reads (omega arith) (groups_zero _ _ _))

pub catches-loop-turn-init : goal.catches-loop-turn-init
catches-loop-turn-init t c =
    record {
      forward = omega arith;
      reads = run_begins (catches_run c.args.input.now.text.now c.args.room) _ _ _ _ (catches_by _ _ _) c.left-most.ensures c.new-catches.ensures.items;
    }

pub catches-returns-then-not-sees_catch : goal.catches-returns-then-not-sees_catch
catches-returns-then-not-sees_catch t c = (
  omega (arith, c.loop-turn.invariant.forward),
  run_ends (catches_run c.args.input.now.text.now c.args.room) _ _ (catches_onward c.args.input.now.text.now c.args.room) _
      (c.left-most.result + 1) c.loop-turn._turn _ _ c.loop-turn.invariant.reads (omega arith) (ap not (sym c.if-not-sees_catch.ensures.value))
      ∙ rw c.from_vec.ensures,
)

pub catches-returns-in_err-further : goal.catches-returns-in_err-further
catches-returns-in_err-further t c =
    handed _ _ _ _ _ _ c.from_residual.ensures.1 c.in_err-further.ensures
    (λ n. run_fails (catches_run c.args.input.now.text.now c.args.room) _ _ (catches_onward c.args.input.now.text.now c.args.room) _
    (c.left-most.result + 1) c.loop-turn._turn _ _ c.loop-turn.invariant.reads (omega arith) (ap not (sym c.if-not-sees_catch.ensures.value)) n)

pub catches-loop-turn-preserved : goal.catches-loop-turn-preserved
catches-loop-turn-preserved t c =
    record {
      forward = omega (arith, c.loop-turn.invariant.forward, c.in_ok-further.ensures.0);
      reads = run_goes_on (catches_run c.args.input.now.text.now c.args.room) _ _ (catches_onward c.args.input.now.text.now c.args.room) _
          (c.left-most.result + 1) c.loop-turn._turn _ _ c.loop-turn.invariant.reads (omega arith) (ap not (sym c.if-not-sees_catch.ensures.value))
          _ _ c.in_ok-further.ensures.1 _ c.in_ok-add.ensures;
    }

pub catches-returns : goal.catches-returns
catches-returns t c =
    refuses c.args.input.now.tokens.now c.args.from _ _ c.refuse.ensures
    (run_exhausted (catches_run c.args.input.now.text.now c.args.room) _ _ (catches_onward c.args.input.now.text.now c.args.room) _
    (c.left-most.result + 1) c.loop-turn._turn _ _ c.loop-turn.invariant.reads (omega arith) (catches_zero _ _ _))
