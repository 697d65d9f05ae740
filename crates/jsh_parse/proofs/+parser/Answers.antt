use Rattle.std.proofs.Common.{◌≡◌, suc, ◌+◌, ◌-◌, false, ◌&&◌, [], ◌∷◌, ◌++◌, Some, None, length, drop, sym, ap, ◌∙◌, subst, arith, add-one}
use Rattle.std.proofs.lemmas.List.{length_push}
use Rattle.jsh_tree.specs.declared.expression.Expr.TheVariants as tree
use Rattle.jsh_tree.specs.declared.expression.Initial.TheVariants as initial
use Rattle.jsh_parse.specs.Leaves.{is_target, names_type, type_of}
use Rattle.jsh_parse.specs.Marks.{is_colon, is_right_paren, is_left_paren, is_right_bracket, is_left_bracket, is_left_brace, is_dot}
use Rattle.jsh_parse.specs.Reader.{and_then, accept, is_cast, brackets, type_read, readers, parts, sizes, listed, initials}
use Rattle.jsh_parse.specs.Reading.{below, name_read, expr_at, conditional_at, level_at, unary_at, path_at, primary_at, creation_at, arguments_at, sizes_at, braces_at, bracketed_at, listed_at, initials_at, initial_at, named_at, through_super_at, part_at, parts_at, size_at, branches_at, cast_at, enclosed_at, filled_at, behind_value, applied, stepped, with_sizes}
use Rattle.jsh_parse.proofs.Onward.{prepend, expr_fails, expr_stays, expr_unfit, conditional_fails, conditional_stays, conditional_chooses, unary_none, unary_postfix, unary_cast, path_by, part_none, part_dot_fails, part_field, part_call, part_other, parts_by, parts_more, parts_zero, bracketed_by, primary_none, primary_name, primary_this, primary_super, primary_new, primary_other, primary_enclosed, named_alone, named_call, super_by, creation_object, creation_wrong, creation_sized, creation_filled, filled_open, filled_by, arguments_fail, listed_by, listed_fails, listed_stays, listed_more, listed_zero, sizes_by, sizes_more, sizes_zero, size_none, size_fails, braces_fail, initials_by, initials_fail, initials_wrong, initials_end, initials_more, initials_zero, initial_none, initial_array, initial_value}
use Rattle.jsh_parse.proofs.Rooms.{expr_flat, expr_assigns, branches_flat, branches_by, arguments_flat, arguments_open, arguments_empty, arguments_listed, size_flat, size_by, braces_flat, braces_values, unary_flat, unary_prefixed, cast_flat, cast_by, enclosed_flat, enclosed_by, part_flat, part_index}
use Rattle.jsh_parse.specs.Runs.{begun, resumed, risen, after, GoesOn}
use Rattle.jsh_parse.proofs.Passing.{hands_on, out_of_memory, too_deep, refuses, as_read, next}
use Rattle.jsh_parse.proofs.Turns.{turn_fails, turn_ends, turn_goes_on, turns_end}
use Rattle.jsh_parse.proofs.RunLemmas.{ends}
use Rattle.jsh_parse.proofs.RunTurns.{reads_operand, no_operand}
use Rattle.jsh_parse.proofs.Pieced.{both_true, first_false, second_false, left_and_pair, no_literal, primary_tree, braces_end, left_not_pair, left_turn, goes_forward}
use Rattle.jsh_parse.proofs.+parser.Goals as goal
use Rattle.jsh_parse.proofs.+parser.Goals.{expression::unary-else-is_left_paren-via-then-is_left_paren+else-is_cast, expression::unary-else-is_left_paren-via-else-is_left_paren, list::size-then-not-sees_left_bracket-via-then-not-sees_left_bracket, list::size-then-not-sees_left_bracket-via-else-not-sees_left_bracket+then-sees_brackets}

pub expression::expr-returns-in_err-target : goal.expression::expr-returns-in_err-target
expression::expr-returns-in_err-target t c = hands_on c.args.input.now.tokens.now c.args.at c.args.at (expr_at c.args.input.now.text.now c.args.room (drop c.args.at c.args.input.now.tokens.now)) (conditional_at c.args.input.now.text.now c.args.room (drop c.args.at c.args.input.now.tokens.now)) c.in_err-target.field-0.0 c.from_residual.result c.from_residual.ensures.1 (λ n. expr_fails c.args.input.now.text.now c.args.room (drop c.args.at c.args.input.now.tokens.now) n) c.in_err-target.ensures

pub expression::expr-returns-in_default : goal.expression::expr-returns-in_default
expression::expr-returns-in_default t c = (omega (arith, c.in_ok-target.ensures.0), expr_stays c.args.input.now.text.now c.args.room (drop c.args.at c.args.input.now.tokens.now) c.in_ok-target.target (drop c.in_ok-target.behind c.args.input.now.tokens.now) c.in_ok-target.ensures.1 (sym c.in_default.ensures.value))

pub expression::expr-returns-then-not-is_target : goal.expression::expr-returns-then-not-is_target
expression::expr-returns-then-not-is_target t c = refuses c.args.input.now.tokens.now c.args.at (expr_at c.args.input.now.text.now c.args.room (drop c.args.at c.args.input.now.tokens.now)) c.refuse.result c.refuse.ensures (expr_unfit c.args.input.now.text.now c.args.room (drop c.args.at c.args.input.now.tokens.now) c.in_ok-target.target (drop c.in_ok-target.behind c.args.input.now.tokens.now) c.in-Some.operator c.in_ok-target.ensures.1 (sym c.in-Some.ensures.value) (sym (c.if-not-is_target.ensures ∙ ap is_target c.get.ensures)))

pub expression::expr-returns-in_err-inner : goal.expression::expr-returns-in_err-inner
expression::expr-returns-in_err-inner t c = too_deep c.args.input.now.tokens.now c.args.at (expr_at c.args.input.now.text.now c.args.room (drop c.args.at c.args.input.now.tokens.now)) c.in_err-inner.field-0.0 c.from_residual-in_err-inner.result c.from_residual-in_err-inner.ensures.1 c.in_err-inner.ensures.1 (expr_flat c.args.input.now.text.now c.args.room (drop c.args.at c.args.input.now.tokens.now) c.in_ok-target.target (drop c.in_ok-target.behind c.args.input.now.tokens.now) c.in-Some.operator c.in_err-inner.ensures.0 c.in_ok-target.ensures.1 (sym c.in-Some.ensures.value) (sym (c.if-not-is_target.ensures ∙ ap is_target c.get.ensures)))

pub expression::expr-returns-in_err-value : goal.expression::expr-returns-in_err-value
expression::expr-returns-in_err-value t c = hands_on c.args.input.now.tokens.now (c.in_ok-target.behind + 1) c.args.at (expr_at c.args.input.now.text.now c.args.room (drop c.args.at c.args.input.now.tokens.now)) (expr_at c.args.input.now.text.now c.in_ok-inner.inner (drop (c.in_ok-target.behind + 1) c.args.input.now.tokens.now)) c.in_err-value.field-0.0 c.from_residual-in_err-value.result c.from_residual-in_err-value.ensures.1 (λ n. expr_assigns c.args.input.now.text.now c.args.room (drop c.args.at c.args.input.now.tokens.now) c.in_ok-inner.inner c.in_ok-target.target (drop c.in_ok-target.behind c.args.input.now.tokens.now) c.in-Some.operator c.in_ok-inner.ensures c.in_ok-target.ensures.1 (sym c.in-Some.ensures.value) (sym (c.if-not-is_target.ensures ∙ ap is_target c.get.ensures)) ∙ simp (next c.args.input.now.tokens.now c.in_ok-target.behind, n)) c.in_err-value.ensures

pub expression::expr-returns-in_err-assignment : goal.expression::expr-returns-in_err-assignment
expression::expr-returns-in_err-assignment t c = out_of_memory c.args.input.now.tokens.now c.args.at (expr_at c.args.input.now.text.now c.args.room (drop c.args.at c.args.input.now.tokens.now)) c.from_residual-in_err-assignment.result c.from_residual-in_err-assignment.ensures.1

pub expression::expr-returns : goal.expression::expr-returns
expression::expr-returns t c = (omega (arith, c.in_ok-target.ensures.0, c.in_ok-value.ensures.0), expr_assigns c.args.input.now.text.now c.args.room (drop c.args.at c.args.input.now.tokens.now) c.in_ok-inner.inner c.in_ok-target.target (drop c.in_ok-target.behind c.args.input.now.tokens.now) c.in-Some.operator c.in_ok-inner.ensures c.in_ok-target.ensures.1 (sym c.in-Some.ensures.value) (sym (c.if-not-is_target.ensures ∙ ap is_target c.get.ensures)) ∙ simp (next c.args.input.now.tokens.now c.in_ok-target.behind, c.in_ok-value.ensures.1, c.in_ok-assignment.ensures))

pub expression::conditional-returns-in_err-condition : goal.expression::conditional-returns-in_err-condition
expression::conditional-returns-in_err-condition t c = hands_on c.args.input.now.tokens.now c.args.at c.args.at (conditional_at c.args.input.now.text.now c.args.room (drop c.args.at c.args.input.now.tokens.now)) (level_at c.args.input.now.text.now c.args.room 10 (drop c.args.at c.args.input.now.tokens.now)) c.in_err-condition.field-0.0 c.from_residual.result c.from_residual.ensures.1 (λ n. conditional_fails c.args.input.now.text.now c.args.room (drop c.args.at c.args.input.now.tokens.now) n) c.in_err-condition.ensures

pub expression::conditional-returns-then-not-sees_question : goal.expression::conditional-returns-then-not-sees_question
expression::conditional-returns-then-not-sees_question t c = (omega (arith, c.in_ok-condition.ensures.0), conditional_stays c.args.input.now.text.now c.args.room (drop c.args.at c.args.input.now.tokens.now) c.in_ok-condition.condition (drop c.in_ok-condition.behind c.args.input.now.tokens.now) c.in_ok-condition.ensures.1 (sym c.if-not-sees_question.ensures.value))

pub expression::conditional-returns-in_err-branches : goal.expression::conditional-returns-in_err-branches
expression::conditional-returns-in_err-branches t c = hands_on c.args.input.now.tokens.now (c.in_ok-condition.behind + 1) c.args.at (conditional_at c.args.input.now.text.now c.args.room (drop c.args.at c.args.input.now.tokens.now)) (branches_at c.args.input.now.text.now c.args.room (drop (c.in_ok-condition.behind + 1) c.args.input.now.tokens.now)) c.in_err-branches.field-0.0 c.from_residual-in_err-branches.result c.from_residual-in_err-branches.ensures.1 (λ n. conditional_chooses c.args.input.now.text.now c.args.room (drop c.args.at c.args.input.now.tokens.now) c.in_ok-condition.condition (drop c.in_ok-condition.behind c.args.input.now.tokens.now) c.in_ok-condition.ensures.1 (sym c.if-not-sees_question.ensures.value) ∙ simp (next c.args.input.now.tokens.now c.in_ok-condition.behind, n)) c.in_err-branches.ensures

pub expression::conditional-returns-in_err-choice : goal.expression::conditional-returns-in_err-choice
expression::conditional-returns-in_err-choice t c = out_of_memory c.args.input.now.tokens.now c.args.at (conditional_at c.args.input.now.text.now c.args.room (drop c.args.at c.args.input.now.tokens.now)) c.from_residual-in_err-choice.result c.from_residual-in_err-choice.ensures.1

pub expression::conditional-returns : goal.expression::conditional-returns
expression::conditional-returns t c = (omega (arith, c.in_ok-condition.ensures.0, c.in_ok-branches.ensures.0), conditional_chooses c.args.input.now.text.now c.args.room (drop c.args.at c.args.input.now.tokens.now) c.in_ok-condition.condition (drop c.in_ok-condition.behind c.args.input.now.tokens.now) c.in_ok-condition.ensures.1 (sym c.if-not-sees_question.ensures.value) ∙ simp (next c.args.input.now.tokens.now c.in_ok-condition.behind, c.in_ok-branches.ensures.1, c.in_ok-choice.ensures))

pub expression::branches-returns-in_err-inner : goal.expression::branches-returns-in_err-inner
expression::branches-returns-in_err-inner t c = too_deep c.args.input.now.tokens.now c.args.at (branches_at c.args.input.now.text.now c.args.room (drop c.args.at c.args.input.now.tokens.now)) c.in_err-inner.field-0.0 c.from_residual.result c.from_residual.ensures.1 c.in_err-inner.ensures.1 (branches_flat c.args.input.now.text.now c.args.room (drop c.args.at c.args.input.now.tokens.now) c.in_err-inner.ensures.0)

pub expression::branches-returns-in_err-yes : goal.expression::branches-returns-in_err-yes
expression::branches-returns-in_err-yes t c = hands_on c.args.input.now.tokens.now c.args.at c.args.at (branches_at c.args.input.now.text.now c.args.room (drop c.args.at c.args.input.now.tokens.now)) (expr_at c.args.input.now.text.now c.in_ok-inner.inner (drop c.args.at c.args.input.now.tokens.now)) c.in_err-yes.field-0.0 c.from_residual-in_err-yes.result c.from_residual-in_err-yes.ensures.1 (λ n. branches_by c.args.input.now.text.now c.args.room (drop c.args.at c.args.input.now.tokens.now) c.in_ok-inner.inner c.in_ok-inner.ensures ∙ rw n) c.in_err-yes.ensures

pub expression::branches-returns-in_err-behind : goal.expression::branches-returns-in_err-behind
expression::branches-returns-in_err-behind t c = hands_on c.args.input.now.tokens.now c.in_ok-yes.rest c.args.at (branches_at c.args.input.now.text.now c.args.room (drop c.args.at c.args.input.now.tokens.now)) (accept is_colon (drop c.in_ok-yes.rest c.args.input.now.tokens.now)) c.in_err-behind.field-0.0 c.from_residual-in_err-behind.result c.from_residual-in_err-behind.ensures.1 (λ n. branches_by c.args.input.now.text.now c.args.room (drop c.args.at c.args.input.now.tokens.now) c.in_ok-inner.inner c.in_ok-inner.ensures ∙ simp (c.in_ok-yes.ensures.1, n)) c.in_err-behind.ensures

pub expression::branches-returns-in_err-no : goal.expression::branches-returns-in_err-no
expression::branches-returns-in_err-no t c = hands_on c.args.input.now.tokens.now c.in_ok-behind.behind c.args.at (branches_at c.args.input.now.text.now c.args.room (drop c.args.at c.args.input.now.tokens.now)) (conditional_at c.args.input.now.text.now c.in_ok-inner.inner (drop c.in_ok-behind.behind c.args.input.now.tokens.now)) c.in_err-no.field-0.0 c.from_residual-in_err-no.result c.from_residual-in_err-no.ensures.1 (λ n. branches_by c.args.input.now.text.now c.args.room (drop c.args.at c.args.input.now.tokens.now) c.in_ok-inner.inner c.in_ok-inner.ensures ∙ simp (c.in_ok-yes.ensures.1, c.in_ok-behind.ensures.1, n)) c.in_err-no.ensures

pub expression::branches-returns : goal.expression::branches-returns
expression::branches-returns t c = (omega (arith, c.in_ok-yes.ensures.0, c.in_ok-behind.ensures.0, c.in_ok-no.ensures.0), branches_by c.args.input.now.text.now c.args.room (drop c.args.at c.args.input.now.tokens.now) c.in_ok-inner.inner c.in_ok-inner.ensures ∙ simp (c.in_ok-yes.ensures.1, c.in_ok-behind.ensures.1, c.in_ok-no.ensures.1))

pub path::parts-returns-in_err-further : goal.path::parts-returns-in_err-further
path::parts-returns-in_err-further t c = hands_on c.args.input.now.tokens.now c.loop-turn.at c.args.from (parts_at c.args.input.now.text.now c.args.room (drop c.args.from c.args.input.now.tokens.now)) (part_at c.args.input.now.text.now c.args.room (drop c.loop-turn.at c.args.input.now.tokens.now)) c.in_err-further.field-0.0 c.from_residual.result c.from_residual.ensures.1 (λ n. (parts_by c.args.input.now.text.now c.args.room (drop c.args.from c.args.input.now.tokens.now) ∙ ap (λ n. prepend [] (parts n c.args.input.now.text.now (below c.args.input.now.text.now c.args.room) (drop c.args.from c.args.input.now.tokens.now))) (ap suc (sym c.left-most.ensures) ∙ sym (add-one c.left-most.result))) ∙ turn_fails (λ n ts. parts n c.args.input.now.text.now (below c.args.input.now.text.now c.args.room) ts) (λ ts. part_at c.args.input.now.text.now c.args.room ts) (λ n ts. parts_more c.args.input.now.text.now c.args.room n ts) (prepend [] (parts (c.left-most.result + 1) c.args.input.now.text.now (below c.args.input.now.text.now c.args.room) (drop c.args.from c.args.input.now.tokens.now))) ((c.left-most.result + 1) - c.loop-turn._turn) ((c.left-most.result + 1) - (c.loop-turn._turn + 1)) c.loop-turn.parts.items (drop c.loop-turn.at c.args.input.now.tokens.now) (omega arith) c.loop-turn.invariant.reads n) c.in_err-further.ensures

pub path::parts-returns-in_default : goal.path::parts-returns-in_default
path::parts-returns-in_default t c = (omega (arith, c.loop-turn.invariant.forward, c.in_ok-further.ensures.0), (parts_by c.args.input.now.text.now c.args.room (drop c.args.from c.args.input.now.tokens.now) ∙ ap (λ n. prepend [] (parts n c.args.input.now.text.now (below c.args.input.now.text.now c.args.room) (drop c.args.from c.args.input.now.tokens.now))) (ap suc (sym c.left-most.ensures) ∙ sym (add-one c.left-most.result))) ∙ turn_ends (λ n ts. parts n c.args.input.now.text.now (below c.args.input.now.text.now c.args.room) ts) (λ ts. part_at c.args.input.now.text.now c.args.room ts) (λ n ts. parts_more c.args.input.now.text.now c.args.room n ts) (prepend [] (parts (c.left-most.result + 1) c.args.input.now.text.now (below c.args.input.now.text.now c.args.room) (drop c.args.from c.args.input.now.tokens.now))) ((c.left-most.result + 1) - c.loop-turn._turn) ((c.left-most.result + 1) - (c.loop-turn._turn + 1)) c.loop-turn.parts.items (drop c.loop-turn.at c.args.input.now.tokens.now) (drop c.in_ok-further.behind c.args.input.now.tokens.now) (omega arith) c.loop-turn.invariant.reads (c.in_ok-further.ensures.1 ∙ ap (λ o. Some (o, drop c.in_ok-further.behind c.args.input.now.tokens.now)) c.in_default.is) ∙ ap (λ items. Some (items, drop c.in_ok-further.behind c.args.input.now.tokens.now)) (sym c.from_vec.ensures))

pub path::parts-returns-in_err-add : goal.path::parts-returns-in_err-add
path::parts-returns-in_err-add t c = out_of_memory c.args.input.now.tokens.now c.args.from (parts_at c.args.input.now.text.now c.args.room (drop c.args.from c.args.input.now.tokens.now)) c.from_residual-in_err-add.result c.from_residual-in_err-add.ensures.1

pub path::parts-loop-turn-preserved : goal.path::parts-loop-turn-preserved
path::parts-loop-turn-preserved t c = record { forward = omega (arith, c.loop-turn.invariant.forward, c.in_ok-further.ensures.0); reads = turn_goes_on (λ n ts. parts n c.args.input.now.text.now (below c.args.input.now.text.now c.args.room) ts) (λ ts. part_at c.args.input.now.text.now c.args.room ts) (λ n ts. parts_more c.args.input.now.text.now c.args.room n ts) (prepend [] (parts (c.left-most.result + 1) c.args.input.now.text.now (below c.args.input.now.text.now c.args.room) (drop c.args.from c.args.input.now.tokens.now))) ((c.left-most.result + 1) - c.loop-turn._turn) ((c.left-most.result + 1) - (c.loop-turn._turn + 1)) c.loop-turn.parts.items c.in-Some.further (drop c.loop-turn.at c.args.input.now.tokens.now) (drop c.in_ok-further.behind c.args.input.now.tokens.now) (omega arith) c.loop-turn.invariant.reads (c.in_ok-further.ensures.1 ∙ ap (λ o. Some (o, drop c.in_ok-further.behind c.args.input.now.tokens.now)) c.in-Some.is) ∙ ap (λ items. prepend items (parts ((c.left-most.result + 1) - (c.loop-turn._turn + 1)) c.args.input.now.text.now (below c.args.input.now.text.now c.args.room) (drop c.in_ok-further.behind c.args.input.now.tokens.now))) (sym c.in_ok-add.ensures) }

pub path::parts-returns : goal.path::parts-returns
path::parts-returns t c = refuses c.args.input.now.tokens.now c.args.from (parts_at c.args.input.now.text.now c.args.room (drop c.args.from c.args.input.now.tokens.now)) c.refuse.result c.refuse.ensures ((parts_by c.args.input.now.text.now c.args.room (drop c.args.from c.args.input.now.tokens.now) ∙ ap (λ n. prepend [] (parts n c.args.input.now.text.now (below c.args.input.now.text.now c.args.room) (drop c.args.from c.args.input.now.tokens.now))) (ap suc (sym c.left-most.ensures) ∙ sym (add-one c.left-most.result))) ∙ turns_end (λ n ts. parts n c.args.input.now.text.now (below c.args.input.now.text.now c.args.room) ts) (λ ts. parts_zero c.args.input.now.text.now c.args.room ts) (prepend [] (parts (c.left-most.result + 1) c.args.input.now.text.now (below c.args.input.now.text.now c.args.room) (drop c.args.from c.args.input.now.tokens.now))) ((c.left-most.result + 1) - c.loop-turn._turn) c.loop-turn.parts.items (drop c.loop-turn.at c.args.input.now.tokens.now) (omega arith) c.loop-turn.invariant.reads)

pub list::sizes-returns-in_err-further-clause-value : goal.list::sizes-returns-in_err-further-clause-value
list::sizes-returns-in_err-further-clause-value t c = hands_on c.args.input.now.tokens.now c.loop-turn.at c.args.from (sizes_at c.args.input.now.text.now c.args.room (drop c.args.from c.args.input.now.tokens.now)) (size_at c.args.input.now.text.now c.args.room (drop c.loop-turn.at c.args.input.now.tokens.now)) c.in_err-further.field-0.0 c.from_residual.result c.from_residual.ensures.1 (λ n. (sizes_by c.args.input.now.text.now c.args.room (drop c.args.from c.args.input.now.tokens.now) ∙ ap (λ n. prepend [] (sizes n (below c.args.input.now.text.now c.args.room) (drop c.args.from c.args.input.now.tokens.now))) (ap suc (sym c.left-most.ensures) ∙ sym (add-one c.left-most.result))) ∙ turn_fails (λ n ts. sizes n (below c.args.input.now.text.now c.args.room) ts) (λ ts. size_at c.args.input.now.text.now c.args.room ts) (λ n ts. sizes_more c.args.input.now.text.now c.args.room ts n) (prepend [] (sizes (c.left-most.result + 1) (below c.args.input.now.text.now c.args.room) (drop c.args.from c.args.input.now.tokens.now))) ((c.left-most.result + 1) - c.loop-turn._turn) ((c.left-most.result + 1) - (c.loop-turn._turn + 1)) c.loop-turn.sizes.items (drop c.loop-turn.at c.args.input.now.tokens.now) (omega arith) c.loop-turn.invariant.reads n) c.in_err-further.ensures.value

pub list::sizes-returns-in_default-clause-value : goal.list::sizes-returns-in_default-clause-value
list::sizes-returns-in_default-clause-value t c = (omega (arith, c.loop-turn.invariant.forward, c.in_ok-further.ensures.value.0), (sizes_by c.args.input.now.text.now c.args.room (drop c.args.from c.args.input.now.tokens.now) ∙ ap (λ n. prepend [] (sizes n (below c.args.input.now.text.now c.args.room) (drop c.args.from c.args.input.now.tokens.now))) (ap suc (sym c.left-most.ensures) ∙ sym (add-one c.left-most.result))) ∙ turn_ends (λ n ts. sizes n (below c.args.input.now.text.now c.args.room) ts) (λ ts. size_at c.args.input.now.text.now c.args.room ts) (λ n ts. sizes_more c.args.input.now.text.now c.args.room ts n) (prepend [] (sizes (c.left-most.result + 1) (below c.args.input.now.text.now c.args.room) (drop c.args.from c.args.input.now.tokens.now))) ((c.left-most.result + 1) - c.loop-turn._turn) ((c.left-most.result + 1) - (c.loop-turn._turn + 1)) c.loop-turn.sizes.items (drop c.loop-turn.at c.args.input.now.tokens.now) (drop c.in_ok-further.behind c.args.input.now.tokens.now) (omega arith) c.loop-turn.invariant.reads (c.in_ok-further.ensures.value.1 ∙ ap (λ o. Some (o, drop c.in_ok-further.behind c.args.input.now.tokens.now)) c.in_default.is) ∙ ap (λ items. Some (items, drop c.in_ok-further.behind c.args.input.now.tokens.now)) (sym c.from_vec.ensures))

pub list::sizes-returns-in_err-add-clause-value : goal.list::sizes-returns-in_err-add-clause-value
list::sizes-returns-in_err-add-clause-value t c = out_of_memory c.args.input.now.tokens.now c.args.from (sizes_at c.args.input.now.text.now c.args.room (drop c.args.from c.args.input.now.tokens.now)) c.from_residual-in_err-add.result c.from_residual-in_err-add.ensures.1

pub list::sizes-loop-turn-preserved : goal.list::sizes-loop-turn-preserved
list::sizes-loop-turn-preserved t c = let pushed = ap length c.in_ok-add.ensures ∙ length_push c.loop-turn.sizes.items c.in-Some.further in let ahead = rw c.in-Some.is at c.in_ok-further.ensures.forward in let inside = rw c.in-Some.is at c.in_ok-further.ensures.inside in record { forward = omega (arith, pushed, ahead, c.loop-turn.invariant.forward); few = omega (arith, pushed, inside, c.loop-turn.invariant.forward); reads = turn_goes_on (λ n ts. sizes n (below c.args.input.now.text.now c.args.room) ts) (λ ts. size_at c.args.input.now.text.now c.args.room ts) (λ n ts. sizes_more c.args.input.now.text.now c.args.room ts n) (prepend [] (sizes (c.left-most.result + 1) (below c.args.input.now.text.now c.args.room) (drop c.args.from c.args.input.now.tokens.now))) ((c.left-most.result + 1) - c.loop-turn._turn) ((c.left-most.result + 1) - (c.loop-turn._turn + 1)) c.loop-turn.sizes.items c.in-Some.further (drop c.loop-turn.at c.args.input.now.tokens.now) (drop c.in_ok-further.behind c.args.input.now.tokens.now) (omega arith) c.loop-turn.invariant.reads (c.in_ok-further.ensures.value.1 ∙ ap (λ o. Some (o, drop c.in_ok-further.behind c.args.input.now.tokens.now)) c.in-Some.is) ∙ ap (λ items. prepend items (sizes ((c.left-most.result + 1) - (c.loop-turn._turn + 1)) (below c.args.input.now.text.now c.args.room) (drop c.in_ok-further.behind c.args.input.now.tokens.now))) (sym c.in_ok-add.ensures) }

pub list::sizes-returns-clause-value : goal.list::sizes-returns-clause-value
list::sizes-returns-clause-value t c = refuses c.args.input.now.tokens.now c.args.from (sizes_at c.args.input.now.text.now c.args.room (drop c.args.from c.args.input.now.tokens.now)) c.refuse.result c.refuse.ensures ((sizes_by c.args.input.now.text.now c.args.room (drop c.args.from c.args.input.now.tokens.now) ∙ ap (λ n. prepend [] (sizes n (below c.args.input.now.text.now c.args.room) (drop c.args.from c.args.input.now.tokens.now))) (ap suc (sym c.left-most.ensures) ∙ sym (add-one c.left-most.result))) ∙ turns_end (λ n ts. sizes n (below c.args.input.now.text.now c.args.room) ts) (λ ts. sizes_zero c.args.input.now.text.now c.args.room ts) (prepend [] (sizes (c.left-most.result + 1) (below c.args.input.now.text.now c.args.room) (drop c.args.from c.args.input.now.tokens.now))) ((c.left-most.result + 1) - c.loop-turn._turn) c.loop-turn.sizes.items (drop c.loop-turn.at c.args.input.now.tokens.now) (omega arith) c.loop-turn.invariant.reads)

pub list::listed-returns-in_err-item : goal.list::listed-returns-in_err-item
list::listed-returns-in_err-item t c = hands_on c.args.input.now.tokens.now c.loop-turn.at c.args.from (listed_at c.args.input.now.text.now c.args.room (drop c.args.from c.args.input.now.tokens.now)) (expr_at c.args.input.now.text.now c.args.room (drop c.loop-turn.at c.args.input.now.tokens.now)) c.in_err-item.field-0.0 c.from_residual.result c.from_residual.ensures.1 (λ n. (listed_by c.args.input.now.text.now c.args.room (drop c.args.from c.args.input.now.tokens.now) ∙ ap (λ n. prepend [] (listed n (readers c.args.input.now.text.now c.args.room) (drop c.args.from c.args.input.now.tokens.now))) (ap suc (sym c.left-most.ensures) ∙ sym (add-one c.left-most.result)) ∙ c.loop-turn.invariant.reads ∙ ap (λ n. prepend c.loop-turn.items.items (listed n (readers c.args.input.now.text.now c.args.room) (drop c.loop-turn.at c.args.input.now.tokens.now))) (left_turn (c.left-most.result + 1) c.loop-turn._turn (omega arith))) ∙ listed_fails c.args.input.now.text.now c.args.room c.loop-turn.items.items ((c.left-most.result + 1) - (c.loop-turn._turn + 1)) (drop c.loop-turn.at c.args.input.now.tokens.now) n) c.in_err-item.ensures

pub list::listed-returns-in_err-add : goal.list::listed-returns-in_err-add
list::listed-returns-in_err-add t c = out_of_memory c.args.input.now.tokens.now c.args.from (listed_at c.args.input.now.text.now c.args.room (drop c.args.from c.args.input.now.tokens.now)) c.from_residual-in_err-add.result c.from_residual-in_err-add.ensures.1

pub list::listed-returns-then-not-sees_comma : goal.list::listed-returns-then-not-sees_comma
list::listed-returns-then-not-sees_comma t c = (omega (arith, c.loop-turn.invariant.forward, c.in_ok-item.ensures.0), (listed_by c.args.input.now.text.now c.args.room (drop c.args.from c.args.input.now.tokens.now) ∙ ap (λ n. prepend [] (listed n (readers c.args.input.now.text.now c.args.room) (drop c.args.from c.args.input.now.tokens.now))) (ap suc (sym c.left-most.ensures) ∙ sym (add-one c.left-most.result)) ∙ c.loop-turn.invariant.reads ∙ ap (λ n. prepend c.loop-turn.items.items (listed n (readers c.args.input.now.text.now c.args.room) (drop c.loop-turn.at c.args.input.now.tokens.now))) (left_turn (c.left-most.result + 1) c.loop-turn._turn (omega arith))) ∙ listed_stays c.args.input.now.text.now c.args.room c.loop-turn.items.items ((c.left-most.result + 1) - (c.loop-turn._turn + 1)) (drop c.loop-turn.at c.args.input.now.tokens.now) c.in_ok-item.item (drop c.in_ok-item.behind c.args.input.now.tokens.now) c.in_ok-item.ensures.1 (sym c.if-not-sees_comma.ensures.value) ∙ ap (λ items. Some (items, drop c.in_ok-item.behind c.args.input.now.tokens.now)) (sym (c.from_vec.ensures ∙ c.in_ok-add.ensures)))

pub list::listed-loop-turn-preserved : goal.list::listed-loop-turn-preserved
list::listed-loop-turn-preserved t c = record { forward = omega (arith, c.loop-turn.invariant.forward, c.in_ok-item.ensures.0); reads = c.loop-turn.invariant.reads ∙ ap (λ n. prepend c.loop-turn.items.items (listed n (readers c.args.input.now.text.now c.args.room) (drop c.loop-turn.at c.args.input.now.tokens.now))) (left_turn (c.left-most.result + 1) c.loop-turn._turn (omega arith)) ∙ listed_more c.args.input.now.text.now c.args.room c.loop-turn.items.items ((c.left-most.result + 1) - (c.loop-turn._turn + 1)) (drop c.loop-turn.at c.args.input.now.tokens.now) c.in_ok-item.item (drop c.in_ok-item.behind c.args.input.now.tokens.now) c.in_ok-item.ensures.1 (sym c.if-not-sees_comma.ensures.value) ∙ ap (λ ts. prepend (c.loop-turn.items.items ++ c.in_ok-item.item ∷ []) (listed ((c.left-most.result + 1) - (c.loop-turn._turn + 1)) (readers c.args.input.now.text.now c.args.room) ts)) (next c.args.input.now.tokens.now c.in_ok-item.behind) ∙ ap (λ items. prepend items (listed ((c.left-most.result + 1) - (c.loop-turn._turn + 1)) (readers c.args.input.now.text.now c.args.room) (drop (c.in_ok-item.behind + 1) c.args.input.now.tokens.now))) (sym c.in_ok-add.ensures) }

pub list::listed-returns : goal.list::listed-returns
list::listed-returns t c = refuses c.args.input.now.tokens.now c.args.from (listed_at c.args.input.now.text.now c.args.room (drop c.args.from c.args.input.now.tokens.now)) c.refuse.result c.refuse.ensures ((listed_by c.args.input.now.text.now c.args.room (drop c.args.from c.args.input.now.tokens.now) ∙ ap (λ n. prepend [] (listed n (readers c.args.input.now.text.now c.args.room) (drop c.args.from c.args.input.now.tokens.now))) (ap suc (sym c.left-most.ensures) ∙ sym (add-one c.left-most.result))) ∙ turns_end (λ n ts. listed n (readers c.args.input.now.text.now c.args.room) ts) (λ ts. listed_zero (readers c.args.input.now.text.now c.args.room) ts) (prepend [] (listed (c.left-most.result + 1) (readers c.args.input.now.text.now c.args.room) (drop c.args.from c.args.input.now.tokens.now))) ((c.left-most.result + 1) - c.loop-turn._turn) c.loop-turn.items.items (drop c.loop-turn.at c.args.input.now.tokens.now) (omega arith) c.loop-turn.invariant.reads)

pub list::initials-returns-in_err-value : goal.list::initials-returns-in_err-value
list::initials-returns-in_err-value t c = hands_on c.args.input.now.tokens.now c.loop-turn.at c.args.from (initials_at c.args.input.now.text.now c.args.room (drop c.args.from c.args.input.now.tokens.now)) (initial_at c.args.input.now.text.now c.args.room (drop c.loop-turn.at c.args.input.now.tokens.now)) c.in_err-value.field-0.0 c.from_residual.result c.from_residual.ensures.1 (λ n. (initials_by c.args.input.now.text.now c.args.room (drop c.args.from c.args.input.now.tokens.now) ∙ ap (λ n. prepend [] (initials n (readers c.args.input.now.text.now c.args.room) (drop c.args.from c.args.input.now.tokens.now))) (ap suc (sym c.left-most.ensures) ∙ sym (add-one c.left-most.result)) ∙ c.loop-turn.invariant.reads ∙ ap (λ n. prepend c.loop-turn.values.items (initials n (readers c.args.input.now.text.now c.args.room) (drop c.loop-turn.at c.args.input.now.tokens.now))) (left_turn (c.left-most.result + 1) c.loop-turn._turn (omega arith))) ∙ initials_fail c.args.input.now.text.now c.args.room c.loop-turn.values.items ((c.left-most.result + 1) - (c.loop-turn._turn + 1)) (drop c.loop-turn.at c.args.input.now.tokens.now) n) c.in_err-value.ensures

pub list::initials-returns-in_err-add : goal.list::initials-returns-in_err-add
list::initials-returns-in_err-add t c = out_of_memory c.args.input.now.tokens.now c.args.from (initials_at c.args.input.now.text.now c.args.room (drop c.args.from c.args.input.now.tokens.now)) c.from_residual-in_err-add.result c.from_residual-in_err-add.ensures.1

pub list::initials-returns-in_err-goes_on : goal.list::initials-returns-in_err-goes_on
list::initials-returns-in_err-goes_on t c = hands_on c.args.input.now.tokens.now c.in_ok-value.behind c.args.from (initials_at c.args.input.now.text.now c.args.room (drop c.args.from c.args.input.now.tokens.now)) (behind_value (drop c.in_ok-value.behind c.args.input.now.tokens.now)) c.in_err-goes_on.field-0.0 c.from_residual-in_err-goes_on.result c.from_residual-in_err-goes_on.ensures.1 (λ n. (initials_by c.args.input.now.text.now c.args.room (drop c.args.from c.args.input.now.tokens.now) ∙ ap (λ n. prepend [] (initials n (readers c.args.input.now.text.now c.args.room) (drop c.args.from c.args.input.now.tokens.now))) (ap suc (sym c.left-most.ensures) ∙ sym (add-one c.left-most.result)) ∙ c.loop-turn.invariant.reads ∙ ap (λ n. prepend c.loop-turn.values.items (initials n (readers c.args.input.now.text.now c.args.room) (drop c.loop-turn.at c.args.input.now.tokens.now))) (left_turn (c.left-most.result + 1) c.loop-turn._turn (omega arith))) ∙ initials_wrong c.args.input.now.text.now c.args.room c.loop-turn.values.items ((c.left-most.result + 1) - (c.loop-turn._turn + 1)) (drop c.loop-turn.at c.args.input.now.tokens.now) c.in_ok-value.value (drop c.in_ok-value.behind c.args.input.now.tokens.now) c.in_ok-value.ensures.1 n) c.in_err-goes_on.ensures

pub list::initials-returns-then-not-goes_on : goal.list::initials-returns-then-not-goes_on
list::initials-returns-then-not-goes_on t c = (omega (arith, c.loop-turn.invariant.forward, c.in_ok-value.ensures.0, c.in_ok-goes_on.ensures.0), (initials_by c.args.input.now.text.now c.args.room (drop c.args.from c.args.input.now.tokens.now) ∙ ap (λ n. prepend [] (initials n (readers c.args.input.now.text.now c.args.room) (drop c.args.from c.args.input.now.tokens.now))) (ap suc (sym c.left-most.ensures) ∙ sym (add-one c.left-most.result)) ∙ c.loop-turn.invariant.reads ∙ ap (λ n. prepend c.loop-turn.values.items (initials n (readers c.args.input.now.text.now c.args.room) (drop c.loop-turn.at c.args.input.now.tokens.now))) (left_turn (c.left-most.result + 1) c.loop-turn._turn (omega arith))) ∙ initials_end c.args.input.now.text.now c.args.room c.loop-turn.values.items ((c.left-most.result + 1) - (c.loop-turn._turn + 1)) (drop c.loop-turn.at c.args.input.now.tokens.now) c.in_ok-value.value (drop c.in_ok-value.behind c.args.input.now.tokens.now) (drop c.in_ok-goes_on.next c.args.input.now.tokens.now) c.in_ok-value.ensures.1 (c.in_ok-goes_on.ensures.1 ∙ ap (λ o. Some (o, drop c.in_ok-goes_on.next c.args.input.now.tokens.now)) c.if-not-goes_on.true) ∙ ap (λ items. Some (items, drop c.in_ok-goes_on.next c.args.input.now.tokens.now)) (sym (c.from_vec.ensures ∙ c.in_ok-add.ensures)))

pub list::initials-loop-turn-preserved : goal.list::initials-loop-turn-preserved
list::initials-loop-turn-preserved t c = record { forward = omega (arith, c.loop-turn.invariant.forward, c.in_ok-value.ensures.0, c.in_ok-goes_on.ensures.0); reads = c.loop-turn.invariant.reads ∙ ap (λ n. prepend c.loop-turn.values.items (initials n (readers c.args.input.now.text.now c.args.room) (drop c.loop-turn.at c.args.input.now.tokens.now))) (left_turn (c.left-most.result + 1) c.loop-turn._turn (omega arith)) ∙ initials_more c.args.input.now.text.now c.args.room c.loop-turn.values.items ((c.left-most.result + 1) - (c.loop-turn._turn + 1)) (drop c.loop-turn.at c.args.input.now.tokens.now) c.in_ok-value.value (drop c.in_ok-value.behind c.args.input.now.tokens.now) (drop c.in_ok-goes_on.next c.args.input.now.tokens.now) c.in_ok-value.ensures.1 (c.in_ok-goes_on.ensures.1 ∙ ap (λ o. Some (o, drop c.in_ok-goes_on.next c.args.input.now.tokens.now)) c.if-not-goes_on.false) ∙ ap (λ items. prepend items (initials ((c.left-most.result + 1) - (c.loop-turn._turn + 1)) (readers c.args.input.now.text.now c.args.room) (drop c.in_ok-goes_on.next c.args.input.now.tokens.now))) (sym c.in_ok-add.ensures) }

pub list::initials-returns : goal.list::initials-returns
list::initials-returns t c = refuses c.args.input.now.tokens.now c.args.from (initials_at c.args.input.now.text.now c.args.room (drop c.args.from c.args.input.now.tokens.now)) c.refuse.result c.refuse.ensures ((initials_by c.args.input.now.text.now c.args.room (drop c.args.from c.args.input.now.tokens.now) ∙ ap (λ n. prepend [] (initials n (readers c.args.input.now.text.now c.args.room) (drop c.args.from c.args.input.now.tokens.now))) (ap suc (sym c.left-most.ensures) ∙ sym (add-one c.left-most.result))) ∙ turns_end (λ n ts. initials n (readers c.args.input.now.text.now c.args.room) ts) (λ ts. initials_zero (readers c.args.input.now.text.now c.args.room) ts) (prepend [] (initials (c.left-most.result + 1) (readers c.args.input.now.text.now c.args.room) (drop c.args.from c.args.input.now.tokens.now))) ((c.left-most.result + 1) - c.loop-turn._turn) c.loop-turn.values.items (drop c.loop-turn.at c.args.input.now.tokens.now) (omega arith) c.loop-turn.invariant.reads)

pub expression::level-returns-in_err-operand : goal.expression::level-returns-in_err-operand
expression::level-returns-in_err-operand t c = hands_on c.args.input.now.tokens.now c.operands.place c.args.at (level_at c.args.input.now.text.now c.args.room c.args.height (drop c.args.at c.args.input.now.tokens.now)) (unary_at c.args.input.now.text.now c.args.room (drop c.operands.place c.args.input.now.tokens.now)) c.in_err-operand.field-0.0 c.from_residual.result c.from_residual.ensures.1 (λ n. no_operand c.args.input.now.text.now c.args.room c.args.input.now.tokens.now (level_at c.args.input.now.text.now c.args.room c.args.height (drop c.args.at c.args.input.now.tokens.now)) c.operands.waiting.items c.operands.wanted c.operands.place c.operands.invariant.reads n) c.in_err-operand.ensures

pub expression::level-returns-in_err-next : goal.expression::level-returns-in_err-next
expression::level-returns-in_err-next t c = ends c.args.input.now.tokens.now c.args.at (after c.args.input.now.text.now c.args.room c.args.input.now.tokens.now c.settle.new.waiting.items) (level_at c.args.input.now.text.now c.args.room c.args.height (drop c.args.at c.args.input.now.tokens.now)) (resumed c.args.input.now.text.now c.args.room c.operands.waiting.items (risen c.args.input.now.text.now c.args.room (begun c.in_ok-operand.operand c.operands.wanted) (drop c.in_ok-operand.behind c.args.input.now.tokens.now))) c.in_err-next.field-0.0 c.from_residual-in_err-next.result c.from_residual-in_err-next.ensures.1 (reads_operand c.args.input.now.text.now c.args.room c.args.input.now.tokens.now (level_at c.args.input.now.text.now c.args.room c.args.height (drop c.args.at c.args.input.now.tokens.now)) c.operands.waiting.items c.in_ok-operand.operand c.operands.wanted c.operands.place c.in_ok-operand.behind c.operands.invariant.reads c.in_ok-operand.ensures.1) (c.in_err-next.ensures.value c.args.room)

pub expression::level-returns-in-Whole : goal.expression::level-returns-in-Whole
expression::level-returns-in-Whole t c = let on = subst (GoesOn (length c.args.input.now.tokens.now) c.in_ok-operand.behind) c.in-Whole.is c.in_ok-next.ensures.forward in (omega (arith, c.operands.invariant.forward, c.in_ok-operand.ensures.0, on), reads_operand c.args.input.now.text.now c.args.room c.args.input.now.tokens.now (level_at c.args.input.now.text.now c.args.room c.args.height (drop c.args.at c.args.input.now.tokens.now)) c.operands.waiting.items c.in_ok-operand.operand c.operands.wanted c.operands.place c.in_ok-operand.behind c.operands.invariant.reads c.in_ok-operand.ensures.1 ∙ c.in_ok-next.ensures.value c.args.room ∙ ap (after c.args.input.now.text.now c.args.room c.args.input.now.tokens.now c.settle.new.waiting.items) c.in-Whole.is)

pub expression::level-operands-init : goal.expression::level-operands-init
expression::level-operands-init t c = record { forward = omega arith; reads = ap (λ ws. resumed c.args.input.now.text.now c.args.room ws (level_at c.args.input.now.text.now c.args.room c.args.height (drop c.args.at c.args.input.now.tokens.now))) (sym c.new-waiting.ensures.items) }

pub expression::level-operands-preserved : goal.expression::level-operands-preserved
expression::level-operands-preserved t c = let on = subst (GoesOn (length c.args.input.now.tokens.now) c.in_ok-operand.behind) c.in-Operand.is c.in_ok-next.ensures.forward in record { forward = omega (arith, c.operands.invariant.forward, c.in_ok-operand.ensures.0, on.0); reads = reads_operand c.args.input.now.text.now c.args.room c.args.input.now.tokens.now (level_at c.args.input.now.text.now c.args.room c.args.height (drop c.args.at c.args.input.now.tokens.now)) c.operands.waiting.items c.in_ok-operand.operand c.operands.wanted c.operands.place c.in_ok-operand.behind c.operands.invariant.reads c.in_ok-operand.ensures.1 ∙ c.in_ok-next.ensures.value c.args.room ∙ ap (after c.args.input.now.text.now c.args.room c.args.input.now.tokens.now c.settle.new.waiting.items) c.in-Operand.is }

pub expression::level-operands-smaller : goal.expression::level-operands-smaller
expression::level-operands-smaller t c = let on = subst (GoesOn (length c.args.input.now.tokens.now) c.in_ok-operand.behind) c.in-Operand.is c.in_ok-next.ensures.forward in omega (arith, c.in_ok-operand.ensures.0, on.0, on.1)

pub expression::unary-returns-in_default : goal.expression::unary-returns-in_default
expression::unary-returns-in_default t c = refuses c.args.input.now.tokens.now c.args.at (unary_at c.args.input.now.text.now c.args.room (drop c.args.at c.args.input.now.tokens.now)) c.refuse.result c.refuse.ensures (ap (unary_at c.args.input.now.text.now c.args.room) c.in_default.ensures.found ∙ unary_none c.args.input.now.text.now c.args.room)

pub expression::unary-returns-in_err-inner : goal.expression::unary-returns-in_err-inner
expression::unary-returns-in_err-inner t c = too_deep c.args.input.now.tokens.now c.args.at (unary_at c.args.input.now.text.now c.args.room (drop c.args.at c.args.input.now.tokens.now)) c.in_err-inner.field-0.0 c.from_residual.result c.from_residual.ensures.1 c.in_err-inner.ensures.1 (ap (unary_at c.args.input.now.text.now c.args.room) c.in-Some.ensures.found ∙ unary_flat c.args.input.now.text.now c.args.room c.in-Some.token (drop (c.args.at + 1) c.args.input.now.tokens.now) c.in-Some-unary_operator.operator c.in_err-inner.ensures.0 (sym c.in-Some-unary_operator.ensures))

pub expression::unary-returns-in_err-operand : goal.expression::unary-returns-in_err-operand
expression::unary-returns-in_err-operand t c = hands_on c.args.input.now.tokens.now (c.args.at + 1) c.args.at (unary_at c.args.input.now.text.now c.args.room (drop c.args.at c.args.input.now.tokens.now)) (unary_at c.args.input.now.text.now c.in_ok-inner.inner (drop (c.args.at + 1) c.args.input.now.tokens.now)) c.in_err-operand.field-0.0 c.from_residual-in_err-operand.result c.from_residual-in_err-operand.ensures.1 (λ n. ap (unary_at c.args.input.now.text.now c.args.room) c.in-Some.ensures.found ∙ unary_prefixed c.args.input.now.text.now c.args.room c.in-Some.token (drop (c.args.at + 1) c.args.input.now.tokens.now) c.in_ok-inner.inner c.in-Some-unary_operator.operator c.in_ok-inner.ensures (sym c.in-Some-unary_operator.ensures) ∙ rw n) c.in_err-operand.ensures

pub expression::unary-returns-in-Some-unary_operator : goal.expression::unary-returns-in-Some-unary_operator
expression::unary-returns-in-Some-unary_operator t c = as_read c.args.input.now.tokens.now c.args.at c.in_ok-operand.end (unary_at c.args.input.now.text.now c.args.room (drop c.args.at c.args.input.now.tokens.now)) (applied c.in-Some.token c.in-Some-unary_operator.operator c.in_ok-operand.operand (drop c.in_ok-operand.end c.args.input.now.tokens.now)) c.applied.result (omega (arith, c.in_ok-operand.ensures.0)) (ap (unary_at c.args.input.now.text.now c.args.room) c.in-Some.ensures.found ∙ unary_prefixed c.args.input.now.text.now c.args.room c.in-Some.token (drop (c.args.at + 1) c.args.input.now.tokens.now) c.in_ok-inner.inner c.in-Some-unary_operator.operator c.in_ok-inner.ensures (sym c.in-Some-unary_operator.ensures) ∙ rw c.in_ok-operand.ensures.1) c.applied.ensures

pub expression::unary-returns-then-is_cast : goal.expression::unary-returns-then-is_cast
expression::unary-returns-then-is_cast t c = as_read c.args.input.now.tokens.now c.args.at (c.args.at + 1) (unary_at c.args.input.now.text.now c.args.room (drop c.args.at c.args.input.now.tokens.now)) (cast_at c.args.input.now.text.now c.args.room c.in-Some.token (drop (c.args.at + 1) c.args.input.now.tokens.now)) c.cast.result (omega arith) (ap (unary_at c.args.input.now.text.now c.args.room) c.in-Some.ensures.found ∙ unary_cast c.args.input.now.text.now c.args.room c.in-Some.token (drop (c.args.at + 1) c.args.input.now.tokens.now) (sym c.in_default-unary_operator.ensures) (both_true (sym c.if-is_left_paren.ensures) (sym c.if-is_cast.ensures))) c.cast.ensures

pub expression::unary-returns-in_err-operand-2 : goal.expression::unary-returns-in_err-operand-2
expression::unary-returns-in_err-operand-2 t c = let no_cast : is_left_paren c.in-Some.token.kind && is_cast (drop (c.args.at + 1) c.args.input.now.tokens.now) ≡ false = elim c.else-is_left_paren.branch [ expression::unary-else-is_left_paren-via-then-is_left_paren+else-is_cast w ↦ second_false (sym w.if-is_left_paren.ensures) (sym w.if-is_cast.ensures) | expression::unary-else-is_left_paren-via-else-is_left_paren w ↦ first_false _ (sym w.if-is_left_paren.ensures) ] in hands_on c.args.input.now.tokens.now c.args.at c.args.at (unary_at c.args.input.now.text.now c.args.room (drop c.args.at c.args.input.now.tokens.now)) (path_at c.args.input.now.text.now c.args.room (drop c.args.at c.args.input.now.tokens.now)) c.in_err-operand-2.field-0.0 c.from_residual-in_err-operand-2.result c.from_residual-in_err-operand-2.ensures.1 (λ n. ap (unary_at c.args.input.now.text.now c.args.room) c.in-Some.ensures.found ∙ unary_postfix c.args.input.now.text.now c.args.room c.in-Some.token (drop (c.args.at + 1) c.args.input.now.tokens.now) (sym c.in_default-unary_operator.ensures) no_cast ∙ ap (λ ts. and_then (path_at c.args.input.now.text.now c.args.room ts) stepped) (sym c.in-Some.ensures.found) ∙ rw n) c.in_err-operand-2.ensures

pub expression::unary-returns : goal.expression::unary-returns
expression::unary-returns t c = let no_cast : is_left_paren c.in-Some.token.kind && is_cast (drop (c.args.at + 1) c.args.input.now.tokens.now) ≡ false = elim c.else-is_left_paren.branch [ expression::unary-else-is_left_paren-via-then-is_left_paren+else-is_cast w ↦ second_false (sym w.if-is_left_paren.ensures) (sym w.if-is_cast.ensures) | expression::unary-else-is_left_paren-via-else-is_left_paren w ↦ first_false _ (sym w.if-is_left_paren.ensures) ] in as_read c.args.input.now.tokens.now c.args.at c.in_ok-operand-2.end (unary_at c.args.input.now.text.now c.args.room (drop c.args.at c.args.input.now.tokens.now)) (stepped c.in_ok-operand-2.operand (drop c.in_ok-operand-2.end c.args.input.now.tokens.now)) c.with_step.result (omega (arith, c.in_ok-operand-2.ensures.0)) (ap (unary_at c.args.input.now.text.now c.args.room) c.in-Some.ensures.found ∙ unary_postfix c.args.input.now.text.now c.args.room c.in-Some.token (drop (c.args.at + 1) c.args.input.now.tokens.now) (sym c.in_default-unary_operator.ensures) no_cast ∙ ap (λ ts. and_then (path_at c.args.input.now.text.now c.args.room ts) stepped) (sym c.in-Some.ensures.found) ∙ rw c.in_ok-operand-2.ensures.1) c.with_step.ensures

pub expression::cast-returns-in_err-inner : goal.expression::cast-returns-in_err-inner
expression::cast-returns-in_err-inner t c = too_deep c.args.input.now.tokens.now c.args.at (cast_at c.args.input.now.text.now c.args.room c.args.token (drop c.args.at c.args.input.now.tokens.now)) c.in_err-inner.field-0.0 c.from_residual.result c.from_residual.ensures.1 c.in_err-inner.ensures.1 (cast_flat c.args.input.now.text.now c.args.room c.args.token (drop c.args.at c.args.input.now.tokens.now) c.in_err-inner.ensures.0)

pub expression::cast-returns-in_err-target : goal.expression::cast-returns-in_err-target
expression::cast-returns-in_err-target t c = hands_on c.args.input.now.tokens.now c.args.at c.args.at (cast_at c.args.input.now.text.now c.args.room c.args.token (drop c.args.at c.args.input.now.tokens.now)) (type_read c.args.input.now.text.now (drop c.args.at c.args.input.now.tokens.now)) c.in_err-target.field-0.0 c.from_residual-in_err-target.result c.from_residual-in_err-target.ensures.1 (λ n. cast_by c.args.input.now.text.now c.args.room c.args.token (drop c.args.at c.args.input.now.tokens.now) c.in_ok-inner.inner c.in_ok-inner.ensures ∙ rw n) c.in_err-target.ensures

pub expression::cast-returns-in_err-behind : goal.expression::cast-returns-in_err-behind
expression::cast-returns-in_err-behind t c = hands_on c.args.input.now.tokens.now c.in_ok-target.rest c.args.at (cast_at c.args.input.now.text.now c.args.room c.args.token (drop c.args.at c.args.input.now.tokens.now)) (accept is_right_paren (drop c.in_ok-target.rest c.args.input.now.tokens.now)) c.in_err-behind.field-0.0 c.from_residual-in_err-behind.result c.from_residual-in_err-behind.ensures.1 (λ n. cast_by c.args.input.now.text.now c.args.room c.args.token (drop c.args.at c.args.input.now.tokens.now) c.in_ok-inner.inner c.in_ok-inner.ensures ∙ simp (c.in_ok-target.ensures.1, n)) c.in_err-behind.ensures

pub expression::cast-returns-in_err-operand : goal.expression::cast-returns-in_err-operand
expression::cast-returns-in_err-operand t c = hands_on c.args.input.now.tokens.now c.in_ok-behind.behind c.args.at (cast_at c.args.input.now.text.now c.args.room c.args.token (drop c.args.at c.args.input.now.tokens.now)) (unary_at c.args.input.now.text.now c.in_ok-inner.inner (drop c.in_ok-behind.behind c.args.input.now.tokens.now)) c.in_err-operand.field-0.0 c.from_residual-in_err-operand.result c.from_residual-in_err-operand.ensures.1 (λ n. cast_by c.args.input.now.text.now c.args.room c.args.token (drop c.args.at c.args.input.now.tokens.now) c.in_ok-inner.inner c.in_ok-inner.ensures ∙ simp (c.in_ok-target.ensures.1, c.in_ok-behind.ensures.1, n)) c.in_err-operand.ensures

pub expression::cast-returns-in_err-conversion : goal.expression::cast-returns-in_err-conversion
expression::cast-returns-in_err-conversion t c = out_of_memory c.args.input.now.tokens.now c.args.at (cast_at c.args.input.now.text.now c.args.room c.args.token (drop c.args.at c.args.input.now.tokens.now)) c.from_residual-in_err-conversion.result c.from_residual-in_err-conversion.ensures.1

pub expression::cast-returns : goal.expression::cast-returns
expression::cast-returns t c = (omega (arith, c.in_ok-target.ensures.0, c.in_ok-behind.ensures.0, c.in_ok-operand.ensures.0), cast_by c.args.input.now.text.now c.args.room c.args.token (drop c.args.at c.args.input.now.tokens.now) c.in_ok-inner.inner c.in_ok-inner.ensures ∙ simp (c.in_ok-target.ensures.1, c.in_ok-behind.ensures.1, c.in_ok-operand.ensures.1, c.in_ok-conversion.ensures))

pub path::path-returns-in_err-first : goal.path::path-returns-in_err-first
path::path-returns-in_err-first t c = hands_on c.args.input.now.tokens.now c.args.at c.args.at (path_at c.args.input.now.text.now c.args.room (drop c.args.at c.args.input.now.tokens.now)) (primary_at c.args.input.now.text.now c.args.room (drop c.args.at c.args.input.now.tokens.now)) c.in_err-first.field-0.0 c.from_residual.result c.from_residual.ensures.1 (λ n. path_by c.args.input.now.text.now c.args.room (drop c.args.at c.args.input.now.tokens.now) ∙ rw n) c.in_err-first.ensures

pub path::path-returns-in_err-parts : goal.path::path-returns-in_err-parts
path::path-returns-in_err-parts t c = hands_on c.args.input.now.tokens.now c.in_ok-first.behind c.args.at (path_at c.args.input.now.text.now c.args.room (drop c.args.at c.args.input.now.tokens.now)) (parts_at c.args.input.now.text.now c.args.room (drop c.in_ok-first.behind c.args.input.now.tokens.now)) c.in_err-parts.field-0.0 c.from_residual-in_err-parts.result c.from_residual-in_err-parts.ensures.1 (λ n. path_by c.args.input.now.text.now c.args.room (drop c.args.at c.args.input.now.tokens.now) ∙ simp (c.in_ok-first.ensures.1, n)) c.in_err-parts.ensures

pub path::path-returns-in_err-with_parts : goal.path::path-returns-in_err-with_parts
path::path-returns-in_err-with_parts t c = out_of_memory c.args.input.now.tokens.now c.args.at (path_at c.args.input.now.text.now c.args.room (drop c.args.at c.args.input.now.tokens.now)) c.from_residual-in_err-with_parts.result c.from_residual-in_err-with_parts.ensures.1

pub path::path-returns : goal.path::path-returns
path::path-returns t c = (omega (arith, c.in_ok-first.ensures.0, c.in_ok-parts.ensures.0), path_by c.args.input.now.text.now c.args.room (drop c.args.at c.args.input.now.tokens.now) ∙ simp (c.in_ok-first.ensures.1, c.in_ok-parts.ensures.1, c.in_ok-with_parts.ensures))

pub path::part-returns-in_default : goal.path::part-returns-in_default
path::part-returns-in_default t c = (omega (arith), ap (part_at c.args.input.now.text.now c.args.room) c.in_default.ensures.found ∙ part_none c.args.input.now.text.now c.args.room ∙ ap (λ ts. Some (None, ts)) (sym c.in_default.ensures.found))

pub path::part-returns-in_err-name : goal.path::part-returns-in_err-name
path::part-returns-in_err-name t c = hands_on c.args.input.now.tokens.now (c.args.at + 1) c.args.at (part_at c.args.input.now.text.now c.args.room (drop c.args.at c.args.input.now.tokens.now)) (name_read c.args.input.now.text.now (drop (c.args.at + 1) c.args.input.now.tokens.now)) c.in_err-name.field-0.0 c.from_residual.result c.from_residual.ensures.1 (λ n. ap (part_at c.args.input.now.text.now c.args.room) c.in-Some.ensures.found ∙ part_dot_fails c.args.input.now.text.now c.args.room c.in-Some.token (drop (c.args.at + 1) c.args.input.now.tokens.now) (sym c.if-is_dot.ensures) n) c.in_err-name.ensures

pub path::part-returns-then-not-sees_left_paren : goal.path::part-returns-then-not-sees_left_paren
path::part-returns-then-not-sees_left_paren t c = (omega (arith, c.in_ok-name.ensures.0), ap (part_at c.args.input.now.text.now c.args.room) c.in-Some.ensures.found ∙ part_field c.args.input.now.text.now c.args.room c.in-Some.token (drop (c.args.at + 1) c.args.input.now.tokens.now) (drop c.in_ok-name.behind c.args.input.now.tokens.now) c.in_ok-name.name (sym c.if-is_dot.ensures) c.in_ok-name.ensures.1 (sym c.if-not-sees_left_paren.ensures) ∙ ap (λ p. Some (Some p, drop c.in_ok-name.behind c.args.input.now.tokens.now)) (sym c.in_ok-field.ensures))

pub path::part-returns-in_err-arguments : goal.path::part-returns-in_err-arguments
path::part-returns-in_err-arguments t c = hands_on c.args.input.now.tokens.now c.in_ok-name.behind c.args.at (part_at c.args.input.now.text.now c.args.room (drop c.args.at c.args.input.now.tokens.now)) (arguments_at c.args.input.now.text.now c.args.room (drop c.in_ok-name.behind c.args.input.now.tokens.now)) c.in_err-arguments.field-0.0 c.from_residual-in_err-arguments.result c.from_residual-in_err-arguments.ensures.1 (λ n. ap (part_at c.args.input.now.text.now c.args.room) c.in-Some.ensures.found ∙ part_call c.args.input.now.text.now c.args.room c.in-Some.token (drop (c.args.at + 1) c.args.input.now.tokens.now) (drop c.in_ok-name.behind c.args.input.now.tokens.now) c.in_ok-name.name (sym c.if-is_dot.ensures) c.in_ok-name.ensures.1 (sym c.if-not-sees_left_paren.ensures) ∙ rw n) c.in_err-arguments.ensures

pub path::part-returns-then-is_dot : goal.path::part-returns-then-is_dot
path::part-returns-then-is_dot t c = (omega (arith, c.in_ok-name.ensures.0, c.in_ok-arguments.ensures.0), ap (part_at c.args.input.now.text.now c.args.room) c.in-Some.ensures.found ∙ part_call c.args.input.now.text.now c.args.room c.in-Some.token (drop (c.args.at + 1) c.args.input.now.tokens.now) (drop c.in_ok-name.behind c.args.input.now.tokens.now) c.in_ok-name.name (sym c.if-is_dot.ensures) c.in_ok-name.ensures.1 (sym c.if-not-sees_left_paren.ensures) ∙ simp (c.in_ok-arguments.ensures.1, c.in_ok-method.ensures))

pub path::part-returns-in_err-inner : goal.path::part-returns-in_err-inner
path::part-returns-in_err-inner t c = too_deep c.args.input.now.tokens.now c.args.at (part_at c.args.input.now.text.now c.args.room (drop c.args.at c.args.input.now.tokens.now)) c.in_err-inner.field-0.0 c.from_residual-in_err-inner.result c.from_residual-in_err-inner.ensures.1 c.in_err-inner.ensures.1 (ap (part_at c.args.input.now.text.now c.args.room) c.in-Some.ensures.found ∙ part_flat c.args.input.now.text.now c.args.room c.in-Some.token (drop (c.args.at + 1) c.args.input.now.tokens.now) c.in_err-inner.ensures.0 (sym c.if-is_dot.ensures) (sym c.if-is_left_bracket.ensures))

pub path::part-returns-in_err-index : goal.path::part-returns-in_err-index
path::part-returns-in_err-index t c = hands_on c.args.input.now.tokens.now (c.args.at + 1) c.args.at (part_at c.args.input.now.text.now c.args.room (drop c.args.at c.args.input.now.tokens.now)) (bracketed_at c.args.input.now.text.now c.in_ok-inner.inner (drop (c.args.at + 1) c.args.input.now.tokens.now)) c.in_err-index.field-0.0 c.from_residual-in_err-index.result c.from_residual-in_err-index.ensures.1 (λ n. ap (part_at c.args.input.now.text.now c.args.room) c.in-Some.ensures.found ∙ part_index c.args.input.now.text.now c.args.room c.in-Some.token (drop (c.args.at + 1) c.args.input.now.tokens.now) c.in_ok-inner.inner c.in_ok-inner.ensures (sym c.if-is_dot.ensures) (sym c.if-is_left_bracket.ensures) ∙ rw n) c.in_err-index.ensures

pub path::part-returns-then-is_left_bracket : goal.path::part-returns-then-is_left_bracket
path::part-returns-then-is_left_bracket t c = (omega (arith, c.in_ok-index.ensures.0), ap (part_at c.args.input.now.text.now c.args.room) c.in-Some.ensures.found ∙ part_index c.args.input.now.text.now c.args.room c.in-Some.token (drop (c.args.at + 1) c.args.input.now.tokens.now) c.in_ok-inner.inner c.in_ok-inner.ensures (sym c.if-is_dot.ensures) (sym c.if-is_left_bracket.ensures) ∙ simp (c.in_ok-index.ensures.1, c.in_ok-indexed.ensures))

pub path::part-returns : goal.path::part-returns
path::part-returns t c = (omega (arith), ap (part_at c.args.input.now.text.now c.args.room) c.in-Some.ensures.found ∙ part_other c.args.input.now.text.now c.args.room c.in-Some.token (drop (c.args.at + 1) c.args.input.now.tokens.now) (sym c.if-is_dot.ensures) (sym c.if-is_left_bracket.ensures) ∙ ap (λ ts. Some (None, ts)) (sym c.in-Some.ensures.found))

pub path::bracketed-returns-in_err-inside : goal.path::bracketed-returns-in_err-inside
path::bracketed-returns-in_err-inside t c = hands_on c.args.input.now.tokens.now c.args.at c.args.at (bracketed_at c.args.input.now.text.now c.args.room (drop c.args.at c.args.input.now.tokens.now)) (expr_at c.args.input.now.text.now c.args.room (drop c.args.at c.args.input.now.tokens.now)) c.in_err-inside.field-0.0 c.from_residual.result c.from_residual.ensures.1 (λ n. bracketed_by c.args.input.now.text.now c.args.room (drop c.args.at c.args.input.now.tokens.now) ∙ rw n) c.in_err-inside.ensures

pub path::bracketed-returns-in_err-end : goal.path::bracketed-returns-in_err-end
path::bracketed-returns-in_err-end t c = hands_on c.args.input.now.tokens.now c.in_ok-inside.behind c.args.at (bracketed_at c.args.input.now.text.now c.args.room (drop c.args.at c.args.input.now.tokens.now)) (accept is_right_bracket (drop c.in_ok-inside.behind c.args.input.now.tokens.now)) c.in_err-end.field-0.0 c.from_residual-in_err-end.result c.from_residual-in_err-end.ensures.1 (λ n. bracketed_by c.args.input.now.text.now c.args.room (drop c.args.at c.args.input.now.tokens.now) ∙ simp (c.in_ok-inside.ensures.1, n)) c.in_err-end.ensures

pub path::bracketed-returns : goal.path::bracketed-returns
path::bracketed-returns t c = (omega (arith, c.in_ok-inside.ensures.0, c.in_ok-end.ensures.0), bracketed_by c.args.input.now.text.now c.args.room (drop c.args.at c.args.input.now.tokens.now) ∙ simp (c.in_ok-inside.ensures.1, c.in_ok-end.ensures.1))

pub path::primary-returns-in_default : goal.path::primary-returns-in_default
path::primary-returns-in_default t c = refuses c.args.input.now.tokens.now c.args.at (primary_at c.args.input.now.text.now c.args.room (drop c.args.at c.args.input.now.tokens.now)) c.refuse.result c.refuse.ensures (ap (primary_at c.args.input.now.text.now c.args.room) c.in_default.ensures.found ∙ primary_none c.args.input.now.text.now c.args.room)

pub path::primary-returns-in_err-tree : goal.path::primary-returns-in_err-tree
path::primary-returns-in_err-tree t c = out_of_memory c.args.input.now.tokens.now c.args.at (primary_at c.args.input.now.text.now c.args.room (drop c.args.at c.args.input.now.tokens.now)) c.from_residual.result c.from_residual.ensures.1

pub path::primary-returns-in-Some-2 : goal.path::primary-returns-in-Some-2
path::primary-returns-in-Some-2 t c = (omega (arith), ap (primary_at c.args.input.now.text.now c.args.room) c.in-Some.ensures.found ∙ primary_tree c.args.input.now.text.now c.args.room c.in-Some.token (drop (c.args.at + 1) c.args.input.now.tokens.now) c.in-Some-2.tree (sym c.in_ok-tree.ensures ∙ c.in-Some-2.is))

pub path::primary-returns-then-is_identifier : goal.path::primary-returns-then-is_identifier
path::primary-returns-then-is_identifier t c = as_read c.args.input.now.tokens.now c.args.at (c.args.at + 1) (primary_at c.args.input.now.text.now c.args.room (drop c.args.at c.args.input.now.tokens.now)) (named_at c.args.input.now.text.now c.args.room c.in-Some.token (drop (c.args.at + 1) c.args.input.now.tokens.now)) c.named.result (omega arith) (ap (primary_at c.args.input.now.text.now c.args.room) c.in-Some.ensures.found ∙ primary_name c.args.input.now.text.now c.args.room c.in-Some.token (drop (c.args.at + 1) c.args.input.now.tokens.now) (no_literal c.args.input.now.text.now c.in-Some.token (sym c.in_ok-tree.ensures ∙ c.in_default-2.is)) (sym c.if-is_identifier.ensures)) c.named.ensures

pub path::primary-returns-then-is_left_paren : goal.path::primary-returns-then-is_left_paren
path::primary-returns-then-is_left_paren t c = as_read c.args.input.now.tokens.now c.args.at (c.args.at + 1) (primary_at c.args.input.now.text.now c.args.room (drop c.args.at c.args.input.now.tokens.now)) (enclosed_at c.args.input.now.text.now c.args.room c.in-Some.token (drop (c.args.at + 1) c.args.input.now.tokens.now)) c.enclosed.result (omega arith) (ap (primary_at c.args.input.now.text.now c.args.room) c.in-Some.ensures.found ∙ primary_enclosed c.args.input.now.text.now c.args.room c.in-Some.token (drop (c.args.at + 1) c.args.input.now.tokens.now) (no_literal c.args.input.now.text.now c.in-Some.token (sym c.in_ok-tree.ensures ∙ c.in_default-2.is)) (sym c.if-is_identifier.ensures) (sym c.if-is_left_paren.ensures)) c.enclosed.ensures

pub path::primary-returns-in_err-this : goal.path::primary-returns-in_err-this
path::primary-returns-in_err-this t c = out_of_memory c.args.input.now.tokens.now c.args.at (primary_at c.args.input.now.text.now c.args.room (drop c.args.at c.args.input.now.tokens.now)) c.from_residual-in_err-this.result c.from_residual-in_err-this.ensures.1

pub path::primary-returns-then-is_this : goal.path::primary-returns-then-is_this
path::primary-returns-then-is_this t c = (omega (arith), ap (primary_at c.args.input.now.text.now c.args.room) c.in-Some.ensures.found ∙ primary_this c.args.input.now.text.now c.args.room c.in-Some.token (drop (c.args.at + 1) c.args.input.now.tokens.now) (no_literal c.args.input.now.text.now c.in-Some.token (sym c.in_ok-tree.ensures ∙ c.in_default-2.is)) (sym c.if-is_identifier.ensures) (sym c.if-is_left_paren.ensures) (sym c.if-is_this.ensures) ∙ ap (λ e. Some (e, (drop (c.args.at + 1) c.args.input.now.tokens.now))) (sym c.in_ok-this.ensures))

pub path::primary-returns-then-is_super : goal.path::primary-returns-then-is_super
path::primary-returns-then-is_super t c = as_read c.args.input.now.tokens.now c.args.at (c.args.at + 1) (primary_at c.args.input.now.text.now c.args.room (drop c.args.at c.args.input.now.tokens.now)) (through_super_at c.args.input.now.text.now c.args.room c.in-Some.token (drop (c.args.at + 1) c.args.input.now.tokens.now)) c.through_super.result (omega arith) (ap (primary_at c.args.input.now.text.now c.args.room) c.in-Some.ensures.found ∙ primary_super c.args.input.now.text.now c.args.room c.in-Some.token (drop (c.args.at + 1) c.args.input.now.tokens.now) (no_literal c.args.input.now.text.now c.in-Some.token (sym c.in_ok-tree.ensures ∙ c.in_default-2.is)) (sym c.if-is_identifier.ensures) (sym c.if-is_left_paren.ensures) (sym c.if-is_this.ensures) (sym c.if-is_super.ensures)) c.through_super.ensures

pub path::primary-returns-in_err-name : goal.path::primary-returns-in_err-name
path::primary-returns-in_err-name t c = hands_on c.args.input.now.tokens.now (c.args.at + 1) c.args.at (primary_at c.args.input.now.text.now c.args.room (drop c.args.at c.args.input.now.tokens.now)) (accept names_type (drop (c.args.at + 1) c.args.input.now.tokens.now)) c.in_err-name.field-0.0 c.from_residual-in_err-name.result c.from_residual-in_err-name.ensures.1 (λ n. ap (primary_at c.args.input.now.text.now c.args.room) c.in-Some.ensures.found ∙ primary_new c.args.input.now.text.now c.args.room c.in-Some.token (drop (c.args.at + 1) c.args.input.now.tokens.now) (no_literal c.args.input.now.text.now c.in-Some.token (sym c.in_ok-tree.ensures ∙ c.in_default-2.is)) (sym c.if-is_identifier.ensures) (sym c.if-is_left_paren.ensures) (sym c.if-is_this.ensures) (sym c.if-is_super.ensures) (sym c.if-is_new.ensures) ∙ rw n) c.in_err-name.ensures.value

pub path::primary-returns-then-is_new : goal.path::primary-returns-then-is_new
path::primary-returns-then-is_new t c = as_read c.args.input.now.tokens.now c.args.at c.in_ok-name.rest (primary_at c.args.input.now.text.now c.args.room (drop c.args.at c.args.input.now.tokens.now)) (creation_at c.args.input.now.text.now c.args.room c.in-Some.token c.in_ok-name.name (drop c.in_ok-name.rest c.args.input.now.tokens.now)) c.creation.result (omega (arith, c.in_ok-name.ensures.value.0)) (ap (primary_at c.args.input.now.text.now c.args.room) c.in-Some.ensures.found ∙ primary_new c.args.input.now.text.now c.args.room c.in-Some.token (drop (c.args.at + 1) c.args.input.now.tokens.now) (no_literal c.args.input.now.text.now c.in-Some.token (sym c.in_ok-tree.ensures ∙ c.in_default-2.is)) (sym c.if-is_identifier.ensures) (sym c.if-is_left_paren.ensures) (sym c.if-is_this.ensures) (sym c.if-is_super.ensures) (sym c.if-is_new.ensures) ∙ rw c.in_ok-name.ensures.value.1) c.creation.ensures

pub path::primary-returns : goal.path::primary-returns
path::primary-returns t c = refuses c.args.input.now.tokens.now c.args.at (primary_at c.args.input.now.text.now c.args.room (drop c.args.at c.args.input.now.tokens.now)) c.refuse-2.result c.refuse-2.ensures (ap (primary_at c.args.input.now.text.now c.args.room) c.in-Some.ensures.found ∙ primary_other c.args.input.now.text.now c.args.room c.in-Some.token (drop (c.args.at + 1) c.args.input.now.tokens.now) (no_literal c.args.input.now.text.now c.in-Some.token (sym c.in_ok-tree.ensures ∙ c.in_default-2.is)) (sym c.if-is_identifier.ensures) (sym c.if-is_left_paren.ensures) (sym c.if-is_this.ensures) (sym c.if-is_super.ensures) (sym c.if-is_new.ensures))

pub path::enclosed-returns-in_err-inner : goal.path::enclosed-returns-in_err-inner
path::enclosed-returns-in_err-inner t c = too_deep c.args.input.now.tokens.now c.args.at (enclosed_at c.args.input.now.text.now c.args.room c.args.token (drop c.args.at c.args.input.now.tokens.now)) c.in_err-inner.field-0.0 c.from_residual.result c.from_residual.ensures.1 c.in_err-inner.ensures.1 (enclosed_flat c.args.input.now.text.now c.args.room c.args.token (drop c.args.at c.args.input.now.tokens.now) c.in_err-inner.ensures.0)

pub path::enclosed-returns-in_err-inside : goal.path::enclosed-returns-in_err-inside
path::enclosed-returns-in_err-inside t c = hands_on c.args.input.now.tokens.now c.args.at c.args.at (enclosed_at c.args.input.now.text.now c.args.room c.args.token (drop c.args.at c.args.input.now.tokens.now)) (expr_at c.args.input.now.text.now c.in_ok-inner.inner (drop c.args.at c.args.input.now.tokens.now)) c.in_err-inside.field-0.0 c.from_residual-in_err-inside.result c.from_residual-in_err-inside.ensures.1 (λ n. enclosed_by c.args.input.now.text.now c.args.room c.args.token (drop c.args.at c.args.input.now.tokens.now) c.in_ok-inner.inner c.in_ok-inner.ensures ∙ rw n) c.in_err-inside.ensures

pub path::enclosed-returns-in_err-end : goal.path::enclosed-returns-in_err-end
path::enclosed-returns-in_err-end t c = hands_on c.args.input.now.tokens.now c.in_ok-inside.rest c.args.at (enclosed_at c.args.input.now.text.now c.args.room c.args.token (drop c.args.at c.args.input.now.tokens.now)) (accept is_right_paren (drop c.in_ok-inside.rest c.args.input.now.tokens.now)) c.in_err-end.field-0.0 c.from_residual-in_err-end.result c.from_residual-in_err-end.ensures.1 (λ n. enclosed_by c.args.input.now.text.now c.args.room c.args.token (drop c.args.at c.args.input.now.tokens.now) c.in_ok-inner.inner c.in_ok-inner.ensures ∙ simp (c.in_ok-inside.ensures.1, n)) c.in_err-end.ensures

pub path::enclosed-returns-in_err-parenthesized : goal.path::enclosed-returns-in_err-parenthesized
path::enclosed-returns-in_err-parenthesized t c = out_of_memory c.args.input.now.tokens.now c.args.at (enclosed_at c.args.input.now.text.now c.args.room c.args.token (drop c.args.at c.args.input.now.tokens.now)) c.from_residual-in_err-parenthesized.result c.from_residual-in_err-parenthesized.ensures.1

pub path::enclosed-returns : goal.path::enclosed-returns
path::enclosed-returns t c = (omega (arith, c.in_ok-inside.ensures.0, c.in_ok-end.ensures.0), enclosed_by c.args.input.now.text.now c.args.room c.args.token (drop c.args.at c.args.input.now.tokens.now) c.in_ok-inner.inner c.in_ok-inner.ensures ∙ simp (c.in_ok-inside.ensures.1, c.in_ok-end.ensures.1, c.in_ok-parenthesized.ensures))

pub path::named-returns-in_err-name : goal.path::named-returns-in_err-name
path::named-returns-in_err-name t c = out_of_memory c.args.input.now.tokens.now c.args.at (named_at c.args.input.now.text.now c.args.room c.args.token (drop c.args.at c.args.input.now.tokens.now)) c.from_residual.result c.from_residual.ensures.1

pub path::named-returns-in_err-name_alone : goal.path::named-returns-in_err-name_alone
path::named-returns-in_err-name_alone t c = out_of_memory c.args.input.now.tokens.now c.args.at (named_at c.args.input.now.text.now c.args.room c.args.token (drop c.args.at c.args.input.now.tokens.now)) c.from_residual-in_err-name_alone.result c.from_residual-in_err-name_alone.ensures.1

pub path::named-returns-then-not-sees_left_paren : goal.path::named-returns-then-not-sees_left_paren
path::named-returns-then-not-sees_left_paren t c = (omega (arith), named_alone c.args.input.now.text.now c.args.room c.args.token (drop c.args.at c.args.input.now.tokens.now) (sym c.if-not-sees_left_paren.ensures) ∙ ap (λ e. Some (e, (drop c.args.at c.args.input.now.tokens.now))) (sym (c.in_ok-name_alone.ensures ∙ ap tree.Name c.in_ok-name.ensures)))

pub path::named-returns-in_err-arguments : goal.path::named-returns-in_err-arguments
path::named-returns-in_err-arguments t c = hands_on c.args.input.now.tokens.now c.args.at c.args.at (named_at c.args.input.now.text.now c.args.room c.args.token (drop c.args.at c.args.input.now.tokens.now)) (arguments_at c.args.input.now.text.now c.args.room (drop c.args.at c.args.input.now.tokens.now)) c.in_err-arguments.field-0.0 c.from_residual-in_err-arguments.result c.from_residual-in_err-arguments.ensures.1 (λ n. named_call c.args.input.now.text.now c.args.room c.args.token (drop c.args.at c.args.input.now.tokens.now) (sym c.if-not-sees_left_paren.ensures) ∙ rw n) c.in_err-arguments.ensures

pub path::named-returns-in_err-call : goal.path::named-returns-in_err-call
path::named-returns-in_err-call t c = out_of_memory c.args.input.now.tokens.now c.args.at (named_at c.args.input.now.text.now c.args.room c.args.token (drop c.args.at c.args.input.now.tokens.now)) c.from_residual-in_err-call.result c.from_residual-in_err-call.ensures.1

pub path::named-returns : goal.path::named-returns
path::named-returns t c = (omega (arith, c.in_ok-arguments.ensures.0), named_call c.args.input.now.text.now c.args.room c.args.token (drop c.args.at c.args.input.now.tokens.now) (sym c.if-not-sees_left_paren.ensures) ∙ simp (c.in_ok-arguments.ensures.1, c.in_ok-call.ensures, c.in_ok-name.ensures))

pub path::through_super-returns-in_err-rest : goal.path::through_super-returns-in_err-rest
path::through_super-returns-in_err-rest t c = hands_on c.args.input.now.tokens.now c.args.at c.args.at (through_super_at c.args.input.now.text.now c.args.room c.args.token (drop c.args.at c.args.input.now.tokens.now)) (accept is_dot (drop c.args.at c.args.input.now.tokens.now)) c.in_err-rest.field-0.0 c.from_residual.result c.from_residual.ensures.1 (λ n. super_by c.args.input.now.text.now c.args.room c.args.token (drop c.args.at c.args.input.now.tokens.now) ∙ rw n) c.in_err-rest.ensures

pub path::through_super-returns-in_err-name : goal.path::through_super-returns-in_err-name
path::through_super-returns-in_err-name t c = hands_on c.args.input.now.tokens.now c.in_ok-rest.rest c.args.at (through_super_at c.args.input.now.text.now c.args.room c.args.token (drop c.args.at c.args.input.now.tokens.now)) (name_read c.args.input.now.text.now (drop c.in_ok-rest.rest c.args.input.now.tokens.now)) c.in_err-name.field-0.0 c.from_residual-in_err-name.result c.from_residual-in_err-name.ensures.1 (λ n. super_by c.args.input.now.text.now c.args.room c.args.token (drop c.args.at c.args.input.now.tokens.now) ∙ simp (c.in_ok-rest.ensures.1, n)) c.in_err-name.ensures

pub path::through_super-returns-in_err-arguments : goal.path::through_super-returns-in_err-arguments
path::through_super-returns-in_err-arguments t c = hands_on c.args.input.now.tokens.now c.in_ok-name.behind c.args.at (through_super_at c.args.input.now.text.now c.args.room c.args.token (drop c.args.at c.args.input.now.tokens.now)) (arguments_at c.args.input.now.text.now c.args.room (drop c.in_ok-name.behind c.args.input.now.tokens.now)) c.in_err-arguments.field-0.0 c.from_residual-in_err-arguments.result c.from_residual-in_err-arguments.ensures.1 (λ n. super_by c.args.input.now.text.now c.args.room c.args.token (drop c.args.at c.args.input.now.tokens.now) ∙ simp (c.in_ok-rest.ensures.1, c.in_ok-name.ensures.1, n)) c.in_err-arguments.ensures

pub path::through_super-returns-in_err-super_call : goal.path::through_super-returns-in_err-super_call
path::through_super-returns-in_err-super_call t c = out_of_memory c.args.input.now.tokens.now c.args.at (through_super_at c.args.input.now.text.now c.args.room c.args.token (drop c.args.at c.args.input.now.tokens.now)) c.from_residual-in_err-super_call.result c.from_residual-in_err-super_call.ensures.1

pub path::through_super-returns : goal.path::through_super-returns
path::through_super-returns t c = (omega (arith, c.in_ok-rest.ensures.0, c.in_ok-name.ensures.0, c.in_ok-arguments.ensures.0), super_by c.args.input.now.text.now c.args.room c.args.token (drop c.args.at c.args.input.now.tokens.now) ∙ simp (c.in_ok-rest.ensures.1, c.in_ok-name.ensures.1, c.in_ok-arguments.ensures.1, c.in_ok-super_call.ensures))

pub path::creation-returns-then-not-is_identifier : goal.path::creation-returns-then-not-is_identifier
path::creation-returns-then-not-is_identifier t c = refuses c.args.input.now.tokens.now c.args.at (creation_at c.args.input.now.text.now c.args.room c.args.token c.args.name (drop c.args.at c.args.input.now.tokens.now)) c.refuse.result c.refuse.ensures (creation_wrong c.args.input.now.text.now c.args.room c.args.token c.args.name (drop c.args.at c.args.input.now.tokens.now) (sym c.if-sees_left_paren.ensures) (sym c.if-not-is_identifier.ensures))

pub path::creation-returns-in_err-arguments : goal.path::creation-returns-in_err-arguments
path::creation-returns-in_err-arguments t c = hands_on c.args.input.now.tokens.now c.args.at c.args.at (creation_at c.args.input.now.text.now c.args.room c.args.token c.args.name (drop c.args.at c.args.input.now.tokens.now)) (arguments_at c.args.input.now.text.now c.args.room (drop c.args.at c.args.input.now.tokens.now)) c.in_err-arguments.field-0.0 c.from_residual.result c.from_residual.ensures.1 (λ n. creation_object c.args.input.now.text.now c.args.room c.args.token c.args.name (drop c.args.at c.args.input.now.tokens.now) (sym c.if-sees_left_paren.ensures) (sym c.if-not-is_identifier.ensures) ∙ rw n) c.in_err-arguments.ensures

pub path::creation-returns-in_err-new_object : goal.path::creation-returns-in_err-new_object
path::creation-returns-in_err-new_object t c = out_of_memory c.args.input.now.tokens.now c.args.at (creation_at c.args.input.now.text.now c.args.room c.args.token c.args.name (drop c.args.at c.args.input.now.tokens.now)) c.from_residual-in_err-new_object.result c.from_residual-in_err-new_object.ensures.1

pub path::creation-returns-then-sees_left_paren : goal.path::creation-returns-then-sees_left_paren
path::creation-returns-then-sees_left_paren t c = (omega (arith, c.in_ok-arguments.ensures.0), creation_object c.args.input.now.text.now c.args.room c.args.token c.args.name (drop c.args.at c.args.input.now.tokens.now) (sym c.if-sees_left_paren.ensures) (sym c.if-not-is_identifier.ensures) ∙ simp (c.in_ok-arguments.ensures.1, c.in_ok-new_object.ensures))

pub path::creation-returns-then-sees_brackets : goal.path::creation-returns-then-sees_brackets
path::creation-returns-then-sees_brackets t c = as_read c.args.input.now.tokens.now c.args.at c.args.at (creation_at c.args.input.now.text.now c.args.room c.args.token c.args.name (drop c.args.at c.args.input.now.tokens.now)) (filled_at c.args.input.now.text.now c.args.room c.args.token c.args.name (drop c.args.at c.args.input.now.tokens.now)) c.filled.result (omega arith) (creation_filled c.args.input.now.text.now c.args.room c.args.token c.args.name (drop c.args.at c.args.input.now.tokens.now) (sym c.if-sees_left_paren.ensures) (sym c.if-sees_brackets.ensures.value)) c.filled.ensures

pub path::creation-returns-in_err-sizes : goal.path::creation-returns-in_err-sizes
path::creation-returns-in_err-sizes t c = hands_on c.args.input.now.tokens.now c.args.at c.args.at (creation_at c.args.input.now.text.now c.args.room c.args.token c.args.name (drop c.args.at c.args.input.now.tokens.now)) (sizes_at c.args.input.now.text.now c.args.room (drop c.args.at c.args.input.now.tokens.now)) c.in_err-sizes.field-0.0 c.from_residual-in_err-sizes.result c.from_residual-in_err-sizes.ensures.1 (λ n. creation_sized c.args.input.now.text.now c.args.room c.args.token c.args.name (drop c.args.at c.args.input.now.tokens.now) (sym c.if-sees_left_paren.ensures) (sym c.if-sees_brackets.ensures.value) ∙ rw n) c.in_err-sizes.ensures.value

pub path::creation-returns : goal.path::creation-returns
path::creation-returns t c = as_read c.args.input.now.tokens.now c.args.at c.in_ok-sizes.rest (creation_at c.args.input.now.text.now c.args.room c.args.token c.args.name (drop c.args.at c.args.input.now.tokens.now)) (with_sizes c.args.input.now.text.now c.args.token c.args.name c.in_ok-sizes.sizes (drop c.in_ok-sizes.rest c.args.input.now.tokens.now)) c.new_array.result (omega (arith, c.in_ok-sizes.ensures.value.0)) (creation_sized c.args.input.now.text.now c.args.room c.args.token c.args.name (drop c.args.at c.args.input.now.tokens.now) (sym c.if-sees_left_paren.ensures) (sym c.if-sees_brackets.ensures.value) ∙ rw c.in_ok-sizes.ensures.value.1) c.new_array.ensures

pub path::filled-returns-in_default : goal.path::filled-returns-in_default
path::filled-returns-in_default t c = refuses c.args.input.now.tokens.now c.args.at (filled_at c.args.input.now.text.now c.args.room c.args.token c.args.name (drop c.args.at c.args.input.now.tokens.now)) c.refuse.result c.refuse.ensures (filled_open c.args.input.now.text.now c.args.room c.args.token c.args.name (drop c.args.at c.args.input.now.tokens.now) (sym c.brackets-dims.ensures.rest ∙ c.in_default.ensures.found))

pub path::filled-returns-in_err-created : goal.path::filled-returns-in_err-created
path::filled-returns-in_err-created t c = out_of_memory c.args.input.now.tokens.now c.args.at (filled_at c.args.input.now.text.now c.args.room c.args.token c.args.name (drop c.args.at c.args.input.now.tokens.now)) c.from_residual.result c.from_residual.ensures.1

pub path::filled-returns-in_err-values : goal.path::filled-returns-in_err-values
path::filled-returns-in_err-values t c = hands_on c.args.input.now.tokens.now c.brackets-dims.result.1 c.args.at (filled_at c.args.input.now.text.now c.args.room c.args.token c.args.name (drop c.args.at c.args.input.now.tokens.now)) (braces_at c.args.input.now.text.now c.args.room (drop c.brackets-dims.result.1 c.args.input.now.tokens.now)) c.in_err-values.field-0.0 c.from_residual-in_err-values.result c.from_residual-in_err-values.ensures.1 (λ n. filled_by c.args.input.now.text.now c.args.room c.args.token c.args.name (drop c.args.at c.args.input.now.tokens.now) c.in-Some.brace (drop (c.brackets-dims.result.1 + 1) c.args.input.now.tokens.now) (sym c.brackets-dims.ensures.rest ∙ c.in-Some.ensures.found) ∙ ap (λ ts. and_then (braces_at c.args.input.now.text.now c.args.room ts) (λ values rest. Some (tree.NewArrayOf c.args.token.span (type_of c.args.input.now.text.now c.args.name (brackets (drop c.args.at c.args.input.now.tokens.now)).0) c.in-Some.brace.span values, rest))) (sym c.in-Some.ensures.found) ∙ rw n) c.in_err-values.ensures

pub path::filled-returns-in_err-tree : goal.path::filled-returns-in_err-tree
path::filled-returns-in_err-tree t c = out_of_memory c.args.input.now.tokens.now c.args.at (filled_at c.args.input.now.text.now c.args.room c.args.token c.args.name (drop c.args.at c.args.input.now.tokens.now)) c.from_residual-in_err-tree.result c.from_residual-in_err-tree.ensures.1

pub path::filled-returns : goal.path::filled-returns
path::filled-returns t c = (omega (arith, c.brackets-dims.ensures.forward, c.in_ok-values.ensures.0), filled_by c.args.input.now.text.now c.args.room c.args.token c.args.name (drop c.args.at c.args.input.now.tokens.now) c.in-Some.brace (drop (c.brackets-dims.result.1 + 1) c.args.input.now.tokens.now) (sym c.brackets-dims.ensures.rest ∙ c.in-Some.ensures.found) ∙ ap (λ ts. and_then (braces_at c.args.input.now.text.now c.args.room ts) (λ values rest. Some (tree.NewArrayOf c.args.token.span (type_of c.args.input.now.text.now c.args.name (brackets (drop c.args.at c.args.input.now.tokens.now)).0) c.in-Some.brace.span values, rest))) (sym c.in-Some.ensures.found) ∙ simp (c.in_ok-values.ensures.1, c.in_ok-tree.ensures, c.in_ok-created.ensures, c.brackets-dims.ensures.dims))

pub list::arguments-returns-in_err-behind : goal.list::arguments-returns-in_err-behind
list::arguments-returns-in_err-behind t c = hands_on c.args.input.now.tokens.now c.args.from c.args.from (arguments_at c.args.input.now.text.now c.args.room (drop c.args.from c.args.input.now.tokens.now)) (accept is_left_paren (drop c.args.from c.args.input.now.tokens.now)) c.in_err-behind.field-0.0 c.from_residual.result c.from_residual.ensures.1 (λ n. arguments_fail c.args.input.now.text.now (drop c.args.from c.args.input.now.tokens.now) c.args.room n) c.in_err-behind.ensures

pub list::arguments-returns-in_err-inner : goal.list::arguments-returns-in_err-inner
list::arguments-returns-in_err-inner t c = too_deep c.args.input.now.tokens.now c.args.from (arguments_at c.args.input.now.text.now c.args.room (drop c.args.from c.args.input.now.tokens.now)) c.in_err-inner.field-0.0 c.from_residual-in_err-inner.result c.from_residual-in_err-inner.ensures.1 c.in_err-inner.ensures.1 (arguments_flat c.args.input.now.text.now c.args.room (drop c.args.from c.args.input.now.tokens.now) c.in_ok-behind.field-0-0 (drop c.in_ok-behind.behind c.args.input.now.tokens.now) c.in_err-inner.ensures.0 c.in_ok-behind.ensures.1)

pub list::arguments-returns-in_default : goal.list::arguments-returns-in_default
list::arguments-returns-in_default t c = refuses c.args.input.now.tokens.now c.args.from (arguments_at c.args.input.now.text.now c.args.room (drop c.args.from c.args.input.now.tokens.now)) c.refuse.result c.refuse.ensures (arguments_open c.args.input.now.text.now c.args.room (drop c.args.from c.args.input.now.tokens.now) c.in_ok-inner.inner c.in_ok-behind.field-0-0 c.in_ok-inner.ensures (c.in_ok-behind.ensures.1 ∙ ap (λ ts. Some (c.in_ok-behind.field-0-0, ts)) c.in_default.ensures.found))

pub list::arguments-returns-then-is_right_paren : goal.list::arguments-returns-then-is_right_paren
list::arguments-returns-then-is_right_paren t c = (omega (arith, c.in_ok-behind.ensures.0), arguments_empty c.args.input.now.text.now c.args.room (drop c.args.from c.args.input.now.tokens.now) c.in_ok-inner.inner c.in_ok-behind.field-0-0 c.in-Some.token (drop (c.in_ok-behind.behind + 1) c.args.input.now.tokens.now) c.in_ok-inner.ensures (c.in_ok-behind.ensures.1 ∙ ap (λ ts. Some (c.in_ok-behind.field-0-0, ts)) c.in-Some.ensures.found) (sym c.if-is_right_paren.ensures) ∙ ap (λ es. Some (es, (drop (c.in_ok-behind.behind + 1) c.args.input.now.tokens.now))) (sym c.new.ensures))

pub list::arguments-returns-in_err-listed : goal.list::arguments-returns-in_err-listed
list::arguments-returns-in_err-listed t c = hands_on c.args.input.now.tokens.now c.in_ok-behind.behind c.args.from (arguments_at c.args.input.now.text.now c.args.room (drop c.args.from c.args.input.now.tokens.now)) (listed_at c.args.input.now.text.now c.in_ok-inner.inner (drop c.in_ok-behind.behind c.args.input.now.tokens.now)) c.in_err-listed.field-0.0 c.from_residual-in_err-listed.result c.from_residual-in_err-listed.ensures.1 (λ n. arguments_listed c.args.input.now.text.now c.args.room (drop c.args.from c.args.input.now.tokens.now) c.in_ok-inner.inner c.in_ok-behind.field-0-0 c.in-Some.token (drop (c.in_ok-behind.behind + 1) c.args.input.now.tokens.now) c.in_ok-inner.ensures (c.in_ok-behind.ensures.1 ∙ ap (λ ts. Some (c.in_ok-behind.field-0-0, ts)) c.in-Some.ensures.found) (sym c.if-is_right_paren.ensures) ∙ ap (λ ts. and_then (listed_at c.args.input.now.text.now c.in_ok-inner.inner ts) (λ es more. and_then (accept is_right_paren more) (λ v behind. Some (es, behind)))) (sym c.in-Some.ensures.found) ∙ rw n) c.in_err-listed.ensures

pub list::arguments-returns-in_err-end : goal.list::arguments-returns-in_err-end
list::arguments-returns-in_err-end t c = hands_on c.args.input.now.tokens.now c.in_ok-listed.rest c.args.from (arguments_at c.args.input.now.text.now c.args.room (drop c.args.from c.args.input.now.tokens.now)) (accept is_right_paren (drop c.in_ok-listed.rest c.args.input.now.tokens.now)) c.in_err-end.field-0.0 c.from_residual-in_err-end.result c.from_residual-in_err-end.ensures.1 (λ n. arguments_listed c.args.input.now.text.now c.args.room (drop c.args.from c.args.input.now.tokens.now) c.in_ok-inner.inner c.in_ok-behind.field-0-0 c.in-Some.token (drop (c.in_ok-behind.behind + 1) c.args.input.now.tokens.now) c.in_ok-inner.ensures (c.in_ok-behind.ensures.1 ∙ ap (λ ts. Some (c.in_ok-behind.field-0-0, ts)) c.in-Some.ensures.found) (sym c.if-is_right_paren.ensures) ∙ ap (λ ts. and_then (listed_at c.args.input.now.text.now c.in_ok-inner.inner ts) (λ es more. and_then (accept is_right_paren more) (λ v behind. Some (es, behind)))) (sym c.in-Some.ensures.found) ∙ simp (c.in_ok-listed.ensures.1, n)) c.in_err-end.ensures

pub list::arguments-returns : goal.list::arguments-returns
list::arguments-returns t c = (omega (arith, c.in_ok-behind.ensures.0, c.in_ok-listed.ensures.0, c.in_ok-end.ensures.0), arguments_listed c.args.input.now.text.now c.args.room (drop c.args.from c.args.input.now.tokens.now) c.in_ok-inner.inner c.in_ok-behind.field-0-0 c.in-Some.token (drop (c.in_ok-behind.behind + 1) c.args.input.now.tokens.now) c.in_ok-inner.ensures (c.in_ok-behind.ensures.1 ∙ ap (λ ts. Some (c.in_ok-behind.field-0-0, ts)) c.in-Some.ensures.found) (sym c.if-is_right_paren.ensures) ∙ ap (λ ts. and_then (listed_at c.args.input.now.text.now c.in_ok-inner.inner ts) (λ es more. and_then (accept is_right_paren more) (λ v behind. Some (es, behind)))) (sym c.in-Some.ensures.found) ∙ simp (c.in_ok-listed.ensures.1, c.in_ok-end.ensures.1))

pub list::braces-returns-in_err-behind : goal.list::braces-returns-in_err-behind
list::braces-returns-in_err-behind t c = hands_on c.args.input.now.tokens.now c.args.from c.args.from (braces_at c.args.input.now.text.now c.args.room (drop c.args.from c.args.input.now.tokens.now)) (accept is_left_brace (drop c.args.from c.args.input.now.tokens.now)) c.in_err-behind.field-0.0 c.from_residual.result c.from_residual.ensures.1 (λ n. braces_fail c.args.input.now.text.now (drop c.args.from c.args.input.now.tokens.now) c.args.room n) c.in_err-behind.ensures

pub list::braces-returns-in_err-inner : goal.list::braces-returns-in_err-inner
list::braces-returns-in_err-inner t c = too_deep c.args.input.now.tokens.now c.args.from (braces_at c.args.input.now.text.now c.args.room (drop c.args.from c.args.input.now.tokens.now)) c.in_err-inner.field-0.0 c.from_residual-in_err-inner.result c.from_residual-in_err-inner.ensures.1 c.in_err-inner.ensures.1 (braces_flat c.args.input.now.text.now c.args.room (drop c.args.from c.args.input.now.tokens.now) c.in_ok-behind.field-0-0 (drop c.in_ok-behind.behind c.args.input.now.tokens.now) c.in_err-inner.ensures.0 c.in_ok-behind.ensures.1)

pub list::braces-returns-then-sees_right_brace : goal.list::braces-returns-then-sees_right_brace
list::braces-returns-then-sees_right_brace t c = (omega (arith, c.in_ok-behind.ensures.0), braces_end c.args.input.now.text.now c.args.room c.args.input.now.tokens.now (drop c.args.from c.args.input.now.tokens.now) c.in_ok-inner.inner c.in_ok-behind.field-0-0 c.in_ok-behind.behind c.in_ok-inner.ensures c.in_ok-behind.ensures.1 (sym c.if-sees_right_brace.ensures.value) ∙ ap (λ es. Some (es, (drop (c.in_ok-behind.behind + 1) c.args.input.now.tokens.now))) (sym c.new.ensures))

pub list::braces-returns : goal.list::braces-returns
list::braces-returns t c = as_read c.args.input.now.tokens.now c.args.from c.in_ok-behind.behind (braces_at c.args.input.now.text.now c.args.room (drop c.args.from c.args.input.now.tokens.now)) (initials_at c.args.input.now.text.now c.in_ok-inner.inner (drop c.in_ok-behind.behind c.args.input.now.tokens.now)) c.initials.result (omega (arith, c.in_ok-behind.ensures.0)) (braces_values c.args.input.now.text.now c.args.room (drop c.args.from c.args.input.now.tokens.now) c.in_ok-inner.inner c.in_ok-behind.field-0-0 (drop c.in_ok-behind.behind c.args.input.now.tokens.now) c.in_ok-inner.ensures c.in_ok-behind.ensures.1 (sym c.if-sees_right_brace.ensures.value)) c.initials.ensures

pub list::initial-returns-in_default : goal.list::initial-returns-in_default
list::initial-returns-in_default t c = refuses c.args.input.now.tokens.now c.args.at (initial_at c.args.input.now.text.now c.args.room (drop c.args.at c.args.input.now.tokens.now)) c.refuse.result c.refuse.ensures (ap (initial_at c.args.input.now.text.now c.args.room) c.in_default.ensures.found ∙ initial_none c.args.input.now.text.now c.args.room)

pub list::initial-returns-in_err-values : goal.list::initial-returns-in_err-values
list::initial-returns-in_err-values t c = hands_on c.args.input.now.tokens.now c.args.at c.args.at (initial_at c.args.input.now.text.now c.args.room (drop c.args.at c.args.input.now.tokens.now)) (braces_at c.args.input.now.text.now c.args.room (drop c.args.at c.args.input.now.tokens.now)) c.in_err-values.field-0.0 c.from_residual.result c.from_residual.ensures.1 (λ n. ap (initial_at c.args.input.now.text.now c.args.room) c.in-Some.ensures.found ∙ initial_array c.args.input.now.text.now c.args.room c.in-Some.token (drop (c.args.at + 1) c.args.input.now.tokens.now) (sym c.if-is_left_brace.ensures) ∙ ap (λ ts. and_then (braces_at c.args.input.now.text.now c.args.room ts) (λ values rest. Some (initial.Array c.in-Some.token.span values, rest))) (sym c.in-Some.ensures.found) ∙ rw n) c.in_err-values.ensures

pub list::initial-returns-then-is_left_brace : goal.list::initial-returns-then-is_left_brace
list::initial-returns-then-is_left_brace t c = (omega (arith, c.in_ok-values.ensures.0), ap (initial_at c.args.input.now.text.now c.args.room) c.in-Some.ensures.found ∙ initial_array c.args.input.now.text.now c.args.room c.in-Some.token (drop (c.args.at + 1) c.args.input.now.tokens.now) (sym c.if-is_left_brace.ensures) ∙ ap (λ ts. and_then (braces_at c.args.input.now.text.now c.args.room ts) (λ values rest. Some (initial.Array c.in-Some.token.span values, rest))) (sym c.in-Some.ensures.found) ∙ simp (c.in_ok-values.ensures.1, c.in_ok-array.ensures))

pub list::initial-returns-in_err-value : goal.list::initial-returns-in_err-value
list::initial-returns-in_err-value t c = hands_on c.args.input.now.tokens.now c.args.at c.args.at (initial_at c.args.input.now.text.now c.args.room (drop c.args.at c.args.input.now.tokens.now)) (expr_at c.args.input.now.text.now c.args.room (drop c.args.at c.args.input.now.tokens.now)) c.in_err-value.field-0.0 c.from_residual-in_err-value.result c.from_residual-in_err-value.ensures.1 (λ n. ap (initial_at c.args.input.now.text.now c.args.room) c.in-Some.ensures.found ∙ initial_value c.args.input.now.text.now c.args.room c.in-Some.token (drop (c.args.at + 1) c.args.input.now.tokens.now) (sym c.if-is_left_brace.ensures) ∙ ap (λ ts. and_then (expr_at c.args.input.now.text.now c.args.room ts) (λ e rest. Some (initial.Value e, rest))) (sym c.in-Some.ensures.found) ∙ rw n) c.in_err-value.ensures

pub list::initial-returns : goal.list::initial-returns
list::initial-returns t c = (omega (arith, c.in_ok-value.ensures.0), ap (initial_at c.args.input.now.text.now c.args.room) c.in-Some.ensures.found ∙ initial_value c.args.input.now.text.now c.args.room c.in-Some.token (drop (c.args.at + 1) c.args.input.now.tokens.now) (sym c.if-is_left_brace.ensures) ∙ ap (λ ts. and_then (expr_at c.args.input.now.text.now c.args.room ts) (λ e rest. Some (initial.Value e, rest))) (sym c.in-Some.ensures.found) ∙ simp (c.in_ok-value.ensures.1, c.in_ok-plain.ensures))

pub list::size-returns-then-not-sees_left_bracket-clause-value : goal.list::size-returns-then-not-sees_left_bracket-clause-value
list::size-returns-then-not-sees_left_bracket-clause-value t c = (omega arith, size_none c.args.input.now.text.now c.args.room (drop c.args.at c.args.input.now.tokens.now) (elim c.then-not-sees_left_bracket.branch [ list::size-then-not-sees_left_bracket-via-then-not-sees_left_bracket w ↦ first_false _ (sym w.if-not-sees_left_bracket.ensures) | list::size-then-not-sees_left_bracket-via-else-not-sees_left_bracket+then-sees_brackets w ↦ left_and_pair (sym w.if-not-sees_left_bracket.ensures) (sym w.if-sees_brackets.ensures.value) ]))

pub list::size-returns-in_err-behind-clause-value : goal.list::size-returns-in_err-behind-clause-value
list::size-returns-in_err-behind-clause-value t c = hands_on c.args.input.now.tokens.now c.args.at c.args.at (size_at c.args.input.now.text.now c.args.room (drop c.args.at c.args.input.now.tokens.now)) (accept is_left_bracket (drop c.args.at c.args.input.now.tokens.now)) c.in_err-behind.field-0.0 c.from_residual.result c.from_residual.ensures.1 (λ n. size_fails c.args.input.now.text.now c.args.room (drop c.args.at c.args.input.now.tokens.now) (left_not_pair (sym c.if-not-sees_left_bracket.ensures) (sym c.if-sees_brackets.ensures.value)) n) c.in_err-behind.ensures

pub list::size-returns-in_err-inner-clause-value : goal.list::size-returns-in_err-inner-clause-value
list::size-returns-in_err-inner-clause-value t c = too_deep c.args.input.now.tokens.now c.args.at (size_at c.args.input.now.text.now c.args.room (drop c.args.at c.args.input.now.tokens.now)) c.in_err-inner.field-0.0 c.from_residual-in_err-inner.result c.from_residual-in_err-inner.ensures.1 c.in_err-inner.ensures.1 (size_flat c.args.input.now.text.now c.args.room (drop c.args.at c.args.input.now.tokens.now) c.in_ok-behind.field-0-0 (drop c.in_ok-behind.behind c.args.input.now.tokens.now) c.in_err-inner.ensures.0 (left_not_pair (sym c.if-not-sees_left_bracket.ensures) (sym c.if-sees_brackets.ensures.value)) c.in_ok-behind.ensures.1)

pub list::size-returns-in_err-size-clause-value : goal.list::size-returns-in_err-size-clause-value
list::size-returns-in_err-size-clause-value t c = hands_on c.args.input.now.tokens.now c.in_ok-behind.behind c.args.at (size_at c.args.input.now.text.now c.args.room (drop c.args.at c.args.input.now.tokens.now)) (bracketed_at c.args.input.now.text.now c.in_ok-inner.inner (drop c.in_ok-behind.behind c.args.input.now.tokens.now)) c.in_err-size.field-0.0 c.from_residual-in_err-size.result c.from_residual-in_err-size.ensures.1 (λ n. size_by c.args.input.now.text.now c.args.room (drop c.args.at c.args.input.now.tokens.now) c.in_ok-inner.inner c.in_ok-behind.field-0-0 (drop c.in_ok-behind.behind c.args.input.now.tokens.now) c.in_ok-inner.ensures (left_not_pair (sym c.if-not-sees_left_bracket.ensures) (sym c.if-sees_brackets.ensures.value)) c.in_ok-behind.ensures.1 ∙ rw n) c.in_err-size.ensures

pub list::size-returns-clause-value : goal.list::size-returns-clause-value
list::size-returns-clause-value t c = (omega (arith, c.in_ok-behind.ensures.0, c.in_ok-size.ensures.0), size_by c.args.input.now.text.now c.args.room (drop c.args.at c.args.input.now.tokens.now) c.in_ok-inner.inner c.in_ok-behind.field-0-0 (drop c.in_ok-behind.behind c.args.input.now.tokens.now) c.in_ok-inner.ensures (left_not_pair (sym c.if-not-sees_left_bracket.ensures) (sym c.if-sees_brackets.ensures.value)) c.in_ok-behind.ensures.1 ∙ simp c.in_ok-size.ensures.1)

pub list::size-returns-clause-forward : goal.list::size-returns-clause-forward
list::size-returns-clause-forward t c = let moved = goes_forward is_left_bracket c.args.input.now.tokens.now c.args.at c.in_ok-behind.behind c.in_ok-behind.field-0-0 c.in_ok-behind.ensures.1 in omega (arith, moved, c.in_ok-size.ensures.0)
