use Rattle.std.proofs.Common.{drop, sym, ap, ◌∙◌, arith, Some, [], ◌∷◌, ◌++◌, suc, ◌+◌, ◌-◌, ◌≤◌, ◌≡◌, add-one, true, false, ℕ, zero}
use Rattle.std.proofs.lemmas.List.{drop-drop}
use Rattle.jsh_parse.specs.Reader.{sees}
use Rattle.jsh_parse.specs.Reading.{name_read}
use Rattle.jsh_parse.proofs.Passing.{hands_on, refuses, next}
use Rattle.jsh_parse.proofs.Pieced.{left_turn}
use Rattle.jsh_decl.specs.Words.{is_star}
use Rattle.jsh_decl.specs.DeclarationReader.{dotted_read}
use Rattle.jsh_decl.specs.DeclarationReading.{dotted_at}
use Rattle.jsh_decl.proofs.DeclarationOnward.{with_parts, dotted_by, dotted_zero, dotted_fails, dotted_ends, dotted_star, dotted_more}
use Rattle.jsh_decl.proofs.names.dotted.Goals as goal

-- no turn is left
ended : (most turn : ℕ) → most ≤ turn → most - turn ≡ zero
ended most turn h = omega arith

pub returns-in_err-part : goal.returns-in_err-part
returns-in_err-part c =
    let tokens = c.args.input.now.tokens.now in
    let text = c.args.input.now.text.now in
    let here = drop c.args.from tokens in
    let left = c.left-most.result in
    let items = c.loop-turn.parts.items in
    let now = drop c.loop-turn.at tokens in
    let k = (left + 1) - (c.loop-turn._turn + 1) in
    hands_on tokens c.loop-turn.at c.args.from (dotted_at text here) (name_read text now)
    c.in_err-part.field-0.0 c.from_residual.result c.from_residual.ensures.1 (λ n.
    dotted_by text here ∙ ap (λ n. with_parts [] (dotted_read n text here)) (ap suc (sym c.left-most.ensures) ∙ sym (add-one left)) ∙
    c.loop-turn.invariant.reads ∙
    ap (λ n. with_parts items (dotted_read n text now)) (left_turn (left + 1) c.loop-turn._turn (omega arith)) ∙
    dotted_fails text items k now n) c.in_err-part.ensures

pub returns-then-not-sees_dot : goal.returns-then-not-sees_dot
returns-then-not-sees_dot c =
    let tokens = c.args.input.now.tokens.now in
    let text = c.args.input.now.text.now in
    let here = drop c.args.from tokens in
    let left = c.left-most.result in
    let items = c.loop-turn.parts.items in
    let now = drop c.loop-turn.at tokens in
    let k = (left + 1) - (c.loop-turn._turn + 1) in
    let rest = drop c.in_ok-part.behind tokens in (
      omega (arith, c.loop-turn.invariant.forward, c.in_ok-part.ensures.0),
      dotted_by text here ∙ ap (λ n. with_parts [] (dotted_read n text here)) (ap suc (sym c.left-most.ensures) ∙ sym (add-one left)) ∙
          c.loop-turn.invariant.reads ∙
          ap (λ n. with_parts items (dotted_read n text now)) (left_turn (left + 1) c.loop-turn._turn (omega arith)) ∙
          dotted_ends text items k now rest c.in_ok-part.part c.in_ok-part.ensures.1 (sym c.if-not-sees_dot.ensures.value) ∙
          ap (λ parts. Some ((parts, false), rest)) (sym (c.from_vec.ensures ∙ c.in_ok-push.ensures.items)),
    )

pub returns-then-sees_star : goal.returns-then-sees_star
returns-then-sees_star c =
    let tokens = c.args.input.now.tokens.now in
    let text = c.args.input.now.text.now in
    let here = drop c.args.from tokens in
    let left = c.left-most.result in
    let items = c.loop-turn.parts.items in
    let now = drop c.loop-turn.at tokens in
    let k = (left + 1) - (c.loop-turn._turn + 1) in
    let rest = drop c.in_ok-part.behind tokens in (
      omega (arith, c.loop-turn.invariant.forward, c.in_ok-part.ensures.0),
      dotted_by text here ∙ ap (λ n. with_parts [] (dotted_read n text here)) (ap suc (sym c.left-most.ensures) ∙ sym (add-one left)) ∙
          c.loop-turn.invariant.reads ∙
          ap (λ n. with_parts items (dotted_read n text now)) (left_turn (left + 1) c.loop-turn._turn (omega arith)) ∙
          dotted_star text items k now rest c.in_ok-part.part c.in_ok-part.ensures.1 (sym c.if-not-sees_dot.ensures.value)
          (ap (sees is_star) (next tokens c.in_ok-part.behind) ∙ sym c.if-sees_star.ensures.value) ∙
          ap (λ us. Some ((items ++ c.in_ok-part.part ∷ [], true), us)) (drop-drop 2 c.in_ok-part.behind tokens) ∙
          ap (λ parts. Some ((parts, true), drop (c.in_ok-part.behind + 2) tokens)) (sym (c.from_vec-then-sees_star.ensures ∙ c.in_ok-push.ensures.items)),
    )

pub loop-turn-preserved : goal.loop-turn-preserved
loop-turn-preserved c =
    let tokens = c.args.input.now.tokens.now in
    let text = c.args.input.now.text.now in
    let here = drop c.args.from tokens in
    let left = c.left-most.result in
    let items = c.loop-turn.parts.items in
    let now = drop c.loop-turn.at tokens in
    let k = (left + 1) - (c.loop-turn._turn + 1) in
    let rest = drop c.in_ok-part.behind tokens in
    record {
      forward = omega (arith, c.loop-turn.invariant.forward, c.in_ok-part.ensures.0);
      reads = c.loop-turn.invariant.reads ∙
          ap (λ n. with_parts items (dotted_read n text now)) (left_turn (left + 1) c.loop-turn._turn (omega arith)) ∙
          dotted_more text items k now rest c.in_ok-part.part c.in_ok-part.ensures.1 (sym c.if-not-sees_dot.ensures.value)
          (ap (sees is_star) (next tokens c.in_ok-part.behind) ∙ sym c.if-sees_star.ensures.value) ∙
          ap (λ us. with_parts (items ++ c.in_ok-part.part ∷ []) (dotted_read k text us)) (next tokens c.in_ok-part.behind) ∙
          ap (λ parts. with_parts parts (dotted_read k text (drop (c.in_ok-part.behind + 1) tokens))) (sym c.in_ok-push.ensures.items);
    }

pub returns : goal.returns
returns c =
    let tokens = c.args.input.now.tokens.now in
    let text = c.args.input.now.text.now in
    let here = drop c.args.from tokens in
    let left = c.left-most.result in
    let items = c.loop-turn.parts.items in
    let now = drop c.loop-turn.at tokens in
    let k = (left + 1) - (c.loop-turn._turn + 1) in
    refuses tokens c.args.from (dotted_at text here) c.refuse.result c.refuse.ensures
    (dotted_by text here ∙ ap (λ n. with_parts [] (dotted_read n text here)) (ap suc (sym c.left-most.ensures) ∙ sym (add-one left)) ∙
    c.loop-turn.invariant.reads ∙
    ap (λ n. with_parts items (dotted_read n text now)) (ended (left + 1) c.loop-turn._turn (omega arith)) ∙ dotted_zero text items now)
