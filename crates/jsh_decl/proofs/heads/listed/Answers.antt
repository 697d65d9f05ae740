use Rattle.std.proofs.Common.{drop, sym, ap, ◌∙◌, arith, Some, [], ◌∷◌, ◌++◌, suc, ◌+◌, ◌-◌, add-one}
use Rattle.jsh_parse.proofs.Onward.{prepend}
use Rattle.jsh_parse.proofs.Passing.{hands_on, refuses, next}
use Rattle.jsh_parse.proofs.Turns.{turns_end}
use Rattle.jsh_parse.proofs.Pieced.{left_turn}
use Rattle.jsh_decl.specs.DeclarationReader.{parameters_listed_read}
use Rattle.jsh_decl.specs.DeclarationReading.{parameter_at, listed_at}
use Rattle.jsh_decl.proofs.DeclarationTurns.{comma_fails, comma_ends, comma_goes_on}
use Rattle.jsh_decl.proofs.DeclarationOnward.{listed_by, listed_zero, listed_more}
use Rattle.jsh_decl.proofs.heads.listed.Goals as goal

pub returns-in_err-item : goal.returns-in_err-item
returns-in_err-item c =
    let tokens = c.args.input.now.tokens.now in
    let text = c.args.input.now.text.now in
    let here = drop c.args.from tokens in
    let left = c.left-most.result in
    let items = c.loop-turn.items.items in
    let now = drop c.loop-turn.at tokens in
    hands_on tokens c.loop-turn.at c.args.from (listed_at text here) (parameter_at text now)
    c.in_err-item.field-0.0 c.from_residual.result c.from_residual.ensures.1 (λ n.
    listed_by text here ∙ ap (λ n. prepend [] (parameters_listed_read n text here)) (ap suc (sym c.left-most.ensures) ∙ sym (add-one left)) ∙
    comma_fails (λ n. parameters_listed_read n text) (parameter_at text) (listed_more text) (prepend [] (parameters_listed_read (left + 1) text here))
    ((left + 1) - c.loop-turn._turn) ((left + 1) - (c.loop-turn._turn + 1)) items now (left_turn (left + 1) c.loop-turn._turn
    (omega arith)) c.loop-turn.invariant.reads n) c.in_err-item.ensures

pub returns-then-not-sees_comma : goal.returns-then-not-sees_comma
returns-then-not-sees_comma c =
    let tokens = c.args.input.now.tokens.now in
    let text = c.args.input.now.text.now in
    let here = drop c.args.from tokens in
    let left = c.left-most.result in
    let items = c.loop-turn.items.items in
    let now = drop c.loop-turn.at tokens in
    let rest = (drop c.in_ok-item.behind tokens) in (
      omega (arith, c.loop-turn.invariant.forward, c.in_ok-item.ensures.0),
      listed_by text here ∙ ap (λ n. prepend [] (parameters_listed_read n text here)) (ap suc (sym c.left-most.ensures) ∙ sym (add-one left)) ∙
          comma_ends (λ n. parameters_listed_read n text) (parameter_at text) (listed_more text) (prepend [] (parameters_listed_read (left + 1) text here))
          ((left + 1) - c.loop-turn._turn) ((left + 1) - (c.loop-turn._turn + 1)) items c.in_ok-item.item now rest (left_turn (left + 1) c.loop-turn._turn
          (omega arith)) c.loop-turn.invariant.reads
          c.in_ok-item.ensures.1 (sym c.if-not-sees_comma.ensures.value) ∙
          ap (λ items. Some (items, rest)) (sym (c.from_vec.ensures ∙ c.in_ok-push.ensures.items)),
    )

pub loop-turn-preserved : goal.loop-turn-preserved
loop-turn-preserved c =
    let tokens = c.args.input.now.tokens.now in
    let text = c.args.input.now.text.now in
    let here = drop c.args.from tokens in
    let left = c.left-most.result in
    let items = c.loop-turn.items.items in
    let now = drop c.loop-turn.at tokens in
    let rest = (drop c.in_ok-item.behind tokens) in
    let k = (left + 1) - (c.loop-turn._turn + 1) in
    record {
      forward = omega (arith, c.loop-turn.invariant.forward, c.in_ok-item.ensures.0);
      reads =
          comma_goes_on (λ n. parameters_listed_read n text) (parameter_at text) (listed_more text) (prepend [] (parameters_listed_read
          (left + 1) text here)) ((left + 1) - c.loop-turn._turn) ((left + 1) - (c.loop-turn._turn + 1)) items c.in_ok-item.item now rest (left_turn
          (left + 1) c.loop-turn._turn (omega arith)) c.loop-turn.invariant.reads
          c.in_ok-item.ensures.1 (sym c.if-not-sees_comma.ensures.value) ∙
          ap (λ us. prepend (items ++ c.in_ok-item.item ∷ []) (parameters_listed_read k text us)) (next tokens c.in_ok-item.behind) ∙
          ap (λ items. prepend items (parameters_listed_read k text (drop (c.in_ok-item.behind + 1) tokens))) (sym c.in_ok-push.ensures.items);
    }

pub returns : goal.returns
returns c =
    let tokens = c.args.input.now.tokens.now in
    let text = c.args.input.now.text.now in
    let here = drop c.args.from tokens in
    let left = c.left-most.result in
    let items = c.loop-turn.items.items in
    let now = drop c.loop-turn.at tokens in
    refuses tokens c.args.from (listed_at text here) c.refuse.result c.refuse.ensures
    (listed_by text here ∙ ap (λ n. prepend [] (parameters_listed_read n text here)) (ap suc (sym c.left-most.ensures) ∙ sym (add-one left)) ∙
    turns_end (λ n. parameters_listed_read n text) (listed_zero text) (prepend [] (parameters_listed_read (left + 1) text here))
    ((left + 1) - c.loop-turn._turn) items now (omega arith)
    c.loop-turn.invariant.reads)
