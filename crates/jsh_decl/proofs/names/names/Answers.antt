use Rattle.std.proofs.Common.{drop, sym, ap, ◌∙◌, arith, Some, [], ◌∷◌, ◌++◌, suc, ◌+◌, ◌-◌, add-one}
use Rattle.jsh_parse.specs.Reading.{name_read}
use Rattle.jsh_parse.proofs.Onward.{prepend}
use Rattle.jsh_parse.proofs.Passing.{hands_on, refuses, next}
use Rattle.jsh_parse.proofs.Turns.{turns_end}
use Rattle.jsh_parse.proofs.Pieced.{left_turn}
use Rattle.jsh_decl.specs.DeclarationReader.{names_read}
use Rattle.jsh_decl.specs.DeclarationReading.{names_at}
use Rattle.jsh_decl.proofs.DeclarationTurns.{comma_fails, comma_ends, comma_goes_on}
use Rattle.jsh_decl.proofs.DeclarationOnward.{names_by, names_zero, names_more}
use Rattle.jsh_decl.proofs.names.names.Goals as goal

pub returns-in_err-name : goal.returns-in_err-name
returns-in_err-name c =
    let tokens = c.args.input.now.tokens.now in
    let text = c.args.input.now.text.now in
    let here = drop c.args.from tokens in
    let left = c.left-most.result in
    let items = c.loop-turn.names.items in
    let now = drop c.loop-turn.at tokens in
    hands_on tokens c.loop-turn.at c.args.from (names_at text here) (name_read text now)
    c.in_err-name.field-0.0 c.from_residual.result c.from_residual.ensures.1 (λ n.
    names_by text here ∙ ap (λ n. prepend [] (names_read n text here)) (ap suc (sym c.left-most.ensures) ∙ sym (add-one left)) ∙
    comma_fails (λ n. names_read n text) (name_read text) (names_more text) (prepend [] (names_read (left + 1) text here)) ((left + 1) - c.loop-turn._turn)
    ((left + 1) - (c.loop-turn._turn + 1)) items now (left_turn (left + 1) c.loop-turn._turn
    (omega arith)) c.loop-turn.invariant.reads n) c.in_err-name.ensures

pub returns-then-not-sees_comma : goal.returns-then-not-sees_comma
returns-then-not-sees_comma c =
    let tokens = c.args.input.now.tokens.now in
    let text = c.args.input.now.text.now in
    let here = drop c.args.from tokens in
    let left = c.left-most.result in
    let items = c.loop-turn.names.items in
    let now = drop c.loop-turn.at tokens in
    let rest = (drop c.in_ok-name.behind tokens) in (
      omega (arith, c.loop-turn.invariant.forward, c.in_ok-name.ensures.0),
      names_by text here ∙ ap (λ n. prepend [] (names_read n text here)) (ap suc (sym c.left-most.ensures) ∙ sym (add-one left)) ∙
          comma_ends (λ n. names_read n text) (name_read text) (names_more text) (prepend [] (names_read (left + 1) text here))
          ((left + 1) - c.loop-turn._turn) ((left + 1) - (c.loop-turn._turn + 1)) items c.in_ok-name.name now rest (left_turn (left + 1) c.loop-turn._turn
          (omega arith)) c.loop-turn.invariant.reads
          c.in_ok-name.ensures.1 (sym c.if-not-sees_comma.ensures.value) ∙
          ap (λ items. Some (items, rest)) (sym (c.from_vec.ensures ∙ c.in_ok-push.ensures.items)),
    )

pub loop-turn-preserved : goal.loop-turn-preserved
loop-turn-preserved c =
    let tokens = c.args.input.now.tokens.now in
    let text = c.args.input.now.text.now in
    let here = drop c.args.from tokens in
    let left = c.left-most.result in
    let items = c.loop-turn.names.items in
    let now = drop c.loop-turn.at tokens in
    let rest = (drop c.in_ok-name.behind tokens) in
    let k = (left + 1) - (c.loop-turn._turn + 1) in
    record {
      forward = omega (arith, c.loop-turn.invariant.forward, c.in_ok-name.ensures.0);
      reads =
          comma_goes_on (λ n. names_read n text) (name_read text) (names_more text) (prepend [] (names_read (left + 1) text here))
          ((left + 1) - c.loop-turn._turn) ((left + 1) - (c.loop-turn._turn + 1)) items c.in_ok-name.name now rest (left_turn (left + 1) c.loop-turn._turn
          (omega arith)) c.loop-turn.invariant.reads
          c.in_ok-name.ensures.1 (sym c.if-not-sees_comma.ensures.value) ∙
          ap (λ us. prepend (items ++ c.in_ok-name.name ∷ []) (names_read k text us)) (next tokens c.in_ok-name.behind) ∙
          ap (λ items. prepend items (names_read k text (drop (c.in_ok-name.behind + 1) tokens))) (sym c.in_ok-push.ensures.items);
    }

pub returns : goal.returns
returns c =
    let tokens = c.args.input.now.tokens.now in
    let text = c.args.input.now.text.now in
    let here = drop c.args.from tokens in
    let left = c.left-most.result in
    let items = c.loop-turn.names.items in
    let now = drop c.loop-turn.at tokens in
    refuses tokens c.args.from (names_at text here) c.refuse.result c.refuse.ensures
    (names_by text here ∙ ap (λ n. prepend [] (names_read n text here)) (ap suc (sym c.left-most.ensures) ∙ sym (add-one left)) ∙
    turns_end (λ n. names_read n text) (names_zero text) (prepend [] (names_read (left + 1) text here)) ((left + 1) - c.loop-turn._turn) items now (omega arith)
    c.loop-turn.invariant.reads)
