use Rattle.std.proofs.Common.{suc, ◌+◌, ◌-◌, [], Some, drop, sym, ap, ◌∙◌, arith, add-one}
use Rattle.jsh_parse.specs.StatementReader.{labels_read}
use Rattle.jsh_parse.specs.StatementReading.{labels_at, label_at}
use Rattle.jsh_parse.proofs.Onward.{prepend}
use Rattle.jsh_parse.proofs.Passing.{hands_on, refuses}
use Rattle.jsh_parse.proofs.Turns.{turns_end}
use Rattle.jsh_parse.proofs.Pieced.{left_turn}
use Rattle.jsh_parse.proofs.LabelOnward.{labels_by, labels_zero, labels_fail, labels_stay, labels_more}
use Rattle.jsh_parse.proofs.labels.labels.Goals as goal

pub returns-in_err-label : goal.returns-in_err-label
returns-in_err-label c =
    let tokens = c.args.input.now.tokens.now in
    let text = c.args.input.now.text.now in
    let front = drop c.args.from tokens in
    let left = c.left-most.result in
    let labels = c.loop-turn.labels.items in
    let now = drop c.loop-turn.at tokens in
    hands_on tokens c.loop-turn.at c.args.from (labels_at text front) (label_at text now)
    c.in_err-label.field-0.0 c.from_residual.result c.from_residual.ensures.1 (λ n.
    labels_by text front ∙ ap (λ n. prepend [] (labels_read n text front)) (ap suc (sym c.left-most.ensures) ∙ sym (add-one left)) ∙
    c.loop-turn.invariant.reads ∙ ap (λ n. prepend labels (labels_read n text now)) (left_turn (left + 1) c.loop-turn._turn (omega arith)) ∙
    labels_fail text labels ((left + 1) - (c.loop-turn._turn + 1)) now n) c.in_err-label.ensures

pub returns-then-not-sees_label : goal.returns-then-not-sees_label
returns-then-not-sees_label c =
    let tokens = c.args.input.now.tokens.now in
    let text = c.args.input.now.text.now in
    let front = drop c.args.from tokens in
    let left = c.left-most.result in
    let labels = c.loop-turn.labels.items in
    let now = drop c.loop-turn.at tokens in (
      omega (arith, c.loop-turn.invariant.forward, c.in_ok-label.ensures.0),
      labels_by text front ∙ ap (λ n. prepend [] (labels_read n text front)) (ap suc (sym c.left-most.ensures) ∙ sym (add-one left)) ∙
          c.loop-turn.invariant.reads ∙ ap (λ n. prepend labels (labels_read n text now)) (left_turn (left + 1) c.loop-turn._turn (omega arith)) ∙
          labels_stay text labels ((left + 1) - (c.loop-turn._turn + 1)) now c.in_ok-label.label
          (drop c.in_ok-label.behind tokens) c.in_ok-label.ensures.1 (sym c.if-not-sees_label.ensures.value) ∙
          ap (λ items. Some (items, (drop c.in_ok-label.behind tokens))) (sym (c.from_vec.ensures ∙ c.in_ok-push.ensures.items)),
    )

pub loop-turn-preserved : goal.loop-turn-preserved
loop-turn-preserved c =
    let tokens = c.args.input.now.tokens.now in
    let text = c.args.input.now.text.now in
    let left = c.left-most.result in
    let labels = c.loop-turn.labels.items in
    let now = drop c.loop-turn.at tokens in
    record {
      forward = omega (arith, c.loop-turn.invariant.forward, c.in_ok-label.ensures.0);
      reads = c.loop-turn.invariant.reads ∙ ap (λ n. prepend labels (labels_read n text now)) (left_turn (left + 1) c.loop-turn._turn (omega arith)) ∙
          labels_more text labels ((left + 1) - (c.loop-turn._turn + 1)) now c.in_ok-label.label
          (drop c.in_ok-label.behind tokens) c.in_ok-label.ensures.1 (sym c.if-not-sees_label.ensures.value) ∙
          ap (λ items. prepend items (labels_read ((left + 1) - (c.loop-turn._turn + 1)) text (drop c.in_ok-label.behind tokens)))
          (sym c.in_ok-push.ensures.items);
    }

pub returns : goal.returns
returns c =
    let tokens = c.args.input.now.tokens.now in
    let text = c.args.input.now.text.now in
    let front = drop c.args.from tokens in
    let left = c.left-most.result in
    refuses tokens c.args.from (labels_at text front) c.refuse.result c.refuse.ensures
    (labels_by text front ∙ ap (λ n. prepend [] (labels_read n text front)) (ap suc (sym c.left-most.ensures) ∙ sym (add-one left)) ∙
    turns_end (λ n ts. labels_read n text ts) (λ ts. labels_zero text ts)
    (prepend [] (labels_read (left + 1) text front))
    ((left + 1) - c.loop-turn._turn) c.loop-turn.labels.items (drop c.loop-turn.at tokens) (omega arith) c.loop-turn.invariant.reads)
