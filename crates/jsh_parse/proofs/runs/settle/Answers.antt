use Rattle.std.proofs.Common.{◌≡◌, length, drop, sym, ap, ◌∙◌, subst, arith}
use Rattle.jsh_parse.specs.Runs.{begun, resumed, risen, after, after_turn, work, TurnGoesOn}
use Rattle.jsh_parse.proofs.RunLemmas.{passes}
use Rattle.jsh_parse.proofs.RunTurns.{goes_on}
use Rattle.jsh_parse.proofs.runs.settle.Goals as goal

pub turns-init : goal.turns-init
turns-init c = record {
  forward = omega arith;
  reads = λ room. ap (λ r. resumed c.args.input.now.text.now room c.args.waiting.now.items (risen c.args.input.now.text.now room r (drop c.args.from c.args.input.now.tokens.now))) (sym c.begun-run.ensures);
}

pub turns-preserved : goal.turns-preserved
turns-preserved c =
    let tokens = c.args.input.now.tokens.now in
    let on = subst (TurnGoesOn (length tokens) c.turns.at (work (length tokens) c.turns.waiting.items c.turns.run c.turns.at) c.step.new.waiting.items) c.in-Onward.is c.in_ok-turn.ensures.forward in
    record {
      forward = omega (arith, c.turns.invariant.forward, on.0);
      reads = λ room. c.turns.invariant.reads room ∙ c.in_ok-turn.ensures.value room ∙ ap (after_turn c.args.input.now.text.now room tokens c.step.new.waiting.items) c.in-Onward.is;
    }

pub turns-smaller : goal.turns-smaller
turns-smaller c =
    let tokens = c.args.input.now.tokens.now in
    (subst (TurnGoesOn (length tokens) c.turns.at (work (length tokens) c.turns.waiting.items c.turns.run c.turns.at) c.step.new.waiting.items) c.in-Onward.is c.in_ok-turn.ensures.forward).1

pub returns-in_err-turn-clause-value : goal.returns-in_err-turn-clause-value
returns-in_err-turn-clause-value c = λ room.
    let text = c.args.input.now.text.now in
    let tokens = c.args.input.now.tokens.now in
    passes (after_turn text room tokens c.step.new.waiting.items) (after text room tokens c.step.new.waiting.items)
    (resumed text room c.args.waiting.now.items (risen text room (begun c.args.operand c.args.height) (drop c.args.from tokens)))
    (resumed text room c.turns.waiting.items (risen text room c.turns.run (drop c.turns.at tokens)))
    c.in_err-turn.field-0.0 c.from_residual.result c.from_residual.ensures.1 (c.turns.invariant.reads room) (c.in_err-turn.ensures.value room)

pub returns-in-Ends-clause-value : goal.returns-in-Ends-clause-value
returns-in-Ends-clause-value c = λ room.
    c.turns.invariant.reads room ∙ c.in_ok-turn.ensures.value room ∙ ap (after_turn c.args.input.now.text.now room c.args.input.now.tokens.now c.step.new.waiting.items) c.in-Ends.is

pub returns-in-Ends-clause-forward : goal.returns-in-Ends-clause-forward
returns-in-Ends-clause-forward c =
    let tokens = c.args.input.now.tokens.now in
    goes_on (length tokens) c.args.from c.turns.at c.in-Ends.next c.turns.invariant.forward
    (subst (TurnGoesOn (length tokens) c.turns.at (work (length tokens) c.turns.waiting.items c.turns.run c.turns.at) c.step.new.waiting.items) c.in-Ends.is c.in_ok-turn.ensures.forward)
