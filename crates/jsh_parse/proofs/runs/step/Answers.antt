use Rattle.std.proofs.Common.{◌≡◌, ◌+◌, ◌<◌, Some, None, length, drop, sym, ap, ◌∙◌, arith}
use Rattle.jsh_parse.specs.Reading.{operator_at}
use Rattle.jsh_parse.specs.Runs.{after_turn, resumed, risen, type_tested}
use Rattle.jsh_parse.proofs.RunLemmas.{fails}
use Rattle.jsh_parse.proofs.RunTurns.{completes, turn_raises, turn_fails, turn_tests, turn_waits, done_complete}
use Rattle.jsh_parse.proofs.runs.step.Goals as goal

pub returns-then-run-clause-value : goal.returns-then-run-clause-value
returns-then-run-clause-value c = λ room.
    completes c.args.input.now.text.now room c.args.input.now.tokens.now c.args.waiting.now.items c.completed.new.waiting.items c.args.run c.args.at c.completed.result
    c.if-run.true c.completed.ensures

pub returns-then-run-clause-forward : goal.returns-then-run-clause-forward
returns-then-run-clause-forward c =
    done_complete (length c.args.input.now.tokens.now) c.args.waiting.now.items c.completed.new.waiting.items c.args.run c.args.at c.completed.result c.if-run.true c.completed.ensures

pub returns-in_default-clause-value : goal.returns-in_default-clause-value
returns-in_default-clause-value c = λ room.
    turn_raises c.args.input.now.text.now room c.args.input.now.tokens.now c.args.waiting.now.items c.args.run c.in_ok-raised.field-0 c.args.at
    c.if-run.false (sym c.in_default.ensures.value) c.in_ok-raised.ensures

pub returns-in_err-further-clause-value : goal.returns-in_err-further-clause-value
returns-in_err-further-clause-value c = λ room.
    let text = c.args.input.now.text.now in
    let tokens = c.args.input.now.tokens.now in
    fails tokens (c.args.at + 1) (after_turn text room tokens c.args.waiting.now.items) (resumed text room c.args.waiting.now.items (risen text room c.args.run (drop c.args.at tokens)))
    (type_tested text (drop (c.args.at + 1) tokens)) c.in_err-further.field-0.0 c.from_residual-in_err-further.result c.from_residual-in_err-further.ensures.1
    (turn_fails text room tokens c.args.waiting.now.items c.args.run c.args.at c.if-run.false (sym c.in-Some.ensures.value ∙ ap Some c.in_default-found.is)) c.in_err-further.ensures

pub returns-in_default-found-clause-value : goal.returns-in_default-found-clause-value
returns-in_default-found-clause-value c = λ room.
    turn_tests c.args.input.now.text.now room c.args.input.now.tokens.now c.args.waiting.now.items c.args.run c.in_ok-with_further.field-0 c.in_ok-further.further c.args.at c.in_ok-further.end
    c.if-run.false (sym c.in-Some.ensures.value ∙ ap Some c.in_default-found.is) c.in_ok-further.ensures.1 c.in_ok-with_further.ensures

pub returns-clause-value : goal.returns-clause-value
returns-clause-value c = λ room.
    turn_waits c.args.input.now.text.now room c.args.input.now.tokens.now c.args.waiting.now.items c.push.new.self.items c.args.run c.in-Some-found.operator c.args.at
    c.if-run.false (sym c.in-Some.ensures.value ∙ ap Some c.in-Some-found.is) c.in_ok-push.ensures.items
