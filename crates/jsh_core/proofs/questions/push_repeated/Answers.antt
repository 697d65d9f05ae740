-- One time more.
use Rattle.std.proofs.Common.{List, ℕ, ◌++◌, ap, ◌∙◌, append_assoc}
use Rattle.std.specs.List.{repeat}
use Rattle.jsh_core.proofs.QuestionLemmas.{repeat_more}
use Rattle.jsh_core.proofs.questions.push_repeated.Goals as goal

pub loop-time-preserved : goal.loop-time-preserved
loop-time-preserved c =
    let before = c.args.text.now in
    let part = c.args.part.now in
    let done = c.loop-time._time in
    c.in_ok-push_latin1.ensures.ok
    ∙ ap (λ (text : List ℕ). text ++ part) c.loop-time.invariant
    ∙ append_assoc before (repeat done part) part
    ∙ ap (λ (times : List ℕ). before ++ times) (repeat_more done part)
