use Rattle.std.proofs.Common.{List, ℕ, ◌++◌, codes, ap, ◌∙◌, append_assoc}
use Rattle.std.specs.List.{repeat}
use Rattle.jsh_snippet.proofs.Repeats.{repeat_more}
use Rattle.jsh_snippet.proofs.naming.push_brackets.Goals as goal

pub loop-pair-preserved : goal.loop-pair-preserved
loop-pair-preserved c =
    let before = c.args.text.now in
    let done = c.loop-pair._pair in
    c.in_ok-push_latin1.ensures.ok
    ∙ ap (λ (text : List ℕ). text ++ codes "[]") c.loop-pair.invariant
    ∙ append_assoc before (repeat done (codes "[]")) (codes "[]")
    ∙ ap (λ (pairs : List ℕ). before ++ pairs) (repeat_more done (codes "[]"))
