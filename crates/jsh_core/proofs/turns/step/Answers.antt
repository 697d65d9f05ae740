-- The last step of a body returns the text of its value.
use Rattle.std.proofs.Common.{◌≡◌, ℕ, List, [], Bool, false, IsTrue, Some, rules, ap, sym, subst, ◌∙◌}
use Rattle.std.specs.Fmt.{signed_decimal}
use Rattle.jsh_sum.specs.Sum.{value_of}
use Rattle.jsh_core.specs.declared.world.Thread.{Thread}
use Rattle.jsh_core.specs.Parts.{world_of}
use Rattle.jsh_core.specs.State.{numbered}
use Rattle.jsh_core.specs.Threads.{performed}
use Rattle.jsh_core.specs.Threads.Next.{Returns}
use Rattle.jsh_core.proofs.TurnLemmas.{stepped-returns}
use Rattle.jsh_core.proofs.turns.step.Goals as goal

pub returns-clause-ok : goal.returns-clause-ok
returns-clause-ok c =
    let text : c.in_ok-text.text ≡ signed_decimal (value_of c.in-Some-get.frame.now.body.sum) = search rules in
    let there : numbered c.args.world.now.threads.items c.args.number ≡ Some c.in-Some.thread.now =
    ap (λ (xs : List Thread). numbered xs c.args.number) (sym c.deref.ensures.value) ∙ sym c.in-Some.ensures in
    c.end_thread.ensures.after c.in-Some.thread.now c.in-Some-get.frame.now [] there
    ∙ ap (λ (x : List ℕ). performed (world_of c.args.world.now) c.args.number c.in-Some.thread.now c.in-Some-get.frame.now [] (Returns x)) text
    ∙ sym (stepped-returns (world_of c.args.world.now) c.args.number c.in-Some.thread.now c.in-Some-get.frame.now (sym there) c.in-Some-get.ensures.value
    (λ e. let no : IsTrue false = subst (λ (b : Bool). IsTrue b) c.if-is_empty.false (c.is_empty.ensures.1 e) in cc))
