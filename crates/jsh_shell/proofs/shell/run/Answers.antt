-- The words are served with their budget, or refused.
use Rattle.std.proofs.Common.{◌≡◌, ℕ, List, Option, None, Some, sym, subst, ◌∙◌, inl, inr}
use Rattle.std.specs.List.{All}
use Rattle.jsh_shell.specs.declared.reports.ClientReport.{ClientReport}
use Rattle.jsh_shell.specs.Journal.{IsServed, IsUnread}
use Rattle.jsh_shell.proofs.shell.run.Goals as goal

pub returns-in-Ok-Some-clause-served : goal.returns-in-Ok-Some-clause-served
returns-in-Ok-Some-clause-served g c = λ budget is.
    let both : Some c.in-Ok-Some.budget ≡ Some budget = sym c.in-Ok-Some.field-0-is ∙ c.in-Ok-Some.ensures ∙ is in
    let same : c.in-Ok-Some.budget ≡ budget = cc in
    subst (λ (b : ℕ). All (λ (r : ClientReport g.row.D-In.Denot g.row.D-Out.Denot). (r.number ≡ 1) × (r.status ≡ c.serve_desk.result.status) × ((given : Option (List ℕ))
    × IsUnread (g.D.Desk.inputs c.args.desk.now) given
    × IsServed b r.number r.status c.serve_desk.result.journal.items given (g.D.In.Source.left r.source) (g.D.Out.Sink.held r.sink)
    0 (g.D.In.Source.faults r.source) 0 (g.D.Out.Sink.faults r.sink))) c.serve_desk.result.clients.items) same c.serve_desk.ensures.served

pub returns-in-Ok-Some-clause-alone : goal.returns-in-Ok-Some-clause-alone
returns-in-Ok-Some-clause-alone g c = λ none. elim (c.serve_desk.ensures.alone none) [
  | inl failed ↦ inl (
    failed.2,
    failed.1,
    λ accepted. failed.0,
    λ refused.
        let both : Some c.in-Ok-Some.budget ≡ None = sym c.in-Ok-Some.field-0-is ∙ c.in-Ok-Some.ensures ∙ refused in absurd cc,
  )
  | inr short ↦ inr short
]

pub returns-in-Ok-None-clause-usage : goal.returns-in-Ok-None-clause-usage
returns-in-Ok-None-clause-usage g c = λ refused k d h.
    let u = c.refuse_words.ensures.usage k d h in
    (u.0, u.1, c.refuse_words.ensures.status, u.2)
