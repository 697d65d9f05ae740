-- What the desk told is what the source had left at first, and its streams come without faults.
use Rattle.std.proofs.Common.{◌≡◌, length, arith, ap, ◌∙◌, inl, inr, subst, sym, List, Option}
use Rattle.jsh_io.specs.Streams.{StreamName, IsStreamWhereTold}
use Rattle.jsh_io.specs.Streams.StreamName.{StandardStream}
use Rattle.jsh_io.specs.Count.{Rose}
use Rattle.jsh_snippet.specs.declared.acts.Entry.{Entry}
use Rattle.jsh_core.specs.History.{IsLegal}
use Rattle.jsh_shell.proofs.RunLemmas.{accepted-status, healthy-status, served-causes, served-fresh}
use Rattle.jsh_shell.proofs.shell.serve_desk.Goals as goal

pub returns-in-Err-clause-legal : goal.returns-in-Err-clause-legal
returns-in-Err-clause-legal g c = subst (λ (h : List Entry). IsLegal h) (sym (c.report_without.ensures.journal ∙ c.new.ensures.items)) tt

pub returns-in-Err-clause-framed : goal.returns-in-Err-clause-framed
returns-in-Err-clause-framed g c = inl (c.report_without.ensures.journal ∙ c.new.ensures.items)

pub returns-in-Err-clause-served : goal.returns-in-Err-clause-served
returns-in-Err-clause-served g c = λ k d h.
    let none : length c.report_without.result.clients.items ≡ 0 = ap length (c.report_without.ensures.clients ∙ c.requires.none) in
    absurd (omega (arith, h, none))

pub returns-in-Err-clause-alone : goal.returns-in-Err-clause-alone
returns-in-Err-clause-alone g c = λ e. inl (c.report_without.ensures.status, c.report_without.ensures.journal ∙ c.new.ensures.items, c.in-Err.ensures.failed)

pub returns-in-Err-clause-healthy : goal.returns-in-Err-clause-healthy
returns-in-Err-clause-healthy g c = λ well streams. absurd (well c.in-Err.ensures.failed)

pub returns-in-Err-clause-accepted : goal.returns-in-Err-clause-accepted
returns-in-Err-clause-accepted g c = omega (arith, c.report_without.ensures.status)

pub returns-in-Err-clause-one : goal.returns-in-Err-clause-one
returns-in-Err-clause-one g c =
    let none : length c.report_without.result.clients.items ≡ 0 = ap length (c.report_without.ensures.clients ∙ c.requires.none) in
    omega (arith, none)

pub serve_standard-requires-clause-none : goal.serve_standard-requires-clause-none
serve_standard-requires-clause-none g c = c.requires.none

pub serve_standard-requires-clause-room : goal.serve_standard-requires-clause-room
serve_standard-requires-clause-room g c = c.requires.room

pub serve_standard-requires-clause-empty : goal.serve_standard-requires-clause-empty
serve_standard-requires-clause-empty g c = c.in-Ok.ensures.empty

pub returns-clause-legal : goal.returns-clause-legal
returns-clause-legal g c = c.serve_standard.ensures.legal

pub returns-clause-framed : goal.returns-clause-framed
returns-clause-framed g c = c.serve_standard.ensures.framed

pub returns-clause-served : goal.returns-clause-served
returns-clause-served g c = λ k d h.
    let s = c.serve_standard.ensures.served k d h in (
      s.0,
      s.1,
      (g.D.In.Source.left c.in-Ok.streams.0, c.in-Ok.ensures.opened, served-fresh _ _ _ _ c.in-Ok.ensures.fresh_in c.in-Ok.ensures.fresh_out s.2),
    )

pub returns-clause-alone : goal.returns-clause-alone
returns-clause-alone g c = λ e. inr (c.serve_standard.ensures.alone e)

pub returns-clause-healthy : goal.returns-clause-healthy
returns-clause-healthy g c = λ well streams. healthy-status c.serve_standard.result.status (λ r. Rose 0 (g.D.In.Source.faults r.source)) (λ r. Rose 0 (g.D.Out.Sink.faults r.sink)) c.serve_standard.result.clients.items (λ e. (c.serve_standard.ensures.alone e).0)
    (λ k d h. let s = c.serve_standard.ensures.served k d h in served-causes s.1 (served-fresh _ _ _ _ c.in-Ok.ensures.fresh_in c.in-Ok.ensures.fresh_out s.2)) streams

pub returns-clause-accepted : goal.returns-clause-accepted
returns-clause-accepted g c = accepted-status c.serve_standard.result.status (λ r. Rose 0 (g.D.In.Source.faults r.source)) (λ r. Rose 0 (g.D.Out.Sink.faults r.sink)) c.serve_standard.result.clients.items (λ e. (c.serve_standard.ensures.alone e).0)
    (λ k d h. let s = c.serve_standard.ensures.served k d h in served-causes s.1 (served-fresh _ _ _ _ c.in-Ok.ensures.fresh_in c.in-Ok.ensures.fresh_out s.2))

pub returns-clause-one : goal.returns-clause-one
returns-clause-one g c = c.serve_standard.ensures.one

pub returns-in-Err-clause-no_file : goal.returns-in-Err-clause-no_file
returns-in-Err-clause-no_file g c = c.report_without.ensures.no_file

pub returns-clause-no_file : goal.returns-clause-no_file
returns-clause-no_file g c = c.serve_standard.ensures.no_file

pub returns-in-Err-clause-standard : goal.returns-in-Err-clause-standard
returns-in-Err-clause-standard g c = λ k d h.
    let none : length c.report_without.result.clients.items ≡ 0 = ap length (c.report_without.ensures.clients ∙ c.requires.none) in
    absurd (omega (arith, h, none))

pub returns-in-Err-clause-empty : goal.returns-in-Err-clause-empty
returns-in-Err-clause-empty g c = λ e. c.report_without.ensures.clients ∙ c.requires.none

pub returns-clause-standard : goal.returns-clause-standard
returns-clause-standard g c = λ k d h.
    let s = c.serve_standard.ensures.stream k d h in
    subst (λ (told : Option StreamName). IsStreamWhereTold told StandardStream) (sym s) c.in-Ok.ensures.stream

pub returns-clause-empty : goal.returns-clause-empty
returns-clause-empty g c = c.serve_standard.ensures.empty
