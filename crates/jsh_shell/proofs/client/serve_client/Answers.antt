-- From the engine's opening to its close.
use Rattle.std.proofs.Common.{◌≡◌, ℕ, ◌++◌, ◌∷◌, [], List, length, arith, sym, ◌∙◌, ap, subst, refl, inl, inr}
use Rattle.jsh_snippet.specs.declared.acts.Entry.{Entry}
use Rattle.jsh_snippet.specs.declared.acts.Act.TheVariants as act
use Rattle.jsh_core.specs.History.{IsLegal}
use Rattle.jsh_shell.specs.declared.reports.ClientReport.{ClientReport}
use Rattle.jsh_shell.specs.Journal.{entry_of, IsFramed, IsServed}
use Rattle.jsh_shell.specs.declared.session.Session.{Session}
use Rattle.jsh_shell.specs.Serving.{IsServedBy}
use Rattle.jsh_shell.proofs.RunLemmas.{allows-enter, allows-close-empty, allows-close, open-first, two-more, is-served, began, framed-one, framed-none, not-empty, sole}
use Rattle.jsh_shell.proofs.client.serve_client.Goals as goal

pub returns-in-Err-clause-legal : goal.returns-in-Err-clause-legal
returns-in-Err-clause-legal g c = subst (λ (h : List Entry). IsLegal h) (sym (c.report_without.ensures.journal ∙ c.new-in-Err.ensures.items)) tt

pub returns-in-Err-clause-served : goal.returns-in-Err-clause-served
returns-in-Err-clause-served g c = λ k d h.
    let none : length c.report_without.result.clients.items ≡ 0 = ap length (c.report_without.ensures.clients ∙ c.requires.none) in
    absurd (omega (arith, h, none))

pub returns-in-Err-clause-alone : goal.returns-in-Err-clause-alone
returns-in-Err-clause-alone g c = λ e. (c.report_without.ensures.status, inl (c.report_without.ensures.journal ∙ c.new-in-Err.ensures.items))

pub returns-in-Err-clause-one : goal.returns-in-Err-clause-one
returns-in-Err-clause-one g c =
    let none : length c.report_without.result.clients.items ≡ 0 = ap length (c.report_without.ensures.clients ∙ c.requires.none) in
    omega (arith, none)

pub returns-in-Err-clause-framed : goal.returns-in-Err-clause-framed
returns-in-Err-clause-framed g c = inl (c.report_without.ensures.journal ∙ c.new-in-Err.ensures.items)

pub enter_first-requires-clause-first : goal.enter_first-requires-clause-first
enter_first-requires-clause-first g c = c.in-Ok.ensures.empty

pub enter_first-requires-clause-allows : goal.enter_first-requires-clause-allows
enter_first-requires-clause-allows g c = allows-enter c.in-Ok.core c.in-Ok.ensures.empty

pub close-requires : goal.close-requires
close-requires g c = allows-close-empty c.enter_first.new.core c.in-Err-enter_first.ensures.err

pub returns-in-Err-enter_first-clause-legal : goal.returns-in-Err-enter_first-clause-legal
returns-in-Err-enter_first-clause-legal g c = subst (λ (h : List Entry). IsLegal h) (sym (c.report_without-in-Err-enter_first.ensures.journal ∙ c.into_history.ensures.items)) c.into_history.ensures.legal

pub returns-in-Err-enter_first-clause-served : goal.returns-in-Err-enter_first-clause-served
returns-in-Err-enter_first-clause-served g c = λ k d h.
    let none : length c.report_without-in-Err-enter_first.result.clients.items ≡ 0 = ap length (c.report_without-in-Err-enter_first.ensures.clients ∙ c.requires.none) in
    absurd (omega (arith, h, none))

pub returns-in-Err-enter_first-clause-alone : goal.returns-in-Err-enter_first-clause-alone
returns-in-Err-enter_first-clause-alone g c = λ e.
    let journal : c.report_without-in-Err-enter_first.result.journal.items ≡ entry_of 0 act.Close ∷ [] = c.report_without-in-Err-enter_first.ensures.journal ∙ c.into_history.ensures.items ∙ c.close.ensures
    ∙ ap (λ (h : List Entry). h ++ entry_of 0 act.Close ∷ []) c.in-Err-enter_first.ensures.err in
    (c.report_without-in-Err-enter_first.ensures.status, inr journal)

pub returns-in-Err-enter_first-clause-one : goal.returns-in-Err-enter_first-clause-one
returns-in-Err-enter_first-clause-one g c =
    let none : length c.report_without-in-Err-enter_first.result.clients.items ≡ 0 = ap length (c.report_without-in-Err-enter_first.ensures.clients ∙ c.requires.none) in
    omega (arith, none)

pub returns-in-Err-enter_first-clause-framed : goal.returns-in-Err-enter_first-clause-framed
returns-in-Err-enter_first-clause-framed g c =
    let journal : c.report_without-in-Err-enter_first.result.journal.items ≡ entry_of 0 act.Close ∷ [] = c.report_without-in-Err-enter_first.ensures.journal ∙ c.into_history.ensures.items ∙ c.close.ensures
    ∙ ap (λ (h : List Entry). h ++ entry_of 0 act.Close ∷ []) c.in-Err-enter_first.ensures.err in
    inr (subst (λ (n : ℕ). IsFramed n c.report_without-in-Err-enter_first.result.journal.items)
    (sym (ap length (c.report_without-in-Err-enter_first.ensures.clients ∙ c.requires.none))) (framed-none _ journal))

pub serve_pieces-served-requires-clause-open : goal.serve_pieces-served-requires-clause-open
serve_pieces-served-requires-clause-open g c = open-first c.enter_first.new.core c.in-Ok-enter_first.ensures.ok

pub serve_pieces-served-requires-clause-piece : goal.serve_pieces-served-requires-clause-piece
serve_pieces-served-requires-clause-piece g c = c.requires.piece

pub leave-status-requires : goal.leave-status-requires
leave-status-requires g c = c.serve_pieces-served.ensures.open

pub close-requires-2 : goal.close-requires-2
close-requires-2 g c = allows-close c.serve_pieces-served.new.session.core c.leave-status.new.core c.serve_pieces-served.ensures.open c.leave-status.ensures.grows

pub push_report-requires : goal.push_report-requires
push_report-requires g c = c.requires.room

pub returns-clause-legal : goal.returns-clause-legal
returns-clause-legal g c = subst (λ (h : List Entry). IsLegal h) (sym (c.report_without-2.ensures.journal ∙ c.into_history-2.ensures.items)) c.into_history-2.ensures.legal

pub returns-clause-served : goal.returns-clause-served
returns-clause-served g c =
    let journal : c.report_without-2.result.journal.items ≡ c.serve_pieces-served.new.session.core ++ entry_of 1 act.Leave ∷ entry_of 0 act.Close ∷ []
    = c.report_without-2.ensures.journal ∙ c.into_history-2.ensures.items ∙ two-more _ _ _ _ _ c.leave-status.ensures.grows c.close-2.ensures in
    let by : IsServedBy c.args.budget 1 c.serve_pieces-served.result (record { core = entry_of 0 act.Enter ∷ []; last_turn = 0; cursor = 0 }) c.serve_pieces-served.new.session (g.I.Source.left c.args.source) (g.I.Source.left c.serve_pieces-served.new.source) (g.O.Sink.held c.args.sink) (g.O.Sink.held c.serve_pieces-served.new.sink)
    (g.I.Source.faults c.args.source) (g.I.Source.faults c.serve_pieces-served.new.source) (g.O.Sink.faults c.args.sink) (g.O.Sink.faults c.serve_pieces-served.new.sink)
    = subst (λ (h : List Entry). let first : Session = record { core = h; last_turn = 0; cursor = 0 } in IsServedBy c.args.budget 1 c.serve_pieces-served.result first c.serve_pieces-served.new.session (g.I.Source.left c.args.source) (g.I.Source.left c.serve_pieces-served.new.source) (g.O.Sink.held c.args.sink) (g.O.Sink.held c.serve_pieces-served.new.sink)
    (g.I.Source.faults c.args.source) (g.I.Source.faults c.serve_pieces-served.new.source) (g.O.Sink.faults c.args.sink) (g.O.Sink.faults c.serve_pieces-served.new.sink))
    c.in-Ok-enter_first.ensures.ok c.serve_pieces-served.ensures.served in
    sole (λ (r : ClientReport g.row.I.Denot g.row.O.Denot). (r.number ≡ 1) × (r.status ≡ c.report_without-2.result.status)
    × IsServed c.args.budget r.number r.status c.report_without-2.result.journal.items (g.I.Source.left c.args.source) (g.I.Source.left r.source) (g.O.Sink.held r.sink)
    (g.I.Source.faults c.args.source) (g.I.Source.faults r.source) (g.O.Sink.faults c.args.sink) (g.O.Sink.faults r.sink))
    c.report_without-2.result.clients.items
    (record { number = 1; status = c.leave-status.result; source = c.serve_pieces-served.new.source; sink = c.leave-status.new.sink })
    (c.report_without-2.ensures.clients ∙ c.push_report.ensures ∙ ap (λ xs. xs ++ record { number = 1; status = c.leave-status.result; source = c.serve_pieces-served.new.source; sink = c.leave-status.new.sink } ∷ []) c.requires.none)
    (refl, sym c.report_without-2.ensures.status, is-served c.args.budget c.serve_pieces-served.result c.leave-status.result c.serve_pieces-served.new.session c.report_without-2.result.journal.items _ _ _ _ _ _ _ _ _ _ journal c.requires.empty by c.leave-status.ensures.written)

pub returns-clause-alone : goal.returns-clause-alone
returns-clause-alone g c = λ e.
    let one : length c.report_without-2.result.clients.items ≡ 1 = ap length (c.report_without-2.ensures.clients ∙ c.push_report.ensures ∙ ap (λ xs. xs ++ record { number = 1; status = c.leave-status.result; source = c.serve_pieces-served.new.source; sink = c.leave-status.new.sink } ∷ []) c.requires.none) in
    let none : length c.report_without-2.result.clients.items ≡ 0 = ap length e in
    absurd (omega (arith, one, none))

pub returns-clause-one : goal.returns-clause-one
returns-clause-one g c =
    let one : length c.report_without-2.result.clients.items ≡ 1 = ap length (c.report_without-2.ensures.clients ∙ c.push_report.ensures ∙ ap (λ xs. xs ++ record { number = 1; status = c.leave-status.result; source = c.serve_pieces-served.new.source; sink = c.leave-status.new.sink } ∷ []) c.requires.none) in
    omega (arith, one)

pub returns-clause-framed : goal.returns-clause-framed
returns-clause-framed g c =
    let journal : c.report_without-2.result.journal.items ≡ c.serve_pieces-served.new.session.core ++ entry_of 1 act.Leave ∷ entry_of 0 act.Close ∷ []
    = c.report_without-2.ensures.journal ∙ c.into_history-2.ensures.items ∙ two-more _ _ _ _ _ c.leave-status.ensures.grows c.close-2.ensures in
    let by : IsServedBy c.args.budget 1 c.serve_pieces-served.result (record { core = entry_of 0 act.Enter ∷ []; last_turn = 0; cursor = 0 }) c.serve_pieces-served.new.session (g.I.Source.left c.args.source) (g.I.Source.left c.serve_pieces-served.new.source) (g.O.Sink.held c.args.sink) (g.O.Sink.held c.serve_pieces-served.new.sink)
    (g.I.Source.faults c.args.source) (g.I.Source.faults c.serve_pieces-served.new.source) (g.O.Sink.faults c.args.sink) (g.O.Sink.faults c.serve_pieces-served.new.sink)
    = subst (λ (h : List Entry). let first : Session = record { core = h; last_turn = 0; cursor = 0 } in IsServedBy c.args.budget 1 c.serve_pieces-served.result first c.serve_pieces-served.new.session (g.I.Source.left c.args.source) (g.I.Source.left c.serve_pieces-served.new.source) (g.O.Sink.held c.args.sink) (g.O.Sink.held c.serve_pieces-served.new.sink)
    (g.I.Source.faults c.args.source) (g.I.Source.faults c.serve_pieces-served.new.source) (g.O.Sink.faults c.args.sink) (g.O.Sink.faults c.serve_pieces-served.new.sink))
    c.in-Ok-enter_first.ensures.ok c.serve_pieces-served.ensures.served in
    let one : length c.report_without-2.result.clients.items ≡ 1 = ap length (c.report_without-2.ensures.clients ∙ c.push_report.ensures ∙ ap (λ xs. xs ++ record { number = 1; status = c.leave-status.result; source = c.serve_pieces-served.new.source; sink = c.leave-status.new.sink } ∷ []) c.requires.none) in
    inr (subst (λ (n : ℕ). IsFramed n c.report_without-2.result.journal.items) (sym one) (framed-one c.serve_pieces-served.new.session.core _ journal (began _ _ _ _ _ _ _ _ _ _ _ by)))

pub returns-in-Err-clause-no_file : goal.returns-in-Err-clause-no_file
returns-in-Err-clause-no_file g c = c.report_without.ensures.no_file

pub returns-in-Err-enter_first-clause-no_file : goal.returns-in-Err-enter_first-clause-no_file
returns-in-Err-enter_first-clause-no_file g c = c.report_without-in-Err-enter_first.ensures.no_file

pub returns-clause-no_file : goal.returns-clause-no_file
returns-clause-no_file g c = c.report_without-2.ensures.no_file

pub returns-in-Err-clause-stream : goal.returns-in-Err-clause-stream
returns-in-Err-clause-stream g c = λ k d h.
    let none : length c.report_without.result.clients.items ≡ 0 = ap length (c.report_without.ensures.clients ∙ c.requires.none) in
    absurd (omega (arith, h, none))

pub returns-in-Err-clause-empty : goal.returns-in-Err-clause-empty
returns-in-Err-clause-empty g c = λ e. c.report_without.ensures.clients ∙ c.requires.none

pub returns-in-Err-enter_first-clause-stream : goal.returns-in-Err-enter_first-clause-stream
returns-in-Err-enter_first-clause-stream g c = λ k d h.
    let none : length c.report_without-in-Err-enter_first.result.clients.items ≡ 0 = ap length (c.report_without-in-Err-enter_first.ensures.clients ∙ c.requires.none) in
    absurd (omega (arith, h, none))

pub returns-in-Err-enter_first-clause-empty : goal.returns-in-Err-enter_first-clause-empty
returns-in-Err-enter_first-clause-empty g c = λ e. c.report_without-in-Err-enter_first.ensures.clients ∙ c.requires.none

pub returns-clause-stream : goal.returns-clause-stream
returns-clause-stream g c =
    sole (λ (r : ClientReport g.row.I.Denot g.row.O.Denot). g.O.Sink.stream r.sink ≡ g.O.Sink.stream c.args.sink)
    c.report_without-2.result.clients.items
    (record { number = 1; status = c.leave-status.result; source = c.serve_pieces-served.new.source; sink = c.leave-status.new.sink })
    (c.report_without-2.ensures.clients ∙ c.push_report.ensures ∙ ap (λ xs. xs ++ record { number = 1; status = c.leave-status.result; source = c.serve_pieces-served.new.source; sink = c.leave-status.new.sink } ∷ []) c.requires.none)
    (c.leave-status.ensures.stream ∙ c.serve_pieces-served.ensures.stream)

pub returns-clause-empty : goal.returns-clause-empty
returns-clause-empty g c = λ e.
    let journal : c.report_without-2.result.journal.items ≡ c.serve_pieces-served.new.session.core ++ entry_of 1 act.Leave ∷ entry_of 0 act.Close ∷ []
    = c.report_without-2.ensures.journal ∙ c.into_history-2.ensures.items ∙ two-more _ _ _ _ _ c.leave-status.ensures.grows c.close-2.ensures in
    absurd (not-empty c.serve_pieces-served.new.session.core _ (sym journal ∙ e))
