-- The streams come without faults, and the sink holds nothing.
use Rattle.std.proofs.Common.{◌≡◌, ℕ, List, Option, length, arith, ap, sym, subst, ◌∙◌}
use Rattle.jsh_io.specs.Streams.{StreamName, IsStreamWhereTold}
use Rattle.jsh_io.specs.Streams.StreamName.{StandardStream}
use Rattle.jsh_shell.specs.Journal.{IsUnread}
use Rattle.jsh_shell.proofs.RunLemmas.{usage-of}
use Rattle.jsh_shell.proofs.shell.refuse_words.Goals as goal

pub returns-in-Err-clause-journal : goal.returns-in-Err-clause-journal
returns-in-Err-clause-journal g c = c.report_without.ensures.journal ∙ c.new.ensures.items

pub returns-in-Err-clause-status : goal.returns-in-Err-clause-status
returns-in-Err-clause-status g c = c.report_without.ensures.status

pub returns-in-Err-clause-usage : goal.returns-in-Err-clause-usage
returns-in-Err-clause-usage g c = λ k d h.
    let none : length c.report_without.result.clients.items ≡ 0 = ap length (c.report_without.ensures.clients ∙ c.requires.none) in
    absurd (omega (arith, h, none))

pub returns-in-Err-clause-alone : goal.returns-in-Err-clause-alone
returns-in-Err-clause-alone g c = λ e. c.in-Err.ensures.failed

pub returns-in-Err-clause-one : goal.returns-in-Err-clause-one
returns-in-Err-clause-one g c =
    let none : length c.report_without.result.clients.items ≡ 0 = ap length (c.report_without.ensures.clients ∙ c.requires.none) in
    omega (arith, none)

pub refuse-requires-clause-none : goal.refuse-requires-clause-none
refuse-requires-clause-none g c = c.requires.none

pub refuse-requires-clause-room : goal.refuse-requires-clause-room
refuse-requires-clause-room g c = c.requires.room

pub returns-clause-journal : goal.returns-clause-journal
returns-clause-journal g c = c.refuse.ensures.journal

pub returns-clause-status : goal.returns-clause-status
returns-clause-status g c = c.refuse.ensures.status

pub returns-clause-usage : goal.returns-clause-usage
returns-clause-usage g c = λ k d h.
    let s = c.refuse.ensures.usage k d h in
    (s.0, s.1, usage-of _ _ _ _ _ c.in-Ok.ensures.empty c.in-Ok.ensures.fresh_out s.2)

pub returns-clause-alone : goal.returns-clause-alone
returns-clause-alone g c = λ e.
    let one : length c.refuse.result.clients.items ≡ 1 = c.refuse.ensures.one in
    let none : length c.refuse.result.clients.items ≡ 0 = ap length e in
    absurd (omega (arith, one, none))

pub returns-clause-one : goal.returns-clause-one
returns-clause-one g c =
    let one : length c.refuse.result.clients.items ≡ 1 = c.refuse.ensures.one in
    omega (arith, one)

pub returns-in-Err-clause-no_file : goal.returns-in-Err-clause-no_file
returns-in-Err-clause-no_file g c = c.report_without.ensures.no_file

pub returns-clause-no_file : goal.returns-clause-no_file
returns-clause-no_file g c = c.refuse.ensures.no_file

pub returns-in-Err-clause-unread : goal.returns-in-Err-clause-unread
returns-in-Err-clause-unread g c = λ k d h.
    let none : length c.report_without.result.clients.items ≡ 0 = ap length (c.report_without.ensures.clients ∙ c.requires.none) in
    absurd (omega (arith, h, none))

pub returns-in-Err-clause-standard : goal.returns-in-Err-clause-standard
returns-in-Err-clause-standard g c = λ k d h.
    let none : length c.report_without.result.clients.items ≡ 0 = ap length (c.report_without.ensures.clients ∙ c.requires.none) in
    absurd (omega (arith, h, none))

pub returns-clause-unread : goal.returns-clause-unread
returns-clause-unread g c = λ k d h.
    let s = c.refuse.ensures.unread k d h in
    (subst (λ (left : Option (List ℕ)). IsUnread (g.D.Desk.inputs c.args.desk.now) left) (sym s.0) c.in-Ok.ensures.opened, s.1 ∙ c.in-Ok.ensures.fresh_in)

pub returns-clause-standard : goal.returns-clause-standard
returns-clause-standard g c = λ k d h.
    let s = c.refuse.ensures.stream k d h in
    subst (λ (told : Option StreamName). IsStreamWhereTold told StandardStream) (sym s) c.in-Ok.ensures.stream
