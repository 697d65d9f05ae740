-- The turns are taken, and the last act is performed.
use Rattle.std.proofs.Common.{◌≡◌, ◌≤◌, ◌<◌, ap, sym, ◌∙◌, refl, arith, subst, length, Err}
use Rattle.jsh_snippet.specs.declared.acts.Act.{Act}
use Rattle.jsh_core.specs.Acts.{is_last}
use Rattle.jsh_core.specs.Limits.{most_entries}
use Rattle.jsh_core.specs.History.{MayDo}
use Rattle.jsh_shell.specs.Serving.{Fails, Shows}
use Rattle.jsh_shell.specs.Transcript.{is_turn}
use Rattle.jsh_shell.proofs.ActLemmas.{by}
use Rattle.jsh_shell.proofs.DriveLemmas.{evaluated, evaluated-fails, evaluated-full, last-may, last-quiet, last-stays}
use Rattle.jsh_shell.proofs.ServeLemmas.{cause-elsewhere, cause-later}
use Rattle.jsh_shell.proofs.evaluation.evaluate.Goals as goal

pub drive-requires : goal.drive-requires
drive-requires g c = c.requires

pub returns-in-Err-clause-err : goal.returns-in-Err-clause-err
returns-in-Err-clause-err g c = c.in-Err.ensures.err (g.O.Sink.held c.args.sink.now)

pub returns-in-Err-clause-open : goal.returns-in-Err-clause-open
returns-in-Err-clause-open g c = c.in-Err.ensures.open

pub returns-in-Err-clause-counts : goal.returns-in-Err-clause-counts
returns-in-Err-clause-counts g c = cause-elsewhere c.in-Err.why _ (λ e. c.in-Err.ensures.sink (ap Err e))

pub returns-in-Err-clause-stream : goal.returns-in-Err-clause-stream
returns-in-Err-clause-stream g c = refl

pub returns-then-len-ge-MOST_ENTRIES-clause-err : goal.returns-then-len-ge-MOST_ENTRIES-clause-err
returns-then-len-ge-MOST_ENTRIES-clause-err g c =
    let full : most_entries ≤ length c.drive.new.session.core = omega (arith, c.len.ensures.entries, c.if-len-ge-MOST_ENTRIES.true) in
    evaluated-full c.in-Ok.driven _ _ _ _ _ _ c.in-Ok.ensures.ok full

pub returns-then-len-ge-MOST_ENTRIES-clause-open : goal.returns-then-len-ge-MOST_ENTRIES-clause-open
returns-then-len-ge-MOST_ENTRIES-clause-open g c = c.in-Ok.ensures.open

pub returns-then-len-ge-MOST_ENTRIES-clause-counts : goal.returns-then-len-ge-MOST_ENTRIES-clause-counts
returns-then-len-ge-MOST_ENTRIES-clause-counts g c = refl

pub returns-then-len-ge-MOST_ENTRIES-clause-stream : goal.returns-then-len-ge-MOST_ENTRIES-clause-stream
returns-then-len-ge-MOST_ENTRIES-clause-stream g c = refl

pub perform-requires-clause-open : goal.perform-requires-clause-open
perform-requires-clause-open g c = c.in-Ok.ensures.open

pub perform-requires-clause-may : goal.perform-requires-clause-may
perform-requires-clause-may g c =
    let some : length c.drive.new.session.core < most_entries = omega (arith, c.len.ensures.entries, c.if-len-ge-MOST_ENTRIES.false) in
    subst (λ (what : Act). MayDo c.drive.new.session.core c.args.client what) (sym c.last_act.ensures) (last-may _ _ _ _ c.in-Ok.driven some)

pub perform-requires-clause-quiet : goal.perform-requires-clause-quiet
perform-requires-clause-quiet g c = ap is_turn c.last_act.ensures ∙ last-quiet _ _ c.in-Ok.driven

pub perform-requires-clause-stays : goal.perform-requires-clause-stays
perform-requires-clause-stays g c = ap is_last c.last_act.ensures ∙ last-stays _ _ c.in-Ok.driven

pub returns-in-Ok-perform-clause-ok : goal.returns-in-Ok-perform-clause-ok
returns-in-Ok-perform-clause-ok g c =
    evaluated c.in-Ok.driven _ _ _ _ _ _ _ _ c.in-Ok-perform._reply c.in-Ok.ensures.ok
    (subst (λ (what : Act). Shows c.drive.new.session.core c.perform.new.core (by c.args.client what) c.in-Ok-perform._reply (g.O.Sink.held c.args.sink.now) (g.O.Sink.held c.perform.new.sink)) c.last_act.ensures c.in-Ok-perform.ensures.ok)
    c.in-Ok-perform.ensures.free

pub returns-in-Ok-perform-clause-open : goal.returns-in-Ok-perform-clause-open
returns-in-Ok-perform-clause-open g c = c.in-Ok-perform.ensures.open

pub returns-in-Ok-perform-clause-counts : goal.returns-in-Ok-perform-clause-counts
returns-in-Ok-perform-clause-counts g c = c.in-Ok-perform.ensures.counts

pub returns-in-Ok-perform-clause-stream : goal.returns-in-Ok-perform-clause-stream
returns-in-Ok-perform-clause-stream g c = c.in-Ok-perform.ensures.stream

pub returns-in-Err-perform-clause-err : goal.returns-in-Err-perform-clause-err
returns-in-Err-perform-clause-err g c =
    evaluated-fails c.in-Err-perform.why c.in-Ok.driven _ _ _ _ _ _ _ _ c.in-Ok.ensures.ok
    (subst (λ (what : Act). Fails c.in-Err-perform.why c.drive.new.session.core c.perform.new.core (by c.args.client what) (g.O.Sink.held c.args.sink.now) (g.O.Sink.held c.perform.new.sink)) c.last_act.ensures c.in-Err-perform.ensures.err)

pub returns-in-Err-perform-clause-open : goal.returns-in-Err-perform-clause-open
returns-in-Err-perform-clause-open g c = c.in-Err-perform.ensures.open

pub returns-in-Err-perform-clause-counts : goal.returns-in-Err-perform-clause-counts
returns-in-Err-perform-clause-counts g c = c.in-Err-perform.ensures.counts

pub returns-in-Err-perform-clause-stream : goal.returns-in-Err-perform-clause-stream
returns-in-Err-perform-clause-stream g c = c.in-Err-perform.ensures.stream
