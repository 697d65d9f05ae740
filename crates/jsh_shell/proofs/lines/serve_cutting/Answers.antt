-- Command by command.
use Rattle.std.proofs.Common.{◌≡◌, refl, sym, ◌∙◌, ap, subst}
use Rattle.jsh_cut.specs.Commands.{with_command}
use Rattle.jsh_cut.specs.Cuttings.{coming}
use Rattle.jsh_shell.specs.declared.halts.Halt.{Halt}
use Rattle.jsh_shell.specs.Serving.{HasCause}
use Rattle.jsh_shell.specs.Upcoming.{comes}
use Rattle.jsh_shell.proofs.CuttingLemmas.{cutting-start, cutting-more, cutting-part, cutting-memory, cutting-last, cutting-shorter, first-servable}
use Rattle.jsh_shell.proofs.ServeLemmas.{cause-later}
use Rattle.jsh_shell.proofs.lines.serve_cutting.Goals as goal

pub each-init : goal.each-init
each-init g c = record { «open» = c.requires.open; cut = cutting-start _ _ _ _ _ c.requires.servable; unwritten = refl; stream = refl }

pub returns-in-Err-clause-err : goal.returns-in-Err-clause-err
returns-in-Err-clause-err g c = cutting-memory c.in-Err.why _ _ _ _ _ _ _ _ c.each.invariant.cut c.in-Err.ensures.err

pub returns-in-Err-clause-open : goal.returns-in-Err-clause-open
returns-in-Err-clause-open g c = c.each.invariant.open

pub returns-in-Err-clause-counts : goal.returns-in-Err-clause-counts
returns-in-Err-clause-counts g c = subst (λ (why : Halt). HasCause why (g.O.Sink.faults c.args.sink.now) (g.O.Sink.faults c.each.sink)) (sym c.in-Err.ensures.err) c.each.invariant.unwritten

pub returns-in-Err-clause-stream : goal.returns-in-Err-clause-stream
returns-in-Err-clause-stream g c = c.each.invariant.stream

pub returns-in-Last-clause-ok : goal.returns-in-Last-clause-ok
returns-in-Last-clause-ok g c = cutting-last _ _ _ _ _ _ _ _ c.in-Last.behind c.each.invariant.cut (ap comes (sym c.in-Last.is) ∙ c.in-Ok.ensures.next)

pub returns-in-Last-clause-open : goal.returns-in-Last-clause-open
returns-in-Last-clause-open g c = c.each.invariant.open

pub returns-in-Last-clause-counts : goal.returns-in-Last-clause-counts
returns-in-Last-clause-counts g c = c.each.invariant.unwritten

pub returns-in-Last-clause-stream : goal.returns-in-Last-clause-stream
returns-in-Last-clause-stream g c = c.each.invariant.stream

pub serve_command-requires-clause-open : goal.serve_command-requires-clause-open
serve_command-requires-clause-open g c = c.each.invariant.open

pub serve_command-requires-clause-servable : goal.serve_command-requires-clause-servable
serve_command-requires-clause-servable g c =
    let next : with_command c.in-First.command (coming c.in-First.rest) ≡ coming c.each.left = ap comes (sym c.in-First.is) ∙ c.in-Ok.ensures.next in
    first-servable c.in-First.command _ _ next c.each.invariant.cut.servable

pub returns-in-Err-serve_command-clause-err : goal.returns-in-Err-serve_command-clause-err
returns-in-Err-serve_command-clause-err g c =
    let next : with_command c.in-First.command (coming c.in-First.rest) ≡ coming c.each.left = ap comes (sym c.in-First.is) ∙ c.in-Ok.ensures.next in
    cutting-part c.in-Err-serve_command.why _ _ _ _ _ _ _ _ _ _ _ c.in-First.command c.each.invariant.cut next c.in-Err-serve_command.ensures.err

pub returns-in-Err-serve_command-clause-open : goal.returns-in-Err-serve_command-clause-open
returns-in-Err-serve_command-clause-open g c = c.in-Err-serve_command.ensures.open

pub returns-in-Err-serve_command-clause-counts : goal.returns-in-Err-serve_command-clause-counts
returns-in-Err-serve_command-clause-counts g c = cause-later c.in-Err-serve_command.why _ _ _ c.each.invariant.unwritten c.in-Err-serve_command.ensures.counts

pub returns-in-Err-serve_command-clause-stream : goal.returns-in-Err-serve_command-clause-stream
returns-in-Err-serve_command-clause-stream g c = c.in-Err-serve_command.ensures.stream ∙ c.each.invariant.stream

pub each-smaller : goal.each-smaller
each-smaller g c =
    let next : with_command c.in-First.command (coming c.in-First.rest) ≡ coming c.each.left = ap comes (sym c.in-First.is) ∙ c.in-Ok.ensures.next in
    cutting-shorter c.in-First.command _ _ next

pub each-preserved : goal.each-preserved
each-preserved g c =
    let next : with_command c.in-First.command (coming c.in-First.rest) ≡ coming c.each.left = ap comes (sym c.in-First.is) ∙ c.in-Ok.ensures.next in
    record {
      «open» = c.in-Ok-serve_command.ensures.open;
      cut = cutting-more _ _ _ _ _ _ _ _ _ _ _ c.in-First.command c.each.invariant.cut next c.in-Ok-serve_command.ensures.ok;
      unwritten = c.in-Ok-serve_command.ensures.counts ∙ c.each.invariant.unwritten;
      stream = c.in-Ok-serve_command.ensures.stream ∙ c.each.invariant.stream;
    }
