-- What is held is submitted.
use Rattle.std.proofs.Common.{sym, subst}
use Rattle.std.specs.List.{All}
use Rattle.jsh_cut.specs.Commands.{Gives}
use Rattle.jsh_shell.specs.Progress.Phase.{Between}
use Rattle.jsh_shell.specs.Serving.{IsServable, Serves, ServesPart}
use Rattle.jsh_shell.proofs.Servable.{end-servable}
use Rattle.jsh_shell.proofs.lines.serve_held.Goals as goal

pub serve_cutting-requires-clause-open : goal.serve_cutting-requires-clause-open
serve_cutting-requires-clause-open g c = c.requires

pub serve_cutting-requires-clause-servable : goal.serve_cutting-requires-clause-servable
serve_cutting-requires-clause-servable g c = subst (λ (gs : Gives). All IsServable gs.commands) (sym c.cut_end.ensures) (end-servable c.args.held)

pub returns-in-Ok-clause-ok : goal.returns-in-Ok-clause-ok
returns-in-Ok-clause-ok g c =
    subst (λ (gs : Gives). Serves c.args.budget c.args.client Between Between c.args.session.now c.serve_cutting.new.session (g.O.Sink.held c.args.sink.now) (g.O.Sink.held c.serve_cutting.new.sink) gs.commands) c.cut_end.ensures c.in-Ok.ensures.ok.serves

pub returns-in-Ok-clause-open : goal.returns-in-Ok-clause-open
returns-in-Ok-clause-open g c = c.in-Ok.ensures.open

pub returns-in-Ok-clause-counts : goal.returns-in-Ok-clause-counts
returns-in-Ok-clause-counts g c = c.in-Ok.ensures.counts

pub returns-in-Ok-clause-stream : goal.returns-in-Ok-clause-stream
returns-in-Ok-clause-stream g c = c.in-Ok.ensures.stream

pub returns-in-Err-clause-err : goal.returns-in-Err-clause-err
returns-in-Err-clause-err g c =
    subst (λ (gs : Gives). ServesPart c.in-Err.why c.args.budget c.args.client Between c.args.session.now c.serve_cutting.new.session (g.O.Sink.held c.args.sink.now) (g.O.Sink.held c.serve_cutting.new.sink) gs.commands) c.cut_end.ensures c.in-Err.ensures.err

pub returns-in-Err-clause-open : goal.returns-in-Err-clause-open
returns-in-Err-clause-open g c = c.in-Err.ensures.open

pub returns-in-Err-clause-counts : goal.returns-in-Err-clause-counts
returns-in-Err-clause-counts g c = c.in-Err.ensures.counts

pub returns-in-Err-clause-stream : goal.returns-in-Err-clause-stream
returns-in-Err-clause-stream g c = c.in-Err.ensures.stream
