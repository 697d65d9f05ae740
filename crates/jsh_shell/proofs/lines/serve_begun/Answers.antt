-- The line is what was begun and its end.
use Rattle.std.proofs.Common.{refl, arith, ap, ◌∙◌, subst, List, ℕ, length, length-append}
use Rattle.jsh_lines.specs.Lines.{as_text}
use Rattle.jsh_cut.specs.Commands.{cut_line}
use Rattle.jsh_shell.specs.Cutting.{ServesCut}
use Rattle.jsh_shell.specs.Progress.Phase.{Between}
use Rattle.jsh_shell.specs.Serving.{ServesPart}
use Rattle.jsh_shell.proofs.ServeLemmas.{part-for-memory}
use Rattle.jsh_shell.proofs.lines.serve_begun.Goals as goal

pub returns-in-Err-clause-err : goal.returns-in-Err-clause-err
returns-in-Err-clause-err g c = part-for-memory _ _ _ _ _ _

pub returns-in-Err-clause-open : goal.returns-in-Err-clause-open
returns-in-Err-clause-open g c = c.requires.open

pub returns-in-Err-clause-counts : goal.returns-in-Err-clause-counts
returns-in-Err-clause-counts g c = refl

pub returns-in-Err-clause-stream : goal.returns-in-Err-clause-stream
returns-in-Err-clause-stream g c = refl

pub serve_line-requires-clause-open : goal.serve_line-requires-clause-open
serve_line-requires-clause-open g c = c.requires.open

pub serve_line-requires-clause-few : goal.serve_line-requires-clause-few
serve_line-requires-clause-few g c =
    omega (arith, c.requires.few, ap length c.as_slice.ensures.value, ap length c.in-Ok.ensures.items, length-append c.args.begun.now.items c.args.end.now)

pub returns-in-Err-serve_line-clause-err : goal.returns-in-Err-serve_line-clause-err
returns-in-Err-serve_line-clause-err g c =
    subst (λ (line : List ℕ). ServesPart c.in-Err-serve_line.why c.args.budget c.args.client Between c.args.session.now c.serve_line.new.session (g.O.Sink.held c.args.sink.now) (g.O.Sink.held c.serve_line.new.sink) (cut_line c.args.held (as_text line)).commands)
    (c.as_slice.ensures.value ∙ c.in-Ok.ensures.items) c.in-Err-serve_line.ensures.err

pub returns-in-Err-serve_line-clause-open : goal.returns-in-Err-serve_line-clause-open
returns-in-Err-serve_line-clause-open g c = c.in-Err-serve_line.ensures.open

pub returns-in-Err-serve_line-clause-counts : goal.returns-in-Err-serve_line-clause-counts
returns-in-Err-serve_line-clause-counts g c = c.in-Err-serve_line.ensures.counts

pub returns-in-Err-serve_line-clause-stream : goal.returns-in-Err-serve_line-clause-stream
returns-in-Err-serve_line-clause-stream g c = c.in-Err-serve_line.ensures.stream

pub returns-clause-ok : goal.returns-clause-ok
returns-clause-ok g c =
    subst (λ (line : List ℕ). ServesCut c.args.budget c.args.client c.args.session.now c.serve_line.new.session (g.O.Sink.held c.args.sink.now) (g.O.Sink.held c.serve_line.new.sink) (cut_line c.args.held (as_text line)) c.in-Ok-serve_line.behind)
    (c.as_slice.ensures.value ∙ c.in-Ok.ensures.items) c.in-Ok-serve_line.ensures.ok

pub returns-clause-begun : goal.returns-clause-begun
returns-clause-begun g c = c.clear.ensures.items

pub returns-clause-few : goal.returns-clause-few
returns-clause-few g c =
    omega (arith, c.in-Ok-serve_line.ensures.few, ap length c.as_slice.ensures.value, ap length c.in-Ok.ensures.items, length-append c.args.begun.now.items c.args.end.now)

pub returns-clause-open : goal.returns-clause-open
returns-clause-open g c = c.in-Ok-serve_line.ensures.open

pub returns-clause-counts : goal.returns-clause-counts
returns-clause-counts g c = c.in-Ok-serve_line.ensures.counts

pub returns-clause-stream : goal.returns-clause-stream
returns-clause-stream g c = c.in-Ok-serve_line.ensures.stream
