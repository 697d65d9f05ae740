-- The line is read as text and cut, and its commands are served.
use Rattle.std.proofs.Common.{◌≡◌, ◌≤◌, ◌+◌, ◌*◌, arith, refl, ap, sym, ◌∙◌, subst, length}
use Rattle.std.specs.Prelude.{IfErr, IfOk}
use Rattle.std.specs.List.{All}
use Rattle.jsh_lines.specs.Lines.{as_text}
use Rattle.jsh_lines.proofs.Lengths.{length-as_text}
use Rattle.jsh_cut.specs.Commands.{Gives, cut_line, held_text}
use Rattle.jsh_cut.specs.Cuttings.{coming}
use Rattle.jsh_cut.proofs.Lines.{held_behind}
use Rattle.jsh_shell.specs.Progress.Phase.{Between}
use Rattle.jsh_shell.specs.Cutting.{ServesCut}
use Rattle.jsh_shell.specs.Serving.{IsServable, ServesPart}
use Rattle.jsh_shell.proofs.ServeLemmas.{part-for-memory}
use Rattle.jsh_shell.proofs.CuttingLemmas.{few-behind}
use Rattle.jsh_shell.proofs.Servable.{line-servable}
use Rattle.jsh_shell.proofs.lines.serve_line.Goals as goal

pub returns-in-Err-clause-err : goal.returns-in-Err-clause-err
returns-in-Err-clause-err g c = part-for-memory _ _ _ _ _ _

pub returns-in-Err-clause-open : goal.returns-in-Err-clause-open
returns-in-Err-clause-open g c = c.requires.open

pub returns-in-Err-clause-counts : goal.returns-in-Err-clause-counts
returns-in-Err-clause-counts g c = refl

pub returns-in-Err-clause-stream : goal.returns-in-Err-clause-stream
returns-in-Err-clause-stream g c = refl

pub cut_line-requires : goal.cut_line-requires
cut_line-requires g c = omega (arith, c.requires.few, ap length c.as_str.ensures, ap length c.in-Ok.ensures, length-as_text c.args.line.now)

pub returns-in-Err-cut_line-clause-err : goal.returns-in-Err-cut_line-clause-err
returns-in-Err-cut_line-clause-err g c = part-for-memory _ _ _ _ _ _

pub returns-in-Err-cut_line-clause-open : goal.returns-in-Err-cut_line-clause-open
returns-in-Err-cut_line-clause-open g c = c.requires.open

pub returns-in-Err-cut_line-clause-counts : goal.returns-in-Err-cut_line-clause-counts
returns-in-Err-cut_line-clause-counts g c = refl

pub returns-in-Err-cut_line-clause-stream : goal.returns-in-Err-cut_line-clause-stream
returns-in-Err-cut_line-clause-stream g c = refl

pub serve_cutting-requires-clause-open : goal.serve_cutting-requires-clause-open
serve_cutting-requires-clause-open g c = c.requires.open

pub serve_cutting-requires-clause-servable : goal.serve_cutting-requires-clause-servable
serve_cutting-requires-clause-servable g c =
    let gives : coming c.in-Ok-cut_line.cutting ≡ cut_line c.args.held (as_text c.args.line.now) = c.in-Ok-cut_line.ensures ∙ ap (cut_line c.args.held) (c.as_str.ensures ∙ c.in-Ok.ensures) in
    subst (λ (gs : Gives). All IsServable gs.commands) (sym gives) (line-servable c.args.held (as_text c.args.line.now))

pub returns-clause-ok : goal.returns-clause-ok
returns-clause-ok g c =
    let gives : coming c.in-Ok-cut_line.cutting ≡ cut_line c.args.held (as_text c.args.line.now) = c.in-Ok-cut_line.ensures ∙ ap (cut_line c.args.held) (c.as_str.ensures ∙ c.in-Ok.ensures) in
    subst (λ (gs : Gives). IfOk c.serve_cutting.result (λ behind. ServesCut c.args.budget c.args.client c.args.session.now c.serve_cutting.new.session (g.O.Sink.held c.args.sink.now) (g.O.Sink.held c.serve_cutting.new.sink) gs behind)) gives c.serve_cutting.ensures.ok

pub returns-clause-few : goal.returns-clause-few
returns-clause-few g c =
    let gives : coming c.in-Ok-cut_line.cutting ≡ cut_line c.args.held (as_text c.args.line.now) = c.in-Ok-cut_line.ensures ∙ ap (cut_line c.args.held) (c.as_str.ensures ∙ c.in-Ok.ensures) in
    let most : length (held_text (cut_line c.args.held (as_text c.args.line.now)).held) ≤ length (held_text c.args.held) + length (as_text c.args.line.now) + 1 = held_behind c.args.held (as_text c.args.line.now) in
    few-behind _ _ _ _ _ _ _ _ c.serve_cutting.result c.serve_cutting.ensures.ok
    (subst (λ (gs : Gives). length (held_text gs.held) ≤ length (held_text c.args.held) + 3 * length c.args.line.now + 1) (sym gives) (omega (arith, most, length-as_text c.args.line.now)))

pub returns-clause-err : goal.returns-clause-err
returns-clause-err g c =
    let gives : coming c.in-Ok-cut_line.cutting ≡ cut_line c.args.held (as_text c.args.line.now) = c.in-Ok-cut_line.ensures ∙ ap (cut_line c.args.held) (c.as_str.ensures ∙ c.in-Ok.ensures) in
    subst (λ (gs : Gives). IfErr c.serve_cutting.result (λ why. ServesPart why c.args.budget c.args.client Between c.args.session.now c.serve_cutting.new.session (g.O.Sink.held c.args.sink.now) (g.O.Sink.held c.serve_cutting.new.sink) gs.commands)) gives c.serve_cutting.ensures.err

pub returns-clause-open : goal.returns-clause-open
returns-clause-open g c = c.serve_cutting.ensures.open

pub returns-clause-counts : goal.returns-clause-counts
returns-clause-counts g c = c.serve_cutting.ensures.counts

pub returns-clause-stream : goal.returns-clause-stream
returns-clause-stream g c = c.serve_cutting.ensures.stream
