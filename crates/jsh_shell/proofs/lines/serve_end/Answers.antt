-- A last line is served as a line, and then what is held.
use Rattle.std.proofs.Common.{◌≡◌, ◌++◌, true, false, ap, sym, ◌∙◌, subst, List, append-nil}
use Rattle.std.specs.Prelude.{OnOk, IfErr}
use Rattle.jsh_lines.specs.Lines.{as_text}
use Rattle.jsh_cut.specs.declared.command.Command.{Command}
use Rattle.jsh_cut.specs.Commands.{Gives, cut_end, cut_line}
use Rattle.jsh_shell.specs.Cutting.{closing}
use Rattle.jsh_shell.specs.Progress.Phase.{Between}
use Rattle.jsh_shell.specs.Serving.{Serves, ServesPart}
use Rattle.jsh_shell.proofs.Onward.{none_there, some_there, ending-empty, ending-line, closing-out, closing-on}
use Rattle.jsh_shell.proofs.ServeLemmas.{cause-later, serves-append, serves-part-append, serves-part-more}
use Rattle.jsh_shell.proofs.lines.serve_end.Goals as goal

pub serve_held-requires : goal.serve_held-requires
serve_held-requires g c = c.requires.open

pub serve_line-requires-clause-open : goal.serve_line-requires-clause-open
serve_line-requires-clause-open g c = c.requires.open

pub serve_line-requires-clause-few : goal.serve_line-requires-clause-few
serve_line-requires-clause-few g c = c.requires.few

pub returns-then-is_empty-clause-ok : goal.returns-then-is_empty-clause-ok
returns-then-is_empty-clause-ok g c =
    subst (λ (cs : List Command). OnOk c.serve_held.result (Serves c.args.budget c.args.client Between Between c.args.session.now c.serve_held.new.session (g.O.Sink.held c.args.sink.now) (g.O.Sink.held c.serve_held.new.sink) cs))
    (sym (ending-empty c.args.held c.args.rest.now (none_there c.args.rest.now c.is_empty.result c.is_empty.ensures c.if-is_empty.true))) c.serve_held.ensures.ok

pub returns-then-is_empty-clause-err : goal.returns-then-is_empty-clause-err
returns-then-is_empty-clause-err g c =
    subst (λ (cs : List Command). IfErr c.serve_held.result (λ why. ServesPart why c.args.budget c.args.client Between c.args.session.now c.serve_held.new.session (g.O.Sink.held c.args.sink.now) (g.O.Sink.held c.serve_held.new.sink) cs))
    (sym (ending-empty c.args.held c.args.rest.now (none_there c.args.rest.now c.is_empty.result c.is_empty.ensures c.if-is_empty.true))) c.serve_held.ensures.err

pub returns-then-is_empty-clause-open : goal.returns-then-is_empty-clause-open
returns-then-is_empty-clause-open g c = c.serve_held.ensures.open

pub returns-then-is_empty-clause-counts : goal.returns-then-is_empty-clause-counts
returns-then-is_empty-clause-counts g c = c.serve_held.ensures.counts

pub returns-then-is_empty-clause-stream : goal.returns-then-is_empty-clause-stream
returns-then-is_empty-clause-stream g c = c.serve_held.ensures.stream

pub returns-in-Err-clause-err : goal.returns-in-Err-clause-err
returns-in-Err-clause-err g c =
    let line : Gives = cut_line c.args.held (as_text c.args.rest.now) in
    subst (λ (cs : List Command). ServesPart c.in-Err.why c.args.budget c.args.client Between c.args.session.now c.serve_line.new.session (g.O.Sink.held c.args.sink.now) (g.O.Sink.held c.serve_line.new.sink) cs)
    (sym (ending-line c.args.held c.args.rest.now (some_there c.args.rest.now c.is_empty.result c.is_empty.ensures c.if-is_empty.false)))
    (serves-part-more c.in-Err.why _ _ _ _ _ _ _ line.commands (closing line) c.in-Err.ensures.err)

pub returns-in-Err-clause-open : goal.returns-in-Err-clause-open
returns-in-Err-clause-open g c = c.in-Err.ensures.open

pub returns-in-Err-clause-counts : goal.returns-in-Err-clause-counts
returns-in-Err-clause-counts g c = c.in-Err.ensures.counts

pub returns-in-Err-clause-stream : goal.returns-in-Err-clause-stream
returns-in-Err-clause-stream g c = c.in-Err.ensures.stream

pub returns-then-behind-clause-ok : goal.returns-then-behind-clause-ok
returns-then-behind-clause-ok g c =
    let line : Gives = cut_line c.args.held (as_text c.args.rest.now) in
    let out : line.exits ≡ true = sym c.in-Ok.ensures.ok.exits ∙ c.if-behind.true in
    subst (λ (cs : List Command). Serves c.args.budget c.args.client Between Between c.args.session.now c.serve_line.new.session (g.O.Sink.held c.args.sink.now) (g.O.Sink.held c.serve_line.new.sink) cs)
    (sym (ending-line c.args.held c.args.rest.now (some_there c.args.rest.now c.is_empty.result c.is_empty.ensures c.if-is_empty.false)
    ∙ ap (λ (cs : List Command). line.commands ++ cs) (closing-out line out) ∙ append-nil line.commands))
    c.in-Ok.ensures.ok.serves

pub returns-then-behind-clause-open : goal.returns-then-behind-clause-open
returns-then-behind-clause-open g c = c.in-Ok.ensures.open

pub returns-then-behind-clause-counts : goal.returns-then-behind-clause-counts
returns-then-behind-clause-counts g c = c.in-Ok.ensures.counts

pub returns-then-behind-clause-stream : goal.returns-then-behind-clause-stream
returns-then-behind-clause-stream g c = c.in-Ok.ensures.stream

pub serve_held-requires-2 : goal.serve_held-requires-2
serve_held-requires-2 g c = c.in-Ok.ensures.open

pub returns-in-Err-serve_held-clause-err : goal.returns-in-Err-serve_held-clause-err
returns-in-Err-serve_held-clause-err g c =
    let line : Gives = cut_line c.args.held (as_text c.args.rest.now) in
    let on : line.exits ≡ false = sym c.in-Ok.ensures.ok.exits ∙ c.if-behind.false in
    subst (λ (cs : List Command). ServesPart c.in-Err-serve_held.why c.args.budget c.args.client Between c.args.session.now c.serve_held-2.new.session (g.O.Sink.held c.args.sink.now) (g.O.Sink.held c.serve_held-2.new.sink) cs)
    (sym (ending-line c.args.held c.args.rest.now (some_there c.args.rest.now c.is_empty.result c.is_empty.ensures c.if-is_empty.false)
    ∙ ap (λ (cs : List Command). line.commands ++ cs) (closing-on line on ∙ ap cut_end (sym c.in-Ok.ensures.ok.held))))
    (serves-part-append c.in-Err-serve_held.why _ _ _ _ _ _ _ _ _ _ line.commands (cut_end c.in-Ok.behind.held) c.in-Ok.ensures.ok.serves c.in-Err-serve_held.ensures.err)

pub returns-in-Err-serve_held-clause-open : goal.returns-in-Err-serve_held-clause-open
returns-in-Err-serve_held-clause-open g c = c.in-Err-serve_held.ensures.open

pub returns-in-Err-serve_held-clause-counts : goal.returns-in-Err-serve_held-clause-counts
returns-in-Err-serve_held-clause-counts g c = cause-later c.in-Err-serve_held.why _ _ _ c.in-Ok.ensures.counts c.in-Err-serve_held.ensures.counts

pub returns-in-Err-serve_held-clause-stream : goal.returns-in-Err-serve_held-clause-stream
returns-in-Err-serve_held-clause-stream g c = c.in-Err-serve_held.ensures.stream ∙ c.in-Ok.ensures.stream

pub returns-clause-ok : goal.returns-clause-ok
returns-clause-ok g c =
    let line : Gives = cut_line c.args.held (as_text c.args.rest.now) in
    let on : line.exits ≡ false = sym c.in-Ok.ensures.ok.exits ∙ c.if-behind.false in
    subst (λ (cs : List Command). Serves c.args.budget c.args.client Between Between c.args.session.now c.serve_held-2.new.session (g.O.Sink.held c.args.sink.now) (g.O.Sink.held c.serve_held-2.new.sink) cs)
    (sym (ending-line c.args.held c.args.rest.now (some_there c.args.rest.now c.is_empty.result c.is_empty.ensures c.if-is_empty.false)
    ∙ ap (λ (cs : List Command). line.commands ++ cs) (closing-on line on ∙ ap cut_end (sym c.in-Ok.ensures.ok.held))))
    (serves-append _ _ _ _ _ _ _ _ _ _ _ line.commands (cut_end c.in-Ok.behind.held) c.in-Ok.ensures.ok.serves c.in-Ok-serve_held.ensures.ok)

pub returns-clause-open : goal.returns-clause-open
returns-clause-open g c = c.in-Ok-serve_held.ensures.open

pub returns-clause-counts : goal.returns-clause-counts
returns-clause-counts g c = c.in-Ok-serve_held.ensures.counts ∙ c.in-Ok.ensures.counts

pub returns-clause-stream : goal.returns-clause-stream
returns-clause-stream g c = c.in-Ok-serve_held.ensures.stream ∙ c.in-Ok.ensures.stream
