-- Line by line, and then the rest begins the next one.
use Rattle.std.proofs.Common.{refl, rules, ◌≡◌, ◌<◌, ◌+◌, ◌++◌, true, false, arith, sym, ◌∙◌, ap, subst, List, ℕ, length, drop, length-append, length-take}
use Rattle.jsh_lines.specs.Lines.{as_text, has_line_feed, cut}
use Rattle.jsh_cut.specs.Commands.{cut_line}
use Rattle.jsh_shell.specs.Cutting.{ServesCut}
use Rattle.jsh_shell.specs.Progress.Phase.{Between}
use Rattle.jsh_shell.specs.Serving.{ServesPart}
use Rattle.jsh_shell.proofs.ServeLemmas.{cause-later}
use Rattle.jsh_shell.proofs.PieceLemmas.{IsAlong, along-start, along-line, along-exit, along-part, along-memory, along-end, along-rest, behind-feed}
use Rattle.jsh_shell.proofs.serving.serve_piece.Goals as goal

pub lines-init : goal.lines-init
lines-init g c = record { «open» = c.requires.open; uncut = c.requires.uncut; few = omega arith; along = along-start _ _ _ _ _ _; unwritten = refl; stream = refl }

pub split_at-requires : goal.split_at-requires
split_at-requires g c = let h : c.in-Some.at < length c.lines.rest.now = c.in-Some.ensures.0 in omega (arith, h)

pub serve_begun-requires-clause-open : goal.serve_begun-requires-clause-open
serve_begun-requires-clause-open g c = c.lines.invariant.open

pub serve_begun-requires-clause-few : goal.serve_begun-requires-clause-few
serve_begun-requires-clause-few g c =
    let h : c.in-Some.at < length c.lines.rest.now = c.in-Some.ensures.0 in
    let long : length c.split_at.result.0.now ≡ c.in-Some.at = ap length c.split_at.ensures.front ∙ length-take c.in-Some.at c.lines.rest.now ∙ omega arith in
    omega (arith, h, long, c.lines.invariant.few, c.requires.few)

pub returns-in-Err-clause-err : goal.returns-in-Err-clause-err
returns-in-Err-clause-err g c = along-part c.in-Err.why _ _ _ _ _ _ _ _ _ c.lines.waiting _ c.lines.begun.items c.lines.rest.now c.in-Some.at c.lines.invariant.along c.lines.invariant.uncut c.in-Some.ensures
    (subst (λ (line : List ℕ). ServesPart c.in-Err.why c.args.budget c.args.client Between c.lines.session c.serve_begun.new.session (g.O.Sink.held c.lines.sink) (g.O.Sink.held c.serve_begun.new.sink) (cut_line c.lines.waiting (as_text (c.lines.begun.items ++ line))).commands) c.split_at.ensures.front c.in-Err.ensures.err)

pub returns-in-Err-clause-open : goal.returns-in-Err-clause-open
returns-in-Err-clause-open g c = c.in-Err.ensures.open

pub returns-in-Err-clause-counts : goal.returns-in-Err-clause-counts
returns-in-Err-clause-counts g c = cause-later c.in-Err.why _ _ _ c.lines.invariant.unwritten c.in-Err.ensures.counts

pub returns-in-Err-clause-stream : goal.returns-in-Err-clause-stream
returns-in-Err-clause-stream g c = c.in-Err.ensures.stream ∙ c.lines.invariant.stream

pub returns-then-behind-clause-ok : goal.returns-then-behind-clause-ok
returns-then-behind-clause-ok g c =
    along-exit _ _ _ _ _ _ _ _ _ c.lines.waiting c.in-Ok.behind _ c.lines.begun.items c.lines.rest.now c.in-Some.at c.lines.invariant.along c.lines.invariant.uncut c.in-Some.ensures
    (subst (λ (line : List ℕ). ServesCut c.args.budget c.args.client c.lines.session c.serve_begun.new.session (g.O.Sink.held c.lines.sink) (g.O.Sink.held c.serve_begun.new.sink) (cut_line c.lines.waiting (as_text (c.lines.begun.items ++ line))) c.in-Ok.behind) c.split_at.ensures.front c.in-Ok.ensures.ok)
    c.if-behind.true

pub returns-then-behind-clause-begun : goal.returns-then-behind-clause-begun
returns-then-behind-clause-begun g c = λ on. let no : true ≡ false = sym c.if-behind.true ∙ on in cc

pub returns-then-behind-clause-few : goal.returns-then-behind-clause-few
returns-then-behind-clause-few g c = λ on. let no : true ≡ false = sym c.if-behind.true ∙ on in cc

pub returns-then-behind-clause-open : goal.returns-then-behind-clause-open
returns-then-behind-clause-open g c = c.in-Ok.ensures.open

pub returns-then-behind-clause-counts : goal.returns-then-behind-clause-counts
returns-then-behind-clause-counts g c = c.in-Ok.ensures.counts ∙ c.lines.invariant.unwritten

pub returns-then-behind-clause-stream : goal.returns-then-behind-clause-stream
returns-then-behind-clause-stream g c = c.in-Ok.ensures.stream ∙ c.lines.invariant.stream

pub split_at-requires-in-Some : goal.split_at-requires-in-Some
split_at-requires-in-Some g c =
    let h : c.in-Some.at < length c.lines.rest.now = c.in-Some.ensures.0 in
    omega (arith, h, c.split_at.ensures.back_len)

pub lines-smaller : goal.lines-smaller
lines-smaller g c =
    let h : c.in-Some.at < length c.lines.rest.now = c.in-Some.ensures.0 in
    omega (arith, h, c.split_at.ensures.back_len, c.split_at-in-Some.ensures.back_len)

pub lines-preserved : goal.lines-preserved
lines-preserved g c =
    let h : c.in-Some.at < length c.lines.rest.now = c.in-Some.ensures.0 in
    let long : length c.split_at.result.0.now ≡ c.in-Some.at = ap length c.split_at.ensures.front ∙ length-take c.in-Some.at c.lines.rest.now ∙ omega arith in
    let next : c.split_at-in-Some.result.1.now ≡ drop (c.in-Some.at + 1) c.lines.rest.now = c.split_at-in-Some.ensures.back ∙ ap (drop 1) c.split_at.ensures.back ∙ behind-feed c.in-Some.at c.lines.rest.now in
    record {
      «open» = c.in-Ok.ensures.open;
      uncut = ap (λ (h : List ℕ). (cut h).rest) c.in-Ok.ensures.begun ∙ sym c.in-Ok.ensures.begun;
      few = omega (arith, h, long, c.lines.invariant.few, c.in-Ok.ensures.few, ap length c.in-Ok.ensures.begun, c.split_at.ensures.back_len, c.split_at-in-Some.ensures.back_len);
      along = subst (λ (left : List ℕ). IsAlong c.args.budget c.args.client c.args.session.now c.serve_begun.new.session (g.O.Sink.held c.args.sink.now) (g.O.Sink.held c.serve_begun.new.sink) c.args.held c.in-Ok.behind.held (c.args.begun.now.items ++ c.args.piece.now) left)
          (sym (ap (λ (h : List ℕ). h ++ c.split_at-in-Some.result.1.now) c.in-Ok.ensures.begun ∙ next))
          (along-line _ _ _ _ _ _ _ _ _ c.lines.waiting c.in-Ok.behind _ c.lines.begun.items c.lines.rest.now c.in-Some.at c.lines.invariant.along c.lines.invariant.uncut c.in-Some.ensures
          (subst (λ (line : List ℕ). ServesCut c.args.budget c.args.client c.lines.session c.serve_begun.new.session (g.O.Sink.held c.lines.sink) (g.O.Sink.held c.serve_begun.new.sink) (cut_line c.lines.waiting (as_text (c.lines.begun.items ++ line))) c.in-Ok.behind) c.split_at.ensures.front c.in-Ok.ensures.ok)
          c.if-behind.false);
      unwritten = c.in-Ok.ensures.counts ∙ c.lines.invariant.unwritten;
      stream = c.in-Ok.ensures.stream ∙ c.lines.invariant.stream;
    }

pub returns-in-Ok-extend_from_slice-clause-ok : goal.returns-in-Ok-extend_from_slice-clause-ok
returns-in-Ok-extend_from_slice-clause-ok g c =
    let none : has_line_feed c.lines.rest.now ≡ false = search rules in
    along-end _ _ _ _ _ _ _ c.lines.waiting _ c.lines.begun.items c.lines.rest.now c.lines.invariant.along c.lines.invariant.uncut none

pub returns-in-Ok-extend_from_slice-clause-begun : goal.returns-in-Ok-extend_from_slice-clause-begun
returns-in-Ok-extend_from_slice-clause-begun g c = λ on.
    let none : has_line_feed c.lines.rest.now ≡ false = search rules in
    c.in-Ok-extend_from_slice.ensures.items ∙ sym (along-rest _ _ _ _ _ _ _ c.lines.waiting _ c.lines.begun.items c.lines.rest.now c.lines.invariant.along c.lines.invariant.uncut none)

pub returns-in-Ok-extend_from_slice-clause-few : goal.returns-in-Ok-extend_from_slice-clause-few
returns-in-Ok-extend_from_slice-clause-few g c = λ on.
    omega (arith, c.lines.invariant.few, ap length c.in-Ok-extend_from_slice.ensures.items, length-append c.lines.begun.items c.lines.rest.now)

pub returns-in-Ok-extend_from_slice-clause-open : goal.returns-in-Ok-extend_from_slice-clause-open
returns-in-Ok-extend_from_slice-clause-open g c = c.lines.invariant.open

pub returns-in-Ok-extend_from_slice-clause-counts : goal.returns-in-Ok-extend_from_slice-clause-counts
returns-in-Ok-extend_from_slice-clause-counts g c = c.lines.invariant.unwritten

pub returns-in-Ok-extend_from_slice-clause-stream : goal.returns-in-Ok-extend_from_slice-clause-stream
returns-in-Ok-extend_from_slice-clause-stream g c = c.lines.invariant.stream

pub returns-in-Err-extend_from_slice-clause-err : goal.returns-in-Err-extend_from_slice-clause-err
returns-in-Err-extend_from_slice-clause-err g c = along-memory _ _ _ _ _ _ _ c.lines.waiting _ (c.lines.begun.items ++ c.lines.rest.now) c.lines.invariant.along

pub returns-in-Err-extend_from_slice-clause-open : goal.returns-in-Err-extend_from_slice-clause-open
returns-in-Err-extend_from_slice-clause-open g c = c.lines.invariant.open

pub returns-in-Err-extend_from_slice-clause-counts : goal.returns-in-Err-extend_from_slice-clause-counts
returns-in-Err-extend_from_slice-clause-counts g c = c.lines.invariant.unwritten

pub returns-in-Err-extend_from_slice-clause-stream : goal.returns-in-Err-extend_from_slice-clause-stream
returns-in-Err-extend_from_slice-clause-stream g c = c.lines.invariant.stream
