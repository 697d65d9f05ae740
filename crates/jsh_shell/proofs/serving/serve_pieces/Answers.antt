-- Piece by piece, until there is no more.
use Rattle.std.proofs.Common.{refl, ◌≡◌, ◌≤◌, ◌<◌, ◌+◌, ◌-◌, arith, sym, ◌∙◌, ap, subst, List, ℕ, length, take, Ok, length-take}
use Rattle.std.specs.Io.KnownBytes.{prepend_known}
use Rattle.jsh_io.specs.Count.{Rose}
use Rattle.jsh_cut.specs.declared.held.Held.TheVariants as held
use Rattle.jsh_shell.specs.Progress.Phase.{Between}
use Rattle.jsh_shell.specs.Input.{most_input}
use Rattle.jsh_shell.specs.Cutting.{ending}
use Rattle.jsh_shell.specs.Serving.{Serves, ServesPart}
use Rattle.jsh_shell.proofs.ServeLemmas.{cause-later}
use Rattle.jsh_shell.proofs.ReadLemmas.{IsReading, reading-start, reading-more, served-failed, served-most, served-exit, served-exit-most, served-whole, served-part-end, served-part-piece, uncut-begun}
use Rattle.jsh_shell.proofs.serving.serve_pieces.Goals as goal

pub pieces-init : goal.pieces-init
pieces-init g c = record {
  «open» = c.requires.open;
  few = omega arith;
  short = omega (arith, ap length c.new-begun.ensures.items);
  reading = subst (λ (h : List ℕ). IsReading c.args.budget c.args.client c.args.session.now c.args.session.now (g.I.Source.left c.args.source.now) (g.I.Source.left c.args.source.now) (g.O.Sink.held c.args.sink.now) (g.O.Sink.held c.args.sink.now) held.Nothing h 0)
      (sym c.new-begun.ensures.items) (reading-start _ _ _ _ _);
  unread = refl;
  unwritten = refl;
  stream = refl;
}

pub overflow_sub-total : goal.overflow_sub-total
overflow_sub-total g c = c.pieces.invariant.few

pub read_some-requires-clause-some : goal.read_some-requires-clause-some
read_some-requires-clause-some g c = let t : c.pieces.total < 1073741824 = c.pieces-test.true in omega (arith, c.min-room.ensures, t)

pub read_some-requires-clause-fits : goal.read_some-requires-clause-fits
read_some-requires-clause-fits g c = omega (arith, c.min-room.ensures, c.pieces.auto.buffer, c.requires.piece)

pub returns-in-Err-clause-served : goal.returns-in-Err-clause-served
returns-in-Err-clause-served g c = served-failed _ _ _ _ _ _ _ _ _ _ _ _ _ c.pieces.held c.pieces.begun.items c.pieces.total c.pieces.invariant.reading c.in-Err.ensures.none_lost c.pieces-test.true
    (subst (λ (n : ℕ). Rose n (g.I.Source.faults c.read_some.new.source)) c.pieces.invariant.unread c.in-Err.ensures.failed) c.pieces.invariant.unwritten

pub returns-in-Err-clause-open : goal.returns-in-Err-clause-open
returns-in-Err-clause-open g c = c.pieces.invariant.open

pub returns-in-Err-clause-stream : goal.returns-in-Err-clause-stream
returns-in-Err-clause-stream g c = c.pieces.invariant.stream

pub serve_end-requires-clause-open : goal.serve_end-requires-clause-open
serve_end-requires-clause-open g c = c.pieces.invariant.open

pub serve_end-requires-clause-few : goal.serve_end-requires-clause-few
serve_end-requires-clause-few g c = omega (arith, c.pieces.invariant.short, c.pieces.invariant.few, ap length c.as_slice.ensures.value)

pub returns-in-Ok-serve_end-clause-served : goal.returns-in-Ok-serve_end-clause-served
returns-in-Ok-serve_end-clause-served g c =
    let none : c.in-Ok.count ≡ 0 = c.if-count-eq0.true in
    served-whole _ _ _ _ _ _ _ _ _ _ _ _ _ _ _ c.pieces.held c.pieces.begun.items c.pieces.total c.pieces.invariant.reading
    (c.in-Ok.ensures.bytes ∙ ap (λ n. prepend_known (take n c.read_some.new.buffer) (g.I.Source.left c.read_some.new.source)) none)
    (c.in-Ok.ensures.end (ap Ok none)) c.pieces-test.true
    (subst (λ (line : List ℕ). Serves c.args.budget c.args.client Between Between c.pieces.session c.serve_end.new.session (g.O.Sink.held c.pieces.sink) (g.O.Sink.held c.serve_end.new.sink) (ending c.pieces.held line)) c.as_slice.ensures.value c.in-Ok-serve_end.ensures.ok)
    (c.in-Ok.ensures.no_fault ∙ c.pieces.invariant.unread) (c.in-Ok-serve_end.ensures.counts ∙ c.pieces.invariant.unwritten)

pub returns-in-Ok-serve_end-clause-open : goal.returns-in-Ok-serve_end-clause-open
returns-in-Ok-serve_end-clause-open g c = c.in-Ok-serve_end.ensures.open

pub returns-in-Ok-serve_end-clause-stream : goal.returns-in-Ok-serve_end-clause-stream
returns-in-Ok-serve_end-clause-stream g c = c.in-Ok-serve_end.ensures.stream ∙ c.pieces.invariant.stream

pub returns-in-Err-serve_end-clause-served : goal.returns-in-Err-serve_end-clause-served
returns-in-Err-serve_end-clause-served g c =
    let none : c.in-Ok.count ≡ 0 = c.if-count-eq0.true in
    served-part-end _ _ _ _ c.in-Err-serve_end.why _ _ c.status.result _ _ _ _ _ _ _ _ _ c.pieces.held c.pieces.begun.items c.pieces.total c.pieces.invariant.reading
    (c.in-Ok.ensures.bytes ∙ ap (λ n. prepend_known (take n c.read_some.new.buffer) (g.I.Source.left c.read_some.new.source)) none)
    (c.in-Ok.ensures.end (ap Ok none)) c.pieces.invariant.few c.status.ensures
    (c.in-Ok.ensures.no_fault ∙ c.pieces.invariant.unread) (cause-later c.in-Err-serve_end.why _ _ _ c.pieces.invariant.unwritten c.in-Err-serve_end.ensures.counts)
    (subst (λ (line : List ℕ). ServesPart c.in-Err-serve_end.why c.args.budget c.args.client Between c.pieces.session c.serve_end.new.session (g.O.Sink.held c.pieces.sink) (g.O.Sink.held c.serve_end.new.sink) (ending c.pieces.held line)) c.as_slice.ensures.value c.in-Err-serve_end.ensures.err)

pub returns-in-Err-serve_end-clause-open : goal.returns-in-Err-serve_end-clause-open
returns-in-Err-serve_end-clause-open g c = c.in-Err-serve_end.ensures.open

pub returns-in-Err-serve_end-clause-stream : goal.returns-in-Err-serve_end-clause-stream
returns-in-Err-serve_end-clause-stream g c = c.in-Err-serve_end.ensures.stream ∙ c.pieces.invariant.stream

pub slice_bounds-serve_piece-end : goal.slice_bounds-serve_piece-end
slice_bounds-serve_piece-end g c = omega (arith, c.in-Ok.ensures.bound, c.min-room.ensures, c.read_some.auto.buffer, c.pieces.auto.buffer, c.requires.piece)

pub slice_bounds-serve_piece-end-in-pieces : goal.slice_bounds-serve_piece-end-in-pieces
slice_bounds-serve_piece-end-in-pieces g c =
    let within : c.in-Ok.count ≤ length c.read_some.new.buffer = omega (arith, c.in-Ok.ensures.bound, c.min-room.ensures, c.read_some.auto.buffer, c.pieces.auto.buffer, c.requires.piece) in
    omega (arith, within, length-take c.in-Ok.count c.read_some.new.buffer)

pub serve_piece-requires-clause-open : goal.serve_piece-requires-clause-open
serve_piece-requires-clause-open g c = c.pieces.invariant.open

pub serve_piece-requires-clause-uncut : goal.serve_piece-requires-clause-uncut
serve_piece-requires-clause-uncut g c = uncut-begun c.pieces.begun.items c.pieces.invariant.reading.read c.pieces.invariant.reading.begun

pub serve_piece-requires-clause-few : goal.serve_piece-requires-clause-few
serve_piece-requires-clause-few g c =
    let within : c.in-Ok.count ≤ length c.read_some.new.buffer = omega (arith, c.in-Ok.ensures.bound, c.min-room.ensures, c.read_some.auto.buffer, c.pieces.auto.buffer, c.requires.piece) in
    omega (arith, within, length-take c.in-Ok.count c.read_some.new.buffer, c.in-Ok.ensures.bound, c.min-room.ensures, c.pieces.invariant.few, c.pieces.invariant.short)

pub returns-in-Err-serve_piece-clause-served : goal.returns-in-Err-serve_piece-clause-served
returns-in-Err-serve_piece-clause-served g c =
    let within : c.in-Ok.count ≤ length c.read_some.new.buffer = omega (arith, c.in-Ok.ensures.bound, c.min-room.ensures, c.read_some.auto.buffer, c.pieces.auto.buffer, c.requires.piece) in
    let few : c.pieces.total + length (take c.in-Ok.count c.read_some.new.buffer) ≤ most_input = omega (arith, within, length-take c.in-Ok.count c.read_some.new.buffer, c.in-Ok.ensures.bound, c.min-room.ensures, c.pieces.invariant.few) in
    served-part-piece _ _ _ _ c.in-Err-serve_piece.why _ _ c.status-in-Err-serve_piece.result _ _ _ _ _ _ _ _ _ c.pieces.held c.pieces.begun.items (take c.in-Ok.count c.read_some.new.buffer) c.pieces.total c.pieces.invariant.reading
    c.in-Ok.ensures.bytes few c.status-in-Err-serve_piece.ensures
    (c.in-Ok.ensures.no_fault ∙ c.pieces.invariant.unread) (cause-later c.in-Err-serve_piece.why _ _ _ c.pieces.invariant.unwritten c.in-Err-serve_piece.ensures.counts) c.in-Err-serve_piece.ensures.err

pub returns-in-Err-serve_piece-clause-open : goal.returns-in-Err-serve_piece-clause-open
returns-in-Err-serve_piece-clause-open g c = c.in-Err-serve_piece.ensures.open

pub returns-in-Err-serve_piece-clause-stream : goal.returns-in-Err-serve_piece-clause-stream
returns-in-Err-serve_piece-clause-stream g c = c.in-Err-serve_piece.ensures.stream ∙ c.pieces.invariant.stream

pub overflow_add-total : goal.overflow_add-total
overflow_add-total g c = omega (arith, c.in-Ok.ensures.bound, c.min-room.ensures, c.pieces.invariant.few)

pub returns-then-total-lt-MOST_INPUT-clause-served : goal.returns-then-total-lt-MOST_INPUT-clause-served
returns-then-total-lt-MOST_INPUT-clause-served g c =
    let within : c.in-Ok.count ≤ length c.read_some.new.buffer = omega (arith, c.in-Ok.ensures.bound, c.min-room.ensures, c.read_some.auto.buffer, c.pieces.auto.buffer, c.requires.piece) in
    let less : c.pieces.total + length (take c.in-Ok.count c.read_some.new.buffer) < most_input = omega (arith, within, length-take c.in-Ok.count c.read_some.new.buffer, c.if-total-lt-MOST_INPUT.true) in
    served-exit _ _ _ _ _ _ _ _ _ _ _ _ _ _ _ c.pieces.held c.in-Ok-serve_piece.behind c.pieces.begun.items (take c.in-Ok.count c.read_some.new.buffer) c.pieces.total c.pieces.invariant.reading
    c.in-Ok.ensures.bytes less c.in-Ok-serve_piece.ensures.ok c.if-behind.true
    (c.in-Ok.ensures.no_fault ∙ c.pieces.invariant.unread) (c.in-Ok-serve_piece.ensures.counts ∙ c.pieces.invariant.unwritten)

pub returns-then-total-lt-MOST_INPUT-clause-open : goal.returns-then-total-lt-MOST_INPUT-clause-open
returns-then-total-lt-MOST_INPUT-clause-open g c = c.in-Ok-serve_piece.ensures.open

pub returns-then-total-lt-MOST_INPUT-clause-stream : goal.returns-then-total-lt-MOST_INPUT-clause-stream
returns-then-total-lt-MOST_INPUT-clause-stream g c = c.in-Ok-serve_piece.ensures.stream ∙ c.pieces.invariant.stream

pub returns-then-behind-clause-served : goal.returns-then-behind-clause-served
returns-then-behind-clause-served g c =
    let within : c.in-Ok.count ≤ length c.read_some.new.buffer = omega (arith, c.in-Ok.ensures.bound, c.min-room.ensures, c.read_some.auto.buffer, c.pieces.auto.buffer, c.requires.piece) in
    let full : c.pieces.total + length (take c.in-Ok.count c.read_some.new.buffer) ≡ most_input = omega (arith, within, length-take c.in-Ok.count c.read_some.new.buffer, c.if-total-lt-MOST_INPUT.false, c.in-Ok.ensures.bound, c.min-room.ensures, c.pieces.invariant.few) in
    served-exit-most _ _ _ _ _ _ _ _ _ _ _ _ _ _ _ c.pieces.held c.in-Ok-serve_piece.behind c.pieces.begun.items (take c.in-Ok.count c.read_some.new.buffer) c.pieces.total c.pieces.invariant.reading
    c.in-Ok.ensures.bytes full c.in-Ok-serve_piece.ensures.ok
    (c.in-Ok.ensures.no_fault ∙ c.pieces.invariant.unread) (c.in-Ok-serve_piece.ensures.counts ∙ c.pieces.invariant.unwritten)

pub returns-then-behind-clause-open : goal.returns-then-behind-clause-open
returns-then-behind-clause-open g c = c.in-Ok-serve_piece.ensures.open

pub returns-then-behind-clause-stream : goal.returns-then-behind-clause-stream
returns-then-behind-clause-stream g c = c.in-Ok-serve_piece.ensures.stream ∙ c.pieces.invariant.stream

pub pieces-smaller : goal.pieces-smaller
pieces-smaller g c =
    let t : c.pieces.total < 1073741824 = c.pieces-test.true in
    let some : 0 < c.in-Ok.count = omega (arith, c.if-count-eq0.false) in
    let less : most_input - (c.pieces.total + c.in-Ok.count) < most_input - c.pieces.total = omega (arith, c.in-Ok.ensures.bound, c.min-room.ensures, t, some) in
    less

pub pieces-preserved : goal.pieces-preserved
pieces-preserved g c =
    let within : c.in-Ok.count ≤ length c.read_some.new.buffer = omega (arith, c.in-Ok.ensures.bound, c.min-room.ensures, c.read_some.auto.buffer, c.pieces.auto.buffer, c.requires.piece) in
    let long : c.pieces.total + c.in-Ok.count ≡ c.pieces.total + length (take c.in-Ok.count c.read_some.new.buffer) = omega (arith, within, length-take c.in-Ok.count c.read_some.new.buffer) in
    record {
      «open» = c.in-Ok-serve_piece.ensures.open;
      few = omega (arith, c.in-Ok.ensures.bound, c.min-room.ensures, c.pieces.invariant.few);
      short = omega (arith, c.in-Ok-serve_piece.ensures.few c.if-behind.false, c.pieces.invariant.short, long);
      reading = reading-more _ _ _ _ _ _ _ _ _ _ _ c.pieces.held c.in-Ok-serve_piece.behind c.pieces.begun.items (take c.in-Ok.count c.read_some.new.buffer) _ c.pieces.total (c.pieces.total + c.in-Ok.count) c.pieces.invariant.reading
          c.in-Ok.ensures.bytes long c.in-Ok-serve_piece.ensures.ok c.if-behind.false (c.in-Ok-serve_piece.ensures.begun c.if-behind.false);
      unread = c.in-Ok.ensures.no_fault ∙ c.pieces.invariant.unread;
      unwritten = c.in-Ok-serve_piece.ensures.counts ∙ c.pieces.invariant.unwritten;
      stream = c.in-Ok-serve_piece.ensures.stream ∙ c.pieces.invariant.stream;
    }

pub returns-clause-served : goal.returns-clause-served
returns-clause-served g c =
    let full : c.pieces.total ≡ most_input = omega (arith, c.pieces-test.false, c.pieces.invariant.few) in
    served-most _ _ _ _ _ _ _ _ _ _ _ _ c.pieces.held c.pieces.begun.items c.pieces.total c.pieces.invariant.reading full c.pieces.invariant.unread c.pieces.invariant.unwritten

pub returns-clause-open : goal.returns-clause-open
returns-clause-open g c = c.pieces.invariant.open

pub returns-clause-stream : goal.returns-clause-stream
returns-clause-stream g c = c.pieces.invariant.stream
