-- The first frame has its answer, and its variable the value.
use Rattle.std.specs.Prelude.{ℤ}
use Rattle.std.specs.Int.{w32}
use Rattle.std.proofs.lemmas.Int.{to_z-of_z}
use Rattle.std.proofs.Common.{◌≡◌, ℕ, to_z, of_z, ◌-◌, List, ◌∷◌, Option, None, Some, ap, ◌∙◌, set, get_or}
use Rattle.std.specs.List.{slice_get}
use Rattle.std.proofs.lemmas.Option.{get_or_from_slice_get}
use Rattle.jsh_tree.specs.declared.key.Link.{Link}
use Rattle.jsh_text.specs.declared.value.Value.TheVariants as value
use Rattle.jsh_core.specs.declared.world.Answer.TheVariants as «answer»
use Rattle.jsh_core.specs.declared.world.Cell.{Cell}
use Rattle.jsh_core.specs.declared.world.Frame.{Frame}
use Rattle.jsh_core.specs.declared.world.Thread.{Thread}
use Rattle.jsh_core.specs.Cells.{set_cell}
use Rattle.jsh_core.specs.Parts.{world_of}
use Rattle.jsh_core.specs.State.{numbered}
use Rattle.jsh_core.specs.Threads.{answered, thread_answered}
use Rattle.jsh_core.proofs.ListLemmas.{numbered-place}
use Rattle.jsh_core.proofs.turns.set_variable.Goals as goal

-- the thread that is written to is the one with this number
here : (threads : List Thread) (number : ℕ) (t found : Thread) → numbered threads number ≡ Some t → found ≡ get_or threads (number - 1) found → found ≡ t
here threads number t found there is = is ∙ get_or_from_slice_get threads (number - 1) t found (numbered-place threads number t there)

pub returns-in-Some-clause-ok : goal.returns-in-Some-clause-ok
returns-in-Some-clause-ok c = λ t frame below there running.
    let same : c.index_mut-thread.result.now ≡ t = here c.args.world.now.threads.items c.args.number t c.index_mut-thread.result.now there c.index_mut-thread.ensures.value in
    let after : c.answer_thread.new.thread ≡ thread_answered t frame below =
    c.in_ok-answer_thread.ensures.ok frame below (ap (λ (x : Thread). x.frames) same ∙ running) ∙ ap (λ (x : Thread). thread_answered x frame below) same in
    let first : Some c.in-Some.frame.now ≡ Some (answered «answer».Empty frame) = c.in-Some.ensures.value ∙ ap (λ (x : Thread). slice_get x.frames 0) after in
    let front : c.in-Some.frame.now ≡ answered «answer».Empty frame = cc in
    let number : to_z w32 (of_z w32 c.args.value) ≡ c.args.value = to_z-of_z w32 c.args.value c.ranges.value in
    let cells : c.set_cell.new.cells.items ≡ set_cell frame.body.variable (value.Int c.args.value) c.args.world.now.cells.items =
    c.set_cell.ensures
    ∙ ap (λ (v : ℤ). set_cell c.in-Some.frame.now.body.variable (value.Int v) c.args.world.now.cells.items) number
    ∙ ap (λ (x : Frame). set_cell x.body.variable (value.Int c.args.value) c.args.world.now.cells.items) front in
    ap (λ (x : Thread). record (world_of c.args.world.now) {
      cells = c.set_cell.new.cells.items;
      threads = set c.args.world.now.threads.items (c.args.number - 1) x;
    }) after
    ∙ ap (λ (xs : List Cell). record (world_of c.args.world.now) {
      cells = xs;
      threads = set c.args.world.now.threads.items (c.args.number - 1) (thread_answered t frame below);
    }) cells

pub returns-in_default-clause-ok : goal.returns-in_default-clause-ok
returns-in_default-clause-ok c = λ t frame below there running.
    let same : c.index_mut-thread.result.now ≡ t = here c.args.world.now.threads.items c.args.number t c.index_mut-thread.result.now there c.index_mut-thread.ensures.value in
    let after : c.answer_thread.new.thread ≡ thread_answered t frame below =
    c.in_ok-answer_thread.ensures.ok frame below (ap (λ (x : Thread). x.frames) same ∙ running) ∙ ap (λ (x : Thread). thread_answered x frame below) same in
    let none : None ≡ Some (answered «answer».Empty frame) = c.in_default.ensures.value ∙ ap (λ (x : Thread). slice_get x.frames 0) after in
    cc
