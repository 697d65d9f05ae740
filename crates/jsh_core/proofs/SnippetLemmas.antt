-- What is kept after a snippet.
use Rattle.std.proofs.Common.{◌≡◌, ℕ, suc, ◌+◌, ◌*◌, ◌<◌, ◌≤◌, List, [], ◌∷◌, ◌++◌, Option, None, Some, Result, Ok, Err, IfOk, OnErr, length, refl, ap, sym, subst, ◌∙◌, arith, length-append}
use Rattle.jsh_text.specs.declared.memory.NoMemory.{NoMemory}
use Rattle.jsh_snippet.specs.declared.replies.ReplyBody.{ReplyBody}
use Rattle.jsh_core.specs.declared.generation.Live.{Live}
use Rattle.jsh_core.specs.declared.generation.Plan.{Plan}
use Rattle.jsh_core.specs.declared.world.Body.{Body}
use Rattle.jsh_core.specs.declared.world.Thread.{Thread}
use Rattle.jsh_core.specs.declared.world.Run.{Run}
use Rattle.jsh_core.specs.declared.parts.Parts.{Parts}
use Rattle.jsh_core.specs.State.{State, Acted, Generation, World}
use Rattle.jsh_core.specs.Snippets.{main_thread, next_generation, published, with_cell, with_run_of}
use Rattle.jsh_core.specs.Parts.{state_from, world_of, IsSound, IsWithin, IsWorld, StepsAtMost}
use Rattle.jsh_core.proofs.Bounds.{StepsAtMost-push, StepsAtMost-weaker}

-- a generation more, and one declaration at most
record IsNext (g h : Generation) : Type 0 where
  number : h.number ≤ g.number + 1
  live : length h.live ≤ length g.live + 1

next-generation : (g : Generation) (live : Option Live) → IsNext g (next_generation g live)
next-generation g None = record { number = omega arith; live = omega arith }
next-generation g (Some live) = record { number = omega arith; live = simp length-append (omega arith) }

-- one thread more at most, which has done nothing, and one run
record IsLarger (v w : World) : Type 0 where
  pending : w.pending ≡ v.pending
  threads : length w.threads ≤ length v.threads + 1
  runs : length w.runs ≤ length v.runs + 1
  steps : (bound : ℕ) → StepsAtMost bound v.threads → StepsAtMost bound w.threads

larger-world : (w : World) (client snippet : ℕ) (run : Option Body) → IsLarger w (with_run_of w client snippet run)
larger-world w client snippet None = record { pending = refl; threads = omega arith; runs = omega arith; steps = λ bound h. h }
larger-world w client snippet (Some what) = record {
  pending = refl;
  threads = simp length-append (omega arith);
  runs = simp length-append (omega arith);
  steps = λ bound h. StepsAtMost-push bound w.threads w.threads (w.threads ++ main_thread client what ∷ []) (main_thread client what) refl refl refl h;
}

-- parts that came of a snippet, or of none
pub record IsPublished (before after : Parts) : Type 0 where
  pub book : length after.book.items ≤ length before.book.items + 1
  pub live : length after.generation.live.items + length before.book.items ≤ length before.generation.live.items + length after.book.items
  pub number : after.generation.number ≤ before.generation.number + 1
  pub clients : after.clients.items ≡ before.clients.items
  pub pending : after.world.pending.items ≡ before.world.pending.items
  pub threads : length after.world.threads.items ≤ length before.world.threads.items + 1
  pub runs : length after.world.runs.items ≤ length before.world.runs.items + 1
  pub steps : (bound : ℕ) → StepsAtMost bound before.world.threads.items → StepsAtMost bound after.world.threads.items

-- nothing has changed
pub published-same : (before after : Parts) → state_from after ≡ state_from before → IsPublished before after
published-same before after same =
    let book : length after.book.items ≡ length before.book.items = ap (λ (s : State). length s.book) same in
    let live : length after.generation.live.items ≡ length before.generation.live.items = ap (λ (s : State). length s.generation.live) same in
    let number : after.generation.number ≡ before.generation.number = ap (λ (s : State). s.generation.number) same in
    let threads : length after.world.threads.items ≡ length before.world.threads.items = ap (λ (s : State). length s.world.threads) same in
    let runs : length after.world.runs.items ≡ length before.world.runs.items = ap (λ (s : State). length s.world.runs) same in
    record {
      book = omega arith;
      live = omega arith;
      number = omega arith;
      clients = ap (λ (s : State). s.clients) same;
      pending = ap (λ (s : State). s.world.pending) same;
      threads = omega arith;
      runs = omega arith;
      steps = λ bound h. rw (ap (λ (s : State). s.world.threads) same) h;
    }

pub published-more : (before after : Parts) (client : ℕ) (plan : Plan) (answered : ReplyBody) →
    record { state = state_from after; body = answered } ≡ published (state_from before) client plan → IsPublished before after
published-more before after client plan answered is =
    let state : state_from after ≡ (published (state_from before) client plan).state = ap (λ (a : Acted). a.state) is in
    let book : after.book.items ≡ before.book.items ++ plan.snippet ∷ [] = ap (λ (s : State). s.book) state in
    let longer : length after.book.items ≡ length before.book.items + 1 = ap length book ∙ (simp length-append (omega arith)) in
    let generation : (state_from after).generation ≡ next_generation (state_from before).generation plan.live = ap (λ (s : State). s.generation) state in
    let world : (state_from after).world ≡ with_run_of (with_cell (state_from before).world plan.made) client plan.snippet.id plan.run = ap (λ (s : State). s.world) state in
    let next : IsNext (state_from before).generation (state_from after).generation = rw generation (next-generation (state_from before).generation plan.live) in
    let larger : IsLarger (with_cell (state_from before).world plan.made) (state_from after).world =
    rw world (larger-world (with_cell (state_from before).world plan.made) client plan.snippet.id plan.run) in
    record {
      book = omega (arith, longer);
      live = omega (arith, longer, next.live);
      number = next.number;
      clients = ap (λ (s : State). s.clients) state;
      pending = larger.pending;
      threads = larger.threads;
      runs = larger.runs;
      steps = larger.steps;
    }

pub published-either : (before after : Parts) (client : ℕ) (plan : Plan) (result : Result ReplyBody NoMemory) →
    IfOk result (λ answered. record { state = state_from after; body = answered } ≡ published (state_from before) client plan) →
    OnErr result (state_from after ≡ state_from before) → IsPublished before after
published-either before after client plan (Ok answered) ok err = published-more before after client plan answered ok
published-either before after client plan (Err why) ok err = published-same before after err

pub published-sound : (before after : Parts) → IsPublished before after → IsWorld after.world → length before.book.items < 16384 → IsSound before → IsSound after
published-sound before after h world few sound = record {
  world = world;
  book = omega (arith, h.book);
  clients = rw h.clients sound.clients;
  pending = rw (h.pending, h.clients) sound.pending;
  live = omega (arith, h.live, sound.live);
}

pub published-within : (before after : Parts) (entries : ℕ) → IsPublished before after → IsWithin entries before → IsWithin (entries + 1) after
published-within before after entries h within =
    let wide : 256 * entries ≤ 256 * (entries + 1) = omega arith in
    record {
      generation = omega (arith, h.number, within.generation);
      threads = omega (arith, h.threads, within.threads);
      runs = omega (arith, h.runs, within.runs);
      steps = StepsAtMost-weaker _ _ _ wide (h.steps _ within.steps);
    }
