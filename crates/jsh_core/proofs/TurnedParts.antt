-- What is kept after a turn.
use Rattle.std.proofs.Common.{◌≡◌, ℕ, ◌+◌, ◌*◌, ◌≤◌, List, length, ap, subst, sym, ◌∙◌, arith}
use Rattle.jsh_core.specs.declared.world.Thread.{Thread}
use Rattle.jsh_core.specs.declared.parts.Parts.{Parts}
use Rattle.jsh_core.specs.Limits.{most_steps}
use Rattle.jsh_core.specs.State.{World}
use Rattle.jsh_core.specs.Threads.{turned, Turned}
use Rattle.jsh_core.specs.Parts.{world_of, IsSound, IsWithin, IsWorld, StepsAtMost}
use Rattle.jsh_core.proofs.Bounds.{StepsAtMost-weaker}
use Rattle.jsh_core.proofs.StepBounds.{turned-further, IsFurther}

-- parts whose world alone is another
pub record IsTurned (before after : Parts) (number most : ℕ) : Type 0 where
  pub book : after.book ≡ before.book
  pub generation : after.generation ≡ before.generation
  pub clients : after.clients ≡ before.clients
  pub world : IsWorld after.world
  pub steps : ℕ
  pub turn : record { world = world_of after.world; steps = steps } ≡ turned number most (world_of before.world)
  pub few : most ≤ most_steps

pub turned-sound : (before after : Parts) (number most : ℕ) → IsSound before → IsTurned before after number most → IsSound after
turned-sound before after number most sound h =
    let further : IsFurther most (world_of before.world) (turned number most (world_of before.world)).world = turned-further number most (world_of before.world) in
    let pending : after.world.pending.items ≡ before.world.pending.items = ap (λ (t : Turned). t.world.pending) h.turn ∙ further.pending in
    record {
      world = h.world;
      book = rw h.book sound.book;
      clients = rw h.clients sound.clients;
      pending = rw (h.clients, pending) sound.pending;
      live = rw (h.book, h.generation) sound.live;
    }

pub turned-within : (before after : Parts) (number most entries : ℕ) → IsTurned before after number most → IsWithin entries before → IsWithin (entries + 1) after
turned-within before after number most entries h within =
    let further : IsFurther most (world_of before.world) (turned number most (world_of before.world)).world = turned-further number most (world_of before.world) in
    let runs : after.world.runs.items ≡ before.world.runs.items = ap (λ (t : Turned). t.world.runs) h.turn ∙ further.runs in
    let count : length after.world.threads.items ≡ length before.world.threads.items = ap (λ (t : Turned). length t.world.threads) h.turn ∙ further.count in
    let wide : 256 * entries + most ≤ 256 * (entries + 1) = omega (arith, h.few) in
    let steps : StepsAtMost (256 * entries + most) (turned number most (world_of before.world)).world.threads = further.bound (256 * entries) within.steps in
    record {
      generation = rw h.generation (omega (arith, within.generation));
      threads = omega (arith, count, within.threads);
      runs = rw runs (omega (arith, within.runs));
      steps = StepsAtMost-weaker _ _ _ wide (subst (λ (t : Turned). StepsAtMost (256 * entries + most) t.world.threads) (sym h.turn) steps);
    }
