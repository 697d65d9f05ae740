-- What so many entries can have come to, more entries can have.
use Rattle.std.proofs.Common.{ℕ, ◌+◌, ◌*◌, ◌≤◌, length, arith}
use Rattle.std.proofs.lemmas.List.Elements.{All-weaker}
use Rattle.jsh_core.specs.declared.world.Thread.{Thread}
use Rattle.jsh_core.specs.declared.parts.Parts.{Parts}
use Rattle.jsh_core.specs.Limits.{most_steps}
use Rattle.jsh_core.specs.Parts.{IsWithin, StepsAtMost}

-- parts with no more threads and runs, and no more steps of a thread, and what more entries can have come to
pub IsWithin-of : (entries more : ℕ) (p q : Parts) → entries ≤ more → q.generation.number ≤ more → length q.world.threads.items ≤ length p.world.threads.items →
    length q.world.runs.items ≤ length p.world.runs.items →
    ((bound : ℕ) → StepsAtMost bound p.world.threads.items → StepsAtMost bound q.world.threads.items) → IsWithin entries p → IsWithin more q
IsWithin-of entries more p q later number threads runs steps h =
    let kept : StepsAtMost (most_steps * entries) q.world.threads.items = steps (most_steps * entries) h.steps in
    record {
      generation = number;
      threads = omega (arith, h.threads);
      runs = omega (arith, h.runs);
      steps = record {
        each = All-weaker (λ (t : Thread). t.steps ≤ most_steps * entries) (λ (t : Thread). t.steps ≤ most_steps * more) (λ t few. omega arith) q.world.threads.items kept.each;
      };
    }

pub IsWithin-weaker : (entries : ℕ) (p : Parts) → IsWithin entries p → IsWithin (entries + 1) p
IsWithin-weaker entries p h =
    IsWithin-of entries (entries + 1) p p (omega arith) (omega (arith, h.generation)) (omega arith) (omega arith) (λ bound few. few) h
