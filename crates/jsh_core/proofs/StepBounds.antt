-- How far steps can bring a world.
use Rattle.std.proofs.Common.{◌≡◌, ℕ, zero, suc, ◌+◌, ◌≤◌, Bool, true, false, List, [], ◌∷◌, Option, None, Some, length, refl, ap, sym, subst, ◌∙◌, arith, add-zero, length-set}
use Rattle.jsh_core.specs.declared.world.Thread.{Thread}
use Rattle.jsh_core.specs.declared.world.Frame.{Frame}
use Rattle.jsh_core.specs.State.{World, numbered}
use Rattle.jsh_core.specs.Threads.{can_go_on, frames_step, next, performed, stepped, thread_answered, thread_returned, thread_step, turned, Next}
use Rattle.jsh_core.specs.Threads.Next.{Sets, Returns}
use Rattle.jsh_core.specs.Parts.{StepsAtMost}
use Rattle.jsh_core.proofs.Bounds.{StepsAtMost-weaker}
use Rattle.jsh_core.proofs.TurnLemmas.{turned-zero, turned-suc, turned-stuck}
use Rattle.jsh_core.proofs.WorldLemmas.{StepsAtMost-stepped}

-- a world that so many steps may come to
pub record IsFurther (steps : ℕ) (from to : World) : Type 0 where
  pub runs : to.runs ≡ from.runs
  pub pending : to.pending ≡ from.pending
  pub count : length to.threads ≡ length from.threads
  pub bound : (bound : ℕ) → StepsAtMost bound from.threads → StepsAtMost (bound + steps) to.threads

IsFurther-same : (steps : ℕ) (w : World) → IsFurther steps w w
IsFurther-same steps w = record {
  runs = refl;
  pending = refl;
  count = refl;
  bound = λ bound h. let wide : bound ≤ bound + steps = omega arith in StepsAtMost-weaker _ _ _ wide h;
}

IsFurther-then : (steps : ℕ) (u v w : World) → IsFurther 1 u v → IsFurther steps v w → IsFurther (suc steps) u w
IsFurther-then steps u v w one more = record {
  runs = more.runs ∙ one.runs;
  pending = more.pending ∙ one.pending;
  count = more.count ∙ one.count;
  bound = λ bound h. let same : bound + 1 + steps ≤ bound + suc steps = omega arith in StepsAtMost-weaker _ _ _ same (more.bound (bound + 1) (one.bound bound h));
}

performed-further : (w : World) (number : ℕ) (t : Thread) (frame : Frame) (below : List Frame) (what : Next) → numbered w.threads number ≡ Some t →
    IsFurther 1 w (performed w number t frame below what)
performed-further w number t frame below (Sets v) there = record {
  runs = refl;
  pending = refl;
  count = simp length-set;
  bound = λ bound h. StepsAtMost-stepped bound w.threads _ number t (thread_answered t frame below) there refl refl h;
}
performed-further w number t frame below (Returns text) there = record {
  runs = refl;
  pending = refl;
  count = simp length-set;
  bound = λ bound h. StepsAtMost-stepped bound w.threads _ number t (thread_returned t text) there refl refl h;
}

frames-further : (w : World) (number : ℕ) (t : Thread) (frames : List Frame) → numbered w.threads number ≡ Some t → IsFurther 1 w (frames_step w number t frames)
frames-further w number t [] there = IsFurther-same 1 w
frames-further w number t (frame ∷ below) there = performed-further w number t frame below (next frame.body.sum frame.answers) there

thread-further : (w : World) (number : ℕ) (found : Option Thread) → numbered w.threads number ≡ found → IsFurther 1 w (thread_step w number found)
thread-further w number None there = IsFurther-same 1 w
thread-further w number (Some t) there = frames-further w number t t.frames there

pub stepped-further : (w : World) (number : ℕ) → IsFurther 1 w (stepped w number)
stepped-further w number = thread-further w number (numbered w.threads number) refl

pub turned-further : (number most : ℕ) (w : World) → IsFurther most w (turned number most w).world
turned-further number zero w = rw turned-zero (IsFurther-same 0 w)
turned-further number (suc most) w = from (can_go_on w number) refl (turned-further number most (stepped w number))
  where
    from : (ready : Bool) → can_go_on w number ≡ ready → IsFurther most (stepped w number) (turned number most (stepped w number)).world →
        IsFurther (suc most) w (turned number (suc most) w).world
    from true e h = rw (turned-suc number most w e) (IsFurther-then most w (stepped w number) _ (stepped-further w number) h)
    from false e h = rw (turned-stuck number (suc most) w e) (IsFurther-same (suc most) w)
