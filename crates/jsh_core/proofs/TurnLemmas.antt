-- Turns step by step.
use Rattle.std.proofs.Common.{◌≡◌, ℕ, List, [], ◌∷◌, Some, suc, zero, ◌+◌, ◌-◌, ◌≤◌, Bool, true, false, refl, ap, ◌∙◌, sym, subst, arith, add-zero, add-one, zero-add, ◌==◌, if◌then◌else◌}
use Rattle.std.proofs.Math.Nat.{le_refl}
use Rattle.std.specs.Fmt.{signed_decimal}
use Rattle.std.specs.List.{slice_get}
use Rattle.jsh_sum.specs.Sum.{value_of}
use Rattle.jsh_core.specs.declared.world.Answer.{Answer}
use Rattle.jsh_core.specs.declared.world.Frame.{Frame}
use Rattle.jsh_core.specs.declared.world.Thread.{Thread}
use Rattle.jsh_core.specs.State.{World, numbered}
use Rattle.jsh_core.specs.Threads.{can_go_on, frames_step, next, performed, stepped, turned, Turned}
use Rattle.jsh_core.specs.Threads.Next.{Returns}

-- as many steps more
abbrev pub further : ℕ → Turned → Turned
further done t = record { world = t.world; steps = t.steps + done }

-- after some steps of a turn, what the rest of it comes to is what the whole of it comes to
pub record GoesOn (number done : ℕ) (first now : World) : Type 0 where
  pub rest : (left : ℕ) → turned number (left + done) first ≡ further done (turned number left now)

pub turned-zero : (number : ℕ) (w : World) → turned number 0 w ≡ record { world = w; steps = 0 }
unfolding turned
turned-zero number w = refl

pub turned-suc : (number most : ℕ) (w : World) → can_go_on w number ≡ true →
    turned number (suc most) w ≡ further 1 (turned number most (stepped w number))
unfolding turned
turned-suc number most w ready = rw ready refl

pub turned-stuck : (number most : ℕ) (w : World) → can_go_on w number ≡ false →
    turned number most w ≡ record { world = w; steps = 0 }
unfolding turned
turned-stuck number zero w stuck = refl
turned-stuck number (suc most) w stuck = rw stuck refl

further-zero : (t : Turned) → further 0 t ≡ t
further-zero t = rw add-zero refl

further-further : (a b : ℕ) (t : Turned) → further a (further b t) ≡ further (a + b) t
further-further a b t = let e : t.steps + b + a ≡ t.steps + (a + b) = omega arith in rw e refl

pub GoesOn-start : (number : ℕ) (w : World) → GoesOn number 0 w w
GoesOn-start number w = record { rest = λ left. rw add-zero (sym (further-zero (turned number left w))) }

pub GoesOn-more : (number done : ℕ) (first now later : World) → can_go_on now number ≡ true →
    later ≡ stepped now number → GoesOn number done first now → GoesOn number (done + 1) first later
GoesOn-more number done first now later ready is h = record { rest = λ left. whole left }
  where
    whole : (left : ℕ) → turned number (left + (done + 1)) first ≡ further (done + 1) (turned number left later)
    whole left =
        let e : left + (done + 1) ≡ suc left + done = omega arith in
        let one : turned number (suc left) now ≡ further 1 (turned number left later) =
        subst (λ (w : World). turned number (suc left) now ≡ further 1 (turned number left w)) (sym is) (turned-suc number left now ready) in
        ap (λ n. turned number n first) e ∙ h.rest (suc left) ∙ ap (further done) one ∙ further-further done 1 (turned number left later)

-- where all was done
pub GoesOn-done : (number done : ℕ) (first now : World) → GoesOn number done first now →
    record { world = now; steps = done } ≡ turned number done first
GoesOn-done number done first now h =
    sym (ap (λ n. turned number n first) (sym (zero-add done)) ∙ h.rest 0 ∙ ap (further done) (turned-zero number now) ∙ last)
  where
    last : further done (record { world = now; steps = 0 }) ≡ record { world = now; steps = done }
    last = rw zero-add refl

-- where the thread can't go on
pub GoesOn-stuck : (number done most : ℕ) (first now : World) → done ≤ most → can_go_on now number ≡ false →
    GoesOn number done first now → record { world = now; steps = done } ≡ turned number most first
GoesOn-stuck number done most first now within stuck h =
    let e : most ≡ (most - done) + done = omega arith in
    sym (ap (λ n. turned number n first) e ∙ h.rest (most - done) ∙ ap (further done) (turned-stuck number (most - done) now stuck) ∙ last)
  where
    last : further done (record { world = now; steps = 0 }) ≡ record { world = now; steps = done }
    last = rw zero-add refl

-- a turn does no more steps than it may
pub turned-at_most : (number most : ℕ) (w : World) → (turned number most w).steps ≤ most
turned-at_most number zero w = rw turned-zero (le_refl 0)
turned-at_most number (suc most) w = from (can_go_on w number) refl (turned-at_most number most (stepped w number))
  where
    from : (ready : Bool) → can_go_on w number ≡ ready → (turned number most (stepped w number)).steps ≤ most → (turned number (suc most) w).steps ≤ suc most
    from true e rest = rw (turned-suc number most w e) (omega arith)
    from false e rest = rw (turned-stuck number (suc most) w e) (omega arith)

-- a turn of just the steps that a longer one has done comes to the same
pub turned-kept : (number most : ℕ) (w : World) → turned number (turned number most w).steps w ≡ turned number most w
turned-kept number zero w = rw turned-zero (turned-zero number w)
turned-kept number (suc most) w = from (can_go_on w number) refl (turned-kept number most (stepped w number))
  where
    from : (ready : Bool) → can_go_on w number ≡ ready → turned number (turned number most (stepped w number)).steps (stepped w number) ≡ turned number most (stepped w number) →
        turned number (turned number (suc most) w).steps w ≡ turned number (suc most) w
    from true e h =
        let whole : turned number (suc most) w ≡ further 1 (turned number most (stepped w number)) = turned-suc number most w e in
        let count : (turned number (suc most) w).steps ≡ suc (turned number most (stepped w number)).steps = ap (λ (t : Turned). t.steps) whole ∙ add-one (turned number most (stepped w number)).steps in
        ap (λ n. turned number n w) count
        ∙ turned-suc number (turned number most (stepped w number)).steps w e
        ∙ ap (further 1) h ∙ sym whole
    from false e h = turned-stuck number (turned number (suc most) w).steps w e ∙ sym (turned-stuck number (suc most) w e)

-- the same where a turn that has done nothing is kept as it was asked for
pub turned-kept-asked : (number most done : ℕ) (w : World) → done ≡ (turned number most w).steps →
    turned number (if done == 0 then most else done) w ≡ turned number most w
turned-kept-asked number most done w is = from (done == 0)
  where
    from : (none : Bool) → turned number (if none then most else done) w ≡ turned number most w
    from true = refl
    from false = ap (λ n. turned number n w) is ∙ turned-kept number most w

-- a step behind the first answer returns the text of the sum
returned : (w : World) (number : ℕ) (t : Thread) (frame : Frame) (below : List Frame) (answers : List Answer) → (answers ≡ [] → ⊥) →
    performed w number t frame below (next frame.body.sum answers) ≡ performed w number t frame [] (Returns (signed_decimal (value_of frame.body.sum)))
returned w number t frame below [] later = absurd (later refl)
returned w number t frame below (first ∷ rest) later = refl

frames-returned : (w : World) (number : ℕ) (t : Thread) (frame : Frame) (frames : List Frame) → Some frame ≡ slice_get frames 0 → (frame.answers ≡ [] → ⊥) →
    frames_step w number t frames ≡ performed w number t frame [] (Returns (signed_decimal (value_of frame.body.sum)))
frames-returned w number t frame [] first later = cc
frames-returned w number t frame (top ∷ below) first later =
    let same : frame ≡ top = cc in
    subst (λ (x : Frame). frames_step w number t (x ∷ below) ≡ performed w number t frame [] (Returns (signed_decimal (value_of frame.body.sum)))) same
    (returned w number t frame below frame.answers later)

pub stepped-returns : (w : World) (number : ℕ) (t : Thread) (frame : Frame) → Some t ≡ numbered w.threads number → Some frame ≡ slice_get t.frames 0 →
    (frame.answers ≡ [] → ⊥) → stepped w number ≡ performed w number t frame [] (Returns (signed_decimal (value_of frame.body.sum)))
stepped-returns w number t frame there first later = rw (← there) (frames-returned w number t frame t.frames first later)
