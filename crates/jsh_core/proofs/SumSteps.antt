-- On sums a thread that isn't stopped is over after exactly two steps of it, whoever takes them, in any number of turns.
use Rattle.std.proofs.Common.{◌≡◌, ◌⊎◌, inl, inr, ℕ, zero, suc, ◌+◌, ◌<◌, ◌≤◌, Bool, true, false, [], Option, None, Some, refl, ap, sym, subst, ◌∙◌, arith, add-zero}
use Rattle.std.specs.Fmt.{signed_decimal}
use Rattle.std.specs.Option.{option_map_or}
use Rattle.jsh_snippet.specs.declared.acts.Act.TheVariants as act
use Rattle.jsh_snippet.specs.declared.acts.Entry.{Entry}
use Rattle.jsh_snippet.specs.declared.replies.ReplyBody.TheVariants as body
use Rattle.jsh_sched.specs.declared.ThreadState.{ThreadState}
use Rattle.jsh_sched.specs.declared.ThreadState.TheVariants as thread_state
use Rattle.jsh_sched.specs.ThreadState.{is_alive, is_ready}
use Rattle.jsh_sched.specs.Pick.{picked}
use Rattle.jsh_sum.specs.Sum.{value_of}
use Rattle.jsh_core.specs.declared.world.Thread.{Thread}
use Rattle.jsh_core.specs.State.{State, World, numbered}
use Rattle.jsh_core.specs.Threads.{can_go_on, is_thread_alive, performed, stepped, thread_answered, thread_returned, turned, Turned}
use Rattle.jsh_core.specs.Threads.Next.{Sets, Returns}
use Rattle.jsh_core.specs.Step.{step}
use Rattle.jsh_core.proofs.DeliveryLaws.{by}
use Rattle.jsh_core.proofs.Ended.{step-over}
use Rattle.jsh_core.proofs.Numbered.{numbered-beside, numbered-set}
use Rattle.jsh_core.proofs.Picking.{goes-picked}
use Rattle.jsh_core.proofs.Reached.{IsReached, reached-fits}
use Rattle.jsh_core.proofs.Sums.{AreOnSums, IsOnSum, stepped-answered, stepped-begun, sums-at, sums-lengths, sums-stepped}
use Rattle.jsh_core.proofs.Sums.IsOnSum.{answered, begun, returned, stopped}
use Rattle.jsh_core.proofs.ThreadLaws.{GoesOver, frame_answered, frame_begun, ready-at}
use Rattle.jsh_core.proofs.TurnLemmas.{turned-stuck, turned-suc, turned-zero}

-- the steps that the thread with this number has done
abbrev pub steps_of : World → ℕ → ℕ
steps_of w number = option_map_or (λ (t : Thread). t.steps) (numbered w.threads number) 0

pub steps-at : (w : World) (number : ℕ) (t : Thread) → numbered w.threads number ≡ Some t → steps_of w number ≡ t.steps
steps-at w number t is = ap (λ (found : Option Thread). option_map_or (λ (x : Thread). x.steps) found 0) is

-- the thread of one that can go on
record GoingThread (w : World) (number : ℕ) : Type 0 where
  state : ThreadState
  thread : Thread
  state_is : numbered w.states number ≡ Some state
  thread_is : numbered w.threads number ≡ Some thread
  ready : is_ready state ≡ true
  sum : IsOnSum state thread

going-thread : (w : World) (number : ℕ) → AreOnSums w.states w.threads → can_go_on w number ≡ true → GoingThread w number
going-thread w number sums goes = from (numbered w.states number) refl
  where
    from : (found : Option ThreadState) → numbered w.states number ≡ found → GoingThread w number
    from None is = let both : false ≡ true = sym (ap (λ (f : Option ThreadState). option_map_or is_ready f false) is) ∙ goes in cc
    from (Some state) is =
        let fits = sums-lengths w.states w.threads sums in
        let thread = numbered-beside w.states w.threads number state (sym fits) is in
        record {
          state = state;
          thread = thread.0;
          state_is = is;
          thread_is = thread.1;
          ready = ready-at w number state is goes;
          sum = sums-at w.states w.threads number state thread.0 sums is thread.1;
        }

-- a step is one more
stepped-adds : (w : World) (number : ℕ) → AreOnSums w.states w.threads → can_go_on w number ≡ true → steps_of (stepped w number) number ≡ steps_of w number + 1
stepped-adds w number sums goes = from (going-thread w number sums goes)
  where
    from : GoingThread w number → steps_of (stepped w number) number ≡ steps_of w number + 1
    from g = by_sum g.sum
      where
        counted : steps_of w number ≡ g.thread.steps
        counted = steps-at w number g.thread g.thread_is

        by_sum : IsOnSum g.state g.thread → steps_of (stepped w number) number ≡ steps_of w number + 1
        by_sum (begun what is steps frames none) =
            ap (λ (x : World). steps_of x number) (stepped-begun w number g.thread what g.thread_is frames)
            ∙ steps-at (performed w number g.thread (frame_begun what) [] (Sets (value_of what.sum))) number (thread_answered g.thread (frame_begun what) [])
            (numbered-set w.threads number g.thread (thread_answered g.thread (frame_begun what) []) g.thread_is)
            ∙ ap (λ n. n + 1) (sym counted)
        by_sum (answered what is steps frames none) =
            ap (λ (x : World). steps_of x number) (stepped-answered w number g.thread what g.thread_is frames)
            ∙ steps-at (performed w number g.thread (frame_answered what) [] (Returns (signed_decimal (value_of what.sum)))) number (thread_returned g.thread (signed_decimal (value_of what.sum)))
            (numbered-set w.threads number g.thread (thread_returned g.thread (signed_decimal (value_of what.sum))) g.thread_is)
            ∙ ap (λ n. n + 1) (sym counted)
        by_sum (returned text is steps frames end) = let both : false ≡ true = sym (ap is_ready is) ∙ g.ready in cc
        by_sum (stopped is steps frames end) = let both : false ≡ true = sym (ap is_ready is) ∙ g.ready in cc

turned-adds : (number most : ℕ) (w : World) → AreOnSums w.states w.threads → steps_of (turned number most w).world number ≡ steps_of w number + (turned number most w).steps
turned-adds number zero w sums = subst (λ (t : Turned). steps_of t.world number ≡ steps_of w number + t.steps) (sym (turned-zero number w)) (sym (add-zero (steps_of w number)))
turned-adds number (suc most) w sums = from (can_go_on w number) refl (λ later. turned-adds number most (stepped w number) later)
  where
    from : (ready : Bool) → can_go_on w number ≡ ready →
        (AreOnSums (stepped w number).states (stepped w number).threads →
        steps_of (turned number most (stepped w number)).world number ≡ steps_of (stepped w number) number + (turned number most (stepped w number)).steps) →
        steps_of (turned number (suc most) w).world number ≡ steps_of w number + (turned number (suc most) w).steps
    from true e rest =
        let later : steps_of (turned number most (stepped w number)).world number ≡ steps_of (stepped w number) number + (turned number most (stepped w number)).steps = rest (sums-stepped w number sums e) in
        let one : steps_of (stepped w number) number ≡ steps_of w number + 1 = stepped-adds w number sums e in
        let all : steps_of (turned number most (stepped w number)).world number ≡ steps_of w number + ((turned number most (stepped w number)).steps + 1) = omega (arith, later, one) in
        subst (λ (t : Turned). steps_of t.world number ≡ steps_of w number + t.steps) (sym (turned-suc number most w e)) all
    from false e rest = subst (λ (t : Turned). steps_of t.world number ≡ steps_of w number + t.steps) (sym (turned-stuck number (suc most) w e)) (sym (add-zero (steps_of w number)))

-- a turn adds just the steps that it counts
pub turn-adds : (s : State) (client thread steps done : ℕ) → IsReached s → (step s (by client (act.Turn thread steps))).reply.body ≡ body.Turned done →
    steps_of (step s (by client (act.Turn thread steps))).state.world thread ≡ steps_of s.world thread + done
turn-adds s client thread steps done r counted =
    let same : (turned thread steps s.world).steps ≡ done = cc in
    turned-adds thread steps s.world r.world.sums ∙ ap (λ n. steps_of s.world thread + n) same

-- one that can go on has done fewer than two
pub steps-few : (s : State) (number : ℕ) → IsReached s → can_go_on s.world number ≡ true → steps_of s.world number < 2
steps-few s number r goes = from (going-thread s.world number r.world.sums goes)
  where
    from : GoingThread s.world number → steps_of s.world number < 2
    from g = by_sum g.sum
      where
        counted : steps_of s.world number ≡ g.thread.steps
        counted = steps-at s.world number g.thread g.thread_is

        by_sum : IsOnSum g.state g.thread → steps_of s.world number < 2
        by_sum (begun what is steps frames none) = omega (arith, counted, steps)
        by_sum (answered what is steps frames none) = omega (arith, counted, steps)
        by_sum (returned text is steps frames end) = let both : false ≡ true = sym (ap is_ready is) ∙ g.ready in cc
        by_sum (stopped is steps frames end) = omega (arith, counted, steps)

-- and it isn't alive any more exactly where it has done two, or was stopped
pub steps-over : (s : State) (number : ℕ) (state : ThreadState) (t : Thread) → IsReached s → numbered s.world.states number ≡ Some state → numbered s.world.threads number ≡ Some t →
    ((state ≡ thread_state.Ready) × (t.steps < 2)) ⊎ (((state ≡ thread_state.Ended) × (t.steps ≡ 2)) ⊎ ((state ≡ thread_state.Stopped) × (t.steps < 2)))
steps-over s number state t r state_is thread_is = from (sums-at s.world.states s.world.threads number state t r.world.sums state_is thread_is)
  where
    from : IsOnSum state t → ((state ≡ thread_state.Ready) × (t.steps < 2)) ⊎ (((state ≡ thread_state.Ended) × (t.steps ≡ 2)) ⊎ ((state ≡ thread_state.Stopped) × (t.steps < 2)))
    from (begun what is steps frames none) = inl (is, omega (arith, steps))
    from (answered what is steps frames none) = inl (is, omega (arith, steps))
    from (returned text is steps frames end) = inr (inl (is, steps))
    from (stopped is steps frames end) = inr (inr (is, steps))

-- one that is alive can go on
pub alive-ready : (s : State) (number : ℕ) → IsReached s → is_thread_alive s.world number ≡ true → can_go_on s.world number ≡ true
alive-ready s number r alive = from (numbered s.world.states number) refl
  where
    from : (found : Option ThreadState) → numbered s.world.states number ≡ found → can_go_on s.world number ≡ true
    from None is = let both : false ≡ true = sym (ap (λ (f : Option ThreadState). option_map_or is_alive f false) is) ∙ alive in cc
    from (Some state) is = by_sum (sums-at s.world.states s.world.threads number state thread.0 r.world.sums is thread.1)
      where
        thread : (t : Thread) × (numbered s.world.threads number ≡ Some t)
        thread = numbered-beside s.world.states s.world.threads number state (sym (reached-fits s r)) is

        lives : is_alive state ≡ true
        lives = sym (ap (λ (f : Option ThreadState). option_map_or is_alive f false) is) ∙ alive

        goes : is_ready state ≡ true → can_go_on s.world number ≡ true
        goes e = ap (λ (f : Option ThreadState). option_map_or is_ready f false) is ∙ e

        by_sum : IsOnSum state thread.0 → can_go_on s.world number ≡ true
        by_sum (begun what e steps frames none) = goes (ap is_ready e)
        by_sum (answered what e steps frames none) = goes (ap is_ready e)
        by_sum (returned text e steps frames end) = let both : false ≡ true = sym (ap is_alive e) ∙ lives in cc
        by_sum (stopped e steps frames end) = let both : false ≡ true = sym (ap is_alive e) ∙ lives in cc

-- so while a thread is alive, one is picked
pub alive-picks : (s : State) (number cursor : ℕ) (main : Option ℕ) (first : Bool) → IsReached s → is_thread_alive s.world number ≡ true →
    (thread : ℕ) × (picked s.world.states cursor main first ≡ Some thread)
alive-picks s number cursor main first r alive = goes-picked s.world cursor main first (number, alive-ready s number r alive)

-- steps are never taken back
pub steps-grow : (s : State) (entry : Entry) (number : ℕ) → IsReached s → steps_of s.world number ≤ steps_of (step s entry).state.world number
steps-grow s entry number r = from (numbered s.world.threads number) refl
  where
    from : (found : Option Thread) → numbered s.world.threads number ≡ found → steps_of s.world number ≤ steps_of (step s entry).state.world number
    from None is = let none : steps_of s.world number ≡ 0 = ap (λ (f : Option Thread). option_map_or (λ (x : Thread). x.steps) f 0) is in omega (arith, none)
    from (Some t) is = more (step-over s entry number state.0 t state.1 is)
      where
        state : (x : ThreadState) × (numbered s.world.states number ≡ Some x)
        state = numbered-beside s.world.threads s.world.states number t (reached-fits s r) is

        more : GoesOver s.world (step s entry).state.world number state.0 t → steps_of s.world number ≤ steps_of (step s entry).state.world number
        more g =
            let before : steps_of s.world number ≡ t.steps = steps-at s.world number t is in
            let behind : steps_of (step s entry).state.world number ≡ g.thread_after.steps = steps-at (step s entry).state.world number g.thread_after g.thread_is in
            omega (arith, before, behind, g.later.steps)
