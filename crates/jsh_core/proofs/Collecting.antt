-- What an act on a run is answered.
use Rattle.std.proofs.Common.{◌≡◌, ◌≢◌, ℕ, true, false, None, Some, not, refl, ap, sym, ◌∙◌}
use Rattle.std.specs.List.{list_any}
use Rattle.jsh_snippet.specs.declared.acts.Act.TheVariants as act
use Rattle.jsh_snippet.specs.declared.replies.ReplyBody.TheVariants as body
use Rattle.jsh_snippet.specs.declared.replies.Collected.TheVariants as «collected»
use Rattle.jsh_snippet.specs.declared.replies.LimitKind.{LimitKind}
use Rattle.jsh_snippet.specs.declared.replies.Outcome.TheVariants as outcome
use Rattle.jsh_snippet.specs.declared.replies.Refusal.TheVariants as refusal
use Rattle.jsh_sched.specs.ThreadState.{is_ready}
use Rattle.jsh_core.specs.declared.world.Run.{Run}
use Rattle.jsh_core.specs.declared.world.RunView.{RunView}
use Rattle.jsh_core.specs.State.{State, Acted, numbered}
use Rattle.jsh_core.specs.Threads.{is_thread_alive}
use Rattle.jsh_core.specs.Runs.{alive_threads, collect, expire, outcome_of, run_view, steps_so_far, stop}
use Rattle.jsh_core.specs.Step.{delivered, step}
use Rattle.jsh_core.specs.Causes.{IsOwnRun, over_with}
use Rattle.jsh_core.proofs.DeliveryLaws.{IsDelivered, by, delivers}
use Rattle.jsh_core.proofs.FateLemmas.{owns-shown}
use Rattle.jsh_core.proofs.Views.{Collects, Expires, Stops, view-collect, view-expire, view-stop}
use Rattle.jsh_core.proofs.Views.{absent, ended, foreign, running, spent, stalled, standing}

-- a run that is there is shown to its owner
pub own-view : (s : State) (client number : ℕ) (run : Run) → IsOwnRun s client number run →
    run_view s number ≡ Some (record { owner = client; main = run.main; over = not (is_thread_alive s.world run.main) })
own-view s client number run own = owns-shown s client number run (record { found = own.found; there = own.there; own = own.owner })

-- who owns a run is known from how it is shown, and so it is neither unseen nor another's
unseen : (s : State) (client number : ℕ) (run : Run) → IsOwnRun s client number run → run_view s number ≡ None → ⊥
unseen s client number run own none = let both : None ≡ Some _ = sym none ∙ own-view s client number run own in cc

the-run : (s : State) (client number : ℕ) (run other : Run) → IsOwnRun s client number run → numbered s.world.runs number ≡ Some other → other ≡ run
the-run s client number run other own found = let both : Some other ≡ Some run = sym found ∙ own.found in cc

not-foreign : (s : State) (client number : ℕ) (run other : Run) → IsOwnRun s client number run → numbered s.world.runs number ≡ Some other → other.owner ≢ client → ⊥
not-foreign s client number run other own found apart = apart (ap (λ (x : Run). x.owner) (the-run s client number run other own found) ∙ own.owner)

collect-body : (s : State) (client number : ℕ) → (step s (by client (act.Collect number))).reply.body ≡ (collect s client number).body
collect-body s client number =
    let is : IsDelivered (collect s client number) (delivered client (collect s client number)) = delivers client (collect s client number) in is.body

expire-body : (s : State) (client number steps : ℕ) → (step s (by client (act.Expire number steps))).reply.body ≡ (expire s client number steps).body
expire-body s client number steps =
    let is : IsDelivered (expire s client number steps) (delivered client (expire s client number steps)) = delivers client (expire s client number steps) in is.body

stop-body : (s : State) (client number : ℕ) → (step s (by client (act.Stop number))).reply.body ≡ (stop s client number).body
stop-body s client number =
    let is : IsDelivered (stop s client number) (delivered client (stop s client number)) = delivers client (stop s client number) in is.body

-- a run that has ended is handed out with its outcome
pub collect-over : (s : State) (client number : ℕ) (run : Run) → IsOwnRun s client number run → is_thread_alive s.world run.main ≡ false →
    (step s (by client (act.Collect number))).reply.body ≡ over_with run.snippet (outcome_of s.world run)
collect-over s client number run own dead = collect-body s client number ∙ from (collect s client number) (view-collect s client number)
  where
    from : (acted : Acted) → Collects s client number acted → acted.body ≡ over_with run.snippet (outcome_of s.world run)
    from acted (absent none is) = absurd (unseen s client number run own none)
    from acted (foreign other found there apart is) = absurd (not-foreign s client number run other own found apart)
    from acted (running other its alive goes is) =
        let both : true ≡ false = sym alive ∙ ap (λ (x : Run). is_thread_alive s.world x.main) (the-run s client number run other own its.found) ∙ dead in cc
    from acted (stalled other its alive none is) =
        let both : true ≡ false = sym alive ∙ ap (λ (x : Run). is_thread_alive s.world x.main) (the-run s client number run other own its.found) ∙ dead in cc
    from acted (ended other its gone is) =
        ap (λ (a : Acted). a.body) is ∙ ap (λ (x : Run). over_with x.snippet (outcome_of s.world x)) (the-run s client number run other own its.found)

-- one that hasn't goes on where some thread can
pub collect-alive : (s : State) (client number : ℕ) (run : Run) → IsOwnRun s client number run → is_thread_alive s.world run.main ≡ true → list_any is_ready s.world.states ≡ true →
    (step s (by client (act.Collect number))).reply.body ≡ body.Collected («collected».Running (steps_so_far s.world run))
collect-alive s client number run own lives some = collect-body s client number ∙ from (collect s client number) (view-collect s client number)
  where
    from : (acted : Acted) → Collects s client number acted → acted.body ≡ body.Collected («collected».Running (steps_so_far s.world run))
    from acted (absent none is) = absurd (unseen s client number run own none)
    from acted (foreign other found there apart is) = absurd (not-foreign s client number run other own found apart)
    from acted (running other its alive goes is) =
        ap (λ (a : Acted). a.body) is ∙ ap (λ (x : Run). body.Collected («collected».Running (steps_so_far s.world x))) (the-run s client number run other own its.found)
    from acted (stalled other its alive none is) = let both : false ≡ true = sym none ∙ some in cc
    from acted (ended other its gone is) =
        let both : false ≡ true = sym gone ∙ ap (λ (x : Run). is_thread_alive s.world x.main) (the-run s client number run other own its.found) ∙ lives in cc

-- and is given up where none can
pub collect-stalled : (s : State) (client number : ℕ) (run : Run) → IsOwnRun s client number run → is_thread_alive s.world run.main ≡ true → list_any is_ready s.world.states ≡ false →
    (step s (by client (act.Collect number))).reply.body ≡ over_with run.snippet (outcome.Stalled (alive_threads s.world.states))
collect-stalled s client number run own lives none = collect-body s client number ∙ from (collect s client number) (view-collect s client number)
  where
    from : (acted : Acted) → Collects s client number acted → acted.body ≡ over_with run.snippet (outcome.Stalled (alive_threads s.world.states))
    from acted (absent nothing is) = absurd (unseen s client number run own nothing)
    from acted (foreign other found there apart is) = absurd (not-foreign s client number run other own found apart)
    from acted (running other its alive goes is) = let both : true ≡ false = sym goes ∙ none in cc
    from acted (stalled other its alive nothing is) =
        ap (λ (a : Acted). a.body) is ∙ ap (λ (x : Run). over_with x.snippet (outcome.Stalled (alive_threads s.world.states))) (the-run s client number run other own its.found)
    from acted (ended other its gone is) =
        let both : false ≡ true = sym gone ∙ ap (λ (x : Run). is_thread_alive s.world x.main) (the-run s client number run other own its.found) ∙ lives in cc

-- an expiry gives up a run that hasn't ended
pub expire-alive : (s : State) (client number steps : ℕ) (run : Run) → IsOwnRun s client number run → is_thread_alive s.world run.main ≡ true →
    (step s (by client (act.Expire number steps))).reply.body ≡ over_with run.snippet (outcome.Spent steps)
expire-alive s client number steps run own lives = expire-body s client number steps ∙ from (expire s client number steps) (view-expire s client number steps)
  where
    from : (acted : Acted) → Expires s client number steps acted → acted.body ≡ over_with run.snippet (outcome.Spent steps)
    from acted (absent none is) = absurd (unseen s client number run own none)
    from acted (foreign other found there apart is) = absurd (not-foreign s client number run other own found apart)
    from acted (spent other its alive is) = ap (λ (a : Acted). a.body) is ∙ ap (λ (x : Run). over_with x.snippet (outcome.Spent steps)) (the-run s client number run other own its.found)
    from acted (ended other its gone is) =
        let both : false ≡ true = sym gone ∙ ap (λ (x : Run). is_thread_alive s.world x.main) (the-run s client number run other own its.found) ∙ lives in cc

-- and hands out one that has
pub expire-over : (s : State) (client number steps : ℕ) (run : Run) → IsOwnRun s client number run → is_thread_alive s.world run.main ≡ false →
    (step s (by client (act.Expire number steps))).reply.body ≡ over_with run.snippet (outcome_of s.world run)
expire-over s client number steps run own dead = expire-body s client number steps ∙ from (expire s client number steps) (view-expire s client number steps)
  where
    from : (acted : Acted) → Expires s client number steps acted → acted.body ≡ over_with run.snippet (outcome_of s.world run)
    from acted (absent none is) = absurd (unseen s client number run own none)
    from acted (foreign other found there apart is) = absurd (not-foreign s client number run other own found apart)
    from acted (spent other its alive is) =
        let both : true ≡ false = sym alive ∙ ap (λ (x : Run). is_thread_alive s.world x.main) (the-run s client number run other own its.found) ∙ dead in cc
    from acted (ended other its gone is) =
        ap (λ (a : Acted). a.body) is ∙ ap (λ (x : Run). over_with x.snippet (outcome_of s.world x)) (the-run s client number run other own its.found)

-- a run that can't be seen is refused to everyone
pub collect-absent : (s : State) (client number : ℕ) → run_view s number ≡ None →
    (step s (by client (act.Collect number))).reply.body ≡ body.Refused (refusal.NoSuchRun number)
collect-absent s client number none = collect-body s client number ∙ from (collect s client number) (view-collect s client number)
  where
    hidden : (run : Run) → IsOwnRun s run.owner number run → ⊥
    hidden run own = unseen s run.owner number run own none

    from : (acted : Acted) → Collects s client number acted → acted.body ≡ body.Refused (refusal.NoSuchRun number)
    from acted (absent nothing is) = ap (λ (a : Acted). a.body) is
    from acted (foreign run found there apart is) = absurd (hidden run (record { found = found; there = there; owner = refl }))
    from acted (running run its alive goes is) = absurd (unseen s client number run its none)
    from acted (stalled run its alive nothing is) = absurd (unseen s client number run its none)
    from acted (ended run its gone is) = absurd (unseen s client number run its none)

pub expire-absent : (s : State) (client number steps : ℕ) → run_view s number ≡ None →
    (step s (by client (act.Expire number steps))).reply.body ≡ body.Refused (refusal.NoSuchRun number)
expire-absent s client number steps none = expire-body s client number steps ∙ from (expire s client number steps) (view-expire s client number steps)
  where
    hidden : (run : Run) → IsOwnRun s run.owner number run → ⊥
    hidden run own = unseen s run.owner number run own none

    from : (acted : Acted) → Expires s client number steps acted → acted.body ≡ body.Refused (refusal.NoSuchRun number)
    from acted (absent nothing is) = ap (λ (a : Acted). a.body) is
    from acted (foreign run found there apart is) = absurd (hidden run (record { found = found; there = there; owner = refl }))
    from acted (spent run its alive is) = absurd (unseen s client number run its none)
    from acted (ended run its gone is) = absurd (unseen s client number run its none)

pub stop-absent : (s : State) (client number : ℕ) → run_view s number ≡ None →
    (step s (by client (act.Stop number))).reply.body ≡ body.Refused (refusal.NoSuchRun number)
stop-absent s client number none = stop-body s client number ∙ from (stop s client number) (view-stop s client number)
  where
    from : (acted : Acted) → Stops s client number acted → acted.body ≡ body.Refused (refusal.NoSuchRun number)
    from acted (absent nothing is) = ap (λ (a : Acted). a.body) is
    from acted (standing run found there is) = absurd (unseen s run.owner number run (record { found = found; there = there; owner = refl }) none)

-- why a run goes on
pub record GoesOnBecause (s : State) (client run : ℕ) : Type 0 where
  pub view : RunView
  pub found : run_view s run ≡ Some view
  pub owner : view.owner ≡ client
  pub over : view.over ≡ false
  pub ready : list_any is_ready s.world.states ≡ true

pub collect-running : (s : State) (client run steps : ℕ) → (step s (by client (act.Collect run))).reply.body ≡ body.Collected («collected».Running steps) → GoesOnBecause s client run
collect-running s client run steps answer = from (collect s client run) (view-collect s client run) (sym (collect-body s client run) ∙ answer)
  where
    from : (acted : Acted) → Collects s client run acted → acted.body ≡ body.Collected («collected».Running steps) → GoesOnBecause s client run
    from acted (absent none is) e = let both = sym (ap (λ (a : Acted). a.body) is) ∙ e in (cc)
    from acted (foreign other found there apart is) e = let both = sym (ap (λ (a : Acted). a.body) is) ∙ e in (cc)
    from acted (running other its alive goes is) e = record {
      view = _;
      found = own-view s client run other its;
      owner = refl;
      over = ap not alive;
      ready = goes;
    }
    from acted (stalled other its alive none is) e = let both = sym (ap (λ (a : Acted). a.body) is) ∙ e in (cc)
    from acted (ended other its gone is) e = let both = sym (ap (λ (a : Acted). a.body) is) ∙ e in (cc)

-- an act on a run is never refused at a limit
pub collect-unlimited : (s : State) (client number : ℕ) (which : LimitKind) (count : ℕ) →
    (step s (by client (act.Collect number))).reply.body ≢ body.Refused (refusal.Limit which count)
collect-unlimited s client number which count answer = from (collect s client number) (view-collect s client number) (sym (collect-body s client number) ∙ answer)
  where
    from : (acted : Acted) → Collects s client number acted → acted.body ≡ body.Refused (refusal.Limit which count) → ⊥
    from acted (absent none is) e = let both = sym (ap (λ (a : Acted). a.body) is) ∙ e in (cc)
    from acted (foreign other found there apart is) e = let both = sym (ap (λ (a : Acted). a.body) is) ∙ e in (cc)
    from acted (running other its alive goes is) e = let both = sym (ap (λ (a : Acted). a.body) is) ∙ e in (cc)
    from acted (stalled other its alive none is) e = let both = sym (ap (λ (a : Acted). a.body) is) ∙ e in (cc)
    from acted (ended other its gone is) e = let both = sym (ap (λ (a : Acted). a.body) is) ∙ e in (cc)

pub expire-unlimited : (s : State) (client number steps : ℕ) (which : LimitKind) (count : ℕ) →
    (step s (by client (act.Expire number steps))).reply.body ≢ body.Refused (refusal.Limit which count)
expire-unlimited s client number steps which count answer = from (expire s client number steps) (view-expire s client number steps) (sym (expire-body s client number steps) ∙ answer)
  where
    from : (acted : Acted) → Expires s client number steps acted → acted.body ≡ body.Refused (refusal.Limit which count) → ⊥
    from acted (absent none is) e = let both = sym (ap (λ (a : Acted). a.body) is) ∙ e in (cc)
    from acted (foreign other found there apart is) e = let both = sym (ap (λ (a : Acted). a.body) is) ∙ e in (cc)
    from acted (spent other its alive is) e = let both = sym (ap (λ (a : Acted). a.body) is) ∙ e in (cc)
    from acted (ended other its gone is) e = let both = sym (ap (λ (a : Acted). a.body) is) ∙ e in (cc)
