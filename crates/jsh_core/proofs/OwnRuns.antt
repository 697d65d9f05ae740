-- Who owns a run, what makes it and takes it away, and what each entry leaves of it.
use Rattle.std.proofs.Common.{◌≡◌, ◌⊎◌, inl, inr, ℕ, ◌+◌, ◌≤◌, true, false, Option, None, Some, length, refl, ap, sym, subst, ◌∙◌, arith}
use Rattle.jsh_snippet.specs.declared.acts.Entry.{Entry}
use Rattle.jsh_core.specs.declared.world.Run.{Run}
use Rattle.jsh_core.specs.declared.world.RunView.{RunView}
use Rattle.jsh_core.specs.State.{State, numbered}
use Rattle.jsh_core.specs.Runs.{run_view}
use Rattle.jsh_core.specs.Step.{step}
use Rattle.jsh_core.specs.Causes.{IsOwnRun}
use Rattle.jsh_core.specs.Fates.{Makes, TakesAway}
use Rattle.jsh_core.proofs.FateLemmas.{Fate, IsStopOf, Owns, shown-owns, step-fate}
use Rattle.jsh_core.proofs.Numbered.{numbered-within}
use Rattle.jsh_core.proofs.Reached.{SameRun}

owns-of : (s : State) (owner number : ℕ) (run : Run) → IsOwnRun s owner number run → Owns s.world.runs owner number run
owns-of s owner number run own = record { found = own.found; there = own.there; own = own.owner }

own-of : (s : State) (owner number : ℕ) (run : Run) → Owns s.world.runs owner number run → IsOwnRun s owner number run
own-of s owner number run owns = record { found = owns.found; there = owns.there; owner = owns.own }

-- a run that is shown is that client's
pub view-own : (s : State) (number : ℕ) (view : RunView) → run_view s number ≡ Some view → (run : Run) × IsOwnRun s view.owner number run × (run.main ≡ view.main)
view-own s number view shown =
    let run = shown-owns s number view shown in
    (run.0, own-of s view.owner number run.0 run.1, sym (ap (λ (v : RunView). v.main) run.2))

-- a run that isn't taken away stays, as the same run
pub run-stays : (s : State) (entry : Entry) (owner number : ℕ) (run : Run) → IsOwnRun s owner number run → ¬ TakesAway s entry owner number →
    (later : Run) × IsOwnRun (step s entry).state owner number later × SameRun run later
run-stays s entry owner number run own stays =
    let fate : Fate s.world.runs (step s entry).state.world.runs owner number (TakesAway s entry owner number) (Makes s entry owner number) (IsStopOf entry.act number) = step-fate s entry owner number in
    let later = fate.keeps run (owns-of s owner number run own) stays in
    (later.0, own-of (step s entry).state owner number later.0 later.1, later.2)

-- and just as it was, but for a stop of it
pub run-same : (s : State) (entry : Entry) (owner number : ℕ) (run : Run) → IsOwnRun s owner number run → ¬ TakesAway s entry owner number → ¬ IsStopOf entry.act number →
    IsOwnRun (step s entry).state owner number run
run-same s entry owner number run own stays unstopped =
    let fate : Fate s.world.runs (step s entry).state.world.runs owner number (TakesAway s entry owner number) (Makes s entry owner number) (IsStopOf entry.act number) = step-fate s entry owner number in
    let later = fate.keeps run (owns-of s owner number run own) stays in
    subst (λ (r : Run). IsOwnRun (step s entry).state owner number r) (later.3 unstopped) (own-of (step s entry).state owner number later.0 later.1)

-- a run that stands behind an entry stood before it and wasn't taken away, or was made by it
pub run-came : (s : State) (entry : Entry) (owner number : ℕ) (later : Run) → IsOwnRun (step s entry).state owner number later →
    ((run : Run) × IsOwnRun s owner number run × SameRun run later × (¬ TakesAway s entry owner number)) ⊎ Makes s entry owner number
run-came s entry owner number later own = from (fate.came later (owns-of (step s entry).state owner number later own))
  where
    fate : Fate s.world.runs (step s entry).state.world.runs owner number (TakesAway s entry owner number) (Makes s entry owner number) (IsStopOf entry.act number)
    fate = step-fate s entry owner number

    from : ((run : Run) × Owns s.world.runs owner number run × SameRun run later × (¬ TakesAway s entry owner number)) ⊎ Makes s entry owner number →
        ((run : Run) × IsOwnRun s owner number run × SameRun run later × (¬ TakesAway s entry owner number)) ⊎ Makes s entry owner number
    from (inl (run, owns, same, stays)) = inl (run, own-of s owner number run owns, same, stays)
    from (inr made) = inr made

-- a run that is made has the next number
pub run-new : (s : State) (entry : Entry) (owner number : ℕ) → Makes s entry owner number → (number ≡ length s.world.runs + 1) × ((run : Run) × IsOwnRun (step s entry).state owner number run)
run-new s entry owner number makes =
    let fate : Fate s.world.runs (step s entry).state.world.runs owner number (TakesAway s entry owner number) (Makes s entry owner number) (IsStopOf entry.act number) = step-fate s entry owner number in
    let run = fate.makes makes in
    (fate.new makes, (run.0, own-of (step s entry).state owner number run.0 run.1))

unseen : (s : State) (number : ℕ) → ((owner : ℕ) (run : Run) → ¬ Owns s.world.runs owner number run) → run_view s number ≡ None
unseen s number none = from (run_view s number) refl
  where
    from : (found : Option RunView) → run_view s number ≡ found → run_view s number ≡ None
    from None is = is
    from (Some view) is = let run = shown-owns s number view is in absurd (none view.owner run.0 run.1)

-- a run that is taken away isn't seen any more
pub run-taken : (s : State) (entry : Entry) (owner number : ℕ) (run : Run) → IsOwnRun s owner number run → TakesAway s entry owner number →
    run_view (step s entry).state number ≡ None
run-taken s entry owner number run own takes = unseen (step s entry).state number (λ other later owns. from other later owns)
  where
    within : number ≤ length s.world.runs
    within = numbered-within s.world.runs number run own.found

    from : (other : ℕ) (later : Run) → ¬ Owns (step s entry).state.world.runs other number later
    from other later owns = by_past (fate.came later owns)
      where
        fate : Fate s.world.runs (step s entry).state.world.runs other number (TakesAway s entry other number) (Makes s entry other number) (IsStopOf entry.act number)
        fate = step-fate s entry other number

        by_past : ((old : Run) × Owns s.world.runs other number old × SameRun old later × (¬ TakesAway s entry other number)) ⊎ Makes s entry other number → ⊥
        by_past (inl (old, before, same, stays)) =
            let both : Some old ≡ Some run = sym before.found ∙ own.found in
            let the_run : old ≡ run = cc in
            let owner_same : owner ≡ other = sym own.owner ∙ ap (λ (r : Run). r.owner) (sym the_run) ∙ before.own in
            stays (subst (λ n. TakesAway s entry n number) owner_same takes)
        by_past (inr made) = let next : number ≡ length s.world.runs + 1 = fate.new made in absurd (omega (arith, within, next))

-- a run that is gone is never seen again
pub gone-stays : (s : State) (entry : Entry) (number : ℕ) (run : Run) → numbered s.world.runs number ≡ Some run → run.gone ≡ true → run_view (step s entry).state number ≡ None
gone-stays s entry number run found gone = unseen (step s entry).state number (λ other later owns. from other later owns)
  where
    within : number ≤ length s.world.runs
    within = numbered-within s.world.runs number run found

    from : (other : ℕ) (later : Run) → ¬ Owns (step s entry).state.world.runs other number later
    from other later owns = by_past (fate.came later owns)
      where
        fate : Fate s.world.runs (step s entry).state.world.runs other number (TakesAway s entry other number) (Makes s entry other number) (IsStopOf entry.act number)
        fate = step-fate s entry other number

        by_past : ((old : Run) × Owns s.world.runs other number old × SameRun old later × (¬ TakesAway s entry other number)) ⊎ Makes s entry other number → ⊥
        by_past (inl (old, before, same, stays)) =
            let both : Some old ≡ Some run = sym before.found ∙ found in
            let the_run : old ≡ run = cc in
            let clash : true ≡ false = sym gone ∙ ap (λ (r : Run). r.gone) (sym the_run) ∙ before.there in
            cc
        by_past (inr made) = let next : number ≡ length s.world.runs + 1 = fate.new made in absurd (omega (arith, within, next))
