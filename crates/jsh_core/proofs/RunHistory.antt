-- What a run in a later state has come of: who has stopped it, and what it evaluates.
use Rattle.std.proofs.Common.{◌≡◌, ◌↔◌, ◌⊎◌, inl, inr, ℕ, ◌-◌, ◌≤◌, Bool, true, false, not, List, [], ◌∷◌, set, Option, None, Some, length, refl, ap, sym, subst, ◌∙◌, arith, cond}
use Rattle.std.specs.Fmt.{signed_decimal}
use Rattle.std.specs.Option.{option_map_or}
use Rattle.std.proofs.lemmas.Bool.{cases_eq}
use Rattle.jsh_snippet.specs.declared.acts.Act.{Act}
use Rattle.jsh_snippet.specs.declared.acts.Act.TheVariants as act
use Rattle.jsh_snippet.specs.declared.acts.Entry.{Entry}
use Rattle.jsh_snippet.specs.declared.replies.Outcome.TheVariants as outcome
use Rattle.jsh_sched.specs.declared.ThreadState.{ThreadState}
use Rattle.jsh_sched.specs.ThreadState.{is_alive}
use Rattle.jsh_sum.specs.declared.sums.Sum.{Sum}
use Rattle.jsh_sum.specs.Sum.{value_of}
use Rattle.jsh_verdict.specs.declared.verdict.Verdict.TheVariants.{Accepted}
use Rattle.jsh_verdict.specs.Verdict.{verdict}
use Rattle.jsh_core.specs.declared.world.Body.{Body}
use Rattle.jsh_core.specs.declared.world.Run.{Run}
use Rattle.jsh_core.specs.declared.world.RunView.{RunView}
use Rattle.jsh_core.specs.State.{State, Acted, numbered, opening}
use Rattle.jsh_core.specs.Snippets.{run_of}
use Rattle.jsh_core.specs.Threads.{is_thread_alive, stop_thread}
use Rattle.jsh_core.specs.Runs.{outcome_of, run_view, stop, stop_run}
use Rattle.jsh_core.specs.Step.{delivered, step}
use Rattle.jsh_core.specs.Causes.{IsOwnRun}
use Rattle.jsh_core.specs.Fates.{Halts, Makes, TakesAway, WasHalted, WasStopped}
use Rattle.jsh_core.specs.History.{state_after, state_of}
use Rattle.jsh_core.proofs.Collecting.{own-view}
use Rattle.jsh_core.proofs.DeliveryLaws.{IsDelivered, by, delivers}
use Rattle.jsh_core.proofs.Fresh.{IsFresh, runless, submit-answers, submit-sum}
use Rattle.jsh_core.proofs.Growing.{Grows, step-grows}
use Rattle.jsh_core.proofs.Numbered.{numbered-set, numbered-within}
use Rattle.jsh_core.proofs.OwnRuns.{run-came, run-new, run-same, view-own}
use Rattle.jsh_core.proofs.Reached.{HasMain, IsReached, SameRun, SameRun-same, none-numbered, opening-reached, reached, reached-fits, reached_after, step-reached}
use Rattle.jsh_core.proofs.RunEnds.{KeepsOutcome, ended-same, outcome-stays}
use Rattle.jsh_core.proofs.ThreadLaws.{stop_thread-dead}
use Rattle.jsh_core.proofs.Values.{IsEvaluating, evaluated, evaluating-after, fresh-evaluating}
use Rattle.jsh_core.proofs.Views.{Stops, view-stop}
use Rattle.jsh_core.proofs.Views.{absent, standing}

-- the run with this number that is there is one only
one-run : (s : State) (owner other number : ℕ) (run again : Run) → IsOwnRun s owner number run → IsOwnRun s other number again → again ≡ run
one-run s owner other number run again own its = let both : Some again ≡ Some run = sym its.found ∙ own.found in cc

SameRun-twice : (a b c : Run) → SameRun a b → SameRun b c → SameRun a c
SameRun-twice a b c first second = record {
  owner = second.owner ∙ first.owner;
  main = second.main ∙ first.main;
  snippet = second.snippet ∙ first.snippet;
  gone = λ e. first.gone (second.gone e);
}

-- a run that is there at the end and whose number was given before was there before
pub own-before : (s : State) (entries : List Entry) (owner number : ℕ) (later : Run) → IsOwnRun (state_after s entries) owner number later → number ≤ length s.world.runs →
    (run : Run) × IsOwnRun s owner number run × SameRun run later
own-before s [] owner number later own within = (later, own, SameRun-same later)
own-before s (entry ∷ entries) owner number later own within =
    let grows : Grows s (step s entry).state = step-grows s entry in
    let wide : number ≤ length (step s entry).state.world.runs = omega (arith, within, grows.runs) in
    let mid = own-before (step s entry).state entries owner number later own wide in
    from mid.0 mid.2 (run-came s entry owner number mid.0 mid.1)
  where
    from : (mid : Run) → SameRun mid later → ((run : Run) × IsOwnRun s owner number run × SameRun run mid × (¬ TakesAway s entry owner number)) ⊎ Makes s entry owner number →
        (run : Run) × IsOwnRun s owner number run × SameRun run later
    from mid same (inl (run, its, alike, stays)) = (run, its, SameRun-twice run mid later alike same)
    from mid same (inr made) = let new = run-new s entry owner number made in absurd (omega (arith, within, new.0))

own-within : (s : State) (owner number : ℕ) (run : Run) → IsOwnRun s owner number run → number ≤ length s.world.runs
own-within s owner number run own = numbered-within s.world.runs number run own.found

-- and nothing has taken it away in between
pub own-kept : (s : State) (entry : Entry) (entries : List Entry) (owner number : ℕ) (run later : Run) → IsOwnRun s owner number run →
    IsOwnRun (state_after (step s entry).state entries) owner number later → ¬ TakesAway s entry owner number
own-kept s entry entries owner number run later own its = from mid.0 (run-came s entry owner number mid.0 mid.1)
  where
    grows : Grows s (step s entry).state
    grows = step-grows s entry

    mid : (x : Run) × IsOwnRun (step s entry).state owner number x × SameRun x later
    mid = own-before (step s entry).state entries owner number later its (omega (arith, own-within s owner number run own, grows.runs))

    from : (x : Run) → ((old : Run) × IsOwnRun s owner number old × SameRun old x × (¬ TakesAway s entry owner number)) ⊎ Makes s entry owner number → ¬ TakesAway s entry owner number
    from x (inl (old, before, same, stays)) = stays
    from x (inr made) = let new = run-new s entry owner number made in absurd (omega (arith, own-within s owner number run own, new.0))

-- an ended run stays the very same as long as it is there
frozen : (s : State) (entries : List Entry) (owner number : ℕ) (run later : Run) → IsReached s → IsOwnRun s owner number run → is_thread_alive s.world run.main ≡ false →
    IsOwnRun (state_after s entries) owner number later → later ≡ run
frozen s [] owner number run later r own dead its = one-run s owner owner number run later own its
frozen s (entry ∷ entries) owner number run later r own dead its =
    let stays : ¬ TakesAway s entry owner number = own-kept s entry entries owner number run later own its in
    let kept : KeepsOutcome s (step s entry).state owner number run = outcome-stays s entry owner number run r own dead stays in
    frozen (step s entry).state entries owner number run later (step-reached s entry r) kept.own kept.ended its

-- what a stop leaves of a run that hasn't ended

record IsHalted (s : State) (client number : ℕ) (run : Run) (after : State) : Type 0 where
  found : numbered after.world.runs number ≡ Some (record run { stopper = Some client })
  dead : is_thread_alive after.world run.main ≡ false

act-halts : (s : State) (client number owner : ℕ) (run : Run) (acted : Acted) → IsReached s → IsOwnRun s owner number run → is_thread_alive s.world run.main ≡ true →
    Stops s client number acted → IsHalted s client number run acted.state
act-halts s client number owner run acted r own alive (absent none is) = let both : None ≡ Some _ = sym none ∙ own-view s owner number run own in cc
act-halts s client number owner run acted r own alive (standing other its there is) =
    let both : Some other ≡ Some run = sym its ∙ own.found in
    let same : other ≡ run = cc in
    subst (λ (a : Acted). IsHalted s client number run a.state) (sym is)
    (subst (λ (x : Run). IsHalted s client number run (stop_run s client number x)) (sym same) (from (is_thread_alive s.world run.main) alive))
  where
    main : HasMain s.world.states s.world.threads run
    main = r.world.main number run own.found

    from : (lives : Bool) → lives ≡ true →
        IsHalted s client number run (cond lives (record s { world = record (stop_thread s.world run.main) { runs = set s.world.runs (number - 1) (record run { stopper = Some client }) } }) s)
    from true e = record {
      found = numbered-set s.world.runs number run (record run { stopper = Some client }) own.found;
      dead = stop_thread-dead s.world run.main main.state main.thread main.state_is main.thread_is;
    }
    from false e = cc

stop-halts : (s : State) (client number owner : ℕ) (run : Run) → IsReached s → IsOwnRun s owner number run → is_thread_alive s.world run.main ≡ true →
    IsHalted s client number run (step s (by client (act.Stop number))).state
stop-halts s client number owner run r own alive =
    let is : IsDelivered (stop s client number) (delivered client (stop s client number)) = delivers client (stop s client number) in
    let h : IsHalted s client number run (stop s client number).state = act-halts s client number owner run (stop s client number) r own alive (view-stop s client number) in
    record {
      found = ap (λ (l : List Run). numbered l number) is.runs ∙ h.found;
      dead = ap (λ (l : List ThreadState). option_map_or is_alive (numbered l run.main) false) is.states ∙ h.dead;
    }

-- who has stopped a run behind an entry had stopped it before, or does it by this entry

abbrev HadStopped : State → ℕ → ℕ → ℕ → Type 0
HadStopped s owner number who = (run : Run) × IsOwnRun s owner number run × (run.stopper ≡ Some who)

-- where the entry leaves the run as it was
same-stopper : (s after : State) (owner number who : ℕ) (run later : Run) → IsOwnRun s owner number run → IsOwnRun after owner number run → IsOwnRun after owner number later →
    later.stopper ≡ Some who → HadStopped s owner number who
same-stopper s after owner number who run later own still its is =
    (run, own, ap (λ (x : Run). x.stopper) (sym (one-run after owner owner number run later still its)) ∙ is)

stopper-step : (s : State) (client : ℕ) (what : Act) (owner number who : ℕ) (run later : Run) → IsReached s → IsOwnRun s owner number run → ¬ TakesAway s (by client what) owner number →
    IsOwnRun (step s (by client what)).state owner number later → later.stopper ≡ Some who → HadStopped s owner number who ⊎ Halts s (by client what) who number
stopper-step s client (act.Stop asked) owner number who run later r own stays its is = from (cases_eq asked number) (is_thread_alive s.world run.main) refl
  where
    from : (asked ≡ number) ⊎ (asked ≡ number → ⊥) → (alive : Bool) → is_thread_alive s.world run.main ≡ alive →
        HadStopped s owner number who ⊎ ((client ≡ who) × ((asked ≡ number) × ((view : RunView) × (run_view s number ≡ Some view) × (view.over ≡ false))))
    from (inl same) true alive =
        let h : IsHalted s client number run (step s (by client (act.Stop number))).state = stop-halts s client number owner run r own alive in
        let here : IsOwnRun (step s (by client (act.Stop number))).state owner number later = subst (λ n. IsOwnRun (step s (by client (act.Stop n))).state owner number later) same its in
        let both : Some later ≡ Some (record run { stopper = Some client }) = sym here.found ∙ h.found in
        let the_run : later ≡ record run { stopper = Some client } = cc in
        let by_whom : Some client ≡ Some who = ap (λ (x : Run). x.stopper) (sym the_run) ∙ is in
        let same_client : client ≡ who = cc in
        inr (same_client, (same, (record { owner = owner; main = run.main; over = not (is_thread_alive s.world run.main) }, own-view s owner number run own, ap not alive)))
    from (inl same) false dead = inl (same-stopper s (step s (by client (act.Stop asked))).state owner number who run later own (ended-same s client (act.Stop asked) owner number run own dead stays) its is)
    from (inr other) alive e = inl (same-stopper s (step s (by client (act.Stop asked))).state owner number who run later own (run-same s (by client (act.Stop asked)) owner number run own stays other) its is)
stopper-step s client act.Enter owner number who run later r own stays its is =
    inl (same-stopper s _ owner number who run later own (run-same s (by client act.Enter) owner number run own stays (λ e. e)) its is)
stopper-step s client (act.Submit source) owner number who run later r own stays its is =
    inl (same-stopper s _ owner number who run later own (run-same s (by client (act.Submit source)) owner number run own stays (λ e. e)) its is)
stopper-step s client (act.Turn thread steps) owner number who run later r own stays its is =
    inl (same-stopper s _ owner number who run later own (run-same s (by client (act.Turn thread steps)) owner number run own stays (λ e. e)) its is)
stopper-step s client (act.Collect asked) owner number who run later r own stays its is =
    inl (same-stopper s _ owner number who run later own (run-same s (by client (act.Collect asked)) owner number run own stays (λ e. e)) its is)
stopper-step s client (act.Expire asked steps) owner number who run later r own stays its is =
    inl (same-stopper s _ owner number who run later own (run-same s (by client (act.Expire asked steps)) owner number run own stays (λ e. e)) its is)
stopper-step s client (act.Drop what) owner number who run later r own stays its is =
    inl (same-stopper s _ owner number who run later own (run-same s (by client (act.Drop what)) owner number run own stays (λ e. e)) its is)
stopper-step s client (act.Ask question) owner number who run later r own stays its is =
    inl (same-stopper s _ owner number who run later own (run-same s (by client (act.Ask question)) owner number run own stays (λ e. e)) its is)
stopper-step s client act.Reset owner number who run later r own stays its is =
    inl (same-stopper s _ owner number who run later own (run-same s (by client act.Reset) owner number run own stays (λ e. e)) its is)
stopper-step s client act.Leave owner number who run later r own stays its is =
    inl (same-stopper s _ owner number who run later own (run-same s (by client act.Leave) owner number run own stays (λ e. e)) its is)
stopper-step s client act.Close owner number who run later r own stays its is =
    inl (same-stopper s _ owner number who run later own (run-same s (by client act.Close) owner number run own stays (λ e. e)) its is)

-- a run that was just made was stopped by nobody
made-unstopped : (s : State) (client : ℕ) (what : Act) (owner number who : ℕ) (later : Run) → IsReached s → Makes s (by client what) owner number →
    IsOwnRun (step s (by client what)).state owner number later → later.stopper ≡ Some who → ⊥
made-unstopped s client (act.Submit source) owner number who later r made its is =
    let f : IsFresh (step s (by client (act.Submit source))).state client number = (submit-answers s client source (reached-fits s r)).fresh number made.1 in
    let both : Some later ≡ Some (record { owner = client; main = f.main; snippet = f.snippet; stopper = None; gone = false }) = sym its.found ∙ f.run_is in
    let the_run : later ≡ record { owner = client; main = f.main; snippet = f.snippet; stopper = None; gone = false } = cc in
    let clash : None ≡ Some who = ap (λ (x : Run). x.stopper) (sym the_run) ∙ is in
    cc
made-unstopped s client act.Enter owner number who later r made its is = let none : None ≡ Some number = sym (runless s client act.Enter refl) ∙ made.1 in cc
made-unstopped s client (act.Turn thread steps) owner number who later r made its is = let none : None ≡ Some number = sym (runless s client (act.Turn thread steps) refl) ∙ made.1 in cc
made-unstopped s client (act.Collect asked) owner number who later r made its is = let none : None ≡ Some number = sym (runless s client (act.Collect asked) refl) ∙ made.1 in cc
made-unstopped s client (act.Expire asked steps) owner number who later r made its is = let none : None ≡ Some number = sym (runless s client (act.Expire asked steps) refl) ∙ made.1 in cc
made-unstopped s client (act.Stop asked) owner number who later r made its is = let none : None ≡ Some number = sym (runless s client (act.Stop asked) refl) ∙ made.1 in cc
made-unstopped s client (act.Drop what) owner number who later r made its is = let none : None ≡ Some number = sym (runless s client (act.Drop what) refl) ∙ made.1 in cc
made-unstopped s client (act.Ask question) owner number who later r made its is = let none : None ≡ Some number = sym (runless s client (act.Ask question) refl) ∙ made.1 in cc
made-unstopped s client act.Reset owner number who later r made its is = let none : None ≡ Some number = sym (runless s client act.Reset refl) ∙ made.1 in cc
made-unstopped s client act.Leave owner number who later r made its is = let none : None ≡ Some number = sym (runless s client act.Leave refl) ∙ made.1 in cc
made-unstopped s client act.Close owner number who later r made its is = let none : None ≡ Some number = sym (runless s client act.Close refl) ∙ made.1 in cc

stopper-back : (s : State) (entry : Entry) (owner number who : ℕ) (later : Run) → IsReached s → IsOwnRun (step s entry).state owner number later → later.stopper ≡ Some who →
    HadStopped s owner number who ⊎ Halts s entry who number
stopper-back s entry owner number who later r its is = from (run-came s entry owner number later its)
  where
    from : ((run : Run) × IsOwnRun s owner number run × SameRun run later × (¬ TakesAway s entry owner number)) ⊎ Makes s entry owner number →
        HadStopped s owner number who ⊎ Halts s entry who number
    from (inl (run, own, same, stays)) = stopper-step s entry.client entry.act owner number who run later r own stays its is
    from (inr made) = absurd (made-unstopped s entry.client entry.act owner number who later r made its is)

stopped-back : (s : State) (entries : List Entry) (owner number who : ℕ) (later : Run) → IsReached s → IsOwnRun (state_after s entries) owner number later → later.stopper ≡ Some who →
    HadStopped s owner number who ⊎ WasHalted s entries who number
stopped-back s [] owner number who later r its is = inl (later, its, is)
stopped-back s (entry ∷ entries) owner number who later r its is = from (stopped-back (step s entry).state entries owner number who later (step-reached s entry r) its is)
  where
    here : HadStopped s owner number who ⊎ Halts s entry who number → HadStopped s owner number who ⊎ (Halts s entry who number ⊎ WasHalted (step s entry).state entries who number)
    here (inl had) = inl had
    here (inr halts) = inr (inl halts)

    from : HadStopped (step s entry).state owner number who ⊎ WasHalted (step s entry).state entries who number →
        HadStopped s owner number who ⊎ (Halts s entry who number ⊎ WasHalted (step s entry).state entries who number)
    from (inl (mid, own, stopper)) = here (stopper-back s entry owner number who mid r own stopper)
    from (inr was) = inr (inr was)

-- a run that was stopped has who did it

halts-stopper : (s : State) (client : ℕ) (what : Act) (entries : List Entry) (owner number who : ℕ) (later : Run) → IsReached s → Halts s (by client what) who number →
    IsOwnRun (state_after (step s (by client what)).state entries) owner number later → later.stopper ≡ Some who
halts-stopper s client (act.Stop asked) entries owner number who later r (same_client, (same, (view, shown, over))) its =
    from (view-own s number view shown)
  where
    from : ((run : Run) × IsOwnRun s view.owner number run × (run.main ≡ view.main)) → later.stopper ≡ Some who
    from (run, own, main) =
        let shows : Some (record { owner = view.owner; main = run.main; over = not (is_thread_alive s.world run.main) }) ≡ Some view = sym (own-view s view.owner number run own) ∙ shown in
        let ends : not (is_thread_alive s.world run.main) ≡ false = ap over_of shows ∙ over in
        let alive : is_thread_alive s.world run.main ≡ true = unended (is_thread_alive s.world run.main) ends in
        let h : IsHalted s client asked run (step s (by client (act.Stop asked))).state = stop-halts s client asked view.owner run r (subst (λ n. IsOwnRun s view.owner n run) (sym same) own) alive in
        let found : numbered (step s (by client (act.Stop asked))).state.world.runs number ≡ Some (record run { stopper = Some client }) =
        ap (numbered (step s (by client (act.Stop asked))).state.world.runs) (sym same) ∙ h.found in
        let mid = own-before (step s (by client (act.Stop asked))).state entries owner number later its (numbered-within (step s (by client (act.Stop asked))).state.world.runs number _ found) in
        let here : IsOwnRun (step s (by client (act.Stop asked))).state owner number mid.0 = mid.1 in
        let both : Some mid.0 ≡ Some (record run { stopper = Some client }) = sym here.found ∙ found in
        let the_run : mid.0 ≡ record run { stopper = Some client } = cc in
        let dead : is_thread_alive (step s (by client (act.Stop asked))).state.world mid.0.main ≡ false =
        ap (λ (x : Run). is_thread_alive (step s (by client (act.Stop asked))).state.world x.main) the_run ∙ h.dead in
        let last : later ≡ mid.0 = frozen (step s (by client (act.Stop asked))).state entries owner number mid.0 later (step-reached s (by client (act.Stop asked)) r) here dead its in
        ap (λ (x : Run). x.stopper) last ∙ ap (λ (x : Run). x.stopper) the_run ∙ ap Some same_client
      where
        over_of : Option RunView → Bool
        over_of None = false
        over_of (Some v) = v.over

        unended : (b : Bool) → not b ≡ false → b ≡ true
        unended true e = refl
        unended false e = cc
halts-stopper s client act.Enter entries owner number who later r halts its = absurd halts.1
halts-stopper s client (act.Submit source) entries owner number who later r halts its = absurd halts.1
halts-stopper s client (act.Turn thread steps) entries owner number who later r halts its = absurd halts.1
halts-stopper s client (act.Collect asked) entries owner number who later r halts its = absurd halts.1
halts-stopper s client (act.Expire asked steps) entries owner number who later r halts its = absurd halts.1
halts-stopper s client (act.Drop what) entries owner number who later r halts its = absurd halts.1
halts-stopper s client (act.Ask question) entries owner number who later r halts its = absurd halts.1
halts-stopper s client act.Reset entries owner number who later r halts its = absurd halts.1
halts-stopper s client act.Leave entries owner number who later r halts its = absurd halts.1
halts-stopper s client act.Close entries owner number who later r halts its = absurd halts.1

stopped-forth : (s : State) (entries : List Entry) (owner number who : ℕ) (later : Run) → IsReached s → WasHalted s entries who number → IsOwnRun (state_after s entries) owner number later →
    later.stopper ≡ Some who
stopped-forth s [] owner number who later r was its = absurd was
stopped-forth s (entry ∷ entries) owner number who later r was its = from was (λ more. stopped-forth (step s entry).state entries owner number who later (step-reached s entry r) more its)
  where
    from : Halts s entry who number ⊎ WasHalted (step s entry).state entries who number → (WasHalted (step s entry).state entries who number → later.stopper ≡ Some who) → later.stopper ≡ Some who
    from (inl halts) rest = halts-stopper s entry.client entry.act entries owner number who later r halts its
    from (inr more) rest = rest more

-- who has stopped a run that is there is known from the history
pub stopper-history : (history : List Entry) (owner number who : ℕ) (run : Run) → IsOwnRun (state_of history) owner number run → (run.stopper ≡ Some who) ↔ WasStopped history who number
unfolding WasStopped
stopper-history history owner number who run own = (
  λ is. from (stopped-back opening history owner number who run opening-reached own is),
  λ was. stopped-forth opening history owner number who run opening-reached was own,
)
  where
    from : HadStopped opening owner number who ⊎ WasHalted opening history who number → WasHalted opening history who number
    from (inl (old, its, stopper)) = absurd (none-numbered number old its.found)
    from (inr was) = was

-- A snippet that is accepted with a sum has a run whose outcome, once it has ended, is the sum's value, unless a client has stopped it.
pub value-history : (history more : List Entry) (client : ℕ) (source : List ℕ) (sum : Sum) (number : ℕ) (run : Run) → verdict source ≡ Accepted sum →
    run_of (step (state_of history) (by client (act.Submit source))).reply.body ≡ Some number →
    IsOwnRun (state_after (step (state_of history) (by client (act.Submit source))).state more) client number run →
    is_thread_alive (state_after (step (state_of history) (by client (act.Submit source))).state more).world run.main ≡ false →
    (outcome_of (state_after (step (state_of history) (by client (act.Submit source))).state more).world run ≡ outcome.Value (signed_decimal (value_of sum)))
    ⊎ ((who : ℕ) × (run.stopper ≡ Some who))
value-history history more client source sum number run accepted made own dead =
    from (submit-sum (state_of history) client source number (reached-fits (state_of history) (reached history)) made)
  where
    r : IsReached (state_after (step (state_of history) (by client (act.Submit source))).state more)
    r = reached_after (step (state_of history) (by client (act.Submit source))).state more (step-reached (state_of history) (by client (act.Submit source)) (reached history))

    from : ((f : IsFresh (step (state_of history) (by client (act.Submit source))).state client number) × (verdict source ≡ Accepted f.what.sum)) →
        (outcome_of (state_after (step (state_of history) (by client (act.Submit source))).state more).world run ≡ outcome.Value (signed_decimal (value_of sum)))
        ⊎ ((who : ℕ) × (run.stopper ≡ Some who))
    from (f, found) =
        let same : Accepted f.what.sum ≡ Accepted sum = sym found ∙ accepted in
        let the_sum : f.what.sum ≡ sum = cc in
        let before = own-before (step (state_of history) (by client (act.Submit source))).state more client number run own (numbered-within _ number _ f.run_is) in
        let its : IsOwnRun (step (state_of history) (by client (act.Submit source))).state client number before.0 = before.1 in
        let both : Some before.0 ≡ Some (record { owner = client; main = f.main; snippet = f.snippet; stopper = None; gone = false }) = sym its.found ∙ f.run_is in
        let the_run : before.0 ≡ record { owner = client; main = f.main; snippet = f.snippet; stopper = None; gone = false } = cc in
        let alike : SameRun before.0 run = before.2 in
        let main : run.main ≡ f.main = alike.main ∙ ap (λ (x : Run). x.main) the_run in
        let evaluates : IsEvaluating (state_after (step (state_of history) (by client (act.Submit source))).state more) run.main f.what =
        subst (λ n. IsEvaluating (state_after (step (state_of history) (by client (act.Submit source))).state more) n f.what) (sym main)
        (evaluating-after (step (state_of history) (by client (act.Submit source))).state more f.main f.what (fresh-evaluating (step (state_of history) (by client (act.Submit source))).state client number f)) in
        value f.what the_sum (evaluated (state_after (step (state_of history) (by client (act.Submit source))).state more) client number run f.what r own dead evaluates)
      where
        value : (what : Body) → what.sum ≡ sum →
            (outcome_of (state_after (step (state_of history) (by client (act.Submit source))).state more).world run ≡ outcome.Value (signed_decimal (value_of what.sum)))
            ⊎ ((who : ℕ) × (run.stopper ≡ Some who)) →
            (outcome_of (state_after (step (state_of history) (by client (act.Submit source))).state more).world run ≡ outcome.Value (signed_decimal (value_of sum)))
            ⊎ ((who : ℕ) × (run.stopper ≡ Some who))
        value what is (inl e) = inl (e ∙ ap (λ (x : Sum). outcome.Value (signed_decimal (value_of x))) is)
        value what is (inr who) = inr who
