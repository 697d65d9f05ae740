-- A run can be seen exactly where the history made it and hasn't taken it away.
use Rattle.std.proofs.Common.{◌≡◌, ◌≢◌, ◌↔◌, ℕ, ◌+◌, ◌-◌, ◌<◌, ◌==◌, ◌⊎◌, inl, inr, Bool, true, false, List, [], ◌∷◌, ◌++◌, map, set, Option, None, Some, length, refl, ap, sym, subst, ◌∙◌, cond, not}
use Rattle.std.specs.Option.{option_map}
use Rattle.std.proofs.lemmas.Bool.{eqb-true, eqb-false, cases_eq}
use Rattle.jsh_snippet.specs.declared.acts.Act.{Act}
use Rattle.jsh_snippet.specs.declared.acts.Act.TheVariants as act
use Rattle.jsh_snippet.specs.declared.acts.Entry.{Entry}
use Rattle.jsh_snippet.specs.declared.acts.Target.{Target}
use Rattle.jsh_snippet.specs.declared.acts.Target.TheVariants as target
use Rattle.jsh_snippet.specs.declared.replies.ReplyBody.{ReplyBody}
use Rattle.jsh_snippet.specs.declared.replies.Outcome.{Outcome}
use Rattle.jsh_snippet.specs.declared.replies.Outcome.TheVariants as outcome
use Rattle.jsh_core.specs.declared.world.Run.{Run}
use Rattle.jsh_core.specs.declared.world.RunView.{RunView}
use Rattle.jsh_core.specs.State.{State, Acted, numbered, opening}
use Rattle.jsh_core.specs.Snippets.{run_of, submitted}
use Rattle.jsh_core.specs.Threads.{is_thread_alive, stop_thread}
use Rattle.jsh_core.specs.Runs.{alive_threads, collect, dropped, dropped_for, expire, given_up, over, run_view, stop}
use Rattle.jsh_core.specs.Drops.{drop_id, drop_snippet}
use Rattle.jsh_core.specs.Clients.{enter}
use Rattle.jsh_core.specs.Step.{act_step, delivered, step}
use Rattle.jsh_core.specs.Causes.{IsOwnRun}
use Rattle.jsh_core.specs.Fates.{HandsOut, HasRun, Makes, Stays, Takes, TakesAway, WasMade, is_over}
use Rattle.jsh_core.specs.History.{state_after, state_of}
use Rattle.jsh_core.proofs.DeliveryLaws.{IsDelivered, delivers}
use Rattle.jsh_core.proofs.Numbered.{numbered-append, numbered-longer, numbered-map, numbered-mapped, numbered-set, numbered-set_other}
use Rattle.jsh_core.proofs.Reached.{SameRun, SameRun-same, new_run, none-numbered}
use Rattle.jsh_core.proofs.ThreadLaws.{LeavesOthers, stop_thread-leaves, turned-leaves}
use Rattle.jsh_core.proofs.Views.{Collects, DropsId, DropsName, Enters, Expires, Stops, Submits, run_view-of, view-collect, view-drop_id, view-drop_name, view-enter, view-expire, view-stop, view-submit}
use Rattle.jsh_core.proofs.Views.{absent, accepted, crowded, drops, ended, enters, foreign, full, idle, only, rejected, running, spent, stalled, standing, unclear}
use Rattle.jsh_core.proofs.ListLemmas.{numbered-positive, numbered-push}

-- among these runs this client owns the one with this number, and it isn't gone
pub record Owns (runs : List Run) (owner number : ℕ) (run : Run) : Type 0 where
  pub found : numbered runs number ≡ Some run
  pub there : run.gone ≡ false
  pub own : run.owner ≡ owner

-- the act asks for a stop of the run with this number
abbrev pub IsStopOf : Act → ℕ → Type 0
IsStopOf (act.Stop run) number = run ≡ number
IsStopOf _ number = ⊥

-- what a step does to the run of a client, where it may take it away, make it, or stop it
pub record Fate (before after : List Run) (owner number : ℕ) (taken made halted : Type 0) : Type 0 where
  pub keeps : (run : Run) → Owns before owner number run → ¬ taken → (later : Run) × Owns after owner number later × SameRun run later × (¬ halted → later ≡ run)
  pub makes : made → (run : Run) × Owns after owner number run
  pub came : (later : Run) → Owns after owner number later → ((run : Run) × Owns before owner number run × SameRun run later × (¬ taken)) ⊎ made
  pub new : made → number ≡ length before + 1

-- where the runs stay as they are
quiet : (before after : List Run) (owner number : ℕ) (taken made halted : Type 0) → after ≡ before → ¬ taken → ¬ made → Fate before after owner number taken made halted
quiet before after owner number taken made halted same untaken unmade = record {
  keeps = λ run owns stays. (run, subst (λ (runs : List Run). Owns runs owner number run) (sym same) owns, SameRun-same run, λ e. refl);
  makes = λ m. absurd (unmade m);
  came = λ later owns. inl (later, subst (λ (runs : List Run). Owns runs owner number later) same owns, SameRun-same later, untaken);
  new = λ m. absurd (unmade m);
}

-- where there is one run more
made-fate : (before : List Run) (client main snippet owner number : ℕ) (taken halted : Type 0) → ¬ taken →
    Fate before (before ++ new_run client main snippet ∷ []) owner number taken ((client ≡ owner) × (Some (length before + 1) ≡ Some number)) halted
made-fate before client main snippet owner number taken halted untaken = record {
  keeps = λ run owns stays. (run, record { found = numbered-append before _ number run owns.found; there = owns.there; own = owns.own }, SameRun-same run, λ e. refl);
  makes = λ m. (new_run client main snippet, record { found = numbered-push before number _ (last m.1); there = refl; own = m.0 });
  came = λ later owns. from later owns (numbered-longer before (new_run client main snippet) number later owns.found);
  new = λ m. last m.1;
}
  where
    last : Some (length before + 1) ≡ Some number → number ≡ length before + 1
    last e = cc

    from : (later : Run) → Owns (before ++ new_run client main snippet ∷ []) owner number later →
        (numbered before number ≡ Some later) ⊎ ((length before + 1 ≡ number) × (later ≡ new_run client main snippet)) →
        ((run : Run) × Owns before owner number run × SameRun run later × (¬ taken)) ⊎ ((client ≡ owner) × (Some (length before + 1) ≡ Some number))
    from later owns (inl old) = inl (later, record { found = old; there = owns.there; own = owns.own }, SameRun-same later, untaken)
    from later owns (inr (end, is)) = inr (sym (ap (λ (r : Run). r.owner) is) ∙ owns.own, ap Some end)

-- where a run is handed out
handed-fate : (before : List Run) (client asked owner number : ℕ) (run : Run) (answered : ReplyBody) (made halted : Type 0) → numbered before asked ≡ Some run → run.owner ≡ client →
    is_over answered ≡ true → ¬ made → Fate before (set before (asked - 1) (record run { gone = true })) owner number (HandsOut client owner asked number answered) made halted
handed-fate before client asked owner number run answered made halted found own is_out unmade = record {
  keeps = λ old owns stays. keeps old owns stays (cases_eq asked number);
  makes = λ m. absurd (unmade m);
  came = λ later owns. inl (came later owns (cases_eq asked number));
  new = λ m. absurd (unmade m);
}
  where
    after : List Run
    after = set before (asked - 1) (record run { gone = true })

    some : 0 < asked
    some = numbered-positive before asked run found

    keeps : (old : Run) → Owns before owner number old → ¬ HandsOut client owner asked number answered → (asked ≡ number) ⊎ (asked ≡ number → ⊥) →
        (later : Run) × Owns (set before (asked - 1) (record run { gone = true })) owner number later × SameRun old later × (¬ halted → later ≡ old)
    keeps old owns stays (inl same) =
        let both : Some run ≡ Some old = sym found ∙ ap (numbered before) same ∙ owns.found in
        let the_run : run ≡ old = cc in
        absurd (stays (record { own = sym own ∙ ap (λ (r : Run). r.owner) the_run ∙ owns.own; same = same; over = is_out }))
    keeps old owns stays (inr other) = (
      old,
      record { found = numbered-set_other before asked number _ some other ∙ owns.found; there = owns.there; own = owns.own },
      SameRun-same old,
      λ e. refl,
    )

    came : (later : Run) → Owns (set before (asked - 1) (record run { gone = true })) owner number later → (asked ≡ number) ⊎ (asked ≡ number → ⊥) →
        (old : Run) × Owns before owner number old × SameRun old later × (¬ HandsOut client owner asked number answered)
    came later owns (inl same) =
        let both : Some (record run { gone = true }) ≡ Some later =
        sym (numbered-set before asked run _ found) ∙ ap (numbered (set before (asked - 1) (record run { gone = true }))) same ∙ owns.found in
        let the_run : record run { gone = true } ≡ later = cc in
        let gone : true ≡ false = ap (λ (r : Run). r.gone) the_run ∙ owns.there in
        cc
    came later owns (inr other) = (
      later,
      record { found = sym (numbered-set_other before asked number _ some other) ∙ owns.found; there = owns.there; own = owns.own },
      SameRun-same later,
      λ t. other t.same,
    )

-- where a run is stopped that is there
stop-fate : (before : List Run) (by asked owner number : ℕ) (run : Run) (taken made : Type 0) → numbered before asked ≡ Some run → ¬ taken → ¬ made →
    Fate before (set before (asked - 1) (record run { stopper = Some by })) owner number taken made (asked ≡ number)
stop-fate before by asked owner number run taken made found untaken unmade = record {
  keeps = λ old owns stays. keeps old owns (cases_eq asked number);
  makes = λ m. absurd (unmade m);
  came = λ later owns. inl (came later owns (cases_eq asked number));
  new = λ m. absurd (unmade m);
}
  where
    some : 0 < asked
    some = numbered-positive before asked run found

    halted : (old : Run) → SameRun old (record old { stopper = Some by })
    halted old = record { owner = refl; main = refl; snippet = refl; gone = λ e. e }

    at : asked ≡ number → numbered (set before (asked - 1) (record run { stopper = Some by })) number ≡ Some (record run { stopper = Some by })
    at same = ap (numbered (set before (asked - 1) (record run { stopper = Some by }))) (sym same) ∙ numbered-set before asked run _ found

    keeps : (old : Run) → Owns before owner number old → (asked ≡ number) ⊎ (asked ≡ number → ⊥) →
        (later : Run) × Owns (set before (asked - 1) (record run { stopper = Some by })) owner number later × SameRun old later × (¬ (asked ≡ number) → later ≡ old)
    keeps old owns (inl same) =
        let both : Some run ≡ Some old = sym found ∙ ap (numbered before) same ∙ owns.found in
        let the_run : run ≡ old = cc in (
          record run { stopper = Some by },
          record { found = at same; there = ap (λ (r : Run). r.gone) the_run ∙ owns.there; own = ap (λ (r : Run). r.owner) the_run ∙ owns.own },
          subst (λ (r : Run). SameRun r (record run { stopper = Some by })) the_run (halted run),
          λ apart. absurd (apart same),
        )
    keeps old owns (inr other) = (
      old,
      record { found = numbered-set_other before asked number _ some other ∙ owns.found; there = owns.there; own = owns.own },
      SameRun-same old,
      λ e. refl,
    )

    came : (later : Run) → Owns (set before (asked - 1) (record run { stopper = Some by })) owner number later → (asked ≡ number) ⊎ (asked ≡ number → ⊥) →
        (old : Run) × Owns before owner number old × SameRun old later × (¬ taken)
    came later owns (inl same) =
        let both : Some (record run { stopper = Some by }) ≡ Some later = sym (at same) ∙ owns.found in
        let the_run : record run { stopper = Some by } ≡ later = cc in (
          run,
          record {
            found = ap (numbered before) (sym same) ∙ found;
            there = ap (λ (r : Run). r.gone) the_run ∙ owns.there;
            own = ap (λ (r : Run). r.owner) the_run ∙ owns.own;
          },
          subst (λ (r : Run). SameRun run r) the_run (halted run),
          untaken,
        )
    came later owns (inr other) = (
      later,
      record { found = sym (numbered-set_other before asked number _ some other) ∙ owns.found; there = owns.there; own = owns.own },
      SameRun-same later,
      untaken,
    )

-- where a client leaves
left-fate : (before : List Run) (client owner number : ℕ) (made halted : Type 0) → ¬ made →
    Fate before (map (dropped_for client) before) owner number (client ≡ owner) made halted
left-fate before client owner number made halted unmade = record {
  keeps = λ run owns stays. (
    run,
    record {
      found = numbered-map (dropped_for client) before number run owns.found ∙ ap Some (others run (λ is. stays (sym is ∙ owns.own)));
      there = owns.there;
      own = owns.own;
    },
    SameRun-same run,
    λ e. refl,
  );
  makes = λ m. absurd (unmade m);
  came = λ later owns. inl (came later owns (numbered-mapped (dropped_for client) before number later owns.found));
  new = λ m. absurd (unmade m);
}
  where
    others : (run : Run) → run.owner ≢ client → dropped_for client run ≡ run
    others run other = from (run.owner == client) refl
      where
        from : (own : Bool) → (run.owner == client) ≡ own → cond own (record run { gone = true }) run ≡ run
        from true e = absurd (other (eqb-true run.owner client e))
        from false e = refl

    came : (later : Run) → Owns (map (dropped_for client) before) owner number later →
        ((old : Run) × (numbered before number ≡ Some old) × (later ≡ dropped_for client old)) → (old : Run) × Owns before owner number old × SameRun old later × (client ≢ owner)
    came later owns (old, place, is) = from (old.owner == client) refl is
      where
        from : (own : Bool) → (old.owner == client) ≡ own → later ≡ cond own (record old { gone = true }) old →
            (found : Run) × Owns before owner number found × SameRun found later × (client ≢ owner)
        from true e is = let gone : true ≡ false = sym (ap (λ (r : Run). r.gone) is) ∙ owns.there in cc
        from false e is =
            let own : old.owner ≡ owner = sym (ap (λ (r : Run). r.owner) is) ∙ owns.own in (
              old,
              record { found = place; there = sym (ap (λ (r : Run). r.gone) is) ∙ owns.there; own = own },
              subst (λ (r : Run). SameRun old r) (sym is) (SameRun-same old),
              λ t. eqb-false old.owner client e (own ∙ sym t),
            )

-- where all runs are dropped
reset-fate : (before : List Run) (owner number : ℕ) (made halted : Type 0) → ¬ made → Fate before (map dropped before) owner number (Unit {0}) made halted
reset-fate before owner number made halted unmade = record {
  keeps = λ run owns stays. absurd (stays tt);
  makes = λ m. absurd (unmade m);
  came = λ later owns. absurd (gone later owns (numbered-mapped dropped before number later owns.found));
  new = λ m. absurd (unmade m);
}
  where
    gone : (later : Run) → Owns (map dropped before) owner number later → ((old : Run) × (numbered before number ≡ Some old) × (later ≡ dropped old)) → ⊥
    gone later owns (old, place, is) = let both : true ≡ false = sym (ap (λ (r : Run). r.gone) is) ∙ owns.there in cc

-- each act

abbrev Made : ℕ → ℕ → ℕ → ReplyBody → Type 0
Made client owner number answered = (client ≡ owner) × (run_of answered ≡ Some number)

abbrev FateOf : State → ℕ → Act → ℕ → ℕ → Acted → Type 0
FateOf s client asks owner number acted =
    Fate s.world.runs acted.state.world.runs owner number (Takes client asks owner number acted.body) (Made client owner number acted.body) (IsStopOf asks number)

enter-fate : (s : State) (client owner number : ℕ) (acted : Acted) → Enters s acted → FateOf s client act.Enter owner number acted
enter-fate s client owner number acted (full many is) = subst (λ (a : Acted). FateOf s client act.Enter owner number a) (sym is)
    (quiet _ _ owner number _ _ _ refl (λ t. t) (λ m. let e : None ≡ Some number = m.1 in cc))
enter-fate s client owner number acted (enters few is) = subst (λ (a : Acted). FateOf s client act.Enter owner number a) (sym is)
    (quiet _ _ owner number _ _ _ refl (λ t. t) (λ m. let e : None ≡ Some number = m.1 in cc))

submit-fate : (s : State) (client : ℕ) (source : List ℕ) (owner number : ℕ) (acted : Acted) → Submits s client source acted → FateOf s client (act.Submit source) owner number acted
submit-fate s client source owner number acted (full many is) = subst (λ (a : Acted). FateOf s client (act.Submit source) owner number a) (sym is)
    (quiet _ _ owner number _ _ _ refl (λ t. t) (λ m. let e : None ≡ Some number = m.1 in cc))
submit-fate s client source owner number acted (rejected ds few found is) = subst (λ (a : Acted). FateOf s client (act.Submit source) owner number a) (sym is)
    (quiet _ _ owner number _ _ _ refl (λ t. t) (λ m. let e : None ≡ Some number = m.1 in cc))
submit-fate s client source owner number acted (crowded sum few found many is) = subst (λ (a : Acted). FateOf s client (act.Submit source) owner number a) (sym is)
    (quiet _ _ owner number _ _ _ refl (λ t. t) (λ m. let e : None ≡ Some number = m.1 in cc))
submit-fate s client source owner number acted (accepted sum few found room is) = subst (λ (a : Acted). FateOf s client (act.Submit source) owner number a) (sym is)
    (made-fate s.world.runs client (length s.world.threads + 1) (length s.book + 1) owner number _ _ (λ t. t))

given_up-fate : (s : State) (client asked owner number : ℕ) (run : Run) (how : Outcome) (halted : Type 0) → IsOwnRun s client asked run →
    Fate s.world.runs (given_up s asked run how).state.world.runs owner number (HandsOut client owner asked number (given_up s asked run how).body) (Made client owner number (given_up s asked run how).body) halted
given_up-fate s client asked owner number run how halted own =
    let leaves : LeavesOthers run.main s.world (stop_thread s.world run.main) = stop_thread-leaves s.world run.main in
    subst (λ (runs : List Run). Fate s.world.runs (set runs (asked - 1) (record run { gone = true })) owner number (HandsOut client owner asked number (given_up s asked run how).body) (Made client owner number (given_up s asked run how).body) halted)
    (sym leaves.runs) (handed-fate s.world.runs client asked owner number run (given_up s asked run how).body _ halted own.found own.owner refl (λ m. let e : None ≡ Some number = m.1 in cc))

over-fate : (s : State) (client asked owner number : ℕ) (run : Run) (halted : Type 0) → IsOwnRun s client asked run →
    Fate s.world.runs (over s asked run).state.world.runs owner number (HandsOut client owner asked number (over s asked run).body) (Made client owner number (over s asked run).body) halted
over-fate s client asked owner number run halted own =
    handed-fate s.world.runs client asked owner number run (over s asked run).body _ halted own.found own.owner refl (λ m. let e : None ≡ Some number = m.1 in cc)

-- an answer that hands nothing out
unhanded : (client owner asked number : ℕ) (answered : ReplyBody) → is_over answered ≡ false → ¬ HandsOut client owner asked number answered
unhanded client owner asked number answered none h = let both : false ≡ true = sym none ∙ h.over in cc

collect-fate : (s : State) (client asked owner number : ℕ) (acted : Acted) → Collects s client asked acted → FateOf s client (act.Collect asked) owner number acted
collect-fate s client asked owner number acted (absent none is) = subst (λ (a : Acted). FateOf s client (act.Collect asked) owner number a) (sym is)
    (quiet _ _ owner number _ _ _ refl (unhanded client owner asked number _ refl) (λ m. let e : None ≡ Some number = m.1 in cc))
collect-fate s client asked owner number acted (foreign run found there other is) = subst (λ (a : Acted). FateOf s client (act.Collect asked) owner number a) (sym is)
    (quiet _ _ owner number _ _ _ refl (unhanded client owner asked number _ refl) (λ m. let e : None ≡ Some number = m.1 in cc))
collect-fate s client asked owner number acted (running run own alive goes is) = subst (λ (a : Acted). FateOf s client (act.Collect asked) owner number a) (sym is)
    (quiet _ _ owner number _ _ _ refl (unhanded client owner asked number _ refl) (λ m. let e : None ≡ Some number = m.1 in cc))
collect-fate s client asked owner number acted (stalled run own alive none is) = subst (λ (a : Acted). FateOf s client (act.Collect asked) owner number a) (sym is)
    (given_up-fate s client asked owner number run (outcome.Stalled (alive_threads s.world.states)) _ own)
collect-fate s client asked owner number acted (ended run own dead is) = subst (λ (a : Acted). FateOf s client (act.Collect asked) owner number a) (sym is)
    (over-fate s client asked owner number run _ own)

expire-fate : (s : State) (client asked steps owner number : ℕ) (acted : Acted) → Expires s client asked steps acted → FateOf s client (act.Expire asked steps) owner number acted
expire-fate s client asked steps owner number acted (absent none is) = subst (λ (a : Acted). FateOf s client (act.Expire asked steps) owner number a) (sym is)
    (quiet _ _ owner number _ _ _ refl (unhanded client owner asked number _ refl) (λ m. let e : None ≡ Some number = m.1 in cc))
expire-fate s client asked steps owner number acted (foreign run found there other is) = subst (λ (a : Acted). FateOf s client (act.Expire asked steps) owner number a) (sym is)
    (quiet _ _ owner number _ _ _ refl (unhanded client owner asked number _ refl) (λ m. let e : None ≡ Some number = m.1 in cc))
expire-fate s client asked steps owner number acted (spent run own alive is) = subst (λ (a : Acted). FateOf s client (act.Expire asked steps) owner number a) (sym is)
    (given_up-fate s client asked owner number run (outcome.Spent steps) _ own)
expire-fate s client asked steps owner number acted (ended run own dead is) = subst (λ (a : Acted). FateOf s client (act.Expire asked steps) owner number a) (sym is)
    (over-fate s client asked owner number run _ own)

stops-fate : (s : State) (client asked owner number : ℕ) (acted : Acted) → Stops s client asked acted → FateOf s client (act.Stop asked) owner number acted
stops-fate s client asked owner number acted (absent none is) = subst (λ (a : Acted). FateOf s client (act.Stop asked) owner number a) (sym is)
    (quiet _ _ owner number _ _ _ refl (λ t. t) (λ m. let e : None ≡ Some number = m.1 in cc))
stops-fate s client asked owner number acted (standing run found there is) = subst (λ (a : Acted). FateOf s client (act.Stop asked) owner number a) (sym is)
    (from (is_thread_alive s.world run.main))
  where
    from : (alive : Bool) → Fate s.world.runs
        (cond alive (record s { world = record (stop_thread s.world run.main) { runs = set s.world.runs (asked - 1) (record run { stopper = Some client }) } }) s).world.runs
        owner number ⊥ ((client ≡ owner) × (None ≡ Some number)) (asked ≡ number)
    from true = stop-fate s.world.runs client asked owner number run _ _ found (λ t. t) (λ m. let e : None ≡ Some number = m.1 in cc)
    from false = quiet _ _ owner number _ _ _ refl (λ t. t) (λ m. let e : None ≡ Some number = m.1 in cc)

drop_id-fate : (s : State) (client id owner number : ℕ) (what : Target) (acted : Acted) → DropsId s id acted → FateOf s client (act.Drop what) owner number acted
drop_id-fate s client id owner number what acted (absent none is) = subst (λ (a : Acted). FateOf s client (act.Drop what) owner number a) (sym is)
    (quiet _ _ owner number _ _ _ refl (λ t. t) (λ m. let e : None ≡ Some number = m.1 in cc))
drop_id-fate s client id owner number what acted (idle x found kept is) = subst (λ (a : Acted). FateOf s client (act.Drop what) owner number a) (sym is)
    (quiet _ _ owner number _ _ _ refl (λ t. t) (λ m. let e : None ≡ Some number = m.1 in cc))
drop_id-fate s client id owner number what acted (drops x found live is) = subst (λ (a : Acted). FateOf s client (act.Drop what) owner number a) (sym is)
    (quiet _ _ owner number _ _ _ refl (λ t. t) (λ m. let e : None ≡ Some number = m.1 in cc))

drop_name-fate : (s : State) (client : ℕ) (name : List ℕ) (owner number : ℕ) (acted : Acted) → DropsName s name acted → FateOf s client (act.Drop (target.Named name)) owner number acted
drop_name-fate s client name owner number acted (unclear many is) = subst (λ (a : Acted). FateOf s client (act.Drop (target.Named name)) owner number a) (sym is)
    (quiet _ _ owner number _ _ _ refl (λ t. t) (λ m. let e : None ≡ Some number = m.1 in cc))
drop_name-fate s client name owner number acted (only live one is) = subst (λ (a : Acted). FateOf s client (act.Drop (target.Named name)) owner number a) (sym is)
    (drop_id-fate s client live.id owner number (target.Named name) (drop_id s live.id) (view-drop_id s live.id))

act-fate : (s : State) (client : ℕ) (asks : Act) (owner number : ℕ) → FateOf s client asks owner number (act_step s client asks)
act-fate s client act.Enter owner number = enter-fate s client owner number (enter s) (view-enter s)
act-fate s client (act.Submit source) owner number = submit-fate s client source owner number (submitted s client source) (view-submit s client source)
act-fate s client (act.Turn thread steps) owner number =
    quiet _ _ owner number _ _ _ (turned-leaves thread steps s.world).runs (λ t. t) (λ m. let e : None ≡ Some number = m.1 in cc)
act-fate s client (act.Collect run) owner number = collect-fate s client run owner number (collect s client run) (view-collect s client run)
act-fate s client (act.Expire run steps) owner number = expire-fate s client run steps owner number (expire s client run steps) (view-expire s client run steps)
act-fate s client (act.Stop run) owner number = stops-fate s client run owner number (stop s client run) (view-stop s client run)
act-fate s client (act.Drop (target.Id id)) owner number = drop_id-fate s client id owner number (target.Id id) (drop_id s id) (view-drop_id s id)
act-fate s client (act.Drop (target.Named name)) owner number = drop_name-fate s client name owner number (drop_snippet s (target.Named name)) (view-drop_name s name)
act-fate s client (act.Ask question) owner number = quiet _ _ owner number _ _ _ refl (λ t. t) (λ m. let e : None ≡ Some number = m.1 in cc)
act-fate s client act.Reset owner number = reset-fate s.world.runs owner number _ _ (λ m. let e : None ≡ Some number = m.1 in cc)
act-fate s client act.Leave owner number = left-fate s.world.runs client owner number _ _ (λ m. let e : None ≡ Some number = m.1 in cc)
act-fate s client act.Close owner number = quiet _ _ owner number _ _ _ refl (λ t. t) (λ m. let e : None ≡ Some number = m.1 in cc)

-- what an entry does to the run of a client
pub step-fate : (s : State) (entry : Entry) (owner number : ℕ) →
    Fate s.world.runs (step s entry).state.world.runs owner number (TakesAway s entry owner number) (Makes s entry owner number) (IsStopOf entry.act number)
step-fate s entry owner number =
    let acted : Acted = act_step s entry.client entry.act in
    let is : IsDelivered acted (delivered entry.client acted) = delivers entry.client acted in
    subst (λ (runs : List Run). Fate s.world.runs runs owner number (TakesAway s entry owner number) (Makes s entry owner number) (IsStopOf entry.act number)) (sym is.runs)
    (subst (λ (answered : ReplyBody). Fate s.world.runs acted.state.world.runs owner number (Takes entry.client entry.act owner number answered) (Made entry.client owner number answered) (IsStopOf entry.act number))
    (sym is.body) (act-fate s entry.client entry.act owner number))

-- a client has a run with this number
abbrev Has : List Run → ℕ → ℕ → Type 0
Has runs owner number = (run : Run) × Owns runs owner number run

-- the runs after entries are those before that stay, and those that were made and stay
entries-fate : (s : State) (entries : List Entry) (owner number : ℕ) →
    Has (state_after s entries).world.runs owner number ↔ ((Has s.world.runs owner number × Stays s entries owner number) ⊎ WasMade s entries owner number)
entries-fate s [] owner number = (λ has. inl (has, tt), back)
  where
    back : (Has s.world.runs owner number × Unit {0}) ⊎ ⊥ → Has s.world.runs owner number
    back (inl kept) = kept.0
    back (inr none) = absurd none
entries-fate s (entry ∷ entries) owner number =
    let rest = entries-fate (step s entry).state entries owner number in
    (λ has. ahead (rest.0 has), λ stands. rest.1 (back stands))
  where
    fate : Fate s.world.runs (step s entry).state.world.runs owner number (TakesAway s entry owner number) (Makes s entry owner number) (IsStopOf entry.act number)
    fate = step-fate s entry owner number

    begun : Stays (step s entry).state entries owner number →
        ((run : Run) × Owns s.world.runs owner number run × (¬ TakesAway s entry owner number)) ⊎ Makes s entry owner number →
        (Has s.world.runs owner number × Stays s (entry ∷ entries) owner number) ⊎ WasMade s (entry ∷ entries) owner number
    begun stays (inl (run, owns, untaken)) = inl ((run, owns), (untaken, stays))
    begun stays (inr made) = inr (inl (made, stays))

    came : (later : Run) → Owns (step s entry).state.world.runs owner number later →
        ((run : Run) × Owns s.world.runs owner number run × (¬ TakesAway s entry owner number)) ⊎ Makes s entry owner number
    came later owns = shorter (fate.came later owns)
      where
        shorter : ((run : Run) × Owns s.world.runs owner number run × SameRun run later × (¬ TakesAway s entry owner number)) ⊎ Makes s entry owner number →
            ((run : Run) × Owns s.world.runs owner number run × (¬ TakesAway s entry owner number)) ⊎ Makes s entry owner number
        shorter (inl (run, old, same, untaken)) = inl (run, old, untaken)
        shorter (inr made) = inr made

    ahead : (Has (step s entry).state.world.runs owner number × Stays (step s entry).state entries owner number) ⊎ WasMade (step s entry).state entries owner number →
        (Has s.world.runs owner number × Stays s (entry ∷ entries) owner number) ⊎ WasMade s (entry ∷ entries) owner number
    ahead (inl (has, stays)) = begun stays (came has.0 has.1)
    ahead (inr made) = inr (inr made)

    back : (Has s.world.runs owner number × Stays s (entry ∷ entries) owner number) ⊎ WasMade s (entry ∷ entries) owner number →
        (Has (step s entry).state.world.runs owner number × Stays (step s entry).state entries owner number) ⊎ WasMade (step s entry).state entries owner number
    back (inl (has, (untaken, stays))) = let later = fate.keeps has.0 has.1 untaken in inl ((later.0, later.1), stays)
    back (inr (inl (made, stays))) = inl (fate.makes made, stays)
    back (inr (inr made)) = inr made

-- a run as it is shown to its owner
pub owns-shown : (s : State) (owner number : ℕ) (run : Run) → Owns s.world.runs owner number run →
    run_view s number ≡ Some (record { owner = owner; main = run.main; over = not (is_thread_alive s.world run.main) })
owns-shown s owner number run owns =
    run_view-of s number (Some run) owns.found
    ∙ ap (λ b. cond b None (Some (record { owner = run.owner; main = run.main; over = not (is_thread_alive s.world run.main) }))) owns.there
    ∙ ap (λ n. Some (record { owner = n; main = run.main; over = not (is_thread_alive s.world run.main) })) owns.own

-- the run that is shown
pub shown-owns : (s : State) (number : ℕ) (view : RunView) → run_view s number ≡ Some view →
    (run : Run) × Owns s.world.runs view.owner number run × (view ≡ record { owner = run.owner; main = run.main; over = not (is_thread_alive s.world run.main) })
shown-owns s number view shown = from (numbered s.world.runs number) refl
  where
    from : (found : Option Run) → numbered s.world.runs number ≡ found →
        (run : Run) × Owns s.world.runs view.owner number run × (view ≡ record { owner = run.owner; main = run.main; over = not (is_thread_alive s.world run.main) })
    from None is = let both : None ≡ Some view = sym (run_view-of s number None is) ∙ shown in cc
    from (Some run) is = by_gone run.gone refl (sym (run_view-of s number (Some run) is) ∙ shown)
      where
        by_gone : (gone : Bool) → run.gone ≡ gone → cond gone None (Some (record { owner = run.owner; main = run.main; over = not (is_thread_alive s.world run.main) })) ≡ Some view →
            (mine : Run) × Owns s.world.runs view.owner number mine × (view ≡ record { owner = mine.owner; main = mine.main; over = not (is_thread_alive s.world mine.main) })
        by_gone true e none = cc
        by_gone false e one =
            let same : view ≡ record { owner = run.owner; main = run.main; over = not (is_thread_alive s.world run.main) } = cc in
            (run, record { found = is; there = e; own = sym (ap (λ (v : RunView). v.owner) same) }, same)

has-owner : (s : State) (owner number : ℕ) → Has s.world.runs owner number → option_map (λ (v : RunView). v.owner) (run_view s number) ≡ Some owner
has-owner s owner number (run, owns) = ap (option_map (λ (v : RunView). v.owner)) (owns-shown s owner number run owns)

owner-has : (s : State) (owner number : ℕ) → option_map (λ (v : RunView). v.owner) (run_view s number) ≡ Some owner → Has s.world.runs owner number
owner-has s owner number shown = from (run_view s number) refl shown
  where
    from : (found : Option RunView) → run_view s number ≡ found → option_map (λ (v : RunView). v.owner) found ≡ Some owner → Has s.world.runs owner number
    from None is e = cc
    from (Some view) is e =
        let run = shown-owns s number view is in
        let same : view.owner ≡ owner = cc in
        (run.0, subst (λ n. Owns s.world.runs n number run.0) same run.1)

-- The client that a run is shown with made it, and nothing has taken it away since.
pub shown-history : (history : List Entry) (number : ℕ) (shown : Option RunView) → shown ≡ run_view (state_of history) number → (owner : ℕ) →
    (option_map (λ (v : RunView). v.owner) shown ≡ Some owner) ↔ HasRun history owner number
unfolding HasRun
shown-history history number shown is owner = (
  λ e. from ((entries-fate opening history owner number).0 (owner-has (state_of history) owner number (ap (option_map (λ (v : RunView). v.owner)) (sym is) ∙ e))),
  λ made. ap (option_map (λ (v : RunView). v.owner)) is ∙ has-owner (state_of history) owner number ((entries-fate opening history owner number).1 (inr made)),
)
  where
    from : (Has opening.world.runs owner number × Stays opening history owner number) ⊎ WasMade opening history owner number → WasMade opening history owner number
    from (inl (has, stays)) = absurd (none-numbered number has.0 has.1.found)
    from (inr made) = made
