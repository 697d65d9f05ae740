-- What a step answers has its cause.
use Rattle.std.proofs.Common.{◌≡◌, ◌≢◌, ℕ, zero, suc, ◌+◌, ◌<◌, ◌≤◌, ◌⊎◌, inl, inr, Bool, true, false, List, [], ◌∷◌, Option, None, Some, length, refl, ap, sym, subst, ◌∙◌, arith, cond, not, add-one}
use Rattle.std.specs.Option.{option_and_then, option_map_or, unwrap_or}
use Rattle.std.specs.Str.{IsUtf8}
use Rattle.std.proofs.lemmas.Bool.{cases_order}
use Rattle.jsh_sched.specs.declared.ThreadState.{ThreadState}
use Rattle.jsh_sched.specs.ThreadState.{is_alive}
use Rattle.jsh_sum.specs.declared.sums.Sum.{Sum}
use Rattle.jsh_tree.specs.declared.diagnostic.Diagnostic.{Diagnostic}
use Rattle.jsh_snippet.specs.declared.acts.Act.{Act}
use Rattle.jsh_snippet.specs.declared.acts.Act.TheVariants as act
use Rattle.jsh_snippet.specs.declared.acts.Entry.{Entry}
use Rattle.jsh_snippet.specs.declared.acts.Question.{Question}
use Rattle.jsh_snippet.specs.declared.acts.Question.TheVariants as question
use Rattle.jsh_snippet.specs.declared.acts.Target.{Target}
use Rattle.jsh_snippet.specs.declared.acts.Target.TheVariants as target
use Rattle.jsh_snippet.specs.declared.events.Event.{Event}
use Rattle.jsh_snippet.specs.declared.kinds.Fate.{Fate}
use Rattle.jsh_snippet.specs.declared.kinds.Kind.{Kind}
use Rattle.jsh_snippet.specs.declared.records.Record.{Record}
use Rattle.jsh_snippet.specs.declared.replies.Reply.{Reply}
use Rattle.jsh_snippet.specs.declared.replies.ReplyBody.{ReplyBody}
use Rattle.jsh_snippet.specs.declared.replies.ReplyBody.TheVariants as body
use Rattle.jsh_snippet.specs.declared.replies.Collected.TheVariants as «collected»
use Rattle.jsh_snippet.specs.declared.replies.Outcome.{Outcome}
use Rattle.jsh_snippet.specs.declared.replies.Outcome.TheVariants as outcome
use Rattle.jsh_snippet.specs.declared.replies.Refusal.{Refusal}
use Rattle.jsh_snippet.specs.declared.replies.Refusal.TheVariants as refusal
use Rattle.jsh_verdict.specs.declared.verdict.Verdict.TheVariants.{Accepted, Rejected}
use Rattle.jsh_verdict.specs.Verdict.{verdict}
use Rattle.jsh_verdict.specs.Causes.{IsRejected}
use Rattle.jsh_verdict.proofs.Because.{accepted_because, rejected_because}
use Rattle.jsh_verdict.proofs.Decides.{accepts, rejects}
use Rattle.jsh_core.specs.declared.generation.Live.{Live}
use Rattle.jsh_core.specs.declared.world.Run.{Run}
use Rattle.jsh_core.specs.declared.world.Thread.{Thread}
use Rattle.jsh_core.specs.declared.world.ThreadEnd.{ThreadEnd}
use Rattle.jsh_core.specs.declared.world.ThreadEnd.TheVariants as thread_end
use Rattle.jsh_core.specs.State.{State, Acted, World, numbered}
use Rattle.jsh_core.specs.Generations.{live_named}
use Rattle.jsh_core.specs.Snippets.{run_of, submitted}
use Rattle.jsh_core.specs.Threads.{can_go_on, is_thread_alive, stepped, turn, turned, Turned}
use Rattle.jsh_core.specs.Runs.{alive_threads, collect, end_of, expire, outcome_of, outcome_with, run_view, steps_so_far, stop, stopper_of, view_of}
use Rattle.jsh_core.specs.Drops.{drop_event, drop_id, drop_snippet, kind_of_record, live_of, name_of_record}
use Rattle.jsh_core.specs.Clients.{enter}
use Rattle.jsh_core.specs.Questions.{IsAnswered, asked}
use Rattle.jsh_core.specs.Step.{act_step, delivered, step}
use Rattle.jsh_core.specs.Acts.{HandsInUtf8}
use Rattle.jsh_core.specs.Causes.{CausesOfAct, CausesOfAsk, CausesOfCollect, CausesOfDrop, CausesOfDropId, CausesOfDropName, CausesOfEnd, CausesOfEnter, CausesOfExpire, CausesOfRefusal, CausesOfStop, CausesOfSubmit, CausesOfTurn, GoesSoFar, AnswerHasCause, IsAliveRun, IsDroppable, IsEndedRun, IsOwner, IsOwnRun, IsSum, over_with, rejected_reply, world_after}
use Rattle.jsh_core.specs.History.{Allows, MayDo, state_of}
use Rattle.jsh_core.proofs.DeliveryLaws.{IsDelivered, delivers}
use Rattle.jsh_core.proofs.Picking.{none-goes, some-goes}
use Rattle.jsh_core.proofs.Reached.{HasMain, IsReached, reached}
use Rattle.jsh_core.proofs.Sums.{IsOnSum, sums-at}
use Rattle.jsh_core.proofs.Sums.IsOnSum.{answered, begun, returned, stopped}
use Rattle.jsh_core.proofs.TurnLemmas.{further, turned-stuck, turned-suc, turned-zero}
use Rattle.jsh_core.proofs.Views.{Collects, DropsId, DropsName, Enters, Expires, Stops, Submits, view-collect, view-drop_id, view-drop_name, view-enter, view-expire, view-stop, view-submit}
use Rattle.jsh_core.proofs.Views.{absent, accepted, crowded, drops, ended, enters, foreign, full, idle, only, rejected, running, spent, stalled, standing, unclear}

enter-causes : (s : State) (acted : Acted) → Enters s acted → CausesOfEnter s acted.body
enter-causes s acted (full many is) = subst (λ (a : Acted). CausesOfEnter s a.body) (sym is)
    (record { entered = (λ a. (cc), λ few. absurd (omega arith)); clients = (λ a. many, λ c. refl) })
enter-causes s acted (enters few is) = subst (λ (a : Acted). CausesOfEnter s a.body) (sym is)
    (record { entered = (λ a. few, λ c. refl); clients = (λ a. (cc), λ many. absurd (omega arith)) })

-- no source is accepted and rejected
not_both : (source : List ℕ) (ds : List Diagnostic) → verdict source ≡ Rejected ds → ¬ IsSum source
not_both source ds is (sum, cause) =
    let other : verdict source ≡ Accepted sum = accepts source sum cause in
    cc

not_rejected : (source : List ℕ) (sum : Sum) (ds : List Diagnostic) → verdict source ≡ Accepted sum → ¬ IsRejected source ds
not_rejected source sum ds is why =
    let other : verdict source ≡ Rejected ds = rejects source ds why in
    cc

-- the diagnostics of an answer
abbrev diagnostics_of : ReplyBody → List Diagnostic
diagnostics_of (body.Submitted what) = what.diagnostics
diagnostics_of _ = []

-- a rejection with these diagnostics has no others
rejected-same : (source : List ℕ) (id : ℕ) (ds others : List Diagnostic) → verdict source ≡ Rejected ds → IsRejected source others →
    body.Submitted (rejected_reply id ds) ≡ body.Submitted (rejected_reply id others)
rejected-same source id ds others is why =
    let other : verdict source ≡ Rejected others = rejects source others why in
    let same : ds ≡ others = cc in
    ap (λ (xs : List Diagnostic). body.Submitted (rejected_reply id xs)) same

submit-causes : (s : State) (client : ℕ) (source : List ℕ) (acted : Acted) → IsUtf8 source → Submits s client source acted → CausesOfSubmit s source acted.body
submit-causes s client source acted utf8 (full many is) = subst (λ (a : Acted). CausesOfSubmit s source a.body) (sym is) (record {
  records = (λ a. many, λ c. refl);
  rejected = λ ds. (λ a. (cc), λ c. let few : length s.book < 16384 = c.0 in absurd (omega arith));
  threads = (λ a. (cc), λ c. let few : length s.book < 16384 = c.0 in absurd (omega arith));
  accepted = (λ a. (cc), λ c. let few : length s.book < 16384 = c.0 in absurd (omega arith));
})
submit-causes s client source acted utf8 (rejected ds few found is) = subst (λ (a : Acted). CausesOfSubmit s source a.body) (sym is) (record {
  records = (λ a. (cc), λ many. absurd (omega arith));
  rejected = λ others. (
    λ a. let same : ds ≡ others = ap diagnostics_of a in (few, rejected_because source others utf8 (found ∙ ap Rejected same)),
    λ c. rejected-same source (length s.book + 1) ds others found c.1,
  );
  threads = (λ a. (cc), λ c. absurd (not_both source ds found c.1));
  accepted = (λ a. let e : None ≡ Some (length s.world.runs + 1) = ap run_of a in (cc), λ c. absurd (not_both source ds found c.1));
})
submit-causes s client source acted utf8 (crowded sum few found many is) = subst (λ (a : Acted). CausesOfSubmit s source a.body) (sym is) (record {
  records = (λ a. (cc), λ all. absurd (omega arith));
  rejected = λ ds. (λ a. (cc), λ c. absurd (not_rejected source sum ds found c.1));
  threads = (λ a. (few, (sum, accepted_because source sum found), many), λ c. refl);
  accepted = (λ a. (cc), λ c. absurd (omega (arith, c.2)));
})
submit-causes s client source acted utf8 (accepted sum few found room is) = subst (λ (a : Acted). CausesOfSubmit s source a.body) (sym is) (record {
  records = (λ a. (cc), λ all. absurd (omega arith));
  rejected = λ ds. (
    λ a. let e : Some (length s.world.runs + 1) ≡ None = ap run_of a in (cc),
    λ c. absurd (not_rejected source sum ds found c.1),
  );
  threads = (λ a. (cc), λ c. absurd (omega (arith, c.2)));
  accepted = (λ a. (few, (sum, accepted_because source sum found), room), λ c. refl);
})

pub world_after-zero : (thread : ℕ) (w : World) → world_after thread 0 w ≡ w
unfolding world_after
world_after-zero thread w = refl

pub world_after-more : (thread steps : ℕ) (w : World) → world_after thread (steps + 1) w ≡ world_after thread steps (stepped w thread)
unfolding world_after
world_after-more thread steps w = rw add-one refl

-- a turn goes as far as it may, to the world that it leaves
pub record Goes (thread most : ℕ) (w : World) (t : Turned) : Type 0 where
  pub world : t.world ≡ world_after thread t.steps w
  pub far : GoesSoFar thread most w t.steps

goes-nowhere : (thread most : ℕ) (w : World) → (0 < most → can_go_on w thread ≡ false) → Goes thread most w (record { world = w; steps = 0 })
goes-nowhere thread most w stuck = record {
  world = sym (world_after-zero thread w);
  far = record {
    within = omega arith;
    before = λ k less. absurd (omega arith);
    stops = λ less. subst (λ (x : World). can_go_on x thread ≡ false) (sym (world_after-zero thread w)) (stuck less);
  };
}

goes-further : (thread most : ℕ) (w : World) (t : Turned) → can_go_on w thread ≡ true → Goes thread most (stepped w thread) t → Goes thread (suc most) w (further 1 t)
goes-further thread most w t ready h = record {
  world = h.world ∙ sym (world_after-more thread t.steps w);
  far = record {
    within = let less : t.steps ≤ most = h.far.within in omega arith;
    before = before;
    stops = λ less. subst (λ (x : World). can_go_on x thread ≡ false) (sym (world_after-more thread t.steps w)) (h.far.stops (omega arith));
  };
}
  where
    before : (k : ℕ) → k < t.steps + 1 → can_go_on (world_after thread k w) thread ≡ true
    before zero less = subst (λ (x : World). can_go_on x thread ≡ true) (sym (world_after-zero thread w)) ready
    before (suc k) less =
        let same : world_after thread (suc k) w ≡ world_after thread k (stepped w thread) =
        ap (λ n. world_after thread n w) (sym (add-one k)) ∙ world_after-more thread k w in
        subst (λ (x : World). can_go_on x thread ≡ true) (sym same) (h.far.before k (omega arith))

pub goes : (thread most : ℕ) (w : World) → Goes thread most w (turned thread most w)
goes thread zero w = rw turned-zero (goes-nowhere thread 0 w (λ less. absurd (omega arith)))
goes thread (suc most) w = from (can_go_on w thread) refl (goes thread most (stepped w thread))
  where
    from : (ready : Bool) → can_go_on w thread ≡ ready → Goes thread most (stepped w thread) (turned thread most (stepped w thread)) →
        Goes thread (suc most) w (turned thread (suc most) w)
    from true e h = rw (turned-suc thread most w e) (goes-further thread most w (turned thread most (stepped w thread)) e h)
    from false e h = rw (turned-stuck thread (suc most) w e) (goes-nowhere thread (suc most) w (λ less. e))

-- there is one number of steps only
far-same : (thread most : ℕ) (w : World) (m n : ℕ) → GoesSoFar thread most w m → GoesSoFar thread most w n → m ≡ n
far-same thread most w m n f g = from (cases_order m n)
  where
    from : (m ≡ n) ⊎ ((m < n) ⊎ (n < m)) → m ≡ n
    from (inl same) = same
    from (inr (inl less)) =
        let within : n ≤ most = g.within in
        let on : can_go_on (world_after thread m w) thread ≡ true = g.before m less in
        let off : can_go_on (world_after thread m w) thread ≡ false = f.stops (omega arith) in
        cc
    from (inr (inr less)) =
        let within : m ≤ most = f.within in
        let on : can_go_on (world_after thread n w) thread ≡ true = f.before n less in
        let off : can_go_on (world_after thread n w) thread ≡ false = g.stops (omega arith) in
        cc

turn-causes : (s : State) (thread most : ℕ) → 1 ≤ most → CausesOfTurn s thread most (turn s thread most).state.world (turn s thread most).body
turn-causes s thread most some = record {
  always = (t.steps, refl);
  turned = λ steps. (λ a. so_far steps (same steps a), λ far. ap body.Turned (far-same thread most s.world t.steps steps h.far far));
  none = (
    λ a. let none : t.steps ≡ 0 = same 0 a in
        subst (λ (x : World). can_go_on x thread ≡ false) (world_after-zero thread s.world) ((so_far 0 none).stops (omega arith)),
    λ stuck. ap body.Turned (far-same thread most s.world t.steps 0 h.far (goes-nowhere thread most s.world (λ less. stuck)).far),
  );
  leaves = λ steps a. h.world ∙ ap (λ n. world_after thread n s.world) (same steps a);
  short = λ steps a less. subst (λ (x : World). can_go_on x thread ≡ false) (sym h.world) (h.far.stops (let is : t.steps ≡ steps = same steps a in omega arith));
}
  where
    t : Turned
    t = turned thread most s.world

    h : Goes thread most s.world (turned thread most s.world)
    h = goes thread most s.world

    same : (steps : ℕ) → body.Turned (turned thread most s.world).steps ≡ body.Turned steps → (turned thread most s.world).steps ≡ steps
    same steps a = cc

    so_far : (steps : ℕ) → (turned thread most s.world).steps ≡ steps → GoesSoFar thread most s.world steps
    so_far steps is = subst (λ n. GoesSoFar thread most s.world n) is h.far

-- runs that are refused

own-seen : (s : State) (client number : ℕ) (run : Run) → IsOwnRun s client number run →
    run_view s number ≡ Some (record { owner = run.owner; main = run.main; over = not (is_thread_alive s.world run.main) })
own-seen s client number run own =
    ap (option_and_then (view_of s.world)) own.found
    ∙ ap (λ b. cond b None (Some (record { owner = run.owner; main = run.main; over = not (is_thread_alive s.world run.main) }))) own.there

unseen-unowned : (s : State) (client number : ℕ) (run : Run) → run_view s number ≡ None → ¬ IsOwnRun s client number run
unseen-unowned s client number run none own = let both : None ≡ Some _ = sym none ∙ own-seen s client number run own in cc

-- a run that is there has one owner
owner-same : (s : State) (client other number : ℕ) (run : Run) → IsOwnRun s client number run → IsOwner s other number → other ≡ client
owner-same s client other number run own o =
    let both : Some (record { owner = run.owner; main = run.main; over = not (is_thread_alive s.world run.main) }) ≡ Some o.view = sym (own-seen s client number run own) ∙ o.seen in
    let same : run.owner ≡ o.view.owner = cc in
    sym o.owner ∙ sym same ∙ own.owner

absent-refusal : (s : State) (client number : ℕ) → run_view s number ≡ None → CausesOfRefusal s client number (body.Refused (refusal.NoSuchRun number))
absent-refusal s client number none = record {
  no_such_run = (λ a. none, λ c. refl);
  not_owner = λ owner. (λ a. (cc), λ c. let both : None ≡ Some c.1.view = sym none ∙ c.1.seen in cc);
}

foreign-refusal : (s : State) (client number : ℕ) (run : Run) → numbered s.world.runs number ≡ Some run → run.gone ≡ false → run.owner ≢ client →
    CausesOfRefusal s client number (body.Refused (refusal.NotOwner run.owner))
foreign-refusal s client number run found there other = record {
  no_such_run = (λ a. (cc), λ none. absurd (unseen-unowned s run.owner number run none its_own));
  not_owner = λ owner. (
    λ a. let same : run.owner ≡ owner = cc in
        (λ is. other (same ∙ is), record { view = _; seen = own-seen s run.owner number run its_own; owner = same }),
    λ c. ap (λ n. body.Refused (refusal.NotOwner n)) (sym (owner-same s run.owner owner number run its_own c.1)),
  );
}
  where
    its_own : IsOwnRun s run.owner number run
    its_own = record { found = found; there = there; owner = refl }

-- an own run that is there is not refused
own-refusal : (s : State) (client number : ℕ) (run : Run) (told : ReplyBody) → IsOwnRun s client number run → ((why : Refusal) → told ≡ body.Refused why → ⊥) →
    CausesOfRefusal s client number told
own-refusal s client number run told own free = record {
  no_such_run = (λ a. absurd (free _ a), λ none. absurd (unseen-unowned s client number run none own));
  not_owner = λ owner. (λ a. absurd (free _ a), λ c. absurd (c.0 (owner-same s client owner number run own c.1)));
}

-- runs that have ended

run-same : (s : State) (client number : ℕ) (run other : Run) → IsOwnRun s client number run → IsOwnRun s client number other → other ≡ run
run-same s client number run other own o = let both : Some other ≡ Some run = sym o.found ∙ own.found in cc

-- no answer of a run that has ended
no-end : (s : State) (client number : ℕ) (told : ReplyBody) → ((id : ℕ) (run : Run) → ¬ IsEndedRun s client number id run) →
    ((id : ℕ) (text : List ℕ) → told ≢ over_with id (outcome.Value text)) → ((id : ℕ) → told ≢ over_with id outcome.Finished) →
    ((id by : ℕ) → told ≢ over_with id (outcome.Stopped by)) → CausesOfEnd s client number told
no-end s client number told none no_value no_finish no_stop = record {
  value = λ id text. (λ a. absurd (no_value id text a), λ c. absurd (none id c.0 c.1));
  finished = λ id. (λ a. absurd (no_finish id a), λ c. absurd (none id c.0 c.1));
  stopped = λ id by. (λ a. absurd (no_stop id by a), λ c. absurd (none id c.0 c.1));
}

alive-unended : (s : State) (client number : ℕ) (run : Run) → IsOwnRun s client number run → is_thread_alive s.world run.main ≡ true →
    (id : ℕ) (other : Run) → ¬ IsEndedRun s client number id other
alive-unended s client number run own alive id other e =
    let same : other ≡ run = run-same s client number run other own e.own in
    let both : true ≡ false = sym alive ∙ ap (λ (r : Run). is_thread_alive s.world r.main) (sym same) ∙ e.ended in
    cc

-- the end of a run whose main thread isn't alive: it has returned a text, or was stopped by a client
pub data HasEnded (s : State) (run : Run) : Type 0 where
  returns : (text : List ℕ) → end_of s.world run ≡ Some (thread_end.Returned (Some text)) → HasEnded s run
  stops : (client : ℕ) → end_of s.world run ≡ Some thread_end.Stopped → run.stopper ≡ Some client → HasEnded s run

pub has-ended : (s : State) (number : ℕ) (run : Run) → IsReached s → numbered s.world.runs number ≡ Some run → run.gone ≡ false →
    is_thread_alive s.world run.main ≡ false → HasEnded s run
has-ended s number run r found there dead = from (r.world.main number run found)
  where
    from : HasMain s.world.states s.world.threads run → HasEnded s run
    from has = by_sum (sums-at s.world.states s.world.threads run.main has.state has.thread r.world.sums has.state_is has.thread_is)
      where
        end : end_of s.world run ≡ has.thread.end
        end = ap (option_and_then (λ (t : Thread). t.end)) has.thread_is

        lives : is_alive has.state ≡ false
        lives = sym (ap (λ (f : Option ThreadState). option_map_or is_alive f false) has.state_is) ∙ dead

        by_sum : IsOnSum has.state has.thread → HasEnded s run
        by_sum (begun what is steps frames none) = let both : true ≡ false = sym (ap is_alive is) ∙ lives in cc
        by_sum (answered what is steps frames none) = let both : true ≡ false = sym (ap is_alive is) ∙ lives in cc
        by_sum (returned text is steps frames how) = returns text (end ∙ how)
        by_sum (stopped is steps frames how) = let who = has.stopper there is in stops who.0 (end ∙ how) who.1

outcome-is : (s : State) (run : Run) (how : Option ThreadEnd) → end_of s.world run ≡ how → outcome_of s.world run ≡ outcome_with run how
outcome-is s run how is = ap (outcome_with run) is

over-end : (s : State) (client number : ℕ) (run : Run) → IsOwnRun s client number run → is_thread_alive s.world run.main ≡ false → HasEnded s run →
    CausesOfEnd s client number (over_with run.snippet (outcome_of s.world run))
over-end s client number run own dead (returns text end) = subst (λ (how : Outcome). CausesOfEnd s client number (over_with run.snippet how)) (sym (outcome-is s run _ end)) (record {
  value = λ id other. (
    λ a. let snippet : run.snippet ≡ id = cc in let same : text ≡ other = cc in
        (run, record { own = own; ended = dead; snippet = snippet }, end ∙ ap (λ t. Some (thread_end.Returned (Some t))) same),
    λ c. of_value id other c.0 c.1 c.2,
  );
  finished = λ id. (λ a. (cc), λ c. absurd (let e = other_end id c.0 c.1 _ c.2 in (cc)));
  stopped = λ id by. (λ a. (cc), λ c. absurd (let e = other_end id c.0 c.1 _ c.2 in (cc)));
})
  where
    other_end : (id : ℕ) (other : Run) → IsEndedRun s client number id other → (how : Option ThreadEnd) → end_of s.world other ≡ how → Some (thread_end.Returned (Some text)) ≡ how
    other_end id other e how is = sym end ∙ ap (end_of s.world) (sym (run-same s client number run other own e.own)) ∙ is

    of_value : (id : ℕ) (new : List ℕ) (other : Run) → IsEndedRun s client number id other → end_of s.world other ≡ Some (thread_end.Returned (Some new)) →
        over_with run.snippet (outcome.Value text) ≡ over_with id (outcome.Value new)
    of_value id new other e is =
        let ends : Some (thread_end.Returned (Some text)) ≡ Some (thread_end.Returned (Some new)) = other_end id other e _ is in
        let same : text ≡ new = cc in
        let snippet : run.snippet ≡ id = ap (λ (r : Run). r.snippet) (sym (run-same s client number run other own e.own)) ∙ e.snippet in
        ap (λ n. over_with n (outcome.Value text)) snippet ∙ ap (λ t. over_with id (outcome.Value t)) same
over-end s client number run own dead (stops who end stopper) = subst (λ (how : Outcome). CausesOfEnd s client number (over_with run.snippet how)) (sym is_stopped) (record {
  value = λ id text. (λ a. (cc), λ c. absurd (let e = other_end id c.0 c.1 _ c.2 in (cc)));
  finished = λ id. (λ a. (cc), λ c. absurd (let e = other_end id c.0 c.1 _ c.2 in (cc)));
  stopped = λ id by. (
    λ a. let snippet : run.snippet ≡ id = cc in let same : who ≡ by = cc in
        (run, record { own = own; ended = dead; snippet = snippet }, end, stopper ∙ ap Some same),
    λ c. of_stop id by c.0 c.1 c.3,
  );
})
  where
    is_stopped : outcome_of s.world run ≡ outcome.Stopped who
    is_stopped = outcome-is s run _ end ∙ ap (λ (found : Option ℕ). outcome.Stopped (unwrap_or found run.owner)) stopper

    other_end : (id : ℕ) (other : Run) → IsEndedRun s client number id other → (how : Option ThreadEnd) → end_of s.world other ≡ how → Some thread_end.Stopped ≡ how
    other_end id other e how is = sym end ∙ ap (end_of s.world) (sym (run-same s client number run other own e.own)) ∙ is

    of_stop : (id by : ℕ) (other : Run) → IsEndedRun s client number id other → other.stopper ≡ Some by → over_with run.snippet (outcome.Stopped who) ≡ over_with id (outcome.Stopped by)
    of_stop id by other e is =
        let both : Some who ≡ Some by = sym stopper ∙ ap (λ (r : Run). r.stopper) (sym (run-same s client number run other own e.own)) ∙ is in
        let same : who ≡ by = cc in
        let snippet : run.snippet ≡ id = ap (λ (r : Run). r.snippet) (sym (run-same s client number run other own e.own)) ∙ e.snippet in
        ap (λ n. over_with n (outcome.Stopped who)) snippet ∙ ap (λ n. over_with id (outcome.Stopped n)) same

collect-causes : (s : State) (client number : ℕ) (acted : Acted) → IsReached s → Collects s client number acted → CausesOfCollect s client number acted.body
collect-causes s client number acted r (absent none is) = subst (λ (a : Acted). CausesOfCollect s client number a.body) (sym is) (record {
  refused = absent-refusal s client number none;
  running = λ steps. (λ a. (cc), λ c. absurd (unseen-unowned s client number c.0 none c.1.own));
  stalled = λ id threads. (λ a. (cc), λ c. absurd (unseen-unowned s client number c.0 none c.1.own));
  ended = no-end s client number _ (λ id run e. unseen-unowned s client number run none e.own) (λ id text a. (cc)) (λ id a. (cc)) (λ id by a. (cc));
})
collect-causes s client number acted r (foreign run found there other is) = subst (λ (a : Acted). CausesOfCollect s client number a.body) (sym is) (record {
  refused = foreign-refusal s client number run found there other;
  running = λ steps. (λ a. (cc), λ c. absurd (unowned c.0 c.1.own));
  stalled = λ id threads. (λ a. (cc), λ c. absurd (unowned c.0 c.1.own));
  ended = no-end s client number _ (λ id run e. unowned run e.own) (λ id text a. (cc)) (λ id a. (cc)) (λ id by a. (cc));
})
  where
    unowned : (mine : Run) → ¬ IsOwnRun s client number mine
    unowned mine own = let both : Some mine ≡ Some run = sym own.found ∙ found in let same : mine ≡ run = cc in other (ap (λ (x : Run). x.owner) (sym same) ∙ own.owner)
collect-causes s client number acted r (running run own alive some is) = subst (λ (a : Acted). CausesOfCollect s client number a.body) (sym is) (record {
  refused = own-refusal s client number run _ own (λ why a. (cc));
  running = λ steps. (
    λ a. let same : steps_so_far s.world run ≡ steps = cc in (run, record { own = own; alive = alive }, (some-goes s.world).0 some, same),
    λ c. let same : c.0 ≡ run = run-same s client number run c.0 own c.1.own in
        ap (λ n. body.Collected («collected».Running n)) (ap (steps_so_far s.world) (sym same) ∙ c.3),
  );
  stalled = λ id threads. (λ a. (cc), λ c. absurd (c.2 ((some-goes s.world).0 some)));
  ended = no-end s client number _ (alive-unended s client number run own alive) (λ id text a. (cc)) (λ id a. (cc)) (λ id by a. (cc));
})
collect-causes s client number acted r (stalled run own alive none is) = subst (λ (a : Acted). CausesOfCollect s client number a.body) (sym is) (record {
  refused = own-refusal s client number run _ own (λ why a. (cc));
  running = λ steps. (λ a. (cc), λ c. absurd (none-goes s.world none c.2));
  stalled = λ id threads. (
    λ a. let snippet : run.snippet ≡ id = cc in let same : alive_threads s.world.states ≡ threads = cc in
        (run, record { own = own; alive = alive }, none-goes s.world none, snippet, same),
    λ c. let same : c.0 ≡ run = run-same s client number run c.0 own c.1.own in
        ap (λ n. over_with n (outcome.Stalled (alive_threads s.world.states))) (ap (λ (x : Run). x.snippet) (sym same) ∙ c.3)
        ∙ ap (λ (l : List ℕ). over_with id (outcome.Stalled l)) c.4,
  );
  ended = no-end s client number _ (alive-unended s client number run own alive) (λ id text a. (cc)) (λ id a. (cc)) (λ id by a. (cc));
})
collect-causes s client number acted r (ended run own dead is) = subst (λ (a : Acted). CausesOfCollect s client number a.body) (sym is) (record {
  refused = own-refusal s client number run _ own (λ why a. (cc));
  running = λ steps. (λ a. (cc), λ c. absurd (lives c.0 c.1));
  stalled = λ id threads. (λ a. absurd (unstalled id threads a), λ c. absurd (lives c.0 c.1));
  ended = over-end s client number run own dead how;
})
  where
    how : HasEnded s run
    how = has-ended s number run r own.found own.there dead

    lives : (other : Run) → ¬ IsAliveRun s client number other
    lives other e = alive-unended s client number other e.own e.alive run.snippet run (record { own = own; ended = dead; snippet = refl })

    unstalled : (id : ℕ) (threads : List ℕ) → over_with run.snippet (outcome_of s.world run) ≢ over_with id (outcome.Stalled threads)
    unstalled id threads a = by_end (has-ended s number run r own.found own.there dead)
      where
        by_end : HasEnded s run → ⊥
        by_end (returns text end) = let e : outcome_of s.world run ≡ outcome.Value text = outcome-is s run _ end in cc
        by_end (stops who end stopper) = let e : outcome_of s.world run ≡ outcome.Stopped (stopper_of run) = outcome-is s run _ end in cc

expire-causes : (s : State) (client number steps : ℕ) (acted : Acted) → IsReached s → Expires s client number steps acted → CausesOfExpire s client number steps acted.body
expire-causes s client number steps acted r (absent none is) = subst (λ (a : Acted). CausesOfExpire s client number steps a.body) (sym is) (record {
  refused = absent-refusal s client number none;
  spent = λ id count. (λ a. (cc), λ c. absurd (unseen-unowned s client number c.0 none c.1.own));
  ended = no-end s client number _ (λ id run e. unseen-unowned s client number run none e.own) (λ id text a. (cc)) (λ id a. (cc)) (λ id by a. (cc));
})
expire-causes s client number steps acted r (foreign run found there other is) = subst (λ (a : Acted). CausesOfExpire s client number steps a.body) (sym is) (record {
  refused = foreign-refusal s client number run found there other;
  spent = λ id count. (λ a. (cc), λ c. absurd (unowned c.0 c.1.own));
  ended = no-end s client number _ (λ id run e. unowned run e.own) (λ id text a. (cc)) (λ id a. (cc)) (λ id by a. (cc));
})
  where
    unowned : (mine : Run) → ¬ IsOwnRun s client number mine
    unowned mine own = let both : Some mine ≡ Some run = sym own.found ∙ found in let same : mine ≡ run = cc in other (ap (λ (x : Run). x.owner) (sym same) ∙ own.owner)
expire-causes s client number steps acted r (spent run own alive is) = subst (λ (a : Acted). CausesOfExpire s client number steps a.body) (sym is) (record {
  refused = own-refusal s client number run _ own (λ why a. (cc));
  spent = λ id count. (
    λ a. let snippet : run.snippet ≡ id = cc in let same : steps ≡ count = cc in (run, record { own = own; alive = alive }, snippet, same),
    λ c. let same : c.0 ≡ run = run-same s client number run c.0 own c.1.own in
        ap (λ n. over_with n (outcome.Spent steps)) (ap (λ (x : Run). x.snippet) (sym same) ∙ c.2) ∙ ap (λ n. over_with id (outcome.Spent n)) c.3,
  );
  ended = no-end s client number _ (alive-unended s client number run own alive) (λ id text a. (cc)) (λ id a. (cc)) (λ id by a. (cc));
})
expire-causes s client number steps acted r (ended run own dead is) = subst (λ (a : Acted). CausesOfExpire s client number steps a.body) (sym is) (record {
  refused = own-refusal s client number run _ own (λ why a. (cc));
  spent = λ id count. (λ a. absurd (unspent id count a), λ c. absurd (lives c.0 c.1));
  ended = over-end s client number run own dead how;
})
  where
    how : HasEnded s run
    how = has-ended s number run r own.found own.there dead

    lives : (other : Run) → ¬ IsAliveRun s client number other
    lives other e = alive-unended s client number other e.own e.alive run.snippet run (record { own = own; ended = dead; snippet = refl })

    unspent : (id count : ℕ) → over_with run.snippet (outcome_of s.world run) ≢ over_with id (outcome.Spent count)
    unspent id count a = by_end (has-ended s number run r own.found own.there dead)
      where
        by_end : HasEnded s run → ⊥
        by_end (returns text end) = let e : outcome_of s.world run ≡ outcome.Value text = outcome-is s run _ end in cc
        by_end (stops who end stopper) = let e : outcome_of s.world run ≡ outcome.Stopped (stopper_of run) = outcome-is s run _ end in cc

stop-causes : (s : State) (client number : ℕ) (acted : Acted) → Stops s client number acted → CausesOfStop s number acted.body
stop-causes s client number acted (absent none is) = subst (λ (a : Acted). CausesOfStop s number a.body) (sym is) (record {
  no_such_run = (λ a. none, λ c. refl);
  done = (λ a. (cc), λ c. let both : None ≡ Some c.0 = sym none ∙ c.1 in cc);
})
stop-causes s client number acted (standing run found there is) = subst (λ (a : Acted). CausesOfStop s number a.body) (sym is) (record {
  no_such_run = (λ a. (cc), λ none. absurd (unseen-unowned s run.owner number run none its_own));
  done = (λ a. (_, own-seen s run.owner number run its_own), λ c. refl);
})
  where
    its_own : IsOwnRun s run.owner number run
    its_own = record { found = found; there = there; owner = refl }

drop_id-causes : (s : State) (id : ℕ) (acted : Acted) → DropsId s id acted → CausesOfDropId s id acted.body
drop_id-causes s id acted (absent none is) = subst (λ (a : Acted). CausesOfDropId s id a.body) (sym is) (record {
  no_such_snippet = (λ a. none, λ c. refl);
  not_live = λ why. (λ a. (cc), λ c. let both : None ≡ Some c.0 = sym none ∙ c.1 in cc);
  dropped = λ what name events. (λ a. (cc), λ c. let both : None ≡ Some c.0 = sym none ∙ c.1 in cc);
})
drop_id-causes s id acted (idle x found kept is) = subst (λ (a : Acted). CausesOfDropId s id a.body) (sym is) (record {
  no_such_snippet = (λ a. (cc), λ none. let both : None ≡ Some x = sym none ∙ found in cc);
  not_live = λ why. (
    λ a. let same : x.fate ≡ why = cc in (x, found, same, subst (λ (f : Fate). ¬ IsDroppable f) same kept),
    λ c. ap (λ (f : Fate). body.Refused (refusal.NotLive id f)) (ap (λ (y : Record). y.fate) (the_record c.0 c.1) ∙ c.2),
  );
  dropped = λ what name events. (λ a. (cc), λ c. absurd (kept (subst (λ (y : Record). IsDroppable y.fate) (sym (the_record c.0 c.1)) c.2)));
})
  where
    the_record : (other : Record) → numbered s.book id ≡ Some other → x ≡ other
    the_record other there = let both : Some x ≡ Some other = sym found ∙ there in cc
drop_id-causes s id acted (drops x found live is) = subst (λ (a : Acted). CausesOfDropId s id a.body) (sym is) (record {
  no_such_snippet = (λ a. (cc), λ none. let both : None ≡ Some x = sym none ∙ found in cc);
  not_live = λ why. (λ a. (cc), λ c. absurd (c.3 (subst IsDroppable c.2 (subst (λ (y : Record). IsDroppable y.fate) (the_record c.0 c.1) live))));
  dropped = λ what name events. (
    λ a. let one : kind_of_record x ≡ what = cc in let two : name_of_record id ≡ name = cc in let three : drop_event id (live_of s.generation id) ∷ [] ≡ events = cc in
        (x, found, live, one, two, three),
    λ c. ap (λ (k : Kind). body.Dropped id k (name_of_record id) (drop_event id (live_of s.generation id) ∷ [])) (ap kind_of_record (the_record c.0 c.1) ∙ c.3)
        ∙ ap (λ (n : List ℕ). body.Dropped id what n (drop_event id (live_of s.generation id) ∷ [])) c.4
        ∙ ap (λ (e : List Event). body.Dropped id what name e) c.5,
  );
})
  where
    the_record : (other : Record) → numbered s.book id ≡ Some other → x ≡ other
    the_record other there = let both : Some x ≡ Some other = sym found ∙ there in cc

-- a drop by a number isn't refused for a name
unnamed : (s : State) (id : ℕ) (name : List ℕ) (count : ℕ) (acted : Acted) → DropsId s id acted → acted.body ≢ body.Refused (refusal.NoSuchName name count)
unnamed s id name count acted (absent none is) a = let e = sym (ap (λ (x : Acted). x.body) is) ∙ a in (cc)
unnamed s id name count acted (idle x found kept is) a = let e = sym (ap (λ (x : Acted). x.body) is) ∙ a in (cc)
unnamed s id name count acted (drops x found live is) a = let e = sym (ap (λ (x : Acted). x.body) is) ∙ a in (cc)

drop_name-causes : (s : State) (name : List ℕ) (acted : Acted) → DropsName s name acted → CausesOfDropName s name acted.body
drop_name-causes s name acted (unclear many is) = subst (λ (a : Acted). CausesOfDropName s name a.body) (sym is) (record {
  no_such_name = λ count. (
    λ a. let same : length (live_named name s.generation) ≡ count = cc in (same, λ one. many (same ∙ one)),
    λ c. ap (λ n. body.Refused (refusal.NoSuchName name n)) c.0,
  );
  found = λ live one. absurd (many (ap length one));
})
drop_name-causes s name acted (only live one is) = subst (λ (a : Acted). CausesOfDropName s name a.body) (sym is) (record {
  no_such_name = λ count. (
    λ a. absurd (unnamed s live.id name count (drop_id s live.id) (view-drop_id s live.id) a),
    λ c. absurd (c.1 (sym c.0 ∙ ap length one)),
  );
  found = λ other two. (
      let both : live ∷ [] ≡ other ∷ [] = sym one ∙ two in
      let same : live ≡ other = cc in
      subst (λ (l : Live). CausesOfDropId s l.id (drop_id s live.id).body) same (drop_id-causes s live.id (drop_id s live.id) (view-drop_id s live.id)));
})

drop-causes : (s : State) (what : Target) → CausesOfDrop s what (drop_snippet s what).body
drop-causes s (target.Id id) = drop_id-causes s id (drop_id s id) (view-drop_id s id)
drop-causes s (target.Named name) = drop_name-causes s name (drop_snippet s (target.Named name)) (view-drop_name s name)

ask-causes : (s : State) (what : Question) → IsAnswered what → CausesOfAsk s what (asked s what).body
ask-causes s (question.Complete text) may = absurd may
ask-causes s question.List may = refl
ask-causes s question.ListAll may = refl
ask-causes s question.Vars may = refl
ask-causes s question.Methods may = refl
ask-causes s question.Types may = refl
ask-causes s question.Imports may = refl
ask-causes s question.Threads may = refl
ask-causes s question.Help may = refl
ask-causes s (question.Invalid line) may = refl

-- what an allowed act is answered has its cause
act-causes : (history : List Entry) (client : ℕ) (asks : Act) → HandsInUtf8 asks → MayDo history client asks →
    CausesOfAct (state_of history) client asks (act_step (state_of history) client asks).body
unfolding CausesOfAct
act-causes history client act.Enter utf8 may = enter-causes (state_of history) (enter (state_of history)) (view-enter (state_of history))
act-causes history client (act.Submit source) utf8 may =
    submit-causes (state_of history) client source (submitted (state_of history) client source) utf8 (view-submit (state_of history) client source)
act-causes history client (act.Turn thread steps) utf8 may = turn-causes (state_of history) thread steps may.1
act-causes history client (act.Collect run) utf8 may =
    collect-causes (state_of history) client run (collect (state_of history) client run) (reached history) (view-collect (state_of history) client run)
act-causes history client (act.Expire run steps) utf8 may =
    expire-causes (state_of history) client run steps (expire (state_of history) client run steps) (reached history) (view-expire (state_of history) client run steps)
act-causes history client (act.Stop run) utf8 may = stop-causes (state_of history) client run (stop (state_of history) client run) (view-stop (state_of history) client run)
act-causes history client (act.Drop what) utf8 may = drop-causes (state_of history) what
act-causes history client (act.Ask what) utf8 may = ask-causes (state_of history) what may.1
act-causes history client act.Reset utf8 may = refl
act-causes history client act.Leave utf8 may = refl
act-causes history client act.Close utf8 may = refl

-- a reply that is that of the step has its cause
pub reply-causes : (history : List Entry) (entry : Entry) (reply : Reply) → Allows history entry → HandsInUtf8 entry.act →
    reply ≡ (step (state_of history) entry).reply → AnswerHasCause (state_of history) entry reply.body
reply-causes history entry reply allowed utf8 same =
    let acted : Acted = act_step (state_of history) entry.client entry.act in
    let is : IsDelivered acted (delivered entry.client acted) = delivers entry.client acted in
    subst (λ (b : ReplyBody). AnswerHasCause (state_of history) entry b) (sym (ap (λ (r : Reply). r.body) same ∙ is.body)) (act-causes history entry.client entry.act utf8 allowed.may)
