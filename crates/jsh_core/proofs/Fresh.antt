-- A run that was just made.
use Rattle.std.proofs.Common.{◌≡◌, ℕ, ◌+◌, Bool, true, false, List, [], ◌∷◌, Option, None, Some, length, length-append, refl, ap, sym, subst, ◌∙◌}
use Rattle.std.specs.Option.{option_map_or}
use Rattle.jsh_snippet.specs.declared.acts.Act.{Act}
use Rattle.jsh_snippet.specs.declared.acts.Act.TheVariants as act
use Rattle.jsh_snippet.specs.declared.acts.Target.TheVariants as target
use Rattle.jsh_snippet.specs.declared.replies.ReplyBody.{ReplyBody}
use Rattle.jsh_sched.specs.declared.ThreadState.{ThreadState}
use Rattle.jsh_sched.specs.declared.ThreadState.TheVariants as thread_state
use Rattle.jsh_sched.specs.ThreadState.{is_alive, is_ready}
use Rattle.jsh_sum.specs.declared.sums.Sum.{Sum}
use Rattle.jsh_verdict.specs.declared.verdict.Verdict.TheVariants.{Accepted}
use Rattle.jsh_verdict.specs.Verdict.{verdict}
use Rattle.jsh_core.specs.declared.world.Body.{Body}
use Rattle.jsh_core.specs.declared.world.Run.{Run}
use Rattle.jsh_core.specs.declared.world.Thread.{Thread}
use Rattle.jsh_core.specs.State.{State, Acted, numbered}
use Rattle.jsh_core.specs.Snippets.{accepted_plan, main_thread, new_link, published, run_of, submitted}
use Rattle.jsh_core.specs.Threads.{can_go_on, is_thread_alive}
use Rattle.jsh_core.specs.Runs.{collect, expire, stop}
use Rattle.jsh_core.specs.Drops.{drop_id, drop_snippet}
use Rattle.jsh_core.specs.Clients.{enter}
use Rattle.jsh_core.specs.Step.{act_step, delivered, step}
use Rattle.jsh_core.specs.Causes.{IsOwnRun}
use Rattle.jsh_core.proofs.DeliveryLaws.{IsDelivered, by, delivers}
use Rattle.jsh_core.proofs.Reached.{new_run}
use Rattle.jsh_core.proofs.Views.{Collects, DropsId, DropsName, Enters, Expires, Stops, Submits, view-collect, view-drop_id, view-drop_name, view-enter, view-expire, view-stop, view-submit}
use Rattle.jsh_core.proofs.Views.{absent, accepted, crowded, drops, ended, enters, foreign, full, idle, only, rejected, running, spent, stalled, standing, unclear}
use Rattle.jsh_core.proofs.ListLemmas.{numbered-push}

-- the last run is this client's, and its main thread is the last one, which is ready and has done nothing yet
pub record IsFresh (s : State) (client run : ℕ) : Type 0 where
  pub main : ℕ
  pub snippet : ℕ
  pub what : Body
  pub newest : main ≡ length s.world.threads
  pub last : run ≡ length s.world.runs
  pub run_is : numbered s.world.runs run ≡ Some (record { owner = client; main = main; snippet = snippet; stopper = None; gone = false })
  pub thread_is : numbered s.world.threads main ≡ Some (main_thread client what)
  pub state_is : numbered s.world.states main ≡ Some thread_state.Ready

-- it is the client's own, and it can go on
pub fresh-own : (s : State) (client run : ℕ) (f : IsFresh s client run) →
    IsOwnRun s client run (record { owner = client; main = f.main; snippet = f.snippet; stopper = None; gone = false })
fresh-own s client run f = record { found = f.run_is; there = refl; owner = refl }

pub fresh-goes : (s : State) (client run : ℕ) (f : IsFresh s client run) → can_go_on s.world f.main ≡ true
fresh-goes s client run f = ap (λ (found : Option ThreadState). option_map_or is_ready found false) f.state_is

pub fresh-alive : (s : State) (client run : ℕ) (f : IsFresh s client run) → is_thread_alive s.world f.main ≡ true
fresh-alive s client run f = ap (λ (found : Option ThreadState). option_map_or is_alive found false) f.state_is

-- what is known of the reply to a snippet and of the state behind it
pub record IsSubmitted (s : State) (client : ℕ) (after : State) (answered : ReplyBody) : Type 0 where
  pub fresh : (run : ℕ) → run_of answered ≡ Some run → IsFresh after client run
  pub next : (run : ℕ) → run_of answered ≡ Some run → run ≡ length s.world.runs + 1
  pub newer : (run : ℕ) → run_of answered ≡ Some run → length after.world.threads ≡ length s.world.threads + 1
  pub same_threads : run_of answered ≡ None → after.world.threads ≡ s.world.threads
  pub same_states : run_of answered ≡ None → after.world.states ≡ s.world.states
  pub same_runs : run_of answered ≡ None → after.world.runs ≡ s.world.runs
  pub clients : after.clients ≡ s.clients

-- where no run is made
runless-submitted : (s : State) (client : ℕ) (after : State) (answered : ReplyBody) → run_of answered ≡ None → after.world.threads ≡ s.world.threads → after.world.states ≡ s.world.states →
    after.world.runs ≡ s.world.runs → after.clients ≡ s.clients → IsSubmitted s client after answered
runless-submitted s client after answered none threads states runs clients = record {
  fresh = λ run e. absurd (clash run e);
  next = λ run e. absurd (clash run e);
  newer = λ run e. absurd (clash run e);
  same_threads = λ e. threads;
  same_states = λ e. states;
  same_runs = λ e. runs;
  clients = clients;
}
  where
    clash : (run : ℕ) → run_of answered ≡ Some run → ⊥
    clash run e = let both : None ≡ Some run = sym none ∙ e in cc

-- the run of a snippet that is accepted evaluates its sum
accepted-fresh : (s : State) (client : ℕ) (source : List ℕ) (sum : Sum) (run : ℕ) → length s.world.states ≡ length s.world.threads → Some (length s.world.runs + 1) ≡ Some run →
    (f : IsFresh (published s client (accepted_plan s.generation (length s.book + 1) source sum)).state client run) × (f.what.sum ≡ sum)
accepted-fresh s client source sum run fits e = (
  record {
    main = length s.world.threads + 1;
    snippet = length s.book + 1;
    what = what;
    newest = sym (length-append s.world.threads (main_thread client what ∷ []));
    last = number e ∙ sym (length-append s.world.runs (new_run client (length s.world.threads + 1) (length s.book + 1) ∷ []));
    run_is = numbered-push s.world.runs run (new_run client (length s.world.threads + 1) (length s.book + 1)) (number e);
    thread_is = numbered-push s.world.threads (length s.world.threads + 1) (main_thread client what) refl;
    state_is = numbered-push s.world.states (length s.world.threads + 1) thread_state.Ready (ap (λ n. n + 1) (sym fits));
  },
  refl,
)
  where
    what : Body
    what = record { variable = new_link s.generation (length s.book + 1); sum = sum }

    number : Some (length s.world.runs + 1) ≡ Some run → run ≡ length s.world.runs + 1
    number e = cc

act-submits : (s : State) (client : ℕ) (source : List ℕ) (acted : Acted) → length s.world.states ≡ length s.world.threads → Submits s client source acted →
    IsSubmitted s client acted.state acted.body
act-submits s client source acted fits (full many is) = subst (λ (a : Acted). IsSubmitted s client a.state a.body) (sym is)
    (runless-submitted s client _ _ refl refl refl refl refl)
act-submits s client source acted fits (rejected ds few found is) = subst (λ (a : Acted). IsSubmitted s client a.state a.body) (sym is)
    (runless-submitted s client _ _ refl refl refl refl refl)
act-submits s client source acted fits (crowded sum few found many is) = subst (λ (a : Acted). IsSubmitted s client a.state a.body) (sym is)
    (runless-submitted s client _ _ refl refl refl refl refl)
act-submits s client source acted fits (accepted sum few found room is) = subst (λ (a : Acted). IsSubmitted s client a.state a.body) (sym is) (record {
  fresh = λ run e. (accepted-fresh s client source sum run fits e).0;
  next = λ run e. number run e;
  newer = λ run e. length-append s.world.threads (main_thread client (record { variable = new_link s.generation (length s.book + 1); sum = sum }) ∷ []);
  same_threads = λ e. (let both : Some (length s.world.runs + 1) ≡ None = e in (cc));
  same_states = λ e. (let both : Some (length s.world.runs + 1) ≡ None = e in (cc));
  same_runs = λ e. (let both : Some (length s.world.runs + 1) ≡ None = e in (cc));
  clients = refl;
})
  where
    number : (run : ℕ) → Some (length s.world.runs + 1) ≡ Some run → run ≡ length s.world.runs + 1
    number run e = cc

pub submit-answers : (s : State) (client : ℕ) (source : List ℕ) → length s.world.states ≡ length s.world.threads →
    IsSubmitted s client (step s (by client (act.Submit source))).state (step s (by client (act.Submit source))).reply.body
submit-answers s client source fits = subst (λ (b : ReplyBody). IsSubmitted s client (step s (by client (act.Submit source))).state b) (sym is.body) (moved old)
  where
    is : IsDelivered (submitted s client source) (delivered client (submitted s client source))
    is = delivers client (submitted s client source)

    old : IsSubmitted s client (submitted s client source).state (submitted s client source).body
    old = act-submits s client source (submitted s client source) fits (view-submit s client source)

    moved_fresh : (run : ℕ) → IsFresh (submitted s client source).state client run → IsFresh (delivered client (submitted s client source)).state client run
    moved_fresh run f = record {
      main = f.main;
      snippet = f.snippet;
      what = f.what;
      newest = f.newest ∙ sym (ap length is.threads);
      last = f.last ∙ sym (ap length is.runs);
      run_is = ap (λ (l : List Run). numbered l run) is.runs ∙ f.run_is;
      thread_is = ap (λ (l : List Thread). numbered l f.main) is.threads ∙ f.thread_is;
      state_is = ap (λ (l : List ThreadState). numbered l f.main) is.states ∙ f.state_is;
    }

    moved : IsSubmitted s client (submitted s client source).state (submitted s client source).body →
        IsSubmitted s client (delivered client (submitted s client source)).state (submitted s client source).body
    moved h = record {
      fresh = λ run e. moved_fresh run (h.fresh run e);
      next = h.next;
      newer = λ run e. ap length is.threads ∙ h.newer run e;
      same_threads = λ e. is.threads ∙ h.same_threads e;
      same_states = λ e. is.states ∙ h.same_states e;
      same_runs = λ e. is.runs ∙ h.same_runs e;
      clients = is.clients ∙ h.clients;
    }

-- no other act makes a run

-- a snippet is handed in
abbrev pub is_submit : Act → Bool
is_submit (act.Submit source) = true
is_submit _ = false

collect-runless : (s : State) (client number : ℕ) (acted : Acted) → Collects s client number acted → run_of acted.body ≡ None
collect-runless s client number acted (absent none is) = ap (λ (a : Acted). run_of a.body) is
collect-runless s client number acted (foreign run found there other is) = ap (λ (a : Acted). run_of a.body) is
collect-runless s client number acted (running run own alive goes is) = ap (λ (a : Acted). run_of a.body) is
collect-runless s client number acted (stalled run own alive none is) = ap (λ (a : Acted). run_of a.body) is
collect-runless s client number acted (ended run own dead is) = ap (λ (a : Acted). run_of a.body) is

expire-runless : (s : State) (client number steps : ℕ) (acted : Acted) → Expires s client number steps acted → run_of acted.body ≡ None
expire-runless s client number steps acted (absent none is) = ap (λ (a : Acted). run_of a.body) is
expire-runless s client number steps acted (foreign run found there other is) = ap (λ (a : Acted). run_of a.body) is
expire-runless s client number steps acted (spent run own alive is) = ap (λ (a : Acted). run_of a.body) is
expire-runless s client number steps acted (ended run own dead is) = ap (λ (a : Acted). run_of a.body) is

stop-runless : (s : State) (client number : ℕ) (acted : Acted) → Stops s client number acted → run_of acted.body ≡ None
stop-runless s client number acted (absent none is) = ap (λ (a : Acted). run_of a.body) is
stop-runless s client number acted (standing run found there is) = ap (λ (a : Acted). run_of a.body) is

enter-runless : (s : State) (acted : Acted) → Enters s acted → run_of acted.body ≡ None
enter-runless s acted (full many is) = ap (λ (a : Acted). run_of a.body) is
enter-runless s acted (enters few is) = ap (λ (a : Acted). run_of a.body) is

drop_id-runless : (s : State) (id : ℕ) (acted : Acted) → DropsId s id acted → run_of acted.body ≡ None
drop_id-runless s id acted (absent none is) = ap (λ (a : Acted). run_of a.body) is
drop_id-runless s id acted (idle x found why is) = ap (λ (a : Acted). run_of a.body) is
drop_id-runless s id acted (drops x found why is) = ap (λ (a : Acted). run_of a.body) is

drop_name-runless : (s : State) (name : List ℕ) (acted : Acted) → DropsName s name acted → run_of acted.body ≡ None
drop_name-runless s name acted (unclear many is) = ap (λ (a : Acted). run_of a.body) is
drop_name-runless s name acted (only live one is) = ap (λ (a : Acted). run_of a.body) is ∙ drop_id-runless s live.id (drop_id s live.id) (view-drop_id s live.id)

act-runless : (s : State) (client : ℕ) (what : Act) → is_submit what ≡ false → run_of (act_step s client what).body ≡ None
act-runless s client act.Enter e = enter-runless s (enter s) (view-enter s)
act-runless s client (act.Submit source) e = cc
act-runless s client (act.Turn thread steps) e = refl
act-runless s client (act.Collect run) e = collect-runless s client run (collect s client run) (view-collect s client run)
act-runless s client (act.Expire run steps) e = expire-runless s client run steps (expire s client run steps) (view-expire s client run steps)
act-runless s client (act.Stop run) e = stop-runless s client run (stop s client run) (view-stop s client run)
act-runless s client (act.Drop (target.Id id)) e = drop_id-runless s id (drop_id s id) (view-drop_id s id)
act-runless s client (act.Drop (target.Named name)) e = drop_name-runless s name (drop_snippet s (target.Named name)) (view-drop_name s name)
act-runless s client (act.Ask question) e = refl
act-runless s client act.Reset e = refl
act-runless s client act.Leave e = refl
act-runless s client act.Close e = refl

pub runless : (s : State) (client : ℕ) (what : Act) → is_submit what ≡ false → run_of (step s (by client what)).reply.body ≡ None
runless s client what e =
    let is : IsDelivered (act_step s client what) (delivered client (act_step s client what)) = delivers client (act_step s client what) in
    ap run_of is.body ∙ act-runless s client what e

-- a fresh run evaluates the sum that its source is accepted with
pub submit-sum : (s : State) (client : ℕ) (source : List ℕ) (run : ℕ) → length s.world.states ≡ length s.world.threads →
    run_of (step s (by client (act.Submit source))).reply.body ≡ Some run →
    (f : IsFresh (step s (by client (act.Submit source))).state client run) × (verdict source ≡ Accepted f.what.sum)
submit-sum s client source run fits made = moved (old (submitted s client source) (view-submit s client source) (ap run_of (sym is.body) ∙ made))
  where
    is : IsDelivered (submitted s client source) (delivered client (submitted s client source))
    is = delivers client (submitted s client source)

    old : (acted : Acted) → Submits s client source acted → run_of acted.body ≡ Some run → (f : IsFresh acted.state client run) × (verdict source ≡ Accepted f.what.sum)
    old acted (full many same) e = let both : None ≡ Some run = sym (ap (λ (a : Acted). run_of a.body) same) ∙ e in cc
    old acted (rejected ds few found same) e = let both : None ≡ Some run = sym (ap (λ (a : Acted). run_of a.body) same) ∙ e in cc
    old acted (crowded sum few found many same) e = let both : None ≡ Some run = sym (ap (λ (a : Acted). run_of a.body) same) ∙ e in cc
    old acted (accepted sum few found room same) e =
        subst (λ (a : Acted). (f : IsFresh a.state client run) × (verdict source ≡ Accepted f.what.sum)) (sym same)
        (let fresh = accepted-fresh s client source sum run fits (sym (ap (λ (a : Acted). run_of a.body) same) ∙ e) in
        (fresh.0, found ∙ ap Accepted (sym fresh.1)))

    moved : (f : IsFresh (submitted s client source).state client run) × (verdict source ≡ Accepted f.what.sum) →
        (f : IsFresh (delivered client (submitted s client source)).state client run) × (verdict source ≡ Accepted f.what.sum)
    moved (f, found) = (
      record {
        main = f.main;
        snippet = f.snippet;
        what = f.what;
        newest = f.newest ∙ sym (ap length is.threads);
        last = f.last ∙ sym (ap length is.runs);
        run_is = ap (λ (l : List Run). numbered l run) is.runs ∙ f.run_is;
        thread_is = ap (λ (l : List Thread). numbered l f.main) is.threads ∙ f.thread_is;
        state_is = ap (λ (l : List ThreadState). numbered l f.main) is.states ∙ f.state_is;
      },
      found,
    )
