-- The turns of an evaluation, and its end.
use Rattle.std.proofs.Common.{◌≡◌, ◌≢◌, ℕ, ◌+◌, ◌<◌, ◌≤◌, ◌==◌, Bool, true, false, List, [], ◌∷◌, ◌++◌, Option, None, Some, length, refl, ap, sym, subst, ◌∙◌, arith, inl, inr, ◌⊎◌}
use Rattle.std.specs.Prelude.{if◌then◌else◌, not}
use Rattle.std.proofs.lemmas.Bool.{ne_eqb}
use Rattle.jsh_snippet.specs.declared.acts.Act.{Act}
use Rattle.jsh_snippet.specs.declared.acts.Act.TheVariants as act
use Rattle.jsh_snippet.specs.declared.acts.Entry.{Entry}
use Rattle.jsh_snippet.specs.declared.replies.Reply.{Reply}
use Rattle.jsh_snippet.specs.declared.replies.ReplyBody.{ReplyBody}
use Rattle.jsh_snippet.specs.declared.replies.ReplyBody.TheVariants as body
use Rattle.jsh_snippet.specs.declared.replies.Collected.TheVariants as «collected»
use Rattle.jsh_sched.specs.Pick.{picked}
use Rattle.jsh_cut.specs.declared.command.Command.{Command}
use Rattle.jsh_core.specs.declared.world.RunView.{RunView}
use Rattle.jsh_core.specs.Acts.{is_last}
use Rattle.jsh_core.specs.Limits.{most_entries, most_steps}
use Rattle.jsh_core.specs.State.{State, Stepped}
use Rattle.jsh_core.specs.Runs.{run_view}
use Rattle.jsh_core.specs.Threads.{can_go_on}
use Rattle.jsh_core.specs.Step.{step, kept, kept_act, done_steps}
use Rattle.jsh_core.specs.History.{state_of, MayDo}
use Rattle.jsh_core.specs.Stands.{IsCutShort}
use Rattle.jsh_shell.specs.declared.halts.Halt.{Halt}
use Rattle.jsh_shell.specs.declared.halts.Halt.TheVariants as halt
use Rattle.jsh_shell.specs.declared.session.Session.{Session}
use Rattle.jsh_shell.specs.declared.driving.Driven.{Driven}
use Rattle.jsh_shell.specs.declared.driving.Driven.TheVariants as driven
use Rattle.jsh_shell.specs.declared.driving.NextTurn.{NextTurn}
use Rattle.jsh_shell.specs.Progress.{Phase, Progress, Goes, GoesOn, IsTurn, IsWholeTurn, IsCutTurn, behind_collect, behind_end, behind_turn, is_limit, is_running, next_thread, turn_steps}
use Rattle.jsh_shell.specs.Progress.Phase.{Between, Evaluating, CutShort}
use Rattle.jsh_shell.specs.Transcript.{is_turn}
use Rattle.jsh_shell.specs.Driving.{HasTurn, done_of, last_act}
use Rattle.jsh_shell.specs.Serving.{Drives, DrivesPart, DrivesTo, Fails, GoesOnNoMore, Halts, IsOpen, Serves, ServesPart, Shows, Stands}
use Rattle.jsh_core.proofs.Collecting.{GoesOnBecause, collect-running}
use Rattle.jsh_core.proofs.Picking.{picked-none, picked-ready}
use Rattle.jsh_core.proofs.Steps.{step-kept}
use Rattle.jsh_core.proofs.TurnLaws.{GoesSome, turn-some}
use Rattle.jsh_shell.proofs.Walk.{advances-act, advances-one, append_known-nothing, goes-on, halts-act, halts-here, halts-one, open-push, transcript-turn}
use Rattle.jsh_shell.proofs.ActLemmas.{by, with_core}
use Rattle.jsh_shell.proofs.ServeLemmas.{part-when-full, serves-append, serves-part-append}

-- ---- whose turn it is

-- a thread whose turn it is can go on
pub next-ready : (s : State) (last_turn cursor : ℕ) (view : RunView) (thread : ℕ) → next_thread s last_turn cursor view ≡ Some thread → can_go_on s.world thread ≡ true
next-ready s last_turn cursor view thread is = from view.over is
  where
    from : (over : Bool) → (if over then None else picked s.world.states cursor (Some view.main) (not (last_turn == view.main))) ≡ Some thread → can_go_on s.world thread ≡ true
    from true e = cc
    from false e = picked-ready s cursor (Some view.main) (not (last_turn == view.main)) thread e

-- a run is answered to go on only where it is someone's turn
running-because : (s : State) (client run : ℕ) → is_running (step s (by client (act.Collect run))).reply.body ≡ true → GoesOnBecause s client run
running-because s client run is = from (step s (by client (act.Collect run))).reply.body refl is
  where
    from : (answered : ReplyBody) → (step s (by client (act.Collect run))).reply.body ≡ answered → is_running answered ≡ true → GoesOnBecause s client run
    from (body.Collected («collected».Running steps)) e is = collect-running s client run steps e
    from _ e is = cc

no-more : (s : State) (client run : ℕ) → (GoesOnBecause s client run → ⊥) → is_running (step s (by client (act.Collect run))).reply.body ≡ false
no-more s client run never = from (is_running (step s (by client (act.Collect run))).reply.body) refl
  where
    from : (is : Bool) → is_running (step s (by client (act.Collect run))).reply.body ≡ is → is_running (step s (by client (act.Collect run))).reply.body ≡ false
    from true e = absurd (never (running-because s client run e))
    from false e = e

pub no-more-gone : (history : List Entry) (client run : ℕ) → run_view (state_of history) run ≡ None → GoesOnNoMore history client run
no-more-gone history client run gone = no-more (state_of history) client run (λ because. let both : None ≡ Some because.view = sym gone ∙ because.found in cc)

pub no-more-over : (history : List Entry) (client run : ℕ) (view : RunView) → run_view (state_of history) run ≡ Some view → view.over ≡ true → GoesOnNoMore history client run
no-more-over history client run view found over = no-more (state_of history) client run (λ because. not_both because)
  where
    not_both : GoesOnBecause (state_of history) client run → ⊥
    not_both because =
        let views : Some view ≡ Some because.view = sym found ∙ because.found in
        let same : view ≡ because.view = cc in
        let both : true ≡ false = sym over ∙ ap (λ (v : RunView). v.over) same ∙ because.over in
        cc

pub no-more-idle : (history : List Entry) (client run cursor : ℕ) (main : Option ℕ) (first : Bool) → picked (state_of history).world.states cursor main first ≡ None → GoesOnNoMore history client run
no-more-idle history client run cursor main first none = no-more (state_of history) client run (λ because. not_both because)
  where
    not_both : GoesOnBecause (state_of history) client run → ⊥
    not_both because = let both : true ≡ false = sym because.ready ∙ (picked-none (state_of history).world.states cursor main first).0 none in cc

-- ---- one turn

-- the session behind a turn
abbrev pub behind_next_turn : Session → List Entry → NextTurn → Session
behind_next_turn session core turn = record {
  core = core;
  last_turn = turn.thread;
  cursor = if turn.thread == turn.main then session.cursor else turn.thread;
}

pub turn-some-steps : (budget used : ℕ) → used < budget → 0 < turn_steps budget used
turn-some-steps budget used below = omega arith

-- a turn that has done some steps is kept with these
kept-some : (client thread asked done : ℕ) (reply : Reply) → reply.body ≡ body.Turned done → 0 < done →
    kept (by client (act.Turn thread asked)) reply ≡ by client (act.Turn thread done)
kept-some client thread asked done reply is some = ap (λ (n : ℕ). by client (act.Turn thread n)) (ap (done_steps asked) is ∙ nonzero done some)
  where
    nonzero : (n : ℕ) → 0 < n → (if n == 0 then asked else n) ≡ n
    nonzero n some = let other : n ≢ 0 = omega arith in rw (ne_eqb n 0 other) refl

-- the turn as it is kept does the same
record DoesSome (s : State) (client thread asked : ℕ) : Type 0 where
  done : ℕ
  reply : (step s (by client (act.Turn thread asked))).reply.body ≡ body.Turned done
  kept_reply : (step s (by client (act.Turn thread done))).reply.body ≡ body.Turned done
  some : 0 < done
  most : done ≤ asked
  stops : done < asked → can_go_on (step s (by client (act.Turn thread done))).state.world thread ≡ false

does-some : (s : State) (client thread asked : ℕ) → can_go_on s.world thread ≡ true → 0 < asked → DoesSome s client thread asked
does-some s client thread asked ready some =
    let g : GoesSome s client thread asked = turn-some s client thread asked ready some in
    let entry : kept (by client (act.Turn thread asked)) (step s (by client (act.Turn thread asked))).reply ≡ by client (act.Turn thread g.done)
    = kept-some client thread asked g.done (step s (by client (act.Turn thread asked))).reply g.reply g.some in
    let same : step s (by client (act.Turn thread g.done)) ≡ step s (by client (act.Turn thread asked))
    = ap (step s) (sym entry) ∙ step-kept s (by client (act.Turn thread asked)) in record {
      done = g.done;
      reply = g.reply;
      kept_reply = ap (λ (t : Stepped). t.reply.body) same ∙ g.reply;
      some = g.some;
      most = g.most;
      stops = λ less. ap (λ (t : Stepped). can_go_on t.state.world thread) same ∙ g.stops less;
    }

-- the state behind a turn of so many steps, and the reply to it
abbrev pub turned_by : Session → ℕ → ℕ → ℕ → Stepped
turned_by session client thread steps = step (state_of session.core) (by client (act.Turn thread steps))

-- the progress behind it
abbrev pub turn_makes : Session → ℕ → ℕ → ℕ → ℕ → Progress → Phase → Progress
turn_makes session client thread steps main p phase = behind_turn p (turned_by session client thread steps).state main thread phase

-- an own turn, which the progress allows
goes-turn : (budget client run used steps : ℕ) (session : Session) (more : List Command) (p : Progress) (phase : Phase) (turn : NextTurn) → (has : HasTurn session run turn) → Stands (Evaluating run used) session more p →
    0 < steps → (turned_by session client turn.thread steps).reply.body ≡ body.Turned steps →
    IsWholeTurn budget run used has.view.main turn.thread steps (turned_by session client turn.thread steps).state p (turn_makes session client turn.thread steps has.view.main p phase)
    ⊎ IsCutTurn budget used has.view.main turn.thread steps (turned_by session client turn.thread steps).state p (turn_makes session client turn.thread steps has.view.main p phase) →
    Goes budget client (state_of session.core) p (by client (act.Turn turn.thread steps)) (turn_makes session client turn.thread steps has.view.main p phase)
goes-turn budget client run used steps session more p phase turn has st some counted how =
    goes-on budget client (state_of session.core) p (turn_makes session client turn.thread steps has.view.main p phase) (act.Turn turn.thread steps) refl st.has_left
    (subst (λ (at : Phase). GoesOn budget (state_of session.core) p at (act.Turn turn.thread steps) (turned_by session client turn.thread steps).state (turned_by session client turn.thread steps).reply.body (turn_makes session client turn.thread steps has.view.main p phase))
    (sym st.phase) is)
  where
    is : IsTurn budget run used turn.thread steps (state_of session.core) (turned_by session client turn.thread steps).state (turned_by session client turn.thread steps).reply.body p (turn_makes session client turn.thread steps has.view.main p phase)
    is = record {
      view = has.view;
      found = has.found;
      picked = rw (st.last_turn, st.cursor) has.picked;
      some = some;
      counted = counted;
      how = how;
    }

-- the cursor behind a turn
same-cursor : (thread main other before after : ℕ) → main ≡ other → before ≡ after →
    (if thread == main then before else thread) ≡ (if thread == other then after else thread)
same-cursor thread main other before after mains cursors = rw (mains, cursors) refl

turn-ready : (session : Session) (run : ℕ) (turn : NextTurn) → HasTurn session run turn → can_go_on (state_of session.core).world turn.thread ≡ true
turn-ready session run turn has = next-ready (state_of session.core) session.last_turn session.cursor has.view turn.thread has.picked

-- a turn was taken
pub drives-turn : (budget client run used asked : ℕ) (session : Session) (core : List Entry) (turn : NextTurn) (reply : Reply) → HasTurn session run turn → used < budget → asked ≡ turn_steps budget used →
    reply ≡ (turned_by session client turn.thread asked).reply → core ≡ session.core ++ kept (by client (act.Turn turn.thread asked)) reply ∷ [] →
    Drives budget client run used (used + done_of reply.body) session (behind_next_turn session core turn)
drives-turn budget client run used asked session core turn reply has below all is grows held =
    subst (λ (n : ℕ). Serves budget client (Evaluating run used) (Evaluating run (used + n)) session (behind_next_turn session core turn) held held []) (sym (ap done_of body_is)) (record {
      each = λ p more st. (
        turn_makes session client turn.thread does.done has.view.main p (Evaluating run (used + does.done)),
        advances-one budget client session.core core held held p _ (act.Turn turn.thread does.done) [] longer
            (goes-turn budget client run used does.done session more p (Evaluating run (used + does.done)) turn has st does.some does.kept_reply
            (inl (record { most = few; fewer = λ less. does.stops (fewer less); behind = refl })))
            (transcript-turn client (state_of session.core) turn.thread does.done) (sym (append_known-nothing held)),
        record {
          phase = refl;
          left = st.left;
          limited = refl;
          has_left = st.has_left;
          last_turn = refl;
          cursor = same-cursor turn.thread has.view.main turn.main p.cursor session.cursor has.main st.cursor;
        },
      );
    })
  where
    does : DoesSome (state_of session.core) client turn.thread asked
    does = does-some (state_of session.core) client turn.thread asked (turn-ready session run turn has) (subst (λ (n : ℕ). 0 < n) (sym all) (turn-some-steps budget used below))

    body_is : reply.body ≡ body.Turned does.done
    body_is = ap (λ (r : Reply). r.body) is ∙ does.reply

    longer : core ≡ session.core ++ by client (act.Turn turn.thread does.done) ∷ []
    longer = grows ∙ ap (λ (e : Entry). session.core ++ e ∷ []) (kept-some client turn.thread asked does.done reply body_is does.some)

    few : does.done ≤ turn_steps budget used
    few = subst (λ (n : ℕ). does.done ≤ n) all does.most

    fewer : does.done < turn_steps budget used → does.done < asked
    fewer less = subst (λ (n : ℕ). does.done < n) (sym all) less

-- its steps are within the budget
pub drives-within : (budget client run used asked : ℕ) (session : Session) (turn : NextTurn) (reply : Reply) → HasTurn session run turn → used < budget → asked ≡ turn_steps budget used →
    reply ≡ (turned_by session client turn.thread asked).reply → (used < used + done_of reply.body) × (used + done_of reply.body ≤ budget)
drives-within budget client run used asked session turn reply has below all is =
    let does : DoesSome (state_of session.core) client turn.thread asked
    = does-some (state_of session.core) client turn.thread asked (turn-ready session run turn has) (subst (λ (n : ℕ). 0 < n) (sym all) (turn-some-steps budget used below)) in
    let done : done_of reply.body ≡ does.done = ap (λ (r : Reply). done_of r.body) is ∙ ap done_of does.reply in
    let most : does.done ≤ asked = does.most in
    let some : 0 < does.done = does.some in
    (omega (arith, done, some), omega (arith, done, most, all, below))

-- a turn was not taken for want of memory, or was cut short
pub drives-part : (budget client run used asked : ℕ) (session : Session) (core : List Entry) (turn : NextTurn) → HasTurn session run turn → asked ≡ turn_steps budget used →
    IsCutShort session.core (by client (act.Turn turn.thread asked)) core → DrivesPart halt.NoMemory budget client run used session (with_core session core)
drives-part budget client run used asked session core turn has all (inl same) held = record {
  each = λ p more st. (
    p,
    subst (λ (h : List Entry). Halts halt.NoMemory budget client session.core h held held p p) (sym same)
        (halts-here halt.NoMemory budget client session.core held p (λ e. cc) (λ e. refl) st.has_left),
  );
}
drives-part budget client run used asked session core turn has all (inr cut) held = record {
  each = λ p more st. (
    turn_makes session client turn.thread cut.done has.view.main p CutShort,
    halts-one halt.NoMemory budget client session.core core held held p _ (act.Turn turn.thread cut.done) [] 0 cut.longer
        (goes-turn budget client run used cut.done session more p CutShort turn has st cut.some cut.reply
        (inr (record { fewer = subst (λ (n : ℕ). cut.done < n) all cut.fewer; behind = refl })))
        (transcript-turn client (state_of session.core) turn.thread cut.done) (sym (append_known-nothing held))
        (λ e. omega arith) (λ e. cc) (λ e. refl) st.has_left,
  );
}

-- the client may go on behind a turn that was not done, was cut short, or was done
pub open-turn-part : (client thread asked : ℕ) (history after : List Entry) → IsOpen client history → IsCutShort history (by client (act.Turn thread asked)) after → IsOpen client after
open-turn-part client thread asked history after o (inl same) = subst (λ (h : List Entry). IsOpen client h) (sym same) o
open-turn-part client thread asked history after o (inr cut) = open-push client history after (by client (act.Turn thread cut.done)) o refl cut.longer

pub open-turn-kept : (client thread asked : ℕ) (history after : List Entry) (reply : Reply) → IsOpen client history →
    after ≡ history ++ kept (by client (act.Turn thread asked)) reply ∷ [] → IsOpen client after
open-turn-kept client thread asked history after reply o grows = open-push client history after (by client (act.Turn thread (done_steps asked reply.body))) o refl grows

-- ---- the end of an evaluation

pub last-may : (history : List Entry) (client run budget : ℕ) (how : Driven) → length history < most_entries → MayDo history client (last_act how run budget)
last-may history client run budget driven.Still room = room
last-may history client run budget driven.Spent room = room

pub last-quiet : (run budget : ℕ) (how : Driven) → is_turn (last_act how run budget) ≡ false
last-quiet run budget driven.Still = refl
last-quiet run budget driven.Spent = refl

pub last-stays : (run budget : ℕ) (how : Driven) → is_last (last_act how run budget) ≡ false
last-stays run budget driven.Still = refl
last-stays run budget driven.Spent = refl

-- the progress behind the end
abbrev pub end_makes : Session → ℕ → Act → Progress → Progress
end_makes session client what p = behind_end p (step (state_of session.core) (by client what)).state (step (state_of session.core) (by client what)).reply.body

-- a run that goes on no more is asked for, below the budget
goes-collect : (budget client run used : ℕ) (session : Session) (more : List Command) (p : Progress) → Stands (Evaluating run used) session more p → used < budget → GoesOnNoMore session.core client run →
    Goes budget client (state_of session.core) p (by client (act.Collect run)) (end_makes session client (act.Collect run) p)
goes-collect budget client run used session more p st below still =
    goes-on budget client (state_of session.core) p (end_makes session client (act.Collect run) p) (act.Collect run) refl st.has_left
    (rw st.phase (record { own = refl; below = below; running = λ e. absurd (not_both e); behind = rw still refl }))
  where
    not_both : is_running (step (state_of session.core) (by client (act.Collect run))).reply.body ≡ true → ⊥
    not_both e = let both : true ≡ false = sym e ∙ still in cc

-- a run that has used the budget is given up
goes-expire : (budget client run : ℕ) (session : Session) (more : List Command) (p : Progress) → Stands (Evaluating run budget) session more p →
    Goes budget client (state_of session.core) p (by client (act.Expire run budget)) (end_makes session client (act.Expire run budget) p)
goes-expire budget client run session more p st =
    goes-on budget client (state_of session.core) p (end_makes session client (act.Expire run budget) p) (act.Expire run budget) refl st.has_left
    (rw st.phase (record { own = refl; carried = refl; whole = refl; behind = refl }))

-- an evaluation has come to this end
record CanEnd (how : Driven) (budget client run used : ℕ) (session : Session) : Type 0 where
  goes : (more : List Command) (p : Progress) → Stands (Evaluating run used) session more p →
      Goes budget client (state_of session.core) p (by client (last_act how run budget)) (end_makes session client (last_act how run budget) p)

-- so that its last act ends it
ends : (how : Driven) (budget client run used : ℕ) (session : Session) (core : List Entry) (held now : Option (List ℕ)) (reply : Reply) → CanEnd how budget client run used session →
    Shows session.core core (by client (last_act how run budget)) reply held now → is_limit reply.body ≡ false →
    Serves budget client (Evaluating run used) Between session (with_core session core) held now []
ends how budget client run used session core held now reply can shows free = record {
  each = λ p more st. (
    end_makes session client (last_act how run budget) p,
    advances-act budget client session.core core held now (last_act how run budget) reply p _ shows (last-quiet run budget how) (can.goes more p st),
    record {
      phase = refl;
      left = st.left;
      limited = ap (λ (r : Reply). is_limit r.body) (sym shows.reply) ∙ free;
      has_left = st.has_left;
      last_turn = st.last_turn;
      cursor = st.cursor;
    },
  );
}

ends-fails : (why : Halt) (how : Driven) (budget client run used : ℕ) (session : Session) (core : List Entry) (held now : Option (List ℕ)) → CanEnd how budget client run used session →
    Fails why session.core core (by client (last_act how run budget)) held now → ServesPart why budget client (Evaluating run used) session (with_core session core) held now []
ends-fails why how budget client run used session core held now can fails = record {
  each = λ p more st. halts-act why budget client session.core core held now (last_act how run budget) p (end_makes session client (last_act how run budget) p) fails (last-quiet run budget how)
      (can.goes more p st) refl (λ e. not_cut e) st.has_left st.has_left;
}
  where
    not_cut : Between ≡ CutShort → ⊥
    not_cut e = cc

-- the whole evaluation
pub evaluated : (how : Driven) (budget client run : ℕ) (a b : Session) (core : List Entry) (held now : Option (List ℕ)) (reply : Reply) → DrivesTo how budget client run a b →
    Shows b.core core (by client (last_act how run budget)) reply held now → is_limit reply.body ≡ false →
    Serves budget client (Evaluating run 0) Between a (with_core b core) held now []
evaluated driven.Still budget client run a b core held now reply drives shows free =
    serves-append budget client (Evaluating run 0) (Evaluating run drives.0) Between a b (with_core b core) held held now [] [] (drives.3 held)
    (ends driven.Still budget client run drives.0 b core held now reply (record { goes = λ more p st. goes-collect budget client run drives.0 b more p st drives.1 drives.2 }) shows free)
evaluated driven.Spent budget client run a b core held now reply drives shows free =
    serves-append budget client (Evaluating run 0) (Evaluating run budget) Between a b (with_core b core) held held now [] [] (drives held)
    (ends driven.Spent budget client run budget b core held now reply (record { goes = λ more p st. goes-expire budget client run b more p st }) shows free)

pub evaluated-fails : (why : Halt) (how : Driven) (budget client run : ℕ) (a b : Session) (core : List Entry) (held now : Option (List ℕ)) → DrivesTo how budget client run a b →
    Fails why b.core core (by client (last_act how run budget)) held now → ServesPart why budget client (Evaluating run 0) a (with_core b core) held now []
evaluated-fails why driven.Still budget client run a b core held now drives fails =
    serves-part-append why budget client (Evaluating run 0) (Evaluating run drives.0) a b (with_core b core) held held now [] [] (drives.3 held)
    (ends-fails why driven.Still budget client run drives.0 b core held now (record { goes = λ more p st. goes-collect budget client run drives.0 b more p st drives.1 drives.2 }) fails)
evaluated-fails why driven.Spent budget client run a b core held now drives fails =
    serves-part-append why budget client (Evaluating run 0) (Evaluating run budget) a b (with_core b core) held held now [] [] (drives held)
    (ends-fails why driven.Spent budget client run budget b core held now (record { goes = λ more p st. goes-expire budget client run b more p st }) fails)

-- the history was full before its last act
pub evaluated-full : (how : Driven) (budget client run : ℕ) (a b : Session) (held : Option (List ℕ)) → DrivesTo how budget client run a b → most_entries ≤ length b.core →
    ServesPart halt.Limit budget client (Evaluating run 0) a b held held []
evaluated-full driven.Still budget client run a b held drives full =
    serves-part-append halt.Limit budget client (Evaluating run 0) (Evaluating run drives.0) a b b held held held [] [] (drives.3 held) (part-when-full budget client run drives.0 b held full)
evaluated-full driven.Spent budget client run a b held drives full =
    serves-part-append halt.Limit budget client (Evaluating run 0) (Evaluating run budget) a b b held held held [] [] (drives held) (part-when-full budget client run budget b held full)
