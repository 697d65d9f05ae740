-- What each act comes to, case by case.
use Rattle.std.proofs.Common.{◌≡◌, ◌≢◌, inl, inr, ℕ, ◌+◌, ◌<◌, ◌≤◌, ◌==◌, Bool, true, false, not, List, [], ◌∷◌, ◌++◌, Option, None, Some, length, refl, ap, sym, ◌∙◌, cond, nat_le, arith}
use Rattle.std.specs.Option.{option_and_then}
use Rattle.std.specs.List.{list_any}
use Rattle.std.proofs.lemmas.Bool.{leb-true, leb-false, eqb-true, eqb-false}
use Rattle.jsh_tree.specs.declared.diagnostic.Diagnostic.{Diagnostic}
use Rattle.jsh_snippet.specs.declared.acts.Target.TheVariants as target
use Rattle.jsh_snippet.specs.declared.kinds.Fate.{Fate}
use Rattle.jsh_snippet.specs.declared.kinds.Fate.TheVariants as fate
use Rattle.jsh_snippet.specs.declared.records.Record.{Record}
use Rattle.jsh_snippet.specs.declared.replies.ReplyBody.TheVariants as body
use Rattle.jsh_snippet.specs.declared.replies.Collected.TheVariants as «collected»
use Rattle.jsh_snippet.specs.declared.replies.Outcome.TheVariants as outcome
use Rattle.jsh_snippet.specs.declared.replies.Refusal.TheVariants as refusal
use Rattle.jsh_snippet.specs.declared.replies.LimitKind.TheVariants as limit
use Rattle.jsh_sched.specs.ThreadState.{is_ready}
use Rattle.jsh_sum.specs.declared.sums.Sum.{Sum}
use Rattle.jsh_verdict.specs.declared.verdict.Verdict.{Verdict}
use Rattle.jsh_verdict.specs.declared.verdict.Verdict.TheVariants.{Accepted, Rejected}
use Rattle.jsh_verdict.specs.Verdict.{verdict}
use Rattle.jsh_core.specs.declared.generation.Live.{Live}
use Rattle.jsh_core.specs.declared.world.Run.{Run}
use Rattle.jsh_core.specs.State.{State, Acted, answers, numbered, refuses}
use Rattle.jsh_core.specs.Generations.{live_named}
use Rattle.jsh_core.specs.Snippets.{accepted_plan, judged_plan, published, published_below_limit, rejected_plan, submitted}
use Rattle.jsh_core.specs.Threads.{alive_count, is_thread_alive}
use Rattle.jsh_core.specs.Runs.{alive_threads, collect, collect_own, expire, expire_own, given_up, on_own_run, over, run_view, steps_so_far, stop, stop_found, stop_run, view_of}
use Rattle.jsh_core.specs.Drops.{drop_by_fate, drop_found, drop_id, drop_only, drop_snippet, taken_back}
use Rattle.jsh_core.specs.Clients.{enter}
use Rattle.jsh_core.specs.Causes.{IsDroppable, IsOwnRun}

-- a further client, below the limit
abbrev pub numbered_client : State → Acted
numbered_client s = record {
  state = record s { clients = s.clients ++ true ∷ []; world = record s.world { pending = s.world.pending ++ [] ∷ [] } };
  body = body.Entered (length s.clients);
}

pub data Enters (s : State) (acted : Acted) : Type 0 where
  full : 64 ≤ length s.clients → acted ≡ refuses s (refusal.Limit limit.Clients 64) → Enters s acted
  enters : length s.clients < 64 → acted ≡ numbered_client s → Enters s acted

pub view-enter : (s : State) → Enters s (enter s)
view-enter s = from (nat_le 64 (length s.clients)) refl
  where
    from : (many : Bool) → nat_le 64 (length s.clients) ≡ many → Enters s (cond many (refuses s (refusal.Limit limit.Clients 64)) (numbered_client s))
    from true e = full (leb-true 64 (length s.clients) e) refl
    from false e = enters (leb-false 64 (length s.clients) e) refl

-- a snippet that is handed in, by its verdict and the limits
pub data Submits (s : State) (client : ℕ) (source : List ℕ) (acted : Acted) : Type 0 where
  full : 16384 ≤ length s.book → acted ≡ refuses s (refusal.Limit limit.Records 16384) → Submits s client source acted
  rejected : (ds : List Diagnostic) → length s.book < 16384 → verdict source ≡ Rejected ds →
      acted ≡ published s client (rejected_plan (length s.book + 1) source ds) → Submits s client source acted
  crowded : (sum : Sum) → length s.book < 16384 → verdict source ≡ Accepted sum → 256 ≤ alive_count s.world →
      acted ≡ refuses s (refusal.Limit limit.Threads 256) → Submits s client source acted
  accepted : (sum : Sum) → length s.book < 16384 → verdict source ≡ Accepted sum → alive_count s.world < 256 →
      acted ≡ published s client (accepted_plan s.generation (length s.book + 1) source sum) → Submits s client source acted

pub view-submit : (s : State) (client : ℕ) (source : List ℕ) → Submits s client source (submitted s client source)
view-submit s client source = from (nat_le 16384 (length s.book)) refl
  where
    with_sum : (sum : Sum) → length s.book < 16384 → verdict source ≡ Accepted sum → (crowd : Bool) → nat_le 256 (alive_count s.world) ≡ crowd →
        Submits s client source (cond crowd (refuses s (refusal.Limit limit.Threads 256)) (published s client (accepted_plan s.generation (length s.book + 1) source sum)))
    with_sum sum few is true e = crowded sum few is (leb-true 256 (alive_count s.world) e) refl
    with_sum sum few is false e = accepted sum few is (leb-false 256 (alive_count s.world) e) refl

    judged : length s.book < 16384 → (found : Verdict) → verdict source ≡ found →
        Submits s client source (published_below_limit s client (judged_plan s.generation (length s.book + 1) source found))
    judged few (Rejected ds) is = rejected ds few is refl
    judged few (Accepted sum) is = with_sum sum few is (nat_le 256 (alive_count s.world)) refl

    from : (many : Bool) → nat_le 16384 (length s.book) ≡ many → Submits s client source (cond many (refuses s (refusal.Limit limit.Records 16384))
        (published_below_limit s client (judged_plan s.generation (length s.book + 1) source (verdict source))))
    from true e = full (leb-true 16384 (length s.book) e) refl
    from false e = judged (leb-false 16384 (length s.book) e) (verdict source) refl

-- the run with this number can't be asked for
pub run_view-of : (s : State) (number : ℕ) (found : Option Run) → numbered s.world.runs number ≡ found → run_view s number ≡ option_and_then (view_of s.world) found
run_view-of s number found is = ap (option_and_then (view_of s.world)) is

pub gone-unseen : (s : State) (number : ℕ) (run : Run) → numbered s.world.runs number ≡ Some run → run.gone ≡ true → run_view s number ≡ None
gone-unseen s number run found gone =
    run_view-of s number (Some run) found
    ∙ ap (λ b. cond b None (Some (record { owner = run.owner; main = run.main; over = not (is_thread_alive s.world run.main) }))) gone

-- an act on an own run
pub data OnOwnRun (s : State) (client number : ℕ) (act : Run → Acted) (acted : Acted) : Type 0 where
  absent : run_view s number ≡ None → acted ≡ refuses s (refusal.NoSuchRun number) → OnOwnRun s client number act acted
  foreign : (run : Run) → numbered s.world.runs number ≡ Some run → run.gone ≡ false → run.owner ≢ client →
      acted ≡ refuses s (refusal.NotOwner run.owner) → OnOwnRun s client number act acted
  owned : (run : Run) → IsOwnRun s client number run → acted ≡ act run → OnOwnRun s client number act acted

pub view-own_run : (s : State) (client number : ℕ) (act : Run → Acted) (found : Option Run) → numbered s.world.runs number ≡ found →
    OnOwnRun s client number act (on_own_run s client number found act)
view-own_run s client number act None is = absent (run_view-of s number None is) refl
view-own_run s client number act (Some run) is = from run.gone (run.owner == client) refl refl
  where
    from : (gone mine : Bool) → run.gone ≡ gone → (run.owner == client) ≡ mine →
        OnOwnRun s client number act (cond gone (refuses s (refusal.NoSuchRun number)) (cond mine (act run) (refuses s (refusal.NotOwner run.owner))))
    from true mine is_gone is_mine = absent (gone-unseen s number run is is_gone) refl
    from false true is_gone is_mine = owned run (record { found = is; there = is_gone; owner = eqb-true run.owner client is_mine }) refl
    from false false is_gone is_mine = foreign run is is_gone (eqb-false run.owner client is_mine) refl

pub data Collects (s : State) (client number : ℕ) (acted : Acted) : Type 0 where
  absent : run_view s number ≡ None → acted ≡ refuses s (refusal.NoSuchRun number) → Collects s client number acted
  foreign : (run : Run) → numbered s.world.runs number ≡ Some run → run.gone ≡ false → run.owner ≢ client →
      acted ≡ refuses s (refusal.NotOwner run.owner) → Collects s client number acted
  running : (run : Run) → IsOwnRun s client number run → is_thread_alive s.world run.main ≡ true → list_any is_ready s.world.states ≡ true →
      acted ≡ answers s (body.Collected («collected».Running (steps_so_far s.world run))) → Collects s client number acted
  stalled : (run : Run) → IsOwnRun s client number run → is_thread_alive s.world run.main ≡ true → list_any is_ready s.world.states ≡ false →
      acted ≡ given_up s number run (outcome.Stalled (alive_threads s.world.states)) → Collects s client number acted
  ended : (run : Run) → IsOwnRun s client number run → is_thread_alive s.world run.main ≡ false → acted ≡ over s number run → Collects s client number acted

pub view-collect : (s : State) (client number : ℕ) → Collects s client number (collect s client number)
view-collect s client number = from (view-own_run s client number (collect_own s number) (numbered s.world.runs number) refl)
  where
    on : (run : Run) → IsOwnRun s client number run → (acted : Acted) → acted ≡ collect_own s number run → Collects s client number acted
    on run mine acted is = by_life (is_thread_alive s.world run.main) (list_any is_ready s.world.states) refl refl is
      where
        by_life : (alive ready : Bool) → is_thread_alive s.world run.main ≡ alive → list_any is_ready s.world.states ≡ ready →
            acted ≡ cond alive (cond ready (answers s (body.Collected («collected».Running (steps_so_far s.world run)))) (given_up s number run (outcome.Stalled (alive_threads s.world.states)))) (over s number run) →
            Collects s client number acted
        by_life true true lives goes is = running run mine lives goes is
        by_life true false lives goes is = stalled run mine lives goes is
        by_life false ready lives goes is = ended run mine lives is

    from : OnOwnRun s client number (collect_own s number) (collect s client number) → Collects s client number (collect s client number)
    from (absent none is) = absent none is
    from (foreign run found there other is) = foreign run found there other is
    from (owned run mine is) = on run mine (collect s client number) is

pub data Expires (s : State) (client number steps : ℕ) (acted : Acted) : Type 0 where
  absent : run_view s number ≡ None → acted ≡ refuses s (refusal.NoSuchRun number) → Expires s client number steps acted
  foreign : (run : Run) → numbered s.world.runs number ≡ Some run → run.gone ≡ false → run.owner ≢ client →
      acted ≡ refuses s (refusal.NotOwner run.owner) → Expires s client number steps acted
  spent : (run : Run) → IsOwnRun s client number run → is_thread_alive s.world run.main ≡ true →
      acted ≡ given_up s number run (outcome.Spent steps) → Expires s client number steps acted
  ended : (run : Run) → IsOwnRun s client number run → is_thread_alive s.world run.main ≡ false → acted ≡ over s number run → Expires s client number steps acted

pub view-expire : (s : State) (client number steps : ℕ) → Expires s client number steps (expire s client number steps)
view-expire s client number steps = from (view-own_run s client number (expire_own s steps number) (numbered s.world.runs number) refl)
  where
    on : (run : Run) → IsOwnRun s client number run → (acted : Acted) → acted ≡ expire_own s steps number run → Expires s client number steps acted
    on run mine acted is = by_life (is_thread_alive s.world run.main) refl is
      where
        by_life : (alive : Bool) → is_thread_alive s.world run.main ≡ alive → acted ≡ cond alive (given_up s number run (outcome.Spent steps)) (over s number run) →
            Expires s client number steps acted
        by_life true lives is = spent run mine lives is
        by_life false lives is = ended run mine lives is

    from : OnOwnRun s client number (expire_own s steps number) (expire s client number steps) → Expires s client number steps (expire s client number steps)
    from (absent none is) = absent none is
    from (foreign run found there other is) = foreign run found there other is
    from (owned run mine is) = on run mine (expire s client number steps) is

-- a run that is stopped, or was over before
pub data Stops (s : State) (client number : ℕ) (acted : Acted) : Type 0 where
  absent : run_view s number ≡ None → acted ≡ refuses s (refusal.NoSuchRun number) → Stops s client number acted
  standing : (run : Run) → numbered s.world.runs number ≡ Some run → run.gone ≡ false →
      acted ≡ record { state = stop_run s client number run; body = body.StopDone number } → Stops s client number acted

pub view-stop : (s : State) (client number : ℕ) → Stops s client number (stop s client number)
view-stop s client number = from (numbered s.world.runs number) refl
  where
    from : (found : Option Run) → numbered s.world.runs number ≡ found → Stops s client number (stop_found s client number found)
    from None is = absent (run_view-of s number None is) refl
    from (Some run) is = by_gone run.gone refl
      where
        by_gone : (gone : Bool) → run.gone ≡ gone →
            Stops s client number (cond gone (refuses s (refusal.NoSuchRun number)) (record { state = stop_run s client number run; body = body.StopDone number }))
        by_gone true e = absent (gone-unseen s number run is e) refl
        by_gone false e = standing run is e refl

-- a snippet that is taken back by its number
pub data DropsId (s : State) (id : ℕ) (acted : Acted) : Type 0 where
  absent : numbered s.book id ≡ None → acted ≡ refuses s (refusal.NoSuchSnippet id (length s.book)) → DropsId s id acted
  idle : (r : Record) → numbered s.book id ≡ Some r → ¬ IsDroppable r.fate → acted ≡ refuses s (refusal.NotLive id r.fate) → DropsId s id acted
  drops : (r : Record) → numbered s.book id ≡ Some r → IsDroppable r.fate → acted ≡ taken_back s id r → DropsId s id acted

undroppable : (what : Fate) → what ≢ fate.Live → what ≢ fate.Done → ¬ IsDroppable what
undroppable what live done (inl is) = live is
undroppable what live done (inr is) = done is

pub view-drop_id : (s : State) (id : ℕ) → DropsId s id (drop_id s id)
view-drop_id s id = from (numbered s.book id) refl
  where
    by_fate : (r : Record) → numbered s.book id ≡ Some r → (what : Fate) → r.fate ≡ what → DropsId s id (drop_by_fate s id r what)
    by_fate r is fate.Live e = drops r is (inl e) refl
    by_fate r is fate.Done e = drops r is (inr e) refl
    by_fate r is fate.Overwritten e = idle r is (undroppable r.fate (λ l. (cc)) (λ d. (cc))) (ap (λ (f : Fate). refuses s (refusal.NotLive id f)) (sym e))
    by_fate r is fate.Dropped e = idle r is (undroppable r.fate (λ l. (cc)) (λ d. (cc))) (ap (λ (f : Fate). refuses s (refusal.NotLive id f)) (sym e))
    by_fate r is fate.Rejected e = idle r is (undroppable r.fate (λ l. (cc)) (λ d. (cc))) (ap (λ (f : Fate). refuses s (refusal.NotLive id f)) (sym e))

    from : (found : Option Record) → numbered s.book id ≡ found → DropsId s id (drop_found s id found)
    from None is = absent is refl
    from (Some r) is = by_fate r is r.fate refl

-- a snippet that is taken back by the name of what it declares
pub data DropsName (s : State) (name : List ℕ) (acted : Acted) : Type 0 where
  unclear : length (live_named name s.generation) ≢ 1 → acted ≡ refuses s (refusal.NoSuchName name (length (live_named name s.generation))) → DropsName s name acted
  only : (live : Live) → live_named name s.generation ≡ live ∷ [] → acted ≡ drop_id s live.id → DropsName s name acted

pub view-drop_name : (s : State) (name : List ℕ) → DropsName s name (drop_snippet s (target.Named name))
view-drop_name s name = from (live_named name s.generation) refl
  where
    from : (found : List Live) → live_named name s.generation ≡ found → DropsName s name (drop_only s name found)
    from [] is = unclear (λ one. let e : length (live_named name s.generation) ≡ 0 = ap length is in absurd (omega arith)) (ap (λ (l : List Live). refuses s (refusal.NoSuchName name (length l))) (sym is))
    from (live ∷ []) is = only live is refl
    from (live ∷ other ∷ more) is =
        unclear (λ one. let e : length (live_named name s.generation) ≡ length more + 2 = (ap length is ∙ omega arith) in absurd (omega arith)) (ap (λ (l : List Live). refuses s (refusal.NoSuchName name (length l))) (sym is))
