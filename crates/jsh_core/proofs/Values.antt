-- A run that was made for a sum gives the sum's value, unless a client stops it.
use Rattle.std.proofs.Common.{◌≡◌, ◌⊎◌, inl, inr, ℕ, true, false, List, [], ◌∷◌, Option, Some, refl, ap, sym, ◌∙◌}
use Rattle.std.specs.Fmt.{signed_decimal}
use Rattle.std.specs.Option.{option_and_then, option_map_or}
use Rattle.jsh_snippet.specs.declared.acts.Entry.{Entry}
use Rattle.jsh_snippet.specs.declared.replies.Outcome.TheVariants as outcome
use Rattle.jsh_sched.specs.declared.ThreadState.{ThreadState}
use Rattle.jsh_sched.specs.declared.ThreadState.TheVariants as thread_state
use Rattle.jsh_sched.specs.ThreadState.{is_alive}
use Rattle.jsh_sum.specs.Sum.{value_of}
use Rattle.jsh_core.specs.declared.world.Body.{Body}
use Rattle.jsh_core.specs.declared.world.Run.{Run}
use Rattle.jsh_core.specs.declared.world.Thread.{Thread}
use Rattle.jsh_core.specs.declared.world.ThreadEnd.TheVariants as thread_end
use Rattle.jsh_core.specs.State.{State, numbered}
use Rattle.jsh_core.specs.Snippets.{main_thread}
use Rattle.jsh_core.specs.Threads.{is_thread_alive}
use Rattle.jsh_core.specs.Runs.{end_of, outcome_of, outcome_with}
use Rattle.jsh_core.specs.Step.{step}
use Rattle.jsh_core.specs.Causes.{IsOwnRun}
use Rattle.jsh_core.specs.History.{state_after}
use Rattle.jsh_core.proofs.CauseLemmas.{HasEnded, has-ended}
use Rattle.jsh_core.proofs.CauseLemmas.HasEnded.{returns, stops}
use Rattle.jsh_core.proofs.Ended.{step-over}
use Rattle.jsh_core.proofs.Fresh.{IsFresh}
use Rattle.jsh_core.proofs.Reached.{IsReached}
use Rattle.jsh_core.proofs.Sums.{IsOnSum, sums-at}
use Rattle.jsh_core.proofs.Sums.IsOnSum.{answered, begun, returned, stopped}
use Rattle.jsh_core.proofs.ThreadLaws.{Evaluates, GoesOver}
use Rattle.jsh_core.proofs.ThreadLaws.Evaluates.{begins, gives, goes_on, halts}

-- the thread with this number evaluates this body
pub record IsEvaluating (s : State) (number : ℕ) (what : Body) : Type 0 where
  pub state : ThreadState
  pub thread : Thread
  pub state_is : numbered s.world.states number ≡ Some state
  pub thread_is : numbered s.world.threads number ≡ Some thread
  pub evaluates : Evaluates what state thread

-- a fresh run begins with its own
pub fresh-evaluating : (s : State) (client run : ℕ) (f : IsFresh s client run) → IsEvaluating s f.main f.what
fresh-evaluating s client run f = record {
  state = thread_state.Ready;
  thread = main_thread client f.what;
  state_is = f.state_is;
  thread_is = f.thread_is;
  evaluates = begins refl;
}

-- and never evaluates another, whatever is done
pub evaluating-stays : (s : State) (entry : Entry) (number : ℕ) (what : Body) → IsEvaluating s number what → IsEvaluating (step s entry).state number what
evaluating-stays s entry number what e =
    let g : GoesOver s.world (step s entry).state.world number e.state e.thread = step-over s entry number e.state e.thread e.state_is e.thread_is in
    record { state = g.state_after; thread = g.thread_after; state_is = g.state_is; thread_is = g.thread_is; evaluates = g.later.body what e.evaluates }

pub evaluating-after : (s : State) (entries : List Entry) (number : ℕ) (what : Body) → IsEvaluating s number what → IsEvaluating (state_after s entries) number what
evaluating-after s [] number what e = e
evaluating-after s (entry ∷ entries) number what e = evaluating-after (step s entry).state entries number what (evaluating-stays s entry number what e)

-- so an ended run has the value of its sum, or a client has stopped it
pub evaluated : (s : State) (owner number : ℕ) (run : Run) (what : Body) → IsReached s → IsOwnRun s owner number run → is_thread_alive s.world run.main ≡ false →
    IsEvaluating s run.main what →
    (outcome_of s.world run ≡ outcome.Value (signed_decimal (value_of what.sum))) ⊎ ((client : ℕ) × (run.stopper ≡ Some client))
evaluated s owner number run what r own dead e = from e.evaluates (has-ended s number run r own.found own.there dead)
  where
    end : end_of s.world run ≡ e.thread.end
    end = ap (option_and_then (λ (t : Thread). t.end)) e.thread_is

    lives : is_alive e.state ≡ false
    lives = sym (ap (λ (f : Option ThreadState). option_map_or is_alive f false) e.state_is) ∙ dead

    empty : e.thread.frames ≡ []
    empty = by_sum (sums-at s.world.states s.world.threads run.main e.state e.thread r.world.sums e.state_is e.thread_is)
      where
        by_sum : IsOnSum e.state e.thread → e.thread.frames ≡ []
        by_sum (begun body is steps frames none) = let both : true ≡ false = sym (ap is_alive is) ∙ lives in cc
        by_sum (answered body is steps frames none) = let both : true ≡ false = sym (ap is_alive is) ∙ lives in cc
        by_sum (returned text is steps frames how) = frames
        by_sum (stopped is steps frames how) = frames

    from : Evaluates what e.state e.thread → HasEnded s run →
        (outcome_of s.world run ≡ outcome.Value (signed_decimal (value_of what.sum))) ⊎ ((client : ℕ) × (run.stopper ≡ Some client))
    from (begins frames) how = let both = sym empty ∙ frames in (cc)
    from (goes_on frames) how = let both = sym empty ∙ frames in (cc)
    from (gives over how) ends = inl (ap (outcome_with run) (end ∙ how))
    from (halts over how) (returns text is) = let both : Some thread_end.Stopped ≡ Some (thread_end.Returned (Some text)) = sym how ∙ sym end ∙ is in cc
    from (halts over how) (stops client is stopper) = inr (client, stopper)
