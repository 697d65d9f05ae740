-- What an act comes to, put together from the clauses of its call.
use Rattle.std.proofs.Common.{◌≡◌, ℕ, zero, suc, ◌+◌, ◌≤◌, ◌<◌, List, true, Result, Ok, Err, IfOk, IfErr, OnErr, refl, ap, ◌∙◌, arith}
use Rattle.std.proofs.lemmas.Option.{slice_get_within}
use Rattle.jsh_text.specs.declared.memory.NoMemory.{NoMemory}
use Rattle.jsh_snippet.specs.declared.acts.Act.{Act}
use Rattle.jsh_snippet.specs.declared.acts.Act.TheVariants as act
use Rattle.jsh_snippet.specs.declared.acts.Entry.{Entry}
use Rattle.jsh_snippet.specs.declared.replies.ReplyBody.{ReplyBody}
use Rattle.jsh_snippet.specs.declared.replies.ReplyBody.TheVariants as body
use Rattle.jsh_core.specs.declared.parts.Parts.{Parts}
use Rattle.jsh_core.specs.declared.turns.CutShort.{CutShort}
use Rattle.jsh_core.specs.State.{Acted, World}
use Rattle.jsh_core.specs.Threads.{turn, turned, Turned}
use Rattle.jsh_core.specs.Parts.{state_from, IsSound, IsWithin}
use Rattle.jsh_core.specs.Acts.{at_once, entries_with, IsCut, IsDone, IsServed}
use Rattle.jsh_core.specs.Acts.IsCut.{nothing, some}
use Rattle.jsh_core.specs.Step.{act_step}
use Rattle.jsh_core.specs.History.{Allows, MayDo, state_of}
use Rattle.jsh_core.proofs.TurnLemmas.{turned-zero}

-- an act that may come after a history has what it needs
pub served-allowed : (history : List Entry) (client : ℕ) (what : Act) → Allows history (record { client = client; act = what }) → IsServed (state_of history) client what
served-allowed history client what allowed = from what allowed.may
  where
    from : (what : Act) → MayDo history client what → IsServed (state_of history) client what
    from act.Enter may = tt
    from (act.Submit source) may = may.1
    from (act.Turn thread steps) may = may.2
    from (act.Collect run) may = tt
    from (act.Expire run steps) may = tt
    from (act.Stop run) may = tt
    from (act.Drop target) may = tt
    from (act.Ask question) may = (may.0.1, may.1)
    from act.Reset may = tt
    from act.Leave may = slice_get_within (state_of history).clients client true allowed.present
    from act.Close may = tt

-- an act that is done whole or not at all
pub done-whole : (before after : Parts) (client : ℕ) (asked what : Act) (given : Result ReplyBody NoMemory) (result : Result ReplyBody CutShort) → asked ≡ what → result ≡ at_once given →
    IfOk given (λ answered. record { state = state_from after; body = answered } ≡ act_step (state_from before) client what) → IsSound after →
    ((entries : ℕ) → IsWithin entries before → IsWithin (entries_with entries what) after) →
    IfOk result (λ answered. IsDone before after client asked answered)
done-whole before after client asked what given result is once step sound within = rw (once, is) (from given step)
  where
    from : (given : Result ReplyBody NoMemory) → IfOk given (λ answered. record { state = state_from after; body = answered } ≡ act_step (state_from before) client what) →
        IfOk (at_once given) (λ answered. IsDone before after client what answered)
    from (Ok answered) step = record { step = step; sound = sound; within = within }
    from (Err why) step = tt

-- want of memory in an act that is done whole or not at all
pub cut-whole : (before after : Parts) (client : ℕ) (asked : Act) (given : Result ReplyBody NoMemory) (result : Result ReplyBody CutShort) → result ≡ at_once given →
    OnErr given (state_from after ≡ state_from before) → IsSound after → IfErr result (λ cut. IsCut before after client asked cut.done)
cut-whole before after client asked given result once same sound = rw once (from given same)
  where
    from : (given : Result ReplyBody NoMemory) → OnErr given (state_from after ≡ state_from before) → IfErr (at_once given) (λ cut. IsCut before after client asked cut.done)
    from (Ok answered) same = tt
    from (Err why) same = nothing refl same sound

-- an act that takes no memory
pub done-now : (before after : Parts) (client : ℕ) (asked what : Act) (answered : ReplyBody) → asked ≡ what →
    record { state = state_from after; body = answered } ≡ act_step (state_from before) client what → IsSound after →
    ((entries : ℕ) → IsWithin entries before → IsWithin (entries_with entries what) after) → IsDone before after client asked answered
done-now before after client asked what answered is step sound within = rw is (record { step = step; sound = sound; within = within })

-- a turn that has done all that it could
pub done-turn : (before after : Parts) (client thread most : ℕ) (asked : Act) (result : Result ReplyBody CutShort) → asked ≡ act.Turn thread most →
    IfOk result (λ answered. record { state = state_from after; body = answered } ≡ turn (state_from before) thread most) → IsSound after →
    ((entries : ℕ) → IsWithin entries before → IsWithin (entries + 1) after) →
    IfOk result (λ answered. IsDone before after client asked answered)
done-turn before after client thread most asked (Ok answered) is step sound within = rw is (record { step = step; sound = sound; within = within })
done-turn before after client thread most asked (Err cut) is step sound within = tt

-- a turn that was cut short
pub cut-turn : (before after : Parts) (client thread most : ℕ) (asked : Act) (result : Result ReplyBody CutShort) → asked ≡ act.Turn thread most →
    IfErr result (λ cut. record { state = state_from after; body = body.Turned cut.done } ≡ turn (state_from before) thread cut.done) →
    IfErr result (λ cut. cut.done < most) → IsSound after →
    ((entries : ℕ) → IsWithin entries before → IsWithin (entries + 1) after) →
    IfErr result (λ cut. IsCut before after client asked cut.done)
cut-turn before after client thread most asked (Ok answered) is step short sound within = tt
cut-turn before after client thread most asked (Err cut) is step short sound within = from cut.done step short
  where
    from : (done : ℕ) → record { state = state_from after; body = body.Turned done } ≡ turn (state_from before) thread done → done < most →
        IsCut before after client asked done
    from zero step short =
        let world : (turned thread 0 (state_from before).world).world ≡ (state_from before).world =
        ap (λ (t : Turned). t.world) (turned-zero thread (state_from before).world) in
        nothing refl (ap (λ (a : Acted). a.state) step ∙ ap (λ (w : World). record (state_from before) { world = w }) world) sound
    from (suc done) step short = some thread most is (omega arith) short (record { step = step; sound = sound; within = within })
