-- An entry as it is kept does the same, and what stands for the history then stands for the longer one.
use Rattle.std.proofs.Common.{◌≡◌, ℕ, ◌+◌, ◌<◌, ◌≤◌, ◌==◌, Bool, true, false, List, [], zero, suc, refl, ap, sym, subst, ◌∙◌, arith, length, vec_capacity}
use Rattle.std.specs.Prelude.{if◌then◌else◌}
use Rattle.std.proofs.Math.Nat.{le_refl}
use Rattle.jsh_snippet.specs.declared.acts.Act.{Act}
use Rattle.jsh_snippet.specs.declared.acts.Act.TheVariants as act
use Rattle.jsh_snippet.specs.declared.acts.Entry.{Entry}
use Rattle.jsh_snippet.specs.declared.replies.Reply.{Reply}
use Rattle.jsh_snippet.specs.declared.replies.ReplyBody.{ReplyBody}
use Rattle.jsh_snippet.specs.declared.replies.ReplyBody.TheVariants as body
use Rattle.jsh_core.specs.declared.log.Log.{Log}
use Rattle.jsh_core.specs.declared.parts.Parts.{Parts}
use Rattle.jsh_core.specs.State.{State}
use Rattle.jsh_core.specs.Threads.{turned}
use Rattle.jsh_core.specs.Parts.{state_from}
use Rattle.jsh_core.specs.Acts.{is_last, IsCut}
use Rattle.jsh_core.specs.Acts.IsCut.{nothing, some}
use Rattle.jsh_core.specs.Step.{act_step, act_with_steps, delivered, kept, kept_act}
use Rattle.jsh_core.specs.History.{Allows}
use Rattle.jsh_core.specs.Stands.{StandsFor, entry_room}
use Rattle.jsh_core.proofs.DeliveryLemmas.{IsReplied, replied-body, replied-done}
use Rattle.jsh_core.proofs.TurnLemmas.{turned-at_most}
use Rattle.jsh_core.proofs.StandsLemmas.{IsLonger, StandsFor-next, StandsFor-same, Allows-fewer}
use Rattle.jsh_core.proofs.Steps.{act-kept}

-- it is one of the last as it was
alike : (what : Act) (reply : ReplyBody) → is_last (kept_act what reply) ≡ is_last what
alike (act.Turn thread asked) reply = refl
alike act.Enter reply = refl
alike (act.Submit source) reply = refl
alike (act.Collect run) reply = refl
alike (act.Expire run steps) reply = refl
alike (act.Stop run) reply = refl
alike (act.Drop target) reply = refl
alike (act.Ask question) reply = refl
alike act.Reset reply = refl
alike act.Leave reply = refl
alike act.Close reply = refl

-- a turn is kept with at least a step, and no more than were asked for
kept_within : (asked done : ℕ) → 1 ≤ asked → done ≤ asked → (1 ≤ (if done == 0 then asked else done)) × ((if done == 0 then asked else done) ≤ asked)
kept_within asked done least within = from (done == 0) refl
  where
    nonzero : (n : ℕ) → (n == 0) ≡ false → 1 ≤ n
    nonzero zero e = cc
    nonzero (suc n) e = omega arith

    from : (none : Bool) → (done == 0) ≡ none → (1 ≤ (if none then asked else done)) × ((if none then asked else done) ≤ asked)
    from true e = (least, le_refl asked)
    from false e = (nonzero done e, within)

-- it is allowed as it was
allows-kept : (history : List Entry) (s : State) (client : ℕ) (what : Act) → Allows history (record { client = client; act = what }) →
    Allows history (record { client = client; act = kept_act what (act_step s client what).body })
allows-kept history s client (act.Turn thread asked) allowed =
    let done : ℕ = (turned thread asked s.world).steps in
    let within : (1 ≤ (if done == 0 then asked else done)) × ((if done == 0 then asked else done) ≤ asked) =
    kept_within asked done allowed.may.1 (turned-at_most thread asked s.world) in
    Allows-fewer history client thread asked (if done == 0 then asked else done) allowed within.0 within.1
allows-kept history s client act.Enter allowed = allowed
allows-kept history s client (act.Submit source) allowed = allowed
allows-kept history s client (act.Collect run) allowed = allowed
allows-kept history s client (act.Expire run steps) allowed = allowed
allows-kept history s client (act.Stop run) allowed = allowed
allows-kept history s client (act.Drop target) allowed = allowed
allows-kept history s client (act.Ask question) allowed = allowed
allows-kept history s client act.Reset allowed = allowed
allows-kept history s client act.Leave allowed = allowed
allows-kept history s client act.Close allowed = allowed

-- the log with room for one entry more
pub record IsRoomy (log roomy : Log) (what : Act) : Type 0 where
  pub items : roomy.history.items ≡ log.history.items
  pub bytes : roomy.bytes ≡ log.bytes
  pub closed : roomy.closed ≡ log.closed
  pub capacity : vec_capacity log.history ≤ vec_capacity roomy.history
  pub room : is_last what ≡ false → length log.history.items + entry_room ≤ vec_capacity roomy.history

-- an entry that was done and is kept
pub StandsFor-kept : (log roomy longer : Log) (entry : Entry) (parts after : Parts) (reply : Reply) → StandsFor log parts → Allows log.history.items entry →
    IsRoomy log roomy entry.act → IsLonger roomy longer (kept entry reply) → IsReplied parts after entry.client entry.act reply → StandsFor longer after
StandsFor-kept log roomy longer entry parts after reply old allowed roomier more done =
    let same : reply.body ≡ (act_step (state_from parts) entry.client entry.act).body = replied-body parts after entry.client entry.act reply done in
    let asked : Allows log.history.items (record { client = entry.client; act = entry.act }) =
    record { present = allowed.present; «open» = allowed.open; may = allowed.may } in
    let may : Allows roomy.history.items (record { client = entry.client; act = kept_act entry.act reply.body }) =
    rw (roomier.items, same) (allows-kept log.history.items (state_from parts) entry.client entry.act asked) in
    let acted : act_step (state_from parts) entry.client (kept_act entry.act reply.body) ≡ act_step (state_from parts) entry.client entry.act =
    rw same (act-kept (state_from parts) entry.client entry.act) in
    let last : is_last (kept_act entry.act reply.body) ≡ is_last entry.act = alike entry.act reply.body in
    StandsFor-next roomy longer entry.client (kept_act entry.act reply.body) parts after reply
    (StandsFor-same log roomy parts parts old roomier.items roomier.bytes roomier.closed roomier.capacity refl old.sound)
    may more (record { step = done.step ∙ sym (ap (delivered entry.client) acted); sound = done.sound; within = λ entries h. rw last (done.within entries h) })
    (λ plain. subst (λ (h : List Entry). length h + entry_room ≤ vec_capacity roomy.history) (sym roomier.items) (roomier.room (sym last ∙ plain)))

-- a turn that was cut short and is kept
pub StandsFor-cut : (log roomy longer : Log) (entry : Entry) (parts after : Parts) (done : ℕ) → StandsFor log parts → Allows log.history.items entry →
    IsRoomy log roomy entry.act → IsLonger roomy longer (record { client = entry.client; act = act_with_steps entry.act done }) →
    0 < done → IsCut parts after entry.client entry.act done → StandsFor longer after
StandsFor-cut log roomy longer entry parts after done old allowed roomier more positive (nothing none same sound) = absurd (omega arith)
StandsFor-cut log roomy longer entry parts after done old allowed roomier more positive (some thread asked is more_than_none fewer whole) =
    let asks : Allows log.history.items (record { client = entry.client; act = act.Turn thread asked }) =
    rw (sym is) (record { present = allowed.present; «open» = allowed.open; may = allowed.may }) in
    let less : done ≤ asked = omega arith in
    let may : Allows roomy.history.items (record { client = entry.client; act = act.Turn thread done }) =
    rw roomier.items (Allows-fewer log.history.items entry.client thread asked done asks positive less) in
    let longer_by : IsLonger roomy longer (record { client = entry.client; act = act.Turn thread done }) =
    subst (λ (a : Act). IsLonger roomy longer (record { client = entry.client; act = act_with_steps a done })) is more in
    let silent : Reply = record { output = []; body = body.Turned done } in
    StandsFor-next roomy longer entry.client (act.Turn thread done) parts after silent
    (StandsFor-same log roomy parts parts old roomier.items roomier.bytes roomier.closed roomier.capacity refl old.sound)
    may longer_by (replied-done parts after after entry.client (act.Turn thread done) (body.Turned done) silent whole refl whole.sound (λ entries h. h))
    (λ plain. subst (λ (h : List Entry). length h + entry_room ≤ vec_capacity roomy.history) (sym roomier.items) (roomier.room (ap is_last is)))
