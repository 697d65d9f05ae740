-- What users of `step` need of it, entry by entry.
use Rattle.std.proofs.Common.{◌≡◌, ℕ, ◌==◌, Bool, true, false, List, [], ◌∷◌, ◌++◌, Some, refl, ap, sym, ◌∙◌}
use Rattle.std.specs.Prelude.{◌&&◌}
use Rattle.std.specs.List.{slice_get}
use Rattle.std.proofs.lemmas.Bool.{eqb-false}
use Rattle.jsh_snippet.specs.declared.acts.Act.{Act}
use Rattle.jsh_snippet.specs.declared.acts.Act.TheVariants as act
use Rattle.jsh_snippet.specs.declared.acts.Entry.{Entry}
use Rattle.jsh_snippet.specs.declared.replies.ReplyBody.{ReplyBody}
use Rattle.jsh_snippet.specs.declared.replies.ReplyBody.TheVariants as body
use Rattle.jsh_core.specs.State.{State, Acted, opening}
use Rattle.jsh_core.specs.Threads.{turned, Turned}
use Rattle.jsh_core.specs.Clients.{enter}
use Rattle.jsh_core.specs.Step.{act_step, delivered, kept, kept_act, step}
use Rattle.jsh_core.specs.History.{state_after, state_of}
use Rattle.jsh_core.proofs.DeliveryLaws.{IsDelivered, by, delivers}
use Rattle.jsh_core.proofs.Frames.{KeptByDrop, KeptByRunAct, KeptBySubmit, collect-keeps, drop-keeps, expire-keeps, stop-keeps, submit-keeps}
use Rattle.jsh_core.proofs.Numbered.{slice_get-append, slice_get-set_other}
use Rattle.jsh_core.proofs.TurnLemmas.{turned-kept, turned-kept-asked}
use Rattle.jsh_core.proofs.Views.{Enters, view-enter}
use Rattle.jsh_core.proofs.Views.{enters, full}

-- the state after one entry more is one step after
pub state_after-push : (s : State) (entries : List Entry) (entry : Entry) → state_after s (entries ++ entry ∷ []) ≡ (step (state_after s entries) entry).state
state_after-push s [] entry = refl
state_after-push s (first ∷ entries) entry = state_after-push (step s first).state entries entry

pub state_of-push : (history : List Entry) (entry : Entry) → state_of (history ++ entry ∷ []) ≡ (step (state_of history) entry).state
state_of-push history entry = state_after-push opening history entry

-- whether an entry is the leave of this client
abbrev pub leaves : Entry → ℕ → Bool
leaves entry client = goes entry.act && (entry.client == client)
  where
    goes : Act → Bool
    goes act.Leave = true
    goes _ = false

enter-present : (s : State) (client : ℕ) (acted : Acted) → Enters s acted → slice_get s.clients client ≡ Some true → slice_get acted.state.clients client ≡ Some true
enter-present s client acted (full many is) there = ap (λ (a : Acted). slice_get a.state.clients client) is ∙ there
enter-present s client acted (enters few is) there = ap (λ (a : Acted). slice_get a.state.clients client) is ∙ slice_get-append s.clients (true ∷ []) client true there

act-present : (s : State) (mover client : ℕ) (what : Act) → slice_get s.clients client ≡ Some true → leaves (record { client = mover; act = what }) client ≡ false →
    slice_get (act_step s mover what).state.clients client ≡ Some true
act-present s mover client act.Enter there stays = enter-present s client (enter s) (view-enter s) there
act-present s mover client (act.Submit source) there stays =
    let kept : KeptBySubmit s (act_step s mover (act.Submit source)).state = submit-keeps s mover source in
    ap (λ (l : List Bool). slice_get l client) kept.clients ∙ there
act-present s mover client (act.Turn thread steps) there stays = there
act-present s mover client (act.Collect run) there stays =
    let kept : KeptByRunAct s (act_step s mover (act.Collect run)).state = collect-keeps s mover run in
    ap (λ (l : List Bool). slice_get l client) kept.clients ∙ there
act-present s mover client (act.Expire run steps) there stays =
    let kept : KeptByRunAct s (act_step s mover (act.Expire run steps)).state = expire-keeps s mover run steps in
    ap (λ (l : List Bool). slice_get l client) kept.clients ∙ there
act-present s mover client (act.Stop run) there stays =
    let kept : KeptByRunAct s (act_step s mover (act.Stop run)).state = stop-keeps s mover run in
    ap (λ (l : List Bool). slice_get l client) kept.clients ∙ there
act-present s mover client (act.Drop what) there stays =
    let kept : KeptByDrop s (act_step s mover (act.Drop what)).state = drop-keeps s mover what in
    ap (λ (l : List Bool). slice_get l client) kept.clients ∙ there
act-present s mover client (act.Ask question) there stays = there
act-present s mover client act.Reset there stays = there
act-present s mover client act.Leave there stays = slice_get-set_other s.clients mover client false (eqb-false mover client stays) ∙ there
act-present s mover client act.Close there stays = there

-- a client that is there stays through every entry but its own leave
pub step-present : (s : State) (entry : Entry) (client : ℕ) → slice_get s.clients client ≡ Some true → leaves entry client ≡ false →
    slice_get (step s entry).state.clients client ≡ Some true
step-present s entry client there stays =
    let acted : Acted = act_step s entry.client entry.act in
    let is : IsDelivered acted (delivered entry.client acted) = delivers entry.client acted in
    ap (λ (l : List Bool). slice_get l client) is.clients ∙ act-present s entry.client client entry.act there stays

-- an act as it is kept does the same
pub act-kept : (s : State) (client : ℕ) (what : Act) → act_step s client (kept_act what (act_step s client what).body) ≡ act_step s client what
act-kept s client (act.Turn thread asked) =
    ap (λ (t : Turned). record { state = record s { world = t.world }; body = body.Turned t.steps })
    (turned-kept-asked thread asked (turned thread asked s.world).steps s.world refl)
act-kept s client act.Enter = refl
act-kept s client (act.Submit source) = refl
act-kept s client (act.Collect run) = refl
act-kept s client (act.Expire run steps) = refl
act-kept s client (act.Stop run) = refl
act-kept s client (act.Drop target) = refl
act-kept s client (act.Ask question) = refl
act-kept s client act.Reset = refl
act-kept s client act.Leave = refl
act-kept s client act.Close = refl

-- an entry as it is kept does and replies the same
pub step-kept : (s : State) (entry : Entry) → step s (kept entry (step s entry).reply) ≡ step s entry
step-kept s entry =
    let acted : Acted = act_step s entry.client entry.act in
    let is : IsDelivered acted (delivered entry.client acted) = delivers entry.client acted in
    ap (λ (b : ReplyBody). delivered entry.client (act_step s entry.client (kept_act entry.act b))) is.body
    ∙ ap (delivered entry.client) (act-kept s entry.client entry.act)

-- a turn of just the steps that a longer one has done counts just these
pub turn-counts : (s : State) (client thread asked done : ℕ) → (step s (by client (act.Turn thread asked))).reply.body ≡ body.Turned done →
    (step s (by client (act.Turn thread done))).reply.body ≡ body.Turned done
turn-counts s client thread asked done counted =
    let same : (turned thread asked s.world).steps ≡ done = cc in
    ap (λ n. body.Turned (turned thread n s.world).steps) (sym same)
    ∙ ap (λ (t : Turned). body.Turned t.steps) (turned-kept thread asked s.world) ∙ counted
