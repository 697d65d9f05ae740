-- A refused act changes nothing, and what a client may do where there is room.
use Rattle.std.proofs.Common.{◌≡◌, ◌≢◌, ℕ, Bool, true, false, List, Some, ap, sym, ◌∙◌}
use Rattle.std.specs.List.{list_any, slice_get}
use Rattle.jsh_snippet.specs.declared.acts.Act.{Act}
use Rattle.jsh_snippet.specs.declared.acts.Act.TheVariants as act
use Rattle.jsh_snippet.specs.declared.acts.Entry.{Entry}
use Rattle.jsh_snippet.specs.declared.acts.Target.TheVariants as target
use Rattle.jsh_snippet.specs.declared.replies.Refusal.{Refusal}
use Rattle.jsh_snippet.specs.declared.replies.ReplyBody.{ReplyBody}
use Rattle.jsh_snippet.specs.declared.replies.ReplyBody.TheVariants as body
use Rattle.jsh_core.specs.State.{State, Acted}
use Rattle.jsh_core.specs.Snippets.{submitted}
use Rattle.jsh_core.specs.Runs.{collect, expire, stop}
use Rattle.jsh_core.specs.Drops.{drop_id, drop_snippet}
use Rattle.jsh_core.specs.Clients.{enter}
use Rattle.jsh_core.specs.Step.{act_step, delivered, hands_over, step}
use Rattle.jsh_core.specs.Fates.{Takes, TakesAway}
use Rattle.jsh_core.specs.History.{Allows, HasRoom, MayDo, is_close, state_of}
use Rattle.jsh_core.proofs.DeliveryLaws.{IsDelivered, by, delivered-withheld, delivers}
use Rattle.jsh_core.proofs.Views.{Collects, DropsId, DropsName, Enters, Expires, Stops, Submits, view-collect, view-drop_id, view-drop_name, view-enter, view-expire, view-stop, view-submit}
use Rattle.jsh_core.proofs.Views.{absent, accepted, crowded, drops, ended, enters, foreign, full, idle, only, rejected, running, spent, stalled, standing, unclear}

enter-refused : (s : State) (why : Refusal) (acted : Acted) → Enters s acted → acted.body ≡ body.Refused why → acted.state ≡ s
enter-refused s why acted (full many is) e = ap (λ (a : Acted). a.state) is
enter-refused s why acted (enters few is) e = let both = sym (ap (λ (a : Acted). a.body) is) ∙ e in (cc)

submit-refused : (s : State) (client : ℕ) (source : List ℕ) (why : Refusal) (acted : Acted) → Submits s client source acted → acted.body ≡ body.Refused why → acted.state ≡ s
submit-refused s client source why acted (full many is) e = ap (λ (a : Acted). a.state) is
submit-refused s client source why acted (rejected ds few found is) e = let both = sym (ap (λ (a : Acted). a.body) is) ∙ e in (cc)
submit-refused s client source why acted (crowded sum few found many is) e = ap (λ (a : Acted). a.state) is
submit-refused s client source why acted (accepted sum few found room is) e = let both = sym (ap (λ (a : Acted). a.body) is) ∙ e in (cc)

collect-refused : (s : State) (client number : ℕ) (why : Refusal) (acted : Acted) → Collects s client number acted → acted.body ≡ body.Refused why → acted.state ≡ s
collect-refused s client number why acted (absent none is) e = ap (λ (a : Acted). a.state) is
collect-refused s client number why acted (foreign run found there other is) e = ap (λ (a : Acted). a.state) is
collect-refused s client number why acted (running run own alive goes is) e = ap (λ (a : Acted). a.state) is
collect-refused s client number why acted (stalled run own alive none is) e = let both = sym (ap (λ (a : Acted). a.body) is) ∙ e in (cc)
collect-refused s client number why acted (ended run own dead is) e = let both = sym (ap (λ (a : Acted). a.body) is) ∙ e in (cc)

expire-refused : (s : State) (client number steps : ℕ) (why : Refusal) (acted : Acted) → Expires s client number steps acted → acted.body ≡ body.Refused why → acted.state ≡ s
expire-refused s client number steps why acted (absent none is) e = ap (λ (a : Acted). a.state) is
expire-refused s client number steps why acted (foreign run found there other is) e = ap (λ (a : Acted). a.state) is
expire-refused s client number steps why acted (spent run own alive is) e = let both = sym (ap (λ (a : Acted). a.body) is) ∙ e in (cc)
expire-refused s client number steps why acted (ended run own dead is) e = let both = sym (ap (λ (a : Acted). a.body) is) ∙ e in (cc)

stop-refused : (s : State) (client number : ℕ) (why : Refusal) (acted : Acted) → Stops s client number acted → acted.body ≡ body.Refused why → acted.state ≡ s
stop-refused s client number why acted (absent none is) e = ap (λ (a : Acted). a.state) is
stop-refused s client number why acted (standing run found there is) e = let both = sym (ap (λ (a : Acted). a.body) is) ∙ e in (cc)

drop_id-refused : (s : State) (id : ℕ) (why : Refusal) (acted : Acted) → DropsId s id acted → acted.body ≡ body.Refused why → acted.state ≡ s
drop_id-refused s id why acted (absent none is) e = ap (λ (a : Acted). a.state) is
drop_id-refused s id why acted (idle x found kept is) e = ap (λ (a : Acted). a.state) is
drop_id-refused s id why acted (drops x found live is) e = let both = sym (ap (λ (a : Acted). a.body) is) ∙ e in (cc)

drop_name-refused : (s : State) (name : List ℕ) (why : Refusal) (acted : Acted) → DropsName s name acted → acted.body ≡ body.Refused why → acted.state ≡ s
drop_name-refused s name why acted (unclear many is) e = ap (λ (a : Acted). a.state) is
drop_name-refused s name why acted (only live one is) e =
    ap (λ (a : Acted). a.state) is ∙ drop_id-refused s live.id why (drop_id s live.id) (view-drop_id s live.id) (sym (ap (λ (a : Acted). a.body) is) ∙ e)

act-refused : (s : State) (client : ℕ) (what : Act) (why : Refusal) → (act_step s client what).body ≡ body.Refused why → (act_step s client what).state ≡ s
act-refused s client act.Enter why e = enter-refused s why (enter s) (view-enter s) e
act-refused s client (act.Submit source) why e = submit-refused s client source why (submitted s client source) (view-submit s client source) e
act-refused s client (act.Turn thread steps) why e = cc
act-refused s client (act.Collect run) why e = collect-refused s client run why (collect s client run) (view-collect s client run) e
act-refused s client (act.Expire run steps) why e = expire-refused s client run steps why (expire s client run steps) (view-expire s client run steps) e
act-refused s client (act.Stop run) why e = stop-refused s client run why (stop s client run) (view-stop s client run) e
act-refused s client (act.Drop (target.Id id)) why e = drop_id-refused s id why (drop_id s id) (view-drop_id s id) e
act-refused s client (act.Drop (target.Named name)) why e = drop_name-refused s name why (drop_snippet s (target.Named name)) (view-drop_name s name) e
act-refused s client (act.Ask question) why e = cc
act-refused s client act.Reset why e = cc
act-refused s client act.Leave why e = cc
act-refused s client act.Close why e = cc

-- a refused act changes nothing at all
pub refused-keeps : (s : State) (entry : Entry) (why : Refusal) → (step s entry).reply.body ≡ body.Refused why → (step s entry).state ≡ s
refused-keeps s entry why told =
    let acted : Acted = act_step s entry.client entry.act in
    let is : IsDelivered acted (delivered entry.client acted) = delivers entry.client acted in
    let answer : acted.body ≡ body.Refused why = sym is.body ∙ told in
    delivered-withheld entry.client acted (ap hands_over answer) ∙ act-refused s entry.client entry.act why answer

-- an entry of another client takes no run away but by a reset

-- all is reset
abbrev pub is_reset : Act → Bool
is_reset act.Reset = true
is_reset _ = false

others-take : (client : ℕ) (what : Act) (owner number : ℕ) (answer : ReplyBody) → client ≢ owner → is_reset what ≡ false → ¬ Takes client what owner number answer
others-take client act.Enter owner number answer other plain t = t
others-take client (act.Submit source) owner number answer other plain t = t
others-take client (act.Turn thread steps) owner number answer other plain t = t
others-take client (act.Collect run) owner number answer other plain t = other t.own
others-take client (act.Expire run steps) owner number answer other plain t = other t.own
others-take client (act.Stop run) owner number answer other plain t = t
others-take client (act.Drop what) owner number answer other plain t = t
others-take client (act.Ask question) owner number answer other plain t = t
others-take client act.Reset owner number answer other plain t = cc
others-take client act.Leave owner number answer other plain t = other t
others-take client act.Close owner number answer other plain t = t

pub others-keep : (s : State) (entry : Entry) (owner number : ℕ) → entry.client ≢ owner → is_reset entry.act ≡ false → ¬ TakesAway s entry owner number
others-keep s entry owner number other plain = others-take entry.client entry.act owner number (step s entry).reply.body other plain

-- with room, a client that is there may do each act that hands in neither a text nor a number of steps, and isn't a close

abbrev pub is_plain : Act → Bool
is_plain act.Enter = true
is_plain (act.Collect run) = true
is_plain (act.Expire run steps) = true
is_plain (act.Stop run) = true
is_plain act.Reset = true
is_plain act.Leave = true
is_plain _ = false

may-plain : (history : List Entry) (client : ℕ) (what : Act) → HasRoom history → is_plain what ≡ true → MayDo history client what
may-plain history client act.Enter room plain = room
may-plain history client (act.Submit source) room plain = cc
may-plain history client (act.Turn thread steps) room plain = cc
may-plain history client (act.Collect run) room plain = room
may-plain history client (act.Expire run steps) room plain = room
may-plain history client (act.Stop run) room plain = room
may-plain history client (act.Drop (target.Id id)) room plain = cc
may-plain history client (act.Drop (target.Named name)) room plain = cc
may-plain history client (act.Ask question) room plain = cc
may-plain history client act.Reset room plain = room
may-plain history client act.Leave room plain = tt
may-plain history client act.Close room plain = cc

pub allows-plain : (history : List Entry) (client : ℕ) (what : Act) → slice_get (state_of history).clients client ≡ Some true → list_any (λ (e : Entry). is_close e.act) history ≡ false →
    HasRoom history → is_plain what ≡ true → Allows history (by client what)
allows-plain history client what present opened room plain = record { present = present; «open» = opened; may = may-plain history client what room plain }

-- any other act is allowed where it may be done
pub allows-may : (history : List Entry) (client : ℕ) (what : Act) → slice_get (state_of history).clients client ≡ Some true → list_any (λ (e : Entry). is_close e.act) history ≡ false →
    MayDo history client what → Allows history (by client what)
allows-may history client what present opened may = record { present = present; «open» = opened; may = may }
