-- What a reader keeps of a history decides which entry may come next.
use Rattle.std.proofs.Common.{◌≡◌, ◌↔◌, ◌⊎◌, inl, inr, ℕ, ◌+◌, ◌<◌, ◌≤◌, Bool, true, false, List, [], ◌∷◌, ◌++◌, Option, None, Some, length, refl, ap, sym, ◌∙◌, arith}
use Rattle.std.specs.Prelude.{◌||◌, IsTrue}
use Rattle.std.specs.List.{slice_get}
use Rattle.std.proofs.lemmas.Bool.{cases_lt, le-leb, lt-leb}
use Rattle.std.proofs.lemmas.List.Folds.{list_any-append}
use Rattle.std.proofs.lemmas.Option.{slice_get_within}
use Rattle.jsh_lex.specs.Spelling.{is_identifier}
use Rattle.jsh_snippet.specs.declared.acts.Act.{Act}
use Rattle.jsh_snippet.specs.declared.acts.Act.TheVariants as act
use Rattle.jsh_snippet.specs.declared.acts.Entry.{Entry}
use Rattle.jsh_snippet.specs.declared.acts.Question.{Question}
use Rattle.jsh_snippet.specs.declared.acts.Question.TheVariants as question
use Rattle.jsh_snippet.specs.declared.acts.Target.{Target}
use Rattle.jsh_snippet.specs.declared.acts.Target.TheVariants as target
use Rattle.jsh_core.specs.State.{State, Acted}
use Rattle.jsh_core.specs.Clients.{enter}
use Rattle.jsh_core.specs.Questions.{question_text, IsAnswered}
use Rattle.jsh_core.specs.Step.{act_step, delivered, step}
use Rattle.jsh_core.specs.History.{act_bytes, is_close, source_bytes, state_of, target_text, Allows, HasRoomFor, IsTarget, MayDo}
use Rattle.jsh_core.proofs.DeliveryLaws.{IsDelivered, delivers}
use Rattle.jsh_core.proofs.Frames.{KeptByDrop, KeptByRunAct, KeptBySubmit, KeptByTurn, collect-keeps, drop-keeps, expire-keeps, stop-keeps, submit-keeps, turn-keeps}
use Rattle.jsh_core.proofs.StandsLemmas.{source_bytes-more}
use Rattle.jsh_core.proofs.Steps.{state_of-push}
use Rattle.jsh_core.proofs.Views.{Enters, enters, full, view-enter}
use Rattle.jsh_replay.specs.Standing.{clients_after, is_closed, Keeps}

-- ---- what is kept, with an entry more

entered : (s : State) (acted : Acted) → Enters s acted → acted.state.clients ≡ clients_after s.clients 0 act.Enter
unfolding clients_after
entered s acted (full many is) = ap (λ (a : Acted). a.state.clients) is ∙ rw (le-leb 64 (length s.clients) many) refl
entered s acted (enters few is) = ap (λ (a : Acted). a.state.clients) is ∙ rw (lt-leb 64 (length s.clients) few) refl

act-clients : (s : State) (mover : ℕ) (what : Act) → (act_step s mover what).state.clients ≡ clients_after s.clients mover what
unfolding clients_after
act-clients s mover act.Enter = entered s (enter s) (view-enter s)
act-clients s mover (act.Submit source) =
    let kept : KeptBySubmit s (act_step s mover (act.Submit source)).state = submit-keeps s mover source in kept.clients
act-clients s mover (act.Turn thread steps) =
    let kept : KeptByTurn s (act_step s mover (act.Turn thread steps)).state = turn-keeps s mover thread steps in kept.clients
act-clients s mover (act.Collect run) =
    let kept : KeptByRunAct s (act_step s mover (act.Collect run)).state = collect-keeps s mover run in kept.clients
act-clients s mover (act.Expire run steps) =
    let kept : KeptByRunAct s (act_step s mover (act.Expire run steps)).state = expire-keeps s mover run steps in kept.clients
act-clients s mover (act.Stop run) =
    let kept : KeptByRunAct s (act_step s mover (act.Stop run)).state = stop-keeps s mover run in kept.clients
act-clients s mover (act.Drop what) =
    let kept : KeptByDrop s (act_step s mover (act.Drop what)).state = drop-keeps s mover what in kept.clients
act-clients s mover (act.Ask what) = refl
act-clients s mover act.Reset = refl
act-clients s mover act.Leave = refl
act-clients s mover act.Close = refl

-- the clients behind an entry depend on the clients and the act alone
pub step-clients : (s : State) (entry : Entry) → (step s entry).state.clients ≡ clients_after s.clients entry.client entry.act
step-clients s entry =
    let acted : Acted = act_step s entry.client entry.act in
    let is : IsDelivered acted (delivered entry.client acted) = delivers entry.client acted in
    is.clients ∙ act-clients s entry.client entry.act

abbrev closes : Entry → Bool
closes entry = is_close entry.act

pub closed-push : (history : List Entry) (entry : Entry) → is_closed (history ++ entry ∷ []) ≡ (is_closed history || is_close entry.act)
closed-push history entry = list_any-append closes history (entry ∷ []) ∙ ap (λ b. is_closed history || b) (last (is_close entry.act))
  where
    last : (b : Bool) → (b || false) ≡ b
    last true = refl
    last false = refl

-- what is kept goes on with an entry
pub Keeps-push : (history after : List Entry) (sources added : ℕ) (clients left : List Bool) (closed ends : Bool) (entry : Entry) → Keeps history sources clients closed →
    after ≡ history ++ entry ∷ [] → added ≡ act_bytes entry.act → left ≡ clients_after clients entry.client entry.act → ends ≡ (closed || is_close entry.act) → Keeps after (sources + added) left ends
Keeps-push history after sources added clients left closed ends entry keeps longer text moved closes = record {
  sources_are = ap (λ n. sources + n) text ∙ ap (λ n. n + act_bytes entry.act) keeps.sources_are ∙ sym (source_bytes-more history entry) ∙ ap source_bytes (sym longer);
  clients_are = moved ∙ ap (λ (cs : List Bool). clients_after cs entry.client entry.act) keeps.clients_are ∙ sym (step-clients (state_of history) entry)
      ∙ sym (ap (λ (s : State). s.clients) (state_of-push history entry)) ∙ ap (λ (h : List Entry). (state_of h).clients) (sym longer);
  closed_is = closes ∙ ap (λ b. b || is_close entry.act) keeps.closed_is ∙ sym (closed-push history entry) ∙ ap is_closed (sym longer);
}

-- a client that may do something was numbered
pub Keeps-within : (history : List Entry) (sources : ℕ) (clients : List Bool) (closed : Bool) (entry : Entry) → Keeps history sources clients closed → Allows history entry → entry.client < length clients
Keeps-within history sources clients closed entry keeps allowed =
    slice_get_within clients entry.client true (ap (λ (cs : List Bool). slice_get cs entry.client) keeps.clients_are ∙ allowed.present)

-- ---- the test is what histories allow

-- no answer is both
pub clash : (answer : Bool) → answer ≡ true → answer ≡ false → ⊥
clash answer is isnt = cc

-- a client that is there, where nothing is closed, is left with what it may do
pub allowed-open : (history : List Entry) (sources : ℕ) (clients : List Bool) (closed : Bool) (entry : Entry) (there may : Bool) → Keeps history sources clients closed →
    (IsTrue there ↔ (slice_get clients entry.client ≡ Some true)) → (IsTrue may ↔ MayDo history entry.client entry.act) → there ≡ true → closed ≡ false → IsTrue may ↔ Allows history entry
allowed-open history sources clients closed entry there may keeps present does comes opened = (
  λ may_do. record {
    present = ap (λ (cs : List Bool). slice_get cs entry.client) (sym keeps.clients_are) ∙ present.0 comes;
    «open» = sym keeps.closed_is ∙ opened;
    may = does.0 may_do;
  },
  λ allowed. does.1 allowed.may,
)

-- a client that isn't there may do nothing
pub barred-absent : (history : List Entry) (sources : ℕ) (clients : List Bool) (closed : Bool) (entry : Entry) (there answer : Bool) → Keeps history sources clients closed →
    (IsTrue there ↔ (slice_get clients entry.client ≡ Some true)) → there ≡ false → answer ≡ false → IsTrue answer ↔ Allows history entry
barred-absent history sources clients closed entry there answer keeps present absent refused = (
  λ granted. absurd (clash answer granted refused),
  λ allowed. absurd (clash there (present.1 (ap (λ (cs : List Bool). slice_get cs entry.client) keeps.clients_are ∙ allowed.present)) absent),
)

-- nothing follows a close
pub barred-closed : (history : List Entry) (sources : ℕ) (clients : List Bool) (closed : Bool) (entry : Entry) (answer : Bool) → Keeps history sources clients closed →
    closed ≡ true → answer ≡ false → IsTrue answer ↔ Allows history entry
barred-closed history sources clients closed entry answer keeps is refused = (
  λ granted. absurd (clash answer granted refused),
  λ allowed. absurd (clash closed is (keeps.closed_is ∙ allowed.open)),
)

-- ---- whether an entry may come is decided

abbrev pub Decided : Type 0 → Type 0
Decided P = P ⊎ (¬ P)

both : {A B : Type 0} → Decided A → Decided B → Decided (A × B)
both (inl a) (inl b) = inl (a, b)
both (inl a) (inr never) = inr (λ p. never p.1)
both (inr never) b = inr (λ p. never p.0)

three : {A B C : Type 0} → Decided A → Decided B → Decided C → Decided (A × B × C)
three (inl a) (inl b) (inl c) = inl (a, b, c)
three (inl a) (inl b) (inr never) = inr (λ p. never p.2)
three (inl a) (inr never) c = inr (λ p. never p.1)
three (inr never) b c = inr (λ p. never p.0)

below : (m n : ℕ) → Decided (m < n)
below m n = elim (cases_lt m n) [ inl lt ↦ inl lt | inr le ↦ inr (λ (lt : m < n). omega arith) ]

within : (m n : ℕ) → Decided (m ≤ n)
within m n = elim (cases_lt n m) [ inl lt ↦ inr (λ (le : m ≤ n). omega arith) | inr le ↦ inl le ]

same : (m n : ℕ) → Decided (m ≡ n)
same m n = elim (cases_lt m n) [
  | inl lt ↦ inr (λ (e : m ≡ n). omega arith)
  | inr le ↦ elim (cases_lt n m) [ inl lt ↦ inr (λ (e : m ≡ n). omega arith) | inr ge ↦ inl (omega arith) ]
]

is_true : (b : Bool) → Decided (b ≡ true)
is_true true = inl refl
is_true false = inr (λ (e : false ≡ true). cc)

is_there : (o : Option Bool) → Decided (o ≡ Some true)
is_there (Some true) = inl refl
is_there (Some false) = inr (λ (e : Some false ≡ Some true). cc)
is_there None = inr (λ (e : None ≡ Some true). cc)

is_open : (b : Bool) → Decided (b ≡ false)
is_open false = inl refl
is_open true = inr (λ (e : true ≡ false). cc)

room_for : (history : List Entry) (text : List ℕ) → Decided (HasRoomFor history text)
room_for history text = three (below (length history) 4194304) (within (length text) 65536) (within (source_bytes history + length text) 67108864)

target_fits : (what : Target) → Decided (IsTarget what)
target_fits (target.Id id) = inl tt
target_fits (target.Named name) = is_true (is_identifier name)

answered : (what : Question) → Decided (IsAnswered what)
answered question.List = inl tt
answered question.ListAll = inl tt
answered question.Vars = inl tt
answered question.Methods = inl tt
answered question.Types = inl tt
answered question.Imports = inl tt
answered question.Threads = inl tt
answered question.Help = inl tt
answered (question.Complete text) = inr (λ h. h)
answered (question.Invalid line) = inl tt

may_do : (history : List Entry) (client : ℕ) (what : Act) → Decided (MayDo history client what)
may_do history client act.Enter = below (length history) 4194304
may_do history client (act.Submit source) = room_for history source
may_do history client (act.Turn thread steps) = three (below (length history) 4194304) (within 1 steps) (within steps 256)
may_do history client (act.Collect run) = below (length history) 4194304
may_do history client (act.Expire run steps) = below (length history) 4194304
may_do history client (act.Stop run) = below (length history) 4194304
may_do history client (act.Drop what) = both (room_for history (target_text what)) (target_fits what)
may_do history client (act.Ask what) = both (room_for history (question_text what)) (answered what)
may_do history client act.Reset = below (length history) 4194304
may_do history client act.Leave = inl tt
may_do history client act.Close = same client 0

-- an entry is allowed or not
pub allows_or_not : (history : List Entry) (entry : Entry) → Decided (Allows history entry)
allows_or_not history entry = from (is_there (slice_get (state_of history).clients entry.client)) (is_open (is_closed history)) (may_do history entry.client entry.act)
  where
    from : Decided (slice_get (state_of history).clients entry.client ≡ Some true) → Decided (is_closed history ≡ false) → Decided (MayDo history entry.client entry.act) → Decided (Allows history entry)
    from (inl present) (inl opened) (inl may) = inl (record { present = present; «open» = opened; may = may })
    from (inl present) (inl opened) (inr never) = inr (λ allowed. never allowed.may)
    from (inl present) (inr never) may = inr (λ allowed. never allowed.open)
    from (inr never) opened may = inr (λ allowed. never allowed.present)
