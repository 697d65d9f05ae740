-- What a legal history has room for.
use Rattle.std.proofs.Common.{◌≡◌, ℕ, zero, suc, ◌+◌, ◌^◌, ◌<◌, ◌≤◌, Bool, true, false, cond, List, [], ◌∷◌, ◌++◌, length, set, get_or, take, refl, ap, sym, subst, ◌∙◌, append_assoc, append-nil, length-append, arith}
use Rattle.std.specs.Prelude.{◌||◌, nat_le}
use Rattle.std.specs.List.{AllByRecursion}
use Rattle.std.proofs.Math.ListN.{length-set}
use Rattle.std.proofs.lemmas.Bool.{leb-false}
use Rattle.std.proofs.lemmas.List.Sums.{count_by-le-length}
use Rattle.std.proofs.lemmas.Option.{slice_get_within}
use Rattle.jsh_snippet.specs.declared.acts.Act.{Act}
use Rattle.jsh_snippet.specs.declared.acts.Act.TheVariants as act
use Rattle.jsh_snippet.specs.declared.acts.Entry.{Entry}
use Rattle.jsh_core.specs.State.{State, opening}
use Rattle.jsh_core.specs.Stands.{present_count}
use Rattle.jsh_core.specs.Step.{step}
use Rattle.jsh_core.specs.History.{act_text, state_after, state_of, Allows, IsLegal, IsLegalAfter, MayDo}
use Rattle.jsh_core.proofs.ListLemmas.{count_by-set_fewer}
use Rattle.jsh_core.proofs.StandsLemmas.{IsLegal-more}
use Rattle.jsh_core.proofs.Steps.{state_of-push}
use Rattle.jsh_replay.specs.Journal.{turn_steps, IsWritable, IsWritten}
use Rattle.jsh_replay.specs.Standing.{clients_after, is_closed}
use Rattle.jsh_replay.proofs.StandingLaws.{closed-push, step-clients}

-- ---- clients

clients_after-few : (clients : List Bool) (client : ℕ) (what : Act) → length clients ≤ 64 → length (clients_after clients client what) ≤ 64
unfolding clients_after
clients_after-few clients client act.Enter few = from (nat_le 64 (length clients)) refl
  where
    from : (full : Bool) → nat_le 64 (length clients) ≡ full → length (cond full clients (clients ++ true ∷ [])) ≤ 64
    from true e = few
    from false e = omega (arith, leb-false 64 (length clients) e, length-append clients (true ∷ []))
clients_after-few clients client (act.Submit source) few = few
clients_after-few clients client (act.Turn thread steps) few = few
clients_after-few clients client (act.Collect run) few = few
clients_after-few clients client (act.Expire run steps) few = few
clients_after-few clients client (act.Stop run) few = few
clients_after-few clients client (act.Drop what) few = few
clients_after-few clients client (act.Ask what) few = few
clients_after-few clients client act.Reset few = few
clients_after-few clients client act.Leave few = omega (arith, length-set clients client false)
clients_after-few clients client act.Close few = few

few_after : (s : State) (entries : List Entry) → length s.clients ≤ 64 → length (state_after s entries).clients ≤ 64
few_after s [] few = few
few_after s (entry ∷ entries) few =
    let less : length (clients_after s.clients entry.client entry.act) ≤ 64 = clients_after-few s.clients entry.client entry.act few in
    few_after (step s entry).state entries (omega (arith, less, ap length (step-clients s entry)))

pub clients-few : (history : List Entry) → length (state_of history).clients ≤ 64
clients-few history = few_after opening history (omega arith)

-- ---- how many entries

-- so many entries there can be, with a leave of each client that is there and a close behind them
record IsBounded (history : List Entry) : Type 0 where
  leaves : is_closed history ≡ false → length history + present_count (state_of history).clients ≤ 4194368
  few : length history ≤ 4194369

-- an act for which there is room
roomy-bounded : (history : List Entry) (entry : Entry) → length history < 4194304 → IsBounded (history ++ entry ∷ [])
roomy-bounded history entry room =
    let longer : length (history ++ entry ∷ []) ≡ length history + 1 = length-append history (entry ∷ []) in
    let few : length (state_of (history ++ entry ∷ [])).clients ≤ 64 = clients-few (history ++ entry ∷ []) in
    let there : present_count (state_of (history ++ entry ∷ [])).clients ≤ length (state_of (history ++ entry ∷ [])).clients =
    count_by-le-length (λ (b : Bool). b) (state_of (history ++ entry ∷ [])).clients in
    record { leaves = λ still. omega (arith, longer, few, there, room); few = omega (arith, longer, room) }

left-bounded : (history : List Entry) (client : ℕ) → IsBounded history → Allows history (record { client = client; act = act.Leave }) → IsBounded (history ++ record { client = client; act = act.Leave } ∷ [])
unfolding clients_after
left-bounded history client bounded allowed =
    let entry : Entry = record { client = client; act = act.Leave } in
    let longer : length (history ++ entry ∷ []) ≡ length history + 1 = length-append history (entry ∷ []) in
    let clients : (state_of (history ++ entry ∷ [])).clients ≡ set (state_of history).clients client false =
    ap (λ (s : State). s.clients) (state_of-push history entry) ∙ step-clients (state_of history) entry in
    let fewer : present_count (set (state_of history).clients client false) + 1 ≡ present_count (state_of history).clients =
    count_by-set_fewer (λ (there : Bool). there) (state_of history).clients client true false allowed.present refl refl in
    let before : length history + present_count (state_of history).clients ≤ 4194368 = bounded.leaves allowed.open in
    record { leaves = λ still. omega (arith, longer, ap present_count clients, fewer, before); few = omega (arith, longer, fewer, before) }

closed-bounded : (history : List Entry) (client : ℕ) → IsBounded history → Allows history (record { client = client; act = act.Close }) → IsBounded (history ++ record { client = client; act = act.Close } ∷ [])
closed-bounded history client bounded allowed =
    let entry : Entry = record { client = client; act = act.Close } in
    let longer : length (history ++ entry ∷ []) ≡ length history + 1 = length-append history (entry ∷ []) in
    let before : length history + present_count (state_of history).clients ≤ 4194368 = bounded.leaves allowed.open in
    record { leaves = λ still. absurd (ended (is_closed history) (sym (closed-push history entry) ∙ still)); few = omega (arith, longer, before) }
  where
    ended : (b : Bool) → (b || true) ≡ false → ⊥
    ended true e = cc
    ended false e = cc

bounded-more : (history : List Entry) (client : ℕ) (what : Act) → IsBounded history → Allows history (record { client = client; act = what }) → IsBounded (history ++ record { client = client; act = what } ∷ [])
bounded-more history client act.Enter bounded allowed = roomy-bounded history (record { client = client; act = act.Enter }) allowed.may
bounded-more history client (act.Submit source) bounded allowed = roomy-bounded history (record { client = client; act = act.Submit source }) allowed.may.0
bounded-more history client (act.Turn thread steps) bounded allowed = roomy-bounded history (record { client = client; act = act.Turn thread steps }) allowed.may.0
bounded-more history client (act.Collect run) bounded allowed = roomy-bounded history (record { client = client; act = act.Collect run }) allowed.may
bounded-more history client (act.Expire run steps) bounded allowed = roomy-bounded history (record { client = client; act = act.Expire run steps }) allowed.may
bounded-more history client (act.Stop run) bounded allowed = roomy-bounded history (record { client = client; act = act.Stop run }) allowed.may
bounded-more history client (act.Drop what) bounded allowed = roomy-bounded history (record { client = client; act = act.Drop what }) allowed.may.0.0
bounded-more history client (act.Ask what) bounded allowed = roomy-bounded history (record { client = client; act = act.Ask what }) allowed.may.0.0
bounded-more history client act.Reset bounded allowed = roomy-bounded history (record { client = client; act = act.Reset }) allowed.may
bounded-more history client act.Leave bounded allowed = left-bounded history client bounded allowed
bounded-more history client act.Close bounded allowed = closed-bounded history client bounded allowed

bounded_after : (past entries : List Entry) → IsBounded past → IsLegalAfter past entries → IsBounded (past ++ entries)
bounded_after past [] bounded legal = subst (λ (h : List Entry). IsBounded h) (sym (append-nil past)) bounded
bounded_after past (entry ∷ entries) bounded legal =
    subst (λ (h : List Entry). IsBounded h) (append_assoc past (entry ∷ []) entries)
    (bounded_after (past ++ entry ∷ []) entries (bounded-more past entry.client entry.act bounded legal.0) legal.1)

-- the number of entries fits the end mark
pub legal-few : (history : List Entry) → IsLegal history → length history < 2 ^ 32
legal-few history legal =
    let bounded : IsBounded history = bounded_after [] history (record { leaves = λ still. omega arith; few = omega arith }) legal in
    omega (arith, bounded.few)

-- ---- one entry

allowed_after : (past entries : List Entry) (i : ℕ) (d : Entry) → IsLegalAfter past entries → i < length entries → Allows (past ++ take i entries) (get_or entries i d)
allowed_after past [] i d legal lt = absurd (omega arith)
allowed_after past (entry ∷ entries) zero d legal lt = subst (λ (h : List Entry). Allows h entry) (sym (append-nil past)) legal.0
allowed_after past (entry ∷ entries) (suc i) d legal lt =
    subst (λ (h : List Entry). Allows h (get_or entries i d)) (append_assoc past (entry ∷ []) (take i entries))
    (allowed_after (past ++ entry ∷ []) entries i d legal.1 (omega arith))

-- each entry of a legal history is allowed by those before it
pub item-allowed : (history : List Entry) (i : ℕ) (entry : Entry) → IsLegal history → i < length history → entry ≡ get_or history i entry → Allows (take i history) entry
item-allowed history i entry legal lt is = subst (λ (e : Entry). Allows (take i history) e) (sym is) (allowed_after [] history i entry legal lt)

pub allowed-client : (history : List Entry) (entry : Entry) → Allows history entry → entry.client < 2 ^ 8
allowed-client history entry allowed =
    let within : entry.client < length (state_of history).clients = slice_get_within (state_of history).clients entry.client true allowed.present in
    omega (arith, within, clients-few history)

allowed_text : (history : List Entry) (client : ℕ) (what : Act) → MayDo history client what → length (act_text what) ≤ 65536
allowed_text history client act.Enter may = omega arith
allowed_text history client (act.Submit source) may = may.1
allowed_text history client (act.Turn thread steps) may = omega arith
allowed_text history client (act.Collect run) may = omega arith
allowed_text history client (act.Expire run steps) may = omega arith
allowed_text history client (act.Stop run) may = omega arith
allowed_text history client (act.Drop what) may = may.0.1
allowed_text history client (act.Ask what) may = may.0.1
allowed_text history client act.Reset may = omega arith
allowed_text history client act.Leave may = omega arith
allowed_text history client act.Close may = omega arith

pub allowed-text : (history : List Entry) (entry : Entry) → Allows history entry → length (act_text entry.act) ≤ 65536
allowed-text history entry allowed = allowed_text history entry.client entry.act allowed.may

allowed_steps : (history : List Entry) (client : ℕ) (what : Act) → MayDo history client what → turn_steps what ≤ 256
allowed_steps history client act.Enter may = omega arith
allowed_steps history client (act.Submit source) may = omega arith
allowed_steps history client (act.Turn thread steps) may = may.2
allowed_steps history client (act.Collect run) may = omega arith
allowed_steps history client (act.Expire run steps) may = omega arith
allowed_steps history client (act.Stop run) may = omega arith
allowed_steps history client (act.Drop what) may = omega arith
allowed_steps history client (act.Ask what) may = omega arith
allowed_steps history client act.Reset may = omega arith
allowed_steps history client act.Leave may = omega arith
allowed_steps history client act.Close may = omega arith

pub allowed-steps : (history : List Entry) (entry : Entry) → Allows history entry → turn_steps entry.act ≤ 256
allowed-steps history entry allowed = allowed_steps history entry.client entry.act allowed.may

-- ---- a written history with an entry more

pub writable-push : (history : List Entry) (entry : Entry) → AllByRecursion IsWritable history → IsWritable entry → AllByRecursion IsWritable (history ++ entry ∷ [])
writable-push [] entry all one = (one, tt)
writable-push (first ∷ history) entry all one = (all.0, writable-push history entry all.1 one)

pub written-push : (history : List Entry) (entry : Entry) → IsWritten history → Allows history entry → IsWritable entry → IsWritten (history ++ entry ∷ [])
written-push history entry written allowed one =
    record { legal = IsLegal-more history entry written.legal allowed; writable = writable-push history entry written.writable one }
