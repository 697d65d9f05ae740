-- What stands for a history, when an entry more comes.
use Rattle.std.proofs.Common.{◌≡◌, ℕ, suc, ◌+◌, ◌*◌, ◌<◌, ◌≤◌, Bool, true, false, cond, List, [], ◌∷◌, ◌++◌, Option, None, Some, length, min, refl, ap, sym, subst, ◌∙◌, arith, append_assoc, append-nil, length-append, add-zero, vec_capacity}
use Rattle.std.specs.Prelude.{◌||◌, if◌then◌else◌, not, eqb}
use Rattle.std.proofs.Math.Nat.{le_refl}
use Rattle.std.proofs.lemmas.Bool.{le-ltb, lt-ltb}
use Rattle.std.proofs.lemmas.Bool.Decides.{nat_tests}
use Rattle.std.proofs.lemmas.List.Folds.{position_or_len_push}
use Rattle.std.specs.List.{slice_get, position_or_len, list_any}
use Rattle.std.proofs.lemmas.List.Sums.{sum_by-append, count_by-le-length}
use Rattle.jsh_snippet.specs.declared.acts.Act.{Act}
use Rattle.jsh_snippet.specs.declared.acts.Act.TheVariants as act
use Rattle.jsh_snippet.specs.declared.acts.Entry.{Entry}
use Rattle.jsh_snippet.specs.declared.replies.Reply.{Reply}
use Rattle.jsh_core.specs.declared.parts.Parts.{Parts}
use Rattle.jsh_core.specs.declared.log.Log.{Log}
use Rattle.jsh_core.specs.Limits.{most_entries}
use Rattle.jsh_core.specs.State.{State, Stepped, opening}
use Rattle.jsh_core.specs.Parts.{state_from, IsSound, IsWithin}
use Rattle.jsh_core.specs.Acts.{entries_with, is_last}
use Rattle.jsh_core.specs.Step.{step}
use Rattle.jsh_core.specs.History.{source_bytes, act_bytes, is_close, closed_at, state_of, Allows, MayDo, IsLegalAfter, IsLegal}
use Rattle.jsh_core.specs.Stands.{StandsFor, entry_room, present_count}
use Rattle.jsh_core.proofs.Bounds.{StepsAtMost-weaker}
use Rattle.jsh_core.proofs.DeliveryLemmas.{IsReplied}
use Rattle.jsh_core.proofs.ListLemmas.{count_by-set_fewer}
use Rattle.jsh_core.proofs.Steps.{state_after-push}

legal_more : (past es : List Entry) (e : Entry) → IsLegalAfter past es → Allows (past ++ es) e → IsLegalAfter past (es ++ e ∷ [])
legal_more past [] e h a = (subst (λ (l : List Entry). Allows l e) (append-nil past) a, tt)
legal_more past (x ∷ es) e h a =
    (h.0, legal_more (past ++ x ∷ []) es e h.1 (subst (λ (l : List Entry). Allows l e) (sym (append_assoc past (x ∷ []) es)) a))

-- an entry that is allowed makes a longer history
pub IsLegal-more : (history : List Entry) (e : Entry) → IsLegal history → Allows history e → IsLegal (history ++ e ∷ [])
IsLegal-more history e h a = legal_more [] history e h a

pub source_bytes-more : (history : List Entry) (e : Entry) → source_bytes (history ++ e ∷ []) ≡ source_bytes history + act_bytes e.act
source_bytes-more history e =
    let both : source_bytes (history ++ e ∷ []) ≡ source_bytes history + (0 + act_bytes e.act) = sum_by-append (λ (entry : Entry). act_bytes entry.act) history (e ∷ []) in
    omega (arith, both)

-- whether an entry is a close
abbrev pub closes : Entry → Bool
closes e = is_close e.act

eqb_same : (n : ℕ) → eqb n n ≡ true
eqb_same n = grind (arith, nat_tests)

open_length : (h : List Entry) → list_any closes h ≡ false → position_or_len closes h ≡ length h
open_length [] o = refl
open_length (x ∷ xs) o = from (closes x) o (open_length xs)
  where
    from : (b : Bool) → (b || list_any closes xs) ≡ false → (list_any closes xs ≡ false → position_or_len closes xs ≡ length xs) → cond (not b) (1 + position_or_len closes xs) 0 ≡ suc (length xs)
    from true e h = cc
    from false e h = let same : position_or_len closes xs ≡ length xs = h e in omega (arith, same)

-- nothing closes an open history
pub closed_at-open : (h : List Entry) → list_any closes h ≡ false → closed_at h ≡ None
closed_at-open h o = rw (open_length h o, le-ltb (length h) (length h) (le_refl (length h))) refl

closed_length : (h : List Entry) → list_any closes h ≡ true → position_or_len closes h < length h
closed_length [] c = cc
closed_length (x ∷ xs) c = from (closes x) c (closed_length xs)
  where
    from : (b : Bool) → (b || list_any closes xs) ≡ true → (list_any closes xs ≡ true → position_or_len closes xs < length xs) → cond (not b) (1 + position_or_len closes xs) 0 < suc (length xs)
    from true e h = omega arith
    from false e h = let below : position_or_len closes xs < length xs = h e in omega (arith, below)

-- a history without a close is open
pub open-closed_at : (h : List Entry) → closed_at h ≡ None → list_any closes h ≡ false
open-closed_at h none = from (list_any closes h) refl
  where
    from : (b : Bool) → list_any closes h ≡ b → b ≡ false
    from false e = refl
    from true e =
        let some : closed_at h ≡ Some (position_or_len closes h) = rw (lt-ltb (position_or_len closes h) (length h) (closed_length h e)) refl in
        cc

open_length_more : (h : List Entry) (e : Entry) → list_any closes h ≡ false → position_or_len closes (h ++ e ∷ []) ≡ length h + cond (closes e) 0 1
open_length_more h e o =
    position_or_len_push closes h e ∙ rw (open_length h o, eqb_same (length h)) refl

-- where an entry comes behind an open history
closed_at-more : (h : List Entry) (e : Entry) → list_any closes h ≡ false →
    closed_at (h ++ e ∷ []) ≡ (if closes e then Some (length h) else None)
closed_at-more h e o = from (closes e) refl
  where
    at : (b : Bool) → closes e ≡ b → position_or_len closes (h ++ e ∷ []) ≡ length h + cond b 0 1
    at b is = open_length_more h e o ∙ ap (λ c. length h + cond c 0 1) is

    from : (b : Bool) → closes e ≡ b → closed_at (h ++ e ∷ []) ≡ (if b then Some (length h) else None)
    from true is =
        let place : position_or_len closes (h ++ e ∷ []) ≡ length h = at true is ∙ add-zero (length h) in
        let within : length h < length (h ++ e ∷ []) = simp length-append (omega arith) in
        rw (place, lt-ltb (length h) (length (h ++ e ∷ [])) within) refl
    from false is =
        let past : length (h ++ e ∷ []) ≤ length h + 1 = simp length-append (omega arith) in
        rw (at false is, le-ltb (length h + 1) (length (h ++ e ∷ [])) past) refl

-- what so many entries can have come to, more entries can have
pub IsWithin-more : (entries more : ℕ) (p : Parts) → entries ≤ more → IsWithin entries p → IsWithin more p
IsWithin-more entries more p wide h =
    let steps : 256 * entries ≤ 256 * more = omega arith in
    record {
      generation = omega (arith, h.generation);
      threads = omega (arith, h.threads);
      runs = omega (arith, h.runs);
      steps = StepsAtMost-weaker _ _ _ steps h.steps;
    }

-- the same of other parts for the same state
IsWithin-alike : (entries : ℕ) (p q : Parts) → state_from q ≡ state_from p → IsWithin entries p → IsWithin entries q
IsWithin-alike entries p q alike h = record {
  generation = rw (ap (λ (s : State). s.generation.number) alike) h.generation;
  threads = rw (ap (λ (s : State). s.world.threads) alike) h.threads;
  runs = rw (ap (λ (s : State). s.world.runs) alike) h.runs;
  steps = rw (ap (λ (s : State). s.world.threads) alike) h.steps;
}

-- the log with more room, and parts for the same state
pub StandsFor-same : (log same : Log) (parts after : Parts) → StandsFor log parts → same.history.items ≡ log.history.items → same.bytes ≡ log.bytes →
    same.closed ≡ log.closed → vec_capacity log.history ≤ vec_capacity same.history → state_from after ≡ state_from parts → IsSound after → StandsFor same after
StandsFor-same log same parts after old items bytes closed wide alike sound = record {
  legal = subst (λ (h : List Entry). IsLegal h) (sym items) old.legal;
  state = alike ∙ old.state ∙ sym (ap state_of items);
  sound = sound;
  within = subst (λ (h : List Entry). IsWithin (min (length h) most_entries) after) (sym items) (IsWithin-alike (min (length log.history.items) most_entries) parts after alike old.within);
  bytes = bytes ∙ old.bytes ∙ sym (ap source_bytes items);
  closed = closed ∙ old.closed ∙ sym (ap closed_at items);
  room = λ none. subst (λ (h : List Entry). length h + present_count after.clients.items + 1 ≤ vec_capacity same.history) (sym items)
      (subst (λ (clients : List Bool). length log.history.items + present_count clients + 1 ≤ vec_capacity same.history) (sym (ap (λ (s : State). s.clients) alike))
      (more (old.room (sym closed ∙ none))));
}
  where
    more : length log.history.items + present_count parts.clients.items + 1 ≤ vec_capacity log.history →
        length log.history.items + present_count parts.clients.items + 1 ≤ vec_capacity same.history
    more h = omega arith

-- a log that is an entry longer, in which this is counted
pub record IsLonger (log longer : Log) (entry : Entry) : Type 0 where
  pub items : longer.history.items ≡ log.history.items ++ entry ∷ []
  pub capacity : vec_capacity log.history ≤ vec_capacity longer.history
  pub bytes : longer.bytes ≡ log.bytes + act_bytes entry.act
  pub closed : longer.closed ≡ (if is_close entry.act then Some (length log.history.items) else log.closed)

-- the parts keep to what the longer history can have come to
within-more : (history : List Entry) (client : ℕ) (what : Act) (after : Parts) → MayDo history client what →
    IsWithin (entries_with (min (length history) most_entries) what) after →
    IsWithin (min (length (history ++ record { client = client; act = what } ∷ [])) most_entries) after
within-more history client what after may h = from what may h
  where
    one_more : (e : Entry) → length history < 4194304 → IsWithin (min (length history) 4194304 + 1) after → IsWithin (min (length (history ++ e ∷ [])) 4194304) after
    one_more e few h =
        let long : length (history ++ e ∷ []) ≡ length history + 1 = simp length-append (omega arith) in
        let wide : min (length history) 4194304 + 1 ≤ min (length (history ++ e ∷ [])) 4194304 = omega arith in
        IsWithin-more _ _ after wide h

    none_more : (e : Entry) → IsWithin (min (length history) 4194304) after → IsWithin (min (length (history ++ e ∷ [])) 4194304) after
    none_more e h =
        let long : length (history ++ e ∷ []) ≡ length history + 1 = simp length-append (omega arith) in
        let wide : min (length history) 4194304 ≤ min (length (history ++ e ∷ [])) 4194304 = omega arith in
        IsWithin-more _ _ after wide h

    from : (what : Act) → MayDo history client what → IsWithin (entries_with (min (length history) 4194304) what) after →
        IsWithin (min (length (history ++ record { client = client; act = what } ∷ [])) 4194304) after
    from act.Enter may h = one_more _ may h
    from (act.Submit source) may h = one_more _ may.0 h
    from (act.Turn thread steps) may h = one_more _ may.0 h
    from (act.Collect run) may h = one_more _ may h
    from (act.Expire run steps) may h = one_more _ may h
    from (act.Stop run) may h = one_more _ may h
    from (act.Drop target) may h = one_more _ may.0.0 h
    from (act.Ask question) may h = one_more _ may.0.0 h
    from act.Reset may h = one_more _ may h
    from act.Leave may h = none_more _ h
    from act.Close may h = none_more _ h

-- behind an entry the last ones find room: there is more, or the entry is itself one of them
room-more : (history : List Entry) (client : ℕ) (what : Act) (capacity wider : ℕ) (before after : State) (close : Option ℕ) →
    after ≡ (step before (record { client = client; act = what })).state → slice_get before.clients client ≡ Some true → length after.clients ≤ 64 →
    length history + present_count before.clients + 1 ≤ capacity → capacity ≤ wider →
    (is_last what ≡ false → length history + entry_room ≤ wider) →
    (if is_close what then Some (length history) else close) ≡ None →
    length (history ++ record { client = client; act = what } ∷ []) + present_count after.clients + 1 ≤ wider
room-more history client what capacity wider before after close is there few old wide enough none = within what is enough none
  where
    present : present_count after.clients ≤ length after.clients
    present = count_by-le-length (λ (there : Bool). there) after.clients

    roomy : (e : Entry) → length history + 66 ≤ wider → length (history ++ e ∷ []) + present_count after.clients + 1 ≤ wider
    roomy e room =
        let long : length (history ++ e ∷ []) ≡ length history + 1 = simp length-append (omega arith) in
        omega (arith, long, present, few, room)

    within : (what : Act) → after ≡ (step before (record { client = client; act = what })).state → (is_last what ≡ false → length history + entry_room ≤ wider) →
        (if is_close what then Some (length history) else close) ≡ None → length (history ++ record { client = client; act = what } ∷ []) + present_count after.clients + 1 ≤ wider
    within act.Leave is enough none =
        let long : length (history ++ record { client = client; act = act.Leave } ∷ []) ≡ length history + 1 = simp length-append (omega arith) in
        let fewer : present_count after.clients + 1 ≡ present_count before.clients =
        ap (λ (s : State). present_count s.clients + 1) is ∙ count_by-set_fewer (λ (there : Bool). there) before.clients client true false there refl refl in
        omega (arith, long, fewer, old, wide)
    within act.Close is enough none = cc
    within act.Enter is enough none = roomy _ (enough refl)
    within (act.Submit source) is enough none = roomy _ (enough refl)
    within (act.Turn thread steps) is enough none = roomy _ (enough refl)
    within (act.Collect run) is enough none = roomy _ (enough refl)
    within (act.Expire run steps) is enough none = roomy _ (enough refl)
    within (act.Stop run) is enough none = roomy _ (enough refl)
    within (act.Drop target) is enough none = roomy _ (enough refl)
    within (act.Ask question) is enough none = roomy _ (enough refl)
    within act.Reset is enough none = roomy _ (enough refl)

-- an entry more, whose act was done and replied to
pub StandsFor-next : (log longer : Log) (client : ℕ) (what : Act) (parts after : Parts) (reply : Reply) → StandsFor log parts →
    Allows log.history.items (record { client = client; act = what }) → IsLonger log longer (record { client = client; act = what }) →
    IsReplied parts after client what reply → (is_last what ≡ false → length log.history.items + entry_room ≤ vec_capacity log.history) → StandsFor longer after
StandsFor-next log longer client what parts after reply old allowed more done enough =
    let entry : Entry = record { client = client; act = what } in
    let history : List Entry = log.history.items in
    let is : state_from after ≡ (step (state_from parts) entry).state = ap (λ (s : Stepped). s.state) done.step in
    let none : log.closed ≡ None = old.closed ∙ closed_at-open history allowed.open in
    let roomy : (is_last what ≡ false → length history + entry_room ≤ vec_capacity longer.history) =
    λ plain. (let room : length history + 66 ≤ vec_capacity log.history = enough plain in omega (arith, room, more.capacity)) in
    let there : slice_get parts.clients.items client ≡ Some true = ap (λ (s : State). slice_get s.clients client) old.state ∙ allowed.present in
    record {
      legal = subst (λ (h : List Entry). IsLegal h) (sym more.items) (IsLegal-more history entry old.legal allowed);
      state = is ∙ ap (λ (s : State). (step s entry).state) old.state ∙ sym (state_after-push opening history entry) ∙ sym (ap state_of more.items);
      sound = done.sound;
      within = subst (λ (h : List Entry). IsWithin (min (length h) most_entries) after) (sym more.items)
          (within-more history client what after allowed.may (done.within _ old.within));
      bytes = more.bytes ∙ ap (λ n. n + act_bytes what) old.bytes ∙ sym (source_bytes-more history entry) ∙ sym (ap source_bytes more.items);
      closed = more.closed ∙ ap (λ (c : Option ℕ). if is_close what then Some (length history) else c) none ∙ sym (closed_at-more history entry allowed.open) ∙ sym (ap closed_at more.items);
      room = λ later. subst (λ (h : List Entry). length h + present_count after.clients.items + 1 ≤ vec_capacity longer.history) (sym more.items)
          (room-more history client what (vec_capacity log.history) (vec_capacity longer.history) (state_from parts) (state_from after) log.closed is there done.sound.clients
          (old.room none) more.capacity roomy (sym more.closed ∙ later));
    }

-- there is room for an entry, or it was left for it
pub room-for : (log roomy : Log) (parts : Parts) (entry : Entry) → StandsFor log parts → Allows log.history.items entry → roomy.history.items ≡ log.history.items →
    vec_capacity log.history ≤ vec_capacity roomy.history → (is_last entry.act ≡ false → length log.history.items + entry_room ≤ vec_capacity roomy.history) →
    length roomy.history.items + 1 ≤ vec_capacity roomy.history
room-for log roomy parts entry old allowed items wide enough =
    subst (λ (h : List Entry). length h + 1 ≤ vec_capacity roomy.history) (sym items) (from (is_last entry.act) refl)
  where
    from : (last : Bool) → is_last entry.act ≡ last → length log.history.items + 1 ≤ vec_capacity roomy.history
    from true is =
        let room : length log.history.items + present_count parts.clients.items + 1 ≤ vec_capacity log.history =
        old.room (old.closed ∙ closed_at-open log.history.items allowed.open) in
        omega arith
    from false is =
        let room : length log.history.items + 66 ≤ vec_capacity roomy.history = enough is in
        omega arith

-- a turn of fewer steps is allowed too
pub Allows-fewer : (history : List Entry) (client thread steps fewer : ℕ) → Allows history (record { client = client; act = act.Turn thread steps }) →
    1 ≤ fewer → fewer ≤ steps → Allows history (record { client = client; act = act.Turn thread fewer })
Allows-fewer history client thread steps fewer allowed some few =
    let most : steps ≤ 256 = allowed.may.2 in
    record { present = allowed.present; «open» = allowed.open; may = (allowed.may.0, some, omega arith) }
