-- Which entries may come, by what stands for the history.
use Rattle.std.proofs.Common.{◌≡◌, ◌↔◌, ℕ, Bool, true, false, List, Option, None, Some, refl, ap, sym, ◌∙◌}
use Rattle.std.specs.Prelude.{IsTrue, is_some}
use Rattle.std.specs.List.{slice_get}
use Rattle.jsh_snippet.specs.declared.acts.Entry.{Entry}
use Rattle.jsh_core.specs.declared.log.Log.{Log}
use Rattle.jsh_core.specs.declared.parts.Parts.{Parts}
use Rattle.jsh_core.specs.State.{State}
use Rattle.jsh_core.specs.History.{Allows, MayDo}
use Rattle.jsh_core.specs.Stands.{StandsFor}
use Rattle.jsh_core.proofs.StandsLemmas.{closed_at-open, open-closed_at}

none-is : (closed : Option ℕ) → is_some closed ≡ false → closed ≡ None
none-is None e = refl
none-is (Some place) e = cc

none-isnt : (closed : Option ℕ) → is_some closed ≡ true → closed ≡ None → ⊥
none-isnt closed some none = let both : is_some {T = ℕ} None ≡ true = sym (ap is_some none) ∙ some in cc

-- no answer is both
pub clash : (answer : Bool) → answer ≡ true → answer ≡ false → ⊥
clash answer is isnt = cc

-- a client that is there, where nothing is closed, is left with what it may do
pub allowed-open : (log : Log) (parts : Parts) (entry : Entry) (there may : Bool) → StandsFor log parts →
    (IsTrue there ↔ (slice_get parts.clients.items entry.client ≡ Some true)) → (IsTrue may ↔ MayDo log.history.items entry.client entry.act) →
    there ≡ true → is_some log.closed ≡ false → IsTrue may ↔ Allows log.history.items entry
allowed-open log parts entry there may stands present does comes opened = (
  λ may_do. record {
    present = ap (λ (s : State). slice_get s.clients entry.client) (sym stands.state) ∙ present.0 comes;
    «open» = open-closed_at log.history.items (sym stands.closed ∙ none-is log.closed opened);
    may = does.0 may_do;
  },
  λ allowed. does.1 allowed.may,
)

-- a client that isn't there may do nothing
pub barred-absent : (log : Log) (parts : Parts) (entry : Entry) (there answer : Bool) → StandsFor log parts →
    (IsTrue there ↔ (slice_get parts.clients.items entry.client ≡ Some true)) → there ≡ false → answer ≡ false → IsTrue answer ↔ Allows log.history.items entry
barred-absent log parts entry there answer stands present absent refused = (
  λ granted. absurd (clash answer granted refused),
  λ allowed. absurd (clash there (present.1 (ap (λ (s : State). slice_get s.clients entry.client) stands.state ∙ allowed.present)) absent),
)

-- nothing follows a close
pub barred-closed : (log : Log) (parts : Parts) (entry : Entry) (answer : Bool) → StandsFor log parts → is_some log.closed ≡ true → answer ≡ false → IsTrue answer ↔ Allows log.history.items entry
barred-closed log parts entry answer stands closed refused = (
  λ granted. absurd (clash answer granted refused),
  λ allowed. absurd (none-isnt log.closed closed (stands.closed ∙ closed_at-open log.history.items allowed.open)),
)
