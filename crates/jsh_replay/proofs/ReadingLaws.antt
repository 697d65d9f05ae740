-- Reading item by item.
use Rattle.std.proofs.Common.{◌≡◌, ℕ, ◌-◌, ◌<◌, ◌≤◌, List, [], ◌∷◌, ◌++◌, None, Some, length, refl, ap, sym, subst, ◌∙◌, length-append, arith}
use Rattle.std.proofs.lemmas.List.{drop_at}
use Rattle.jsh_snippet.specs.declared.acts.Entry.{Entry}
use Rattle.jsh_replay.specs.Journal.{header, front_bytes, journal_bytes, BeginsWithEntry, IsBadPlace, IsJournal, IsNext}
use Rattle.jsh_replay.specs.Reading.{behind_end}
use Rattle.jsh_replay.proofs.FieldLaws.{IsBytes, IsBytes-drop}
use Rattle.jsh_replay.proofs.OneReading.{IsFront, bad-item, bad-more, ends-parts, front-first, front-more, whole-journal}

pub opened : (bytes rest : List ℕ) (past : List Entry) → past ≡ [] → bytes ≡ header ++ rest → IsFront bytes past rest
opened bytes rest past none parts = subst (λ (h : List Entry). IsFront bytes h rest) (sym none) (front-first bytes rest parts)

pub went-on : (bytes : List ℕ) (past later : List Entry) (rest : List ℕ) (entry : Entry) (after : List ℕ) → IsFront bytes past rest → IsNext past rest entry after → later ≡ past ++ entry ∷ [] →
    IsFront bytes later after
went-on bytes past later rest entry after front next longer =
    subst (λ (h : List Entry). IsFront bytes h after) (sym longer) (front-more bytes past rest entry after front next)

-- what is left of some bytes is bytes
front-fits : (bytes : List ℕ) (history : List Entry) (rest : List ℕ) → IsFront bytes history rest → IsBytes bytes → IsBytes rest
front-fits bytes history rest front fits =
    subst (λ (x : List ℕ). IsBytes x) (drop_at (front_bytes history) rest (length (front_bytes history)) refl)
    (IsBytes-drop (length (front_bytes history)) (front_bytes history ++ rest) (subst (λ (x : List ℕ). IsBytes x) front.parts fits))

pub front-shorter : (bytes : List ℕ) (history : List Entry) (rest : List ℕ) → IsFront bytes history rest → length rest ≤ length bytes
front-shorter bytes history rest front =
    let lengths : length bytes ≡ length (front_bytes history ++ rest) = ap length front.parts in
    omega (arith, lengths, length-append (front_bytes history) rest)

-- no item comes
pub refused-item : (bytes : List ℕ) (history : List Entry) (rest : List ℕ) (count place : ℕ) → IsFront bytes history rest → ¬ BeginsWithEntry history rest → count ≡ length history →
    None ≡ behind_end count rest → place ≡ length bytes - length rest → IsBadPlace bytes place
refused-item bytes history rest count place front stuck counted none at =
    bad-item bytes history rest place front stuck (ap (λ n. behind_end n rest) (sym counted) ∙ sym none) at

-- nothing is left
pub read-whole : (bytes : List ℕ) (history items : List Entry) (rest more : List ℕ) (count : ℕ) → IsFront bytes history rest → IsBytes bytes → items ≡ history → count ≡ length history →
    Some more ≡ behind_end count rest → length more ≡ 0 → IsJournal bytes items
read-whole bytes history items rest [] count front fits same counted found none =
    subst (λ (h : List Entry). IsJournal bytes h) (sym same)
    (whole-journal bytes history rest front (front-fits bytes history rest front fits) (ap (λ n. behind_end n rest) (sym counted) ∙ sym found))
read-whole bytes history items rest (byte ∷ more) count front fits same counted found none = absurd (omega arith)

-- something is left
pub read-more : (bytes : List ℕ) (history : List Entry) (rest more : List ℕ) (count place : ℕ) → IsFront bytes history rest → IsBytes bytes → count ≡ length history →
    Some more ≡ behind_end count rest → 0 < length more → place ≡ length bytes - length more → IsBadPlace bytes place
read-more bytes history rest [] count place front fits counted found some at = absurd (omega arith)
read-more bytes history rest (byte ∷ more) count place front fits counted found some at =
    bad-more bytes history rest byte more place front (front-fits bytes history rest front fits) (ap (λ n. behind_end n rest) (sym counted) ∙ sym found) at

pub more-shorter : (bytes : List ℕ) (history : List Entry) (rest more : List ℕ) (count : ℕ) → IsFront bytes history rest → IsBytes bytes → count ≡ length history →
    Some more ≡ behind_end count rest → length more ≤ length bytes
more-shorter bytes history rest more count front fits counted found =
    let parts : bytes ≡ journal_bytes history ++ more = ends-parts bytes history rest more front (front-fits bytes history rest front fits) (ap (λ n. behind_end n rest) (sym counted) ∙ sym found) in
    omega (arith, ap length parts, length-append (journal_bytes history) more)
