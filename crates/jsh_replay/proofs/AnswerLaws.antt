-- An answer with a cause is the only one.
use Rattle.std.proofs.Common.{◌≡◌, ℕ, List, Result, Ok, Err, refl, ap, ◌∙◌}
use Rattle.std.specs.Prelude.{MatchResult}
use Rattle.std.specs.Global.{Vec}
use Rattle.jsh_snippet.specs.declared.acts.Entry.{Entry}
use Rattle.jsh_snippet.specs.declared.replies.Reply.{Reply}
use Rattle.jsh_core.specs.History.{replies_of}
use Rattle.jsh_replay.specs.declared.journal_error.JournalError.{JournalError}
use Rattle.jsh_replay.specs.declared.journal_error.JournalError.TheVariants as error
use Rattle.jsh_replay.specs.Journal.{IsBadPlace, IsJournal}
use Rattle.jsh_replay.specs.Faults.{HasCause, IsReplay, IsShortOr}
use Rattle.jsh_replay.proofs.OneReading.{not_both, one_history, one_place}

pub only-history : (bytes : List ℕ) (history : List Entry) (r : Result (Vec Entry) JournalError) → MatchResult r (λ v. IsJournal bytes v.items) (λ why. HasCause bytes why) → IsJournal bytes history →
    MatchResult r (λ v. v.items ≡ history) (λ why. why ≡ error.NoMemory)
only-history bytes history (Ok v) h is = one_history bytes v.items history h is
only-history bytes history (Err error.NoMemory) h is = refl
only-history bytes history (Err (error.BadJournal place)) h is = absurd (not_both bytes history place is h)

pub only-place : (bytes : List ℕ) (place : ℕ) (r : Result (Vec Entry) JournalError) → MatchResult r (λ v. IsJournal bytes v.items) (λ why. HasCause bytes why) → IsBadPlace bytes place →
    MatchResult r (λ v. ⊥) (λ why. IsShortOr place why)
only-place bytes place (Ok v) h is = not_both bytes v.items place h is
only-place bytes place (Err error.NoMemory) h is = tt
only-place bytes place (Err (error.BadJournal found)) h is = one_place bytes found place h is

pub only-replies : (bytes : List ℕ) (history : List Entry) (r : Result (Vec Reply) JournalError) → MatchResult r (λ v. IsReplay bytes v.items) (λ why. HasCause bytes why) → IsJournal bytes history →
    MatchResult r (λ v. v.items ≡ replies_of history) (λ why. why ≡ error.NoMemory)
only-replies bytes history (Ok v) h is = h.2 ∙ ap replies_of (one_history bytes h.0 history h.1 is)
only-replies bytes history (Err error.NoMemory) h is = refl
only-replies bytes history (Err (error.BadJournal place)) h is = absurd (not_both bytes history place is h)

pub only-bad : (bytes : List ℕ) (place : ℕ) (r : Result (Vec Reply) JournalError) → MatchResult r (λ v. IsReplay bytes v.items) (λ why. HasCause bytes why) → IsBadPlace bytes place →
    MatchResult r (λ v. ⊥) (λ why. IsShortOr place why)
only-bad bytes place (Ok v) h is = not_both bytes h.0 place h.1 is
only-bad bytes place (Err error.NoMemory) h is = tt
only-bad bytes place (Err (error.BadJournal found)) h is = one_place bytes found place h is
