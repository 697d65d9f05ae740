-- A journal is written entry by entry.
use Rattle.std.proofs.Common.{◌≡◌, ℕ, ◌+◌, ◌<◌, ◌≤◌, List, [], ◌∷◌, ◌++◌, length, get_or, take, ap, sym, subst, ◌∙◌, append_assoc}
use Rattle.std.specs.Int.{w32, to_be_bytes}
use Rattle.std.specs.List.{AllByRecursion}
use Rattle.std.proofs.lemmas.List.{take_all, take_more}
use Rattle.jsh_snippet.specs.declared.acts.Entry.{Entry}
use Rattle.jsh_replay.specs.Journal.{end_bytes, entry_bytes, front_bytes, journal_bytes, IsWritable}
use Rattle.jsh_replay.proofs.LegalLaws.{writable-push}
use Rattle.jsh_replay.proofs.OneReading.{front-entry}

item-more : (history : List Entry) (i : ℕ) (entry : Entry) → i < length history → entry ≡ get_or history i entry → take (i + 1) history ≡ take i history ++ entry ∷ []
item-more history i entry lt is = take_more history i entry lt ∙ ap (λ (e : Entry). take i history ++ e ∷ []) (sym is)

pub item-front : (history : List Entry) (i : ℕ) (entry : Entry) (before after : List ℕ) → i < length history → entry ≡ get_or history i entry → before ≡ front_bytes (take i history) →
    after ≡ before ++ entry_bytes entry → after ≡ front_bytes (take (i + 1) history)
item-front history i entry before after lt is wrote pushed =
    pushed ∙ ap (λ (x : List ℕ). x ++ entry_bytes entry) wrote ∙ sym (front-entry (take i history) entry) ∙ ap front_bytes (sym (item-more history i entry lt is))

pub item-writable : (history : List Entry) (i : ℕ) (entry : Entry) → i < length history → entry ≡ get_or history i entry → AllByRecursion IsWritable (take i history) → IsWritable entry →
    AllByRecursion IsWritable (take (i + 1) history)
item-writable history i entry lt is all one =
    subst (λ (h : List Entry). AllByRecursion IsWritable h) (sym (item-more history i entry lt is)) (writable-push (take i history) entry all one)

pub whole-bytes : (history : List Entry) (i : ℕ) (front marked count whole : List ℕ) → length history ≤ i → front ≡ front_bytes (take i history) → marked ≡ front ++ 255 ∷ [] →
    count ≡ to_be_bytes w32 (length history) → whole ≡ marked ++ count → whole ≡ journal_bytes history
unfolding journal_bytes end_bytes
whole-bytes history i front marked count whole all wrote mark counted pushed =
    pushed ∙ ap (λ (x : List ℕ). x ++ count) mark ∙ append_assoc front (255 ∷ []) count ∙ ap (λ (x : List ℕ). front ++ 255 ∷ x) counted
    ∙ ap (λ (x : List ℕ). x ++ end_bytes history) (wrote ∙ ap front_bytes (take_all i history all))

pub whole-writable : (history : List Entry) (i : ℕ) → length history ≤ i → AllByRecursion IsWritable (take i history) → AllByRecursion IsWritable history
whole-writable history i all each = subst (λ (h : List Entry). AllByRecursion IsWritable h) (take_all i history all) each
