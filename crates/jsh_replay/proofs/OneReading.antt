-- Bytes are the journal of one history, or have one bad place.
use Rattle.std.proofs.Common.{◌≡◌, ◌⊎◌, inl, inr, ℕ, zero, suc, ◌-◌, ◌<◌, ◌≤◌, Bool, true, false, eqb, List, [], ◌∷◌, ◌++◌, Option, None, Some, length, take, drop, refl, ap, sym, subst, ◌∙◌, append_assoc, append-nil, length-append, arith}
use Rattle.std.specs.List.{flat_map, AllByRecursion}
use Rattle.std.specs.Cmp.Lexicographic.{pointwise}
use Rattle.std.proofs.lemmas.Bool.{both_ways}
use Rattle.std.proofs.lemmas.Bool.Decides.{Decides-eqb}
use Rattle.std.proofs.lemmas.List.Concat.{flat_map-append}
use Rattle.std.proofs.lemmas.Option.{none-some, same_Some}
use Rattle.std.proofs.lemmas.Slice.Eq.{starts_is}
use Rattle.jsh_snippet.specs.declared.acts.Act.{Act}
use Rattle.jsh_snippet.specs.declared.acts.Act.TheVariants as act
use Rattle.jsh_snippet.specs.declared.acts.Entry.{Entry}
use Rattle.jsh_core.specs.History.{Allows, IsLegalAfter}
use Rattle.jsh_replay.specs.Journal.{BeginsWith, BeginsWithEntry, IsBadPlace, IsJournal, IsNext, IsWritable, IsWritten, end_bytes, entry_bytes, field_bytes, front_bytes, header, journal_bytes, tag}
use Rattle.jsh_replay.specs.Journal.{no_header, no_item, too_long}
use Rattle.jsh_replay.specs.Reading.{behind_end, entry_at}
use Rattle.jsh_replay.proofs.ActLaws.{entry_again, entry_takes}
use Rattle.jsh_replay.proofs.EndLaws.{end-again, end-takes}
use Rattle.jsh_replay.proofs.FieldLaws.{IsBytes, IsBytes-all, IsBytes-drop, Takes}
use Rattle.jsh_replay.proofs.LegalLaws.{legal-few, written-push}
use Rattle.jsh_replay.proofs.StandingLaws.{allows_or_not, Decided}

-- ---- what stands behind some entries

-- the bytes begin with these entries, which can be those of a journal
pub record IsFront (bytes : List ℕ) (history : List Entry) (rest : List ℕ) : Type 0 where
  pub written : IsWritten history
  pub parts : bytes ≡ front_bytes history ++ rest

pub front-entry : (history : List Entry) (entry : Entry) → front_bytes (history ++ entry ∷ []) ≡ front_bytes history ++ entry_bytes entry
unfolding front_bytes
front-entry history entry =
    let more : flat_map entry_bytes (history ++ entry ∷ []) ≡ flat_map entry_bytes history ++ (entry_bytes entry ++ []) = flat_map-append entry_bytes history (entry ∷ []) in
    ap (λ (x : List ℕ). header ++ x) (more ∙ ap (λ (x : List ℕ). flat_map entry_bytes history ++ x) (append-nil (entry_bytes entry)))
    ∙ sym (append_assoc header (flat_map entry_bytes history) (entry_bytes entry))

front-push : (history : List Entry) (entry : Entry) (rest : List ℕ) → front_bytes (history ++ entry ∷ []) ++ rest ≡ front_bytes history ++ (entry_bytes entry ++ rest)
front-push history entry rest = ap (λ (x : List ℕ). x ++ rest) (front-entry history entry) ∙ append_assoc (front_bytes history) (entry_bytes entry) rest

-- the entries are one more where the next one comes
pub front-more : (bytes : List ℕ) (history : List Entry) (rest : List ℕ) (entry : Entry) (after : List ℕ) → IsFront bytes history rest → IsNext history rest entry after →
    IsFront bytes (history ++ entry ∷ []) after
front-more bytes history rest entry after front next =
    record {
      written = written-push history entry front.written next.allowed next.writable;
      parts = front.parts ∙ ap (λ (x : List ℕ). front_bytes history ++ x) next.bytes_are ∙ sym (front-push history entry after);
    }

-- an entry takes two bytes or more
pub next-shorter : (history : List Entry) (bytes : List ℕ) (entry : Entry) (rest : List ℕ) → IsNext history bytes entry rest → length rest < length bytes
unfolding entry_bytes
next-shorter history bytes entry rest next =
    let whole : length bytes ≡ length (entry_bytes entry ++ rest) = ap length next.bytes_are in
    omega (arith, whole, length-append (field_bytes entry.act) rest)

pub front-opening : (rest : List ℕ) → front_bytes [] ++ rest ≡ header ++ rest
unfolding front_bytes
front-opening rest = refl

-- ---- the entries are told by the bytes

-- what two entries spell alike, they are
same_entry : (a b : Entry) (r s : List ℕ) → IsWritable a → IsWritable b → entry_bytes a ++ r ≡ entry_bytes b ++ s → ◌≡◌ {A = Entry × List ℕ} (a, r) (b, s)
same_entry a b r s fits_a fits_b e = same_Some {A = Entry × List ℕ} (a, r) (b, s) (sym (entry_again a r fits_a) ∙ ap entry_at e ∙ entry_again b s fits_b)

-- two lists of entries that nothing can go on are the same
record AreSame (one other : List Entry) (r s : List ℕ) : Type 0 where
  entries : one ≡ other
  rests : r ≡ s

goes-on : (past : List Entry) (entry : Entry) (entries : List Entry) (r s : List ℕ) → Allows past entry → IsWritable entry → r ≡ flat_map entry_bytes (entry ∷ entries) ++ s → BeginsWithEntry (past ++ []) r
goes-on past entry entries r s allowed fits e =
    subst (λ (h : List Entry). BeginsWithEntry h r) (sym (append-nil past))
    (entry, flat_map entry_bytes entries ++ s, record { allowed = allowed; writable = fits; bytes_are = e ∙ append_assoc (entry_bytes entry) (flat_map entry_bytes entries) s })

same_entries : (past one other : List Entry) (r s : List ℕ) → IsLegalAfter past one → AllByRecursion IsWritable one → IsLegalAfter past other → AllByRecursion IsWritable other →
    flat_map entry_bytes one ++ r ≡ flat_map entry_bytes other ++ s → ¬ BeginsWithEntry (past ++ one) r → ¬ BeginsWithEntry (past ++ other) s → AreSame one other r s
same_entries past [] [] r s legal fits legal' fits' e stuck stuck' = record { entries = refl; rests = e }
same_entries past [] (b ∷ others) r s legal fits legal' fits' e stuck stuck' = absurd (stuck (goes-on past b others r s legal'.0 fits'.0 e))
same_entries past (a ∷ more) [] r s legal fits legal' fits' e stuck stuck' = absurd (stuck' (goes-on past a more s r legal.0 fits.0 (sym e)))
same_entries past (a ∷ more) (b ∷ others) r s legal fits legal' fits' e stuck stuck' =
    let heads : ◌≡◌ {A = Entry × List ℕ} (a, flat_map entry_bytes more ++ r) (b, flat_map entry_bytes others ++ s) =
    same_entry a b (flat_map entry_bytes more ++ r) (flat_map entry_bytes others ++ s) fits.0 fits'.0
    (sym (append_assoc (entry_bytes a) (flat_map entry_bytes more) r) ∙ e ∙ append_assoc (entry_bytes b) (flat_map entry_bytes others) s) in
    let first : a ≡ b = ap (λ (x : Entry × List ℕ). x.0) heads in
    let later : IsLegalAfter (past ++ a ∷ []) others = subst (λ (x : Entry). IsLegalAfter (past ++ x ∷ []) others) (sym first) legal'.1 in
    let still : ¬ BeginsWithEntry ((past ++ a ∷ []) ++ more) r = subst (λ (h : List Entry). ¬ BeginsWithEntry h r) (sym (append_assoc past (a ∷ []) more)) stuck in
    let moved : ¬ BeginsWithEntry (past ++ a ∷ others) s = subst (λ (x : Entry). ¬ BeginsWithEntry (past ++ x ∷ others) s) (sym first) stuck' in
    let still' : ¬ BeginsWithEntry ((past ++ a ∷ []) ++ others) s = subst (λ (h : List Entry). ¬ BeginsWithEntry h s) (sym (append_assoc past (a ∷ []) others)) moved in
    let rest : AreSame more others r s = same_entries (past ++ a ∷ []) more others r s legal.1 fits.1 later fits'.1 (ap (λ (x : Entry × List ℕ). x.1) heads) still still' in
    let tails : more ≡ others = rest.entries in
    record { entries = ap (λ (x : Entry). x ∷ more) first ∙ ap (λ (xs : List Entry). b ∷ xs) tails; rests = rest.rests }

-- the bytes are these entries and a rest with which they can't go on
record IsStuck (bytes : List ℕ) (history : List Entry) (rest : List ℕ) : Type 0 where
  front : IsFront bytes history rest
  stuck : ¬ BeginsWithEntry history rest

one_stop : (bytes : List ℕ) (one other : List Entry) (r s : List ℕ) → IsStuck bytes one r → IsStuck bytes other s → AreSame one other r s
unfolding front_bytes
one_stop bytes one other r s h k =
    let whole : (header ++ flat_map entry_bytes one) ++ r ≡ (header ++ flat_map entry_bytes other) ++ s = sym h.front.parts ∙ k.front.parts in
    same_entries [] one other r s h.front.written.legal h.front.written.writable k.front.written.legal k.front.written.writable (ap (drop 6) whole) h.stuck k.stuck

-- ---- the end mark is no entry

tag-small : (what : Act) → tag what < 12
unfolding tag
tag-small act.Enter = omega arith
tag-small (act.Submit source) = omega arith
tag-small (act.Turn thread steps) = omega arith
tag-small (act.Collect run) = omega arith
tag-small (act.Expire run steps) = omega arith
tag-small (act.Stop run) = omega arith
tag-small (act.Drop what) = omega arith
tag-small (act.Ask what) = omega arith
tag-small act.Reset = omega arith
tag-small act.Leave = omega arith
tag-small act.Close = omega arith

abbrev first_or : List ℕ → ℕ
first_or [] = 0
first_or (b ∷ bytes) = b

ended : (history : List Entry) (more : List ℕ) → ¬ BeginsWithEntry history (end_bytes history ++ more)
unfolding end_bytes entry_bytes
ended history more begins =
    let first : 255 ≡ tag begins.0.act = ap first_or begins.2.bytes_are in
    omega (arith, first, tag-small begins.0.act)

empty : (history : List Entry) → ¬ BeginsWithEntry history []
unfolding entry_bytes
empty history begins = let same : ◌≡◌ {A = List ℕ} [] (entry_bytes begins.0 ++ begins.1) = begins.2.bytes_are in cc

journal-parts : (bytes : List ℕ) (history : List Entry) → IsJournal bytes history → bytes ≡ front_bytes history ++ end_bytes history
unfolding journal_bytes
journal-parts bytes history is = is.bytes_are

journal-stuck : (bytes : List ℕ) (history : List Entry) → IsJournal bytes history → IsStuck bytes history (end_bytes history)
journal-stuck bytes history is = record {
  front = record { written = is.written; parts = journal-parts bytes history is };
  stuck = subst (λ (r : List ℕ). ¬ BeginsWithEntry history r) (append-nil (end_bytes history)) (ended history []);
}

long-stuck : (bytes : List ℕ) (history : List Entry) (byte : ℕ) (rest : List ℕ) → IsWritten history → bytes ≡ journal_bytes history ++ byte ∷ rest → IsStuck bytes history (end_bytes history ++ byte ∷ rest)
unfolding journal_bytes
long-stuck bytes history byte rest written parts = record {
  front = record { written = written; parts = parts ∙ append_assoc (front_bytes history) (end_bytes history) (byte ∷ rest) };
  stuck = ended history (byte ∷ rest);
}

front-headed : (bytes : List ℕ) (history : List Entry) (rest : List ℕ) → IsFront bytes history rest → BeginsWith header bytes
unfolding front_bytes
front-headed bytes history rest front = (flat_map entry_bytes history ++ rest, front.parts ∙ append_assoc header (flat_map entry_bytes history) rest)

end-length : (history : List Entry) → length (end_bytes history) ≡ 5
unfolding end_bytes
end-length history = refl

-- ---- one reading

pub one_history : (bytes : List ℕ) (one other : List Entry) → IsJournal bytes one → IsJournal bytes other → one ≡ other
one_history bytes one other h k =
    let same : AreSame one other (end_bytes one) (end_bytes other) = one_stop bytes one other (end_bytes one) (end_bytes other) (journal-stuck bytes one h) (journal-stuck bytes other k) in
    same.entries

not_longer : (a b : List Entry) (byte : ℕ) (rest : List ℕ) → end_bytes a ≡ end_bytes b ++ byte ∷ rest → ⊥
not_longer a b byte rest e =
    let lengths : length (end_bytes a) ≡ length (end_bytes b ++ byte ∷ rest) = ap length e in
    omega (arith, lengths, length-append (end_bytes b) (byte ∷ rest), end-length a, end-length b)

pub not_both : (bytes : List ℕ) (history : List Entry) (place : ℕ) → IsJournal bytes history → IsBadPlace bytes place → ⊥
not_both bytes history place is (no_header none at) =
    let stuck : IsStuck bytes history (end_bytes history) = journal-stuck bytes history is in
    none (front-headed bytes history (end_bytes history) stuck.front)
not_both bytes history place is (no_item other rest written parts stuck no_end at) =
    let same : AreSame history other (end_bytes history) rest =
    one_stop bytes history other (end_bytes history) rest (journal-stuck bytes history is) (record { front = record { written = written; parts = parts }; stuck = stuck }) in
    no_end ([], sym same.rests ∙ ap end_bytes same.entries ∙ sym (append-nil (end_bytes other)))
not_both bytes history place is (too_long other byte rest written parts at) =
    let same : AreSame history other (end_bytes history) (end_bytes other ++ byte ∷ rest) =
    one_stop bytes history other (end_bytes history) (end_bytes other ++ byte ∷ rest) (journal-stuck bytes history is) (long-stuck bytes other byte rest written parts) in
    not_longer history other byte rest same.rests

-- a place other than the header's
data IsPlaced (bytes : List ℕ) (place : ℕ) : Type 0 where
  item : (history : List Entry) (rest : List ℕ) → IsStuck bytes history rest → ¬ BeginsWith (end_bytes history) rest → place ≡ length (front_bytes history) → IsPlaced bytes place
  long : (history : List Entry) (byte : ℕ) (rest : List ℕ) → IsStuck bytes history (end_bytes history ++ byte ∷ rest) → place ≡ length (journal_bytes history) → IsPlaced bytes place

placed-headed : (bytes : List ℕ) (place : ℕ) → IsPlaced bytes place → BeginsWith header bytes
placed-headed bytes place (item history rest stuck no_end at) = front-headed bytes history rest stuck.front
placed-headed bytes place (long history byte rest stuck at) = front-headed bytes history (end_bytes history ++ byte ∷ rest) stuck.front

not_item_and_long : (bytes : List ℕ) (one other : List Entry) (r : List ℕ) (byte : ℕ) (s : List ℕ) → IsStuck bytes one r → ¬ BeginsWith (end_bytes one) r → IsStuck bytes other (end_bytes other ++ byte ∷ s) → ⊥
not_item_and_long bytes one other r byte s h no_end k =
    let same : AreSame one other r (end_bytes other ++ byte ∷ s) = one_stop bytes one other r (end_bytes other ++ byte ∷ s) h k in
    no_end (byte ∷ s, same.rests ∙ ap (λ (x : List Entry). end_bytes x ++ byte ∷ s) (sym same.entries))

one_placed : (bytes : List ℕ) (p q : ℕ) → IsPlaced bytes p → IsPlaced bytes q → p ≡ q
one_placed bytes p q (item one r h no_end at) (item other s k no_end' at') =
    let same : AreSame one other r s = one_stop bytes one other r s h k in
    at ∙ ap (λ (x : List Entry). length (front_bytes x)) same.entries ∙ sym at'
one_placed bytes p q (item one r h no_end at) (long other byte s k at') = absurd (not_item_and_long bytes one other r byte s h no_end k)
one_placed bytes p q (long one byte r h at) (item other s k no_end at') = absurd (not_item_and_long bytes other one s byte r k no_end h)
one_placed bytes p q (long one a r h at) (long other b s k at') =
    let same : AreSame one other (end_bytes one ++ a ∷ r) (end_bytes other ++ b ∷ s) = one_stop bytes one other (end_bytes one ++ a ∷ r) (end_bytes other ++ b ∷ s) h k in
    at ∙ ap (λ (x : List Entry). length (journal_bytes x)) same.entries ∙ sym at'

-- a bad place is the header's, or another
placed : (bytes : List ℕ) (place : ℕ) → IsBadPlace bytes place → ((¬ BeginsWith header bytes) × (place ≡ 0)) ⊎ IsPlaced bytes place
placed bytes place (no_header none at) = inl (none, at)
placed bytes place (no_item history rest written parts stuck no_end at) =
    inr (item history rest (record { front = record { written = written; parts = parts }; stuck = stuck }) no_end at)
placed bytes place (too_long history byte rest written parts at) = inr (long history byte rest (long-stuck bytes history byte rest written parts) at)

pub one_place : (bytes : List ℕ) (p q : ℕ) → IsBadPlace bytes p → IsBadPlace bytes q → p ≡ q
one_place bytes p q h k = from (placed bytes p h) (placed bytes q k)
  where
    from : ((¬ BeginsWith header bytes) × (p ≡ 0)) ⊎ IsPlaced bytes p → ((¬ BeginsWith header bytes) × (q ≡ 0)) ⊎ IsPlaced bytes q → p ≡ q
    from (inl x) (inl y) = x.1 ∙ sym y.1
    from (inl x) (inr y) = absurd (x.0 (placed-headed bytes q y))
    from (inr x) (inl y) = absurd (y.0 (placed-headed bytes p x))
    from (inr x) (inr y) = one_placed bytes p q x y

-- ---- some reading

abbrev pub HasReading : List ℕ → Type 0
HasReading bytes = ((history : List Entry) × IsJournal bytes history) ⊎ ((place : ℕ) × IsBadPlace bytes place)

-- the end mark isn't there
pub no-end : (history : List Entry) (rest : List ℕ) → IsWritten history → behind_end (length history) rest ≡ None → ¬ BeginsWith (end_bytes history) rest
unfolding end_bytes
no-end history rest written none begins =
    none-some begins.0 (sym none ∙ ap (behind_end (length history)) begins.1 ∙ end-again (length history) begins.0 (legal-few history written.legal))

-- the end mark is there
pub an-end : (history : List Entry) (rest more : List ℕ) → IsBytes rest → behind_end (length history) rest ≡ Some more → rest ≡ end_bytes history ++ more
unfolding end_bytes
an-end history rest more fits e =
    let takes : Takes rest (end_bytes history) more = end-takes (length history) rest more fits e in
    takes.parts

pub bad-item : (bytes : List ℕ) (history : List Entry) (rest : List ℕ) (place : ℕ) → IsFront bytes history rest → ¬ BeginsWithEntry history rest →
    behind_end (length history) rest ≡ None → place ≡ length bytes - length rest → IsBadPlace bytes place
bad-item bytes history rest place front stuck none at =
    let lengths : length bytes ≡ length (front_bytes history ++ rest) = ap length front.parts in
    no_item history rest front.written front.parts stuck (no-end history rest front.written none) (omega (arith, lengths, at, length-append (front_bytes history) rest))

pub ends-parts : (bytes : List ℕ) (history : List Entry) (rest more : List ℕ) → IsFront bytes history rest → IsBytes rest → behind_end (length history) rest ≡ Some more → bytes ≡ journal_bytes history ++ more
unfolding journal_bytes
ends-parts bytes history rest more front fits e =
    front.parts ∙ ap (λ (x : List ℕ). front_bytes history ++ x) (an-end history rest more fits e) ∙ sym (append_assoc (front_bytes history) (end_bytes history) more)

pub bad-more : (bytes : List ℕ) (history : List Entry) (rest : List ℕ) (byte : ℕ) (more : List ℕ) (place : ℕ) → IsFront bytes history rest → IsBytes rest →
    behind_end (length history) rest ≡ Some (byte ∷ more) → place ≡ length bytes - length (byte ∷ more) → IsBadPlace bytes place
bad-more bytes history rest byte more place front fits e at =
    let parts : bytes ≡ journal_bytes history ++ byte ∷ more = ends-parts bytes history rest (byte ∷ more) front fits e in
    let lengths : length bytes ≡ length (journal_bytes history ++ byte ∷ more) = ap length parts in
    too_long history byte more front.written parts (omega (arith, lengths, at, length-append (journal_bytes history) (byte ∷ more)))

pub whole-journal : (bytes : List ℕ) (history : List Entry) (rest : List ℕ) → IsFront bytes history rest → IsBytes rest → behind_end (length history) rest ≡ Some [] → IsJournal bytes history
whole-journal bytes history rest front fits e =
    record { written = front.written; bytes_are = ends-parts bytes history rest [] front fits e ∙ append-nil (journal_bytes history) }

stopped : (bytes : List ℕ) (history : List Entry) (rest : List ℕ) → IsFront bytes history rest → IsBytes rest → ¬ BeginsWithEntry history rest → HasReading bytes
stopped bytes history rest front fits stuck = from (behind_end (length history) rest) refl
  where
    from : (o : Option (List ℕ)) → behind_end (length history) rest ≡ o → HasReading bytes
    from None e = inr (length bytes - length rest, bad-item bytes history rest (length bytes - length rest) front stuck e refl)
    from (Some []) e = inl (history, whole-journal bytes history rest front fits e)
    from (Some (byte ∷ more)) e = inr (length bytes - length (byte ∷ more), bad-more bytes history rest byte more (length bytes - length (byte ∷ more)) front fits e refl)

-- no entry comes where none is read
pub none-read : (history : List Entry) (rest : List ℕ) → entry_at rest ≡ None → ¬ BeginsWithEntry history rest
none-read history rest none begins =
    none-some {A = Entry × List ℕ} (begins.0, begins.1) (sym none ∙ ap entry_at begins.2.bytes_are ∙ entry_again begins.0 begins.1 begins.2.writable)

-- no entry comes where the one that is read may not
pub none-allowed : (history : List Entry) (rest : List ℕ) (x : Entry × List ℕ) → entry_at rest ≡ Some x → ¬ Allows history x.0 → ¬ BeginsWithEntry history rest
none-allowed history rest x read refused begins =
    let same : x ≡ (begins.0, begins.1) = same_Some x (begins.0, begins.1) (sym read ∙ ap entry_at begins.2.bytes_are ∙ entry_again begins.0 begins.1 begins.2.writable) in
    refused (subst (λ (y : Entry × List ℕ). Allows history y.0) (sym same) begins.2.allowed)

-- the entry that is read comes where it may
pub next-read : (history : List Entry) (rest : List ℕ) (x : Entry × List ℕ) → IsBytes rest → entry_at rest ≡ Some x → Allows history x.0 → IsNext history rest x.0 x.1
next-read history rest x fits read may =
    let t = entry_takes rest x fits read in
    record { allowed = may; writable = t.1; bytes_are = t.0.parts }

-- one item is read, and what stands behind it is shorter
read_one : (fuel : ℕ) (bytes : List ℕ) (history : List Entry) (rest : List ℕ) → length rest ≤ suc fuel → IsFront bytes history rest → IsBytes rest →
    ((later : List Entry) (behind : List ℕ) → length behind ≤ fuel → IsFront bytes later behind → IsBytes behind → HasReading bytes) → HasReading bytes
read_one fuel bytes history rest less front fits again = from (entry_at rest) refl
  where
    by_test : (x : Entry × List ℕ) → entry_at rest ≡ Some x → Decided (Allows history x.0) → HasReading bytes
    by_test x read (inr refused) = stopped bytes history rest front fits (none-allowed history rest x read refused)
    by_test x read (inl may) =
        let next : IsNext history rest x.0 x.1 = next-read history rest x fits read may in
        let t = entry_takes rest x fits read in
        let shorter : length x.1 < length rest = next-shorter history rest x.0 x.1 next in
        again (history ++ x.0 ∷ []) x.1 (omega (arith, shorter, less)) (front-more bytes history rest x.0 x.1 front next) t.0.rest_fits

    from : (o : Option (Entry × List ℕ)) → entry_at rest ≡ o → HasReading bytes
    from None none = stopped bytes history rest front fits (none-read history rest none)
    from (Some x) read = by_test x read (allows_or_not history x.0)

reads : (fuel : ℕ) (bytes : List ℕ) (history : List Entry) (rest : List ℕ) → length rest ≤ fuel → IsFront bytes history rest → IsBytes rest → HasReading bytes
reads zero bytes history [] less front fits = stopped bytes history [] front fits (empty history)
reads zero bytes history (byte ∷ rest) less front fits = absurd (omega arith)
reads (suc fuel) bytes history rest less front fits = read_one fuel bytes history rest less front fits (reads fuel bytes)

pub front-first : (bytes rest : List ℕ) → bytes ≡ header ++ rest → IsFront bytes [] rest
front-first bytes rest e = record { written = record { legal = tt; writable = tt }; parts = e ∙ sym (front-opening rest) }

pub some_reading : (bytes : List ℕ) → AllByRecursion (λ byte. byte < 256) bytes → HasReading bytes
some_reading bytes all =
    let told = starts_is Decides-eqb bytes header (pointwise eqb header (take 6 bytes)) refl in
    from (pointwise eqb header (take 6 bytes)) told.0 told.1
  where
    from : (headed : Bool) → (headed ≡ true → bytes ≡ header ++ drop 6 bytes) → ((rest : List ℕ) → bytes ≡ header ++ rest → headed ≡ true) → HasReading bytes
    from true found none = reads (length (drop 6 bytes)) bytes [] (drop 6 bytes) (omega arith) (front-first bytes (drop 6 bytes) (found refl)) (IsBytes-drop 6 bytes (IsBytes-all bytes all))
    from false found none = inr (0, no_header (λ begins. both_ways false refl (none begins.0 begins.1)) refl)
