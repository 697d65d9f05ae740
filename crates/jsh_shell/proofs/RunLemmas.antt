-- What holds of a client once it has left and the engine is closed.
use Rattle.std.proofs.Common.{◌≡◌, ◌≢◌, ℕ, zero, suc, ◌+◌, ◌<◌, ◌≤◌, ◌⊎◌, Bool, true, false, List, [], ◌∷◌, ◌++◌, Option, None, Some, IfSome, length, take, refl, ap, sym, subst, ◌∙◌, arith, append_assoc, append-nil, inl, inr, set}
use Rattle.std.specs.List.{slice_get, All}
use Rattle.std.proofs.lemmas.List.Elements.{All-append, All-cons, All-nil}
use Rattle.std.proofs.Math.Seq.{take-append-add, take-length}
use Rattle.std.proofs.lemmas.List.{take_all}
use Rattle.std.specs.Io.KnownBytes.{append_known, prepend_known}
use Rattle.jsh_io.specs.Count.{Rose, TakesPart}
use Rattle.jsh_io.specs.Inputs.{IsEmptyWhereTold}
use Rattle.jsh_snippet.specs.declared.acts.Act.TheVariants as act
use Rattle.jsh_snippet.specs.declared.acts.Entry.{Entry}
use Rattle.jsh_cut.specs.Commands.{before_exit, exits}
use Rattle.jsh_cut.specs.declared.command.Command.{Command}
use Rattle.jsh_core.specs.State.{State, opening}
use Rattle.jsh_render.specs.Texts.{shown}
use Rattle.jsh_core.specs.Step.{step}
use Rattle.jsh_core.specs.History.{state_of, state_after, Allows}
use Rattle.jsh_shell.specs.declared.halts.Halt.{Halt}
use Rattle.jsh_shell.specs.declared.halts.Halt.TheVariants as halt
use Rattle.jsh_shell.specs.declared.session.Session.{Session}
use Rattle.jsh_shell.specs.Input.{most_input}
use Rattle.jsh_shell.specs.Statuses.{all_served, limit_met, memory_short, read_failed, words_refused, write_failed}
use Rattle.jsh_shell.specs.Progress.{Phase, Progress, Goes, Follows, begins}
use Rattle.jsh_shell.specs.Progress.Phase.{Between, Evaluating, CutShort}
use Rattle.jsh_shell.specs.Transcript.{transcript, transcript_after}
use Rattle.jsh_shell.specs.Limited.{HasCommand, IsLimited, IsSurelyLimited, IsTooLong, IsUndone}
use Rattle.jsh_shell.specs.Journal.{entry_of, IsDone, IsFramed, Leaves, IsServed, IsUsage}
use Rattle.jsh_shell.specs.Serving.{Advances, AreOwn, Ends, Halts, HasCause, IsOpen, IsServedBy, Serves, ServesPart, Stands, TakesLeave, WritesPart, farewell, is_unheard, status_of}
use Rattle.jsh_shell.specs.Serving.TakesLeave.{unheard, heard, short, failed}
use Rattle.jsh_shell.proofs.Walk.{append_known-append, not_closed-push, state_after-append, follows-append, transcript-append, goes-own}

-- the engine behind the entry of the first client, before that has any
abbrev pub first_session : Session
first_session = record { core = entry_of 0 act.Enter ∷ []; last_turn = 0; cursor = 0 }

-- the journal of a call with one client
abbrev pub journal_of : List Entry → List Entry
journal_of entries = entry_of 0 act.Enter ∷ (entries ++ entry_of 1 act.Leave ∷ entry_of 0 act.Close ∷ [])

-- the client has left
abbrev pub gone : Progress → Progress
gone q = record q { has_left = true }

-- the client leaves, wherever it stands
goes-leave : (budget : ℕ) (s : State) (p : Progress) → p.has_left ≡ false → Goes budget 1 s p (entry_of 1 act.Leave) (gone p)
goes-leave budget s p here = goes-own budget 1 s p (gone p) act.Leave here refl

-- the client before its first entry, once it was entered
abbrev pub entered : List Command → Progress
entered cs = record (begins cs) { was_idle = true }

-- the client's walk through the whole journal
walk : (budget : ℕ) (entries : List Entry) (cs : List Command) (q : Progress) → Follows budget 1 (state_of (entry_of 0 act.Enter ∷ [])) (entered cs) entries q → q.has_left ≡ false →
    Follows budget 1 opening (begins cs) (journal_of entries) (gone q)
walk budget entries cs q follows here = (
  entered cs,
  refl,
  follows-append budget 1 (state_of (entry_of 0 act.Enter ∷ [])) (entered cs) q (gone q) entries (entry_of 1 act.Leave ∷ entry_of 0 act.Close ∷ []) follows
      (gone q, goes-leave budget (state_after (state_of (entry_of 0 act.Enter ∷ [])) entries) q here, (gone q, refl, refl)),
)

-- what is said to a leave and a close
last_words : (s : State) → transcript_after 1 s (entry_of 1 act.Leave ∷ entry_of 0 act.Close ∷ []) ≡ shown (entry_of 1 act.Leave) (step s (entry_of 1 act.Leave)).reply
last_words s = append-nil (shown (entry_of 1 act.Leave) (step s (entry_of 1 act.Leave)).reply)

-- what the client was written for these entries of its own
abbrev pub said : List Entry → List ℕ
said entries = transcript_after 1 (state_of (entry_of 0 act.Enter ∷ [])) entries

-- what the client was written over the whole journal
whole_transcript : (entries : List Entry) → transcript 1 (journal_of entries) ≡ said entries ++ farewell (entry_of 0 act.Enter ∷ entries) 1
whole_transcript entries = transcript-append 1 (state_of (entry_of 0 act.Enter ∷ [])) entries (entry_of 1 act.Leave ∷ entry_of 0 act.Close ∷ [])
    ∙ ap (λ (t : List ℕ). said entries ++ t) (last_words (state_after (state_of (entry_of 0 act.Enter ∷ [])) entries))

-- the client's entries end in its leave
abbrev ends : (entries : List Entry) → Leaves 1 (journal_of entries)
ends entries = record {
  before = entry_of 0 act.Enter ∷ entries;
  after = entry_of 0 act.Close ∷ [];
  whole = refl;
  nothing = All-cons (λ (e : Entry). e.client ≡ 1 → ⊥) (entry_of 0 act.Close) [] (λ e. omega (arith, e)) (All-nil (λ (e : Entry). e.client ≡ 1 → ⊥));
}

-- before its first entry the client stands between two commands
first_between : (cs : List Command) → Stands Between first_session (cs ++ []) (entered cs)
first_between cs = record { phase = refl; left = sym (append-nil cs); limited = refl; has_left = refl; last_turn = refl; cursor = refl }

-- a sink that held nothing holds what was written
holds : (before after : Option (List ℕ)) (text : List ℕ) → IsEmptyWhereTold before → after ≡ append_known before text → IfSome after (λ (bytes : List ℕ). bytes ≡ text)
holds before after text empty written = subst (λ (held : Option (List ℕ)). IfSome held (λ (bytes : List ℕ). bytes ≡ text)) (sym written) (from before empty)
  where
    from : (before : Option (List ℕ)) → IsEmptyWhereTold before → IfSome (append_known before text) (λ (bytes : List ℕ). bytes ≡ text)
    from None empty = tt
    from (Some bytes) empty = ap (λ (b : List ℕ). b ++ text) empty

-- the entries that the client made, where all its commands were served
record IsWhole (budget : ℕ) (b : Session) (x y : Option (List ℕ)) (cs : List Command) : Type 0 where
  q : Progress
  entries : List Entry
  grows : b.core ≡ entry_of 0 act.Enter ∷ entries
  own : AreOwn 1 entries
  follows : Follows budget 1 (state_of (entry_of 0 act.Enter ∷ [])) (entered cs) entries q
  written : y ≡ append_known x (said entries)
  done : Stands Between b [] q

whole_of : (budget : ℕ) (b : Session) (x y : Option (List ℕ)) (cs : List Command) → Serves budget 1 Between Between first_session b x y cs → IsWhole budget b x y cs
whole_of budget b x y cs s =
    let r : (q : Progress) × Advances budget 1 (entry_of 0 act.Enter ∷ []) b.core x y (entered cs) q × Stands Between b [] q = s.each (entered cs) [] (first_between cs) in
    record { q = r.0; entries = r.1.entries; grows = r.1.grows; own = r.1.own; follows = r.1.follows; written = r.1.written; done = r.2 }

-- the entries that the client made, where it was served no further
record IsHalted (why : Halt) (budget : ℕ) (b : Session) (x y : Option (List ℕ)) (cs : List Command) : Type 0 where
  q : Progress
  entries : List Entry
  grows : b.core ≡ entry_of 0 act.Enter ∷ entries
  own : AreOwn 1 entries
  follows : Follows budget 1 (state_of (entry_of 0 act.Enter ∷ [])) (entered cs) entries q
  count : ℕ
  written : y ≡ append_known x (take count (said entries))
  whole : why ≡ halt.Limit → length (said entries) ≤ count
  limit : why ≡ halt.Limit → IsLimited b.core q
  phase : q.phase ≡ CutShort → why ≡ halt.NoMemory
  here : q.has_left ≡ false

halted_of : (why : Halt) (budget : ℕ) (b : Session) (x y : Option (List ℕ)) (cs : List Command) → ServesPart why budget 1 Between first_session b x y cs → IsHalted why budget b x y cs
halted_of why budget b x y cs s =
    let r : (q : Progress) × Halts why budget 1 (entry_of 0 act.Enter ∷ []) b.core x y (entered cs) q = s.each (entered cs) [] (first_between cs) in
    record {
      q = r.0;
      entries = r.1.entries;
      grows = r.1.grows;
      own = r.1.own;
      follows = r.1.follows;
      count = r.1.count;
      written = r.1.written;
      whole = r.1.whole;
      limit = r.1.limit;
      phase = r.1.phase;
      here = r.1.has_left;
    }

-- who stands between two commands with none left is done
done-of : (b : Session) (q : Progress) → Stands Between b [] q → IsDone (gone q)
done-of b q st = record { at_end = rw st.phase tt; commands = st.left; limited = st.limited }

-- who is done is at no limit
done_free : (before : List Entry) (p : Progress) (read : List ℕ) → IsDone p → length read < most_input → IsSurelyLimited before p ⊎ (length read ≡ most_input) → ⊥
done_free before p read d less (inl (inl limited)) = let e : true ≡ false = sym limited ∙ d.limited in cc
done_free before p read d less (inl (inr (inl long))) = subst (λ (cs : List Command). IsTooLong before cs) d.commands long.1
done_free before p read d less (inl (inr (inr full))) = none p d full.0
  where
    at_none : (p : Progress) (at : Phase) → p.phase ≡ at → IsDone p → IsUndone p → ⊥
    at_none p Between e d undone = subst HasCommand d.commands (rw e at undone)
    at_none p (Evaluating run used) e d undone = from (rw e at undone) (rw e at d.at_end)
      where
        from : (p.was_reset ≡ false) ⊎ HasCommand p.commands → p.was_reset ≡ true → ⊥
        from (inl still) gone_by = let both : true ≡ false = sym gone_by ∙ still in cc
        from (inr more) gone_by = subst HasCommand d.commands more
    at_none p CutShort e d undone = rw e at d.at_end

    none : (p : Progress) → IsDone p → IsUndone p → ⊥
    none p d undone = at_none p p.phase refl d undone
done_free before p read d less (inr most) = omega (arith, less, most)

-- how a client came to its last status
data Final (final : ℕ) (before : List Entry) (p : Progress) (text read : List ℕ) (ended : Bool) (x z : Option (List ℕ)) (reads_before reads_after writes_before writes_after : ℕ) : Type 0 where
  ends_well : final ≡ all_served → IsDone p → exits read ended ≡ true → length read < most_input → reads_after ≡ reads_before → writes_after ≡ writes_before → z ≡ append_known x text →
      Final final before p text read ended x z reads_before reads_after writes_before writes_after
  ends_unread : final ≡ read_failed → IsDone p → exits read ended ≡ false → length read < most_input → Rose reads_before reads_after → writes_after ≡ writes_before → z ≡ append_known x text →
      Final final before p text read ended x z reads_before reads_after writes_before writes_after
  ends_full : final ≡ limit_met → IsDone p → ended ≡ false → length read ≡ most_input → reads_after ≡ reads_before → writes_after ≡ writes_before → z ≡ append_known x text →
      Final final before p text read ended x z reads_before reads_after writes_before writes_after
  ends_limited : final ≡ limit_met → IsLimited before p → (p.phase ≡ CutShort → ⊥) → reads_after ≡ reads_before → writes_after ≡ writes_before → z ≡ append_known x text →
      Final final before p text read ended x z reads_before reads_after writes_before writes_after
  ends_short : final ≡ memory_short → writes_after ≡ writes_before → WritesPart x z text →
      Final final before p text read ended x z reads_before reads_after writes_before writes_after
  ends_failed : final ≡ write_failed → (p.phase ≡ CutShort → ⊥) → Rose writes_before writes_after → WritesPart x z text →
      Final final before p text read ended x z reads_before reads_after writes_before writes_after

-- what a sink holds of a text, of which all or a part was written
part-held : (x z : Option (List ℕ)) (text : List ℕ) → IsEmptyWhereTold x → WritesPart x z text → IfSome z (λ bytes. (n : ℕ) × (bytes ≡ take n text))
part-held x z text empty part = from z (holds x z (take part.0 text) empty part.1)
  where
    from : (z : Option (List ℕ)) → IfSome z (λ (bytes : List ℕ). bytes ≡ take part.0 text) → IfSome z (λ (bytes : List ℕ). (n : ℕ) × (bytes ≡ take n text))
    from None h = tt
    from (Some bytes) h = (part.0, h)

whole-part : (x z : Option (List ℕ)) (text : List ℕ) → z ≡ append_known x text → WritesPart x z text
whole-part x z text whole = (length text, whole ∙ ap (append_known x) (sym (take-length text)))

-- who is done isn't cut short
not-cut : (p : Progress) → IsDone p → p.phase ≡ CutShort → ⊥
not-cut p d e = rw e at d.at_end

no-whole : (status : ℕ) → status ≡ memory_short → (status ≡ all_served) ⊎ ((status ≡ read_failed) ⊎ (status ≡ limit_met)) → ⊥
no-whole status is (inl e) = omega (arith, is, e)
no-whole status is (inr (inl e)) = omega (arith, is, e)
no-whole status is (inr (inr e)) = omega (arith, is, e)

no-whole-failed : (status : ℕ) → status ≡ write_failed → (status ≡ all_served) ⊎ ((status ≡ read_failed) ⊎ (status ≡ limit_met)) → ⊥
no-whole-failed status is (inl e) = omega (arith, is, e)
no-whole-failed status is (inr (inl e)) = omega (arith, is, e)
no-whole-failed status is (inr (inr e)) = omega (arith, is, e)

-- what stays the same in every case
record Common (budget : ℕ) (cs : List Command) (entries : List Entry) (q : Progress) (given left : Option (List ℕ)) (read : List ℕ) (ended : Bool) (x : Option (List ℕ)) : Type 0 where
  commands : cs ≡ before_exit read ended
  reads : given ≡ prepend_known read left
  all_read : ended ≡ true → IfSome left (λ rest. rest ≡ [])
  few : length read ≤ most_input
  follows : Follows budget 1 (state_of (entry_of 0 act.Enter ∷ [])) (entered cs) entries q
  here : q.has_left ≡ false
  empty : IsEmptyWhereTold x

final-served : (budget final : ℕ) (cs : List Command) (entries : List Entry) (q : Progress) (given left : Option (List ℕ)) (read : List ℕ) (ended : Bool) (x z : Option (List ℕ)) (reads0 reads1 writes0 writes1 : ℕ) →
    Common budget cs entries q given left read ended x →
    Final final (entry_of 0 act.Enter ∷ entries) (gone q) (transcript 1 (journal_of entries)) read ended x z reads0 reads1 writes0 writes1 →
    IsServed budget 1 final (journal_of entries) given left z reads0 reads1 writes0 writes1
final-served budget final cs entries q given left read ended x z reads0 reads1 writes0 writes1 k (ends_well is done exits_so less unread unwritten whole) = record {
  read = read;
  ended = ended;
  reads = k.reads;
  all_read = k.all_read;
  few = k.few;
  progress = gone q;
  follows = subst (λ (cs : List Command). Follows budget 1 opening (begins cs) (journal_of entries) (gone q)) k.commands (walk budget entries cs q k.follows k.here);
  has_left = refl;
  leaves = ends entries;
  statuses = inl is;
  ok = λ e. (done, exits_so, less);
  failed_read_part = λ e. absurd (omega (arith, e, is));
  limited = λ e. absurd (omega (arith, e, is));
  at_limit = λ at none. absurd (done_free (entry_of 0 act.Enter ∷ entries) (gone q) read done less at);
  memory = λ e. absurd (not-cut (gone q) done e);
  source_failed = λ e. absurd (omega (arith, e, is));
  source_well = inl unread;
  sink_failed = λ e. absurd (omega (arith, e, is));
  sink_well = inl unwritten;
  written = λ e. holds x z (transcript 1 (journal_of entries)) k.empty whole;
  part = part-held x z (transcript 1 (journal_of entries)) k.empty (whole-part x z (transcript 1 (journal_of entries)) whole);
}
final-served budget final cs entries q given left read ended x z reads0 reads1 writes0 writes1 k (ends_unread is done exits_so less rose unwritten whole) = record {
  read = read;
  ended = ended;
  reads = k.reads;
  all_read = k.all_read;
  few = k.few;
  progress = gone q;
  follows = subst (λ (cs : List Command). Follows budget 1 opening (begins cs) (journal_of entries) (gone q)) k.commands (walk budget entries cs q k.follows k.here);
  has_left = refl;
  leaves = ends entries;
  statuses = inr (inl is);
  ok = λ e. absurd (omega (arith, e, is));
  failed_read_part = λ e. (done, exits_so, less);
  limited = λ e. absurd (omega (arith, e, is));
  at_limit = λ at none. absurd (done_free (entry_of 0 act.Enter ∷ entries) (gone q) read done less at);
  memory = λ e. absurd (not-cut (gone q) done e);
  source_failed = λ e. rose;
  source_well = inr (inl is);
  sink_failed = λ e. absurd (omega (arith, e, is));
  sink_well = inl unwritten;
  written = λ e. holds x z (transcript 1 (journal_of entries)) k.empty whole;
  part = part-held x z (transcript 1 (journal_of entries)) k.empty (whole-part x z (transcript 1 (journal_of entries)) whole);
}
final-served budget final cs entries q given left read ended x z reads0 reads1 writes0 writes1 k (ends_full is done on full unread unwritten whole) = record {
  read = read;
  ended = ended;
  reads = k.reads;
  all_read = k.all_read;
  few = k.few;
  progress = gone q;
  follows = subst (λ (cs : List Command). Follows budget 1 opening (begins cs) (journal_of entries) (gone q)) k.commands (walk budget entries cs q k.follows k.here);
  has_left = refl;
  leaves = ends entries;
  statuses = inr (inr (inr (inr is)));
  ok = λ e. absurd (omega (arith, e, is));
  failed_read_part = λ e. absurd (omega (arith, e, is));
  limited = λ e. inr (done, on, full);
  at_limit = λ at none. inl is;
  memory = λ e. absurd (not-cut (gone q) done e);
  source_failed = λ e. absurd (omega (arith, e, is));
  source_well = inl unread;
  sink_failed = λ e. absurd (omega (arith, e, is));
  sink_well = inl unwritten;
  written = λ e. holds x z (transcript 1 (journal_of entries)) k.empty whole;
  part = part-held x z (transcript 1 (journal_of entries)) k.empty (whole-part x z (transcript 1 (journal_of entries)) whole);
}
final-served budget final cs entries q given left read ended x z reads0 reads1 writes0 writes1 k (ends_limited is limited phase unread unwritten whole) = record {
  read = read;
  ended = ended;
  reads = k.reads;
  all_read = k.all_read;
  few = k.few;
  progress = gone q;
  follows = subst (λ (cs : List Command). Follows budget 1 opening (begins cs) (journal_of entries) (gone q)) k.commands (walk budget entries cs q k.follows k.here);
  has_left = refl;
  leaves = ends entries;
  statuses = inr (inr (inr (inr is)));
  ok = λ e. absurd (omega (arith, e, is));
  failed_read_part = λ e. absurd (omega (arith, e, is));
  limited = λ e. inl limited;
  at_limit = λ at none. inl is;
  memory = λ e. absurd (phase e);
  source_failed = λ e. absurd (omega (arith, e, is));
  source_well = inl unread;
  sink_failed = λ e. absurd (omega (arith, e, is));
  sink_well = inl unwritten;
  written = λ e. holds x z (transcript 1 (journal_of entries)) k.empty whole;
  part = part-held x z (transcript 1 (journal_of entries)) k.empty (whole-part x z (transcript 1 (journal_of entries)) whole);
}
final-served budget final cs entries q given left read ended x z reads0 reads1 writes0 writes1 k (ends_short is unwritten some) = record {
  read = read;
  ended = ended;
  reads = k.reads;
  all_read = k.all_read;
  few = k.few;
  progress = gone q;
  follows = subst (λ (cs : List Command). Follows budget 1 opening (begins cs) (journal_of entries) (gone q)) k.commands (walk budget entries cs q k.follows k.here);
  has_left = refl;
  leaves = ends entries;
  statuses = inr (inr (inr (inl is)));
  ok = λ e. absurd (omega (arith, e, is));
  failed_read_part = λ e. absurd (omega (arith, e, is));
  limited = λ e. absurd (omega (arith, e, is));
  at_limit = λ at none. inr is;
  memory = λ e. is;
  source_failed = λ e. absurd (omega (arith, e, is));
  source_well = inr (inr (inr is));
  sink_failed = λ e. absurd (omega (arith, e, is));
  sink_well = inl unwritten;
  written = λ e. absurd (no-whole final is e);
  part = part-held x z (transcript 1 (journal_of entries)) k.empty some;
}
final-served budget final cs entries q given left read ended x z reads0 reads1 writes0 writes1 k (ends_failed is phase rose some) = record {
  read = read;
  ended = ended;
  reads = k.reads;
  all_read = k.all_read;
  few = k.few;
  progress = gone q;
  follows = subst (λ (cs : List Command). Follows budget 1 opening (begins cs) (journal_of entries) (gone q)) k.commands (walk budget entries cs q k.follows k.here);
  has_left = refl;
  leaves = ends entries;
  statuses = inr (inr (inl is));
  ok = λ e. absurd (omega (arith, e, is));
  failed_read_part = λ e. absurd (omega (arith, e, is));
  limited = λ e. absurd (omega (arith, e, is));
  at_limit = λ at none. absurd (none rose);
  memory = λ e. absurd (phase e);
  source_failed = λ e. absurd (omega (arith, e, is));
  source_well = inr (inr (inl is));
  sink_failed = λ e. rose;
  sink_well = inr is;
  written = λ e. absurd (no-whole-failed final is e);
  part = part-held x z (transcript 1 (journal_of entries)) k.empty some;
}

-- a text with all or a part of another behind it
append-part : (x y z : Option (List ℕ)) (text more whole : List ℕ) → y ≡ append_known x text → whole ≡ text ++ more → WritesPart y z more → WritesPart x z whole
append-part x y z text more whole first is part = (
  length text + part.0,
  part.1 ∙ ap (λ (h : Option (List ℕ)). append_known h (take part.0 more)) first ∙ append_known-append x text (take part.0 more)
      ∙ ap (append_known x) (sym (take-append-add text more part.0) ∙ ap (take (length text + part.0)) (sym is)),
)

append-whole : (x y z : Option (List ℕ)) (text more whole : List ℕ) → y ≡ append_known x text → whole ≡ text ++ more → z ≡ append_known y more → z ≡ append_known x whole
append-whole x y z text more whole first is more_is =
    more_is ∙ ap (λ (h : Option (List ℕ)). append_known h more) first ∙ append_known-append x text more ∙ ap (append_known x) (sym is)

rose-later : (first before after : ℕ) → before ≡ first → Rose before after → Rose first after
rose-later first before after same rose = subst (λ (n : ℕ). Rose n after) same rose

-- the front of a text is that of a longer one
take-front : (n : ℕ) (text more : List ℕ) → take (length (take n text)) (text ++ more) ≡ take n text
take-front zero text more = refl
take-front (suc n) [] more = refl
take-front (suc n) (c ∷ text) more = ap (λ (rest : List ℕ). c ∷ rest) (take-front n text more)

-- a part of a text is a part of a longer one
part-more : (x y : Option (List ℕ)) (count : ℕ) (text more whole : List ℕ) → y ≡ append_known x (take count text) → whole ≡ text ++ more → WritesPart x y whole
part-more x y count text more whole is longer = (
  length (take count text),
  is ∙ ap (append_known x) (sym (take-front count text more) ∙ ap (take (length (take count text))) (sym longer)),
)

-- the client leaves behind all its commands
whole-leaves : (budget status final : ℕ) (b : Session) (given left x y z : Option (List ℕ)) (read : List ℕ) (ended : Bool) (reads0 reads1 writes0 writes1 writes2 : ℕ) (w : IsWhole budget b x y (before_exit read ended)) →
    ((status ≡ all_served) × (exits read ended ≡ true) × (length read < most_input) × (reads1 ≡ reads0))
    ⊎ (((status ≡ read_failed) × (exits read ended ≡ false) × (length read < most_input) × Rose reads0 reads1)
    ⊎ ((status ≡ limit_met) × (ended ≡ false) × (length read ≡ most_input) × (reads1 ≡ reads0))) →
    writes1 ≡ writes0 → TakesLeave status final (farewell (entry_of 0 act.Enter ∷ w.entries) 1) y z writes1 writes2 →
    Final final (entry_of 0 act.Enter ∷ w.entries) (gone w.q) (transcript 1 (journal_of w.entries)) read ended x z reads0 reads1 writes0 writes2
whole-leaves budget status final b given left x y z read ended reads0 reads1 writes0 writes1 writes2 w how same (unheard mute is held count) = absurd (from how)
  where
    from : ((status ≡ all_served) × (exits read ended ≡ true) × (length read < most_input) × (reads1 ≡ reads0))
        ⊎ (((status ≡ read_failed) × (exits read ended ≡ false) × (length read < most_input) × Rose reads0 reads1)
        ⊎ ((status ≡ limit_met) × (ended ≡ false) × (length read ≡ most_input) × (reads1 ≡ reads0))) → ⊥
    from (inl e) = let h : false ≡ true = subst (λ (n : ℕ). is_unheard n ≡ true) e.0 mute in cc
    from (inr (inl e)) = let h : false ≡ true = subst (λ (n : ℕ). is_unheard n ≡ true) e.0 mute in cc
    from (inr (inr e)) = let h : false ≡ true = subst (λ (n : ℕ). is_unheard n ≡ true) e.0 mute in cc
whole-leaves budget status final b given left x y z read ended reads0 reads1 writes0 writes1 writes2 w how same (heard mute is held count) = from how
  where
    whole : z ≡ append_known x (transcript 1 (journal_of w.entries))
    whole = append-whole x y z (said w.entries) (farewell (entry_of 0 act.Enter ∷ w.entries) 1) (transcript 1 (journal_of w.entries)) w.written (whole_transcript w.entries) held

    from : ((status ≡ all_served) × (exits read ended ≡ true) × (length read < most_input) × (reads1 ≡ reads0))
        ⊎ (((status ≡ read_failed) × (exits read ended ≡ false) × (length read < most_input) × Rose reads0 reads1)
        ⊎ ((status ≡ limit_met) × (ended ≡ false) × (length read ≡ most_input) × (reads1 ≡ reads0))) →
        Final final (entry_of 0 act.Enter ∷ w.entries) (gone w.q) (transcript 1 (journal_of w.entries)) read ended x z reads0 reads1 writes0 writes2
    from (inl e) = ends_well (is ∙ e.0) (done-of b w.q w.done) e.1 e.2 e.3 (count ∙ same) whole
    from (inr (inl e)) = ends_unread (is ∙ e.0) (done-of b w.q w.done) e.1 e.2 e.3 (count ∙ same) whole
    from (inr (inr e)) = ends_full (is ∙ e.0) (done-of b w.q w.done) e.1 e.2 e.3 (count ∙ same) whole
whole-leaves budget status final b given left x y z read ended reads0 reads1 writes0 writes1 writes2 w how same (short mute is held count) =
    ends_short is (count ∙ same) (append-part x y z (said w.entries) (farewell (entry_of 0 act.Enter ∷ w.entries) 1) (transcript 1 (journal_of w.entries)) w.written (whole_transcript w.entries) held)
whole-leaves budget status final b given left x y z read ended reads0 reads1 writes0 writes1 writes2 w how same (failed mute is held count) =
    ends_failed is (not-cut (gone w.q) (done-of b w.q w.done)) (rose-later writes0 writes1 writes2 same count)
    (append-part x y z (said w.entries) (farewell (entry_of 0 act.Enter ∷ w.entries) 1) (transcript 1 (journal_of w.entries)) w.written (whole_transcript w.entries) held)

-- at a limit all was written
all-written : {budget : ℕ} {b : Session} {x y : Option (List ℕ)} {cs : List Command} (w : IsHalted halt.Limit budget b x y cs) → y ≡ append_known x (said w.entries)
all-written {x = x} w = w.written ∙ ap (append_known x) (take_all w.count (said w.entries) (w.whole refl))

-- a limit that keeps the client from going on, once it has left
limited-gone : (before : List Entry) (q : Progress) → IsLimited before q → IsLimited before (gone q)
limited-gone before q limited = limited

-- the client leaves where it was served no further
halted-leaves : (why : Halt) (budget status final : ℕ) (b : Session) (x y z : Option (List ℕ)) (read : List ℕ) (ended : Bool) (reads0 reads1 writes0 writes1 writes2 : ℕ) (w : IsHalted why budget b x y (before_exit read ended)) →
    status ≡ status_of why → reads1 ≡ reads0 → HasCause why writes0 writes1 → TakesLeave status final (farewell (entry_of 0 act.Enter ∷ w.entries) 1) y z writes1 writes2 →
    Final final (entry_of 0 act.Enter ∷ w.entries) (gone w.q) (transcript 1 (journal_of w.entries)) read ended x z reads0 reads1 writes0 writes2
halted-leaves halt.NoMemory budget status final b x y z read ended reads0 reads1 writes0 writes1 writes2 w at unread cause (unheard mute is held count) =
    ends_short (is ∙ at) (count ∙ cause)
    (subst (λ (h : Option (List ℕ)). WritesPart x h (transcript 1 (journal_of w.entries))) (sym held)
    (part-more x y w.count (said w.entries) (farewell (entry_of 0 act.Enter ∷ w.entries) 1) (transcript 1 (journal_of w.entries)) w.written (whole_transcript w.entries)))
halted-leaves halt.NoMemory budget status final b x y z read ended reads0 reads1 writes0 writes1 writes2 w at unread cause (heard mute is held count) =
    let h : true ≡ false = subst (λ (n : ℕ). is_unheard n ≡ false) at mute in absurd cc
halted-leaves halt.NoMemory budget status final b x y z read ended reads0 reads1 writes0 writes1 writes2 w at unread cause (short mute is held count) =
    let h : true ≡ false = subst (λ (n : ℕ). is_unheard n ≡ false) at mute in absurd cc
halted-leaves halt.NoMemory budget status final b x y z read ended reads0 reads1 writes0 writes1 writes2 w at unread cause (failed mute is held count) =
    let h : true ≡ false = subst (λ (n : ℕ). is_unheard n ≡ false) at mute in absurd cc
halted-leaves halt.SinkFailed budget status final b x y z read ended reads0 reads1 writes0 writes1 writes2 w at unread cause (unheard mute is held count) =
    ends_failed (is ∙ at) (λ e. no_memory (w.phase e)) (subst (λ (n : ℕ). Rose writes0 n) (sym count) cause)
    (subst (λ (h : Option (List ℕ)). WritesPart x h (transcript 1 (journal_of w.entries))) (sym held)
    (part-more x y w.count (said w.entries) (farewell (entry_of 0 act.Enter ∷ w.entries) 1) (transcript 1 (journal_of w.entries)) w.written (whole_transcript w.entries)))
  where
    no_memory : halt.SinkFailed ≡ halt.NoMemory → ⊥
    no_memory e = cc
halted-leaves halt.SinkFailed budget status final b x y z read ended reads0 reads1 writes0 writes1 writes2 w at unread cause (heard mute is held count) =
    let h : true ≡ false = subst (λ (n : ℕ). is_unheard n ≡ false) at mute in absurd cc
halted-leaves halt.SinkFailed budget status final b x y z read ended reads0 reads1 writes0 writes1 writes2 w at unread cause (short mute is held count) =
    let h : true ≡ false = subst (λ (n : ℕ). is_unheard n ≡ false) at mute in absurd cc
halted-leaves halt.SinkFailed budget status final b x y z read ended reads0 reads1 writes0 writes1 writes2 w at unread cause (failed mute is held count) =
    let h : true ≡ false = subst (λ (n : ℕ). is_unheard n ≡ false) at mute in absurd cc
halted-leaves halt.Limit budget status final b x y z read ended reads0 reads1 writes0 writes1 writes2 w at unread cause (unheard mute is held count) =
    let h : false ≡ true = subst (λ (n : ℕ). is_unheard n ≡ true) at mute in absurd cc
halted-leaves halt.Limit budget status final b x y z read ended reads0 reads1 writes0 writes1 writes2 w at unread cause (heard mute is held count) =
    ends_limited (is ∙ at) (limited-gone (entry_of 0 act.Enter ∷ w.entries) w.q (subst (λ (h : List Entry). IsLimited h w.q) w.grows (w.limit refl))) (λ e. no_memory (w.phase e)) unread (count ∙ cause)
    (append-whole x y z (said w.entries) (farewell (entry_of 0 act.Enter ∷ w.entries) 1) (transcript 1 (journal_of w.entries)) (all-written w) (whole_transcript w.entries) held)
  where
    no_memory : halt.Limit ≡ halt.NoMemory → ⊥
    no_memory e = cc
halted-leaves halt.Limit budget status final b x y z read ended reads0 reads1 writes0 writes1 writes2 w at unread cause (short mute is held count) =
    ends_short is (count ∙ cause) (append-part x y z (said w.entries) (farewell (entry_of 0 act.Enter ∷ w.entries) 1) (transcript 1 (journal_of w.entries)) (all-written w) (whole_transcript w.entries) held)
halted-leaves halt.Limit budget status final b x y z read ended reads0 reads1 writes0 writes1 writes2 w at unread cause (failed mute is held count) =
    ends_failed is (λ e. no_memory (w.phase e)) (rose-later writes0 writes1 writes2 cause count)
    (append-part x y z (said w.entries) (farewell (entry_of 0 act.Enter ∷ w.entries) 1) (transcript 1 (journal_of w.entries)) (all-written w) (whole_transcript w.entries) held)
  where
    no_memory : halt.Limit ≡ halt.NoMemory → ⊥
    no_memory e = cc

-- what is said to a leave was not written whole
pub leave-breaks : (why : Halt) (status final : ℕ) (text : List ℕ) (y z : Option (List ℕ)) (writes0 writes1 : ℕ) → (why ≡ halt.Limit → ⊥) → is_unheard status ≡ false → final ≡ status_of why →
    WritesPart y z text → HasCause why writes0 writes1 → TakesLeave status final text y z writes0 writes1
leave-breaks halt.NoMemory status final text y z writes0 writes1 other mute is part cause = short mute is part cause
leave-breaks halt.SinkFailed status final text y z writes0 writes1 other mute is part cause = failed mute is part cause
leave-breaks halt.Limit status final text y z writes0 writes1 other mute is part cause = absurd (other refl)

-- each way in which the serving of a client may end, and its leave behind that
pub is-served : (budget status final : ℕ) (b : Session) (journal : List Entry) (given left x y z : Option (List ℕ)) (reads0 reads1 writes0 writes1 writes2 : ℕ) →
    journal ≡ b.core ++ entry_of 1 act.Leave ∷ entry_of 0 act.Close ∷ [] → IsEmptyWhereTold x →
    IsServedBy budget 1 status first_session b given left x y reads0 reads1 writes0 writes1 → TakesLeave status final (farewell b.core 1) y z writes1 writes2 →
    IsServed budget 1 final journal given left z reads0 reads1 writes0 writes2
is-served budget status final b journal given left x y z reads0 reads1 writes0 writes1 writes2 is empty by leave = from by.outcome
  where
    whole : (writes1 ≡ writes0) → ((status ≡ all_served) × (exits by.read by.ended ≡ true) × (length by.read < most_input) × (reads1 ≡ reads0))
        ⊎ (((status ≡ read_failed) × (exits by.read by.ended ≡ false) × (length by.read < most_input) × Rose reads0 reads1)
        ⊎ ((status ≡ limit_met) × (by.ended ≡ false) × (length by.read ≡ most_input) × (reads1 ≡ reads0))) →
        IsWhole budget b x y (before_exit by.read by.ended) → IsServed budget 1 final journal given left z reads0 reads1 writes0 writes2
    whole same how w = subst (λ (j : List Entry). IsServed budget 1 final j given left z reads0 reads1 writes0 writes2)
        (sym (is ∙ ap (λ (h : List Entry). h ++ entry_of 1 act.Leave ∷ entry_of 0 act.Close ∷ []) w.grows))
        (final-served budget final (before_exit by.read by.ended) w.entries w.q given left by.read by.ended x z reads0 reads1 writes0 writes2
        (record { commands = refl; reads = by.reads; all_read = by.all_read; few = by.few; follows = w.follows; here = w.done.has_left; empty = empty })
        (whole-leaves budget status final b given left x y z by.read by.ended reads0 reads1 writes0 writes1 writes2 w how same
        (subst (λ (h : List Entry). TakesLeave status final (farewell h 1) y z writes1 writes2) w.grows leave)))

    halted : (why : Halt) → status ≡ status_of why → reads1 ≡ reads0 → HasCause why writes0 writes1 →
        IsHalted why budget b x y (before_exit by.read by.ended) → IsServed budget 1 final journal given left z reads0 reads1 writes0 writes2
    halted why at unread cause w = subst (λ (j : List Entry). IsServed budget 1 final j given left z reads0 reads1 writes0 writes2)
        (sym (is ∙ ap (λ (h : List Entry). h ++ entry_of 1 act.Leave ∷ entry_of 0 act.Close ∷ []) w.grows))
        (final-served budget final (before_exit by.read by.ended) w.entries w.q given left by.read by.ended x z reads0 reads1 writes0 writes2
        (record { commands = refl; reads = by.reads; all_read = by.all_read; few = by.few; follows = w.follows; here = w.here; empty = empty })
        (halted-leaves why budget status final b x y z by.read by.ended reads0 reads1 writes0 writes1 writes2 w at unread cause
        (subst (λ (h : List Entry). TakesLeave status final (farewell h 1) y z writes1 writes2) w.grows leave)))

    from : Ends budget 1 status first_session b x y by.read by.ended reads0 reads1 writes0 writes1 → IsServed budget 1 final journal given left z reads0 reads1 writes0 writes2
    from (inl ok) = whole ok.4 (inl (ok.0, ok.1, ok.2, ok.3)) (whole_of budget b x y (before_exit by.read by.ended) ok.5)
    from (inr (inl bad)) = whole bad.4 (inr (inl (bad.0, bad.1, bad.2, bad.3))) (whole_of budget b x y (before_exit by.read by.ended) bad.5)
    from (inr (inr (inl full))) = whole full.4 (inr (inr (full.0, full.1, full.2, full.3))) (whole_of budget b x y (before_exit by.read by.ended) full.5)
    from (inr (inr (inr part))) = halted part.0 part.1 part.2 part.3 (halted_of part.0 budget b x y (before_exit by.read by.ended) part.4)

-- the engine as it opens, and behind the entry of its first client
pub open-first : (history : List Entry) → history ≡ entry_of 0 act.Enter ∷ [] → IsOpen 1 history
open-first history is = subst (λ (h : List Entry). IsOpen 1 h) (sym is) (record { present = refl; root = refl; «open» = refl })

-- who may enter the first client
pub allows-enter : (history : List Entry) → history ≡ [] → Allows history (entry_of 0 act.Enter)
allows-enter history is = subst (λ (h : List Entry). Allows h (entry_of 0 act.Enter)) (sym is) (record { present = refl; «open» = refl; may = omega arith })

-- who may close an engine without clients
pub allows-close-empty : (history : List Entry) → history ≡ [] → Allows history (entry_of 0 act.Close)
allows-close-empty history is = subst (λ (h : List Entry). Allows h (entry_of 0 act.Close)) (sym is) (record { present = refl; «open» = refl; may = refl })

set_other : (flags : List Bool) → slice_get flags 0 ≡ Some true → slice_get (set flags 1 false) 0 ≡ Some true
set_other [] e = e
set_other (x ∷ xs) e = e

-- the root may close once the client has left
pub allows-close : (history after : List Entry) → IsOpen 1 history → after ≡ history ++ entry_of 1 act.Leave ∷ [] → Allows after (entry_of 0 act.Close)
allows-close history after o grows = subst (λ (h : List Entry). Allows h (entry_of 0 act.Close)) (sym grows) (record {
  present = subst (λ (s : State). slice_get s.clients 0 ≡ Some true) (sym (state_after-append _ history (entry_of 1 act.Leave ∷ []))) (set_other (state_of history).clients o.root);
  «open» = not_closed-push history (entry_of 1 act.Leave) refl o.«open»;
  may = refl;
})

-- the journal behind the leave and the close
pub two-more : (b c d : List Entry) (x y : Entry) → c ≡ b ++ x ∷ [] → d ≡ c ++ y ∷ [] → d ≡ b ++ x ∷ y ∷ []
two-more b c d x y one two = two ∙ ap (λ (h : List Entry). h ++ y ∷ []) one ∙ append_assoc b (x ∷ []) (y ∷ [])

-- a journal with a last entry isn't empty
pub not-empty : (b : List Entry) (rest : List Entry) → b ++ entry_of 1 act.Leave ∷ rest ≡ [] → ⊥
not-empty [] rest e = cc
not-empty (x ∷ b) rest e = cc

-- all that holds of the only item
pub sole : {A : Type 0} (P : A → Type 0) (xs : List A) (r : A) → xs ≡ r ∷ [] → P r → All P xs
sole {A} P xs r is h = subst (λ (ys : List A). All P ys) (sym is) (All-cons P r [] h (All-nil P))

-- a journal with one client begins with its entry, and all that follows is its own
pub record HasBegun (b : List Entry) : Type 0 where
  pub entries : List Entry
  pub grows : b ≡ entry_of 0 act.Enter ∷ entries
  pub own : AreOwn 1 entries

-- what was served began behind the first entry
pub began : (budget reads0 reads1 writes0 writes1 : ℕ) (status : ℕ) (b : Session) (given left x y : Option (List ℕ)) → IsServedBy budget 1 status first_session b given left x y reads0 reads1 writes0 writes1 → HasBegun b.core
began budget reads0 reads1 writes0 writes1 status b given left x y by = from by.outcome
  where
    whole : Serves budget 1 Between Between first_session b x y (before_exit by.read by.ended) → HasBegun b.core
    whole s = let w : IsWhole budget b x y (before_exit by.read by.ended) = whole_of budget b x y (before_exit by.read by.ended) s in record { entries = w.entries; grows = w.grows; own = w.own }

    from : Ends budget 1 status first_session b x y by.read by.ended reads0 reads1 writes0 writes1 → HasBegun b.core
    from (inl ok) = whole ok.5
    from (inr (inl bad)) = whole bad.5
    from (inr (inr (inl full))) = whole full.5
    from (inr (inr (inr halted))) =
        let w : IsHalted halted.0 budget b x y (before_exit by.read by.ended) = halted_of halted.0 budget b x y (before_exit by.read by.ended) halted.4 in record { entries = w.entries; grows = w.grows; own = w.own }

-- an own entry of the first client is of one of one clients
own_first : (entries : List Entry) → AreOwn 1 entries → All (λ (e : Entry). (0 < e.client) × (e.client ≤ 1)) entries
own_first entries own = λ k d h. let is = own k d h in (omega (arith, is), omega (arith, is))

-- the frame of a journal with one client
pub framed-one : (b journal : List Entry) → journal ≡ b ++ entry_of 1 act.Leave ∷ entry_of 0 act.Close ∷ [] → HasBegun b → IsFramed 1 journal
framed-one b journal is began = record {
  middle = began.entries ++ entry_of 1 act.Leave ∷ [];
  whole = is ∙ ap (λ (h : List Entry). h ++ entry_of 1 act.Leave ∷ entry_of 0 act.Close ∷ []) began.grows
      ∙ ap (λ (h : List Entry). entry_of 0 act.Enter ∷ h) (sym (append_assoc began.entries (entry_of 1 act.Leave ∷ []) (entry_of 0 act.Close ∷ [])));
  theirs = All-append (λ (e : Entry). (0 < e.client) × (e.client ≤ 1)) began.entries (entry_of 1 act.Leave ∷ []) (own_first began.entries began.own)
      (All-cons (λ (e : Entry). (0 < e.client) × (e.client ≤ 1)) (entry_of 1 act.Leave) [] (omega arith, omega arith) (All-nil (λ (e : Entry). (0 < e.client) × (e.client ≤ 1))));
}

-- the frame of a journal without clients
pub framed-none : (journal : List Entry) → journal ≡ entry_of 0 act.Close ∷ [] → IsFramed 0 journal
framed-none journal is = record { middle = []; whole = is; theirs = All-nil (λ (e : Entry). (0 < e.client) × (e.client ≤ 0)) }

-- the status of a call, with its cause in a client's streams
abbrev pub Causes : ℕ → Type 0 → Type 0 → Type 0
Causes status failed_read failed_write = (status ≡ all_served) ⊎ ((status ≡ read_failed) × failed_read) ⊎ ((status ≡ write_failed) × failed_write) ⊎ (status ≡ memory_short) ⊎ (status ≡ limit_met)

-- what holds of the first of some
first_of : {A : Type 0} (P : A → Type 0) (x : A) (xs : List A) → All P (x ∷ xs) → P x
first_of P x xs all = all 0 x (omega arith)

-- the cause of the status of a client that was served
pub served-causes : {budget client status call : ℕ} {journal : List Entry} {given left held : Option (List ℕ)} {reads0 reads1 writes0 writes1 : ℕ} →
    status ≡ call → IsServed budget client status journal given left held reads0 reads1 writes0 writes1 → Causes call (Rose reads0 reads1) (Rose writes0 writes1)
served-causes {status = status} {call = call} {reads0 = reads0} {reads1 = reads1} {writes0 = writes0} {writes1 = writes1} same s = from s.statuses
  where
    from : (status ≡ all_served) ⊎ ((status ≡ read_failed) ⊎ ((status ≡ write_failed) ⊎ ((status ≡ memory_short) ⊎ (status ≡ limit_met)))) → Causes call (Rose reads0 reads1) (Rose writes0 writes1)
    from (inl e) = inl (sym same ∙ e)
    from (inr (inl e)) = inr (inl (sym same ∙ e, s.source_failed e))
    from (inr (inr (inl e))) = inr (inr (inl (sym same ∙ e, s.sink_failed e)))
    from (inr (inr (inr (inl e)))) = inr (inr (inr (inl (sym same ∙ e))))
    from (inr (inr (inr (inr e)))) = inr (inr (inr (inr (sym same ∙ e))))

-- where nothing failed, the call ends well, at a limit, or for want of memory
pub healthy-status : {A : Type 0} (status : ℕ) (unread unwritten : A → Type 0) (clients : List A) → (clients ≡ [] → status ≡ memory_short) → All (λ r. Causes status (unread r) (unwritten r)) clients →
    All (λ r. (unread r → ⊥) × (unwritten r → ⊥)) clients → (status ≡ all_served) ⊎ ((status ≡ limit_met) ⊎ (status ≡ memory_short))
healthy-status status unread unwritten [] alone causes well = inr (inr (alone refl))
healthy-status {A} status unread unwritten (r ∷ rs) alone causes well =
    from (first_of (λ (r : A). Causes status (unread r) (unwritten r)) r rs causes) (first_of (λ (r : A). (unread r → ⊥) × (unwritten r → ⊥)) r rs well)
  where
    from : Causes status (unread r) (unwritten r) → (unread r → ⊥) × (unwritten r → ⊥) → (status ≡ all_served) ⊎ ((status ≡ limit_met) ⊎ (status ≡ memory_short))
    from (inl e) w = inl e
    from (inr (inl e)) w = absurd (w.0 e.1)
    from (inr (inr (inl e))) w = absurd (w.1 e.1)
    from (inr (inr (inr (inl e)))) w = inr (inr e)
    from (inr (inr (inr (inr e)))) w = inr (inl e)

-- no client that was served has the status of refused words
pub accepted-status : {A : Type 0} (status : ℕ) (unread unwritten : A → Type 0) (clients : List A) → (clients ≡ [] → status ≡ memory_short) → All (λ r. Causes status (unread r) (unwritten r)) clients → status ≢ words_refused
accepted-status status unread unwritten [] alone causes = let five : status ≡ memory_short = alone refl in omega (arith, five)
accepted-status {A} status unread unwritten (r ∷ rs) alone causes = from (first_of (λ (r : A). Causes status (unread r) (unwritten r)) r rs causes)
  where
    from : Causes status (unread r) (unwritten r) → status ≢ words_refused
    from (inl e) = omega (arith, e)
    from (inr (inl e)) = omega (arith, e.0)
    from (inr (inr (inl e))) = omega (arith, e.0)
    from (inr (inr (inr (inl e)))) = omega (arith, e)
    from (inr (inr (inr (inr e)))) = omega (arith, e)

-- streams that come without faults
pub served-fresh : {budget client status : ℕ} {journal : List Entry} {given left held : Option (List ℕ)} (reads reads_now writes writes_now : ℕ) → reads ≡ 0 → writes ≡ 0 →
    IsServed budget client status journal given left held reads reads_now writes writes_now → IsServed budget client status journal given left held 0 reads_now 0 writes_now
served-fresh {budget = budget} {client = client} {status = status} {journal = journal} {given = given} {left = left} {held = held} reads reads_now writes writes_now no_read no_write s =
    subst (λ (n : ℕ). IsServed budget client status journal given left held n reads_now 0 writes_now) no_read
    (subst (λ (n : ℕ). IsServed budget client status journal given left held reads reads_now n writes_now) no_write s)

-- a sink that held nothing and was written the usage line
pub usage-of : (before after : Option (List ℕ)) (line : List ℕ) (writes writes_now : ℕ) → IsEmptyWhereTold before → writes ≡ 0 →
    (after ≡ append_known before line) ⊎ (TakesPart before after line × Rose writes writes_now) → IsUsage after line (Rose 0 writes_now)
usage-of before after line writes writes_now empty none (inl whole) = inl (holds before after line empty whole)
usage-of before after line writes writes_now empty none (inr part) =
    inr (subst (λ (n : ℕ). Rose n writes_now) none part.1, front after (holds before after (take part.0.0 line) empty part.0.2))
  where
    front : (after : Option (List ℕ)) → IfSome after (λ (bytes : List ℕ). bytes ≡ take part.0.0 line) → IfSome after (λ (bytes : List ℕ). (n : ℕ) × (n < length line) × (bytes ≡ take n line))
    front None h = tt
    front (Some bytes) h = (part.0.0, part.0.1, h)
