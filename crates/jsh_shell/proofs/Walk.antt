-- How what follows one after another follows as a whole.
use Rattle.std.proofs.Common.{◌≡◌, ℕ, ◌+◌, ◌<◌, ◌≤◌, Bool, true, false, List, [], ◌∷◌, ◌++◌, Option, None, Some, length, take, refl, ap, sym, subst, ◌∙◌, arith, append_assoc, append-nil, length-append, eq-eqb, ◌||◌, inl, inr}
use Rattle.std.proofs.Math.Seq.{take-append-add, take-length}
use Rattle.std.specs.Io.KnownBytes.{append_known}
use Rattle.std.specs.List.{slice_get, list_any}
use Rattle.std.proofs.lemmas.List.Elements.{All-append, All-cons, All-nil}
use Rattle.jsh_snippet.specs.declared.acts.Act.{Act}
use Rattle.jsh_snippet.specs.declared.acts.Act.TheVariants as act
use Rattle.jsh_snippet.specs.declared.acts.Entry.{Entry}
use Rattle.jsh_snippet.specs.declared.replies.Reply.{Reply}
use Rattle.jsh_snippet.specs.declared.replies.ReplyBody.{ReplyBody}
use Rattle.jsh_render.specs.Texts.{shown}
use Rattle.jsh_core.specs.State.{State}
use Rattle.jsh_core.specs.Step.{step, kept, kept_act}
use Rattle.jsh_core.specs.Acts.{is_last}
use Rattle.jsh_core.specs.Stands.{IsCutShort}
use Rattle.jsh_core.specs.History.{state_of, state_after, is_close}
use Rattle.jsh_core.proofs.Steps.{leaves, step-present}
use Rattle.jsh_shell.specs.declared.halts.Halt.{Halt}
use Rattle.jsh_shell.specs.declared.halts.Halt.TheVariants as halt
use Rattle.jsh_shell.specs.Progress.{Progress, Goes, GoesOn, OwnGoes, Follows, is_limit}
use Rattle.jsh_shell.specs.Progress.Phase.{CutShort}
use Rattle.jsh_shell.specs.Transcript.{shown_to, transcript_after, is_turn}
use Rattle.jsh_shell.specs.Limited.{IsLimited}
use Rattle.jsh_shell.specs.Serving.{Advances, AreOwn, Fails, Halts, IsOpen, IsRefused, Shows, WritesPart}

pub state_after-append : (s : State) (xs ys : List Entry) → state_after s (xs ++ ys) ≡ state_after (state_after s xs) ys
state_after-append s [] ys = refl
state_after-append s (x ∷ xs) ys = state_after-append (step s x).state xs ys

pub follows-append : (budget client : ℕ) (s : State) (p m q : Progress) (xs ys : List Entry) →
    Follows budget client s p xs m → Follows budget client (state_after s xs) m ys q → Follows budget client s p (xs ++ ys) q
follows-append budget client s p m q [] ys first rest = subst (λ (x : Progress). Follows budget client s x ys q) first rest
follows-append budget client s p m q (x ∷ xs) ys first rest =
    (first.0, first.1, follows-append budget client (step s x).state first.0 m q xs ys first.2 rest)

pub transcript-append : (client : ℕ) (s : State) (xs ys : List Entry) →
    transcript_after client s (xs ++ ys) ≡ transcript_after client s xs ++ transcript_after client (state_after s xs) ys
transcript-append client s [] ys = refl
transcript-append client s (x ∷ xs) ys =
    ap (λ rest. shown_to client s x ++ rest) (transcript-append client (step s x).state xs ys)
    ∙ sym (append_assoc (shown_to client s x) (transcript_after client (step s x).state xs) (transcript_after client (state_after (step s x).state xs) ys))

pub append_known-append : (held : Option (List ℕ)) (a b : List ℕ) → append_known (append_known held a) b ≡ append_known held (a ++ b)
append_known-append None a b = refl
append_known-append (Some bytes) a b = ap Some (append_assoc bytes a b)

-- the state after the entries that were added
pub state_of-grown : (before after entries : List Entry) → after ≡ before ++ entries → state_of after ≡ state_after (state_of before) entries
state_of-grown before after entries grows = ap state_of grows ∙ state_after-append _ before entries

pub append_known-nothing : (held : Option (List ℕ)) → append_known held [] ≡ held
append_known-nothing None = refl
append_known-nothing (Some bytes) = ap Some (append-nil bytes)

own_none : (client : ℕ) → AreOwn client []
own_none client = All-nil (λ (e : Entry). e.client ≡ client)

own_one : (client : ℕ) (what : Act) → AreOwn client (record { client = client; act = what } ∷ [])
own_one client what = All-cons (λ (e : Entry). e.client ≡ client) (record { client = client; act = what }) [] refl (own_none client)

own-append : (client : ℕ) (xs ys : List Entry) → AreOwn client xs → AreOwn client ys → AreOwn client (xs ++ ys)
own-append client xs ys first rest = All-append (λ (e : Entry). e.client ≡ client) xs ys first rest

pub advances-nothing : (budget client : ℕ) (history : List Entry) (held : Option (List ℕ)) (p : Progress) → Advances budget client history history held held p p
advances-nothing budget client history held p = record { entries = []; grows = sym (append-nil history); own = own_none client; follows = refl; written = sym (append_known-nothing held) }

pub advances-append : (budget client : ℕ) (a b c : List Entry) (x y z : Option (List ℕ)) (p m q : Progress) →
    Advances budget client a b x y p m → Advances budget client b c y z m q → Advances budget client a c x z p q
advances-append budget client a b c x y z p m q first rest = record {
  entries = first.entries ++ rest.entries;
  grows = rest.grows ∙ ap (λ h. h ++ rest.entries) first.grows ∙ append_assoc a first.entries rest.entries;
  own = own-append client first.entries rest.entries first.own rest.own;
  follows = follows-append budget client (state_of a) p m q first.entries rest.entries first.follows
      (subst (λ (s : State). Follows budget client s m rest.entries q) state rest.follows);
  written = rest.written ∙ ap (λ h. append_known h (transcript_after client (state_of b) rest.entries)) first.written
      ∙ append_known-append x (transcript_after client (state_of a) first.entries) (transcript_after client (state_of b) rest.entries)
      ∙ ap (λ (s : State). append_known x (transcript_after client (state_of a) first.entries ++ transcript_after client s rest.entries)) state
      ∙ ap (append_known x) (sym (transcript-append client (state_of a) first.entries rest.entries));
}
  where
    state : state_of b ≡ state_after (state_of a) first.entries
    state = state_of-grown a b first.entries first.grows

take-beyond : (a b : List ℕ) (n : ℕ) → a ++ take n b ≡ take (length a + n) (a ++ b)
take-beyond a b n = sym (take-append-add a b n)

pub advances-halts : (why : Halt) (budget client : ℕ) (a b c : List Entry) (x y z : Option (List ℕ)) (p m q : Progress) →
    Advances budget client a b x y p m → Halts why budget client b c y z m q → Halts why budget client a c x z p q
advances-halts why budget client a b c x y z p m q first rest = record {
  entries = first.entries ++ rest.entries;
  grows = rest.grows ∙ ap (λ h. h ++ rest.entries) first.grows ∙ append_assoc a first.entries rest.entries;
  own = own-append client first.entries rest.entries first.own rest.own;
  follows = follows-append budget client (state_of a) p m q first.entries rest.entries first.follows
      (subst (λ (s : State). Follows budget client s m rest.entries q) state rest.follows);
  count = length one + rest.count;
  written = rest.written ∙ ap (λ h. append_known h (take rest.count two)) first.written
      ∙ append_known-append x one (take rest.count two)
      ∙ ap (append_known x) (take-beyond one two rest.count ∙ ap (take (length one + rest.count)) (sym both));
  whole = λ limit. let enough : length two ≤ rest.count = rest.whole limit in
      subst (λ (t : List ℕ). length t ≤ length one + rest.count) (sym both) (simp length-append (omega (arith, enough)));
  limit = rest.limit;
  phase = rest.phase;
  has_left = rest.has_left;
}
  where
    state : state_of b ≡ state_after (state_of a) first.entries
    state = state_of-grown a b first.entries first.grows

    one : List ℕ
    one = transcript_after client (state_of a) first.entries

    two : List ℕ
    two = transcript_after client (state_of b) rest.entries

    both : transcript_after client (state_of a) (first.entries ++ rest.entries) ≡ transcript_after client (state_of a) first.entries ++ transcript_after client (state_of b) rest.entries
    both = transcript-append client (state_of a) first.entries rest.entries
        ∙ ap (λ (s : State). transcript_after client (state_of a) first.entries ++ transcript_after client s rest.entries) (sym state)

-- the entry at the end of a history
pub last_entry : (history : List Entry) (e : Entry) → slice_get (history ++ e ∷ []) (length history) ≡ Some e
last_entry [] e = refl
last_entry (x ∷ xs) e = last_entry xs e

-- one own entry, of which the client is written all or a part
pub transcript-own : (client : ℕ) (s : State) (what : Act) → is_turn what ≡ false →
    transcript_after client s (record { client = client; act = what } ∷ []) ≡ shown (record { client = client; act = what }) (step s (record { client = client; act = what })).reply
transcript-own client s what other = rw (eq-eqb client client refl, other) (append-nil _)

pub transcript-turn : (client : ℕ) (s : State) (thread steps : ℕ) →
    transcript_after client s (record { client = client; act = act.Turn thread steps } ∷ []) ≡ []
transcript-turn client s thread steps = rw (eq-eqb client client refl) refl

-- an own entry that the progress allows
pub goes-own : (budget client : ℕ) (s : State) (p q : Progress) (what : Act) → p.has_left ≡ false →
    OwnGoes budget s p what (step s (record { client = client; act = what })).state (step s (record { client = client; act = what })).reply.body q →
    Goes budget client s p (record { client = client; act = what }) q
goes-own budget client s p q what here own = rw (eq-eqb client client refl) (here, own)

-- an own entry behind which the client stays
pub goes-on : (budget client : ℕ) (s : State) (p q : Progress) (what : Act) → is_last what ≡ false → p.has_left ≡ false →
    GoesOn budget s p p.phase what (step s (record { client = client; act = what })).state (step s (record { client = client; act = what })).reply.body q →
    Goes budget client s p (record { client = client; act = what }) q
goes-on budget client s p q what stays here goes =
    goes-own budget client s p q what here (from what (step s (record { client = client; act = what })).state (step s (record { client = client; act = what })).reply.body stays goes)
  where
    from : (what : Act) (after : State) (reply : ReplyBody) → is_last what ≡ false → GoesOn budget s p p.phase what after reply q → OwnGoes budget s p what after reply q
    from act.Leave after reply stays goes = cc
    from _ after reply stays goes = goes

pub advances-one : (budget client : ℕ) (history after : List Entry) (held now : Option (List ℕ)) (p q : Progress) (what : Act) (said : List ℕ) →
    after ≡ history ++ record { client = client; act = what } ∷ [] →
    Goes budget client (state_of history) p (record { client = client; act = what }) q →
    transcript_after client (state_of history) (record { client = client; act = what } ∷ []) ≡ said →
    now ≡ append_known held said →
    Advances budget client history after held now p q
advances-one budget client history after held now p q what said grows goes says written = record {
  entries = record { client = client; act = what } ∷ [];
  grows = grows;
  own = own_one client what;
  follows = (q, goes, refl);
  written = written ∙ ap (append_known held) (sym says);
}

-- a halt behind an entry of which a part was written
pub halts-one : (why : Halt) (budget client : ℕ) (history after : List Entry) (held now : Option (List ℕ)) (p q : Progress) (what : Act) (said : List ℕ) (count : ℕ) →
    after ≡ history ++ record { client = client; act = what } ∷ [] →
    Goes budget client (state_of history) p (record { client = client; act = what }) q →
    transcript_after client (state_of history) (record { client = client; act = what } ∷ []) ≡ said →
    now ≡ append_known held (take count said) →
    (why ≡ halt.Limit → length said ≤ count) → (why ≡ halt.Limit → IsLimited after q) → (q.phase ≡ CutShort → why ≡ halt.NoMemory) → q.has_left ≡ false →
    Halts why budget client history after held now p q
halts-one why budget client history after held now p q what said count grows goes says written whole limit phase here = record {
  entries = record { client = client; act = what } ∷ [];
  grows = grows;
  own = own_one client what;
  follows = (q, goes, refl);
  count = count;
  written = written ∙ ap (λ t. append_known held (take count t)) (sym says);
  whole = λ e. subst (λ (t : List ℕ). length t ≤ count) (sym says) (whole e);
  limit = limit;
  phase = phase;
  has_left = here;
}

-- a halt before any entry
pub halts-here : (why : Halt) (budget client : ℕ) (history : List Entry) (held : Option (List ℕ)) (p : Progress) →
    (why ≡ halt.Limit → IsLimited history p) → (p.phase ≡ CutShort → why ≡ halt.NoMemory) → p.has_left ≡ false →
    Halts why budget client history history held held p p
halts-here why budget client history held p limit phase here = record {
  entries = [];
  grows = sym (append-nil history);
  own = own_none client;
  follows = refl;
  count = 0;
  written = sym (append_known-nothing held);
  whole = λ e. refl-le;
  limit = limit;
  phase = phase;
  has_left = here;
}
  where
    refl-le : 0 ≤ 0
    refl-le = omega arith

-- an own act other than a turn was done and answered, and its answer was written
pub advances-act : (budget client : ℕ) (history after : List Entry) (held now : Option (List ℕ)) (what : Act) (reply : Reply) (p q : Progress) →
    Shows history after (record { client = client; act = what }) reply held now → is_turn what ≡ false →
    Goes budget client (state_of history) p (record { client = client; act = what }) q → Advances budget client history after held now p q
advances-act budget client history after held now what reply p q shows quiet goes = advances-one budget client history after held now p q what _ shows.grows goes
    (transcript-own client (state_of history) what quiet)
    (shows.written ∙ ap (λ (r : Reply). append_known held (shown (record { client = client; act = what }) r)) shows.reply)

-- who has advanced to a limit is served no further
pub advances-as-halt : {budget client : ℕ} {before after : List Entry} {held now : Option (List ℕ)} {p q : Progress} →
    Advances budget client before after held now p q → IsLimited after q → (q.phase ≡ CutShort → ⊥) → q.has_left ≡ false →
    Halts halt.Limit budget client before after held now p q
advances-as-halt {client = client} {before = before} {held = held} a limit phase here = record {
  entries = a.entries;
  grows = a.grows;
  own = a.own;
  follows = a.follows;
  count = length (transcript_after client (state_of before) a.entries);
  written = a.written ∙ ap (append_known held) (sym (take-length (transcript_after client (state_of before) a.entries)));
  whole = λ e. omega arith;
  limit = λ e. limit;
  phase = λ e. absurd (phase e);
  has_left = here;
}

-- it was not done, or of its answer a part was written, or it was refused at a limit
pub halts-act : (why : Halt) (budget client : ℕ) (history after : List Entry) (held now : Option (List ℕ)) (what : Act) (p q : Progress) →
    Fails why history after (record { client = client; act = what }) held now → is_turn what ≡ false →
    Goes budget client (state_of history) p (record { client = client; act = what }) q →
    q.limited ≡ is_limit (step (state_of history) (record { client = client; act = what })).reply.body →
    (q.phase ≡ CutShort → ⊥) → p.has_left ≡ false → q.has_left ≡ false →
    (r : Progress) × Halts why budget client history after held now p r
halts-act why budget client history after held now what p q (inl same) quiet goes limited behind here there = (
  p,
  subst (λ (h : List Entry). Halts why budget client history h held now p p) (sym same.0)
      (subst (λ (x : Option (List ℕ)). Halts why budget client history history held x p p) (sym same.1)
      (halts-here why budget client history held p (λ e. cc) (λ e. same.2) here)),
)
halts-act why budget client history after held now what p q (inr (inl broken)) quiet goes limited behind here there = (
  q,
  halts-one why budget client history after held now p q what _ broken.0.part.0 broken.0.grows goes
      (transcript-own client (state_of history) what quiet)
      broken.0.part.1 (λ e. absurd (broken.1 e)) (λ e. absurd (broken.1 e)) (λ e. absurd (behind e)) there,
)
halts-act why budget client history after held now what p q (inr (inr refused)) quiet goes limited behind here there = (
  q,
  subst (λ (w : Halt). Halts w budget client history after held now p q) (sym refused.1)
      (advances-as-halt (advances-act budget client history after held now what refused.0.0 p q refused.0.1 quiet goes)
      (inl (limited ∙ ap (λ (r : Reply). is_limit r.body) (sym refused.0.1.reply) ∙ refused.0.2)) behind there),
)

not_closed_cases : (b : Bool) (rest more : Bool) → (rest ≡ false → more ≡ false) → (b || rest) ≡ false → (b || more) ≡ false
not_closed_cases true rest more along n = n
not_closed_cases false rest more along n = along n

-- an entry other than a close closes nothing
pub not_closed-push : (h : List Entry) (e : Entry) → is_close e.act ≡ false → list_any (λ (x : Entry). is_close x.act) h ≡ false →
    list_any (λ (x : Entry). is_close x.act) (h ++ e ∷ []) ≡ false
not_closed-push [] e other n = rw other refl
not_closed-push (x ∷ xs) e other n = not_closed_cases (is_close x.act) _ _ (not_closed-push xs e other) n

-- an act behind which clients stay is no close
stays-open : (what : Act) → is_last what ≡ false → is_close what ≡ false
stays-open act.Close stays = stays
stays-open _ stays = refl

-- and no client's leave
stays-there : (by client : ℕ) (what : Act) → is_last what ≡ false → leaves (record { client = by; act = what }) client ≡ false
stays-there by client act.Leave stays = cc
stays-there by client _ stays = refl

-- the state behind one more entry
pub state_of-push : (history after : List Entry) (e : Entry) → after ≡ history ++ e ∷ [] → state_of after ≡ (step (state_of history) e).state
state_of-push history after e grows = ap state_of grows ∙ state_after-append _ history (e ∷ [])

-- the client may go on behind an entry other than a leave and a close
pub open-push : (client : ℕ) (history after : List Entry) (e : Entry) → IsOpen client history → is_last e.act ≡ false → after ≡ history ++ e ∷ [] → IsOpen client after
open-push client history after e o stays grows = subst (λ (h : List Entry). IsOpen client h) (sym grows) (record {
  present = subst (λ (s : State). slice_get s.clients client ≡ Some true) (sym behind) (step-present (state_of history) e client o.present (stays-there e.client client e.act stays));
  root = subst (λ (s : State). slice_get s.clients 0 ≡ Some true) (sym behind) (step-present (state_of history) e 0 o.root (stays-there e.client 0 e.act stays));
  «open» = not_closed-push history e (stays-open e.act stays) o.«open»;
})
  where
    behind : state_of (history ++ e ∷ []) ≡ (step (state_of history) e).state
    behind = state_of-push history (history ++ e ∷ []) e refl

-- an act other than a turn is kept as it was
pub kept-quiet : (e : Entry) (reply : Reply) → is_turn e.act ≡ false → kept e reply ≡ e
kept-quiet e reply quiet = ap (λ (what : Act). record e { act = what }) (same e.act reply.body quiet)
  where
    same : (what : Act) (body : ReplyBody) → is_turn what ≡ false → kept_act what body ≡ what
    same act.Enter body quiet = refl
    same (act.Submit source) body quiet = refl
    same (act.Turn thread steps) body quiet = cc
    same (act.Collect run) body quiet = refl
    same (act.Expire run steps) body quiet = refl
    same (act.Stop run) body quiet = refl
    same (act.Drop target) body quiet = refl
    same (act.Ask question) body quiet = refl
    same act.Reset body quiet = refl
    same act.Leave body quiet = refl
    same act.Close body quiet = refl

-- no act other than a turn is cut short
pub cut_short-quiet : (history after : List Entry) (e : Entry) → is_turn e.act ≡ false → IsCutShort history e after → after ≡ history
cut_short-quiet history after e quiet cut = from e.act quiet cut
  where
    from : (what : Act) → is_turn what ≡ false → IsCutShort history (record e { act = what }) after → after ≡ history
    from act.Enter quiet cut = elim cut [ inl same ↦ same | inr none ↦ absurd none ]
    from (act.Submit source) quiet cut = elim cut [ inl same ↦ same | inr none ↦ absurd none ]
    from (act.Turn thread steps) quiet cut = cc
    from (act.Collect run) quiet cut = elim cut [ inl same ↦ same | inr none ↦ absurd none ]
    from (act.Expire run steps) quiet cut = elim cut [ inl same ↦ same | inr none ↦ absurd none ]
    from (act.Stop run) quiet cut = elim cut [ inl same ↦ same | inr none ↦ absurd none ]
    from (act.Drop target) quiet cut = elim cut [ inl same ↦ same | inr none ↦ absurd none ]
    from (act.Ask question) quiet cut = elim cut [ inl same ↦ same | inr none ↦ absurd none ]
    from act.Reset quiet cut = elim cut [ inl same ↦ same | inr none ↦ absurd none ]
    from act.Leave quiet cut = elim cut [ inl same ↦ same | inr none ↦ absurd none ]
    from act.Close quiet cut = elim cut [ inl same ↦ same | inr none ↦ absurd none ]

-- a history that has grown by an entry has a place more
pub grown-entry : (history after : List Entry) (e : Entry) (place : ℕ) → after ≡ history ++ e ∷ [] → place ≡ length history → place < length after
grown-entry history after e place grows at =
    let long : length after ≡ length history + 1 = ap length grows ∙ length-append history (e ∷ []) in
    omega (arith, long, at)

-- the entry that is found there is the one that was added
pub same-entry : (history after : List Entry) (e found : Entry) (place : ℕ) → after ≡ history ++ e ∷ [] → place ≡ length history → slice_get after place ≡ Some found → found ≡ e
same-entry history after e found place grows at there =
    let chain : Some found ≡ Some e = sym there ∙ ap (λ (h : List Entry). slice_get h place) grows ∙ ap (slice_get (history ++ e ∷ [])) at ∙ last_entry history e in
    cc

-- a part of a text is a part of the same text
pub writes-part : (held now : Option (List ℕ)) (a b : List ℕ) → a ≡ b → WritesPart held now a → WritesPart held now b
writes-part held now a b same part = subst (λ (text : List ℕ). WritesPart held now text) same part
