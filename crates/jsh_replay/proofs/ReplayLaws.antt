-- An engine that is given the entries of a history stands as the history, though it keeps turns with the steps that they have done.
use Rattle.std.proofs.Common.{◌≡◌, ℕ, ◌+◌, List, [], ◌∷◌, ◌++◌, length, refl, ap, sym, subst, ◌∙◌, append_assoc, append-nil, arith, length-append}
use Rattle.std.specs.Prelude.{◌||◌}
use Rattle.std.specs.List.{slice_get}
use Rattle.jsh_snippet.specs.declared.acts.Act.{Act}
use Rattle.jsh_snippet.specs.declared.acts.Act.TheVariants as act
use Rattle.jsh_snippet.specs.declared.acts.Entry.{Entry}
use Rattle.jsh_snippet.specs.declared.replies.Reply.{Reply}
use Rattle.jsh_snippet.specs.declared.replies.ReplyBody.{ReplyBody}
use Rattle.jsh_core.specs.State.{State, Stepped, opening}
use Rattle.jsh_core.specs.Step.{kept, kept_act, step}
use Rattle.jsh_core.specs.History.{act_bytes, is_close, replies_after, replies_of, source_bytes, state_after, state_of, Allows, HasRoom, HasRoomFor, IsLegal, IsLegalAfter, MayDo}
use Rattle.jsh_core.proofs.ByteLemmas.{bytes-kept}
use Rattle.jsh_core.proofs.StandsLemmas.{source_bytes-more}
use Rattle.jsh_core.proofs.Steps.{state_of-push, step-kept}
use Rattle.jsh_replay.specs.Standing.{is_closed}
use Rattle.jsh_replay.proofs.StandingLaws.{closed-push}

replies_after-push : (s : State) (entries : List Entry) (entry : Entry) → replies_after s (entries ++ entry ∷ []) ≡ replies_after s entries ++ (step (state_after s entries) entry).reply ∷ []
replies_after-push s [] entry = refl
replies_after-push s (first ∷ entries) entry = ap (λ (rs : List Reply). (step s first).reply ∷ rs) (replies_after-push (step s first).state entries entry)

pub replies_of-push : (history : List Entry) (entry : Entry) → replies_of (history ++ entry ∷ []) ≡ replies_of history ++ (step (state_of history) entry).reply ∷ []
replies_of-push history entry = replies_after-push opening history entry

close-kept : (what : Act) (answered : ReplyBody) → is_close (kept_act what answered) ≡ is_close what
close-kept act.Enter answered = refl
close-kept (act.Submit source) answered = refl
close-kept (act.Turn thread steps) answered = refl
close-kept (act.Collect run) answered = refl
close-kept (act.Expire run steps) answered = refl
close-kept (act.Stop run) answered = refl
close-kept (act.Drop what) answered = refl
close-kept (act.Ask what) answered = refl
close-kept act.Reset answered = refl
close-kept act.Leave answered = refl
close-kept act.Close answered = refl

-- what an engine keeps comes to what a history comes to
pub record IsAlike (kept_entries history : List Entry) : Type 0 where
  pub state : state_of kept_entries ≡ state_of history
  pub count : length kept_entries ≡ length history
  pub sources : source_bytes kept_entries ≡ source_bytes history
  pub closed : is_closed kept_entries ≡ is_closed history

alike-room : (a b : List Entry) → IsAlike a b → HasRoom b → HasRoom a
alike-room a b alike room = omega (arith, alike.count)

alike-room_for : (a b : List Entry) (text : List ℕ) → IsAlike a b → HasRoomFor b text → HasRoomFor a text
alike-room_for a b text alike room = (alike-room a b alike room.0, room.1, omega (arith, alike.sources, room.2))

alike-may : (a b : List Entry) (client : ℕ) (what : Act) → IsAlike a b → MayDo b client what → MayDo a client what
alike-may a b client act.Enter alike may = alike-room a b alike may
alike-may a b client (act.Submit source) alike may = alike-room_for a b source alike may
alike-may a b client (act.Turn thread steps) alike may = (alike-room a b alike may.0, may.1, may.2)
alike-may a b client (act.Collect run) alike may = alike-room a b alike may
alike-may a b client (act.Expire run steps) alike may = alike-room a b alike may
alike-may a b client (act.Stop run) alike may = alike-room a b alike may
alike-may a b client (act.Drop what) alike may = (alike-room_for a b _ alike may.0, may.1)
alike-may a b client (act.Ask what) alike may = (alike-room_for a b _ alike may.0, may.1)
alike-may a b client act.Reset alike may = alike-room a b alike may
alike-may a b client act.Leave alike may = may
alike-may a b client act.Close alike may = may

pub alike-allows : (kept_entries history : List Entry) (entry : Entry) → IsAlike kept_entries history → Allows history entry → Allows kept_entries entry
alike-allows kept_entries history entry alike allowed = record {
  present = ap (λ (s : State). slice_get s.clients entry.client) alike.state ∙ allowed.present;
  «open» = alike.closed ∙ allowed.open;
  may = alike-may kept_entries history entry.client entry.act alike allowed.may;
}

pub alike-push : (kept_entries history : List Entry) (entry : Entry) (reply : Reply) → IsAlike kept_entries history → reply ≡ (step (state_of kept_entries) entry).reply →
    IsAlike (kept_entries ++ kept entry reply ∷ []) (history ++ entry ∷ [])
alike-push kept_entries history entry reply alike is = record {
  state = state_of-push kept_entries (kept entry reply)
      ∙ ap (λ (r : Reply). (step (state_of kept_entries) (kept entry r)).state) is
      ∙ ap (λ (x : Stepped). x.state) (step-kept (state_of kept_entries) entry)
      ∙ ap (λ (s : State). (step s entry).state) alike.state
      ∙ sym (state_of-push history entry);
  count = length-append kept_entries (kept entry reply ∷ []) ∙ ap (λ n. n + 1) alike.count ∙ sym (length-append history (entry ∷ []));
  sources = source_bytes-more kept_entries (kept entry reply)
      ∙ ap (λ n. n + act_bytes (kept_act entry.act reply.body)) alike.sources
      ∙ ap (λ n. source_bytes history + n) (bytes-kept entry.act reply.body)
      ∙ sym (source_bytes-more history entry);
  closed = closed-push kept_entries (kept entry reply)
      ∙ ap (λ b. b || is_close (kept_act entry.act reply.body)) alike.closed
      ∙ ap (λ b. is_closed history || b) (close-kept entry.act reply.body)
      ∙ sym (closed-push history entry);
}

legal_next : (past entries rest : List Entry) (entry : Entry) → IsLegalAfter past (entries ++ entry ∷ rest) → Allows (past ++ entries) entry
legal_next past [] rest entry legal = subst (λ (h : List Entry). Allows h entry) (sym (append-nil past)) legal.0
legal_next past (first ∷ entries) rest entry legal =
    subst (λ (h : List Entry). Allows h entry) (append_assoc past (first ∷ []) entries) (legal_next (past ++ first ∷ []) entries rest entry legal.1)

-- each entry of a legal history is allowed by those before it, and by what an engine keeps of them
pub next-allowed : (kept_entries entries rest history : List Entry) (entry : Entry) → IsAlike kept_entries entries → IsLegal history → entries ++ entry ∷ rest ≡ history → Allows kept_entries entry
next-allowed kept_entries entries rest history entry alike legal is =
    alike-allows kept_entries entries entry alike (legal_next [] entries rest entry (subst (λ (h : List Entry). IsLegal h) (sym is) legal))

-- ---- one entry after the other

pub alike-opening : (kept_entries : List Entry) → kept_entries ≡ [] → IsAlike kept_entries []
alike-opening kept_entries none = subst (λ (h : List Entry). IsAlike h []) (sym none) (record { state = refl; count = refl; sources = refl; closed = refl })

pub alike-applied : (kept_entries later entries : List Entry) (entry : Entry) (reply : Reply) → IsAlike kept_entries entries → reply ≡ (step (state_of kept_entries) entry).reply →
    later ≡ kept_entries ++ kept entry reply ∷ [] → IsAlike later (entries ++ entry ∷ [])
alike-applied kept_entries later entries entry reply alike is longer =
    subst (λ (h : List Entry). IsAlike h (entries ++ entry ∷ [])) (sym longer) (alike-push kept_entries entries entry reply alike is)

pub replied : (kept_entries entries : List Entry) (entry : Entry) (reply : Reply) (before after : List Reply) → IsAlike kept_entries entries → reply ≡ (step (state_of kept_entries) entry).reply →
    before ≡ replies_of entries → after ≡ before ++ reply ∷ [] → after ≡ replies_of (entries ++ entry ∷ [])
replied kept_entries entries entry reply before after alike is so_far pushed =
    pushed ∙ ap (λ (rs : List Reply). rs ++ reply ∷ []) so_far ∙ ap (λ (r : Reply). replies_of entries ++ r ∷ []) (is ∙ ap (λ (s : State). (step s entry).reply) alike.state)
    ∙ sym (replies_of-push entries entry)

-- the next entry is taken
pub taken : (entries rest later history : List Entry) (entry : Entry) → entries ++ rest ≡ history → rest ≡ entry ∷ later → entries ++ entry ∷ later ≡ history
taken entries rest later history entry parts is = ap (λ (h : List Entry). entries ++ h) (sym is) ∙ parts

pub taken-on : (entries rest later history : List Entry) (entry : Entry) → entries ++ rest ≡ history → rest ≡ entry ∷ later → (entries ++ entry ∷ []) ++ later ≡ history
taken-on entries rest later history entry parts is = append_assoc entries (entry ∷ []) later ∙ taken entries rest later history entry parts is

pub taken-all : (entries rest history : List Entry) → entries ++ rest ≡ history → length rest ≡ 0 → entries ≡ history
taken-all entries [] history parts none = sym (append-nil entries) ∙ parts
taken-all entries (entry ∷ rest) history parts none = absurd (omega arith)
