-- What the frames behind taken tokens do with one more, in words of the table.
use Rattle.std.proofs.Common.{◌≡◌, ◌≢◌, ℕ, ◌≤◌, ◌<◌, true, false, List, [], ◌∷◌, ◌++◌, Some, None, inl, inr, refl, sym, subst, append_assoc, arith}
use Rattle.jsh_tree.specs.declared.token.TokenKind.{TokenKind}
use Rattle.jsh_tree.specs.declared.token.TokenKind.TheVariants as token
use Rattle.jsh_grammar.specs.Productions.{snippet}
use Rattle.jsh_grammar.specs.Fronts.{IsWhole, IsPrefix}
use Rattle.jsh_grammar.proofs.Onward.{viable_goes_on, whole_cut}
use Rattle.jsh_recognizer.specs.declared.recognizer.Start.TheVariants as start
use Rattle.jsh_recognizer.specs.Machine.{Frames, Steps, Runs, at_end, one_more, may_all_stop}
use Rattle.jsh_recognizer.specs.Recognizing.{first, Wants}
use Rattle.jsh_recognizer.proofs.MeantAlike.{steps_alike}
use Rattle.jsh_recognizer.proofs.Stopped.{runs_prefix, prefix_runs, runs_whole, runs_put, step_of, next_step, step_prefix, never_whole}
use Rattle.jsh_complete.specs.Completeness.{IsSnippet, MayGoOn}
use Rattle.jsh_complete.specs.Reading.{IsBehind}
use Rattle.jsh_complete.proofs.Elses.{no_snippet_ends}

-- ---- fronts of a prefix

runs_front : {limit : ℕ} {fs last : Frames} (ks rest : List TokenKind) → Runs limit fs (ks ++ rest) last → (mid : Frames) × Runs limit fs ks mid
runs_front {fs = fs} [] rest runs = (fs, at_end)
runs_front (k ∷ ks) rest (one_more s at runs) = let h = runs_front ks rest runs in (h.0, one_more s at h.1)

pub prefix_front : (room : ℕ) (ks rest : List TokenKind) → IsPrefix snippet room (ks ++ rest) → IsPrefix snippet room ks
prefix_front room ks rest is =
    let all = prefix_runs start.Snippet room (ks ++ rest) is in
    let front = runs_front ks rest all.1 in
    runs_prefix start.Snippet room ks front.0 front.1

-- ---- one token more

-- within the limit
pub taken_prefix : {at : ℕ} {k : TokenKind} {last next : Frames} (ks : List TokenKind) → IsBehind ks last → Steps last k at next → at ≤ 256 →
    IsPrefix snippet 256 (ks ++ k ∷ [])
taken_prefix {k = k} {next = next} ks runs step le = runs_prefix start.Snippet 256 (ks ++ k ∷ []) next (runs_put runs step le)

pub some_prefix : {at : ℕ} {k : TokenKind} {last next : Frames} (ks : List TokenKind) → IsBehind ks last → Steps last k at next →
    (room : ℕ) × IsPrefix snippet room (ks ++ k ∷ [])
some_prefix ks runs step = step_prefix start.Snippet runs step

-- too deep
pub too_deep : {at : ℕ} {k : TokenKind} {last next : Frames} (ks : List TokenKind) → IsBehind ks last → Steps last k at next → 256 < at →
    IsPrefix snippet 256 (ks ++ k ∷ []) → ⊥
too_deep {k = k} ks runs step deep is = elim (next_step start.Snippet runs 256 k is) [
  | step_of other le ↦ let h = steps_alike other step refl in absurd (omega (arith, h.0, le, deep))
]

-- none
pub refused : {k : TokenKind} {last : Frames} (ks : List TokenKind) → IsBehind ks last → ((at : ℕ) (next : Frames) → Steps last k at next → ⊥) →
    (room : ℕ) → IsPrefix snippet room (ks ++ k ∷ []) → ⊥
refused {k = k} ks runs none room is = elim (next_step start.Snippet runs room k is) [
  | step_of {at = at} {next = next} step le ↦ none at next step
]

-- ---- what may go on

pub goes_on : (room : ℕ) (k : TokenKind) (ks : List TokenKind) → IsPrefix snippet room (ks ++ k ∷ []) → MayGoOn ks
goes_on room k ks (inl is) = (room, whole_cut snippet room ks (k ∷ []) (λ e. cc) is)
goes_on room k ks (inr is) =
    let h = viable_goes_on snippet room (ks ++ k ∷ []) is in
    (h.0, whole_cut snippet h.0 ks (k ∷ h.1) (λ e. cc) (subst (IsWhole snippet h.0) (append_assoc ks (k ∷ []) h.1) h.3))

one_more_kind : (room : ℕ) (ks rest : List TokenKind) → rest ≢ [] → IsWhole snippet room (ks ++ rest) →
    (k : TokenKind) × IsPrefix snippet room (ks ++ k ∷ [])
one_more_kind room ks [] some is = absurd (some refl)
one_more_kind room ks (k ∷ rest) some is =
    (k, prefix_front room (ks ++ k ∷ []) rest (inl (subst (IsWhole snippet room) (sym (append_assoc ks (k ∷ []) rest)) is)))

pub next_kind : (ks : List TokenKind) → MayGoOn ks → (room : ℕ) × (k : TokenKind) × IsPrefix snippet room (ks ++ k ∷ [])
next_kind ks (room, is) =
    let h = viable_goes_on snippet room ks is in
    let more = one_more_kind h.0 ks h.1 h.2 h.3 in
    (h.0, more.0, more.1)

-- a front of what may go on may go on
pub still_goes_on : (ks rest : List TokenKind) → MayGoOn (ks ++ rest) → (room : ℕ) × IsPrefix snippet room ks
still_goes_on ks rest (room, is) = (room, prefix_front room ks rest (inr is))

-- frames that want a token want one, and others may not go on
pub wants_some : {k : TokenKind} {last : Frames} (ks : List TokenKind) → IsBehind ks last → Wants last (Some k) → MayGoOn ks
wants_some {k = k} ks runs wants = let h = step_prefix start.Snippet runs wants.2 in goes_on h.0 k ks h.1

pub wants_none : {last : Frames} (ks : List TokenKind) → IsBehind ks last → Wants last None → MayGoOn ks → ⊥
wants_none ks runs wants may = let h = next_kind ks may in refused ks runs (wants h.1) h.0 h.2

-- ---- what is whole

pub behind_prefix : {last : Frames} (ks : List TokenKind) → IsBehind ks last → IsPrefix snippet 256 ks
behind_prefix {last = last} ks runs = runs_prefix start.Snippet 256 ks last runs

pub stops_whole : {last : Frames} (ks : List TokenKind) → IsBehind ks last → may_all_stop last ≡ true → IsSnippet ks
stops_whole {last = last} ks runs stop = runs_whole start.Snippet 256 ks last runs stop

pub open_not_whole : {last : Frames} (ks : List TokenKind) → IsBehind ks last → may_all_stop last ≡ false → IsSnippet ks → ⊥
open_not_whole ks runs open_yet is = never_whole start.Snippet runs open_yet 256 is

pub open_goes_on : {last : Frames} (ks : List TokenKind) → IsBehind ks last → may_all_stop last ≡ false → MayGoOn ks
open_goes_on {last = last} ks runs open_yet = elim (runs_prefix start.Snippet 256 ks last runs) [
  | inl is ↦ absurd (open_not_whole ks runs open_yet is)
  | inr is ↦ (256, is)
]

-- nothing is no snippet
pub nothing_whole : IsSnippet [] → ⊥
nothing_whole is = never_whole start.Snippet {limit = 256} {last = first start.Snippet} at_end refl 256 is

-- ---- `else`

pub else_goes_on : (room : ℕ) (ks : List TokenKind) → IsPrefix snippet room (ks ++ token.Else ∷ []) → MayGoOn (ks ++ token.Else ∷ [])
else_goes_on room ks (inl is) = absurd (no_snippet_ends room ks is)
else_goes_on room ks (inr is) = (room, is)

pub no_else_goes_on : {last : Frames} (ks : List TokenKind) → IsBehind ks last → ((at : ℕ) (next : Frames) → Steps last token.Else at next → ⊥) →
    MayGoOn (ks ++ token.Else ∷ []) → ⊥
no_else_goes_on ks runs none (room, is) = refused ks runs none room (inr is)
