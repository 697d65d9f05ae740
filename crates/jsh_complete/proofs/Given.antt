-- Which rule is the first that applies.
use Rattle.std.proofs.Common.{◌≡◌, ◌≢◌, ℕ, zero, suc, ◌<◌, ◌⊎◌, List, [], ◌∷◌, ◌++◌, take, length, Option, inl, inr, refl, sym, subst, arith}
use Rattle.jsh_tree.specs.declared.token.Token.{Token}
use Rattle.jsh_tree.specs.declared.token.TokenKind.{TokenKind}
use Rattle.jsh_tree.specs.declared.token.TokenKind.TheVariants as token
use Rattle.jsh_lex.specs.declared.lexeme.LexFault.{LexFault}
use Rattle.jsh_lex.specs.declared.lexeme.LexFault.TheVariants as lexical
use Rattle.jsh_grammar.specs.Productions.{snippet}
use Rattle.jsh_grammar.specs.Fronts.{IsPrefix}
use Rattle.jsh_recognizer.specs.Recognizing.{kinds}
use Rattle.jsh_complete.specs.declared.completion.Completeness.{Completeness}
use Rattle.jsh_complete.specs.declared.completion.Completeness.TheVariants as completeness
use Rattle.jsh_complete.specs.declared.completion.Completion.{Completion}
use Rattle.jsh_complete.specs.Completeness.{Stop, at_end, at_fault, too_deep, Counts, IsSnippet, MayGoOn, LacksSemicolon, Rule, no_tokens, else_may_follow, whole, lacks_semicolon, lacks_more, begins_whole, otherwise, Applies, NoneApplies, before, kind_by, end_of, IsEndOfLongest, IsEndBy, IsCompletion, by_rule}
use Rattle.jsh_complete.specs.Reading.{IsLongest, IsGiven}
use Rattle.jsh_complete.proofs.Behind.{prefix_front}
use Rattle.jsh_complete.proofs.Counted.{take_kinds, none_longest, none_of_all}

-- ---- a text that is read to its end

pub given_empty : (ks : List TokenKind) → ks ≡ [] → IsGiven ks at_end completeness.Empty
given_empty ks none = (no_tokens, (refl, none), tt, refl)

pub given_else : (ks : List TokenKind) → ks ≢ [] → IsSnippet ks → MayGoOn (ks ++ token.Else ∷ []) → IsGiven ks at_end completeness.ConsideredIncomplete
given_else ks some is may = (else_may_follow, (refl, is, may), (λ h. some h.1, tt), refl)

pub given_whole : (ks : List TokenKind) → ks ≢ [] → IsSnippet ks → (MayGoOn (ks ++ token.Else ∷ []) → ⊥) → IsGiven ks at_end completeness.Complete
given_whole ks some is no_else = (whole, (refl, is), (λ h. some h.1, (λ h. no_else h.2, tt)), refl)

pub given_semicolon : (ks : List TokenKind) → ks ≢ [] → (IsSnippet ks → ⊥) → LacksSemicolon ks → IsGiven ks at_end completeness.CompleteWithSemi
given_semicolon ks some never is = (lacks_semicolon, (refl, is), (λ h. some h.1, (λ h. never h.1, (λ h. never h.1, tt))), refl)

pub given_more : (ks : List TokenKind) → ks ≢ [] → (IsSnippet ks → ⊥) → (LacksSemicolon ks → ⊥) → MayGoOn ks → IsGiven ks at_end completeness.DefinitelyIncomplete
given_more ks some never no_semicolon may =
    (lacks_more, inl (refl, may), (λ h. some h.1, (λ h. never h.1, (λ h. never h.1, (λ h. no_semicolon h.1, tt)))), refl)

-- ---- a text with a fault

-- the rules before the one for what begins with a snippet
abbrev pub NoneBefore : List TokenKind → Stop → Type 0
NoneBefore ks stop = NoneApplies ks stop (before begins_whole)

-- of these the first four are for the end of the text alone
four_at_end : (ks : List TokenKind) (stop : Stop) → stop ≢ at_end → NoneApplies ks stop (before lacks_more)
four_at_end ks stop never = (λ h. never h.0, (λ h. never h.0, (λ h. never h.0, (λ h. never h.0, tt))))

-- and one more doesn't apply
none_and : (ks : List TokenKind) (stop : Stop) (rules : List Rule) (rule : Rule) → NoneApplies ks stop rules → (Applies ks stop rule → ⊥) →
    NoneApplies ks stop (rules ++ rule ∷ [])
none_and ks stop [] rule none never = (never, tt)
none_and ks stop (first ∷ rules) rule none never = (none.0, none_and ks stop rules rule none.1 never)

with_fifth : (ks : List TokenKind) (stop : Stop) → NoneApplies ks stop (before lacks_more) → (Applies ks stop lacks_more → ⊥) → NoneBefore ks stop
with_fifth ks stop none never = none_and ks stop (before lacks_more) lacks_more none never

pub given_comment : (ks : List TokenKind) → (ks ≡ []) ⊎ MayGoOn ks → IsGiven ks (at_fault lexical.OpenComment) completeness.DefinitelyIncomplete
given_comment ks waits = (lacks_more, inr (refl, waits), four_at_end ks (at_fault lexical.OpenComment) (λ e. cc), refl)

pub closed_comment : (ks : List TokenKind) → (ks ≡ [] → ⊥) → (MayGoOn ks → ⊥) → NoneBefore ks (at_fault lexical.OpenComment)
closed_comment ks some never = with_fifth ks (at_fault lexical.OpenComment) (four_at_end ks (at_fault lexical.OpenComment) (λ e. cc)) refuted
  where
    refuted : Applies ks (at_fault lexical.OpenComment) lacks_more → ⊥
    refuted (inl h) = absurd (let e = h.0 in cc)
    refuted (inr (is, inl none)) = some none
    refuted (inr (is, inr may)) = never may

pub other_fault : (ks : List TokenKind) (fault : LexFault) → fault ≢ lexical.OpenComment → NoneBefore ks (at_fault fault)
other_fault ks fault other = with_fifth ks (at_fault fault) (four_at_end ks (at_fault fault) (λ e. cc)) refuted
  where
    refuted : Applies ks (at_fault fault) lacks_more → ⊥
    refuted (inl h) = absurd (let e = h.0 in cc)
    refuted (inr h) = other (let e = h.0 in cc)

pub too_deep_behind : (ks : List TokenKind) → NoneBefore ks too_deep
too_deep_behind ks = with_fifth ks too_deep (four_at_end ks too_deep (λ e. cc)) refuted
  where
    refuted : Applies ks too_deep lacks_more → ⊥
    refuted (inl h) = absurd (let e = h.0 in cc)
    refuted (inr h) = absurd (let e = h.0 in cc)

-- ---- a text with a token that can't come

-- these kinds are a prefix in no room
abbrev pub IsNoPrefix : List TokenKind → Type 0
IsNoPrefix ks = (room : ℕ) → IsPrefix snippet room ks → ⊥

four_refused : (ks : List TokenKind) (stop : Stop) → ks ≢ [] → IsNoPrefix ks → NoneApplies ks stop (before lacks_more)
four_refused ks stop some never =
    let not_whole : IsSnippet ks → ⊥ = λ is. never 256 (inl is) in
    let not_with : LacksSemicolon ks → ⊥ = λ h. never 256 (prefix_front 256 ks (token.Semicolon ∷ []) (inl h.0)) in
    (λ h. some h.1, (λ h. not_whole h.1, (λ h. not_whole h.1, (λ h. not_with h.1, tt))))

pub refused_behind : (ks : List TokenKind) (stop : Stop) → ks ≢ [] → IsNoPrefix ks → NoneBefore ks stop
refused_behind ks stop some never = with_fifth ks stop (four_refused ks stop some never) refuted
  where
    refuted : Applies ks stop lacks_more → ⊥
    refuted (inl h) = never h.1.0 (inr h.1.1)
    refuted (inr (is, inl none)) = some none
    refuted (inr (is, inr may)) = never may.0 (inr may.1)

-- ---- a text that is no snippet as it stands

begun_some : (ts : List Token) (stop : Stop) (longest : ℕ) → NoneBefore (kinds ts) stop → IsLongest ts (length ts) longest → 0 < longest →
    IsGiven (kinds ts) stop completeness.Complete
begun_some ts stop longest none is some = (begins_whole, (longest, some, subst IsSnippet (take_kinds ts longest) (is.1 some)), none, refl)

begun_none : (ts : List Token) (stop : Stop) (longest : ℕ) → NoneBefore (kinds ts) stop → IsLongest ts (length ts) longest → longest ≡ 0 →
    IsGiven (kinds ts) stop completeness.Unknown
begun_none ts stop longest none is zero_long =
    let ks = kinds ts in
    let no_front : Applies ks stop begins_whole → ⊥ = λ h. none_longest ts longest h.0 is zero_long (subst IsSnippet (sym (take_kinds ts h.0)) h.2) in
    (otherwise, tt, none_and ks stop (before begins_whole) begins_whole none no_front, refl)

pub begun : (ts : List Token) (stop : Stop) (longest : ℕ) (kind : Completeness) → NoneBefore (kinds ts) stop → IsLongest ts (length ts) longest →
    (0 < longest → kind ≡ completeness.Complete) → (longest ≡ 0 → kind ≡ completeness.Unknown) → IsGiven (kinds ts) stop kind
begun ts stop zero kind none is complete unknown = subst (IsGiven (kinds ts) stop) (sym (unknown refl)) (begun_none ts stop zero none is refl)
begun ts stop (suc n) kind none is complete unknown =
    subst (IsGiven (kinds ts) stop) (sym (complete (omega arith))) (begun_some ts stop (suc n) none is (omega arith))

-- ---- the end

-- where the kind is Complete, there is a longest snippet
pub some_longest : (ts : List Token) (stop : Stop) (longest : ℕ) (kind : Completeness) → IsGiven (kinds ts) stop kind → IsLongest ts (length ts) longest →
    kind ≡ completeness.Complete → 0 < longest
some_longest ts stop (suc n) kind given is complete = omega arith
some_longest ts stop zero kind (no_tokens, applies, none, is_kind) is complete = absurd cc
some_longest ts stop zero kind (else_may_follow, applies, none, is_kind) is complete = absurd cc
some_longest ts stop zero kind (whole, applies, none, is_kind) is complete = absurd (none_of_all ts zero is refl applies.1)
some_longest ts stop zero kind (lacks_semicolon, applies, none, is_kind) is complete = absurd cc
some_longest ts stop zero kind (lacks_more, applies, none, is_kind) is complete = absurd cc
some_longest ts stop zero kind (begins_whole, applies, none, is_kind) is complete =
    absurd (none_longest ts zero applies.0 is refl (subst IsSnippet (sym (take_kinds ts applies.0)) applies.2))
some_longest ts stop zero kind (otherwise, applies, none, is_kind) is complete = absurd cc

pub longest_end : (ts : List Token) (longest end : ℕ) → IsLongest ts (length ts) longest → 0 < longest → end ≡ end_of (take longest ts) → IsEndOfLongest ts end
longest_end ts longest end is some e = (longest, is.1 some, is.2, e)

end_by : (rule : Rule) (text : List ℕ) (ts : List Token) (kind : Completeness) (end : ℕ) → kind ≡ kind_by rule →
    (kind ≡ completeness.Complete → IsEndOfLongest ts end) → ((kind ≡ completeness.Complete → ⊥) → end ≡ length text) → IsEndBy rule text ts end
end_by no_tokens text ts kind end is first last = last (λ e. cc)
end_by else_may_follow text ts kind end is first last = last (λ e. cc)
end_by whole text ts kind end is first last = first is
end_by lacks_semicolon text ts kind end is first last = last (λ e. cc)
end_by lacks_more text ts kind end is first last = last (λ e. cc)
end_by begins_whole text ts kind end is first last = first is
end_by otherwise text ts kind end is first last = last (λ e. cc)

pub completion : (text : List ℕ) (ts counted : List Token) (fault : Option LexFault) (stop : Stop) (c : Completion) → Counts ts fault counted stop →
    IsGiven (kinds counted) stop c.kind → (c.kind ≡ completeness.Complete → IsEndOfLongest counted c.end) →
    ((c.kind ≡ completeness.Complete → ⊥) → c.end ≡ length text) → IsCompletion text ts fault c
completion text ts counted fault stop c counts (rule, applies, none, is) first last =
    by_rule rule counts applies none is (end_by rule text counted c.kind c.end is first last)
