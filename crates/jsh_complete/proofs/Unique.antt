-- A text has one completion: the tokens that count are determined, and the first rule that applies, and the end that it gives.
use Rattle.std.proofs.Common.{◌≡◌, ℕ, zero, suc, ◌≤◌, ◌<◌, List, take, length, Option, inl, inr, refl, sym, ap, ◌∙◌, subst, arith}
use Rattle.std.proofs.lemmas.List.{take_all}
use Rattle.std.proofs.lemmas.Bool.{cases_lt, cases_order}
use Rattle.jsh_tree.specs.declared.token.Token.{Token}
use Rattle.jsh_tree.specs.declared.token.TokenKind.{TokenKind}
use Rattle.jsh_lex.specs.declared.lexeme.LexFault.{LexFault}
use Rattle.jsh_recognizer.specs.Recognizing.{kinds}
use Rattle.jsh_complete.specs.declared.completion.Completion.{Completion}
use Rattle.jsh_complete.specs.Completeness.{Stop, IsTooDeep, Counts, all, some, IsSnippet, Rule, no_tokens, else_may_follow, whole, lacks_semicolon, lacks_more, begins_whole, otherwise, Applies, NoneApplies, before, kind_by, end_of, IsEndOfLongest, IsEndBy, IsCompletion, by_rule}
use Rattle.jsh_complete.proofs.Counted.{fewer}

-- ---- the tokens that count

not_deeper : (ts : List Token) (n m : ℕ) → IsTooDeep ts n → IsTooDeep ts m → n < m → ⊥
not_deeper ts n m deep further lt = deep.1.1 (fewer 256 ts (suc n) m (omega (arith, lt)) further.0)

one_depth : (ts : List Token) (n m : ℕ) → IsTooDeep ts n → IsTooDeep ts m → n ≡ m
one_depth ts n m deep other = elim (cases_order n m) [
  | inl same ↦ same
  | inr (inl lt) ↦ absurd (not_deeper ts n m deep other lt)
  | inr (inr gt) ↦ absurd (not_deeper ts m n other deep gt)
]

one_count : {ts : List Token} {fault : Option LexFault} {a b : List Token} {s t : Stop} → Counts ts fault a s → Counts ts fault b t → (a ≡ b) × (s ≡ t)
one_count (all none) (all also) = (refl, refl)
one_count (all none) (some n deep) = absurd (none n deep)
one_count (some n deep) (all none) = absurd (none n deep)
one_count {ts = ts} (some n deep) (some m other) = (ap (λ x. take x ts) (one_depth ts n m deep other), refl)

-- ---- the first rule that applies

abbrev position : Rule → ℕ
position no_tokens = 0
position else_may_follow = 1
position whole = 2
position lacks_semicolon = 3
position lacks_more = 4
position begins_whole = 5
position otherwise = 6

abbrev rule_at : ℕ → Rule
rule_at zero = no_tokens
rule_at (suc zero) = else_may_follow
rule_at (suc (suc zero)) = whole
rule_at (suc (suc (suc zero))) = lacks_semicolon
rule_at (suc (suc (suc (suc zero)))) = lacks_more
rule_at (suc (suc (suc (suc (suc zero))))) = begins_whole
rule_at _ = otherwise

placed : (rule : Rule) → rule_at (position rule) ≡ rule
placed no_tokens = refl
placed else_may_follow = refl
placed whole = refl
placed lacks_semicolon = refl
placed lacks_more = refl
placed begins_whole = refl
placed otherwise = refl

-- an earlier rule doesn't apply
earlier : (ks : List TokenKind) (stop : Stop) (r s : Rule) → position r < position s → NoneApplies ks stop (before s) → Applies ks stop r → ⊥
earlier ks stop no_tokens else_may_follow lt none is = none.0 is
earlier ks stop no_tokens whole lt none is = none.0 is
earlier ks stop else_may_follow whole lt none is = none.1.0 is
earlier ks stop no_tokens lacks_semicolon lt none is = none.0 is
earlier ks stop else_may_follow lacks_semicolon lt none is = none.1.0 is
earlier ks stop whole lacks_semicolon lt none is = none.1.1.0 is
earlier ks stop no_tokens lacks_more lt none is = none.0 is
earlier ks stop else_may_follow lacks_more lt none is = none.1.0 is
earlier ks stop whole lacks_more lt none is = none.1.1.0 is
earlier ks stop lacks_semicolon lacks_more lt none is = none.1.1.1.0 is
earlier ks stop no_tokens begins_whole lt none is = none.0 is
earlier ks stop else_may_follow begins_whole lt none is = none.1.0 is
earlier ks stop whole begins_whole lt none is = none.1.1.0 is
earlier ks stop lacks_semicolon begins_whole lt none is = none.1.1.1.0 is
earlier ks stop lacks_more begins_whole lt none is = none.1.1.1.1.0 is
earlier ks stop no_tokens otherwise lt none is = none.0 is
earlier ks stop else_may_follow otherwise lt none is = none.1.0 is
earlier ks stop whole otherwise lt none is = none.1.1.0 is
earlier ks stop lacks_semicolon otherwise lt none is = none.1.1.1.0 is
earlier ks stop lacks_more otherwise lt none is = none.1.1.1.1.0 is
earlier ks stop begins_whole otherwise lt none is = none.1.1.1.1.1.0 is
earlier ks stop otherwise otherwise lt none is = absurd (omega (arith, lt))
earlier ks stop _ _ lt none is = absurd (omega (arith, lt))

one_rule : (ks : List TokenKind) (stop : Stop) (r s : Rule) → Applies ks stop r → NoneApplies ks stop (before r) → Applies ks stop s →
    NoneApplies ks stop (before s) → r ≡ s
one_rule ks stop r s is none also nor = elim (cases_order (position r) (position s)) [
  | inl same ↦ sym (placed r) ∙ (ap rule_at same ∙ placed s)
  | inr (inl lt) ↦ absurd (earlier ks stop r s lt nor is)
  | inr (inr gt) ↦ absurd (earlier ks stop s r gt none also)
]

-- ---- the end

-- no longer front is a snippet, but as many tokens with a greater count
as_long : (ts : List Token) (n m : ℕ) → ((k : ℕ) → n < k → k ≤ length ts → IsSnippet (kinds (take k ts)) → ⊥) → IsSnippet (kinds (take m ts)) → n < m →
    take n ts ≡ take m ts
as_long ts n m none is lt = elim (cases_lt n (length ts)) [
  | inl within ↦ elim (cases_lt (length ts) m) [
    | inl past ↦ absurd (none (length ts) within (omega arith) (subst (λ x. IsSnippet (kinds x)) (take_all m ts (omega (arith, past)) ∙ sym (take_all (length ts) ts (omega arith))) is))
    | inr le ↦ absurd (none m lt le is)
  ]
  | inr past ↦ take_all n ts past ∙ sym (take_all m ts (omega (arith, past, lt)))
]

one_longest : (ts : List Token) (a b : ℕ) → IsEndOfLongest ts a → IsEndOfLongest ts b → a ≡ b
one_longest ts a b (n, is, none, to) (m, also, nor, up) = elim (cases_order n m) [
  | inl same ↦ to ∙ (ap (λ x. end_of (take x ts)) same ∙ sym up)
  | inr (inl lt) ↦ to ∙ (ap end_of (as_long ts n m none also lt) ∙ sym up)
  | inr (inr gt) ↦ to ∙ (ap end_of (sym (as_long ts m n nor is gt)) ∙ sym up)
]

one_end : (rule : Rule) (text : List ℕ) (ts : List Token) (a b : ℕ) → IsEndBy rule text ts a → IsEndBy rule text ts b → a ≡ b
one_end whole text ts a b is also = one_longest ts a b is also
one_end begins_whole text ts a b is also = one_longest ts a b is also
one_end _ text ts a b is also = is ∙ sym also

-- ---- all of it

same_completion : (a b : Completion) → a.kind ≡ b.kind → a.end ≡ b.end → a ≡ b
same_completion a b kind end =
    let A : Completion = record { kind = b.kind; end = a.end } in
    let first : a ≡ A = ap (λ x. record { kind = x; end = a.end }) kind in
    let second : A ≡ b = ap (λ x. record { kind = b.kind; end = x }) end in
    first ∙ second

joined : (text : List ℕ) (ks ls : List Token) (s t : Stop) (a b : Completion) (r q : Rule) → (ks ≡ ls) × (s ≡ t) → Applies (kinds ks) s r →
    NoneApplies (kinds ks) s (before r) → a.kind ≡ kind_by r → IsEndBy r text ks a.end → Applies (kinds ls) t q → NoneApplies (kinds ls) t (before q) →
    b.kind ≡ kind_by q → IsEndBy q text ls b.end → a ≡ b
joined text ks ls s t a b r q same is none kind end also nor other up =
    let is_there : Applies (kinds ls) t r = subst (λ x. Applies (kinds ls) x r) same.1 (subst (λ x. Applies (kinds x) s r) same.0 is) in
    let none_there : NoneApplies (kinds ls) t (before r) =
    subst (λ x. NoneApplies (kinds ls) x (before r)) same.1 (subst (λ x. NoneApplies (kinds x) s (before r)) same.0 none) in
    let one : r ≡ q = one_rule (kinds ls) t r q is_there none_there also nor in
    let end_there : IsEndBy q text ls a.end = subst (λ x. IsEndBy x text ls a.end) one (subst (λ x. IsEndBy r text x a.end) same.0 end) in
    same_completion a b (kind ∙ (ap kind_by one ∙ sym other)) (one_end q text ls a.end b.end end_there up)

pub one : (text : List ℕ) (ts : List Token) (fault : Option LexFault) (a b : Completion) → IsCompletion text ts fault a → IsCompletion text ts fault b → a ≡ b
one text ts fault a b (by_rule {counted = ks} {stop = s} r counts is none kind end) (by_rule {counted = ls} {stop = t} q others also nor other up) =
    joined text ks ls s t a b r q (one_count counts others) is none kind end also nor other up
