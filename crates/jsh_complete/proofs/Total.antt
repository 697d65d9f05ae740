-- The function gives the completion of each text.
use Rattle.std.proofs.Common.{◌≡◌, ◌⊎◌, ℕ, zero, suc, ◌<◌, ◌≤◌, nat_lt, Bool, true, false, not, ◌&&◌, ◌||◌, MatchBool, if◌then◌else◌, List, [], ◌∷◌, ◌++◌, take, length, Option, inl, inr, refl, sym, subst, arith}
use Rattle.std.proofs.Math.Seq.{take-length}
use Rattle.std.proofs.lemmas.List.{length-map}
use Rattle.std.proofs.lemmas.Bool.{cases_lt}
use Rattle.std.proofs.lemmas.Bool.Decides.{nat_tests}
use Rattle.jsh_tree.specs.declared.token.Token.{Token}
use Rattle.jsh_tree.specs.declared.token.TokenKind.{TokenKind}
use Rattle.jsh_tree.specs.declared.token.TokenKind.TheVariants as token
use Rattle.jsh_lex.specs.declared.lexeme.LexFault.{LexFault}
use Rattle.jsh_lex.specs.declared.lexeme.LexFault.TheVariants as lexical
use Rattle.jsh_grammar.specs.Productions.{snippet}
use Rattle.jsh_grammar.specs.Fronts.{IsPrefix}
use Rattle.jsh_recognizer.specs.declared.recognizer.Start.TheVariants as start
use Rattle.jsh_recognizer.specs.Recognizing.{first, kinds}
use Rattle.jsh_recognizer.specs.Reach.{Reason, reach}
use Rattle.jsh_recognizer.specs.Reach as machine
use Rattle.jsh_recognizer.specs.Reached.{IsReach}
use Rattle.jsh_recognizer.specs.Stops.{IsStuck}
use Rattle.jsh_recognizer.specs.Refused as refused
use Rattle.jsh_recognizer.proofs.Reaches.{reach_of}
use Rattle.jsh_recognizer.proofs.Refusals.{refused_once, refused_not_whole}
use Rattle.jsh_recognizer.proofs.Prefixes.{prefix_tells, whole_tells, viable_tells}
use Rattle.jsh_complete.specs.declared.completion.Completion.{Completion}
use Rattle.jsh_complete.specs.Completeness.{Stop, at_end, at_fault, too_deep, Counts, all, some, IsTooDeep, IsSnippet, MayGoOn, LacksSemicolon, Rule, no_tokens, else_may_follow, whole, lacks_semicolon, lacks_more, begins_whole, otherwise, Applies, before, NoneApplies, IsEndOfLongest, IsEndBy, end_of, IsCompletion, by_rule}
use Rattle.jsh_complete.specs.Completing.{counted_by, counted, is_snippet, may_go_on, may_come, lacks_only_semicolon, longest_within, longest, ends, leads_to_comment, are_none, applies, rule_of, end_by, completion}
use Rattle.jsh_complete.specs.Reading.{IsLongest, MayCome}
use Rattle.jsh_complete.proofs.Counted.{take_kinds, none_longest}
use Rattle.jsh_complete.proofs.Unique.{one}

-- ---- the tokens that count

-- tokens that stop being a prefix don't stand too deep
not_deep : (ts : List Token) (read : ℕ) → read ≤ length ts → IsPrefix snippet 256 (kinds (take read ts)) → IsStuck snippet ts read → (n : ℕ) → IsTooDeep ts n → ⊥
not_deep ts read le is stops n deep =
    let once = refused_once start.Snippet ts (refused.stuck read le is stops) (refused.too_deep n deep.0 deep.1) in
    let same : false ≡ true = once.1 in
    cc

counts_by : (ts : List Token) (fault : Option LexFault) (read : ℕ) (reason : Reason) → IsReach snippet 256 ts (record { read = read; reason = reason }) →
    Counts ts fault (counted_by ts fault read reason).0 (counted_by ts fault read reason).1
counts_by ts fault read machine.whole is = all (λ n deep. refused_not_whole start.Snippet ts (refused.too_deep n deep.0 deep.1) is.1.1)
counts_by ts fault read machine.unfinished is = all (not_deep ts read (omega (arith, is.1.0)) is.0 is.1.1)
counts_by ts fault read machine.refused is = all (not_deep ts read (omega (arith, is.1.0)) is.0 is.1.1)
counts_by ts fault read machine.too_deep is = some read (is.0, is.1.1)

counts_of : (ts : List Token) (fault : Option LexFault) → Counts ts fault (counted ts fault).0 (counted ts fault).1
unfolding counted
counts_of ts fault =
    counts_by ts fault (reach 256 (first start.Snippet) (kinds ts)).read (reach 256 (first start.Snippet) (kinds ts)).reason (reach_of start.Snippet ts)

-- ---- tests

-- the test tells whether it is so
abbrev Tells : Bool → Type 0 → Type 0
Tells b A = MatchBool b A (A → ⊥)

both : (A B : Type 0) (a b : Bool) → Tells a A → Tells b B → Tells (a && b) (A × B)
both A B true true x y = (x, y)
both A B true false x never = λ h. never h.1
both A B false b never y = λ h. never h.0

all_three : (A B C : Type 0) (a b c : Bool) → Tells a A → Tells b B → Tells c C → Tells (a && (b && c)) (A × B × C)
all_three A B C true true true x y z = (x, y, z)
all_three A B C true true false x y never = λ h. never h.2
all_three A B C true false c x never z = λ h. never h.1
all_three A B C false b c never y z = λ h. never h.0

one_of : (A B : Type 0) (a b : Bool) → Tells a A → Tells b B → Tells (a || b) (A ⊎ B)
one_of A B true b x y = inl x
one_of A B false true never y = inr y
one_of A B false false never neither = λ h. elim h [ inl x ↦ never x | inr y ↦ neither y ]

ends_tells : (stop : Stop) → Tells (ends stop) (stop ≡ at_end)
ends_tells at_end = refl
ends_tells (at_fault fault) = λ e. cc
ends_tells too_deep = λ e. cc

comment_tells : (stop : Stop) → Tells (leads_to_comment stop) (stop ≡ at_fault lexical.OpenComment)
comment_tells at_end = λ e. cc
comment_tells (at_fault lexical.OpenComment) = refl
comment_tells (at_fault _) = λ e. cc
comment_tells too_deep = λ e. cc

none_tells : (ks : List TokenKind) → Tells (are_none ks) (ks ≡ [])
none_tells [] = refl
none_tells (k ∷ ks) = λ e. cc

snippet_tells : (ks : List TokenKind) → Tells (is_snippet ks) (IsSnippet ks)
unfolding is_snippet
snippet_tells ks = whole_tells start.Snippet 256 ks

go_on_tells : (ks : List TokenKind) → Tells (may_go_on ks) (MayGoOn ks)
unfolding may_go_on
go_on_tells ks = viable_tells start.Snippet ks

come_tells : (ks : List TokenKind) (k : TokenKind) → Tells (may_come ks k) (MayCome ks k)
unfolding may_come
come_tells ks k = prefix_tells start.Snippet (ks ++ k ∷ [])

never_tells : (ks : List TokenKind) (b : Bool) → Tells b (MayCome ks token.LeftBrace) →
    Tells (not b) ((room : ℕ) → IsPrefix snippet room (ks ++ token.LeftBrace ∷ []) → ⊥)
never_tells ks true is = λ never. never is.0 is.1
never_tells ks false never = λ room is. never (room, is)

semicolon_tells : (ks : List TokenKind) → Tells (lacks_only_semicolon ks) (LacksSemicolon ks)
semicolon_tells ks =
    both _ _ (is_snippet (ks ++ token.Semicolon ∷ [])) (not (may_come ks token.LeftBrace)) (snippet_tells (ks ++ token.Semicolon ∷ []))
    (never_tells ks (may_come ks token.LeftBrace) (come_tells ks token.LeftBrace))

-- ---- the longest snippet

-- where one token more is none
longest_before : (ts : List Token) (n longest : ℕ) → (IsSnippet (kinds (take (suc n) ts)) → ⊥) → IsLongest ts n longest → IsLongest ts (suc n) longest
longest_before ts n longest isnt is = (
  omega (arith, is.0),
  is.1,
  λ m more le snip. elim (cases_lt n m) [
    | inl lt ↦ (let same : m ≡ suc n = omega arith in isnt (subst (λ j. IsSnippet (kinds (take j ts))) same snip))
    | inr fewer ↦ is.2 m more fewer snip
  ],
)

longest_with : (ts : List Token) (n : ℕ) (b : Bool) → Tells b (IsSnippet (take (suc n) (kinds ts))) → IsLongest ts n (longest_within n (kinds ts)) →
    IsLongest ts (suc n) (if b then suc n else longest_within n (kinds ts))
longest_with ts n true is fewer = (omega arith, (λ some. subst IsSnippet (sym (take_kinds ts (suc n))) is), (λ m more le snip. omega arith))
longest_with ts n false isnt fewer = longest_before ts n (longest_within n (kinds ts)) (λ snip. isnt (subst IsSnippet (take_kinds ts (suc n)) snip)) fewer

longest_is : (ts : List Token) (most : ℕ) → IsLongest ts most (longest_within most (kinds ts))
longest_is ts zero = (omega arith, (λ some. absurd (omega arith)), (λ m more le snip. omega arith))
longest_is ts (suc n) = longest_with ts n (is_snippet (take (suc n) (kinds ts))) (snippet_tells (take (suc n) (kinds ts))) (longest_is ts n)

longest_of_all : (ts : List Token) → IsLongest ts (length ts) (longest (kinds ts))
longest_of_all ts = subst (λ n. IsLongest ts (length ts) (longest_within n (kinds ts))) (sym (length-map ts (λ t. t.kind))) (longest_is ts (length ts))

begins_by : (ts : List Token) (most : ℕ) → IsLongest ts (length ts) most → (b : Bool) → nat_lt 0 most ≡ b →
    Tells b ((n : ℕ) × (0 < n) × IsSnippet (take n (kinds ts)))
begins_by ts most is true e = let long : 0 < most = grind (arith, nat_tests) in (most, long, subst IsSnippet (take_kinds ts most) (is.1 long))
begins_by ts most is false e = λ h.
    let none : most ≡ 0 = grind (arith, nat_tests) in
    none_longest ts most h.0 is none (subst IsSnippet (sym (take_kinds ts h.0)) h.2)

begins_tells : (ts : List Token) → Tells (nat_lt 0 (longest (kinds ts))) ((n : ℕ) × (0 < n) × IsSnippet (take n (kinds ts)))
begins_tells ts = begins_by ts (longest (kinds ts)) (longest_of_all ts) (nat_lt 0 (longest (kinds ts))) refl

-- ---- the first rule that applies

applies_tells : (ts : List Token) (stop : Stop) (rule : Rule) → Tells (applies (kinds ts) stop rule) (Applies (kinds ts) stop rule)
applies_tells ts stop no_tokens = both _ _ (ends stop) (are_none (kinds ts)) (ends_tells stop) (none_tells (kinds ts))
applies_tells ts stop else_may_follow =
    all_three _ _ _ (ends stop) (is_snippet (kinds ts)) (may_go_on (kinds ts ++ token.Else ∷ [])) (ends_tells stop) (snippet_tells (kinds ts))
    (go_on_tells (kinds ts ++ token.Else ∷ []))
applies_tells ts stop whole = both _ _ (ends stop) (is_snippet (kinds ts)) (ends_tells stop) (snippet_tells (kinds ts))
applies_tells ts stop lacks_semicolon = both _ _ (ends stop) (lacks_only_semicolon (kinds ts)) (ends_tells stop) (semicolon_tells (kinds ts))
applies_tells ts stop lacks_more =
    one_of _ _ (ends stop && may_go_on (kinds ts)) (leads_to_comment stop && (are_none (kinds ts) || may_go_on (kinds ts)))
    (both _ _ (ends stop) (may_go_on (kinds ts)) (ends_tells stop) (go_on_tells (kinds ts)))
    (both _ _ (leads_to_comment stop) (are_none (kinds ts) || may_go_on (kinds ts)) (comment_tells stop)
    (one_of _ _ (are_none (kinds ts)) (may_go_on (kinds ts)) (none_tells (kinds ts)) (go_on_tells (kinds ts))))
applies_tells ts stop begins_whole = begins_tells ts
applies_tells ts stop otherwise = tt

-- it applies, and none before it
abbrev IsFirst : List TokenKind → Stop → Rule → Type 0
IsFirst ks stop rule = Applies ks stop rule × NoneApplies ks stop (before rule)

first_by : (ks : List TokenKind) (stop : Stop) (a b c d e f : Bool) → Tells a (Applies ks stop no_tokens) → Tells b (Applies ks stop else_may_follow) →
    Tells c (Applies ks stop whole) → Tells d (Applies ks stop lacks_semicolon) → Tells e (Applies ks stop lacks_more) → Tells f (Applies ks stop begins_whole) →
    IsFirst ks stop (if a then no_tokens else (if b then else_may_follow else (if c then whole else (if d then lacks_semicolon else
    (if e then lacks_more else (if f then begins_whole else otherwise))))))
first_by ks stop true b c d e f is j k l m n = (is, tt)
first_by ks stop false true c d e f i is k l m n = (is, (i, tt))
first_by ks stop false false true d e f i j is l m n = (is, (i, (j, tt)))
first_by ks stop false false false true e f i j k is m n = (is, (i, (j, (k, tt))))
first_by ks stop false false false false true f i j k l is n = (is, (i, (j, (k, (l, tt)))))
first_by ks stop false false false false false true i j k l m is = (is, (i, (j, (k, (l, (m, tt))))))
first_by ks stop false false false false false false i j k l m n = (tt, (i, (j, (k, (l, (m, (n, tt)))))))

first_is : (ts : List Token) (stop : Stop) → IsFirst (kinds ts) stop (rule_of (kinds ts) stop)
first_is ts stop = first_by (kinds ts) stop _ _ _ _ _ _ (applies_tells ts stop no_tokens) (applies_tells ts stop else_may_follow) (applies_tells ts stop whole)
    (applies_tells ts stop lacks_semicolon) (applies_tells ts stop lacks_more) (applies_tells ts stop begins_whole)

-- ---- the end

front_longest : (ts : List Token) (n : ℕ) → IsSnippet (kinds (take n ts)) → IsEndOfLongest ts (end_of (take (longest (kinds ts)) ts))
front_longest ts n is =
    let most : IsLongest ts (length ts) (longest (kinds ts)) = longest_of_all ts in
    elim (cases_lt 0 (longest (kinds ts))) [
      | inl long ↦ (longest (kinds ts), most.1 long, most.2, refl)
      | inr none ↦ absurd (none_longest ts (longest (kinds ts)) n most (omega arith) is)
    ]

end_is : (rule : Rule) (text : List ℕ) (ts : List Token) (stop : Stop) → Applies (kinds ts) stop rule → IsEndBy rule text ts (end_by rule text ts)
end_is whole text ts stop applies = front_longest ts (length ts) (subst (λ us. IsSnippet (kinds us)) (sym (take-length ts)) applies.1)
end_is begins_whole text ts stop applies = front_longest ts applies.0 (subst IsSnippet (sym (take_kinds ts applies.0)) applies.2)
end_is _ text ts stop applies = refl

-- what the function gives is the completion of the text
pub completes : (text : List ℕ) (ts : List Token) (fault : Option LexFault) → IsCompletion text ts fault (completion text ts fault)
unfolding completion
completes text ts fault =
    let c = counted ts fault in
    let rule = rule_of (kinds c.0) c.1 in
    let is = first_is c.0 c.1 in
    by_rule rule (counts_of ts fault) is.0 is.1 refl (end_is rule text c.0 c.1 is.0)

-- and the only one
pub is_completion : (text : List ℕ) (ts : List Token) (fault : Option LexFault) (c : Completion) → IsCompletion text ts fault c → c ≡ completion text ts fault
is_completion text ts fault c is = one text ts fault c (completion text ts fault) is (completes text ts fault)
