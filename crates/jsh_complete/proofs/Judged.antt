-- What the recognizer's answers say of the tokens before, and what a text is by them.
use Rattle.std.proofs.Common.{◌≡◌, ◌≢◌, ℕ, zero, suc, ◌-◌, ◌≤◌, ◌<◌, ◌⊎◌, Bool, true, false, ◌==◌, List, [], ◌∷◌, ◌++◌, take, length, get_or, Option, Some, None, MatchBool, is_some, inl, inr, refl, sym, ◌∙◌, subst, arith}
use Rattle.std.proofs.lemmas.Bool.Decides.{eqb_tells}
use Rattle.jsh_tree.specs.declared.token.Token.{Token}
use Rattle.jsh_tree.specs.declared.token.TokenKind.{TokenKind}
use Rattle.jsh_tree.specs.declared.token.TokenKind.TheVariants as token
use Rattle.jsh_lex.specs.declared.lexeme.LexFault.{LexFault}
use Rattle.jsh_recognizer.specs.declared.recognizer.Advance.{Advance}
use Rattle.jsh_recognizer.specs.declared.recognizer.Advance.TheVariants as advance
use Rattle.jsh_recognizer.specs.Machine.{Frames, may_all_stop}
use Rattle.jsh_recognizer.specs.Recognizing.{kinds, Looks, Advances, Wants}
use Rattle.jsh_recognizer.proofs.Stopped.{runs_put}
use Rattle.jsh_complete.specs.declared.completion.Completeness.{Completeness}
use Rattle.jsh_complete.specs.declared.completion.Completeness.TheVariants as completeness
use Rattle.jsh_complete.specs.declared.reading.Halt.{Halt}
use Rattle.jsh_complete.specs.declared.reading.Halt.TheVariants as halt
use Rattle.jsh_complete.specs.Completeness.{Stop, lexical_stop, too_deep, IsSnippet, LacksSemicolon, end_of}
use Rattle.jsh_complete.specs.Reading.{IsBehind, MayCome, IsOpen, IsLongest, Halts, counted_of, stop_of, IsGiven}
use Rattle.jsh_complete.proofs.Behind.{some_prefix, refused, wants_some, wants_none, stops_whole, open_not_whole}
use Rattle.jsh_complete.proofs.Behind as behind
use Rattle.jsh_complete.proofs.Counted.{front, longest_counted}
use Rattle.jsh_complete.proofs.Given.{begun, too_deep_behind, refused_behind}

-- ---- tests

not_empty : (n : ℕ) → (suc n == 0) ≡ true → ⊥
not_empty n e = elim (eqb_tells (suc n) 0) [
  | inl same ↦ absurd (omega (arith, same.1))
  | inr other ↦ absurd (let f = other.0 in cc)
]

pub no_kinds : (ts : List Token) (b : Bool) → b ≡ (length ts == 0) → b ≡ true → kinds ts ≡ []
no_kinds [] b e is = refl
no_kinds (t ∷ ts) b e is = absurd (not_empty (length ts) (sym e ∙ is))

pub some_kinds : (ts : List Token) (b : Bool) → b ≡ (length ts == 0) → b ≡ false → kinds ts ≢ []
some_kinds [] b e is none = cc
some_kinds (t ∷ ts) b e is none = cc

-- ---- one token more

pub may_come : {fs : Frames} (k : TokenKind) (a : Advance) → Looks 256 k fs a → (a ≡ advance.Taken) ⊎ (a ≡ advance.TooDeep) → (ks : List TokenKind) →
    IsBehind ks fs → MayCome ks k
may_come k advance.Taken looks is ks runs = some_prefix ks runs looks.2
may_come k advance.TooDeep looks is ks runs = some_prefix ks runs looks.2
may_come k advance.Refused looks (inl e) ks runs = absurd cc
may_come k advance.Refused looks (inr e) ks runs = absurd cc

pub may_not_come : {fs : Frames} (k : TokenKind) (a : Advance) → Looks 256 k fs a → a ≡ advance.Refused → (ks : List TokenKind) → IsBehind ks fs →
    MayCome ks k → ⊥
may_not_come k advance.Taken looks is ks runs may = absurd cc
may_not_come k advance.TooDeep looks is ks runs may = absurd cc
may_not_come k advance.Refused looks is ks runs may = refused ks runs looks may.0 may.1

-- with a `;` behind, the tokens are a snippet or not
pub semicolon_taken : (fs next : Frames) (a : Advance) (b : Bool) (ks : List TokenKind) → Advances 256 token.Semicolon fs next a → a ≡ advance.Taken →
    IsBehind ks fs → b ≡ may_all_stop next → MatchBool b (IsSnippet (ks ++ token.Semicolon ∷ [])) (IsSnippet (ks ++ token.Semicolon ∷ []) → ⊥)
semicolon_taken fs next advance.Taken true ks steps is runs stop = stops_whole (ks ++ token.Semicolon ∷ []) (runs_put runs steps.1 steps.2) (sym stop)
semicolon_taken fs next advance.Taken false ks steps is runs stop = open_not_whole (ks ++ token.Semicolon ∷ []) (runs_put runs steps.1 steps.2) (sym stop)
semicolon_taken fs next advance.TooDeep b ks steps is runs stop = absurd cc
semicolon_taken fs next advance.Refused b ks steps is runs stop = absurd cc

pub semicolon_not_taken : (fs next : Frames) (a : Advance) → Advances 256 token.Semicolon fs next a → (a ≡ advance.TooDeep) ⊎ (a ≡ advance.Refused) →
    (ks : List TokenKind) → IsBehind ks fs → IsSnippet (ks ++ token.Semicolon ∷ []) → ⊥
semicolon_not_taken fs next advance.Taken steps (inl e) ks runs snip = absurd cc
semicolon_not_taken fs next advance.Taken steps (inr e) ks runs snip = absurd cc
semicolon_not_taken fs next advance.TooDeep steps is ks runs snip = behind.too_deep ks runs steps.0.2 steps.0.3 (inl snip)
semicolon_not_taken fs next advance.Refused steps is ks runs snip = refused ks runs steps.0 256 (inl snip)

-- one that couldn't be taken makes no snippet
pub semicolon_refused : {fs : Frames} (a : Advance) → Looks 256 token.Semicolon fs a → (a ≡ advance.TooDeep) ⊎ (a ≡ advance.Refused) →
    (ks : List TokenKind) → IsBehind ks fs → IsSnippet (ks ++ token.Semicolon ∷ []) → ⊥
semicolon_refused advance.Taken looks (inl e) ks runs snip = absurd cc
semicolon_refused advance.Taken looks (inr e) ks runs snip = absurd cc
semicolon_refused advance.TooDeep looks is ks runs snip = behind.too_deep ks runs looks.2 looks.3 (inl snip)
semicolon_refused advance.Refused looks is ks runs snip = refused ks runs looks 256 (inl snip)

-- and where no block could begin, it is all that is missing
pub semicolon_lacks : (ks : List TokenKind) (b : Bool) → (MayCome ks token.LeftBrace → ⊥) →
    MatchBool b (IsSnippet (ks ++ token.Semicolon ∷ [])) (IsSnippet (ks ++ token.Semicolon ∷ []) → ⊥) → MatchBool b (LacksSemicolon ks) (LacksSemicolon ks → ⊥)
semicolon_lacks ks true no_brace is = (is, λ room brace. no_brace (room, brace))
semicolon_lacks ks false no_brace is = λ lacks. is lacks.0

-- what is wanted shows what may go on
pub wants_open : {fs : Frames} (ks : List TokenKind) (wanted : Option TokenKind) (b : Bool) → Wants fs wanted → ks ≢ [] → IsBehind ks fs →
    b ≡ is_some wanted → MatchBool b (IsOpen ks) (IsOpen ks → ⊥)
wants_open ks (Some k) b wants some runs e = subst (λ x. MatchBool x (IsOpen ks) (IsOpen ks → ⊥)) (sym e) (inr (wants_some ks runs wants))
wants_open ks None b wants some runs e = subst (λ x. MatchBool x (IsOpen ks) (IsOpen ks → ⊥)) (sym e) by
  where
    by : IsOpen ks → ⊥
    by (inl none) = some none
    by (inr may) = wants_none ks runs wants may

-- ---- how far the tokens lead

pub given_at_end : (ts : List Token) (taken : ℕ) (h : Halt) (fault : Option LexFault) (stop : Stop) (kind : Completeness) → h ≡ halt.AtEnd →
    lexical_stop fault ≡ stop → IsGiven (kinds ts) stop kind → IsGiven (kinds (counted_of ts taken h)) (stop_of fault h) kind
given_at_end ts taken halt.AtEnd fault stop kind is same given = subst (λ x. IsGiven (kinds ts) x kind) (sym same) given
given_at_end ts taken halt.TooDeep fault stop kind is same given = absurd cc
given_at_end ts taken halt.Refused fault stop kind is same given = absurd cc

some_tokens : (ts : List Token) (n : ℕ) → n < length ts → kinds ts ≢ []
some_tokens [] n lt e = omega (arith, lt)
some_tokens (t ∷ ts) n lt e = cc

pub given_begun : (ts : List Token) (taken longest : ℕ) (h : Halt) (fault : Option LexFault) (kind : Completeness) → IsLongest ts taken longest →
    Halts ts taken h → h ≢ halt.AtEnd → (0 < longest → kind ≡ completeness.Complete) → (longest ≡ 0 → kind ≡ completeness.Unknown) →
    IsGiven (kinds (counted_of ts taken h)) (stop_of fault h) kind
given_begun ts taken longest halt.AtEnd fault kind is halts other complete unknown = absurd (other refl)
given_begun ts taken longest halt.TooDeep fault kind is halts other complete unknown =
    begun (take taken ts) too_deep longest kind (too_deep_behind (kinds (take taken ts))) (longest_counted ts taken longest halt.TooDeep is halts) complete unknown
given_begun ts taken longest halt.Refused fault kind is halts other complete unknown =
    let none_before = refused_behind (kinds ts) (lexical_stop fault) (some_tokens ts taken halts.0) (λ room whole. halts.1 room (front room ts (suc taken) whole)) in
    begun ts (lexical_stop fault) longest kind none_before (longest_counted ts taken longest halt.Refused is halts) complete unknown

pub at_end_taken : (ts : List Token) (taken : ℕ) (h : Halt) → Halts ts taken h → h ≡ halt.AtEnd → taken ≡ length ts
at_end_taken ts taken halt.AtEnd halts is = halts
at_end_taken ts taken halt.TooDeep halts is = absurd cc
at_end_taken ts taken halt.Refused halts is = absurd cc

-- ---- the last of so many tokens

pub last_end : (ts : List Token) (n : ℕ) (d : Token) → n < length ts → (get_or ts n d).span.to ≡ end_of (take (suc n) ts)
last_end [] n d lt = absurd (omega (arith, lt))
last_end (t ∷ ts) zero d lt = refl
last_end (t ∷ []) (suc n) d lt = absurd (omega (arith, lt))
last_end (t ∷ u ∷ ts) (suc n) d lt = last_end (u ∷ ts) n d (omega (arith, lt))

pub end_of_first : (ts : List Token) (n : ℕ) (d : Token) → 0 < n → n ≤ length ts → (get_or ts (n - 1) d).span.to ≡ end_of (take n ts)
end_of_first ts n d some le =
    let same : suc (n - 1) ≡ n = omega (arith, some) in
    subst (λ x. (get_or ts (n - 1) d).span.to ≡ end_of (take x ts)) same (last_end ts (n - 1) d (omega (arith, some, le)))
