-- What becomes of the next token.
use Rattle.std.proofs.Common.{◌≡◌, ◌≢◌, ℕ, zero, suc, ◌+◌, ◌<◌, List, [], ◌∷◌, ◌++◌, take, length, get_or, inl, inr, refl, sym, ap, subst, arith}
use Rattle.std.proofs.lemmas.Bool.{cases_lt}
use Rattle.jsh_tree.specs.declared.token.Token.{Token}
use Rattle.jsh_tree.specs.declared.token.TokenKind.{TokenKind}
use Rattle.jsh_grammar.specs.Productions.{snippet}
use Rattle.jsh_grammar.specs.Fronts.{IsPrefix}
use Rattle.jsh_recognizer.specs.declared.recognizer.Advance.{Advance}
use Rattle.jsh_recognizer.specs.declared.recognizer.Advance.TheVariants as advance
use Rattle.jsh_recognizer.specs.Machine.{Frames}
use Rattle.jsh_recognizer.specs.Recognizing.{kinds, Advances}
use Rattle.jsh_recognizer.specs.Stops.{IsDeeper}
use Rattle.jsh_recognizer.proofs.Stopped.{runs_put}
use Rattle.jsh_complete.specs.Completeness.{IsSnippet}
use Rattle.jsh_complete.specs.Reading.{IsBehind, IsLongest}
use Rattle.jsh_complete.proofs.Behind.{some_prefix, too_deep, refused}

next_kinds : (ts : List Token) (i : ℕ) (d : Token) → i < length ts → kinds (take (suc i) ts) ≡ kinds (take i ts) ++ (get_or ts i d).kind ∷ []
next_kinds [] i d lt = absurd (omega (arith, lt))
next_kinds (t ∷ ts) zero d lt = refl
next_kinds (t ∷ ts) (suc i) d lt = ap (λ x. t.kind ∷ x) (next_kinds ts i d (omega (arith, lt)))

-- it is taken
pub more_behind : (old new : Frames) (a : Advance) (ts : List Token) (i : ℕ) (d : Token) → i < length ts → IsBehind (kinds (take i ts)) old →
    Advances 256 (get_or ts i d).kind old new a → a ≡ advance.Taken → IsBehind (kinds (take (i + 1) ts)) new
more_behind old new advance.Taken ts i d lt runs steps is =
    let put : IsBehind (kinds (take i ts) ++ (get_or ts i d).kind ∷ []) new = runs_put runs steps.1 steps.2 in
    let same : suc i ≡ i + 1 = omega arith in
    subst (λ n. IsBehind (kinds (take n ts)) new) same (subst (λ x. IsBehind x new) (sym (next_kinds ts i d lt)) put)
more_behind old new advance.TooDeep ts i d lt runs steps is = absurd cc
more_behind old new advance.Refused ts i d lt runs steps is = absurd cc

-- any other leaves the frames as they are
pub stays : (k : TokenKind) (old new : Frames) (a : Advance) → Advances 256 k old new a → a ≢ advance.Taken → new ≡ old
stays k old new advance.Taken steps other = absurd (other refl)
stays k old new advance.TooDeep steps other = steps.1
stays k old new advance.Refused steps other = steps.1

-- it stands too deep
pub halts_deep : (old new : Frames) (a : Advance) (ts : List Token) (i : ℕ) (d : Token) → i < length ts → IsBehind (kinds (take i ts)) old →
    Advances 256 (get_or ts i d).kind old new a → a ≡ advance.TooDeep → IsDeeper snippet 256 ts i
halts_deep old new advance.Taken ts i d lt runs steps is = absurd cc
halts_deep old new advance.TooDeep ts i d lt runs steps is =
    let more = some_prefix (kinds (take i ts)) runs steps.0.2 in (
      (more.0, subst (IsPrefix snippet more.0) (sym (next_kinds ts i d lt)) more.1),
      λ fits. too_deep (kinds (take i ts)) runs steps.0.2 steps.0.3 (subst (IsPrefix snippet 256) (next_kinds ts i d lt) fits),
    )
halts_deep old new advance.Refused ts i d lt runs steps is = absurd cc

-- no such token may come
pub halts_refused : (old new : Frames) (a : Advance) (ts : List Token) (i : ℕ) (d : Token) → i < length ts → IsBehind (kinds (take i ts)) old →
    Advances 256 (get_or ts i d).kind old new a → a ≡ advance.Refused → (room : ℕ) → IsPrefix snippet room (kinds (take (suc i) ts)) → ⊥
halts_refused old new advance.Taken ts i d lt runs steps is room fits = absurd cc
halts_refused old new advance.TooDeep ts i d lt runs steps is room fits = absurd cc
halts_refused old new advance.Refused ts i d lt runs steps is room fits =
    refused (kinds (take i ts)) runs steps.0 room (subst (IsPrefix snippet room) (next_kinds ts i d lt) fits)

-- ---- the longest snippet so far

pub none_yet : (ts : List Token) → IsLongest ts 0 0
none_yet ts = (omega arith, λ some. absurd (omega (arith, some)), λ m some le snip. omega (arith, some, le))

pub now_longest : (ts : List Token) (n : ℕ) → IsSnippet (kinds (take n ts)) → IsLongest ts n n
now_longest ts n is = (omega arith, λ some. is, λ m lt le snip. omega (arith, lt, le))

pub still_longest : (ts : List Token) (n longest : ℕ) → IsLongest ts n longest → (IsSnippet (kinds (take (n + 1) ts)) → ⊥) → IsLongest ts (n + 1) longest
still_longest ts n longest is none = (
  omega (arith, is.0),
  is.1,
  λ m lt le snip. elim (cases_lt n m) [
    | inl more ↦ (let same : m ≡ n + 1 = omega (arith, more, le) in none (subst (λ x. IsSnippet (kinds (take x ts))) same snip))
    | inr within ↦ is.2 m lt within snip
  ],
)
