-- Which tokens count, and which snippet is the longest of them.
use Rattle.std.proofs.Common.{◌≡◌, ℕ, zero, suc, ◌≤◌, List, [], ◌∷◌, ◌++◌, take, length, Option, inl, inr, refl, sym, ap, subst, arith}
use Rattle.std.proofs.lemmas.List.{take_all, take-take, length-take-le}
use Rattle.std.proofs.lemmas.Bool.{cases_lt}
use Rattle.jsh_tree.specs.declared.token.Token.{Token}
use Rattle.jsh_tree.specs.declared.token.TokenKind.{TokenKind}
use Rattle.jsh_lex.specs.declared.lexeme.LexFault.{LexFault}
use Rattle.jsh_grammar.specs.Productions.{snippet}
use Rattle.jsh_grammar.specs.Fronts.{IsPrefix}
use Rattle.jsh_recognizer.specs.Recognizing.{kinds}
use Rattle.jsh_complete.specs.declared.reading.Halt.{Halt}
use Rattle.jsh_complete.specs.declared.reading.Halt.TheVariants as halt
use Rattle.jsh_complete.specs.Completeness.{IsTooDeep, Counts, all, some, IsSnippet}
use Rattle.jsh_complete.specs.Reading.{IsLongest, Halts, counted_of, stop_of}
use Rattle.jsh_complete.proofs.Behind.{prefix_front, nothing_whole}

-- ---- fronts of tokens

-- the kinds of tokens go on from those of a front
kinds_split : (ts : List Token) (n m : ℕ) → n ≤ m → (rest : List TokenKind) × (kinds (take m ts) ≡ kinds (take n ts) ++ rest)
kinds_split ts zero m le = (kinds (take m ts), refl)
kinds_split ts (suc n) zero le = absurd (omega (arith, le))
kinds_split [] (suc n) (suc m) le = ([], refl)
kinds_split (t ∷ ts) (suc n) (suc m) le = let h = kinds_split ts n m (omega (arith, le)) in (h.0, ap (λ x. t.kind ∷ x) h.1)

-- and so do all
kinds_from : (ts : List Token) (n : ℕ) → (rest : List TokenKind) × (kinds ts ≡ kinds (take n ts) ++ rest)
kinds_from ts zero = (kinds ts, refl)
kinds_from [] (suc n) = ([], refl)
kinds_from (t ∷ ts) (suc n) = let h = kinds_from ts n in (h.0, ap (λ x. t.kind ∷ x) h.1)

pub take_kinds : (ts : List Token) (n : ℕ) → kinds (take n ts) ≡ take n (kinds ts)
take_kinds ts zero = refl
take_kinds [] (suc n) = refl
take_kinds (t ∷ ts) (suc n) = ap (λ x. t.kind ∷ x) (take_kinds ts n)

pub fewer : (room : ℕ) (ts : List Token) (n m : ℕ) → n ≤ m → IsPrefix snippet room (kinds (take m ts)) → IsPrefix snippet room (kinds (take n ts))
fewer room ts n m le is =
    let h = kinds_split ts n m le in
    prefix_front room (kinds (take n ts)) h.0 (subst (IsPrefix snippet room) h.1 is)

pub front : (room : ℕ) (ts : List Token) (n : ℕ) → IsPrefix snippet room (kinds ts) → IsPrefix snippet room (kinds (take n ts))
front room ts n is =
    let h = kinds_from ts n in
    prefix_front room (kinds (take n ts)) h.0 (subst (IsPrefix snippet room) h.1 is)

-- ---- the tokens that count

-- of a prefix no token stands too deep
none_deep : (ts : List Token) → IsPrefix snippet 256 (kinds ts) → (n : ℕ) → IsTooDeep ts n → ⊥
none_deep ts is n deep = deep.1.1 (front 256 ts (suc n) is)

-- nor where one token is refused behind a prefix
none_deep_before : (ts : List Token) (n : ℕ) → IsPrefix snippet 256 (kinds (take n ts)) →
    ((room : ℕ) → IsPrefix snippet room (kinds (take (suc n) ts)) → ⊥) → (m : ℕ) → IsTooDeep ts m → ⊥
none_deep_before ts n is never m deep = elim (cases_lt m n) [
  | inl lt ↦ deep.1.1 (fewer 256 ts (suc m) n (omega (arith, lt)) is)
  | inr le ↦ never deep.1.0.0 (fewer deep.1.0.0 ts (suc n) (suc m) (omega (arith, le)) deep.1.0.1)
]

pub counts : (ts : List Token) (fault : Option LexFault) (taken : ℕ) (h : Halt) → IsPrefix snippet 256 (kinds (take taken ts)) → Halts ts taken h →
    Counts ts fault (counted_of ts taken h) (stop_of fault h)
counts ts fault taken halt.AtEnd is halts =
    let whole : take taken ts ≡ ts = take_all taken ts (omega (arith, halts)) in
    all (none_deep ts (subst (λ x. IsPrefix snippet 256 (kinds x)) whole is))
counts ts fault taken halt.TooDeep is halts = some taken (is, halts.1)
counts ts fault taken halt.Refused is halts = all (none_deep_before ts taken is halts.1)

-- ---- the longest snippet

-- among all tokens that count
pub longest_counted : (ts : List Token) (taken longest : ℕ) (h : Halt) → IsLongest ts taken longest → Halts ts taken h →
    IsLongest (counted_of ts taken h) (length (counted_of ts taken h)) longest
longest_counted ts taken longest halt.AtEnd is halts = subst (λ x. IsLongest ts x longest) halts is
longest_counted ts taken longest halt.TooDeep is halts =
    let same : length (take taken ts) ≡ taken = length-take-le taken ts (omega (arith, halts.0)) in (
      omega (arith, same, is.0),
      λ some. rw (take-take longest taken ts is.0) (is.1 some),
      λ m more within snip.
          let le : m ≤ taken = omega (arith, same, within) in
          is.2 m more le (rw (sym (take-take m taken ts le)) snip),
    )
longest_counted ts taken longest halt.Refused is halts = (
  omega (arith, is.0, halts.0),
  is.1,
  λ m more within snip. elim (cases_lt taken m) [
    | inl past ↦ halts.1 256 (fewer 256 ts (suc taken) m (omega (arith, past)) (inl snip))
    | inr le ↦ is.2 m more le snip
  ],
)

-- where none is the longest, they aren't one
pub none_of_all : (ts : List Token) (longest : ℕ) → IsLongest ts (length ts) longest → longest ≡ 0 → IsSnippet (kinds ts) → ⊥
none_of_all [] longest is none snip = nothing_whole snip
none_of_all (t ∷ ts) longest is none snip =
    is.2 (length (t ∷ ts)) (omega (arith, none)) (omega arith) (subst (λ x. IsSnippet (kinds x)) (sym (take_all (length (t ∷ ts)) (t ∷ ts) (omega arith))) snip)

-- where none is the longest, no front is a snippet
pub none_longest : (ts : List Token) (longest n : ℕ) → IsLongest ts (length ts) longest → longest ≡ 0 → IsSnippet (kinds (take n ts)) → ⊥
none_longest ts longest zero is none snip = nothing_whole snip
none_longest ts longest (suc n) is none snip = elim (cases_lt (length ts) (suc n)) [
  | inl past ↦ none_of_all ts longest is none (subst (λ x. IsSnippet (kinds x)) (take_all (suc n) ts (omega (arith, past))) snip)
  | inr le ↦ is.2 (suc n) (omega (arith, none)) le snip
]

-- the longest is as many of the tokens
pub counted_front : (ts : List Token) (taken n : ℕ) (h : Halt) → n ≤ taken → take n (counted_of ts taken h) ≡ take n ts
counted_front ts taken n halt.AtEnd le = refl
counted_front ts taken n halt.TooDeep le = take-take n taken ts le
counted_front ts taken n halt.Refused le = refl
