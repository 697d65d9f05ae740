-- Where tokens end.
use Rattle.std.proofs.Common.{◌≡◌, ℕ, zero, suc, ◌-◌, ◌<◌, List, [], ◌∷◌, length, take, get_or, refl, ap, ◌∙◌, arith}
use Rattle.std.specs.Str.{IsUtf8, IsCharBoundary}
use Rattle.std.proofs.lemmas.Str.{IsCharBoundary-start}
use Rattle.jsh_tree.specs.declared.token.Token.{Token}
use Rattle.jsh_lex.specs.Spelling.{AreTokensBehind}
use Rattle.jsh_complete.specs.Completeness.{end_of}

at_later : {A : Type 0} (t u : A) (ts : List A) (d : A) → get_or (t ∷ u ∷ ts) (length (t ∷ u ∷ ts) - 1) d ≡ get_or (u ∷ ts) (length (u ∷ ts) - 1) d
at_later t u ts d =
    let one : suc (suc (length ts)) - 1 ≡ suc (suc (length ts) - 1) = omega arith in
    ap (λ k. get_or (t ∷ u ∷ ts) k d) one

-- The last of some tokens ends last.
pub ends_last : (ts : List Token) (d : Token) → 0 < length ts → (get_or ts (length ts - 1) d).span.to ≡ end_of ts
ends_last [] d h = absurd (omega arith)
ends_last (t ∷ []) d h = refl
ends_last (t ∷ u ∷ ts) d h = ap (λ (v : Token). v.span.to) (at_later t u ts d) ∙ ends_last (u ∷ ts) d (omega arith)

-- The last token of a text ends between characters.
pub last_between : (text : List ℕ) (end : ℕ) (ts : List Token) → IsUtf8 text → AreTokensBehind text end ts → IsCharBoundary text (end_of ts)
last_between text end [] u b = IsCharBoundary-start text u
last_between text end (t ∷ []) u b = b.0.ends_between
last_between text end (t ∷ v ∷ ts) u b = last_between text t.span.to (v ∷ ts) u b.1

-- The first one begins between characters.
pub first_between : (text : List ℕ) (end : ℕ) (ts : List Token) (d : Token) → AreTokensBehind text end ts → 0 < length ts → IsCharBoundary text (get_or ts 0 d).span.from
first_between text end [] d b h = absurd (omega arith)
first_between text end (t ∷ ts) d b h = b.0.starts_between

-- A front of the tokens stands so too.
pub front_behind : (text : List ℕ) (end n : ℕ) (ts : List Token) → AreTokensBehind text end ts → AreTokensBehind text end (take n ts)
front_behind text end zero ts b = tt
front_behind text end (suc n) [] b = tt
front_behind text end (suc n) (t ∷ ts) b = (b.0, front_behind text t.span.to n ts b.1)

-- Tokens end between characters, and behind the start of the text.
pub end_between : (text : List ℕ) (end : ℕ) (t : Token) (ts : List Token) → AreTokensBehind text end (t ∷ ts) →
    IsCharBoundary text (end_of (t ∷ ts)) × (0 < end_of (t ∷ ts))
end_between text end t [] b = let some = b.0.nonempty in (b.0.ends_between, omega (arith, some))
end_between text end t (u ∷ ts) b = end_between text t.span.to u ts b.1
