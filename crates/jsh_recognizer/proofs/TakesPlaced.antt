-- Frames at their depths, as numbers that compute.
use Rattle.std.proofs.Common.{◌≡◌, ℕ, zero, suc, ◌+◌, ◌≤◌, Bool, List, [], ◌∷◌, refl, ap, subst, ◌∙◌, arith}
use Rattle.jsh_tree.specs.declared.token.TokenKind.{TokenKind}
use Rattle.jsh_recognizer.specs.declared.frame.Frame.{Frame}
use Rattle.jsh_recognizer.specs.Machine.{Move, takes, inside, Frames, onto}
use Rattle.jsh_recognizer.specs.Meanings.{Stack, Follows, Means}
use Rattle.jsh_recognizer.proofs.TakesOrder.{Orderly}
use Rattle.jsh_recognizer.proofs.TakesStep.{Takes, took, takes_inside}

-- so many parts deeper
abbrev pub deeper : ℕ → ℕ → ℕ
deeper depth zero = depth
deeper depth (suc n) = suc (deeper depth n)

-- frames in front of others, each so many parts deeper
abbrev pub placed : ℕ → List (ℕ × Frame) → Frames → Frames
placed depth [] rest = rest
placed depth (f ∷ fs) rest = (deeper depth f.0, f.1) ∷ placed depth fs rest

deeper_sum : (depth n : ℕ) → deeper depth n ≡ depth + n
deeper_sum depth zero = omega arith
deeper_sum depth (suc n) = let h = deeper_sum depth n in omega (arith, h)

pub onto_placed : (depth : ℕ) (new : List (ℕ × Frame)) (rest : Frames) → placed depth new rest ≡ onto depth new rest
onto_placed depth [] rest = refl
onto_placed depth (f ∷ new) rest =
    ap (λ d. (d, f.1) ∷ placed depth new rest) (deeper_sum depth f.0) ∙ ap (λ x. (depth + f.0, f.1) ∷ x) (onto_placed depth new rest)

-- the move takes the token
pub takes_it : {limit depth n : ℕ} {whole closed : Bool} {fs : Frames} {left : Stack} {ks : List TokenKind} {new : List (ℕ × Frame)} → depth + n ≤ limit →
    Orderly (placed depth new fs) → Means limit closed (placed depth new fs) left → Follows whole left ks → Takes limit whole depth fs ks (takes n new)
takes_it {limit = limit} {depth = depth} {closed = closed} {fs = fs} {left = left} {new = new} le order means follows =
    took le (subst Orderly (onto_placed depth new fs) order) (subst (λ x. Means limit closed x left) (onto_placed depth new fs) means) follows

-- what a move takes that stands so many parts deeper, with frames behind it
pub takes_within : {limit : ℕ} {whole : Bool} {depth : ℕ} {fs : Frames} {ks : List TokenKind} {m : Move} (n : ℕ) (more : List (ℕ × Frame)) →
    Takes limit whole (deeper depth n) (placed depth more fs) ks m → Takes limit whole depth fs ks (inside n more m)
takes_within {limit = limit} {whole = whole} {depth = depth} {fs = fs} {ks = ks} {m = m} n more t =
    takes_inside n more (subst (λ x. Takes limit whole (depth + n) x ks m) (onto_placed depth more fs)
    (subst (λ d. Takes limit whole d (placed depth more fs) ks m) (deeper_sum depth n) t))
