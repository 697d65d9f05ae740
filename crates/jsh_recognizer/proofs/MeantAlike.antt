-- The recognizer takes a token in one way only, so what comes of a list of them is one list of frames.
use Rattle.std.proofs.Common.{◌≡◌, ℕ, ◌+◌, List, ◌∷◌, refl, sym, ap, ◌∙◌, subst}
use Rattle.jsh_tree.specs.declared.token.TokenKind.{TokenKind}
use Rattle.jsh_recognizer.specs.declared.frame.Frame.{Frame}
use Rattle.jsh_recognizer.specs.declared.frame.Frame.TheVariants as frame
use Rattle.jsh_recognizer.specs.Machine.{takes, passes, refuses, Frames, move_of, onto, Steps, expected, moved, passed, Runs, at_end, one_more}
use Rattle.jsh_recognizer.proofs.MeantStep.{number_of, thing_of}
use Rattle.jsh_recognizer.proofs.MeantPath.{same_depth}

-- what a move takes
takes_new : {n m : ℕ} {new other : List (ℕ × Frame)} → takes n new ≡ takes m other → new ≡ other
takes_new e = cc

-- so many parts deep, and frames
abbrev pub Alike : ℕ → ℕ → Frames → Frames → Type 0
Alike at there next other = (at ≡ there) × (next ≡ other)

-- a token that is expected is taken in no other way
not_taken : {f : Frame} {wanted : TokenKind} (k : TokenKind) {n : ℕ} {new : List (ℕ × Frame)} → f ≡ frame.Expect wanted → move_of f k ≡ takes n new → ⊥
not_taken k {n = n} {new = new} same e = let h : refuses ≡ takes n new = subst (λ x. move_of x k ≡ takes n new) same e in absurd cc

not_passed : {f : Frame} {wanted : TokenKind} (k : TokenKind) → f ≡ frame.Expect wanted → move_of f k ≡ passes → ⊥
not_passed k same e = let h : refuses ≡ passes = subst (λ x. move_of x k ≡ passes) same e in absurd cc

-- what takes doesn't pass
not_both : {f g : Frame} (k : TokenKind) {n : ℕ} {new : List (ℕ × Frame)} → g ≡ f → move_of f k ≡ takes n new → move_of g k ≡ passes → ⊥
not_both k {n = n} {new = new} same e h = let both : takes n new ≡ passes = sym e ∙ (ap (λ x. move_of x k) (sym same) ∙ h) in absurd cc

moved_alike : {d depth n m : ℕ} {f g : Frame} {new other : List (ℕ × Frame)} {rest behind : Frames} (k : TokenKind) → (d, g) ∷ behind ≡ (depth, f) ∷ rest →
    move_of f k ≡ takes n new → move_of g k ≡ takes m other → Alike (depth + n) (d + m) (onto depth new rest) (onto d other behind)
moved_alike {d = d} {n = n} {m = m} {new = new} {other = other} {rest = rest} {behind = behind} k same e h =
    let deep = number_of same in
    let frames = thing_of same in
    let tails : behind ≡ rest = cc in
    let moves : takes n new ≡ takes m other = sym e ∙ (ap (λ x. move_of x k) (sym frames) ∙ h) in
    let numbers = same_depth moves in
    let news = takes_new moves in (
      ap (λ x. x + n) (sym deep) ∙ ap (λ x. d + x) numbers,
      ap (λ x. onto x new rest) (sym deep) ∙
          (ap (λ x. onto d x rest) news ∙ ap (λ x. onto d other x) (sym tails)),
    )

-- the frames behind the first
tail_alike : {f g : ℕ × Frame} {rest behind : Frames} → g ∷ behind ≡ f ∷ rest → behind ≡ rest
tail_alike e = cc

-- a token in one way only
pub steps_alike : {at there : ℕ} {fs next all other : Frames} {k : TokenKind} → Steps fs k at next → Steps all k there other → all ≡ fs → Alike at there next other
steps_alike expected expected same = let deep = number_of same in (sym deep, cc)
steps_alike {k = k} expected (moved e) same = absurd (not_taken k (thing_of same) e)
steps_alike {k = k} expected (passed e s) same = absurd (not_passed k (thing_of same) e)
steps_alike {k = k} (moved e) expected same = absurd (not_taken k (sym (thing_of same)) e)
steps_alike {k = k} (moved e) (moved h) same = moved_alike k same e h
steps_alike {k = k} (moved e) (passed h s) same = absurd (not_both k (thing_of same) e h)
steps_alike {k = k} (passed e s) expected same = absurd (not_passed k (sym (thing_of same)) e)
steps_alike {k = k} (passed e s) (moved h) same = absurd (not_both k (sym (thing_of same)) h e)
steps_alike (passed e s) (passed h t) same = steps_alike s t (tail_alike same)

runs_from : {limit : ℕ} {fs all last other : Frames} {ks : List TokenKind} → Runs limit fs ks last → Runs limit all ks other → all ≡ fs → last ≡ other
runs_from at_end at_end same = sym same
runs_from (one_more s le runs) (one_more t less others) same = let h = steps_alike s t same in runs_from runs others (sym h.1)

-- one list of frames
pub runs_alike : {limit : ℕ} {fs last other : Frames} {ks : List TokenKind} → Runs limit fs ks last → Runs limit fs ks other → last ≡ other
runs_alike runs others = runs_from runs others refl
