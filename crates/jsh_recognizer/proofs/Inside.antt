-- What moves inside others do.
use Rattle.std.proofs.Common.{ℕ, ◌≡◌, ◌+◌, List, [], ◌∷◌, ◌++◌, map, refl, sym, ◌∙◌, subst, add_assoc, add-zero}
use Rattle.jsh_recognizer.specs.declared.frame.Frame.{Frame}
use Rattle.jsh_recognizer.specs.declared.answer.Answer.{Answer}
use Rattle.jsh_recognizer.specs.declared.answer.Answer.TheVariants as answer
use Rattle.jsh_recognizer.specs.Machine.{Move, takes, passes, refuses, inside, Frames, onto}
use Rattle.jsh_recognizer.specs.Stacks.{Does, closed}

-- frames inside others, put in two steps
pub onto-inside : (depth n : ℕ) (fs more : List (ℕ × Frame)) (old : Frames) →
    onto (depth + n) fs (onto depth more old) ≡ onto depth (map (λ f. (n + f.0, f.1)) fs ++ more) old
onto-inside depth n [] more old = refl
onto-inside depth n (f ∷ fs) more old = rw (onto-inside depth n fs more old, add_assoc depth n f.0) refl

does-within : (depth n : ℕ) (more : List (ℕ × Frame)) (m : Move) (old new : Frames) (a : Answer) →
    Does (depth + n) m (onto depth more old) new a → Does depth (inside n more m) old new (closed a)
does-within depth n more (takes own fs) old new (answer.Took at) does =
    (does.0 ∙ add_assoc depth n own, does.1 ∙ onto-inside depth n fs more old)
does-within depth n more (takes own fs) old new answer.Passed does = absurd does
does-within depth n more (takes own fs) old new answer.Refused does = absurd does
does-within depth n more passes old new (answer.Took at) does = absurd does
does-within depth n more passes old new answer.Passed does = tt
does-within depth n more passes old new answer.Refused does = absurd does
does-within depth n more refuses old new (answer.Took at) does = absurd does
does-within depth n more refuses old new answer.Passed does = absurd does
does-within depth n more refuses old new answer.Refused does = tt

-- a move inside others: they are put first, and then it puts its own in front of them
pub does-inside : (depth n : ℕ) (more : List (ℕ × Frame)) (m : Move) (old between new : Frames) (a whole : Answer) →
    between ≡ onto depth more old → Does (depth + n) m between new a → whole ≡ closed a → Does depth (inside n more m) old new whole
does-inside depth n more m old between new a whole put does is =
    let P : Frames → Type 0 = λ fs. Does (depth + n) m fs new a in
    let Q : Answer → Type 0 = λ b. Does depth (inside n more m) old new b in
    subst Q (sym is) (does-within depth n more m old new a (subst P put does))

-- the same where it is no deeper
pub does-in-front : (depth : ℕ) (more : List (ℕ × Frame)) (m : Move) (old between new : Frames) (a whole : Answer) →
    between ≡ onto depth more old → Does depth m between new a → whole ≡ closed a → Does depth (inside 0 more m) old new whole
does-in-front depth more m old between new a whole put does is =
    let P : ℕ → Type 0 = λ d. Does d m between new a in
    does-inside depth 0 more m old between new a whole put (subst P (sym (add-zero depth)) does) is

-- frames at the depth of the one in whose place they stand
pub onto-here : (depth : ℕ) (fs : List Frame) (old : Frames) → map (λ f. (depth, f)) fs ++ old ≡ onto depth (map (λ f. (0, f)) fs) old
onto-here depth [] old = refl
onto-here depth (f ∷ fs) old = rw (onto-here depth fs old, add-zero depth) refl
