-- What one token does to the frames, read from what the first of them does.
use Rattle.std.proofs.Common.{ℕ, zero, suc, ◌+◌, ◌-◌, ◌≡◌, ◌≤◌, ◌<◌, Option, true, List, [], ◌∷◌, ◌++◌, length, take, drop, reverse, get_or, refl, sym, ap, ◌∙◌, subst, arith}
use Rattle.std.proofs.lemmas.List.{reverse-append, take_more}
use Rattle.std.proofs.Math.Seq.{drop-cons}
use Rattle.jsh_tree.specs.declared.token.TokenKind.{TokenKind}
use Rattle.jsh_tree.specs.declared.token.Token.{Token}
use Rattle.jsh_recognizer.specs.declared.frame.Frame.{Frame}
use Rattle.jsh_recognizer.specs.declared.frame.Frame.TheVariants as frame
use Rattle.jsh_recognizer.specs.declared.answer.Answer.{Answer}
use Rattle.jsh_recognizer.specs.declared.answer.Answer.TheVariants as answer
use Rattle.jsh_recognizer.specs.declared.recognizer.Advance.{Advance}
use Rattle.jsh_recognizer.specs.declared.recognizer.Advance.TheVariants as advance
use Rattle.jsh_recognizer.specs.declared.scanner.End.TheVariants as end
use Rattle.jsh_recognizer.specs.Machine.{Move, takes, passes, refuses, Frames, onto, move_of, Steps, expected, moved, passed, Runs, at_end, one_more}
use Rattle.jsh_recognizer.specs.Stacks.{Does}
use Rattle.jsh_recognizer.specs.Recognizing.{AreWithin, EachWithin, Meets, IsTaken, WillTake, Advances, Wants, Ends, kinds}
use Rattle.jsh_recognizer.proofs.EachKind.{and-left, and-right}
use Rattle.jsh_recognizer.proofs.Near.{is_near, are_near, near, moves-near, near-number}

within-onto : (depth own : ℕ) (fs : List (ℕ × Frame)) → are_near own fs ≡ true → AreWithin ((depth + own) + 1) (onto depth fs [])
within-onto depth own [] e = tt
within-onto depth own (f ∷ fs) e =
    let here : f.0 ≤ own + 1 = near-number f.0 own (and-left (is_near f.0 own) _ e) in
    (omega arith, within-onto depth own fs (and-right (is_near f.0 own) _ e))

onto-front : (depth : ℕ) (fs : List (ℕ × Frame)) (rest : Frames) → onto depth fs [] ++ rest ≡ onto depth fs rest
onto-front depth [] rest = refl
onto-front depth (f ∷ fs) rest = ap (λ x. (depth + f.0, f.1) ∷ x) (onto-front depth fs rest)

-- a frame that passes does nothing to the token
pub past : {depth at : ℕ} {f : Frame} {k : TokenKind} {rest next : Frames} → move_of f k ≡ passes → Steps ((depth, f) ∷ rest) k at next → Steps rest k at next
past is expected = absurd (cc)
past is (moved e) = absurd (cc)
past is (passed e s) = s

pub refuses-all : {depth at : ℕ} {f : Frame} {k : TokenKind} {rest next : Frames} →
    move_of f k ≡ refuses → (f ≡ frame.Expect k → ⊥) → Steps ((depth, f) ∷ rest) k at next → ⊥
refuses-all is ne expected = ne refl
refuses-all is ne (moved e) = cc
refuses-all is ne (passed e s) = cc

meets-by : (depth : ℕ) (f : Frame) (k : TokenKind) (m : Move) (fresh : Frames) (a : Answer) →
    move_of f k ≡ m → near m ≡ true → (f ≡ frame.Expect k → ⊥) → Does depth m [] fresh a → Meets depth f k fresh a
meets-by depth f k (takes own fs) fresh (answer.Took at) is near ne does =
    let P : ℕ → Frames → Type 0 = λ d x. (((rest : Frames) → Steps ((depth, f) ∷ rest) k d (x ++ rest)) × AreWithin (d + 1) x) in
    let whole : P (depth + own) (onto depth fs []) =
    (λ rest. subst (λ x. Steps ((depth, f) ∷ rest) k (depth + own) x) (sym (onto-front depth fs rest)) (moved is), within-onto depth own fs near) in
    subst (λ d. P d fresh) (sym does.0) (subst (λ x. P (depth + own) x) (sym does.1) whole)
meets-by depth f k (takes own fs) fresh answer.Passed is near ne does = absurd does
meets-by depth f k (takes own fs) fresh answer.Refused is near ne does = absurd does
meets-by depth f k passes fresh (answer.Took at) is near ne does = absurd does
meets-by depth f k passes fresh answer.Passed is near ne does = is
meets-by depth f k passes fresh answer.Refused is near ne does = absurd does
meets-by depth f k refuses fresh (answer.Took at) is near ne does = absurd does
meets-by depth f k refuses fresh answer.Passed is near ne does = absurd does
meets-by depth f k refuses fresh answer.Refused is near ne does = λ rest at next s. refuses-all is ne s

-- a frame that doesn't expect the token does what its move says
pub meets : (depth : ℕ) (f : Frame) (k : TokenKind) (before fresh : Frames) (a : Answer) →
    before ≡ [] → (f ≡ frame.Expect k → ⊥) → Does depth (move_of f k) before fresh a → Meets depth f k fresh a
meets depth f k before fresh a empty ne does =
    let P : Frames → Type 0 = λ x. Does depth (move_of f k) x fresh a in
    meets-by depth f k (move_of f k) fresh a refl (moves-near f k) ne (subst P empty does)

-- a frame that expects the token takes it
pub meets-expected : (depth : ℕ) (f : Frame) (k : TokenKind) (fresh : Frames) → fresh ≡ [] → f ≡ frame.Expect k → Meets depth f k fresh (answer.Took depth)
meets-expected depth f k fresh empty is =
    let P : Frame → Frames → Type 0 = λ g x. Meets depth g k x (answer.Took depth) in
    let whole : P (frame.Expect k) [] = (λ rest. expected, tt) in
    subst (λ x. P f x) (sym empty) (subst (λ g. P g []) (sym is) whole)

-- ---- frames that stand in a list backwards

pub within-append : (n : ℕ) (xs ys : Frames) → AreWithin n xs → AreWithin n ys → AreWithin n (xs ++ ys)
within-append n [] ys a b = b
within-append n (x ∷ xs) ys a b = (a.0, within-append n xs ys a.1 b)

pub within-take : (n k : ℕ) (xs : Frames) → AreWithin n xs → AreWithin n (take k xs)
within-take n zero xs a = tt
within-take n (suc k) [] a = tt
within-take n (suc k) (x ∷ xs) a = (a.0, within-take n k xs a.1)

pub within-at : (n i : ℕ) (xs : Frames) (d : ℕ × Frame) → AreWithin n xs → i < length xs → (get_or xs i d).0 ≤ n
within-at n i [] d a le = absurd (omega arith)
within-at n zero (x ∷ xs) d a le = a.0
within-at n (suc i) (x ∷ xs) d a le = within-at n i xs d a.1 (omega arith)

pub within-more : (m n : ℕ) (xs : Frames) → m ≤ n → AreWithin m xs → AreWithin n xs
within-more m n [] le a = tt
within-more m n (x ∷ xs) le a = (omega (arith, a.0, le), within-more m n xs le a.1)

within-last : (n : ℕ) (xs : Frames) (x : ℕ × Frame) → AreWithin n (xs ++ x ∷ []) → x.0 ≤ n
within-last n [] x a = a.0
within-last n (y ∷ xs) x a = within-last n xs x a.1

within-front : (n : ℕ) (xs ys : Frames) → AreWithin n (xs ++ ys) → AreWithin n xs
within-front n [] ys a = tt
within-front n (x ∷ xs) ys a = (a.0, within-front n xs ys a.1)

-- the other way round
pub within-reversed : (n : ℕ) (xs : Frames) → AreWithin n (reverse xs) → AreWithin n xs
within-reversed n [] a = tt
within-reversed n (x ∷ xs) a =
    let both : AreWithin n (reverse xs ++ x ∷ []) = rw (sym (reverse-append (x ∷ []) xs)) a in
    (within-last n (reverse xs) x both, within-reversed n xs (within-front n (reverse xs) (x ∷ []) both))

-- the last one of a front is the next frame
pub next-of : (xs : Frames) (left : ℕ) (x : ℕ × Frame) → 0 < left → left ≤ length xs → x ≡ get_or xs (left - 1) x → reverse (take left xs) ≡ x ∷ reverse (take (left - 1) xs)
next-of xs left x some le is =
    let i : ℕ = left - 1 in
    let same : left ≡ (left - 1) + 1 = omega arith in
    let more : take ((left - 1) + 1) xs ≡ take (left - 1) xs ++ get_or xs (left - 1) x ∷ [] = take_more xs (left - 1) x (omega arith) in
    ap (λ n. reverse (take n xs)) same ∙ ap reverse (more ∙ ap (λ y. take (left - 1) xs ++ y ∷ []) (sym is)) ∙ reverse-append (take (left - 1) xs) (x ∷ [])

-- A token does to these frames what it does to those.
pub record SameSteps (k : TokenKind) (all left : Frames) : Type 0 where
  pub onward : (at : ℕ) (next : Frames) → Steps left k at next → Steps all k at next
  pub back : (at : ℕ) (next : Frames) → Steps all k at next → Steps left k at next

pub same-first : (k : TokenKind) (fs gs : Frames) → gs ≡ fs → SameSteps k fs gs
same-first k fs gs is =
    subst (λ x. SameSteps k fs x) (sym is) (record { onward = λ at next s. s; back = λ at next s. s })

-- one more frame passes
pub same-past : (k : TokenKind) (all left rest : Frames) (x : ℕ × Frame) →
    SameSteps k all left → left ≡ x ∷ rest → move_of x.1 k ≡ passes → SameSteps k all rest
same-past k all left rest x same is passing = record {
  onward = λ at next s. same.onward at next (subst (λ y. Steps y k at next) (sym is) (passed passing s));
  back = λ at next s. past passing (subst (λ y. Steps y k at next) is (same.back at next s));
}

taken-step : (depth : ℕ) (f : Frame) (k : TokenKind) (rest : Frames) (m : Move) → move_of f k ≡ m → IsTaken m → (at : ℕ) × (next : Frames) × Steps ((depth, f) ∷ rest) k at next
taken-step depth f k rest (takes own fs) is t = (depth + own, onto depth fs rest, moved is)
taken-step depth f k rest passes is t = absurd t
taken-step depth f k rest refuses is t = absurd t

-- a kind that a frame takes may come where the frame is next
pub will-step : (depth : ℕ) (f : Frame) (k : TokenKind) (rest : Frames) → WillTake f k → (at : ℕ) × (next : Frames) × Steps ((depth, f) ∷ rest) k at next
will-step depth (frame.Expect w) k rest e =
    let P : TokenKind → Type 0 = λ j. Steps ((depth, frame.Expect w) ∷ rest) j depth rest in
    (depth, rest, subst P e expected)
will-step depth f k rest t = taken-step depth f k rest (move_of f k) refl t

-- ---- one token after another

pub runs-on : {limit at : ℕ} {fs between next : Frames} {ks : List TokenKind} {k : TokenKind} →
    Runs limit fs ks between → Steps between k at next → at ≤ limit → Runs limit fs (ks ++ k ∷ []) next
runs-on at_end s le = one_more s le at_end
runs-on (one_more t less r) s le = one_more t less (runs-on r s le)

-- ---- two ways to say how deep frames stand

pub to-each : (n : ℕ) (xs : Frames) → AreWithin n xs → EachWithin n xs
to-each n [] a k = omega arith
to-each n (x ∷ xs) a zero = a.0
to-each n (x ∷ xs) a (suc k) = to-each n xs a.1 k

pub from-each : (n : ℕ) (xs : Frames) → EachWithin n xs → AreWithin n xs
from-each n [] e = tt
from-each n (x ∷ xs) e = (e zero, from-each n xs (λ k. e (suc k)))

-- the depth of the frame that was read at a place
pub depth-read : (n i : ℕ) (xs : Frames) (x : ℕ × Frame) → EachWithin n xs → i < length xs → x ≡ get_or xs i x → x.0 ≤ n
depth-read n i xs x e le is =
    let P : ℕ × Frame → Type 0 = λ y. y.0 ≤ n in
    subst P (sym is) (within-at n i xs x (from-each n xs e) le)

-- the one frame of a stack
pub one-frame : (items old : Frames) (f : Frame) → items ≡ old ++ (0, f) ∷ [] → old ≡ [] → reverse items ≡ (0, f) ∷ []
one-frame items old f is empty = ap reverse (is ∙ ap (λ x. x ++ (0, f) ∷ []) empty)

-- frames that are put behind those of a list that are kept come in front of them
pub put-front : (new kept other items fresh : Frames) (left : ℕ) →
    new ≡ kept ++ other → kept ≡ take left items → other ≡ fresh → reverse new ≡ reverse fresh ++ reverse (take left items)
put-front new kept other items fresh left is k o =
    ap reverse (is ∙ ap (λ y. y ++ other) k ∙ ap (λ y. take left items ++ y) o) ∙ reverse-append (take left items) fresh

-- a kind that the next frame takes may come
pub wanted-found : (k : TokenKind) (all left rest : Frames) (x : ℕ × Frame) →
    SameSteps k all left → left ≡ x ∷ rest → WillTake x.1 k → (at : ℕ) × (next : Frames) × Steps all k at next
wanted-found k all left rest x same is will =
    let s = will-step x.0 x.1 k rest will in
    (s.0, s.1, same.onward s.0 s.1 (subst (λ y. Steps y k s.0 s.1) (sym is) s.2))

pub nothing-left : {k : TokenKind} {at : ℕ} {next fs : Frames} → fs ≡ [] → Steps fs k at next → ⊥
nothing-left is expected = cc
nothing-left is (moved e) = cc
nothing-left is (passed e s) = cc

-- where no frame is left, nothing may come
pub none-left : (xs : Frames) (left : ℕ) → left ≤ 0 → ((k : TokenKind) → SameSteps k (reverse xs) (reverse (take left xs))) →
    (k : TokenKind) (at : ℕ) (next : Frames) → Steps (reverse xs) k at next → ⊥
none-left xs zero le same k at next s = nothing-left refl ((same k).back at next s)
none-left xs (suc n) le same k at next s = absurd (omega arith)

-- ---- tokens of a list

pub kinds-append : (ts us : List Token) → kinds (ts ++ us) ≡ kinds ts ++ kinds us
kinds-append [] us = refl
kinds-append (t ∷ ts) us = ap (λ x. t.kind ∷ x) (kinds-append ts us)

pub kinds-more : (ts : List Token) (i : ℕ) (d : Token) → i < length ts → kinds (take (i + 1) ts) ≡ kinds (take i ts) ++ (get_or ts i d).kind ∷ []
kinds-more ts i d le = ap kinds (take_more ts i d le) ∙ kinds-append (take i ts) (get_or ts i d ∷ [])

-- one more token is taken
pub taken-more : (limit : ℕ) (start old new : Frames) (a : Advance) (ts : List Token) (i : ℕ) (d : Token) →
    i < length ts → a ≡ advance.Taken → Advances limit (get_or ts i d).kind old new a → Runs limit start (kinds (take i ts)) old →
    Runs limit start (kinds (take (i + 1) ts)) new
taken-more limit start old new a ts i d le is does runs =
    let P : Advance → Type 0 = λ b. Advances limit (get_or ts i d).kind old new b in
    let taken : P advance.Taken = subst P is does in
    let Q : List TokenKind → Type 0 = λ ks. Runs limit start ks new in
    subst Q (sym (kinds-more ts i d le)) (runs-on runs taken.1 taken.2)

-- the next token is refused
pub refused-end : (limit : ℕ) (old new : Frames) (a : Advance) (wanted : Option TokenKind) (ts : List Token) (i : ℕ) (d : Token) →
    i < length ts → a ≡ advance.Refused → Advances limit (get_or ts i d).kind old new a → Wants new wanted → Ends limit old (drop i ts) (end.Refused wanted)
refused-end limit old new a wanted ts i d le is does wants =
    let P : Advance → Type 0 = λ b. Advances limit (get_or ts i d).kind old new b in
    let refused : P advance.Refused = subst P is does in
    let W : Frames → Type 0 = λ x. Wants x wanted in
    let Q : List Token → Type 0 = λ us. Ends limit old us (end.Refused wanted) in
    subst Q (sym (drop-cons ts i d le)) (refused.0, subst W refused.1 wants)
