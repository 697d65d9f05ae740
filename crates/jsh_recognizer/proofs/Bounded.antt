-- That no more frames come to stand one behind another than the bound says.
use Rattle.std.proofs.Common.{ℕ, zero, suc, ◌+◌, ◌*◌, ◌≡◌, ◌≤◌, ◌<◌, Bool, true, false, ◌&&◌, List, [], ◌∷◌, length, nat_lt, refl, subst, arith}
use Rattle.std.proofs.lemmas.Bool.{ltb-true}
use Rattle.jsh_tree.specs.declared.token.TokenKind.{TokenKind}
use Rattle.jsh_tree.specs.declared.token.TokenKind.TheVariants as token
use Rattle.jsh_recognizer.specs.declared.frame.Context.TheVariants as context
use Rattle.jsh_recognizer.specs.declared.frame.Ending.TheVariants as ending
use Rattle.jsh_recognizer.specs.declared.frame.Frame.{Frame}
use Rattle.jsh_recognizer.specs.declared.frame.Frame.TheVariants as frame
use Rattle.jsh_recognizer.specs.declared.recognizer.Start.{Start}
use Rattle.jsh_recognizer.specs.declared.recognizer.Start.TheVariants as start
use Rattle.jsh_recognizer.specs.Machine.{Move, takes, passes, refuses, Frames, onto, move_of, Steps, expected, moved, passed}
use Rattle.jsh_recognizer.specs.Recognizing.{AreWithin, first}
use Rattle.jsh_recognizer.specs.Bounds.{least, most, need, AreBounded, EachBounded}
use Rattle.jsh_recognizer.proofs.EachKind.{all_at, kinds, at-any, and-left, and-right}

-- the frames that come in place of one that needs so many need no more than it, but for so many for each part that they are deeper
abbrev fit : ℕ → List (ℕ × Frame) → Bool
fit n [] = true
fit n (f ∷ fs) = nat_lt (length fs + need f.1) (n + most * f.0 + 1) && fit n fs

-- a move does so
abbrev fits : ℕ → Move → Bool
fits n (takes own fs) = fit n fs
fits n passes = true
fits n refuses = true

-- every move with a frame does so, and the frame needs a place itself
abbrev is_enough : Frame → Bool
is_enough f = nat_lt 0 (need f) && all_at (fits (need f)) f kinds

enough : (f : Frame) → is_enough f ≡ true
enough (frame.Member context.Expression) = refl
enough (frame.Opened context.Expression) = refl
enough (frame.OpenedName context.Expression) = refl
enough (frame.OpenedPair context.Expression) = refl
enough (frame.Enclosed context.Expression) = refl
enough (frame.New context.Expression) = refl
enough (frame.NewNamed context.Expression) = refl
enough (frame.NewPrimitive context.Expression) = refl
enough (frame.NewOpened context.Expression) = refl
enough (frame.NewFilled context.Expression) = refl
enough (frame.NewSized context.Expression) = refl
enough (frame.NewSizedOpened context.Expression) = refl
enough (frame.NewUnsized context.Expression) = refl
enough (frame.NewUnsizedOpened context.Expression) = refl
enough (frame.Path context.Expression ending.Name) = refl
enough (frame.Path context.Operand ending.Name) = refl
enough (frame.Path context.Target ending.Name) = refl
enough (frame.Path context.Effect ending.Name) = refl
enough (frame.CastType true context.Expression) = refl
enough (frame.CastType false context.Expression) = refl
enough (frame.Operators true) = refl
enough (frame.NamesBehind token.Extends) = refl
enough _ = refl

moves-fit : (f : Frame) (k : TokenKind) → fits (need f) (move_of f k) ≡ true
moves-fit f k = at-any (fits (need f)) f k (and-right (nat_lt 0 (need f)) _ (enough f))

needs-some : (f : Frame) → 0 < need f
needs-some f = ltb-true 0 (need f) (and-left (nat_lt 0 (need f)) _ (enough f))

length-onto : (depth : ℕ) (fs : List (ℕ × Frame)) (rest : Frames) → length (onto depth fs rest) ≡ length fs + length rest
length-onto depth [] rest = omega arith
length-onto depth (f ∷ fs) rest = let more = length-onto depth fs rest in omega (arith, more)

bounded-onto : (n depth : ℕ) (fs : List (ℕ × Frame)) (rest : Frames) →
    fit n fs ≡ true → length rest + n ≤ least + most * depth → AreBounded rest → AreBounded (onto depth fs rest)
bounded-onto n depth [] rest e le b = b
bounded-onto n depth (f ∷ fs) rest e le b =
    let here : length fs + need f.1 < n + most * f.0 + 1 = ltb-true _ _ (and-left (nat_lt (length fs + need f.1) (n + most * f.0 + 1)) _ e) in
    let long : length (onto depth fs rest) ≡ length fs + length rest = length-onto depth fs rest in
    (omega (arith, here, long, le), bounded-onto n depth fs rest (and-right (nat_lt (length fs + need f.1) (n + most * f.0 + 1)) _ e) le b)

-- a token keeps the bound
pub steps-bounded : {k : TokenKind} {at : ℕ} {fs next : Frames} → Steps fs k at next → AreBounded fs → AreBounded next
steps-bounded expected b = b.1
steps-bounded (moved {depth} {own} {f} {k} {fs} {rest} is) b =
    let P : Move → Type 0 = λ m. fits (need f) m ≡ true in
    bounded-onto (need f) depth fs rest (subst P is (moves-fit f k)) b.0 b.1
steps-bounded (passed is s) b = steps-bounded s b.1

-- it holds in the beginning
pub first-bounded : (s : Start) → AreBounded (first s)
first-bounded start.Expression = (omega arith, tt)
first-bounded start.Statement = (omega arith, tt)
first-bounded start.Snippet = (omega arith, tt)

-- so many frames at most, where none stands more than one part deeper than the limit
pub bounded-length : (fs : Frames) → AreBounded fs → AreWithin 257 fs → length fs ≤ 777
bounded-length [] b w = omega arith
bounded-length (f ∷ fs) b w = let some : 0 < need f.1 = needs-some f.1 in omega (arith, some, b.0, w.0)

-- ---- two ways to say the bound

pub to-loads : (fs : Frames) → AreBounded fs → EachBounded fs
to-loads [] b n = omega arith
to-loads (f ∷ fs) b zero = b.0
to-loads (f ∷ fs) b (suc n) = to-loads fs b.1 n

pub from-loads : (fs : Frames) → EachBounded fs → AreBounded fs
from-loads [] e = tt
from-loads (f ∷ fs) e = (e zero, from-loads fs (λ n. e (suc n)))
