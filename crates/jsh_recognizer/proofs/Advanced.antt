-- What holds of the frames after one more token.
use Rattle.std.proofs.Common.{ℕ, ◌+◌, ◌≡◌, ◌≤◌, ◌++◌, length, take, reverse, sym, subst, arith}
use Rattle.std.proofs.lemmas.List.{length-append, length-reverse, reverse-reverse}
use Rattle.jsh_tree.specs.declared.token.TokenKind.{TokenKind}
use Rattle.jsh_recognizer.specs.declared.recognizer.Start.{Start}
use Rattle.jsh_recognizer.specs.declared.recognizer.Start.TheVariants as start
use Rattle.jsh_recognizer.specs.Machine.{Frames, Steps}
use Rattle.jsh_recognizer.specs.Recognizing.{AreWithin, EachWithin, first}
use Rattle.jsh_recognizer.specs.Bounds.{AreBounded, EachBounded}
use Rattle.jsh_recognizer.proofs.Stepping.{within-append, within-take, within-more, within-reversed, to-each, from-each}
use Rattle.jsh_recognizer.proofs.Bounded.{steps-bounded, bounded-length, to-loads, from-loads}

-- the frames behind those that come of the token, the next one first
abbrev behind : ℕ → Frames → Frames
behind left items = reverse (take left items)

within-back : (n : ℕ) (xs : Frames) → AreWithin n xs → AreWithin n (reverse xs)
within-back n xs a = within-reversed n (reverse xs) (subst (AreWithin n) (sym (reverse-reverse xs)) a)

-- no frame stands more than one part deeper than the limit
pub next-within : (at left : ℕ) (items fresh : Frames) →
    EachWithin 257 items → AreWithin (at + 1) fresh → at ≤ 256 → AreWithin 257 (fresh ++ behind left items)
next-within at left items fresh e a le =
    within-append 257 fresh (behind left items) (within-more (at + 1) 257 fresh (omega (arith, le)) a)
    (within-back 257 (take left items) (within-take 257 left items (from-each 257 items e)))

-- no more frames stand one behind another than the bound says
pub next-bounded : (k : TokenKind) (at left : ℕ) (items fresh : Frames) →
    EachBounded (reverse items) → Steps (reverse items) k at (fresh ++ behind left items) → AreBounded (fresh ++ behind left items)
next-bounded k at left items fresh e s = steps-bounded s (from-loads (reverse items) e)

-- so there is room for them
pub room-for : (left : ℕ) (items fresh : Frames) →
    AreBounded (reverse fresh ++ behind left items) → AreWithin 257 (reverse fresh ++ behind left items) → length (take left items) + length fresh ≤ 777
room-for left items fresh b w =
    let all : length (reverse fresh ++ behind left items) ≤ 777 = bounded-length (reverse fresh ++ behind left items) b w in
    let both = length-append (reverse fresh) (behind left items) in
    let front = length-reverse fresh in
    let back = length-reverse (take left items) in
    omega (arith, all, both, front, back)

-- the first frame stands at the least depth
pub first-within : (s : Start) → AreWithin 257 (first s)
first-within start.Expression = (omega arith, tt)
first-within start.Statement = (omega arith, tt)
first-within start.Snippet = (omega arith, tt)

-- what is known of the frames, of those that the recognizer holds
pub each-within : (fs items : Frames) → reverse items ≡ fs → AreWithin 257 fs → EachWithin 257 items
each-within fs items is a = to-each 257 items (within-reversed 257 items (subst (AreWithin 257) (sym is) a))

pub each-bounded : (fs items : Frames) → reverse items ≡ fs → AreBounded fs → EachBounded (reverse items)
each-bounded fs items is b = to-loads (reverse items) (subst AreBounded (sym is) b)
