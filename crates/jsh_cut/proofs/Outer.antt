-- Where a text begins and ends that goes on, but for characters that don't count there.
use Rattle.std.proofs.Common.{◌≡◌, ℕ, ◌+◌, ◌-◌, ◌<◌, ◌≤◌, Bool, true, false, List, [], ◌∷◌, ◌++◌, length, take, drop, reverse, refl, sym, ap, subst, ◌∙◌, append_assoc, arith, length-append}
use Rattle.std.proofs.lemmas.List.{reverse-append, length-reverse, length-take-le, take-append-drop}
use Rattle.std.proofs.lemmas.Str.{IsUtf8-append, IsUtf8-drop, IsCharBoundary-at_seam}
use Rattle.std.specs.Str.{IsUtf8, IsCharBoundary}
use Rattle.jsh_lex.specs.Chars.{drop_while}
use Rattle.jsh_pieces.proofs.LexisFronts.{run_left}
use Rattle.jsh_pieces.proofs.LexisSteps.{drop_while_le}
use Rattle.jsh_lines.proofs.Edges.{drops, keeps}

-- ---- runs of characters

gone_by : (p : ℕ → Bool) (c : ℕ) (cs more : List ℕ) (passes : Bool) → p c ≡ passes → length (drop_while p (c ∷ cs)) ≡ 0 →
    (length (drop_while p cs) ≡ 0 → drop_while p (cs ++ more) ≡ drop_while p more) → drop_while p ((c ∷ cs) ++ more) ≡ drop_while p more
gone_by p c cs more true is none later = drops p c (cs ++ more) is ∙ later (ap length (sym (drops p c cs is)) ∙ none)
gone_by p c cs more false is none later = absurd (omega (arith, ap length (keeps p c cs is)))

-- where nothing is left of a front, it is as if it weren't there
run_gone : (p : ℕ → Bool) (cs more : List ℕ) → length (drop_while p cs) ≡ 0 → drop_while p (cs ++ more) ≡ drop_while p more
run_gone p [] more none = refl
run_gone p (c ∷ cs) more none = gone_by p c cs more (p c) refl none (run_gone p cs more)

-- ---- the first character that counts

-- It stands in the front.
pub first_stays : (p : ℕ → Bool) (xs ys : List ℕ) (first : ℕ) → first ≡ length xs - length (drop_while p xs) → first < length xs →
    first ≡ length (xs ++ ys) - length (drop_while p (xs ++ ys))
first_stays p xs ys first is within =
    let some : 0 < length (drop_while p xs) = omega (arith, is, within) in
    omega (arith, is, drop_while_le p xs, ap length (run_left p xs ys some), length-append xs ys, length-append (drop_while p xs) ys)

-- None stands there.
pub first_later : (p : ℕ → Bool) (xs ys : List ℕ) (first : ℕ) → first ≡ length xs - length (drop_while p xs) → length xs ≤ first →
    length xs + (length ys - length (drop_while p ys)) ≡ length (xs ++ ys) - length (drop_while p (xs ++ ys))
first_later p xs ys first is past =
    let none : length (drop_while p xs) ≡ 0 = omega (arith, is, past, drop_while_le p xs) in
    omega (arith, ap length (run_gone p xs ys none), drop_while_le p ys, length-append xs ys)

-- ---- the last one

-- It stands behind the front.
pub last_later : (p : ℕ → Bool) (xs ys : List ℕ) → 0 < length (drop_while p (reverse ys)) →
    length xs + length (drop_while p (reverse ys)) ≡ length (drop_while p (reverse (xs ++ ys)))
last_later p xs ys some =
    let e : length (drop_while p (reverse (xs ++ ys))) ≡ length (drop_while p (reverse ys) ++ reverse xs) =
    ap (λ zs. length (drop_while p zs)) (reverse-append xs ys) ∙ ap length (run_left p (reverse ys) (reverse xs) some) in
    omega (arith, e, length-append (drop_while p (reverse ys)) (reverse xs), length-reverse xs)

-- None stands there.
pub last_stays : (p : ℕ → Bool) (xs ys : List ℕ) → length (drop_while p (reverse ys)) ≡ 0 →
    length (drop_while p (reverse xs)) ≡ length (drop_while p (reverse (xs ++ ys)))
last_stays p xs ys none = sym (ap (λ zs. length (drop_while p zs)) (reverse-append xs ys) ∙ ap length (run_gone p (reverse ys) (reverse xs) none))

-- ---- where a text may be cut

-- Where a front may be cut, the text may be.
pub between_on : (xs ys : List ℕ) (n : ℕ) → IsUtf8 xs → IsUtf8 ys → IsCharBoundary xs n → IsCharBoundary (xs ++ ys) n
between_on xs ys n u v between =
    let parts : xs ++ ys ≡ take n xs ++ (drop n xs ++ ys) =
    ap (λ (zs : List ℕ). zs ++ ys) (sym (take-append-drop n xs)) ∙ append_assoc (take n xs) (drop n xs) ys in
    subst (λ (k : ℕ). IsCharBoundary (xs ++ ys) k) (length-take-le n xs between.0)
    (IsCharBoundary-at_seam (xs ++ ys) (take n xs) (drop n xs ++ ys) parts (IsUtf8-append (drop n xs) ys (IsUtf8-drop xs n u between) v))
