-- What is left of a text without characters at its ends.
use Rattle.std.proofs.Common.{◌≡◌, ℕ, suc, ◌+◌, ◌-◌, ◌<◌, Bool, true, false, List, [], ◌∷◌, ◌++◌, length, take, drop, get_or, reverse, refl, sym, ap, ◌∙◌, arith, length-append}
use Rattle.std.proofs.Math.Seq.{drop-cons, take-append_seam, drop-append_seam}
use Rattle.std.proofs.lemmas.Bool.Decides.{nat_tests}
use Rattle.std.proofs.lemmas.List.{reverse-append, reverse-reverse, length-reverse}
use Rattle.jsh_lex.specs.Chars.{drop_while}
use Rattle.jsh_lines.specs.declared.edge.Edge.{Edge}
use Rattle.jsh_lines.specs.declared.edge.Edge.TheVariants.{White, Blank, BlankOrReturn}
use Rattle.jsh_lines.specs.Edges.{is_outer}

pub drops : (p : ℕ → Bool) (c : ℕ) (cs : List ℕ) → p c ≡ true → drop_while p (c ∷ cs) ≡ drop_while p cs
drops p c cs h = rw h

pub keeps : (p : ℕ → Bool) (c : ℕ) (cs : List ℕ) → p c ≡ false → drop_while p (c ∷ cs) ≡ c ∷ cs
keeps p c cs h = rw h

-- The characters that don't count are of ASCII.
pub outer-ascii : (edge : Edge) (c : ℕ) → is_outer edge c ≡ true → c < 128
outer-ascii White c h = grind (arith, nat_tests)
outer-ascii Blank c h = grind (arith, nat_tests)
outer-ascii BlankOrReturn c h = grind (arith, nat_tests)

-- One more character that doesn't count.
pub front_drops : (p : ℕ → Bool) (bytes : List ℕ) (at : ℕ) → at < length bytes → p (get_or bytes at 0) ≡ true →
    drop_while p (drop (at + 1) bytes) ≡ drop_while p (drop at bytes)
front_drops p bytes at h is =
    let one : at + 1 ≡ suc at = omega arith in
    ap (λ n. drop_while p (drop n bytes)) one
    ∙ sym (ap (drop_while p) (drop-cons bytes at 0 h) ∙ drops p (get_or bytes at 0) (drop (suc at) bytes) is)

-- what stands in front of what is left
split_more : (p : ℕ → Bool) (c : ℕ) (cs : List ℕ) (passes : Bool) → p c ≡ passes → (gone : List ℕ) × (gone ++ drop_while p cs ≡ cs) →
    (gone : List ℕ) × (gone ++ drop_while p (c ∷ cs) ≡ c ∷ cs)
split_more p c cs true is more = (c ∷ more.0, ap (λ xs. c ∷ (more.0 ++ xs)) (drops p c cs is) ∙ ap (λ xs. c ∷ xs) more.1)
split_more p c cs false is more = ([], keeps p c cs is)

split : (p : ℕ → Bool) (cs : List ℕ) → (gone : List ℕ) × (gone ++ drop_while p cs ≡ cs)
split p [] = ([], refl)
split p (c ∷ cs) = split_more p c cs (p c) refl (split p cs)

behind_seam : (gone left cs : List ℕ) → gone ++ left ≡ cs → drop (length cs - length left) cs ≡ left
behind_seam gone left cs e =
    let n : length cs - length left ≡ length gone = omega (arith, ap length e, length-append gone left) in
    ap (λ n. drop n cs) n ∙ ap (drop (length gone)) (sym e) ∙ drop-append_seam gone left

-- Without the characters at the front, a text is what stands from the first one that counts on.
pub front_part : (p : ℕ → Bool) (cs : List ℕ) → drop (length cs - length (drop_while p cs)) cs ≡ drop_while p cs
front_part p cs = let parts = split p cs in behind_seam parts.0 (drop_while p cs) cs parts.1

before_seam : (left gone cs : List ℕ) → reverse left ++ gone ≡ cs → take (length left) cs ≡ reverse left
before_seam left gone cs e =
    ap (λ n. take n cs) (sym (length-reverse left)) ∙ ap (take (length (reverse left))) (sym e) ∙ take-append_seam (reverse left) gone

-- Without those at the back, it is what stands before the place behind the last one that counts.
pub back_part : (p : ℕ → Bool) (cs : List ℕ) → take (length (drop_while p (reverse cs))) cs ≡ reverse (drop_while p (reverse cs))
back_part p cs =
    let parts = split p (reverse cs) in
    let left = drop_while p (reverse cs) in
    before_seam left (reverse parts.0) cs (sym (reverse-append parts.0 left) ∙ ap reverse parts.1 ∙ reverse-reverse cs)
