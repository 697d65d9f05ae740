-- How the test of a slash line is made.
use borrow.Author.Tests.{eq-eqb, ne_eqb}
use Rattle.std.proofs.Common.{◌≡◌, ℕ, ◌≤◌, Bool, true, false, List, [], ◌∷◌, length, get_or, refl, arith}
use Rattle.std.specs.Prelude.{◌==◌, ◌&&◌, ◌||◌, nat_eq}
use Rattle.std.specs.Char.{is_ascii_alphabetic}
use Rattle.jsh_cut.specs.Commands.{begins_command}

both : (x y z : Bool) → x ≡ true → y ≡ true → (x && (y || z)) ≡ true
both true true z p q = refl
both true false z p q = absurd cc
both false y z p q = absurd cc

second : (x y z : Bool) → x ≡ true → y ≡ false → (x && (y || z)) ≡ z
second true false z p q = refl
second true true z p q = absurd cc
second false y z p q = absurd cc

none : (x y : Bool) → x ≡ false → (x && y) ≡ x
none false y p = refl
none true y p = absurd cc

pub by_letter : (rest : List ℕ) → 2 ≤ length rest → get_or rest 0 0 ≡ 47 → is_ascii_alphabetic (get_or rest 1 0) ≡ true → begins_command rest ≡ true
by_letter [] h slash letter = absurd (omega arith)
by_letter (a ∷ []) h slash letter = absurd (omega arith)
by_letter (a ∷ b ∷ rest) h slash letter = both (a == 47) (is_ascii_alphabetic b) (b == 63) (eq-eqb a 47 slash) letter

pub by_other : (rest : List ℕ) → 2 ≤ length rest → get_or rest 0 0 ≡ 47 → is_ascii_alphabetic (get_or rest 1 0) ≡ false → begins_command rest ≡ nat_eq (get_or rest 1 0) 63
by_other [] h slash letter = absurd (omega arith)
by_other (a ∷ []) h slash letter = absurd (omega arith)
by_other (a ∷ b ∷ rest) h slash letter = second (a == 47) (is_ascii_alphabetic b) (b == 63) (eq-eqb a 47 slash) letter

pub without : (rest : List ℕ) → 2 ≤ length rest → ¬ (get_or rest 0 0 ≡ 47) → begins_command rest ≡ nat_eq (get_or rest 0 0) 47
without [] h slash = absurd (omega arith)
without (a ∷ []) h slash = absurd (omega arith)
without (a ∷ b ∷ rest) h slash = none (a == 47) (is_ascii_alphabetic b || b == 63) (ne_eqb a 47 slash)
