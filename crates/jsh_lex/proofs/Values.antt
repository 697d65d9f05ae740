-- Values of digits, and units of contents.
use Rattle.std.proofs.Common.{zero, suc, drop, refl, ◌≡◌, ◌==◌, ℕ, ◌+◌, ◌*◌, ◌≤◌, true, false, cond, List, [], ◌∷◌, arith}
use Rattle.std.proofs.Math.Nat.{mul-le-mul_left}
use Rattle.std.specs.Char.{digit_value}
use Rattle.jsh_lex.specs.Number.{value_behind}
use Rattle.jsh_lex.specs.Value.{units_behind}

-- more digits stand for no smaller number
pub value_behind_grows : (base n : ℕ) (ds : List ℕ) → 1 ≤ base → n ≤ value_behind base n ds
value_behind_grows base n [] h = omega arith
value_behind_grows base n (c ∷ cs) h =
    elim (c == 95) as (λ b. n ≤ value_behind base (cond b n (n * base + digit_value c)) cs) [
      | true ↦ value_behind_grows base n cs h
      | false ↦
          let more = value_behind_grows base (n * base + digit_value c) cs h in
          omega (arith, more, mul-le-mul_left n h)
    ]

-- what follows an escape is read from there
pub units_later : (n : ℕ) (cs : List ℕ) → units_behind n cs ≡ units_behind 0 (drop n cs)
units_later zero [] = refl
units_later zero (c ∷ cs) = refl
units_later (suc n) [] = refl
units_later (suc n) (c ∷ cs) = units_later n cs
