-- What is a front of symbols becomes whole, and what is cut off in the midst of a whole is a front.
use Rattle.std.proofs.Common.{◌≢◌, ℕ, suc, ◌+◌, List, [], ◌∷◌, ◌++◌, refl, sym, append_assoc, arith}
use Rattle.jsh_tree.specs.declared.token.TokenKind.{TokenKind}
use Rattle.jsh_grammar.specs.Productions.{Part, Symbol, a, any, part, deep, IsProduction}
use Rattle.jsh_grammar.specs.Fronts.{Derives, whole_part, whole_deep, IsFront, between, in_part, in_deep, IsWhole, whole, IsViable, viable}
use Rattle.jsh_grammar.proofs.Derived.{grows, appended, cut}
use Rattle.jsh_grammar.proofs.Usable.{AreUsable, all_usable}
use Rattle.jsh_grammar.proofs.Witnesses.{Derivable, DerivesSome, none, next, put, put_any, put_part, put_deep, yields_some}

-- symbols that can be met derive a list
all_derivable : (ss : List Symbol) → AreUsable ss → Derivable ss
all_derivable [] usable = none
all_derivable (a k ∷ ss) usable = next (put k (all_derivable ss usable.1))
all_derivable (any test ∷ ss) usable = next (put_any usable.0.0 usable.0.1 (all_derivable ss usable.1))
all_derivable (part n ∷ ss) usable = next (put_part (yields_some n usable.0) (all_derivable ss usable.1))
all_derivable (deep n ∷ ss) usable = next (put_deep (yields_some n usable.0) (all_derivable ss usable.1))

-- and one that isn't empty, if there are symbols
all_derive_some : (ss : List Symbol) → ss ≢ [] → AreUsable ss → DerivesSome ss
all_derive_some [] some usable = absurd (some refl)
all_derive_some (a k ∷ ss) some usable = put k (all_derivable ss usable.1)
all_derive_some (any test ∷ ss) some usable = put_any usable.0.0 usable.0.1 (all_derivable ss usable.1)
all_derive_some (part n ∷ ss) some usable = put_part (yields_some n usable.0) (all_derivable ss usable.1)
all_derive_some (deep n ∷ ss) some usable = put_deep (yields_some n usable.0) (all_derivable ss usable.1)

-- the last of symbols that can be met
last_usable : (first ss : List Symbol) → AreUsable (first ++ ss) → AreUsable ss
last_usable [] ss usable = usable
last_usable (s ∷ first) ss usable = last_usable first ss usable.1

-- these kinds become what the symbols derive, by more behind them
abbrev Completed : List Symbol → List TokenKind → Type 0
Completed ss ks = (room : ℕ) × (more : List TokenKind) × (more ≢ []) × Derives room ss (ks ++ more)

-- a list behind what isn't empty
still_some : (l r : List TokenKind) → l ≢ [] → l ++ r ≢ []
still_some [] r some e = some refl
still_some (k ∷ l) r some e = cc

-- in the midst of a part
within_part : {room : ℕ} {n : Part} {first p rest : List Symbol} {l : List TokenKind} (r : List TokenKind) →
    Derives room first l → IsProduction n p → Completed p r → Derivable rest → Completed (first ++ part n ∷ rest) (l ++ r)
within_part {room = room} {l = l} r d is c after =
    let deeper = room + c.0 + after.0 in (
      deeper,
      c.1 ++ after.1,
      still_some c.1 after.1 c.2,
      rw (append_assoc l r (c.1 ++ after.1), sym (append_assoc r c.1 after.1))
          (appended (grows d deeper (omega arith)) (whole_part is (grows c.3 deeper (omega arith)) (grows after.2 deeper (omega arith)))),
    )

-- in the midst of a deep part
within_deep : {room : ℕ} {n : Part} {first p rest : List Symbol} {l : List TokenKind} (r : List TokenKind) →
    Derives room first l → IsProduction n p → Completed p r → Derivable rest → Completed (first ++ deep n ∷ rest) (l ++ r)
within_deep {room = room} {l = l} r d is c after =
    let deeper = room + c.0 + after.0 in (
      suc deeper,
      c.1 ++ after.1,
      still_some c.1 after.1 c.2,
      rw (append_assoc l r (c.1 ++ after.1), sym (append_assoc r c.1 after.1))
          (appended (grows d (suc deeper) (omega arith)) (whole_deep is (grows c.3 deeper (omega arith)) (grows after.2 (suc deeper) (omega arith)))),
    )

-- a front goes on to what is whole
pub completed : {room : ℕ} {ss : List Symbol} {ks : List TokenKind} → IsFront room ss ks → AreUsable ss → Completed ss ks
completed {room = room} (between {first = first} rest d some) usable =
    let f = all_derive_some rest some (last_usable first rest usable) in
    (room + f.0, f.1 ∷ f.2, λ e. cc, appended (grows d (room + f.0) (omega arith)) (grows f.3 (room + f.0) (omega arith)))
completed (in_part {n = n} {first = first} {r = r} rest d is front some) usable =
    within_part r d is (completed front (all_usable is)) (all_derivable rest (last_usable first (part n ∷ rest) usable).1)
completed (in_deep {n = n} {first = first} {r = r} rest d is front some) usable =
    within_deep r d is (completed front (all_usable is)) (all_derivable rest (last_usable first (deep n ∷ rest) usable).1)

-- what is viable becomes whole, by something behind it
pub viable_goes_on : (n : Part) (room : ℕ) (ks : List TokenKind) → IsViable n room ks →
    (deeper : ℕ) × (rest : List TokenKind) × (rest ≢ []) × IsWhole n deeper (ks ++ rest)
viable_goes_on n room ks (viable p is front) = let c = completed front (all_usable is) in (c.0, c.1, c.2, whole p is c.3)

-- what leaves something out at the end of a whole is viable
pub whole_cut : (n : Part) (room : ℕ) (ks rest : List TokenKind) → rest ≢ [] → IsWhole n room (ks ++ rest) → IsViable n room ks
whole_cut n room ks rest some (whole p is d) = viable p is (cut d ks rest some refl)
