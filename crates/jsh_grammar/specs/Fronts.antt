-- What the productions derive, and what begins so.
use Rattle.std.specs.Prelude.{◌≡◌, ◌≢◌, ℕ, suc, ◌⊎◌, Bool, true, List, [], ◌∷◌, ◌++◌}
use Rattle.jsh_tree.specs.declared.token.TokenKind.{TokenKind}
use Rattle.jsh_grammar.specs.Productions.{Part, Symbol, a, any, part, deep, IsProduction}

-- These kinds of tokens are what the symbols derive. The number says how many deeper parts may stand in one another.
pub data Derives : ℕ → List Symbol → List TokenKind → Type 0 where
  nothing : {room : ℕ} → Derives room [] []
  token_of : {room : ℕ} {k : TokenKind} {rest : List Symbol} {r : List TokenKind} → Derives room rest r → Derives room (a k ∷ rest) (k ∷ r)
  token_among : {room : ℕ} {test : TokenKind → Bool} {k : TokenKind} {rest : List Symbol} {r : List TokenKind} →
      test k ≡ true → Derives room rest r → Derives room (any test ∷ rest) (k ∷ r)
  whole_part : {room : ℕ} {n : Part} {p rest : List Symbol} {l r : List TokenKind} →
      IsProduction n p → Derives room p l → Derives room rest r → Derives room (part n ∷ rest) (l ++ r)
  whole_deep : {room : ℕ} {n : Part} {p rest : List Symbol} {l r : List TokenKind} →
      IsProduction n p → Derives room p l → Derives (suc room) rest r → Derives (suc room) (deep n ∷ rest) (l ++ r)

-- These kinds are a front of the symbols: the first symbols, each whole, but not all of them, or such first symbols and a nonempty
-- front of the next one.
pub data IsFront : ℕ → List Symbol → List TokenKind → Type 0 where
  between : {room : ℕ} {first : List Symbol} {l : List TokenKind} (rest : List Symbol) → Derives room first l → rest ≢ [] → IsFront room (first ++ rest) l
  in_part : {room : ℕ} {n : Part} {first p : List Symbol} {l r : List TokenKind} (rest : List Symbol) →
      Derives room first l → IsProduction n p → IsFront room p r → r ≢ [] → IsFront room (first ++ part n ∷ rest) (l ++ r)
  in_deep : {room : ℕ} {n : Part} {first p : List Symbol} {l r : List TokenKind} (rest : List Symbol) →
      Derives (suc room) first l → IsProduction n p → IsFront room p r → r ≢ [] → IsFront (suc room) (first ++ deep n ∷ rest) (l ++ r)

-- the kinds are a whole part, where so many deeper parts may stand in one another
pub data IsWhole (n : Part) (room : ℕ) (ks : List TokenKind) : Type 0 where
  whole : (p : List Symbol) → IsProduction n p → Derives room p ks → IsWhole n room ks

-- the kinds go on to be one: they are a front of one of its productions
pub data IsViable (n : Part) (room : ℕ) (ks : List TokenKind) : Type 0 where
  viable : (p : List Symbol) → IsProduction n p → IsFront room p ks → IsViable n room ks

-- a prefix of a part: one that is whole, or that is viable
abbrev pub IsPrefix : Part → ℕ → List TokenKind → Type 0
IsPrefix n room ks = IsWhole n room ks ⊎ IsViable n room ks
