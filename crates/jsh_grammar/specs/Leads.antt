-- The grammar read from the left by a stack of symbols, each with the room that it has: what a stack begins with, and what it is as a whole.
use Rattle.std.specs.Prelude.{◌≡◌, ℕ, suc, Bool, true, List, [], ◌∷◌, ◌++◌}
use Rattle.jsh_tree.specs.declared.token.TokenKind.{TokenKind}
use Rattle.jsh_grammar.specs.Productions.{Part, Symbol, a, any, part, deep, IsProduction}

-- the symbols as a stack, each with this room
abbrev pub in_room : ℕ → List Symbol → List (ℕ × Symbol)
in_room room [] = []
in_room room (s ∷ ss) = (room, s) ∷ in_room room ss

-- These kinds are taken one by one from the left of the stack, where a part is replaced by one of its productions. The rest of the stack is left.
pub data Leads : List (ℕ × Symbol) → List TokenKind → Type 0 where
  stops : {stack : List (ℕ × Symbol)} → Leads stack []
  leads_token : {room : ℕ} {k : TokenKind} {stack : List (ℕ × Symbol)} {ks : List TokenKind} → Leads stack ks → Leads ((room, a k) ∷ stack) (k ∷ ks)
  leads_among : {room : ℕ} {test : TokenKind → Bool} {k : TokenKind} {stack : List (ℕ × Symbol)} {ks : List TokenKind} →
      test k ≡ true → Leads stack ks → Leads ((room, any test) ∷ stack) (k ∷ ks)
  leads_part : {room : ℕ} {n : Part} {p : List Symbol} {stack : List (ℕ × Symbol)} {ks : List TokenKind} →
      IsProduction n p → Leads (in_room room p ++ stack) ks → Leads ((room, part n) ∷ stack) ks
  leads_deep : {room : ℕ} {n : Part} {p : List Symbol} {stack : List (ℕ × Symbol)} {ks : List TokenKind} →
      IsProduction n p → Leads (in_room room p ++ stack) ks → Leads ((suc room, deep n) ∷ stack) ks

-- these kinds are taken so, and nothing of the stack is left
pub data Fulfils : List (ℕ × Symbol) → List TokenKind → Type 0 where
  ends : Fulfils [] []
  fulfils_token : {room : ℕ} {k : TokenKind} {stack : List (ℕ × Symbol)} {ks : List TokenKind} → Fulfils stack ks → Fulfils ((room, a k) ∷ stack) (k ∷ ks)
  fulfils_among : {room : ℕ} {test : TokenKind → Bool} {k : TokenKind} {stack : List (ℕ × Symbol)} {ks : List TokenKind} →
      test k ≡ true → Fulfils stack ks → Fulfils ((room, any test) ∷ stack) (k ∷ ks)
  fulfils_part : {room : ℕ} {n : Part} {p : List Symbol} {stack : List (ℕ × Symbol)} {ks : List TokenKind} →
      IsProduction n p → Fulfils (in_room room p ++ stack) ks → Fulfils ((room, part n) ∷ stack) ks
  fulfils_deep : {room : ℕ} {n : Part} {p : List Symbol} {stack : List (ℕ × Symbol)} {ks : List TokenKind} →
      IsProduction n p → Fulfils (in_room room p ++ stack) ks → Fulfils ((suc room, deep n) ∷ stack) ks
