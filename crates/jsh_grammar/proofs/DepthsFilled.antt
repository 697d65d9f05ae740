-- A part that stands deep in some production derives no empty list.
use Rattle.std.proofs.Common.{◌≡◌, ◌≢◌, ℕ, Bool, true, false, not, ◌||◌, ◌&&◌, List, [], ◌∷◌, ◌++◌, inl, inr, refl}
use Rattle.std.proofs.lemmas.Bool.{or_cases, both_ways, not-true}
use Rattle.jsh_tree.specs.declared.token.TokenKind.{TokenKind}
use Rattle.jsh_grammar.specs.Productions as grammar
use Rattle.jsh_grammar.specs.Productions.{Part, Symbol, a, any, part, deep, IsProduction}
use Rattle.jsh_grammar.specs.Fronts.{Derives, nothing, token_of, token_among, whole_part, whole_deep}

-- the part derives no empty list
abbrev pub is_filled : Part → Bool
is_filled (grammar.operations n) = false
is_filled grammar.members = false
is_filled grammar.unindexed = false
is_filled grammar.brackets = false
is_filled grammar.statements = false
is_filled grammar.for_start = false
is_filled grammar.optional = false
is_filled grammar.update = false
is_filled grammar.groups = false
is_filled grammar.modifiers = false
is_filled grammar.member_modifiers = false
is_filled grammar.interface_modifiers = false
is_filled grammar.class_members = false
is_filled grammar.interface_methods = false
is_filled grammar.superclass = false
is_filled (grammar.names_behind word) = false
is_filled grammar.first_call = false
is_filled _ = true

-- one of the symbols derives no empty list, so they derive none
abbrev pub one_filled : List Symbol → Bool
one_filled [] = false
one_filled (a k ∷ ss) = true
one_filled (any test ∷ ss) = true
one_filled (part n ∷ ss) = is_filled n || one_filled ss
one_filled (deep n ∷ ss) = is_filled n || one_filled ss

-- each part that is deep among the symbols derives no empty list
abbrev pub deep_filled : List Symbol → Bool
deep_filled [] = true
deep_filled (deep n ∷ ss) = is_filled n && deep_filled ss
deep_filled (s ∷ ss) = deep_filled ss

-- each production of such a part has such a symbol
production_filled : {n : Part} {p : List Symbol} → IsProduction n p → (not (is_filled n) || one_filled p) ≡ true
production_filled grammar.of_conditional = refl
production_filled _ = refl

-- and so is the production of a part that is filled
pub filled_production : {n : Part} {p : List Symbol} → IsProduction n p → is_filled n ≡ true → one_filled p ≡ true
filled_production {n = n} {p = p} is filled = elim (or_cases (not (is_filled n)) (one_filled p) (production_filled is)) [
  | inl h ↦ absurd (both_ways (is_filled n) (not-true (is_filled n) h) filled)
  | inr h ↦ h
]

-- a list behind what isn't empty
some_before : (l r : List TokenKind) → l ≢ [] → l ++ r ≢ []
some_before [] r some e = some refl
some_before (k ∷ l) r some e = cc

-- a list before what isn't empty
some_behind : (l r : List TokenKind) → r ≢ [] → l ++ r ≢ []
some_behind [] r some e = some e
some_behind (k ∷ l) r some e = cc

-- what stands deep in a production is such a part
pub production_deep_filled : {n : Part} {p : List Symbol} → IsProduction n p → deep_filled p ≡ true
production_deep_filled grammar.of_conditional = refl
production_deep_filled _ = refl

-- symbols of which one is such derive no empty list
pub some_derived : {room : ℕ} {ss : List Symbol} {ks : List TokenKind} → Derives room ss ks → one_filled ss ≡ true → ks ≢ []
some_derived nothing filled = absurd cc
some_derived (token_of d) filled = λ e. cc
some_derived (token_among is d) filled = λ e. cc
some_derived (whole_part {n = n} {rest = ss} {l = l} {r = r} is d c) filled = elim (or_cases (is_filled n) (one_filled ss) filled) [
  | inl h ↦ some_before l r (some_derived d (filled_production is h))
  | inr h ↦ some_behind l r (some_derived c h)
]
some_derived (whole_deep {n = n} {rest = ss} {l = l} {r = r} is d c) filled = elim (or_cases (is_filled n) (one_filled ss) filled) [
  | inl h ↦ some_before l r (some_derived d (filled_production is h))
  | inr h ↦ some_behind l r (some_derived c h)
]
