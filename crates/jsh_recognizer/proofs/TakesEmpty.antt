-- What a stack has to be where no token is left.
use Rattle.std.proofs.Common.{◌≡◌, ℕ, Bool, true, false, ◌&&◌, List, [], ◌∷◌, ◌++◌, refl}
use Rattle.jsh_tree.specs.declared.token.TokenKind.{TokenKind}
use Rattle.jsh_grammar.specs.Productions.{Part, Symbol, a, any, part, deep, IsProduction}
use Rattle.jsh_grammar.specs.Productions as table
use Rattle.jsh_grammar.specs.Leads.{in_room}
use Rattle.jsh_recognizer.specs.Meanings.{Stack, Follows, so_far, all_read, by_token, by_class, by_part, by_deep}

-- the parts that may be empty
abbrev pub may_be_empty : Part → Bool
may_be_empty (table.operations n) = true
may_be_empty table.members = true
may_be_empty table.unindexed = true
may_be_empty table.brackets = true
may_be_empty table.statements = true
may_be_empty table.for_start = true
may_be_empty table.optional = true
may_be_empty table.update = true
may_be_empty table.groups = true
may_be_empty table.modifiers = true
may_be_empty table.member_modifiers = true
may_be_empty table.interface_modifiers = true
may_be_empty table.class_members = true
may_be_empty table.superclass = true
may_be_empty (table.names_behind word) = true
may_be_empty table.first_call = true
may_be_empty table.interface_methods = true
may_be_empty _ = false

-- all symbols of the stack may be empty
abbrev pub all_empty : Stack → Bool
all_empty [] = true
all_empty ((room, a k) ∷ stack) = false
all_empty ((room, any test) ∷ stack) = false
all_empty ((room, part n) ∷ stack) = may_be_empty n && all_empty stack
all_empty ((room, deep n) ∷ stack) = may_be_empty n && all_empty stack

-- the symbols of a production that may all be empty
abbrev all_symbols_empty : List Symbol → Bool
all_symbols_empty [] = true
all_symbols_empty (a k ∷ ss) = false
all_symbols_empty (any test ∷ ss) = false
all_symbols_empty (part n ∷ ss) = may_be_empty n && all_symbols_empty ss
all_symbols_empty (deep n ∷ ss) = may_be_empty n && all_symbols_empty ss

-- a part with such a production is one that may be empty
empty_production : {n : Part} {p : List Symbol} → IsProduction n p → all_symbols_empty p ≡ true → may_be_empty n ≡ true
empty_production table.no_member is = refl
empty_production _ is = cc

both_true : (x y : Bool) → x && y ≡ true → (x ≡ true) × (y ≡ true)
both_true true y is = (refl, is)
both_true false y is = absurd cc

pub empty_behind : (first x : Stack) → all_empty (first ++ x) ≡ true → all_empty x ≡ true
empty_behind [] x is = is
empty_behind ((room, a k) ∷ first) x is = absurd cc
empty_behind ((room, any test) ∷ first) x is = absurd cc
empty_behind ((room, part n) ∷ first) x is = empty_behind first x (both_true (may_be_empty n) (all_empty (first ++ x)) is).1
empty_behind ((room, deep n) ∷ first) x is = empty_behind first x (both_true (may_be_empty n) (all_empty (first ++ x)) is).1

symbols_empty : (room : ℕ) (p : List Symbol) (x : Stack) → all_empty (in_room room p ++ x) ≡ true → all_symbols_empty p ≡ true
symbols_empty room [] x is = refl
symbols_empty room (a k ∷ p) x is = absurd cc
symbols_empty room (any test ∷ p) x is = absurd cc
symbols_empty room (part n ∷ p) x is =
    let h = both_true (may_be_empty n) (all_empty (in_room room p ++ x)) is in let rest = symbols_empty room p x h.1 in rw (h.0, rest) refl
symbols_empty room (deep n ∷ p) x is =
    let h = both_true (may_be_empty n) (all_empty (in_room room p ++ x)) is in let rest = symbols_empty room p x h.1 in rw (h.0, rest) refl

-- where no token is left, each symbol may be empty
pub read_empty_at : {whole : Bool} {stack : Stack} {ks : List TokenKind} → Follows whole stack ks → whole ≡ true → ks ≡ [] → all_empty stack ≡ true
read_empty_at so_far w e = absurd cc
read_empty_at all_read w e = refl
read_empty_at (by_token f) w e = absurd cc
read_empty_at (by_class is f) w e = absurd cc
read_empty_at (by_part {room = room} {n = n} {p = p} {stack = stack} is f) w e =
    let h = read_empty_at f w e in
    let some : may_be_empty n ≡ true = empty_production is (symbols_empty room p stack h) in
    let rest : all_empty stack ≡ true = empty_behind (in_room room p) stack h in rw (some, rest) refl
read_empty_at (by_deep {room = room} {n = n} {p = p} {stack = stack} is f) w e =
    let h = read_empty_at f w e in
    let some : may_be_empty n ≡ true = empty_production is (symbols_empty room p stack h) in
    let rest : all_empty stack ≡ true = empty_behind (in_room room p) stack h in rw (some, rest) refl

pub read_empty : {stack : Stack} → Follows true stack [] → all_empty stack ≡ true
read_empty f = read_empty_at f refl refl
