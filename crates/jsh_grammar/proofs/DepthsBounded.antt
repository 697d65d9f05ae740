-- The room of a derivation bounds the depths of its tokens, and where the depths are bounded so much room is enough.
use Rattle.std.proofs.Common.{◌≡◌, ◌≢◌, ℕ, zero, suc, ◌+◌, ◌≤◌, true, List, [], ◌∷◌, ◌++◌, refl, arith}
use Rattle.std.specs.List.{AllByRecursion}
use Rattle.std.proofs.lemmas.List.Elements.{All-from_recursion, recursion_from_All}
use Rattle.std.proofs.lemmas.Bool.{and_parts}
use Rattle.jsh_tree.specs.declared.token.TokenKind.{TokenKind}
use Rattle.jsh_grammar.specs.Productions.{Part, Symbol, IsProduction}
use Rattle.jsh_grammar.specs.Fronts.{Derives, nothing, token_of, token_among, whole_part, whole_deep}
use Rattle.jsh_grammar.specs.Depths.{depths, NoneDeeper}
use Rattle.jsh_grammar.proofs.DepthsFilled.{is_filled, deep_filled, filled_production, production_deep_filled, some_derived}

-- each of the depths is at most the limit, read from the left
abbrev Below : ℕ → List ℕ → Type 0
Below limit ds = AllByRecursion (λ depth. depth ≤ limit) ds

-- a list behind another
both_below : (limit : ℕ) (l r : List ℕ) → Below limit l → Below limit r → Below limit (l ++ r)
both_below limit [] r below more = more
both_below limit (d ∷ l) r below more = (below.0, both_below limit l r below.1 more)

-- the first of two lists
first_below : (limit : ℕ) (l r : List ℕ) → Below limit (l ++ r) → Below limit l
first_below limit [] r below = tt
first_below limit (d ∷ l) r below = (below.0, first_below limit l r below.1)

-- the second of two lists
second_below : (limit : ℕ) (l r : List ℕ) → Below limit (l ++ r) → Below limit r
second_below limit [] r below = below
second_below limit (d ∷ l) r below = second_below limit l r below.1

-- a room bounds how much deeper the tokens are than what they stand in
room_bounds : {room : ℕ} {ss : List Symbol} {ks : List TokenKind} → (d : Derives room ss ks) → (limit depth : ℕ) → depth + room ≤ limit →
    Below limit (depths depth d)
room_bounds nothing limit depth le = tt
room_bounds (token_of d) limit depth le = (omega arith, room_bounds d limit depth le)
room_bounds (token_among is d) limit depth le = (omega arith, room_bounds d limit depth le)
room_bounds (whole_part is d c) limit depth le =
    both_below limit (depths depth d) (depths depth c) (room_bounds d limit depth le) (room_bounds c limit depth le)
room_bounds (whole_deep is d c) limit depth le =
    both_below limit (depths (suc depth) d) (depths depth c) (room_bounds d limit (suc depth) (omega arith)) (room_bounds c limit depth le)

-- what derives a token is itself no deeper than the limit
within_limit : {room : ℕ} {ss : List Symbol} {ks : List TokenKind} → (d : Derives room ss ks) → ks ≢ [] → (limit depth : ℕ) →
    Below limit (depths depth d) → depth ≤ limit
within_limit nothing some limit depth below = absurd (some refl)
within_limit (token_of d) some limit depth below = below.0
within_limit (token_among is d) some limit depth below = below.0
within_limit (whole_part {l = []} is d c) some limit depth below =
    within_limit c some limit depth (second_below limit (depths depth d) (depths depth c) below)
within_limit (whole_part {l = k ∷ l} is d c) some limit depth below =
    within_limit d (λ e. cc) limit depth (first_below limit (depths depth d) (depths depth c) below)
within_limit (whole_deep {l = []} is d c) some limit depth below =
    within_limit c some limit depth (second_below limit (depths (suc depth) d) (depths depth c) below)
within_limit (whole_deep {l = k ∷ l} is d c) some limit depth below =
    let deeper = within_limit d (λ e. cc) limit (suc depth) (first_below limit (depths (suc depth) d) (depths depth c) below) in omega arith

-- as much room is enough as the limit leaves to what the symbols stand in
room_enough : {room : ℕ} {ss : List Symbol} {ks : List TokenKind} → (d : Derives room ss ks) → deep_filled ss ≡ true → (limit depth space : ℕ) →
    limit ≡ depth + space → Below limit (depths depth d) → Derives space ss ks
room_enough nothing filled limit depth space e below = nothing
room_enough (token_of d) filled limit depth space e below = token_of (room_enough d filled limit depth space e below.1)
room_enough (token_among is d) filled limit depth space e below = token_among is (room_enough d filled limit depth space e below.1)
room_enough (whole_part is d c) filled limit depth space e below =
    whole_part is
    (room_enough d (production_deep_filled is) limit depth space e (first_below limit (depths depth d) (depths depth c) below))
    (room_enough c filled limit depth space e (second_below limit (depths depth d) (depths depth c) below))
room_enough (whole_deep {n = n} {rest = ss} is d c) filled limit depth zero e below =
    let some = some_derived d (filled_production is (and_parts (is_filled n) (deep_filled ss) filled).0) in
    let deeper = within_limit d some limit (suc depth) (first_below limit (depths (suc depth) d) (depths depth c) below) in
    absurd (omega arith)
room_enough (whole_deep {n = n} {rest = ss} is d c) filled limit depth (suc space) e below =
    whole_deep is
    (room_enough d (production_deep_filled is) limit (suc depth) space (omega arith)
    (first_below limit (depths (suc depth) d) (depths depth c) below))
    (room_enough c (and_parts (is_filled n) (deep_filled ss) filled).1 limit depth (suc space) e
    (second_below limit (depths (suc depth) d) (depths depth c) below))

-- the tokens of a production are no deeper than its room
pub depths_fit : (room : ℕ) (n : Part) (p : List Symbol) (ks : List TokenKind) → IsProduction n p → (d : Derives room p ks) → NoneDeeper room (depths 0 d)
depths_fit room n p ks is d = All-from_recursion (λ depth. depth ≤ room) (depths 0 d) (room_bounds d room 0 (omega arith))

-- a production has the room that its tokens ask for
pub depths_suffice : (room limit : ℕ) (n : Part) (p : List Symbol) (ks : List TokenKind) → IsProduction n p → (d : Derives room p ks) →
    NoneDeeper limit (depths 0 d) → Derives limit p ks
depths_suffice room limit n p ks is d below =
    room_enough d (production_deep_filled is) limit 0 limit (omega arith) (recursion_from_All (λ depth. depth ≤ limit) (depths 0 d) below)
