-- The recognizer refuses nothing right.
use Rattle.std.proofs.Common.{◌≡◌, ℕ, suc, ◌+◌, ◌≤◌, Bool, true, false, ◌&&◌, List, [], ◌∷◌, ◌++◌, refl, subst, arith}
use Rattle.jsh_tree.specs.declared.token.TokenKind.{TokenKind}
use Rattle.jsh_grammar.specs.Productions.{Part, Symbol, part, deep}
use Rattle.jsh_grammar.specs.Leads.{Leads, stops, leads_token, leads_among, leads_part, leads_deep, Fulfils, ends, fulfils_token, fulfils_among, fulfils_part, fulfils_deep}
use Rattle.jsh_recognizer.specs.declared.frame.Frame.{Frame}
use Rattle.jsh_recognizer.specs.declared.frame.Frame.TheVariants as frame
use Rattle.jsh_recognizer.specs.Machine.{Move, passes, Frames, move_of, may_stop, may_all_stop, Steps, moved, passed, expected, Runs, at_end, one_more}
use Rattle.jsh_recognizer.specs.Meanings as meaning
use Rattle.jsh_recognizer.specs.Meanings.{Stack, Follows, so_far, all_read, by_token, by_class, by_part, by_deep, statement_part, Own, Means, a_frame, a_deep_frame, Starts}
use Rattle.jsh_recognizer.proofs.MeantAlike.{runs_alike}
use Rattle.jsh_recognizer.proofs.TakesOrder.{Fits, Orderly}
use Rattle.jsh_recognizer.proofs.TakesOrder as behind
use Rattle.jsh_recognizer.proofs.TakesStep.{Takes, took, FStep, taking, past}
use Rattle.jsh_recognizer.proofs.TakesOwn.{Sort, of_token, of_part, of_symbols, of_operand, of_several, sort_of, OwnToken, the_token, own_token}
use Rattle.jsh_recognizer.proofs.TakesEmpty.{read_empty}
use Rattle.jsh_recognizer.proofs.TakesStatements.{statement_takes}
use Rattle.jsh_recognizer.proofs.TakesBehind.{own_other, no_else_step, an_else_takes}
use Rattle.jsh_recognizer.proofs.TakesFrames.{other_step, other_ends}
use Rattle.jsh_recognizer.proofs.TakesExpressions.{part_step, symbols_step, operand_step}
use Rattle.jsh_recognizer.proofs.TakesNothing.{own_part_ends, own_symbols_end, own_operand_ends}

-- ---- one token

-- The frames take the token, and those that then stand there mean what follows.
data Stepped (limit : ℕ) (whole : Bool) (fs : Frames) (k : TokenKind) (ks : List TokenKind) : Type 0 where
  stepped : {at : ℕ} {next : Frames} {closed : Bool} {stack : Stack} → Steps fs k at next → at ≤ limit → Orderly next → Means limit closed next stack →
      Follows whole stack ks → Stepped limit whole fs k ks

-- the first frame takes the token
by_taking : {limit depth : ℕ} {whole : Bool} {f : Frame} {fs : Frames} {k : TokenKind} {ks : List TokenKind} {m : Move} → move_of f k ≡ m →
    Takes limit whole depth fs ks m → Stepped limit whole ((depth, f) ∷ fs) k ks
by_taking is (took le order means follows) = stepped (moved is) le order means follows

-- it is done, and the frames behind it take the token
by_passing : {limit depth : ℕ} {whole : Bool} {f : Frame} {fs : Frames} {k : TokenKind} {ks : List TokenKind} → move_of f k ≡ passes →
    Stepped limit whole fs k ks → Stepped limit whole ((depth, f) ∷ fs) k ks
by_passing is (stepped steps le order means follows) = stepped (passed is steps) le order means follows

by_move : {limit depth : ℕ} {whole : Bool} {f : Frame} {fs : Frames} {stack : Stack} {k : TokenKind} {ks : List TokenKind} {m : Move} → move_of f k ≡ m →
    FStep limit whole depth fs stack k ks m → (Follows whole stack (k ∷ ks) → Stepped limit whole fs k ks) → Stepped limit whole ((depth, f) ∷ fs) k ks
by_move is (taking t) rest = by_taking is t
by_move is (past f) rest = by_passing is (rest f)

-- the token of a frame that expects one
data Wanted : Frame → TokenKind → Type 0 where
  wanted : {k : TokenKind} → Wanted (frame.Expect k) k

wanted_by : (f : Frame) → sort_of f ≡ of_token → (k : TokenKind) × Wanted f k
wanted_by (frame.Expect k) is = (k, wanted)
wanted_by _ is = absurd cc

by_token_step : {limit depth room : ℕ} {whole closed : Bool} {wanted : TokenKind} {fs : Frames} {own stack : Stack} {k : TokenKind} {ks : List TokenKind} →
    depth + room ≡ limit → Orderly fs → Means limit closed fs stack → OwnToken room wanted own → Follows whole (own ++ stack) (k ∷ ks) →
    Stepped limit whole ((depth, frame.Expect wanted) ∷ fs) k ks
by_token_step e order means the_token (by_token f) = stepped expected (omega (arith, e)) order means f

by_wanted : {limit depth room : ℕ} {whole closed : Bool} {f : Frame} {word : TokenKind} {fs : Frames} {own stack : Stack} {k : TokenKind} {ks : List TokenKind} →
    depth + room ≡ limit → Orderly fs → Means limit closed fs stack → Wanted f word → Own room f own → Follows whole (own ++ stack) (k ∷ ks) →
    Stepped limit whole ((depth, f) ∷ fs) k ks
by_wanted e order means wanted o f = by_token_step e order means (own_token o) f

-- a frame by its own stack
by_sort : {limit depth room : ℕ} {whole closed : Bool} {f : Frame} {fs : Frames} {own stack : Stack} {k : TokenKind} {ks : List TokenKind} (s : Sort) → sort_of f ≡ s →
    depth + room ≡ limit → Fits f fs → Orderly fs → Means limit closed fs stack → Own room f own → Follows whole (own ++ stack) (k ∷ ks) →
    (Follows whole stack (k ∷ ks) → Stepped limit whole fs k ks) → Stepped limit whole ((depth, f) ∷ fs) k ks
by_sort {f = f} of_token is e fits order means o g rest = let h = wanted_by f is in by_wanted e order means h.1 o g
by_sort of_part is e fits order means o g rest = by_move refl (part_step is e fits order means o g) rest
by_sort of_symbols is e fits order means o g rest = by_move refl (symbols_step is e fits order means o g) rest
by_sort of_operand is e fits order means o g rest = by_move refl (operand_step is e fits order means o g) rest
by_sort of_several is e fits order means o g rest = by_move refl (other_step is e fits order means (own_other is o) g) rest

-- a deep part, one room further in
data Undeep (whole : Bool) (n : Part) (stack : Stack) (ks : List TokenKind) : ℕ → Type 0 where
  undeep : {room : ℕ} → Follows whole ((room, part n) ∷ stack) ks → Undeep whole n stack ks (suc room)

undeeped : {whole : Bool} {n : Part} {room : ℕ} {stack : Stack} {k : TokenKind} {ks : List TokenKind} → Follows whole ((room, deep n) ∷ stack) (k ∷ ks) →
    Undeep whole n stack (k ∷ ks) room
undeeped (by_deep is f) = undeep (by_part is f)

-- the frame of a deep part
by_deep_part : {limit depth room : ℕ} {whole closed : Bool} {f : Frame} {n : Part} {fs : Frames} {stack : Stack} {k : TokenKind} {ks : List TokenKind} →
    depth + room ≡ limit → Fits f fs → Orderly fs → Means limit closed fs stack → meaning.IsPartOf f n → Undeep whole n stack (k ∷ ks) room →
    (Follows whole stack (k ∷ ks) → Stepped limit whole fs k ks) → Stepped limit whole ((suc depth, f) ∷ fs) k ks
by_deep_part {f = f} e fits order means p (undeep g) rest = by_sort (sort_of f) refl (omega (arith, e)) fits order means (meaning.a_part p) g rest

by_deep_statement : {limit depth room : ℕ} {whole closed : Bool} {fs : Frames} {stack : Stack} {k : TokenKind} {ks : List TokenKind} →
    depth + room ≡ limit → behind.BehindStatement fs → Orderly fs → Means limit closed fs stack → Undeep whole (statement_part closed) stack (k ∷ ks) room →
    Stepped limit whole ((suc depth, frame.Statement) ∷ fs) k ks
by_deep_statement {closed = closed} e b order means (undeep g) =
    by_taking refl (statement_takes {closed = closed} (omega (arith, e)) b order means g)

step : {limit : ℕ} {whole closed : Bool} {fs : Frames} {stack : Stack} {k : TokenKind} {ks : List TokenKind} → Means limit closed fs stack → Orderly fs →
    Follows whole stack (k ∷ ks) → Stepped limit whole fs k ks
step meaning.nothing order f = elim f [ ]
step (a_frame {f = f} e o means) order g = by_sort (sort_of f) refl e order.0 order.1 means o g (λ h. step means order.1 h)
step (a_deep_frame e p means) order g = by_deep_part e order.0 order.1 means p (undeeped g) (λ h. step means order.1 h)
step (meaning.a_statement {closed = closed} e means) order g = by_taking refl (statement_takes {closed = closed} e order.0 order.1 means g)
step (meaning.a_deep_statement {closed = closed} e means) order g = by_deep_statement {closed = closed} e order.0 order.1 means (undeeped g)
step {k = k} (meaning.no_else means) order g = by_move refl (no_else_step k order.0 order.1 means g) (λ h. step means order.1 h)
step (meaning.an_else {closed = closed} e means) order g = by_taking refl (an_else_takes {closed = closed} e order.0 order.1 means g)

-- ---- the end

ends_by_sort : {room : ℕ} {f : Frame} {own stack : Stack} (s : Sort) → sort_of f ≡ s → Own room f own → Follows true (own ++ stack) [] →
    (may_stop f ≡ true) × Follows true stack []
ends_by_sort {f = f} of_token is o g = let h = wanted_by f is in wanted_ends h.1 o g
  where
    token_ends : {room : ℕ} {k : TokenKind} {own stack : Stack} → OwnToken room k own → Follows true (own ++ stack) [] →
        (may_stop (frame.Expect k) ≡ true) × Follows true stack []
    token_ends the_token f = elim f [ ]

    wanted_ends : {room : ℕ} {f : Frame} {word : TokenKind} {own stack : Stack} → Wanted f word → Own room f own → Follows true (own ++ stack) [] →
        (may_stop f ≡ true) × Follows true stack []
    wanted_ends wanted o g = token_ends (own_token o) g
ends_by_sort of_part is o g = own_part_ends is o g
ends_by_sort of_symbols is o g = own_symbols_end is o g
ends_by_sort of_operand is o g = own_operand_ends is o g
ends_by_sort of_several is o g = other_ends is (own_other is o) g

undeep_end : {n : Part} {room : ℕ} {stack : Stack} → Follows true ((room, deep n) ∷ stack) [] → Undeep true n stack [] room
undeep_end (by_deep is f) = undeep (by_part is f)

deep_ends : {room : ℕ} {f : Frame} {n : Part} {stack : Stack} → meaning.IsPartOf f n → Undeep true n stack [] room → (may_stop f ≡ true) × Follows true stack []
deep_ends {f = f} p (undeep g) = ends_by_sort (sort_of f) refl (meaning.a_part p) g

-- no statement is empty
no_statement : {room : ℕ} {stack : Stack} {A : Type 0} (closed : Bool) → Follows true ((room, part (statement_part closed)) ∷ stack) [] → A
no_statement true f = let h = read_empty f in absurd cc
no_statement false f = let h = read_empty f in absurd cc

no_deep_statement : {room : ℕ} {stack : Stack} {A : Type 0} (closed : Bool) → Follows true ((room, deep (statement_part closed)) ∷ stack) [] → A
no_deep_statement true f = let h = read_empty f in absurd cc
no_deep_statement false f = let h = read_empty f in absurd cc

both_stop : {x y : Bool} → x ≡ true → y ≡ true → x && y ≡ true
both_stop p q = rw (p, q) refl

-- frames whose stack may be empty may all stop
all_end : {limit : ℕ} {closed : Bool} {fs : Frames} {stack : Stack} → Means limit closed fs stack → Follows true stack [] → may_all_stop fs ≡ true
all_end meaning.nothing f = refl
all_end (a_frame {f = f} e o means) g = let h = ends_by_sort (sort_of f) refl o g in both_stop h.0 (all_end means h.1)
all_end (a_deep_frame e p means) g = let h = deep_ends p (undeep_end g) in both_stop h.0 (all_end means h.1)
all_end (meaning.a_statement {closed = closed} e means) g = no_statement closed g
all_end (meaning.a_deep_statement {closed = closed} e means) g = no_deep_statement closed g
all_end (meaning.no_else means) g = all_end means g
all_end (meaning.an_else e means) g = elim g [ ]

-- ---- all tokens

-- What follows the stack that frames mean, they take, and where it is the whole, they may stop.
pub data Followed (limit : ℕ) (whole : Bool) (fs : Frames) (ks : List TokenKind) : Type 0 where
  followed : {last : Frames} → Runs limit fs ks last → (whole ≡ true → may_all_stop last ≡ true) → Followed limit whole fs ks

follow_on : {limit : ℕ} {whole : Bool} {fs next : Frames} {at : ℕ} {k : TokenKind} {ks : List TokenKind} → Steps fs k at next → at ≤ limit →
    Followed limit whole next ks → Followed limit whole fs (k ∷ ks)
follow_on steps le (followed runs stop) = followed (one_more steps le runs) stop

-- nothing right is refused
followed_on : {limit : ℕ} {whole closed : Bool} {fs : Frames} {stack : Stack} (ks : List TokenKind) → Orderly fs → Means limit closed fs stack → Follows whole stack ks →
    Followed limit whole fs ks
followed_on {stack = stack} [] order means f = followed at_end (λ is. all_end means (subst (λ w. Follows w stack []) is f))
followed_on (k ∷ ks) order means f = elim (step means order f) [ stepped steps le next_order next_means g ↦ follow_on steps le (followed_on ks next_order next_means g) ]

as_pair : {limit : ℕ} {whole : Bool} {fs : Frames} {ks : List TokenKind} → Followed limit whole fs ks →
    (last : Frames) × Runs limit fs ks last × (whole ≡ true → may_all_stop last ≡ true)
as_pair (followed {last = last} runs stop) = (last, runs, stop)

-- What a stack begins with, the frames take that mean it and stand in order; and where it is the whole, they may stop.
pub follows_runs : (limit : ℕ) (whole : Bool) {closed : Bool} {fs : Frames} {stack : Stack} {ks : List TokenKind} → Orderly fs → Means limit closed fs stack →
    Follows whole stack ks → (last : Frames) × Runs limit fs ks last × (whole ≡ true → may_all_stop last ≡ true)
follows_runs limit whole {ks = ks} order means f = as_pair (followed_on ks order means f)

-- ---- an expression, a statement and a snippet

leads_follow : {stack : List (ℕ × Symbol)} {ks : List TokenKind} → Leads stack ks → Follows false stack ks
leads_follow stops = so_far
leads_follow (leads_token f) = by_token (leads_follow f)
leads_follow (leads_among is f) = by_class is (leads_follow f)
leads_follow (leads_part is f) = by_part is (leads_follow f)
leads_follow (leads_deep is f) = by_deep is (leads_follow f)

fulfils_follow : {stack : List (ℕ × Symbol)} {ks : List TokenKind} → Fulfils stack ks → Follows true stack ks
fulfils_follow ends = all_read
fulfils_follow (fulfils_token f) = by_token (fulfils_follow f)
fulfils_follow (fulfils_among is f) = by_class is (fulfils_follow f)
fulfils_follow (fulfils_part is f) = by_part is (fulfils_follow f)
fulfils_follow (fulfils_deep is f) = by_deep is (fulfils_follow f)

-- the frame that the recognizer begins with stands in order
first_order : {n : Part} {f : Frame} → Starts n f → Orderly ((0, f) ∷ [])
first_order meaning.with_expression = (behind.closes_all, tt)
first_order meaning.with_statement = (behind.last_statement, tt)
first_order meaning.with_snippet = (behind.at_end, tt)

-- and means the part
pub first_means : {n : Part} {f : Frame} (limit : ℕ) → Starts n f → Means limit false ((0, f) ∷ []) ((limit, part n) ∷ [])
first_means limit meaning.with_expression = a_frame (omega arith) (meaning.a_part meaning.an_expression) meaning.nothing
first_means limit meaning.with_statement = meaning.a_statement {closed = false} (omega arith) meaning.nothing
first_means limit meaning.with_snippet = a_frame (omega arith) (meaning.a_part meaning.a_snippet) meaning.nothing

-- the recognizer takes all that the part leads over
pub leads_runs : (n : Part) (f : Frame) (limit : ℕ) (ks : List TokenKind) → Starts n f → Leads ((limit, part n) ∷ []) ks →
    (last : Frames) × Runs limit ((0, f) ∷ []) ks last
leads_runs n f limit ks start leads =
    let h = follows_runs limit false (first_order start) (first_means limit start) (leads_follow leads) in (h.0, h.1)

-- ---- only one way

-- where tokens are the whole part, the recognizer may stop behind them
pub whole_stops : (n : Part) (f : Frame) (limit : ℕ) (ks : List TokenKind) (last : Frames) → Starts n f → Runs limit ((0, f) ∷ []) ks last →
    Fulfils ((limit, part n) ∷ []) ks → may_all_stop last ≡ true
whole_stops n f limit ks last start runs whole =
    let h = follows_runs limit true (first_order start) (first_means limit start) (fulfils_follow whole) in
    let same = runs_alike h.1 runs in subst (λ x. may_all_stop x ≡ true) same (h.2 refl)
