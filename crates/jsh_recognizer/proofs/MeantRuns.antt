-- What the recognizer takes is right: its frames lead over the tokens that it takes, and where it may stop, to the end.
use Rattle.std.proofs.Common.{◌≡◌, ℕ, zero, suc, ◌+◌, ◌-◌, ◌≤◌, ◌&&◌, Bool, true, false, List, [], ◌∷◌, ◌++◌, refl, ap, ◌∙◌, subst, arith}
use Rattle.jsh_tree.specs.declared.token.TokenKind.{TokenKind}
use Rattle.jsh_tree.specs.declared.token.TokenKind.TheVariants as token
use Rattle.jsh_grammar.specs.Productions.{Part, part}
use Rattle.jsh_grammar.specs.Productions as table
use Rattle.jsh_grammar.specs.Leads.{Leads, stops, leads_token, leads_among, leads_part, leads_deep, Fulfils, ends, fulfils_token, fulfils_among, fulfils_part, fulfils_deep}
use Rattle.jsh_recognizer.specs.declared.frame.Frame.{Frame}
use Rattle.jsh_recognizer.specs.declared.frame.Frame.TheVariants as frame
use Rattle.jsh_recognizer.specs.Machine.{Frames, passes, move_of, else_branch, may_stop, may_all_stop, Steps, expected, moved, passed, Runs, at_end, one_more}
use Rattle.jsh_recognizer.specs.Meanings as meant
use Rattle.jsh_recognizer.specs.Meanings.{Stack, Follows, so_far, all_read, by_token, by_class, by_part, by_deep, Starts, with_expression, with_statement, with_snippet, IsPartOf, Means, nothing, a_frame, a_deep_frame, a_statement, a_deep_statement, no_else, an_else, statement_part}
use Rattle.jsh_recognizer.proofs.MeantStep.{HasMeaning}
use Rattle.jsh_recognizer.proofs.MeantShape.{reads}
use Rattle.jsh_recognizer.proofs.MeantMoves.{Stands, as_own, as_statement, as_none, as_else, stands_first}
use Rattle.jsh_recognizer.proofs.MeantStatements.{not_closed}
use Rattle.jsh_recognizer.proofs.MeantFrames.{taken_so, passed_so, stopped_so}

-- ---- one token

-- what stands for the first frame, where it isn't too deep
stands_of : {limit depth : ℕ} {f : Frame} {fs : Frames} {closed : Bool} {stack : Stack} → depth ≤ limit → Means limit closed ((depth, f) ∷ fs) stack →
    (room : ℕ) × (depth + room ≡ limit) × (behind : Bool) × (own : Stack) × Stands room f behind own
stands_of le (a_frame {room = room} fits is means) = (room, fits, false, _, as_own is)
stands_of le (a_deep_frame {room = zero} fits is means) = absurd (omega (arith, le, fits))
stands_of le (a_deep_frame {room = suc room} fits is means) = (room, omega (arith, fits), false, _, as_own (meant.a_part is))
stands_of le (a_statement {closed = closed} {room = room} fits means) = (room, fits, closed, _, as_statement)
stands_of le (a_deep_statement {room = zero} fits means) = absurd (omega (arith, le, fits))
stands_of le (a_deep_statement {closed = closed} {room = suc room} fits means) = (room, omega (arith, fits), closed, _, as_statement)
stands_of {limit = limit} {depth = depth} le (no_else means) = (limit - depth, omega (arith, le), false, _, as_none)
stands_of le (an_else {closed = closed} {room = room} fits means) = (room, fits, closed, _, as_else)

-- frames behind others that mean something
tail_of : {limit depth : ℕ} {f : Frame} {fs : Frames} {closed : Bool} {stack : Stack} → Means limit closed ((depth, f) ∷ fs) stack → HasMeaning limit fs
tail_of (a_frame {closed = closed} fits is means) = (closed, _, means)
tail_of (a_deep_frame {closed = closed} fits is means) = (closed, _, means)
tail_of (a_statement {closed = closed} fits means) = (closed, _, means)
tail_of (a_deep_statement {closed = closed} fits means) = (closed, _, means)
tail_of (no_else means) = (false, _, means)
tail_of (an_else {closed = closed} fits means) = (closed, _, means)

-- no part that may be deep may stop
part_goes_on : {f : Frame} {n : Part} → IsPartOf f n → may_stop f ≡ false
part_goes_on meant.an_expression = refl
part_goes_on meant.a_conditional = refl
part_goes_on meant.an_operand = refl
part_goes_on meant.an_unsigned = refl
part_goes_on meant.a_target = refl
part_goes_on meant.an_effect = refl
part_goes_on meant.an_initial = refl
part_goes_on meant.a_type = refl
part_goes_on meant.a_condition = refl
part_goes_on meant.a_block = refl
part_goes_on meant.a_variable = refl
part_goes_on meant.a_for_head = refl
part_goes_on meant.an_each_head = refl
part_goes_on meant.a_switch = refl
part_goes_on meant.some_catches = refl
part_goes_on meant.a_snippet = refl
part_goes_on meant.some_names = refl
part_goes_on meant.some_parameters = refl
part_goes_on meant.a_class_body = refl
part_goes_on meant.a_constructor_body = refl
part_goes_on meant.an_interface_body = refl

-- The frames mean what these kinds of tokens follow.
abbrev pub Meant : ℕ → Bool → Frames → List TokenKind → Type 0
Meant limit whole fs ks = (closed : Bool) × (stack : Stack) × Means limit closed fs stack × Follows whole stack ks

-- a kind that `else` passes is another
no_else_token : (k : TokenKind) → else_branch k ≡ passes → k ≡ token.Else → ⊥
no_else_token k e same = let other : else_branch token.Else ≡ passes = subst (λ x. else_branch x ≡ passes) same e in absurd cc

both : {b c : Bool} → b && c ≡ true → (b ≡ true) × (c ≡ true)
both {b = true} e = (refl, e)
both {b = false} e = absurd cc

-- a stack with nothing behind it
ends_there : {first rest s : Stack} → first ≡ s → rest ≡ [] → first ++ rest ≡ s ++ []
ends_there {first = first} {s = s} e end = ap (λ x. first ++ x) end ∙ ap (λ x. x ++ []) e

-- a frame that passes
pass_back : {limit depth : ℕ} {f : Frame} {fs : Frames} {first : Bool} {front : Stack} → Means limit first ((depth, f) ∷ fs) front → (k : TokenKind) →
    move_of f k ≡ passes → may_stop f ≡ true → (whole : Bool) (ks : List TokenKind) → Meant limit whole fs (k ∷ ks) →
    Meant limit whole ((depth, f) ∷ fs) (k ∷ ks)
pass_back (a_frame {room = room} {f = f} {own = own} fits is means) k e may whole ks m =
    let s = stopped_so f room own is may in (false, s.0 ++ m.1, a_frame fits s.1 m.2, s.2 m.1 whole (k ∷ ks) m.3)
pass_back (a_deep_frame fits is means) k e may whole ks m = let goes_on = part_goes_on is in absurd cc
pass_back (a_statement fits means) k e may whole ks m = absurd cc
pass_back (a_deep_statement fits means) k e may whole ks m = absurd cc
pass_back {limit = limit} {fs = fs} (no_else means) k e may whole ks m =
    (false, m.1, no_else (subst (λ x. Means limit x fs m.1) (not_closed (no_else_token k e) m.2 m.3) m.2), m.3)
pass_back {limit = limit} {fs = fs} (an_else fits means) k e may whole ks m =
    (false, m.1, no_else (subst (λ x. Means limit x fs m.1) (not_closed (no_else_token k e) m.2 m.3) m.2), m.3)

-- One token: the frames behind it mean something, and what follows these, follows the frames before, behind the token.
step_back : {limit at : ℕ} {fs next : Frames} {k : TokenKind} → Steps fs k at next → at ≤ limit → HasMeaning limit fs →
    HasMeaning limit next × ((whole : Bool) (ks : List TokenKind) → Meant limit whole next ks → Meant limit whole fs (k ∷ ks))
step_back {limit = limit} (expected {depth = depth} {k = k} {rest = rest}) le h = (
  tail_of h.2,
  λ whole ks m. (false, (limit - depth, table.a k) ∷ m.1, a_frame {room = limit - depth} (omega (arith, le)) meant.expected m.2, by_token m.3),
)
step_back {limit = limit} (moved {depth = depth} {own = own} {f = f} {k = k} {fs = new} {rest = rest} e) le h =
    let s = stands_of (omega (arith, le)) h.2 in
    let so = taken_so f limit depth s.0 s.1 s.2 s.3 s.4 k own new e le in
    let tail = tail_of h.2 in (
      so.onward rest tail,
      λ whole ks m.
          let b = so.back rest m.0 m.1 m.2 in
          let first = stands_first s.1 b.3 b.4 in
          (first.0, b.1 ++ b.2, first.1, b.5 whole ks m.3),
    )
step_back {limit = limit} (passed {f = f} {k = k} e step) le h =
    let behind = step_back step le (tail_of h.2) in
    (behind.0, λ whole ks m. pass_back h.2 k e (passed_so f k e) whole (ks) (behind.1 whole ks m))

-- ---- all tokens

-- where all frames may stop, nothing need follow
all_stop : {limit : ℕ} {closed : Bool} {fs : Frames} {stack : Stack} → Means limit closed fs stack → may_all_stop fs ≡ true →
    (own : Stack) × Means limit false fs own × Follows true own []
all_stop nothing e = ([], nothing, all_read)
all_stop (a_frame {room = room} {f = f} {own = own} fits is means) e =
    let split = both e in
    let s = stopped_so f room own is split.0 in
    let rest = all_stop means split.1 in
    (s.0 ++ rest.0, a_frame fits s.1 rest.1, s.2 rest.0 true [] rest.2)
all_stop (a_deep_frame {f = f} {fs = fs} fits is means) e =
    let split = both {b = may_stop f} {c = may_all_stop fs} e in let goes_on = part_goes_on is in absurd cc
all_stop (a_statement fits means) e = absurd cc
all_stop (a_deep_statement fits means) e = absurd cc
all_stop (no_else means) e = let rest = all_stop means e in (rest.0, no_else rest.1, rest.2)
all_stop (an_else fits means) e = let rest = all_stop means e in (rest.0, no_else rest.1, rest.2)

-- nothing more
end_follows : {limit : ℕ} {fs : Frames} (whole : Bool) → HasMeaning limit fs → (whole ≡ true → may_all_stop fs ≡ true) → Meant limit whole fs []
end_follows false h stop = (h.0, h.1, h.2, so_far)
end_follows true h stop = let s = all_stop h.2 (stop refl) in (false, s.0, s.1, s.2)

-- What is taken follows what the frames mean, and as a whole where all may stop.
pub runs_follow : {limit : ℕ} {fs last : Frames} {ks : List TokenKind} (whole : Bool) → Runs limit fs ks last → HasMeaning limit fs →
    (whole ≡ true → may_all_stop last ≡ true) → Meant limit whole fs ks
runs_follow whole at_end h stop = end_follows whole h stop
runs_follow whole (one_more {ks = ks} step le runs) h stop =
    let s = step_back step le h in s.1 whole ks (runs_follow whole runs s.0 stop)

-- ---- from the start

-- what follows a stack is what it leads over
follows_leads : {stack : Stack} {ks : List TokenKind} → Follows false stack ks → Leads stack ks
follows_leads so_far = stops
follows_leads all_read = stops
follows_leads (by_token f) = leads_token (follows_leads f)
follows_leads (by_class is f) = leads_among is (follows_leads f)
follows_leads (by_part is f) = leads_part is (follows_leads f)
follows_leads (by_deep is f) = leads_deep is (follows_leads f)

follows_fulfils : {stack : Stack} {ks : List TokenKind} → Follows true stack ks → Fulfils stack ks
follows_fulfils all_read = ends
follows_fulfils (by_token f) = fulfils_token (follows_fulfils f)
follows_fulfils (by_class is f) = fulfils_among is (follows_fulfils f)
follows_fulfils (by_part is f) = fulfils_part is (follows_fulfils f)
follows_fulfils (by_deep is f) = fulfils_deep is (follows_fulfils f)

-- no frames mean no symbols
none_meant : {limit : ℕ} {closed : Bool} {stack : Stack} → Means limit closed [] stack → (closed ≡ false) × (stack ≡ [])
none_meant nothing = (refl, refl)

starts_meaning : {limit : ℕ} {n : Part} {f : Frame} → Starts n f → HasMeaning limit ((0, f) ∷ [])
starts_meaning {limit = limit} with_expression = (false, _, a_frame {room = limit} (omega arith) (meant.a_part meant.an_expression) nothing)
starts_meaning {limit = limit} with_statement = (false, _, a_statement {room = limit} (omega arith) nothing)
starts_meaning {limit = limit} with_snippet = (false, _, a_frame {room = limit} (omega arith) (meant.a_part meant.a_snippet) nothing)

-- the first frame means its part
starts_reads : {limit : ℕ} {n : Part} {f : Frame} {whole : Bool} {ks : List TokenKind} → Starts n f → Meant limit whole ((0, f) ∷ []) ks →
    Follows whole ((limit, part n) ∷ []) ks
starts_reads {limit = limit} {whole = whole} {ks = ks} with_expression m =
    let b = reads 0 limit (omega arith) ((0, frame.Expression) ∷ []) refl (λ c own. own ≡ (limit, part table.expression) ∷ []) (λ c. refl) [] m.2 in
    let same : b.1 ++ b.2 ≡ (limit, part table.expression) ∷ [] = ends_there b.3 (none_meant b.4).1 in
    subst (λ x. Follows whole x ks) same (b.5 whole ks m.3)
starts_reads {limit = limit} {whole = whole} {ks = ks} with_snippet m =
    let b = reads 0 limit (omega arith) ((0, frame.Snippet) ∷ []) refl (λ c own. own ≡ (limit, part table.snippet) ∷ []) (λ c. refl) [] m.2 in
    let same : b.1 ++ b.2 ≡ (limit, part table.snippet) ∷ [] = ends_there b.3 (none_meant b.4).1 in
    subst (λ x. Follows whole x ks) same (b.5 whole ks m.3)
starts_reads {limit = limit} {whole = whole} {ks = ks} with_statement m =
    let b = reads 0 limit (omega arith) ((0, frame.Statement) ∷ []) refl (λ c own. own ≡ (limit, part (statement_part c)) ∷ []) (λ c. refl) [] m.2 in
    let end = none_meant b.4 in
    let open_statement : b.1 ≡ (limit, part table.statement) ∷ [] = subst (λ x. b.1 ≡ (limit, part (statement_part x)) ∷ []) end.0 b.3 in
    let same : b.1 ++ b.2 ≡ (limit, part table.statement) ∷ [] = ends_there open_statement end.1 in
    subst (λ x. Follows whole x ks) same (b.5 whole ks m.3)

-- what the recognizer takes, the part leads over
pub runs_lead : (n : Part) (f : Frame) (limit : ℕ) (ks : List TokenKind) (last : Frames) → Starts n f → Runs limit ((0, f) ∷ []) ks last →
    Leads ((limit, part n) ∷ []) ks
runs_lead n f limit ks last is runs = follows_leads (starts_reads is (runs_follow false runs (starts_meaning is) (λ e. absurd cc)))

-- and what it takes up to where it may stop is the whole part
pub runs_fulfil : (n : Part) (f : Frame) (limit : ℕ) (ks : List TokenKind) (last : Frames) → Starts n f → Runs limit ((0, f) ∷ []) ks last →
    may_all_stop last ≡ true → Fulfils ((limit, part n) ∷ []) ks
runs_fulfil n f limit ks last is runs stop = follows_fulfils (starts_reads is (runs_follow true runs (starts_meaning is) (λ e. stop)))
