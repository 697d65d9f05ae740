-- The frames behind a name that begins a statement, and those of a `for`: nothing right is refused.
use Rattle.std.proofs.Common.{◌≡◌, ◌≢◌, ℕ, suc, ◌+◌, Bool, List, [], ◌∷◌, ◌++◌, refl, sym, subst, append_assoc, arith}
use Rattle.jsh_tree.specs.declared.token.TokenKind.{TokenKind}
use Rattle.jsh_tree.specs.declared.token.TokenKind.TheVariants as token
use Rattle.jsh_grammar.specs.Productions.{Part, Symbol, a, any, part, deep, IsProduction}
use Rattle.jsh_grammar.specs.Productions as table
use Rattle.jsh_grammar.specs.Leads.{in_room}
use Rattle.jsh_recognizer.specs.declared.frame.Context.{Context}
use Rattle.jsh_recognizer.specs.declared.frame.Context.TheVariants as context
use Rattle.jsh_recognizer.specs.declared.frame.Ending.TheVariants as ending
use Rattle.jsh_recognizer.specs.declared.frame.Frame.{Frame}
use Rattle.jsh_recognizer.specs.declared.frame.Frame.TheVariants as frame
use Rattle.jsh_recognizer.specs.Machine.{Move, takes, passes, refuses, inside, goes, Frames, onto, move_of}
use Rattle.jsh_recognizer.specs.Machine as machine
use Rattle.jsh_recognizer.specs.Meanings as meaning
use Rattle.jsh_recognizer.specs.Meanings.{Stack, Follows, so_far, all_read, by_token, by_class, by_part, by_deep, statement_part, IsPartOf, Within, Paths, Own, Means, a_frame, a_deep_frame}
use Rattle.jsh_recognizer.proofs.TakesOrder.{Orderly, BehindStatement}
use Rattle.jsh_recognizer.proofs.TakesOrder as behind
use Rattle.jsh_recognizer.proofs.TakesStep.{Takes, FStep, taking, past}
use Rattle.jsh_recognizer.proofs.TakesPlaced.{placed, takes_it, takes_within}
use Rattle.jsh_recognizer.proofs.TakesPath.{expression_takes, effect_named, path_step}
use Rattle.jsh_recognizer.proofs.TakesEnds.{path_index}
use Rattle.jsh_recognizer.proofs.TakesStatements.{effect_before, expression_before}
use Rattle.jsh_recognizer.proofs.TakesBlocks.{by_type, typed_takes, typed_takes_before}

-- ---- behind a name

-- what refuses does nothing right
pub refused : {A : Type 0} {limit : ℕ} {whole : Bool} {depth : ℕ} {fs : Frames} {stack : Stack} {k : TokenKind} {ks : List TokenKind} →
    FStep limit whole depth fs stack k ks refuses → A
refused (taking t) = elim t [ ]

-- what stands in front of a semicolon passes at no other token
pub before_semicolon : {limit : ℕ} {whole : Bool} {depth room : ℕ} {fs : Frames} {stack : Stack} {k : TokenKind} {ks : List TokenKind} {m : Move} → k ≢ token.Semicolon →
    FStep limit whole depth fs ((room, a token.Semicolon) ∷ stack) k ks m → Takes limit whole depth fs ks m
before_semicolon not (taking t) = t
before_semicolon not (past (by_token f)) = absurd (not refl)

-- an effect, behind its name, up to a semicolon and what stands behind it
pub named_begun : {limit depth : ℕ} {whole closed : Bool} {fs : Frames} {own stack : Stack} {k : TokenKind} {ks : List TokenKind} (c : Context) (room : ℕ) (more : List (ℕ × Frame)) →
    depth + room ≡ limit → behind.ClosesPath c ((depth, frame.Expect token.Semicolon) ∷ placed depth more fs) → Orderly (placed depth more fs) →
    Means limit closed (placed depth more fs) stack → Paths room c ending.Name own → k ≢ token.Semicolon →
    Follows whole (own ++ (room, a token.Semicolon) ∷ stack) (k ∷ ks) →
    Takes limit whole depth fs ks (inside 0 ((0, frame.Expect token.Semicolon) ∷ more) (machine.behind_path c ending.Name k))
named_begun c room more e closes order means p not f =
    takes_within 0 ((0, frame.Expect token.Semicolon) ∷ more) (before_semicolon not (path_step e closes (tt, order) (a_frame e meaning.expected means) p f))

-- an index behind a name, as what the frame behind its bracket stands for
pub index_own : {whole : Bool} {room : ℕ} {f : Frame} {c : Context} {ss : List Symbol} {rest stack index : Stack} {ks : List TokenKind} → meaning.EndedPair f c ss →
    meaning.More room c ending.Place rest → meaning.Indexed room (rest ++ (in_room room ss ++ stack)) index → Follows whole index ks →
    (own : Stack) × Own room f own × Follows whole (own ++ stack) ks
index_own {whole = whole} {ss = ss} {rest = rest} {stack = stack} {ks = ks} ended more (meaning.indexed {room = room}) f = (
  in_room room (part table.expression ∷ a token.RightBracket ∷ []) ++ (rest ++ in_room (suc room) ss),
  meaning.pair_of_index ended more meaning.indexed,
  subst (λ x. Follows whole ((room, part table.expression) ∷ (room, a token.RightBracket) ∷ x) ks) (sym (append_assoc rest (in_room (suc room) ss) stack)) f,
)

-- behind the name that begins a statement of a block: an effect
pub named_effect : {limit depth room : ℕ} {whole closed : Bool} {fs : Frames} {own stack : Stack} {ks : List TokenKind} (k : TokenKind) →
    depth + room ≡ limit → Orderly fs → Means limit closed fs stack → Paths room context.Effect ending.Name own →
    Follows whole (own ++ (room, a token.Semicolon) ∷ stack) (k ∷ ks) → Takes limit whole depth fs ks (machine.named k)
named_effect {limit = limit} {depth = depth} {stack = stack} token.LeftBracket e order means p f =
    let h = path_index {limit = limit} {fs = (depth, frame.Expect token.Semicolon) ∷ _} behind.closes_statement (a_frame e meaning.expected means) p f in
    let own = index_own {stack = stack} meaning.pair_by_semicolon h.2 h.3 h.4 in
    takes_it (omega (arith, e)) (tt, order) (a_frame e own.1 means) own.2
named_effect token.Semicolon e order means p f = refused (path_step e behind.closes_statement (tt, order) (a_frame e meaning.expected means) p f)
named_effect token.Identifier e order means p f = elim (named_begun context.Effect _ [] e behind.closes_statement order means p (λ q. cc) f) [ ]
named_effect _ e order means p f = named_begun context.Effect _ [] e behind.closes_statement order means p (λ q. cc) f

-- a variable, behind its type's name
pub named_declared : {limit depth : ℕ} {whole closed : Bool} {fs : Frames} {stack : Stack} {ss : List Symbol} {k : TokenKind} {ks : List TokenKind} (room : ℕ) →
    depth + room ≡ limit → Orderly fs → Means limit closed fs stack → meaning.Declares frame.Named ss →
    Follows whole ((room, part table.brackets) ∷ (room, a token.Identifier) ∷ (in_room room ss ++ stack)) (k ∷ ks) → Takes limit whole depth fs ks (machine.named k)
named_declared room e order means d (by_part table.more_brackets (by_token f)) =
    takes_it (omega (arith, e)) (tt, order) (a_frame e (meaning.pair_of_type (meaning.paired_local d)) means) f
named_declared room e order means meaning.bare_local (by_part table.no_brackets (by_token f)) =
    takes_it (omega (arith, e)) (behind.closes_statement, (tt, order)) (a_frame e (meaning.within meaning.not_initialized) (a_frame e meaning.expected means)) f
named_declared room e order means meaning.initialized_local (by_part table.no_brackets (by_token f)) =
    takes_it (omega (arith, e)) (behind.closes_statement, (tt, order)) (a_frame e (meaning.within meaning.initialized) (a_frame e meaning.expected means)) f

-- an index behind a name and a bracket
pub index_begun : {limit depth : ℕ} {whole closed : Bool} {fs : Frames} {rest own : Stack} {k : TokenKind} {ks : List TokenKind} (ss : List Symbol) (stack : Stack) (c : Context)
    (room : ℕ) (more : List (ℕ × Frame)) → depth + room ≡ limit → behind.ClosesPath c (placed depth more fs) → Orderly (placed depth more fs) →
    Means limit closed (placed depth more fs) (in_room room ss ++ stack) → meaning.More room c ending.Place rest →
    meaning.Indexed room (rest ++ in_room room ss) own → Follows whole (own ++ stack) (k ∷ ks) →
    Takes limit whole depth fs ks (machine.indexed 1 ((0, frame.Path c ending.Place) ∷ more) k)
index_begun {whole = whole} {rest = rest} {k = k} {ks = ks} ss stack c room more e closes order means m (meaning.indexed {room = inner}) f =
    takes_within 1 ((1, frame.Expect token.RightBracket) ∷ (0, frame.Path c ending.Place) ∷ more)
    (expression_takes (omega (arith, e)) behind.closes_index (tt, (closes, order))
    (a_frame (omega (arith, e)) meaning.expected (a_frame e (meaning.path (meaning.as_it_ends m)) means))
    (subst (λ x. Follows whole ((inner, part table.expression) ∷ (inner, a token.RightBracket) ∷ x) (k ∷ ks)) (append_assoc rest (in_room (suc inner) ss) stack) f))

-- behind a bracket behind the name: an index
pub named_index : {limit depth : ℕ} {whole closed : Bool} {fs : Frames} {rest own stack : Stack} {ks : List TokenKind} (k : TokenKind) (room : ℕ) →
    depth + room ≡ limit → Orderly fs → Means limit closed fs stack → meaning.More room context.Effect ending.Place rest →
    meaning.Indexed room (rest ++ (room, a token.Semicolon) ∷ []) own → Follows whole (own ++ stack) (k ∷ ks) → Takes limit whole depth fs ks (machine.named_pair k)
named_index token.RightBracket room e order means m at f =
    elim (index_begun (a token.Semicolon ∷ []) _ context.Effect room ((0, frame.Expect token.Semicolon) ∷ []) e behind.closes_statement (tt, order)
    (a_frame e meaning.expected means) m at f) [ ]
named_index _ room e order means m at f =
    index_begun (a token.Semicolon ∷ []) _ context.Effect room ((0, frame.Expect token.Semicolon) ∷ []) e behind.closes_statement (tt, order)
    (a_frame e meaning.expected means) m at f

-- the same for a type
pub named_pair_declared : {limit depth : ℕ} {whole closed : Bool} {fs : Frames} {stack : Stack} {ss : List Symbol} {k : TokenKind} {ks : List TokenKind} (room : ℕ) →
    depth + room ≡ limit → Orderly fs → Means limit closed fs stack → meaning.Declares frame.Named ss →
    Follows whole ((room, a token.RightBracket) ∷ (room, part table.brackets) ∷ (room, a token.Identifier) ∷ (in_room room ss ++ stack)) (k ∷ ks) →
    Takes limit whole depth fs ks (machine.named_pair k)
named_pair_declared room e order means meaning.bare_local (by_token f) =
    typed_takes_before frame.Initialized (frame.Expect token.Semicolon) e behind.closes_statement tt order (a_frame e meaning.expected means) meaning.not_initialized f
named_pair_declared room e order means meaning.initialized_local (by_token f) =
    typed_takes_before frame.Initialized (frame.Expect token.Semicolon) e behind.closes_statement tt order (a_frame e meaning.expected means) meaning.initialized f

-- ---- `for`

-- the parentheses of a `for`
pub for_takes : {limit depth room : ℕ} {whole closed : Bool} {fs : Frames} {stack : Stack} {k : TokenKind} {ks : List TokenKind} →
    depth + room ≡ limit → Orderly fs → Means limit closed fs stack → Follows whole ((room, part table.for_head) ∷ stack) (k ∷ ks) →
    Takes limit whole depth fs ks (machine.for_head k)
for_takes e order means (by_part table.of_for_parts (by_token f)) = takes_it (omega (arith, e)) (tt, order) (a_frame e (meaning.within meaning.for_start) means) f

pub each_takes : {limit depth room : ℕ} {whole closed : Bool} {fs : Frames} {stack : Stack} {k : TokenKind} {ks : List TokenKind} →
    depth + room ≡ limit → Orderly fs → Means limit closed fs stack → Follows whole ((room, part table.each_head) ∷ stack) (k ∷ ks) →
    Takes limit whole depth fs ks (machine.for_head k)
each_takes e order means (by_part table.of_each (by_token f)) = takes_it (omega (arith, e)) (tt, order) (a_frame e (meaning.within meaning.each_typed) means) f
each_takes e order means (by_part table.of_final_each (by_token f)) = takes_it (omega (arith, e)) (tt, order) (a_frame e (meaning.within meaning.each_final) means) f
each_takes e order means (by_part table.of_inferred_each (by_token f)) =
    takes_it (omega (arith, e)) (tt, order) (a_frame e (meaning.within meaning.each_inferred) means) f
each_takes e order means (by_part table.of_final_inferred_each (by_token f)) =
    takes_it (omega (arith, e)) (tt, order) (a_frame e (meaning.within meaning.each_final_inferred) means) f

-- a type and a name, behind which these symbols stand
for_named_type : {limit depth : ℕ} {whole closed : Bool} {fs : Frames} {ss : List Symbol} {stack : Stack} {k : TokenKind} {ks : List TokenKind} (room : ℕ) →
    depth + room ≡ limit → Orderly fs → Means limit closed fs stack → Within frame.ForTyped ss →
    Follows whole ((room, part table.type_use) ∷ (room, a token.Identifier) ∷ (in_room room ss ++ stack)) (k ∷ ks) → Takes limit whole depth fs ks (machine.for_start k)
for_named_type room e order means w f =
    let typed = typed_takes frame.ForTyped e tt order means w in
    by_type machine.for_start f (λ g. takes_it (omega (arith, e)) (tt, order) (a_frame e (meaning.named_type (meaning.of_for w)) means) g) typed typed typed typed

-- the same behind `final`
for_type : {limit depth : ℕ} {whole closed : Bool} {fs : Frames} {ss : List Symbol} {stack : Stack} {k : TokenKind} {ks : List TokenKind} (room : ℕ) →
    depth + room ≡ limit → Orderly fs → Means limit closed fs stack → Within frame.ForTyped ss →
    Follows whole ((room, part table.type_use) ∷ (room, a token.Identifier) ∷ (in_room room ss ++ stack)) (k ∷ ks) → Takes limit whole depth fs ks (machine.for_variable k)
for_type room e order means w f = let typed = typed_takes frame.ForTyped e tt order means w in by_type machine.for_variable f typed typed typed typed typed

-- an expression, up to a semicolon, and the condition
effect_begins : {limit depth room : ℕ} {whole closed : Bool} {fs : Frames} {stack : Stack} {k : TokenKind} {ks : List TokenKind} →
    depth + room ≡ limit → Orderly fs → Means limit closed fs stack →
    Follows whole ((room, part table.statement_expression) ∷ (in_room room meaning.for_rest ++ stack)) (k ∷ ks) →
    Takes limit whole depth fs ks (inside 0 ((0, frame.Expect token.Semicolon) ∷ (0, frame.ForCondition) ∷ []) (machine.begins context.Effect k))
effect_begins e order means f =
    effect_before ((0, frame.Expect token.Semicolon) ∷ (0, frame.ForCondition) ∷ []) e behind.closes_statement (tt, (tt, order))
    (a_frame e meaning.expected (a_frame e (meaning.within meaning.for_condition) means)) f

-- the same as what begins a `for`, which may be a name
for_effect : {limit depth room : ℕ} {whole closed : Bool} {fs : Frames} {stack : Stack} {ks : List TokenKind} (k : TokenKind) →
    depth + room ≡ limit → Orderly fs → Means limit closed fs stack →
    Follows whole ((room, part table.statement_expression) ∷ (in_room room meaning.for_rest ++ stack)) (k ∷ ks) → Takes limit whole depth fs ks (machine.for_start k)
for_effect {room = room} {whole = whole} {stack = stack} {ks = ks} token.Identifier e order means f =
    let h = effect_named f in
    takes_it (omega (arith, e)) (tt, order) (a_frame e (meaning.named_effect meaning.in_for h.1) means)
    (subst (λ x. Follows whole x ks) (sym (append_assoc h.0 (in_room room meaning.for_rest) stack)) h.2)
for_effect token.Semicolon e order means f = elim (effect_begins e order means f) [ ]
for_effect token.Final e order means f = elim (effect_begins e order means f) [ ]
for_effect token.Var e order means f = elim (effect_begins e order means f) [ ]
for_effect token.Int e order means f = elim (effect_begins e order means f) [ ]
for_effect token.Long e order means f = elim (effect_begins e order means f) [ ]
for_effect token.Char e order means f = elim (effect_begins e order means f) [ ]
for_effect token.Boolean e order means f = elim (effect_begins e order means f) [ ]
for_effect _ e order means f = effect_begins e order means f

pub for_start_takes : {limit depth : ℕ} {whole closed : Bool} {fs : Frames} {stack : Stack} {k : TokenKind} {ks : List TokenKind} {ss : List Symbol} (room : ℕ) →
    depth + room ≡ limit → Orderly fs → Means limit closed fs stack → Within frame.ForStart ss → Follows whole (in_room room ss ++ stack) (k ∷ ks) →
    Takes limit whole depth fs ks (machine.for_start k)
for_start_takes room e order means meaning.for_start (by_part table.no_start (by_token f)) =
    takes_it (omega (arith, e)) (tt, order) (a_frame e (meaning.within meaning.for_condition) means) f
for_start_takes room e order means meaning.for_start (by_part table.of_local_start (by_part table.of_inferred (by_token f))) =
    takes_it (omega (arith, e)) (tt, (tt, order)) (a_frame e meaning.expected (a_frame e (meaning.within meaning.for_inferred) means)) f
for_start_takes room e order means meaning.for_start (by_part table.of_local_start (by_part table.of_bare f)) = for_named_type room e order means meaning.for_bare f
for_start_takes room e order means meaning.for_start (by_part table.of_local_start (by_part table.of_initialized f)) =
    for_named_type room e order means meaning.for_initialized f
for_start_takes room e order means meaning.for_start (by_part table.of_final_start (by_token f)) =
    takes_it (omega (arith, e)) (tt, order) (a_frame e (meaning.within meaning.for_variable) means) f
for_start_takes {k = k} room e order means meaning.for_start (by_part table.of_expression_start f) = for_effect k e order means f
for_start_takes room e order means meaning.each_typed f = for_named_type room e order means meaning.each_of_typed f
for_start_takes room e order means meaning.each_final (by_token f) =
    takes_it (omega (arith, e)) (tt, order) (a_frame e (meaning.within meaning.each_of_type) means) f
for_start_takes room e order means meaning.each_inferred (by_token f) =
    takes_it (omega (arith, e)) (tt, (tt, order)) (a_frame e meaning.expected (a_frame e (meaning.within meaning.each_of_inferred) means)) f
for_start_takes room e order means meaning.each_final_inferred (by_token f) =
    takes_it (omega (arith, e)) (tt, order) (a_frame e (meaning.within meaning.each_of_var) means) f

pub for_variable_takes : {limit depth : ℕ} {whole closed : Bool} {fs : Frames} {stack : Stack} {k : TokenKind} {ks : List TokenKind} {ss : List Symbol} (room : ℕ) →
    depth + room ≡ limit → Orderly fs → Means limit closed fs stack → Within frame.ForVariable ss → Follows whole (in_room room ss ++ stack) (k ∷ ks) →
    Takes limit whole depth fs ks (machine.for_variable k)
for_variable_takes room e order means meaning.for_variable (by_part table.of_inferred (by_token f)) =
    takes_it (omega (arith, e)) (tt, (tt, order)) (a_frame e meaning.expected (a_frame e (meaning.within meaning.for_inferred) means)) f
for_variable_takes room e order means meaning.for_variable (by_part table.of_bare f) = for_type room e order means meaning.for_bare f
for_variable_takes room e order means meaning.for_variable (by_part table.of_initialized f) = for_type room e order means meaning.for_initialized f
for_variable_takes room e order means meaning.each_of_type f = for_type room e order means meaning.each_of_typed f
for_variable_takes room e order means meaning.each_of_var (by_token f) =
    takes_it (omega (arith, e)) (tt, (tt, order)) (a_frame e meaning.expected (a_frame e (meaning.within meaning.each_of_inferred) means)) f

pub for_inferred_takes : {limit depth : ℕ} {whole closed : Bool} {fs : Frames} {stack : Stack} {k : TokenKind} {ks : List TokenKind} {ss : List Symbol} (room : ℕ) →
    depth + room ≡ limit → Orderly fs → Means limit closed fs stack → Within frame.ForInferred ss → Follows whole (in_room room ss ++ stack) (k ∷ ks) →
    Takes limit whole depth fs ks (machine.for_inferred k)
for_inferred_takes room e order means meaning.for_inferred (by_token f) =
    takes_it (omega (arith, e)) (behind.closes_statement, (tt, (tt, order)))
    (a_frame e (meaning.a_part meaning.an_expression) (a_frame e meaning.expected (a_frame e (meaning.within meaning.for_condition) means))) f
for_inferred_takes room e order means meaning.each_of_inferred (by_token f) =
    takes_it (omega (arith, e)) (behind.closes_parenthesis, (tt, order)) (a_frame e (meaning.a_part meaning.an_expression) (a_frame e meaning.expected means)) f

pub for_typed_takes : {limit depth : ℕ} {whole closed : Bool} {fs : Frames} {stack : Stack} {k : TokenKind} {ks : List TokenKind} {ss : List Symbol} (room : ℕ) →
    depth + room ≡ limit → Orderly fs → Means limit closed fs stack → Within frame.ForTyped ss → Follows whole (in_room room ss ++ stack) (k ∷ ks) →
    Takes limit whole depth fs ks (machine.for_typed k)
for_typed_takes room e order means meaning.for_bare (by_token f) =
    takes_it (omega (arith, e)) (tt, order) (a_frame e (meaning.within meaning.for_condition) means) f
for_typed_takes room e order means meaning.for_initialized (by_token f) =
    takes_it (omega (arith, e)) (behind.closes_statement, (tt, (tt, order)))
    (a_frame e (meaning.a_part meaning.an_initial) (a_frame e meaning.expected (a_frame e (meaning.within meaning.for_condition) means))) f
for_typed_takes room e order means meaning.each_of_typed (by_token f) =
    takes_it (omega (arith, e)) (behind.closes_parenthesis, (tt, order)) (a_frame e (meaning.a_part meaning.an_expression) (a_frame e meaning.expected means)) f

-- ---- behind a name in a `for`

-- an effect
pub for_named_effect : {limit depth room : ℕ} {whole closed : Bool} {fs : Frames} {own stack : Stack} {ks : List TokenKind} (k : TokenKind) →
    depth + room ≡ limit → Orderly fs → Means limit closed fs stack → Paths room context.Effect ending.Name own →
    Follows whole (own ++ (in_room room meaning.for_rest ++ stack)) (k ∷ ks) → Takes limit whole depth fs ks (machine.for_named k)
for_named_effect {limit = limit} {depth = depth} {stack = stack} token.LeftBracket e order means p f =
    let h = path_index {limit = limit} {fs = (depth, frame.Expect token.Semicolon) ∷ (depth, frame.ForCondition) ∷ _} behind.closes_statement
    (a_frame e meaning.expected (a_frame e (meaning.within meaning.for_condition) means)) p f in
    let own = index_own {stack = stack} meaning.pair_in_for h.2 h.3 h.4 in
    takes_it (omega (arith, e)) (tt, order) (a_frame e own.1 means) own.2
for_named_effect token.Semicolon e order means p f =
    refused (path_step e behind.closes_statement (tt, (tt, order)) (a_frame e meaning.expected (a_frame e (meaning.within meaning.for_condition) means)) p f)
for_named_effect token.Identifier e order means p f =
    elim (named_begun context.Effect _ ((0, frame.ForCondition) ∷ []) e behind.closes_statement (tt, order)
    (a_frame e (meaning.within meaning.for_condition) means) p (λ q. cc) f) [ ]
for_named_effect _ e order means p f =
    named_begun context.Effect _ ((0, frame.ForCondition) ∷ []) e behind.closes_statement (tt, order)
    (a_frame e (meaning.within meaning.for_condition) means) p (λ q. cc) f

-- a variable
pub for_named_declared : {limit depth : ℕ} {whole closed : Bool} {fs : Frames} {stack : Stack} {ss : List Symbol} {k : TokenKind} {ks : List TokenKind} (room : ℕ) →
    depth + room ≡ limit → Orderly fs → Means limit closed fs stack → meaning.Declares frame.ForNamed ss →
    Follows whole ((room, part table.brackets) ∷ (room, a token.Identifier) ∷ (in_room room ss ++ stack)) (k ∷ ks) →
    Takes limit whole depth fs ks (machine.for_named k)
for_named_declared room e order means d (by_part table.more_brackets (by_token f)) =
    takes_it (omega (arith, e)) (tt, order) (a_frame e (meaning.pair_of_type (meaning.paired_for d)) means) f
for_named_declared room e order means (meaning.of_for w) (by_part table.no_brackets (by_token f)) =
    takes_it (omega (arith, e)) (tt, order) (a_frame e (meaning.within w) means) f

-- behind a bracket behind the name: an index
pub for_index : {limit depth : ℕ} {whole closed : Bool} {fs : Frames} {rest own stack : Stack} {ks : List TokenKind} (k : TokenKind) (room : ℕ) →
    depth + room ≡ limit → Orderly fs → Means limit closed fs stack → meaning.More room context.Effect ending.Place rest →
    meaning.Indexed room (rest ++ in_room room meaning.for_rest) own → Follows whole (own ++ stack) (k ∷ ks) → Takes limit whole depth fs ks (machine.for_pair k)
for_index token.RightBracket room e order means m at f =
    elim (index_begun meaning.for_rest _ context.Effect room ((0, frame.Expect token.Semicolon) ∷ (0, frame.ForCondition) ∷ []) e behind.closes_statement
    (tt, (tt, order)) (a_frame e meaning.expected (a_frame e (meaning.within meaning.for_condition) means)) m at f) [ ]
for_index _ room e order means m at f =
    index_begun meaning.for_rest _ context.Effect room ((0, frame.Expect token.Semicolon) ∷ (0, frame.ForCondition) ∷ []) e behind.closes_statement
    (tt, (tt, order)) (a_frame e meaning.expected (a_frame e (meaning.within meaning.for_condition) means)) m at f

-- the same for a type
pub for_pair_declared : {limit depth : ℕ} {whole closed : Bool} {fs : Frames} {stack : Stack} {ss : List Symbol} {k : TokenKind} {ks : List TokenKind} (room : ℕ) →
    depth + room ≡ limit → Orderly fs → Means limit closed fs stack → meaning.Declares frame.ForNamed ss →
    Follows whole ((room, a token.RightBracket) ∷ (room, part table.brackets) ∷ (room, a token.Identifier) ∷ (in_room room ss ++ stack)) (k ∷ ks) →
    Takes limit whole depth fs ks (machine.for_pair k)
for_pair_declared room e order means (meaning.of_for w) (by_token f) = typed_takes frame.ForTyped e tt order means w f

-- ---- the rest of a `for`

for_condition_begun : {limit : ℕ} {whole : Bool} {depth : ℕ} {fs : Frames} {ks : List TokenKind} (k : TokenKind) →
    Takes limit whole depth fs ks (inside 0 ((0, frame.Expect token.Semicolon) ∷ (0, frame.ForUpdate) ∷ []) (machine.begins context.Expression k)) →
    Takes limit whole depth fs ks (machine.for_condition k)
for_condition_begun token.Semicolon t = elim t [ ]
for_condition_begun _ t = t

pub for_condition_takes : {limit depth : ℕ} {whole closed : Bool} {fs : Frames} {stack : Stack} {k : TokenKind} {ks : List TokenKind} {ss : List Symbol} (room : ℕ) →
    depth + room ≡ limit → Orderly fs → Means limit closed fs stack → Within frame.ForCondition ss → Follows whole (in_room room ss ++ stack) (k ∷ ks) →
    Takes limit whole depth fs ks (machine.for_condition k)
for_condition_takes room e order means meaning.for_condition (by_part table.not_there (by_token f)) =
    takes_it (omega (arith, e)) (tt, order) (a_frame e (meaning.within meaning.for_update) means) f
for_condition_takes {k = k} room e order means meaning.for_condition (by_part table.there f) =
    for_condition_begun k (expression_before ((0, frame.Expect token.Semicolon) ∷ (0, frame.ForUpdate) ∷ []) e behind.closes_statement (tt, (tt, order))
    (a_frame e meaning.expected (a_frame e (meaning.within meaning.for_update) means)) f)

for_update_begun : {limit : ℕ} {whole : Bool} {depth : ℕ} {fs : Frames} {ks : List TokenKind} (k : TokenKind) →
    Takes limit whole depth fs ks (inside 0 ((0, frame.Expect token.RightParen) ∷ []) (machine.begins context.Effect k)) →
    Takes limit whole depth fs ks (machine.for_update k)
for_update_begun token.RightParen t = elim t [ ]
for_update_begun _ t = t

pub for_update_takes : {limit depth : ℕ} {whole closed : Bool} {fs : Frames} {stack : Stack} {k : TokenKind} {ks : List TokenKind} {ss : List Symbol} (room : ℕ) →
    depth + room ≡ limit → Orderly fs → Means limit closed fs stack → Within frame.ForUpdate ss → Follows whole (in_room room ss ++ stack) (k ∷ ks) →
    Takes limit whole depth fs ks (machine.for_update k)
for_update_takes room e order means meaning.for_update (by_part table.no_update (by_token f)) = takes_it (omega (arith, e)) order means f
for_update_takes {k = k} room e order means meaning.for_update (by_part table.of_update f) =
    for_update_begun k (effect_before ((0, frame.Expect token.RightParen) ∷ []) e behind.closes_parenthesis (tt, order) (a_frame e meaning.expected means) f)
