-- The frames of statements: nothing right is refused.
use Rattle.std.proofs.Common.{◌≡◌, ℕ, ◌+◌, Bool, true, false, List, [], ◌∷◌, arith}
use Rattle.jsh_tree.specs.declared.token.TokenKind.{TokenKind}
use Rattle.jsh_tree.specs.declared.token.TokenKind.TheVariants as token
use Rattle.jsh_grammar.specs.Productions.{Part, Symbol, a, any, part, deep, IsProduction}
use Rattle.jsh_grammar.specs.Productions as table
use Rattle.jsh_recognizer.specs.declared.frame.Context.TheVariants as context
use Rattle.jsh_recognizer.specs.declared.frame.Frame.{Frame}
use Rattle.jsh_recognizer.specs.declared.frame.Frame.TheVariants as frame
use Rattle.jsh_recognizer.specs.Machine.{Move, takes, passes, refuses, inside, goes, Frames, onto, move_of}
use Rattle.jsh_recognizer.specs.Machine as machine
use Rattle.jsh_recognizer.specs.Meanings as meaning
use Rattle.jsh_recognizer.specs.Meanings.{Stack, Follows, so_far, all_read, by_token, by_class, by_part, by_deep, statement_part, IsPartOf, Within, Paths, Own, Means, a_frame, a_deep_frame}
use Rattle.jsh_recognizer.proofs.TakesOrder.{Orderly, BehindStatement}
use Rattle.jsh_recognizer.proofs.TakesOrder as behind
use Rattle.jsh_recognizer.proofs.TakesStep.{Takes, ahead}
use Rattle.jsh_recognizer.proofs.TakesPlaced.{placed, takes_it, takes_within}
use Rattle.jsh_recognizer.proofs.TakesPath.{expression_takes, effect_takes}

-- a parenthesis and an expression
pub condition_takes : {limit depth room : ℕ} {whole closed : Bool} {fs : Frames} {stack : Stack} {k : TokenKind} {ks : List TokenKind} →
    depth + room ≡ limit → Orderly fs → Means limit closed fs stack → Follows whole ((room, part table.parenthesized) ∷ stack) (k ∷ ks) →
    Takes limit whole depth fs ks (machine.condition k)
condition_takes e order means (by_part table.in_parentheses (by_token f)) =
    takes_it (omega (arith, e)) (behind.closes_parenthesis, (tt, order))
    (a_frame e (meaning.a_part meaning.an_expression) (a_frame e meaning.expected means)) f

-- a block
pub block_takes : {limit depth room : ℕ} {whole closed : Bool} {fs : Frames} {stack : Stack} {k : TokenKind} {ks : List TokenKind} →
    depth + room ≡ limit → Orderly fs → Means limit closed fs stack → Follows whole ((room, part table.block) ∷ stack) (k ∷ ks) →
    Takes limit whole depth fs ks (machine.block k)
block_takes e order means (by_part table.of_statements (by_token f)) = takes_it (omega (arith, e)) (tt, order) (a_frame e (meaning.within meaning.statements) means) f

-- ---- statements

-- a closed statement is a statement
closed_as : {whole : Bool} {room : ℕ} {stack : Stack} (closed : Bool) (ks : List TokenKind) → Follows whole ((room, deep table.closed_statement) ∷ stack) ks →
    Follows whole ((room, deep (statement_part closed)) ∷ stack) ks
closed_as true ks f = f
closed_as false [] so_far = so_far
closed_as false ks (by_deep is f) = by_deep table.of_closed (by_part is f)

-- what begins a statement that is no expression is no expression
statement_begun : {limit : ℕ} {whole : Bool} {depth : ℕ} {fs : Frames} {ks : List TokenKind} (k : TokenKind) →
    Takes limit whole depth fs ks (inside 0 ((0, frame.Expect token.Semicolon) ∷ []) (machine.begins context.Effect k)) →
    Takes limit whole depth fs ks (machine.statement k)
statement_begun token.LeftBrace t = elim t [ ]
statement_begun token.Semicolon t = elim t [ ]
statement_begun token.If t = elim t [ ]
statement_begun token.While t = elim t [ ]
statement_begun token.Do t = elim t [ ]
statement_begun token.For t = elim t [ ]
statement_begun token.Switch t = elim t [ ]
statement_begun token.Break t = elim t [ ]
statement_begun token.Continue t = elim t [ ]
statement_begun token.Return t = elim t [ ]
statement_begun token.Throw t = elim t [ ]
statement_begun token.Try t = elim t [ ]
statement_begun _ t = t

-- an expression and what ends it, behind which frames stand
pub effect_before : {limit depth room : ℕ} {whole closed : Bool} {fs : Frames} {stack : Stack} {k : TokenKind} {ks : List TokenKind} (more : List (ℕ × Frame)) →
    depth + room ≡ limit → behind.Closes (placed depth more fs) → Orderly (placed depth more fs) →
    Means limit closed (placed depth more fs) stack → Follows whole ((room, part table.statement_expression) ∷ stack) (k ∷ ks) →
    Takes limit whole depth fs ks (inside 0 more (machine.begins context.Effect k))
effect_before more e closes order means f = takes_within 0 more (effect_takes e closes order means f)

-- an expression and what ends it, behind which frames stand
pub expression_before : {limit depth room : ℕ} {whole closed : Bool} {fs : Frames} {stack : Stack} {k : TokenKind} {ks : List TokenKind} (more : List (ℕ × Frame)) →
    depth + room ≡ limit → behind.Closes (placed depth more fs) → Orderly (placed depth more fs) →
    Means limit closed (placed depth more fs) stack → Follows whole ((room, part table.expression) ∷ stack) (k ∷ ks) →
    Takes limit whole depth fs ks (inside 0 more (machine.begins context.Expression k))
expression_before more e closes order means f = takes_within 0 more (expression_takes e closes order means f)

pub closed_takes : {limit depth room : ℕ} {whole closed : Bool} {fs : Frames} {stack : Stack} {k : TokenKind} {ks : List TokenKind} →
    depth + room ≡ limit → BehindStatement fs → Orderly fs → Means limit closed fs stack → Follows whole ((room, part table.closed_statement) ∷ stack) (k ∷ ks) →
    Takes limit whole depth fs ks (machine.statement k)
closed_takes e b order means (by_part table.of_block (by_deep table.of_statements (by_token f))) =
    takes_it (omega (arith, e)) (tt, order) (a_frame (omega (arith, e)) (meaning.within meaning.statements) means) f
closed_takes e b order means (by_part table.of_nothing (by_token f)) = takes_it (omega (arith, e)) order means f
closed_takes {k = k} e b order means (by_part table.of_expression f) =
    statement_begun k (effect_before ((0, frame.Expect token.Semicolon) ∷ []) e behind.closes_statement (tt, order) (a_frame e meaning.expected means) f)
closed_takes {room = room} {closed = closed} {stack = stack} e b order means (by_part table.of_closed_if_else (by_token f)) =
    takes_it (omega (arith, e)) (tt, (behind.before_else b, (b, order)))
    (a_deep_frame e meaning.a_condition (meaning.a_deep_statement {closed = true} e (meaning.an_else {closed = closed} e means)))
    (ahead ((room, deep table.parenthesized) ∷ (room, deep table.closed_statement) ∷ (room, a token.Else) ∷ []) ((room, deep table.closed_statement) ∷ stack)
    ((room, deep (statement_part closed)) ∷ stack) (closed_as closed) f)
closed_takes {room = room} {closed = closed} {stack = stack} e b order means (by_part table.of_closed_while (by_token f)) =
    takes_it (omega (arith, e)) (tt, (b, order)) (a_deep_frame e meaning.a_condition (meaning.a_deep_statement {closed = closed} e means))
    (ahead ((room, deep table.parenthesized) ∷ []) ((room, deep table.closed_statement) ∷ stack) ((room, deep (statement_part closed)) ∷ stack) (closed_as closed) f)
closed_takes e b order means (by_part table.of_do (by_token f)) =
    takes_it (omega (arith, e)) (behind.before_while, (tt, (tt, (tt, order))))
    (meaning.a_deep_statement {closed = false} e (a_frame e meaning.expected (a_deep_frame e meaning.a_condition (a_frame e meaning.expected means)))) f
closed_takes {room = room} {closed = closed} {stack = stack} e b order means (by_part table.of_closed_for (by_token f)) =
    takes_it (omega (arith, e)) (tt, (b, order)) (a_deep_frame e meaning.a_for_head (meaning.a_deep_statement {closed = closed} e means))
    (ahead ((room, deep table.for_head) ∷ []) ((room, deep table.closed_statement) ∷ stack) ((room, deep (statement_part closed)) ∷ stack) (closed_as closed) f)
closed_takes {room = room} {closed = closed} {stack = stack} e b order means (by_part table.of_closed_for_each (by_token f)) =
    takes_it (omega (arith, e)) (tt, (b, order)) (a_deep_frame e meaning.an_each_head (meaning.a_deep_statement {closed = closed} e means))
    (ahead ((room, deep table.each_head) ∷ []) ((room, deep table.closed_statement) ∷ stack) ((room, deep (statement_part closed)) ∷ stack) (closed_as closed) f)
closed_takes e b order means (by_part table.of_switch (by_token f)) =
    takes_it (omega (arith, e)) (tt, (tt, order)) (a_deep_frame e meaning.a_condition (a_deep_frame e meaning.a_switch means)) f
closed_takes e b order means (by_part table.of_break (by_token f)) = takes_it (omega (arith, e)) (tt, order) (a_frame e meaning.expected means) f
closed_takes e b order means (by_part table.of_continue (by_token f)) = takes_it (omega (arith, e)) (tt, order) (a_frame e meaning.expected means) f
closed_takes e b order means (by_part table.of_return (by_token f)) = takes_it (omega (arith, e)) (tt, order) (a_frame e (meaning.within meaning.returned) means) f
closed_takes e b order means (by_part table.of_throw (by_token f)) =
    takes_it (omega (arith, e)) (behind.closes_statement, (tt, order)) (a_frame e (meaning.a_part meaning.an_expression) (a_frame e meaning.expected means)) f
closed_takes e b order means (by_part table.of_try (by_token f)) =
    takes_it (omega (arith, e)) (tt, (b, order)) (a_deep_frame e meaning.a_block (a_frame e (meaning.a_part meaning.some_catches) means)) f

pub statement_takes : {limit depth room : ℕ} {whole closed : Bool} {fs : Frames} {stack : Stack} {k : TokenKind} {ks : List TokenKind} →
    depth + room ≡ limit → BehindStatement fs → Orderly fs → Means limit closed fs stack → Follows whole ((room, part (statement_part closed)) ∷ stack) (k ∷ ks) →
    Takes limit whole depth fs ks (machine.statement k)
statement_takes {closed = true} e b order means f = closed_takes e b order means f
statement_takes {closed = false} e b order means (by_part table.of_closed f) = closed_takes e b order means f
statement_takes {closed = false} e b order means (by_part table.of_if (by_token f)) =
    takes_it (omega (arith, e)) (tt, (behind.before_else b, (b, order)))
    (a_deep_frame e meaning.a_condition (meaning.a_deep_statement {closed = false} e (meaning.no_else means))) f
statement_takes {closed = false} e b order means (by_part table.of_if_else (by_token f)) =
    takes_it (omega (arith, e)) (tt, (behind.before_else b, (b, order)))
    (a_deep_frame e meaning.a_condition (meaning.a_deep_statement {closed = true} e (meaning.an_else {closed = false} e means))) f
statement_takes {closed = false} e b order means (by_part table.of_while (by_token f)) =
    takes_it (omega (arith, e)) (tt, (b, order)) (a_deep_frame e meaning.a_condition (meaning.a_deep_statement {closed = false} e means)) f
statement_takes {closed = false} e b order means (by_part table.of_for (by_token f)) =
    takes_it (omega (arith, e)) (tt, (b, order)) (a_deep_frame e meaning.a_for_head (meaning.a_deep_statement {closed = false} e means)) f
statement_takes {closed = false} e b order means (by_part table.of_for_each (by_token f)) =
    takes_it (omega (arith, e)) (tt, (b, order)) (a_deep_frame e meaning.an_each_head (meaning.a_deep_statement {closed = false} e means)) f
