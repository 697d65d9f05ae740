-- The frames of a snippet and of a constructor's first call: nothing right is refused.
use Rattle.std.proofs.Common.{◌≡◌, ◌≢◌, ℕ, ◌+◌, Bool, false, List, [], ◌∷◌, ◌++◌, refl, sym, subst, append_assoc, arith}
use Rattle.jsh_tree.specs.declared.token.TokenKind.{TokenKind}
use Rattle.jsh_tree.specs.declared.token.TokenKind.TheVariants as token
use Rattle.jsh_grammar.specs.Classes.{is_type_name}
use Rattle.jsh_grammar.specs.Productions.{Part, Symbol, a, any, part, deep, IsProduction}
use Rattle.jsh_grammar.specs.Productions as table
use Rattle.jsh_grammar.specs.Leads.{in_room}
use Rattle.jsh_recognizer.specs.declared.frame.Context.TheVariants as context
use Rattle.jsh_recognizer.specs.declared.frame.Ending.TheVariants as ending
use Rattle.jsh_recognizer.specs.declared.frame.Frame.TheVariants as frame
use Rattle.jsh_recognizer.specs.Machine.{Move, takes, passes, refuses, inside, goes, Frames, onto, move_of}
use Rattle.jsh_recognizer.specs.Machine as machine
use Rattle.jsh_recognizer.specs.Meanings as meaning
use Rattle.jsh_recognizer.specs.Meanings.{Stack, Follows, so_far, all_read, by_token, by_class, by_part, by_deep, statement_part, IsPartOf, Within, Paths, Own, Means, a_frame, a_deep_frame}
use Rattle.jsh_recognizer.proofs.TakesOrder.{Orderly, BehindStatement}
use Rattle.jsh_recognizer.proofs.TakesOrder as behind
use Rattle.jsh_recognizer.proofs.TakesStep.{Takes, FStep, taking, past, ahead}
use Rattle.jsh_recognizer.proofs.TakesPlaced.{takes_it, takes_within}
use Rattle.jsh_recognizer.proofs.TakesPath.{effect_this, effect_super, path_step, begun_takes}
use Rattle.jsh_recognizer.proofs.TakesEnds.{path_index}
use Rattle.jsh_recognizer.specs.Meanings.{After, More, Behind, Created, Sized, Unindexed, Opens}
use Rattle.jsh_recognizer.specs.Machine.{begins_statement}
use Rattle.jsh_recognizer.specs.declared.frame.Ending.{Ending}
use Rattle.jsh_grammar.specs.Classes.{is_step}
use Rattle.jsh_recognizer.proofs.TakesOwn.{own_operand, OwnOperand}
use Rattle.jsh_recognizer.proofs.TakesOwn as own
use Rattle.jsh_recognizer.proofs.TakesOperand as operand
use Rattle.jsh_recognizer.proofs.TakesOperand.{Begun}
use Rattle.jsh_recognizer.proofs.TakesTail.{expression_begun, effect_begun}
use Rattle.jsh_recognizer.proofs.TakesStatements.{statement_takes}
use Rattle.jsh_recognizer.proofs.TakesBlocks.{statements_takes}
use Rattle.jsh_recognizer.proofs.TakesNamed.{refused, before_semicolon, named_begun, index_own, index_begun}
use Rattle.jsh_recognizer.proofs.TakesBlocks.{typed_takes}
use Rattle.jsh_recognizer.proofs.TakesDeclarations.{declaration_takes}

-- ---- what is an effect is an expression

-- what begins the first stack begins the second one
abbrev pub Reads : Stack → Stack → Type 0
Reads x y = (whole : Bool) (stack : Stack) (ks : List TokenKind) → Follows whole (x ++ stack) ks → Follows whole (y ++ stack) ks

-- operators that aren't there
abbrev no_tail : ℕ → Stack
no_tail room = in_room room (meaning.down_from 9)

no_tail_read : (room : ℕ) (whole : Bool) (stack : Stack) (ks : List TokenKind) → Follows whole stack ks → Follows whole (no_tail room ++ stack) ks
no_tail_read room whole stack ks f =
    by_part table.no_operation (by_part table.no_operation (by_part table.no_operation (by_part table.no_operation (by_part table.no_operation
    (by_part table.no_operation (by_part table.no_operation (by_part table.no_operation (by_part table.no_operation (by_part table.no_operation f)))))))))

alone : (room : ℕ) → Behind room context.Expression (no_tail room)
alone room = meaning.behind_first (meaning.tail meaning.no_choice)

-- reading on behind the same symbols
reads_behind : (first x y : Stack) → Reads x y → Reads (first ++ x) (first ++ y)
reads_behind first x y to whole stack ks f =
    subst (λ z. Follows whole z ks) (sym (append_assoc first y stack))
    (ahead first (x ++ stack) (y ++ stack) (λ r g. to whole stack r g) (subst (λ z. Follows whole z ks) (append_assoc first x stack) f))

after_turned : {room : ℕ} {e : Ending} {rest : Stack} → After room context.Effect e rest → (y : Stack) × After room context.Expression e y × Reads rest y
after_turned {room = room} (meaning.stepped_effect is) =
    ((room, any is_step) ∷ no_tail room, meaning.stepped is (alone room), reads_behind ((room, any is_step) ∷ []) [] (no_tail room) (no_tail_read room))
after_turned {rest = rest} (meaning.assigned_effect is) = (rest, meaning.assigned is, λ whole stack ks f. f)
after_turned {room = room} meaning.as_effect = (no_tail room, meaning.value (alone room), no_tail_read room)
after_turned (meaning.value p) = elim p [ ]
after_turned (meaning.stepped is p) = elim p [ ]

more_turned : {room : ℕ} {e : Ending} {rest : Stack} → More room context.Effect e rest → (y : Stack) × More room context.Expression e y × Reads rest y
more_turned (meaning.no_more after) = let h = after_turned after in (h.0, meaning.no_more h.1, h.2)
more_turned {room = room} (meaning.more_places {rest = rest} more) =
    let h = more_turned more in ((room, part table.place) ∷ h.0, meaning.more_places h.1, reads_behind ((room, part table.place) ∷ []) rest h.0 h.2)
more_turned {room = room} (meaning.more_calls {rest = rest} more) =
    let h = more_turned more in (
      (room, a token.Dot) ∷ (room, a token.Identifier) ∷ (room, deep table.arguments) ∷ h.0,
      meaning.more_calls h.1,
      reads_behind ((room, a token.Dot) ∷ (room, a token.Identifier) ∷ (room, deep table.arguments) ∷ []) rest h.0 h.2,
    )

paths_turned : {room : ℕ} {e : Ending} {rest : Stack} → Paths room context.Effect e rest → (y : Stack) × Paths room context.Expression e y × Reads rest y
paths_turned (meaning.as_it_ends more) = let h = more_turned more in (h.0, meaning.as_it_ends h.1, h.2)
paths_turned {room = room} (meaning.name_called {rest = rest} more) =
    let h = more_turned more in ((room, deep table.arguments) ∷ h.0, meaning.name_called h.1, reads_behind ((room, deep table.arguments) ∷ []) rest h.0 h.2)

unindexed_turned : {room : ℕ} {rest : Stack} → Unindexed room context.Effect rest → (y : Stack) × Unindexed room context.Expression y × Reads rest y
unindexed_turned (meaning.none_selected after) = let h = after_turned after in (h.0, meaning.none_selected h.1, h.2)
unindexed_turned {room = room} (meaning.field_selected {rest = rest} more) =
    let h = more_turned more in (
      (room, a token.Dot) ∷ (room, a token.Identifier) ∷ h.0,
      meaning.field_selected h.1,
      reads_behind ((room, a token.Dot) ∷ (room, a token.Identifier) ∷ []) rest h.0 h.2,
    )
unindexed_turned {room = room} (meaning.call_selected {rest = rest} more) =
    let h = more_turned more in (
      (room, a token.Dot) ∷ (room, a token.Identifier) ∷ (room, deep table.arguments) ∷ h.0,
      meaning.call_selected h.1,
      reads_behind ((room, a token.Dot) ∷ (room, a token.Identifier) ∷ (room, deep table.arguments) ∷ []) rest h.0 h.2,
    )

sized_turned : {room : ℕ} {rest : Stack} → Sized room context.Effect rest → (y : Stack) × Sized room context.Expression y × Reads rest y
sized_turned (meaning.sized u) = let h = unindexed_turned u in (h.0, meaning.sized h.1, h.2)
sized_turned {room = room} (meaning.closed {rest = rest} more) =
    let first = in_room room (a token.LeftBracket ∷ a token.RightBracket ∷ part table.brackets ∷ []) in
    let h = more_turned more in (first ++ h.0, meaning.closed h.1, reads_behind first rest h.0 h.2)

created_turned : {room : ℕ} {rest : Stack} → Created room context.Effect rest → (y : Stack) × Created room context.Expression y × Reads rest y
created_turned {room = room} (meaning.with_sizes {rest = rest} s) =
    let h = sized_turned s in ((room, part table.sizes) ∷ h.0, meaning.with_sizes h.1, reads_behind ((room, part table.sizes) ∷ []) rest h.0 h.2)
created_turned {room = room} (meaning.with_values {rest = rest} more) =
    let first = in_room room (a token.LeftBracket ∷ a token.RightBracket ∷ part table.brackets ∷ deep table.braces ∷ []) in
    let h = more_turned more in (first ++ h.0, meaning.with_values h.1, reads_behind first rest h.0 h.2)

opens_turned : {room : ℕ} {rest : Stack} → Opens room context.Effect rest → (y : Stack) × Opens room context.Expression y × Reads rest y
opens_turned (meaning.in_parentheses {room = room} {rest = rest} more) =
    let first = in_room room (part table.expression ∷ a token.RightParen ∷ []) in
    let h = more_turned more in (first ++ h.0, meaning.in_parentheses h.1, reads_behind first rest h.0 h.2)
opens_turned (meaning.primitive_cast p) = elim p [ ]
opens_turned (meaning.named_cast p) = elim p [ ]

new_turned : {room : ℕ} {rest : Stack} → OwnOperand room (frame.New context.Effect) rest → (y : Stack) × Own room (frame.New context.Expression) y × Reads rest y
new_turned {room = room} (own.new_object {stack = rest} more) =
    let h = more_turned more in (
      (room, a token.Identifier) ∷ (room, deep table.arguments) ∷ h.0,
      meaning.new_object h.1,
      reads_behind ((room, a token.Identifier) ∷ (room, deep table.arguments) ∷ []) rest h.0 h.2,
    )
new_turned {room = room} (own.new_array {stack = rest} c) =
    let h = created_turned c in ((room, any is_type_name) ∷ h.0, meaning.new_array h.1, reads_behind ((room, any is_type_name) ∷ []) rest h.0 h.2)

-- an effect begins as an expression does
begun_turned : {whole : Bool} {stack : Stack} {room : ℕ} {k : TokenKind} {ks : List TokenKind} → Begun whole stack room context.Effect k ks →
    Begun whole stack room context.Expression k ks
begun_turned {whole = whole} {stack = stack} {ks = ks} (operand.literal_first is more f) =
    let h = more_turned more in operand.literal_first is h.1 (h.2 whole stack ks f)
begun_turned {whole = whole} {stack = stack} {ks = ks} (operand.this_first more f) = let h = more_turned more in operand.this_first h.1 (h.2 whole stack ks f)
begun_turned {whole = whole} {stack = stack} {ks = ks} (operand.name_first p f) = let h = paths_turned p in operand.name_first h.1 (h.2 whole stack ks f)
begun_turned {whole = whole} {stack = stack} {room = room} {ks = ks} (operand.super_first {rest = rest} more f) =
    let h = more_turned more in
    operand.super_first h.1 (reads_behind ((room, a token.Dot) ∷ (room, a token.Identifier) ∷ (room, deep table.arguments) ∷ []) rest h.0 h.2 whole stack ks f)
begun_turned {whole = whole} {stack = stack} {ks = ks} (operand.parenthesis_first o f) =
    let h = opens_turned o in operand.parenthesis_first h.1 (h.2 whole stack ks f)
begun_turned {whole = whole} {stack = stack} {ks = ks} (operand.new_first o f) =
    let h = new_turned (own_operand refl o) in operand.new_first h.1 (h.2 whole stack ks f)
begun_turned {whole = whole} {stack = stack} {room = room} {ks = ks} (operand.step_first is operand.step_of_effect f) =
    operand.step_first is (operand.step_of_value (alone room))
    (reads_behind ((room, deep table.target) ∷ []) [] (no_tail room) (no_tail_read room) whole stack ks f)
begun_turned (operand.step_first is (operand.step_of_value p) f) = elim p [ ]
begun_turned (operand.prefix_first is p f) = elim p [ ]

-- ---- snippets

-- an expression and a semicolon
begun_before : {limit depth room : ℕ} {whole closed : Bool} {fs : Frames} {stack : Stack} {k : TokenKind} {ks : List TokenKind} →
    depth + room ≡ limit → Orderly fs → Means limit closed fs stack → Begun whole ((room, a token.Semicolon) ∷ stack) room context.Expression k ks →
    Takes limit whole depth fs ks (inside 0 ((0, frame.Expect token.Semicolon) ∷ []) (machine.begins context.Expression k))
begun_before e order means b =
    takes_within 0 ((0, frame.Expect token.Semicolon) ∷ []) (begun_takes e behind.closes_statement (tt, order) (a_frame e meaning.expected means) b)

name_snippet : {limit depth room : ℕ} {whole closed : Bool} {fs : Frames} {stack : Stack} {ks : List TokenKind} →
    depth + room ≡ limit → Orderly fs → Means limit closed fs stack → Begun whole ((room, a token.Semicolon) ∷ stack) room context.Expression token.Identifier ks →
    Takes limit whole depth fs ks (machine.snippet token.Identifier)
name_snippet {room = room} {whole = whole} {stack = stack} {ks = ks} e order means (operand.name_first {rest = rest} p f) =
    takes_it (omega (arith, e)) (tt, order) (a_frame e (meaning.named_effect meaning.by_snippet p) means)
    (subst (λ x. Follows whole x ks) (sym (append_assoc rest ((room, a token.Semicolon) ∷ []) stack)) f)
name_snippet e order means (operand.literal_first is more f) = absurd cc
name_snippet e order means (operand.step_first is more f) = absurd cc
name_snippet e order means (operand.prefix_first is more f) = absurd cc

expression_snippet : {limit depth room : ℕ} {whole closed : Bool} {fs : Frames} {stack : Stack} {ks : List TokenKind} (k : TokenKind) →
    depth + room ≡ limit → Orderly fs → Means limit closed fs stack → Begun whole ((room, a token.Semicolon) ∷ stack) room context.Expression k ks →
    Takes limit whole depth fs ks (machine.snippet k)
expression_snippet token.Identifier e order means b = name_snippet e order means b
expression_snippet token.Import e order means b = elim (begun_before e order means b) [ ]
expression_snippet token.Class e order means b = elim (begun_before e order means b) [ ]
expression_snippet token.Interface e order means b = elim (begun_before e order means b) [ ]
expression_snippet token.Void e order means b = elim (begun_before e order means b) [ ]
expression_snippet token.Var e order means b = elim (begun_before e order means b) [ ]
expression_snippet token.Public e order means b = elim (begun_before e order means b) [ ]
expression_snippet token.Protected e order means b = elim (begun_before e order means b) [ ]
expression_snippet token.Private e order means b = elim (begun_before e order means b) [ ]
expression_snippet token.Static e order means b = elim (begun_before e order means b) [ ]
expression_snippet token.Final e order means b = elim (begun_before e order means b) [ ]
expression_snippet token.Volatile e order means b = elim (begun_before e order means b) [ ]
expression_snippet token.Abstract e order means b = elim (begun_before e order means b) [ ]
expression_snippet token.Int e order means b = elim (begun_before e order means b) [ ]
expression_snippet token.Long e order means b = elim (begun_before e order means b) [ ]
expression_snippet token.Char e order means b = elim (begun_before e order means b) [ ]
expression_snippet token.Boolean e order means b = elim (begun_before e order means b) [ ]
expression_snippet token.LeftBrace e order means b = elim (begun_before e order means b) [ ]
expression_snippet token.Semicolon e order means b = elim (begun_before e order means b) [ ]
expression_snippet token.If e order means b = elim (begun_before e order means b) [ ]
expression_snippet token.While e order means b = elim (begun_before e order means b) [ ]
expression_snippet token.Do e order means b = elim (begun_before e order means b) [ ]
expression_snippet token.For e order means b = elim (begun_before e order means b) [ ]
expression_snippet token.Switch e order means b = elim (begun_before e order means b) [ ]
expression_snippet token.Break e order means b = elim (begun_before e order means b) [ ]
expression_snippet token.Continue e order means b = elim (begun_before e order means b) [ ]
expression_snippet token.Return e order means b = elim (begun_before e order means b) [ ]
expression_snippet token.Throw e order means b = elim (begun_before e order means b) [ ]
expression_snippet token.Try e order means b = elim (begun_before e order means b) [ ]
expression_snippet _ e order means b = begun_before e order means b

-- a statement that begins with no word of statements is an expression
plain_statement : {room : ℕ} {whole : Bool} {stack : Stack} {k : TokenKind} {ks : List TokenKind} → begins_statement k ≡ false →
    Follows whole ((room, part table.statement) ∷ stack) (k ∷ ks) → Follows whole ((room, part table.statement_expression) ∷ (room, a token.Semicolon) ∷ stack) (k ∷ ks)
plain_statement is (by_part table.of_closed (by_part table.of_expression f)) = f
plain_statement is (by_part table.of_closed (by_part table.of_block (by_deep table.of_statements (by_token f)))) = absurd cc
plain_statement is (by_part table.of_closed (by_part table.of_closed_if_else (by_token f))) = absurd cc
plain_statement is (by_part table.of_closed (by_part table.of_closed_while (by_token f))) = absurd cc
plain_statement is (by_part table.of_closed (by_part table.of_do (by_token f))) = absurd cc
plain_statement is (by_part table.of_closed (by_part table.of_closed_for (by_token f))) = absurd cc
plain_statement is (by_part table.of_closed (by_part table.of_closed_for_each (by_token f))) = absurd cc
plain_statement is (by_part table.of_closed (by_part table.of_switch (by_token f))) = absurd cc
plain_statement is (by_part table.of_closed (by_part table.of_break (by_token f))) = absurd cc
plain_statement is (by_part table.of_closed (by_part table.of_continue (by_token f))) = absurd cc
plain_statement is (by_part table.of_closed (by_part table.of_return (by_token f))) = absurd cc
plain_statement is (by_part table.of_closed (by_part table.of_throw (by_token f))) = absurd cc
plain_statement is (by_part table.of_closed (by_part table.of_try (by_token f))) = absurd cc
plain_statement is (by_part table.of_closed (by_part table.of_nothing (by_token f))) = absurd cc
plain_statement is (by_part table.of_if (by_token f)) = absurd cc
plain_statement is (by_part table.of_if_else (by_token f)) = absurd cc
plain_statement is (by_part table.of_while (by_token f)) = absurd cc
plain_statement is (by_part table.of_for (by_token f)) = absurd cc
plain_statement is (by_part table.of_for_each (by_token f)) = absurd cc

statement_snippet : {limit depth room : ℕ} {whole : Bool} {fs : Frames} {stack : Stack} {ks : List TokenKind} (k : TokenKind) →
    depth + room ≡ limit → BehindStatement fs → Orderly fs → Means limit false fs stack → Follows whole ((room, part table.statement) ∷ stack) (k ∷ ks) →
    Takes limit whole depth fs ks (machine.snippet k)
statement_snippet token.LeftBrace e b order means f = statement_takes e b order means f
statement_snippet token.Semicolon e b order means f = statement_takes e b order means f
statement_snippet token.If e b order means f = statement_takes e b order means f
statement_snippet token.While e b order means f = statement_takes e b order means f
statement_snippet token.Do e b order means f = statement_takes e b order means f
statement_snippet token.For e b order means f = statement_takes e b order means f
statement_snippet token.Switch e b order means f = statement_takes e b order means f
statement_snippet token.Break e b order means f = statement_takes e b order means f
statement_snippet token.Continue e b order means f = statement_takes e b order means f
statement_snippet token.Return e b order means f = statement_takes e b order means f
statement_snippet token.Throw e b order means f = statement_takes e b order means f
statement_snippet token.Try e b order means f = statement_takes e b order means f
statement_snippet _ e b order means f = expression_snippet _ e order means (begun_turned (effect_begun _ (plain_statement refl f)))

-- a declaration that begins with no name
declared_snippet : {limit : ℕ} {whole : Bool} {depth : ℕ} {fs : Frames} {ks : List TokenKind} (k : TokenKind) → k ≢ token.Identifier →
    Takes limit whole depth fs ks (machine.declaration_behind k) → Takes limit whole depth fs ks (machine.snippet k)
declared_snippet token.Identifier not t = absurd (not refl)
declared_snippet token.Class not t = t
declared_snippet token.Interface not t = t
declared_snippet token.Void not t = t
declared_snippet token.Var not t = t
declared_snippet token.Public not t = t
declared_snippet token.Protected not t = t
declared_snippet token.Private not t = t
declared_snippet token.Static not t = t
declared_snippet token.Final not t = t
declared_snippet token.Volatile not t = t
declared_snippet token.Abstract not t = t
declared_snippet token.Int not t = t
declared_snippet token.Long not t = t
declared_snippet token.Char not t = t
declared_snippet token.Boolean not t = t
declared_snippet _ not t = elim t [ ]

-- a declaration that begins with the name of a type
declared_named : {limit depth : ℕ} {whole closed : Bool} {fs : Frames} {stack : Stack} {ks : List TokenKind} {ss : List Symbol} (room : ℕ) →
    depth + room ≡ limit → Orderly fs → Means limit closed fs stack → Within frame.Declaration ss → Follows whole (in_room room ss ++ stack) (token.Identifier ∷ ks) →
    Takes limit whole depth fs ks (machine.snippet token.Identifier)
declared_named room e order means meaning.class_declared (by_part table.one_more_modifier (by_class is f)) = absurd cc
declared_named room e order means meaning.class_declared (by_part table.no_modifier f) = elim f [ ]
declared_named room e order means meaning.interface_declared (by_part table.one_more_modifier (by_class is f)) = absurd cc
declared_named room e order means meaning.interface_declared (by_part table.no_modifier f) = elim f [ ]
declared_named room e order means meaning.method_declared (by_part table.one_more_modifier (by_class is f)) = absurd cc
declared_named room e order means meaning.method_declared (by_part table.no_modifier (by_part table.of_void f)) = elim f [ ]
declared_named room e order means meaning.method_declared (by_part table.no_modifier (by_part table.of_result (by_part table.of_type (by_class is f)))) =
    takes_it (omega (arith, e)) (tt, order) (a_frame e (meaning.named_type (meaning.of_snippet meaning.a_method)) means) f
declared_named room e order means meaning.variable_declared (by_part table.one_more_modifier (by_class is f)) = absurd cc
declared_named room e order means meaning.variable_declared (by_part table.no_modifier (by_part table.of_inferred f)) = elim f [ ]
declared_named room e order means meaning.variable_declared (by_part table.no_modifier (by_part table.of_bare (by_part table.of_type (by_class is f)))) =
    takes_it (omega (arith, e)) (tt, order) (a_frame e (meaning.named_type (meaning.of_snippet meaning.a_bare_variable)) means) f
declared_named room e order means meaning.variable_declared (by_part table.no_modifier (by_part table.of_initialized (by_part table.of_type (by_class is f)))) =
    takes_it (omega (arith, e)) (tt, order) (a_frame e (meaning.named_type (meaning.of_snippet meaning.an_initialized_variable)) means) f

some_declaration : {limit depth : ℕ} {whole closed : Bool} {fs : Frames} {stack : Stack} {ks : List TokenKind} {ss : List Symbol} (k : TokenKind) (room : ℕ) →
    depth + room ≡ limit → Orderly fs → Means limit closed fs stack → Within frame.Declaration ss → Follows whole (in_room room ss ++ stack) (k ∷ ks) →
    Takes limit whole depth fs ks (machine.snippet k)
some_declaration token.Identifier room e order means w f = declared_named room e order means w f
some_declaration k room e order means w f = declared_snippet k (λ q. cc) (declaration_takes room e order means w f)

some_snippet : {limit depth room : ℕ} {whole : Bool} {fs : Frames} {stack : Stack} {k : TokenKind} {ks : List TokenKind} →
    depth + room ≡ limit → BehindStatement fs → Orderly fs → Means limit false fs stack → Follows whole ((room, part table.snippet) ∷ stack) (k ∷ ks) →
    Takes limit whole depth fs ks (machine.snippet k)
some_snippet e b order means (by_part table.of_import (by_token f)) =
    takes_it (omega (arith, e)) (tt, order) (a_frame e (meaning.within meaning.imported) means) f
some_snippet e b order means (by_part table.of_static_import (by_token f)) =
    takes_it (omega (arith, e)) (tt, order) (a_frame e (meaning.within meaning.static_imported) means) f
some_snippet {room = room} {k = k} e b order means (by_part table.of_class f) = some_declaration k room e order means meaning.class_declared f
some_snippet {room = room} {k = k} e b order means (by_part table.of_interface f) = some_declaration k room e order means meaning.interface_declared f
some_snippet {room = room} {k = k} e b order means (by_part table.of_method f) = some_declaration k room e order means meaning.method_declared f
some_snippet {room = room} {k = k} e b order means (by_part table.of_variable f) = some_declaration k room e order means meaning.variable_declared f
some_snippet {k = k} e b order means (by_part table.of_statement_snippet f) = statement_snippet k e b order means f
some_snippet {k = k} e b order means (by_part table.of_expression_snippet f) = expression_snippet k e order means (expression_begun _ f)

pub snippet_takes : {limit depth room : ℕ} {whole closed : Bool} {fs : Frames} {stack : Stack} {k : TokenKind} {ks : List TokenKind} →
    depth + room ≡ limit → behind.AtEnd fs → Orderly fs → Means limit closed fs stack → Follows whole ((room, part table.snippet) ∷ stack) (k ∷ ks) →
    Takes limit whole depth fs ks (machine.snippet k)
snippet_takes e behind.at_end order meaning.nothing f = some_snippet e behind.last_statement order meaning.nothing f

-- ---- behind a name that begins a snippet

semicolon_passed : {limit depth : ℕ} {whole : Bool} {room : ℕ} {fs : Frames} {stack : Stack} {ks : List TokenKind} →
    FStep limit whole depth fs ((room, a token.Semicolon) ∷ stack) token.Semicolon ks passes → Follows whole stack ks
semicolon_passed (past (by_token f)) = f
semicolon_passed (taking t) = elim t [ ]

pub snippet_effect : {limit depth room : ℕ} {whole closed : Bool} {fs : Frames} {own stack : Stack} {ks : List TokenKind} (k : TokenKind) →
    depth + room ≡ limit → Orderly fs → Means limit closed fs stack → Paths room context.Expression ending.Name own →
    Follows whole (own ++ (room, a token.Semicolon) ∷ stack) (k ∷ ks) → Takes limit whole depth fs ks (machine.named_snippet k)
snippet_effect {limit = limit} {depth = depth} {stack = stack} token.LeftBracket e order means p f =
    let h = path_index {limit = limit} {fs = (depth, frame.Expect token.Semicolon) ∷ _} behind.closes_statement (a_frame e meaning.expected means) p f in
    let own = index_own {stack = stack} meaning.pair_by_snippet h.2 h.3 h.4 in
    takes_it (omega (arith, e)) (tt, order) (a_frame e own.1 means) own.2
snippet_effect token.Semicolon e order means p f =
    takes_it (omega (arith, e)) order means (semicolon_passed (path_step e behind.closes_statement (tt, order) (a_frame e meaning.expected means) p f))
snippet_effect token.Identifier e order means p f = elim (named_begun context.Expression _ [] e behind.closes_statement order means p (λ q. cc) f) [ ]
snippet_effect _ e order means p f = named_begun context.Expression _ [] e behind.closes_statement order means p (λ q. cc) f

-- a variable or a method, behind its type's name
pub snippet_declared : {limit depth : ℕ} {whole closed : Bool} {fs : Frames} {stack : Stack} {ss : List Symbol} {k : TokenKind} {ks : List TokenKind} (room : ℕ) →
    depth + room ≡ limit → Orderly fs → Means limit closed fs stack → meaning.Declares frame.NamedSnippet ss →
    Follows whole ((room, part table.brackets) ∷ (room, a token.Identifier) ∷ (in_room room ss ++ stack)) (k ∷ ks) →
    Takes limit whole depth fs ks (machine.named_snippet k)
snippet_declared room e order means d (by_part table.more_brackets (by_token f)) =
    takes_it (omega (arith, e)) (tt, order) (a_frame e (meaning.pair_of_type (meaning.paired_snippet d)) means) f
snippet_declared room e order means (meaning.of_snippet w) (by_part table.no_brackets (by_token f)) =
    takes_it (omega (arith, e)) (tt, order) (a_frame e (meaning.within w) means) f

-- behind a bracket behind the name: an index
pub snippet_index : {limit depth : ℕ} {whole closed : Bool} {fs : Frames} {rest own stack : Stack} {ks : List TokenKind} (k : TokenKind) (room : ℕ) →
    depth + room ≡ limit → Orderly fs → Means limit closed fs stack → meaning.More room context.Expression ending.Place rest →
    meaning.Indexed room (rest ++ (room, a token.Semicolon) ∷ []) own → Follows whole (own ++ stack) (k ∷ ks) → Takes limit whole depth fs ks (machine.named_snippet_pair k)
snippet_index token.RightBracket room e order means m at f =
    elim (index_begun (a token.Semicolon ∷ []) _ context.Expression room ((0, frame.Expect token.Semicolon) ∷ []) e behind.closes_statement (tt, order)
    (a_frame e meaning.expected means) m at f) [ ]
snippet_index _ room e order means m at f =
    index_begun (a token.Semicolon ∷ []) _ context.Expression room ((0, frame.Expect token.Semicolon) ∷ []) e behind.closes_statement (tt, order)
    (a_frame e meaning.expected means) m at f

-- the same for a type
pub snippet_pair_declared : {limit depth : ℕ} {whole closed : Bool} {fs : Frames} {stack : Stack} {ss : List Symbol} {k : TokenKind} {ks : List TokenKind} (room : ℕ) →
    depth + room ≡ limit → Orderly fs → Means limit closed fs stack → meaning.Declares frame.NamedSnippet ss →
    Follows whole ((room, a token.RightBracket) ∷ (room, part table.brackets) ∷ (room, a token.Identifier) ∷ (in_room room ss ++ stack)) (k ∷ ks) →
    Takes limit whole depth fs ks (machine.named_snippet_pair k)
snippet_pair_declared room e order means (meaning.of_snippet w) (by_token f) = typed_takes frame.MethodOrVariable e tt order means w f

-- ---- the first call of a constructor

pub this_first_takes : {limit depth : ℕ} {whole closed : Bool} {fs : Frames} {stack : Stack} {k : TokenKind} {ks : List TokenKind} {ss : List Symbol} (room : ℕ) →
    depth + room ≡ limit → Orderly fs → Means limit closed fs stack → Within frame.ThisFirst ss → Follows whole (in_room room ss ++ stack) (k ∷ ks) →
    Takes limit whole depth fs ks (machine.this_first k)
this_first_takes room e order means meaning.this_called (by_deep table.no_arguments (by_token f)) =
    takes_it (omega (arith, e)) (tt, (tt, (tt, order)))
    (a_frame (omega (arith, e)) (meaning.within meaning.no_argument) (a_frame e meaning.expected (a_frame e (meaning.within meaning.statements) means))) f
this_first_takes room e order means meaning.this_called (by_deep table.some_arguments (by_token f)) =
    takes_it (omega (arith, e)) (tt, (tt, (tt, order)))
    (a_frame (omega (arith, e)) (meaning.within meaning.arguments) (a_frame e meaning.expected (a_frame e (meaning.within meaning.statements) means))) f

pub super_first_takes : {limit depth : ℕ} {whole closed : Bool} {fs : Frames} {stack : Stack} {k : TokenKind} {ks : List TokenKind} {ss : List Symbol} (room : ℕ) →
    depth + room ≡ limit → Orderly fs → Means limit closed fs stack → Within frame.SuperFirst ss → Follows whole (in_room room ss ++ stack) (k ∷ ks) →
    Takes limit whole depth fs ks (machine.super_first k)
super_first_takes room e order means meaning.super_called (by_deep table.no_arguments (by_token f)) =
    takes_it (omega (arith, e)) (tt, (tt, (tt, order)))
    (a_frame (omega (arith, e)) (meaning.within meaning.no_argument) (a_frame e meaning.expected (a_frame e (meaning.within meaning.statements) means))) f
super_first_takes room e order means meaning.super_called (by_deep table.some_arguments (by_token f)) =
    takes_it (omega (arith, e)) (tt, (tt, (tt, order)))
    (a_frame (omega (arith, e)) (meaning.within meaning.arguments) (a_frame e meaning.expected (a_frame e (meaning.within meaning.statements) means))) f

-- what else begins with `this`
pub this_effect_takes : {limit depth room : ℕ} {whole closed : Bool} {fs : Frames} {own stack : Stack} {ks : List TokenKind} (k : TokenKind) →
    depth + room ≡ limit → Orderly fs → Means limit closed fs stack → More room context.Effect ending.Other own →
    Follows whole (own ++ (room, a token.Semicolon) ∷ (room, part table.statements) ∷ (room, a token.RightBrace) ∷ stack) (k ∷ ks) →
    Takes limit whole depth fs ks (machine.this_first k)
this_effect_takes token.LeftParen e order means m f =
    refused (path_step e behind.closes_statement (tt, (tt, order)) (a_frame e meaning.expected (a_frame e (meaning.within meaning.statements) means))
    (meaning.as_it_ends m) f)
this_effect_takes token.Semicolon e order means m f =
    refused (path_step e behind.closes_statement (tt, (tt, order)) (a_frame e meaning.expected (a_frame e (meaning.within meaning.statements) means))
    (meaning.as_it_ends m) f)
this_effect_takes _ e order means m f =
    takes_within 0 ((0, frame.Expect token.Semicolon) ∷ (0, frame.Statements) ∷ [])
    (before_semicolon (λ q. cc) (path_step e behind.closes_statement (tt, (tt, order))
    (a_frame e meaning.expected (a_frame e (meaning.within meaning.statements) means)) (meaning.as_it_ends m) f))

-- what else begins with `super`
pub super_effect_takes : {limit depth room : ℕ} {whole closed : Bool} {fs : Frames} {own stack : Stack} {k : TokenKind} {ks : List TokenKind} →
    depth + room ≡ limit → Orderly fs → Means limit closed fs stack → More room context.Effect ending.Call own →
    Follows whole ((room, a token.Dot) ∷ (room, a token.Identifier) ∷ (room, deep table.arguments)
    ∷ (own ++ (room, a token.Semicolon) ∷ (room, part table.statements) ∷ (room, a token.RightBrace) ∷ stack)) (k ∷ ks) →
    Takes limit whole depth fs ks (machine.super_first k)
super_effect_takes e order means m (by_token f) =
    takes_it (omega (arith, e)) (tt, (tt, (behind.closes_statement, (tt, (tt, order)))))
    (a_frame e meaning.expected (a_frame e (meaning.within meaning.a_call) (a_frame e (meaning.path (meaning.as_it_ends m))
    (a_frame e meaning.expected (a_frame e (meaning.within meaning.statements) means))))) f

-- the statements of a constructor, which may begin with `this` or `super`
first_statement : {limit depth room : ℕ} {whole closed : Bool} {fs : Frames} {stack : Stack} {ks : List TokenKind} (k : TokenKind) →
    depth + room ≡ limit → Orderly fs → Means limit closed fs stack →
    Follows whole ((room, part table.statements) ∷ (room, a token.RightBrace) ∷ stack) (k ∷ ks) → Takes limit whole depth fs ks (machine.first_call k)
first_statement {room = room} {whole = whole} {stack = stack} {ks = ks} token.This e order means (by_part table.one_more_statement (by_part table.of_statement f)) =
    let h = effect_this (plain_statement refl f) in
    takes_it (omega (arith, e)) (tt, order) (a_frame e (meaning.this_effect h.1) means)
    (subst (λ x. Follows whole x ks) (sym (append_assoc h.0 (in_room room (a token.Semicolon ∷ part table.statements ∷ a token.RightBrace ∷ [])) stack)) h.2)
first_statement {room = room} {whole = whole} {stack = stack} {ks = ks} token.Super e order means (by_part table.one_more_statement (by_part table.of_statement f)) =
    let h = effect_super (plain_statement refl f) in
    takes_it (omega (arith, e)) (tt, order) (a_frame e (meaning.super_effect h.1) means)
    (subst (λ x. Follows whole ((room, a token.Dot) ∷ (room, a token.Identifier) ∷ (room, deep table.arguments) ∷ x) ks)
    (sym (append_assoc h.0 (in_room room (a token.Semicolon ∷ part table.statements ∷ a token.RightBrace ∷ [])) stack)) h.2)
first_statement token.This e order means (by_part table.no_statements f) = elim f [ ]
first_statement token.Super e order means (by_part table.no_statements f) = elim f [ ]
first_statement token.This e order means (by_part table.one_more_statement (by_part table.of_local (by_part table.of_inferred f))) = elim f [ ]
first_statement token.Super e order means (by_part table.one_more_statement (by_part table.of_local (by_part table.of_inferred f))) = elim f [ ]
first_statement token.This e order means (by_part table.one_more_statement (by_part table.of_local (by_part table.of_bare (by_part table.of_type (by_class is f))))) = absurd cc
first_statement token.Super e order means (by_part table.one_more_statement (by_part table.of_local (by_part table.of_bare (by_part table.of_type (by_class is f))))) = absurd cc
first_statement token.This e order means (by_part table.one_more_statement (by_part table.of_local (by_part table.of_initialized (by_part table.of_type (by_class is f))))) = absurd cc
first_statement token.Super e order means (by_part table.one_more_statement (by_part table.of_local (by_part table.of_initialized (by_part table.of_type (by_class is f))))) = absurd cc
first_statement token.This e order means (by_part table.one_more_statement (by_part table.of_final_local f)) = elim f [ ]
first_statement token.Super e order means (by_part table.one_more_statement (by_part table.of_final_local f)) = elim f [ ]
first_statement _ e order means f = statements_takes e order means f

pub first_call_takes : {limit depth : ℕ} {whole closed : Bool} {fs : Frames} {stack : Stack} {k : TokenKind} {ks : List TokenKind} {ss : List Symbol} (room : ℕ) →
    depth + room ≡ limit → Orderly fs → Means limit closed fs stack → Within frame.FirstCall ss → Follows whole (in_room room ss ++ stack) (k ∷ ks) →
    Takes limit whole depth fs ks (machine.first_call k)
first_call_takes {k = k} room e order means meaning.first_call (by_part table.no_first_call f) = first_statement k e order means f
first_call_takes room e order means meaning.first_call (by_part table.of_this_call (by_token f)) =
    takes_it (omega (arith, e)) (tt, order) (a_frame e (meaning.within meaning.this_called) means) f
first_call_takes room e order means meaning.first_call (by_part table.of_super_first_call (by_token f)) =
    takes_it (omega (arith, e)) (tt, order) (a_frame e (meaning.within meaning.super_called) means) f
