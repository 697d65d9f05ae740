-- The frames of statements in a block, and of variables: nothing right is refused.
use Rattle.std.proofs.Common.{◌≡◌, ℕ, ◌+◌, Bool, true, false, List, [], ◌∷◌, ◌++◌, sym, subst, append_assoc, arith}
use Rattle.jsh_tree.specs.declared.token.TokenKind.{TokenKind}
use Rattle.jsh_tree.specs.declared.token.TokenKind.TheVariants as token
use Rattle.jsh_grammar.specs.Classes.{is_type_name, is_case_value}
use Rattle.jsh_grammar.specs.Productions.{Part, Symbol, a, any, part, deep, IsProduction}
use Rattle.jsh_grammar.specs.Productions as table
use Rattle.jsh_grammar.specs.Leads.{in_room}
use Rattle.jsh_recognizer.specs.declared.frame.Context.TheVariants as context
use Rattle.jsh_recognizer.specs.declared.frame.Ending.TheVariants as ending
use Rattle.jsh_recognizer.specs.declared.frame.Frame.{Frame}
use Rattle.jsh_recognizer.specs.declared.frame.Frame.TheVariants as frame
use Rattle.jsh_recognizer.specs.Machine.{Move, takes, passes, refuses, inside, goes, Frames, onto, move_of}
use Rattle.jsh_recognizer.specs.Machine as machine
use Rattle.jsh_recognizer.specs.Meanings as meaning
use Rattle.jsh_recognizer.specs.Meanings.{Stack, Follows, so_far, all_read, by_token, by_class, by_part, by_deep, statement_part, IsPartOf, Within, Paths, Own, Means, a_frame, a_deep_frame}
use Rattle.jsh_recognizer.proofs.TakesOrder.{Orderly, BehindStatement}
use Rattle.jsh_recognizer.proofs.TakesOrder as behind
use Rattle.jsh_recognizer.proofs.TakesStep.{Takes, ahead}
use Rattle.jsh_recognizer.proofs.TakesPlaced.{takes_it, takes_within}
use Rattle.jsh_recognizer.proofs.TakesPath.{effect_named}
use Rattle.jsh_recognizer.proofs.TakesStatements.{statement_takes, expression_before}

-- ---- types

-- the name of a type, by its kinds
pub data TypeName : TokenKind → Type 0 where
  an_identifier : TypeName token.Identifier
  an_int : TypeName token.Int
  a_long : TypeName token.Long
  a_char : TypeName token.Char
  a_boolean : TypeName token.Boolean

-- each name of a type is of one of these kinds
pub type_name : (k : TokenKind) → is_type_name k ≡ true → TypeName k
type_name token.Identifier is = an_identifier
type_name token.Int is = an_int
type_name token.Long is = a_long
type_name token.Char is = a_char
type_name token.Boolean is = a_boolean
type_name _ is = absurd cc

-- A type: its name, which is one of five kinds, and then its brackets.
pub by_type : {limit depth room : ℕ} {whole : Bool} {fs : Frames} {stack : Stack} {k : TokenKind} {ks : List TokenKind} (m : TokenKind → Move) →
    Follows whole ((room, part table.type_use) ∷ stack) (k ∷ ks) →
    (Follows whole ((room, part table.brackets) ∷ stack) ks → Takes limit whole depth fs ks (m token.Identifier)) →
    (Follows whole ((room, part table.brackets) ∷ stack) ks → Takes limit whole depth fs ks (m token.Int)) →
    (Follows whole ((room, part table.brackets) ∷ stack) ks → Takes limit whole depth fs ks (m token.Long)) →
    (Follows whole ((room, part table.brackets) ∷ stack) ks → Takes limit whole depth fs ks (m token.Char)) →
    (Follows whole ((room, part table.brackets) ∷ stack) ks → Takes limit whole depth fs ks (m token.Boolean)) → Takes limit whole depth fs ks (m k)
by_type {limit = limit} {depth = depth} {whole = whole} {fs = fs} {k = k} {ks = ks} m (by_part table.of_type (by_class is f)) named int long char boolean =
    at (type_name k is)
  where
    at : {j : TokenKind} → TypeName j → Takes limit whole depth fs ks (m j)
    at an_identifier = named f
    at an_int = int f
    at a_long = long f
    at a_char = char f
    at a_boolean = boolean f

-- Frames behind a type and a name.
pub typed_takes : {limit depth room : ℕ} {closed whole : Bool} {fs : Frames} {ss : List Symbol} {stack : Stack} {ks : List TokenKind} (f : Frame) →
    depth + room ≡ limit → behind.Fits f fs → Orderly fs → Means limit closed fs stack → Within f ss →
    Follows whole ((room, part table.brackets) ∷ (room, a token.Identifier) ∷ (in_room room ss ++ stack)) ks →
    Takes limit whole depth fs ks (goes (machine.named_by (f ∷ [])))
typed_takes f e fits order means w follows =
    takes_it (omega (arith, e)) (behind.before_name, (tt, (fits, order)))
    (a_frame e (meaning.within meaning.some_brackets) (a_frame e meaning.expected (a_frame e (meaning.within w) means))) follows

-- the same where one more frame stands behind
pub typed_takes_before : {limit depth room : ℕ} {closed whole : Bool} {fs : Frames} {ss : List Symbol} {stack : Stack} {ks : List TokenKind} (f g : Frame) →
    depth + room ≡ limit → behind.Fits f ((depth, g) ∷ fs) → behind.Fits g fs → Orderly fs → Means limit closed ((depth, g) ∷ fs) stack → Within f ss →
    Follows whole ((room, part table.brackets) ∷ (room, a token.Identifier) ∷ (in_room room ss ++ stack)) ks →
    Takes limit whole depth fs ks (goes (machine.named_by (f ∷ g ∷ [])))
typed_takes_before f g e fits fits2 order means w follows =
    takes_it (omega (arith, e)) (behind.before_name, (tt, (fits, (fits2, order))))
    (a_frame e (meaning.within meaning.some_brackets) (a_frame e meaning.expected (a_frame e (meaning.within w) means))) follows

-- ---- variables

-- a variable behind `final`
pub variable_takes : {limit depth room : ℕ} {whole closed : Bool} {fs : Frames} {stack : Stack} {k : TokenKind} {ks : List TokenKind} →
    depth + room ≡ limit → behind.Closes fs → Orderly fs → Means limit closed fs stack → Follows whole ((room, part table.variable) ∷ stack) (k ∷ ks) →
    Takes limit whole depth fs ks (machine.variable k)
variable_takes e b order means (by_part table.of_inferred (by_token f)) =
    takes_it (omega (arith, e)) (tt, (tt, (b, order)))
    (a_frame e meaning.expected (a_frame e meaning.expected (a_frame e (meaning.a_part meaning.an_expression) means))) f
variable_takes e b order means (by_part table.of_bare f) =
    let typed = typed_takes frame.Initialized e b order means meaning.not_initialized in by_type machine.variable f typed typed typed typed typed
variable_takes e b order means (by_part table.of_initialized f) =
    let typed = typed_takes frame.Initialized e b order means meaning.initialized in by_type machine.variable f typed typed typed typed typed

-- ---- statements of a block

-- a statement that begins with a name is an expression
pub statement_named : {room : ℕ} {whole : Bool} {stack : Stack} {ks : List TokenKind} → Follows whole ((room, part table.statement) ∷ stack) (token.Identifier ∷ ks) →
    (own : Stack) × Paths room context.Effect ending.Name own × Follows whole (own ++ (room, a token.Semicolon) ∷ stack) ks
statement_named (by_part table.of_closed (by_part table.of_expression f)) = effect_named f
statement_named (by_part table.of_closed (by_part table.of_block (by_deep table.of_statements f))) = elim f [ ]
statement_named (by_part table.of_closed (by_part table.of_closed_if_else f)) = elim f [ ]
statement_named (by_part table.of_closed (by_part table.of_closed_while f)) = elim f [ ]
statement_named (by_part table.of_closed (by_part table.of_do f)) = elim f [ ]
statement_named (by_part table.of_closed (by_part table.of_closed_for f)) = elim f [ ]
statement_named (by_part table.of_closed (by_part table.of_closed_for_each f)) = elim f [ ]
statement_named (by_part table.of_closed (by_part table.of_switch f)) = elim f [ ]
statement_named (by_part table.of_closed (by_part table.of_break f)) = elim f [ ]
statement_named (by_part table.of_closed (by_part table.of_continue f)) = elim f [ ]
statement_named (by_part table.of_closed (by_part table.of_return f)) = elim f [ ]
statement_named (by_part table.of_closed (by_part table.of_throw f)) = elim f [ ]
statement_named (by_part table.of_closed (by_part table.of_try f)) = elim f [ ]
statement_named (by_part table.of_closed (by_part table.of_nothing f)) = elim f [ ]
statement_named (by_part table.of_if f) = elim f [ ]
statement_named (by_part table.of_if_else f) = elim f [ ]
statement_named (by_part table.of_while f) = elim f [ ]
statement_named (by_part table.of_for f) = elim f [ ]
statement_named (by_part table.of_for_each f) = elim f [ ]

-- a statement, which may begin with a name
some_statement : {limit depth room : ℕ} {whole : Bool} {fs : Frames} {stack : Stack} {ks : List TokenKind} (k : TokenKind) →
    depth + room ≡ limit → BehindStatement fs → Orderly fs → Means limit false fs stack → Follows whole ((room, part table.statement) ∷ stack) (k ∷ ks) →
    Takes limit whole depth fs ks (machine.block_statement k)
some_statement {room = room} {whole = whole} {stack = stack} {ks = ks} token.Identifier e b order means f =
    let h = statement_named f in
    takes_it (omega (arith, e)) (tt, order)
    (a_frame e (meaning.named_effect meaning.by_semicolon h.1) means)
    (subst (λ x. Follows whole x ks) (sym (append_assoc h.0 ((room, a token.Semicolon) ∷ []) stack)) h.2)
some_statement token.Final e b order means f = elim (statement_takes e b order means f) [ ]
some_statement token.Var e b order means f = elim (statement_takes e b order means f) [ ]
some_statement token.Int e b order means f = elim (statement_takes e b order means f) [ ]
some_statement token.Long e b order means f = elim (statement_takes e b order means f) [ ]
some_statement token.Char e b order means f = elim (statement_takes e b order means f) [ ]
some_statement token.Boolean e b order means f = elim (statement_takes e b order means f) [ ]
some_statement _ e b order means f = statement_takes e b order means f

-- a statement of a block, behind which more of them stand
pub block_statement_takes : {limit depth room : ℕ} {whole : Bool} {fs : Frames} {stack : Stack} {k : TokenKind} {ks : List TokenKind} →
    depth + room ≡ limit → BehindStatement fs → Orderly fs → Means limit false fs stack → Follows whole ((room, part table.block_statement) ∷ stack) (k ∷ ks) →
    Takes limit whole depth fs ks (machine.block_statement k)
block_statement_takes e b order means (by_part table.of_local (by_part table.of_inferred (by_token f))) =
    takes_it (omega (arith, e)) (tt, (tt, (behind.closes_statement, (tt, order))))
    (a_frame e meaning.expected (a_frame e meaning.expected (a_frame e (meaning.a_part meaning.an_expression) (a_frame e meaning.expected means)))) f
block_statement_takes e b order means (by_part table.of_local (by_part table.of_bare f)) =
    let typed = typed_takes_before frame.Initialized (frame.Expect token.Semicolon) e behind.closes_statement tt order (a_frame e meaning.expected means) meaning.not_initialized in
    by_type machine.block_statement f
    (λ g. takes_it (omega (arith, e)) (tt, order) (a_frame e (meaning.named_type meaning.bare_local) means) g) typed typed typed typed
block_statement_takes e b order means (by_part table.of_local (by_part table.of_initialized f)) =
    let typed = typed_takes_before frame.Initialized (frame.Expect token.Semicolon) e behind.closes_statement tt order (a_frame e meaning.expected means) meaning.initialized in
    by_type machine.block_statement f
    (λ g. takes_it (omega (arith, e)) (tt, order) (a_frame e (meaning.named_type meaning.initialized_local) means) g) typed typed typed typed
block_statement_takes e b order means (by_part table.of_final_local (by_token f)) =
    takes_it (omega (arith, e)) (behind.closes_statement, (tt, order)) (a_frame e (meaning.a_part meaning.a_variable) (a_frame e meaning.expected means)) f
block_statement_takes {k = k} e b order means (by_part table.of_statement f) = some_statement k e b order means f

-- a statement of a block, or a closing brace: the token begins it
block_begun : {limit : ℕ} {whole : Bool} {depth : ℕ} {fs : Frames} {ks : List TokenKind} (k : TokenKind) →
    Takes limit whole depth fs ks (inside 0 ((0, frame.Statements) ∷ []) (machine.block_statement k)) →
    Takes limit whole depth fs ks (machine.statements k)
block_begun token.RightBrace t = elim t [ ]
block_begun _ t = t

-- the statements of a block
pub statements_takes : {limit depth room : ℕ} {whole closed : Bool} {fs : Frames} {stack : Stack} {k : TokenKind} {ks : List TokenKind} →
    depth + room ≡ limit → Orderly fs → Means limit closed fs stack → Follows whole ((room, part table.statements) ∷ (room, a token.RightBrace) ∷ stack) (k ∷ ks) →
    Takes limit whole depth fs ks (machine.statements k)
statements_takes e order means (by_part table.no_statements (by_token f)) = takes_it (omega (arith, e)) order means f
statements_takes {k = k} e order means (by_part table.one_more_statement f) =
    block_begun k (takes_within 0 ((0, frame.Statements) ∷ [])
    (block_statement_takes e behind.before_statements (tt, order) (a_frame e (meaning.within meaning.statements) means) f))

-- ---- `switch`

-- the braces of a `switch`
pub switch_takes : {limit depth room : ℕ} {whole closed : Bool} {fs : Frames} {stack : Stack} {k : TokenKind} {ks : List TokenKind} →
    depth + room ≡ limit → Orderly fs → Means limit closed fs stack → Follows whole ((room, part table.switch_block) ∷ stack) (k ∷ ks) →
    Takes limit whole depth fs ks (machine.switch_block k)
switch_takes e order means (by_part table.of_groups (by_token f)) = takes_it (omega (arith, e)) (tt, order) (a_frame e (meaning.within meaning.groups) means) f

-- A label, and behind it what a group goes on with: the label's first token.
label_takes : {limit depth room : ℕ} {whole closed : Bool} {fs : Frames} {stack x : Stack} {k : TokenKind} {ks : List TokenKind} → depth + room ≡ limit →
    Orderly fs → Means limit closed fs stack →
    ((r : List TokenKind) → Follows whole x r → Follows whole ((room, part table.statements) ∷ (room, part table.groups) ∷ (room, a token.RightBrace) ∷ stack) r) →
    Follows whole ((room, part table.label) ∷ x) (k ∷ ks) → Takes limit whole depth fs ks (machine.groups k)
label_takes {room = room} {stack = stack} {x = x} e order means to (by_part table.of_case (by_token f)) =
    takes_it (omega (arith, e)) (tt, (tt, order)) (a_frame e (meaning.within meaning.positive_value) (a_frame e (meaning.within meaning.group) means))
    (ahead ((room, any is_case_value) ∷ (room, a token.Colon) ∷ []) x
    ((room, part table.statements) ∷ (room, part table.groups) ∷ (room, a token.RightBrace) ∷ stack) to f)
label_takes {room = room} {stack = stack} {x = x} e order means to (by_part table.of_negative_case (by_token f)) =
    takes_it (omega (arith, e)) (tt, (tt, order)) (a_frame e (meaning.within meaning.negative_case) (a_frame e (meaning.within meaning.group) means))
    (ahead ((room, a token.Minus) ∷ (room, any is_case_value) ∷ (room, a token.Colon) ∷ []) x
    ((room, part table.statements) ∷ (room, part table.groups) ∷ (room, a token.RightBrace) ∷ stack) to f)
label_takes {room = room} {stack = stack} {x = x} e order means to (by_part table.of_default (by_token f)) =
    takes_it (omega (arith, e)) (tt, (tt, order)) (a_frame e meaning.expected (a_frame e (meaning.within meaning.group) means))
    (ahead ((room, a token.Colon) ∷ []) x
    ((room, part table.statements) ∷ (room, part table.groups) ∷ (room, a token.RightBrace) ∷ stack) to f)

-- what begins a group's label, or a closing brace
pub groups_takes : {limit depth room : ℕ} {whole closed : Bool} {fs : Frames} {stack : Stack} {k : TokenKind} {ks : List TokenKind} →
    depth + room ≡ limit → Orderly fs → Means limit closed fs stack → Follows whole ((room, part table.groups) ∷ (room, a token.RightBrace) ∷ stack) (k ∷ ks) →
    Takes limit whole depth fs ks (machine.groups k)
groups_takes e order means (by_part table.no_groups (by_token f)) = takes_it (omega (arith, e)) order means f
groups_takes e order means (by_part table.last_group (by_part table.last_label f)) =
    label_takes e order means (λ r g. by_part table.no_statements (by_part table.no_groups g)) f
groups_takes e order means (by_part table.last_group (by_part table.one_more_label f)) =
    label_takes e order means (λ r g. by_part table.no_statements (by_part table.last_group g)) f
groups_takes e order means (by_part table.one_more_group (by_part table.last_label f)) = label_takes e order means (λ r g. by_part table.one_more_statement g) f
groups_takes e order means (by_part table.one_more_group (by_part table.one_more_label f)) =
    label_takes e order means (λ r g. by_part table.no_statements (by_part table.one_more_group g)) f

-- what begins a label does so too behind a group's statements
group_as : {limit : ℕ} {whole : Bool} {depth : ℕ} {fs : Frames} {ks : List TokenKind} (k : TokenKind) →
    Takes limit whole depth fs ks (machine.groups k) → Takes limit whole depth fs ks (machine.group k)
group_as token.RightBrace t = t
group_as token.Case t = t
group_as token.Default t = t
group_as _ t = elim t [ ]

-- what begins a statement begins no label
group_begun : {limit : ℕ} {whole : Bool} {depth : ℕ} {fs : Frames} {ks : List TokenKind} (k : TokenKind) →
    Takes limit whole depth fs ks (inside 0 ((0, frame.Group) ∷ []) (machine.block_statement k)) → Takes limit whole depth fs ks (machine.group k)
group_begun token.RightBrace t = elim t [ ]
group_begun token.Case t = elim t [ ]
group_begun token.Default t = elim t [ ]
group_begun _ t = t

-- behind a label or a statement of a group
pub group_takes : {limit depth room : ℕ} {whole closed : Bool} {fs : Frames} {stack : Stack} {k : TokenKind} {ks : List TokenKind} →
    depth + room ≡ limit → Orderly fs → Means limit closed fs stack → Follows whole ((room, part table.statements) ∷ (room, part table.groups) ∷ (room, a token.RightBrace) ∷ stack) (k ∷ ks) →
    Takes limit whole depth fs ks (machine.group k)
group_takes {k = k} e order means (by_part table.no_statements f) = group_as k (groups_takes e order means f)
group_takes {k = k} e order means (by_part table.one_more_statement f) =
    group_begun k (takes_within 0 ((0, frame.Group) ∷ [])
    (block_statement_takes e behind.before_group (tt, order) (a_frame e (meaning.within meaning.group) means) f))

-- the value of a `case` is one of two kinds
case_value : {limit : ℕ} {whole : Bool} {depth : ℕ} {fs : Frames} {ks : List TokenKind} (k : TokenKind) → is_case_value k ≡ true →
    Takes limit whole depth fs ks (goes (frame.Expect token.Colon ∷ [])) → Takes limit whole depth fs ks (machine.negative_value k)
case_value token.IntLiteral is t = t
case_value token.CharLiteral is t = t
case_value _ is t = absurd cc

-- and is no sign
case_unsigned : {limit : ℕ} {whole : Bool} {depth : ℕ} {fs : Frames} {ks : List TokenKind} (k : TokenKind) →
    Takes limit whole depth fs ks (machine.negative_value k) → Takes limit whole depth fs ks (machine.case_value k)
case_unsigned token.Minus t = elim t [ ]
case_unsigned _ t = t

pub negative_value_takes : {limit depth room : ℕ} {whole closed : Bool} {fs : Frames} {stack : Stack} {k : TokenKind} {ks : List TokenKind} →
    depth + room ≡ limit → Orderly fs → Means limit closed fs stack → Follows whole ((room, any is_case_value) ∷ (room, a token.Colon) ∷ stack) (k ∷ ks) →
    Takes limit whole depth fs ks (machine.negative_value k)
negative_value_takes {k = k} e order means (by_class is f) = case_value k is (takes_it (omega (arith, e)) (tt, order) (a_frame e meaning.expected means) f)

pub case_value_takes : {limit depth : ℕ} {whole closed : Bool} {fs : Frames} {stack : Stack} {k : TokenKind} {ks : List TokenKind} {ss : List Symbol} (room : ℕ) →
    depth + room ≡ limit → Orderly fs → Means limit closed fs stack → Within frame.CaseValue ss → Follows whole (in_room room ss ++ stack) (k ∷ ks) →
    Takes limit whole depth fs ks (machine.case_value k)
case_value_takes {k = k} room e order means meaning.positive_value f = case_unsigned k (negative_value_takes e order means f)
case_value_takes room e order means meaning.negative_case (by_token f) =
    takes_it (omega (arith, e)) (tt, order) (a_frame e (meaning.within meaning.negative_value) means) f

-- ---- `try`

pub catches_takes : {limit depth room : ℕ} {whole closed : Bool} {fs : Frames} {stack : Stack} {k : TokenKind} {ks : List TokenKind} →
    depth + room ≡ limit → BehindStatement fs → Orderly fs → Means limit closed fs stack → Follows whole ((room, part table.catches) ∷ stack) (k ∷ ks) →
    Takes limit whole depth fs ks (machine.catches k)
catches_takes e b order means (by_part table.last_catch (by_token f)) =
    takes_it (omega (arith, e)) (tt, (tt, (tt, (tt, (tt, (b, order))))))
    (a_frame e meaning.expected (a_frame e (meaning.within meaning.catch_type) (a_frame e meaning.expected (a_frame e meaning.expected
    (a_deep_frame e meaning.a_block (a_frame e (meaning.within meaning.no_more_catches) means)))))) f
catches_takes e b order means (by_part table.last_final_catch (by_token f)) =
    takes_it (omega (arith, e)) (tt, (tt, (tt, (tt, (tt, (b, order))))))
    (a_frame e meaning.expected (a_frame e (meaning.within meaning.final_catch_type) (a_frame e meaning.expected (a_frame e meaning.expected
    (a_deep_frame e meaning.a_block (a_frame e (meaning.within meaning.no_more_catches) means)))))) f
catches_takes e b order means (by_part table.one_more_catch (by_token f)) =
    takes_it (omega (arith, e)) (tt, (tt, (tt, (tt, (tt, (b, order))))))
    (a_frame e meaning.expected (a_frame e (meaning.within meaning.catch_type) (a_frame e meaning.expected (a_frame e meaning.expected
    (a_deep_frame e meaning.a_block (a_frame e (meaning.within meaning.more_catches) means)))))) f
catches_takes e b order means (by_part table.one_more_final_catch (by_token f)) =
    takes_it (omega (arith, e)) (tt, (tt, (tt, (tt, (tt, (b, order))))))
    (a_frame e meaning.expected (a_frame e (meaning.within meaning.final_catch_type) (a_frame e meaning.expected (a_frame e meaning.expected
    (a_deep_frame e meaning.a_block (a_frame e (meaning.within meaning.more_catches) means)))))) f

pub catch_type_takes : {limit depth : ℕ} {whole closed : Bool} {fs : Frames} {stack : Stack} {k : TokenKind} {ks : List TokenKind} {ss : List Symbol} (room : ℕ) →
    depth + room ≡ limit → Orderly fs → Means limit closed fs stack → Within frame.CatchType ss → Follows whole (in_room room ss ++ stack) (k ∷ ks) →
    Takes limit whole depth fs ks (machine.catch_type k)
catch_type_takes room e order means meaning.catch_type (by_token f) = takes_it (omega (arith, e)) order means f
catch_type_takes room e order means meaning.final_catch_type (by_token f) = takes_it (omega (arith, e)) (tt, order) (a_frame e meaning.expected means) f

-- ---- `return`

returned_begun : {limit : ℕ} {whole : Bool} {depth : ℕ} {fs : Frames} {ks : List TokenKind} (k : TokenKind) →
    Takes limit whole depth fs ks (inside 0 ((0, frame.Expect token.Semicolon) ∷ []) (machine.begins context.Expression k)) →
    Takes limit whole depth fs ks (machine.returned k)
returned_begun token.Semicolon t = elim t [ ]
returned_begun _ t = t

pub returned_takes : {limit depth room : ℕ} {whole closed : Bool} {fs : Frames} {stack : Stack} {k : TokenKind} {ks : List TokenKind} →
    depth + room ≡ limit → Orderly fs → Means limit closed fs stack → Follows whole ((room, part table.optional) ∷ (room, a token.Semicolon) ∷ stack) (k ∷ ks) →
    Takes limit whole depth fs ks (machine.returned k)
returned_takes e order means (by_part table.not_there (by_token f)) = takes_it (omega (arith, e)) order means f
returned_takes {k = k} e order means (by_part table.there f) =
    returned_begun k (expression_before ((0, frame.Expect token.Semicolon) ∷ []) e behind.closes_statement (tt, order) (a_frame e meaning.expected means) f)
