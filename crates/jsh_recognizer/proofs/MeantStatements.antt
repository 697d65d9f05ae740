-- The moves of the frames of statements are right.
use Rattle.std.proofs.Common.{◌≡◌, ℕ, ◌+◌, Bool, true, false, if◌then◌else◌, List, [], ◌∷◌, ◌++◌, refl, subst, arith}
use Rattle.jsh_tree.specs.declared.token.TokenKind.{TokenKind}
use Rattle.jsh_tree.specs.declared.token.TokenKind.TheVariants as token
use Rattle.jsh_grammar.specs.Classes.{is_primitive, is_case_value}
use Rattle.jsh_grammar.specs.Productions.{Symbol, a, any, part, deep, IsProduction}
use Rattle.jsh_grammar.specs.Productions as table
use Rattle.jsh_grammar.specs.Leads.{in_room}
use Rattle.jsh_recognizer.specs.declared.frame.Context.{Context}
use Rattle.jsh_recognizer.specs.declared.frame.Context.TheVariants as context
use Rattle.jsh_recognizer.specs.declared.frame.Ending.TheVariants as ending
use Rattle.jsh_recognizer.specs.declared.frame.Frame.{Frame}
use Rattle.jsh_recognizer.specs.declared.frame.Frame.TheVariants as frame
use Rattle.jsh_recognizer.specs.Machine.{Frames, Move, passes, refuses, inside, goes, begins, behind_path, named_by, statement, condition, else_branch, block, variable, initialized, statements, named, named_pair, returned, for_head, for_start, for_variable, for_inferred, for_typed, for_named, for_pair, for_condition, for_update, switch_block, groups, group, case_value, negative_value, catches, more_catches, catch_type}
use Rattle.jsh_recognizer.specs.Meanings as meant
use Rattle.jsh_recognizer.specs.Meanings.{Stack, Follows, for_rest, so_far, by_token, by_class, by_part, by_deep, Own, Paths, More, Means, nothing, a_frame, a_deep_frame, a_statement, a_deep_statement, no_else, an_else, statement_part}
use Rattle.jsh_recognizer.proofs.MeantStep.{reads_equal, deep_to_part, appended_assoc, appended_nothing}
use Rattle.jsh_recognizer.proofs.MeantOwn.{path_own}
use Rattle.jsh_recognizer.proofs.MeantViews.{primitive_named}
use Rattle.jsh_recognizer.proofs.MeantOperands.{name_reads, of_effect}
use Rattle.jsh_recognizer.proofs.MeantMoves.{as_own, as_statement, as_none, as_else, Right, taken_flat, taken_deeper, takes_right, inside_flat, inside_deeper}
use Rattle.jsh_recognizer.proofs.MeantInner.{effect_takes, expression_takes, path_takes}

-- a move that depends on a class
pub choose : (T : Move → Type 0) (b : Bool) (x y : Move) → (b ≡ true → T x) → T y → T (if b then x else y)
choose T true x y so other = so refl
choose T false x y so other = other

-- a closed statement is a statement
closing : {room : ℕ} {rest : Stack} {whole : Bool} {ks : List TokenKind} (closed : Bool) → Follows whole ((room, part table.closed_statement) ∷ rest) ks →
    Follows whole ((room, part (statement_part closed)) ∷ rest) ks
closing true f = f
closing false f = by_part table.of_closed f

statement_other : {limit : ℕ} (depth room : ℕ) → depth + room ≡ limit → (k : TokenKind) →
    Right limit depth room frame.Statement k (inside 0 ((0, frame.Expect token.Semicolon) ∷ []) (begins context.Effect k))
statement_other depth room fits k =
    inside_flat depth room _ _ fits frame.Effect _ (begins context.Effect k) (effect_takes _ (depth + 0) room (omega (arith, fits)) k) refl refl
    (λ c. (_, as_statement, λ _ _ _ f. closing c (by_part table.of_expression f)))

while_reads : {room : ℕ} {rest : Stack} {whole : Bool} {ks : List TokenKind} (closed : Bool) →
    Follows whole ((room, deep table.parenthesized) ∷ (room, deep (statement_part closed)) ∷ rest) ks →
    Follows whole ((room, part (statement_part closed)) ∷ rest) (token.While ∷ ks)
while_reads true f = by_part table.of_closed_while (by_token f)
while_reads false f = by_part table.of_while (by_token f)

else_reads : {room : ℕ} {rest : Stack} {whole : Bool} {ks : List TokenKind} (closed : Bool) →
    Follows whole ((room, deep table.parenthesized) ∷ (room, deep table.closed_statement) ∷ (room, a token.Else)
    ∷ (room, deep (statement_part closed)) ∷ rest) ks →
    Follows whole ((room, part (statement_part closed)) ∷ rest) (token.If ∷ ks)
else_reads true f = by_part table.of_closed_if_else (by_token f)
else_reads false f = by_part table.of_if_else (by_token f)

for_reads : {room : ℕ} {rest : Stack} {whole : Bool} {ks : List TokenKind} (closed : Bool) →
    Follows whole ((room, deep table.for_head) ∷ (room, deep (statement_part closed)) ∷ rest) ks →
    Follows whole ((room, part (statement_part closed)) ∷ rest) (token.For ∷ ks)
for_reads true f = by_part table.of_closed_for (by_token f)
for_reads false f = by_part table.of_for (by_token f)

each_reads : {room : ℕ} {rest : Stack} {whole : Bool} {ks : List TokenKind} (closed : Bool) →
    Follows whole ((room, deep table.each_head) ∷ (room, deep (statement_part closed)) ∷ rest) ks →
    Follows whole ((room, part (statement_part closed)) ∷ rest) (token.For ∷ ks)
each_reads true f = by_part table.of_closed_for_each (by_token f)
each_reads false f = by_part table.of_for_each (by_token f)

pub statement_right : {limit : ℕ} (depth room : ℕ) → depth + room ≡ limit → (k : TokenKind) → Right limit depth room frame.Statement k (statement k)
statement_right depth room fits token.LeftBrace = taken_deeper depth room _ _ fits _ refl refl
    (λ r c. (_, as_statement, λ _ _ _ f. closing c (by_part table.of_block (by_deep table.of_statements (by_token f)))))
statement_right depth room fits token.Semicolon = taken_flat depth room _ _ fits _ refl refl
    (λ c. (_, as_statement, λ _ _ _ f. closing c (by_part table.of_nothing (by_token f))))
statement_right depth room fits token.If = taken_flat depth room _ _ fits _ refl refl
    ((_, as_statement, λ _ _ _ f. by_part table.of_if (by_token f)), λ c. (_, as_statement, λ _ _ _ f. else_reads c f))
statement_right depth room fits token.While = taken_flat depth room _ _ fits _ refl refl
    (λ c. (_, as_statement, λ _ _ _ f. while_reads c f))
statement_right depth room fits token.Do = taken_flat depth room _ _ fits _ refl refl
    (λ c. (_, as_statement, λ _ _ _ f. closing c (by_part table.of_do (by_token f))))
statement_right depth room fits token.For = taken_flat depth room _ _ fits _ refl refl
    (λ c. (_, as_statement, λ _ _ _ f. for_reads c f), λ c. (_, as_statement, λ _ _ _ f. each_reads c f))
statement_right depth room fits token.Switch = taken_flat depth room _ _ fits _ refl refl
    (λ c. (_, as_statement, λ _ _ _ f. closing c (by_part table.of_switch (by_token f))))
statement_right depth room fits token.Break = taken_flat depth room _ _ fits _ refl refl
    (λ c. (_, as_statement, λ _ _ _ f. closing c (by_part table.of_break (by_token f))))
statement_right depth room fits token.Continue = taken_flat depth room _ _ fits _ refl refl
    (λ c. (_, as_statement, λ _ _ _ f. closing c (by_part table.of_continue (by_token f))))
statement_right depth room fits token.Return = taken_flat depth room _ _ fits _ refl refl
    (λ c. (_, as_statement, λ _ _ _ f. closing c (by_part table.of_return (by_token f))))
statement_right depth room fits token.Throw = taken_flat depth room _ _ fits _ refl refl
    (λ c. (_, as_statement, λ _ _ _ f. closing c (by_part table.of_throw (by_token f))))
statement_right depth room fits token.Try = taken_flat depth room _ _ fits _ refl refl
    (λ c. (_, as_statement, λ _ _ _ f. closing c (by_part table.of_try (by_token f))))
statement_right depth room fits k = statement_other depth room fits k

pub condition_right : {limit : ℕ} (depth room : ℕ) → depth + room ≡ limit → (k : TokenKind) → Right limit depth room frame.Condition k (condition k)
condition_right depth room fits token.LeftParen = taken_flat depth room _ _ fits _ refl refl
    (λ c. (_, as_own (meant.a_part meant.a_condition), λ _ _ _ f. by_part table.in_parentheses (by_token f)))
condition_right depth room fits _ = tt

-- no statement in front has to be closed where no `else` comes
pub not_closed : {limit : ℕ} {closed whole : Bool} {fs : Frames} {stack : Stack} {k : TokenKind} {ks : List TokenKind} → (k ≡ token.Else → ⊥) →
    Means limit closed fs stack →
    Follows whole stack (k ∷ ks) → closed ≡ false
not_closed other nothing follows = refl
not_closed other (a_frame stands is means) follows = refl
not_closed other (a_deep_frame stands is means) follows = refl
not_closed other (a_statement stands means) follows = refl
not_closed other (a_deep_statement stands means) follows = refl
not_closed other (no_else means) follows = refl
not_closed other (an_else stands means) (by_token follows) = absurd (other refl)

not_else : {limit : ℕ} (depth room : ℕ) (k : TokenKind) → (k ≡ token.Else → ⊥) → Right limit depth room frame.Else k passes
not_else {limit = limit} depth room k other fs closed stack whole ks means follows =
    (false, [], stack, as_none, subst (λ x. Means limit x fs stack) (not_closed other means follows) means, follows)

pub else_right : {limit : ℕ} (depth room : ℕ) → depth + room ≡ limit → (k : TokenKind) → Right limit depth room frame.Else k (else_branch k)
else_right depth room fits token.Else = taken_flat depth room _ _ fits _ refl refl
    (λ c. (_, as_else, λ _ _ _ f. by_token f))
else_right depth room fits k = not_else depth room k (λ e. absurd cc)

pub block_right : {limit : ℕ} (depth room : ℕ) → depth + room ≡ limit → (k : TokenKind) → Right limit depth room frame.Block k (block k)
block_right depth room fits token.LeftBrace = taken_flat depth room _ _ fits _ refl refl
    (λ c. (_, as_own (meant.a_part meant.a_block), λ _ _ _ f. by_part table.of_statements (by_token f)))
block_right depth room fits _ = tt

-- behind a place
pub place_more : {room : ℕ} {c : Context} {own : Stack} → Paths room c ending.Place own → More room c ending.Place own
place_more (meant.as_it_ends m) = m

variable_other : {limit : ℕ} (depth room : ℕ) → depth + room ≡ limit → (k : TokenKind) →
    Right limit depth room frame.Variable k (if is_primitive k then goes (named_by (frame.Initialized ∷ [])) else refuses)
variable_other {limit = limit} depth room fits k = choose (Right limit depth room frame.Variable k) (is_primitive k) _ refuses
    (λ is. taken_flat depth room _ _ fits _ refl refl (λ c. (
      (
        _,
        as_own (meant.a_part meant.a_variable),
        λ _ _ _ f.
            by_part table.of_bare (by_part table.of_type (by_class (primitive_named k is) f)),
      ),
      (
        _,
        as_own (meant.a_part meant.a_variable),
        λ _ _ _ f.
            by_part table.of_initialized (by_part table.of_type (by_class (primitive_named k is) f)),
      ),
    ))) tt

pub variable_right : {limit : ℕ} (depth room : ℕ) → depth + room ≡ limit → (k : TokenKind) → Right limit depth room frame.Variable k (variable k)
variable_right depth room fits token.Var = taken_flat depth room _ _ fits _ refl refl
    (λ c. (_, as_own (meant.a_part meant.a_variable), λ _ _ _ f. by_part table.of_inferred (by_token f)))
variable_right depth room fits token.Identifier = taken_flat depth room _ _ fits _ refl refl
    (λ c. (
      (
        _,
        as_own (meant.a_part meant.a_variable),
        λ _ _ _ f.
            by_part table.of_bare (by_part table.of_type (by_class refl f)),
      ),
      (
        _,
        as_own (meant.a_part meant.a_variable),
        λ _ _ _ f.
            by_part table.of_initialized (by_part table.of_type (by_class refl f)),
      ),
    ))
variable_right depth room fits k = variable_other depth room fits k

pub initialized_right : {limit : ℕ} (depth room : ℕ) → depth + room ≡ limit → (k : TokenKind) → Right limit depth room frame.Initialized k (initialized k)
initialized_right depth room fits token.Assign = taken_flat depth room _ _ fits _ refl refl
    (λ c. (_, as_own (meant.within meant.initialized), λ _ _ _ f. by_token f))
initialized_right depth room fits _ = λ fs closed stack whole ks means follows. (closed, [], stack, as_own (meant.within meant.not_initialized), means, follows)

-- ---- what a name begins, behind it and behind a bracket

-- frames behind a bracket behind a name, and those behind the name
pub data PairOf : Frame → Frame → Type 0 where
  of_local : PairOf frame.NamedPair frame.Named
  of_for : PairOf frame.ForPair frame.ForNamed
  of_snippet : PairOf frame.NamedSnippetPair frame.NamedSnippet

-- what is meant behind the bracket is meant in front of it
abbrev pub Opened : ℕ → Frame → Stack → Type 0
Opened room f own = (goal : Stack) × Own room f goal ×
    ((rest : Stack) (whole : Bool) (ks : List TokenKind) → Follows whole (own ++ rest) ks → Follows whole (goal ++ rest) (token.LeftBracket ∷ ks))

pub pair_opened : {room : ℕ} {g f : Frame} {own : Stack} → PairOf g f → Own room g own → Opened room f own
pair_opened of_local (meant.pair_of_type (meant.paired_local d)) = (_, meant.named_type d, λ _ _ _ f. by_part table.more_brackets (by_token f))
pair_opened of_local (meant.pair_of_index meant.pair_by_semicolon m meant.indexed) = (
  _,
  meant.named_effect meant.by_semicolon (meant.as_it_ends (meant.more_places m)),
  λ _ _ _ f.
      by_part table.of_element (by_deep table.of_index (by_token f)),
)
pair_opened of_local (meant.a_part p) = elim p [ ]
pair_opened of_local (meant.within p) = elim p [ ]
pair_opened of_local (meant.named_type p) = elim p [ ]
pair_opened of_local (meant.named_effect p _) = elim p [ ]
pair_opened of_for (meant.pair_of_type (meant.paired_for d)) = (_, meant.named_type d, λ _ _ _ f. by_part table.more_brackets (by_token f))
pair_opened of_for (meant.pair_of_index meant.pair_in_for m meant.indexed) =
    (_, meant.named_effect meant.in_for (meant.as_it_ends (meant.more_places m)), λ _ _ _ f. by_part table.of_element (by_deep table.of_index (by_token f)))
pair_opened of_for (meant.a_part p) = elim p [ ]
pair_opened of_for (meant.within p) = elim p [ ]
pair_opened of_for (meant.named_type p) = elim p [ ]
pair_opened of_for (meant.named_effect p _) = elim p [ ]
pair_opened of_snippet (meant.pair_of_type (meant.paired_snippet d)) = (_, meant.named_type d, λ _ _ _ f. by_part table.more_brackets (by_token f))
pair_opened of_snippet (meant.pair_of_index meant.pair_by_snippet m meant.indexed) =
    (_, meant.named_effect meant.by_snippet (meant.as_it_ends (meant.more_places m)), λ _ _ _ f. by_part table.of_element (by_deep table.of_index (by_token f)))
pair_opened of_snippet (meant.a_part p) = elim p [ ]
pair_opened of_snippet (meant.within p) = elim p [ ]
pair_opened of_snippet (meant.named_type p) = elim p [ ]
pair_opened of_snippet (meant.named_effect p _) = elim p [ ]

-- a name that begins a statement of a block
block_named : {room : ℕ} {own : Stack} → Own room frame.Named own → (rest : Stack) (whole : Bool) (ks : List TokenKind) → Follows whole (own ++ rest) ks →
    Follows whole ((room, part table.block_statement) ∷ rest) (token.Identifier ∷ ks)
block_named (meant.named_type meant.bare_local) rest whole ks f = by_part table.of_local (by_part table.of_bare (by_part table.of_type (by_class refl f)))
block_named (meant.named_type meant.initialized_local) rest whole ks f =
    by_part table.of_local (by_part table.of_initialized (by_part table.of_type (by_class refl f)))
block_named {room = room} (meant.named_effect {stack = stack} meant.by_semicolon p) rest whole ks f =
    by_part table.of_statement (by_part table.of_closed (by_part table.of_expression
    (name_reads p of_effect ((room, a token.Semicolon) ∷ rest) whole (token.Identifier ∷ ks)
    (by_token (reads_equal (appended_assoc stack ((room, a token.Semicolon) ∷ []) rest) whole ks f)))))
block_named (meant.a_part p) rest whole ks f = elim p [ ]
block_named (meant.within p) rest whole ks f = elim p [ ]
block_named (meant.pair_of_type p) rest whole ks f = elim p [ ]
block_named (meant.pair_of_index p _ _) rest whole ks f = elim p [ ]

statements_statement : {limit : ℕ} (depth room : ℕ) → depth + room ≡ limit → (k : TokenKind) →
    Right limit depth room frame.Statements k (inside 0 ((0, frame.Statements) ∷ []) (statement k))
statements_statement depth room fits k = inside_flat depth room _ _ fits frame.Statement _ (statement k)
    (takes_right (statement k) (statement_right (depth + 0) room (omega (arith, fits)) k)) refl refl
    (λ c. (_, as_own (meant.within meant.statements), λ _ _ _ f. by_part table.one_more_statement (by_part table.of_statement (f))))

statements_other : {limit : ℕ} (depth room : ℕ) → depth + room ≡ limit → (k : TokenKind) → Right limit depth room frame.Statements k
    (inside 0 ((0, frame.Statements) ∷ []) (if is_primitive k then goes (named_by (frame.Initialized ∷ frame.Expect token.Semicolon ∷ [])) else statement k))
statements_other {limit = limit} depth room fits k =
    choose (λ m. Right limit depth room frame.Statements k (inside 0 ((0, frame.Statements) ∷ []) m)) (is_primitive k)
    (goes (named_by (frame.Initialized ∷ frame.Expect token.Semicolon ∷ []))) (statement k)
    (λ is. taken_flat depth room _ _ fits _ refl refl (
      (λ c. (
        _,
        as_own (meant.within meant.statements),
        λ _ _ _ f.
            by_part table.one_more_statement (by_part table.of_local (by_part table.of_bare (by_part table.of_type (by_class (primitive_named k is) f)))),
      )),
      (λ c. (
        _,
        as_own (meant.within meant.statements),
        λ _ _ _ f.
            by_part table.one_more_statement (by_part table.of_local (by_part table.of_initialized
            (by_part table.of_type (by_class (primitive_named k is) f)))),
      )),
    ))
    (statements_statement depth room fits k)

pub statements_right : {limit : ℕ} (depth room : ℕ) → depth + room ≡ limit → (k : TokenKind) → Right limit depth room frame.Statements k (statements k)
statements_right depth room fits token.RightBrace = taken_flat depth room _ _ fits _ refl refl
    (λ c. (_, as_own (meant.within meant.statements), λ _ _ _ f. by_part table.no_statements (by_token f)))
statements_right depth room fits token.Final = taken_flat depth room _ _ fits _ refl refl
    (λ c. (_, as_own (meant.within meant.statements), λ _ _ _ f. by_part table.one_more_statement (by_part table.of_final_local (by_token f))))
statements_right depth room fits token.Identifier = taken_flat depth room _ _ fits _ refl refl
    (λ own is c. (
      _,
      as_own (meant.within meant.statements),
      λ rest whole ks f. by_part table.one_more_statement
          (block_named is _ whole ks (reads_equal (appended_assoc own (in_room room (part table.statements ∷ a token.RightBrace ∷ [])) rest) whole ks f)),
    ))
statements_right depth room fits token.Var = taken_flat depth room _ _ fits _ refl refl
    (λ c. (
      _,
      as_own (meant.within meant.statements),
      λ _ _ _ f.
          by_part table.one_more_statement (by_part table.of_local (by_part table.of_inferred (by_token f))),
    ))
statements_right depth room fits k = statements_other depth room fits k

group_statement : {limit : ℕ} (depth room : ℕ) → depth + room ≡ limit → (k : TokenKind) →
    Right limit depth room frame.Group k (inside 0 ((0, frame.Group) ∷ []) (statement k))
group_statement depth room fits k = inside_flat depth room _ _ fits frame.Statement _ (statement k)
    (takes_right (statement k) (statement_right (depth + 0) room (omega (arith, fits)) k)) refl refl
    (λ c. (_, as_own (meant.within meant.group), λ _ _ _ f. by_part table.one_more_statement (by_part table.of_statement (f))))

group_other : {limit : ℕ} (depth room : ℕ) → depth + room ≡ limit → (k : TokenKind) → Right limit depth room frame.Group k
    (inside 0 ((0, frame.Group) ∷ []) (if is_primitive k then goes (named_by (frame.Initialized ∷ frame.Expect token.Semicolon ∷ [])) else statement k))
group_other {limit = limit} depth room fits k = choose (λ m. Right limit depth room frame.Group k (inside 0 ((0, frame.Group) ∷ []) m)) (is_primitive k)
    (goes (named_by (frame.Initialized ∷ frame.Expect token.Semicolon ∷ []))) (statement k)
    (λ is. taken_flat depth room _ _ fits _ refl refl (
      (λ c. (
        _,
        as_own (meant.within meant.group),
        λ _ _ _ f.
            by_part table.one_more_statement (by_part table.of_local (by_part table.of_bare (by_part table.of_type (by_class (primitive_named k is) f)))),
      )),
      (λ c. (
        _,
        as_own (meant.within meant.group),
        λ _ _ _ f.
            by_part table.one_more_statement (by_part table.of_local (by_part table.of_initialized
            (by_part table.of_type (by_class (primitive_named k is) f)))),
      )),
    ))
    (group_statement depth room fits k)

-- a label in front of statements and groups, which may be none
grouped : {room : ℕ} {rest : Stack} {whole : Bool} {ks r : List TokenKind} (p : List Symbol) → IsProduction table.label p →
    Follows whole ((room, part table.statements) ∷ (room, part table.groups) ∷ rest) r →
    ((y : Stack) → Follows whole y r → Follows whole (in_room room p ++ y) ks) →
    Follows whole ((room, part table.groups) ∷ rest) ks
grouped p is so_far to = by_part table.last_group (by_part table.last_label (by_part is (to _ so_far)))
grouped p is (by_part table.no_statements so_far) to = by_part table.last_group (by_part table.last_label (by_part is (to _ so_far)))
grouped p is (by_part table.no_statements (by_part table.no_groups h)) to = by_part table.last_group (by_part table.last_label (by_part is (to _ h)))
grouped p is (by_part table.no_statements (by_part table.last_group h)) to = by_part table.last_group (by_part table.one_more_label (by_part is (to _ h)))
grouped p is (by_part table.no_statements (by_part table.one_more_group h)) to =
    by_part table.one_more_group (by_part table.one_more_label (by_part is (to _ h)))
grouped p is (by_part table.one_more_statement h) to = by_part table.one_more_group (by_part table.last_label (by_part is (to _ h)))

-- a label with a value, with a negative one, and without one
case_grouped : {room : ℕ} {rest : Stack} {whole : Bool} {ks : List TokenKind} →
    Follows whole (in_room room (any is_case_value ∷ a token.Colon ∷ part table.statements ∷ part table.groups ∷ []) ++ rest) ks →
    Follows whole ((room, part table.groups) ∷ rest) (token.Case ∷ ks)
case_grouped so_far = by_part table.last_group (by_part table.last_label (by_part table.of_case (by_token so_far)))
case_grouped (by_class is so_far) = by_part table.last_group (by_part table.last_label (by_part table.of_case (by_token (by_class is so_far))))
case_grouped (by_class is (by_token f)) = grouped _ table.of_case f (λ y g. by_token (by_class is (by_token g)))

negative_grouped : {room : ℕ} {rest : Stack} {whole : Bool} {ks : List TokenKind} →
    Follows whole (in_room room (a token.Minus ∷ any is_case_value ∷ a token.Colon ∷ part table.statements ∷ part table.groups ∷ []) ++ rest) ks →
    Follows whole ((room, part table.groups) ∷ rest) (token.Case ∷ ks)
negative_grouped so_far = by_part table.last_group (by_part table.last_label (by_part table.of_negative_case (by_token so_far)))
negative_grouped (by_token so_far) = by_part table.last_group (by_part table.last_label (by_part table.of_negative_case (by_token (by_token so_far))))
negative_grouped (by_token (by_class is so_far)) =
    by_part table.last_group (by_part table.last_label (by_part table.of_negative_case (by_token (by_token (by_class is so_far)))))
negative_grouped (by_token (by_class is (by_token f))) = grouped _ table.of_negative_case f (λ y g. by_token (by_token (by_class is (by_token g))))

default_grouped : {room : ℕ} {rest : Stack} {whole : Bool} {ks : List TokenKind} →
    Follows whole (in_room room (a token.Colon ∷ part table.statements ∷ part table.groups ∷ []) ++ rest) ks →
    Follows whole ((room, part table.groups) ∷ rest) (token.Default ∷ ks)
default_grouped so_far = by_part table.last_group (by_part table.last_label (by_part table.of_default (by_token so_far)))
default_grouped (by_token f) = grouped _ table.of_default f (λ y g. by_token (by_token g))

pub groups_right : {limit : ℕ} (depth room : ℕ) → depth + room ≡ limit → (k : TokenKind) → Right limit depth room frame.Groups k (groups k)
groups_right depth room fits token.RightBrace = taken_flat depth room _ _ fits _ refl refl
    (λ c. (_, as_own (meant.within meant.groups), λ _ _ _ f. by_part table.no_groups (by_token f)))
groups_right depth room fits token.Case = taken_flat depth room _ _ fits _ refl refl (
  (λ c. (_, as_own (meant.within meant.groups), λ _ _ _ f. case_grouped f)),
  (λ c. (_, as_own (meant.within meant.groups), λ _ _ _ f. negative_grouped f)),
)
groups_right depth room fits token.Default = taken_flat depth room _ _ fits _ refl refl
    (λ c. (_, as_own (meant.within meant.groups), λ _ _ _ f. default_grouped f))
groups_right depth room fits _ = tt

pub group_right : {limit : ℕ} (depth room : ℕ) → depth + room ≡ limit → (k : TokenKind) → Right limit depth room frame.Group k (group k)
group_right depth room fits token.RightBrace = taken_flat depth room _ _ fits _ refl refl
    (λ c. (_, as_own (meant.within meant.group), λ _ _ _ f. by_part table.no_statements (by_part table.no_groups (by_token f))))
group_right depth room fits token.Case = taken_flat depth room _ _ fits _ refl refl (
  (λ c. (_, as_own (meant.within meant.group), λ _ _ _ f. by_part table.no_statements (case_grouped f))),
  (λ c. (_, as_own (meant.within meant.group), λ _ _ _ f. by_part table.no_statements (negative_grouped f))),
)
group_right depth room fits token.Default = taken_flat depth room _ _ fits _ refl refl
    (λ c. (_, as_own (meant.within meant.group), λ _ _ _ f. by_part table.no_statements (default_grouped f)))
group_right depth room fits token.Final = taken_flat depth room _ _ fits _ refl refl
    (λ c. (_, as_own (meant.within meant.group), λ _ _ _ f. by_part table.one_more_statement (by_part table.of_final_local (by_token f))))
group_right depth room fits token.Identifier = taken_flat depth room _ _ fits _ refl refl
    (λ own is c. (
      _,
      as_own (meant.within meant.group),
      λ rest whole ks f. by_part table.one_more_statement
          (block_named is _ whole ks (reads_equal (appended_assoc own (in_room room
          (part table.statements ∷ part table.groups ∷ a token.RightBrace ∷ [])) rest) whole ks f)),
    ))
group_right depth room fits token.Var = taken_flat depth room _ _ fits _ refl refl
    (λ c. (_, as_own (meant.within meant.group), λ _ _ _ f. by_part table.one_more_statement (by_part table.of_local (by_part table.of_inferred (by_token f)))))
group_right depth room fits k = group_other depth room fits k

named_other : {limit : ℕ} (depth room : ℕ) → depth + room ≡ limit → (k : TokenKind) → Right limit depth room frame.Named k
    (inside 0 ((0, frame.Expect token.Semicolon) ∷ []) (behind_path context.Effect ending.Name k))
named_other depth room fits k = inside_flat depth room _ _ fits (frame.Path context.Effect ending.Name) _ (behind_path context.Effect ending.Name k)
    (path_takes _ (depth + 0) room (omega (arith, fits)) context.Effect ending.Name k) refl refl
    (λ own is c. (_, as_own (meant.named_effect meant.by_semicolon (path_own is)), λ _ _ _ f. f))

named_pair_other : {limit : ℕ} (depth room : ℕ) → depth + room ≡ limit → (k : TokenKind) → Right limit depth room frame.NamedPair k
    (inside 1 ((1, frame.Expect token.RightBracket) ∷ (0, frame.Path context.Effect ending.Place) ∷ (0, frame.Expect token.Semicolon) ∷ [])
    (begins context.Expression k))
named_pair_other {limit = limit} depth room fits k = inside_deeper depth room _ _ fits frame.Expression _ (begins context.Expression k)
    (λ r fits. expression_takes limit (depth + 1) r fits k) refl refl
    (λ r own is c. (
      _,
      as_own (meant.pair_of_index meant.pair_by_semicolon (place_more (path_own is)) meant.indexed),
      λ rest whole ks f.
          deep_to_part whole ks f,
    ))

pub named_right : {limit : ℕ} (depth room : ℕ) → depth + room ≡ limit → (k : TokenKind) → Right limit depth room frame.Named k (named k)
named_right depth room fits token.Identifier = taken_flat depth room _ _ fits _ refl refl (
  (λ c. (_, as_own (meant.named_type meant.bare_local), λ _ _ _ f. by_part table.no_brackets (by_token f))),
  (λ c. (_, as_own (meant.named_type meant.initialized_local), λ _ _ _ f. by_part table.no_brackets (by_token f))),
)
named_right depth room fits token.LeftBracket = taken_flat depth room _ _ fits _ refl refl
    (λ c own is. let h = pair_opened of_local is in
    (h.0, as_own h.1, λ rest whole ks f. h.2 rest whole ks (subst (λ x. Follows whole (x ++ rest) ks) (appended_nothing own) f)))
named_right depth room fits k = named_other depth room fits k

pub named_pair_right : {limit : ℕ} (depth room : ℕ) → depth + room ≡ limit → (k : TokenKind) → Right limit depth room frame.NamedPair k (named_pair k)
named_pair_right depth room fits token.RightBracket = taken_flat depth room _ _ fits _ refl refl (
  (λ c. (_, as_own (meant.pair_of_type (meant.paired_local meant.bare_local)), λ _ _ _ f. by_token f)),
  (λ c. (_, as_own (meant.pair_of_type (meant.paired_local meant.initialized_local)), λ _ _ _ f. by_token f)),
)
named_pair_right depth room fits k = named_pair_other depth room fits k

returned_other : {limit : ℕ} (depth room : ℕ) → depth + room ≡ limit → (k : TokenKind) → Right limit depth room frame.Returned k
    (inside 0 ((0, frame.Expect token.Semicolon) ∷ []) (begins context.Expression k))
returned_other depth room fits k =
    inside_flat depth room _ _ fits frame.Expression ((0, frame.Expect token.Semicolon) ∷ []) (begins context.Expression k)
    (expression_takes _ (depth + 0) room (omega (arith, fits)) k) refl refl
    (λ c. (_, as_own (meant.within meant.returned), λ _ _ _ f. by_part table.there f))

pub returned_right : {limit : ℕ} (depth room : ℕ) → depth + room ≡ limit → (k : TokenKind) → Right limit depth room frame.Returned k (returned k)
returned_right depth room fits token.Semicolon = taken_flat depth room _ _ fits _ refl refl
    (λ c. (_, as_own (meant.within meant.returned), λ _ _ _ f. by_part table.not_there (by_token f)))
returned_right depth room fits k = returned_other depth room fits k

pub switch_block_right : {limit : ℕ} (depth room : ℕ) → depth + room ≡ limit → (k : TokenKind) → Right limit depth room frame.Switch k (switch_block k)
switch_block_right depth room fits token.LeftBrace = taken_flat depth room _ _ fits _ refl refl
    (λ c. (_, as_own (meant.a_part meant.a_switch), λ _ _ _ f. by_part table.of_groups (by_token f)))
switch_block_right depth room fits _ = tt

negative_value_other : {limit : ℕ} (depth room : ℕ) → depth + room ≡ limit → (k : TokenKind) → Right limit depth room frame.NegativeValue k
    (negative_value k)
negative_value_other {limit = limit} depth room fits k =
    choose (Right limit depth room frame.NegativeValue k) (is_case_value k) (goes (frame.Expect token.Colon ∷ [])) refuses
    (λ is. taken_flat depth room _ _ fits _ refl refl (λ c. (_, as_own (meant.within meant.negative_value), λ _ _ _ f. by_class is f))) tt

pub negative_value_right : {limit : ℕ} (depth room : ℕ) → depth + room ≡ limit → (k : TokenKind) →
    Right limit depth room frame.NegativeValue k (negative_value k)
negative_value_right depth room fits k = negative_value_other depth room fits k

case_value_other : {limit : ℕ} (depth room : ℕ) → depth + room ≡ limit → (k : TokenKind) → Right limit depth room frame.CaseValue k
    (negative_value k)
case_value_other {limit = limit} depth room fits k =
    choose (Right limit depth room frame.CaseValue k) (is_case_value k) (goes (frame.Expect token.Colon ∷ [])) refuses
    (λ is. taken_flat depth room _ _ fits _ refl refl (λ c. (_, as_own (meant.within meant.positive_value), λ _ _ _ f. by_class is f))) tt

pub case_value_right : {limit : ℕ} (depth room : ℕ) → depth + room ≡ limit → (k : TokenKind) → Right limit depth room frame.CaseValue k (case_value k)
case_value_right depth room fits token.Minus = taken_flat depth room _ _ fits _ refl refl
    (λ c. (_, as_own (meant.within meant.negative_case), λ _ _ _ f. by_token f))
case_value_right depth room fits k = case_value_other depth room fits k

pub catches_right : {limit : ℕ} (depth room : ℕ) → depth + room ≡ limit → (k : TokenKind) → Right limit depth room frame.Catches k (catches k)
catches_right depth room fits token.Catch = taken_flat depth room _ _ fits _ refl refl (
  (λ c. (
    (_, as_own (meant.a_part meant.some_catches), λ _ _ _ f. by_part table.last_catch (by_token f)),
    (_, as_own (meant.a_part meant.some_catches), λ _ _ _ f. by_part table.one_more_catch (by_token f)),
  )),
  (λ c. (
    (_, as_own (meant.a_part meant.some_catches), λ _ _ _ f. by_part table.last_final_catch (by_token f)),
    (_, as_own (meant.a_part meant.some_catches), λ _ _ _ f. by_part table.one_more_final_catch (by_token f)),
  )),
)
catches_right depth room fits _ = tt

pub more_catches_right : {limit : ℕ} (depth room : ℕ) → depth + room ≡ limit → (k : TokenKind) → Right limit depth room frame.MoreCatches k (more_catches k)
more_catches_right depth room fits token.Catch = taken_flat depth room _ _ fits _ refl refl (
  (λ c. (
    (_, as_own (meant.within meant.more_catches), λ _ _ _ f. by_part table.last_catch (by_token f)),
    (_, as_own (meant.within meant.more_catches), λ _ _ _ f. by_part table.one_more_catch (by_token f)),
  )),
  (λ c. (
    (_, as_own (meant.within meant.more_catches), λ _ _ _ f. by_part table.last_final_catch (by_token f)),
    (_, as_own (meant.within meant.more_catches), λ _ _ _ f. by_part table.one_more_final_catch (by_token f)),
  )),
)
more_catches_right depth room fits _ =
    λ fs closed stack whole ks means follows. (closed, [], stack, as_own (meant.within meant.no_more_catches), means, follows)

pub catch_type_right : {limit : ℕ} (depth room : ℕ) → depth + room ≡ limit → (k : TokenKind) → Right limit depth room frame.CatchType k (catch_type k)
catch_type_right depth room fits token.Final = taken_flat depth room _ _ fits _ refl refl
    (λ c. (_, as_own (meant.within meant.final_catch_type), λ _ _ _ f. by_token f))
catch_type_right depth room fits token.Identifier = taken_flat depth room _ _ fits _ refl refl
    (λ c. (_, as_own (meant.within meant.catch_type), λ _ _ _ f. by_token f))
catch_type_right depth room fits _ = tt

pub for_head_right : {limit : ℕ} (depth room : ℕ) → depth + room ≡ limit → (k : TokenKind) → Right limit depth room frame.For k (for_head k)
for_head_right depth room fits token.LeftParen = taken_flat depth room _ _ fits _ refl refl
    (λ c. (
      (_, as_own (meant.a_part meant.a_for_head), λ _ _ _ f. by_part table.of_for_parts (by_token f)),
      (
        (_, as_own (meant.a_part meant.an_each_head), λ _ _ _ f. by_part table.of_each (by_token f)),
        (
          (_, as_own (meant.a_part meant.an_each_head), λ _ _ _ f. by_part table.of_final_each (by_token f)),
          (
            (_, as_own (meant.a_part meant.an_each_head), λ _ _ _ f. by_part table.of_inferred_each (by_token f)),
            (_, as_own (meant.a_part meant.an_each_head), λ _ _ _ f. by_part table.of_final_inferred_each (by_token f)),
          ),
        ),
      ),
    ))
for_head_right depth room fits _ = tt

pub for_typed_right : {limit : ℕ} (depth room : ℕ) → depth + room ≡ limit → (k : TokenKind) → Right limit depth room frame.ForTyped k (for_typed k)
for_typed_right depth room fits token.Colon = taken_flat depth room _ _ fits _ refl refl
    (λ c. (_, as_own (meant.within meant.each_of_typed), λ _ _ _ f. by_token f))
for_typed_right depth room fits token.Assign = taken_flat depth room _ _ fits _ refl refl
    (λ c. (_, as_own (meant.within meant.for_initialized), λ _ _ _ f. by_token f))
for_typed_right depth room fits token.Semicolon = taken_flat depth room _ _ fits _ refl refl
    (λ c. (_, as_own (meant.within meant.for_bare), λ _ _ _ f. by_token f))
for_typed_right depth room fits _ = tt

pub for_inferred_right : {limit : ℕ} (depth room : ℕ) → depth + room ≡ limit → (k : TokenKind) → Right limit depth room frame.ForInferred k (for_inferred k)
for_inferred_right depth room fits token.Colon = taken_flat depth room _ _ fits _ refl refl
    (λ c. (_, as_own (meant.within meant.each_of_inferred), λ _ _ _ f. by_token f))
for_inferred_right depth room fits token.Assign = taken_flat depth room _ _ fits _ refl refl
    (λ c. (_, as_own (meant.within meant.for_inferred), λ _ _ _ f. by_token f))
for_inferred_right depth room fits _ = tt

for_variable_other : {limit : ℕ} (depth room : ℕ) → depth + room ≡ limit → (k : TokenKind) → Right limit depth room frame.ForVariable k
    (if is_primitive k then goes (named_by (frame.ForTyped ∷ [])) else refuses)
for_variable_other {limit = limit} depth room fits k =
    choose (Right limit depth room frame.ForVariable k) (is_primitive k) (goes (named_by (frame.ForTyped ∷ []))) refuses
    (λ is. taken_flat depth room _ _ fits _ refl refl (λ c. (
      (_, as_own (meant.within meant.for_variable), λ _ _ _ f. by_part table.of_bare (by_part table.of_type (by_class (primitive_named k is) f))),
      (
        (_, as_own (meant.within meant.for_variable), λ _ _ _ f. by_part table.of_initialized (by_part table.of_type (by_class (primitive_named k is) f))),
        (_, as_own (meant.within meant.each_of_type), λ _ _ _ f. by_part table.of_type (by_class (primitive_named k is) f)),
      ),
    )))
    tt

pub for_variable_right : {limit : ℕ} (depth room : ℕ) → depth + room ≡ limit → (k : TokenKind) → Right limit depth room frame.ForVariable k (for_variable k)
for_variable_right depth room fits token.Var = taken_flat depth room _ _ fits _ refl refl
    (λ c. (
      (_, as_own (meant.within meant.for_variable), λ _ _ _ f. by_part table.of_inferred (by_token f)),
      (_, as_own (meant.within meant.each_of_var), λ _ _ _ f. by_token f),
    ))
for_variable_right depth room fits token.Identifier = taken_flat depth room _ _ fits _ refl refl
    (λ c. (
      (_, as_own (meant.within meant.for_variable), λ _ _ _ f. by_part table.of_bare (by_part table.of_type (by_class refl f))),
      (
        (_, as_own (meant.within meant.for_variable), λ _ _ _ f. by_part table.of_initialized (by_part table.of_type (by_class refl f))),
        (_, as_own (meant.within meant.each_of_type), λ _ _ _ f. by_part table.of_type (by_class refl f)),
      ),
    ))
for_variable_right depth room fits k = for_variable_other depth room fits k

-- a name that begins a `for`
for_named_start : {room : ℕ} {own : Stack} → Own room frame.ForNamed own → (goal : Stack) × Own room frame.ForStart goal ×
    ((rest : Stack) (whole : Bool) (ks : List TokenKind) → Follows whole (own ++ rest) ks → Follows whole (goal ++ rest) (token.Identifier ∷ ks))
for_named_start (meant.named_type (meant.of_for meant.for_bare)) =
    (_, meant.within meant.for_start, λ _ _ _ f. by_part table.of_local_start (by_part table.of_bare (by_part table.of_type (by_class refl f))))
for_named_start (meant.named_type (meant.of_for meant.for_initialized)) =
    (_, meant.within meant.for_start, λ _ _ _ f. by_part table.of_local_start (by_part table.of_initialized (by_part table.of_type (by_class refl f))))
for_named_start (meant.named_type (meant.of_for meant.each_of_typed)) = (_, meant.within meant.each_typed, λ _ _ _ f. by_part table.of_type (by_class refl f))
for_named_start {room = room} (meant.named_effect {stack = stack} meant.in_for p) = (
  _,
  meant.within meant.for_start,
  λ rest whole ks f. by_part table.of_expression_start
      (name_reads p of_effect (in_room room for_rest ++ rest) whole (token.Identifier ∷ ks)
      (by_token (reads_equal (appended_assoc stack (in_room room for_rest) rest) whole ks f))),
)
for_named_start (meant.a_part p) = elim p [ ]
for_named_start (meant.within p) = elim p [ ]
for_named_start (meant.pair_of_type p) = elim p [ ]
for_named_start (meant.pair_of_index p _ _) = elim p [ ]

for_start_other : {limit : ℕ} (depth room : ℕ) → depth + room ≡ limit → (k : TokenKind) → Right limit depth room frame.ForStart k
    (if is_primitive k then goes (named_by (frame.ForTyped ∷ [])) else inside 0 ((0, frame.Expect token.Semicolon) ∷ (0, frame.ForCondition) ∷ [])
    (begins context.Effect k))
for_start_other {limit = limit} depth room fits k =
    choose (Right limit depth room frame.ForStart k) (is_primitive k) (goes (named_by (frame.ForTyped ∷ [])))
    (inside 0 ((0, frame.Expect token.Semicolon) ∷ (0, frame.ForCondition) ∷ []) (begins context.Effect k))
    (λ is. taken_flat depth room _ _ fits _ refl refl (λ c. (
      (
        _,
        as_own (meant.within meant.for_start),
        λ _ _ _ f.
            by_part table.of_local_start (by_part table.of_bare (by_part table.of_type (by_class (primitive_named k is) f))),
      ),
      (
        (
          _,
          as_own (meant.within meant.for_start),
          λ _ _ _ f.
              by_part table.of_local_start (by_part table.of_initialized (by_part table.of_type (by_class (primitive_named k is) f))),
        ),
        (_, as_own (meant.within meant.each_typed), λ _ _ _ f. by_part table.of_type (by_class (primitive_named k is) f)),
      ),
    )))
    (inside_flat depth room _ _ fits frame.Effect ((0, frame.Expect token.Semicolon) ∷ (0, frame.ForCondition) ∷ []) (begins context.Effect k)
    (effect_takes _ (depth + 0) room (omega (arith, fits)) k) refl refl
    (λ c. (_, as_own (meant.within meant.for_start), λ _ _ _ f. by_part table.of_expression_start f)))

pub for_start_right : {limit : ℕ} (depth room : ℕ) → depth + room ≡ limit → (k : TokenKind) → Right limit depth room frame.ForStart k (for_start k)
for_start_right depth room fits token.Semicolon = taken_flat depth room _ _ fits _ refl refl
    (λ c. (_, as_own (meant.within meant.for_start), λ _ _ _ f. by_part table.no_start (by_token f)))
for_start_right depth room fits token.Final = taken_flat depth room _ _ fits _ refl refl
    (λ c. (
      (_, as_own (meant.within meant.for_start), λ _ _ _ f. by_part table.of_final_start (by_token f)),
      (
        (_, as_own (meant.within meant.each_final), λ _ _ _ f. by_token f),
        (_, as_own (meant.within meant.each_final_inferred), λ _ _ _ f. by_token f),
      ),
    ))
for_start_right depth room fits token.Var = taken_flat depth room _ _ fits _ refl refl
    (λ c. (
      (_, as_own (meant.within meant.for_start), λ _ _ _ f. by_part table.of_local_start (by_part table.of_inferred (by_token f))),
      (_, as_own (meant.within meant.each_inferred), λ _ _ _ f. by_token f),
    ))
for_start_right depth room fits token.Identifier = taken_flat depth room _ _ fits _ refl refl
    (λ c own is. let h = for_named_start is in
    (h.0, as_own h.1, λ rest whole ks f. h.2 rest whole ks (subst (λ x. Follows whole (x ++ rest) ks) (appended_nothing own) f)))
for_start_right depth room fits k = for_start_other depth room fits k

for_named_other : {limit : ℕ} (depth room : ℕ) → depth + room ≡ limit → (k : TokenKind) → Right limit depth room frame.ForNamed k
    (inside 0 ((0, frame.Expect token.Semicolon) ∷ (0, frame.ForCondition) ∷ []) (behind_path context.Effect ending.Name k))
for_named_other depth room fits k = inside_flat depth room _ _ fits (frame.Path context.Effect ending.Name) _ (behind_path context.Effect ending.Name k)
    (path_takes _ (depth + 0) room (omega (arith, fits)) context.Effect ending.Name k) refl refl
    (λ own is c. (_, as_own (meant.named_effect meant.in_for (path_own is)), λ _ _ _ f. f))

for_pair_other : {limit : ℕ} (depth room : ℕ) → depth + room ≡ limit → (k : TokenKind) → Right limit depth room frame.ForPair k
    (inside 1 ((1, frame.Expect token.RightBracket) ∷ (0, frame.Path context.Effect ending.Place) ∷ (0, frame.Expect token.Semicolon)
    ∷ (0, frame.ForCondition) ∷ []) (begins context.Expression k))
for_pair_other {limit = limit} depth room fits k = inside_deeper depth room _ _ fits frame.Expression _ (begins context.Expression k)
    (λ r fits. expression_takes limit (depth + 1) r fits k) refl refl
    (λ r own is c. (_, as_own (meant.pair_of_index meant.pair_in_for (place_more (path_own is)) meant.indexed), λ rest whole ks f. deep_to_part whole ks f))

pub for_named_right : {limit : ℕ} (depth room : ℕ) → depth + room ≡ limit → (k : TokenKind) → Right limit depth room frame.ForNamed k (for_named k)
for_named_right depth room fits token.Identifier = taken_flat depth room _ _ fits _ refl refl
    (λ c. (
      (_, as_own (meant.named_type (meant.of_for meant.for_bare)), λ _ _ _ f. by_part table.no_brackets (by_token f)),
      (
        (_, as_own (meant.named_type (meant.of_for meant.for_initialized)), λ _ _ _ f. by_part table.no_brackets (by_token f)),
        (_, as_own (meant.named_type (meant.of_for meant.each_of_typed)), λ _ _ _ f. by_part table.no_brackets (by_token f)),
      ),
    ))
for_named_right depth room fits token.LeftBracket = taken_flat depth room _ _ fits _ refl refl
    (λ c own is. let h = pair_opened of_for is in
    (h.0, as_own h.1, λ rest whole ks f. h.2 rest whole ks (subst (λ x. Follows whole (x ++ rest) ks) (appended_nothing own) f)))
for_named_right depth room fits k = for_named_other depth room fits k

pub for_pair_right : {limit : ℕ} (depth room : ℕ) → depth + room ≡ limit → (k : TokenKind) → Right limit depth room frame.ForPair k (for_pair k)
for_pair_right depth room fits token.RightBracket = taken_flat depth room _ _ fits _ refl refl
    (λ c. (
      (_, as_own (meant.pair_of_type (meant.paired_for (meant.of_for meant.for_bare))), λ _ _ _ f. by_token f),
      (
        (_, as_own (meant.pair_of_type (meant.paired_for (meant.of_for meant.for_initialized))), λ _ _ _ f. by_token f),
        (_, as_own (meant.pair_of_type (meant.paired_for (meant.of_for meant.each_of_typed))), λ _ _ _ f. by_token f),
      ),
    ))
for_pair_right depth room fits k = for_pair_other depth room fits k

for_condition_other : {limit : ℕ} (depth room : ℕ) → depth + room ≡ limit → (k : TokenKind) → Right limit depth room frame.ForCondition k
    (inside 0 ((0, frame.Expect token.Semicolon) ∷ (0, frame.ForUpdate) ∷ []) (begins context.Expression k))
for_condition_other depth room fits k =
    inside_flat depth room _ _ fits frame.Expression ((0, frame.Expect token.Semicolon) ∷ (0, frame.ForUpdate) ∷ []) (begins context.Expression k)
    (expression_takes _ (depth + 0) room (omega (arith, fits)) k) refl refl
    (λ c. (_, as_own (meant.within meant.for_condition), λ _ _ _ f. by_part table.there f))

pub for_condition_right : {limit : ℕ} (depth room : ℕ) → depth + room ≡ limit → (k : TokenKind) → Right limit depth room frame.ForCondition k (for_condition k)
for_condition_right depth room fits token.Semicolon = taken_flat depth room _ _ fits _ refl refl
    (λ c. (_, as_own (meant.within meant.for_condition), λ _ _ _ f. by_part table.not_there (by_token f)))
for_condition_right depth room fits k = for_condition_other depth room fits k

for_update_other : {limit : ℕ} (depth room : ℕ) → depth + room ≡ limit → (k : TokenKind) → Right limit depth room frame.ForUpdate k
    (inside 0 ((0, frame.Expect token.RightParen) ∷ []) (begins context.Effect k))
for_update_other depth room fits k =
    inside_flat depth room _ _ fits frame.Effect ((0, frame.Expect token.RightParen) ∷ []) (begins context.Effect k)
    (effect_takes _ (depth + 0) room (omega (arith, fits)) k) refl refl
    (λ c. (_, as_own (meant.within meant.for_update), λ _ _ _ f. by_part table.of_update f))

pub for_update_right : {limit : ℕ} (depth room : ℕ) → depth + room ≡ limit → (k : TokenKind) → Right limit depth room frame.ForUpdate k (for_update k)
for_update_right depth room fits token.RightParen = taken_flat depth room _ _ fits _ refl refl
    (λ c. (_, as_own (meant.within meant.for_update), λ _ _ _ f. by_part table.no_update (by_token f)))
for_update_right depth room fits k = for_update_other depth room fits k
