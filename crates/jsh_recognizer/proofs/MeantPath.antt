-- Steps backwards behind operands: operators, further places and calls, and what stands behind a whole path.
use Rattle.std.proofs.Common.{◌≡◌, ℕ, zero, suc, ◌+◌, ◌<◌, ◌≤◌, Bool, true, false, not, ◌&&◌, ◌||◌, List, [], ◌∷◌, ◌++◌, inl, inr, refl, sym, ◌∙◌, subst, arith}
use Rattle.jsh_tree.specs.declared.token.TokenKind.{TokenKind}
use Rattle.jsh_tree.specs.declared.token.TokenKind.TheVariants as token
use Rattle.jsh_grammar.specs.Classes.{is_assignment, is_operator, is_step}
use Rattle.jsh_grammar.specs.Productions.{a, any, part, deep}
use Rattle.jsh_grammar.specs.Productions as table
use Rattle.jsh_grammar.specs.Leads.{in_room}
use Rattle.jsh_recognizer.specs.declared.frame.Context.{Context}
use Rattle.jsh_recognizer.specs.declared.frame.Context.TheVariants as context
use Rattle.jsh_recognizer.specs.declared.frame.Ending.{Ending}
use Rattle.jsh_recognizer.specs.declared.frame.Ending.TheVariants as ending
use Rattle.jsh_recognizer.specs.declared.frame.Frame.{Frame}
use Rattle.jsh_recognizer.specs.declared.frame.Frame.TheVariants as frame
use Rattle.jsh_recognizer.specs.Machine.{takes, passes, behind_operand, behind_path, is_target, may_end, is_loose_operator, is_tight_operator}
use Rattle.jsh_recognizer.specs.Meanings as meaning
use Rattle.jsh_recognizer.specs.Meanings.{Stack, by_token, by_class, by_part, by_deep, down_from, Own, Tail, After, More, Paths}
use Rattle.jsh_recognizer.proofs.MeantStep.{ReadsBehind, reads_equal, appended_assoc, Sound, sound_as}
use Rattle.jsh_recognizer.proofs.MeantForms.{here, symbol, inner, inner_symbol, deeper, ready, ready_symbol, ready_inner, ready_inner_symbol, ready_deep, none_ready, next_ready, own_here, a_symbol, own_inner, an_inner_symbol, a_deep, Shapes, no_shape, last_shape, shaped, Made, sound_forms}
use Rattle.jsh_recognizer.proofs.MeantOwn as own
use Rattle.jsh_recognizer.proofs.MeantOperands.{skip_all, operate, test_type, name_as_place}
use Rattle.jsh_recognizer.proofs.MeantViews.{yes, no, tested, both, either, loose_level, tight_level, OperandView, tests, chooses, operates, operand_view, behind_whole, PathView, by_dot, by_bracket, by_call, by_whole, path_view}

-- what a move takes is right where what an equal one takes is
pub same_new : {limit depth n m : ℕ} {P : Bool → Stack → Type 0} {k : TokenKind} {new other : List (ℕ × Frame)} → takes n new ≡ takes m other →
    Sound limit depth P k new → Sound limit depth P k other
same_new {limit = limit} {depth = depth} {P = P} {k = k} {new = new} {other = other} e s =
    let same : new ≡ other = cc in subst (Sound limit depth P k) same s

pub same_depth : {n m : ℕ} {new other : List (ℕ × Frame)} → takes n new ≡ takes m other → n ≡ m
same_depth e = cc

-- ---- operators

-- the level from which operators may stand behind an operand, or behind a type
abbrev pub level_of : Bool → ℕ
level_of true = 6
level_of false = 9

tests_made : {room : ℕ} {s : Stack} (behind_type : Bool) (closed : Bool) → Tail room 6 s →
    Made (λ closed t. Tail room (level_of behind_type) t) closed token.Instanceof ((room, part table.type_use) ∷ s)
tests_made {room = room} true closed (meaning.tail {choice = choice} c) =
    (in_room room (down_from 6) ++ choice, meaning.tail c, λ rest. test_type 6 (omega arith) room (choice ++ rest))
tests_made {room = room} false closed (meaning.tail {choice = choice} c) =
    (in_room room (down_from 9) ++ choice, meaning.tail c, λ rest. test_type 9 (omega arith) room (choice ++ rest))

tests_back : (room : ℕ) (behind_type : Bool) (closed : Bool) (s : Stack) →
    Shapes room (symbol frame.Type (part table.type_use) ∷ here (frame.Operators true) ∷ []) s →
    Made (λ closed t. Tail room (level_of behind_type) t) closed token.Instanceof s
tests_back room behind_type closed _ (shaped a_symbol (last_shape (own_here o))) = tests_made behind_type closed (own.operators_behind_type_own o)

chooses_back : (room : ℕ) (behind_type : Bool) (closed : Bool) (s : Stack) →
    Shapes room (deeper frame.Expression table.expression ∷ symbol (frame.Expect token.Colon)
    (a token.Colon) ∷ deeper frame.Conditional table.conditional ∷ []) s →
    Made (λ closed t. Tail room (level_of behind_type) t) closed token.Question s
chooses_back room true closed _ (shaped a_deep (shaped a_symbol (last_shape a_deep))) =
    (_, meaning.tail meaning.one_choice, λ rest whole ks f. skip_all 6 room _ whole (token.Question ∷ ks) (by_token f))
chooses_back room false closed _ (shaped a_deep (shaped a_symbol (last_shape a_deep))) =
    (_, meaning.tail meaning.one_choice, λ rest whole ks f. skip_all 9 room _ whole (token.Question ∷ ks) (by_token f))

operates_made : {room : ℕ} {s : Stack} (n m : ℕ) → n ≤ m → m < 10 → (k : TokenKind) → is_operator n k ≡ true → (closed : Bool) → Tail room 9 s →
    Made (λ closed t. Tail room m t) closed k ((room, part table.unary) ∷ s)
operates_made {room = room} n m le less k is closed (meaning.tail {choice = choice} c) = (
  in_room room (down_from m) ++ choice,
  meaning.tail c,
  λ rest whole ks f.
      reads_equal (sym (appended_assoc (in_room room (down_from m)) choice rest)) whole (k ∷ ks) (operate n m le less k is room (choice ++ rest) whole ks f),
)

operates_back : (room : ℕ) (n m : ℕ) → n ≤ m → m < 10 → (k : TokenKind) → is_operator n k ≡ true → (closed : Bool) (s : Stack) →
    Shapes room (symbol frame.Operand (part table.unary) ∷ here (frame.Operators false) ∷ []) s → Made (λ closed t. Tail room m t) closed k s
operates_back room n m le less k is closed _ (shaped a_symbol (last_shape (own_here o))) =
    operates_made n m le less k is closed (own.operators_own o)

-- the level of an operator that may stand there
operator_level : (behind_type : Bool) (k : TokenKind) → is_loose_operator k || (not behind_type && is_tight_operator k) ≡ true →
    (n : ℕ) × (n ≤ level_of behind_type) × (is_operator n k ≡ true)
operator_level true k e = let l = loose_level k (at e) in (l.0, l.1, l.2)
  where
    at : is_loose_operator k || false ≡ true → is_loose_operator k ≡ true
    at e = elim (either (is_loose_operator k) false e) [ inl is ↦ is | inr is ↦ absurd cc ]
operator_level false k e = elim (either (is_loose_operator k) (is_tight_operator k) e) [
  | inl is ↦ (let l = loose_level k is in (l.0, omega (arith, l.1), l.2))
  | inr is ↦ (let l = tight_level k is in (l.0, l.1, l.2))
]

level_small : (behind_type : Bool) → level_of behind_type < 10
level_small true = omega arith
level_small false = omega arith

pub operators_sound : {limit depth room : ℕ} → depth + room ≡ limit → (behind_type : Bool) (k : TokenKind) (n : ℕ) (new : List (ℕ × Frame)) →
    behind_operand behind_type k ≡ takes n new → Sound limit depth (λ closed s. Tail room (level_of behind_type) s) k new
operators_sound {limit = limit} {depth = depth} {room = room} fits behind_type k n new e = at k (operand_view behind_type k) e
  where
    at : (k : TokenKind) → OperandView behind_type k → behind_operand behind_type k ≡ takes n new →
        Sound limit depth (λ closed s. Tail room (level_of behind_type) s) k new
    at _ tests e = same_new e (sound_forms (symbol frame.Type (part table.type_use) ∷ here (frame.Operators true) ∷ []) fits
        (next_ready (ready_symbol refl own.type_only (meaning.a_part meaning.a_type))
        (next_ready (ready refl (meaning.operators_behind_type (meaning.tail meaning.no_choice))) none_ready))
        (tests_back room behind_type))
    at _ chooses e = same_new e (sound_forms
        (deeper frame.Expression table.expression ∷ symbol (frame.Expect token.Colon) (a token.Colon) ∷ deeper frame.Conditional table.conditional ∷ []) fits
        (next_ready (ready_deep refl own.expression_only meaning.an_expression) (next_ready (ready_symbol refl (own.expect_only token.Colon) meaning.expected)
        (next_ready (ready_deep refl own.conditional_only meaning.a_conditional) none_ready)))
        (chooses_back room behind_type))
    at k (operates is) e = elim (tested (is_loose_operator k || (not behind_type && is_tight_operator k)) _ _ _ (sym is ∙ e)) [
      | yes may takes_it ↦ (let l = operator_level behind_type k may in
          same_new takes_it (sound_forms (symbol frame.Operand (part table.unary) ∷ here (frame.Operators false) ∷ []) fits
          (next_ready (ready_symbol refl own.operand_only (meaning.a_part meaning.an_operand))
          (next_ready (ready refl (meaning.operators (meaning.tail meaning.no_choice))) none_ready))
          (operates_back room l.0 (level_of behind_type) l.1 (level_small behind_type) k l.2)))
      | no may takes_it ↦ absurd cc
    ]

-- ---- behind a whole path

stepped_tail : (room : ℕ) (e : Ending) (k : TokenKind) → is_step k ≡ true → is_target e ≡ true → (closed : Bool) (s : Stack) →
    Shapes room (here (frame.Operators false) ∷ []) s → Made (λ closed t. After room context.Expression e t) closed k s
stepped_tail room e k is target closed s (last_shape (own_here o)) =
    ((room, any is_step) ∷ s, meaning.stepped target (meaning.behind_first (own.operators_own o)), λ rest whole ks f. by_class is f)

assigned_back : (room : ℕ) (c : Context) (e : Ending) (k : TokenKind) → is_assignment k ≡ true →
    After room c e ((room, any is_assignment) ∷ (room, deep table.expression) ∷ []) → (closed : Bool) (s : Stack) →
    Shapes room (deeper frame.Expression table.expression ∷ []) s → Made (λ closed t. After room c e t) closed k s
assigned_back room c e k is m closed _ (last_shape a_deep) = (_, m, λ rest whole ks f. by_class is f)

stepped_back : (room : ℕ) (c : Context) (e : Ending) (k : TokenKind) → is_step k ≡ true → After room c e ((room, any is_step) ∷ []) →
    (closed : Bool) (s : Stack) → Shapes room [] s → Made (λ closed t. After room c e t) closed k s
stepped_back room c e k is m closed _ no_shape = (_, m, λ rest whole ks f. by_class is f)

assigned_sound : {limit depth room : ℕ} → depth + room ≡ limit → (c : Context) (e : Ending) (k : TokenKind) → is_assignment k ≡ true →
    After room c e ((room, any is_assignment) ∷ (room, deep table.expression) ∷ []) →
    Sound limit depth (λ closed s. After room c e s) k ((1, frame.Expression) ∷ [])
assigned_sound {room = room} fits c e k is m = sound_forms (deeper frame.Expression table.expression ∷ []) fits
    (next_ready (ready_deep refl own.expression_only meaning.an_expression) none_ready) (assigned_back room c e k is m)

stepped_sound : {limit depth room : ℕ} → depth + room ≡ limit → (c : Context) (e : Ending) (k : TokenKind) → is_step k ≡ true →
    After room c e ((room, any is_step) ∷ []) → Sound limit depth (λ closed s. After room c e s) k []
stepped_sound {room = room} fits c e k is m = sound_forms [] fits none_ready (stepped_back room c e k is m)

pub whole_sound : {limit depth room : ℕ} → depth + room ≡ limit → (c : Context) (e : Ending) (k : TokenKind) (n : ℕ) (new : List (ℕ × Frame)) →
    behind_whole c e k ≡ takes n new → Sound limit depth (λ closed s. After room c e s) k new
whole_sound {limit = limit} {depth = depth} {room = room} fits context.Expression e k n new t = elim (tested (is_step k && is_target e) _ _ _ t) [
  | yes is takes_it ↦ (let b = both (is_step k) (is_target e) is in
      same_new takes_it (sound_forms (here (frame.Operators false) ∷ []) fits
      (next_ready (ready refl (meaning.operators (meaning.tail meaning.no_choice))) none_ready) (stepped_tail room e k b.0 b.1)))
  | no isnt t ↦ elim (tested (is_assignment k && is_target e) _ _ _ t) [
    | yes is takes_it ↦ (let b = both (is_assignment k) (is_target e) is in
        same_new takes_it (assigned_sound fits context.Expression e k b.0 (meaning.assigned b.1)))
    | no isnt t ↦ sound_as (λ closed s m. meaning.value (meaning.behind_first m)) (operators_sound fits false k n new t)
  ]
]
whole_sound {room = room} fits context.Operand e k n new t = elim (tested (is_step k && is_target e) _ _ _ t) [
  | yes is takes_it ↦ (let b = both (is_step k) (is_target e) is in
      same_new takes_it (stepped_sound fits context.Operand e k b.0 (meaning.stepped b.1 meaning.behind_other)))
  | no isnt t ↦ absurd cc
]
whole_sound {room = room} fits context.Target e k n new t = elim (tested (is_step k || not (is_target e)) _ _ _ t) [
  | yes is t ↦ absurd cc
  | no isnt t ↦ absurd cc
]
whole_sound {room = room} fits context.Effect e k n new t = elim (tested (is_step k && is_target e) _ _ _ t) [
  | yes is takes_it ↦ (let b = both (is_step k) (is_target e) is in
      same_new takes_it (stepped_sound fits context.Effect e k b.0 (meaning.stepped_effect b.1)))
  | no isnt t ↦ elim (tested (is_assignment k && is_target e) _ _ _ t) [
    | yes is takes_it ↦ (let b = both (is_assignment k) (is_target e) is in
        same_new takes_it (assigned_sound fits context.Effect e k b.0 (meaning.assigned_effect b.1)))
    | no isnt t ↦ elim (tested (may_end context.Effect e) _ _ _ t) [
      | yes is t ↦ absurd cc
      | no isnt t ↦ absurd cc
    ]
  ]
]

-- ---- further places and calls

-- something may stand behind each path
pub some_more : (room : ℕ) (c : Context) (e : Ending) → (s : Stack) × More room c e s
some_more room context.Expression e = (_, meaning.no_more (meaning.value (meaning.behind_first (meaning.tail meaning.no_choice))))
some_more room context.Operand e = (_, meaning.no_more (meaning.value meaning.behind_other))
some_more room context.Target e = (_, meaning.more_places (meaning.no_more (meaning.as_target refl)))
some_more room context.Effect e = (_, meaning.more_calls (meaning.no_more meaning.as_effect))

-- the ending is a name
abbrev pub is_name : Ending → Bool
is_name ending.Name = true
is_name _ = false

-- what doesn't end in a name isn't called
pub never_called : {room : ℕ} {c : Context} {e : Ending} {s : Stack} → Paths room c e s → is_name e ≡ false → More room c e s
never_called (meaning.as_it_ends m) isnt = m
never_called (meaning.name_called m) isnt = absurd cc

-- arguments behind their parenthesis
pub arguments_read : {room : ℕ} {s : Stack} → Own room frame.Arguments s → (rest : Stack) →
    ReadsBehind token.LeftParen (s ++ rest) ((suc room, deep table.arguments) ∷ rest)
arguments_read (meaning.within meaning.no_argument) rest = λ whole ks f. by_deep table.no_arguments (by_token f)
arguments_read (meaning.within meaning.arguments) rest = λ whole ks f. by_deep table.some_arguments (by_token f)
arguments_read (meaning.a_part is) rest = elim is [ ]
arguments_read (meaning.named_type is) rest = elim is [ ]
arguments_read (meaning.named_effect is p) rest = elim is [ ]
arguments_read (meaning.pair_of_type is) rest = elim is [ ]
arguments_read (meaning.pair_of_index is m i) rest = elim is [ ]

-- a field or a call behind its dot
pub member_made : {room : ℕ} {c : Context} {s : Stack} (e : Ending) (closed : Bool) → Paths room c ending.Name s →
    Made (λ closed t. More room c e t) closed token.Dot ((room, a token.Identifier) ∷ s)
member_made e closed (meaning.as_it_ends m) = (_, meaning.more_places (name_as_place m), λ rest whole ks f. by_part table.of_field (by_token f))
member_made e closed (meaning.name_called m) = (_, meaning.more_calls m, λ rest whole ks f. by_token f)

member_back : (room : ℕ) (c : Context) (e : Ending) (closed : Bool) (s : Stack) → Shapes room (here (frame.Member c) ∷ []) s →
    Made (λ closed t. Paths room c e t) closed token.Dot s
member_back room c e closed _ (last_shape (own_here o)) = at o
  where
    at : {s : Stack} → Own room (frame.Member c) s → Made (λ closed t. Paths room c e t) closed token.Dot s
    at (meaning.a_member p) = let m = member_made e closed p in (m.0, meaning.as_it_ends m.1, m.2)
    at (meaning.a_part is) = elim is [ ]
    at (meaning.within is) = elim is [ ]
    at (meaning.named_type is) = elim is [ ]
    at (meaning.named_effect is p) = elim is [ ]
    at (meaning.pair_of_type is) = elim is [ ]
    at (meaning.pair_of_index is m i) = elim is [ ]

index_back : (room : ℕ) (c : Context) (e : Ending) (closed : Bool) (s : Stack) →
    Shapes (suc room) (inner_symbol room frame.Expression (part table.expression) ∷ inner_symbol room (frame.Expect token.RightBracket) (a token.RightBracket)
    ∷ here (frame.Path c ending.Place) ∷ []) s → Made (λ closed t. Paths (suc room) c e t) closed token.LeftBracket s
index_back room c e closed _ (shaped an_inner_symbol (shaped an_inner_symbol (last_shape (own_here o)))) = (
  _,
  meaning.as_it_ends (meaning.more_places (never_called (own.path_own o) refl)),
  λ rest whole ks f. by_part table.of_element (by_deep table.of_index (by_token f)),
)

call_back : (room : ℕ) (c : Context) (closed : Bool) (s : Stack) → Shapes (suc room) (inner room frame.Arguments ∷ here (frame.Path c ending.Call) ∷ []) s →
    Made (λ closed t. Paths (suc room) c ending.Name t) closed token.LeftParen s
call_back room c closed _ (shaped (own_inner {own = first} args) (last_shape (own_here {own = second} o))) = (
  _,
  meaning.name_called (never_called (own.path_own o) refl),
  λ rest whole ks f. arguments_read args (second ++ rest) whole ks (reads_equal (appended_assoc first second rest) whole ks f),
)

pub path_sound : {limit depth : ℕ} (room : ℕ) → depth + room ≡ limit → (c : Context) (e : Ending) (k : TokenKind) (n : ℕ) (new : List (ℕ × Frame)) →
    behind_path c e k ≡ takes n new → depth + n ≤ limit → Sound limit depth (λ closed s. Paths room c e s) k new
path_sound {limit = limit} {depth = depth} room fits c e k n new t le = at room fits e k (path_view c e k) t
  where
    at : (room : ℕ) → depth + room ≡ limit → (e : Ending) (k : TokenKind) → PathView c e k → behind_path c e k ≡ takes n new →
        Sound limit depth (λ closed s. Paths room c e s) k new
    at room fits e _ by_dot t = same_new t (sound_forms (here (frame.Member c) ∷ []) fits
        (next_ready (ready refl (meaning.a_member (meaning.as_it_ends (some_more room c ending.Name).1))) none_ready) (member_back room c e))
    at zero fits e _ by_bracket t = absurd (omega (arith, fits, le, same_depth t))
    at (suc room) fits e _ by_bracket t = same_new t (sound_forms
        (inner_symbol room frame.Expression (part table.expression) ∷ inner_symbol room (frame.Expect token.RightBracket) (a token.RightBracket)
        ∷ here (frame.Path c ending.Place) ∷ []) fits
        (next_ready (ready_inner_symbol refl own.expression_only (meaning.a_part meaning.an_expression))
        (next_ready (ready_inner_symbol refl (own.expect_only token.RightBracket) meaning.expected)
        (next_ready (ready refl (meaning.path (meaning.as_it_ends (some_more (suc room) c ending.Place).1))) none_ready)))
        (index_back room c e))
    at zero fits _ _ by_call t = absurd (omega (arith, fits, le, same_depth t))
    at (suc room) fits _ _ by_call t = same_new t (sound_forms (inner room frame.Arguments ∷ here (frame.Path c ending.Call) ∷ []) fits
        (next_ready (ready_inner refl (meaning.within meaning.no_argument))
        (next_ready (ready refl (meaning.path (meaning.as_it_ends (some_more (suc room) c ending.Call).1))) none_ready))
        (call_back room c))
    at room fits e k (by_whole is) t = sound_as (λ closed s m. meaning.as_it_ends (meaning.no_more m)) (whole_sound fits c e k n new (sym is ∙ t))

-- a path that passes may end
target_left : (b c : Bool) → b || not c ≡ false → c ≡ true
target_left true c e = absurd cc
target_left false true e = refl
target_left false false e = absurd cc

whole_ends : (c : Context) (e : Ending) (k : TokenKind) → behind_whole c e k ≡ passes → may_end c e ≡ true
whole_ends context.Expression e k t = refl
whole_ends context.Operand e k t = refl
whole_ends context.Target e k t = elim (tested (is_step k || not (is_target e)) _ _ _ t) [
  | yes is t ↦ absurd cc
  | no isnt t ↦ target_left (is_step k) (is_target e) isnt
]
whole_ends context.Effect e k t = elim (tested (is_step k && is_target e) _ _ _ t) [
  | yes is t ↦ absurd cc
  | no isnt t ↦ elim (tested (is_assignment k && is_target e) _ _ _ t) [
    | yes is t ↦ absurd cc
    | no isnt t ↦ elim (tested (may_end context.Effect e) _ _ _ t) [
      | yes is t ↦ is
      | no isnt t ↦ absurd cc
    ]
  ]
]

pub path_ends : (c : Context) (e : Ending) (k : TokenKind) → behind_path c e k ≡ passes → may_end c e ≡ true
path_ends c e k t = at e k (path_view c e k) t
  where
    at : (e : Ending) (k : TokenKind) → PathView c e k → behind_path c e k ≡ passes → may_end c e ≡ true
    at e _ by_dot t = absurd cc
    at e _ by_bracket t = absurd cc
    at _ _ by_call t = absurd cc
    at e k (by_whole is) t = whole_ends c e k (sym is ∙ t)
