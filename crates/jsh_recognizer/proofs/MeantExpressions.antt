-- Steps backwards in arguments, array initializers and types, and at the frames that are parts of expressions.
use Rattle.std.proofs.Common.{◌≡◌, ℕ, zero, suc, ◌+◌, ◌≤◌, Bool, true, false, List, [], ◌∷◌, ◌++◌, refl, sym, ap, ◌∙◌, arith}
use Rattle.jsh_tree.specs.declared.token.TokenKind.{TokenKind}
use Rattle.jsh_tree.specs.declared.token.TokenKind.TheVariants as token
use Rattle.jsh_grammar.specs.Classes.{is_primitive, is_type_name}
use Rattle.jsh_grammar.specs.Productions.{a, part}
use Rattle.jsh_grammar.specs.Productions as table
use Rattle.jsh_grammar.specs.Leads.{in_room}
use Rattle.jsh_recognizer.specs.declared.frame.Context.{Context}
use Rattle.jsh_recognizer.specs.declared.frame.Context.TheVariants as context
use Rattle.jsh_recognizer.specs.declared.frame.Ending.{Ending}
use Rattle.jsh_recognizer.specs.declared.frame.Ending.TheVariants as ending
use Rattle.jsh_recognizer.specs.declared.frame.Frame.{Frame}
use Rattle.jsh_recognizer.specs.declared.frame.Frame.TheVariants as frame
use Rattle.jsh_recognizer.specs.Machine.{takes, passes, refuses, begins, is_sign, brackets, arguments, more_arguments, values, more_values, initial, type_use, move_of}
use Rattle.jsh_recognizer.specs.Meanings as meaning
use Rattle.jsh_recognizer.specs.Meanings.{Stack, by_token, by_class, by_part, Own, Tail}
use Rattle.jsh_recognizer.proofs.MeantStep.{Reads, after, reads_equal, Sound, Owned, Only, sound_as}
use Rattle.jsh_recognizer.proofs.MeantForms.{here, symbol, inner, AllReady, ready, ready_symbol, ready_inner, none_ready, next_ready, own_here, a_symbol, own_inner, Shapes, no_shape, last_shape, shaped, Made, sound_forms, sound_read, sound_inside_forms, Step}
use Rattle.jsh_recognizer.proofs.MeantOwn as own
use Rattle.jsh_recognizer.proofs.MeantViews.{yes, no, tested, OneView, the_one, another, TwoView, the_first, the_second, neither, some_arguments, arguments_view, more_arguments_view, initial_view, some_values, values_view, more_values_view, brackets_view, member_view, open_arguments_view, primitive_use, type_view, primitive_named}
use Rattle.jsh_recognizer.proofs.MeantOperands.{conditional_reads}
use Rattle.jsh_recognizer.proofs.MeantPath.{same_new, same_depth, some_more, operators_sound, path_sound, arguments_read}
use Rattle.jsh_recognizer.proofs.MeantBegins.{expression_sound, operand_sound, unsigned_sound, target_sound, effect_sound, as_frame}
use Rattle.jsh_recognizer.proofs.MeantCreations.{values_read}

-- ---- frames that are parts of expressions

-- a token that is expected
pub expect_sound : {limit depth room : ℕ} → depth + room ≡ limit → (k : TokenKind) → Sound limit depth (Owned room (frame.Expect k)) k []
expect_sound {room = room} fits k = sound_forms [] fits none_ready (expected_back room k)
  where
    expected_back : (room : ℕ) (k : TokenKind) (closed : Bool) (s : Stack) → Shapes room [] s → Made (Owned room (frame.Expect k)) closed k s
    expected_back room k closed _ no_shape = (_, meaning.expected, λ rest whole ks f. by_token f)

pub expect_step : (k : TokenKind) → Step (frame.Expect k)
expect_step wanted limit depth room fits s is k n new t le = absurd cc

pub expression_step : Step frame.Expression
expression_step limit depth room fits s is k n new t le = sound_as (as_frame meaning.an_expression) (expression_sound room fits k n new t le)

pub operand_step : Step frame.Operand
operand_step limit depth room fits s is k n new t le = sound_as (as_frame meaning.an_operand) (operand_sound room fits k n new t le)

pub unsigned_step : Step frame.Unsigned
unsigned_step limit depth room fits s is k n new t le = elim (tested (is_sign k) _ _ _ t) [
  | yes sign t ↦ absurd cc
  | no isnt t ↦ sound_as (as_frame meaning.an_unsigned) (unsigned_sound room fits k isnt n new t le)
]

pub target_step : Step frame.Target
target_step limit depth room fits s is k n new t le = sound_as (as_frame meaning.a_target) (target_sound room fits k n new t le)

pub effect_step : Step frame.Effect
effect_step limit depth room fits s is k n new t le = sound_as (as_frame meaning.an_effect) (effect_sound room fits k n new t le)

conditional_tail : {room : ℕ} {s : Stack} → Tail room 9 s → (rest : Stack) →
    Reads ((room, part table.unary) ∷ s ++ rest) ((room, part table.conditional) ∷ rest)
conditional_tail (meaning.tail c) rest = conditional_reads c rest

conditional_inside : (room : ℕ) (closed other : Bool) (first s : Stack) → Only room (part table.unary) closed first →
    Shapes room (here (frame.Operators false) ∷ []) s →
    (made : Stack) × Owned room frame.Conditional other made × ((rest : Stack) → Reads (first ++ (s ++ rest)) (made ++ rest))
conditional_inside room closed other first s e (last_shape (own_here o)) = (
  _,
  meaning.a_part meaning.a_conditional,
  λ rest. after (reads_equal (ap (λ x. x ++ (s ++ rest)) e)) (conditional_tail (own.operators_own o) rest),
)

pub conditional_step : Step frame.Conditional
conditional_step limit depth room fits s is k n new t le = sound_inside_forms 0 (here (frame.Operators false) ∷ []) (begins context.Operand k) n new t fits
    (next_ready (ready refl (meaning.operators (meaning.tail meaning.no_choice))) none_ready)
    (λ m fs so is. operand_sound room (omega (arith, fits)) k m fs so (omega (arith, is, le)))
    (conditional_inside room)

pub operators_step : (behind_type : Bool) → Step (frame.Operators behind_type)
operators_step true limit depth room fits s is k n new t le = sound_as (λ closed s o. meaning.operators_behind_type o) (operators_sound fits true k n new t)
operators_step false limit depth room fits s is k n new t le = sound_as (λ closed s o. meaning.operators o) (operators_sound fits false k n new t)

pub path_step : (c : Context) (e : Ending) → Step (frame.Path c e)
path_step c e limit depth room fits s is k n new t le = sound_as (λ closed s p. meaning.path p) (path_sound room fits c e k n new t le)

pub member_step : (c : Context) → Step (frame.Member c)
member_step c limit depth room fits s is k n new t le = at k (member_view c k) t
  where
    name_back : (closed : Bool) (s : Stack) → Shapes room (here (frame.Path c ending.Name) ∷ []) s →
        Made (Owned room (frame.Member c)) closed token.Identifier s
    name_back closed s (last_shape (own_here o)) = (_, meaning.a_member (own.path_own o), λ rest whole ks f. by_token f)

    at : (k : TokenKind) → OneView (move_of (frame.Member c)) token.Identifier (λ k. refuses) k → move_of (frame.Member c) k ≡ takes n new →
        Sound limit depth (Owned room (frame.Member c)) k new
    at _ the_one t = same_new t (sound_forms (here (frame.Path c ending.Name) ∷ []) fits
        (next_ready (ready refl (meaning.path (meaning.as_it_ends (some_more room c ending.Name).1))) none_ready) name_back)
    at k (another e) t = absurd cc

-- ---- arguments

pub open_arguments_step : Step frame.OpenArguments
open_arguments_step limit depth room fits s is k n new t le = at room fits k (open_arguments_view k) t
  where
    arguments_back : (room : ℕ) (closed : Bool) (s : Stack) → Shapes (suc room) (inner room frame.Arguments ∷ []) s →
        Made (Owned (suc room) frame.OpenArguments) closed token.LeftParen s
    arguments_back room closed s (last_shape (own_inner o)) = (_, meaning.within meaning.a_call, arguments_read o)

    at : (room : ℕ) → depth + room ≡ limit → (k : TokenKind) → OneView (move_of frame.OpenArguments) token.LeftParen (λ k. refuses) k →
        move_of frame.OpenArguments k ≡ takes n new → Sound limit depth (Owned room frame.OpenArguments) k new
    at zero fits _ the_one t = absurd (omega (arith, fits, le, same_depth t))
    at (suc room) fits _ the_one t = same_new t (sound_forms (inner room frame.Arguments ∷ []) fits
        (next_ready (ready_inner refl (meaning.within meaning.no_argument)) none_ready) (arguments_back room))
    at room fits k (another e) t = absurd cc

-- arguments behind the first expression
listed_read : {room : ℕ} {s : Stack} → Own room frame.MoreArguments s → (rest : Stack) →
    Reads ((room, part table.expression) ∷ s ++ rest) (in_room room (part table.listed ∷ a token.RightParen ∷ []) ++ rest)
listed_read (meaning.within meaning.last_argument) rest = λ whole ks f. by_part table.last_argument f
listed_read (meaning.within meaning.next_argument) rest = λ whole ks f. by_part table.more_arguments f
listed_read (meaning.a_part is) rest = elim is [ ]
listed_read (meaning.named_type is) rest = elim is [ ]
listed_read (meaning.named_effect is p) rest = elim is [ ]
listed_read (meaning.pair_of_type is) rest = elim is [ ]
listed_read (meaning.pair_of_index is m i) rest = elim is [ ]

no_frames_back : (room : ℕ) (f : Frame) (k : TokenKind) → Own room f ((room, a k) ∷ []) → (closed : Bool) (s : Stack) → Shapes room [] s →
    Made (Owned room f) closed k s
no_frames_back room f k is closed _ no_shape = (_, is, λ rest whole ks f. by_token f)

-- a frame that ends with its token
closed_sound : {limit depth room : ℕ} → depth + room ≡ limit → (f : Frame) (k : TokenKind) → Own room f ((room, a k) ∷ []) →
    Sound limit depth (Owned room f) k []
closed_sound {room = room} fits f k is = sound_forms [] fits none_ready (no_frames_back room f k is)

pub arguments_step : Step frame.Arguments
arguments_step limit depth room fits s is k n new t le = at k (arguments_view k) t
  where
    first_inside : (closed other : Bool) (first s : Stack) → Only room (part table.expression) closed first → Shapes room (here frame.MoreArguments ∷ []) s →
        (made : Stack) × Owned room frame.Arguments other made × ((rest : Stack) → Reads (first ++ (s ++ rest)) (made ++ rest))
    first_inside closed other first s e (last_shape (own_here o)) =
        (_, meaning.within meaning.arguments, λ rest. after (reads_equal (ap (λ x. x ++ (s ++ rest)) e)) (listed_read o rest))

    at : (k : TokenKind) → OneView arguments token.RightParen some_arguments k → arguments k ≡ takes n new →
        Sound limit depth (Owned room frame.Arguments) k new
    at _ the_one t = same_new t (closed_sound fits frame.Arguments token.RightParen (meaning.within meaning.no_argument))
    at k (another e) t = sound_inside_forms 0 (here frame.MoreArguments ∷ []) (begins context.Expression k) n new (sym e ∙ t) fits
        (next_ready (ready refl (meaning.within meaning.last_argument)) none_ready)
        (λ m fs so is. expression_sound room (omega (arith, fits)) k m fs so (omega (arith, is, le)))
        first_inside

pub more_arguments_step : Step frame.MoreArguments
more_arguments_step limit depth room fits s is k n new t le = at k (more_arguments_view k) t
  where
    next_back : (closed : Bool) (s : Stack) → Shapes room (symbol frame.Expression (part table.expression) ∷ here frame.MoreArguments ∷ []) s →
        Made (Owned room frame.MoreArguments) closed token.Comma s
    next_back closed _ (shaped a_symbol (last_shape (own_here o))) =
        (_, meaning.within meaning.next_argument, λ rest whole ks f. by_token (listed_read o rest whole ks f))

    at : (k : TokenKind) → TwoView more_arguments token.RightParen token.Comma refuses k → more_arguments k ≡ takes n new →
        Sound limit depth (Owned room frame.MoreArguments) k new
    at _ the_first t = same_new t (closed_sound fits frame.MoreArguments token.RightParen (meaning.within meaning.last_argument))
    at _ the_second t = same_new t (sound_forms (symbol frame.Expression (part table.expression) ∷ here frame.MoreArguments ∷ []) fits
        (next_ready (ready_symbol refl own.expression_only (meaning.a_part meaning.an_expression)) (next_ready (ready refl
        (meaning.within meaning.last_argument)) none_ready))
        next_back)
    at k (neither e) t = absurd cc

-- ---- array initializers

pub initial_sound : {limit depth : ℕ} (room : ℕ) → depth + room ≡ limit → (k : TokenKind) (n : ℕ) (new : List (ℕ × Frame)) → initial k ≡ takes n new →
    depth + n ≤ limit → Sound limit depth (Only room (part table.initial)) k new
initial_sound {limit = limit} {depth = depth} room fits k n new t le = at room fits k (initial_view k) t
  where
    values_back : (room : ℕ) (closed : Bool) (s : Stack) → Shapes (suc room) (inner room frame.Values ∷ []) s →
        Made (Only (suc room) (part table.initial)) closed token.LeftBrace s
    values_back room closed s (last_shape (own_inner o)) = (_, refl, λ rest whole ks f. by_part table.of_values (values_read o rest whole ks f))

    at : (room : ℕ) → depth + room ≡ limit → (k : TokenKind) → OneView initial token.LeftBrace (begins context.Expression) k → initial k ≡ takes n new →
        Sound limit depth (Only room (part table.initial)) k new
    at zero fits _ the_one t = absurd (omega (arith, fits, le, same_depth t))
    at (suc room) fits _ the_one t = same_new t (sound_forms (inner room frame.Values ∷ []) fits
        (next_ready (ready_inner refl (meaning.within meaning.no_value)) none_ready) (values_back room))
    at room fits k (another e) t = sound_read
        (λ closed s same_own. (
          (room, part table.initial) ∷ [],
          refl,
          λ rest. after (reads_equal (ap (λ x. x ++ rest) same_own))
              (λ whole ks f. by_part table.of_value f),
        ))
        (expression_sound room fits k n new (sym e ∙ t) le)

pub initial_step : Step frame.Initial
initial_step limit depth room fits s is k n new t le = sound_as (as_frame meaning.an_initial) (initial_sound room fits k n new t le)

-- values behind the first
initials_read : {room : ℕ} {s : Stack} → Own room frame.MoreValues s → (rest : Stack) →
    Reads ((room, part table.initial) ∷ s ++ rest) (in_room room (part table.initials ∷ a token.RightBrace ∷ []) ++ rest)
initials_read (meaning.within meaning.last_value) rest = λ whole ks f. by_part table.last_value f
initials_read (meaning.within meaning.last_comma) rest = λ whole ks f. by_part table.last_value_with_comma f
initials_read (meaning.within meaning.next_value) rest = λ whole ks f. by_part table.more_values f
initials_read (meaning.a_part is) rest = elim is [ ]
initials_read (meaning.named_type is) rest = elim is [ ]
initials_read (meaning.named_effect is p) rest = elim is [ ]
initials_read (meaning.pair_of_type is) rest = elim is [ ]
initials_read (meaning.pair_of_index is m i) rest = elim is [ ]

pub values_step : Step frame.Values
values_step limit depth room fits s is k n new t le = at k (values_view k) t
  where
    first_inside : (closed other : Bool) (first s : Stack) → Only room (part table.initial) closed first → Shapes room (here frame.MoreValues ∷ []) s →
        (made : Stack) × Owned room frame.Values other made × ((rest : Stack) → Reads (first ++ (s ++ rest)) (made ++ rest))
    first_inside closed other first s e (last_shape (own_here o)) =
        (_, meaning.within meaning.values, λ rest. after (reads_equal (ap (λ x. x ++ (s ++ rest)) e)) (initials_read o rest))

    at : (k : TokenKind) → OneView values token.RightBrace some_values k → values k ≡ takes n new → Sound limit depth (Owned room frame.Values) k new
    at _ the_one t = same_new t (closed_sound fits frame.Values token.RightBrace (meaning.within meaning.no_value))
    at k (another e) t = sound_inside_forms 0 (here frame.MoreValues ∷ []) (initial k) n new (sym e ∙ t) fits
        (next_ready (ready refl (meaning.within meaning.last_value)) none_ready)
        (λ m fs so is. initial_sound room (omega (arith, fits)) k m fs so (omega (arith, is, le)))
        first_inside

values_behind : {room : ℕ} {s : Stack} (closed : Bool) → Own room frame.Values s → Made (Owned room frame.MoreValues) closed token.Comma s
values_behind closed (meaning.within meaning.no_value) = (_, meaning.within meaning.last_comma, λ rest whole ks f. by_token f)
values_behind closed (meaning.within meaning.values) = (_, meaning.within meaning.next_value, λ rest whole ks f. by_token f)
values_behind closed (meaning.a_part is) = elim is [ ]
values_behind closed (meaning.named_type is) = elim is [ ]
values_behind closed (meaning.named_effect is p) = elim is [ ]
values_behind closed (meaning.pair_of_type is) = elim is [ ]
values_behind closed (meaning.pair_of_index is m i) = elim is [ ]

pub more_values_step : Step frame.MoreValues
more_values_step limit depth room fits s is k n new t le = at k (more_values_view k) t
  where
    next_back : (closed : Bool) (s : Stack) → Shapes room (here frame.Values ∷ []) s → Made (Owned room frame.MoreValues) closed token.Comma s
    next_back closed s (last_shape (own_here o)) = values_behind closed o

    at : (k : TokenKind) → TwoView more_values token.RightBrace token.Comma refuses k → more_values k ≡ takes n new →
        Sound limit depth (Owned room frame.MoreValues) k new
    at _ the_first t = same_new t (closed_sound fits frame.MoreValues token.RightBrace (meaning.within meaning.last_value))
    at _ the_second t = same_new t (sound_forms (here frame.Values ∷ []) fits
        (next_ready (ready refl (meaning.within meaning.no_value)) none_ready) next_back)
    at k (neither e) t = absurd cc

-- ---- types

brackets_ready : (room : ℕ) → AllReady room (symbol frame.Brackets (part table.brackets) ∷ [])
brackets_ready room = next_ready (ready_symbol refl own.brackets_only (meaning.within meaning.some_brackets)) none_ready

pub type_sound : {limit depth room : ℕ} → depth + room ≡ limit → (k : TokenKind) (n : ℕ) (new : List (ℕ × Frame)) → type_use k ≡ takes n new →
    Sound limit depth (Only room (part table.type_use)) k new
type_sound {limit = limit} {depth = depth} {room = room} fits k n new t = at k (type_view k) t
  where
    name_back : (k : TokenKind) → is_type_name k ≡ true → (closed : Bool) (s : Stack) → Shapes room (symbol frame.Brackets (part table.brackets) ∷ []) s →
        Made (Only room (part table.type_use)) closed k s
    name_back k is closed _ (last_shape a_symbol) = (_, refl, λ rest whole ks f. by_part table.of_type (by_class is f))

    at : (k : TokenKind) → OneView type_use token.Identifier primitive_use k → type_use k ≡ takes n new →
        Sound limit depth (Only room (part table.type_use)) k new
    at _ the_one t = same_new t (sound_forms (symbol frame.Brackets (part table.brackets) ∷ []) fits (brackets_ready room) (name_back token.Identifier refl))
    at k (another e) t = elim (tested (is_primitive k) _ _ _ (sym e ∙ t)) [
      | yes is t ↦ same_new t (sound_forms (symbol frame.Brackets (part table.brackets) ∷ []) fits (brackets_ready room) (name_back k (primitive_named k is)))
      | no isnt t ↦ absurd cc
    ]

pub type_step : Step frame.Type
type_step limit depth room fits s is k n new t le = sound_as (as_frame meaning.a_type) (type_sound fits k n new t)

pub brackets_step : Step frame.Brackets
brackets_step limit depth room fits s is k n new t le = at k (brackets_view k) t
  where
    pair_back : (closed : Bool) (s : Stack) →
        Shapes room (symbol (frame.Expect token.RightBracket) (a token.RightBracket) ∷ symbol frame.Brackets (part table.brackets) ∷ []) s →
        Made (Owned room frame.Brackets) closed token.LeftBracket s
    pair_back closed _ (shaped a_symbol (last_shape a_symbol)) =
        (_, meaning.within meaning.some_brackets, λ rest whole ks f. by_part table.more_brackets (by_token f))

    at : (k : TokenKind) → OneView brackets token.LeftBracket (λ k. passes) k → brackets k ≡ takes n new → Sound limit depth (Owned room frame.Brackets) k new
    at _ the_one t = same_new t (sound_forms (symbol (frame.Expect token.RightBracket) (a token.RightBracket) ∷ symbol frame.Brackets
        (part table.brackets) ∷ []) fits
        (next_ready (ready_symbol refl (own.expect_only token.RightBracket) meaning.expected) (brackets_ready room)) pair_back)
    at k (another e) t = absurd cc
