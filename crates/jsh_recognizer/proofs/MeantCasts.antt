-- Steps backwards in parentheses that may be those of a cast.
use Rattle.std.proofs.Common.{◌≡◌, ℕ, zero, suc, ◌+◌, ◌≤◌, Bool, true, false, List, [], ◌∷◌, ◌++◌, refl, sym, ap, ◌∙◌, arith}
use Rattle.jsh_tree.specs.declared.token.TokenKind.{TokenKind}
use Rattle.jsh_tree.specs.declared.token.TokenKind.TheVariants as token
use Rattle.jsh_grammar.specs.Classes.{is_primitive}
use Rattle.jsh_grammar.specs.Productions.{Part, a, part, deep}
use Rattle.jsh_grammar.specs.Productions as table
use Rattle.jsh_recognizer.specs.declared.frame.Context.{Context}
use Rattle.jsh_recognizer.specs.declared.frame.Context.TheVariants as context
use Rattle.jsh_recognizer.specs.declared.frame.Ending.TheVariants as ending
use Rattle.jsh_recognizer.specs.declared.frame.Frame.{Frame}
use Rattle.jsh_recognizer.specs.declared.frame.Frame.TheVariants as frame
use Rattle.jsh_recognizer.specs.Machine.{Move, takes, refuses, inside, begins, behind_path, opened, opened_name, opened_pair, cast_type, begins_unsigned, is_sign, may_cast, rest_of}
use Rattle.jsh_recognizer.specs.Meanings as meaning
use Rattle.jsh_recognizer.specs.Meanings.{Stack, by_token, by_class, by_part, by_deep, Own, Behind, Paths, Opens, OpensNamed, OpensPair, Casts}
use Rattle.jsh_recognizer.proofs.MeantStep.{Reads, after, reads_equal, part_to_deep, appended_assoc, Sound, Owned, Only, sound_as, inner_of}
use Rattle.jsh_recognizer.proofs.MeantForms.{Form, here, inner, inner_symbol, innermost_symbol, deeper, AllReady, ready, ready_inner, ready_inner_symbol, ready_innermost_symbol, ready_deep, none_ready, next_ready, own_here, own_inner, an_inner_symbol, an_innermost_symbol, a_deep, Shapes, no_shape, last_shape, shaped, Made, sound_forms, sound_inside_forms, Step}
use Rattle.jsh_recognizer.proofs.MeantOwn as own
use Rattle.jsh_recognizer.proofs.MeantOperands.{of_expression, skip_all, name_reads}
use Rattle.jsh_recognizer.proofs.MeantViews.{yes, no, tested, OpenedView, opens_name, opens_other, opened_view, OpenedNameView, closes_name, opens_pair, goes_on, opened_name_view, OneView, the_one, another, TwoView, the_first, the_second, neither, opened_pair_index, opened_pair_view, cast_type_view, unsigned_no_sign}
use Rattle.jsh_recognizer.proofs.MeantPath.{same_new, same_depth, some_more, never_called, path_sound}
use Rattle.jsh_recognizer.proofs.MeantBegins.{expression_sound, unsigned_sound}

-- how deep a move inside takes a token
pub inside_depth : (n : ℕ) (more : List (ℕ × Frame)) (m : Move) (at : ℕ) (new : List (ℕ × Frame)) → inside n more m ≡ takes at new → (own : ℕ) × (at ≡ n + own)
inside_depth n more m at new e = let i = inner_of n more m at new e in (i.0, i.3)

-- something may stand behind a cast
some_behind : (room : ℕ) (c : Context) → may_cast c ≡ true → (s : Stack) × Behind room c s
some_behind room context.Expression may = (_, meaning.behind_first (meaning.tail meaning.no_choice))
some_behind room context.Operand may = (_, meaning.behind_other)
some_behind room context.Target may = absurd cc
some_behind room context.Effect may = absurd cc

-- ---- behind the parenthesis

name_made : {room : ℕ} {c : Context} {s : Stack} → may_cast c ≡ true → (closed : Bool) → OpensNamed room c s →
    Made (Owned room (frame.Opened c)) closed token.Identifier s
name_made {c = c} may closed (meaning.named_in_parentheses {room = room} {inside = within} {rest = behind} p m) = (
  _,
  meaning.opened may (meaning.in_parentheses m),
  λ rest whole ks f.
      name_reads p of_expression (((room, a token.RightParen) ∷ behind) ++ rest) whole _
      (by_token (reads_equal (appended_assoc within ((room, a token.RightParen) ∷ behind) rest) whole ks f)),
)
name_made may closed (meaning.named_of_cast b) = (_, meaning.opened may (meaning.named_cast b), λ rest whole ks f. by_token f)

opened_name_back : (room : ℕ) {c : Context} → may_cast c ≡ true → (closed : Bool) (s : Stack) → Shapes room (here (frame.OpenedName c) ∷ []) s →
    Made (Owned room (frame.Opened c)) closed token.Identifier s
opened_name_back room may closed s (last_shape (own_here o)) = name_made may closed (own.opened_name_own o).1

primitive_made : {room : ℕ} {c : Context} {s : Stack} → may_cast c ≡ true → (k : TokenKind) → is_primitive k ≡ true → (closed : Bool) → Casts room true c s →
    Made (Owned room (frame.Opened c)) closed k s
primitive_made may k is closed (meaning.primitive_type b) = (_, meaning.opened may (meaning.primitive_cast b), λ rest whole ks f. by_class is f)

primitive_back : (room : ℕ) {c : Context} → may_cast c ≡ true → (k : TokenKind) → is_primitive k ≡ true → (closed : Bool) (s : Stack) →
    Shapes room (here (frame.CastType true c) ∷ []) s → Made (Owned room (frame.Opened c)) closed k s
primitive_back room may k is closed s (last_shape (own_here o)) = primitive_made may k is closed (own.cast_type_own o)

opened_inside : (room : ℕ) {c : Context} → may_cast c ≡ true → (closed other : Bool) (first s : Stack) → Only room (part table.expression) closed first →
    Shapes (suc room) (inner_symbol room (frame.Expect token.RightParen) (a token.RightParen) ∷ here (frame.Path c ending.Other) ∷ []) s →
    (made : Stack) × Owned (suc room) (frame.Opened c) other made × ((rest : Stack) → Reads (first ++ (s ++ rest)) (made ++ rest))
opened_inside room may closed other first _ e (shaped an_inner_symbol (last_shape (own_here {own = s} o))) = (
  _,
  meaning.opened may (meaning.in_parentheses (never_called (own.path_own o) refl)),
  λ rest. reads_equal (ap (λ x. x ++ ((room, a token.RightParen) ∷ (s ++ rest))) e),
)

closing_ready : (room : ℕ) (c : Context) → AllReady (suc room) (inner_symbol room (frame.Expect token.RightParen) (a token.RightParen)
    ∷ here (frame.Path c ending.Other) ∷ [])
closing_ready room c = next_ready (ready_inner_symbol refl (own.expect_only token.RightParen) meaning.expected)
    (next_ready (ready refl (meaning.path (meaning.as_it_ends (some_more (suc room) c ending.Other).1))) none_ready)

opened_name_ready : (room : ℕ) (c : Context) → may_cast c ≡ true → AllReady (suc room) (here (frame.OpenedName c) ∷ [])
opened_name_ready room c may = next_ready (ready refl (meaning.opened_name may
    (meaning.named_in_parentheses (meaning.as_it_ends (some_more room context.Expression ending.Name).1) (some_more (suc room) c ending.Other).1))) none_ready

pub opened_step : (c : Context) → Step (frame.Opened c)
opened_step c limit depth zero fits s is k n new t le = absurd (no_room (own.opened_own is).1)
  where
    no_room : {s : Stack} → Opens zero c s → ⊥
    no_room p = elim p [ ]
opened_step c limit depth (suc room) fits s is k n new t le = at k (opened_view c k) t
  where
    may : may_cast c ≡ true
    may = (own.opened_own is).0

    at : (k : TokenKind) → OpenedView c k → opened c k ≡ takes n new → Sound limit depth (Owned (suc room) (frame.Opened c)) k new
    at _ opens_name t = same_new t (sound_forms (here (frame.OpenedName c) ∷ []) fits (opened_name_ready room c may) (opened_name_back (suc room) may))
    at k (opens_other e) t = elim (tested (is_primitive k) _ _ _ (sym e ∙ t)) [
      | yes is t ↦ same_new t (sound_forms (here (frame.CastType true c) ∷ []) fits
          (next_ready (ready refl (meaning.cast_type (meaning.primitive_type (some_behind (suc room) c may).1))) none_ready)
          (primitive_back (suc room) may k is))
      | no isnt t ↦ sound_inside_forms 1 (inner_symbol room (frame.Expect token.RightParen) (a token.RightParen) ∷ here (frame.Path c ending.Other) ∷ [])
          (begins context.Expression k) n new t fits (closing_ready room c)
          (λ m fs begins_so is. expression_sound room (omega (arith, fits)) k m fs begins_so (omega (arith, is, le)))
          (opened_inside room may)
    ]

-- ---- behind a name in it

enclosed_made : {room : ℕ} {c : Context} {s : Stack} → may_cast c ≡ true → (closed : Bool) → Own (suc room) (frame.Enclosed c) s →
    Made (Owned (suc room) (frame.OpenedName c)) closed token.RightParen s
enclosed_made {room = room} may closed (meaning.enclosed also m) = (
  _,
  meaning.opened_name may (meaning.named_in_parentheses (meaning.as_it_ends
      (meaning.no_more (meaning.value (meaning.behind_first (meaning.tail meaning.no_choice))))) m),
  λ rest whole ks f. skip_all 9 room _ whole _ (by_token f),
)
enclosed_made may closed (meaning.enclosed_cast b) =
    (_, meaning.opened_name may (meaning.named_of_cast b), λ rest whole ks f. by_part table.no_brackets (by_token f))
enclosed_made may closed (meaning.a_part is) = elim is [ ]
enclosed_made may closed (meaning.within is) = elim is [ ]
enclosed_made may closed (meaning.named_type is) = elim is [ ]
enclosed_made may closed (meaning.named_effect is p) = elim is [ ]
enclosed_made may closed (meaning.pair_of_type is) = elim is [ ]
enclosed_made may closed (meaning.pair_of_index is m i) = elim is [ ]

enclosed_back : (room : ℕ) {c : Context} → may_cast c ≡ true → (closed : Bool) (s : Stack) → Shapes (suc room) (here (frame.Enclosed c) ∷ []) s →
    Made (Owned (suc room) (frame.OpenedName c)) closed token.RightParen s
enclosed_back room may closed s (last_shape (own_here o)) = enclosed_made may closed o

pair_made : {room : ℕ} {c : Context} {s : Stack} → may_cast c ≡ true → (closed : Bool) → OpensPair room c s →
    Made (Owned room (frame.OpenedName c)) closed token.LeftBracket s
pair_made may closed (meaning.index_in_parentheses m n) = (
  _,
  meaning.opened_name may (meaning.named_in_parentheses (meaning.as_it_ends (meaning.more_places m)) n),
  λ rest whole ks f. by_part table.of_element (by_deep table.of_index (by_token f)),
)
pair_made may closed (meaning.pair_of_cast b) =
    (_, meaning.opened_name may (meaning.named_of_cast b), λ rest whole ks f. by_part table.more_brackets (by_token f))

pair_back : (room : ℕ) {c : Context} → may_cast c ≡ true → (closed : Bool) (s : Stack) → Shapes room (here (frame.OpenedPair c) ∷ []) s →
    Made (Owned room (frame.OpenedName c)) closed token.LeftBracket s
pair_back room may closed s (last_shape (own_here o)) = pair_made may closed (own.opened_pair_own o).1

opened_name_inside : (room : ℕ) {c : Context} → may_cast c ≡ true → (closed other : Bool) (first s : Stack) → Paths room context.Expression ending.Name first →
    Shapes (suc room) (inner_symbol room (frame.Expect token.RightParen) (a token.RightParen) ∷ here (frame.Path c ending.Other) ∷ []) s →
    (made : Stack) × Owned (suc room) (frame.OpenedName c) other made × ((rest : Stack) → Reads (first ++ (s ++ rest)) (made ++ rest))
opened_name_inside room may closed other first _ p (shaped an_inner_symbol (last_shape (own_here {own = s} o))) = (
  _,
  meaning.opened_name may (meaning.named_in_parentheses p (never_called (own.path_own o) refl)),
  λ rest. reads_equal (sym (appended_assoc first ((room, a token.RightParen) ∷ s) rest)),
)

pub opened_name_step : (c : Context) → Step (frame.OpenedName c)
opened_name_step c limit depth zero fits s is k n new t le = absurd (no_room (own.opened_name_own is).1)
  where
    no_room : {s : Stack} → OpensNamed zero c s → ⊥
    no_room p = elim p [ ]
opened_name_step c limit depth (suc room) fits s is k n new t le = at k (opened_name_view c k) t
  where
    may : may_cast c ≡ true
    may = (own.opened_name_own is).0

    at : (k : TokenKind) → OpenedNameView c k → opened_name c k ≡ takes n new → Sound limit depth (Owned (suc room) (frame.OpenedName c)) k new
    at _ closes_name t = same_new t (sound_forms (here (frame.Enclosed c) ∷ []) fits
        (next_ready (ready refl (meaning.enclosed may (some_more (suc room) c ending.Other).1)) none_ready) (enclosed_back room may))
    at _ opens_pair t = same_new t (sound_forms (here (frame.OpenedPair c) ∷ []) fits
        (next_ready (ready refl (meaning.opened_pair may (meaning.pair_of_cast (some_behind (suc room) c may).1))) none_ready) (pair_back (suc room) may))
    at k (goes_on e) t = sound_inside_forms 1 (inner_symbol room (frame.Expect token.RightParen) (a token.RightParen) ∷ here (frame.Path c ending.Other) ∷ [])
        (behind_path context.Expression ending.Name k) n new (sym e ∙ t) fits (closing_ready room c)
        (λ m fs so is. path_sound room (omega (arith, fits)) context.Expression ending.Name k m fs so (omega (arith, is, le)))
        (opened_name_inside room may)

-- ---- behind a bracket behind the name

closed_pair_made : {room : ℕ} {c : Context} {s : Stack} → may_cast c ≡ true → (closed : Bool) → Casts room false c s →
    Made (Owned room (frame.OpenedPair c)) closed token.RightBracket s
closed_pair_made may closed (meaning.named_type b) = (_, meaning.opened_pair may (meaning.pair_of_cast b), λ rest whole ks f. by_token f)

closed_pair_back : (room : ℕ) {c : Context} → may_cast c ≡ true → (closed : Bool) (s : Stack) → Shapes room (here (frame.CastType false c) ∷ []) s →
    Made (Owned room (frame.OpenedPair c)) closed token.RightBracket s
closed_pair_back room may closed s (last_shape (own_here o)) = closed_pair_made may closed (own.cast_type_own o)

abbrev index_forms : ℕ → Context → List Form
index_forms room c = innermost_symbol room (frame.Expect token.RightBracket) (a token.RightBracket)
    ∷ inner (suc room) (frame.Path context.Expression ending.Place)
    ∷ inner_symbol (suc room) (frame.Expect token.RightParen) (a token.RightParen) ∷ here (frame.Path c ending.Other) ∷ []

opened_pair_inside : (room : ℕ) {c : Context} → may_cast c ≡ true → (closed other : Bool) (first s : Stack) → Only room (part table.expression) closed first →
    Shapes (suc (suc room)) (index_forms room c) s →
    (made : Stack) × Owned (suc (suc room)) (frame.OpenedPair c) other made × ((rest : Stack) → Reads (first ++ (s ++ rest)) (made ++ rest))
opened_pair_inside room may closed other first _ e
    (shaped an_innermost_symbol (shaped (own_inner {own = within} p) (shaped an_inner_symbol (last_shape (own_here {own = s} o))))) = (
      _,
      meaning.opened_pair may (meaning.index_in_parentheses (never_called (own.path_own p) refl) (never_called (own.path_own o) refl)),
      λ rest. reads_equal (ap (λ x. x ++ (((room, a token.RightBracket) ∷ (within ++ ((suc room, a token.RightParen) ∷ s))) ++ rest)) e),
    )

index_forms_ready : (room : ℕ) (c : Context) → AllReady (suc (suc room)) (index_forms room c)
index_forms_ready room c = next_ready (ready_innermost_symbol refl (own.expect_only token.RightBracket) meaning.expected)
    (next_ready (ready_inner refl (meaning.path (meaning.as_it_ends (some_more (suc room) context.Expression ending.Place).1)))
    (next_ready (ready_inner_symbol refl (own.expect_only token.RightParen) meaning.expected)
    (next_ready (ready refl (meaning.path (meaning.as_it_ends (some_more (suc (suc room)) c ending.Other).1))) none_ready)))

pub opened_pair_step : (c : Context) → Step (frame.OpenedPair c)
opened_pair_step c limit depth room fits s is k n new t le = at room fits k (opened_pair_view c k) t
  where
    may : may_cast c ≡ true
    may = (own.opened_pair_own is).0

    index : (room : ℕ) → depth + room ≡ limit → (k : TokenKind) → opened_pair_index c k ≡ takes n new → (m : ℕ) → n ≡ 2 + m →
        Sound limit depth (Owned room (frame.OpenedPair c)) k new
    index zero fits k t m two = absurd (omega (arith, fits, le, two))
    index (suc zero) fits k t m two = absurd (omega (arith, fits, le, two))
    index (suc (suc room)) fits k t _ _ = sound_inside_forms 2 (index_forms room c) (begins context.Expression k) n new t fits (index_forms_ready room c)
        (λ m fs so is. expression_sound room (omega (arith, fits)) k m fs so (omega (arith, is, le)))
        (opened_pair_inside room may)

    at : (room : ℕ) → depth + room ≡ limit → (k : TokenKind) → OneView (opened_pair c) token.RightBracket (opened_pair_index c) k →
        opened_pair c k ≡ takes n new →
        Sound limit depth (Owned room (frame.OpenedPair c)) k new
    at zero fits _ the_one t = absurd (omega (arith, fits, le, same_depth t))
    at (suc room) fits _ the_one t = same_new t (sound_forms (here (frame.CastType false c) ∷ []) fits
        (next_ready (ready refl (meaning.cast_type (meaning.named_type (some_behind (suc room) c may).1))) none_ready) (closed_pair_back (suc room) may))
    at room fits k (another e) t = let i = inside_depth 2 _ (begins context.Expression k) n new (sym e ∙ t) in index room fits k (sym e ∙ t) i.0 i.1

-- ---- behind the type of a cast

bracket_made : {room : ℕ} {primitive : Bool} {c : Context} {s : Stack} → (closed : Bool) → Casts (suc room) primitive c s →
    Made (Owned (suc room) (frame.CastType primitive c)) closed token.LeftBracket ((room, a token.RightBracket) ∷ s)
bracket_made closed (meaning.primitive_type b) =
    (_, meaning.cast_type (meaning.primitive_type b), λ rest whole ks f. by_part table.more_brackets (by_token f))
bracket_made closed (meaning.named_type b) =
    (_, meaning.cast_type (meaning.named_type b), λ rest whole ks f. by_part table.more_brackets (by_token f))

bracket_back : (room : ℕ) (primitive : Bool) {c : Context} → (closed : Bool) (s : Stack) →
    Shapes (suc room) (inner_symbol room (frame.Expect token.RightBracket) (a token.RightBracket) ∷ here (frame.CastType primitive c) ∷ []) s →
    Made (Owned (suc room) (frame.CastType primitive c)) closed token.LeftBracket s
bracket_back room primitive closed _ (shaped an_inner_symbol (last_shape (own_here o))) = bracket_made closed (own.cast_type_own o)

-- the frame and the part of a cast's operand
abbrev cast_frame : Bool → Frame
cast_frame true = frame.Operand
cast_frame false = frame.Unsigned

abbrev cast_part : Bool → Part
cast_part true = table.unary
cast_part false = table.unsigned

cast_made : {room : ℕ} (primitive : Bool) {c : Context} {s : Stack} → (closed : Bool) → Behind (suc room) c s →
    Made (Owned (suc room) (frame.CastType primitive c)) closed token.RightParen ((suc room, deep (cast_part primitive)) ∷ s)
cast_made true closed b = (_, meaning.cast_type (meaning.primitive_type b), λ rest whole ks f. by_part table.no_brackets (by_token f))
cast_made false closed b = (_, meaning.cast_type (meaning.named_type b), λ rest whole ks f. by_part table.no_brackets (by_token f))

first_cast_back : (room : ℕ) (primitive : Bool) (f : Frame) (closed : Bool) (s : Stack) →
    Shapes (suc room) (deeper f (cast_part primitive) ∷ here (frame.Operators false) ∷ []) s →
    Made (Owned (suc room) (frame.CastType primitive context.Expression)) closed token.RightParen s
first_cast_back room primitive f closed _ (shaped a_deep (last_shape (own_here o))) = cast_made primitive closed (meaning.behind_first (own.operators_own o))

other_cast_back : (room : ℕ) (primitive : Bool) (f : Frame) (closed : Bool) (s : Stack) → Shapes (suc room) (deeper f (cast_part primitive) ∷ []) s →
    Made (Owned (suc room) (frame.CastType primitive context.Operand)) closed token.RightParen s
other_cast_back room primitive f closed _ (last_shape a_deep) = cast_made primitive closed meaning.behind_other

cast_may : {room : ℕ} {primitive : Bool} {c : Context} {s : Stack} → Casts room primitive c s → may_cast c ≡ true
cast_may (meaning.primitive_type (meaning.behind_first b)) = refl
cast_may (meaning.primitive_type meaning.behind_other) = refl
cast_may (meaning.named_type (meaning.behind_first b)) = refl
cast_may (meaning.named_type meaning.behind_other) = refl

cast_closed : {limit depth : ℕ} (room : ℕ) → depth + suc room ≡ limit → (primitive : Bool) (c : Context) → may_cast c ≡ true →
    Sound limit depth (Owned (suc room) (frame.CastType primitive c)) token.RightParen ((1, cast_frame primitive) ∷ rest_of c)
cast_closed room fits true context.Expression may = sound_forms (deeper frame.Operand table.unary ∷ here (frame.Operators false) ∷ []) fits
    (next_ready (ready_deep refl own.operand_only meaning.an_operand) (next_ready (ready refl (meaning.operators (meaning.tail meaning.no_choice))) none_ready))
    (first_cast_back room true frame.Operand)
cast_closed room fits false context.Expression may = sound_forms (deeper frame.Unsigned table.unsigned ∷ here (frame.Operators false) ∷ []) fits
    (next_ready (ready_deep refl own.unsigned_only meaning.an_unsigned)
    (next_ready (ready refl (meaning.operators (meaning.tail meaning.no_choice))) none_ready))
    (first_cast_back room false frame.Unsigned)
cast_closed room fits true context.Operand may = sound_forms (deeper frame.Operand table.unary ∷ []) fits
    (next_ready (ready_deep refl own.operand_only meaning.an_operand) none_ready) (other_cast_back room true frame.Operand)
cast_closed room fits false context.Operand may = sound_forms (deeper frame.Unsigned table.unsigned ∷ []) fits
    (next_ready (ready_deep refl own.unsigned_only meaning.an_unsigned) none_ready) (other_cast_back room false frame.Unsigned)
cast_closed room fits primitive context.Target may = absurd cc
cast_closed room fits primitive context.Effect may = absurd cc

closed_cast_move : (primitive : Bool) (c : Context) → cast_type primitive c token.RightParen ≡ takes 1 ((1, cast_frame primitive) ∷ rest_of c)
closed_cast_move true c = refl
closed_cast_move false c = refl

pub cast_type_step : (primitive : Bool) (c : Context) → Step (frame.CastType primitive c)
cast_type_step primitive c limit depth zero fits s is k n new t le = absurd (no_room (own.cast_type_own is))
  where
    no_room : {s : Stack} → Casts zero primitive c s → ⊥
    no_room p = elim p [ ]
cast_type_step primitive c limit depth (suc room) fits s is k n new t le = at k (cast_type_view primitive c k) t
  where
    at : (k : TokenKind) → TwoView (cast_type primitive c) token.LeftBracket token.RightParen refuses k → cast_type primitive c k ≡ takes n new →
        Sound limit depth (Owned (suc room) (frame.CastType primitive c)) k new
    at _ the_first t = same_new t (sound_forms (inner_symbol room (frame.Expect token.RightBracket) (a token.RightBracket)
        ∷ here (frame.CastType primitive c) ∷ []) fits
        (next_ready (ready_inner_symbol refl (own.expect_only token.RightBracket) meaning.expected) (next_ready (ready refl is) none_ready))
        (bracket_back room primitive))
    at _ the_second t = same_new (sym (closed_cast_move primitive c) ∙ t) (cast_closed room fits primitive c (cast_may (own.cast_type_own is)))
    at k (neither e) t = absurd cc

-- ---- behind a name in parentheses

pub enclosed_may : {room : ℕ} {c : Context} {s : Stack} → Own room (frame.Enclosed c) s → may_cast c ≡ true
enclosed_may (meaning.enclosed may m) = may
enclosed_may (meaning.enclosed_cast (meaning.behind_first b)) = refl
enclosed_may (meaning.enclosed_cast meaning.behind_other) = refl
enclosed_may (meaning.a_part is) = elim is [ ]
enclosed_may (meaning.within is) = elim is [ ]
enclosed_may (meaning.named_type is) = elim is [ ]
enclosed_may (meaning.named_effect is p) = elim is [ ]
enclosed_may (meaning.pair_of_type is) = elim is [ ]
enclosed_may (meaning.pair_of_index is m i) = elim is [ ]

cast_operand : (room : ℕ) (c : Context) (other : Bool) (first s : Stack) → first ≡ (room, part table.unsigned) ∷ [] → Behind (suc room) c s →
    (made : Stack) × Owned (suc room) (frame.Enclosed c) other made × ((rest : Stack) → Reads (first ++ (s ++ rest)) (made ++ rest))
cast_operand room c other first s e b =
    (_, meaning.enclosed_cast b, λ rest. after (reads_equal (ap (λ x. x ++ (s ++ rest)) e)) part_to_deep)

first_enclosed : (room : ℕ) (closed other : Bool) (first s : Stack) → Only room (part table.unsigned) closed first →
    Shapes (suc room) (here (frame.Operators false) ∷ []) s →
    (made : Stack) × Owned (suc room) (frame.Enclosed context.Expression) other made × ((rest : Stack) → Reads (first ++ (s ++ rest)) (made ++ rest))
first_enclosed room closed other first s e (last_shape (own_here o)) =
    cast_operand room context.Expression other first s e (meaning.behind_first (own.operators_own o))

other_enclosed : (room : ℕ) (closed other : Bool) (first s : Stack) → Only room (part table.unsigned) closed first → Shapes (suc room) [] s →
    (made : Stack) × Owned (suc room) (frame.Enclosed context.Operand) other made × ((rest : Stack) → Reads (first ++ (s ++ rest)) (made ++ rest))
other_enclosed room closed other first _ e no_shape = cast_operand room context.Operand other first [] e meaning.behind_other

enclosed_operand : {limit depth : ℕ} (room : ℕ) → depth + room ≡ limit → (c : Context) → may_cast c ≡ true → (k : TokenKind) → is_sign k ≡ false → (n : ℕ)
    (new : List (ℕ × Frame)) → inside 1 (rest_of c) (begins context.Operand k) ≡ takes n new → depth + n ≤ limit → (m : ℕ) → n ≡ 1 + m →
    Sound limit depth (Owned room (frame.Enclosed c)) k new
enclosed_operand zero fits c may k isnt n new t le m one = absurd (omega (arith, fits, le, one))
enclosed_operand (suc room) fits context.Expression may k isnt n new t le _ _ =
    sound_inside_forms 1 (here (frame.Operators false) ∷ []) (begins context.Operand k) n new t fits
    (next_ready (ready refl (meaning.operators (meaning.tail meaning.no_choice))) none_ready)
    (λ m fs so is. unsigned_sound room (omega (arith, fits)) k isnt m fs so (omega (arith, is, le)))
    (first_enclosed room)
enclosed_operand (suc room) fits context.Operand may k isnt n new t le _ _ =
    sound_inside_forms 1 [] (begins context.Operand k) n new t fits none_ready
    (λ m fs so is. unsigned_sound room (omega (arith, fits)) k isnt m fs so (omega (arith, is, le)))
    (other_enclosed room)
enclosed_operand (suc room) fits context.Target may k isnt n new t le _ _ = absurd cc
enclosed_operand (suc room) fits context.Effect may k isnt n new t le _ _ = absurd cc

pub enclosed_step : (c : Context) → Step (frame.Enclosed c)
enclosed_step c limit depth room fits s is k n new t le = elim (tested (begins_unsigned k) _ _ _ t) [
  | yes begins_so t ↦ (let i = inside_depth 1 (rest_of c) (begins context.Operand k) n new t in
      enclosed_operand room fits c (enclosed_may is) k (unsigned_no_sign k begins_so) n new t le i.0 i.1)
  | no isnt t ↦ sound_as (λ closed s p. meaning.enclosed (enclosed_may is) (never_called p refl)) (path_sound room fits c ending.Other k n new t le)
]
