-- Steps backwards in new objects and arrays.
use Rattle.std.proofs.Common.{◌≡◌, ℕ, zero, suc, ◌+◌, ◌≤◌, Bool, true, List, [], ◌∷◌, ◌++◌, refl, sym, ap, ◌∙◌, subst, arith}
use Rattle.jsh_tree.specs.declared.token.TokenKind.{TokenKind}
use Rattle.jsh_tree.specs.declared.token.TokenKind.TheVariants as token
use Rattle.jsh_grammar.specs.Classes.{is_primitive}
use Rattle.jsh_grammar.specs.Productions.{a, part, deep}
use Rattle.jsh_grammar.specs.Productions as table
use Rattle.jsh_recognizer.specs.declared.frame.Context.{Context}
use Rattle.jsh_recognizer.specs.declared.frame.Context.TheVariants as context
use Rattle.jsh_recognizer.specs.declared.frame.Ending.{Ending}
use Rattle.jsh_recognizer.specs.declared.frame.Ending.TheVariants as ending
use Rattle.jsh_recognizer.specs.declared.frame.Frame.{Frame}
use Rattle.jsh_recognizer.specs.declared.frame.Frame.TheVariants as frame
use Rattle.jsh_recognizer.specs.Machine.{takes, refuses, begins, behind_path, new_begins, new_named, new_primitive, new_opened, new_filled, new_sized, new_sized_opened, new_unsized, new_unsized_opened, indexed}
use Rattle.jsh_recognizer.specs.Meanings as meaning
use Rattle.jsh_recognizer.specs.Meanings.{Stack, by_token, by_class, by_part, by_deep, Own, More, Paths, Sizes, Created, Indexed}
use Rattle.jsh_recognizer.proofs.MeantStep.{Reads, ReadsBehind, reads_equal, appended_assoc, Sound, Owned, Only, is_plain, sound_as}
use Rattle.jsh_recognizer.proofs.MeantForms.{Form, here, symbol, inner, inner_symbol, ready, ready_symbol, ready_inner, ready_inner_symbol, none_ready, next_ready, own_here, a_symbol, own_inner, an_inner_symbol, Shapes, last_shape, shaped, Made, sound_forms, sound_read, sound_inside_forms, Step}
use Rattle.jsh_recognizer.proofs.MeantOwn as own
use Rattle.jsh_recognizer.proofs.MeantViews.{yes, no, tested, OneView, the_one, another, TwoView, the_first, the_second, neither, PathView, by_dot, by_bracket, by_call, by_whole, path_view, behind_whole, primitive_named, new_primitive_begins, new_begins_view, new_named_view, new_primitive_view, new_opened_view, new_filled_view, new_sized_view, new_sized_opened_view, new_unsized_view, new_unsized_opened_view}
use Rattle.jsh_recognizer.proofs.MeantOperands.{name_as_place}
use Rattle.jsh_recognizer.proofs.MeantPath.{same_new, same_depth, some_more, never_called, arguments_read, whole_sound, path_sound}
use Rattle.jsh_recognizer.proofs.MeantBegins.{expression_sound}
use Rattle.jsh_recognizer.proofs.MeantCasts.{inside_depth}

-- some size may stand behind `new` and a type
some_sizes : (room : ℕ) (c : Context) → (s : Stack) × Sizes room c s
some_sizes room c = (_, meaning.last_of_sizes (meaning.closed (some_more room c ending.Other).1))

some_created : (room : ℕ) (c : Context) → (s : Stack) × Created room c s
some_created room c = (_, meaning.with_values (some_more room c ending.Other).1)

-- ---- the type's name

named_made : {room : ℕ} {c : Context} {s : Stack} (closed : Bool) → Own room (frame.NewNamed c) s → Made (Owned room (frame.New c)) closed token.Identifier s
named_made closed (meaning.new_named_object m) = (_, meaning.new_object m, λ rest whole ks f. by_token f)
named_made closed (meaning.new_named_array m) = (_, meaning.new_array m, λ rest whole ks f. by_class refl f)
named_made closed (meaning.a_part is) = elim is [ ]
named_made closed (meaning.within is) = elim is [ ]
named_made closed (meaning.named_type is) = elim is [ ]
named_made closed (meaning.named_effect is p) = elim is [ ]
named_made closed (meaning.pair_of_type is) = elim is [ ]
named_made closed (meaning.pair_of_index is m i) = elim is [ ]

named_back : (room : ℕ) {c : Context} (closed : Bool) (s : Stack) → Shapes room (here (frame.NewNamed c) ∷ []) s →
    Made (Owned room (frame.New c)) closed token.Identifier s
named_back room closed s (last_shape (own_here o)) = named_made closed o

primitive_back : (room : ℕ) {c : Context} (k : TokenKind) → is_primitive k ≡ true → (closed : Bool) (s : Stack) →
    Shapes room (here (frame.NewPrimitive c) ∷ []) s →
    Made (Owned room (frame.New c)) closed k s
primitive_back room k is closed s (last_shape (own_here o)) =
    (_, meaning.new_array (own.new_primitive_own o), λ rest whole ks f. by_class (primitive_named k is) f)

pub new_step : (c : Context) → Step (frame.New c)
new_step c limit depth room fits s is k n new t le = at k (new_begins_view c k) t
  where
    at : (k : TokenKind) → OneView (new_begins c) token.Identifier (new_primitive_begins c) k → new_begins c k ≡ takes n new →
        Sound limit depth (Owned room (frame.New c)) k new
    at _ the_one t = same_new t (sound_forms (here (frame.NewNamed c) ∷ []) fits
        (next_ready (ready refl (meaning.new_named_array (some_created room c).1)) none_ready) (named_back room))
    at k (another e) t = elim (tested (is_primitive k) _ _ _ (sym e ∙ t)) [
      | yes is t ↦ same_new t (sound_forms (here (frame.NewPrimitive c) ∷ []) fits
          (next_ready (ready refl (meaning.new_primitive_array (some_created room c).1)) none_ready) (primitive_back room k is))
      | no isnt t ↦ absurd cc
    ]

-- ---- behind the type's name

object_back : (room : ℕ) {c : Context} (closed : Bool) (s : Stack) → Shapes (suc room) (inner room frame.Arguments ∷ here (frame.Path c ending.Call) ∷ []) s →
    Made (Owned (suc room) (frame.NewNamed c)) closed token.LeftParen s
object_back room closed _ (shaped (own_inner {own = first} args) (last_shape (own_here {own = second} o))) = (
  _,
  meaning.new_named_object (never_called (own.path_own o) refl),
  λ rest whole ks f. arguments_read args (second ++ rest) whole ks (reads_equal (appended_assoc first second rest) whole ks f),
)

opened_made : {room : ℕ} {c : Context} {s : Stack} (closed : Bool) → Own room (frame.NewOpened c) s →
    Made (λ closed t. Created room c t) closed token.LeftBracket s
opened_made closed (meaning.new_size z i) = size_made z i
  where
    size_made : {room : ℕ} {c : Context} {rest s : Stack} → Sizes room c rest → Indexed room rest s →
        Made (λ closed t. Created room c t) closed token.LeftBracket s
    size_made (meaning.last_of_sizes z) meaning.indexed =
        (_, meaning.with_sizes z, λ rest whole ks f. by_part table.last_size (by_deep table.of_index (by_token f)))
    size_made (meaning.more_of_sizes z) meaning.indexed =
        (_, meaning.with_sizes z, λ rest whole ks f. by_part table.more_sizes (by_deep table.of_index (by_token f)))
opened_made closed (meaning.new_values m) = (_, meaning.with_values m, λ rest whole ks f. by_token f)
opened_made closed (meaning.a_part is) = elim is [ ]
opened_made closed (meaning.within is) = elim is [ ]
opened_made closed (meaning.named_type is) = elim is [ ]
opened_made closed (meaning.named_effect is p) = elim is [ ]
opened_made closed (meaning.pair_of_type is) = elim is [ ]
opened_made closed (meaning.pair_of_index is m i) = elim is [ ]

opened_back : (room : ℕ) {c : Context} (closed : Bool) (s : Stack) → Shapes room (here (frame.NewOpened c) ∷ []) s →
    Made (λ closed t. Created room c t) closed token.LeftBracket s
opened_back room closed s (last_shape (own_here o)) = opened_made closed o

array_sound : {limit depth room : ℕ} → depth + room ≡ limit → (c : Context) →
    Sound limit depth (λ closed t. Created room c t) token.LeftBracket ((0, frame.NewOpened c) ∷ [])
array_sound {room = room} fits c = sound_forms (here (frame.NewOpened c) ∷ []) fits
    (next_ready (ready refl (meaning.new_values (some_more room c ending.Other).1)) none_ready) (opened_back room)

pub new_named_step : (c : Context) → Step (frame.NewNamed c)
new_named_step c limit depth room fits s is k n new t le = at room fits k (new_named_view c k) t
  where
    at : (room : ℕ) → depth + room ≡ limit → (k : TokenKind) → TwoView (new_named c) token.LeftParen token.LeftBracket refuses k → new_named c k ≡ takes n new →
        Sound limit depth (Owned room (frame.NewNamed c)) k new
    at zero fits _ the_first t = absurd (omega (arith, fits, le, same_depth t))
    at (suc room) fits _ the_first t = same_new t (sound_forms (inner room frame.Arguments ∷ here (frame.Path c ending.Call) ∷ []) fits
        (next_ready (ready_inner refl (meaning.within meaning.no_argument))
        (next_ready (ready refl (meaning.path (meaning.as_it_ends (some_more (suc room) c ending.Call).1))) none_ready))
        (object_back room))
    at room fits _ the_second t = same_new t (sound_as (λ closed s m. meaning.new_named_array m) (array_sound fits c))
    at room fits k (neither e) t = absurd cc

pub new_primitive_step : (c : Context) → Step (frame.NewPrimitive c)
new_primitive_step c limit depth room fits s is k n new t le = at k (new_primitive_view c k) t
  where
    at : (k : TokenKind) → OneView (new_primitive c) token.LeftBracket (λ k. refuses) k → new_primitive c k ≡ takes n new →
        Sound limit depth (Owned room (frame.NewPrimitive c)) k new
    at _ the_one t = same_new t (sound_as (λ closed s m. meaning.new_primitive_array m) (array_sound fits c))
    at k (another e) t = absurd cc

-- ---- brackets with a size in them

-- behind the size: its bracket, and then this frame
abbrev size_forms : ℕ → Frame → List Form
size_forms room f = inner_symbol room (frame.Expect token.RightBracket) (a token.RightBracket) ∷ here f ∷ []

-- an index where what stands behind it is of a kind
index_sound : {limit depth : ℕ} {P : ℕ → Stack → Type 0} {Q : ℕ → Bool → Stack → Type 0} (room : ℕ) → depth + room ≡ limit → (f : Frame) → is_plain f ≡ true →
    ((room : ℕ) → (s : Stack) × Own room f s) → ((room : ℕ) (s : Stack) → Own room f s → P room s) →
    ((room : ℕ) (closed : Bool) (rest s : Stack) → P room rest → Indexed room rest s → Q room closed s) →
    (k : TokenKind) (n : ℕ) (new : List (ℕ × Frame)) → indexed 1 ((0, f) ∷ []) k ≡ takes n new → depth + n ≤ limit → Sound limit depth (Q room) k new
index_sound {limit = limit} {depth = depth} {P = P} {Q = Q} room fits f plain some own_of made k n new t le =
    let i = inside_depth 1 _ (begins context.Expression k) n new t in at room fits i.0 i.1
  where
    inside_made : (room : ℕ) (closed other : Bool) (first s : Stack) → Only room (part table.expression) closed first →
        Shapes (suc room) (size_forms room f) s →
        (made : Stack) × Q (suc room) other made × ((rest : Stack) → Reads (first ++ (s ++ rest)) (made ++ rest))
    inside_made room closed other first _ e (shaped an_inner_symbol (last_shape (own_here {own = s} o))) = (
      _,
      made (suc room) other s _ (own_of (suc room) s o) meaning.indexed,
      λ rest. reads_equal (ap (λ x. x ++ ((room, a token.RightBracket) ∷ (s ++ rest))) e),
    )

    at : (room : ℕ) → depth + room ≡ limit → (m : ℕ) → n ≡ 1 + m → Sound limit depth (Q room) k new
    at zero fits m one = absurd (omega (arith, fits, le, one))
    at (suc room) fits m _ = sound_inside_forms 1 (size_forms room f) (begins context.Expression k) n new t fits
        (next_ready (ready_inner_symbol refl (own.expect_only token.RightBracket) meaning.expected) (next_ready (ready plain (some (suc room)).1) none_ready))
        (λ m fs so is. expression_sound room (omega (arith, fits)) k m fs so (omega (arith, is, le)))
        (inside_made room)

-- a size, where more sizes or none stand behind it
size_sound : {limit depth : ℕ} {Q : ℕ → Bool → Stack → Type 0} (room : ℕ) → depth + room ≡ limit → (c : Context) →
    ((room : ℕ) (closed : Bool) (rest s : Stack) → Sizes room c rest → Indexed room rest s → Q room closed s) →
    (k : TokenKind) (n : ℕ) (new : List (ℕ × Frame)) → indexed 1 ((0, frame.NewSized c) ∷ []) k ≡ takes n new → depth + n ≤ limit →
    Sound limit depth (Q room) k new
size_sound {Q = Q} room fits c made k n new t le = index_sound {P = λ room s. Sizes room c s} {Q = Q} room fits (frame.NewSized c) refl
    (λ room. let z = some_sizes room c in (z.0, meaning.new_sized z.1)) (λ room s o. own.new_sized_own o) made k n new t le

filled_made : {room : ℕ} {c : Context} {s : Stack} (closed : Bool) → Own room (frame.NewFilled c) s →
    Made (Owned room (frame.NewOpened c)) closed token.RightBracket s
filled_made closed (meaning.new_filled m) = (_, meaning.new_values m, λ rest whole ks f. by_token f)
filled_made closed (meaning.a_part is) = elim is [ ]
filled_made closed (meaning.within is) = elim is [ ]
filled_made closed (meaning.named_type is) = elim is [ ]
filled_made closed (meaning.named_effect is p) = elim is [ ]
filled_made closed (meaning.pair_of_type is) = elim is [ ]
filled_made closed (meaning.pair_of_index is m i) = elim is [ ]

filled_back : (room : ℕ) {c : Context} (closed : Bool) (s : Stack) → Shapes room (here (frame.NewFilled c) ∷ []) s →
    Made (Owned room (frame.NewOpened c)) closed token.RightBracket s
filled_back room closed s (last_shape (own_here o)) = filled_made closed o

pub new_opened_step : (c : Context) → Step (frame.NewOpened c)
new_opened_step c limit depth room fits s is k n new t le = at k (new_opened_view c k) t
  where
    at : (k : TokenKind) → OneView (new_opened c) token.RightBracket (indexed 1 ((0, frame.NewSized c) ∷ [])) k → new_opened c k ≡ takes n new →
        Sound limit depth (Owned room (frame.NewOpened c)) k new
    at _ the_one t = same_new t (sound_forms (here (frame.NewFilled c) ∷ []) fits
        (next_ready (ready refl (meaning.new_filled (some_more room c ending.Other).1)) none_ready) (filled_back room))
    at k (another e) t = size_sound {Q = λ room. Owned room (frame.NewOpened c)} room fits c (λ room closed rest s z i. meaning.new_size z i) k n new
        (sym e ∙ t) le

-- ---- empty brackets and values

-- values behind their brace
pub values_read : {room : ℕ} {s : Stack} → Own room frame.Values s → (rest : Stack) →
    ReadsBehind token.LeftBrace (s ++ rest) ((suc room, deep table.braces) ∷ rest)
values_read (meaning.within meaning.no_value) rest = λ whole ks f. by_deep table.no_values (by_token f)
values_read (meaning.within meaning.values) rest = λ whole ks f. by_deep table.some_values (by_token f)
values_read (meaning.a_part is) rest = elim is [ ]
values_read (meaning.named_type is) rest = elim is [ ]
values_read (meaning.named_effect is p) rest = elim is [ ]
values_read (meaning.pair_of_type is) rest = elim is [ ]
values_read (meaning.pair_of_index is m i) rest = elim is [ ]

empty_made : {room : ℕ} {c : Context} {s : Stack} (closed : Bool) → Own room (frame.NewFilled c) s →
    Made (Owned room (frame.NewFilled c)) closed token.LeftBracket ((room, a token.RightBracket) ∷ s)
empty_made closed (meaning.new_filled m) = (_, meaning.new_filled m, λ rest whole ks f. by_part table.more_brackets (by_token f))
empty_made closed (meaning.a_part is) = elim is [ ]
empty_made closed (meaning.within is) = elim is [ ]
empty_made closed (meaning.named_type is) = elim is [ ]
empty_made closed (meaning.named_effect is p) = elim is [ ]
empty_made closed (meaning.pair_of_type is) = elim is [ ]
empty_made closed (meaning.pair_of_index is m i) = elim is [ ]

empty_back : (room : ℕ) {c : Context} (closed : Bool) (s : Stack) →
    Shapes room (symbol (frame.Expect token.RightBracket) (a token.RightBracket) ∷ here (frame.NewFilled c) ∷ []) s →
    Made (Owned room (frame.NewFilled c)) closed token.LeftBracket s
empty_back room closed _ (shaped a_symbol (last_shape (own_here o))) = empty_made closed o

values_back : (room : ℕ) {c : Context} (closed : Bool) (s : Stack) → Shapes (suc room) (inner room frame.Values ∷ here (frame.Path c ending.Other) ∷ []) s →
    Made (Owned (suc room) (frame.NewFilled c)) closed token.LeftBrace s
values_back room closed _ (shaped (own_inner {own = first} o) (last_shape (own_here {own = second} p))) = (
  _,
  meaning.new_filled (never_called (own.path_own p) refl),
  λ rest whole ks f. by_part table.no_brackets (values_read o (second ++ rest) whole ks (reads_equal (appended_assoc first second rest) whole ks f)),
)

pub new_filled_step : (c : Context) → Step (frame.NewFilled c)
new_filled_step c limit depth room fits s is k n new t le = at room fits is k (new_filled_view c k) t
  where
    at : (room : ℕ) → depth + room ≡ limit → {s : Stack} → Own room (frame.NewFilled c) s → (k : TokenKind) →
        TwoView (new_filled c) token.LeftBracket token.LeftBrace refuses k → new_filled c k ≡ takes n new → Sound limit depth
        (Owned room (frame.NewFilled c)) k new
    at room fits is _ the_first t = same_new t (sound_forms (symbol (frame.Expect token.RightBracket) (a token.RightBracket)
        ∷ here (frame.NewFilled c) ∷ []) fits
        (next_ready (ready_symbol refl (own.expect_only token.RightBracket) meaning.expected) (next_ready (ready refl is) none_ready)) (empty_back room))
    at zero fits is _ the_second t = absurd (omega (arith, fits, le, same_depth t))
    at (suc room) fits is _ the_second t = same_new t (sound_forms (inner room frame.Values ∷ here (frame.Path c ending.Other) ∷ []) fits
        (next_ready (ready_inner refl (meaning.within meaning.no_value))
        (next_ready (ready refl (meaning.path (meaning.as_it_ends (some_more (suc room) c ending.Other).1))) none_ready))
        (values_back room))
    at room fits is k (neither e) t = absurd cc

-- ---- behind sizes

next_made : {room : ℕ} {c : Context} {s : Stack} (closed : Bool) → Own room (frame.NewSizedOpened c) s →
    Made (Owned room (frame.NewSized c)) closed token.LeftBracket s
next_made closed (meaning.next_size z i) = size_made z i
  where
    size_made : {room : ℕ} {c : Context} {rest s : Stack} → Sizes room c rest → Indexed room rest s →
        Made (Owned room (frame.NewSized c)) closed token.LeftBracket s
    size_made (meaning.last_of_sizes z) meaning.indexed =
        (_, meaning.new_sized (meaning.more_of_sizes z), λ rest whole ks f. by_part table.last_size (by_deep table.of_index (by_token f)))
    size_made (meaning.more_of_sizes z) meaning.indexed =
        (_, meaning.new_sized (meaning.more_of_sizes z), λ rest whole ks f. by_part table.more_sizes (by_deep table.of_index (by_token f)))
next_made closed (meaning.closing_pair m) = (_, meaning.new_sized (meaning.last_of_sizes (meaning.closed m)), λ rest whole ks f. by_token f)
next_made closed (meaning.a_part is) = elim is [ ]
next_made closed (meaning.within is) = elim is [ ]
next_made closed (meaning.named_type is) = elim is [ ]
next_made closed (meaning.named_effect is p) = elim is [ ]
next_made closed (meaning.pair_of_type is) = elim is [ ]
next_made closed (meaning.pair_of_index is m i) = elim is [ ]

next_back : (room : ℕ) {c : Context} (closed : Bool) (s : Stack) → Shapes room (here (frame.NewSizedOpened c) ∷ []) s →
    Made (Owned room (frame.NewSized c)) closed token.LeftBracket s
next_back room closed s (last_shape (own_here o)) = next_made closed o

-- a field or a call of the array
selected_made : {room : ℕ} {c : Context} {s : Stack} (closed : Bool) → Paths room c ending.Name s →
    Made (Owned room (frame.NewSized c)) closed token.Dot ((room, a token.Identifier) ∷ s)
selected_made closed (meaning.as_it_ends m) =
    (_, meaning.new_sized (meaning.last_of_sizes (meaning.sized (meaning.field_selected (name_as_place m)))), λ rest whole ks f. by_token f)
selected_made closed (meaning.name_called m) =
    (_, meaning.new_sized (meaning.last_of_sizes (meaning.sized (meaning.call_selected m))), λ rest whole ks f. by_token f)

selected_back : (room : ℕ) {c : Context} (closed : Bool) (s : Stack) → Shapes room (here (frame.Member c) ∷ []) s →
    Made (Owned room (frame.NewSized c)) closed token.Dot s
selected_back room {c = c} closed _ (last_shape (own_here o)) = at o
  where
    at : {s : Stack} → Own room (frame.Member c) s → Made (Owned room (frame.NewSized c)) closed token.Dot s
    at (meaning.a_member p) = selected_made closed p
    at (meaning.a_part is) = elim is [ ]
    at (meaning.within is) = elim is [ ]
    at (meaning.named_type is) = elim is [ ]
    at (meaning.named_effect is p) = elim is [ ]
    at (meaning.pair_of_type is) = elim is [ ]
    at (meaning.pair_of_index is m i) = elim is [ ]

pub new_sized_step : (c : Context) → Step (frame.NewSized c)
new_sized_step c limit depth room fits s is k n new t le = at k (new_sized_view c k) t
  where
    behind : (e : Ending) → e ≡ ending.Other → (k : TokenKind) → PathView c e k → new_sized c k ≡ behind_path c e k → new_sized c k ≡ takes n new →
        Sound limit depth (Owned room (frame.NewSized c)) k new
    behind e other _ by_dot same_move t = same_new t (sound_forms (here (frame.Member c) ∷ []) fits
        (next_ready (ready refl (meaning.a_member (meaning.as_it_ends (some_more room c ending.Name).1))) none_ready) (selected_back room))
    behind e other _ by_bracket same_move t = absurd cc
    behind _ other _ by_call same_move t = absurd cc
    behind e other k (by_whole is) same_move t = sound_as
        (λ closed s m. meaning.new_sized (meaning.last_of_sizes (meaning.sized (meaning.none_selected m))))
        (whole_sound fits c ending.Other k n new (subst (λ e. behind_whole c e k ≡ takes n new) other (sym is ∙ sym same_move ∙ t)))

    at : (k : TokenKind) → OneView (new_sized c) token.LeftBracket (behind_path c ending.Other) k → new_sized c k ≡ takes n new →
        Sound limit depth (Owned room (frame.NewSized c)) k new
    at _ the_one t = same_new t (sound_forms (here (frame.NewSizedOpened c) ∷ []) fits
        (next_ready (ready refl (meaning.closing_pair (some_more room c ending.Other).1)) none_ready) (next_back room))
    at k (another e) t = behind ending.Other refl k (path_view c ending.Other k) e t

unsized_made : {room : ℕ} {c : Context} {s : Stack} (closed : Bool) → Own room (frame.NewUnsized c) s →
    Made (Owned room (frame.NewSizedOpened c)) closed token.RightBracket s
unsized_made closed (meaning.new_unsized m) = (_, meaning.closing_pair m, λ rest whole ks f. by_token f)
unsized_made closed (meaning.a_part is) = elim is [ ]
unsized_made closed (meaning.within is) = elim is [ ]
unsized_made closed (meaning.named_type is) = elim is [ ]
unsized_made closed (meaning.named_effect is p) = elim is [ ]
unsized_made closed (meaning.pair_of_type is) = elim is [ ]
unsized_made closed (meaning.pair_of_index is m i) = elim is [ ]

unsized_back : (room : ℕ) {c : Context} (closed : Bool) (s : Stack) → Shapes room (here (frame.NewUnsized c) ∷ []) s →
    Made (Owned room (frame.NewSizedOpened c)) closed token.RightBracket s
unsized_back room closed s (last_shape (own_here o)) = unsized_made closed o

pub new_sized_opened_step : (c : Context) → Step (frame.NewSizedOpened c)
new_sized_opened_step c limit depth room fits s is k n new t le = at k (new_sized_opened_view c k) t
  where
    at : (k : TokenKind) → OneView (new_sized_opened c) token.RightBracket (indexed 1 ((0, frame.NewSized c) ∷ [])) k → new_sized_opened c k ≡ takes n new →
        Sound limit depth (Owned room (frame.NewSizedOpened c)) k new
    at _ the_one t = same_new t (sound_forms (here (frame.NewUnsized c) ∷ []) fits
        (next_ready (ready refl (meaning.new_unsized (some_more room c ending.Other).1)) none_ready) (unsized_back room))
    at k (another e) t = size_sound {Q = λ room. Owned room (frame.NewSizedOpened c)} room fits c
        (λ room closed rest s z i. meaning.next_size z i) k n new (sym e ∙ t) le

-- ---- behind empty brackets behind sizes

more_unsized : {room : ℕ} {c : Context} {s : Stack} (closed : Bool) → Own room (frame.NewUnsizedOpened c) s →
    Made (Owned room (frame.NewUnsized c)) closed token.LeftBracket s
more_unsized closed (meaning.unsized_pair m) = (_, meaning.new_unsized m, λ rest whole ks f. by_part table.more_brackets (by_token f))
more_unsized closed (meaning.unsized_index m i) = index_made m i
  where
    index_made : {room : ℕ} {c : Context} {rest s : Stack} → More room c ending.Place rest → Indexed room rest s →
        Made (Owned room (frame.NewUnsized c)) closed token.LeftBracket s
    index_made m meaning.indexed = (
      _,
      meaning.new_unsized (meaning.more_places m),
      λ rest whole ks f. by_part table.no_brackets (by_part table.of_element (by_deep table.of_index (by_token f))),
    )
more_unsized closed (meaning.a_part is) = elim is [ ]
more_unsized closed (meaning.within is) = elim is [ ]
more_unsized closed (meaning.named_type is) = elim is [ ]
more_unsized closed (meaning.named_effect is p) = elim is [ ]
more_unsized closed (meaning.pair_of_type is) = elim is [ ]
more_unsized closed (meaning.pair_of_index is m i) = elim is [ ]

more_unsized_back : (room : ℕ) {c : Context} (closed : Bool) (s : Stack) → Shapes room (here (frame.NewUnsizedOpened c) ∷ []) s →
    Made (Owned room (frame.NewUnsized c)) closed token.LeftBracket s
more_unsized_back room closed s (last_shape (own_here o)) = more_unsized closed o

pub new_unsized_step : (c : Context) → Step (frame.NewUnsized c)
new_unsized_step c limit depth room fits s is k n new t le = at k (new_unsized_view c k) t
  where
    at : (k : TokenKind) → OneView (new_unsized c) token.LeftBracket (behind_path c ending.Other) k → new_unsized c k ≡ takes n new →
        Sound limit depth (Owned room (frame.NewUnsized c)) k new
    at _ the_one t = same_new t (sound_forms (here (frame.NewUnsizedOpened c) ∷ []) fits
        (next_ready (ready refl (meaning.unsized_pair (some_more room c ending.Other).1)) none_ready) (more_unsized_back room))
    at k (another e) t = sound_read
        (λ closed s p. ((room, part table.brackets) ∷ s, meaning.new_unsized (never_called p refl), λ rest whole ks f. by_part table.no_brackets f))
        (path_sound room fits c ending.Other k n new (sym e ∙ t) le)

unsized_pair_made : {room : ℕ} {c : Context} {s : Stack} (closed : Bool) → Own room (frame.NewUnsized c) s →
    Made (Owned room (frame.NewUnsizedOpened c)) closed token.RightBracket s
unsized_pair_made closed (meaning.new_unsized m) = (_, meaning.unsized_pair m, λ rest whole ks f. by_token f)
unsized_pair_made closed (meaning.a_part is) = elim is [ ]
unsized_pair_made closed (meaning.within is) = elim is [ ]
unsized_pair_made closed (meaning.named_type is) = elim is [ ]
unsized_pair_made closed (meaning.named_effect is p) = elim is [ ]
unsized_pair_made closed (meaning.pair_of_type is) = elim is [ ]
unsized_pair_made closed (meaning.pair_of_index is m i) = elim is [ ]

unsized_pair_back : (room : ℕ) {c : Context} (closed : Bool) (s : Stack) → Shapes room (here (frame.NewUnsized c) ∷ []) s →
    Made (Owned room (frame.NewUnsizedOpened c)) closed token.RightBracket s
unsized_pair_back room closed s (last_shape (own_here o)) = unsized_pair_made closed o

pub new_unsized_opened_step : (c : Context) → Step (frame.NewUnsizedOpened c)
new_unsized_opened_step c limit depth room fits s is k n new t le = at k (new_unsized_opened_view c k) t
  where
    at : (k : TokenKind) → OneView (new_unsized_opened c) token.RightBracket (indexed 1 ((0, frame.Path c ending.Place) ∷ [])) k →
        new_unsized_opened c k ≡ takes n new → Sound limit depth (Owned room (frame.NewUnsizedOpened c)) k new
    at _ the_one t = same_new t (sound_forms (here (frame.NewUnsized c) ∷ []) fits
        (next_ready (ready refl (meaning.new_unsized (some_more room c ending.Other).1)) none_ready) (unsized_pair_back room))
    at k (another e) t = index_sound {P = λ room s. More room c ending.Place s} {Q = λ room. Owned room (frame.NewUnsizedOpened c)} room fits
        (frame.Path c ending.Place) refl (λ room. let m = some_more room c ending.Place in (m.0, meaning.path (meaning.as_it_ends m.1)))
        (λ room s o. never_called (own.path_own o) refl) (λ room closed rest s m i. meaning.unsized_index m i) k n new (sym e ∙ t) le
