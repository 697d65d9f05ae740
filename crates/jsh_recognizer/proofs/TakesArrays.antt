-- What the recognizer does in the creation of an array.
use Rattle.std.proofs.Common.{◌≡◌, ℕ, ◌+◌, Bool, true, List, [], ◌∷◌, ◌++◌, refl, subst, arith}
use Rattle.jsh_tree.specs.declared.token.TokenKind.{TokenKind}
use Rattle.jsh_tree.specs.declared.token.TokenKind.TheVariants as token
use Rattle.jsh_grammar.specs.Classes.{is_type_name}
use Rattle.jsh_grammar.specs.Productions.{any, part, deep}
use Rattle.jsh_grammar.specs.Productions as table
use Rattle.jsh_recognizer.specs.declared.frame.Context.{Context}
use Rattle.jsh_recognizer.specs.declared.frame.Ending.TheVariants as ending
use Rattle.jsh_recognizer.specs.declared.frame.Frame.TheVariants as frame
use Rattle.jsh_recognizer.specs.Meanings.{Stack, Follows, by_token, by_class, by_part, by_deep}
use Rattle.jsh_recognizer.specs.Meanings as means
use Rattle.jsh_recognizer.specs.Machine.{indexed, Frames, goes, behind_path}
use Rattle.jsh_recognizer.specs.Machine as machine
use Rattle.jsh_recognizer.specs.Meanings.{More, Unindexed, Sizes, Created, Indexed, Means, a_frame}
use Rattle.jsh_recognizer.proofs.TakesOrder.{ClosesPath, Orderly}
use Rattle.jsh_recognizer.proofs.TakesOrder as order
use Rattle.jsh_recognizer.proofs.TakesStep.{Takes, FStep, taking}
use Rattle.jsh_recognizer.proofs.TakesPlaced.{takes_it, takes_within}
use Rattle.jsh_recognizer.proofs.TakesPath.{expression_takes, after_step, more_step, place_as_name}
use Rattle.jsh_recognizer.proofs.TakesEnds.{path_index, after_bracket}

-- ---- behind `new`

new_named_at : {limit depth : ℕ} {whole : Bool} {fs : Frames} {ks : List TokenKind} (c : Context) (k : TokenKind) → is_type_name k ≡ true →
    Takes limit whole depth fs ks (goes (frame.NewNamed c ∷ [])) → Takes limit whole depth fs ks (goes (frame.NewPrimitive c ∷ [])) →
    Takes limit whole depth fs ks (machine.new_begins c k)
new_named_at c token.Identifier is named primitive = named
new_named_at c token.Int is named primitive = primitive
new_named_at c token.Long is named primitive = primitive
new_named_at c token.Char is named primitive = primitive
new_named_at c token.Boolean is named primitive = primitive
new_named_at c _ is named primitive = absurd cc

pub new_array_step : {limit depth room : ℕ} {whole closed : Bool} {c : Context} {fs : Frames} {own stack : Stack} {k : TokenKind} {ks : List TokenKind} →
    depth + room ≡ limit → ClosesPath c fs → Orderly fs → Means limit closed fs stack → Created room c own →
    Follows whole ((room, any is_type_name) ∷ (own ++ stack)) (k ∷ ks) → Takes limit whole depth fs ks (machine.new_begins c k)
new_array_step {c = c} {k = k} e closes orderly m created (by_class is f) = new_named_at c k is
    (takes_it (omega (arith, e)) (closes, orderly) (a_frame e (means.new_named_array created) m) f)
    (takes_it (omega (arith, e)) (closes, orderly) (a_frame e (means.new_primitive_array created) m) f)

pub arguments_step : {limit depth room : ℕ} {whole closed : Bool} {c : Context} {fs : Frames} {own stack : Stack} {k : TokenKind} {ks : List TokenKind} →
    depth + room ≡ limit → ClosesPath c fs → Orderly fs → Means limit closed fs stack → More room c ending.Call own →
    Follows whole ((room, deep table.arguments) ∷ (own ++ stack)) (k ∷ ks) → Takes limit whole depth fs ks (machine.new_named c k)
arguments_step e closes orderly m more (by_deep table.no_arguments (by_token f)) = takes_it (omega (arith, e)) (tt, (closes, orderly))
    (a_frame (omega (arith, e)) (means.within means.no_argument) (a_frame e (means.path (means.as_it_ends more)) m)) f
arguments_step e closes orderly m more (by_deep table.some_arguments (by_token f)) = takes_it (omega (arith, e)) (tt, (closes, orderly))
    (a_frame (omega (arith, e)) (means.within means.arguments) (a_frame e (means.path (means.as_it_ends more)) m)) f

pub new_named_step : {limit depth room : ℕ} {whole closed : Bool} {c : Context} {fs : Frames} {own stack : Stack} {k : TokenKind} {ks : List TokenKind} →
    depth + room ≡ limit → ClosesPath c fs → Orderly fs → Means limit closed fs stack → Created room c own →
    Follows whole (own ++ stack) (k ∷ ks) → Takes limit whole depth fs ks (machine.new_named c k)
new_named_step e closes orderly m (means.with_sizes made) (by_part table.last_size (by_deep table.of_index (by_token f))) =
    takes_it (omega (arith, e)) (closes, orderly) (a_frame e (means.new_size (means.last_of_sizes made) means.indexed) m) f
new_named_step e closes orderly m (means.with_sizes made) (by_part table.more_sizes (by_deep table.of_index (by_token f))) =
    takes_it (omega (arith, e)) (closes, orderly) (a_frame e (means.new_size (means.more_of_sizes made) means.indexed) m) f
new_named_step e closes orderly m (means.with_values more) (by_token f) = takes_it (omega (arith, e)) (closes, orderly) (a_frame e (means.new_values more) m) f

pub new_primitive_step : {limit depth room : ℕ} {whole closed : Bool} {c : Context} {fs : Frames} {own stack : Stack} {k : TokenKind} {ks : List TokenKind} →
    depth + room ≡ limit → ClosesPath c fs → Orderly fs → Means limit closed fs stack → Created room c own →
    Follows whole (own ++ stack) (k ∷ ks) → Takes limit whole depth fs ks (machine.new_primitive c k)
new_primitive_step e closes orderly m (means.with_sizes made) (by_part table.last_size (by_deep table.of_index (by_token f))) =
    takes_it (omega (arith, e)) (closes, orderly) (a_frame e (means.new_size (means.last_of_sizes made) means.indexed) m) f
new_primitive_step e closes orderly m (means.with_sizes made) (by_part table.more_sizes (by_deep table.of_index (by_token f))) =
    takes_it (omega (arith, e)) (closes, orderly) (a_frame e (means.new_size (means.more_of_sizes made) means.indexed) m) f
new_primitive_step e closes orderly m (means.with_values more) (by_token f) =
    takes_it (omega (arith, e)) (closes, orderly) (a_frame e (means.new_values more) m) f

-- ---- behind a bracket

new_opened_at : {limit depth : ℕ} {whole : Bool} {fs : Frames} {ks : List TokenKind} (c : Context) (k : TokenKind) →
    Takes limit whole depth fs ks (indexed 1 ((0, frame.NewSized c) ∷ []) k) → Takes limit whole depth fs ks (machine.new_opened c k)
new_opened_at c token.RightBracket t = elim t [ ]
new_opened_at c _ t = t

new_sized_opened_at : {limit depth : ℕ} {whole : Bool} {fs : Frames} {ks : List TokenKind} (c : Context) (k : TokenKind) →
    Takes limit whole depth fs ks (indexed 1 ((0, frame.NewSized c) ∷ []) k) → Takes limit whole depth fs ks (machine.new_sized_opened c k)
new_sized_opened_at c token.RightBracket t = elim t [ ]
new_sized_opened_at c _ t = t

new_unsized_opened_at : {limit depth : ℕ} {whole : Bool} {fs : Frames} {ks : List TokenKind} (c : Context) (k : TokenKind) →
    Takes limit whole depth fs ks (indexed 1 ((0, frame.Path c ending.Place) ∷ []) k) → Takes limit whole depth fs ks (machine.new_unsized_opened c k)
new_unsized_opened_at c token.RightBracket t = elim t [ ]
new_unsized_opened_at c _ t = t

-- a size behind its bracket
size_step : {limit depth room : ℕ} {whole closed : Bool} {c : Context} {fs : Frames} {rest own stack : Stack} {k : TokenKind} {ks : List TokenKind} →
    depth + room ≡ limit → ClosesPath c fs → Orderly fs → Means limit closed fs stack → Sizes room c rest → Indexed room rest own →
    Follows whole (own ++ stack) (k ∷ ks) → Takes limit whole depth fs ks (indexed 1 ((0, frame.NewSized c) ∷ []) k)
size_step {c = c} e closes orderly m sizes means.indexed f =
    takes_within 1 ((1, frame.Expect token.RightBracket) ∷ (0, frame.NewSized c) ∷ [])
    (expression_takes (omega (arith, e)) order.closes_index (tt, (closes, orderly))
    (a_frame (omega (arith, e)) means.expected (a_frame e (means.new_sized sizes) m)) f)

pub new_size_step : {limit depth room : ℕ} {whole closed : Bool} {c : Context} {fs : Frames} {rest own stack : Stack} {k : TokenKind} {ks : List TokenKind} →
    depth + room ≡ limit → ClosesPath c fs → Orderly fs → Means limit closed fs stack → Sizes room c rest → Indexed room rest own →
    Follows whole (own ++ stack) (k ∷ ks) → Takes limit whole depth fs ks (machine.new_opened c k)
new_size_step {c = c} {k = k} e closes orderly m sizes index f = new_opened_at c k (size_step e closes orderly m sizes index f)

pub next_size_step : {limit depth room : ℕ} {whole closed : Bool} {c : Context} {fs : Frames} {rest own stack : Stack} {k : TokenKind} {ks : List TokenKind} →
    depth + room ≡ limit → ClosesPath c fs → Orderly fs → Means limit closed fs stack → Sizes room c rest → Indexed room rest own →
    Follows whole (own ++ stack) (k ∷ ks) → Takes limit whole depth fs ks (machine.new_sized_opened c k)
next_size_step {c = c} {k = k} e closes orderly m sizes index f = new_sized_opened_at c k (size_step e closes orderly m sizes index f)

pub unsized_index_step : {limit depth room : ℕ} {whole closed : Bool} {c : Context} {fs : Frames} {rest own stack : Stack} {k : TokenKind} {ks : List TokenKind} →
    depth + room ≡ limit → ClosesPath c fs → Orderly fs → Means limit closed fs stack → More room c ending.Place rest → Indexed room rest own →
    Follows whole (own ++ stack) (k ∷ ks) → Takes limit whole depth fs ks (machine.new_unsized_opened c k)
unsized_index_step {c = c} {k = k} e closes orderly m more means.indexed f =
    new_unsized_opened_at c k (takes_within 1 ((1, frame.Expect token.RightBracket) ∷ (0, frame.Path c ending.Place) ∷ [])
    (expression_takes (omega (arith, e)) order.closes_index (tt, (closes, orderly))
    (a_frame (omega (arith, e)) means.expected (a_frame e (means.path (means.as_it_ends more)) m)) f))

pub new_filled_step : {limit depth room : ℕ} {whole closed : Bool} {c : Context} {fs : Frames} {own stack : Stack} {k : TokenKind} {ks : List TokenKind} →
    depth + room ≡ limit → ClosesPath c fs → Orderly fs → Means limit closed fs stack → More room c ending.Other own →
    Follows whole ((room, part table.brackets) ∷ (room, deep table.braces) ∷ (own ++ stack)) (k ∷ ks) → Takes limit whole depth fs ks (machine.new_filled c k)
new_filled_step e closes orderly m more (by_part table.no_brackets (by_deep table.no_values (by_token f))) = takes_it (omega (arith, e)) (tt, (closes, orderly))
    (a_frame (omega (arith, e)) (means.within means.no_value) (a_frame e (means.path (means.as_it_ends more)) m)) f
new_filled_step e closes orderly m more (by_part table.no_brackets (by_deep table.some_values (by_token f))) =
    takes_it (omega (arith, e)) (tt, (closes, orderly))
    (a_frame (omega (arith, e)) (means.within means.values) (a_frame e (means.path (means.as_it_ends more)) m)) f
new_filled_step e closes orderly m more (by_part table.more_brackets (by_token f)) = takes_it (omega (arith, e)) (tt, (closes, orderly))
    (a_frame e means.expected (a_frame e (means.new_filled more) m)) f

-- ---- behind a size

new_sized_at : {limit depth : ℕ} {whole : Bool} {fs : Frames} {stack : Stack} {ks : List TokenKind} (c : Context) (k : TokenKind) → (k ≡ token.LeftBracket →
    ⊥) →
    FStep limit whole depth fs stack k ks (behind_path c ending.Other k) → FStep limit whole depth fs stack k ks (machine.new_sized c k)
new_sized_at c token.LeftBracket apart t = absurd (apart refl)
new_sized_at c _ apart t = t

unindexed_step : {limit depth room : ℕ} {whole closed : Bool} {c : Context} {fs : Frames} {own stack : Stack} {k : TokenKind} {ks : List TokenKind} →
    depth + room ≡ limit → ClosesPath c fs → Orderly fs → Means limit closed fs stack → Unindexed room c own →
    Follows whole (own ++ stack) (k ∷ ks) → FStep limit whole depth fs stack k ks (machine.new_sized c k)
unindexed_step {whole = whole} {c = c} {stack = stack} {k = k} {ks = ks} e closes orderly m (means.none_selected {rest = own} after) f = new_sized_at c k
    (λ same. after_bracket closes m after (subst (λ j. Follows whole (own ++ stack) (j ∷ ks)) same f)) (after_step e closes orderly m after f)
unindexed_step e closes orderly m (means.field_selected more) (by_token f) =
    taking (takes_it (omega (arith, e)) (closes, orderly) (a_frame e (means.a_member (means.as_it_ends (place_as_name more))) m) f)
unindexed_step e closes orderly m (means.call_selected more) (by_token f) =
    taking (takes_it (omega (arith, e)) (closes, orderly) (a_frame e (means.a_member (means.name_called more)) m) f)

pub new_sized_step : {limit depth room : ℕ} {whole closed : Bool} {c : Context} {fs : Frames} {own stack : Stack} {k : TokenKind} {ks : List TokenKind} →
    depth + room ≡ limit → ClosesPath c fs → Orderly fs → Means limit closed fs stack → Sizes room c own →
    Follows whole (own ++ stack) (k ∷ ks) → FStep limit whole depth fs stack k ks (machine.new_sized c k)
new_sized_step e closes orderly m (means.last_of_sizes (means.sized unindexed)) f = unindexed_step e closes orderly m unindexed f
new_sized_step e closes orderly m (means.last_of_sizes (means.closed more)) (by_token f) =
    taking (takes_it (omega (arith, e)) (closes, orderly) (a_frame e (means.closing_pair more) m) f)
new_sized_step e closes orderly m (means.more_of_sizes made) (by_part table.last_size (by_deep table.of_index (by_token f))) =
    taking (takes_it (omega (arith, e)) (closes, orderly) (a_frame e (means.next_size (means.last_of_sizes made) means.indexed) m) f)
new_sized_step e closes orderly m (means.more_of_sizes made) (by_part table.more_sizes (by_deep table.of_index (by_token f))) =
    taking (takes_it (omega (arith, e)) (closes, orderly) (a_frame e (means.next_size (means.more_of_sizes made) means.indexed) m) f)

-- ---- behind empty brackets

new_unsized_at : {limit depth : ℕ} {whole : Bool} {fs : Frames} {stack : Stack} {ks : List TokenKind} (c : Context) (k : TokenKind) →
    (k ≡ token.LeftBracket → Takes limit whole depth fs ks (goes (frame.NewUnsizedOpened c ∷ []))) →
    FStep limit whole depth fs stack k ks (behind_path c ending.Other k) → FStep limit whole depth fs stack k ks (machine.new_unsized c k)
new_unsized_at c token.LeftBracket index t = taking (index refl)
new_unsized_at c _ index t = t

unsized_index : {limit depth room : ℕ} {whole closed : Bool} {c : Context} {fs : Frames} {rest index stack : Stack} {ks : List TokenKind} →
    depth + room ≡ limit → ClosesPath c fs → Orderly fs → Means limit closed fs stack → More room c ending.Place rest → Indexed room (rest ++ stack) index →
    Follows whole index ks → Takes limit whole depth fs ks (goes (frame.NewUnsizedOpened c ∷ []))
unsized_index e closes orderly m place means.indexed f = takes_it (omega (arith, e)) (closes, orderly) (a_frame e (means.unsized_index place means.indexed) m) f

pub new_unsized_step : {limit depth room : ℕ} {whole closed : Bool} {c : Context} {fs : Frames} {own stack : Stack} {k : TokenKind} {ks : List TokenKind} →
    depth + room ≡ limit → ClosesPath c fs → Orderly fs → Means limit closed fs stack → More room c ending.Other own →
    Follows whole ((room, part table.brackets) ∷ (own ++ stack)) (k ∷ ks) → FStep limit whole depth fs stack k ks (machine.new_unsized c k)
new_unsized_step e closes orderly m more (by_part table.more_brackets (by_token f)) =
    taking (takes_it (omega (arith, e)) (closes, orderly) (a_frame e (means.unsized_pair more) m) f)
new_unsized_step {whole = whole} {c = c} {own = own} {stack = stack} {k = k} {ks = ks} e closes orderly m more (by_part table.no_brackets f) =
    new_unsized_at c k
    (λ same. let h = path_index closes m (means.as_it_ends more) (subst (λ j. Follows whole (own ++ stack) (j ∷ ks)) same f) in
    unsized_index e closes orderly m h.2 h.3 h.4)
    (more_step e closes orderly m more f)
