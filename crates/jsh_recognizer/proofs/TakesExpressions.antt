-- What each of the recognizer's frames of expressions does with a token that isn't wrong.
use Rattle.std.proofs.Common.{◌≡◌, ℕ, suc, ◌+◌, Bool, List, ◌∷◌, ◌++◌, refl, arith}
use Rattle.jsh_tree.specs.declared.token.TokenKind.{TokenKind}
use Rattle.jsh_grammar.specs.Productions.{Part, part, deep}
use Rattle.jsh_recognizer.specs.declared.frame.Frame.{Frame}
use Rattle.jsh_recognizer.specs.Meanings.{Stack, Follows, by_token, by_part, by_deep}
use Rattle.jsh_recognizer.specs.Meanings as means
use Rattle.jsh_recognizer.specs.Machine.{Frames, move_of}
use Rattle.jsh_recognizer.specs.Meanings.{IsPartOf, Own, Means, a_frame}
use Rattle.jsh_recognizer.proofs.TakesOrder.{Fits, Orderly}
use Rattle.jsh_recognizer.proofs.TakesStep.{Takes, FStep, taking}
use Rattle.jsh_recognizer.proofs.TakesPlaced.{takes_it}
use Rattle.jsh_recognizer.proofs.TakesOwn.{Sort, of_part, of_symbols, of_operand, sort_of, OwnPart, the_part, own_part, OwnSymbols, the_symbols, own_symbols, OwnOperand, own_operand}
use Rattle.jsh_recognizer.proofs.TakesOwn as own
use Rattle.jsh_recognizer.proofs.TakesTail.{tail_step, type_tail_step}
use Rattle.jsh_recognizer.proofs.TakesPath.{expression_takes, effect_takes, operand_takes, path_step}
use Rattle.jsh_recognizer.proofs.TakesCasts.{opened_step, opened_name_step, opened_pair_step, cast_type_step, enclosed_step, enclosed_cast_step}
use Rattle.jsh_recognizer.proofs.TakesArrays as arrays
use Rattle.jsh_recognizer.proofs.TakesLists as lists
use Rattle.jsh_recognizer.proofs.TakesNothing.{IsExpressionSort, part_sort, symbols_sort, operand_sort}

operand_frame_step : {limit depth room : ℕ} {whole closed : Bool} {f : Frame} {fs : Frames} {x stack : Stack} {k : TokenKind} {ks : List TokenKind} →
    depth + room ≡ limit → Fits f fs → Orderly fs → Means limit closed fs stack → OwnOperand room f x → Follows whole (x ++ stack) (k ∷ ks) →
    FStep limit whole depth fs stack k ks (move_of f k)
operand_frame_step e fits orderly m (own.operators t) f = tail_step e fits orderly m t f
operand_frame_step e fits orderly m (own.operators_behind_type t) f = type_tail_step e fits orderly m t f
operand_frame_step e fits orderly m (own.path p) f = path_step e fits orderly m p f
operand_frame_step e fits orderly m (own.a_member p) (by_token f) = taking (takes_it (omega (arith, e)) (fits, orderly) (a_frame e (means.path p) m) f)
operand_frame_step e fits orderly m (own.opened may p) f = taking (opened_step e fits orderly m may p f)
operand_frame_step e fits orderly m (own.opened_name may p) f = taking (opened_name_step e fits orderly m may p f)
operand_frame_step e fits orderly m (own.opened_pair may p) f = taking (opened_pair_step e fits orderly m may p f)
operand_frame_step e fits orderly m (own.cast_type p) f = taking (cast_type_step e fits orderly m p f)
operand_frame_step e fits orderly m (own.enclosed may more) f = enclosed_step e fits orderly m more f
operand_frame_step e fits orderly m (own.enclosed_cast behind) f = taking (enclosed_cast_step e fits orderly m behind f)
operand_frame_step e fits orderly m (own.new_object more) (by_token f) =
    taking (takes_it (omega (arith, e)) (fits, orderly) (a_frame e (means.new_named_object more) m) f)
operand_frame_step e fits orderly m (own.new_array created) f = taking (arrays.new_array_step e fits orderly m created f)
operand_frame_step e fits orderly m (own.new_named_object more) f = taking (arrays.arguments_step e fits orderly m more f)
operand_frame_step e fits orderly m (own.new_named_array created) f = taking (arrays.new_named_step e fits orderly m created f)
operand_frame_step e fits orderly m (own.new_primitive_array created) f = taking (arrays.new_primitive_step e fits orderly m created f)
operand_frame_step e fits orderly m (own.new_size sizes index) f = taking (arrays.new_size_step e fits orderly m sizes index f)
operand_frame_step e fits orderly m (own.new_values more) (by_token f) =
    taking (takes_it (omega (arith, e)) (fits, orderly) (a_frame e (means.new_filled more) m) f)
operand_frame_step e fits orderly m (own.new_filled more) f = taking (arrays.new_filled_step e fits orderly m more f)
operand_frame_step e fits orderly m (own.new_sized sizes) f = arrays.new_sized_step e fits orderly m sizes f
operand_frame_step e fits orderly m (own.next_size sizes index) f = taking (arrays.next_size_step e fits orderly m sizes index f)
operand_frame_step e fits orderly m (own.closing_pair more) (by_token f) =
    taking (takes_it (omega (arith, e)) (fits, orderly) (a_frame e (means.new_unsized more) m) f)
operand_frame_step e fits orderly m (own.new_unsized more) f = arrays.new_unsized_step e fits orderly m more f
operand_frame_step e fits orderly m (own.unsized_pair more) (by_token f) =
    taking (takes_it (omega (arith, e)) (fits, orderly) (a_frame e (means.new_unsized more) m) f)
operand_frame_step e fits orderly m (own.unsized_index place index) f = taking (arrays.unsized_index_step e fits orderly m place index f)

-- a part in so much room, as it stands for the frame
pub part_frame_step : {limit depth room : ℕ} {whole closed : Bool} {f : Frame} {n : Part} {fs : Frames} {stack : Stack} {k : TokenKind} {ks : List TokenKind} →
    depth + room ≡ limit → Fits f fs → Orderly fs → Means limit closed fs stack → sort_of f ≡ of_part → IsPartOf f n →
    Follows whole ((room, part n) ∷ stack) (k ∷ ks) → Takes limit whole depth fs ks (move_of f k)
part_frame_step e fits orderly m is means.an_expression f = expression_takes e fits orderly m f
part_frame_step e fits orderly m is means.a_conditional f = lists.conditional_step e fits orderly m f
part_frame_step e fits orderly m is means.an_operand f = operand_takes e fits orderly m f
part_frame_step e fits orderly m is means.an_unsigned f = lists.unsigned_step e fits orderly m f
part_frame_step e fits orderly m is means.a_target f = lists.target_step e fits orderly m f
part_frame_step e fits orderly m is means.an_effect f = effect_takes e fits orderly m f
part_frame_step e fits orderly m is means.an_initial f = lists.initial_takes e fits orderly m f
part_frame_step e fits orderly m is means.a_type f = lists.type_step e fits orderly m f
part_frame_step e fits orderly m is _ f = absurd cc

-- a deep part that the frame stands for
pub deep_frame_step : {limit depth room : ℕ} {whole closed : Bool} {f : Frame} {n : Part} {fs : Frames} {stack : Stack} {k : TokenKind} {ks : List TokenKind} →
    depth + room ≡ limit → Fits f fs → Orderly fs → Means limit closed fs stack → sort_of f ≡ of_part → IsPartOf f n →
    Follows whole ((room, deep n) ∷ stack) (k ∷ ks) → Takes limit whole (suc depth) fs ks (move_of f k)
deep_frame_step e fits orderly m is stands (by_deep {room = r} of f) = part_frame_step (omega (arith, e)) fits orderly m is stands (by_part {room = r} of f)

symbols_frame_step : {limit depth room : ℕ} {whole closed : Bool} {f : Frame} {fs : Frames} {x stack : Stack} {k : TokenKind} {ks : List TokenKind} →
    depth + room ≡ limit → Fits f fs → Orderly fs → Means limit closed fs stack → sort_of f ≡ of_symbols → OwnSymbols room f x →
    Follows whole (x ++ stack) (k ∷ ks) →
    FStep limit whole depth fs stack k ks (move_of f k)
symbols_frame_step e fits orderly m is (the_symbols means.some_brackets) f = lists.brackets_step e fits orderly m f
symbols_frame_step {room = room} e fits orderly m is (the_symbols means.no_argument) f = taking (lists.arguments_step room e orderly m means.no_argument f)
symbols_frame_step {room = room} e fits orderly m is (the_symbols means.arguments) f = taking (lists.arguments_step room e orderly m means.arguments f)
symbols_frame_step {room = room} e fits orderly m is (the_symbols means.last_argument) f =
    taking (lists.more_arguments_step room e orderly m means.last_argument f)
symbols_frame_step {room = room} e fits orderly m is (the_symbols means.next_argument) f =
    taking (lists.more_arguments_step room e orderly m means.next_argument f)
symbols_frame_step e fits orderly m is (the_symbols means.a_call) f = taking (lists.open_arguments_step e orderly m f)
symbols_frame_step {room = room} e fits orderly m is (the_symbols means.no_value) f = taking (lists.values_step room e orderly m means.no_value f)
symbols_frame_step {room = room} e fits orderly m is (the_symbols means.values) f = taking (lists.values_step room e orderly m means.values f)
symbols_frame_step {room = room} e fits orderly m is (the_symbols means.last_value) f = taking (lists.more_values_step room e orderly m means.last_value f)
symbols_frame_step {room = room} e fits orderly m is (the_symbols means.last_comma) f = taking (lists.more_values_step room e orderly m means.last_comma f)
symbols_frame_step {room = room} e fits orderly m is (the_symbols means.next_value) f = taking (lists.more_values_step room e orderly m means.next_value f)
symbols_frame_step e fits orderly m is (the_symbols _) f = absurd cc

-- ---- all of them

own_part_step : {limit depth room : ℕ} {whole closed : Bool} {f : Frame} {fs : Frames} {x stack : Stack} {k : TokenKind} {ks : List TokenKind} →
    depth + room ≡ limit → Fits f fs → Orderly fs → Means limit closed fs stack → sort_of f ≡ of_part → OwnPart room f x → Follows whole (x ++ stack) (k ∷ ks) →
    FStep limit whole depth fs stack k ks (move_of f k)
own_part_step e fits orderly m is (the_part stands) f = taking (part_frame_step e fits orderly m is stands f)

step_by : {limit depth room : ℕ} {whole closed : Bool} {f : Frame} {fs : Frames} {x stack : Stack} {k : TokenKind} {ks : List TokenKind} {s : Sort} →
    depth + room ≡ limit → Fits f fs → Orderly fs → Means limit closed fs stack → sort_of f ≡ s → IsExpressionSort s → Own room f x →
    Follows whole (x ++ stack) (k ∷ ks) → FStep limit whole depth fs stack k ks (move_of f k)
step_by e fits orderly m same part_sort own f = own_part_step e fits orderly m same (own_part same own) f
step_by e fits orderly m same symbols_sort own f = symbols_frame_step e fits orderly m same (own_symbols same own) f
step_by e fits orderly m same operand_sort own f = operand_frame_step e fits orderly m (own_operand same own) f

-- A frame of an expression takes a token that isn't wrong, or passes where the token is one of what stands behind.
pub expression_frame_step : {limit depth room : ℕ} {whole closed : Bool} {f : Frame} {fs : Frames} {x stack : Stack} {k : TokenKind} {ks : List TokenKind} →
    IsExpressionSort (sort_of f) → depth + room ≡ limit → Fits f fs → Orderly fs → Means limit closed fs stack → Own room f x →
    Follows whole (x ++ stack) (k ∷ ks) → FStep limit whole depth fs stack k ks (move_of f k)
expression_frame_step is e fits orderly m own f = step_by e fits orderly m refl is own f

-- ---- each sort by itself

pub part_step : {limit depth room : ℕ} {whole closed : Bool} {f : Frame} {fs : Frames} {x stack : Stack} {k : TokenKind} {ks : List TokenKind} →
    sort_of f ≡ of_part → depth + room ≡ limit → Fits f fs → Orderly fs → Means limit closed fs stack → Own room f x →
    Follows whole (x ++ stack) (k ∷ ks) → FStep limit whole depth fs stack k ks (move_of f k)
part_step is e fits orderly m own f = own_part_step e fits orderly m is (own_part is own) f

pub symbols_step : {limit depth room : ℕ} {whole closed : Bool} {f : Frame} {fs : Frames} {x stack : Stack} {k : TokenKind} {ks : List TokenKind} →
    sort_of f ≡ of_symbols → depth + room ≡ limit → Fits f fs → Orderly fs → Means limit closed fs stack → Own room f x →
    Follows whole (x ++ stack) (k ∷ ks) → FStep limit whole depth fs stack k ks (move_of f k)
symbols_step is e fits orderly m own f = symbols_frame_step e fits orderly m is (own_symbols is own) f

pub operand_step : {limit depth room : ℕ} {whole closed : Bool} {f : Frame} {fs : Frames} {x stack : Stack} {k : TokenKind} {ks : List TokenKind} →
    sort_of f ≡ of_operand → depth + room ≡ limit → Fits f fs → Orderly fs → Means limit closed fs stack → Own room f x →
    Follows whole (x ++ stack) (k ∷ ks) → FStep limit whole depth fs stack k ks (move_of f k)
operand_step is e fits orderly m own f = operand_frame_step e fits orderly m (own_operand is own) f
