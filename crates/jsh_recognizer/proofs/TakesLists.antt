-- What the recognizer does in arguments, array initializers and types, and where parts begin.
use Rattle.std.proofs.Common.{◌≡◌, ℕ, ◌+◌, Bool, true, false, List, [], ◌∷◌, ◌++◌, if◌then◌else◌, refl, sym, ap, subst, arith}
use Rattle.jsh_tree.specs.declared.token.TokenKind.{TokenKind}
use Rattle.jsh_tree.specs.declared.token.TokenKind.TheVariants as token
use Rattle.jsh_grammar.specs.Classes.{is_type_name}
use Rattle.jsh_grammar.specs.Productions.{Symbol, a, part, deep}
use Rattle.jsh_grammar.specs.Productions as table
use Rattle.jsh_grammar.specs.Leads.{in_room}
use Rattle.jsh_recognizer.specs.declared.frame.Context.TheVariants as context
use Rattle.jsh_recognizer.specs.declared.frame.Frame.TheVariants as frame
use Rattle.jsh_recognizer.specs.Meanings.{Stack, Follows, so_far, by_token, by_class, by_part, by_deep}
use Rattle.jsh_recognizer.specs.Meanings as means
use Rattle.jsh_recognizer.specs.Machine.{passes, refuses, inside, Frames, goes, begins, is_sign}
use Rattle.jsh_recognizer.specs.Machine as machine
use Rattle.jsh_recognizer.specs.Meanings.{Means, a_frame}
use Rattle.jsh_recognizer.proofs.TakesOrder.{Closes, ClosesOperand, BehindType, Orderly}
use Rattle.jsh_recognizer.proofs.TakesOrder as order
use Rattle.jsh_recognizer.proofs.TakesStep.{Takes, FStep, taking, past}
use Rattle.jsh_recognizer.proofs.TakesPlaced.{takes_it, takes_within}
use Rattle.jsh_recognizer.proofs.TakesClasses.{is_behind_operand}
use Rattle.jsh_recognizer.proofs.TakesPath.{begun_takes, expression_takes, operand_takes}
use Rattle.jsh_recognizer.specs.Meanings.{Within}
use Rattle.jsh_recognizer.proofs.TakesOperand.{unsigned_begun}
use Rattle.jsh_recognizer.proofs.TakesOwn.{OwnOperand, operators, operators_behind_type, own_operand}
use Rattle.jsh_recognizer.proofs.TakesTail.{Framed, framed, framed_operators, taken_there, first_tail_token, type_tail_token, conditional_rises, target_alone}
use Rattle.jsh_recognizer.proofs.TakesCasts.{unsigned_kind, unsigned_unsigned}

-- ---- arguments

pub open_arguments_step : {limit depth room : ℕ} {whole closed : Bool} {fs : Frames} {stack : Stack} {k : TokenKind} {ks : List TokenKind} →
    depth + room ≡ limit → Orderly fs → Means limit closed fs stack → Follows whole ((room, deep table.arguments) ∷ stack) (k ∷ ks) →
    Takes limit whole depth fs ks (machine.move_of frame.OpenArguments k)
open_arguments_step e orderly m (by_deep table.no_arguments (by_token f)) =
    takes_it (omega (arith, e)) (tt, orderly) (a_frame (omega (arith, e)) (means.within means.no_argument) m) f
open_arguments_step e orderly m (by_deep table.some_arguments (by_token f)) =
    takes_it (omega (arith, e)) (tt, orderly) (a_frame (omega (arith, e)) (means.within means.arguments) m) f

arguments_at : {limit depth : ℕ} {whole : Bool} {fs : Frames} {ks : List TokenKind} (k : TokenKind) →
    Takes limit whole depth fs ks (inside 0 ((0, frame.MoreArguments) ∷ []) (begins context.Expression k)) → Takes limit whole depth fs ks (machine.arguments k)
arguments_at token.RightParen t = elim t [ ]
arguments_at _ t = t

listed_step : {limit depth room : ℕ} {whole closed : Bool} {fs : Frames} {stack : Stack} {k : TokenKind} {ks : List TokenKind} →
    depth + room ≡ limit → Orderly fs → Means limit closed fs stack →
    Follows whole (in_room room (part table.listed ∷ a token.RightParen ∷ []) ++ stack) (k ∷ ks) →
    Takes limit whole depth fs ks (machine.arguments k)
listed_step {k = k} e orderly m (by_part table.last_argument f) = arguments_at k (takes_within 0 ((0, frame.MoreArguments) ∷ [])
    (expression_takes e order.closes_argument (tt, orderly) (a_frame e (means.within means.last_argument) m) f))
listed_step {k = k} e orderly m (by_part table.more_arguments f) = arguments_at k (takes_within 0 ((0, frame.MoreArguments) ∷ [])
    (expression_takes e order.closes_argument (tt, orderly) (a_frame e (means.within means.next_argument) m) f))

pub arguments_step : {limit depth : ℕ} (room : ℕ) {whole closed : Bool} {fs : Frames} {ss : List Symbol} {stack : Stack} {k : TokenKind} {ks : List TokenKind} →
    depth + room ≡ limit → Orderly fs → Means limit closed fs stack → Within frame.Arguments ss → Follows whole (in_room room ss ++ stack) (k ∷ ks) →
    Takes limit whole depth fs ks (machine.arguments k)
arguments_step room e orderly m means.no_argument (by_token f) = takes_it (omega (arith, e)) orderly m f
arguments_step room e orderly m means.arguments f = listed_step e orderly m f

-- behind a comma
next_argument_takes : {limit depth room : ℕ} {whole closed : Bool} {fs : Frames} {stack : Stack} {ks : List TokenKind} →
    depth + room ≡ limit → Orderly fs → Means limit closed fs stack → Follows whole (in_room room (part table.listed ∷ a token.RightParen ∷ []) ++ stack) ks →
    Takes limit whole depth fs ks (goes (frame.Expression ∷ frame.MoreArguments ∷ []))
next_argument_takes e orderly m so_far = takes_it (omega (arith, e)) (order.closes_argument, (tt, orderly))
    (a_frame e (means.a_part means.an_expression) (a_frame e (means.within means.last_argument) m)) so_far
next_argument_takes e orderly m (by_part table.last_argument f) = takes_it (omega (arith, e)) (order.closes_argument, (tt, orderly))
    (a_frame e (means.a_part means.an_expression) (a_frame e (means.within means.last_argument) m)) f
next_argument_takes e orderly m (by_part table.more_arguments f) = takes_it (omega (arith, e)) (order.closes_argument, (tt, orderly))
    (a_frame e (means.a_part means.an_expression) (a_frame e (means.within means.next_argument) m)) f

pub more_arguments_step : {limit depth : ℕ} (room : ℕ) {whole closed : Bool} {fs : Frames} {ss : List Symbol} {stack : Stack} {k : TokenKind} {ks : List TokenKind} →
    depth + room ≡ limit → Orderly fs → Means limit closed fs stack → Within frame.MoreArguments ss → Follows whole (in_room room ss ++ stack) (k ∷ ks) →
    Takes limit whole depth fs ks (machine.more_arguments k)
more_arguments_step room e orderly m means.last_argument (by_token f) = takes_it (omega (arith, e)) orderly m f
more_arguments_step room e orderly m means.next_argument (by_token f) = next_argument_takes e orderly m f

-- ---- array initializers

initial_at : {limit depth : ℕ} {whole : Bool} {fs : Frames} {ks : List TokenKind} (k : TokenKind) →
    Takes limit whole depth fs ks (begins context.Expression k) → Takes limit whole depth fs ks (machine.initial k)
initial_at token.LeftBrace t = elim t [ ]
initial_at _ t = t

pub initial_takes : {limit depth room : ℕ} {whole closed : Bool} {fs : Frames} {stack : Stack} {k : TokenKind} {ks : List TokenKind} →
    depth + room ≡ limit → Closes fs → Orderly fs → Means limit closed fs stack → Follows whole ((room, part table.initial) ∷ stack) (k ∷ ks) →
    Takes limit whole depth fs ks (machine.initial k)
initial_takes {k = k} e closes orderly m (by_part table.of_value f) = initial_at k (expression_takes e closes orderly m f)
initial_takes e closes orderly m (by_part table.of_values (by_deep table.no_values (by_token f))) =
    takes_it (omega (arith, e)) (tt, orderly) (a_frame (omega (arith, e)) (means.within means.no_value) m) f
initial_takes e closes orderly m (by_part table.of_values (by_deep table.some_values (by_token f))) =
    takes_it (omega (arith, e)) (tt, orderly) (a_frame (omega (arith, e)) (means.within means.values) m) f

values_at : {limit depth : ℕ} {whole : Bool} {fs : Frames} {ks : List TokenKind} (k : TokenKind) →
    Takes limit whole depth fs ks (inside 0 ((0, frame.MoreValues) ∷ []) (machine.initial k)) → Takes limit whole depth fs ks (machine.values k)
values_at token.RightBrace t = elim t [ ]
values_at _ t = t

initials_step : {limit depth room : ℕ} {whole closed : Bool} {fs : Frames} {stack : Stack} {k : TokenKind} {ks : List TokenKind} →
    depth + room ≡ limit → Orderly fs → Means limit closed fs stack →
    Follows whole (in_room room (part table.initials ∷ a token.RightBrace ∷ []) ++ stack) (k ∷ ks) →
    Takes limit whole depth fs ks (machine.values k)
initials_step {k = k} e orderly m (by_part table.last_value f) = values_at k (takes_within 0 ((0, frame.MoreValues) ∷ [])
    (initial_takes e order.closes_value (tt, orderly) (a_frame e (means.within means.last_value) m) f))
initials_step {k = k} e orderly m (by_part table.last_value_with_comma f) = values_at k (takes_within 0 ((0, frame.MoreValues) ∷ [])
    (initial_takes e order.closes_value (tt, orderly) (a_frame e (means.within means.last_comma) m) f))
initials_step {k = k} e orderly m (by_part table.more_values f) = values_at k (takes_within 0 ((0, frame.MoreValues) ∷ [])
    (initial_takes e order.closes_value (tt, orderly) (a_frame e (means.within means.next_value) m) f))

pub values_step : {limit depth : ℕ} (room : ℕ) {whole closed : Bool} {fs : Frames} {ss : List Symbol} {stack : Stack} {k : TokenKind} {ks : List TokenKind} →
    depth + room ≡ limit → Orderly fs → Means limit closed fs stack → Within frame.Values ss → Follows whole (in_room room ss ++ stack) (k ∷ ks) →
    Takes limit whole depth fs ks (machine.values k)
values_step room e orderly m means.no_value (by_token f) = takes_it (omega (arith, e)) orderly m f
values_step room e orderly m means.values f = initials_step e orderly m f

pub more_values_step : {limit depth : ℕ} (room : ℕ) {whole closed : Bool} {fs : Frames} {ss : List Symbol} {stack : Stack} {k : TokenKind} {ks : List TokenKind} →
    depth + room ≡ limit → Orderly fs → Means limit closed fs stack → Within frame.MoreValues ss → Follows whole (in_room room ss ++ stack) (k ∷ ks) →
    Takes limit whole depth fs ks (machine.more_values k)
more_values_step room e orderly m means.last_value (by_token f) = takes_it (omega (arith, e)) orderly m f
more_values_step room e orderly m means.last_comma (by_token f) = takes_it (omega (arith, e)) (tt, orderly) (a_frame e (means.within means.no_value) m) f
more_values_step room e orderly m means.next_value (by_token f) = takes_it (omega (arith, e)) (tt, orderly) (a_frame e (means.within means.values) m) f

-- ---- types

type_at : (k : TokenKind) → is_type_name k ≡ true → machine.type_use k ≡ goes (frame.Brackets ∷ [])
type_at token.Identifier is = refl
type_at _ is = cc

pub type_step : {limit depth room : ℕ} {whole closed : Bool} {fs : Frames} {stack : Stack} {k : TokenKind} {ks : List TokenKind} →
    depth + room ≡ limit → BehindType fs → Orderly fs → Means limit closed fs stack → Follows whole ((room, part table.type_use) ∷ stack) (k ∷ ks) →
    Takes limit whole depth fs ks (machine.type_use k)
type_step {limit} {depth} {whole = whole} {fs = fs} {ks = ks} e behind orderly m (by_part table.of_type (by_class {k = k} is f)) =
    subst (Takes limit whole depth fs ks) (sym (type_at k is)) (takes_it (omega (arith, e)) (behind, orderly) (a_frame e (means.within means.some_brackets) m) f)

operand_no_bracket : (k : TokenKind) → is_behind_operand k ≡ true → machine.brackets k ≡ passes
operand_no_bracket token.RightParen is = refl
operand_no_bracket _ is = cc

operators_no_bracket : {limit room : ℕ} {whole closed b : Bool} {fs : Frames} {own stack : Stack} {k : TokenKind} {ks : List TokenKind} → Closes fs →
    Means limit closed fs stack →
    OwnOperand room (frame.Operators b) own → Follows whole (own ++ stack) (k ∷ ks) → machine.brackets k ≡ passes
operators_no_bracket {k = k} closes m (operators t) f = operand_no_bracket k (first_tail_token closes m t f)
operators_no_bracket {k = k} closes m (operators_behind_type t) f = operand_no_bracket k (type_tail_token closes m t f)

framed_no_bracket : {limit depth : ℕ} {whole b : Bool} {fs : Frames} {stack : Stack} {k : TokenKind} {ks : List TokenKind} → Closes fs →
    Framed limit depth (frame.Operators b) fs stack → Follows whole stack (k ∷ ks) → machine.brackets k ≡ passes
framed_no_bracket closes (framed e own m) f = operators_no_bracket closes m (own_operand refl own) f

no_bracket : {limit : ℕ} {whole closed : Bool} {fs : Frames} {stack : Stack} {k : TokenKind} {ks : List TokenKind} → BehindType fs →
    Means limit closed fs stack →
    Follows whole stack (k ∷ ks) → machine.brackets k ≡ passes
no_bracket order.before_name m f = let same = taken_there m f in ap machine.brackets (sym same)
no_bracket (order.before_comparisons closes) m f = framed_no_bracket closes (framed_operators m) f

pub brackets_step : {limit depth room : ℕ} {whole closed : Bool} {fs : Frames} {stack : Stack} {k : TokenKind} {ks : List TokenKind} →
    depth + room ≡ limit → BehindType fs → Orderly fs → Means limit closed fs stack → Follows whole ((room, part table.brackets) ∷ stack) (k ∷ ks) →
    FStep limit whole depth fs stack k ks (machine.brackets k)
brackets_step {limit} {depth} {whole = whole} {fs = fs} {stack = stack} {k = k} {ks = ks} e behind orderly m (by_part table.no_brackets f) =
    subst (FStep limit whole depth fs stack k ks) (sym (no_bracket behind m f)) (past f)
brackets_step e behind orderly m (by_part table.more_brackets (by_token f)) =
    taking (takes_it (omega (arith, e)) (tt, (behind, orderly)) (a_frame e means.expected (a_frame e (means.within means.some_brackets) m)) f)

-- ---- parts

pub conditional_step : {limit depth room : ℕ} {whole closed : Bool} {fs : Frames} {stack : Stack} {k : TokenKind} {ks : List TokenKind} →
    depth + room ≡ limit → Closes fs → Orderly fs → Means limit closed fs stack → Follows whole ((room, part table.conditional) ∷ stack) (k ∷ ks) →
    Takes limit whole depth fs ks (machine.move_of frame.Conditional k)
conditional_step {stack = stack} e closes orderly m f = let h = conditional_rises stack f in
    takes_within 0 ((0, frame.Operators false) ∷ [])
    (operand_takes e (order.before_operators closes) (closes, orderly) (a_frame e (means.operators h.1) m) h.2)

unsigned_as : (k : TokenKind) (b : Bool) → is_sign k ≡ b → machine.move_of frame.Unsigned k ≡ (if b then refuses else begins context.Operand k)
unsigned_as k b is = ap (λ x. if x then refuses else begins context.Operand k) is

pub unsigned_step : {limit depth room : ℕ} {whole closed : Bool} {fs : Frames} {stack : Stack} {k : TokenKind} {ks : List TokenKind} →
    depth + room ≡ limit → ClosesOperand fs → Orderly fs → Means limit closed fs stack → Follows whole ((room, part table.unsigned) ∷ stack) (k ∷ ks) →
    Takes limit whole depth fs ks (machine.move_of frame.Unsigned k)
unsigned_step {limit} {depth} {whole = whole} {fs = fs} {stack = stack} {k = k} {ks = ks} e closes orderly m f =
    subst (Takes limit whole depth fs ks) (sym (unsigned_as k false (unsigned_unsigned k (unsigned_kind f))))
    (begun_takes e closes orderly m (unsigned_begun stack means.behind_other f))

pub target_step : {limit depth room : ℕ} {whole closed : Bool} {fs : Frames} {stack : Stack} {k : TokenKind} {ks : List TokenKind} →
    depth + room ≡ limit → ClosesOperand fs → Orderly fs → Means limit closed fs stack → Follows whole ((room, part table.target) ∷ stack) (k ∷ ks) →
    Takes limit whole depth fs ks (begins context.Target k)
target_step {stack = stack} e closes orderly m f = begun_takes e closes orderly m (target_alone stack f)
