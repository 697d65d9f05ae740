-- What the recognizer does at the beginning of an operand, behind it and among operators.
use Rattle.std.proofs.Common.{◌≡◌, ℕ, zero, suc, ◌+◌, ◌<◌, Bool, true, false, ◌-◌, List, [], ◌∷◌, ◌++◌, refl, sym, ap, subst, arith}
use Rattle.jsh_tree.specs.declared.token.TokenKind.{TokenKind}
use Rattle.jsh_tree.specs.declared.token.TokenKind.TheVariants as token
use Rattle.jsh_grammar.specs.Classes.{is_operator}
use Rattle.jsh_grammar.specs.Productions.{Symbol, a, part, deep}
use Rattle.jsh_grammar.specs.Productions as table
use Rattle.jsh_grammar.specs.Leads.{in_room}
use Rattle.jsh_recognizer.specs.declared.frame.Context.TheVariants as context
use Rattle.jsh_recognizer.specs.declared.frame.Frame.{Frame}
use Rattle.jsh_recognizer.specs.declared.frame.Frame.TheVariants as frame
use Rattle.jsh_recognizer.specs.Meanings.{Stack, Follows, so_far, by_token, by_class, by_part}
use Rattle.jsh_recognizer.specs.Meanings as means
use Rattle.jsh_recognizer.specs.Machine.{Frames, behind_operand}
use Rattle.jsh_recognizer.specs.Meanings.{Tail, Choices, Own, Means, a_frame, a_deep_frame}
use Rattle.jsh_recognizer.proofs.TakesOwn.{OwnToken, the_token, own_token, OwnSymbols, the_symbols, own_symbols, OwnOperand, operators, operators_behind_type, own_operand}
use Rattle.jsh_recognizer.proofs.TakesOrder.{Closes, ClosesOperand, Orderly}
use Rattle.jsh_recognizer.proofs.TakesOrder as order
use Rattle.jsh_recognizer.proofs.TakesStep.{FStep, taking, past}
use Rattle.jsh_recognizer.proofs.TakesPlaced.{takes_it}
use Rattle.jsh_recognizer.proofs.TakesClasses.{is_closer, is_behind_operand, at_operator, at_loose_operator, at_closer, operator_behind_operand, closer_behind_operand}
use Rattle.jsh_recognizer.proofs.TakesOperand.{Begun, name_first, super_first, new_first, step_first, step_of_effect, primary_begun, created_begun, selected_ahead, target_begun, unary_begun}

-- ---- levels of operators

-- the operators of so many levels, the last one first
abbrev pub under : ℕ → List Symbol
under zero = []
under (suc n) = part (table.operations n) ∷ under n

-- a level in front of a stack
data Levelled (whole : Bool) (room : ℕ) (x : Stack) (ks : List TokenKind) : ℕ → Type 0 where
  stopped : {n : ℕ} → ((y : Stack) → Follows whole y ks) → Levelled whole room x ks n
  level_up : {n : ℕ} → n < 10 → Follows whole ((room, part (table.level (suc n))) ∷ (room, part (table.operations n)) ∷ x) ks → Levelled whole room x ks n
  last_level : Follows whole ((room, part table.unary) ∷ x) ks → Levelled whole room x ks 10

levelled : {whole : Bool} {room : ℕ} {x : Stack} {ks : List TokenKind} (n : ℕ) → Follows whole ((room, part (table.level n)) ∷ x) ks →
    Levelled whole room x ks n
levelled n so_far = stopped (λ y. so_far)
levelled n (by_part (table.of_level less) f) = level_up less f
levelled n (by_part table.of_operand f) = last_level f

-- a level is an operand and the operators of the levels behind it
climb_from : {whole : Bool} {room : ℕ} (x : Stack) {ks : List TokenKind} (others n : ℕ) → n + others ≡ 10 →
    Levelled whole room (in_room room (under n) ++ x) ks n →
    Follows whole ((room, part table.unary) ∷ (in_room room (under 10) ++ x)) ks
climb_from {room = room} x zero n e (stopped f) = f ((room, part table.unary) ∷ (in_room room (under 10) ++ x))
climb_from x zero n e (level_up less f) = absurd (omega (arith, e, less))
climb_from x zero n e (last_level f) = f
climb_from {room = room} x (suc others) n e (stopped f) = f ((room, part table.unary) ∷ (in_room room (under 10) ++ x))
climb_from x (suc others) n e (level_up less f) = climb_from x others (suc n) (omega (arith, e)) (levelled (suc n) f)
climb_from x (suc others) n e (last_level f) = f

climb : {whole : Bool} {room : ℕ} (x : Stack) {ks : List TokenKind} (others n : ℕ) → n + others ≡ 10 →
    Follows whole ((room, part (table.level n)) ∷ (in_room room (under n) ++ x)) ks →
    Follows whole ((room, part table.unary) ∷ (in_room room (under 10) ++ x)) ks
climb x others n e f = climb_from x others n e (levelled n f)

-- what begins with an operand, and then may have operators and branches
abbrev pub Rising : Bool → ℕ → Stack → List TokenKind → Type 0
Rising whole room stack ks = (tail : Stack) × Tail room 9 tail × Follows whole ((room, part table.unary) ∷ (tail ++ stack)) ks

pub conditional_rises : {whole : Bool} {room : ℕ} (stack : Stack) {ks : List TokenKind} → Follows whole ((room, part table.conditional) ∷ stack) ks →
    Rising whole room stack ks
conditional_rises {room = room} stack so_far = (in_room room (under 10) ++ [], means.tail means.no_choice, so_far)
conditional_rises {room = room} stack (by_part table.of_operators f) = (in_room room (under 10) ++ [], means.tail means.no_choice, climb stack 10 0 refl f)
conditional_rises {room = room} stack (by_part table.of_choice f) = (
  in_room room (under 10) ++ in_room room (a token.Question ∷ deep table.expression ∷ a token.Colon ∷ deep table.conditional ∷ []),
  means.tail means.one_choice,
  climb (in_room room (a token.Question ∷ deep table.expression ∷ a token.Colon ∷ deep table.conditional ∷ []) ++ stack) 10 0 refl f,
)

-- ---- how expressions begin

pub expression_begun : {whole : Bool} {room : ℕ} (stack : Stack) {k : TokenKind} {ks : List TokenKind} →
    Follows whole ((room, part table.expression) ∷ stack) (k ∷ ks) → Begun whole stack room context.Expression k ks
expression_begun stack (by_part table.of_conditional f) = let h = conditional_rises stack f in unary_begun stack (means.behind_first h.1) h.2
expression_begun stack (by_part table.of_assignment f) = target_begun stack (λ e is. means.assigned is) f

pub effect_begun : {whole : Bool} {room : ℕ} (stack : Stack) {k : TokenKind} {ks : List TokenKind} →
    Follows whole ((room, part table.statement_expression) ∷ stack) (k ∷ ks) → Begun whole stack room context.Effect k ks
effect_begun stack (by_part table.of_assignment_statement f) = target_begun stack (λ e is. means.assigned_effect is) f
effect_begun stack (by_part table.of_step_statement (by_class is f)) = step_first is step_of_effect f
effect_begun stack (by_part table.of_stepped_statement f) = target_begun stack (λ e is. means.stepped_effect is) f
effect_begun stack (by_part table.of_simple_call_statement (by_token f)) = name_first (means.name_called (means.no_more means.as_effect)) f
effect_begun stack (by_part table.of_super_call_statement (by_token f)) = super_first (means.no_more means.as_effect) f
effect_begun stack (by_part table.of_call_statement f) = primary_begun stack (λ e. means.more_calls (means.no_more means.as_effect)) f
effect_begun {room = room} stack (by_part table.of_created_call_statement f) = created_begun stack
    (λ r g. ((room, a token.Dot) ∷ (room, a token.Identifier) ∷ (room, deep table.arguments) ∷ [], means.call_selected (means.no_more means.as_effect), g)) f
effect_begun stack (by_part table.of_selected_call_statement f) =
    created_begun stack (λ r g. selected_ahead stack (λ e. means.more_calls (means.no_more means.as_effect)) g) f
effect_begun stack (by_part table.of_new_statement (by_token f)) = new_first (means.new_object (means.no_more means.as_effect)) f

pub target_alone : {whole : Bool} {room : ℕ} (stack : Stack) {k : TokenKind} {ks : List TokenKind} →
    Follows whole ((room, part table.target) ∷ stack) (k ∷ ks) → Begun whole stack room context.Target k ks
target_alone stack f = target_begun stack (λ e is. means.as_target is) f

-- ---- what may stand behind

-- a frame that is no statement, and what it stands for
pub data Framed (limit : ℕ) (depth : ℕ) (f : Frame) (fs : Frames) : Stack → Type 0 where
  framed : {closed : Bool} {room : ℕ} {own stack : Stack} → depth + room ≡ limit → Own room f own → Means limit closed fs stack →
      Framed limit depth f fs (own ++ stack)

framed_token : {limit depth : ℕ} {closed : Bool} {k : TokenKind} {fs : Frames} {stack : Stack} → Means limit closed ((depth, frame.Expect k) ∷ fs) stack →
    Framed limit depth (frame.Expect k) fs stack
framed_token (a_frame e own m) = framed e own m
framed_token (a_deep_frame e is m) = elim is [ ]

framed_argument : {limit depth : ℕ} {closed : Bool} {fs : Frames} {stack : Stack} → Means limit closed ((depth, frame.MoreArguments) ∷ fs) stack →
    Framed limit depth frame.MoreArguments fs stack
framed_argument (a_frame e own m) = framed e own m
framed_argument (a_deep_frame e is m) = elim is [ ]

framed_value : {limit depth : ℕ} {closed : Bool} {fs : Frames} {stack : Stack} → Means limit closed ((depth, frame.MoreValues) ∷ fs) stack →
    Framed limit depth frame.MoreValues fs stack
framed_value (a_frame e own m) = framed e own m
framed_value (a_deep_frame e is m) = elim is [ ]

pub framed_operators : {limit depth : ℕ} {closed b : Bool} {fs : Frames} {stack : Stack} → Means limit closed ((depth, frame.Operators b) ∷ fs) stack →
    Framed limit depth (frame.Operators b) fs stack
framed_operators (a_frame e own m) = framed e own m
framed_operators (a_deep_frame e is m) = elim is [ ]

own_taken : {whole : Bool} {room : ℕ} {own : Stack} {wanted k : TokenKind} {ks : List TokenKind} (rest : Stack) → OwnToken room wanted own →
    Follows whole (own ++ rest) (k ∷ ks) → wanted ≡ k
own_taken rest the_token (by_token f) = refl

framed_taken : {limit depth : ℕ} {whole : Bool} {wanted k : TokenKind} {fs : Frames} {stack : Stack} {ks : List TokenKind} →
    Framed limit depth (frame.Expect wanted) fs stack → Follows whole stack (k ∷ ks) → wanted ≡ k
framed_taken (framed {stack = rest} e own m) f = own_taken rest (own_token own) f

-- the token of a frame that takes only this one
pub taken_there : {limit depth : ℕ} {whole closed : Bool} {wanted k : TokenKind} {fs : Frames} {stack : Stack} {ks : List TokenKind} →
    Means limit closed ((depth, frame.Expect wanted) ∷ fs) stack → Follows whole stack (k ∷ ks) → wanted ≡ k
taken_there m f = framed_taken (framed_token m) f

argument_closer : {whole : Bool} {room : ℕ} {own : Stack} (rest : Stack) {k : TokenKind} {ks : List TokenKind} → OwnSymbols room frame.MoreArguments own →
    Follows whole (own ++ rest) (k ∷ ks) → is_closer k ≡ true
argument_closer rest (the_symbols means.last_argument) (by_token f) = refl
argument_closer rest (the_symbols means.next_argument) (by_token f) = refl

value_closer : {whole : Bool} {room : ℕ} {own : Stack} (rest : Stack) {k : TokenKind} {ks : List TokenKind} → OwnSymbols room frame.MoreValues own →
    Follows whole (own ++ rest) (k ∷ ks) → is_closer k ≡ true
value_closer rest (the_symbols means.last_value) (by_token f) = refl
value_closer rest (the_symbols means.last_comma) (by_token f) = refl
value_closer rest (the_symbols means.next_value) (by_token f) = refl

-- what closes an expression is a token of these
pub closer : {limit : ℕ} {whole closed : Bool} {fs : Frames} {stack : Stack} {k : TokenKind} {ks : List TokenKind} → Closes fs → Means limit closed fs stack →
    Follows whole stack (k ∷ ks) → is_closer k ≡ true
closer order.closes_all means.nothing f = elim f [ ]
closer order.closes_statement m f = let same = taken_there m f in ap is_closer (sym same)
closer order.closes_parenthesis m f = let same = taken_there m f in ap is_closer (sym same)
closer order.closes_index m f = let same = taken_there m f in ap is_closer (sym same)
closer order.closes_choice m f = let same = taken_there m f in ap is_closer (sym same)
closer {limit} {whole} {k = k} {ks = ks} (order.closes_argument {depth = depth} {fs = fs}) m f = at (framed_argument m) f
  where
    at : {stack : Stack} → Framed limit depth frame.MoreArguments fs stack → Follows whole stack (k ∷ ks) → is_closer k ≡ true
    at (framed {stack = rest} e own m) f = argument_closer rest (own_symbols refl own) f
closer {limit} {whole} {k = k} {ks = ks} (order.closes_value {depth = depth} {fs = fs}) m f = at (framed_value m) f
  where
    at : {stack : Stack} → Framed limit depth frame.MoreValues fs stack → Follows whole stack (k ∷ ks) → is_closer k ≡ true
    at (framed {stack = rest} e own m) f = value_closer rest (own_symbols refl own) f

-- ---- operators behind an operand

-- an operator of so many levels, the first one at least, or what stands behind them
data AtOperators (whole : Bool) (room : ℕ) (x : Stack) (ks : List TokenKind) : ℕ → TokenKind → Type 0 where
  at_an_operator : {n m : ℕ} {k : TokenKind} → is_operator m k ≡ true → m < n →
      Follows whole ((room, part table.unary) ∷ (in_room room (under 10) ++ x)) ks → AtOperators whole room x ks n k
  at_instanceof : {n : ℕ} → 6 < n → Follows whole ((room, part table.type_use) ∷ (in_room room (under 7) ++ x)) ks →
      AtOperators whole room x ks n token.Instanceof
  behind_operators : {n : ℕ} {k : TokenKind} → Follows whole x (k ∷ ks) → AtOperators whole room x ks n k

more_levels : {whole : Bool} {room : ℕ} {x : Stack} {ks : List TokenKind} {n : ℕ} {k : TokenKind} → AtOperators whole room x ks n k →
    AtOperators whole room x ks (suc n) k
more_levels (at_an_operator is less f) = at_an_operator is (omega (arith, less)) f
more_levels (at_instanceof less f) = at_instanceof (omega (arith, less)) f
more_levels (behind_operators f) = behind_operators f

at_operators : {whole : Bool} {room : ℕ} {x : Stack} {ks : List TokenKind} (n : ℕ) {k : TokenKind} → Follows whole (in_room room (under n) ++ x) (k ∷ ks) →
    AtOperators whole room x ks n k
at_operators zero f = behind_operators f
at_operators (suc n) (by_part table.no_operation f) = more_levels (at_operators n f)
at_operators {x = x} (suc n) (by_part (table.of_operation less) (by_class is f)) =
    at_an_operator is (omega arith) (climb x (9 - n) (suc n) (omega (arith, less)) f)
at_operators (suc n) (by_part table.of_instanceof (by_token f)) = at_instanceof (omega arith) f

-- behind all operators: the branches of a conditional, or what closes the expression
choice_step : {limit depth room : ℕ} {whole closed : Bool} {fs : Frames} {choice stack : Stack} {k : TokenKind} {ks : List TokenKind} (behind_type : Bool) →
    depth + room ≡ limit → Closes fs → Orderly fs → Means limit closed fs stack → Choices room choice → Follows whole (choice ++ stack) (k ∷ ks) →
    FStep limit whole depth fs stack k ks (behind_operand behind_type k)
choice_step {limit} {depth} {whole = whole} {fs = fs} {stack = stack} {k = k} {ks = ks} b e closes orderly m means.no_choice f =
    subst (FStep limit whole depth fs stack k ks) (sym (at_closer b k (closer closes m f))) (past f)
choice_step b e closes orderly m means.one_choice (by_token f) =
    taking (takes_it (omega (arith, e)) (order.closes_choice, (tt, (closes, orderly)))
    (a_deep_frame e means.an_expression (a_frame e means.expected (a_deep_frame e means.a_conditional m))) f)

-- operators down from the last level, or down from `instanceof`
all_operators_step : {limit depth room : ℕ} {whole closed : Bool} {fs : Frames} {choice stack : Stack} {k : TokenKind} {ks : List TokenKind} →
    depth + room ≡ limit → Closes fs → Orderly fs → Means limit closed fs stack → Choices room choice →
    AtOperators whole room (choice ++ stack) ks 10 k → FStep limit whole depth fs stack k ks (behind_operand false k)
all_operators_step {limit} {depth} {whole = whole} {fs = fs} {stack = stack} {k = k} {ks = ks} e closes orderly m branches (at_an_operator {m = n} is less f) =
    subst (FStep limit whole depth fs stack k ks) (sym (at_operator n k is)) (taking (takes_it (omega (arith, e)) (order.before_operators closes, (closes, orderly))
    (a_frame e (means.a_part means.an_operand) (a_frame e (means.operators (means.tail branches)) m)) f))
all_operators_step e closes orderly m branches (at_instanceof less f) =
    taking (takes_it (omega (arith, e)) (order.before_comparisons closes, (closes, orderly))
    (a_frame e (means.a_part means.a_type) (a_frame e (means.operators_behind_type (means.tail branches)) m)) f)
all_operators_step e closes orderly m branches (behind_operators f) = choice_step false e closes orderly m branches f

comparisons_step : {limit depth room : ℕ} {whole closed : Bool} {fs : Frames} {choice stack : Stack} {k : TokenKind} {ks : List TokenKind} →
    depth + room ≡ limit → Closes fs → Orderly fs → Means limit closed fs stack → Choices room choice →
    AtOperators whole room (choice ++ stack) ks 7 k → FStep limit whole depth fs stack k ks (behind_operand true k)
comparisons_step {limit} {depth} {whole = whole} {fs = fs} {stack = stack} {k = k} {ks = ks} e closes orderly m branches (at_an_operator {m = n} is less f) =
    subst (FStep limit whole depth fs stack k ks) (sym (at_loose_operator n k is less))
    (taking (takes_it (omega (arith, e)) (order.before_operators closes, (closes, orderly))
    (a_frame e (means.a_part means.an_operand) (a_frame e (means.operators (means.tail branches)) m)) f))
comparisons_step e closes orderly m branches (at_instanceof less f) =
    taking (takes_it (omega (arith, e)) (order.before_comparisons closes, (closes, orderly))
    (a_frame e (means.a_part means.a_type) (a_frame e (means.operators_behind_type (means.tail branches)) m)) f)
comparisons_step e closes orderly m branches (behind_operators f) = choice_step true e closes orderly m branches f

pub tail_step : {limit depth room : ℕ} {whole closed : Bool} {fs : Frames} {tail stack : Stack} {k : TokenKind} {ks : List TokenKind} →
    depth + room ≡ limit → Closes fs → Orderly fs → Means limit closed fs stack → Tail room 9 tail → Follows whole (tail ++ stack) (k ∷ ks) →
    FStep limit whole depth fs stack k ks (behind_operand false k)
tail_step e closes orderly m (means.tail branches) f = all_operators_step e closes orderly m branches (at_operators 10 f)

pub type_tail_step : {limit depth room : ℕ} {whole closed : Bool} {fs : Frames} {tail stack : Stack} {k : TokenKind} {ks : List TokenKind} →
    depth + room ≡ limit → Closes fs → Orderly fs → Means limit closed fs stack → Tail room 6 tail → Follows whole (tail ++ stack) (k ∷ ks) →
    FStep limit whole depth fs stack k ks (behind_operand true k)
type_tail_step e closes orderly m (means.tail branches) f = comparisons_step e closes orderly m branches (at_operators 7 f)

-- what an expression goes on with behind an operand
tail_token : {limit : ℕ} {whole closed : Bool} {room : ℕ} {fs : Frames} {choice stack : Stack} {k : TokenKind} {ks : List TokenKind} {n : ℕ} →
    Closes fs → Means limit closed fs stack → Choices room choice → AtOperators whole room (choice ++ stack) ks n k → is_behind_operand k ≡ true
tail_token {k = k} closes m branches (at_an_operator {m = n} is less f) = operator_behind_operand n k is
tail_token closes m branches (at_instanceof less f) = refl
tail_token {k = k} closes m means.no_choice (behind_operators f) = closer_behind_operand k (closer closes m f)
tail_token closes m means.one_choice (behind_operators (by_token f)) = refl

pub first_tail_token : {limit : ℕ} {whole closed : Bool} {room : ℕ} {fs : Frames} {tail stack : Stack} {k : TokenKind} {ks : List TokenKind} →
    Closes fs → Means limit closed fs stack → Tail room 9 tail → Follows whole (tail ++ stack) (k ∷ ks) → is_behind_operand k ≡ true
first_tail_token closes m (means.tail branches) f = tail_token closes m branches (at_operators 10 f)

pub type_tail_token : {limit : ℕ} {whole closed : Bool} {room : ℕ} {fs : Frames} {tail stack : Stack} {k : TokenKind} {ks : List TokenKind} →
    Closes fs → Means limit closed fs stack → Tail room 6 tail → Follows whole (tail ++ stack) (k ∷ ks) → is_behind_operand k ≡ true
type_tail_token closes m (means.tail branches) f = tail_token closes m branches (at_operators 7 f)

-- what comes behind an operand is an operator or closes
pub behind_token : {limit : ℕ} {whole closed : Bool} {fs : Frames} {stack : Stack} {k : TokenKind} {ks : List TokenKind} → ClosesOperand fs →
    Means limit closed fs stack →
    Follows whole stack (k ∷ ks) → is_behind_operand k ≡ true
behind_token {k = k} (order.closes_expression closes) m f = closer_behind_operand k (closer closes m f)
behind_token {limit} {whole} {k = k} {ks = ks} (order.before_operators {depth = depth} {behind_type = b} {fs = fs} closes) m f = at b (framed_operators m) f
  where
    by_own : {closed : Bool} {room : ℕ} {own rest : Stack} (b : Bool) → Means limit closed fs rest → OwnOperand room (frame.Operators b) own →
        Follows whole (own ++ rest) (k ∷ ks) → is_behind_operand k ≡ true
    by_own b m (operators t) f = first_tail_token closes m t f
    by_own b m (operators_behind_type t) f = type_tail_token closes m t f

    at : {stack : Stack} (b : Bool) → Framed limit depth (frame.Operators b) fs stack → Follows whole stack (k ∷ ks) → is_behind_operand k ≡ true
    at b (framed e own m) f = by_own b m (own_operand refl own) f
