-- What the recognizer does where an operand begins, and behind it.
use Rattle.std.proofs.Common.{◌≡◌, ℕ, ◌+◌, Bool, List, ◌∷◌, ◌++◌, refl, sym, subst, arith}
use Rattle.jsh_tree.specs.declared.token.TokenKind.{TokenKind}
use Rattle.jsh_tree.specs.declared.token.TokenKind.TheVariants as token
use Rattle.jsh_grammar.specs.Productions.{a, part, deep}
use Rattle.jsh_grammar.specs.Productions as table
use Rattle.jsh_recognizer.specs.declared.frame.Context.{Context}
use Rattle.jsh_recognizer.specs.declared.frame.Context.TheVariants as context
use Rattle.jsh_recognizer.specs.declared.frame.Ending.{Ending}
use Rattle.jsh_recognizer.specs.declared.frame.Ending.TheVariants as ending
use Rattle.jsh_recognizer.specs.Meanings.{Stack, Follows, by_token, by_class, by_part, by_deep}
use Rattle.jsh_recognizer.specs.Meanings as means
use Rattle.jsh_recognizer.specs.Machine.{Frames, begins, behind_path}
use Rattle.jsh_recognizer.specs.Meanings.{After, More, Paths, Means, a_frame, a_deep_frame}
use Rattle.jsh_recognizer.proofs.TakesOrder.{Closes, ClosesOperand, ClosesPath, Orderly}
use Rattle.jsh_recognizer.proofs.TakesOrder as order
use Rattle.jsh_recognizer.proofs.TakesStep.{Takes, FStep, taking, past}
use Rattle.jsh_recognizer.proofs.TakesPlaced.{takes_it}
use Rattle.jsh_recognizer.proofs.TakesClasses as class
use Rattle.jsh_recognizer.proofs.TakesOperand.{Begun, literal_first, this_first, name_first, super_first, parenthesis_first, new_first, step_first, prefix_first, step_of_value, step_of_effect, unary_begun}
use Rattle.jsh_recognizer.proofs.TakesTail.{expression_begun, effect_begun, closer, behind_token, tail_step, first_tail_token}

-- ---- where an operand begins

-- the recognizer takes the first token of an operand
pub begun_takes : {limit depth room : ℕ} {whole closed : Bool} {c : Context} {fs : Frames} {stack : Stack} {k : TokenKind} {ks : List TokenKind} →
    depth + room ≡ limit → ClosesPath c fs → Orderly fs → Means limit closed fs stack → Begun whole stack room c k ks →
    Takes limit whole depth fs ks (begins c k)
begun_takes {limit} {depth} {whole = whole} {c = c} {fs = fs} {k = k} {ks = ks} e closes orderly m (literal_first is more f) =
    subst (Takes limit whole depth fs ks) (sym (class.begins_literal c k is))
    (takes_it (omega (arith, e)) (closes, orderly) (a_frame e (means.path (means.as_it_ends more)) m) f)
begun_takes e closes orderly m (this_first more f) = takes_it (omega (arith, e)) (closes, orderly) (a_frame e (means.path (means.as_it_ends more)) m) f
begun_takes e closes orderly m (name_first paths f) = takes_it (omega (arith, e)) (closes, orderly) (a_frame e (means.path paths) m) f
begun_takes e closes orderly m (super_first more f) = takes_it (omega (arith, e)) (tt, (tt, (tt, (closes, orderly))))
    (a_frame e means.expected (a_frame e means.expected (a_frame e (means.within means.a_call) (a_frame e (means.path (means.as_it_ends more)) m)))) f
begun_takes {c = context.Expression} e closes orderly m (parenthesis_first (means.in_parentheses more) f) =
    takes_it (omega (arith, e)) (closes, orderly) (a_frame e (means.opened refl (means.in_parentheses more)) m) f
begun_takes {c = context.Expression} e closes orderly m (parenthesis_first (means.primitive_cast behind) f) =
    takes_it (omega (arith, e)) (closes, orderly) (a_frame e (means.opened refl (means.primitive_cast behind)) m) f
begun_takes {c = context.Expression} e closes orderly m (parenthesis_first (means.named_cast behind) f) =
    takes_it (omega (arith, e)) (closes, orderly) (a_frame e (means.opened refl (means.named_cast behind)) m) f
begun_takes {c = context.Operand} e closes orderly m (parenthesis_first (means.in_parentheses more) f) =
    takes_it (omega (arith, e)) (closes, orderly) (a_frame e (means.opened refl (means.in_parentheses more)) m) f
begun_takes {c = context.Operand} e closes orderly m (parenthesis_first (means.primitive_cast behind) f) =
    takes_it (omega (arith, e)) (closes, orderly) (a_frame e (means.opened refl (means.primitive_cast behind)) m) f
begun_takes {c = context.Operand} e closes orderly m (parenthesis_first (means.named_cast behind) f) =
    takes_it (omega (arith, e)) (closes, orderly) (a_frame e (means.opened refl (means.named_cast behind)) m) f
begun_takes {c = context.Target} e closes orderly m (parenthesis_first (means.in_parentheses more) f) =
    takes_it (omega (arith, e)) (order.closes_parenthesis, (tt, (closes, orderly)))
    (a_frame (omega (arith, e)) (means.a_part means.an_expression) (a_frame (omega (arith, e)) means.expected (a_frame e (means.path (means.as_it_ends more)) m))) f
begun_takes {c = context.Target} e closes orderly m (parenthesis_first (means.primitive_cast behind) f) = elim behind [ ]
begun_takes {c = context.Target} e closes orderly m (parenthesis_first (means.named_cast behind) f) = elim behind [ ]
begun_takes {c = context.Effect} e closes orderly m (parenthesis_first (means.in_parentheses more) f) =
    takes_it (omega (arith, e)) (order.closes_parenthesis, (tt, (closes, orderly)))
    (a_frame (omega (arith, e)) (means.a_part means.an_expression) (a_frame (omega (arith, e)) means.expected (a_frame e (means.path (means.as_it_ends more)) m))) f
begun_takes {c = context.Effect} e closes orderly m (parenthesis_first (means.primitive_cast behind) f) = elim behind [ ]
begun_takes {c = context.Effect} e closes orderly m (parenthesis_first (means.named_cast behind) f) = elim behind [ ]
begun_takes e closes orderly m (new_first own f) = takes_it (omega (arith, e)) (closes, orderly) (a_frame e own m) f
begun_takes {limit} {depth} {whole = whole} {fs = fs} {k = k} {ks = ks} e closes orderly m (step_first is (step_of_value (means.behind_first t)) f) =
    subst (Takes limit whole depth fs ks) (sym (class.first_step k is))
    (takes_it (omega (arith, e)) (order.before_operators closes, (closes, orderly)) (a_deep_frame e means.a_target (a_frame e (means.operators t) m)) f)
begun_takes {limit} {depth} {whole = whole} {fs = fs} {k = k} {ks = ks} e closes orderly m (step_first is (step_of_value means.behind_other) f) =
    subst (Takes limit whole depth fs ks) (sym (class.operand_step k is)) (takes_it (omega (arith, e)) (closes, orderly) (a_deep_frame e means.a_target m) f)
begun_takes {limit} {depth} {whole = whole} {fs = fs} {k = k} {ks = ks} e closes orderly m (step_first is step_of_effect f) =
    subst (Takes limit whole depth fs ks) (sym (class.effect_step k is))
    (takes_it (omega (arith, e)) (order.closes_expression closes, orderly) (a_deep_frame e means.a_target m) f)
begun_takes {limit} {depth} {whole = whole} {fs = fs} {k = k} {ks = ks} e closes orderly m (prefix_first is (means.behind_first t) f) =
    subst (Takes limit whole depth fs ks) (sym (class.first_prefix k is))
    (takes_it (omega (arith, e)) (order.before_operators closes, (closes, orderly)) (a_deep_frame e means.an_operand (a_frame e (means.operators t) m)) f)
begun_takes {limit} {depth} {whole = whole} {fs = fs} {k = k} {ks = ks} e closes orderly m (prefix_first is means.behind_other f) =
    subst (Takes limit whole depth fs ks) (sym (class.operand_prefix k is)) (takes_it (omega (arith, e)) (closes, orderly) (a_deep_frame e means.an_operand m) f)

pub expression_takes : {limit depth room : ℕ} {whole closed : Bool} {fs : Frames} {stack : Stack} {k : TokenKind} {ks : List TokenKind} →
    depth + room ≡ limit → Closes fs → Orderly fs → Means limit closed fs stack → Follows whole ((room, part table.expression) ∷ stack) (k ∷ ks) →
    Takes limit whole depth fs ks (begins context.Expression k)
expression_takes {stack = stack} e closes orderly m f = begun_takes e closes orderly m (expression_begun stack f)

pub effect_takes : {limit depth room : ℕ} {whole closed : Bool} {fs : Frames} {stack : Stack} {k : TokenKind} {ks : List TokenKind} →
    depth + room ≡ limit → Closes fs → Orderly fs → Means limit closed fs stack → Follows whole ((room, part table.statement_expression) ∷ stack) (k ∷ ks) →
    Takes limit whole depth fs ks (begins context.Effect k)
effect_takes {stack = stack} e closes orderly m f = begun_takes e closes orderly m (effect_begun stack f)

pub operand_takes : {limit depth room : ℕ} {whole closed : Bool} {fs : Frames} {stack : Stack} {k : TokenKind} {ks : List TokenKind} →
    depth + room ≡ limit → ClosesOperand fs → Orderly fs → Means limit closed fs stack → Follows whole ((room, part table.unary) ∷ stack) (k ∷ ks) →
    Takes limit whole depth fs ks (begins context.Operand k)
operand_takes {stack = stack} e closes orderly m f = begun_takes e closes orderly m (unary_begun stack means.behind_other f)

-- ---- what begins with a certain token

named : {whole : Bool} {room : ℕ} {c : Context} {stack : Stack} {ks : List TokenKind} → Begun whole stack room c token.Identifier ks →
    (own : Stack) × Paths room c ending.Name own × Follows whole (own ++ stack) ks
named (literal_first is more f) = absurd cc
named (name_first {rest = rest} paths f) = (rest, paths, f)
named (step_first is more f) = absurd cc
named (prefix_first is more f) = absurd cc

this_named : {whole : Bool} {room : ℕ} {c : Context} {stack : Stack} {ks : List TokenKind} → Begun whole stack room c token.This ks →
    (own : Stack) × More room c ending.Other own × Follows whole (own ++ stack) ks
this_named (literal_first is more f) = absurd cc
this_named (this_first {rest = rest} more f) = (rest, more, f)
this_named (step_first is more f) = absurd cc
this_named (prefix_first is more f) = absurd cc

super_named : {whole : Bool} {room : ℕ} {c : Context} {stack : Stack} {ks : List TokenKind} → Begun whole stack room c token.Super ks →
    (own : Stack) × More room c ending.Call own × Follows whole ((room, a token.Dot) ∷ (room, a token.Identifier) ∷ (room, deep table.arguments) ∷ (own ++ stack)) ks
super_named (literal_first is more f) = absurd cc
super_named (super_first {rest = rest} more f) = (rest, more, f)
super_named (step_first is more f) = absurd cc
super_named (prefix_first is more f) = absurd cc

pub effect_named : {room : ℕ} {whole : Bool} {stack : Stack} {ks : List TokenKind} →
    Follows whole ((room, part table.statement_expression) ∷ stack) (token.Identifier ∷ ks) →
    (own : Stack) × Paths room context.Effect ending.Name own × Follows whole (own ++ stack) ks
effect_named {stack = stack} f = named (effect_begun stack f)

pub effect_this : {room : ℕ} {whole : Bool} {stack : Stack} {ks : List TokenKind} →
    Follows whole ((room, part table.statement_expression) ∷ stack) (token.This ∷ ks) →
    (own : Stack) × More room context.Effect ending.Other own × Follows whole (own ++ stack) ks
effect_this {stack = stack} f = this_named (effect_begun stack f)

pub effect_super : {room : ℕ} {whole : Bool} {stack : Stack} {ks : List TokenKind} →
    Follows whole ((room, part table.statement_expression) ∷ stack) (token.Super ∷ ks) →
    (own : Stack) × More room context.Effect ending.Call own ×
    Follows whole ((room, a token.Dot) ∷ (room, a token.Identifier) ∷ (room, deep table.arguments) ∷ (own ++ stack)) ks
effect_super {stack = stack} f = super_named (effect_begun stack f)

pub expression_named : {room : ℕ} {whole : Bool} {stack : Stack} {ks : List TokenKind} →
    Follows whole ((room, part table.expression) ∷ stack) (token.Identifier ∷ ks) →
    (own : Stack) × Paths room context.Expression ending.Name own × Follows whole (own ++ stack) ks
expression_named {stack = stack} f = named (expression_begun stack f)

-- ---- behind an operand

-- what is behind a field may be behind a name
after_as_name : {room : ℕ} {c : Context} {rest : Stack} → After room c ending.Place rest → After room c ending.Name rest
after_as_name (means.value behind) = means.value behind
after_as_name (means.stepped is behind) = means.stepped refl behind
after_as_name (means.stepped_effect is) = means.stepped_effect refl
after_as_name (means.assigned is) = means.assigned refl
after_as_name (means.assigned_effect is) = means.assigned_effect refl
after_as_name (means.as_target is) = means.as_target refl

pub place_as_name : {room : ℕ} {c : Context} {rest : Stack} → More room c ending.Place rest → More room c ending.Name rest
place_as_name (means.no_more after) = means.no_more (after_as_name after)
place_as_name (means.more_places more) = means.more_places more
place_as_name (means.more_calls more) = means.more_calls more

pub after_step : {limit depth room : ℕ} {whole closed : Bool} {c : Context} {e : Ending} {fs : Frames} {own stack : Stack} {k : TokenKind} {ks : List TokenKind} →
    depth + room ≡ limit → ClosesPath c fs → Orderly fs → Means limit closed fs stack → After room c e own → Follows whole (own ++ stack) (k ∷ ks) →
    FStep limit whole depth fs stack k ks (behind_path c e k)
after_step {limit} {depth} {whole = whole} {e = end} {fs = fs} {stack = stack} {k = k} {ks = ks} e closes orderly m (means.value (means.behind_first t)) f =
    subst (FStep limit whole depth fs stack k ks) (sym (class.path_operand end k (first_tail_token closes m t f))) (tail_step e closes orderly m t f)
after_step {limit} {depth} {whole = whole} {e = end} {fs = fs} {stack = stack} {k = k} {ks = ks} e closes orderly m (means.value means.behind_other) f =
    subst (FStep limit whole depth fs stack k ks) (sym (class.operand_passes end k (behind_token closes m f))) (past f)
after_step {limit} {depth} {whole = whole} {e = end} {fs = fs} {stack = stack} {k = k} {ks = ks} e closes orderly m
    (means.stepped ends (means.behind_first t)) (by_class is f) =
    subst (FStep limit whole depth fs stack k ks) (sym (class.path_step end ends k is))
    (taking (takes_it (omega (arith, e)) (closes, orderly) (a_frame e (means.operators t) m) f))
after_step {limit} {depth} {whole = whole} {e = end} {fs = fs} {stack = stack} {k = k} {ks = ks} e closes orderly m
    (means.stepped ends means.behind_other) (by_class is f) =
    subst (FStep limit whole depth fs stack k ks) (sym (class.path_operand_step end ends k is)) (taking (takes_it (omega (arith, e)) orderly m f))
after_step {limit} {depth} {whole = whole} {e = end} {fs = fs} {stack = stack} {k = k} {ks = ks} e closes orderly m (means.stepped_effect ends) (by_class is f) =
    subst (FStep limit whole depth fs stack k ks) (sym (class.path_effect_step end ends k is)) (taking (takes_it (omega (arith, e)) orderly m f))
after_step {limit} {depth} {whole = whole} {e = end} {fs = fs} {stack = stack} {k = k} {ks = ks} e closes orderly m (means.assigned ends) (by_class is f) =
    subst (FStep limit whole depth fs stack k ks) (sym (class.path_assigned end ends k is))
    (taking (takes_it (omega (arith, e)) (closes, orderly) (a_deep_frame e means.an_expression m) f))
after_step {limit} {depth} {whole = whole} {e = end} {fs = fs} {stack = stack} {k = k} {ks = ks} e closes orderly m (means.assigned_effect ends) (by_class is f) =
    subst (FStep limit whole depth fs stack k ks) (sym (class.path_effect_assigned end ends k is))
    (taking (takes_it (omega (arith, e)) (closes, orderly) (a_deep_frame e means.an_expression m) f))
after_step {limit} {depth} {whole = whole} {e = end} {fs = fs} {stack = stack} {k = k} {ks = ks} e closes orderly m (means.as_target ends) f =
    subst (FStep limit whole depth fs stack k ks) (sym (class.target_passes end ends k (behind_token closes m f))) (past f)
after_step {limit} {depth} {whole = whole} {fs = fs} {stack = stack} {k = k} {ks = ks} e closes orderly m means.as_effect f =
    subst (FStep limit whole depth fs stack k ks) (sym (class.effect_passes k (closer closes m f))) (past f)

pub more_step : {limit depth room : ℕ} {whole closed : Bool} {c : Context} {e : Ending} {fs : Frames} {own stack : Stack} {k : TokenKind} {ks : List TokenKind} →
    depth + room ≡ limit → ClosesPath c fs → Orderly fs → Means limit closed fs stack → More room c e own → Follows whole (own ++ stack) (k ∷ ks) →
    FStep limit whole depth fs stack k ks (behind_path c e k)
more_step e closes orderly m (means.no_more after) f = after_step e closes orderly m after f
more_step e closes orderly m (means.more_places more) (by_part table.of_field (by_token f)) =
    taking (takes_it (omega (arith, e)) (closes, orderly) (a_frame e (means.a_member (means.as_it_ends (place_as_name more))) m) f)
more_step e closes orderly m (means.more_places more) (by_part table.of_element (by_deep table.of_index (by_token f))) =
    taking (takes_it (omega (arith, e)) (order.closes_index, (tt, (closes, orderly)))
    (a_frame (omega (arith, e)) (means.a_part means.an_expression) (a_frame (omega (arith, e)) means.expected (a_frame e (means.path (means.as_it_ends more)) m))) f)
more_step e closes orderly m (means.more_calls more) (by_token f) =
    taking (takes_it (omega (arith, e)) (closes, orderly) (a_frame e (means.a_member (means.name_called more)) m) f)

pub path_step : {limit depth room : ℕ} {whole closed : Bool} {c : Context} {e : Ending} {fs : Frames} {own stack : Stack} {k : TokenKind} {ks : List TokenKind} →
    depth + room ≡ limit → ClosesPath c fs → Orderly fs → Means limit closed fs stack → Paths room c e own → Follows whole (own ++ stack) (k ∷ ks) →
    FStep limit whole depth fs stack k ks (behind_path c e k)
path_step e closes orderly m (means.as_it_ends more) f = more_step e closes orderly m more f
path_step e closes orderly m (means.name_called more) (by_deep table.no_arguments (by_token f)) =
    taking (takes_it (omega (arith, e)) (tt, (closes, orderly))
    (a_frame (omega (arith, e)) (means.within means.no_argument) (a_frame e (means.path (means.as_it_ends more)) m)) f)
path_step e closes orderly m (means.name_called more) (by_deep table.some_arguments (by_token f)) =
    taking (takes_it (omega (arith, e)) (tt, (closes, orderly))
    (a_frame (omega (arith, e)) (means.within means.arguments) (a_frame e (means.path (means.as_it_ends more)) m)) f)
