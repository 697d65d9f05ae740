-- What a frame of expressions stands for, by the frame.
use Rattle.std.proofs.Common.{◌≡◌, ℕ, Bool, true, false, refl}
use Rattle.jsh_tree.specs.declared.token.TokenKind.{TokenKind}
use Rattle.jsh_grammar.specs.Productions.{a, part, deep}
use Rattle.jsh_grammar.specs.Productions as table
use Rattle.jsh_recognizer.specs.declared.frame.Context.{Context}
use Rattle.jsh_recognizer.specs.declared.frame.Ending.{Ending}
use Rattle.jsh_recognizer.specs.declared.frame.Frame.TheVariants as frame
use Rattle.jsh_recognizer.specs.Machine.{may_cast}
use Rattle.jsh_recognizer.specs.Meanings as meaning
use Rattle.jsh_recognizer.specs.Meanings.{Stack, Own, Tail, Paths, Opens, OpensNamed, OpensPair, Casts, Created, Sizes}
use Rattle.jsh_recognizer.proofs.MeantForms.{IsSymbol}

-- ---- frames that are always one symbol

pub expect_only : (k : TokenKind) → IsSymbol (frame.Expect k) (a k)
expect_only k room _ meaning.expected = refl
expect_only k room _ (meaning.a_part is) = elim is [ ]
expect_only k room _ (meaning.within is) = elim is [ ]
expect_only k room _ (meaning.named_type is) = elim is [ ]
expect_only k room _ (meaning.named_effect is p) = elim is [ ]
expect_only k room _ (meaning.pair_of_type is) = elim is [ ]
expect_only k room _ (meaning.pair_of_index is m i) = elim is [ ]

pub expression_only : IsSymbol frame.Expression (part table.expression)
expression_only room _ (meaning.a_part meaning.an_expression) = refl
expression_only room _ (meaning.within is) = elim is [ ]
expression_only room _ (meaning.named_type is) = elim is [ ]
expression_only room _ (meaning.named_effect is p) = elim is [ ]
expression_only room _ (meaning.pair_of_type is) = elim is [ ]
expression_only room _ (meaning.pair_of_index is m i) = elim is [ ]

pub conditional_only : IsSymbol frame.Conditional (part table.conditional)
conditional_only room _ (meaning.a_part meaning.a_conditional) = refl
conditional_only room _ (meaning.within is) = elim is [ ]
conditional_only room _ (meaning.named_type is) = elim is [ ]
conditional_only room _ (meaning.named_effect is p) = elim is [ ]
conditional_only room _ (meaning.pair_of_type is) = elim is [ ]
conditional_only room _ (meaning.pair_of_index is m i) = elim is [ ]

pub operand_only : IsSymbol frame.Operand (part table.unary)
operand_only room _ (meaning.a_part meaning.an_operand) = refl
operand_only room _ (meaning.within is) = elim is [ ]
operand_only room _ (meaning.named_type is) = elim is [ ]
operand_only room _ (meaning.named_effect is p) = elim is [ ]
operand_only room _ (meaning.pair_of_type is) = elim is [ ]
operand_only room _ (meaning.pair_of_index is m i) = elim is [ ]

pub unsigned_only : IsSymbol frame.Unsigned (part table.unsigned)
unsigned_only room _ (meaning.a_part meaning.an_unsigned) = refl
unsigned_only room _ (meaning.within is) = elim is [ ]
unsigned_only room _ (meaning.named_type is) = elim is [ ]
unsigned_only room _ (meaning.named_effect is p) = elim is [ ]
unsigned_only room _ (meaning.pair_of_type is) = elim is [ ]
unsigned_only room _ (meaning.pair_of_index is m i) = elim is [ ]

pub target_only : IsSymbol frame.Target (part table.target)
target_only room _ (meaning.a_part meaning.a_target) = refl
target_only room _ (meaning.within is) = elim is [ ]
target_only room _ (meaning.named_type is) = elim is [ ]
target_only room _ (meaning.named_effect is p) = elim is [ ]
target_only room _ (meaning.pair_of_type is) = elim is [ ]
target_only room _ (meaning.pair_of_index is m i) = elim is [ ]

pub effect_only : IsSymbol frame.Effect (part table.statement_expression)
effect_only room _ (meaning.a_part meaning.an_effect) = refl
effect_only room _ (meaning.within is) = elim is [ ]
effect_only room _ (meaning.named_type is) = elim is [ ]
effect_only room _ (meaning.named_effect is p) = elim is [ ]
effect_only room _ (meaning.pair_of_type is) = elim is [ ]
effect_only room _ (meaning.pair_of_index is m i) = elim is [ ]

pub initial_only : IsSymbol frame.Initial (part table.initial)
initial_only room _ (meaning.a_part meaning.an_initial) = refl
initial_only room _ (meaning.within is) = elim is [ ]
initial_only room _ (meaning.named_type is) = elim is [ ]
initial_only room _ (meaning.named_effect is p) = elim is [ ]
initial_only room _ (meaning.pair_of_type is) = elim is [ ]
initial_only room _ (meaning.pair_of_index is m i) = elim is [ ]

pub type_only : IsSymbol frame.Type (part table.type_use)
type_only room _ (meaning.a_part meaning.a_type) = refl
type_only room _ (meaning.within is) = elim is [ ]
type_only room _ (meaning.named_type is) = elim is [ ]
type_only room _ (meaning.named_effect is p) = elim is [ ]
type_only room _ (meaning.pair_of_type is) = elim is [ ]
type_only room _ (meaning.pair_of_index is m i) = elim is [ ]

pub brackets_only : IsSymbol frame.Brackets (part table.brackets)
brackets_only room _ (meaning.within meaning.some_brackets) = refl
brackets_only room _ (meaning.a_part is) = elim is [ ]
brackets_only room _ (meaning.named_type is) = elim is [ ]
brackets_only room _ (meaning.named_effect is p) = elim is [ ]
brackets_only room _ (meaning.pair_of_type is) = elim is [ ]
brackets_only room _ (meaning.pair_of_index is m i) = elim is [ ]

pub open_arguments_only : IsSymbol frame.OpenArguments (deep table.arguments)
open_arguments_only room _ (meaning.within meaning.a_call) = refl
open_arguments_only room _ (meaning.a_part is) = elim is [ ]
open_arguments_only room _ (meaning.named_type is) = elim is [ ]
open_arguments_only room _ (meaning.named_effect is p) = elim is [ ]
open_arguments_only room _ (meaning.pair_of_type is) = elim is [ ]
open_arguments_only room _ (meaning.pair_of_index is m i) = elim is [ ]

-- ---- frames of one kind of stack

pub path_own : {room : ℕ} {c : Context} {e : Ending} {own : Stack} → Own room (frame.Path c e) own → Paths room c e own
path_own (meaning.path p) = p
path_own (meaning.a_part is) = elim is [ ]
path_own (meaning.within is) = elim is [ ]
path_own (meaning.named_type is) = elim is [ ]
path_own (meaning.named_effect is p) = elim is [ ]
path_own (meaning.pair_of_type is) = elim is [ ]
path_own (meaning.pair_of_index is m i) = elim is [ ]

pub operators_own : {room : ℕ} {own : Stack} → Own room (frame.Operators false) own → Tail room 9 own
operators_own (meaning.operators p) = p
operators_own (meaning.a_part is) = elim is [ ]
operators_own (meaning.within is) = elim is [ ]
operators_own (meaning.named_type is) = elim is [ ]
operators_own (meaning.named_effect is p) = elim is [ ]
operators_own (meaning.pair_of_type is) = elim is [ ]
operators_own (meaning.pair_of_index is m i) = elim is [ ]

pub operators_behind_type_own : {room : ℕ} {own : Stack} → Own room (frame.Operators true) own → Tail room 6 own
operators_behind_type_own (meaning.operators_behind_type p) = p
operators_behind_type_own (meaning.a_part is) = elim is [ ]
operators_behind_type_own (meaning.within is) = elim is [ ]
operators_behind_type_own (meaning.named_type is) = elim is [ ]
operators_behind_type_own (meaning.named_effect is p) = elim is [ ]
operators_behind_type_own (meaning.pair_of_type is) = elim is [ ]
operators_behind_type_own (meaning.pair_of_index is m i) = elim is [ ]

pub opened_own : {room : ℕ} {c : Context} {own : Stack} → Own room (frame.Opened c) own → (may_cast c ≡ true) × Opens room c own
opened_own (meaning.opened may p) = (may, p)
opened_own (meaning.a_part is) = elim is [ ]
opened_own (meaning.within is) = elim is [ ]
opened_own (meaning.named_type is) = elim is [ ]
opened_own (meaning.named_effect is p) = elim is [ ]
opened_own (meaning.pair_of_type is) = elim is [ ]
opened_own (meaning.pair_of_index is m i) = elim is [ ]

pub opened_name_own : {room : ℕ} {c : Context} {own : Stack} → Own room (frame.OpenedName c) own → (may_cast c ≡ true) × OpensNamed room c own
opened_name_own (meaning.opened_name may p) = (may, p)
opened_name_own (meaning.a_part is) = elim is [ ]
opened_name_own (meaning.within is) = elim is [ ]
opened_name_own (meaning.named_type is) = elim is [ ]
opened_name_own (meaning.named_effect is p) = elim is [ ]
opened_name_own (meaning.pair_of_type is) = elim is [ ]
opened_name_own (meaning.pair_of_index is m i) = elim is [ ]

pub opened_pair_own : {room : ℕ} {c : Context} {own : Stack} → Own room (frame.OpenedPair c) own → (may_cast c ≡ true) × OpensPair room c own
opened_pair_own (meaning.opened_pair may p) = (may, p)
opened_pair_own (meaning.a_part is) = elim is [ ]
opened_pair_own (meaning.within is) = elim is [ ]
opened_pair_own (meaning.named_type is) = elim is [ ]
opened_pair_own (meaning.named_effect is p) = elim is [ ]
opened_pair_own (meaning.pair_of_type is) = elim is [ ]
opened_pair_own (meaning.pair_of_index is m i) = elim is [ ]

pub cast_type_own : {room : ℕ} {primitive : Bool} {c : Context} {own : Stack} → Own room (frame.CastType primitive c) own → Casts room primitive c own
cast_type_own (meaning.cast_type p) = p
cast_type_own (meaning.a_part is) = elim is [ ]
cast_type_own (meaning.within is) = elim is [ ]
cast_type_own (meaning.named_type is) = elim is [ ]
cast_type_own (meaning.named_effect is p) = elim is [ ]
cast_type_own (meaning.pair_of_type is) = elim is [ ]
cast_type_own (meaning.pair_of_index is m i) = elim is [ ]

pub new_primitive_own : {room : ℕ} {c : Context} {own : Stack} → Own room (frame.NewPrimitive c) own → Created room c own
new_primitive_own (meaning.new_primitive_array p) = p
new_primitive_own (meaning.a_part is) = elim is [ ]
new_primitive_own (meaning.within is) = elim is [ ]
new_primitive_own (meaning.named_type is) = elim is [ ]
new_primitive_own (meaning.named_effect is p) = elim is [ ]
new_primitive_own (meaning.pair_of_type is) = elim is [ ]
new_primitive_own (meaning.pair_of_index is m i) = elim is [ ]

pub new_sized_own : {room : ℕ} {c : Context} {own : Stack} → Own room (frame.NewSized c) own → Sizes room c own
new_sized_own (meaning.new_sized p) = p
new_sized_own (meaning.a_part is) = elim is [ ]
new_sized_own (meaning.within is) = elim is [ ]
new_sized_own (meaning.named_type is) = elim is [ ]
new_sized_own (meaning.named_effect is p) = elim is [ ]
new_sized_own (meaning.pair_of_type is) = elim is [ ]
new_sized_own (meaning.pair_of_index is m i) = elim is [ ]
