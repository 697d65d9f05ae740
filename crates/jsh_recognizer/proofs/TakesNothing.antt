-- What the recognizer's frames of expressions are where nothing more comes.
use Rattle.std.proofs.Common.{◌≡◌, ℕ, zero, suc, ◌+◌, Bool, true, [], ◌∷◌, ◌++◌, refl, subst, append_assoc, arith}
use Rattle.jsh_tree.specs.declared.token.TokenKind.{TokenKind}
use Rattle.jsh_tree.specs.declared.token.TokenKind.TheVariants as token
use Rattle.jsh_grammar.specs.Productions.{Part, a, part, deep}
use Rattle.jsh_grammar.specs.Productions as table
use Rattle.jsh_recognizer.specs.declared.frame.Context.{Context}
use Rattle.jsh_recognizer.specs.declared.frame.Ending.TheVariants as ending
use Rattle.jsh_recognizer.specs.declared.frame.Frame.{Frame}
use Rattle.jsh_recognizer.specs.Meanings.{Stack, Follows, by_part, by_deep}
use Rattle.jsh_recognizer.specs.Meanings as means
use Rattle.jsh_recognizer.specs.Machine.{may_stop, may_end}
use Rattle.jsh_recognizer.specs.Meanings.{More, Sizes, Created, Opens, OpensNamed, OpensPair, Casts, Indexed, IsPartOf, Own}
use Rattle.jsh_recognizer.proofs.TakesOwn.{Sort, of_part, of_symbols, of_operand, sort_of, OwnPart, the_part, own_part, OwnSymbols, the_symbols, own_symbols, OwnOperand, own_operand}
use Rattle.jsh_recognizer.proofs.TakesOwn as own
use Rattle.jsh_recognizer.proofs.TakesEnds.{tail_ends, type_tail_ends, after_ends, more_ends, paths_end, path_ends}

-- ---- parts that aren't empty

primary_some : {room : ℕ} {x : Stack} → Follows true ((room, part table.primary) ∷ x) [] → ⊥
primary_some (by_part table.of_literal f) = elim f [ ]
primary_some (by_part table.of_this f) = elim f [ ]
primary_some (by_part table.of_parenthesized (by_deep table.in_parentheses f)) = elim f [ ]
primary_some (by_part table.of_name f) = elim f [ ]
primary_some (by_part table.of_simple_call f) = elim f [ ]
primary_some (by_part table.of_super_call f) = elim f [ ]
primary_some (by_part table.of_new_object f) = elim f [ ]
primary_some (by_part table.of_new_array f) = elim f [ ]
primary_some (by_part table.of_filled_array f) = elim f [ ]

created_some : {room : ℕ} {x : Stack} → Follows true ((room, part table.open_creation) ∷ x) [] → ⊥
created_some (by_part table.of_open_creation f) = elim f [ ]

pub target_some : {room : ℕ} {x : Stack} → Follows true ((room, part table.target) ∷ x) [] → ⊥
target_some (by_part table.of_name_target f) = elim f [ ]
target_some (by_part table.of_place_target f) = primary_some f
target_some (by_part table.of_created_field f) = created_some f
target_some (by_part table.of_created_place f) = created_some f

postfix_some : {room : ℕ} {x : Stack} → Follows true ((room, part table.postfix) ∷ x) [] → ⊥
postfix_some (by_part table.of_path (by_part table.of_members f)) = primary_some f
postfix_some (by_part table.of_path (by_part table.of_created f)) = created_some f
postfix_some (by_part table.of_stepped f) = target_some f

pub unary_some : {room : ℕ} {x : Stack} → Follows true ((room, part table.unary) ∷ x) [] → ⊥
unary_some (by_part table.of_prefix f) = elim f [ ]
unary_some (by_part table.of_step f) = elim f [ ]
unary_some (by_part table.of_primitive_cast (by_deep table.of_primitive f)) = elim f [ ]
unary_some (by_part table.of_named_cast (by_deep table.of_named f)) = elim f [ ]
unary_some (by_part table.of_postfix f) = postfix_some f

pub unsigned_some : {room : ℕ} {x : Stack} → Follows true ((room, part table.unsigned) ∷ x) [] → ⊥
unsigned_some (by_part table.of_negation f) = elim f [ ]
unsigned_some (by_part table.of_unsigned_primitive_cast (by_deep table.of_primitive f)) = elim f [ ]
unsigned_some (by_part table.of_unsigned_named_cast (by_deep table.of_named f)) = elim f [ ]
unsigned_some (by_part table.of_unsigned_postfix f) = postfix_some f

-- a level, which so many others stand behind
level_some : (others n : ℕ) → n + others ≡ 10 → {room : ℕ} {x : Stack} → Follows true ((room, part (table.level n)) ∷ x) [] → ⊥
level_some zero n e (by_part (table.of_level less) f) = absurd (omega (arith, e, less))
level_some (suc others) n e (by_part (table.of_level less) f) = level_some others (suc n) (omega (arith, e)) f
level_some zero n e (by_part table.of_operand f) = unary_some f
level_some (suc others) n e (by_part table.of_operand f) = unary_some f

pub conditional_some : {room : ℕ} {x : Stack} → Follows true ((room, part table.conditional) ∷ x) [] → ⊥
conditional_some (by_part table.of_operators f) = level_some 10 0 refl f
conditional_some (by_part table.of_choice f) = level_some 10 0 refl f

pub expression_some : {room : ℕ} {x : Stack} → Follows true ((room, part table.expression) ∷ x) [] → ⊥
expression_some (by_part table.of_conditional f) = conditional_some f
expression_some (by_part table.of_assignment f) = target_some f

pub effect_some : {room : ℕ} {x : Stack} → Follows true ((room, part table.statement_expression) ∷ x) [] → ⊥
effect_some (by_part table.of_assignment_statement f) = target_some f
effect_some (by_part table.of_step_statement f) = elim f [ ]
effect_some (by_part table.of_stepped_statement f) = target_some f
effect_some (by_part table.of_simple_call_statement f) = elim f [ ]
effect_some (by_part table.of_super_call_statement f) = elim f [ ]
effect_some (by_part table.of_call_statement f) = primary_some f
effect_some (by_part table.of_created_call_statement f) = created_some f
effect_some (by_part table.of_selected_call_statement f) = created_some f
effect_some (by_part table.of_new_statement f) = elim f [ ]

braces_some : {room : ℕ} {x : Stack} → Follows true ((room, deep table.braces) ∷ x) [] → ⊥
braces_some (by_deep table.no_values f) = elim f [ ]
braces_some (by_deep table.some_values f) = elim f [ ]

pub initial_some : {room : ℕ} {x : Stack} → Follows true ((room, part table.initial) ∷ x) [] → ⊥
initial_some (by_part table.of_value f) = expression_some f
initial_some (by_part table.of_values f) = braces_some f

initials_some : {room : ℕ} {x : Stack} → Follows true ((room, part table.initials) ∷ x) [] → ⊥
initials_some (by_part table.last_value f) = initial_some f
initials_some (by_part table.last_value_with_comma f) = initial_some f
initials_some (by_part table.more_values f) = initial_some f

pub type_some : {room : ℕ} {x : Stack} → Follows true ((room, part table.type_use) ∷ x) [] → ⊥
type_some (by_part table.of_type f) = elim f [ ]

listed_some : {room : ℕ} {x : Stack} → Follows true ((room, part table.listed) ∷ x) [] → ⊥
listed_some (by_part table.last_argument f) = expression_some f
listed_some (by_part table.more_arguments f) = expression_some f

arguments_some : {room : ℕ} {x : Stack} → Follows true ((room, deep table.arguments) ∷ x) [] → ⊥
arguments_some (by_deep table.no_arguments f) = elim f [ ]
arguments_some (by_deep table.some_arguments f) = elim f [ ]

sizes_some : {room : ℕ} {x : Stack} → Follows true ((room, part table.sizes) ∷ x) [] → ⊥
sizes_some (by_part table.last_size (by_deep table.of_index f)) = elim f [ ]
sizes_some (by_part table.more_sizes (by_deep table.of_index f)) = elim f [ ]

-- brackets in front of a token
brackets_some : {room at : ℕ} {k : TokenKind} {x : Stack} → Follows true ((room, part table.brackets) ∷ (at, a k) ∷ x) [] → ⊥
brackets_some (by_part table.no_brackets f) = elim f [ ]
brackets_some (by_part table.more_brackets f) = elim f [ ]

brackets_and_braces : {room at : ℕ} {x : Stack} → Follows true ((room, part table.brackets) ∷ (at, deep table.braces) ∷ x) [] → ⊥
brackets_and_braces (by_part table.no_brackets f) = braces_some f
brackets_and_braces (by_part table.more_brackets f) = elim f [ ]

-- ---- operands

created_ends : {room : ℕ} {c : Context} {x : Stack} (stack : Stack) → Created room c x → Follows true (x ++ stack) [] → ⊥
created_ends stack (means.with_sizes made) f = sizes_some f
created_ends stack (means.with_values more) f = elim f [ ]

index_ends : {room : ℕ} {rest x : Stack} (stack : Stack) → Indexed room rest x → Follows true (x ++ stack) [] → ⊥
index_ends stack means.indexed f = expression_some f

opens_end : {room : ℕ} {c : Context} {x : Stack} (stack : Stack) → Opens room c x → Follows true (x ++ stack) [] → ⊥
opens_end stack (means.in_parentheses more) f = expression_some f
opens_end stack (means.primitive_cast behind) f = elim f [ ]
opens_end stack (means.named_cast behind) f = elim f [ ]

no_token : {room : ℕ} {k : TokenKind} {x : Stack} → Follows true ((room, a k) ∷ x) [] → ⊥
no_token f = elim f [ ]

opens_name_end : {room : ℕ} {c : Context} {x : Stack} (stack : Stack) → OpensNamed room c x → Follows true (x ++ stack) [] → ⊥
opens_name_end stack (means.named_in_parentheses {room = r} {inside = inner} {rest = rest} paths more) f =
    no_token (path_ends paths (subst (λ z. Follows true z []) (append_assoc inner ((r, a token.RightParen) ∷ rest) stack) f))
opens_name_end stack (means.named_of_cast behind) f = brackets_some f

opens_pair_end : {room : ℕ} {c : Context} {x : Stack} (stack : Stack) → OpensPair room c x → Follows true (x ++ stack) [] → ⊥
opens_pair_end stack (means.index_in_parentheses place more) f = expression_some f
opens_pair_end stack (means.pair_of_cast behind) f = elim f [ ]

casts_end : {room : ℕ} {primitive : Bool} {c : Context} {x : Stack} (stack : Stack) → Casts room primitive c x → Follows true (x ++ stack) [] → ⊥
casts_end stack (means.primitive_type behind) f = brackets_some f
casts_end stack (means.named_type behind) f = brackets_some f

sizes_end : {room : ℕ} {c : Context} {x : Stack} (stack : Stack) → Sizes room c x → Follows true (x ++ stack) [] →
    (may_end c ending.Other ≡ true) × Follows true stack []
sizes_end stack (means.last_of_sizes (means.sized (means.none_selected after))) f = after_ends after f
sizes_end stack (means.last_of_sizes (means.sized (means.field_selected more))) f = elim f [ ]
sizes_end stack (means.last_of_sizes (means.sized (means.call_selected more))) f = elim f [ ]
sizes_end stack (means.last_of_sizes (means.closed more)) f = elim f [ ]
sizes_end stack (means.more_of_sizes made) f = absurd (sizes_some f)

unsized_ends : {room : ℕ} {c : Context} {x : Stack} (stack : Stack) → More room c ending.Other x →
    Follows true ((room, part table.brackets) ∷ (x ++ stack)) [] →
    (may_end c ending.Other ≡ true) × Follows true stack []
unsized_ends stack more (by_part table.no_brackets f) = more_ends more f
unsized_ends stack more (by_part table.more_brackets f) = elim f [ ]

unsigned_deep : {room : ℕ} {x : Stack} → Follows true ((room, deep table.unsigned) ∷ x) [] → ⊥
unsigned_deep (by_deep {room = room} is f) = unsigned_some (by_part {room = room} is f)

operand_ends : {room : ℕ} {f : Frame} {x : Stack} (stack : Stack) → OwnOperand room f x → Follows true (x ++ stack) [] →
    (may_stop f ≡ true) × Follows true stack []
operand_ends stack (own.operators t) f = (refl, tail_ends t f)
operand_ends stack (own.operators_behind_type t) f = (refl, type_tail_ends t f)
operand_ends stack (own.path p) f = paths_end p f
operand_ends stack (own.a_member p) f = elim f [ ]
operand_ends stack (own.opened may p) f = absurd (opens_end stack p f)
operand_ends stack (own.opened_name may p) f = absurd (opens_name_end stack p f)
operand_ends stack (own.opened_pair may p) f = absurd (opens_pair_end stack p f)
operand_ends stack (own.cast_type p) f = absurd (casts_end stack p f)
operand_ends stack (own.enclosed may more) f = more_ends more f
operand_ends stack (own.enclosed_cast behind) f = absurd (unsigned_deep f)
operand_ends stack (own.new_object more) f = elim f [ ]
operand_ends stack (own.new_array created) f = elim f [ ]
operand_ends stack (own.new_named_object more) f = absurd (arguments_some f)
operand_ends stack (own.new_named_array created) f = absurd (created_ends stack created f)
operand_ends stack (own.new_primitive_array created) f = absurd (created_ends stack created f)
operand_ends stack (own.new_size sizes index) f = absurd (index_ends stack index f)
operand_ends stack (own.new_values more) f = elim f [ ]
operand_ends stack (own.new_filled more) f = absurd (brackets_and_braces f)
operand_ends stack (own.new_sized sizes) f = sizes_end stack sizes f
operand_ends stack (own.next_size sizes index) f = absurd (index_ends stack index f)
operand_ends stack (own.closing_pair more) f = elim f [ ]
operand_ends stack (own.new_unsized more) f = unsized_ends stack more f
operand_ends stack (own.unsized_pair more) f = elim f [ ]
operand_ends stack (own.unsized_index place index) f = absurd (index_ends stack index f)

-- ---- parts and symbols

part_ends : {room : ℕ} {f : Frame} {x : Stack} (stack : Stack) → sort_of f ≡ of_part → OwnPart room f x → Follows true (x ++ stack) [] → ⊥
part_ends stack is (the_part means.an_expression) f = expression_some f
part_ends stack is (the_part means.a_conditional) f = conditional_some f
part_ends stack is (the_part means.an_operand) f = unary_some f
part_ends stack is (the_part means.an_unsigned) f = unsigned_some f
part_ends stack is (the_part means.a_target) f = target_some f
part_ends stack is (the_part means.an_effect) f = effect_some f
part_ends stack is (the_part means.an_initial) f = initial_some f
part_ends stack is (the_part means.a_type) f = type_some f
part_ends stack is (the_part _) f = absurd cc

symbols_end : {room : ℕ} {f : Frame} {x : Stack} (stack : Stack) → sort_of f ≡ of_symbols → OwnSymbols room f x → Follows true (x ++ stack) [] →
    (may_stop f ≡ true) × Follows true stack []
symbols_end stack is (the_symbols means.some_brackets) (by_part table.no_brackets f) = (refl, f)
symbols_end stack is (the_symbols means.some_brackets) (by_part table.more_brackets f) = elim f [ ]
symbols_end stack is (the_symbols means.no_argument) f = elim f [ ]
symbols_end stack is (the_symbols means.arguments) f = absurd (listed_some f)
symbols_end stack is (the_symbols means.last_argument) f = elim f [ ]
symbols_end stack is (the_symbols means.next_argument) f = elim f [ ]
symbols_end stack is (the_symbols means.a_call) f = absurd (arguments_some f)
symbols_end stack is (the_symbols means.no_value) f = elim f [ ]
symbols_end stack is (the_symbols means.values) f = absurd (initials_some f)
symbols_end stack is (the_symbols means.last_value) f = elim f [ ]
symbols_end stack is (the_symbols means.last_comma) f = elim f [ ]
symbols_end stack is (the_symbols means.next_value) f = elim f [ ]
symbols_end stack is (the_symbols _) f = absurd cc

-- ---- all of them

-- the sorts of the frames of expressions
pub data IsExpressionSort : Sort → Type 0 where
  part_sort : IsExpressionSort of_part
  symbols_sort : IsExpressionSort of_symbols
  operand_sort : IsExpressionSort of_operand

ends_by : {room : ℕ} {f : Frame} {x : Stack} {s : Sort} (stack : Stack) → sort_of f ≡ s → IsExpressionSort s → Own room f x → Follows true (x ++ stack) [] →
    (may_stop f ≡ true) × Follows true stack []
ends_by stack same part_sort own f = absurd (part_ends stack same (own_part same own) f)
ends_by stack same symbols_sort own f = symbols_end stack same (own_symbols same own) f
ends_by stack same operand_sort own f = operand_ends stack (own_operand same own) f

-- a frame of an expression may stop where nothing comes
pub expression_frame_ends : {room : ℕ} {f : Frame} {x : Stack} (stack : Stack) → IsExpressionSort (sort_of f) → Own room f x → Follows true (x ++ stack) [] →
    (may_stop f ≡ true) × Follows true stack []
expression_frame_ends stack is own f = ends_by stack refl is own f

-- ---- a deep part, and each sort by itself

pub deep_part_ends : {room : ℕ} {f : Frame} {n : Part} {stack : Stack} → sort_of f ≡ of_part → IsPartOf f n → Follows true ((room, deep n) ∷ stack) [] → ⊥
deep_part_ends {stack = stack} is stands (by_deep {room = r} of f) = part_ends stack is (the_part stands) (by_part {room = r} of f)

pub own_part_ends : {room : ℕ} {f : Frame} {x stack : Stack} → sort_of f ≡ of_part → Own room f x → Follows true (x ++ stack) [] →
    (may_stop f ≡ true) × Follows true stack []
own_part_ends {stack = stack} is own f = absurd (part_ends stack is (own_part is own) f)

pub own_symbols_end : {room : ℕ} {f : Frame} {x stack : Stack} → sort_of f ≡ of_symbols → Own room f x → Follows true (x ++ stack) [] →
    (may_stop f ≡ true) × Follows true stack []
own_symbols_end {stack = stack} is own f = symbols_end stack is (own_symbols is own) f

pub own_operand_ends : {room : ℕ} {f : Frame} {x stack : Stack} → sort_of f ≡ of_operand → Own room f x → Follows true (x ++ stack) [] →
    (may_stop f ≡ true) × Follows true stack []
own_operand_ends {stack = stack} is own f = operand_ends stack (own_operand is own) f
