-- Where the frames of expressions pass and stop, and all their steps backwards.
use Rattle.std.proofs.Common.{◌≡◌, ℕ, Bool, true, false, ◌&&◌, List, [], ◌∷◌, refl, sym, ◌∙◌}
use Rattle.jsh_tree.specs.declared.token.TokenKind.{TokenKind}
use Rattle.jsh_tree.specs.declared.token.TokenKind.TheVariants as token
use Rattle.jsh_grammar.specs.Classes.{is_literal, is_primitive, is_prefix, is_step}
use Rattle.jsh_grammar.specs.Productions.{part}
use Rattle.jsh_grammar.specs.Productions as table
use Rattle.jsh_grammar.specs.Leads.{in_room}
use Rattle.jsh_recognizer.specs.declared.frame.Context.{Context}
use Rattle.jsh_recognizer.specs.declared.frame.Context.TheVariants as context
use Rattle.jsh_recognizer.specs.declared.frame.Ending.TheVariants as ending
use Rattle.jsh_recognizer.specs.declared.frame.Frame.{Frame}
use Rattle.jsh_recognizer.specs.declared.frame.Frame.TheVariants as frame
use Rattle.jsh_recognizer.specs.Machine.{Move, takes, passes, refuses, inside, begins, behind_path, opened, opened_name, opened_pair, cast_type, enclosed, begins_unsigned, is_sign, may_cast, may_end, new_begins, new_named, new_primitive, new_opened, new_filled, new_sized, new_sized_opened, new_unsized, new_unsized_opened, indexed, arguments, more_arguments, values, more_values, initial, type_use, move_of}
use Rattle.jsh_recognizer.specs.Meanings as meaning
use Rattle.jsh_recognizer.specs.Meanings.{by_part, down_from}
use Rattle.jsh_recognizer.proofs.MeantForms.{Step, Passing, Stopping}
use Rattle.jsh_recognizer.proofs.MeantOperands.{skip_all, ended}
use Rattle.jsh_recognizer.proofs.MeantViews.{yes, no, tested, OneView, the_one, another, TwoView, the_first, the_second, neither, begins_whole, BeginsView, name_first, this_first, parenthesis_first, super_first, new_first, other_first, begins_view, OpenedView, opens_name, opens_other, opened_view, OpenedNameView, closes_name, opens_pair, goes_on, opened_name_view, opened_pair_index, opened_pair_view, cast_type_view, new_primitive_begins, new_begins_view, new_named_view, new_primitive_view, new_opened_view, new_filled_view, new_sized_view, new_sized_opened_view, new_unsized_view, new_unsized_opened_view, some_arguments, arguments_view, more_arguments_view, initial_view, some_values, values_view, more_values_view, member_view, open_arguments_view, primitive_use, type_view}
use Rattle.jsh_recognizer.proofs.MeantPath.{path_ends}
use Rattle.jsh_recognizer.proofs.MeantCasts.{opened_step, opened_name_step, opened_pair_step, cast_type_step, enclosed_may, enclosed_step}
use Rattle.jsh_recognizer.proofs.MeantCreations.{new_step, new_named_step, new_primitive_step, new_opened_step, new_filled_step, new_sized_step, new_sized_opened_step, new_unsized_step, new_unsized_opened_step}
use Rattle.jsh_recognizer.proofs.MeantExpressions.{expect_step, expression_step, conditional_step, operand_step, unsigned_step, target_step, effect_step, operators_step, path_step, member_step, open_arguments_step, arguments_step, more_arguments_step, values_step, more_values_step, initial_step, type_step, brackets_step}

-- ---- moves that never pass

pub inside_never : {A : Type 0} (n : ℕ) (more : List (ℕ × Frame)) (m : Move) → inside n more m ≡ passes → A
inside_never n more (takes own fs) e = absurd cc
inside_never n more passes e = absurd cc
inside_never n more refuses e = absurd cc

whole_never : {A : Type 0} (c : Context) (k : TokenKind) → begins_whole c k ≡ passes → A
whole_never context.Target k t = elim (tested (is_literal k) _ _ _ t) [ yes is t ↦ absurd cc | no isnt t ↦ absurd cc ]
whole_never context.Expression k t = elim (tested (is_literal k) _ _ _ t) [
  | yes is t ↦ absurd cc
  | no isnt t ↦ elim (tested (is_step k) _ _ _ t) [
    | yes is t ↦ absurd cc
    | no isnt t ↦ elim (tested (is_prefix k && may_cast context.Expression) _ _ _ t) [ yes is t ↦ absurd cc | no isnt t ↦ absurd cc ]
  ]
]
whole_never context.Operand k t = elim (tested (is_literal k) _ _ _ t) [
  | yes is t ↦ absurd cc
  | no isnt t ↦ elim (tested (is_step k) _ _ _ t) [
    | yes is t ↦ absurd cc
    | no isnt t ↦ elim (tested (is_prefix k && may_cast context.Operand) _ _ _ t) [ yes is t ↦ absurd cc | no isnt t ↦ absurd cc ]
  ]
]
whole_never context.Effect k t = elim (tested (is_literal k) _ _ _ t) [
  | yes is t ↦ absurd cc
  | no isnt t ↦ elim (tested (is_step k) _ _ _ t) [
    | yes is t ↦ absurd cc
    | no isnt t ↦ elim (tested (is_prefix k && may_cast context.Effect) _ _ _ t) [ yes is t ↦ absurd cc | no isnt t ↦ absurd cc ]
  ]
]

pub begins_never : {A : Type 0} (c : Context) (k : TokenKind) → begins c k ≡ passes → A
begins_never {A = A} c k t = at k (begins_view c k) t
  where
    at : (k : TokenKind) → BeginsView c k → begins c k ≡ passes → A
    at _ name_first t = absurd cc
    at _ this_first t = absurd cc
    at _ parenthesis_first t = elim (tested (may_cast c) _ _ _ t) [ yes is t ↦ absurd cc | no isnt t ↦ absurd cc ]
    at _ super_first t = absurd cc
    at _ new_first t = absurd cc
    at k (other_first e) t = whole_never c k (sym e ∙ t)

unsigned_never : {A : Type 0} (k : TokenKind) → move_of frame.Unsigned k ≡ passes → A
unsigned_never k t = elim (tested (is_sign k) _ _ _ t) [ yes is t ↦ absurd cc | no isnt t ↦ begins_never context.Operand k t ]

opened_never : {A : Type 0} (c : Context) (k : TokenKind) → opened c k ≡ passes → A
opened_never {A = A} c k t = at k (opened_view c k) t
  where
    at : (k : TokenKind) → OpenedView c k → opened c k ≡ passes → A
    at _ opens_name t = absurd cc
    at k (opens_other e) t = elim (tested (is_primitive k) _ _ _ (sym e ∙ t)) [
      | yes is t ↦ absurd cc
      | no isnt t ↦ inside_never 1 _ (begins context.Expression k) t
    ]

opened_name_never : {A : Type 0} (c : Context) (k : TokenKind) → opened_name c k ≡ passes → A
opened_name_never {A = A} c k t = at k (opened_name_view c k) t
  where
    at : (k : TokenKind) → OpenedNameView c k → opened_name c k ≡ passes → A
    at _ closes_name t = absurd cc
    at _ opens_pair t = absurd cc
    at k (goes_on e) t = inside_never 1 _ (behind_path context.Expression ending.Name k) (sym e ∙ t)

enclosed_ends : (c : Context) (k : TokenKind) → enclosed c k ≡ passes → may_end c ending.Other ≡ true
enclosed_ends c k t = elim (tested (begins_unsigned k) _ _ _ t) [
  | yes is t ↦ inside_never 1 _ (begins context.Operand k) t
  | no isnt t ↦ path_ends c ending.Other k t
]

member_never : {A : Type 0} (c : Context) (k : TokenKind) → move_of (frame.Member c) k ≡ passes → A
member_never {A = A} c k t = at k (member_view c k) t
  where
    at : (k : TokenKind) → OneView (move_of (frame.Member c)) token.Identifier (λ k. refuses) k → move_of (frame.Member c) k ≡ passes → A
    at _ the_one t = absurd cc
    at k (another e) t = absurd cc

opened_pair_never : {A : Type 0} (c : Context) (k : TokenKind) → opened_pair c k ≡ passes → A
opened_pair_never {A = A} c k t = at k (opened_pair_view c k) t
  where
    at : (k : TokenKind) → OneView (opened_pair c) token.RightBracket (opened_pair_index c) k → opened_pair c k ≡ passes → A
    at _ the_one t = absurd cc
    at k (another e) t = inside_never 2 _ (begins context.Expression k) (sym e ∙ t)

cast_type_never : {A : Type 0} (primitive : Bool) (c : Context) (k : TokenKind) → cast_type primitive c k ≡ passes → A
cast_type_never {A = A} true c k t = at k (cast_type_view true c k) t
  where
    at : (k : TokenKind) → TwoView (cast_type true c) token.LeftBracket token.RightParen refuses k → cast_type true c k ≡ passes → A
    at _ the_first t = absurd cc
    at _ the_second t = absurd cc
    at k (neither e) t = absurd cc
cast_type_never {A = A} false c k t = at k (cast_type_view false c k) t
  where
    at : (k : TokenKind) → TwoView (cast_type false c) token.LeftBracket token.RightParen refuses k → cast_type false c k ≡ passes → A
    at _ the_first t = absurd cc
    at _ the_second t = absurd cc
    at k (neither e) t = absurd cc

new_never : {A : Type 0} (c : Context) (k : TokenKind) → new_begins c k ≡ passes → A
new_never {A = A} c k t = at k (new_begins_view c k) t
  where
    at : (k : TokenKind) → OneView (new_begins c) token.Identifier (new_primitive_begins c) k → new_begins c k ≡ passes → A
    at _ the_one t = absurd cc
    at k (another e) t = elim (tested (is_primitive k) _ _ _ (sym e ∙ t)) [ yes is t ↦ absurd cc | no isnt t ↦ absurd cc ]

new_named_never : {A : Type 0} (c : Context) (k : TokenKind) → new_named c k ≡ passes → A
new_named_never {A = A} c k t = at k (new_named_view c k) t
  where
    at : (k : TokenKind) → TwoView (new_named c) token.LeftParen token.LeftBracket refuses k → new_named c k ≡ passes → A
    at _ the_first t = absurd cc
    at _ the_second t = absurd cc
    at k (neither e) t = absurd cc

new_primitive_never : {A : Type 0} (c : Context) (k : TokenKind) → new_primitive c k ≡ passes → A
new_primitive_never {A = A} c k t = at k (new_primitive_view c k) t
  where
    at : (k : TokenKind) → OneView (new_primitive c) token.LeftBracket (λ k. refuses) k → new_primitive c k ≡ passes → A
    at _ the_one t = absurd cc
    at k (another e) t = absurd cc

new_opened_never : {A : Type 0} (c : Context) (k : TokenKind) → new_opened c k ≡ passes → A
new_opened_never {A = A} c k t = at k (new_opened_view c k) t
  where
    at : (k : TokenKind) → OneView (new_opened c) token.RightBracket (indexed 1 ((0, frame.NewSized c) ∷ [])) k → new_opened c k ≡ passes → A
    at _ the_one t = absurd cc
    at k (another e) t = inside_never 1 _ (begins context.Expression k) (sym e ∙ t)

new_filled_never : {A : Type 0} (c : Context) (k : TokenKind) → new_filled c k ≡ passes → A
new_filled_never {A = A} c k t = at k (new_filled_view c k) t
  where
    at : (k : TokenKind) → TwoView (new_filled c) token.LeftBracket token.LeftBrace refuses k → new_filled c k ≡ passes → A
    at _ the_first t = absurd cc
    at _ the_second t = absurd cc
    at k (neither e) t = absurd cc

new_sized_ends : (c : Context) (k : TokenKind) → new_sized c k ≡ passes → may_end c ending.Other ≡ true
new_sized_ends c k t = at k (new_sized_view c k) t
  where
    at : (k : TokenKind) → OneView (new_sized c) token.LeftBracket (behind_path c ending.Other) k → new_sized c k ≡ passes → may_end c ending.Other ≡ true
    at _ the_one t = absurd cc
    at k (another e) t = path_ends c ending.Other k (sym e ∙ t)

new_sized_opened_never : {A : Type 0} (c : Context) (k : TokenKind) → new_sized_opened c k ≡ passes → A
new_sized_opened_never {A = A} c k t = at k (new_sized_opened_view c k) t
  where
    at : (k : TokenKind) → OneView (new_sized_opened c) token.RightBracket (indexed 1 ((0, frame.NewSized c) ∷ [])) k → new_sized_opened c k ≡ passes → A
    at _ the_one t = absurd cc
    at k (another e) t = inside_never 1 _ (begins context.Expression k) (sym e ∙ t)

new_unsized_ends : (c : Context) (k : TokenKind) → new_unsized c k ≡ passes → may_end c ending.Other ≡ true
new_unsized_ends c k t = at k (new_unsized_view c k) t
  where
    at : (k : TokenKind) → OneView (new_unsized c) token.LeftBracket (behind_path c ending.Other) k → new_unsized c k ≡ passes → may_end c ending.Other ≡ true
    at _ the_one t = absurd cc
    at k (another e) t = path_ends c ending.Other k (sym e ∙ t)

new_unsized_opened_never : {A : Type 0} (c : Context) (k : TokenKind) → new_unsized_opened c k ≡ passes → A
new_unsized_opened_never {A = A} c k t = at k (new_unsized_opened_view c k) t
  where
    at : (k : TokenKind) → OneView (new_unsized_opened c) token.RightBracket (indexed 1 ((0, frame.Path c ending.Place) ∷ [])) k →
        new_unsized_opened c k ≡ passes → A
    at _ the_one t = absurd cc
    at k (another e) t = inside_never 1 _ (begins context.Expression k) (sym e ∙ t)

open_arguments_never : {A : Type 0} (k : TokenKind) → move_of frame.OpenArguments k ≡ passes → A
open_arguments_never {A = A} k t = at k (open_arguments_view k) t
  where
    at : (k : TokenKind) → OneView (move_of frame.OpenArguments) token.LeftParen (λ k. refuses) k → move_of frame.OpenArguments k ≡ passes → A
    at _ the_one t = absurd cc
    at k (another e) t = absurd cc

arguments_never : {A : Type 0} (k : TokenKind) → arguments k ≡ passes → A
arguments_never {A = A} k t = at k (arguments_view k) t
  where
    at : (k : TokenKind) → OneView arguments token.RightParen some_arguments k → arguments k ≡ passes → A
    at _ the_one t = absurd cc
    at k (another e) t = inside_never 0 _ (begins context.Expression k) (sym e ∙ t)

more_arguments_never : {A : Type 0} (k : TokenKind) → more_arguments k ≡ passes → A
more_arguments_never {A = A} k t = at k (more_arguments_view k) t
  where
    at : (k : TokenKind) → TwoView more_arguments token.RightParen token.Comma refuses k → more_arguments k ≡ passes → A
    at _ the_first t = absurd cc
    at _ the_second t = absurd cc
    at k (neither e) t = absurd cc

initial_never : {A : Type 0} (k : TokenKind) → initial k ≡ passes → A
initial_never {A = A} k t = at k (initial_view k) t
  where
    at : (k : TokenKind) → OneView initial token.LeftBrace (begins context.Expression) k → initial k ≡ passes → A
    at _ the_one t = absurd cc
    at k (another e) t = begins_never context.Expression k (sym e ∙ t)

values_never : {A : Type 0} (k : TokenKind) → values k ≡ passes → A
values_never {A = A} k t = at k (values_view k) t
  where
    at : (k : TokenKind) → OneView values token.RightBrace some_values k → values k ≡ passes → A
    at _ the_one t = absurd cc
    at k (another e) t = inside_never 0 _ (initial k) (sym e ∙ t)

more_values_never : {A : Type 0} (k : TokenKind) → more_values k ≡ passes → A
more_values_never {A = A} k t = at k (more_values_view k) t
  where
    at : (k : TokenKind) → TwoView more_values token.RightBrace token.Comma refuses k → more_values k ≡ passes → A
    at _ the_first t = absurd cc
    at _ the_second t = absurd cc
    at k (neither e) t = absurd cc

type_never : {A : Type 0} (k : TokenKind) → type_use k ≡ passes → A
type_never {A = A} k t = at k (type_view k) t
  where
    at : (k : TokenKind) → OneView type_use token.Identifier primitive_use k → type_use k ≡ passes → A
    at _ the_one t = absurd cc
    at k (another e) t = elim (tested (is_primitive k) _ _ _ (sym e ∙ t)) [ yes is t ↦ absurd cc | no isnt t ↦ absurd cc ]

-- ---- all frames of expressions

abbrev pub is_of_expressions : Frame → Bool
is_of_expressions (frame.Expect wanted) = true
is_of_expressions frame.Expression = true
is_of_expressions frame.Conditional = true
is_of_expressions frame.Operand = true
is_of_expressions frame.Unsigned = true
is_of_expressions frame.Target = true
is_of_expressions frame.Effect = true
is_of_expressions (frame.Operators behind_type) = true
is_of_expressions (frame.Path c e) = true
is_of_expressions (frame.Member c) = true
is_of_expressions (frame.Opened c) = true
is_of_expressions (frame.OpenedName c) = true
is_of_expressions (frame.OpenedPair c) = true
is_of_expressions (frame.CastType primitive c) = true
is_of_expressions (frame.Enclosed c) = true
is_of_expressions (frame.New c) = true
is_of_expressions (frame.NewNamed c) = true
is_of_expressions (frame.NewPrimitive c) = true
is_of_expressions (frame.NewOpened c) = true
is_of_expressions (frame.NewFilled c) = true
is_of_expressions (frame.NewSized c) = true
is_of_expressions (frame.NewSizedOpened c) = true
is_of_expressions (frame.NewUnsized c) = true
is_of_expressions (frame.NewUnsizedOpened c) = true
is_of_expressions frame.OpenArguments = true
is_of_expressions frame.Arguments = true
is_of_expressions frame.MoreArguments = true
is_of_expressions frame.Values = true
is_of_expressions frame.MoreValues = true
is_of_expressions frame.Initial = true
is_of_expressions frame.Type = true
is_of_expressions frame.Brackets = true
is_of_expressions _ = false

pub expression_steps : (f : Frame) → is_of_expressions f ≡ true → Step f
expression_steps (frame.Expect wanted) is = expect_step wanted
expression_steps frame.Expression is = expression_step
expression_steps frame.Conditional is = conditional_step
expression_steps frame.Operand is = operand_step
expression_steps frame.Unsigned is = unsigned_step
expression_steps frame.Target is = target_step
expression_steps frame.Effect is = effect_step
expression_steps (frame.Operators behind_type) is = operators_step behind_type
expression_steps (frame.Path c e) is = path_step c e
expression_steps (frame.Member c) is = member_step c
expression_steps (frame.Opened c) is = opened_step c
expression_steps (frame.OpenedName c) is = opened_name_step c
expression_steps (frame.OpenedPair c) is = opened_pair_step c
expression_steps (frame.CastType primitive c) is = cast_type_step primitive c
expression_steps (frame.Enclosed c) is = enclosed_step c
expression_steps (frame.New c) is = new_step c
expression_steps (frame.NewNamed c) is = new_named_step c
expression_steps (frame.NewPrimitive c) is = new_primitive_step c
expression_steps (frame.NewOpened c) is = new_opened_step c
expression_steps (frame.NewFilled c) is = new_filled_step c
expression_steps (frame.NewSized c) is = new_sized_step c
expression_steps (frame.NewSizedOpened c) is = new_sized_opened_step c
expression_steps (frame.NewUnsized c) is = new_unsized_step c
expression_steps (frame.NewUnsizedOpened c) is = new_unsized_opened_step c
expression_steps frame.OpenArguments is = open_arguments_step
expression_steps frame.Arguments is = arguments_step
expression_steps frame.MoreArguments is = more_arguments_step
expression_steps frame.Values is = values_step
expression_steps frame.MoreValues is = more_values_step
expression_steps frame.Initial is = initial_step
expression_steps frame.Type is = type_step
expression_steps frame.Brackets is = brackets_step
expression_steps _ is = absurd cc

pub expression_passing : (f : Frame) → is_of_expressions f ≡ true → Passing f
expression_passing (frame.Expect wanted) is k t = absurd cc
expression_passing frame.Expression is k t = begins_never context.Expression k t
expression_passing frame.Conditional is k t = inside_never 0 _ (begins context.Operand k) t
expression_passing frame.Operand is k t = begins_never context.Operand k t
expression_passing frame.Unsigned is k t = unsigned_never k t
expression_passing frame.Target is k t = begins_never context.Target k t
expression_passing frame.Effect is k t = begins_never context.Effect k t
expression_passing (frame.Operators behind_type) is k t = refl
expression_passing (frame.Path c e) is k t = path_ends c e k t
expression_passing (frame.Member c) is k t = member_never c k t
expression_passing (frame.Opened c) is k t = opened_never c k t
expression_passing (frame.OpenedName c) is k t = opened_name_never c k t
expression_passing (frame.OpenedPair c) is k t = opened_pair_never c k t
expression_passing (frame.CastType primitive c) is k t = cast_type_never primitive c k t
expression_passing (frame.Enclosed c) is k t = enclosed_ends c k t
expression_passing (frame.New c) is k t = new_never c k t
expression_passing (frame.NewNamed c) is k t = new_named_never c k t
expression_passing (frame.NewPrimitive c) is k t = new_primitive_never c k t
expression_passing (frame.NewOpened c) is k t = new_opened_never c k t
expression_passing (frame.NewFilled c) is k t = new_filled_never c k t
expression_passing (frame.NewSized c) is k t = new_sized_ends c k t
expression_passing (frame.NewSizedOpened c) is k t = new_sized_opened_never c k t
expression_passing (frame.NewUnsized c) is k t = new_unsized_ends c k t
expression_passing (frame.NewUnsizedOpened c) is k t = new_unsized_opened_never c k t
expression_passing frame.OpenArguments is k t = open_arguments_never k t
expression_passing frame.Arguments is k t = arguments_never k t
expression_passing frame.MoreArguments is k t = more_arguments_never k t
expression_passing frame.Values is k t = values_never k t
expression_passing frame.MoreValues is k t = more_values_never k t
expression_passing frame.Initial is k t = initial_never k t
expression_passing frame.Type is k t = type_never k t
expression_passing frame.Brackets is k t = refl
expression_passing _ is k t = absurd cc

pub expression_stopping : (f : Frame) → is_of_expressions f ≡ true → Stopping f
expression_stopping (frame.Operators true) is room s o stops =
    (in_room room (down_from 6), meaning.operators_behind_type (meaning.tail meaning.no_choice), skip_all 6 room)
expression_stopping (frame.Operators false) is room s o stops =
    (in_room room (down_from 9), meaning.operators (meaning.tail meaning.no_choice), skip_all 9 room)
expression_stopping (frame.Path c e) is room s o stops =
    let m = ended room c e stops in (m.0, meaning.path (meaning.as_it_ends (meaning.no_more m.1)), m.2)
expression_stopping (frame.Enclosed c) is room s o stops =
    let m = ended room c ending.Other stops in (m.0, meaning.enclosed (enclosed_may o) (meaning.no_more m.1), m.2)
expression_stopping (frame.NewSized c) is room s o stops =
    let m = ended room c ending.Other stops in
    (m.0, meaning.new_sized (meaning.last_of_sizes (meaning.sized (meaning.none_selected m.1))), m.2)
expression_stopping (frame.NewUnsized c) is room s o stops =
    let m = ended room c ending.Other stops in
    ((room, part table.brackets) ∷ m.0, meaning.new_unsized (meaning.no_more m.1), λ rest whole ks f. by_part table.no_brackets (m.2 rest whole ks f))
expression_stopping frame.Brackets is room s o stops =
    ((room, part table.brackets) ∷ [], meaning.within meaning.some_brackets, λ rest whole ks f. by_part table.no_brackets f)
expression_stopping _ is room s o stops = absurd cc
