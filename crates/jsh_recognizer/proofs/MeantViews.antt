-- What the moves of frames of expressions can be, by the token.
use Rattle.std.proofs.Common.{◌≡◌, ℕ, ◌≤◌, ◌⊎◌, Bool, true, false, not, ◌&&◌, ◌||◌, if◌then◌else◌, [], ◌∷◌, inl, inr, refl, arith}
use Rattle.jsh_tree.specs.declared.token.TokenKind.{TokenKind}
use Rattle.jsh_tree.specs.declared.token.TokenKind.TheVariants as token
use Rattle.jsh_grammar.specs.Classes.{is_literal, is_primitive, is_type_name, is_assignment, is_operator, is_prefix, is_negation, is_step}
use Rattle.jsh_recognizer.specs.declared.frame.Context.{Context}
use Rattle.jsh_recognizer.specs.declared.frame.Context.TheVariants as context
use Rattle.jsh_recognizer.specs.declared.frame.Ending.{Ending}
use Rattle.jsh_recognizer.specs.declared.frame.Ending.TheVariants as ending
use Rattle.jsh_recognizer.specs.declared.frame.Frame.TheVariants as frame
use Rattle.jsh_recognizer.specs.Machine.{Move, takes, passes, refuses, inside, goes, is_loose_operator, is_tight_operator, is_sign, begins_unsigned, behind_operand, rest_of, is_target, may_end, behind_path, may_cast, begins, parenthesized, opened, opened_name, indexed, opened_pair, new_begins, new_opened, new_sized, new_sized_opened, new_unsized, new_unsized_opened, arguments, values, initial, type_use, cast_type, new_named, new_primitive, new_filled, more_arguments, more_values, brackets, move_of}

-- ---- tests

-- what a move that hangs on a test is
pub data Tested (b : Bool) (x y m : Move) : Type 0 where
  yes : b ≡ true → x ≡ m → Tested b x y m
  no : b ≡ false → y ≡ m → Tested b x y m

pub tested : (b : Bool) (x y m : Move) → (if b then x else y) ≡ m → Tested b x y m
tested true x y m e = yes refl e
tested false x y m e = no refl e

-- both of two tests
pub both : (b c : Bool) → b && c ≡ true → (b ≡ true) × (c ≡ true)
both true true e = (refl, refl)
both true false e = absurd cc
both false c e = absurd cc

-- one of two tests
pub either : (b c : Bool) → b || c ≡ true → (b ≡ true) ⊎ (c ≡ true)
either true c e = inl refl
either false c e = inr e

-- ---- operators

-- the level of an operator that binds no tighter than `instanceof`
pub loose_level : (k : TokenKind) → is_loose_operator k ≡ true → (n : ℕ) × (n ≤ 6) × (is_operator n k ≡ true)
loose_level token.OrOr e = (0, omega arith, refl)
loose_level token.AndAnd e = (1, omega arith, refl)
loose_level token.Bar e = (2, omega arith, refl)
loose_level token.Caret e = (3, omega arith, refl)
loose_level token.Ampersand e = (4, omega arith, refl)
loose_level token.EqualTo e = (5, omega arith, refl)
loose_level token.NotEqual e = (5, omega arith, refl)
loose_level token.LessThan e = (6, omega arith, refl)
loose_level token.GreaterThan e = (6, omega arith, refl)
loose_level token.LessOrEqual e = (6, omega arith, refl)
loose_level token.GreaterOrEqual e = (6, omega arith, refl)
loose_level _ e = absurd cc

-- and of one that binds tighter
pub tight_level : (k : TokenKind) → is_tight_operator k ≡ true → (n : ℕ) × (n ≤ 9) × (is_operator n k ≡ true)
tight_level token.ShiftLeft e = (7, omega arith, refl)
tight_level token.ShiftRight e = (7, omega arith, refl)
tight_level token.UnsignedShiftRight e = (7, omega arith, refl)
tight_level token.Plus e = (8, omega arith, refl)
tight_level token.Minus e = (8, omega arith, refl)
tight_level token.Star e = (9, omega arith, refl)
tight_level token.Slash e = (9, omega arith, refl)
tight_level token.Percent e = (9, omega arith, refl)
tight_level _ e = absurd cc

-- behind an operand among operators
pub data OperandView (behind_type : Bool) : TokenKind → Type 0 where
  tests : OperandView behind_type token.Instanceof
  chooses : OperandView behind_type token.Question
  operates : {k : TokenKind} →
      behind_operand behind_type k ≡ (if is_loose_operator k || (not behind_type && is_tight_operator k) then goes
      (frame.Operand ∷ frame.Operators false ∷ []) else passes) →
      OperandView behind_type k

pub operand_view : (behind_type : Bool) (k : TokenKind) → OperandView behind_type k
operand_view behind_type token.Instanceof = tests
operand_view behind_type token.Question = chooses
operand_view behind_type _ = operates refl

-- ---- paths

-- behind a path, but for a further place or call
abbrev pub behind_whole : Context → Ending → TokenKind → Move
behind_whole context.Expression e k =
    if is_step k && is_target e then takes 0 (rest_of context.Expression)
    else (if is_assignment k && is_target e then takes 0 ((1, frame.Expression) ∷ []) else behind_operand false k)
behind_whole context.Operand e k = if is_step k && is_target e then takes 0 [] else passes
behind_whole context.Target e k = if is_step k || not (is_target e) then refuses else passes
behind_whole context.Effect e k =
    if is_step k && is_target e then takes 0 []
    else (if is_assignment k && is_target e then takes 0 ((1, frame.Expression) ∷ []) else (if may_end context.Effect e then passes else refuses))

pub data PathView (c : Context) : Ending → TokenKind → Type 0 where
  by_dot : {e : Ending} → PathView c e token.Dot
  by_bracket : {e : Ending} → PathView c e token.LeftBracket
  by_call : PathView c ending.Name token.LeftParen
  by_whole : {e : Ending} {k : TokenKind} → behind_path c e k ≡ behind_whole c e k → PathView c e k

pub path_view : (c : Context) (e : Ending) (k : TokenKind) → PathView c e k
path_view c e token.Dot = by_dot
path_view c e token.LeftBracket = by_bracket
path_view c ending.Name token.LeftParen = by_call
path_view context.Expression e _ = by_whole refl
path_view context.Operand e _ = by_whole refl
path_view context.Target e _ = by_whole refl
path_view context.Effect e _ = by_whole refl

-- ---- what operands begin with

abbrev pub begins_whole : Context → TokenKind → Move
begins_whole context.Target k = if is_literal k then goes (frame.Path context.Target ending.Other ∷ []) else refuses
begins_whole c k =
    if is_literal k then goes (frame.Path c ending.Other ∷ [])
    else (if is_step k then takes 0 ((1, frame.Target) ∷ rest_of c)
    else (if is_prefix k && may_cast c then takes 0 ((1, frame.Operand) ∷ rest_of c) else refuses))

pub data BeginsView (c : Context) : TokenKind → Type 0 where
  name_first : BeginsView c token.Identifier
  this_first : BeginsView c token.This
  parenthesis_first : BeginsView c token.LeftParen
  super_first : BeginsView c token.Super
  new_first : BeginsView c token.New
  other_first : {k : TokenKind} → begins c k ≡ begins_whole c k → BeginsView c k

pub begins_view : (c : Context) (k : TokenKind) → BeginsView c k
begins_view c token.Identifier = name_first
begins_view c token.This = this_first
begins_view c token.LeftParen = parenthesis_first
begins_view c token.Super = super_first
begins_view c token.New = new_first
begins_view context.Expression _ = other_first refl
begins_view context.Operand _ = other_first refl
begins_view context.Target _ = other_first refl
begins_view context.Effect _ = other_first refl

-- a prefix that is no sign
pub negation_of : (k : TokenKind) → is_prefix k ≡ true → is_sign k ≡ false → is_negation k ≡ true
negation_of token.Bang is sign = refl
negation_of token.Tilde is sign = refl
negation_of _ is sign = absurd cc

-- a step is a sign in this sense
pub step_signs : (k : TokenKind) → is_step k ≡ true → is_sign k ≡ true
step_signs token.PlusPlus is = refl
step_signs token.MinusMinus is = refl
step_signs _ is = absurd cc

-- what an unsigned operand may begin with is no sign
pub unsigned_no_sign : (k : TokenKind) → begins_unsigned k ≡ true → is_sign k ≡ false
unsigned_no_sign token.Plus is = absurd cc
unsigned_no_sign token.Minus is = absurd cc
unsigned_no_sign token.PlusPlus is = absurd cc
unsigned_no_sign token.MinusMinus is = absurd cc
unsigned_no_sign _ is = refl

-- the name of a primitive type is one of a type
pub primitive_named : (k : TokenKind) → is_primitive k ≡ true → is_type_name k ≡ true
primitive_named token.Int is = refl
primitive_named token.Long is = refl
primitive_named token.Char is = refl
primitive_named token.Boolean is = refl
primitive_named _ is = absurd cc

-- ---- frames where one or two tokens are told apart

pub data OpenedView (c : Context) : TokenKind → Type 0 where
  opens_name : OpenedView c token.Identifier
  opens_other : {k : TokenKind} →
      opened c k ≡ (if is_primitive k then takes 1 ((0, frame.CastType true c) ∷ []) else parenthesized c (begins context.Expression k)) → OpenedView c k

pub opened_view : (c : Context) (k : TokenKind) → OpenedView c k
opened_view c token.Identifier = opens_name
opened_view c _ = opens_other refl

pub data OpenedNameView (c : Context) : TokenKind → Type 0 where
  closes_name : OpenedNameView c token.RightParen
  opens_pair : OpenedNameView c token.LeftBracket
  goes_on : {k : TokenKind} → opened_name c k ≡ parenthesized c (behind_path context.Expression ending.Name k) → OpenedNameView c k

pub opened_name_view : (c : Context) (k : TokenKind) → OpenedNameView c k
opened_name_view c token.RightParen = closes_name
opened_name_view c token.LeftBracket = opens_pair
opened_name_view c _ = goes_on refl

-- one token told apart from the others
pub data OneView (f : TokenKind → Move) (one : TokenKind) (g : TokenKind → Move) : TokenKind → Type 0 where
  the_one : OneView f one g one
  another : {k : TokenKind} → f k ≡ g k → OneView f one g k

abbrev pub opened_pair_index : Context → TokenKind → Move
opened_pair_index c k =
    indexed 2 ((1, frame.Path context.Expression ending.Place) ∷ (1, frame.Expect token.RightParen) ∷ (0, frame.Path c ending.Other) ∷ []) k

pub opened_pair_view : (c : Context) (k : TokenKind) → OneView (opened_pair c) token.RightBracket (opened_pair_index c) k
opened_pair_view c token.RightBracket = the_one
opened_pair_view c _ = another refl

abbrev pub new_primitive_begins : Context → TokenKind → Move
new_primitive_begins c k = if is_primitive k then goes (frame.NewPrimitive c ∷ []) else refuses

pub new_begins_view : (c : Context) (k : TokenKind) → OneView (new_begins c) token.Identifier (new_primitive_begins c) k
new_begins_view c token.Identifier = the_one
new_begins_view c _ = another refl

pub new_opened_view : (c : Context) (k : TokenKind) → OneView (new_opened c) token.RightBracket (indexed 1 ((0, frame.NewSized c) ∷ [])) k
new_opened_view c token.RightBracket = the_one
new_opened_view c _ = another refl

pub new_sized_view : (c : Context) (k : TokenKind) → OneView (new_sized c) token.LeftBracket (behind_path c ending.Other) k
new_sized_view c token.LeftBracket = the_one
new_sized_view c _ = another refl

pub new_sized_opened_view : (c : Context) (k : TokenKind) →
    OneView (new_sized_opened c) token.RightBracket (indexed 1 ((0, frame.NewSized c) ∷ [])) k
new_sized_opened_view c token.RightBracket = the_one
new_sized_opened_view c _ = another refl

pub new_unsized_view : (c : Context) (k : TokenKind) → OneView (new_unsized c) token.LeftBracket (behind_path c ending.Other) k
new_unsized_view c token.LeftBracket = the_one
new_unsized_view c _ = another refl

pub new_unsized_opened_view : (c : Context) (k : TokenKind) →
    OneView (new_unsized_opened c) token.RightBracket (indexed 1 ((0, frame.Path c ending.Place) ∷ [])) k
new_unsized_opened_view c token.RightBracket = the_one
new_unsized_opened_view c _ = another refl

abbrev pub some_arguments : TokenKind → Move
some_arguments k = inside 0 ((0, frame.MoreArguments) ∷ []) (begins context.Expression k)

pub arguments_view : (k : TokenKind) → OneView arguments token.RightParen some_arguments k
arguments_view token.RightParen = the_one
arguments_view _ = another refl

pub initial_view : (k : TokenKind) → OneView initial token.LeftBrace (begins context.Expression) k
initial_view token.LeftBrace = the_one
initial_view _ = another refl

abbrev pub some_values : TokenKind → Move
some_values k = inside 0 ((0, frame.MoreValues) ∷ []) (initial k)

pub values_view : (k : TokenKind) → OneView values token.RightBrace some_values k
values_view token.RightBrace = the_one
values_view _ = another refl

abbrev pub primitive_use : TokenKind → Move
primitive_use k = if is_primitive k then goes (frame.Brackets ∷ []) else refuses

pub type_view : (k : TokenKind) → OneView type_use token.Identifier primitive_use k
type_view token.Identifier = the_one
type_view _ = another refl

-- two tokens told apart from the others, with which there is this move
pub data TwoView (f : TokenKind → Move) (one two : TokenKind) (other : Move) : TokenKind → Type 0 where
  the_first : TwoView f one two other one
  the_second : TwoView f one two other two
  neither : {k : TokenKind} → f k ≡ other → TwoView f one two other k

pub cast_type_view : (primitive : Bool) (c : Context) (k : TokenKind) → TwoView (cast_type primitive c) token.LeftBracket token.RightParen refuses k
cast_type_view primitive c token.LeftBracket = the_first
cast_type_view primitive c token.RightParen = the_second
cast_type_view true c _ = neither refl
cast_type_view false c _ = neither refl

pub new_named_view : (c : Context) (k : TokenKind) → TwoView (new_named c) token.LeftParen token.LeftBracket refuses k
new_named_view c token.LeftParen = the_first
new_named_view c token.LeftBracket = the_second
new_named_view c _ = neither refl

pub new_primitive_view : (c : Context) (k : TokenKind) → OneView (new_primitive c) token.LeftBracket (λ k. refuses) k
new_primitive_view c token.LeftBracket = the_one
new_primitive_view c _ = another refl

pub new_filled_view : (c : Context) (k : TokenKind) → TwoView (new_filled c) token.LeftBracket token.LeftBrace refuses k
new_filled_view c token.LeftBracket = the_first
new_filled_view c token.LeftBrace = the_second
new_filled_view c _ = neither refl

pub more_arguments_view : (k : TokenKind) → TwoView more_arguments token.RightParen token.Comma refuses k
more_arguments_view token.RightParen = the_first
more_arguments_view token.Comma = the_second
more_arguments_view _ = neither refl

pub more_values_view : (k : TokenKind) → TwoView more_values token.RightBrace token.Comma refuses k
more_values_view token.RightBrace = the_first
more_values_view token.Comma = the_second
more_values_view _ = neither refl

pub brackets_view : (k : TokenKind) → OneView brackets token.LeftBracket (λ k. passes) k
brackets_view token.LeftBracket = the_one
brackets_view _ = another refl

pub member_view : (c : Context) (k : TokenKind) → OneView (move_of (frame.Member c)) token.Identifier (λ k. refuses) k
member_view c token.Identifier = the_one
member_view c _ = another refl

pub open_arguments_view : (k : TokenKind) → OneView (move_of frame.OpenArguments) token.LeftParen (λ k. refuses) k
open_arguments_view token.LeftParen = the_one
open_arguments_view _ = another refl
