-- What the recognizer does with the kinds of tokens of a class.
use Rattle.std.proofs.Common.{◌≡◌, ℕ, ◌<◌, Bool, true, false, ◌||◌, [], ◌∷◌, refl, arith}
use Rattle.jsh_tree.specs.declared.token.TokenKind.{TokenKind}
use Rattle.jsh_tree.specs.declared.token.TokenKind.TheVariants as token
use Rattle.jsh_grammar.specs.Classes.{is_literal, is_assignment, is_operator, is_prefix, is_step}
use Rattle.jsh_recognizer.specs.declared.frame.Context.{Context}
use Rattle.jsh_recognizer.specs.declared.frame.Context.TheVariants as context
use Rattle.jsh_recognizer.specs.declared.frame.Ending.{Ending}
use Rattle.jsh_recognizer.specs.declared.frame.Ending.TheVariants as ending
use Rattle.jsh_recognizer.specs.declared.frame.Frame.TheVariants as frame
use Rattle.std.proofs.lemmas.Bool.{eqb-true}
use Rattle.jsh_recognizer.specs.Machine.{is_loose_operator, is_tight_operator, takes, passes, goes, begins, behind_operand, behind_path, is_target}

-- what closes an expression
abbrev pub is_closer : TokenKind → Bool
is_closer token.RightParen = true
is_closer token.RightBracket = true
is_closer token.RightBrace = true
is_closer token.Comma = true
is_closer token.Colon = true
is_closer token.Semicolon = true
is_closer _ = false

-- an operator between operands, or what closes an expression
abbrev pub is_behind_operand : TokenKind → Bool
is_behind_operand token.Instanceof = true
is_behind_operand token.Question = true
is_behind_operand k = is_loose_operator k || is_tight_operator k || is_closer k

-- ---- how operands begin

pub begins_literal : (c : Context) (k : TokenKind) → is_literal k ≡ true → begins c k ≡ goes (frame.Path c ending.Other ∷ [])
begins_literal context.Expression token.IntLiteral is = refl
begins_literal context.Expression _ is = cc
begins_literal context.Target token.IntLiteral is = refl
begins_literal context.Target _ is = cc
begins_literal context.Operand token.IntLiteral is = refl
begins_literal context.Operand _ is = cc
begins_literal context.Effect token.IntLiteral is = refl
begins_literal context.Effect _ is = cc

pub first_step : (k : TokenKind) → is_step k ≡ true → begins context.Expression k ≡ takes 0 ((1, frame.Target) ∷ (0, frame.Operators false) ∷ [])
first_step token.PlusPlus is = refl
first_step _ is = cc

pub operand_step : (k : TokenKind) → is_step k ≡ true → begins context.Operand k ≡ takes 0 ((1, frame.Target) ∷ [])
operand_step token.PlusPlus is = refl
operand_step _ is = cc

pub effect_step : (k : TokenKind) → is_step k ≡ true → begins context.Effect k ≡ takes 0 ((1, frame.Target) ∷ [])
effect_step token.PlusPlus is = refl
effect_step _ is = cc

pub first_prefix : (k : TokenKind) → is_prefix k ≡ true → begins context.Expression k ≡ takes 0 ((1, frame.Operand) ∷ (0, frame.Operators false) ∷ [])
first_prefix token.Bang is = refl
first_prefix _ is = cc

pub operand_prefix : (k : TokenKind) → is_prefix k ≡ true → begins context.Operand k ≡ takes 0 ((1, frame.Operand) ∷ [])
operand_prefix token.Bang is = refl
operand_prefix _ is = cc

-- ---- operators

pub at_operator : (n : ℕ) (k : TokenKind) → is_operator n k ≡ true → behind_operand false k ≡ goes (frame.Operand ∷ frame.Operators false ∷ [])
at_operator n token.OrOr is = refl
at_operator n _ is = cc

-- behind a type
pub at_loose_operator : (n : ℕ) (k : TokenKind) → is_operator n k ≡ true → n < 7 → behind_operand true k ≡ goes (frame.Operand ∷ frame.Operators false ∷ [])
at_loose_operator n token.ShiftLeft is less = let same : n ≡ 7 = eqb-true n 7 is in absurd (omega (arith, same, less))
at_loose_operator n token.ShiftRight is less = let same : n ≡ 7 = eqb-true n 7 is in absurd (omega (arith, same, less))
at_loose_operator n token.UnsignedShiftRight is less = let same : n ≡ 7 = eqb-true n 7 is in absurd (omega (arith, same, less))
at_loose_operator n token.Plus is less = let same : n ≡ 8 = eqb-true n 8 is in absurd (omega (arith, same, less))
at_loose_operator n token.Minus is less = let same : n ≡ 8 = eqb-true n 8 is in absurd (omega (arith, same, less))
at_loose_operator n token.Star is less = let same : n ≡ 9 = eqb-true n 9 is in absurd (omega (arith, same, less))
at_loose_operator n token.Slash is less = let same : n ≡ 9 = eqb-true n 9 is in absurd (omega (arith, same, less))
at_loose_operator n token.Percent is less = let same : n ≡ 9 = eqb-true n 9 is in absurd (omega (arith, same, less))
at_loose_operator n _ is less = cc

pub at_closer : (behind_type : Bool) (k : TokenKind) → is_closer k ≡ true → behind_operand behind_type k ≡ passes
at_closer true token.RightParen is = refl
at_closer true _ is = cc
at_closer false token.RightParen is = refl
at_closer false _ is = cc

pub operator_behind_operand : (n : ℕ) (k : TokenKind) → is_operator n k ≡ true → is_behind_operand k ≡ true
operator_behind_operand n token.OrOr is = refl
operator_behind_operand n _ is = cc

pub closer_behind_operand : (k : TokenKind) → is_closer k ≡ true → is_behind_operand k ≡ true
closer_behind_operand token.RightParen is = refl
closer_behind_operand _ is = cc

-- ---- behind paths

-- no path takes these kinds
pub path_operand : (e : Ending) (k : TokenKind) → is_behind_operand k ≡ true → behind_path context.Expression e k ≡ behind_operand false k
path_operand ending.Name token.RightParen is = refl
path_operand ending.Name _ is = cc
path_operand ending.Place token.RightParen is = refl
path_operand ending.Place _ is = cc
path_operand ending.Call token.RightParen is = refl
path_operand ending.Call _ is = cc
path_operand ending.Other token.RightParen is = refl
path_operand ending.Other _ is = cc

pub operand_passes : (e : Ending) (k : TokenKind) → is_behind_operand k ≡ true → behind_path context.Operand e k ≡ passes
operand_passes ending.Name token.RightParen is = refl
operand_passes ending.Name _ is = cc
operand_passes ending.Place token.RightParen is = refl
operand_passes ending.Place _ is = cc
operand_passes ending.Call token.RightParen is = refl
operand_passes ending.Call _ is = cc
operand_passes ending.Other token.RightParen is = refl
operand_passes ending.Other _ is = cc

pub target_passes : (e : Ending) → is_target e ≡ true → (k : TokenKind) → is_behind_operand k ≡ true → behind_path context.Target e k ≡ passes
target_passes ending.Name ends token.RightParen is = refl
target_passes ending.Name ends _ is = cc
target_passes ending.Place ends token.RightParen is = refl
target_passes ending.Place ends _ is = cc
target_passes ending.Call ends k is = absurd cc
target_passes ending.Other ends k is = absurd cc

pub effect_passes : (k : TokenKind) → is_closer k ≡ true → behind_path context.Effect ending.Call k ≡ passes
effect_passes token.RightParen is = refl
effect_passes _ is = cc

pub path_step : (e : Ending) → is_target e ≡ true → (k : TokenKind) → is_step k ≡ true →
    behind_path context.Expression e k ≡ takes 0 ((0, frame.Operators false) ∷ [])
path_step ending.Name ends token.PlusPlus is = refl
path_step ending.Name ends _ is = cc
path_step ending.Place ends token.PlusPlus is = refl
path_step ending.Place ends _ is = cc
path_step ending.Call ends k is = absurd cc
path_step ending.Other ends k is = absurd cc

pub path_operand_step : (e : Ending) → is_target e ≡ true → (k : TokenKind) → is_step k ≡ true → behind_path context.Operand e k ≡ takes 0 []
path_operand_step ending.Name ends token.PlusPlus is = refl
path_operand_step ending.Name ends _ is = cc
path_operand_step ending.Place ends token.PlusPlus is = refl
path_operand_step ending.Place ends _ is = cc
path_operand_step ending.Call ends k is = absurd cc
path_operand_step ending.Other ends k is = absurd cc

pub path_effect_step : (e : Ending) → is_target e ≡ true → (k : TokenKind) → is_step k ≡ true → behind_path context.Effect e k ≡ takes 0 []
path_effect_step ending.Name ends token.PlusPlus is = refl
path_effect_step ending.Name ends _ is = cc
path_effect_step ending.Place ends token.PlusPlus is = refl
path_effect_step ending.Place ends _ is = cc
path_effect_step ending.Call ends k is = absurd cc
path_effect_step ending.Other ends k is = absurd cc

pub path_assigned : (e : Ending) → is_target e ≡ true → (k : TokenKind) → is_assignment k ≡ true →
    behind_path context.Expression e k ≡ takes 0 ((1, frame.Expression) ∷ [])
path_assigned ending.Name ends token.Assign is = refl
path_assigned ending.Name ends _ is = cc
path_assigned ending.Place ends token.Assign is = refl
path_assigned ending.Place ends _ is = cc
path_assigned ending.Call ends k is = absurd cc
path_assigned ending.Other ends k is = absurd cc

pub path_effect_assigned : (e : Ending) → is_target e ≡ true → (k : TokenKind) → is_assignment k ≡ true →
    behind_path context.Effect e k ≡ takes 0 ((1, frame.Expression) ∷ [])
path_effect_assigned ending.Name ends token.Assign is = refl
path_effect_assigned ending.Name ends _ is = cc
path_effect_assigned ending.Place ends token.Assign is = refl
path_effect_assigned ending.Place ends _ is = cc
path_effect_assigned ending.Call ends k is = absurd cc
path_effect_assigned ending.Other ends k is = absurd cc
