-- The symbols of each production can be met: every part in it has productions, and every class has a token.
use Rattle.std.proofs.Common.{◌≡◌, ℕ, zero, suc, ◌<◌, ◌≤◌, Bool, true, List, [], ◌∷◌, refl, arith}
use Rattle.jsh_tree.specs.declared.token.TokenKind.{TokenKind}
use Rattle.jsh_tree.specs.declared.token.TokenKind.TheVariants as token
use Rattle.jsh_grammar.specs.Classes.{is_literal, is_primitive, is_type_name, is_assignment, is_operator, is_prefix, is_negation, is_step, is_case_value, is_modifier, is_member_modifier, is_interface_modifier}
use Rattle.jsh_grammar.specs.Productions as grammar
use Rattle.jsh_grammar.specs.Productions.{Part, Symbol, a, any, part, deep, IsProduction, operands, comparisons}

-- the part has productions
abbrev pub IsProductive : Part → Type 0
IsProductive (grammar.level n) = n ≤ operands
IsProductive (grammar.operations n) = n < operands
IsProductive _ = Unit {0}

-- the symbol can be met
abbrev pub IsUsable : Symbol → Type 0
IsUsable (a k) = Unit {0}
IsUsable (any test) = (k : TokenKind) × (test k ≡ true)
IsUsable (part n) = IsProductive n
IsUsable (deep n) = IsProductive n

-- all symbols can be met
abbrev pub AreUsable : List Symbol → Type 0
AreUsable [] = Unit {0}
AreUsable (s ∷ ss) = IsUsable s × AreUsable ss

-- a token of the class
abbrev OneOf : (TokenKind → Bool) → Type 0
OneOf test = (k : TokenKind) × (test k ≡ true)

-- each level has an operator
pub operator : (n : ℕ) → n < operands → OneOf (is_operator n)
operator zero less = (token.OrOr, refl)
operator (suc zero) less = (token.AndAnd, refl)
operator (suc (suc zero)) less = (token.Bar, refl)
operator (suc (suc (suc zero))) less = (token.Caret, refl)
operator (suc (suc (suc (suc zero)))) less = (token.Ampersand, refl)
operator (suc (suc (suc (suc (suc zero))))) less = (token.EqualTo, refl)
operator (suc (suc (suc (suc (suc (suc zero)))))) less = (token.LessThan, refl)
operator (suc (suc (suc (suc (suc (suc (suc zero))))))) less = (token.ShiftLeft, refl)
operator (suc (suc (suc (suc (suc (suc (suc (suc zero)))))))) less = (token.Plus, refl)
operator (suc (suc (suc (suc (suc (suc (suc (suc (suc zero))))))))) less = (token.Star, refl)
operator (suc (suc (suc (suc (suc (suc (suc (suc (suc (suc n)))))))))) less = absurd (omega arith)

some_literal : OneOf is_literal
some_literal = (token.True, refl)

some_primitive : OneOf is_primitive
some_primitive = (token.Int, refl)

some_type_name : OneOf is_type_name
some_type_name = (token.Int, refl)

some_assignment : OneOf is_assignment
some_assignment = (token.Assign, refl)

some_prefix : OneOf is_prefix
some_prefix = (token.Bang, refl)

some_negation : OneOf is_negation
some_negation = (token.Bang, refl)

some_step : OneOf is_step
some_step = (token.PlusPlus, refl)

some_case_value : OneOf is_case_value
some_case_value = (token.IntLiteral, refl)

some_modifier : OneOf is_modifier
some_modifier = (token.Final, refl)

some_member_modifier : OneOf is_member_modifier
some_member_modifier = (token.Final, refl)

some_interface_modifier : OneOf is_interface_modifier
some_interface_modifier = (token.Public, refl)

first_level : zero ≤ operands
first_level = omega arith

last_level : operands ≤ operands
last_level = omega arith

comparisons_level : comparisons < operands
comparisons_level = omega arith

-- the symbols of a production can be met
pub all_usable : {n : Part} {p : List Symbol} → IsProduction n p → AreUsable p
all_usable (grammar.of_level less) = (omega arith, (omega arith, tt))
all_usable (grammar.of_operation {n = n} less) = (operator n less, (omega arith, (omega arith, tt)))
all_usable _ = assumption (
  first_level,
  last_level,
  comparisons_level,
  some_literal,
  some_primitive,
  some_type_name,
  some_assignment,
  some_prefix,
  some_negation,
  some_step,
  some_case_value,
  some_modifier,
  some_member_modifier,
  some_interface_modifier,
)
