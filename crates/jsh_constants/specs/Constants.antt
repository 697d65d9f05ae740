-- The values of constant expressions (JLS 15.28): of one operator over constants.
use Rattle.std.specs.Prelude.{◌||◌, if◌then◌else◌, [], Option, Some, None, option_map, is_some}
use Rattle.std.specs.Option.{option_and_then}
use Rattle.jsh_text.specs.declared.value.Value.{Value}
use Rattle.jsh_text.specs.declared.value.Value.TheVariants as value
use Rattle.jsh_tree.specs.declared.expression.Literal.{Literal}
use Rattle.jsh_tree.specs.declared.expression.Literal.TheVariants as literal
use Rattle.jsh_tree.specs.declared.expression.BinaryOperator.{BinaryOperator}
use Rattle.jsh_tree.specs.declared.expression.UnaryOperator.{UnaryOperator}
use Rattle.jsh_typed.specs.declared.types.Element.{Element}
use Rattle.jsh_typed.specs.declared.types.Element.TheVariants as element
use Rattle.jsh_typed.specs.declared.types.ResolvedType.{ResolvedType}
use Rattle.jsh_typed.specs.declared.types.ResolvedType.TheVariants as type
use Rattle.jsh_typed.specs.declared.types.Numeric.{Numeric}
use Rattle.jsh_typed.specs.declared.types.Numeric.TheVariants as to_numeric
use Rattle.jsh_typed.specs.declared.types.Promoted.{Promoted}
use Rattle.jsh_typed.specs.declared.types.Promoted.TheVariants as promoted_to
use Rattle.jsh_typed.specs.declared.conversion.ComparedAs.TheVariants as compared
use Rattle.jsh_typed.specs.declared.conversion.BranchType.{BranchType}
use Rattle.jsh_typed.specs.declared.conversion.BranchType.TheVariants as branch
use Rattle.jsh_typed.specs.declared.operation.UnaryOperation.{UnaryOperation}
use Rattle.jsh_typed.specs.declared.operation.UnaryOperation.TheVariants as in_front
use Rattle.jsh_typed.specs.declared.operation.BinaryOperation.{BinaryOperation}
use Rattle.jsh_typed.specs.declared.operation.BinaryOperation.TheVariants as between
use Rattle.jsh_typed.specs.Types.{same_type, numeric_of}
use Rattle.jsh_typed.specs.Conversions.{branches}
use Rattle.jsh_typed.specs.Operations.{unary_operation, binary_operation}
use Rattle.jsh_constants.specs.declared.operate.Computed.{Computed}
use Rattle.jsh_constants.specs.declared.operate.Computed.TheVariants as gives
use Rattle.jsh_constants.specs.Numbers.{converted}
use Rattle.jsh_constants.specs.References.{text_of}
use Rattle.jsh_constants.specs.Operators.{unary_value, binary_value}

-- a type that is no array
abbrev pub plain : Element → ResolvedType
plain a = type.Of a 0

-- the type of a constant; null and objects are none
abbrev pub type_of_constant : Value → Option ResolvedType
type_of_constant (value.Int n) = Some (plain element.Int)
type_of_constant (value.Long n) = Some (plain element.Long)
type_of_constant (value.Char c) = Some (plain element.Char)
type_of_constant (value.Boolean b) = Some (plain element.Boolean)
type_of_constant (value.Text units) = Some (plain element.Text)
type_of_constant _ = None

-- the value of a literal other than null (JLS 15.8.1)
abbrev pub constant_literal : Literal → Option Value
constant_literal (literal.Int n needs_minus) = Some (value.Int n)
constant_literal (literal.Long n needs_minus) = Some (value.Long n)
constant_literal (literal.Char c) = Some (value.Char c)
constant_literal (literal.Text units) = Some (value.Text units)
constant_literal (literal.Boolean b) = Some (value.Boolean b)
constant_literal literal.Null = None

abbrev pub numeric : Promoted → Numeric
numeric promoted_to.Int = to_numeric.Int
numeric promoted_to.Long = to_numeric.Long

-- an operation on an operand that is promoted first (JLS 5.6.1)
abbrev pub promoted_unary : UnaryOperation → Value → Option Value
promoted_unary in_front.Not v = unary_value in_front.Not v
promoted_unary (in_front.Plus p) v = option_and_then (unary_value (in_front.Plus p)) (converted v (numeric p))
promoted_unary (in_front.Minus p) v = option_and_then (unary_value (in_front.Minus p)) (converted v (numeric p))
promoted_unary (in_front.Complement p) v = option_and_then (unary_value (in_front.Complement p)) (converted v (numeric p))

-- the value of an operator in front of a constant; None where that is no constant expression
unfoldable pub constant_unary : UnaryOperator → Value → Option Value
constant_unary operator v =
    option_and_then (λ operation. promoted_unary operation v) (option_and_then (unary_operation operator) (type_of_constant v))

-- the type of numbers that each operand is converted to, if it is (JLS 5.6.2, 15.19)
abbrev pub left_number : BinaryOperation → Option Promoted
left_number (between.Arithmetic operator operands) = Some operands
left_number (between.Comparison operator operands) = Some operands
left_number (between.Shift operator operand distance) = Some operand
left_number (between.Equality (compared.Numbers p) negated) = Some p
left_number _ = None

abbrev pub right_number : BinaryOperation → Option Promoted
right_number (between.Shift operator operand distance) = Some distance
right_number operation = left_number operation

-- an operand as the operation takes it: a number of that type, or a text where it joins
abbrev pub operand_of : BinaryOperation → Option Promoted → Value → Option Value
operand_of operation (Some p) v = converted v (numeric p)
operand_of between.Join None v = option_map (λ units. value.Text units) (text_of v)
operand_of operation None v = Some v

abbrev pub computed_value : Computed → Option Value
computed_value (gives.Value v) = Some v
computed_value _ = None

-- an operation on two operands that are converted first
unfoldable pub converted_binary : BinaryOperation → Value → Value → Option Value
converted_binary operation v w =
    option_and_then (λ a. option_and_then (λ b. computed_value (binary_value operation a b)) (operand_of operation (right_number operation) w))
    (operand_of operation (left_number operation) v)

-- The value of an operator between constants. None where that is no constant expression: the operator doesn't take them, or the divisor
-- is zero.
unfoldable pub constant_binary : BinaryOperator → Value → Value → Option Value
constant_binary operator v w = option_and_then (λ operation. converted_binary operation v w)
    (option_and_then (λ s. option_and_then (λ t. binary_operation [] operator s t) (type_of_constant w)) (type_of_constant v))

-- a number as a number of the type, and any other value as it is
abbrev pub of_type : ResolvedType → Value → Option Value
of_type t v = by (numeric_of t)
  where
    by : Option Numeric → Option Value
    by (Some a) = converted v a
    by None = Some v

-- the chosen branch in the type of both
unfoldable pub of_branch : Option BranchType → ResolvedType → ResolvedType → Value → Option Value
of_branch (Some branch.First) s t v = of_type s v
of_branch (Some branch.Second) s t v = of_type t v
of_branch (Some (branch.Numbers p)) s t v = converted v (numeric p)
of_branch None s t v = None

-- the type of `?:` over constants of two types
unfoldable pub branches_of : ResolvedType → Value → ResolvedType → Value → Option BranchType
branches_of s v t w = branches [] s (Some v) t (Some w)

-- the value of `?:` over constants (JLS 15.25); None where they don't go together
unfoldable pub constant_choice : Value → Value → Value → Option Value
constant_choice (value.Boolean b) v w = by (type_of_constant v) (type_of_constant w)
  where
    by : Option ResolvedType → Option ResolvedType → Option Value
    by (Some s) (Some t) = of_branch (branches_of s v t w) s t (if b then v else w)
    by _ _ = None
constant_choice _ v w = None

-- the value of a cast to a type of numbers or to the operand's own type (JLS 15.16); None for any other
unfoldable pub constant_cast : ResolvedType → Value → Option Value
constant_cast t v = by (type_of_constant v)
  where
    by : Option ResolvedType → Option Value
    by (Some s) = if same_type s t || is_some (numeric_of t) then of_type t v else None
    by None = None
