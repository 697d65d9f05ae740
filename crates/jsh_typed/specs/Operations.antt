-- What an operator does, by the types of its operands (JLS 15.15 to 15.24).
use Rattle.std.specs.Prelude.{Bool, true, false, ◌&&◌, ◌||◌, if◌then◌else◌, List, Option, Some, None, option_map}
use Rattle.jsh_tree.specs.declared.expression.BinaryOperator.{BinaryOperator}
use Rattle.jsh_tree.specs.declared.expression.BinaryOperator.TheVariants as binary
use Rattle.jsh_tree.specs.declared.expression.UnaryOperator.{UnaryOperator}
use Rattle.jsh_tree.specs.declared.expression.UnaryOperator.TheVariants as unary
use Rattle.jsh_typed.specs.declared.types.Element.{Element}
use Rattle.jsh_typed.specs.declared.types.Element.TheVariants as element
use Rattle.jsh_typed.specs.declared.types.ResolvedType.{ResolvedType}
use Rattle.jsh_typed.specs.declared.types.Numeric.{Numeric}
use Rattle.jsh_typed.specs.declared.types.Promoted.{Promoted}
use Rattle.jsh_typed.specs.declared.types.Promoted.TheVariants as promoted_to
use Rattle.jsh_typed.specs.declared.hierarchy.HierarchyEntry.{HierarchyEntry}
use Rattle.jsh_typed.specs.declared.operation.Arithmetic.{Arithmetic}
use Rattle.jsh_typed.specs.declared.operation.Arithmetic.TheVariants as arithmetic_operator
use Rattle.jsh_typed.specs.declared.operation.Shift.{Shift}
use Rattle.jsh_typed.specs.declared.operation.Shift.TheVariants as shift_operator
use Rattle.jsh_typed.specs.declared.operation.Comparison.{Comparison}
use Rattle.jsh_typed.specs.declared.operation.Comparison.TheVariants as comparison_operator
use Rattle.jsh_typed.specs.declared.operation.Logic.{Logic}
use Rattle.jsh_typed.specs.declared.operation.Logic.TheVariants as logic_operator
use Rattle.jsh_typed.specs.declared.operation.UnaryOperation.{UnaryOperation}
use Rattle.jsh_typed.specs.declared.operation.UnaryOperation.TheVariants as in_front
use Rattle.jsh_typed.specs.declared.operation.BinaryOperation.{BinaryOperation}
use Rattle.jsh_typed.specs.declared.operation.BinaryOperation.TheVariants as between
use Rattle.jsh_typed.specs.Types.{is_text, is_boolean, numeric_of, promoted}
use Rattle.jsh_typed.specs.Conversions.{common_number, compared}

abbrev pub element_of : Promoted → Element
element_of promoted_to.Int = element.Int
element_of promoted_to.Long = element.Long

-- the type of the value, which is that of the operand
abbrev pub unary_result : UnaryOperation → Element
unary_result (in_front.Plus p) = element_of p
unary_result (in_front.Minus p) = element_of p
unary_result (in_front.Complement p) = element_of p
unary_result in_front.Not = element.Boolean

-- the type of the value
abbrev pub binary_result : BinaryOperation → Element
binary_result between.Join = element.Text
binary_result (between.Arithmetic operator p) = element_of p
binary_result (between.Shift operator p d) = element_of p
binary_result _ = element.Boolean

-- `+`, `-` and `~` take a number, `!` a boolean; `++` and `--` are no such operators (JLS 15.15)
abbrev pub unary_operation : UnaryOperator → ResolvedType → Option UnaryOperation
unary_operation unary.Plus t = option_map (λ a. in_front.Plus (promoted a)) (numeric_of t)
unary_operation unary.Minus t = option_map (λ a. in_front.Minus (promoted a)) (numeric_of t)
unary_operation unary.Complement t = option_map (λ a. in_front.Complement (promoted a)) (numeric_of t)
unary_operation unary.Not t = if is_boolean t then Some in_front.Not else None
unary_operation _ t = None

-- an operation on two booleans
abbrev pub on_booleans : BinaryOperation → ResolvedType → ResolvedType → Option BinaryOperation
on_booleans operation s t = if is_boolean s && is_boolean t then Some operation else None

-- an operation on two numbers, which are promoted together (JLS 15.17, 15.18.2)
abbrev pub arithmetic_of : Arithmetic → ResolvedType → ResolvedType → Option BinaryOperation
arithmetic_of operator s t = option_map (λ p. between.Arithmetic operator p) (common_number s t)

-- a comparison of two numbers (JLS 15.20.1)
abbrev pub comparison_of : Comparison → ResolvedType → ResolvedType → Option BinaryOperation
comparison_of operator s t = option_map (λ p. between.Comparison operator p) (common_number s t)

-- an operation on two booleans, or on the bits of two numbers (JLS 15.22)
abbrev pub bitwise : Logic → Arithmetic → ResolvedType → ResolvedType → Option BinaryOperation
bitwise logic operator s t = if is_boolean s && is_boolean t then Some (between.Logic logic) else arithmetic_of operator s t

-- a shift of a number by a number, each promoted by itself (JLS 15.19)
abbrev pub shift_by : Shift → Option Numeric → Option Numeric → Option BinaryOperation
shift_by operator (Some a) (Some b) = Some (between.Shift operator (promoted a) (promoted b))
shift_by operator _ _ = None

abbrev pub shift_of : Shift → ResolvedType → ResolvedType → Option BinaryOperation
shift_of operator s t = shift_by operator (numeric_of s) (numeric_of t)

-- `+` joins where an operand is a text, and else adds numbers (JLS 15.18)
abbrev pub addition : ResolvedType → ResolvedType → Option BinaryOperation
addition s t = if is_text s || is_text t then Some between.Join else arithmetic_of arithmetic_operator.Add s t

-- every operator but `==` and `!=`
abbrev pub plain_operation : BinaryOperator → ResolvedType → ResolvedType → Option BinaryOperation
plain_operation binary.OrElse s t = on_booleans between.OrElse s t
plain_operation binary.AndAlso s t = on_booleans between.AndAlso s t
plain_operation binary.Or s t = bitwise logic_operator.Or arithmetic_operator.Or s t
plain_operation binary.Xor s t = bitwise logic_operator.Xor arithmetic_operator.Xor s t
plain_operation binary.And s t = bitwise logic_operator.And arithmetic_operator.And s t
plain_operation binary.Equal s t = None
plain_operation binary.NotEqual s t = None
plain_operation binary.Less s t = comparison_of comparison_operator.Less s t
plain_operation binary.Greater s t = comparison_of comparison_operator.Greater s t
plain_operation binary.LessOrEqual s t = comparison_of comparison_operator.LessOrEqual s t
plain_operation binary.GreaterOrEqual s t = comparison_of comparison_operator.GreaterOrEqual s t
plain_operation binary.ShiftLeft s t = shift_of shift_operator.Left s t
plain_operation binary.ShiftRight s t = shift_of shift_operator.Right s t
plain_operation binary.UnsignedShiftRight s t = shift_of shift_operator.UnsignedRight s t
plain_operation binary.Add s t = addition s t
plain_operation binary.Subtract s t = arithmetic_of arithmetic_operator.Subtract s t
plain_operation binary.Multiply s t = arithmetic_of arithmetic_operator.Multiply s t
plain_operation binary.Divide s t = arithmetic_of arithmetic_operator.Divide s t
plain_operation binary.Remainder s t = arithmetic_of arithmetic_operator.Remainder s t

-- `==` and `!=` (JLS 15.21)
abbrev pub equality : List HierarchyEntry → Bool → ResolvedType → ResolvedType → Option BinaryOperation
equality hierarchy negated s t = option_map (λ operands. between.Equality operands negated) (compared hierarchy s t)

-- what an operator does between operands of two types; None where it doesn't take them
abbrev pub binary_operation : List HierarchyEntry → BinaryOperator → ResolvedType → ResolvedType → Option BinaryOperation
binary_operation hierarchy binary.Equal s t = equality hierarchy false s t
binary_operation hierarchy binary.NotEqual s t = equality hierarchy true s t
binary_operation hierarchy operator s t = plain_operation operator s t
