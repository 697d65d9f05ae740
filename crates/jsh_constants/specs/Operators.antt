-- What operators give (JLS 15.15 to 15.24). The operands were converted to the types that the operation computes in.
use Rattle.std.specs.Prelude.{ℕ, ℤ, Bool, not, ◌&&◌, ◌||◌, ◌++◌, if◌then◌else◌, Option, Some, None}
use Rattle.std.specs.Ordering.{int_eq}
use Rattle.std.specs.Int.{w32, w64, int_wrapping_neg, int_bit_not}
use Rattle.jsh_text.specs.declared.value.Value.{Value}
use Rattle.jsh_text.specs.declared.value.Value.TheVariants as value
use Rattle.jsh_typed.specs.declared.types.Promoted.{Promoted}
use Rattle.jsh_typed.specs.declared.types.Promoted.TheVariants as promoted_to
use Rattle.jsh_typed.specs.declared.conversion.ComparedAs.{ComparedAs}
use Rattle.jsh_typed.specs.declared.conversion.ComparedAs.TheVariants as compared
use Rattle.jsh_typed.specs.declared.operation.Arithmetic.{Arithmetic}
use Rattle.jsh_typed.specs.declared.operation.Shift.{Shift}
use Rattle.jsh_typed.specs.declared.operation.Comparison.{Comparison}
use Rattle.jsh_typed.specs.declared.operation.Logic.{Logic}
use Rattle.jsh_typed.specs.declared.operation.Logic.TheVariants as logic_operator
use Rattle.jsh_typed.specs.declared.operation.UnaryOperation.{UnaryOperation}
use Rattle.jsh_typed.specs.declared.operation.UnaryOperation.TheVariants as in_front
use Rattle.jsh_typed.specs.declared.operation.BinaryOperation.{BinaryOperation}
use Rattle.jsh_typed.specs.declared.operation.BinaryOperation.TheVariants as between
use Rattle.jsh_constants.specs.declared.operate.Computed.{Computed}
use Rattle.jsh_constants.specs.declared.operate.Computed.TheVariants as gives
use Rattle.jsh_constants.specs.Numbers.{int_arithmetic, long_arithmetic, distance_of, int_shift, long_shift, compares}
use Rattle.jsh_constants.specs.References.{same_reference}

-- an operator in front of an operand (JLS 15.15); None for an operand of another kind
abbrev pub unary_value : UnaryOperation → Value → Option Value
unary_value (in_front.Plus promoted_to.Int) (value.Int n) = Some (value.Int n)
unary_value (in_front.Plus promoted_to.Long) (value.Long n) = Some (value.Long n)
unary_value (in_front.Minus promoted_to.Int) (value.Int n) = Some (value.Int (int_wrapping_neg w32 n))
unary_value (in_front.Minus promoted_to.Long) (value.Long n) = Some (value.Long (int_wrapping_neg w64 n))
unary_value (in_front.Complement promoted_to.Int) (value.Int n) = Some (value.Int (int_bit_not w32 n))
unary_value (in_front.Complement promoted_to.Long) (value.Long n) = Some (value.Long (int_bit_not w64 n))
unary_value in_front.Not (value.Boolean b) = Some (value.Boolean (not b))
unary_value _ _ = None

-- two texts, one behind the other (JLS 15.18.1)
abbrev pub join : Value → Value → Computed
join (value.Text a) (value.Text b) = gives.Value (value.Text (a ++ b))
join _ _ = gives.WrongKind

abbrev pub int_unless_zero : Option ℤ → Computed
int_unless_zero (Some n) = gives.Value (value.Int n)
int_unless_zero None = gives.ZeroDivisor

abbrev pub long_unless_zero : Option ℤ → Computed
long_unless_zero (Some n) = gives.Value (value.Long n)
long_unless_zero None = gives.ZeroDivisor

abbrev pub arithmetic_value : Arithmetic → Promoted → Value → Value → Computed
arithmetic_value operator promoted_to.Int (value.Int x) (value.Int y) = int_unless_zero (int_arithmetic operator x y)
arithmetic_value operator promoted_to.Long (value.Long x) (value.Long y) = long_unless_zero (long_arithmetic operator x y)
arithmetic_value operator _ _ _ = gives.WrongKind

-- a number shifted by a distance (JLS 15.19)
abbrev pub shifted : Shift → Promoted → Value → ℕ → Computed
shifted operator promoted_to.Int (value.Int n) distance = gives.Value (value.Int (int_shift operator n distance))
shifted operator promoted_to.Long (value.Long n) distance = gives.Value (value.Long (long_shift operator n distance))
shifted operator _ _ distance = gives.WrongKind

abbrev pub shift_value : Shift → Promoted → Promoted → Value → Value → Computed
shift_value operator operand distance v w = by (distance_of distance w)
  where
    by : Option ℕ → Computed
    by (Some bits) = shifted operator operand v bits
    by None = gives.WrongKind

abbrev pub comparison_value : Comparison → Promoted → Value → Value → Computed
comparison_value operator promoted_to.Int (value.Int x) (value.Int y) = gives.Value (value.Boolean (compares operator x y))
comparison_value operator promoted_to.Long (value.Long x) (value.Long y) = gives.Value (value.Boolean (compares operator x y))
comparison_value operator _ _ _ = gives.WrongKind

-- `&`, `|` and `^` of two booleans (JLS 15.22.2)
abbrev pub logic : Logic → Bool → Bool → Bool
logic logic_operator.And a b = a && b
logic logic_operator.Or a b = a || b
logic logic_operator.Xor a b = if a then not b else b

abbrev pub logic_value : Logic → Value → Value → Computed
logic_value operator (value.Boolean a) (value.Boolean b) = gives.Value (value.Boolean (logic operator a b))
logic_value operator _ _ = gives.WrongKind

-- what `==` says (JLS 15.21); None for operands of other kinds
abbrev pub are_equal : ComparedAs → Value → Value → Option Bool
are_equal (compared.Numbers promoted_to.Int) (value.Int x) (value.Int y) = Some (int_eq x y)
are_equal (compared.Numbers promoted_to.Long) (value.Long x) (value.Long y) = Some (int_eq x y)
are_equal compared.Booleans (value.Boolean a) (value.Boolean b) = Some (not (logic logic_operator.Xor a b))
are_equal compared.References v w = same_reference v w
are_equal _ _ _ = None

-- the answer of `==`, or of `!=` where it is negated
abbrev pub truth : Bool → Option Bool → Computed
truth negated (Some equal) = gives.Value (value.Boolean (logic logic_operator.Xor negated equal))
truth negated None = gives.WrongKind

-- an operator between two operands (JLS 15.17 to 15.24)
abbrev pub binary_value : BinaryOperation → Value → Value → Computed
binary_value between.Join v w = join v w
binary_value (between.Arithmetic operator operands) v w = arithmetic_value operator operands v w
binary_value (between.Shift operator operand distance) v w = shift_value operator operand distance v w
binary_value (between.Comparison operator operands) v w = comparison_value operator operands v w
binary_value (between.Logic operator) v w = logic_value operator v w
binary_value (between.Equality operands negated) v w = truth negated (are_equal operands v w)
binary_value between.AndAlso v w = logic_value logic_operator.And v w
binary_value between.OrElse v w = logic_value logic_operator.Or v w
