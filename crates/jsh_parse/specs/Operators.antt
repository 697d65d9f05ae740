-- The operators, by their tokens, and how tightly they bind (JLS 15.14 to 15.26).
use Rattle.std.specs.Prelude.{ℕ, Option, Some, None}
use Rattle.jsh_tree.specs.declared.token.TokenKind.{TokenKind}
use Rattle.jsh_tree.specs.declared.token.TokenKind.TheVariants as token
use Rattle.jsh_tree.specs.declared.expression.BinaryOperator.{BinaryOperator}
use Rattle.jsh_tree.specs.declared.expression.BinaryOperator.TheVariants as binary
use Rattle.jsh_tree.specs.declared.expression.UnaryOperator.{UnaryOperator}
use Rattle.jsh_tree.specs.declared.expression.UnaryOperator.TheVariants as unary
use Rattle.jsh_tree.specs.declared.expression.PostfixOperator.{PostfixOperator}
use Rattle.jsh_tree.specs.declared.expression.PostfixOperator.TheVariants as postfix

-- the operators between two operands
abbrev pub binary_operator : TokenKind → Option BinaryOperator
binary_operator token.OrOr = Some binary.OrElse
binary_operator token.AndAnd = Some binary.AndAlso
binary_operator token.Bar = Some binary.Or
binary_operator token.Caret = Some binary.Xor
binary_operator token.Ampersand = Some binary.And
binary_operator token.EqualTo = Some binary.Equal
binary_operator token.NotEqual = Some binary.NotEqual
binary_operator token.LessThan = Some binary.Less
binary_operator token.GreaterThan = Some binary.Greater
binary_operator token.LessOrEqual = Some binary.LessOrEqual
binary_operator token.GreaterOrEqual = Some binary.GreaterOrEqual
binary_operator token.ShiftLeft = Some binary.ShiftLeft
binary_operator token.ShiftRight = Some binary.ShiftRight
binary_operator token.UnsignedShiftRight = Some binary.UnsignedShiftRight
binary_operator token.Plus = Some binary.Add
binary_operator token.Minus = Some binary.Subtract
binary_operator token.Star = Some binary.Multiply
binary_operator token.Slash = Some binary.Divide
binary_operator token.Percent = Some binary.Remainder
binary_operator _ = None

-- The levels, from the one that binds least. `instanceof` has that of the comparisons.
abbrev pub level_of : BinaryOperator → ℕ
level_of binary.OrElse = 0
level_of binary.AndAlso = 1
level_of binary.Or = 2
level_of binary.Xor = 3
level_of binary.And = 4
level_of binary.Equal = 5
level_of binary.NotEqual = 5
level_of binary.Less = 6
level_of binary.Greater = 6
level_of binary.LessOrEqual = 6
level_of binary.GreaterOrEqual = 6
level_of binary.ShiftLeft = 7
level_of binary.ShiftRight = 7
level_of binary.UnsignedShiftRight = 7
level_of binary.Add = 8
level_of binary.Subtract = 8
level_of binary.Multiply = 9
level_of binary.Divide = 9
level_of binary.Remainder = 9

abbrev pub comparison_level : ℕ
comparison_level = 6

-- behind all levels of operators between two operands stand those of one operand
abbrev pub operand_level : ℕ
operand_level = 10

-- `=`, or the operator of a compound assignment
abbrev pub assign_operator : TokenKind → Option (Option BinaryOperator)
assign_operator token.Assign = Some None
assign_operator token.PlusAssign = Some (Some binary.Add)
assign_operator token.MinusAssign = Some (Some binary.Subtract)
assign_operator token.StarAssign = Some (Some binary.Multiply)
assign_operator token.SlashAssign = Some (Some binary.Divide)
assign_operator token.AmpersandAssign = Some (Some binary.And)
assign_operator token.BarAssign = Some (Some binary.Or)
assign_operator token.CaretAssign = Some (Some binary.Xor)
assign_operator token.PercentAssign = Some (Some binary.Remainder)
assign_operator token.ShiftLeftAssign = Some (Some binary.ShiftLeft)
assign_operator token.ShiftRightAssign = Some (Some binary.ShiftRight)
assign_operator token.UnsignedShiftRightAssign = Some (Some binary.UnsignedShiftRight)
assign_operator _ = None

-- the operators in front of an operand
abbrev pub unary_operator : TokenKind → Option UnaryOperator
unary_operator token.Plus = Some unary.Plus
unary_operator token.Minus = Some unary.Minus
unary_operator token.Bang = Some unary.Not
unary_operator token.Tilde = Some unary.Complement
unary_operator token.PlusPlus = Some unary.Increment
unary_operator token.MinusMinus = Some unary.Decrement
unary_operator _ = None

-- the operators behind an operand
abbrev pub postfix_operator : TokenKind → Option PostfixOperator
postfix_operator token.PlusPlus = Some postfix.Increment
postfix_operator token.MinusMinus = Some postfix.Decrement
postfix_operator _ = None
