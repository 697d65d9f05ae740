-- The classes of tokens that productions name.
use Rattle.std.specs.Prelude.{ℕ, ◌==◌, Bool, true, false}
use Rattle.jsh_tree.specs.declared.token.TokenKind.{TokenKind}
use Rattle.jsh_tree.specs.declared.token.TokenKind.TheVariants as token

-- a literal (JLS 15.8.1)
abbrev pub is_literal : TokenKind → Bool
is_literal token.IntLiteral = true
is_literal token.LongLiteral = true
is_literal token.CharLiteral = true
is_literal token.StringLiteral = true
is_literal token.True = true
is_literal token.False = true
is_literal token.Null = true
is_literal _ = false

-- the name of a primitive type (JLS 4.2)
abbrev pub is_primitive : TokenKind → Bool
is_primitive token.Int = true
is_primitive token.Long = true
is_primitive token.Char = true
is_primitive token.Boolean = true
is_primitive _ = false

-- the name of a type
abbrev pub is_type_name : TokenKind → Bool
is_type_name token.Int = true
is_type_name token.Long = true
is_type_name token.Char = true
is_type_name token.Boolean = true
is_type_name token.Identifier = true
is_type_name _ = false

-- an operator that assigns (JLS 15.26)
abbrev pub is_assignment : TokenKind → Bool
is_assignment token.Assign = true
is_assignment token.PlusAssign = true
is_assignment token.MinusAssign = true
is_assignment token.StarAssign = true
is_assignment token.SlashAssign = true
is_assignment token.AmpersandAssign = true
is_assignment token.BarAssign = true
is_assignment token.CaretAssign = true
is_assignment token.PercentAssign = true
is_assignment token.ShiftLeftAssign = true
is_assignment token.ShiftRightAssign = true
is_assignment token.UnsignedShiftRightAssign = true
is_assignment _ = false

-- An operator between two operands of a level; the levels are counted from the one that binds least (JLS 15.17 to 15.24).
abbrev pub is_operator : ℕ → TokenKind → Bool
is_operator level token.OrOr = level == 0
is_operator level token.AndAnd = level == 1
is_operator level token.Bar = level == 2
is_operator level token.Caret = level == 3
is_operator level token.Ampersand = level == 4
is_operator level token.EqualTo = level == 5
is_operator level token.NotEqual = level == 5
is_operator level token.LessThan = level == 6
is_operator level token.GreaterThan = level == 6
is_operator level token.LessOrEqual = level == 6
is_operator level token.GreaterOrEqual = level == 6
is_operator level token.ShiftLeft = level == 7
is_operator level token.ShiftRight = level == 7
is_operator level token.UnsignedShiftRight = level == 7
is_operator level token.Plus = level == 8
is_operator level token.Minus = level == 8
is_operator level token.Star = level == 9
is_operator level token.Slash = level == 9
is_operator level token.Percent = level == 9
is_operator level _ = false

-- an operator in front of an operand that it doesn't change (JLS 15.15)
abbrev pub is_prefix : TokenKind → Bool
is_prefix token.Plus = true
is_prefix token.Minus = true
is_prefix token.Bang = true
is_prefix token.Tilde = true
is_prefix _ = false

-- one of these that is no sign
abbrev pub is_negation : TokenKind → Bool
is_negation token.Bang = true
is_negation token.Tilde = true
is_negation _ = false

-- `++` or `--`
abbrev pub is_step : TokenKind → Bool
is_step token.PlusPlus = true
is_step token.MinusMinus = true
is_step _ = false

-- what the value of a `case` is written as
abbrev pub is_case_value : TokenKind → Bool
is_case_value token.IntLiteral = true
is_case_value token.CharLiteral = true
is_case_value _ = false

-- a modifier of a snippet
abbrev pub is_modifier : TokenKind → Bool
is_modifier token.Public = true
is_modifier token.Protected = true
is_modifier token.Private = true
is_modifier token.Static = true
is_modifier token.Final = true
is_modifier token.Volatile = true
is_modifier token.Abstract = true
is_modifier _ = false

-- a modifier of a member of a class
abbrev pub is_member_modifier : TokenKind → Bool
is_member_modifier token.Public = true
is_member_modifier token.Protected = true
is_member_modifier token.Private = true
is_member_modifier token.Final = true
is_member_modifier token.Volatile = true
is_member_modifier token.Abstract = true
is_member_modifier _ = false

-- a modifier of a method of an interface
abbrev pub is_interface_modifier : TokenKind → Bool
is_interface_modifier token.Public = true
is_interface_modifier token.Abstract = true
is_interface_modifier _ = false
