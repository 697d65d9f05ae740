-- Single tokens that the parser looks for.
use Rattle.std.specs.Prelude.{Bool, true, false}
use Rattle.jsh_tree.specs.declared.token.TokenKind.{TokenKind}
use Rattle.jsh_tree.specs.declared.token.TokenKind.TheVariants as token

abbrev pub is_left_paren : TokenKind → Bool
is_left_paren token.LeftParen = true
is_left_paren _ = false

abbrev pub is_right_paren : TokenKind → Bool
is_right_paren token.RightParen = true
is_right_paren _ = false

abbrev pub is_left_bracket : TokenKind → Bool
is_left_bracket token.LeftBracket = true
is_left_bracket _ = false

abbrev pub is_right_bracket : TokenKind → Bool
is_right_bracket token.RightBracket = true
is_right_bracket _ = false

abbrev pub is_left_brace : TokenKind → Bool
is_left_brace token.LeftBrace = true
is_left_brace _ = false

abbrev pub is_right_brace : TokenKind → Bool
is_right_brace token.RightBrace = true
is_right_brace _ = false

abbrev pub is_dot : TokenKind → Bool
is_dot token.Dot = true
is_dot _ = false

abbrev pub is_comma : TokenKind → Bool
is_comma token.Comma = true
is_comma _ = false

abbrev pub is_question : TokenKind → Bool
is_question token.Question = true
is_question _ = false

abbrev pub is_colon : TokenKind → Bool
is_colon token.Colon = true
is_colon _ = false

abbrev pub is_identifier : TokenKind → Bool
is_identifier token.Identifier = true
is_identifier _ = false

abbrev pub is_instanceof : TokenKind → Bool
is_instanceof token.Instanceof = true
is_instanceof _ = false

abbrev pub is_this : TokenKind → Bool
is_this token.This = true
is_this _ = false

abbrev pub is_super : TokenKind → Bool
is_super token.Super = true
is_super _ = false

abbrev pub is_new : TokenKind → Bool
is_new token.New = true
is_new _ = false

-- what an operand of a cast may begin with, other than a sign, ++ or --
abbrev pub begins_operand : TokenKind → Bool
begins_operand token.Bang = true
begins_operand token.Tilde = true
begins_operand token.LeftParen = true
begins_operand token.Identifier = true
begins_operand token.IntLiteral = true
begins_operand token.LongLiteral = true
begins_operand token.CharLiteral = true
begins_operand token.StringLiteral = true
begins_operand token.True = true
begins_operand token.False = true
begins_operand token.Null = true
begins_operand token.This = true
begins_operand token.Super = true
begins_operand token.New = true
begins_operand _ = false
