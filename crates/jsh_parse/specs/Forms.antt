-- Single tokens that the parser of statements looks for.
use Rattle.std.specs.Prelude.{Bool, true, false}
use Rattle.jsh_tree.specs.declared.token.TokenKind.{TokenKind}
use Rattle.jsh_tree.specs.declared.token.TokenKind.TheVariants as token
use Rattle.jsh_parse.specs.declared.forms.Form.{Form}
use Rattle.jsh_parse.specs.declared.forms.Form.TheVariants as form

-- the form of a statement, by the token that it begins with
abbrev pub form_of : TokenKind → Form
form_of token.LeftBrace = form.Block
form_of token.Semicolon = form.Empty
form_of token.If = form.If
form_of token.While = form.While
form_of token.Do = form.Do
form_of token.For = form.For
form_of token.Switch = form.Switch
form_of token.Break = form.Break
form_of token.Continue = form.Continue
form_of token.Return = form.Return
form_of token.Throw = form.Throw
form_of token.Try = form.Try
form_of _ = form.Expression

abbrev pub is_semicolon : TokenKind → Bool
is_semicolon token.Semicolon = true
is_semicolon _ = false

abbrev pub is_assign : TokenKind → Bool
is_assign token.Assign = true
is_assign _ = false

abbrev pub is_else : TokenKind → Bool
is_else token.Else = true
is_else _ = false

abbrev pub is_while : TokenKind → Bool
is_while token.While = true
is_while _ = false

abbrev pub is_final : TokenKind → Bool
is_final token.Final = true
is_final _ = false

abbrev pub is_var : TokenKind → Bool
is_var token.Var = true
is_var _ = false

abbrev pub is_case : TokenKind → Bool
is_case token.Case = true
is_case _ = false

abbrev pub is_default : TokenKind → Bool
is_default token.Default = true
is_default _ = false

abbrev pub is_minus : TokenKind → Bool
is_minus token.Minus = true
is_minus _ = false

abbrev pub is_catch : TokenKind → Bool
is_catch token.Catch = true
is_catch _ = false

-- what a label of a `switch` begins with
abbrev pub begins_label : TokenKind → Bool
begins_label token.Case = true
begins_label token.Default = true
begins_label _ = false

-- what stands behind the statements of a block or of labels
abbrev pub ends_statements : TokenKind → Bool
ends_statements token.RightBrace = true
ends_statements token.Case = true
ends_statements token.Default = true
ends_statements _ = false

-- what the value of a `case` is written as
abbrev pub is_case_value : TokenKind → Bool
is_case_value token.IntLiteral = true
is_case_value token.CharLiteral = true
is_case_value _ = false
