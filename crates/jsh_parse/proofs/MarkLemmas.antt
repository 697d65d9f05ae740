-- Which token has passed a test for one.
use Rattle.std.proofs.Common.{◌≡◌, true, false, List, [], ◌∷◌, ◌++◌, refl, sym, ap, ◌∙◌}
use Rattle.jsh_tree.specs.declared.token.Token.{Token}
use Rattle.jsh_tree.specs.declared.token.TokenKind.{TokenKind}
use Rattle.jsh_tree.specs.declared.token.TokenKind.TheVariants as token
use Rattle.jsh_parse.specs.Marks.{is_left_paren, is_right_paren, is_left_bracket, is_right_bracket, is_left_brace, is_right_brace, is_dot, is_comma, is_question, is_colon, is_identifier, is_instanceof, is_this, is_super, is_new, begins_operand}
use Rattle.jsh_parse.specs.Leaves.{begins_with_sign}
use Rattle.jsh_parse.specs.Reader.{sees}

pub left_paren : (k : TokenKind) → is_left_paren k ≡ true → k ≡ token.LeftParen
left_paren token.LeftParen h = refl
left_paren _ h = cc

pub right_paren : (k : TokenKind) → is_right_paren k ≡ true → k ≡ token.RightParen
right_paren token.RightParen h = refl
right_paren _ h = cc

pub left_bracket : (k : TokenKind) → is_left_bracket k ≡ true → k ≡ token.LeftBracket
left_bracket token.LeftBracket h = refl
left_bracket _ h = cc

pub right_bracket : (k : TokenKind) → is_right_bracket k ≡ true → k ≡ token.RightBracket
right_bracket token.RightBracket h = refl
right_bracket _ h = cc

pub left_brace : (k : TokenKind) → is_left_brace k ≡ true → k ≡ token.LeftBrace
left_brace token.LeftBrace h = refl
left_brace _ h = cc

pub right_brace : (k : TokenKind) → is_right_brace k ≡ true → k ≡ token.RightBrace
right_brace token.RightBrace h = refl
right_brace _ h = cc

pub dot : (k : TokenKind) → is_dot k ≡ true → k ≡ token.Dot
dot token.Dot h = refl
dot _ h = cc

pub comma : (k : TokenKind) → is_comma k ≡ true → k ≡ token.Comma
comma token.Comma h = refl
comma _ h = cc

pub question : (k : TokenKind) → is_question k ≡ true → k ≡ token.Question
question token.Question h = refl
question _ h = cc

pub colon : (k : TokenKind) → is_colon k ≡ true → k ≡ token.Colon
colon token.Colon h = refl
colon _ h = cc

pub identifier : (k : TokenKind) → is_identifier k ≡ true → k ≡ token.Identifier
identifier token.Identifier h = refl
identifier _ h = cc

pub instanceof : (k : TokenKind) → is_instanceof k ≡ true → k ≡ token.Instanceof
instanceof token.Instanceof h = refl
instanceof _ h = cc

pub this : (k : TokenKind) → is_this k ≡ true → k ≡ token.This
this token.This h = refl
this _ h = cc

pub super : (k : TokenKind) → is_super k ≡ true → k ≡ token.Super
super token.Super h = refl
super _ h = cc

pub new : (k : TokenKind) → is_new k ≡ true → k ≡ token.New
new token.New h = refl
new _ h = cc

-- what an operand of a cast to a class may begin with is no sign
pub without_sign : (pre rest behind : List Token) → behind ≡ pre ++ rest → sees begins_operand behind ≡ true → begins_with_sign pre ≡ false
without_sign [] rest behind e h = refl
without_sign (t ∷ ts) rest behind e h = of_kind t.kind (ap (sees begins_operand) (sym e) ∙ h)
  where
    of_kind : (k : TokenKind) → begins_operand k ≡ true → begins_with_sign (record { kind = k; span = t.span } ∷ ts) ≡ false
    of_kind token.Plus k = cc
    of_kind token.Minus k = cc
    of_kind token.PlusPlus k = cc
    of_kind token.MinusMinus k = cc
    of_kind _ k = refl
