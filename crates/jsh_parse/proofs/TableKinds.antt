-- The kinds of tokens that the table names, and what the parser makes of them.
use Rattle.std.proofs.Common.{◌≡◌, ℕ, ◌<◌, true, false, List, ◌∷◌, Option, Some, None, refl, sym, arith, eqb-true}
use Rattle.jsh_tree.specs.declared.token.Token.{Token}
use Rattle.jsh_tree.specs.declared.token.TokenKind.{TokenKind}
use Rattle.jsh_tree.specs.declared.token.TokenKind.TheVariants as token
use Rattle.jsh_tree.specs.declared.expression.BinaryOperator.{BinaryOperator}
use Rattle.jsh_tree.specs.declared.expression.BinaryOperator.TheVariants as binary
use Rattle.jsh_tree.specs.declared.expression.UnaryOperator.{UnaryOperator}
use Rattle.jsh_tree.specs.declared.expression.UnaryOperator.TheVariants as unary
use Rattle.jsh_tree.specs.declared.expression.PostfixOperator.{PostfixOperator}
use Rattle.jsh_tree.specs.declared.expression.Literal.{Literal}
use Rattle.jsh_grammar.specs.Classes as class
use Rattle.jsh_parse.specs.Operators.{binary_operator, level_of, assign_operator, unary_operator, postfix_operator}
use Rattle.jsh_parse.specs.Leaves.{value_of_kind, is_primitive, names_type, begins_with_sign, is_step}

-- ---- what the parser takes is in a class

pub assignment_kind : (k : TokenKind) (o : Option BinaryOperator) → assign_operator k ≡ Some o → class.is_assignment k ≡ true
assignment_kind token.Assign o e = refl
assignment_kind _ o e = grind arith

pub operator_kind : (k : TokenKind) (op : BinaryOperator) → binary_operator k ≡ Some op → class.is_operator (level_of op) k ≡ true
operator_kind token.Plus op e = grind arith
operator_kind _ op e = grind arith

pub few_levels : (op : BinaryOperator) → level_of op < 10
few_levels binary.OrElse = omega arith
few_levels _ = omega arith

pub step_kind : (k : TokenKind) (op : UnaryOperator) → unary_operator k ≡ Some op → is_step op ≡ true → class.is_step k ≡ true
step_kind token.Plus op e s = grind arith
step_kind _ op e s = grind arith

pub prefix_kind : (k : TokenKind) (op : UnaryOperator) → unary_operator k ≡ Some op → is_step op ≡ false → class.is_prefix k ≡ true
prefix_kind token.Plus op e s = grind arith
prefix_kind _ op e s = grind arith

pub negation_kind : (t : Token) (ts : List Token) (op : UnaryOperator) → unary_operator t.kind ≡ Some op → begins_with_sign (t ∷ ts) ≡ false →
    class.is_negation t.kind ≡ true
negation_kind t ts op e s = at t.kind e s
  where
    at : (k : TokenKind) → unary_operator k ≡ Some op → begins_with_sign (record { kind = k; span = t.span } ∷ ts) ≡ false → class.is_negation k ≡ true
    at token.Bang e s = refl
    at _ e s = grind arith

pub postfix_kind : (k : TokenKind) (op : PostfixOperator) → postfix_operator k ≡ Some op → class.is_step k ≡ true
postfix_kind token.PlusPlus op e = refl
postfix_kind _ op e = grind arith

pub literal_kind : (k : TokenKind) (bytes : List ℕ) (v : Literal) → value_of_kind k bytes ≡ Some v → class.is_literal k ≡ true
literal_kind token.IntLiteral bytes v e = refl
literal_kind token.LongLiteral bytes v e = refl
literal_kind token.CharLiteral bytes v e = refl
literal_kind token.StringLiteral bytes v e = refl
literal_kind _ bytes v e = grind arith

pub type_name_kind : (k : TokenKind) → names_type k ≡ class.is_type_name k
type_name_kind token.Int = refl
type_name_kind _ = refl

pub primitive_kind : (k : TokenKind) → is_primitive k ≡ class.is_primitive k
primitive_kind token.Int = refl
primitive_kind _ = refl

pub other_type_kind : (k : TokenKind) → names_type k ≡ true → is_primitive k ≡ false → k ≡ token.Identifier
other_type_kind token.Identifier n p = refl
other_type_kind _ n p = cc

-- ---- what is in a class the parser takes

pub assignment_of : (k : TokenKind) → class.is_assignment k ≡ true → (o : Option BinaryOperator) × (assign_operator k ≡ Some o)
assignment_of k h = at (assign_operator k) refl
  where
    none : (k : TokenKind) → assign_operator k ≡ None → class.is_assignment k ≡ false
    none token.Assign e = cc
    none _ e = grind arith

    at : (o : Option (Option BinaryOperator)) → assign_operator k ≡ o → (o : Option BinaryOperator) × (assign_operator k ≡ Some o)
    at None e = let no = none k e in cc
    at (Some o) e = (o, e)

pub operator_of : (k : TokenKind) (level : ℕ) → class.is_operator level k ≡ true →
    (op : BinaryOperator) × (binary_operator k ≡ Some op) × (level_of op ≡ level)
operator_of token.OrOr level h = (binary.OrElse, refl, sym (eqb-true level 0 h))
operator_of token.AndAnd level h = (binary.AndAlso, refl, sym (eqb-true level 1 h))
operator_of token.Bar level h = (binary.Or, refl, sym (eqb-true level 2 h))
operator_of token.Caret level h = (binary.Xor, refl, sym (eqb-true level 3 h))
operator_of token.Ampersand level h = (binary.And, refl, sym (eqb-true level 4 h))
operator_of token.EqualTo level h = (binary.Equal, refl, sym (eqb-true level 5 h))
operator_of token.NotEqual level h = (binary.NotEqual, refl, sym (eqb-true level 5 h))
operator_of token.LessThan level h = (binary.Less, refl, sym (eqb-true level 6 h))
operator_of token.GreaterThan level h = (binary.Greater, refl, sym (eqb-true level 6 h))
operator_of token.LessOrEqual level h = (binary.LessOrEqual, refl, sym (eqb-true level 6 h))
operator_of token.GreaterOrEqual level h = (binary.GreaterOrEqual, refl, sym (eqb-true level 6 h))
operator_of token.ShiftLeft level h = (binary.ShiftLeft, refl, sym (eqb-true level 7 h))
operator_of token.ShiftRight level h = (binary.ShiftRight, refl, sym (eqb-true level 7 h))
operator_of token.UnsignedShiftRight level h = (binary.UnsignedShiftRight, refl, sym (eqb-true level 7 h))
operator_of token.Plus level h = (binary.Add, refl, sym (eqb-true level 8 h))
operator_of token.Minus level h = (binary.Subtract, refl, sym (eqb-true level 8 h))
operator_of token.Star level h = (binary.Multiply, refl, sym (eqb-true level 9 h))
operator_of token.Slash level h = (binary.Divide, refl, sym (eqb-true level 9 h))
operator_of token.Percent level h = (binary.Remainder, refl, sym (eqb-true level 9 h))
operator_of _ level h = cc

pub step_of : (k : TokenKind) → class.is_step k ≡ true → (op : UnaryOperator) × (unary_operator k ≡ Some op)
step_of token.PlusPlus h = (unary.Increment, refl)
step_of token.MinusMinus h = (unary.Decrement, refl)
step_of _ h = cc

pub prefix_of : (k : TokenKind) → class.is_prefix k ≡ true → (op : UnaryOperator) × (unary_operator k ≡ Some op) × (is_step op ≡ false)
prefix_of token.Plus h = (unary.Plus, refl, refl)
prefix_of token.Minus h = (unary.Minus, refl, refl)
prefix_of token.Bang h = (unary.Not, refl, refl)
prefix_of token.Tilde h = (unary.Complement, refl, refl)
prefix_of _ h = cc

pub negation_prefix : (k : TokenKind) → class.is_negation k ≡ true → class.is_prefix k ≡ true
negation_prefix token.Bang h = refl
negation_prefix _ h = grind arith

pub negation_no_sign : (t : Token) (ts : List Token) → class.is_negation t.kind ≡ true → begins_with_sign (t ∷ ts) ≡ false
negation_no_sign t ts h = at t.kind h
  where
    at : (k : TokenKind) → class.is_negation k ≡ true → begins_with_sign (record { kind = k; span = t.span } ∷ ts) ≡ false
    at token.Bang h = refl
    at _ h = grind arith

pub postfix_of : (k : TokenKind) → class.is_step k ≡ true → (op : PostfixOperator) × (postfix_operator k ≡ Some op)
postfix_of k h = at (postfix_operator k) refl
  where
    none : (k : TokenKind) → postfix_operator k ≡ None → class.is_step k ≡ false
    none token.PlusPlus e = cc
    none _ e = grind arith

    at : (o : Option PostfixOperator) → postfix_operator k ≡ o → (op : PostfixOperator) × (postfix_operator k ≡ Some op)
    at None e = let no = none k e in cc
    at (Some op) e = (op, e)

pub primitive_name : (k : TokenKind) → class.is_primitive k ≡ true → (names_type k ≡ true) × (is_primitive k ≡ true)
primitive_name token.Int h = (refl, refl)
primitive_name token.Long h = (refl, refl)
primitive_name token.Char h = (refl, refl)
primitive_name token.Boolean h = (refl, refl)
primitive_name _ h = cc

pub literal_no_sign : (t : Token) (ts : List Token) (bytes : List ℕ) (v : Literal) → value_of_kind t.kind bytes ≡ Some v →
    begins_with_sign (t ∷ ts) ≡ false
literal_no_sign t ts bytes v e = at t.kind e
  where
    at : (k : TokenKind) → value_of_kind k bytes ≡ Some v → begins_with_sign (record { kind = k; span = t.span } ∷ ts) ≡ false
    at token.Plus e = cc
    at token.Minus e = cc
    at token.PlusPlus e = cc
    at token.MinusMinus e = cc
    at _ e = refl
