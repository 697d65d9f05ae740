-- What may follow what: how far a token goes on with what stands in front of it.
use Rattle.std.proofs.Common.{◌≡◌, ℕ, suc, ◌+◌, ◌<◌, ◌==◌, ◌&&◌, false, List, [], ◌∷◌, Option, Some, None, refl, arith, ne_eqb}
use Rattle.jsh_tree.specs.declared.token.Token.{Token}
use Rattle.jsh_tree.specs.declared.token.TokenKind.{TokenKind}
use Rattle.jsh_tree.specs.declared.token.TokenKind.TheVariants as token
use Rattle.jsh_tree.specs.declared.expression.BinaryOperator.{BinaryOperator}
use Rattle.jsh_tree.specs.declared.expression.PostfixOperator.{PostfixOperator}
use Rattle.jsh_parse.specs.Operators.{binary_operator, level_of, comparison_level, assign_operator, postfix_operator}
use Rattle.jsh_parse.specs.Marks.{is_left_paren, is_left_bracket, is_dot, is_question, is_instanceof, begins_operand}

-- Ends go on with nothing, assignments with a whole expression, `?` with a condition, each operator with an operand of its level,
-- ++ and -- with a path, and all else with a primary.
abbrev pub follow : TokenKind → ℕ
follow token.RightParen = 0
follow token.RightBracket = 0
follow token.RightBrace = 0
follow token.Comma = 0
follow token.Semicolon = 0
follow token.Colon = 0
follow token.Assign = 1
follow token.PlusAssign = 1
follow token.MinusAssign = 1
follow token.StarAssign = 1
follow token.SlashAssign = 1
follow token.AmpersandAssign = 1
follow token.BarAssign = 1
follow token.CaretAssign = 1
follow token.PercentAssign = 1
follow token.ShiftLeftAssign = 1
follow token.ShiftRightAssign = 1
follow token.UnsignedShiftRightAssign = 1
follow token.Question = 2
follow token.OrOr = 3
follow token.AndAnd = 4
follow token.Bar = 5
follow token.Caret = 6
follow token.Ampersand = 7
follow token.EqualTo = 8
follow token.NotEqual = 8
follow token.LessThan = 9
follow token.GreaterThan = 9
follow token.LessOrEqual = 9
follow token.GreaterOrEqual = 9
follow token.Instanceof = 9
follow token.ShiftLeft = 10
follow token.ShiftRight = 10
follow token.UnsignedShiftRight = 10
follow token.Plus = 11
follow token.Minus = 11
follow token.Star = 12
follow token.Slash = 12
follow token.Percent = 12
follow token.PlusPlus = 13
follow token.MinusMinus = 13
follow _ = 14

-- nothing follows, or what goes on with less than this
abbrev pub Stops : ℕ → List Token → Type 0
Stops n [] = Unit {0}
Stops n (t ∷ ts) = follow t.kind < n

pub stops-less : (m n : ℕ) (ts : List Token) → m < suc n → Stops m ts → Stops n ts
stops-less m n [] h s = tt
stops-less m n (t ∷ ts) h s = omega arith

-- ---- what stops what

pub no_assignment : (k : TokenKind) → follow k < 1 → assign_operator k ≡ None
no_assignment token.Assign h = grind arith
no_assignment _ h = grind arith

pub assignment_follows : (k : TokenKind) (o : Option BinaryOperator) → assign_operator k ≡ Some o → follow k ≡ 1
assignment_follows token.Assign o e = grind arith
assignment_follows _ o e = grind arith

pub no_question : (k : TokenKind) → follow k < 2 → is_question k ≡ false
no_question token.Question h = grind arith
no_question _ h = grind arith

pub operator_follows : (k : TokenKind) (op : BinaryOperator) → binary_operator k ≡ Some op → follow k ≡ 3 + level_of op
operator_follows token.Plus op e = grind arith
operator_follows _ op e = grind arith

pub no_step : (k : TokenKind) → follow k < 13 → postfix_operator k ≡ None
no_step token.PlusPlus h = grind arith
no_step _ h = grind arith

pub step_follows : (k : TokenKind) (op : PostfixOperator) → postfix_operator k ≡ Some op → follow k ≡ 13
step_follows token.PlusPlus op e = grind arith
step_follows _ op e = grind arith

pub no_part : (k : TokenKind) → follow k < 14 → (is_dot k ≡ false) × (is_left_bracket k ≡ false) × (begins_operand k ≡ false)
no_part token.Dot h = grind arith
no_part _ h = grind arith

pub no_operator : (k : TokenKind) (level : ℕ) (op : BinaryOperator) → follow k < 3 + level → binary_operator k ≡ Some op → (level_of op == level) ≡ false
no_operator k level op h is = ne_eqb (level_of op) level (omega (arith, operator_follows k op is))

pub no_instanceof : (k : TokenKind) (level : ℕ) → follow k < 3 + level → (is_instanceof k && (level == comparison_level)) ≡ false
no_instanceof token.Instanceof level h = ne_eqb level comparison_level (omega arith)
no_instanceof _ level h = refl

pub operator_no_instanceof : (k : TokenKind) (op : BinaryOperator) → binary_operator k ≡ Some op → is_instanceof k ≡ false
operator_no_instanceof token.Plus op e = grind arith
operator_no_instanceof _ op e = grind arith

pub no_call : (k : TokenKind) → begins_operand k ≡ false → is_left_paren k ≡ false
no_call token.LeftParen h = grind arith
no_call _ h = grind arith
