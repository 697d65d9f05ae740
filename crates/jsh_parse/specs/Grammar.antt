-- The grammar of expressions (JLS 15, 19): which tokens of a text spell which tree, by cases. The number in front of the
-- tokens says how many deeper constructs may stand in one another there: the right side of an assignment, a branch of a
-- conditional, an operand of a unary operator or of a cast, parentheses, arguments, an index and an array initializer are
-- each one deeper than what they stand in.
use Rattle.std.specs.Prelude.{◌≡◌, ◌≢◌, ℕ, suc, ◌+◌, ◌<◌, true, false, ◌&&◌, List, [], ◌∷◌, ◌++◌, Option, Some, length}
use Rattle.jsh_tree.specs.declared.token.Token.{Token}
use Rattle.jsh_tree.specs.declared.token.TokenKind.TheVariants as token
use Rattle.jsh_tree.specs.declared.expression.BinaryOperator.{BinaryOperator}
use Rattle.jsh_tree.specs.declared.expression.UnaryOperator.{UnaryOperator}
use Rattle.jsh_tree.specs.declared.expression.PostfixOperator.{PostfixOperator}
use Rattle.jsh_tree.specs.declared.expression.Literal.{Literal}
use Rattle.jsh_tree.specs.declared.expression.Expr.{Expr}
use Rattle.jsh_tree.specs.declared.expression.Expr.TheVariants as tree
use Rattle.jsh_tree.specs.declared.expression.Operation.{Operation}
use Rattle.jsh_tree.specs.declared.expression.Operation.TheVariants as operation
use Rattle.jsh_tree.specs.declared.expression.PathPart.{PathPart}
use Rattle.jsh_tree.specs.declared.expression.PathPart.TheVariants as part
use Rattle.jsh_tree.specs.declared.expression.Initial.{Initial}
use Rattle.jsh_tree.specs.declared.expression.Initial.TheVariants as initial
use Rattle.jsh_parse.specs.Operators.{binary_operator, level_of, comparison_level, operand_level, assign_operator, unary_operator, postfix_operator}
use Rattle.jsh_parse.specs.Leaves.{literal_of, identifier_of, is_primitive, names_type, type_of, AreBrackets, begins_with_sign, is_step, is_target, is_open_creation, begins_with_index}

mutual
  -- Expr = Cond | Target AssignOp Expr
  pub data IsExpr (text : List ℕ) : ℕ → List Token → Expr → Type 0 where
    conditional : {room : ℕ} {ts : List Token} {e : Expr} → IsConditional text room ts e → IsExpr text room ts e
    assignment : {room : ℕ} {l r : List Token} {target value : Expr} (t : Token) (operator : Option BinaryOperator) →
        IsPostfix text (suc room) l target → is_target target ≡ true → assign_operator t.kind ≡ Some operator → IsExpr text room r value →
        IsExpr text (suc room) (l ++ t ∷ r) (tree.Assign target operator value)

  -- Cond = Or ["?" Expr ":" Cond]
  pub data IsConditional (text : List ℕ) : ℕ → List Token → Expr → Type 0 where
    operators : {room : ℕ} {ts : List Token} {e : Expr} → IsLevel text 0 room ts e → IsConditional text room ts e
    choice : {room : ℕ} {l m r : List Token} {condition yes no : Expr} (t u : Token) →
        IsLevel text 0 (suc room) l condition → t.kind ≡ token.Question → IsExpr text room m yes → u.kind ≡ token.Colon →
        IsConditional text room r no →
        IsConditional text (suc room) (l ++ t ∷ (m ++ u ∷ r)) (tree.Conditional condition yes no)

  -- Or .. Mul = levels of operators, grouped from the left
  pub data IsLevel (text : List ℕ) : ℕ → ℕ → List Token → Expr → Type 0 where
    next_level : {level room : ℕ} {ts : List Token} {e : Expr} → level < operand_level → IsLevel text (suc level) room ts e → IsLevel text level room ts e
    run : {level room : ℕ} {l r : List Token} {first : Expr} {rest : List Operation} →
        IsLevel text (suc level) room l first → AreOperations text level room r rest → rest ≢ [] →
        IsLevel text level room (l ++ r) (tree.Binary first rest)
    single_operand : {room : ℕ} {ts : List Token} {e : Expr} → IsUnary text room ts e → IsLevel text operand_level room ts e

  pub data AreOperations (text : List ℕ) : ℕ → ℕ → List Token → List Operation → Type 0 where
    no_operations : {level room : ℕ} → AreOperations text level room [] []
    one_more_operand : {level room : ℕ} {l r : List Token} {right : Expr} {rest : List Operation} (t : Token) (op : BinaryOperator) →
        binary_operator t.kind ≡ Some op → level_of op ≡ level → IsLevel text (suc level) room l right → AreOperations text level room r rest →
        AreOperations text level room (t ∷ (l ++ r)) (operation.Operator op right ∷ rest)
    one_more_type : {room dims : ℕ} {b r : List Token} {rest : List Operation} (t u : Token) →
        t.kind ≡ token.Instanceof → names_type u.kind ≡ true → AreBrackets b dims → AreOperations text comparison_level room r rest →
        AreOperations text comparison_level room (t ∷ u ∷ (b ++ r)) (operation.InstanceOf (type_of text u dims) ∷ rest)

  -- Unary = an operator and a Unary | a cast | Postfix
  pub data IsUnary (text : List ℕ) : ℕ → List Token → Expr → Type 0 where
    prefixed : {room : ℕ} {ts : List Token} {inner : Expr} (t : Token) (op : UnaryOperator) →
        unary_operator t.kind ≡ Some op → IsUnary text room ts inner → (is_step op ≡ true → is_target inner ≡ true) →
        IsUnary text (suc room) (t ∷ ts) (tree.Unary t.span op inner)
    -- "(" Primitive {"[" "]"} ")" Unary | "(" Ident {"[" "]"} ")" and a Unary that doesn't begin with + - ++ --
    cast : {room dims : ℕ} {b r : List Token} {inner : Expr} (t n u : Token) →
        t.kind ≡ token.LeftParen → names_type n.kind ≡ true → AreBrackets b dims → u.kind ≡ token.RightParen → IsUnary text room r inner →
        (is_primitive n.kind ≡ false → begins_with_sign r ≡ false) →
        IsUnary text (suc room) (t ∷ n ∷ (b ++ u ∷ r)) (tree.Cast t.span (type_of text n dims) inner)
    postfix : {room : ℕ} {ts : List Token} {e : Expr} → IsPostfix text room ts e → IsUnary text room ts e

  -- Postfix = Primary {"." Ident [Args] | "[" Expr "]"} ["++" | "--"]
  pub data IsPostfix (text : List ℕ) : ℕ → List Token → Expr → Type 0 where
    unstepped : {room : ℕ} {ts : List Token} {e : Expr} → IsPath text room ts e → IsPostfix text room ts e
    stepped : {room : ℕ} {l : List Token} {inner : Expr} (t : Token) (op : PostfixOperator) →
        IsPath text room l inner → is_target inner ≡ true → postfix_operator t.kind ≡ Some op →
        IsPostfix text room (l ++ t ∷ []) (tree.Postfix inner op)

  pub data IsPath (text : List ℕ) : ℕ → List Token → Expr → Type 0 where
    alone : {room : ℕ} {ts : List Token} {e : Expr} → IsPrimary text room ts e → IsPath text room ts e
    with_parts : {room : ℕ} {l r : List Token} {first : Expr} {rest : List PathPart} →
        IsPrimary text room l first → AreParts text room r rest → rest ≢ [] → is_open_creation first && begins_with_index rest ≡ false →
        IsPath text room (l ++ r) (tree.Path first rest)

  pub data AreParts (text : List ℕ) : ℕ → List Token → List PathPart → Type 0 where
    no_parts : {room : ℕ} → AreParts text room [] []
    one_more_field : {room : ℕ} {r : List Token} {rest : List PathPart} (t n : Token) →
        t.kind ≡ token.Dot → n.kind ≡ token.Identifier → AreParts text room r rest →
        AreParts text room (t ∷ n ∷ r) (part.Field (identifier_of text n) ∷ rest)
    one_more_call : {room : ℕ} {l r : List Token} {arguments : List Expr} {rest : List PathPart} (t n : Token) →
        t.kind ≡ token.Dot → n.kind ≡ token.Identifier → AreArguments text room l arguments → AreParts text room r rest →
        AreParts text room (t ∷ n ∷ (l ++ r)) (part.Call (identifier_of text n) arguments ∷ rest)
    one_more_index : {room : ℕ} {l r : List Token} {inner : Expr} {rest : List PathPart} (t u : Token) →
        t.kind ≡ token.LeftBracket → IsExpr text room l inner → u.kind ≡ token.RightBracket → AreParts text (suc room) r rest →
        AreParts text (suc room) (t ∷ (l ++ u ∷ r)) (part.Index inner ∷ rest)

  -- Primary, and new objects and arrays
  pub data IsPrimary (text : List ℕ) : ℕ → List Token → Expr → Type 0 where
    literal : {room : ℕ} (t : Token) (value : Literal) → literal_of text t ≡ Some value → IsPrimary text room (t ∷ []) (tree.Literal t.span value)
    this : {room : ℕ} (t : Token) → t.kind ≡ token.This → IsPrimary text room (t ∷ []) (tree.This t.span)
    parenthesized : {room : ℕ} {l : List Token} {inner : Expr} (t u : Token) →
        t.kind ≡ token.LeftParen → IsExpr text room l inner → u.kind ≡ token.RightParen →
        IsPrimary text (suc room) (t ∷ (l ++ u ∷ [])) (tree.Parenthesized t.span inner)
    name : {room : ℕ} (n : Token) → n.kind ≡ token.Identifier → IsPrimary text room (n ∷ []) (tree.Name (identifier_of text n))
    call : {room : ℕ} {l : List Token} {arguments : List Expr} (n : Token) →
        n.kind ≡ token.Identifier → AreArguments text room l arguments →
        IsPrimary text room (n ∷ l) (tree.Call (identifier_of text n) arguments)
    super_call : {room : ℕ} {l : List Token} {arguments : List Expr} (t d n : Token) →
        t.kind ≡ token.Super → d.kind ≡ token.Dot → n.kind ≡ token.Identifier → AreArguments text room l arguments →
        IsPrimary text room (t ∷ d ∷ n ∷ l) (tree.SuperCall t.span (identifier_of text n) arguments)
    new_object : {room : ℕ} {l : List Token} {arguments : List Expr} (t n : Token) →
        t.kind ≡ token.New → n.kind ≡ token.Identifier → AreArguments text room l arguments →
        IsPrimary text room (t ∷ n ∷ l) (tree.New t.span (identifier_of text n) arguments)
    new_array : {room dims : ℕ} {l b : List Token} {sizes : List Expr} (t n : Token) →
        t.kind ≡ token.New → names_type n.kind ≡ true → AreSizes text room l sizes → sizes ≢ [] → AreBrackets b dims →
        IsPrimary text room (t ∷ n ∷ (l ++ b)) (tree.NewArray t.span (type_of text n (length sizes + dims)) sizes)
    new_array_of : {room dims : ℕ} {b l : List Token} {values : List Initial} (t n u : Token) →
        t.kind ≡ token.New → names_type n.kind ≡ true → AreBrackets b dims → 0 < dims → AreBraces text room (u ∷ l) values →
        IsPrimary text room (t ∷ n ∷ (b ++ u ∷ l)) (tree.NewArrayOf t.span (type_of text n dims) u.span values)

  -- "[" Expr "]" {"[" Expr "]"}
  pub data AreSizes (text : List ℕ) : ℕ → List Token → List Expr → Type 0 where
    no_sizes : {room : ℕ} → AreSizes text room [] []
    one_more_size : {room : ℕ} {l r : List Token} {size : Expr} {rest : List Expr} (t u : Token) →
        t.kind ≡ token.LeftBracket → IsExpr text room l size → u.kind ≡ token.RightBracket → AreSizes text (suc room) r rest →
        AreSizes text (suc room) (t ∷ (l ++ u ∷ r)) (size ∷ rest)

  -- Args = "(" [Expr {"," Expr}] ")"
  pub data AreArguments (text : List ℕ) : ℕ → List Token → List Expr → Type 0 where
    no_arguments : {room : ℕ} (t u : Token) → t.kind ≡ token.LeftParen → u.kind ≡ token.RightParen → AreArguments text (suc room) (t ∷ u ∷ []) []
    some_arguments : {room : ℕ} {l : List Token} {arguments : List Expr} (t u : Token) →
        t.kind ≡ token.LeftParen → AreListed text room l arguments → u.kind ≡ token.RightParen →
        AreArguments text (suc room) (t ∷ (l ++ u ∷ [])) arguments

  -- Expr {"," Expr}
  pub data AreListed (text : List ℕ) : ℕ → List Token → List Expr → Type 0 where
    last_listed : {room : ℕ} {ts : List Token} {e : Expr} → IsExpr text room ts e → AreListed text room ts (e ∷ [])
    one_more_listed : {room : ℕ} {l r : List Token} {e : Expr} {rest : List Expr} (t : Token) →
        IsExpr text room l e → t.kind ≡ token.Comma → AreListed text room r rest → AreListed text room (l ++ t ∷ r) (e ∷ rest)

  -- ArrayInit = "{" [VarInit {"," VarInit} [","]] "}"
  pub data AreBraces (text : List ℕ) : ℕ → List Token → List Initial → Type 0 where
    no_values : {room : ℕ} (t u : Token) → t.kind ≡ token.LeftBrace → u.kind ≡ token.RightBrace → AreBraces text (suc room) (t ∷ u ∷ []) []
    some_values : {room : ℕ} {l : List Token} {values : List Initial} (t u : Token) →
        t.kind ≡ token.LeftBrace → AreInitials text room l values → u.kind ≡ token.RightBrace →
        AreBraces text (suc room) (t ∷ (l ++ u ∷ [])) values

  -- VarInit {"," VarInit} [","]
  pub data AreInitials (text : List ℕ) : ℕ → List Token → List Initial → Type 0 where
    last_initial : {room : ℕ} {ts : List Token} {value : Initial} → IsInitial text room ts value → AreInitials text room ts (value ∷ [])
    last_with_comma : {room : ℕ} {l : List Token} {value : Initial} (t : Token) →
        IsInitial text room l value → t.kind ≡ token.Comma → AreInitials text room (l ++ t ∷ []) (value ∷ [])
    one_more_initial : {room : ℕ} {l r : List Token} {value : Initial} {rest : List Initial} (t : Token) →
        IsInitial text room l value → t.kind ≡ token.Comma → AreInitials text room r rest → AreInitials text room (l ++ t ∷ r) (value ∷ rest)

  -- VarInit = Expr | ArrayInit
  pub data IsInitial (text : List ℕ) : ℕ → List Token → Initial → Type 0 where
    initial_value : {room : ℕ} {ts : List Token} {e : Expr} → IsExpr text room ts e → IsInitial text room ts (initial.Value e)
    initial_array : {room : ℕ} {ts : List Token} {values : List Initial} (t : Token) →
        AreBraces text room (t ∷ ts) values → IsInitial text room (t ∷ ts) (initial.Array t.span values)
