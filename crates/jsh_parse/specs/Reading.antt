-- What the functions of the parser promise: that they give what the readers give.
use Rattle.std.specs.Prelude.{◌≡◌, ℕ, zero, suc, ◌+◌, ◌-◌, ◌≤◌, ◌==◌, ◌&&◌, not, Bool, true, false, if◌then◌else◌, List, [], ◌∷◌, ◌++◌, Option, Some, None, Result, Ok, Err, length, drop}
use Rattle.std.specs.Str.{IsCharBoundary}
use Rattle.std.specs.List.{slice_get}
use Rattle.jsh_tree.specs.declared.token.Token.{Token}
use Rattle.jsh_tree.specs.declared.token.TokenKind.TheVariants as token
use Rattle.jsh_lex.specs.Spelling.{AreTokensBehind}
use Rattle.jsh_parse.specs.declared.error.ParseError.{ParseError}
use Rattle.jsh_parse.specs.declared.error.ParseError.TheVariants as error
use Rattle.jsh_tree.specs.declared.expression.Identifier.{Identifier}
use Rattle.jsh_parse.specs.Leaves.{identifier_of, type_of, is_step, is_target}
use Rattle.jsh_parse.specs.Marks.{is_identifier, is_dot, is_left_paren, is_left_bracket, is_right_paren, is_right_brace, is_comma, is_instanceof, is_colon}
use Rattle.jsh_tree.specs.declared.expression.Expr.{Expr}
use Rattle.jsh_tree.specs.declared.expression.Expr.TheVariants as tree
use Rattle.jsh_tree.specs.declared.expression.Operation.{Operation}
use Rattle.jsh_tree.specs.declared.expression.Operation.TheVariants as operation
use Rattle.jsh_tree.specs.declared.expression.PathPart.{PathPart}
use Rattle.jsh_tree.specs.declared.expression.PathPart.TheVariants as part
use Rattle.jsh_tree.specs.declared.expression.Initial.{Initial}
use Rattle.jsh_tree.specs.declared.expression.BinaryOperator.{BinaryOperator}
use Rattle.jsh_tree.specs.declared.expression.UnaryOperator.{UnaryOperator}
use Rattle.jsh_tree.specs.declared.expression.PostfixOperator.{PostfixOperator}
use Rattle.jsh_parse.specs.Operators.{postfix_operator, assign_operator, binary_operator, level_of, comparison_level}
use Rattle.jsh_parse.specs.Reader as reader
use Rattle.jsh_parse.specs.Reader.{Read, Inner, and_then, nested, accept, sees, sees_brackets, brackets, type_read, readers}

-- the readers of what may stand one deeper
abbrev pub below : List ℕ → ℕ → Option Inner
below text zero = None
below text (suc room) = Some (readers text room)

-- what was read from a place on, with the place behind it, is what a reader gives
abbrev pub Reads : {A : Type 0} → List Token → ℕ → Read A → Result (A × ℕ) ParseError → Type 0
Reads tokens at read (Ok found) = (at ≤ found.1) × (read ≡ Some (found.0, drop found.1 tokens))
Reads tokens at read (Err error.NoMemory) = Unit {0}
Reads tokens at read (Err (error.Wanted place wanted)) = read ≡ None
Reads tokens at read (Err (error.TooDeep limit)) = (read ≡ None) × (limit ≡ 256)

-- a refusal
abbrev pub IsWanted : ParseError → Type 0
IsWanted error.NoMemory = ⊥
IsWanted (error.Wanted place wanted) = Unit {0}
IsWanted (error.TooDeep limit) = ⊥

-- a token lies in the text, between characters
pub record IsWithin (text : List ℕ) (t : Token) : Type 0 where
  pub ordered : t.span.from ≤ t.span.to
  pub within : t.span.to ≤ length text
  pub starts_between : IsCharBoundary text t.span.from
  pub ends_between : IsCharBoundary text t.span.to

-- each of the tokens does
abbrev pub AreWithin : List ℕ → List Token → Type 0
AreWithin text tokens = (k : ℕ) (t : Token) → slice_get tokens k ≡ Some t → IsWithin text t

-- the semicolon that the end of a text may stand for: it has no byte
abbrev pub semicolon_at_end : List ℕ → Token
semicolon_at_end text = record { kind = token.Semicolon; span = record { from = length text; to = length text } }

-- what a parser takes: tokens that stand in the text in their order, and perhaps the semicolon of its end behind them
pub data AreTaken (text : List ℕ) : List Token → Type 0 where
  spelled : (ts : List Token) → AreTokensBehind text 0 ts → AreTaken text ts
  ended : (ts : List Token) → AreTokensBehind text 0 ts → AreTaken text (ts ++ semicolon_at_end text ∷ [])

-- where the last token ends, or a place in front of all
abbrev pub last_end : ℕ → List Token → ℕ
last_end end [] = end
last_end end (t ∷ ts) = last_end t.span.to ts

-- an identifier
abbrev pub name_read : List ℕ → List Token → Read Identifier
name_read text ts = and_then (accept is_identifier ts) (λ n rest. Some (identifier_of text n, rest))

-- an expression, where so many constructs may stand in one another
unfoldable pub expr_at : List ℕ → ℕ → List Token → Read Expr
expr_at text room ts = reader.expr_read text (below text room) ts

-- likewise for what an expression consists of
unfoldable pub conditional_at : List ℕ → ℕ → List Token → Read Expr
conditional_at text room ts = reader.conditional_read text (below text room) ts

unfoldable pub level_at : List ℕ → ℕ → ℕ → List Token → Read Expr
level_at text room height ts = reader.level_read height text (below text room) ts

unfoldable pub unary_at : List ℕ → ℕ → List Token → Read Expr
unary_at text room ts = reader.unary_read text (below text room) ts

unfoldable pub path_at : List ℕ → ℕ → List Token → Read Expr
path_at text room ts = reader.path text (below text room) ts

unfoldable pub primary_at : List ℕ → ℕ → List Token → Read Expr
primary_at text room ts = reader.primary text (below text room) ts

unfoldable pub creation_at : List ℕ → ℕ → Token → Token → List Token → Read Expr
creation_at text room t n ts = reader.creation text (below text room) t n ts

unfoldable pub arguments_at : List ℕ → ℕ → List Token → Read (List Expr)
arguments_at text room ts = reader.arguments (below text room) ts

unfoldable pub sizes_at : List ℕ → ℕ → List Token → Read (List Expr)
sizes_at text room ts = reader.sizes (suc (length ts)) (below text room) ts

unfoldable pub braces_at : List ℕ → ℕ → List Token → Read (List Initial)
braces_at text room ts = reader.braces (below text room) ts

-- and for what stands one deeper
unfoldable pub bracketed_at : List ℕ → ℕ → List Token → Read Expr
bracketed_at text room ts = reader.bracketed (readers text room) ts

unfoldable pub listed_at : List ℕ → ℕ → List Token → Read (List Expr)
listed_at text room ts = reader.listed (suc (length ts)) (readers text room) ts

unfoldable pub initials_at : List ℕ → ℕ → List Token → Read (List Initial)
initials_at text room ts = reader.initials (suc (length ts)) (readers text room) ts

unfoldable pub initial_at : List ℕ → ℕ → List Token → Read Initial
initial_at text room ts = reader.initial_read (readers text room) ts

-- a name or a call of it, behind the token
unfoldable pub named_at : List ℕ → ℕ → Token → List Token → Read Expr
named_at text room t ts =
    if sees is_left_paren ts then and_then (arguments_at text room ts) (λ es rest. Some (tree.Call (identifier_of text t) es, rest))
    else Some (tree.Name (identifier_of text t), ts)

-- a call through the word `super`, behind it
unfoldable pub through_super_at : List ℕ → ℕ → Token → List Token → Read Expr
through_super_at text room t ts = and_then (accept is_dot ts) (λ d rest. and_then (name_read text rest)
    (λ n behind. and_then (arguments_at text room behind) (λ es end. Some (tree.SuperCall t.span n es, end))))

-- a member or an index, where one stands there
unfoldable pub part_at : List ℕ → ℕ → List Token → Read (Option PathPart)
part_at text room [] = Some (None, [])
part_at text room (t ∷ ts) =
    if is_dot t.kind then and_then (name_read text ts) (λ n rest.
    if sees is_left_paren rest
    then and_then (arguments_at text room rest) (λ es behind. Some (Some (part.Call n es), behind))
    else Some (Some (part.Field n), rest))
    else (if is_left_bracket t.kind
    then and_then (nested (below text room) (λ i. reader.bracketed i ts)) (λ e behind. Some (Some (part.Index e), behind))
    else Some (None, t ∷ ts))

-- a size of an array, where one stands there
unfoldable pub size_at : List ℕ → ℕ → List Token → Read (Option Expr)
size_at text room ts =
    if sees is_left_bracket ts && not (sees_brackets ts)
    then and_then (accept is_left_bracket ts) (λ t rest. and_then (nested (below text room) (λ i. reader.bracketed i rest)) (λ e behind. Some (Some e, behind)))
    else Some (None, ts)

-- the operator of a level that stands there, or that `instanceof` does
abbrev pub operator_at : ℕ → List Token → Option (Option BinaryOperator)
operator_at height [] = None
operator_at height (t ∷ ts) = if is_instanceof t.kind && (9 - height) == comparison_level then Some None else by (binary_operator t.kind)
  where
    by : Option BinaryOperator → Option (Option BinaryOperator)
    by None = None
    by (Some op) = if level_of op == 9 - height then Some (Some op) else None

-- an operator between two operands of a level, with its right operand, where one stands there
unfoldable pub operation_at : List ℕ → ℕ → ℕ → List Token → Read (Option Operation)
operation_at text room height ts = by (operator_at height ts)
  where
    by : Option (Option BinaryOperator) → Read (Option Operation)
    by None = Some (None, ts)
    by (Some None) = and_then (type_read text (drop 1 ts)) (λ target rest. Some (Some (operation.InstanceOf target), rest))
    by (Some (Some op)) = and_then (level_at text room height (drop 1 ts)) (λ e rest. Some (Some (operation.Operator op e), rest))

-- what the value so far may be an instance of
abbrev pub tested : List ℕ → List Token → Read (Option Operation)
tested text ts = and_then (type_read text ts) (λ target rest. Some (Some (operation.InstanceOf target), rest))

unfoldable pub operations_at : List ℕ → ℕ → ℕ → List Token → Read (List Operation)
operations_at text room height ts = reader.operations (suc (length ts)) text (9 - height) (level_at text room height) ts

unfoldable pub parts_at : List ℕ → ℕ → List Token → Read (List PathPart)
parts_at text room ts = reader.parts (suc (length ts)) text (below text room) ts

-- the operator of the assignment that stands there
abbrev pub assignment_at : List Token → Option (Option BinaryOperator)
assignment_at [] = None
assignment_at (t ∷ ts) = assign_operator t.kind

-- a cast, behind its opening parenthesis
unfoldable pub cast_at : List ℕ → ℕ → Token → List Token → Read Expr
cast_at text zero t ts = None
cast_at text (suc room) t ts = and_then (type_read text ts) (λ target rest. and_then (accept is_right_paren rest)
    (λ u behind. and_then (unary_at text room behind) (λ e end. Some (tree.Cast t.span target e, end))))

-- an expression in parentheses, behind the opening one
unfoldable pub enclosed_at : List ℕ → ℕ → Token → List Token → Read Expr
enclosed_at text zero t ts = None
enclosed_at text (suc room) t ts = and_then (expr_at text room ts) (λ e rest. and_then (accept is_right_paren rest)
    (λ u behind. Some (tree.Parenthesized t.span e, behind)))

-- a new array with its values, behind the name of its elements' type
unfoldable pub filled_at : List ℕ → ℕ → Token → Token → List Token → Read Expr
filled_at text room t n ts = behind_brackets (brackets ts).1
  where
    behind_brackets : List Token → Read Expr
    behind_brackets [] = None
    behind_brackets (u ∷ us) = and_then (braces_at text room (u ∷ us)) (λ values rest. Some (tree.NewArrayOf t.span (type_of text n (brackets ts).0) u.span values, rest))

-- whether further values stand behind one
abbrev pub behind_value : List Token → Read Bool
behind_value [] = None
behind_value (t ∷ ts) =
    if is_right_brace t.kind then Some (false, ts)
    else (if is_comma t.kind then (if sees is_right_brace ts then Some (false, drop 1 ts) else Some (true, ts)) else None)

-- a prefix operator with its operand
abbrev pub applied : Token → UnaryOperator → Expr → List Token → Read Expr
applied t op e rest = if is_step op && not (is_target e) then None else Some (tree.Unary t.span op e, rest)

-- an operand with the operator behind it, where one stands there
abbrev pub stepped : Expr → List Token → Read Expr
stepped e [] = Some (e, [])
stepped e (t ∷ rest) = by (postfix_operator t.kind)
  where
    by : Option PostfixOperator → Read Expr
    by None = Some (e, t ∷ rest)
    by (Some op) = if is_target e then Some (tree.Postfix e op, rest) else None

-- the creation of an array with these sizes
abbrev pub with_sizes : List ℕ → Token → Token → List Expr → List Token → Read Expr
with_sizes text t n [] rest = None
with_sizes text t n (e ∷ es) rest = Some (tree.NewArray t.span (type_of text n (length (e ∷ es) + (brackets rest).0)) (e ∷ es), (brackets rest).1)

-- both branches of a conditional
unfoldable pub branches_at : List ℕ → ℕ → List Token → Read (Expr × Expr)
branches_at text zero ts = None
branches_at text (suc room) ts = and_then (expr_at text room ts) (λ yes rest. and_then (accept is_colon rest)
    (λ u behind. and_then (conditional_at text room behind) (λ no end. Some ((yes, no), end))))
