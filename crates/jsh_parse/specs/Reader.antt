-- A reader of expressions: from the front of a list of tokens it takes what the parser takes, and gives what is left.
use Rattle.std.specs.Prelude.{ℕ, zero, suc, ◌+◌, ◌-◌, ◌==◌, Bool, true, false, not, ◌&&◌, if◌then◌else◌, List, [], ◌∷◌, Option, Some, None, length}
use Rattle.jsh_tree.specs.declared.token.Token.{Token}
use Rattle.jsh_tree.specs.declared.token.TokenKind.{TokenKind}
use Rattle.jsh_tree.specs.declared.expression.BinaryOperator.{BinaryOperator}
use Rattle.jsh_tree.specs.declared.expression.UnaryOperator.{UnaryOperator}
use Rattle.jsh_tree.specs.declared.expression.PostfixOperator.{PostfixOperator}
use Rattle.jsh_tree.specs.declared.expression.TypeUse.{TypeUse}
use Rattle.jsh_tree.specs.declared.expression.Literal.{Literal}
use Rattle.jsh_tree.specs.declared.expression.Expr.{Expr}
use Rattle.jsh_tree.specs.declared.expression.Expr.TheVariants as tree
use Rattle.jsh_tree.specs.declared.expression.Operation.{Operation}
use Rattle.jsh_tree.specs.declared.expression.Operation.TheVariants as operation
use Rattle.jsh_tree.specs.declared.expression.PathPart.{PathPart}
use Rattle.jsh_tree.specs.declared.expression.PathPart.TheVariants as part
use Rattle.jsh_tree.specs.declared.expression.Initial.{Initial}
use Rattle.jsh_tree.specs.declared.expression.Initial.TheVariants as initial
use Rattle.jsh_parse.specs.Operators.{binary_operator, level_of, comparison_level, operand_level, assign_operator, unary_operator, postfix_operator}
use Rattle.jsh_parse.specs.Leaves.{literal_of, identifier_of, is_primitive, names_type, type_of, is_step, is_target}
use Rattle.jsh_parse.specs.Marks.{is_left_paren, is_right_paren, is_left_bracket, is_right_bracket, is_left_brace, is_right_brace, is_dot, is_comma, is_question, is_colon, is_identifier, is_instanceof, is_this, is_super, is_new, begins_operand}

-- what was read, and the tokens behind it
abbrev pub Read : Type 0 → Type 0
Read A = Option (A × List Token)

-- what comes of a read
abbrev pub and_then : {A B : Type 0} → Read A → (A → List Token → Read B) → Read B
and_then None f = None
and_then (Some found) f = f found.0 found.1

-- the first token, if it passes
abbrev pub accept : (TokenKind → Bool) → List Token → Read Token
accept test [] = None
accept test (t ∷ ts) = if test t.kind then Some (t, ts) else None

-- the first token passes
abbrev pub sees : (TokenKind → Bool) → List Token → Bool
sees test [] = false
sees test (t ∷ ts) = test t.kind

-- an empty pair of brackets stands first
abbrev pub sees_brackets : List Token → Bool
sees_brackets [] = false
sees_brackets (t ∷ ts) = is_left_bracket t.kind && sees is_right_bracket ts

-- how many empty pairs of brackets stand first, and what is behind them
abbrev pub brackets : List Token → ℕ × List Token
brackets [] = (0, [])
brackets (t ∷ []) = (0, t ∷ [])
brackets (t ∷ u ∷ ts) = if is_left_bracket t.kind && is_right_bracket u.kind then (suc (brackets ts).0, (brackets ts).1) else (0, t ∷ u ∷ ts)

-- a type: its name, and as many empty pairs of brackets as stand there
abbrev pub type_read : List ℕ → List Token → Read TypeUse
type_read text [] = None
type_read text (t ∷ ts) = if names_type t.kind then Some (type_of text t (brackets ts).0, (brackets ts).1) else None

-- behind a parenthesis stand a type and its end, and then what an operand of a cast to that type may begin with
abbrev pub is_cast : List Token → Bool
is_cast [] = false
is_cast (t ∷ ts) = names_type t.kind && closes (is_primitive t.kind) (brackets ts).1
  where
    closes : Bool → List Token → Bool
    closes primitive [] = false
    closes primitive (u ∷ us) = is_right_paren u.kind && (if primitive then true else sees begins_operand us)

-- the readers of what may stand one deeper
pub record Inner : Type 0 where
  pub expr : List Token → Read Expr
  pub conditional : List Token → Read Expr
  pub unary : List Token → Read Expr
  pub braces : List Token → Read (List Initial)

-- something deeper, where there may be any
abbrev pub nested : {A : Type 0} → Option Inner → (Inner → Read A) → Read A
nested None f = None
nested (Some inner) f = f inner

-- Expr {"," Expr}, of at most so many
unfoldable pub listed : ℕ → Inner → List Token → Read (List Expr)
listed zero inner ts = None
listed (suc most) inner ts = and_then (inner.expr ts) (λ e rest. behind (listed most inner) e rest)
  where
    behind : (List Token → Read (List Expr)) → Expr → List Token → Read (List Expr)
    behind more e [] = Some (e ∷ [], [])
    behind more e (t ∷ ts) = if is_comma t.kind then and_then (more ts) (λ es rest. Some (e ∷ es, rest)) else Some (e ∷ [], t ∷ ts)

-- an expression or more, and the parenthesis behind it
abbrev pub closed_list : Inner → List Token → Read (List Expr)
closed_list inner ts = and_then (listed (suc (length ts)) inner ts) (λ es rest. and_then (accept is_right_paren rest) (λ u behind. Some (es, behind)))

-- Args
abbrev pub arguments : Option Inner → List Token → Read (List Expr)
arguments inner ts = and_then (accept is_left_paren ts) (λ t rest. nested inner (λ i. inside i rest))
  where
    inside : Inner → List Token → Read (List Expr)
    inside i [] = None
    inside i (t ∷ ts) = if is_right_paren t.kind then Some ([], ts) else closed_list i (t ∷ ts)

-- an expression and the bracket behind it
abbrev pub bracketed : Inner → List Token → Read Expr
bracketed i ts = and_then (i.expr ts) (λ e rest. and_then (accept is_right_bracket rest) (λ u behind. Some (e, behind)))

-- {"[" Expr "]"}, of at most so many
unfoldable pub sizes : ℕ → Option Inner → List Token → Read (List Expr)
sizes zero inner ts = None
sizes (suc most) inner ts =
    if sees is_left_bracket ts && not (sees_brackets ts)
    then and_then (accept is_left_bracket ts) (λ t rest. and_then (nested inner (λ i. bracketed i rest))
    (λ e behind. and_then (sizes most inner behind) (λ es end. Some (e ∷ es, end))))
    else Some ([], ts)

-- a value of an array initializer
abbrev pub initial_read : Inner → List Token → Read Initial
initial_read i [] = None
initial_read i (t ∷ ts) =
    if is_left_brace t.kind then and_then (i.braces (t ∷ ts)) (λ values rest. Some (initial.Array t.span values, rest))
    else and_then (i.expr (t ∷ ts)) (λ e rest. Some (initial.Value e, rest))

-- VarInit {"," VarInit} [","] and the brace behind it, of at most so many
unfoldable pub initials : ℕ → Inner → List Token → Read (List Initial)
initials zero i ts = None
initials (suc most) i ts = and_then (initial_read i ts) (λ value rest. behind (initials most i) value rest)
  where
    behind : (List Token → Read (List Initial)) → Initial → List Token → Read (List Initial)
    behind more value [] = None
    behind more value (t ∷ ts) =
        if is_right_brace t.kind then Some (value ∷ [], ts)
        else (if is_comma t.kind
        then (if sees is_right_brace ts then and_then (accept is_right_brace ts) (λ u end. Some (value ∷ [], end))
        else and_then (more ts) (λ values end. Some (value ∷ values, end)))
        else None)

-- ArrayInit
abbrev pub braces : Option Inner → List Token → Read (List Initial)
braces inner ts = and_then (accept is_left_brace ts) (λ t rest. nested inner (λ i. inside i rest))
  where
    inside : Inner → List Token → Read (List Initial)
    inside i [] = None
    inside i (t ∷ ts) = if is_right_brace t.kind then Some ([], ts) else initials (suc (length (t ∷ ts))) i (t ∷ ts)

-- what stands behind `new` and the name of a type
abbrev pub creation : List ℕ → Option Inner → Token → Token → List Token → Read Expr
creation text inner t n ts =
    if sees is_left_paren ts
    then (if is_identifier n.kind then and_then (arguments inner ts) (λ es rest. Some (tree.New t.span (identifier_of text n) es, rest)) else None)
    else (if sees_brackets ts then with_values (brackets ts).0 (brackets ts).1 else and_then (sizes (suc (length ts)) inner ts) with_sizes)
  where
    with_values : ℕ → List Token → Read Expr
    with_values dims [] = None
    with_values dims (u ∷ us) = and_then (braces inner (u ∷ us)) (λ values rest. Some (tree.NewArrayOf t.span (type_of text n dims) u.span values, rest))

    with_sizes : List Expr → List Token → Read Expr
    with_sizes [] rest = None
    with_sizes (e ∷ es) rest = Some (tree.NewArray t.span (type_of text n (length (e ∷ es) + (brackets rest).0)) (e ∷ es), (brackets rest).1)

-- Primary
abbrev pub primary : List ℕ → Option Inner → List Token → Read Expr
primary text inner [] = None
primary text inner (t ∷ ts) = valued (literal_of text t)
  where
    named : Read Expr
    named =
        if sees is_left_paren ts then and_then (arguments inner ts) (λ es rest. Some (tree.Call (identifier_of text t) es, rest))
        else Some (tree.Name (identifier_of text t), ts)

    through_super : Read Expr
    through_super = and_then (accept is_dot ts) (λ d rest. and_then (accept is_identifier rest)
        (λ n behind. and_then (arguments inner behind) (λ es end. Some (tree.SuperCall t.span (identifier_of text n) es, end))))

    parenthesized : Read Expr
    parenthesized = nested inner (λ i. and_then (i.expr ts) (λ e rest. and_then (accept is_right_paren rest)
        (λ u behind. Some (tree.Parenthesized t.span e, behind))))

    valued : Option Literal → Read Expr
    valued (Some value) = Some (tree.Literal t.span value, ts)
    valued None =
        if is_identifier t.kind then named
        else (if is_left_paren t.kind then parenthesized
        else (if is_this t.kind then Some (tree.This t.span, ts)
        else (if is_super t.kind then through_super
        else (if is_new t.kind then and_then (accept names_type ts) (creation text inner t) else None))))

-- {"." Ident [Args] | "[" Expr "]"}, of at most so many
unfoldable pub parts : ℕ → List ℕ → Option Inner → List Token → Read (List PathPart)
parts zero text inner ts = None
parts (suc most) text inner [] = Some ([], [])
parts (suc most) text inner (t ∷ ts) =
    if is_dot t.kind then and_then (accept is_identifier ts) (λ n rest.
    if sees is_left_paren rest
    then and_then (arguments inner rest) (λ es behind. and_then (parts most text inner behind) (λ more end. Some (part.Call (identifier_of text n) es ∷ more, end)))
    else and_then (parts most text inner rest) (λ more end. Some (part.Field (identifier_of text n) ∷ more, end)))
    else (if is_left_bracket t.kind
    then and_then (nested inner (λ i. bracketed i ts)) (λ e behind. and_then (parts most text inner behind) (λ more end. Some (part.Index e ∷ more, end)))
    else Some ([], t ∷ ts))

-- an expression with what stands behind it, where anything does
abbrev pub with_parts : Expr → List PathPart → Expr
with_parts first [] = first
with_parts first (p ∷ ps) = tree.Path first (p ∷ ps)

abbrev pub path : List ℕ → Option Inner → List Token → Read Expr
path text inner ts = and_then (primary text inner ts) (λ first rest. and_then (parts (suc (length rest)) text inner rest) (λ ps behind. Some (with_parts first ps, behind)))

-- Postfix
abbrev pub postfix_read : List ℕ → Option Inner → List Token → Read Expr
postfix_read text inner ts = and_then (path text inner ts) stepped
  where
    by : Expr → Token → List Token → Option PostfixOperator → Read Expr
    by e t rest None = Some (e, t ∷ rest)
    by e t rest (Some op) = if is_target e then Some (tree.Postfix e op, rest) else None

    stepped : Expr → List Token → Read Expr
    stepped e [] = Some (e, [])
    stepped e (t ∷ rest) = by e t rest (postfix_operator t.kind)

-- Unary
abbrev pub unary_read : List ℕ → Option Inner → List Token → Read Expr
unary_read text inner [] = None
unary_read text inner (t ∷ ts) = by (unary_operator t.kind)
  where
    applied : UnaryOperator → Expr → List Token → Read Expr
    applied op e rest = if is_step op && not (is_target e) then None else Some (tree.Unary t.span op e, rest)

    by : Option UnaryOperator → Read Expr
    by (Some op) = nested inner (λ i. and_then (i.unary ts) (applied op))
    by None =
        if is_left_paren t.kind && is_cast ts
        then nested inner (λ i. and_then (type_read text ts) (λ target rest. and_then (accept is_right_paren rest)
        (λ u behind. and_then (i.unary behind) (λ e end. Some (tree.Cast t.span target e, end)))))
        else postfix_read text inner (t ∷ ts)

-- the operators of a level and their right operands, of at most so many
unfoldable pub operations : ℕ → List ℕ → ℕ → (List Token → Read Expr) → List Token → Read (List Operation)
operations zero text level operand ts = None
operations (suc most) text level operand [] = Some ([], [])
operations (suc most) text level operand (t ∷ ts) =
    if is_instanceof t.kind && level == comparison_level
    then and_then (type_read text ts) (λ target rest. and_then (operations most text level operand rest) (λ more end. Some (operation.InstanceOf target ∷ more, end)))
    else by (operations most text level operand) (binary_operator t.kind)
  where
    by : (List Token → Read (List Operation)) → Option BinaryOperator → Read (List Operation)
    by others None = Some ([], t ∷ ts)
    by others (Some op) =
        if level_of op == level
        then and_then (operand ts) (λ e rest. and_then (others rest) (λ more end. Some (operation.Operator op e ∷ more, end)))
        else Some ([], t ∷ ts)

abbrev pub with_operations : Expr → List Operation → Expr
with_operations first [] = first
with_operations first (o ∷ os) = tree.Binary first (o ∷ os)

-- the level that is so many below the operands of all levels
unfoldable pub level_read : ℕ → List ℕ → Option Inner → List Token → Read Expr
level_read zero text inner ts = unary_read text inner ts
level_read (suc height) text inner ts = and_then (level_read height text inner ts) (λ first rest.
    and_then (operations (suc (length rest)) text (9 - height) (level_read height text inner) rest) (λ os behind. Some (with_operations first os, behind)))

-- Cond
abbrev pub conditional_read : List ℕ → Option Inner → List Token → Read Expr
conditional_read text inner ts = and_then (level_read operand_level text inner ts) chosen
  where
    chosen : Expr → List Token → Read Expr
    chosen condition [] = Some (condition, [])
    chosen condition (t ∷ ts) =
        if is_question t.kind
        then nested inner (λ i. and_then (i.expr ts) (λ yes rest. and_then (accept is_colon rest)
        (λ u behind. and_then (i.conditional behind) (λ no end. Some (tree.Conditional condition yes no, end)))))
        else Some (condition, t ∷ ts)

-- Expr
abbrev pub expr_read : List ℕ → Option Inner → List Token → Read Expr
expr_read text inner ts = and_then (conditional_read text inner ts) assigned
  where
    by : Expr → Token → List Token → Option (Option BinaryOperator) → Read Expr
    by target t rest None = Some (target, t ∷ rest)
    by target t rest (Some op) =
        if is_target target then nested inner (λ i. and_then (i.expr rest) (λ value end. Some (tree.Assign target op value, end))) else None

    assigned : Expr → List Token → Read Expr
    assigned target [] = Some (target, [])
    assigned target (t ∷ rest) = by target t rest (assign_operator t.kind)

abbrev pub readers_over : List ℕ → Option Inner → Inner
readers_over text inner = record {
  expr = expr_read text inner;
  conditional = conditional_read text inner;
  unary = unary_read text inner;
  braces = braces inner;
}

-- the readers where at most so many constructs stand in one another
unfoldable pub readers : List ℕ → ℕ → Inner
readers text zero = readers_over text None
readers text (suc room) = readers_over text (Some (readers text room))
