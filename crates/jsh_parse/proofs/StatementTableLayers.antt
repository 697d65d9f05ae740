-- Which trees may be statements, by their variants.
use Rattle.std.proofs.Common.{◌≡◌, true, false, List, [], ◌∷◌, ◌++◌, Option, refl, sym}
use Rattle.jsh_tree.specs.declared.token.Span.{Span}
use Rattle.jsh_tree.specs.declared.expression.BinaryOperator.{BinaryOperator}
use Rattle.jsh_tree.specs.declared.expression.UnaryOperator.{UnaryOperator}
use Rattle.jsh_tree.specs.declared.expression.PostfixOperator.{PostfixOperator}
use Rattle.jsh_tree.specs.declared.expression.Identifier.{Identifier}
use Rattle.jsh_tree.specs.declared.expression.TypeUse.{TypeUse}
use Rattle.jsh_tree.specs.declared.expression.Literal.{Literal}
use Rattle.jsh_tree.specs.declared.expression.Expr.{Expr, out-roll-Expr}
use Rattle.jsh_tree.specs.declared.expression.Expr.TheOpen.{Expr-F, PathPart-F}
use Rattle.jsh_tree.specs.declared.expression.Expr.TheVariants as tree
use Rattle.jsh_tree.specs.declared.expression.Operation.{Operation}
use Rattle.jsh_tree.specs.declared.expression.PathPart.{PathPart, out-roll-PathPart}
use Rattle.jsh_tree.specs.declared.expression.PathPart.TheVariants as part
use Rattle.jsh_tree.specs.declared.expression.Initial.{Initial}
use Rattle.jsh_parse.specs.Leaves.{is_step}
use Rattle.jsh_parse.specs.Statements.{is_statement, ends_in_call}

-- ---- what may be a statement

pub statement-Assign : (target : Expr) (operator : Option BinaryOperator) (value : Expr) → is_statement (tree.Assign target operator value) ≡ true
statement-Assign target operator value = rw (sym (tree.rolls-Assign target operator value), out-roll-Expr (Expr-F.Assign target operator value)) refl

pub statement-Unary : (span : Span) (operator : UnaryOperator) (operand : Expr) → is_statement (tree.Unary span operator operand) ≡ is_step operator
statement-Unary span operator operand = rw (sym (tree.rolls-Unary span operator operand), out-roll-Expr (Expr-F.Unary span operator operand)) refl

pub statement-Postfix : (operand : Expr) (operator : PostfixOperator) → is_statement (tree.Postfix operand operator) ≡ true
statement-Postfix operand operator = rw (sym (tree.rolls-Postfix operand operator), out-roll-Expr (Expr-F.Postfix operand operator)) refl

pub statement-Path : (first : Expr) (parts : List PathPart) → is_statement (tree.Path first parts) ≡ ends_in_call parts
statement-Path first parts = rw (sym (tree.rolls-Path first parts), out-roll-Expr (Expr-F.Path first parts)) refl

pub statement-Call : (name : Identifier) (arguments : List Expr) → is_statement (tree.Call name arguments) ≡ true
statement-Call name arguments = rw (sym (tree.rolls-Call name arguments), out-roll-Expr (Expr-F.Expr::Call name arguments)) refl

pub statement-SuperCall : (span : Span) (name : Identifier) (arguments : List Expr) → is_statement (tree.SuperCall span name arguments) ≡ true
statement-SuperCall span name arguments = rw (sym (tree.rolls-SuperCall span name arguments), out-roll-Expr (Expr-F.SuperCall span name arguments)) refl

pub statement-New : (span : Span) (class : Identifier) (arguments : List Expr) → is_statement (tree.New span class arguments) ≡ true
statement-New span class arguments = rw (sym (tree.rolls-New span class arguments), out-roll-Expr (Expr-F.New span class arguments)) refl

-- ---- what may not

pub statement-Literal : (span : Span) (value : Literal) → is_statement (tree.Literal span value) ≡ false
statement-Literal span value = rw (sym (tree.rolls-Literal span value), out-roll-Expr (Expr-F.Literal span value)) refl

pub statement-This : (span : Span) → is_statement (tree.This span) ≡ false
statement-This span = rw (sym (tree.rolls-This span), out-roll-Expr (Expr-F.This span)) refl

pub statement-Parenthesized : (span : Span) (e : Expr) → is_statement (tree.Parenthesized span e) ≡ false
statement-Parenthesized span e = rw (sym (tree.rolls-Parenthesized span e), out-roll-Expr (Expr-F.Parenthesized span e)) refl

pub statement-Name : (name : Identifier) → is_statement (tree.Name name) ≡ false
statement-Name name = rw (sym (tree.rolls-Name name), out-roll-Expr (Expr-F.Name name)) refl

pub statement-NewArray : (span : Span) (created : TypeUse) (sizes : List Expr) → is_statement (tree.NewArray span created sizes) ≡ false
statement-NewArray span created sizes = rw (sym (tree.rolls-NewArray span created sizes), out-roll-Expr (Expr-F.NewArray span created sizes)) refl

pub statement-NewArrayOf : (span : Span) (created : TypeUse) (brace : Span) (values : List Initial) →
    is_statement (tree.NewArrayOf span created brace values) ≡ false
statement-NewArrayOf span created brace values =
    rw (sym (tree.rolls-NewArrayOf span created brace values), out-roll-Expr (Expr-F.NewArrayOf span created brace values)) refl

pub statement-Conditional : (condition left right : Expr) → is_statement (tree.Conditional condition left right) ≡ false
statement-Conditional condition left right =
    rw (sym (tree.rolls-Conditional condition left right), out-roll-Expr (Expr-F.Conditional condition left right)) refl

pub statement-Binary : (first : Expr) (rest : List Operation) → is_statement (tree.Binary first rest) ≡ false
statement-Binary first rest = rw (sym (tree.rolls-Binary first rest), out-roll-Expr (Expr-F.Binary first rest)) refl

pub statement-Cast : (span : Span) (target : TypeUse) (operand : Expr) → is_statement (tree.Cast span target operand) ≡ false
statement-Cast span target operand = rw (sym (tree.rolls-Cast span target operand), out-roll-Expr (Expr-F.Cast span target operand)) refl

-- ---- members and indices that end in a call

pub call-Field : (name : Identifier) → ends_in_call (part.Field name ∷ []) ≡ false
call-Field name = rw (sym (part.rolls-Field name), out-roll-PathPart (PathPart-F.Field name)) refl

pub call-Index : (inner : Expr) → ends_in_call (part.Index inner ∷ []) ≡ false
call-Index inner = rw (sym (part.rolls-Index inner), out-roll-PathPart (PathPart-F.Index inner)) refl

pub call-Call : (name : Identifier) (arguments : List Expr) → ends_in_call (part.Call name arguments ∷ []) ≡ true
call-Call name arguments = rw (sym (part.rolls-Call name arguments), out-roll-PathPart (PathPart-F.PathPart::Call name arguments)) refl

-- what stands last decides
pub call-behind : (ps : List PathPart) (p : PathPart) → ends_in_call (ps ++ p ∷ []) ≡ ends_in_call (p ∷ [])
call-behind [] p = refl
call-behind (q ∷ []) p = refl
call-behind (q ∷ r ∷ ps) p = call-behind (r ∷ ps) p
