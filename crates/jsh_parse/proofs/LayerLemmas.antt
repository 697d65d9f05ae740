-- What the trees are asked, by their variants.
use Rattle.std.proofs.Common.{◌≡◌, false, ◌==◌, List, ◌∷◌, length, refl, sym}
use Rattle.jsh_tree.specs.declared.token.Span.{Span}
use Rattle.jsh_tree.specs.declared.expression.UnaryOperator.{UnaryOperator}
use Rattle.jsh_tree.specs.declared.expression.Identifier.{Identifier}
use Rattle.jsh_tree.specs.declared.expression.TypeUse.{TypeUse}
use Rattle.jsh_tree.specs.declared.expression.Literal.{Literal}
use Rattle.jsh_tree.specs.declared.expression.Expr.{Expr, out-roll-Expr}
use Rattle.jsh_tree.specs.declared.expression.Expr.TheOpen.{Expr-F, PathPart-F}
use Rattle.jsh_tree.specs.declared.expression.Expr.TheVariants as tree
use Rattle.jsh_tree.specs.declared.expression.Operation.{Operation}
use Rattle.jsh_tree.specs.declared.expression.PathPart.{PathPart, out-roll-PathPart}
use Rattle.jsh_tree.specs.declared.expression.PathPart.TheVariants as part
use Rattle.jsh_tree.specs.declared.expression.Initial.{Initial}
use Rattle.jsh_parse.specs.Leaves.{is_target, is_open_creation, begins_with_index}

-- ---- creations with a size in their last brackets

pub open-Literal : (span : Span) (value : Literal) → is_open_creation (tree.Literal span value) ≡ false
open-Literal span value = rw (sym (tree.rolls-Literal span value), out-roll-Expr (Expr-F.Literal span value)) refl

pub open-This : (span : Span) → is_open_creation (tree.This span) ≡ false
open-This span = rw (sym (tree.rolls-This span), out-roll-Expr (Expr-F.This span)) refl

pub open-Parenthesized : (span : Span) (e : Expr) → is_open_creation (tree.Parenthesized span e) ≡ false
open-Parenthesized span e = rw (sym (tree.rolls-Parenthesized span e), out-roll-Expr (Expr-F.Parenthesized span e)) refl

pub open-Name : (name : Identifier) → is_open_creation (tree.Name name) ≡ false
open-Name name = rw (sym (tree.rolls-Name name), out-roll-Expr (Expr-F.Name name)) refl

pub open-Call : (name : Identifier) (arguments : List Expr) → is_open_creation (tree.Call name arguments) ≡ false
open-Call name arguments = rw (sym (tree.rolls-Call name arguments), out-roll-Expr (Expr-F.Expr::Call name arguments)) refl

pub open-SuperCall : (span : Span) (name : Identifier) (arguments : List Expr) → is_open_creation (tree.SuperCall span name arguments) ≡ false
open-SuperCall span name arguments = rw (sym (tree.rolls-SuperCall span name arguments), out-roll-Expr (Expr-F.SuperCall span name arguments)) refl

pub open-New : (span : Span) (class : Identifier) (arguments : List Expr) → is_open_creation (tree.New span class arguments) ≡ false
open-New span class arguments = rw (sym (tree.rolls-New span class arguments), out-roll-Expr (Expr-F.New span class arguments)) refl

pub open-NewArray : (span : Span) (created : TypeUse) (sizes : List Expr) → is_open_creation (tree.NewArray span created sizes) ≡ (length sizes == created.written.dims)
open-NewArray span created sizes = rw (sym (tree.rolls-NewArray span created sizes), out-roll-Expr (Expr-F.NewArray span created sizes)) refl

pub open-NewArrayOf : (span : Span) (created : TypeUse) (brace : Span) (values : List Initial) → is_open_creation (tree.NewArrayOf span created brace values) ≡ false
open-NewArrayOf span created brace values = rw (sym (tree.rolls-NewArrayOf span created brace values), out-roll-Expr (Expr-F.NewArrayOf span created brace values)) refl

-- ---- what can't be assigned to

pub target-Conditional : (condition left right : Expr) → is_target (tree.Conditional condition left right) ≡ false
target-Conditional condition left right = rw (sym (tree.rolls-Conditional condition left right), out-roll-Expr (Expr-F.Conditional condition left right)) refl

pub target-Binary : (first : Expr) (rest : List Operation) → is_target (tree.Binary first rest) ≡ false
target-Binary first rest = rw (sym (tree.rolls-Binary first rest), out-roll-Expr (Expr-F.Binary first rest)) refl

pub target-Unary : (span : Span) (operator : UnaryOperator) (operand : Expr) → is_target (tree.Unary span operator operand) ≡ false
target-Unary span operator operand = rw (sym (tree.rolls-Unary span operator operand), out-roll-Expr (Expr-F.Unary span operator operand)) refl

pub target-Cast : (span : Span) (target : TypeUse) (operand : Expr) → is_target (tree.Cast span target operand) ≡ false
target-Cast span target operand = rw (sym (tree.rolls-Cast span target operand), out-roll-Expr (Expr-F.Cast span target operand)) refl

-- ---- an index

pub index-Field : (name : Identifier) (more : List PathPart) → begins_with_index (part.Field name ∷ more) ≡ false
index-Field name more = rw (sym (part.rolls-Field name), out-roll-PathPart (PathPart-F.Field name)) refl

pub index-Call : (name : Identifier) (arguments : List Expr) (more : List PathPart) → begins_with_index (part.Call name arguments ∷ more) ≡ false
index-Call name arguments more = rw (sym (part.rolls-Call name arguments), out-roll-PathPart (PathPart-F.PathPart::Call name arguments)) refl
