-- What the trees are asked, by the variants that the table tells apart.
use Rattle.std.proofs.Common.{◌≡◌, ℕ, suc, ◌+◌, ◌==◌, true, false, List, [], ◌∷◌, length, refl, sym, ap, ◌∙◌, arith, rules, ne_eqb}
use Rattle.jsh_tree.specs.declared.token.Span.{Span}
use Rattle.jsh_tree.specs.declared.token.Token.{Token}
use Rattle.jsh_tree.specs.declared.expression.PostfixOperator.{PostfixOperator}
use Rattle.jsh_tree.specs.declared.expression.Identifier.{Identifier}
use Rattle.jsh_tree.specs.declared.expression.TypeUse.{TypeUse}
use Rattle.jsh_tree.specs.declared.expression.Literal.{Literal}
use Rattle.jsh_tree.specs.declared.expression.Expr.{Expr, out-roll-Expr}
use Rattle.jsh_tree.specs.declared.expression.Expr.TheOpen.{Expr-F, PathPart-F}
use Rattle.jsh_tree.specs.declared.expression.Expr.TheVariants as tree
use Rattle.jsh_tree.specs.declared.expression.PathPart.{PathPart, out-roll-PathPart}
use Rattle.jsh_tree.specs.declared.expression.PathPart.TheVariants as part
use Rattle.jsh_tree.specs.declared.expression.Initial.{Initial}
use Rattle.jsh_parse.specs.Leaves.{type_of, is_target, is_open_creation, begins_with_index, ends_in_place}
use Rattle.jsh_parse.proofs.LayerLemmas.{open-NewArray}

-- ---- what can be assigned to, and what can't

pub target-Literal : (span : Span) (value : Literal) → is_target (tree.Literal span value) ≡ false
target-Literal span value = rw (sym (tree.rolls-Literal span value), out-roll-Expr (Expr-F.Literal span value)) refl

pub target-This : (span : Span) → is_target (tree.This span) ≡ false
target-This span = rw (sym (tree.rolls-This span), out-roll-Expr (Expr-F.This span)) refl

pub target-Parenthesized : (span : Span) (e : Expr) → is_target (tree.Parenthesized span e) ≡ false
target-Parenthesized span e = rw (sym (tree.rolls-Parenthesized span e), out-roll-Expr (Expr-F.Parenthesized span e)) refl

pub target-Name : (name : Identifier) → is_target (tree.Name name) ≡ true
target-Name name = rw (sym (tree.rolls-Name name), out-roll-Expr (Expr-F.Name name)) refl

pub target-Call : (name : Identifier) (arguments : List Expr) → is_target (tree.Call name arguments) ≡ false
target-Call name arguments = rw (sym (tree.rolls-Call name arguments), out-roll-Expr (Expr-F.Expr::Call name arguments)) refl

pub target-SuperCall : (span : Span) (name : Identifier) (arguments : List Expr) → is_target (tree.SuperCall span name arguments) ≡ false
target-SuperCall span name arguments = rw (sym (tree.rolls-SuperCall span name arguments), out-roll-Expr (Expr-F.SuperCall span name arguments)) refl

pub target-New : (span : Span) (class : Identifier) (arguments : List Expr) → is_target (tree.New span class arguments) ≡ false
target-New span class arguments = rw (sym (tree.rolls-New span class arguments), out-roll-Expr (Expr-F.New span class arguments)) refl

pub target-NewArray : (span : Span) (created : TypeUse) (sizes : List Expr) → is_target (tree.NewArray span created sizes) ≡ false
target-NewArray span created sizes = rw (sym (tree.rolls-NewArray span created sizes), out-roll-Expr (Expr-F.NewArray span created sizes)) refl

pub target-NewArrayOf : (span : Span) (created : TypeUse) (brace : Span) (values : List Initial) →
    is_target (tree.NewArrayOf span created brace values) ≡ false
target-NewArrayOf span created brace values =
    rw (sym (tree.rolls-NewArrayOf span created brace values), out-roll-Expr (Expr-F.NewArrayOf span created brace values)) refl

pub target-Postfix : (operand : Expr) (operator : PostfixOperator) → is_target (tree.Postfix operand operator) ≡ false
target-Postfix operand operator = rw (sym (tree.rolls-Postfix operand operator), out-roll-Expr (Expr-F.Postfix operand operator)) refl

pub target-Path : (first : Expr) (parts : List PathPart) → is_target (tree.Path first parts) ≡ ends_in_place parts
target-Path first parts = rw (sym (tree.rolls-Path first parts), out-roll-Expr (Expr-F.Path first parts)) refl

-- ---- members and indices

pub index-Index : (inner : Expr) (more : List PathPart) → begins_with_index (part.Index inner ∷ more) ≡ true
index-Index inner more = rw (sym (part.rolls-Index inner), out-roll-PathPart (PathPart-F.Index inner)) refl

pub place-Field : (name : Identifier) → ends_in_place (part.Field name ∷ []) ≡ true
place-Field name = rw (sym (part.rolls-Field name), out-roll-PathPart (PathPart-F.Field name)) refl

pub place-Call : (name : Identifier) (arguments : List Expr) → ends_in_place (part.Call name arguments ∷ []) ≡ false
place-Call name arguments = rw (sym (part.rolls-Call name arguments), out-roll-PathPart (PathPart-F.PathPart::Call name arguments)) refl

pub place-Index : (inner : Expr) → ends_in_place (part.Index inner ∷ []) ≡ true
place-Index inner = rw (sym (part.rolls-Index inner), out-roll-PathPart (PathPart-F.Index inner)) refl

-- ---- creations of arrays

same_number : (n : ℕ) → (n == n) ≡ true
same_number n = search rules

pub open-sized : (span : Span) (text : List ℕ) (n : Token) (sizes : List Expr) →
    is_open_creation (tree.NewArray span (type_of text n (length sizes + 0)) sizes) ≡ true
open-sized span text n sizes =
    let none : length sizes + 0 ≡ length sizes = omega arith in
    open-NewArray span (type_of text n (length sizes + 0)) sizes ∙ (ap (λ k. length sizes == k) none ∙ same_number (length sizes))

pub open-unsized : (span : Span) (text : List ℕ) (n : Token) (sizes : List Expr) (dims : ℕ) →
    is_open_creation (tree.NewArray span (type_of text n (length sizes + suc dims)) sizes) ≡ false
open-unsized span text n sizes dims =
    open-NewArray span (type_of text n (length sizes + suc dims)) sizes ∙ ne_eqb (length sizes) (length sizes + suc dims) (omega arith)
