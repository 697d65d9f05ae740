-- The language of sums: which trees are sums, of which operands, and which of their literals are too big.
use Rattle.std.specs.Prelude.{ℕ, if◌then◌else◌, List, [], ◌∷◌, ◌++◌, fold, Option, Some, None, option_map}
use Rattle.std.specs.Option.{option_and_then, option_to_list}
use Rattle.std.specs.Int.{w32, int_wrapping_neg}
use Rattle.jsh_tree.specs.declared.tree.Tree.{Tree}
use Rattle.jsh_tree.specs.declared.tree.Tree.TheVariants as tree
use Rattle.jsh_sum.specs.declared.sums.AdditiveOperator.{AdditiveOperator}
use Rattle.jsh_sum.specs.declared.sums.AdditiveOperator.TheVariants.{Plus, Minus}
use Rattle.jsh_tree.specs.declared.expression.Literal.{Literal}
use Rattle.jsh_tree.specs.declared.expression.Literal.TheVariants as literal
use Rattle.jsh_tree.specs.declared.expression.BinaryOperator.{BinaryOperator}
use Rattle.jsh_tree.specs.declared.expression.BinaryOperator.TheVariants as binary
use Rattle.jsh_tree.specs.declared.expression.UnaryOperator.TheVariants as unary
use Rattle.jsh_tree.specs.declared.expression.Expr.{Expr, out-Expr}
use Rattle.jsh_tree.specs.declared.expression.Expr.TheOpen.{Expr-F, Operation-F}
use Rattle.jsh_tree.specs.declared.expression.Operation.{Operation, out-Operation}
use Rattle.jsh_tree.specs.declared.expression.PathPart.{PathPart}
use Rattle.jsh_tree.specs.declared.expression.Initial.{Initial}
use Rattle.jsh_sum.specs.declared.reading.Operand.{Operand}
use Rattle.jsh_sum.specs.declared.reading.Reading.{Reading}

-- one level of an expression, and of what may follow an operand
abbrev pub Layer : Type 0
Layer = Expr-F Expr Initial Operation PathPart

abbrev pub OperationLayer : Type 0
OperationLayer = Operation-F Expr Initial Operation PathPart

-- an int literal that stands alone at a place: where it needs a minus, it is too big (JLS 3.10.1)
abbrev pub literal_alone : ℕ → Literal → Option Operand
literal_alone place (literal.Int value needs_minus) = Some (record { value = value; too_big = if needs_minus then Some place else None })
literal_alone place _ = None

-- an int literal right behind a minus: the value's negation in 32 bits (JLS 15.15.4)
abbrev pub literal_negated : Literal → Option Operand
literal_negated (literal.Int value needs_minus) = Some (record { value = int_wrapping_neg w32 value; too_big = None })
literal_negated _ = None

-- what stands right behind a minus
abbrev pub behind_minus : Layer → Option Operand
behind_minus (Expr-F.Literal span literal) = literal_negated literal
behind_minus _ = None

-- an operand: an int literal, or one right behind a minus
abbrev pub operand_of_layer : Layer → Option Operand
operand_of_layer (Expr-F.Literal span literal) = literal_alone span.from literal
operand_of_layer (Expr-F.Unary span unary.Minus operand) = behind_minus (out-Expr operand)
operand_of_layer _ = None

abbrev pub operand_of : Expr → Option Operand
operand_of e = operand_of_layer (out-Expr e)

-- an operator of a sum (JLS 15.18)
abbrev pub additive_operator : BinaryOperator → Option AdditiveOperator
additive_operator binary.Add = Some Plus
additive_operator binary.Subtract = Some Minus
additive_operator _ = None

-- a sum of one operand
abbrev pub begun : Operand → Reading
begun operand = record { sum = record { first = operand.value; rest = [] }; too_big = option_to_list operand.too_big }

-- an operator and its right operand, where an operation is `+` or `-` with an operand
abbrev pub part_of : Operation → Option (AdditiveOperator × Operand)
part_of operation = by (out-Operation operation)
  where
    by : OperationLayer → Option (AdditiveOperator × Operand)
    by (Operation-F.Operator operator right) =
        option_and_then (λ additive. option_map (λ operand. (additive, operand)) (operand_of right)) (additive_operator operator)
    by (Operation-F.InstanceOf target) = None

-- a sum with a further operand
abbrev pub with_part : Reading → AdditiveOperator × Operand → Reading
with_part reading (operator, operand) = record {
  sum = record { first = reading.sum.first; rest = reading.sum.rest ++ record { operator = operator; operand = operand.value } ∷ [] };
  too_big = reading.too_big ++ option_to_list operand.too_big;
}

-- the sum with what the next operation adds, if there is one so far
abbrev pub next : Option Reading → Operation → Option Reading
next None operation = None
next (Some reading) operation = option_map (λ further. with_part reading further) (part_of operation)

-- the first operand of a run of operators of one level, and what follows it; any other expression is an operand alone
abbrev pub first_of : Expr → Expr
first_of e = by (out-Expr e)
  where
    by : Layer → Expr
    by (Expr-F.Binary first rest) = first
    by _ = e

abbrev pub rest_of : Expr → List Operation
rest_of e = by (out-Expr e)
  where
    by : Layer → List Operation
    by (Expr-F.Binary first rest) = rest
    by _ = []

abbrev pub sum_of_expression : Expr → Option Reading
sum_of_expression e = fold next (option_map begun (operand_of (first_of e))) (rest_of e)

-- The sum that a tree is, with the places of its literals that are too big, in order; None where it is no sum: it is an operand, or one
-- run of `+` and `-` over operands.
unfoldable pub sum_of : Tree → Option Reading
sum_of (tree.Expression e) = sum_of_expression e
sum_of _ = None
