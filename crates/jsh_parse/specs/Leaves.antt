-- What a single token, or a type, spells, and what the trees of expressions are asked.
use Rattle.std.specs.Prelude.{◌≡◌, ℕ, zero, suc, Bool, true, false, List, [], ◌∷◌, Option, Some, None, option_map, slice_range, ◌==◌, length}
use Rattle.std.specs.Str.{chars}
use Rattle.jsh_tree.specs.declared.token.Token.{Token}
use Rattle.jsh_tree.specs.declared.token.TokenKind.{TokenKind}
use Rattle.jsh_tree.specs.declared.token.TokenKind.TheVariants as token
use Rattle.jsh_tree.specs.declared.expression.Identifier.{Identifier}
use Rattle.jsh_tree.specs.declared.expression.TypeUse.{TypeUse}
use Rattle.jsh_tree.specs.declared.expression.Literal.{Literal}
use Rattle.jsh_tree.specs.declared.expression.Literal.TheVariants as literal
use Rattle.jsh_tree.specs.declared.expression.UnaryOperator.{UnaryOperator}
use Rattle.jsh_tree.specs.declared.expression.UnaryOperator.TheVariants as unary
use Rattle.jsh_tree.specs.declared.expression.Expr.{Expr, out-Expr}
use Rattle.jsh_tree.specs.declared.expression.Expr.TheOpen.{Expr-F, PathPart-F}
use Rattle.jsh_tree.specs.declared.expression.PathPart.{PathPart, out-PathPart}
use Rattle.jsh_tree.specs.declared.expression.Operation.{Operation}
use Rattle.jsh_tree.specs.declared.expression.Initial.{Initial}
use Rattle.jsh_lex.specs.Value.{int_value, long_value, char_value, string_value, needs_minus}

-- one level of an expression, and of what may stand behind one
abbrev pub Layer : Type 0
Layer = Expr-F Expr Initial Operation PathPart

abbrev pub PartLayer : Type 0
PartLayer = PathPart-F Expr Initial Operation PathPart

-- the bytes of a token
abbrev pub spelling : List ℕ → Token → List ℕ
spelling text t = slice_range text t.span.from t.span.to

-- the value of a token that is a literal (JLS 15.8.1)
abbrev pub value_of_kind : TokenKind → List ℕ → Option Literal
value_of_kind token.IntLiteral bytes = option_map (λ v. literal.Int v (needs_minus bytes)) (int_value bytes)
value_of_kind token.LongLiteral bytes = option_map (λ v. literal.Long v (needs_minus bytes)) (long_value bytes)
value_of_kind token.CharLiteral bytes = option_map (λ u. literal.Char u) (char_value (chars bytes))
value_of_kind token.StringLiteral bytes = option_map (λ us. literal.Text us) (string_value (chars bytes))
value_of_kind token.True bytes = Some (literal.Boolean true)
value_of_kind token.False bytes = Some (literal.Boolean false)
value_of_kind token.Null bytes = Some literal.Null
value_of_kind _ bytes = None

abbrev pub literal_of : List ℕ → Token → Option Literal
literal_of text t = value_of_kind t.kind (spelling text t)

-- the name that a token is
abbrev pub identifier_of : List ℕ → Token → Identifier
identifier_of text t = record { name = spelling text t; span = t.span }

-- the words of the primitive types (JLS 4.2)
abbrev pub is_primitive : TokenKind → Bool
is_primitive token.Int = true
is_primitive token.Long = true
is_primitive token.Char = true
is_primitive token.Boolean = true
is_primitive _ = false

-- what the name of a type may be: the word of a primitive one, or an identifier
abbrev pub names_type : TokenKind → Bool
names_type token.Int = true
names_type token.Long = true
names_type token.Char = true
names_type token.Boolean = true
names_type token.Identifier = true
names_type _ = false

-- a type with this name and so many pairs of brackets
abbrev pub type_of : List ℕ → Token → ℕ → TypeUse
type_of text t dims = record { written = record { name = spelling text t; dims = dims }; span = t.span }

-- so many empty pairs of brackets
pub data AreBrackets : List Token → ℕ → Type 0 where
  none : AreBrackets [] zero
  one_more : {b : List Token} {n : ℕ} (t u : Token) → t.kind ≡ token.LeftBracket → u.kind ≡ token.RightBracket → AreBrackets b n →
      AreBrackets (t ∷ u ∷ b) (suc n)

-- the tokens begin with a sign, or with ++ or --
abbrev pub begins_with_sign : List Token → Bool
begins_with_sign [] = false
begins_with_sign (t ∷ ts) = is_sign t.kind
  where
    is_sign : TokenKind → Bool
    is_sign token.Plus = true
    is_sign token.Minus = true
    is_sign token.PlusPlus = true
    is_sign token.MinusMinus = true
    is_sign _ = false

-- an operator that changes its operand
abbrev pub is_step : UnaryOperator → Bool
is_step unary.Increment = true
is_step unary.Decrement = true
is_step _ = false

-- a run of members and indices ends in a field or an element
abbrev pub ends_in_place : List PathPart → Bool
ends_in_place [] = false
ends_in_place (part ∷ []) = is_place (out-PathPart part)
  where
    is_place : PartLayer → Bool
    is_place (PathPart-F.Field name) = true
    is_place (PathPart-F.Index index) = true
    is_place _ = false
ends_in_place (part ∷ more ∷ parts) = ends_in_place (more ∷ parts)

-- a name, a field or an element, which may be assigned to (JLS 15.26)
abbrev pub is_target : Expr → Bool
is_target tree = is_target_layer (out-Expr tree)
  where
    is_target_layer : Layer → Bool
    is_target_layer (Expr-F.Name name) = true
    is_target_layer (Expr-F.Path first parts) = ends_in_place parts
    is_target_layer _ = false

-- The creation of an array whose last brackets have a size in them. It takes all brackets that it can (JLS 15.10.1).
abbrev pub is_open_creation : Expr → Bool
is_open_creation tree = is_open_layer (out-Expr tree)
  where
    is_open_layer : Layer → Bool
    is_open_layer (Expr-F.NewArray span created sizes) = length sizes == created.written.dims
    is_open_layer _ = false

abbrev pub begins_with_index : List PathPart → Bool
begins_with_index [] = false
begins_with_index (part ∷ parts) = is_index (out-PathPart part)
  where
    is_index : PartLayer → Bool
    is_index (PathPart-F.Index index) = true
    is_index _ = false
