-- How the readers of labels and of simple statements go on, step by step, in the words of the parser's contracts.
use Rattle.std.proofs.Common.{◌≡◌, ℕ, zero, suc, Bool, true, false, if◌then◌else◌, List, [], ◌∷◌, ◌++◌, Option, Some, None, length, refl, sym, ap, ◌∙◌}
use Rattle.jsh_tree.specs.declared.token.Token.{Token}
use Rattle.jsh_tree.specs.declared.expression.Literal.{Literal}
use Rattle.jsh_tree.specs.declared.expression.Expr.{Expr}
use Rattle.jsh_tree.specs.declared.statement.Stmt.TheVariants as statement
use Rattle.jsh_tree.specs.declared.statement.SwitchLabel.{SwitchLabel}
use Rattle.jsh_tree.specs.declared.statement.SwitchLabel.TheVariants as label
use Rattle.jsh_parse.specs.Leaves.{literal_of}
use Rattle.jsh_parse.specs.Marks.{is_colon}
use Rattle.jsh_parse.specs.Forms.{is_semicolon, is_case, is_default, is_minus, is_case_value, begins_label}
use Rattle.jsh_parse.specs.Statements.{is_statement}
use Rattle.jsh_parse.specs.Reader.{Read, and_then, accept, sees}
use Rattle.jsh_parse.specs.Reading.{expr_at}
use Rattle.jsh_parse.specs.StatementReader.{labels_read}
use Rattle.jsh_parse.specs.StatementReading.{labels_at, label_at, case_at, case_of, expression_at}
use Rattle.jsh_parse.proofs.Onward.{prepend, prepend_none, prepend_one, inner_expr}

-- labels

module _ (text : List ℕ) (ts : List Token) where
  pub label_nowhere : ts ≡ [] → label_at text ts ≡ None
  unfolding label_at
  label_nowhere e = rw e

  pub label_default : (rest : List Token) (t : Token) → ts ≡ t ∷ rest → is_default t.kind ≡ true →
      label_at text ts ≡ and_then (accept is_colon rest) (λ u end. Some (label.Default t.span, end))
  unfolding label_at
  label_default rest t e h = rw (e, h)

  pub label_wrong : (rest : List Token) (t : Token) → ts ≡ t ∷ rest → is_default t.kind ≡ false → is_case t.kind ≡ false → label_at text ts ≡ None
  unfolding label_at
  label_wrong rest t e h k = rw (e, h, k)

  pub label_case : (rest : List Token) (t : Token) → ts ≡ t ∷ rest → is_default t.kind ≡ false → is_case t.kind ≡ true →
      label_at text ts ≡ case_at text rest
  unfolding label_at case_at
  label_case rest t e h k = ap (label_at text) e ∙ at_sign (sees is_minus rest) refl
    where
      at_signed_literal : (m l : Token) (more behind : List Token) (found : Option Literal) → sees is_minus rest ≡ true →
          accept is_minus rest ≡ Some (m, more) →
          accept is_case_value more ≡ Some (l, behind) → literal_of text l ≡ found → label_at text (t ∷ rest) ≡ case_at text rest
      at_signed_literal m l more behind None n o p q = rw (h, k, n, o, p, q)
      at_signed_literal m l more behind (Some value) n o p q = rw (h, k, n, o, p, q)

      at_signed_value : (m : Token) (more : List Token) (found : Read Token) → sees is_minus rest ≡ true →
          accept is_minus rest ≡ Some (m, more) →
          accept is_case_value more ≡ found → label_at text (t ∷ rest) ≡ case_at text rest
      at_signed_value m more None n o p = rw (h, k, n, o, p)
      at_signed_value m more (Some (l, behind)) n o p = at_signed_literal m l more behind (literal_of text l) n o p refl

      at_minus : (found : Read Token) → sees is_minus rest ≡ true → accept is_minus rest ≡ found → label_at text (t ∷ rest) ≡ case_at text rest
      at_minus None n o = rw (h, k, n, o)
      at_minus (Some (m, more)) n o = at_signed_value m more (accept is_case_value more) n o refl

      at_literal : (l : Token) (behind : List Token) (found : Option Literal) → sees is_minus rest ≡ false →
          accept is_case_value rest ≡ Some (l, behind) →
          literal_of text l ≡ found → label_at text (t ∷ rest) ≡ case_at text rest
      at_literal l behind None n p q = rw (h, k, n, p, q)
      at_literal l behind (Some value) n p q = rw (h, k, n, p, q)

      at_value : (found : Read Token) → sees is_minus rest ≡ false → accept is_case_value rest ≡ found → label_at text (t ∷ rest) ≡ case_at text rest
      at_value None n p = rw (h, k, n, p)
      at_value (Some (l, behind)) n p = at_literal l behind (literal_of text l) n p refl

      at_sign : (b : Bool) → sees is_minus rest ≡ b → label_at text (t ∷ rest) ≡ case_at text rest
      at_sign true n = at_minus (accept is_minus rest) n refl
      at_sign false n = at_value (accept is_case_value rest) n refl

  pub case_signed : sees is_minus ts ≡ true → case_at text ts ≡ and_then (accept is_minus ts) (λ m rest.
      and_then (accept is_case_value rest) (λ l behind. case_of text true m l behind))
  unfolding case_at
  case_signed h = rw h

  pub case_plain : sees is_minus ts ≡ false → case_at text ts ≡ and_then (accept is_case_value ts) (λ l behind. case_of text false l l behind)
  unfolding case_at
  case_plain h = rw h

pub labels_by : (text : List ℕ) (ts : List Token) → labels_at text ts ≡ prepend [] (labels_read (suc (length ts)) text ts)
unfolding labels_at
labels_by text ts = sym (prepend_none (labels_read (suc (length ts)) text ts))

pub labels_zero : (text : List ℕ) (ts : List Token) → labels_read zero text ts ≡ None
unfolding labels_read
labels_zero text ts = refl

module _ (text : List ℕ) (items : List SwitchLabel) (most : ℕ) (ts : List Token) where
  pub labels_fail : label_at text ts ≡ None → prepend items (labels_read (suc most) text ts) ≡ None
  unfolding labels_read label_at
  labels_fail h = rw h

  pub labels_stay : (l : SwitchLabel) (rest : List Token) → label_at text ts ≡ Some (l, rest) → sees begins_label rest ≡ false →
      prepend items (labels_read (suc most) text ts) ≡ Some (items ++ l ∷ [], rest)
  unfolding labels_read label_at
  labels_stay l rest h k = rw (h, k)

  pub labels_more : (l : SwitchLabel) (rest : List Token) → label_at text ts ≡ Some (l, rest) → sees begins_label rest ≡ true →
      prepend items (labels_read (suc most) text ts) ≡ prepend (items ++ l ∷ []) (labels_read most text rest)
  unfolding labels_read label_at
  labels_more l rest h k = rw (h, k) (prepend_one items l (labels_read most text rest))

-- an expression with its semicolon

module _ (text : List ℕ) (room : ℕ) (ts : List Token) where
  pub expression_by : expression_at text room ts ≡ and_then (expr_at text room ts)
      (λ e rest. if is_statement e then and_then (accept is_semicolon rest) (λ u end. Some (statement.Expression e, end)) else None)
  unfolding expression_at
  expression_by = rw (inner_expr text room ts)

  pub expression_unfit : (e : Expr) (rest : List Token) → expr_at text room ts ≡ Some (e, rest) → is_statement e ≡ false → expression_at text room ts ≡ None
  expression_unfit e rest h k = expression_by ∙ rw (h, k) refl

  pub expression_fit : (e : Expr) (rest : List Token) → expr_at text room ts ≡ Some (e, rest) → is_statement e ≡ true →
      expression_at text room ts ≡ and_then (accept is_semicolon rest) (λ u end. Some (statement.Expression e, end))
  expression_fit e rest h k = expression_by ∙ rw (h, k) refl
