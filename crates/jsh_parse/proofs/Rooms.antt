-- The steps of the readers that need room, by how much room there is.
use Rattle.std.proofs.Common.{◌≡◌, ℕ, zero, suc, true, false, not, ◌&&◌, List, [], ◌∷◌, Option, Some, None, drop, sym, ap, subst, ◌∙◌}
use Rattle.jsh_tree.specs.declared.token.Token.{Token}
use Rattle.jsh_tree.specs.declared.expression.BinaryOperator.{BinaryOperator}
use Rattle.jsh_tree.specs.declared.expression.UnaryOperator.{UnaryOperator}
use Rattle.jsh_tree.specs.declared.expression.Expr.{Expr}
use Rattle.jsh_tree.specs.declared.expression.Expr.TheVariants as tree
use Rattle.jsh_tree.specs.declared.expression.PathPart.TheVariants as part
use Rattle.jsh_parse.specs.Operators.{unary_operator}
use Rattle.jsh_parse.specs.Leaves.{is_target}
use Rattle.jsh_parse.specs.Marks.{is_left_paren, is_right_paren, is_left_bracket, is_left_brace, is_right_brace, is_dot, is_colon}
use Rattle.jsh_parse.specs.Reader as reader
use Rattle.jsh_parse.specs.Reader.{Read, and_then, accept, sees, sees_brackets, type_read}
use Rattle.jsh_parse.specs.Reading.{expr_at, conditional_at, unary_at, arguments_at, braces_at, bracketed_at, listed_at, initials_at, part_at, size_at, assignment_at, branches_at, cast_at, enclosed_at, applied}
use Rattle.jsh_parse.proofs.Onward as onward

module _ (text : List ℕ) (room : ℕ) (ts : List Token) where
  pub expr_flat : (e : Expr) (rest : List Token) (op : Option BinaryOperator) → room ≡ zero →
      conditional_at text room ts ≡ Some (e, rest) → assignment_at rest ≡ Some op → is_target e ≡ true → expr_at text room ts ≡ None
  expr_flat e rest op z = subst (λ n. conditional_at text n ts ≡ Some (e, rest) → assignment_at rest ≡ Some op → is_target e ≡ true → expr_at text n ts ≡ None)
      (sym z) (onward.expr_flat text ts e rest op)

  pub expr_assigns : (r : ℕ) (e : Expr) (rest : List Token) (op : Option BinaryOperator) → room ≡ suc r →
      conditional_at text room ts ≡ Some (e, rest) → assignment_at rest ≡ Some op → is_target e ≡ true →
      expr_at text room ts ≡ and_then (expr_at text r (drop 1 rest)) (λ value end. Some (tree.Assign e op value, end))
  expr_assigns r e rest op z = subst (λ n. conditional_at text n ts ≡ Some (e, rest) → assignment_at rest ≡ Some op → is_target e ≡ true →
      expr_at text n ts ≡ and_then (expr_at text r (drop 1 rest)) (λ value end. Some (tree.Assign e op value, end)))
      (sym z) (onward.expr_assigns text r ts e rest op)

  pub branches_flat : room ≡ zero → branches_at text room ts ≡ None
  branches_flat z = ap (λ n. branches_at text n ts) z ∙ onward.branches_flat text ts

  pub branches_by : (r : ℕ) → room ≡ suc r → branches_at text room ts ≡ and_then (expr_at text r ts) (λ first rest. and_then (accept is_colon rest)
      (λ u behind. and_then (conditional_at text r behind) (λ second end. Some ((first, second), end))))
  branches_by r z = ap (λ n. branches_at text n ts) z ∙ onward.branches_by text r ts

  pub arguments_flat : (t : Token) (rest : List Token) → room ≡ zero → accept is_left_paren ts ≡ Some (t, rest) → arguments_at text room ts ≡ None
  arguments_flat t rest z h = ap (λ n. arguments_at text n ts) z ∙ onward.arguments_flat text ts t rest h

  pub arguments_open : (r : ℕ) (t : Token) → room ≡ suc r → accept is_left_paren ts ≡ Some (t, []) → arguments_at text room ts ≡ None
  arguments_open r t z h = ap (λ n. arguments_at text n ts) z ∙ onward.arguments_open text ts r t h

  pub arguments_empty : (r : ℕ) (t u : Token) (rest : List Token) → room ≡ suc r → accept is_left_paren ts ≡ Some (t, u ∷ rest) → is_right_paren u.kind ≡ true →
      arguments_at text room ts ≡ Some ([], rest)
  arguments_empty r t u rest z h k = ap (λ n. arguments_at text n ts) z ∙ onward.arguments_empty text ts r t u rest h k

  pub arguments_listed : (r : ℕ) (t u : Token) (rest : List Token) → room ≡ suc r → accept is_left_paren ts ≡ Some (t, u ∷ rest) → is_right_paren u.kind ≡ false →
      arguments_at text room ts ≡ and_then (listed_at text r (u ∷ rest)) (λ es more. and_then (accept is_right_paren more) (λ v behind. Some (es, behind)))
  arguments_listed r t u rest z h k = ap (λ n. arguments_at text n ts) z ∙ onward.arguments_listed text ts r t u rest h k

  pub size_flat : (t : Token) (rest : List Token) → room ≡ zero → sees is_left_bracket ts && not (sees_brackets ts) ≡ true → accept is_left_bracket ts ≡ Some (t, rest) →
      size_at text room ts ≡ None
  size_flat t rest z h k = ap (λ n. size_at text n ts) z ∙ onward.size_flat text ts t rest h k

  pub size_by : (r : ℕ) (t : Token) (rest : List Token) → room ≡ suc r → sees is_left_bracket ts && not (sees_brackets ts) ≡ true → accept is_left_bracket ts ≡ Some (t, rest) →
      size_at text room ts ≡ and_then (bracketed_at text r rest) (λ e behind. Some (Some e, behind))
  size_by r t rest z h k = ap (λ n. size_at text n ts) z ∙ onward.size_by text ts t rest r h k

  pub braces_flat : (t : Token) (rest : List Token) → room ≡ zero → accept is_left_brace ts ≡ Some (t, rest) → braces_at text room ts ≡ None
  braces_flat t rest z h = ap (λ n. braces_at text n ts) z ∙ onward.braces_flat text ts t rest h

  pub braces_empty : (r : ℕ) (t u : Token) (rest : List Token) → room ≡ suc r → accept is_left_brace ts ≡ Some (t, u ∷ rest) → is_right_brace u.kind ≡ true →
      braces_at text room ts ≡ Some ([], rest)
  braces_empty r t u rest z h k = ap (λ n. braces_at text n ts) z ∙ onward.braces_empty text ts r t u rest h k

  pub braces_values : (r : ℕ) (t : Token) (rest : List Token) → room ≡ suc r → accept is_left_brace ts ≡ Some (t, rest) → sees is_right_brace rest ≡ false →
      braces_at text room ts ≡ initials_at text r rest
  braces_values r t rest z h k = ap (λ n. braces_at text n ts) z ∙ onward.braces_values text ts r t rest h k

module _ (text : List ℕ) (room : ℕ) (t : Token) (ts : List Token) where
  pub unary_flat : (op : UnaryOperator) → room ≡ zero → unary_operator t.kind ≡ Some op → unary_at text room (t ∷ ts) ≡ None
  unary_flat op z h = ap (λ n. unary_at text n (t ∷ ts)) z ∙ onward.unary_flat text t ts op h

  pub unary_prefixed : (r : ℕ) (op : UnaryOperator) → room ≡ suc r → unary_operator t.kind ≡ Some op →
      unary_at text room (t ∷ ts) ≡ and_then (unary_at text r ts) (applied t op)
  unary_prefixed r op z h = ap (λ n. unary_at text n (t ∷ ts)) z ∙ onward.unary_prefixed text t ts r op h

  pub cast_flat : room ≡ zero → cast_at text room t ts ≡ None
  cast_flat z = ap (λ n. cast_at text n t ts) z ∙ onward.casts_flat text t ts

  pub cast_by : (r : ℕ) → room ≡ suc r → cast_at text room t ts ≡ and_then (type_read text ts) (λ target rest. and_then (accept is_right_paren rest)
      (λ u behind. and_then (unary_at text r behind) (λ e end. Some (tree.Cast t.span target e, end))))
  cast_by r z = ap (λ n. cast_at text n t ts) z ∙ onward.cast_by text r t ts

  pub enclosed_flat : room ≡ zero → enclosed_at text room t ts ≡ None
  enclosed_flat z = ap (λ n. enclosed_at text n t ts) z ∙ onward.enclosed_flat text t ts

  pub enclosed_by : (r : ℕ) → room ≡ suc r →
      enclosed_at text room t ts ≡ and_then (expr_at text r ts) (λ e rest. and_then (accept is_right_paren rest) (λ u behind. Some (tree.Parenthesized t.span e, behind)))
  enclosed_by r z = ap (λ n. enclosed_at text n t ts) z ∙ onward.enclosed_by text r t ts

  pub part_flat : room ≡ zero → is_dot t.kind ≡ false → is_left_bracket t.kind ≡ true → part_at text room (t ∷ ts) ≡ None
  part_flat z h k = ap (λ n. part_at text n (t ∷ ts)) z ∙ onward.part_flat text t ts h k

  pub part_index : (r : ℕ) → room ≡ suc r → is_dot t.kind ≡ false → is_left_bracket t.kind ≡ true →
      part_at text room (t ∷ ts) ≡ and_then (bracketed_at text r ts) (λ e behind. Some (Some (part.Index e), behind))
  part_index r z h k = ap (λ n. part_at text n (t ∷ ts)) z ∙ onward.part_index text r t ts h k
