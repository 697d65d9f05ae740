-- How the readers of variables and of the expressions of statements go on, step by step, in the words of the parser's contracts.
use Rattle.std.proofs.Common.{◌≡◌, ℕ, ◌-◌, ◌<◌, Bool, true, false, if◌then◌else◌, List, [], ◌∷◌, Some, None, length, drop, get_or, refl, ap, ◌∙◌, arith}
use Rattle.jsh_tree.specs.declared.token.Token.{Token}
use Rattle.jsh_tree.specs.declared.expression.Identifier.{Identifier}
use Rattle.jsh_tree.specs.declared.expression.TypeUse.{TypeUse}
use Rattle.jsh_tree.specs.declared.expression.Expr.{Expr}
use Rattle.jsh_tree.specs.declared.expression.PathPart.{PathPart}
use Rattle.jsh_tree.specs.declared.expression.Initial.TheVariants as initial
use Rattle.jsh_tree.specs.declared.statement.Variable.{Variable}
use Rattle.jsh_tree.specs.declared.statement.ForStart.TheVariants as start
use Rattle.jsh_parse.specs.Leaves.{identifier_of}
use Rattle.jsh_parse.specs.Marks.{is_left_paren, is_right_paren, is_identifier}
use Rattle.jsh_parse.specs.Forms.{is_semicolon, is_assign, is_var}
use Rattle.jsh_parse.specs.Statements.{first_span, is_statement, ends_in_call}
use Rattle.jsh_parse.specs.Reader.{Read, and_then, accept, sees, type_read}
use Rattle.jsh_parse.specs.Reading.{name_read, expr_at, initial_at}
use Rattle.jsh_parse.specs.StatementReader.{final_read, begins_local}
use Rattle.jsh_parse.specs.StatementReading.{variable_at, inferred_at, optional_at, update_at, start_at, condition_at, element_type}
use Rattle.jsh_parse.proofs.Types.{at_last, at_only}
use Rattle.jsh_parse.proofs.Onward.{inner_expr, same}

-- what a statement's expression ends in

pub call_is_last : (parts : List PathPart) (last : PathPart) → 0 < length parts → last ≡ get_or parts (length parts - 1) last →
    ends_in_call (last ∷ []) ≡ ends_in_call parts
call_is_last [] last h e = absurd (omega arith)
call_is_last (p ∷ []) last h e = ap (λ d. ends_in_call (d ∷ [])) (e ∙ at_only p last)
call_is_last (p ∷ q ∷ parts) last h e = call_is_last (q ∷ parts) last (omega arith) (e ∙ at_last p q parts last)

-- variables

named : {B : Type 0} (text : List ℕ) (ts : List Token) (f : Identifier → List Token → Read B) →
    and_then (accept is_identifier ts) (λ n rest. f (identifier_of text n) rest) ≡ and_then (name_read text ts) f
named text ts f = at (accept is_identifier ts)
  where
    at : (found : Read Token) → and_then found (λ n rest. f (identifier_of text n) rest)
        ≡ and_then (and_then found (λ n rest. Some (identifier_of text n, rest))) f
    at None = refl
    at (Some found) = refl

-- a variable with this type and name, from behind them
abbrev pub declared : List ℕ → ℕ → TypeUse → Identifier → List Token → Read Variable
declared text room written n behind =
    if sees is_assign behind
    then and_then (initial_at text room (drop 1 behind)) (λ value end. Some (record { written = Some written; name = n; initial = Some value }, end))
    else Some (record { written = Some written; name = n; initial = None }, behind)

-- the same, where the sign is taken like any token
abbrev signed : List ℕ → ℕ → TypeUse → Identifier → List Token → Read Variable
signed text room written n behind =
    if sees is_assign behind
    then and_then (accept is_assign behind) (λ a more. and_then (initial_at text room more)
    (λ value end. Some (record { written = Some written; name = n; initial = Some value }, end)))
    else Some (record { written = Some written; name = n; initial = None }, behind)

module _ (text : List ℕ) (room : ℕ) where
  valued : (written : TypeUse) (n : Identifier) (behind : List Token) → signed text room written n behind ≡ declared text room written n behind
  valued written n [] = refl
  valued written n (t ∷ ts) = at (is_assign t.kind) refl
    where
      at : (b : Bool) → is_assign t.kind ≡ b → signed text room written n (t ∷ ts) ≡ declared text room written n (t ∷ ts)
      at true h = rw h
      at false h = rw h

  pub variable_inferred : (ts : List Token) → sees is_var ts ≡ true → variable_at text room ts ≡ inferred_at text room (drop 1 ts)
  unfolding variable_at inferred_at
  variable_inferred [] h = cc
  variable_inferred (t ∷ ts) h =
      rw h (same (accept is_identifier ts) _ _ (λ n rest. same (accept is_assign rest) _ _ (λ a behind. rw (inner_expr text room behind))) ∙
      named text ts (λ n rest. and_then (accept is_assign rest) (λ a behind. and_then (expr_at text room behind)
      (λ e end. Some (record { written = None; name = n; initial = Some (initial.Value e) }, end)))))

  pub variable_typed : (ts : List Token) → sees is_var ts ≡ false →
      variable_at text room ts ≡ and_then (type_read text ts) (λ written rest. and_then (name_read text rest) (declared text room written))
  unfolding variable_at initial_at
  variable_typed [] h = refl
  variable_typed (t ∷ ts) h = rw h (same (type_read text (t ∷ ts)) _ _ (λ written rest.
      same (accept is_identifier rest) _ _ (λ n behind. valued written (identifier_of text n) behind) ∙
      named text rest (declared text room written)))

-- the expressions of statements

module _ (text : List ℕ) (room : ℕ) (ts : List Token) where
  pub optional_absent : sees is_semicolon ts ≡ true → optional_at text room ts ≡ Some (None, ts)
  unfolding optional_at
  optional_absent h = rw h

  pub optional_there : sees is_semicolon ts ≡ false → optional_at text room ts ≡ and_then (expr_at text room ts) (λ e rest. Some (Some e, rest))
  unfolding optional_at
  optional_there h = rw (h, inner_expr text room ts)

  pub update_absent : sees is_right_paren ts ≡ true → update_at text room ts ≡ Some (None, ts)
  unfolding update_at
  update_absent h = rw h

  pub update_there : sees is_right_paren ts ≡ false →
      update_at text room ts ≡ and_then (expr_at text room ts) (λ e rest. if is_statement e then Some (Some e, rest) else None)
  unfolding update_at
  update_there h = rw (h, inner_expr text room ts)

  pub update_unfit : (e : Expr) (rest : List Token) → sees is_right_paren ts ≡ false → expr_at text room ts ≡ Some (e, rest) → is_statement e ≡ false →
      update_at text room ts ≡ None
  update_unfit e rest h k l = update_there h ∙ rw (k, l) refl

  pub update_fit : (e : Expr) (rest : List Token) → sees is_right_paren ts ≡ false → expr_at text room ts ≡ Some (e, rest) → is_statement e ≡ true →
      update_at text room ts ≡ Some (Some e, rest)
  update_fit e rest h k l = update_there h ∙ rw (k, l) refl

  pub start_absent : sees is_semicolon ts ≡ true → start_at text room ts ≡ Some (start.Nothing, ts)
  unfolding start_at
  start_absent h = rw h

  pub start_local : sees is_semicolon ts ≡ false → begins_local ts ≡ true →
      start_at text room ts ≡ and_then (variable_at text room (final_read ts).1) (λ v rest. Some (start.Local (first_span ts) (final_read ts).0 v, rest))
  unfolding start_at variable_at
  start_local h k = rw (h, k)

  pub start_there : sees is_semicolon ts ≡ false → begins_local ts ≡ false →
      start_at text room ts ≡ and_then (expr_at text room ts) (λ e rest. if is_statement e then Some (start.Expression e, rest) else None)
  unfolding start_at
  start_there h k = rw (h, k, inner_expr text room ts)

  pub start_unfit : (e : Expr) (rest : List Token) → sees is_semicolon ts ≡ false → begins_local ts ≡ false →
      expr_at text room ts ≡ Some (e, rest) → is_statement e ≡ false → start_at text room ts ≡ None
  start_unfit e rest h k l m = start_there h k ∙ rw (l, m) refl

  pub start_fit : (e : Expr) (rest : List Token) → sees is_semicolon ts ≡ false → begins_local ts ≡ false →
      expr_at text room ts ≡ Some (e, rest) → is_statement e ≡ true → start_at text room ts ≡ Some (start.Expression e, rest)
  start_fit e rest h k l m = start_there h k ∙ rw (l, m) refl

  pub condition_by : condition_at text room ts ≡ and_then (accept is_left_paren ts) (λ t rest. and_then (expr_at text room rest)
      (λ e behind. and_then (accept is_right_paren behind) (λ u end. Some (e, end))))
  unfolding condition_at
  condition_by = same (accept is_left_paren ts) _ _ (λ t rest. rw (inner_expr text room rest))

-- the type of a variable that goes over elements

pub element_inferred : (text : List ℕ) (ts : List Token) → sees is_var ts ≡ true → element_type text ts ≡ Some (None, drop 1 ts)
element_inferred text [] h = cc
element_inferred text (t ∷ ts) h = rw h
