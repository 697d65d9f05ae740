-- How the readers go on, step by step, in the words of the parser's contracts.
use Rattle.std.proofs.Common.{◌≡◌, ℕ, zero, suc, ◌+◌, ◌-◌, ◌==◌, Bool, true, false, not, ◌&&◌, if◌then◌else◌, List, [], ◌∷◌, ◌++◌, Option, Some, None, length, drop, refl, sym, ap, ◌∙◌, append_assoc}
use Rattle.jsh_tree.specs.declared.token.Token.{Token}
use Rattle.jsh_tree.specs.declared.expression.BinaryOperator.{BinaryOperator}
use Rattle.jsh_tree.specs.declared.expression.UnaryOperator.{UnaryOperator}
use Rattle.jsh_tree.specs.declared.expression.PostfixOperator.{PostfixOperator}
use Rattle.jsh_tree.specs.declared.expression.Literal.{Literal}
use Rattle.jsh_tree.specs.declared.expression.Identifier.{Identifier}
use Rattle.jsh_tree.specs.declared.expression.Expr.{Expr}
use Rattle.jsh_tree.specs.declared.expression.Expr.TheVariants as tree
use Rattle.jsh_tree.specs.declared.expression.Operation.TheVariants as operation
use Rattle.jsh_tree.specs.declared.expression.PathPart.{PathPart}
use Rattle.jsh_tree.specs.declared.expression.PathPart.TheVariants as part
use Rattle.jsh_tree.specs.declared.expression.Initial.{Initial}
use Rattle.jsh_tree.specs.declared.expression.Initial.TheVariants as initial
use Rattle.jsh_parse.specs.Operators.{binary_operator, level_of, comparison_level, unary_operator, postfix_operator}
use Rattle.jsh_parse.specs.Leaves.{literal_of, identifier_of, names_type, type_of, is_target}
use Rattle.jsh_parse.specs.Marks.{is_left_paren, is_right_paren, is_left_bracket, is_right_bracket, is_left_brace, is_right_brace, is_dot, is_comma, is_question, is_colon, is_identifier, is_instanceof, is_this, is_super, is_new}
use Rattle.jsh_parse.specs.Reader as reader
use Rattle.jsh_parse.specs.Reader.{Read, and_then, accept, sees, sees_brackets, brackets, type_read, is_cast, readers, level_read, operations, parts, sizes, listed, initials}
use Rattle.jsh_parse.specs.Reading.{below, name_read, expr_at, conditional_at, level_at, unary_at, path_at, primary_at, creation_at, arguments_at, sizes_at, braces_at, bracketed_at, listed_at, initials_at, initial_at, named_at, through_super_at, part_at, parts_at, size_at, operation_at, operations_at, operator_at, assignment_at, branches_at, cast_at, enclosed_at, filled_at, behind_value, applied, stepped, with_sizes}

-- the readers of what stands one deeper

pub inner_expr : (text : List ℕ) (r : ℕ) (ts : List Token) → (readers text r).expr ts ≡ expr_at text r ts
unfolding readers expr_at
inner_expr text zero ts = refl
inner_expr text (suc r) ts = refl

pub inner_conditional : (text : List ℕ) (r : ℕ) (ts : List Token) → (readers text r).conditional ts ≡ conditional_at text r ts
unfolding readers conditional_at
inner_conditional text zero ts = refl
inner_conditional text (suc r) ts = refl

pub inner_unary : (text : List ℕ) (r : ℕ) (ts : List Token) → (readers text r).unary ts ≡ unary_at text r ts
unfolding readers unary_at
inner_unary text zero ts = refl
inner_unary text (suc r) ts = refl

pub inner_braces : (text : List ℕ) (r : ℕ) (ts : List Token) → (readers text r).braces ts ≡ braces_at text r ts
unfolding readers braces_at
inner_braces text zero ts = refl
inner_braces text (suc r) ts = refl

-- expressions

module _ (text : List ℕ) (room : ℕ) (ts : List Token) where
  pub expr_fails : conditional_at text room ts ≡ None → expr_at text room ts ≡ None
  unfolding expr_at conditional_at
  expr_fails h = rw h

  pub expr_stays : (e : Expr) (rest : List Token) → conditional_at text room ts ≡ Some (e, rest) → assignment_at rest ≡ None →
      expr_at text room ts ≡ Some (e, rest)
  unfolding expr_at conditional_at
  expr_stays e [] h k = rw h
  expr_stays e (t ∷ rest) h k = rw (h, k)

  pub expr_unfit : (e : Expr) (rest : List Token) (op : Option BinaryOperator) → conditional_at text room ts ≡ Some (e, rest) →
      assignment_at rest ≡ Some op → is_target e ≡ false → expr_at text room ts ≡ None
  unfolding expr_at conditional_at
  expr_unfit e [] op h k l = cc
  expr_unfit e (t ∷ rest) op h k l = rw (h, k, l)

pub expr_flat : (text : List ℕ) (ts : List Token) (e : Expr) (rest : List Token) (op : Option BinaryOperator) →
    conditional_at text zero ts ≡ Some (e, rest) → assignment_at rest ≡ Some op → is_target e ≡ true → expr_at text zero ts ≡ None
unfolding expr_at conditional_at
expr_flat text ts e [] op h k l = cc
expr_flat text ts e (t ∷ rest) op h k l = rw (h, k, l)

pub expr_assigns : (text : List ℕ) (r : ℕ) (ts : List Token) (e : Expr) (rest : List Token) (op : Option BinaryOperator) →
    conditional_at text (suc r) ts ≡ Some (e, rest) → assignment_at rest ≡ Some op → is_target e ≡ true →
    expr_at text (suc r) ts ≡ and_then (expr_at text r (drop 1 rest)) (λ value end. Some (tree.Assign e op value, end))
unfolding expr_at conditional_at
expr_assigns text r ts e [] op h k l = cc
expr_assigns text r ts e (t ∷ rest) op h k l = rw (h, k, l, inner_expr text r rest)

-- conditionals

module _ (text : List ℕ) (room : ℕ) (ts : List Token) where
  pub conditional_fails : level_at text room 10 ts ≡ None → conditional_at text room ts ≡ None
  unfolding conditional_at level_at
  conditional_fails h = rw h

  pub conditional_stays : (e : Expr) (rest : List Token) → level_at text room 10 ts ≡ Some (e, rest) → sees is_question rest ≡ false →
      conditional_at text room ts ≡ Some (e, rest)
  unfolding conditional_at level_at
  conditional_stays e [] h k = rw h
  conditional_stays e (t ∷ rest) h k = rw (h, k)

chooses_flat : (text : List ℕ) (ts : List Token) (e : Expr) (rest : List Token) → level_at text zero 10 ts ≡ Some (e, rest) →
    sees is_question rest ≡ true → conditional_at text zero ts ≡ None
unfolding conditional_at level_at
chooses_flat text ts e [] h k = cc
chooses_flat text ts e (t ∷ rest) h k = rw (h, k)

chooses : (text : List ℕ) (r : ℕ) (ts : List Token) (e : Expr) (rest : List Token) →
    level_at text (suc r) 10 ts ≡ Some (e, rest) → sees is_question rest ≡ true →
    conditional_at text (suc r) ts ≡ and_then ((readers text r).expr (drop 1 rest)) (λ yes rest. and_then (accept is_colon rest)
    (λ u behind. and_then ((readers text r).conditional behind) (λ no end. Some (tree.Conditional e yes no, end))))
unfolding conditional_at level_at
chooses text r ts e [] h k = cc
chooses text r ts e (t ∷ rest) h k = rw (h, k)

choosing : (text : List ℕ) (r : ℕ) (ts : List Token) (e : Expr) (rest : List Token) →
    level_at text (suc r) 10 ts ≡ Some (e, rest) → sees is_question rest ≡ true →
    conditional_at text (suc r) ts ≡ and_then (expr_at text r (drop 1 rest)) (λ yes rest. and_then (accept is_colon rest)
    (λ u behind. and_then (conditional_at text r behind) (λ no end. Some (tree.Conditional e yes no, end))))
choosing text r ts e rest h k = chooses text r ts e rest h k ∙ simp (inner_expr text r, inner_conditional text r)

branching : (text : List ℕ) (r : ℕ) (e : Expr) (ts : List Token) →
    and_then (expr_at text r ts) (λ yes rest. and_then (accept is_colon rest)
    (λ u behind. and_then (conditional_at text r behind) (λ no end. Some (tree.Conditional e yes no, end))))
    ≡ and_then (branches_at text (suc r) ts) (λ branches end. Some (tree.Conditional e branches.0 branches.1, end))
unfolding branches_at
branching text r e ts = at (expr_at text r ts)
  where
    at_no : (yes : Expr) (no : Read Expr) → and_then no (λ no end. Some (tree.Conditional e yes no, end))
        ≡ and_then (and_then {B = Expr × Expr} no (λ no end. Some ((yes, no), end))) (λ branches end. Some (tree.Conditional e branches.0 branches.1, end))
    at_no first None = refl
    at_no first (Some found) = refl

    at_colon : (yes : Expr) (found : Read Token) →
        and_then found (λ u behind. and_then (conditional_at text r behind) (λ no end. Some (tree.Conditional e yes no, end)))
        ≡ and_then (and_then {B = Expr × Expr} found (λ u behind. and_then (conditional_at text r behind) (λ no end. Some ((yes, no), end))))
        (λ branches end. Some (tree.Conditional e branches.0 branches.1, end))
    at_colon first None = refl
    at_colon first (Some found) = at_no first (conditional_at text r found.1)

    at : (found : Read Expr) →
        and_then found (λ yes rest. and_then (accept is_colon rest)
        (λ u behind. and_then (conditional_at text r behind) (λ no end. Some (tree.Conditional e yes no, end))))
        ≡ and_then (and_then {B = Expr × Expr} found (λ yes rest. and_then (accept is_colon rest) (λ u behind. and_then (conditional_at text r behind) (λ no end. Some ((yes, no), end)))))
        (λ branches end. Some (tree.Conditional e branches.0 branches.1, end))
    at None = refl
    at (Some found) = at_colon found.0 (accept is_colon found.1)

flat_branches : (text : List ℕ) (e : Expr) (ts : List Token) → ◌≡◌ {A = Read Expr} None (and_then (branches_at text zero ts) (λ branches end. Some (tree.Conditional e branches.0 branches.1, end)))
unfolding branches_at
flat_branches text e ts = refl

pub conditional_chooses : (text : List ℕ) (room : ℕ) (ts : List Token) (e : Expr) (rest : List Token) →
    level_at text room 10 ts ≡ Some (e, rest) → sees is_question rest ≡ true →
    conditional_at text room ts ≡ and_then (branches_at text room (drop 1 rest)) (λ branches end. Some (tree.Conditional e branches.0 branches.1, end))
conditional_chooses text zero ts e rest h k = chooses_flat text ts e rest h k ∙ flat_branches text e (drop 1 rest)
conditional_chooses text (suc r) ts e rest h k = choosing text r ts e rest h k ∙ branching text r e (drop 1 rest)

pub branches_flat : (text : List ℕ) (ts : List Token) → branches_at text zero ts ≡ None
unfolding branches_at
branches_flat text ts = refl

pub branches_by : (text : List ℕ) (r : ℕ) (ts : List Token) → branches_at text (suc r) ts ≡ and_then (expr_at text r ts) (λ yes rest. and_then (accept is_colon rest)
    (λ u behind. and_then (conditional_at text r behind) (λ no end. Some ((yes, no), end))))
unfolding branches_at
branches_by text r ts = refl

-- levels

pub level_zero : (text : List ℕ) (room : ℕ) (ts : List Token) → level_at text room zero ts ≡ unary_at text room ts
unfolding level_at unary_at level_read
level_zero text room ts = refl

pub level_suc : (text : List ℕ) (room height : ℕ) (ts : List Token) →
    level_at text room (suc height) ts ≡ and_then (level_at text room height ts) (λ first rest.
    and_then (operations_at text room height rest) (λ os behind. Some (reader.with_operations first os, behind)))
unfolding level_at level_read operations_at
level_suc text room height ts = refl

-- runs of items

-- an item, with those that come behind it
abbrev pub further : {A : Type 0} → (List Token → Read (List A)) → Option A → List Token → Read (List A)
further more None rest = Some ([], rest)
further more (Some a) rest = and_then (more rest) (λ items end. Some (a ∷ items, end))

-- what is read behind these items
abbrev pub prepend : {A : Type 0} → List A → Read (List A) → Read (List A)
prepend items r = and_then r (λ more end. Some (items ++ more, end))

pub prepend_none : {A : Type 0} (r : Read (List A)) → prepend [] r ≡ r
prepend_none None = refl
prepend_none (Some found) = refl

pub prepend_one : {A : Type 0} (items : List A) (a : A) (r : Read (List A)) →
    prepend items (and_then r (λ more end. Some (a ∷ more, end))) ≡ prepend (items ++ a ∷ []) r
prepend_one items a None = refl
prepend_one items a (Some found) = ap (λ more. Some (more, found.1)) (sym (append_assoc items (a ∷ []) found.0))

pub append_nil : {A : Type 0} (items : List A) → items ++ [] ≡ items
append_nil [] = refl
append_nil (a ∷ items) = ap (λ more. a ∷ more) (append_nil items)

pub step_more : {A : Type 0} (items : List A) (a : A) (rest : List Token) (more : List Token → Read (List A)) (step : Read (Option A)) →
    step ≡ Some (Some a, rest) → prepend items (and_then step (further more)) ≡ prepend (items ++ a ∷ []) (more rest)
step_more items a rest more step h = rw h (prepend_one items a (more rest))

pub step_end : {A : Type 0} (items : List A) (rest : List Token) (more : List Token → Read (List A)) (step : Read (Option A)) →
    step ≡ Some (None, rest) → prepend items (and_then step (further more)) ≡ Some (items, rest)
step_end items rest more step h = rw h (ap (λ more. Some (more, rest)) (append_nil items))

pub step_fails : {A : Type 0} (items : List A) (more : List Token → Read (List A)) (step : Read (Option A)) →
    step ≡ None → prepend items (and_then step (further more)) ≡ None
step_fails items more step h = rw h

pub assoc : {A B C : Type 0} (r : Read A) (f : A → List Token → Read B) (g : B → List Token → Read C) →
    and_then (and_then r f) g ≡ and_then r (λ a rest. and_then (f a rest) g)
assoc None f g = refl
assoc (Some found) f g = refl

pub same : {A B : Type 0} (r : Read A) (f g : A → List Token → Read B) → ((a : A) (rest : List Token) → f a rest ≡ g a rest) → and_then r f ≡ and_then r g
same None f g h = refl
same (Some found) f g h = h found.0 found.1

-- operations

pub operations_more : (text : List ℕ) (room height most : ℕ) (ts : List Token) →
    operations (suc most) text (9 - height) (level_at text room height) ts
    ≡ and_then (operation_at text room height ts) (further (operations most text (9 - height) (level_at text room height)))
unfolding operations operation_at
operations_more text room height most [] = refl
operations_more text room height most (t ∷ ts) = at (is_instanceof t.kind && (9 - height) == comparison_level) refl
  where
    at_operator : (o : Option BinaryOperator) → binary_operator t.kind ≡ o → is_instanceof t.kind && (9 - height) == comparison_level ≡ false →
        operations (suc most) text (9 - height) (level_at text room height) (t ∷ ts)
        ≡ and_then (operation_at text room height (t ∷ ts)) (further (operations most text (9 - height) (level_at text room height)))
    at_operator None k h = rw (h, k)
    at_operator (Some op) k h = at_level (level_of op == 9 - height) refl
      where
        at_level : (b : Bool) → level_of op == 9 - height ≡ b →
            operations (suc most) text (9 - height) (level_at text room height) (t ∷ ts)
            ≡ and_then (operation_at text room height (t ∷ ts)) (further (operations most text (9 - height) (level_at text room height)))
        at_level true l = rw (h, k, l) (sym (assoc (level_at text room height ts) (λ e rest. Some (Some (operation.Operator op e), rest)) (further (operations most text (9 - height) (level_at text room height)))))
        at_level false l = rw (h, k, l)

    at : (b : Bool) → is_instanceof t.kind && (9 - height) == comparison_level ≡ b →
        operations (suc most) text (9 - height) (level_at text room height) (t ∷ ts)
        ≡ and_then (operation_at text room height (t ∷ ts)) (further (operations most text (9 - height) (level_at text room height)))
    at true h = rw h (sym (assoc (type_read text ts) (λ target rest. Some (Some (operation.InstanceOf target), rest)) (further (operations most text (9 - height) (level_at text room height)))))
    at false h = at_operator (binary_operator t.kind) refl h

module _ (text : List ℕ) (room height : ℕ) (ts : List Token) where
  pub operation_none : operator_at height ts ≡ None → operation_at text room height ts ≡ Some (None, ts)
  unfolding operation_at
  operation_none h = rw h

  pub operation_type : operator_at height ts ≡ Some None →
      operation_at text room height ts ≡ and_then (type_read text (drop 1 ts)) (λ target rest. Some (Some (operation.InstanceOf target), rest))
  unfolding operation_at
  operation_type h = rw h

  pub operation_operator : (op : BinaryOperator) → operator_at height ts ≡ Some (Some op) →
      operation_at text room height ts ≡ and_then (level_at text room height (drop 1 ts)) (λ e rest. Some (Some (operation.Operator op e), rest))
  unfolding operation_at
  operation_operator op h = rw h

-- operators of one operand, and casts

postfix_by : (text : List ℕ) (inner : Option reader.Inner) (ts : List Token) → reader.postfix_read text inner ts ≡ and_then (reader.path text inner ts) stepped
postfix_by text inner ts = at (reader.path text inner ts) refl
  where
    at_operator : (e : Expr) (u : Token) (rest : List Token) (o : Option PostfixOperator) → reader.path text inner ts ≡ Some (e, u ∷ rest) → postfix_operator u.kind ≡ o →
        reader.postfix_read text inner ts ≡ and_then (reader.path text inner ts) stepped
    at_operator e u rest None h k = rw (h, k)
    at_operator e u rest (Some op) h k = rw (h, k)

    at : (found : Read Expr) → reader.path text inner ts ≡ found → reader.postfix_read text inner ts ≡ and_then (reader.path text inner ts) stepped
    at None h = rw h
    at (Some (e, [])) h = rw h
    at (Some (e, u ∷ rest)) h = at_operator e u rest (postfix_operator u.kind) h refl

pub unary_none : (text : List ℕ) (room : ℕ) → unary_at text room [] ≡ None
unfolding unary_at
unary_none text room = refl

module _ (text : List ℕ) (room : ℕ) (t : Token) (ts : List Token) where
  pub unary_postfix : unary_operator t.kind ≡ None → is_left_paren t.kind && is_cast ts ≡ false →
      unary_at text room (t ∷ ts) ≡ and_then (path_at text room (t ∷ ts)) stepped
  unfolding unary_at path_at
  unary_postfix h k = rw (h, k, postfix_by text (below text room) (t ∷ ts))

module _ (text : List ℕ) (t : Token) (ts : List Token) where
  pub unary_flat : (op : UnaryOperator) → unary_operator t.kind ≡ Some op → unary_at text zero (t ∷ ts) ≡ None
  unfolding unary_at
  unary_flat op h = rw h

  pub unary_prefixed : (r : ℕ) (op : UnaryOperator) → unary_operator t.kind ≡ Some op →
      unary_at text (suc r) (t ∷ ts) ≡ and_then (unary_at text r ts) (applied t op)
  unfolding unary_at
  unary_prefixed r op h = rw (h, inner_unary text r ts)

  cast_flat : unary_operator t.kind ≡ None → is_left_paren t.kind && is_cast ts ≡ true → unary_at text zero (t ∷ ts) ≡ None
  unfolding unary_at
  cast_flat h k = rw (h, k)

  casts : (r : ℕ) → unary_operator t.kind ≡ None → is_left_paren t.kind && is_cast ts ≡ true →
      unary_at text (suc r) (t ∷ ts) ≡ and_then (type_read text ts) (λ target rest. and_then (accept is_right_paren rest)
      (λ u behind. and_then ((readers text r).unary behind) (λ e end. Some (tree.Cast t.span target e, end))))
  unfolding unary_at
  casts r h k = rw (h, k)

pub unary_cast : (text : List ℕ) (room : ℕ) (t : Token) (ts : List Token) → unary_operator t.kind ≡ None → is_left_paren t.kind && is_cast ts ≡ true →
    unary_at text room (t ∷ ts) ≡ cast_at text room t ts
unfolding cast_at
unary_cast text zero t ts h k = cast_flat text t ts h k
unary_cast text (suc r) t ts h k = casts text t ts r h k ∙ simp (inner_unary text r)

pub casts_flat : (text : List ℕ) (t : Token) (ts : List Token) → cast_at text zero t ts ≡ None
unfolding cast_at
casts_flat text t ts = refl

pub cast_by : (text : List ℕ) (r : ℕ) (t : Token) (ts : List Token) → cast_at text (suc r) t ts ≡ and_then (type_read text ts) (λ target rest. and_then (accept is_right_paren rest)
    (λ u behind. and_then (unary_at text r behind) (λ e end. Some (tree.Cast t.span target e, end))))
unfolding cast_at
cast_by text r t ts = refl

-- paths

module _ (text : List ℕ) (room : ℕ) where
  pub path_by : (ts : List Token) → path_at text room ts ≡ and_then (primary_at text room ts) (λ first rest.
      and_then (parts_at text room rest) (λ ps behind. Some (reader.with_parts first ps, behind)))
  unfolding path_at primary_at parts_at
  path_by ts = refl

  pub part_none : part_at text room [] ≡ Some (None, [])
  unfolding part_at
  part_none = refl

  pub part_dot_fails : (t : Token) (ts : List Token) → is_dot t.kind ≡ true → name_read text ts ≡ None → part_at text room (t ∷ ts) ≡ None
  unfolding part_at
  part_dot_fails t ts h k = rw (h, k)

  pub part_field : (t : Token) (ts rest : List Token) (n : Identifier) → is_dot t.kind ≡ true → name_read text ts ≡ Some (n, rest) → sees is_left_paren rest ≡ false →
      part_at text room (t ∷ ts) ≡ Some (Some (part.Field n), rest)
  unfolding part_at
  part_field t ts rest n h k l = rw (h, k, l)

  pub part_call : (t : Token) (ts rest : List Token) (n : Identifier) → is_dot t.kind ≡ true → name_read text ts ≡ Some (n, rest) → sees is_left_paren rest ≡ true →
      part_at text room (t ∷ ts) ≡ and_then (arguments_at text room rest) (λ es behind. Some (Some (part.Call n es), behind))
  unfolding part_at
  part_call t ts rest n h k l = rw (h, k, l)

  pub part_other : (t : Token) (ts : List Token) → is_dot t.kind ≡ false → is_left_bracket t.kind ≡ false → part_at text room (t ∷ ts) ≡ Some (None, t ∷ ts)
  unfolding part_at
  part_other t ts h k = rw (h, k)

pub part_flat : (text : List ℕ) (t : Token) (ts : List Token) → is_dot t.kind ≡ false → is_left_bracket t.kind ≡ true → part_at text zero (t ∷ ts) ≡ None
unfolding part_at
part_flat text t ts h k = rw (h, k)

pub part_index : (text : List ℕ) (r : ℕ) (t : Token) (ts : List Token) → is_dot t.kind ≡ false → is_left_bracket t.kind ≡ true →
    part_at text (suc r) (t ∷ ts) ≡ and_then (bracketed_at text r ts) (λ e behind. Some (Some (part.Index e), behind))
unfolding part_at bracketed_at
part_index text r t ts h k = rw (h, k)

pub bracketed_by : (text : List ℕ) (r : ℕ) (ts : List Token) →
    bracketed_at text r ts ≡ and_then (expr_at text r ts) (λ e rest. and_then (accept is_right_bracket rest) (λ u behind. Some (e, behind)))
unfolding bracketed_at
bracketed_by text r ts = rw (inner_expr text r ts)

dotted : (text : List ℕ) (room : ℕ) (rest : List Token) (more : List Token → Read (List PathPart)) →
    and_then (accept is_identifier rest) (λ n behind.
    if sees is_left_paren behind
    then and_then (arguments_at text room behind) (λ es end. and_then (more end) (λ ps last. Some (part.Call (identifier_of text n) es ∷ ps, last)))
    else and_then (more behind) (λ ps last. Some (part.Field (identifier_of text n) ∷ ps, last)))
    ≡ and_then (and_then (name_read text rest) (λ n behind.
    if sees is_left_paren behind
    then and_then (arguments_at text room behind) (λ es end. Some (Some (part.Call n es), end))
    else Some (Some (part.Field n), behind))) (further more)
dotted text room rest more = at (accept is_identifier rest) refl
  where
    at_paren : (n : Token) (behind : List Token) (b : Bool) → sees is_left_paren behind ≡ b →
        (if sees is_left_paren behind
        then and_then (arguments_at text room behind) (λ es end. and_then (more end) (λ ps last. Some (part.Call (identifier_of text n) es ∷ ps, last)))
        else and_then (more behind) (λ ps last. Some (part.Field (identifier_of text n) ∷ ps, last)))
        ≡ and_then (if sees is_left_paren behind
        then and_then (arguments_at text room behind) (λ es end. Some (Some (part.Call (identifier_of text n) es), end))
        else Some (Some (part.Field (identifier_of text n)), behind)) (further more)
    at_paren n behind true h = rw h (sym (assoc (arguments_at text room behind) (λ es end. Some (Some (part.Call (identifier_of text n) es), end)) (further more)))
    at_paren n behind false h = rw h

    at : (found : Read Token) → accept is_identifier rest ≡ found →
        and_then (accept is_identifier rest) (λ n behind.
        if sees is_left_paren behind
        then and_then (arguments_at text room behind) (λ es end. and_then (more end) (λ ps last. Some (part.Call (identifier_of text n) es ∷ ps, last)))
        else and_then (more behind) (λ ps last. Some (part.Field (identifier_of text n) ∷ ps, last)))
        ≡ and_then (and_then (name_read text rest) (λ n behind.
        if sees is_left_paren behind
        then and_then (arguments_at text room behind) (λ es end. Some (Some (part.Call n es), end))
        else Some (Some (part.Field n), behind))) (further more)
    at None h = rw h
    at (Some (n, behind)) h = rw h (at_paren n behind (sees is_left_paren behind) refl)

pub parts_by : (text : List ℕ) (room : ℕ) (ts : List Token) → parts_at text room ts ≡ prepend [] (parts (suc (length ts)) text (below text room) ts)
unfolding parts_at
parts_by text room ts = sym (prepend_none (parts (suc (length ts)) text (below text room) ts))

pub parts_more : (text : List ℕ) (room most : ℕ) (ts : List Token) →
    parts (suc most) text (below text room) ts ≡ and_then (part_at text room ts) (further (parts most text (below text room)))
unfolding parts part_at arguments_at
parts_more text room most [] = refl
parts_more text room most (t ∷ ts) = at (is_dot t.kind) (is_left_bracket t.kind) refl refl
  where
    at : (b c : Bool) → is_dot t.kind ≡ b → is_left_bracket t.kind ≡ c →
        parts (suc most) text (below text room) (t ∷ ts) ≡ and_then (part_at text room (t ∷ ts)) (further (parts most text (below text room)))
    at true c h k = rw h (dotted text room ts (parts most text (below text room)))
    at false true h k = rw (h, k) (sym (assoc (reader.nested (below text room) (λ i. reader.bracketed i ts)) (λ e behind. Some (Some (part.Index e), behind)) (further (parts most text (below text room)))))
    at false false h k = rw (h, k)

-- operands

module _ (text : List ℕ) (room : ℕ) where
  pub primary_none : primary_at text room [] ≡ None
  unfolding primary_at
  primary_none = refl

  pub primary_literal : (t : Token) (ts : List Token) (value : Literal) → literal_of text t ≡ Some value → primary_at text room (t ∷ ts) ≡ Some (tree.Literal t.span value, ts)
  unfolding primary_at
  primary_literal t ts value h = rw h

  pub primary_name : (t : Token) (ts : List Token) → literal_of text t ≡ None → is_identifier t.kind ≡ true → primary_at text room (t ∷ ts) ≡ named_at text room t ts
  unfolding primary_at named_at arguments_at
  primary_name t ts h k = rw (h, k)

  pub primary_this : (t : Token) (ts : List Token) → literal_of text t ≡ None → is_identifier t.kind ≡ false → is_left_paren t.kind ≡ false → is_this t.kind ≡ true →
      primary_at text room (t ∷ ts) ≡ Some (tree.This t.span, ts)
  unfolding primary_at
  primary_this t ts h k l m = rw (h, k, l, m)

  pub primary_super : (t : Token) (ts : List Token) → literal_of text t ≡ None → is_identifier t.kind ≡ false → is_left_paren t.kind ≡ false → is_this t.kind ≡ false →
      is_super t.kind ≡ true → primary_at text room (t ∷ ts) ≡ through_super_at text room t ts
  unfolding primary_at through_super_at arguments_at
  primary_super t ts h k l m n = rw (h, k, l, m, n) (same (accept is_dot ts) _ _ (λ d rest. sym (assoc (accept is_identifier rest)
      (λ named behind. Some (identifier_of text named, behind))
      (λ (named : Identifier) (behind : List Token). and_then (arguments_at text room behind) (λ es end. Some (tree.SuperCall t.span named es, end))))))

  pub primary_new : (t : Token) (ts : List Token) → literal_of text t ≡ None → is_identifier t.kind ≡ false → is_left_paren t.kind ≡ false → is_this t.kind ≡ false →
      is_super t.kind ≡ false → is_new t.kind ≡ true → primary_at text room (t ∷ ts) ≡ and_then (accept names_type ts) (creation_at text room t)
  unfolding primary_at creation_at
  primary_new t ts h k l m n o = rw (h, k, l, m, n, o)

  pub primary_other : (t : Token) (ts : List Token) → literal_of text t ≡ None → is_identifier t.kind ≡ false → is_left_paren t.kind ≡ false → is_this t.kind ≡ false →
      is_super t.kind ≡ false → is_new t.kind ≡ false → primary_at text room (t ∷ ts) ≡ None
  unfolding primary_at
  primary_other t ts h k l m n o = rw (h, k, l, m, n, o)

pub primary_enclosed : (text : List ℕ) (room : ℕ) (t : Token) (ts : List Token) → literal_of text t ≡ None → is_identifier t.kind ≡ false → is_left_paren t.kind ≡ true →
    primary_at text room (t ∷ ts) ≡ enclosed_at text room t ts
unfolding primary_at enclosed_at
primary_enclosed text zero t ts h k l = rw (h, k, l)
primary_enclosed text (suc r) t ts h k l = rw (h, k, l, inner_expr text r ts)

pub enclosed_flat : (text : List ℕ) (t : Token) (ts : List Token) → enclosed_at text zero t ts ≡ None
unfolding enclosed_at
enclosed_flat text t ts = refl

pub enclosed_by : (text : List ℕ) (r : ℕ) (t : Token) (ts : List Token) →
    enclosed_at text (suc r) t ts ≡ and_then (expr_at text r ts) (λ e rest. and_then (accept is_right_paren rest) (λ u behind. Some (tree.Parenthesized t.span e, behind)))
unfolding enclosed_at
enclosed_by text r t ts = refl

-- names, calls and new objects

module _ (text : List ℕ) (room : ℕ) (t : Token) (ts : List Token) where
  pub named_alone : sees is_left_paren ts ≡ false → named_at text room t ts ≡ Some (tree.Name (identifier_of text t), ts)
  unfolding named_at
  named_alone h = rw h

  pub named_call : sees is_left_paren ts ≡ true → named_at text room t ts ≡ and_then (arguments_at text room ts) (λ es rest. Some (tree.Call (identifier_of text t) es, rest))
  unfolding named_at
  named_call h = rw h

  pub super_by : through_super_at text room t ts ≡ and_then (accept is_dot ts) (λ d rest. and_then (name_read text rest)
      (λ n behind. and_then (arguments_at text room behind) (λ es end. Some (tree.SuperCall t.span n es, end))))
  unfolding through_super_at
  super_by = refl

module _ (text : List ℕ) (room : ℕ) (t n : Token) (ts : List Token) where
  pub creation_object : sees is_left_paren ts ≡ true → is_identifier n.kind ≡ true →
      creation_at text room t n ts ≡ and_then (arguments_at text room ts) (λ es rest. Some (tree.New t.span (identifier_of text n) es, rest))
  unfolding creation_at arguments_at
  creation_object h k = rw (h, k)

  pub creation_wrong : sees is_left_paren ts ≡ true → is_identifier n.kind ≡ false → creation_at text room t n ts ≡ None
  unfolding creation_at
  creation_wrong h k = rw (h, k)

  pub creation_sized : sees is_left_paren ts ≡ false → sees_brackets ts ≡ false → creation_at text room t n ts ≡ and_then (sizes_at text room ts) (with_sizes text t n)
  unfolding creation_at sizes_at
  creation_sized h k = at (sizes (suc (length ts)) (below text room) ts) refl
    where
      at : (found : Read (List Expr)) → sizes (suc (length ts)) (below text room) ts ≡ found → creation_at text room t n ts ≡ and_then (sizes_at text room ts) (with_sizes text t n)
      at None l = rw (h, k, l)
      at (Some ([], rest)) l = rw (h, k, l)
      at (Some (e ∷ es, rest)) l = rw (h, k, l)

  pub creation_filled : sees is_left_paren ts ≡ false → sees_brackets ts ≡ true → creation_at text room t n ts ≡ filled_at text room t n ts
  unfolding creation_at filled_at braces_at
  creation_filled h k = at (brackets ts).1 refl
    where
      at : (rest : List Token) → (brackets ts).1 ≡ rest → creation_at text room t n ts ≡ filled_at text room t n ts
      at [] l = rw (h, k, l)
      at (u ∷ us) l = rw (h, k, l)

  pub filled_open : (brackets ts).1 ≡ [] → filled_at text room t n ts ≡ None
  unfolding filled_at
  filled_open h = rw h

  pub filled_by : (u : Token) (us : List Token) → (brackets ts).1 ≡ u ∷ us →
      filled_at text room t n ts ≡ and_then (braces_at text room (u ∷ us)) (λ values rest. Some (tree.NewArrayOf t.span (type_of text n (brackets ts).0) u.span values, rest))
  unfolding filled_at
  filled_by u us h = rw h

-- arguments

module _ (text : List ℕ) (ts : List Token) where
  pub arguments_fail : (room : ℕ) → accept is_left_paren ts ≡ None → arguments_at text room ts ≡ None
  unfolding arguments_at
  arguments_fail room h = rw h

  pub arguments_flat : (t : Token) (rest : List Token) → accept is_left_paren ts ≡ Some (t, rest) → arguments_at text zero ts ≡ None
  unfolding arguments_at
  arguments_flat t rest h = rw h

  pub arguments_open : (r : ℕ) (t : Token) → accept is_left_paren ts ≡ Some (t, []) → arguments_at text (suc r) ts ≡ None
  unfolding arguments_at
  arguments_open r t h = rw h

  pub arguments_empty : (r : ℕ) (t u : Token) (rest : List Token) → accept is_left_paren ts ≡ Some (t, u ∷ rest) → is_right_paren u.kind ≡ true →
      arguments_at text (suc r) ts ≡ Some ([], rest)
  unfolding arguments_at
  arguments_empty r t u rest h k = rw (h, k)

  pub arguments_listed : (r : ℕ) (t u : Token) (rest : List Token) → accept is_left_paren ts ≡ Some (t, u ∷ rest) → is_right_paren u.kind ≡ false →
      arguments_at text (suc r) ts ≡ and_then (listed_at text r (u ∷ rest)) (λ es more. and_then (accept is_right_paren more) (λ v behind. Some (es, behind)))
  unfolding arguments_at listed_at
  arguments_listed r t u rest h k = rw (h, k)

pub listed_by : (text : List ℕ) (r : ℕ) (ts : List Token) → listed_at text r ts ≡ prepend [] (listed (suc (length ts)) (readers text r) ts)
unfolding listed_at
listed_by text r ts = sym (prepend_none (listed (suc (length ts)) (readers text r) ts))

module _ (text : List ℕ) (r : ℕ) (items : List Expr) (most : ℕ) (ts : List Token) where
  pub listed_fails : expr_at text r ts ≡ None → prepend items (listed (suc most) (readers text r) ts) ≡ None
  unfolding listed
  listed_fails h = rw (inner_expr text r ts, h)

  pub listed_stays : (e : Expr) (rest : List Token) → expr_at text r ts ≡ Some (e, rest) → sees is_comma rest ≡ false →
      prepend items (listed (suc most) (readers text r) ts) ≡ Some (items ++ e ∷ [], rest)
  unfolding listed
  listed_stays e [] h k = rw (inner_expr text r ts, h)
  listed_stays e (t ∷ rest) h k = rw (inner_expr text r ts, h, k)

  pub listed_more : (e : Expr) (rest : List Token) → expr_at text r ts ≡ Some (e, rest) → sees is_comma rest ≡ true →
      prepend items (listed (suc most) (readers text r) ts) ≡ prepend (items ++ e ∷ []) (listed most (readers text r) (drop 1 rest))
  unfolding listed
  listed_more e [] h k = cc
  listed_more e (t ∷ rest) h k = rw (inner_expr text r ts, h, k) (prepend_one items e (listed most (readers text r) rest))

-- sizes

module _ (text : List ℕ) (room : ℕ) (ts : List Token) where
  pub sizes_by : sizes_at text room ts ≡ prepend [] (sizes (suc (length ts)) (below text room) ts)
  unfolding sizes_at
  sizes_by = sym (prepend_none (sizes (suc (length ts)) (below text room) ts))

  pub sizes_more : (most : ℕ) → sizes (suc most) (below text room) ts ≡ and_then (size_at text room ts) (further (sizes most (below text room)))
  unfolding sizes size_at
  sizes_more most = at (sees is_left_bracket ts && not (sees_brackets ts)) refl
    where
      at : (b : Bool) → sees is_left_bracket ts && not (sees_brackets ts) ≡ b → sizes (suc most) (below text room) ts ≡ and_then (size_at text room ts) (further (sizes most (below text room)))
      at true h = rw h (sized (accept is_left_bracket ts))
        where
          sized : (found : Read Token) →
              and_then found (λ t rest. and_then (reader.nested (below text room) (λ i. reader.bracketed i rest))
              (λ e behind. and_then (sizes most (below text room) behind) (λ es end. Some (e ∷ es, end))))
              ≡ and_then (and_then found (λ t rest. and_then (reader.nested (below text room) (λ i. reader.bracketed i rest)) (λ e behind. Some (Some e, behind)))) (further (sizes most (below text room)))
          sized None = refl
          sized (Some (t, rest)) = sym (assoc (reader.nested (below text room) (λ i. reader.bracketed i rest)) (λ e behind. Some (Some e, behind)) (further (sizes most (below text room))))
      at false h = rw h

  pub size_none : sees is_left_bracket ts && not (sees_brackets ts) ≡ false → size_at text room ts ≡ Some (None, ts)
  unfolding size_at
  size_none h = rw h

  pub size_fails : sees is_left_bracket ts && not (sees_brackets ts) ≡ true → accept is_left_bracket ts ≡ None → size_at text room ts ≡ None
  unfolding size_at
  size_fails h k = rw (h, k)

module _ (text : List ℕ) (ts : List Token) (t : Token) (rest : List Token) where
  pub size_flat : sees is_left_bracket ts && not (sees_brackets ts) ≡ true → accept is_left_bracket ts ≡ Some (t, rest) → size_at text zero ts ≡ None
  unfolding size_at
  size_flat h k = rw (h, k)

  pub size_by : (r : ℕ) → sees is_left_bracket ts && not (sees_brackets ts) ≡ true → accept is_left_bracket ts ≡ Some (t, rest) →
      size_at text (suc r) ts ≡ and_then (bracketed_at text r rest) (λ e behind. Some (Some e, behind))
  unfolding size_at bracketed_at
  size_by r h k = rw (h, k)

-- array initializers

module _ (text : List ℕ) (ts : List Token) where
  pub braces_fail : (room : ℕ) → accept is_left_brace ts ≡ None → braces_at text room ts ≡ None
  unfolding braces_at
  braces_fail room h = rw h

  pub braces_flat : (t : Token) (rest : List Token) → accept is_left_brace ts ≡ Some (t, rest) → braces_at text zero ts ≡ None
  unfolding braces_at
  braces_flat t rest h = rw h

  pub braces_empty : (r : ℕ) (t u : Token) (rest : List Token) → accept is_left_brace ts ≡ Some (t, u ∷ rest) → is_right_brace u.kind ≡ true →
      braces_at text (suc r) ts ≡ Some ([], rest)
  unfolding braces_at
  braces_empty r t u rest h k = rw (h, k)

  pub braces_values : (r : ℕ) (t : Token) (rest : List Token) → accept is_left_brace ts ≡ Some (t, rest) → sees is_right_brace rest ≡ false →
      braces_at text (suc r) ts ≡ initials_at text r rest
  unfolding braces_at initials_at initials
  braces_values r t [] h k = rw h
  braces_values r t (u ∷ rest) h k = rw (h, k)

pub initials_by : (text : List ℕ) (r : ℕ) (ts : List Token) → initials_at text r ts ≡ prepend [] (initials (suc (length ts)) (readers text r) ts)
unfolding initials_at
initials_by text r ts = sym (prepend_none (initials (suc (length ts)) (readers text r) ts))

module _ (text : List ℕ) (r : ℕ) (items : List Initial) (most : ℕ) (ts : List Token) where
  pub initials_fail : initial_at text r ts ≡ None → prepend items (initials (suc most) (readers text r) ts) ≡ None
  unfolding initials initial_at
  initials_fail h = rw h

  by_value : (v : Initial) (rest : List Token) → initial_at text r ts ≡ Some (v, rest) →
      initials (suc most) (readers text r) ts ≡ and_then (behind_value rest) (λ goes_on next. if goes_on then and_then (initials most (readers text r) next) (λ values end. Some (v ∷ values, end)) else Some (v ∷ [], next))
  unfolding initials initial_at
  by_value v [] h = rw h
  by_value v (t ∷ rest) h = at (is_right_brace t.kind) (is_comma t.kind) refl refl
    where
      at_last : (u : Token) (us : List Token) (b : Bool) → is_right_brace t.kind ≡ false → is_comma t.kind ≡ true → rest ≡ u ∷ us → is_right_brace u.kind ≡ b →
          initials (suc most) (readers text r) ts ≡ and_then (behind_value (t ∷ rest)) (λ goes_on next. if goes_on then and_then (initials most (readers text r) next) (λ values end. Some (v ∷ values, end)) else Some (v ∷ [], next))
      at_last u us true k l e m = rw (h, k, l, e, m)
      at_last u us false k l e m = rw (h, k, l, e, m)

      at_rest : (more : List Token) → is_right_brace t.kind ≡ false → is_comma t.kind ≡ true → rest ≡ more →
          initials (suc most) (readers text r) ts ≡ and_then (behind_value (t ∷ rest)) (λ goes_on next. if goes_on then and_then (initials most (readers text r) next) (λ values end. Some (v ∷ values, end)) else Some (v ∷ [], next))
      at_rest [] k l e = rw (h, k, l, e)
      at_rest (u ∷ us) k l e = at_last u us (is_right_brace u.kind) k l e refl

      at : (b c : Bool) → is_right_brace t.kind ≡ b → is_comma t.kind ≡ c →
          initials (suc most) (readers text r) ts ≡ and_then (behind_value (t ∷ rest)) (λ goes_on next. if goes_on then and_then (initials most (readers text r) next) (λ values end. Some (v ∷ values, end)) else Some (v ∷ [], next))
      at true c k l = rw (h, k)
      at false true k l = at_rest rest k l refl
      at false false k l = rw (h, k, l)

  pub initials_wrong : (v : Initial) (rest : List Token) → initial_at text r ts ≡ Some (v, rest) → behind_value rest ≡ None →
      prepend items (initials (suc most) (readers text r) ts) ≡ None
  initials_wrong v rest h k = rw (by_value v rest h, k)

  pub initials_end : (v : Initial) (rest end : List Token) → initial_at text r ts ≡ Some (v, rest) → behind_value rest ≡ Some (false, end) →
      prepend items (initials (suc most) (readers text r) ts) ≡ Some (items ++ v ∷ [], end)
  initials_end v rest end h k = rw (by_value v rest h, k)

  pub initials_more : (v : Initial) (rest next : List Token) → initial_at text r ts ≡ Some (v, rest) → behind_value rest ≡ Some (true, next) →
      prepend items (initials (suc most) (readers text r) ts) ≡ prepend (items ++ v ∷ []) (initials most (readers text r) next)
  initials_more v rest next h k = rw (by_value v rest h, k) (prepend_one items v (initials most (readers text r) next))

module _ (text : List ℕ) (r : ℕ) where
  pub initial_none : initial_at text r [] ≡ None
  unfolding initial_at
  initial_none = refl

  pub initial_array : (t : Token) (ts : List Token) → is_left_brace t.kind ≡ true →
      initial_at text r (t ∷ ts) ≡ and_then (braces_at text r (t ∷ ts)) (λ values rest. Some (initial.Array t.span values, rest))
  unfolding initial_at
  initial_array t ts h = rw (h, inner_braces text r (t ∷ ts))

  pub initial_value : (t : Token) (ts : List Token) → is_left_brace t.kind ≡ false →
      initial_at text r (t ∷ ts) ≡ and_then (expr_at text r (t ∷ ts)) (λ e rest. Some (initial.Value e, rest))
  unfolding initial_at
  initial_value t ts h = rw (h, inner_expr text r (t ∷ ts))

-- where no item more may come

pub parts_zero : (text : List ℕ) (room : ℕ) (ts : List Token) → parts zero text (below text room) ts ≡ None
unfolding parts
parts_zero text room ts = refl

pub sizes_zero : (text : List ℕ) (room : ℕ) (ts : List Token) → sizes zero (below text room) ts ≡ None
unfolding sizes
sizes_zero text room ts = refl

pub listed_zero : (inner : reader.Inner) (ts : List Token) → listed zero inner ts ≡ None
unfolding listed
listed_zero inner ts = refl

pub initials_zero : (inner : reader.Inner) (ts : List Token) → initials zero inner ts ≡ None
unfolding initials
initials_zero inner ts = refl
