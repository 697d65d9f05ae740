-- How the readers of statements go on, step by step, in the words of the parser's contracts.
use Rattle.std.proofs.Common.{◌≡◌, ℕ, zero, suc, true, false, if◌then◌else◌, List, [], ◌∷◌, Some, None, length, refl, ap, ◌∙◌}
use Rattle.jsh_tree.specs.declared.token.Token.{Token}
use Rattle.jsh_tree.specs.declared.expression.Expr.{Expr}
use Rattle.jsh_tree.specs.declared.statement.Stmt.TheVariants as statement
use Rattle.jsh_tree.specs.declared.statement.Block.{Block, roll-Block}
use Rattle.jsh_tree.specs.declared.statement.BlockStatement.TheVariants as block_statement
use Rattle.jsh_tree.specs.declared.statement.CatchClause.{CatchClause}
use Rattle.jsh_parse.specs.declared.forms.Form.TheVariants as form
use Rattle.jsh_parse.specs.Marks.{is_left_paren, is_left_brace, is_right_brace}
use Rattle.jsh_parse.specs.Forms.{form_of, is_semicolon, is_else, is_while}
use Rattle.jsh_parse.specs.Reader.{Read, Inner, and_then, accept, sees, readers_over}
use Rattle.jsh_parse.specs.Statements.{first_span}
use Rattle.jsh_parse.specs.StatementReader as reader
use Rattle.jsh_parse.specs.StatementReader.{Deeper, inner_of, statement_readers, final_read, begins_local, is_for_each}
use Rattle.jsh_parse.specs.StatementReading.{statements_below, stmt_at, block_at, statements_at, block_statement_at, groups_at, catches_at, optional_at, condition_at, if_at, while_at, do_at, for_at, switch_at, try_at, return_at, throw_at, expression_at, braced_at, tried, local_at, variable_at, for_head_at, each_head_at}
use Rattle.jsh_parse.proofs.Onward.{inner_expr}
use Rattle.jsh_parse.proofs.StatementDepths.{same_inner, deeper_stmt, deeper_statements, deeper_groups, here}
use Rattle.jsh_parse.proofs.StatementHeads.{over_head, counted_head}

-- statements, by the token that they begin with

pub stmt_none : (text : List ℕ) (room : ℕ) → stmt_at text room [] ≡ None
unfolding stmt_at
stmt_none text room = refl

module _ (text : List ℕ) (room : ℕ) (t : Token) (ts : List Token) where
  pub stmt_block : form_of t.kind ≡ form.Block → stmt_at text room (t ∷ ts) ≡ braced_at text room (t ∷ ts)
  unfolding stmt_at braced_at block_at
  stmt_block h = rw h

  pub stmt_empty : form_of t.kind ≡ form.Empty → stmt_at text room (t ∷ ts) ≡ Some (statement.Empty t.span, ts)
  unfolding stmt_at
  stmt_empty h = rw h

  pub stmt_if : form_of t.kind ≡ form.If → stmt_at text room (t ∷ ts) ≡ if_at text room t ts
  unfolding stmt_at if_at
  stmt_if h = rw h

  pub stmt_while : form_of t.kind ≡ form.While → stmt_at text room (t ∷ ts) ≡ while_at text room t ts
  unfolding stmt_at while_at
  stmt_while h = rw h

  pub stmt_do : form_of t.kind ≡ form.Do → stmt_at text room (t ∷ ts) ≡ do_at text room t ts
  unfolding stmt_at do_at
  stmt_do h = rw h

  pub stmt_for : form_of t.kind ≡ form.For → stmt_at text room (t ∷ ts) ≡ for_at text room t ts
  unfolding stmt_at for_at
  stmt_for h = rw h

  pub stmt_switch : form_of t.kind ≡ form.Switch → stmt_at text room (t ∷ ts) ≡ switch_at text room t ts
  unfolding stmt_at switch_at
  stmt_switch h = rw h

  pub stmt_break : form_of t.kind ≡ form.Break → stmt_at text room (t ∷ ts) ≡ reader.jump_read (statement.Break t.span) ts
  unfolding stmt_at
  stmt_break h = rw h

  pub stmt_continue : form_of t.kind ≡ form.Continue → stmt_at text room (t ∷ ts) ≡ reader.jump_read (statement.Continue t.span) ts
  unfolding stmt_at
  stmt_continue h = rw h

  returning : form_of t.kind ≡ form.Return → stmt_at text room (t ∷ ts)
      ≡ and_then (reader.optional_read is_semicolon (readers_over text (inner_of (statements_below text room))) ts) (λ e rest. reader.jump_read (statement.Return t.span e) rest)
  unfolding stmt_at
  returning h = rw h

  pub stmt_return : form_of t.kind ≡ form.Return → stmt_at text room (t ∷ ts) ≡ return_at text room t ts
  unfolding return_at optional_at
  stmt_return h = returning h ∙ ap (λ (i : Inner). and_then (reader.optional_read is_semicolon i ts) (λ e rest. reader.jump_read (statement.Return t.span e) rest)) (here text room)

  throwing : form_of t.kind ≡ form.Throw → stmt_at text room (t ∷ ts)
      ≡ and_then ((readers_over text (inner_of (statements_below text room))).expr ts) (λ e rest. reader.jump_read (statement.Throw t.span e) rest)
  unfolding stmt_at
  throwing h = rw h

  pub stmt_throw : form_of t.kind ≡ form.Throw → stmt_at text room (t ∷ ts) ≡ throw_at text room t ts
  unfolding throw_at
  stmt_throw h = throwing h ∙ ap (λ (i : Inner). and_then (i.expr ts) (λ e rest. reader.jump_read (statement.Throw t.span e) rest)) (here text room)
      ∙ ap (λ (r : Read Expr). and_then r (λ e rest. reader.jump_read (statement.Throw t.span e) rest)) (inner_expr text room ts)

  pub stmt_try : form_of t.kind ≡ form.Try → stmt_at text room (t ∷ ts) ≡ try_at text room t ts
  unfolding stmt_at try_at
  stmt_try h = rw h

  expressing : form_of t.kind ≡ form.Expression → stmt_at text room (t ∷ ts) ≡ reader.expression_read (readers_over text (inner_of (statements_below text room))) (t ∷ ts)
  unfolding stmt_at
  expressing h = rw h

  pub stmt_expression : form_of t.kind ≡ form.Expression → stmt_at text room (t ∷ ts) ≡ expression_at text room (t ∷ ts)
  unfolding expression_at
  stmt_expression h = expressing h ∙ ap (λ (i : Inner). reader.expression_read i (t ∷ ts)) (here text room)

pub braced_by : (text : List ℕ) (room : ℕ) (ts : List Token) → braced_at text room ts ≡ and_then (block_at text room ts) (λ b end. Some (statement.Block b, end))
unfolding braced_at
braced_by text room ts = refl

-- statements in which others stand

module _ (text : List ℕ) (t : Token) (ts : List Token) where
  pub if_flat : if_at text zero t ts ≡ None
  unfolding if_at
  if_flat = refl

  pub if_by : (r : ℕ) → if_at text (suc r) t ts ≡ and_then (condition_at text r ts) (λ e rest. and_then (stmt_at text r rest) (λ first behind.
      if sees is_else behind
      then and_then (accept is_else behind) (λ u more. and_then (stmt_at text r more) (λ otherwise end. Some (statement.If t.span e first (Some otherwise), end)))
      else Some (statement.If t.span e first None, behind)))
  unfolding if_at condition_at
  if_by r = simp (same_inner text r, deeper_stmt text r)

  pub while_flat : while_at text zero t ts ≡ None
  unfolding while_at
  while_flat = refl

  pub while_by : (r : ℕ) → while_at text (suc r) t ts ≡ and_then (condition_at text r ts) (λ e rest. and_then (stmt_at text r rest)
      (λ body end. Some (statement.While t.span e body, end)))
  unfolding while_at condition_at
  while_by r = simp (same_inner text r, deeper_stmt text r)

  pub do_flat : do_at text zero t ts ≡ None
  unfolding do_at
  do_flat = refl

  pub do_by : (r : ℕ) → do_at text (suc r) t ts ≡ and_then (stmt_at text r ts) (λ body rest. and_then (accept is_while rest) (λ w behind.
      and_then (condition_at text r behind) (λ e more. and_then (accept is_semicolon more) (λ u end. Some (statement.Do t.span body e, end)))))
  unfolding do_at condition_at
  do_by r = simp (same_inner text r, deeper_stmt text r)

  pub switch_flat : switch_at text zero t ts ≡ None
  unfolding switch_at
  switch_flat = refl

  pub switch_by : (r : ℕ) → switch_at text (suc r) t ts ≡ and_then (condition_at text r ts) (λ e rest. and_then (accept is_left_brace rest) (λ p behind.
      and_then (groups_at text r behind) (λ groups more. and_then (accept is_right_brace more) (λ q end. Some (statement.Switch t.span e groups, end)))))
  unfolding switch_at condition_at
  switch_by r = simp (same_inner text r, deeper_groups text r)

  pub for_flat : for_at text zero t ts ≡ None
  unfolding for_at
  for_flat = refl

  pub for_fails : (r : ℕ) → accept is_left_paren ts ≡ None → for_at text (suc r) t ts ≡ None
  unfolding for_at
  for_fails r h = rw h

  for_over : (r : ℕ) (p : Token) (rest : List Token) → accept is_left_paren ts ≡ Some (p, rest) → is_for_each rest ≡ true →
      for_at text (suc r) t ts ≡ reader.for_each_read text t (statement_readers text r) rest
  unfolding for_at
  for_over r p rest h k = rw (h, k)

  for_counted : (r : ℕ) (p : Token) (rest : List Token) → accept is_left_paren ts ≡ Some (p, rest) → is_for_each rest ≡ false →
      for_at text (suc r) t ts ≡ reader.for_parts_read text t (statement_readers text r) rest
  unfolding for_at
  for_counted r p rest h k = rw (h, k)

  pub for_each_by : (r : ℕ) (p : Token) (rest : List Token) → accept is_left_paren ts ≡ Some (p, rest) → is_for_each rest ≡ true →
      for_at text (suc r) t ts ≡ and_then (each_head_at text r rest) (λ head behind. and_then (stmt_at text r behind)
      (λ body end. Some (statement.ForEach t.span head.is_final head.written head.name head.array body, end)))
  for_each_by r p rest h k = for_over r p rest h k ∙ over_head text r t rest

  pub for_parts_by : (r : ℕ) (p : Token) (rest : List Token) → accept is_left_paren ts ≡ Some (p, rest) → is_for_each rest ≡ false →
      for_at text (suc r) t ts ≡ and_then (for_head_at text r rest) (λ head behind. and_then (stmt_at text r behind)
      (λ body end. Some (statement.For t.span head.start head.condition head.update body, end)))
  for_parts_by r p rest h k = for_counted r p rest h k ∙ counted_head text r t rest

-- blocks

module _ (text : List ℕ) (ts : List Token) where
  pub block_fails : (room : ℕ) → accept is_left_brace ts ≡ None → block_at text room ts ≡ None
  unfolding block_at
  block_fails room h = rw h

  pub block_flat : (t : Token) (rest : List Token) → accept is_left_brace ts ≡ Some (t, rest) → block_at text zero ts ≡ None
  unfolding block_at
  block_flat t rest h = rw h

  pub block_by : (r : ℕ) (t : Token) (rest : List Token) → accept is_left_brace ts ≡ Some (t, rest) →
      block_at text (suc r) ts ≡ and_then (statements_at text r rest) (λ inside behind. and_then (accept is_right_brace behind)
      (λ u end. Some (roll-Block (record { span = t.span; statements = inside }), end)))
  unfolding block_at
  block_by r t rest h = rw (h, deeper_statements text r rest)

module _ (text : List ℕ) (room : ℕ) (ts : List Token) where
  locally : begins_local ts ≡ true → block_statement_at text room ts
      ≡ and_then (reader.variable_read text (readers_over text (inner_of (statements_below text room))) (final_read ts).1) (λ v rest.
      and_then (accept is_semicolon rest) (λ u end. Some (block_statement.Local (first_span ts) (final_read ts).0 v, end)))
  unfolding block_statement_at
  locally h = rw h

  pub local_first : begins_local ts ≡ true → block_statement_at text room ts ≡ local_at text room ts
  unfolding local_at variable_at
  local_first h = locally h ∙ ap (λ (i : Inner). and_then (reader.variable_read text i (final_read ts).1) (λ v rest.
      and_then (accept is_semicolon rest) (λ u end. Some (block_statement.Local (first_span ts) (final_read ts).0 v, end)))) (here text room)

  pub statement_first : begins_local ts ≡ false →
      block_statement_at text room ts ≡ and_then (stmt_at text room ts) (λ s end. Some (block_statement.Statement s, end))
  unfolding block_statement_at stmt_at
  statement_first h = rw h

pub try_by : (text : List ℕ) (room : ℕ) (t : Token) (ts : List Token) →
    try_at text room t ts ≡ and_then (block_at text room ts) (λ inside rest. and_then (catches_at text room rest) (λ cs end. tried t inside cs end))
unfolding try_at block_at catches_at
try_by text room t ts = at_block (reader.block_read (statements_below text room) ts) refl
  where
    at_catches : (inside : Block) (rest : List Token) (found : Read (List CatchClause)) → reader.block_read (statements_below text room) ts ≡ Some (inside, rest) →
        reader.catches (suc (length rest)) text (statements_below text room) rest ≡ found →
        try_at text room t ts ≡ and_then (block_at text room ts) (λ inside rest. and_then (catches_at text room rest) (λ cs end. tried t inside cs end))
    at_catches inside rest None h k = rw (h, k)
    at_catches inside rest (Some ([], end)) h k = rw (h, k)
    at_catches inside rest (Some (c ∷ cs, end)) h k = rw (h, k)

    at_block : (found : Read Block) → reader.block_read (statements_below text room) ts ≡ found →
        try_at text room t ts ≡ and_then (block_at text room ts) (λ inside rest. and_then (catches_at text room rest) (λ cs end. tried t inside cs end))
    at_block None h = rw h
    at_block (Some (inside, rest)) h = at_catches inside rest (reader.catches (suc (length rest)) text (statements_below text room) rest) h refl
