-- How the readers of statements go on, by the room that is left.
use Rattle.std.proofs.Common.{◌≡◌, ℕ, zero, suc, true, false, if◌then◌else◌, List, [], ◌∷◌, Some, None, drop, ap, ◌∙◌}
use Rattle.jsh_tree.specs.declared.token.Token.{Token}
use Rattle.jsh_tree.specs.declared.expression.Expr.{Expr}
use Rattle.jsh_tree.specs.declared.statement.Stmt.{Stmt}
use Rattle.jsh_tree.specs.declared.statement.Stmt.TheVariants as statement
use Rattle.jsh_tree.specs.declared.statement.Block.{roll-Block}
use Rattle.jsh_parse.specs.Marks.{is_left_paren, is_left_brace, is_right_brace}
use Rattle.jsh_parse.specs.Forms.{is_semicolon, is_else, is_while}
use Rattle.jsh_parse.specs.Reader.{and_then, accept, sees}
use Rattle.jsh_parse.specs.StatementReader.{is_for_each}
use Rattle.jsh_parse.specs.StatementReading.{stmt_at, block_at, statements_at, groups_at, condition_at, if_at, while_at, do_at, for_at, switch_at, for_head_at, each_head_at}
use Rattle.jsh_parse.proofs.StatementOnward as onward

module _ (text : List ℕ) (room : ℕ) (t : Token) (ts : List Token) where
  pub if_flat : room ≡ zero → if_at text room t ts ≡ None
  if_flat z = ap (λ n. if_at text n t ts) z ∙ onward.if_flat text t ts

  pub while_flat : room ≡ zero → while_at text room t ts ≡ None
  while_flat z = ap (λ n. while_at text n t ts) z ∙ onward.while_flat text t ts

  pub do_flat : room ≡ zero → do_at text room t ts ≡ None
  do_flat z = ap (λ n. do_at text n t ts) z ∙ onward.do_flat text t ts

  pub for_flat : room ≡ zero → for_at text room t ts ≡ None
  for_flat z = ap (λ n. for_at text n t ts) z ∙ onward.for_flat text t ts

  pub switch_flat : room ≡ zero → switch_at text room t ts ≡ None
  switch_flat z = ap (λ n. switch_at text n t ts) z ∙ onward.switch_flat text t ts

module _ (text : List ℕ) (room r : ℕ) (t : Token) (ts : List Token) (z : room ≡ suc r) where
  pub if_by : if_at text room t ts ≡ and_then (condition_at text r ts) (λ e rest. and_then (stmt_at text r rest) (λ first behind.
      if sees is_else behind
      then and_then (accept is_else behind) (λ u more. and_then (stmt_at text r more) (λ otherwise end. Some (statement.If t.span e first (Some otherwise), end)))
      else Some (statement.If t.span e first None, behind)))
  if_by = ap (λ n. if_at text n t ts) z ∙ onward.if_by text t ts r

  pub if_alone : (e : Expr) (rest behind : List Token) (first : Stmt) → condition_at text r ts ≡ Some (e, rest) → stmt_at text r rest ≡ Some (first, behind) →
      sees is_else behind ≡ false → if_at text room t ts ≡ Some (statement.If t.span e first None, behind)
  if_alone e rest behind first h k l = if_by ∙ rw (h, k, l)

  pub if_else : (e : Expr) (rest behind : List Token) (first : Stmt) → condition_at text r ts ≡ Some (e, rest) → stmt_at text r rest ≡ Some (first, behind) →
      sees is_else behind ≡ true →
      if_at text room t ts ≡ and_then (stmt_at text r (drop 1 behind)) (λ otherwise end. Some (statement.If t.span e first (Some otherwise), end))
  if_else e rest [] first h k l = cc
  if_else e rest (u ∷ us) first h k l = if_by ∙ rw (h, k, l)

  pub while_by : while_at text room t ts ≡ and_then (condition_at text r ts) (λ e rest. and_then (stmt_at text r rest)
      (λ body end. Some (statement.While t.span e body, end)))
  while_by = ap (λ n. while_at text n t ts) z ∙ onward.while_by text t ts r

  pub do_by : do_at text room t ts ≡ and_then (stmt_at text r ts) (λ body rest. and_then (accept is_while rest) (λ w behind.
      and_then (condition_at text r behind) (λ e more. and_then (accept is_semicolon more) (λ u end. Some (statement.Do t.span body e, end)))))
  do_by = ap (λ n. do_at text n t ts) z ∙ onward.do_by text t ts r

  pub switch_by : switch_at text room t ts ≡ and_then (condition_at text r ts) (λ e rest. and_then (accept is_left_brace rest) (λ p behind.
      and_then (groups_at text r behind) (λ groups more. and_then (accept is_right_brace more) (λ q end. Some (statement.Switch t.span e groups, end)))))
  switch_by = ap (λ n. switch_at text n t ts) z ∙ onward.switch_by text t ts r

  pub for_fails : accept is_left_paren ts ≡ None → for_at text room t ts ≡ None
  for_fails h = ap (λ n. for_at text n t ts) z ∙ onward.for_fails text t ts r h

  pub for_each_by : (p : Token) (rest : List Token) → accept is_left_paren ts ≡ Some (p, rest) → is_for_each rest ≡ true →
      for_at text room t ts ≡ and_then (each_head_at text r rest) (λ head behind. and_then (stmt_at text r behind)
      (λ body end. Some (statement.ForEach t.span head.is_final head.written head.name head.array body, end)))
  for_each_by p rest h k = ap (λ n. for_at text n t ts) z ∙ onward.for_each_by text t ts r p rest h k

  pub for_parts_by : (p : Token) (rest : List Token) → accept is_left_paren ts ≡ Some (p, rest) → is_for_each rest ≡ false →
      for_at text room t ts ≡ and_then (for_head_at text r rest) (λ head behind. and_then (stmt_at text r behind)
      (λ body end. Some (statement.For t.span head.start head.condition head.update body, end)))
  for_parts_by p rest h k = ap (λ n. for_at text n t ts) z ∙ onward.for_parts_by text t ts r p rest h k

module _ (text : List ℕ) (room : ℕ) (ts : List Token) (t : Token) (rest : List Token) where
  pub block_flat : room ≡ zero → accept is_left_brace ts ≡ Some (t, rest) → block_at text room ts ≡ None
  block_flat z h = ap (λ n. block_at text n ts) z ∙ onward.block_flat text ts t rest h

  pub block_by : (r : ℕ) → room ≡ suc r → accept is_left_brace ts ≡ Some (t, rest) →
      block_at text room ts ≡ and_then (statements_at text r rest) (λ inside behind. and_then (accept is_right_brace behind)
      (λ u end. Some (roll-Block (record { span = t.span; statements = inside }), end)))
  block_by r z h = ap (λ n. block_at text n ts) z ∙ onward.block_by text ts r t rest h
