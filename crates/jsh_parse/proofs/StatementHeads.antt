-- What stands in front of the statement of a `for` and of the block of a `catch`, as the readers of statements take it.
use Rattle.std.proofs.Common.{◌≡◌, ℕ, Bool, true, false, List, Option, Some, None, refl}
use Rattle.jsh_tree.specs.declared.token.Token.{Token}
use Rattle.jsh_tree.specs.declared.expression.TypeUse.{TypeUse}
use Rattle.jsh_tree.specs.declared.statement.Stmt.{Stmt}
use Rattle.jsh_tree.specs.declared.statement.Stmt.TheVariants as statement
use Rattle.jsh_parse.specs.declared.heads.ForHead.{ForHead}
use Rattle.jsh_parse.specs.declared.heads.EachHead.{EachHead}
use Rattle.jsh_parse.specs.Marks.{is_right_paren, is_colon, is_identifier}
use Rattle.jsh_parse.specs.Forms.{is_semicolon, is_var}
use Rattle.jsh_parse.specs.Reader.{Read, and_then, accept, sees, type_read}
use Rattle.jsh_parse.specs.Reading.{name_read, expr_at}
use Rattle.jsh_parse.specs.StatementReader as reader
use Rattle.jsh_parse.specs.StatementReader.{statement_readers, final_read}
use Rattle.jsh_parse.specs.StatementReading.{stmt_at, optional_at, start_at, update_at, for_head_at, each_head_at, element_type}
use Rattle.jsh_parse.proofs.Onward.{inner_expr}
use Rattle.jsh_parse.proofs.StatementDepths.{same_inner, deeper_stmt}

-- Where a reader takes something first, another one may take it in a part of its own.
pub along : {A B C : Type 0} (r : Read A) (f : A → List Token → Read C) (g : A → List Token → Read B) (k : B → List Token → Read C) →
    ((a : A) (rest : List Token) → f a rest ≡ and_then (g a rest) k) → and_then r f ≡ and_then (and_then r g) k
along None f g k h = refl
along (Some found) f g k h = h found.0 found.1

-- likewise in a part of a part
pub along_twice : {A B C D : Type 0} (r : Read A) (f : A → List Token → Read D) (p : A → List Token → Read B) (g : B → List Token → Read C)
    (k : C → List Token → Read D) → ((a : A) (rest : List Token) → f a rest ≡ and_then (and_then (p a rest) g) k) →
    and_then r f ≡ and_then (and_then (and_then r p) g) k
along_twice None f p g k h = refl
along_twice (Some found) f p g k h = h found.0 found.1

pub along_thrice : {A B C D E : Type 0} (r : Read A) (f : A → List Token → Read E) (p : A → List Token → Read B) (g : B → List Token → Read C)
    (q : C → List Token → Read D) (k : D → List Token → Read E) →
    ((a : A) (rest : List Token) → f a rest ≡ and_then (and_then (and_then (p a rest) g) q) k) → and_then r f ≡ and_then (and_then (and_then (and_then r p) g) q) k
along_thrice None f p g q k h = refl
along_thrice (Some found) f p g q k h = h found.0 found.1

module _ (text : List ℕ) (r : ℕ) (t : Token) where
  -- the statement that a `for` over elements goes on with
  abbrev pub over : EachHead → List Token → Read Stmt
  over head behind = and_then (stmt_at text r behind) (λ body end. Some (statement.ForEach t.span head.is_final head.written head.name head.array body, end))

  abbrev pub named : Bool → Option TypeUse → List Token → Read EachHead
  named is_final written ts = and_then (name_read text ts) (λ n behind. and_then (accept is_colon behind) (λ u more. and_then (expr_at text r more)
      (λ e last. and_then (accept is_right_paren last) (λ q end. Some (record { is_final = is_final; written = written; name = n; array = e }, end)))))

  over_named : (is_final : Bool) (written : Option TypeUse) (ts : List Token) →
      reader.each_read t is_final written text (statement_readers text r) ts ≡ and_then (named is_final written ts) over
  over_named is_final written ts = along_twice (accept is_identifier ts) _ _ _ over (λ n rest. along (accept is_colon rest) _ _ over
      (λ u behind. rw (same_inner text r, inner_expr text r behind) (along (expr_at text r behind) _ _ over (λ e more. along (accept is_right_paren more) _ _ over
      (λ q last. rw (deeper_stmt text r last))))))

  -- the parts of a `for` over elements
  pub over_head : (ts : List Token) → reader.for_each_read text t (statement_readers text r) ts ≡ and_then (each_head_at text r ts) over
  unfolding each_head_at
  over_head ts = at (sees is_var (final_read ts).1) refl
    where
      at : (b : Bool) → sees is_var (final_read ts).1 ≡ b →
          reader.for_each_read text t (statement_readers text r) ts ≡ and_then (and_then (element_type text (final_read ts).1) (λ written rest. named (final_read ts).0 written rest)) over
      at true h = rw h (along_twice (accept is_var (final_read ts).1) _ _ _ over (λ v rest. over_named (final_read ts).0 None rest))
      at false h = rw h (along_twice (type_read text (final_read ts).1) _ _ _ over (λ written rest. over_named (final_read ts).0 (Some written) rest))

  -- the statement that any other `for` goes on with
  abbrev pub counted : ForHead → List Token → Read Stmt
  counted head behind = and_then (stmt_at text r behind) (λ body end. Some (statement.For t.span head.start head.condition head.update body, end))

  -- the parts of any other `for`
  pub counted_head : (ts : List Token) → reader.for_parts_read text t (statement_readers text r) ts ≡ and_then (for_head_at text r ts) counted
  unfolding for_head_at start_at optional_at update_at
  counted_head ts = rw (same_inner text r) (along (start_at text r ts) _ _ counted (λ begins rest. along (accept is_semicolon rest) _ _ counted
      (λ u behind. along (optional_at text r behind) _ _ counted (λ e more. along (accept is_semicolon more) _ _ counted
      (λ v last. along (update_at text r last) _ _ counted (λ update closing. along (accept is_right_paren closing) _ _ counted
      (λ q inside. rw (deeper_stmt text r inside))))))))
