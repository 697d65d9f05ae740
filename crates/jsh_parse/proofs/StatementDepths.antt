-- The readers of what stands one deeper, in the words of the parser's contracts.
use Rattle.std.proofs.Common.{◌≡◌, ℕ, zero, suc, List, Some, refl, ap}
use Rattle.jsh_tree.specs.declared.token.Token.{Token}
use Rattle.jsh_parse.specs.Reader.{Inner, readers, readers_over}
use Rattle.jsh_parse.specs.StatementReader.{inner_of, statement_readers}
use Rattle.jsh_parse.specs.StatementReading.{statements_below, stmt_at, statements_at, groups_at}

pub same_inner : (text : List ℕ) (r : ℕ) → (statement_readers text r).inner ≡ readers text r
unfolding statement_readers readers
same_inner text zero = refl
same_inner text (suc r) = ap (λ (i : Inner). readers_over text (Some i)) (same_inner text r)

pub deeper_stmt : (text : List ℕ) (r : ℕ) (ts : List Token) → (statement_readers text r).stmt ts ≡ stmt_at text r ts
unfolding statement_readers stmt_at
deeper_stmt text zero ts = refl
deeper_stmt text (suc r) ts = refl

pub deeper_statements : (text : List ℕ) (r : ℕ) (ts : List Token) → (statement_readers text r).statements ts ≡ statements_at text r ts
unfolding statement_readers statements_at
deeper_statements text zero ts = refl
deeper_statements text (suc r) ts = refl

pub deeper_groups : (text : List ℕ) (r : ℕ) (ts : List Token) → (statement_readers text r).groups ts ≡ groups_at text r ts
unfolding statement_readers groups_at
deeper_groups text zero ts = refl
deeper_groups text (suc r) ts = refl

-- the expressions of a statement are those of its depth
pub here : (text : List ℕ) (room : ℕ) → readers_over text (inner_of (statements_below text room)) ≡ readers text room
unfolding readers
here text zero = refl
here text (suc r) = ap (λ (i : Inner). readers_over text (Some i)) (same_inner text r)
