-- What the parser reads of all tokens as a statement, in the words of the grammar.
use Rattle.std.proofs.Common.{◌≡◌, ◌≢◌, ℕ, ◌-◌, ◌<◌, ◌≤◌, Bool, List, [], ◌∷◌, Option, Some, None, length, drop, refl, sym, ap, ◌∙◌, arith, length-drop}
use Rattle.std.specs.Prelude.{Result, Ok, Err, IfErr}
use Rattle.std.specs.Result.{IsErrAnd}
use Rattle.jsh_tree.specs.declared.token.Token.{Token}
use Rattle.jsh_tree.specs.declared.statement.Stmt.{Stmt}
use Rattle.jsh_parse.specs.declared.error.ParseError.{ParseError}
use Rattle.jsh_parse.specs.declared.error.ParseError.TheVariants as error
use Rattle.jsh_parse.specs.Statements.{IsStmt}
use Rattle.jsh_parse.specs.Reading.{Reads}
use Rattle.jsh_parse.specs.StatementReading.{stmt_at}
use Rattle.jsh_parse.proofs.AllTokens.{at_end}
use Rattle.jsh_parse.proofs.StatementDepths.{deeper_stmt}
use Rattle.jsh_parse.proofs.StatementSound.{stmt_sound_whole}
use Rattle.jsh_parse.proofs.StatementComplete.{complete_stmt_whole}

-- where all tokens are read, they spell the tree
pub whole_spelled : (text : List ℕ) (room : ℕ) (ts : List Token) (s : Stmt) (end : ℕ) → length ts ≤ end → stmt_at text room ts ≡ Some (s, drop end ts) →
    (dangling : Bool) × IsStmt text room dangling ts s
whole_spelled text room ts s end l h = stmt_sound_whole text room ts s (deeper_stmt text room ts ∙ h ∙ ap (λ us. Some (s, us)) (at_end ts end l))

read_whole : (text : List ℕ) (room : ℕ) (dangling : Bool) (ts : List Token) (s : Stmt) → IsStmt text room dangling ts s → stmt_at text room ts ≡ Some (s, [])
read_whole text room dangling ts s d = sym (deeper_stmt text room ts) ∙ complete_stmt_whole text room dangling ts s d

apart : (a b : Stmt) (u : Token) (us : List Token) → ◌≡◌ {A = Option (Stmt × List Token)} (Some (a, [])) (Some (b, u ∷ us)) → ⊥
apart a b u us h = let same : [] ≡ u ∷ us = ap left h in cc
  where
    left : Option (Stmt × List Token) → List Token
    left None = []
    left (Some found) = found.1

nothing : (a : Stmt × List Token) → ◌≡◌ {A = Option (Stmt × List Token)} None (Some a) → ⊥
nothing a h = cc

-- where tokens are left over, no tree is spelled
pub left_over : (text : List ℕ) (room : ℕ) (ts : List Token) (s : Stmt) (end : ℕ) → end < length ts → stmt_at text room ts ≡ Some (s, drop end ts) →
    (dangling : Bool) (tree : Stmt) → IsStmt text room dangling ts tree → ⊥
left_over text room ts s end l h dangling tree d = rest (drop end ts) refl
  where
    rest : (us : List Token) → drop end ts ≡ us → ⊥
    rest [] k = let none : length ts - end ≡ 0 = sym (length-drop end ts) ∙ ap length k in absurd (omega arith)
    rest (u ∷ us) k = apart tree s u us (sym (read_whole text room dangling ts tree d) ∙ h ∙ ap (λ us. Some (s, us)) k)

-- where nothing is read, no tree is spelled
pub unread : (text : List ℕ) (room : ℕ) (ts : List Token) (at : ℕ) (e : ParseError) → Reads ts at (stmt_at text room ts) (Err e) → e ≢ error.NoMemory →
    (dangling : Bool) (tree : Stmt) → IsStmt text room dangling ts tree → ⊥
unread text room ts at error.NoMemory h n dangling tree d = n refl
unread text room ts at (error.Wanted place wanted) h n dangling tree d = nothing (tree, []) (sym h ∙ read_whole text room dangling ts tree d)
unread text room ts at (error.TooDeep limit) h n dangling tree d = nothing (tree, []) (sym h.0 ∙ read_whole text room dangling ts tree d)

-- an error that is handed on refuses every tree
pub refuses_trees : {A : Type 0} (text : List ℕ) (room : ℕ) (ts : List Token) (at : ℕ) (e : ParseError) (r : Result A ParseError) → IsErrAnd r (λ f. f ≡ e) →
    Reads ts at (stmt_at text room ts) (Err e) → IfErr r (λ f. f ≢ error.NoMemory → (dangling : Bool) → (tree : Stmt) → IsStmt text room dangling ts tree → ⊥)
refuses_trees text room ts at e (Ok a) same h = absurd same
refuses_trees text room ts at e (Err f) same h = λ n. unread text room ts at e h (λ k. n (same ∙ k))
