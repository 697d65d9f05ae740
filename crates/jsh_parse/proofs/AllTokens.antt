-- What the parser reads of all tokens, in the words of the grammar.
use Rattle.std.proofs.Common.{◌≡◌, ◌≢◌, ℕ, ◌-◌, ◌<◌, ◌≤◌, List, [], ◌∷◌, Option, Some, None, length, drop, refl, sym, ap, ◌∙◌, arith, length-drop}
use Rattle.std.specs.Prelude.{Result, Ok, Err, IfErr}
use Rattle.std.specs.Result.{IsErrAnd}
use Rattle.jsh_tree.specs.declared.token.Token.{Token}
use Rattle.jsh_tree.specs.declared.expression.Expr.{Expr}
use Rattle.jsh_parse.specs.declared.error.ParseError.{ParseError}
use Rattle.jsh_parse.specs.declared.error.ParseError.TheVariants as error
use Rattle.jsh_parse.specs.Grammar.{IsExpr}
use Rattle.jsh_parse.specs.Reading.{Reads, expr_at}
use Rattle.jsh_parse.proofs.Onward.{inner_expr}
use Rattle.jsh_parse.proofs.Sound.{sound_whole}
use Rattle.jsh_parse.proofs.Complete.{complete-whole}

pub at_end : (ts : List Token) (end : ℕ) → length ts ≤ end → drop end ts ≡ []
at_end ts end h = empty (drop end ts) (length-drop end ts ∙ omega arith)
  where
    empty : (us : List Token) → length us ≡ 0 → us ≡ []
    empty [] e = refl
    empty (u ∷ us) e = absurd (omega arith)

-- where all tokens are read, they spell the tree
pub whole_spelled : (text : List ℕ) (room : ℕ) (ts : List Token) (e : Expr) (end : ℕ) → length ts ≤ end → expr_at text room ts ≡ Some (e, drop end ts) → IsExpr text room ts e
whole_spelled text room ts e end l h = sound_whole text room ts e (inner_expr text room ts ∙ h ∙ ap (λ us. Some (e, us)) (at_end ts end l))

read_whole : (text : List ℕ) (room : ℕ) (ts : List Token) (e : Expr) → IsExpr text room ts e → expr_at text room ts ≡ Some (e, [])
read_whole text room ts e d = sym (inner_expr text room ts) ∙ complete-whole text room ts e d

apart : (a b : Expr) (u : Token) (us : List Token) → ◌≡◌ {A = Option (Expr × List Token)} (Some (a, [])) (Some (b, u ∷ us)) → ⊥
apart a b u us h = let same : [] ≡ u ∷ us = ap left h in cc
  where
    left : Option (Expr × List Token) → List Token
    left None = []
    left (Some found) = found.1

nothing : (a : Expr × List Token) → ◌≡◌ {A = Option (Expr × List Token)} None (Some a) → ⊥
nothing a h = cc

-- where tokens are left over, no tree is spelled
pub left_over : (text : List ℕ) (room : ℕ) (ts : List Token) (e : Expr) (end : ℕ) → end < length ts → expr_at text room ts ≡ Some (e, drop end ts) →
    (tree : Expr) → IsExpr text room ts tree → ⊥
left_over text room ts e end l h tree d = rest (drop end ts) refl
  where
    rest : (us : List Token) → drop end ts ≡ us → ⊥
    rest [] k = let none : length ts - end ≡ 0 = sym (length-drop end ts) ∙ ap length k in absurd (omega arith)
    rest (u ∷ us) k =
        apart tree e u us (sym (read_whole text room ts tree d) ∙ h ∙ ap (λ us. Some (e, us)) k)

-- where nothing is read, no tree is spelled
pub unread : (text : List ℕ) (room : ℕ) (ts : List Token) (at : ℕ) (e : ParseError) → Reads ts at (expr_at text room ts) (Err e) → e ≢ error.NoMemory →
    (tree : Expr) → IsExpr text room ts tree → ⊥
unread text room ts at error.NoMemory h n tree d = n refl
unread text room ts at (error.Wanted place wanted) h n tree d = nothing (tree, []) (sym h ∙ read_whole text room ts tree d)
unread text room ts at (error.TooDeep limit) h n tree d = nothing (tree, []) (sym h.0 ∙ read_whole text room ts tree d)

-- an error that is handed on refuses every tree
pub refuses_trees : {A : Type 0} (text : List ℕ) (room : ℕ) (ts : List Token) (at : ℕ) (e : ParseError) (r : Result A ParseError) → IsErrAnd r (λ f. f ≡ e) →
    Reads ts at (expr_at text room ts) (Err e) → IfErr r (λ f. f ≢ error.NoMemory → (tree : Expr) → IsExpr text room ts tree → ⊥)
refuses_trees text room ts at e (Ok a) same h = absurd same
refuses_trees text room ts at e (Err f) same h = λ n. unread text room ts at e h (λ k. n (same ∙ k))
