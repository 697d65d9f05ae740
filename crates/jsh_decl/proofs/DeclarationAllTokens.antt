-- What the parser reads of all tokens, in the words of the grammar of snippets.
use Rattle.std.proofs.Common.{◌≡◌, ◌≢◌, ℕ, ◌-◌, ◌<◌, ◌≤◌, List, [], ◌∷◌, ◌++◌, Option, Some, None, length, drop, refl, sym, ap, ◌∙◌, arith, length-drop}
use Rattle.std.specs.Prelude.{Result, Ok, Err, IfErr}
use Rattle.std.specs.Result.{IsErrAnd}
use Rattle.jsh_tree.specs.declared.token.Token.{Token}
use Rattle.jsh_tree.specs.declared.tree.Tree.{Tree}
use Rattle.jsh_parse.specs.declared.error.ParseError.{ParseError}
use Rattle.jsh_parse.specs.declared.error.ParseError.TheVariants as error
use Rattle.jsh_parse.specs.Reading.{Reads, semicolon_at_end}
use Rattle.jsh_parse.proofs.AllTokens.{at_end}
use Rattle.jsh_decl.specs.Declarations.{IsSnippet, IsSource, as_it_stands, with_semicolon}
use Rattle.jsh_decl.specs.DeclarationReader.{snippet_at}
use Rattle.jsh_decl.proofs.SoundSnippets.{snippet_sound_whole}
use Rattle.jsh_decl.proofs.Complete.{complete_snippet_whole}

-- where all tokens are read, they spell the tree
pub whole_spelled : (text : List ℕ) (room : ℕ) (ts : List Token) (s : Tree) (end : ℕ) → length ts ≤ end → snippet_at text room ts ≡ Some (s, drop end ts) →
    IsSnippet text room ts s
whole_spelled text room ts s end l h = snippet_sound_whole text room ts s (h ∙ ap (λ us. Some (s, us)) (at_end ts end l))

apart : (a b : Tree) (u : Token) (us : List Token) → ◌≡◌ {A = Option (Tree × List Token)} (Some (a, [])) (Some (b, u ∷ us)) → ⊥
apart a b u us h = let same : [] ≡ u ∷ us = ap left h in cc
  where
    left : Option (Tree × List Token) → List Token
    left None = []
    left (Some found) = found.1

nothing : (a : Tree × List Token) → ◌≡◌ {A = Option (Tree × List Token)} None (Some a) → ⊥
nothing a h = cc

-- where tokens are left over, no tree is spelled
pub left_over : (text : List ℕ) (room : ℕ) (ts : List Token) (s : Tree) (end : ℕ) → end < length ts → snippet_at text room ts ≡ Some (s, drop end ts) →
    (tree : Tree) → IsSnippet text room ts tree → ⊥
left_over text room ts s end l h tree d = rest (drop end ts) refl
  where
    rest : (us : List Token) → drop end ts ≡ us → ⊥
    rest [] k = let none : length ts - end ≡ 0 = sym (length-drop end ts) ∙ ap length k in absurd (omega arith)
    rest (u ∷ us) k = apart tree s u us (sym (complete_snippet_whole text room ts tree d) ∙ h ∙ ap (λ us. Some (s, us)) k)

-- where nothing is read, no tree is spelled
unread : (text : List ℕ) (room : ℕ) (ts : List Token) (at : ℕ) (e : ParseError) → Reads ts at (snippet_at text room ts) (Err e) → e ≢ error.NoMemory →
    (tree : Tree) → IsSnippet text room ts tree → ⊥
unread text room ts at error.NoMemory h n tree d = n refl
unread text room ts at (error.Wanted place wanted) h n tree d = nothing (tree, []) (sym h ∙ complete_snippet_whole text room ts tree d)
unread text room ts at (error.TooDeep limit) h n tree d = nothing (tree, []) (sym h.0 ∙ complete_snippet_whole text room ts tree d)

-- an error that is handed on refuses every tree
pub refuses_trees : {A : Type 0} (text : List ℕ) (room : ℕ) (ts : List Token) (at : ℕ) (e : ParseError) (r : Result A ParseError) → IsErrAnd r (λ f. f ≡ e) →
    Reads ts at (snippet_at text room ts) (Err e) → IfErr r (λ f. f ≢ error.NoMemory → (tree : Tree) → IsSnippet text room ts tree → ⊥)
refuses_trees text room ts at e (Ok a) same h = absurd same
refuses_trees text room ts at e (Err f) same h = λ n. unread text room ts at e h (λ k. n (same ∙ k))

-- where neither the tokens nor these and a semicolon are a snippet, they are no source
pub no_source : (text : List ℕ) (room : ℕ) (ts : List Token) → ((tree : Tree) → IsSnippet text room ts tree → ⊥) →
    ((tree : Tree) → IsSnippet text room (ts ++ semicolon_at_end text ∷ []) tree → ⊥) → (tree : Tree) → IsSource text room ts tree → ⊥
no_source text room ts h k tree (as_it_stands d) = h tree d
no_source text room ts h k tree (with_semicolon refused d) = k tree d
