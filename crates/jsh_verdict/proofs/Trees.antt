-- The tree of a source by the reader is its tree by the grammar.
use Rattle.std.proofs.Common.{◌≡◌, ℕ, List, [], ◌∷◌, ◌++◌, Option, Some, None, refl, ap, sym, ◌∙◌}
use Rattle.std.specs.Option.{option_or}
use Rattle.jsh_tree.specs.declared.token.Token.{Token}
use Rattle.jsh_tree.specs.declared.tree.Tree.{Tree}
use Rattle.jsh_parse.specs.Reading.{semicolon_at_end}
use Rattle.jsh_decl.specs.Declarations.{IsSnippet, IsSource, as_it_stands, with_semicolon}
use Rattle.jsh_decl.specs.DeclarationReader.{snippet_at}
use Rattle.jsh_decl.proofs.SoundSnippets.{snippet_sound_whole}
use Rattle.jsh_decl.proofs.Complete.{complete_snippet_whole}
use Rattle.jsh_verdict.specs.Verdict.{of_all, snippet_of, source_tree}

read_of_all : (found : Option (Tree × List Token)) (tree : Tree) → of_all found ≡ Some tree → found ≡ Some (tree, [])
read_of_all None tree is = absurd cc
read_of_all (Some (found, [])) tree is = cc
read_of_all (Some (found, t ∷ rest)) tree is = absurd cc

snippet_found : (text : List ℕ) (ts : List Token) (tree : Tree) → snippet_of text ts ≡ Some tree → IsSnippet text 256 ts tree
snippet_found text ts tree is = snippet_sound_whole text 256 ts tree (read_of_all (snippet_at text 256 ts) tree is)

snippet_read : (text : List ℕ) (ts : List Token) (tree : Tree) → IsSnippet text 256 ts tree → snippet_of text ts ≡ Some tree
snippet_read text ts tree d = ap of_all (complete_snippet_whole text 256 ts tree d)

snippet_missing : (text : List ℕ) (ts : List Token) (tree : Tree) → snippet_of text ts ≡ None → IsSnippet text 256 ts tree → ⊥
snippet_missing text ts tree is d = let found = snippet_read text ts tree d in absurd cc

no_snippet_read : (text : List ℕ) (ts : List Token) → ((tree : Tree) → IsSnippet text 256 ts tree → ⊥) → snippet_of text ts ≡ None
no_snippet_read text ts none = by (snippet_of text ts) refl
  where
    by : (found : Option Tree) → snippet_of text ts ≡ found → snippet_of text ts ≡ None
    by None is = is
    by (Some tree) is = absurd (none tree (snippet_found text ts tree is))

pub source_found : (text : List ℕ) (ts : List Token) (tree : Tree) → source_tree text ts ≡ Some tree → IsSource text 256 ts tree
source_found text ts tree is = by (snippet_of text ts) refl is
  where
    by : (own : Option Tree) → snippet_of text ts ≡ own → option_or own (snippet_of text (ts ++ semicolon_at_end text ∷ [])) ≡ Some tree →
        IsSource text 256 ts tree
    by None own is = with_semicolon (λ other d. snippet_missing text ts other own d) (snippet_found text (ts ++ semicolon_at_end text ∷ []) tree is)
    by (Some found) own is = as_it_stands (snippet_found text ts tree (own ∙ is))

pub source_read : (text : List ℕ) (ts : List Token) (tree : Tree) → IsSource text 256 ts tree → source_tree text ts ≡ Some tree
source_read text ts tree (as_it_stands d) = rw (snippet_read text ts tree d) refl
source_read text ts tree (with_semicolon none d) = rw (no_snippet_read text ts none) (snippet_read text (ts ++ semicolon_at_end text ∷ []) tree d)

pub source_missing : (text : List ℕ) (ts : List Token) → source_tree text ts ≡ None → (tree : Tree) → IsSource text 256 ts tree → ⊥
source_missing text ts is tree d = let found = source_read text ts tree d in absurd cc

pub no_source_read : (text : List ℕ) (ts : List Token) → ((tree : Tree) → IsSource text 256 ts tree → ⊥) → source_tree text ts ≡ None
no_source_read text ts none = by (source_tree text ts) refl
  where
    by : (found : Option Tree) → source_tree text ts ≡ found → source_tree text ts ≡ None
    by None is = is
    by (Some tree) is = absurd (none tree (source_found text ts tree is))
