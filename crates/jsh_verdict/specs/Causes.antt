-- Why a source is accepted or rejected, in words of the lexis and the grammar, apart from any reader.
use Rattle.std.specs.Prelude.{◌≡◌, ◌≢◌, ℕ, List, [], ◌∷◌, map, take, drop, Some, None}
use Rattle.jsh_tree.specs.declared.token.Token.{Token}
use Rattle.jsh_tree.specs.declared.tree.Tree.{Tree}
use Rattle.jsh_sum.specs.declared.sums.Sum.{Sum}
use Rattle.jsh_tree.specs.declared.diagnostic.Diagnostic.{Diagnostic}
use Rattle.jsh_tree.specs.declared.diagnostic.Code.TheVariants as code
use Rattle.jsh_lex.specs.declared.lexeme.LexFault.{LexFault}
use Rattle.jsh_lex.specs.Lexis.{tokens, whole}
use Rattle.jsh_grammar.specs.Productions.{snippet}
use Rattle.jsh_grammar.specs.Fronts.{IsPrefix}
use Rattle.jsh_recognizer.specs.Recognizing.{kinds}
use Rattle.jsh_recognizer.specs.Stops.{IsStuck, IsDeeper}
use Rattle.jsh_parse.specs.Refusals.{place_of}
use Rattle.jsh_decl.specs.Declarations.{IsSource}
use Rattle.jsh_sum.specs.declared.reading.Reading.{Reading}
use Rattle.jsh_sum.specs.Reading.{sum_of}
use Rattle.jsh_verdict.specs.Diagnostics.{diagnostic, lexical_code}

-- the source has tokens, these, and no fault
abbrev pub HasTokens : List ℕ → List Token → Type 0
HasTokens source ts = (tokens source ≡ whole ts) × (ts ≢ [])

-- its tokens are the sources of no tree
abbrev pub IsNoSource : List ℕ → List Token → Type 0
IsNoSource source ts = HasTokens source ts × ((tree : Tree) → IsSource source 256 ts tree → ⊥)

-- it is the source of a tree
abbrev pub IsSourceOf : List ℕ → Tree → Type 0
IsSourceOf source tree = (ts : List Token) × HasTokens source ts × IsSource source 256 ts tree

-- The source is a sum, and none of its literals is too big.
abbrev pub IsAccepted : List ℕ → Sum → Type 0
IsAccepted source sum = (tree : Tree) × IsSourceOf source tree × (sum_of tree ≡ Some (record { sum = sum; too_big = [] }))

-- Why a source is rejected with these diagnostics.
pub data IsRejected (source : List ℕ) (ds : List Diagnostic) : Type 0 where
  -- it has no token
  no_snippet : tokens source ≡ whole [] → ds ≡ diagnostic code.NoSnippet 0 ∷ [] → IsRejected source ds
  -- it has a fault of the lexis, and this is the first one
  faulty : (before : List Token) (kind : LexFault) (place : ℕ) → tokens source ≡ record { tokens = before; fault = Some (kind, place) } →
      ds ≡ diagnostic (lexical_code kind) place ∷ [] → IsRejected source ds
  -- its tokens are no snippet, and stop being a prefix of one behind so many of them, with the next one or at the end of the text
  unexpected : (ts : List Token) (read : ℕ) → IsNoSource source ts → IsPrefix snippet 256 (kinds (take read ts)) → IsStuck snippet ts read →
      ds ≡ diagnostic code.Unexpected (place_of source (drop read ts)) ∷ [] → IsRejected source ds
  -- they are no snippet, and the first one with which they are no prefix stands too deep
  too_deep : (ts : List Token) (read : ℕ) → IsNoSource source ts → IsPrefix snippet 256 (kinds (take read ts)) → IsDeeper snippet 256 ts read →
      ds ≡ diagnostic code.TooDeep 0 ∷ [] → IsRejected source ds
  -- it is a snippet, but no sum
  not_yet : (tree : Tree) → IsSourceOf source tree → sum_of tree ≡ None → ds ≡ diagnostic code.NotYet 0 ∷ [] → IsRejected source ds
  -- it is a sum with literals that are too big: a diagnostic for each
  too_big : (tree : Tree) (reading : Reading) → IsSourceOf source tree → sum_of tree ≡ Some reading → reading.too_big ≢ [] →
      ds ≡ map (diagnostic code.NumberTooBig) reading.too_big → IsRejected source ds
