-- What becomes of a source, as a function.
use Rattle.std.specs.Prelude.{ℕ, List, [], ◌∷◌, ◌++◌, map, drop, Option, Some, None}
use Rattle.std.specs.Option.{option_or}
use Rattle.jsh_tree.specs.declared.token.Token.{Token}
use Rattle.jsh_tree.specs.declared.tree.Tree.{Tree}
use Rattle.jsh_tree.specs.declared.diagnostic.Diagnostic.{Diagnostic}
use Rattle.jsh_tree.specs.declared.diagnostic.Code.TheVariants as code
use Rattle.jsh_lex.specs.declared.lexeme.LexFault.{LexFault}
use Rattle.jsh_lex.specs.Lexis.{Lexed, tokens}
use Rattle.jsh_recognizer.specs.declared.recognizer.Start.TheVariants as start
use Rattle.jsh_recognizer.specs.Recognizing.{first, kinds}
use Rattle.jsh_recognizer.specs.Reach.{Reach, Reason, too_deep, reach}
use Rattle.jsh_parse.specs.Reading.{semicolon_at_end}
use Rattle.jsh_parse.specs.Refusals.{place_of}
use Rattle.jsh_decl.specs.DeclarationReader.{snippet_at}
use Rattle.jsh_sum.specs.declared.reading.Reading.{Reading}
use Rattle.jsh_sum.specs.declared.sums.Sum.{Sum}
use Rattle.jsh_sum.specs.Reading.{sum_of}
use Rattle.jsh_verdict.specs.declared.verdict.Verdict.{Verdict}
use Rattle.jsh_verdict.specs.declared.verdict.Verdict.TheVariants.{Accepted, Rejected}
use Rattle.jsh_verdict.specs.Diagnostics.{diagnostic, lexical_code}

-- a tree that is read of all tokens
abbrev pub of_all : Option (Tree × List Token) → Option Tree
of_all None = None
of_all (Some (tree, [])) = Some tree
of_all (Some (tree, t ∷ rest)) = None

-- the tree of all tokens, where they are one snippet
abbrev pub snippet_of : List ℕ → List Token → Option Tree
snippet_of text ts = of_all (snippet_at text 256 ts)

-- the tree of a source: that of its tokens, or else that of these and a semicolon
abbrev pub source_tree : List ℕ → List Token → Option Tree
source_tree text ts = option_or (snippet_of text ts) (snippet_of text (ts ++ semicolon_at_end text ∷ []))

-- one diagnostic for each place of a literal that is too big, if there is one
abbrev pub judged_sum : Sum → List ℕ → Verdict
judged_sum sum [] = Accepted sum
judged_sum sum (place ∷ places) = Rejected (map (diagnostic code.NumberTooBig) (place ∷ places))

-- what becomes of a tree, by the sum that it is
abbrev pub judged_reading : Option Reading → Verdict
judged_reading None = Rejected (diagnostic code.NotYet 0 ∷ [])
judged_reading (Some reading) = judged_sum reading.sum reading.too_big

abbrev pub judged : Tree → Verdict
judged tree = judged_reading (sum_of tree)

-- Tokens that are no snippet: they are read as far as they are a prefix of one, and the next one, or the end of the text, is unexpected; or the
-- next one stands too deep.
abbrev pub refusal_at : List ℕ → List Token → Reach → Diagnostic
refusal_at text ts reached = by reached.reason
  where
    by : Reason → Diagnostic
    by too_deep = diagnostic code.TooDeep 0
    by _ = diagnostic code.Unexpected (place_of text (drop reached.read ts))

unfoldable pub refusal : List ℕ → List Token → Diagnostic
refusal text ts = refusal_at text ts (reach 256 (first start.Snippet) (kinds ts))

-- what becomes of tokens, by their tree
abbrev pub judged_source : List ℕ → List Token → Option Tree → Verdict
judged_source text ts None = Rejected (refusal text ts ∷ [])
judged_source text ts (Some tree) = judged tree

-- the tree of tokens, if they are a snippet; none are none
abbrev pub tree_of_tokens : List ℕ → List Token → Option Tree
tree_of_tokens text [] = None
tree_of_tokens text (t ∷ ts) = source_tree text (t ∷ ts)

-- what becomes of tokens without fault
abbrev pub judged_tokens : List ℕ → List Token → Verdict
judged_tokens text [] = Rejected (diagnostic code.NoSnippet 0 ∷ [])
judged_tokens text (t ∷ ts) = judged_source text (t ∷ ts) (source_tree text (t ∷ ts))

-- the tree of what the lexis gives
abbrev pub tree_of_lexed : List ℕ → Lexed → Option Tree
tree_of_lexed text lexed = by lexed.fault
  where
    by : Option (LexFault × ℕ) → Option Tree
    by None = tree_of_tokens text lexed.tokens
    by (Some fault) = None

-- the tree of a source, if it is a snippet
unfoldable pub tree_of : List ℕ → Option Tree
tree_of source = tree_of_lexed source (tokens source)

-- what becomes of what the lexis gives
abbrev pub judged_lexed : List ℕ → Lexed → Verdict
judged_lexed text lexed = by lexed.fault
  where
    by : Option (LexFault × ℕ) → Verdict
    by None = judged_tokens text lexed.tokens
    by (Some (kind, place)) = Rejected (diagnostic (lexical_code kind) place ∷ [])

-- the verdict on a source
unfoldable pub verdict : List ℕ → Verdict
verdict source = judged_lexed source (tokens source)
