-- How far a list of tokens is a prefix, in words of the table.
use Rattle.std.specs.Prelude.{◌≡◌, ℕ, suc, List, [], ◌∷◌, ◌++◌, take, drop, Option, Some, None}
use Rattle.jsh_tree.specs.declared.token.TokenKind.{TokenKind}
use Rattle.jsh_tree.specs.declared.token.Token.{Token}
use Rattle.jsh_grammar.specs.Productions.{Part}
use Rattle.jsh_grammar.specs.Productions as table
use Rattle.jsh_grammar.specs.Fronts.{IsWhole, IsPrefix}
use Rattle.jsh_recognizer.specs.declared.recognizer.Start.{Start}
use Rattle.jsh_recognizer.specs.declared.recognizer.Start.TheVariants as start
use Rattle.jsh_recognizer.specs.declared.scanner.End.{End}
use Rattle.jsh_recognizer.specs.declared.scanner.End.TheVariants as end
use Rattle.jsh_recognizer.specs.declared.scanner.Scanned.{Scanned}
use Rattle.jsh_recognizer.specs.Recognizing.{kinds}

-- what a text should be, as a part of the table
abbrev pub part_of : Start → Part
part_of start.Expression = table.expression
part_of start.Statement = table.statement
part_of start.Snippet = table.snippet

-- a kind of token with which the kinds go on to be a prefix, or none where no kind does
abbrev pub GoesOn : Part → List TokenKind → Option TokenKind → Type 0
GoesOn n ks None = (room : ℕ) (k : TokenKind) → IsPrefix n room (ks ++ k ∷ []) → ⊥
GoesOn n ks (Some k) = (room : ℕ) × IsPrefix n room (ks ++ k ∷ [])

-- No token can come next: the tokens, which are so many and perhaps more, stop being a prefix with the next one, whatever the room; or
-- they end there, and aren't whole.
abbrev pub IsStuck : Part → List Token → ℕ → Type 0
IsStuck n ts read = by (drop read ts)
  where
    by : List Token → Type 0
    by [] = (room : ℕ) → IsWhole n room (kinds ts) → ⊥
    by (t ∷ rest) = (room : ℕ) → IsPrefix n room (kinds (take (suc read) ts)) → ⊥

-- The next token stands deeper than the limit: with it the tokens are a prefix, but in more room alone.
abbrev pub IsDeeper : Part → ℕ → List Token → ℕ → Type 0
IsDeeper n limit ts read =
    ((room : ℕ) × IsPrefix n room (kinds (take (suc read) ts))) × (IsPrefix n limit (kinds (take (suc read) ts)) → ⊥)

-- so many tokens are a prefix, and why the reading ended behind them
abbrev pub IsStop : Part → ℕ → List Token → Scanned → Type 0
IsStop n limit ts s = IsPrefix n limit (kinds (take s.read ts)) × by s.end
  where
    by : End → Type 0
    by end.Whole = IsWhole n limit (kinds ts)
    by (end.Open wanted) = (drop s.read ts ≡ []) × IsStuck n ts s.read × GoesOn n (kinds (take s.read ts)) wanted
    by end.TooDeep = IsDeeper n limit ts s.read
    by (end.Refused wanted) = ((t : Token) × (rest : List Token) × (drop s.read ts ≡ t ∷ rest)) × IsStuck n ts s.read × GoesOn n (kinds (take s.read ts)) wanted
