-- Whether a text is whole, and where its first snippet ends: the first of seven rules that applies.
use Rattle.std.specs.Prelude.{ℕ, ◌<◌, ◌≤◌, ◌≡◌, ◌⊎◌, List, [], ◌∷◌, ◌++◌, take, length, Option, Some, None}
use Rattle.jsh_tree.specs.declared.token.Token.{Token}
use Rattle.jsh_tree.specs.declared.token.TokenKind.{TokenKind}
use Rattle.jsh_tree.specs.declared.token.TokenKind.TheVariants as token
use Rattle.jsh_lex.specs.declared.lexeme.LexFault.{LexFault}
use Rattle.jsh_lex.specs.declared.lexeme.LexFault.TheVariants as lexical
use Rattle.jsh_grammar.specs.Productions.{snippet}
use Rattle.jsh_grammar.specs.Fronts.{IsWhole, IsViable, IsPrefix}
use Rattle.jsh_recognizer.specs.Recognizing.{kinds}
use Rattle.jsh_recognizer.specs.Stops.{IsDeeper}
use Rattle.jsh_complete.specs.declared.completion.Completeness.{Completeness}
use Rattle.jsh_complete.specs.declared.completion.Completeness.TheVariants as completeness
use Rattle.jsh_complete.specs.declared.completion.Completion.{Completion}

-- what stands behind the tokens that count: the end of the text, a fault of the lexis, or a token that stands deeper than 256
pub data Stop : Type 0 where
  at_end : Stop
  at_fault : LexFault → Stop
  too_deep : Stop

abbrev pub lexical_stop : Option LexFault → Stop
lexical_stop None = at_end
lexical_stop (Some fault) = at_fault fault

-- so many tokens are a prefix of a snippet, and the next one stands deeper than 256
abbrev pub IsTooDeep : List Token → ℕ → Type 0
IsTooDeep ts read = IsPrefix snippet 256 (kinds (take read ts)) × IsDeeper snippet 256 ts read

-- The tokens that count, and what stands behind them. A token that stands too deep is a fault, and comes before that of the lexis.
pub data Counts (ts : List Token) (fault : Option LexFault) : List Token → Stop → Type 0 where
  all : ((read : ℕ) → IsTooDeep ts read → ⊥) → Counts ts fault ts (lexical_stop fault)
  some : (read : ℕ) → IsTooDeep ts read → Counts ts fault (take read ts) too_deep

-- a snippet, with no more than 256 parts in one another
abbrev pub IsSnippet : List TokenKind → Type 0
IsSnippet ks = IsWhole snippet 256 ks

-- more tokens make it a snippet
abbrev pub MayGoOn : List TokenKind → Type 0
MayGoOn ks = (room : ℕ) × IsViable snippet room ks

-- With `;` it is a snippet, in which that `;` isn't an empty statement: no block could begin in its place.
abbrev pub LacksSemicolon : List TokenKind → Type 0
LacksSemicolon ks = IsSnippet (ks ++ token.Semicolon ∷ []) × ((room : ℕ) → IsPrefix snippet room (ks ++ token.LeftBrace ∷ []) → ⊥)

-- the rules, in their order
pub data Rule : Type 0 where
  no_tokens : Rule
  else_may_follow : Rule
  whole : Rule
  lacks_semicolon : Rule
  lacks_more : Rule
  begins_whole : Rule
  otherwise : Rule

-- the rule applies to the tokens that count
abbrev pub Applies : List TokenKind → Stop → Rule → Type 0
Applies ks stop no_tokens = (stop ≡ at_end) × (ks ≡ [])
Applies ks stop else_may_follow = (stop ≡ at_end) × IsSnippet ks × MayGoOn (ks ++ token.Else ∷ [])
Applies ks stop whole = (stop ≡ at_end) × IsSnippet ks
Applies ks stop lacks_semicolon = (stop ≡ at_end) × LacksSemicolon ks
Applies ks stop lacks_more = ((stop ≡ at_end) × MayGoOn ks) ⊎ ((stop ≡ at_fault lexical.OpenComment) × ((ks ≡ []) ⊎ MayGoOn ks))
Applies ks stop begins_whole = (n : ℕ) × (0 < n) × IsSnippet (take n ks)
Applies ks stop otherwise = Unit {0}

-- the rules before one
abbrev pub before : Rule → List Rule
before no_tokens = []
before else_may_follow = no_tokens ∷ []
before whole = no_tokens ∷ else_may_follow ∷ []
before lacks_semicolon = no_tokens ∷ else_may_follow ∷ whole ∷ []
before lacks_more = no_tokens ∷ else_may_follow ∷ whole ∷ lacks_semicolon ∷ []
before begins_whole = no_tokens ∷ else_may_follow ∷ whole ∷ lacks_semicolon ∷ lacks_more ∷ []
before otherwise = no_tokens ∷ else_may_follow ∷ whole ∷ lacks_semicolon ∷ lacks_more ∷ begins_whole ∷ []

-- none of them applies
abbrev pub NoneApplies : List TokenKind → Stop → List Rule → Type 0
NoneApplies ks stop [] = Unit {0}
NoneApplies ks stop (rule ∷ rules) = (Applies ks stop rule → ⊥) × NoneApplies ks stop rules

-- what each rule gives
abbrev pub kind_by : Rule → Completeness
kind_by no_tokens = completeness.Empty
kind_by else_may_follow = completeness.ConsideredIncomplete
kind_by whole = completeness.Complete
kind_by lacks_semicolon = completeness.CompleteWithSemi
kind_by lacks_more = completeness.DefinitelyIncomplete
kind_by begins_whole = completeness.Complete
kind_by otherwise = completeness.Unknown

-- the end of the last of these tokens
abbrev pub end_of : List Token → ℕ
end_of [] = 0
end_of (t ∷ []) = t.span.to
end_of (t ∷ u ∷ ts) = end_of (u ∷ ts)

-- it is the end of the longest snippet that the tokens begin with
abbrev pub IsEndOfLongest : List Token → ℕ → Type 0
IsEndOfLongest ts end =
    (n : ℕ) × IsSnippet (kinds (take n ts)) × ((m : ℕ) → n < m → m ≤ length ts → IsSnippet (kinds (take m ts)) → ⊥) × (end ≡ end_of (take n ts))

-- the end that a rule gives: that of the first snippet, or else that of the text
abbrev pub IsEndBy : Rule → List ℕ → List Token → ℕ → Type 0
IsEndBy whole text ts end = IsEndOfLongest ts end
IsEndBy begins_whole text ts end = IsEndOfLongest ts end
IsEndBy _ text ts end = end ≡ length text

-- what the first rule that applies gives, for the tokens of a text, or those before its first fault, with that fault
pub data IsCompletion (text : List ℕ) (ts : List Token) (fault : Option LexFault) (c : Completion) : Type 0 where
  by_rule : {counted : List Token} {stop : Stop} (rule : Rule) → Counts ts fault counted stop → Applies (kinds counted) stop rule →
      NoneApplies (kinds counted) stop (before rule) → c.kind ≡ kind_by rule → IsEndBy rule text counted c.end → IsCompletion text ts fault c
