-- How far the tokens of a text lead, and what follows for the text.
use Rattle.std.specs.Prelude.{ℕ, suc, ◌<◌, ◌≤◌, ◌≡◌, ◌⊎◌, List, [], ◌∷◌, ◌++◌, take, length, Option}
use Rattle.jsh_tree.specs.declared.token.Token.{Token}
use Rattle.jsh_tree.specs.declared.token.TokenKind.{TokenKind}
use Rattle.jsh_lex.specs.declared.lexeme.LexFault.{LexFault}
use Rattle.jsh_grammar.specs.Productions.{snippet}
use Rattle.jsh_grammar.specs.Fronts.{IsPrefix}
use Rattle.jsh_recognizer.specs.Machine.{Frames, Runs}
use Rattle.jsh_recognizer.specs.declared.recognizer.Start.TheVariants as start
use Rattle.jsh_recognizer.specs.Recognizing.{first, kinds}
use Rattle.jsh_recognizer.specs.Stacks.{frames_of}
use Rattle.jsh_recognizer.specs.Stops.{IsDeeper}
use Rattle.jsh_complete.specs.declared.completion.Completeness.{Completeness}
use Rattle.jsh_complete.specs.declared.reading.Halt.{Halt}
use Rattle.jsh_complete.specs.declared.reading.Halt.TheVariants as halt
use Rattle.jsh_complete.specs.declared.reading.Reader.{Reader}
use Rattle.jsh_complete.specs.Completeness.{Stop, too_deep, lexical_stop, IsSnippet, MayGoOn, Rule, Applies, NoneApplies, before, kind_by}

-- these frames stand behind these kinds
abbrev pub IsBehind : List TokenKind → Frames → Type 0
IsBehind ks last = Runs 256 (first start.Snippet) ks last

-- such a token may come behind these kinds, in some room
abbrev pub MayCome : List TokenKind → TokenKind → Type 0
MayCome ks k = (room : ℕ) × IsPrefix snippet room (ks ++ k ∷ [])

-- there are no tokens yet, or more make them a snippet
abbrev pub IsOpen : List TokenKind → Type 0
IsOpen ks = (ks ≡ []) ⊎ MayGoOn ks

-- Of the fronts of the tokens with up to so many, this is the longest that is a snippet, or none is one and it is 0.
abbrev pub IsLongest : List Token → ℕ → ℕ → Type 0
IsLongest ts most longest =
    (longest ≤ most) × (0 < longest → IsSnippet (kinds (take longest ts))) ×
    ((m : ℕ) → longest < m → m ≤ most → IsSnippet (kinds (take m ts)) → ⊥)

-- so many of the tokens were taken, and the longest snippet that they begin with is known
pub record HasRead (ts : List Token) (reader : Reader) : Type 0 where
  pub few : reader.taken ≤ length ts
  pub behind : IsBehind (kinds (take reader.taken ts)) (frames_of reader.recognizer.stack)
  pub longest : IsLongest ts reader.taken reader.longest

-- why no more than so many tokens were taken
abbrev pub Halts : List Token → ℕ → Halt → Type 0
Halts ts taken halt.AtEnd = taken ≡ length ts
Halts ts taken halt.TooDeep = (taken < length ts) × IsDeeper snippet 256 ts taken
Halts ts taken halt.Refused = (taken < length ts) × ((room : ℕ) → IsPrefix snippet room (kinds (take (suc taken) ts)) → ⊥)

-- the tokens that count
abbrev pub counted_of : List Token → ℕ → Halt → List Token
counted_of ts taken halt.TooDeep = take taken ts
counted_of ts taken _ = ts

-- and what stands behind them
abbrev pub stop_of : Option LexFault → Halt → Stop
stop_of fault halt.TooDeep = too_deep
stop_of fault _ = lexical_stop fault

-- the first rule that applies gives this kind
abbrev pub IsGiven : List TokenKind → Stop → Completeness → Type 0
IsGiven ks stop kind = (rule : Rule) × Applies ks stop rule × NoneApplies ks stop (before rule) × (kind ≡ kind_by rule)
