-- What the code knows of a text and its tokens.
use Rattle.std.specs.Prelude.{◌≡◌, ℕ, ◌+◌, ◌-◌, ◌<◌, ◌^◌, List, [], ◌∷◌, length, drop, reverse, Option}
use Rattle.std.specs.Str.{IsCharBoundary}
use Rattle.jsh_tree.specs.declared.token.Token.{Token}
use Rattle.jsh_lex.specs.Chars.{drop_while}
use Rattle.jsh_lex.specs.declared.lexeme.LexFault.{LexFault}
use Rattle.jsh_lex.specs.Lexis.{Lexed}
use Rattle.jsh_lex.specs.Lexis as lexis
use Rattle.jsh_pieces.specs.Pieces.{moved_lexed, joined}
use Rattle.jsh_tree.specs.Text.{is_white}
use Rattle.jsh_complete.specs.declared.reading.Reader.{Reader}
use Rattle.jsh_complete.specs.Reading.{HasRead}
use Rattle.jsh_cut.specs.declared.onward.Onward.{Onward}
use Rattle.jsh_cut.specs.declared.onward.Onward.TheVariants.{Stays, From, Anew}
use Rattle.jsh_cut.specs.declared.scan.Scan.{Scan}
use Rattle.jsh_cut.specs.Commands.{fault_of}

-- the tokens of a text up to its first fault, and the kind of that fault
pub record IsScanOf (text : List ℕ) (scan : Scan) : Type 0 where
  pub tokens : scan.tokens ≡ (lexis.tokens text).tokens
  pub fault : scan.fault ≡ fault_of (lexis.tokens text)

-- tokens, and the fault behind them
abbrev pub lexed_as : List Token → Option (LexFault × ℕ) → Lexed
lexed_as ts fault = record { tokens = ts; fault = fault }

-- these tokens and this fault are those of the text, once it is lexed so
abbrev pub Goes : List ℕ → Lexed → Onward → Type 0
Goes text before Stays = lexis.tokens text ≡ before
Goes text before (From place) =
    IsCharBoundary text place × (lexis.tokens text ≡ joined before.tokens (moved_lexed place (lexis.tokens (drop place text))))
Goes text before Anew = Unit {0}

-- the tokens have places so many bytes further
abbrev pub EachFits : ℕ → List Token → Type 0
EachFits by [] = Unit {0}
EachFits by (t ∷ ts) = (by + t.span.from < 2 ^ 32) × (by + t.span.to < 2 ^ 32) × EachFits by ts

-- what is known of a text that waits: its tokens and its first fault, the places of its first character that isn't white and behind the last one, and
-- how far the tokens were read
pub record IsKnown (text : List ℕ) (ts : List Token) (fault : Option (LexFault × ℕ)) (first last : ℕ) (reader : Reader) : Type 0 where
  pub short : length text < 2 ^ 32
  pub lexed : lexis.tokens text ≡ lexed_as ts fault
  pub begins : first ≡ length text - length (drop_while is_white text)
  pub begins_between : IsCharBoundary text first
  pub ends : last ≡ length (drop_while is_white (reverse text))
  pub ends_between : IsCharBoundary text last
  pub read : HasRead ts reader
