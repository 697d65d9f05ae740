-- What is left of a text behind a snippet: it was lexed with the whole text, and its tokens have their places there.
use Rattle.std.specs.Prelude.{◌≡◌, ℕ, List, map, Option}
use Rattle.jsh_tree.specs.declared.token.Token.{Token}
use Rattle.jsh_lex.specs.declared.lexeme.LexFault.{LexFault}
use Rattle.jsh_lex.specs.Lexis as lexis
use Rattle.jsh_pieces.specs.Pieces.{moved}
use Rattle.jsh_cut.specs.Commands.{fault_of}

-- the tokens of a rest that begins at a place, in places of the whole text
abbrev pub placed : ℕ → List ℕ → List Token
placed base rest = map (moved base) (lexis.tokens rest).tokens

-- the tokens of a rest up to its first fault, so placed, and the kind of that fault
pub record IsRest (base : ℕ) (rest : List ℕ) (ts : List Token) (found : Option LexFault) : Type 0 where
  pub tokens : ts ≡ placed base rest
  pub fault : found ≡ fault_of (lexis.tokens rest)
