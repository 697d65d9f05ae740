-- The words that a command begins with, and what follows one.
use Rattle.std.specs.Cmp.Lexicographic.{pointwise}
use Rattle.std.specs.Prelude.{ℕ, nat_eq, Bool, not, List, [], ◌∷◌, Option, None, Some, codes, if◌then◌else◌}
use Rattle.jsh_lex.specs.Chars.{take_while, drop_while}
use Rattle.jsh_lines.specs.declared.edge.Edge.TheVariants.{Blank}
use Rattle.jsh_lines.specs.Edges.{is_space, behind_front, before_back}
use Rattle.jsh_commands.specs.declared.words.Word.{Word}
use Rattle.jsh_commands.specs.declared.words.Word.TheVariants.{List as ListWord, Vars, Methods, Types, Imports, Threads, Help, Drop, Stop, Reset, Exit}

-- a line without the spaces and tabs at its ends
abbrev pub trimmed : List ℕ → List ℕ
trimmed line = before_back Blank (behind_front Blank line)

abbrev pub is_no_space : ℕ → Bool
is_no_space c = not (is_space c)

-- the first word of a text that begins with one
abbrev pub first_word : List ℕ → List ℕ
first_word text = take_while is_no_space text

-- what follows that word, without the spaces and tabs between
abbrev pub argument : List ℕ → List ℕ
argument text = behind_front Blank (drop_while is_no_space text)

-- each word with its spelling
abbrev pub spellings : List (List ℕ × Word)
spellings =
    (codes "/list", ListWord) ∷
    (codes "/vars", Vars) ∷
    (codes "/methods", Methods) ∷
    (codes "/types", Types) ∷
    (codes "/imports", Imports) ∷
    (codes "/threads", Threads) ∷
    (codes "/help", Help) ∷
    (codes "/?", Help) ∷
    (codes "/drop", Drop) ∷
    (codes "/stop", Stop) ∷
    (codes "/reset", Reset) ∷
    (codes "/exit", Exit) ∷ []

abbrev pub word_in : List (List ℕ × Word) → List ℕ → Option Word
word_in [] text = None
word_in (entry ∷ entries) text = if pointwise nat_eq entry.0 text then Some entry.1 else word_in entries text

-- the word that is spelled so
unfoldable pub word_of : List ℕ → Option Word
word_of = word_in spellings
