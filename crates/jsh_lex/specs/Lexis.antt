-- The tokens of a text (JLS 3.5): it is white space, comments and tokens, each the longest that begins at its place.
use Rattle.std.specs.Prelude.{ℕ, zero, suc, ◌-◌, false, ◌&&◌, if◌then◌else◌, ◌==◌, List, [], ◌∷◌, ◌≡◌, length, Option, Some, None, drop, encode_utf8_all, codes}
use Rattle.std.specs.Char.{is_ascii_digit}
use Rattle.std.specs.Str.{chars}
use Rattle.jsh_tree.specs.declared.token.Token.{Token}
use Rattle.jsh_lex.specs.declared.lexeme.LexError.{LexError}
use Rattle.jsh_lex.specs.declared.lexeme.LexError.TheVariants.{NoMemory, Fault}
use Rattle.jsh_lex.specs.declared.lexeme.LexFault.{LexFault}
use Rattle.jsh_lex.specs.declared.lexeme.LexFault.TheVariants.{OpenComment, OpenString, FloatNotHere}
use Rattle.jsh_lex.specs.declared.lexeme.Lexeme.{Lexeme}
use Rattle.jsh_lex.specs.declared.lexeme.Lexeme.TheVariants.{Gap, Spelled, Wrong}
use Rattle.jsh_tree.specs.Text.{is_white}
use Rattle.jsh_lex.specs.Chars.{is_in_line, is_identifier_start, is_identifier_part, take_while, drop_while, begins, first_passes, width}
use Rattle.jsh_lex.specs.Number.{is_float, integer}
use Rattle.jsh_lex.specs.Literal.{behind_quote, content, string, character}
use Rattle.jsh_lex.specs.Table.{word_kind, operator}

-- What stands at the front of a text, and the text behind it. Behind a fault nothing is read.
abbrev pub Front : Type 0
Front = Lexeme × List ℕ

-- the first character and all identifier characters behind it
abbrev pub word_chars : List ℕ → List ℕ
word_chars [] = []
word_chars (c ∷ cs) = c ∷ take_while is_identifier_part cs

abbrev pub word_bytes : List ℕ → List ℕ
word_bytes cs = encode_utf8_all (word_chars cs)

-- the text behind them
abbrev pub behind_word : List ℕ → List ℕ
behind_word [] = []
behind_word (c ∷ cs) = drop_while is_identifier_part cs

-- an identifier or a reserved word (JLS 3.8, 3.9)
abbrev pub word : List ℕ → Front
word cs = (Spelled (word_kind (word_bytes cs)), behind_word cs)

-- an integer literal, with all identifier characters that follow it (JLS 3.10.1)
abbrev pub number : List ℕ → Front
number cs = if is_float false cs then (Wrong FloatNotHere, []) else (integer (word_bytes cs), behind_word cs)

-- the text behind the first */ (JLS 3.7)
abbrev pub behind_comment : List ℕ → Option (List ℕ)
behind_comment [] = None
behind_comment (c ∷ cs) = if begins (codes "*/") (c ∷ cs) then Some (drop 1 cs) else behind_comment cs

abbrev pub closed_comment : Option (List ℕ) → Front
closed_comment None = (Wrong OpenComment, [])
closed_comment (Some rest) = (Gap, rest)

abbrev pub closed_literal : Lexeme → Option (List ℕ) → Front
closed_literal lexeme None = (Wrong OpenString, [])
closed_literal lexeme (Some rest) = (lexeme, rest)

-- a string literal and a character literal, from the text behind the opening quote (JLS 3.10.5, 3.10.4)
abbrev pub string_literal : List ℕ → Front
string_literal cs = closed_literal (string (content 34 false cs)) (behind_quote 34 false cs)

abbrev pub char_literal : List ℕ → Front
char_literal cs = closed_literal (character (content 39 false cs)) (behind_quote 39 false cs)

-- what stands at the front of a text that isn't empty
unfoldable pub front : List ℕ → Front
front [] = (Gap, [])
front (c ∷ cs) =
    if is_white c then (Gap, drop_while is_white cs)
    else (if begins (codes "//") (c ∷ cs) then (Gap, drop_while is_in_line cs)
    else (if begins (codes "/*") (c ∷ cs) then closed_comment (behind_comment (drop 1 cs))
    else (if is_identifier_start c then word (c ∷ cs)
    else (if is_ascii_digit c then number (c ∷ cs)
    else (if c == 46 && first_passes is_ascii_digit cs then (Wrong FloatNotHere, [])
    else (if c == 34 then string_literal cs
    else (if c == 39 then char_literal cs
    else operator (c ∷ cs))))))))

-- the tokens up to the end or to the first fault, which has a kind and a place in bytes
pub record Lexed : Type 0 where
  pub tokens : List Token
  pub fault : Option (LexFault × ℕ)

-- a text without fault
abbrev pub whole : List Token → Lexed
whole tokens = record { tokens = tokens; fault = None }

-- the bytes of a text in front of its rest
abbrev pub place : List ℕ → List ℕ → ℕ
place text rest = width text - width rest

abbrev pub add_token : Token → Lexed → Lexed
add_token token lexed = record { tokens = token ∷ lexed.tokens; fault = lexed.fault }

-- what a lexeme between two places adds to what follows it
abbrev pub add_lexeme : Lexeme → ℕ → ℕ → Lexed → Lexed
add_lexeme Gap from to rest = rest
add_lexeme (Spelled kind) from to rest = add_token (record { kind = kind; span = record { from = from; to = to } }) rest
add_lexeme (Wrong fault) from to rest = record { tokens = []; fault = Some (fault, from) }

-- The tokens of the rest of a text, which has at most so many lexemes. Each has a byte, so there are no more than bytes.
abbrev pub lexed : ℕ → List ℕ → List ℕ → Lexed
lexed at_most text [] = whole []
lexed zero text (c ∷ cs) = whole []
lexed (suc at_most) text (c ∷ cs) =
    add_lexeme (front (c ∷ cs)).0 (place text (c ∷ cs)) (place text (front (c ∷ cs)).1) (lexed at_most text (front (c ∷ cs)).1)

-- the tokens of a text, which is given as its bytes
unfoldable pub tokens : List ℕ → Lexed
tokens bytes = lexed (length bytes) (chars bytes) (chars bytes)

-- the error is the first fault of the text, with its kind, its place and the tokens in front of it; want of memory says nothing
abbrev pub IsFaultOf : List ℕ → LexError → Type 0
IsFaultOf bytes NoMemory = Unit {0}
IsFaultOf bytes (Fault kind place before) = tokens bytes ≡ record { tokens = before; fault = Some (kind, place) }
