-- Character and string literals (JLS 3.10.4, 3.10.5, 3.10.7). A content is what stands between the quotes.
use Rattle.std.specs.Prelude.{ℕ, ◌+◌, ◌-◌, ◌*◌, Bool, true, false, not, ◌&&◌, ◌||◌, if◌then◌else◌, ◌==◌, nat_lt, List, [], ◌∷◌, Option, Some, None}
use Rattle.jsh_tree.specs.declared.token.TokenKind.TheVariants.{CharLiteral, StringLiteral}
use Rattle.jsh_lex.specs.declared.lexeme.LexFault.TheVariants.{BadEscape, BadCharLiteral}
use Rattle.jsh_lex.specs.declared.lexeme.Lexeme.{Lexeme}
use Rattle.jsh_lex.specs.declared.lexeme.Lexeme.TheVariants.{Spelled, Wrong}
use Rattle.jsh_lex.specs.Chars.{is_line_end}

-- whether the next character is escaped, behind a character that is escaped or not
abbrev pub escapes_next : Bool → ℕ → Bool
escapes_next escaped c = not escaped && c == 92

-- the text behind the closing quote, which stands on the same line and isn't escaped; the flag says whether the first character is
abbrev pub behind_quote : ℕ → Bool → List ℕ → Option (List ℕ)
behind_quote quote escaped [] = None
behind_quote quote escaped (c ∷ cs) =
    if is_line_end c then None
    else (if not escaped && c == quote then Some cs else behind_quote quote (escapes_next escaped c) cs)

-- the content in front of the closing quote
abbrev pub content : ℕ → Bool → List ℕ → List ℕ
content quote escaped [] = []
content quote escaped (c ∷ cs) = if not escaped && c == quote then [] else c ∷ content quote (escapes_next escaped c) cs

abbrev pub is_octal : ℕ → Bool
is_octal c = nat_lt 47 c && nat_lt c 56

-- the unit of an escape of one letter: b s t n f r " ' \
abbrev pub letter_escape : ℕ → Option ℕ
letter_escape c =
    if c == 98 then Some 8 else (if c == 115 then Some 32 else (if c == 116 then Some 9 else (if c == 110 then Some 10
    else (if c == 102 then Some 12 else (if c == 114 then Some 13 else (if c == 34 || c == 39 || c == 92 then Some c else None))))))

-- an escape may begin with this character
abbrev pub begins_escape : ℕ → Bool
begins_escape c = c == 98 || c == 115 || c == 116 || c == 110 || c == 102 || c == 114 || c == 34 || c == 39 || c == 92 || is_octal c

-- behind each backslash of the content stands an escape
abbrev pub escapes_hold : Bool → List ℕ → Bool
escapes_hold escaped [] = not escaped
escapes_hold escaped (c ∷ cs) = (if escaped then begins_escape c else true) && escapes_hold (escapes_next escaped c) cs

-- the unit of an escape, from what stands behind its backslash: a letter, or octal digits up to 377
abbrev pub escape_unit : List ℕ → Option ℕ
escape_unit [] = None
escape_unit (c ∷ []) = if is_octal c then Some (c - 48) else letter_escape c
escape_unit (c ∷ d ∷ []) = if is_octal c && is_octal d then Some (8 * (c - 48) + (d - 48)) else None
escape_unit (c ∷ d ∷ e ∷ []) =
    if nat_lt c 52 && is_octal c && is_octal d && is_octal e then Some (64 * (c - 48) + 8 * (d - 48) + (e - 48)) else None
escape_unit (c ∷ d ∷ e ∷ f ∷ cs) = None

-- The UTF-16 unit that the content of a character literal spells, where it is one: a character of one unit, or an escape
abbrev pub unit_of : List ℕ → Option ℕ
unit_of [] = None
unit_of (c ∷ []) = if nat_lt c 65536 && not (c == 92) then Some c else None
unit_of (c ∷ d ∷ cs) = if c == 92 then escape_unit (d ∷ cs) else None

-- what a string literal with this content is
abbrev pub string : List ℕ → Lexeme
string inside = if escapes_hold false inside then Spelled StringLiteral else Wrong BadEscape

abbrev pub is_unit : Option ℕ → Bool
is_unit None = false
is_unit (Some u) = true

-- what a character literal with this content is
abbrev pub character : List ℕ → Lexeme
character inside =
    if escapes_hold false inside then (if is_unit (unit_of inside) then Spelled CharLiteral else Wrong BadCharLiteral) else Wrong BadEscape
