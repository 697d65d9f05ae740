-- The spellings of each kind of token, as tests on lists of characters, and where the tokens of a text stand.
use Rattle.std.specs.Prelude.{◌≡◌, ℕ, ◌<◌, ◌≤◌, Bool, true, false, not, ◌&&◌, ◌==◌, ◌⊎◌, List, [], ◌∷◌, ◌++◌, length, slice_range, encode_utf8_all}
use Rattle.std.specs.Char.{is_ascii_digit}
use Rattle.std.specs.List.{list_all}
use Rattle.std.specs.Str.{chars, IsCharBoundary}
use Rattle.jsh_tree.specs.declared.token.Token.{Token}
use Rattle.jsh_tree.specs.declared.token.TokenKind.{TokenKind}
use Rattle.jsh_tree.specs.declared.token.TokenKind.TheVariants.{Identifier}
use Rattle.jsh_lex.specs.declared.lexeme.Lexeme.TheVariants.{Spelled}
use Rattle.jsh_lex.specs.Chars.{is_identifier_start, is_identifier_part, is_line_end}
use Rattle.jsh_lex.specs.Literal.{escapes_next, string, character}
use Rattle.jsh_lex.specs.Number.{integer}
use Rattle.jsh_lex.specs.Table.{operators, word_kind}

-- a word: a first character of identifiers, and further ones
abbrev pub is_word : List ℕ → Bool
is_word [] = false
is_word (c ∷ cs) = is_identifier_start c && list_all is_identifier_part cs

abbrev pub is_identifier_kind : TokenKind → Bool
is_identifier_kind Identifier = true
is_identifier_kind _ = false

-- the text, in UTF-8, is an identifier: a word that isn't reserved (JLS 3.8)
unfoldable pub is_identifier : List ℕ → Bool
is_identifier text = is_word (chars text) && is_identifier_kind (word_kind text)

-- a number: a digit, and characters of identifiers
abbrev pub is_number : List ℕ → Bool
is_number [] = false
is_number (c ∷ cs) = is_ascii_digit c && list_all is_identifier_part cs

-- the content of a literal: one line without its quote, other than behind a backslash; the flag says whether one stands before
abbrev pub is_content : ℕ → Bool → List ℕ → Bool
is_content quote escaped [] = not escaped
is_content quote escaped (c ∷ cs) = not (is_line_end c) && not (not escaped && c == quote) && is_content quote (escapes_next escaped c) cs

-- a spelling stands in the list with its kind
abbrev pub Lists : List (List ℕ × TokenKind) → List ℕ → TokenKind → Type 0
Lists [] s kind = ⊥
Lists (entry ∷ entries) s kind = ((entry.0 ≡ s) × (entry.1 ≡ kind)) ⊎ Lists entries s kind

-- the characters are a spelling of the kind
pub data Spells (kind : TokenKind) (s : List ℕ) : Type 0 where
  a_word : is_word s ≡ true → word_kind (encode_utf8_all s) ≡ kind → Spells kind s
  a_number : is_number s ≡ true → integer (encode_utf8_all s) ≡ Spelled kind → Spells kind s
  a_string : (inside : List ℕ) → s ≡ 34 ∷ (inside ++ 34 ∷ []) → is_content 34 false inside ≡ true → string inside ≡ Spelled kind → Spells kind s
  a_character : (inside : List ℕ) → s ≡ 39 ∷ (inside ++ 39 ∷ []) → is_content 39 false inside ≡ true → character inside ≡ Spelled kind → Spells kind s
  an_operator : Lists operators s kind → Spells kind s

-- a token of a text, behind another one: it has bytes, lies between characters, and spells its kind
pub record IsTokenBehind (text : List ℕ) (end : ℕ) (t : Token) : Type 0 where
  pub behind : end ≤ t.span.from
  pub nonempty : t.span.from < t.span.to
  pub within : t.span.to ≤ length text
  pub starts_between : IsCharBoundary text t.span.from
  pub ends_between : IsCharBoundary text t.span.to
  pub spelled : Spells t.kind (chars (slice_range text t.span.from t.span.to))

-- the tokens stand in this order in the text, from a place on, and don't overlap
abbrev pub AreTokensBehind : List ℕ → ℕ → List Token → Type 0
AreTokensBehind text end [] = Unit {0}
AreTokensBehind text end (t ∷ ts) = IsTokenBehind text end t × AreTokensBehind text t.span.to ts

-- no spelling of any kind begins where the token does and ends behind it, at the end of a character
abbrev pub IsLongest : List ℕ → Token → Type 0
IsLongest text t =
    (kind : TokenKind) (end : ℕ) → t.span.to < end → IsCharBoundary text end → Spells kind (chars (slice_range text t.span.from end)) → ⊥
