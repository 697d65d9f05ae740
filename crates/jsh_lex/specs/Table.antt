-- The fixed spellings: reserved words, separators and operators.
use Rattle.std.specs.Cmp.Lexicographic.{pointwise}
use Rattle.std.specs.Prelude.{◌≡◌, ℕ, nat_eq, Bool, true, not, ◌&&◌, refl, if◌then◌else◌, List, [], ◌∷◌, length, drop, codes}
use Rattle.std.specs.List.{list_all}
use Rattle.jsh_tree.specs.declared.token.TokenKind.{TokenKind}
use Rattle.jsh_tree.specs.declared.token.TokenKind.TheVariants.{Identifier, Abstract, Assert, Boolean, Break, Byte, Case, Catch, Char, Class, Const, Continue, Default, Do, Double, Else, Enum, Extends, Final, Finally, Float, For, Goto, If, Implements, Import, Instanceof, Int, Interface, Long, Native, New, Package, Private, Protected, Public, Return, Short, Static, Strictfp, Super, Switch, Synchronized, This, Throw, Throws, Transient, Try, Void, Volatile, While, True, False, Null, Var, Underscore, UnsignedShiftRightAssign, UnsignedShiftRight, ShiftLeftAssign, ShiftRightAssign, EqualTo, LessOrEqual, GreaterOrEqual, NotEqual, AndAnd, OrOr, PlusPlus, MinusMinus, ShiftLeft, ShiftRight, PlusAssign, MinusAssign, StarAssign, SlashAssign, AmpersandAssign, BarAssign, CaretAssign, PercentAssign, LeftParen, RightParen, LeftBrace, RightBrace, LeftBracket, RightBracket, Semicolon, Comma, Dot, Assign, GreaterThan, LessThan, Bang, Tilde, Question, Colon, Plus, Minus, Star, Slash, Ampersand, Bar, Caret, Percent}
use Rattle.jsh_lex.specs.Chars.{begins}
use Rattle.jsh_lex.specs.declared.lexeme.LexFault.TheVariants.{BadChar}
use Rattle.jsh_lex.specs.declared.lexeme.Lexeme.{Lexeme}
use Rattle.jsh_lex.specs.declared.lexeme.Lexeme.TheVariants.{Spelled, Wrong}

-- the reserved words, with the literals true, false and null and the word _ (JLS 3.9)
abbrev pub reserved_words : List (List ℕ × TokenKind)
reserved_words =
    (codes "abstract", Abstract) ∷
    (codes "assert", Assert) ∷
    (codes "boolean", Boolean) ∷
    (codes "break", Break) ∷
    (codes "byte", Byte) ∷
    (codes "case", Case) ∷
    (codes "catch", Catch) ∷
    (codes "char", Char) ∷
    (codes "class", Class) ∷
    (codes "const", Const) ∷
    (codes "continue", Continue) ∷
    (codes "default", Default) ∷
    (codes "do", Do) ∷
    (codes "double", Double) ∷
    (codes "else", Else) ∷
    (codes "enum", Enum) ∷
    (codes "extends", Extends) ∷
    (codes "final", Final) ∷
    (codes "finally", Finally) ∷
    (codes "float", Float) ∷
    (codes "for", For) ∷
    (codes "goto", Goto) ∷
    (codes "if", If) ∷
    (codes "implements", Implements) ∷
    (codes "import", Import) ∷
    (codes "instanceof", Instanceof) ∷
    (codes "int", Int) ∷
    (codes "interface", Interface) ∷
    (codes "long", Long) ∷
    (codes "native", Native) ∷
    (codes "new", New) ∷
    (codes "package", Package) ∷
    (codes "private", Private) ∷
    (codes "protected", Protected) ∷
    (codes "public", Public) ∷
    (codes "return", Return) ∷
    (codes "short", Short) ∷
    (codes "static", Static) ∷
    (codes "strictfp", Strictfp) ∷
    (codes "super", Super) ∷
    (codes "switch", Switch) ∷
    (codes "synchronized", Synchronized) ∷
    (codes "this", This) ∷
    (codes "throw", Throw) ∷
    (codes "throws", Throws) ∷
    (codes "transient", Transient) ∷
    (codes "try", Try) ∷
    (codes "void", Void) ∷
    (codes "volatile", Volatile) ∷
    (codes "while", While) ∷
    (codes "true", True) ∷
    (codes "false", False) ∷
    (codes "null", Null) ∷
    (codes "var", Var) ∷
    (codes "_", Underscore) ∷ []

-- the separators and operators, each in front of those that it begins with (JLS 3.11, 3.12)
abbrev pub operators : List (List ℕ × TokenKind)
operators =
    (codes ">>>=", UnsignedShiftRightAssign) ∷
    (codes ">>>", UnsignedShiftRight) ∷
    (codes "<<=", ShiftLeftAssign) ∷
    (codes ">>=", ShiftRightAssign) ∷
    (codes "==", EqualTo) ∷
    (codes "<=", LessOrEqual) ∷
    (codes ">=", GreaterOrEqual) ∷
    (codes "!=", NotEqual) ∷
    (codes "&&", AndAnd) ∷
    (codes "||", OrOr) ∷
    (codes "++", PlusPlus) ∷
    (codes "--", MinusMinus) ∷
    (codes "<<", ShiftLeft) ∷
    (codes ">>", ShiftRight) ∷
    (codes "+=", PlusAssign) ∷
    (codes "-=", MinusAssign) ∷
    (codes "*=", StarAssign) ∷
    (codes "/=", SlashAssign) ∷
    (codes "&=", AmpersandAssign) ∷
    (codes "|=", BarAssign) ∷
    (codes "^=", CaretAssign) ∷
    (codes "%=", PercentAssign) ∷
    (codes "(", LeftParen) ∷
    (codes ")", RightParen) ∷
    (codes "{", LeftBrace) ∷
    (codes "}", RightBrace) ∷
    (codes "[", LeftBracket) ∷
    (codes "]", RightBracket) ∷
    (codes ";", Semicolon) ∷
    (codes ",", Comma) ∷
    (codes ".", Dot) ∷
    (codes "=", Assign) ∷
    (codes ">", GreaterThan) ∷
    (codes "<", LessThan) ∷
    (codes "!", Bang) ∷
    (codes "~", Tilde) ∷
    (codes "?", Question) ∷
    (codes ":", Colon) ∷
    (codes "+", Plus) ∷
    (codes "-", Minus) ∷
    (codes "*", Star) ∷
    (codes "/", Slash) ∷
    (codes "&", Ampersand) ∷
    (codes "|", Bar) ∷
    (codes "^", Caret) ∷
    (codes "%", Percent) ∷ []

-- the kind of a word: that of the reserved word that it is, or an identifier
abbrev pub kind_in : List (List ℕ × TokenKind) → List ℕ → TokenKind
kind_in [] word = Identifier
kind_in (entry ∷ entries) word = if pointwise nat_eq entry.0 word then entry.1 else kind_in entries word

unfoldable pub word_kind : List ℕ → TokenKind
word_kind = kind_in reserved_words

-- The first operator of the list that the text begins with, and the text behind it. Where none is, the character is none of the language's.
abbrev pub operator_in : List (List ℕ × TokenKind) → List ℕ → Lexeme × List ℕ
operator_in [] cs = (Wrong BadChar, [])
operator_in (entry ∷ entries) cs = if begins entry.0 cs then (Spelled entry.1, drop (length entry.0) cs) else operator_in entries cs

-- the first of the spellings that goes on from a character, or else the character alone
abbrev pub longest : List (List ℕ × TokenKind) → TokenKind → List ℕ → Lexeme × List ℕ
longest [] alone rest = (Spelled alone, rest)
longest (entry ∷ entries) alone rest = if begins entry.0 rest then (Spelled entry.1, drop (length entry.0) rest) else longest entries alone rest

-- the longest operator at the front, since a longer one stands first in the list
unfoldable pub operator : List ℕ → Lexeme × List ℕ
operator = operator_in operators

-- no spelling of the list begins a later one
abbrev pub longer_stand_first : List (List ℕ × TokenKind) → Bool
longer_stand_first [] = true
longer_stand_first (entry ∷ entries) = list_all (λ later. not (begins entry.0 later.0)) entries && longer_stand_first entries

pub operators_in_order : longer_stand_first operators ≡ true
operators_in_order = refl
