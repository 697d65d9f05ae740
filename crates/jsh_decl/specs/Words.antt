-- Single tokens that the parser of declarations looks for.
use Rattle.std.specs.Prelude.{Bool, true, false}
use Rattle.jsh_tree.specs.declared.token.TokenKind.{TokenKind}
use Rattle.jsh_tree.specs.declared.token.TokenKind.TheVariants as token

abbrev pub is_import : TokenKind → Bool
is_import token.Import = true
is_import _ = false

abbrev pub is_static : TokenKind → Bool
is_static token.Static = true
is_static _ = false

abbrev pub is_star : TokenKind → Bool
is_star token.Star = true
is_star _ = false

abbrev pub is_class : TokenKind → Bool
is_class token.Class = true
is_class _ = false

abbrev pub is_interface : TokenKind → Bool
is_interface token.Interface = true
is_interface _ = false

abbrev pub is_void : TokenKind → Bool
is_void token.Void = true
is_void _ = false

abbrev pub is_extends : TokenKind → Bool
is_extends token.Extends = true
is_extends _ = false

abbrev pub is_implements : TokenKind → Bool
is_implements token.Implements = true
is_implements _ = false

abbrev pub is_throws : TokenKind → Bool
is_throws token.Throws = true
is_throws _ = false
