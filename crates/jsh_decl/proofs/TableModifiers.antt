-- The modifiers that the table names, and those that the parser of declarations takes.
use Rattle.std.proofs.Common.{◌≡◌, Bool, true, Some, refl}
use Rattle.jsh_tree.specs.declared.token.TokenKind.{TokenKind}
use Rattle.jsh_tree.specs.declared.token.TokenKind.TheVariants as token
use Rattle.jsh_tree.specs.declared.modifier.Modifier.{Modifier}
use Rattle.jsh_tree.specs.declared.modifier.Modifier.TheVariants as modifier
use Rattle.jsh_grammar.specs.Classes as class
use Rattle.jsh_decl.specs.Declarations.{modifier_of, of_snippets, of_members, of_interfaces}

-- a modifier that is allowed, by the kind of its token
abbrev pub IsAllowed : (Modifier → Bool) → TokenKind → Type 0
IsAllowed allowed k = (m : Modifier) × (modifier_of k ≡ Some m) × (allowed m ≡ true)

-- ---- what the parser takes is in a class

pub snippet_kind : (k : TokenKind) → IsAllowed of_snippets k → class.is_modifier k ≡ true
snippet_kind token.Public h = refl
snippet_kind token.Protected h = refl
snippet_kind token.Private h = refl
snippet_kind token.Static h = refl
snippet_kind token.Final h = refl
snippet_kind token.Volatile h = refl
snippet_kind token.Abstract h = refl
snippet_kind _ (m, is, may) = cc

pub member_kind : (k : TokenKind) → IsAllowed of_members k → class.is_member_modifier k ≡ true
member_kind token.Public h = refl
member_kind token.Protected h = refl
member_kind token.Private h = refl
member_kind token.Static (modifier.Static, is, may) = cc
member_kind token.Static (_, is, may) = cc
member_kind token.Final h = refl
member_kind token.Volatile h = refl
member_kind token.Abstract h = refl
member_kind _ (m, is, may) = cc

pub interface_kind : (k : TokenKind) → IsAllowed of_interfaces k → class.is_interface_modifier k ≡ true
interface_kind token.Public h = refl
interface_kind token.Abstract h = refl
interface_kind token.Protected (modifier.Protected, is, may) = cc
interface_kind token.Protected (_, is, may) = cc
interface_kind token.Private (modifier.Private, is, may) = cc
interface_kind token.Private (_, is, may) = cc
interface_kind token.Static (modifier.Static, is, may) = cc
interface_kind token.Static (_, is, may) = cc
interface_kind token.Final (modifier.Final, is, may) = cc
interface_kind token.Final (_, is, may) = cc
interface_kind token.Volatile (modifier.Volatile, is, may) = cc
interface_kind token.Volatile (_, is, may) = cc
interface_kind _ (m, is, may) = cc

-- ---- what is in a class the parser takes

pub snippet_of : (k : TokenKind) → class.is_modifier k ≡ true → IsAllowed of_snippets k
snippet_of token.Public h = (modifier.Public, refl, refl)
snippet_of token.Protected h = (modifier.Protected, refl, refl)
snippet_of token.Private h = (modifier.Private, refl, refl)
snippet_of token.Static h = (modifier.Static, refl, refl)
snippet_of token.Final h = (modifier.Final, refl, refl)
snippet_of token.Volatile h = (modifier.Volatile, refl, refl)
snippet_of token.Abstract h = (modifier.Abstract, refl, refl)
snippet_of _ h = cc

pub member_of : (k : TokenKind) → class.is_member_modifier k ≡ true → IsAllowed of_members k
member_of token.Public h = (modifier.Public, refl, refl)
member_of token.Protected h = (modifier.Protected, refl, refl)
member_of token.Private h = (modifier.Private, refl, refl)
member_of token.Final h = (modifier.Final, refl, refl)
member_of token.Volatile h = (modifier.Volatile, refl, refl)
member_of token.Abstract h = (modifier.Abstract, refl, refl)
member_of _ h = cc

pub interface_of : (k : TokenKind) → class.is_interface_modifier k ≡ true → IsAllowed of_interfaces k
interface_of token.Public h = (modifier.Public, refl, refl)
interface_of token.Abstract h = (modifier.Abstract, refl, refl)
interface_of _ h = cc
