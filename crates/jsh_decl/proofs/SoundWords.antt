-- Which token has passed a test for one of a declaration.
use Rattle.std.proofs.Common.{◌≡◌, true, refl}
use Rattle.jsh_tree.specs.declared.token.TokenKind.{TokenKind}
use Rattle.jsh_tree.specs.declared.token.TokenKind.TheVariants as token
use Rattle.jsh_decl.specs.Words.{is_import, is_static, is_star, is_class, is_interface, is_void, is_extends, is_implements, is_throws}

pub import_word : (k : TokenKind) → is_import k ≡ true → k ≡ token.Import
import_word token.Import h = refl
import_word _ h = cc

pub static_word : (k : TokenKind) → is_static k ≡ true → k ≡ token.Static
static_word token.Static h = refl
static_word _ h = cc

pub star : (k : TokenKind) → is_star k ≡ true → k ≡ token.Star
star token.Star h = refl
star _ h = cc

pub class_word : (k : TokenKind) → is_class k ≡ true → k ≡ token.Class
class_word token.Class h = refl
class_word _ h = cc

pub interface_word : (k : TokenKind) → is_interface k ≡ true → k ≡ token.Interface
interface_word token.Interface h = refl
interface_word _ h = cc

pub void_word : (k : TokenKind) → is_void k ≡ true → k ≡ token.Void
void_word token.Void h = refl
void_word _ h = cc

pub extends_word : (k : TokenKind) → is_extends k ≡ true → k ≡ token.Extends
extends_word token.Extends h = refl
extends_word _ h = cc

pub implements_word : (k : TokenKind) → is_implements k ≡ true → k ≡ token.Implements
implements_word token.Implements h = refl
implements_word _ h = cc

pub throws_word : (k : TokenKind) → is_throws k ≡ true → k ≡ token.Throws
throws_word token.Throws h = refl
throws_word _ h = cc
