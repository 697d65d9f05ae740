-- Modifiers, names, parameters and methods of the table, with their trees.
use Rattle.std.proofs.Common.{◌≡◌, ◌≢◌, ℕ, Bool, true, false, List, [], ◌∷◌, Some, None, length, refl, arith, append-nil}
use Rattle.jsh_tree.specs.declared.token.Token.{Token}
use Rattle.jsh_tree.specs.declared.token.TokenKind.{TokenKind}
use Rattle.jsh_tree.specs.declared.token.TokenKind.TheVariants as token
use Rattle.jsh_tree.specs.declared.expression.Identifier.{Identifier}
use Rattle.jsh_tree.specs.declared.declaration.ModifierUse.{ModifierUse}
use Rattle.jsh_tree.specs.declared.declaration.MethodDeclaration.{MethodDeclaration}
use Rattle.jsh_tree.specs.declared.tree.Tree.TheVariants as tree
use Rattle.jsh_grammar.specs.Classes as class
use Rattle.jsh_grammar.specs.Productions as table
use Rattle.jsh_parse.specs.Leaves.{identifier_of}
use Rattle.jsh_parse.specs.Statements as statements
use Rattle.jsh_parse.proofs.TableSymbols.{none, one, among, in_part, in_deep}
use Rattle.jsh_decl.specs.Declarations as declared
use Rattle.jsh_decl.specs.Declarations.{AreDotted, IsMethod}
use Rattle.jsh_decl.proofs.TableRuns.{method_symbols}
use Rattle.jsh_decl.proofs.TableModifiers.{snippet_of, member_of, interface_of}
use Rattle.jsh_decl.proofs.TableTrees.{IsBehindName, HasDotted, HasDeclared, Have, star_behind, names_behind}

-- ---- modifiers

pub no_modifier_tree : (text : List ℕ) {room : ℕ} {ts : List Token} → Have text room [] ts → HasDeclared text table.modifiers room ts
no_modifier_tree text none = ([], declared.no_modifiers)

pub modifier_tree : (text : List ℕ) {room : ℕ} {ts : List Token} →
    Have text room (table.any class.is_modifier ∷ table.part table.modifiers ∷ []) ts → HasDeclared text table.modifiers room ts
modifier_tree text (among t is known (in_part (ms, ds) none)) =
    let m = snippet_of t.kind is in
    (record { modifier = m.0; span = t.span } ∷ ms, rw append-nil (declared.one_more_modifier t m.1 m.2 ds))

pub no_member_modifier_tree : (text : List ℕ) {room : ℕ} {ts : List Token} → Have text room [] ts → HasDeclared text table.member_modifiers room ts
no_member_modifier_tree text none = ([], declared.no_modifiers)

pub member_modifier_tree : (text : List ℕ) {room : ℕ} {ts : List Token} →
    Have text room (table.any class.is_member_modifier ∷ table.part table.member_modifiers ∷ []) ts → HasDeclared text table.member_modifiers room ts
member_modifier_tree text (among t is known (in_part (ms, ds) none)) =
    let m = member_of t.kind is in
    (record { modifier = m.0; span = t.span } ∷ ms, rw append-nil (declared.one_more_modifier t m.1 m.2 ds))

pub no_interface_modifier_tree : (text : List ℕ) {room : ℕ} {ts : List Token} → Have text room [] ts → HasDeclared text table.interface_modifiers room ts
no_interface_modifier_tree text none = ([], declared.no_modifiers)

pub interface_modifier_tree : (text : List ℕ) {room : ℕ} {ts : List Token} →
    Have text room (table.any class.is_interface_modifier ∷ table.part table.interface_modifiers ∷ []) ts →
    HasDeclared text table.interface_modifiers room ts
interface_modifier_tree text (among t is known (in_part (ms, ds) none)) =
    let m = interface_of t.kind is in
    (record { modifier = m.0; span = t.span } ∷ ms, rw append-nil (declared.one_more_modifier t m.1 m.2 ds))

-- ---- names and imports

pub some_dotted : {text : List ℕ} {ts : List Token} {parts : List Identifier} {on_demand : Bool} → AreDotted text ts parts on_demand → length parts ≢ 0
some_dotted (declared.last_part n h) c = omega (arith, c)
some_dotted (declared.last_with_star n d s hn hd hs) c = omega (arith, c)
some_dotted (declared.one_more_part n d hn hd ds) c = omega (arith, c)

pub dotted_behind : (text : List ℕ) {l : List Token} (n : Token) → n.kind ≡ token.Identifier → IsBehindName text l → HasDotted text (n ∷ l)
dotted_behind text n hn (star_behind d s hd hs) = (identifier_of text n ∷ [], true, declared.last_with_star n d s hn hd hs, λ same. refl)
dotted_behind text n hn (names_behind {parts = parts} {on_demand = on_demand} d hd ds) =
    (identifier_of text n ∷ parts, on_demand, declared.one_more_part n d hn hd ds, λ same. absurd (some_dotted ds (omega (arith, same))))

pub dotted_tree : (text : List ℕ) {room : ℕ} {ts : List Token} → Have text room (table.a token.Identifier ∷ table.part table.more_dotted ∷ []) ts →
    HasDotted text ts
dotted_tree text (one n hn known (in_part {l = l} behind none)) = rw (append-nil l) (dotted_behind text n hn behind)

pub last_name_tree : (text : List ℕ) {room : ℕ} {ts : List Token} → Have text room (table.a token.Dot ∷ table.a token.Identifier ∷ []) ts →
    IsBehindName text ts
last_name_tree text (one d hd known (one n hn also none)) = names_behind d hd (declared.last_part n hn)

pub last_star_tree : (text : List ℕ) {room : ℕ} {ts : List Token} → Have text room (table.a token.Dot ∷ table.a token.Star ∷ []) ts →
    IsBehindName text ts
last_star_tree text (one d hd known (one s hs also none)) = star_behind d s hd hs

pub more_behind : (text : List ℕ) {l : List Token} (d n : Token) → d.kind ≡ token.Dot → n.kind ≡ token.Identifier → IsBehindName text l →
    IsBehindName text (d ∷ n ∷ l)
more_behind text d n hd hn (star_behind e s he hs) = names_behind d hd (declared.last_with_star n e s hn he hs)
more_behind text d n hd hn (names_behind e he ds) = names_behind d hd (declared.one_more_part n e hn he ds)

pub one_more_name_tree : (text : List ℕ) {room : ℕ} {ts : List Token} →
    Have text room (table.a token.Dot ∷ table.a token.Identifier ∷ table.part table.more_dotted ∷ []) ts → IsBehindName text ts
one_more_name_tree text (one d hd known (one n hn also (in_part {l = l} behind none))) = rw (append-nil l) (more_behind text d n hd hn behind)

pub import_tree : (text : List ℕ) {room : ℕ} {ts : List Token} →
    Have text room (table.a token.Import ∷ table.part table.dotted ∷ table.a token.Semicolon ∷ []) ts → HasDeclared text table.snippet room ts
import_tree text (one t h known (in_part (parts, on_demand, ds, some) (one u hu also none))) = (
  tree.Import (record { span = t.span; is_static = false; parts = parts; on_demand = on_demand }),
  declared.import_snippet (declared.imported t u h declared.not_static ds some hu),
)

pub static_import_tree : (text : List ℕ) {room : ℕ} {ts : List Token} →
    Have text room (table.a token.Import ∷ table.a token.Static ∷ table.part table.dotted ∷ table.a token.Semicolon ∷ []) ts →
    HasDeclared text table.snippet room ts
static_import_tree text (one t h known (one s hs more (in_part (parts, on_demand, ds, some) (one u hu also none)))) = (
  tree.Import (record { span = t.span; is_static = true; parts = parts; on_demand = on_demand }),
  declared.import_snippet (declared.imported t u h (declared.static s hs) ds some hu),
)

pub last_listed_tree : (text : List ℕ) {room : ℕ} {ts : List Token} → Have text room (table.a token.Identifier ∷ []) ts →
    HasDeclared text table.names room ts
last_listed_tree text (one n hn known none) = (identifier_of text n ∷ [], declared.last_name n hn)

pub more_listed_tree : (text : List ℕ) {room : ℕ} {ts : List Token} →
    Have text room (table.a token.Identifier ∷ table.a token.Comma ∷ table.part table.names ∷ []) ts → HasDeclared text table.names room ts
more_listed_tree text (one n hn known (one t ht also (in_part (names, ds) none))) =
    (identifier_of text n ∷ names, rw append-nil (declared.one_more_name n t hn ht ds))

pub no_names_tree : (text : List ℕ) {word : TokenKind} {room : ℕ} {ts : List Token} → Have text room [] ts →
    HasDeclared text (table.names_behind word) room ts
no_names_tree text none = ([], declared.no_names)

pub some_names_tree : (text : List ℕ) {word : TokenKind} {room : ℕ} {ts : List Token} → Have text room (table.a word ∷ table.part table.names ∷ []) ts →
    HasDeclared text (table.names_behind word) room ts
some_names_tree text (one t h known (in_part (names, ds) none)) = (names, rw append-nil (declared.some_names t h ds))

pub no_superclass_tree : (text : List ℕ) {room : ℕ} {ts : List Token} → Have text room [] ts → HasDeclared text table.superclass room ts
no_superclass_tree text none = (None, declared.no_superclass)

pub superclass_tree : (text : List ℕ) {room : ℕ} {ts : List Token} → Have text room (table.a token.Extends ∷ table.a token.Identifier ∷ []) ts →
    HasDeclared text table.superclass room ts
superclass_tree text (one t h known (one n hn also none)) = (Some (identifier_of text n), declared.superclass t n h hn)

-- ---- results and parameters

pub void_tree : (text : List ℕ) {room : ℕ} {ts : List Token} → Have text room (table.a token.Void ∷ []) ts → HasDeclared text table.result room ts
void_tree text (one t h known none) = (None, declared.void t h)

pub result_tree : (text : List ℕ) {room : ℕ} {ts : List Token} → Have text room (table.part table.type_use ∷ []) ts →
    HasDeclared text table.result room ts
result_tree text (in_part (written, d) none) = (Some written, rw append-nil (declared.typed d))

pub no_parameters_tree : (text : List ℕ) {room : ℕ} {ts : List Token} → Have text room (table.a token.LeftParen ∷ table.a token.RightParen ∷ []) ts →
    HasDeclared text table.parameters room ts
no_parameters_tree text (one t h known (one u hu also none)) = ([], declared.no_parameters t u h hu)

pub some_parameters_tree : (text : List ℕ) {room : ℕ} {ts : List Token} →
    Have text room (table.a token.LeftParen ∷ table.part table.parameters_listed ∷ table.a token.RightParen ∷ []) ts →
    HasDeclared text table.parameters room ts
some_parameters_tree text (one t h known (in_part (ps, ds) (one u hu also none))) = (ps, declared.some_parameters t u h ds hu)

pub last_parameter_tree : (text : List ℕ) {room : ℕ} {ts : List Token} → Have text room (table.part table.parameter ∷ []) ts →
    HasDeclared text table.parameters_listed room ts
last_parameter_tree text (in_part (p, d) none) = (p ∷ [], rw append-nil (declared.last_parameter d))

pub more_parameters_tree : (text : List ℕ) {room : ℕ} {ts : List Token} →
    Have text room (table.part table.parameter ∷ table.a token.Comma ∷ table.part table.parameters_listed ∷ []) ts →
    HasDeclared text table.parameters_listed room ts
more_parameters_tree text (in_part (p, d) (one t h known (in_part (ps, ds) none))) = (p ∷ ps, rw append-nil (declared.one_more_parameter t d h ds))

pub parameter_tree : (text : List ℕ) {room : ℕ} {ts : List Token} → Have text room (table.part table.type_use ∷ table.a token.Identifier ∷ []) ts →
    HasDeclared text table.parameter room ts
parameter_tree text (in_part (written, d) (one n hn known none)) =
    (record { is_final = false; written = written; name = identifier_of text n }, declared.parameter n statements.not_final d hn)

pub final_parameter_tree : (text : List ℕ) {room : ℕ} {ts : List Token} →
    Have text room (table.a token.Final ∷ table.part table.type_use ∷ table.a token.Identifier ∷ []) ts → HasDeclared text table.parameter room ts
final_parameter_tree text (one t h known (in_part (written, d) (one n hn also none))) =
    (record { is_final = true; written = written; name = identifier_of text n }, declared.parameter n (statements.final t h) d hn)

-- ---- methods

pub method_with_body : (text : List ℕ) {room : ℕ} {ts : List Token} (modifiers : List ModifierUse) →
    Have text room (method_symbols (table.deep table.block ∷ [])) ts → (m : MethodDeclaration) × IsMethod text modifiers room ts m × (m.body ≢ None)
method_with_body text modifiers (in_part (result, r) (one n hn known (in_part (ps, p) (in_part (throws, h) (in_deep (b, d) none))))) = (
  record { modifiers = modifiers; result = result; name = identifier_of text n; parameters = ps; throws = throws; body = Some b },
  rw append-nil (declared.method n r hn p h (declared.body d)),
  λ c. cc,
)

pub method_without_body : (text : List ℕ) {room : ℕ} {ts : List Token} (modifiers : List ModifierUse) →
    Have text room (method_symbols (table.a token.Semicolon ∷ [])) ts → (m : MethodDeclaration) × IsMethod text modifiers room ts m × (m.body ≡ None)
method_without_body text modifiers (in_part (result, r) (one n hn known (in_part (ps, p) (in_part (throws, h) (one u hu also none))))) = (
  record { modifiers = modifiers; result = result; name = identifier_of text n; parameters = ps; throws = throws; body = None },
  declared.method n r hn p h (declared.no_body u hu),
  refl,
)
