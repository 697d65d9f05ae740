-- The members of classes and interfaces of the table, with their trees.
use Rattle.std.proofs.Common.{◌≡◌, ℕ, suc, true, false, List, [], ◌∷◌, ◌++◌, Some, None, refl, sym, append_assoc, append-nil}
use Rattle.jsh_tree.specs.declared.token.Token.{Token}
use Rattle.jsh_tree.specs.declared.token.TokenKind.TheVariants as token
use Rattle.jsh_tree.specs.declared.expression.Identifier.{Identifier}
use Rattle.jsh_tree.specs.declared.declaration.ModifierUse.{ModifierUse}
use Rattle.jsh_tree.specs.declared.declaration.Parameter.{Parameter}
use Rattle.jsh_tree.specs.declared.declaration.MethodDeclaration.{MethodDeclaration}
use Rattle.jsh_tree.specs.declared.declaration.MemberDeclaration.{MemberDeclaration}
use Rattle.jsh_tree.specs.declared.declaration.MemberDeclaration.TheVariants as member
use Rattle.jsh_grammar.specs.Productions.{Symbol}
use Rattle.jsh_grammar.specs.Productions as table
use Rattle.jsh_parse.specs.Leaves.{identifier_of}
use Rattle.jsh_parse.specs.Statements as statements
use Rattle.jsh_parse.proofs.TableSymbols.{none, one, in_part, in_deep}
use Rattle.jsh_decl.specs.Declarations as declared
use Rattle.jsh_decl.specs.Declarations.{of_members, of_interfaces, AreModifiers, AreNamesBehind, AreParameters, IsMethod, IsMember}
use Rattle.jsh_decl.proofs.TableRuns.{divided, method_symbols}
use Rattle.jsh_decl.proofs.TableTrees.{IsClassBody, IsInterfaceBody, IsConstructorBody, HasDeclared, Have, class_body, interface_body, constructor_body}
use Rattle.jsh_decl.proofs.TableNames.{method_with_body, method_without_body}

-- ---- members of classes

pub no_first_call_tree : (text : List ℕ) {room : ℕ} {ts : List Token} → Have text room [] ts → HasDeclared text table.first_call room ts
no_first_call_tree text none = (None, declared.no_first_call)

pub this_call_tree : (text : List ℕ) {room : ℕ} {ts : List Token} →
    Have text room (table.a token.This ∷ table.deep table.arguments ∷ table.a token.Semicolon ∷ []) ts → HasDeclared text table.first_call room ts
this_call_tree text (one t h known (in_deep (es, d) (one u hu also none))) =
    (Some (record { span = t.span; is_super = false; arguments = es }), declared.this_call t u h d hu)

pub super_first_call_tree : (text : List ℕ) {room : ℕ} {ts : List Token} →
    Have text room (table.a token.Super ∷ table.deep table.arguments ∷ table.a token.Semicolon ∷ []) ts → HasDeclared text table.first_call room ts
super_first_call_tree text (one t h known (in_deep (es, d) (one u hu also none))) =
    (Some (record { span = t.span; is_super = true; arguments = es }), declared.super_call t u h d hu)

pub constructor_body_tree : (text : List ℕ) {room : ℕ} {ts : List Token} →
    Have text room (table.a token.LeftBrace ∷ table.part table.first_call ∷ table.part table.statements ∷ table.a token.RightBrace ∷ []) ts →
    IsConstructorBody text room ts
constructor_body_tree text (one t h known (in_part (first, c) (in_part (ss, s) (one u hu also none)))) = constructor_body t u h c s hu

pub class_body_tree : (text : List ℕ) {room : ℕ} {ts : List Token} →
    Have text room (table.a token.LeftBrace ∷ table.part table.class_members ∷ table.a token.RightBrace ∷ []) ts → IsClassBody text room ts
class_body_tree text (one t h known (in_part (ms, ds) (one u hu also none))) = class_body t u h ds hu

-- one member
abbrev pub HasMember : List ℕ → ℕ → List Token → Type 0
HasMember text room ts = (m : MemberDeclaration) × IsMember text room ts m

pub bare_field_tree : (text : List ℕ) {room : ℕ} {ts : List Token} →
    Have text room
    (table.part table.member_modifiers ∷ table.part table.type_use ∷ table.a token.Identifier ∷ table.a token.Semicolon ∷ []) ts →
    HasMember text room ts
bare_field_tree text {room = room} (in_part {l = q} (ms, qs) (in_part {l = l} (written, d) (one n hn known (one u hu also none)))) = (
  member.Field (record { modifiers = ms; written = written; name = identifier_of text n; initial = None }),
  rw (sym (append_assoc l (n ∷ []) (u ∷ []))) (declared.field u qs (statements.bare n d hn) refl hu),
)

pub field_tree : (text : List ℕ) {room : ℕ} {ts : List Token} →
    Have text room
    (table.part table.member_modifiers ∷ table.part table.type_use ∷ table.a token.Identifier ∷ table.a token.Assign ∷ table.part table.initial
    ∷ table.a token.Semicolon ∷ []) ts →
    HasMember text room ts
field_tree text (in_part (ms, qs) (in_part {l = l} (written, d) (one n hn known (one t ht more (in_part {l = r} (value, i) (one u hu also none)))))) = (
  member.Field (record { modifiers = ms; written = written; name = identifier_of text n; initial = Some value }),
  rw (sym (append_assoc l (n ∷ t ∷ r) (u ∷ []))) (declared.field u qs (statements.initialized n t d hn ht i) refl hu),
)

pub abstract_method_tree : (text : List ℕ) {room : ℕ} {ts : List Token} →
    Have text room (table.part table.member_modifiers ∷ method_symbols (table.a token.Semicolon ∷ [])) ts → HasMember text room ts
abstract_method_tree text (in_part (ms, qs) rest) =
    let m = method_without_body text ms rest in
    (member.Method m.0, declared.method_member qs m.1)

pub method_tree : (text : List ℕ) {room : ℕ} {ts : List Token} →
    Have text room (table.part table.member_modifiers ∷ method_symbols (table.deep table.block ∷ [])) ts → HasMember text room ts
method_tree text (in_part (ms, qs) rest) =
    let m = method_with_body text ms rest in
    (member.Method m.0, declared.method_member qs m.1)

constructor_with : (text : List ℕ) {room : ℕ} {q p h l : List Token} {modifiers : List ModifierUse} {parameters : List Parameter}
    {throws : List Identifier} (n : Token) →
    AreModifiers of_members q modifiers → n.kind ≡ token.Identifier → AreParameters text p parameters →
    AreNamesBehind text token.Throws h throws → IsConstructorBody text room l → HasMember text (suc room) (q ++ n ∷ (p ++ (h ++ l)))
constructor_with text {modifiers = modifiers} {parameters = parameters} {throws = throws} n q hn p h
    (constructor_body {first = first} {inside = inside} t u ht c s hu) = (
      member.Constructor (record {
        modifiers = modifiers;
        name = identifier_of text n;
        parameters = parameters;
        throws = throws;
        brace = t.span;
        first = first;
        statements = inside;
      }),
      declared.constructor n t u q hn p h ht c s hu,
    )

pub constructor_tree : (text : List ℕ) {room : ℕ} {ts : List Token} →
    Have text room
    (table.part table.member_modifiers ∷ table.a token.Identifier ∷ table.part table.parameters ∷ table.part (table.names_behind token.Throws)
    ∷ table.deep table.constructor_body ∷ []) ts →
    HasMember text room ts
constructor_tree text (in_part (ms, q) (one n hn known (in_part (ps, p) (in_part (throws, h) (in_deep {l = l} body none))))) =
    rw (append-nil l) (constructor_with text n q hn p h body)

pub no_member_tree : (text : List ℕ) {room : ℕ} {ts : List Token} → Have text room [] ts → HasDeclared text table.class_members room ts
no_member_tree text none = ([], declared.no_members)

pub semicolon_tree : (text : List ℕ) {room : ℕ} {ts : List Token} → Have text room (table.a token.Semicolon ∷ table.part table.class_members ∷ []) ts →
    HasDeclared text table.class_members room ts
semicolon_tree text (one u hu known (in_part (ms, ds) none)) = (ms, rw append-nil (declared.one_more_semicolon u hu ds))

pub member_before : (text : List ℕ) {room : ℕ} {l r : List Token} {m : MemberDeclaration} → IsMember text room l m →
    Have text room (table.part table.class_members ∷ []) r → HasDeclared text table.class_members room (l ++ r)
member_before text {m = m} d (in_part (ms, ds) none) = (m ∷ ms, rw append-nil (declared.one_more_member d ds))

-- a member of these symbols in front of further ones
pub members_tree : (text : List ℕ) {room : ℕ} {ts : List Token} (p : List Symbol) → ((l : List Token) → Have text room p l → HasMember text room l) →
    Have text room (p ++ table.part table.class_members ∷ []) ts → HasDeclared text table.class_members room ts
members_tree text p member_of_these s =
    let two = divided p (table.part table.class_members ∷ []) s in
    let m = member_of_these two.front two.first in
    rw two.parts (member_before text m.1 two.second)

-- ---- interfaces

pub interface_body_tree : (text : List ℕ) {room : ℕ} {ts : List Token} →
    Have text room (table.a token.LeftBrace ∷ table.part table.interface_methods ∷ table.a token.RightBrace ∷ []) ts → IsInterfaceBody text room ts
interface_body_tree text (one t h known (in_part (ms, ds) (one u hu also none))) = interface_body t u h ds hu

pub no_interface_method_tree : (text : List ℕ) {room : ℕ} {ts : List Token} → Have text room [] ts → HasDeclared text table.interface_methods room ts
no_interface_method_tree text none = ([], declared.no_methods)

pub interface_method_before : (text : List ℕ) {room : ℕ} {q l r : List Token} {modifiers : List ModifierUse} {m : MethodDeclaration} →
    AreModifiers of_interfaces q modifiers → IsMethod text modifiers room l m → m.body ≡ None →
    Have text room (table.part table.interface_methods ∷ []) r → HasDeclared text table.interface_methods room (q ++ (l ++ r))
interface_method_before text {m = m} qs d without (in_part (ms, ds) none) = (m ∷ ms, rw append-nil (declared.one_more_method qs d without ds))

pub interface_method_tree : (text : List ℕ) {room : ℕ} {ts : List Token} →
    Have text room
    (table.part table.interface_modifiers ∷ method_symbols (table.a token.Semicolon ∷ table.part table.interface_methods ∷ [])) ts →
    HasDeclared text table.interface_methods room ts
interface_method_tree text (in_part (modifiers, qs) s) =
    let two = divided (method_symbols (table.a token.Semicolon ∷ [])) (table.part table.interface_methods ∷ []) s in
    let m = method_without_body text modifiers two.first in
    rw two.parts (interface_method_before text qs m.1 m.2 two.second)
