-- What the grammar of snippets spells is in the table.
use Rattle.std.proofs.Common.{◌≡◌, ◌≢◌, ℕ, Bool, true, false, List, [], ◌∷◌, ◌++◌, Option, Some, None, length, refl}
use Rattle.jsh_tree.specs.declared.token.Token.{Token}
use Rattle.jsh_tree.specs.declared.token.TokenKind.{TokenKind}
use Rattle.jsh_tree.specs.declared.token.TokenKind.TheVariants as token
use Rattle.jsh_tree.specs.declared.expression.Identifier.{Identifier}
use Rattle.jsh_tree.specs.declared.expression.TypeUse.{TypeUse}
use Rattle.jsh_tree.specs.declared.statement.Block.{Block}
use Rattle.jsh_tree.specs.declared.declaration.ModifierUse.{ModifierUse}
use Rattle.jsh_tree.specs.declared.declaration.Import.{Import}
use Rattle.jsh_tree.specs.declared.declaration.Parameter.{Parameter}
use Rattle.jsh_tree.specs.declared.declaration.MethodDeclaration.{MethodDeclaration}
use Rattle.jsh_tree.specs.declared.declaration.ConstructorCall.{ConstructorCall}
use Rattle.jsh_tree.specs.declared.declaration.MemberDeclaration.{MemberDeclaration}
use Rattle.jsh_tree.specs.declared.declaration.ClassDeclaration.{ClassDeclaration}
use Rattle.jsh_tree.specs.declared.declaration.InterfaceDeclaration.{InterfaceDeclaration}
use Rattle.jsh_tree.specs.declared.tree.Tree.{Tree}
use Rattle.jsh_grammar.specs.Productions as table
use Rattle.jsh_parse.specs.Statements as statements
use Rattle.jsh_parse.proofs.TableSymbols.{none, among, in_part, Whole, AreWhole, produced, at_last, deeper_last, then_deeper, deep_last}
use Rattle.jsh_parse.proofs.TableDerived.{one_of, type_use_derived, expr_derived, arguments_derived, initial_derived}
use Rattle.jsh_parse.proofs.StatementTableDerived.{stmt_derived, block_deeper, statements_derived, variable_derived}
use Rattle.jsh_decl.specs.Declarations as declared
use Rattle.jsh_decl.specs.Declarations.{of_snippets, of_members, of_interfaces, AreModifiers, AreDotted, IsImport, AreNames, AreNamesBehind, IsSuperclass, IsParameter, AreParametersListed, AreParameters, IsResult, IsMethod, IsFirstCall, IsMember, AreMembers, IsClass, AreInterfaceMethods, IsInterface, IsSnippet}
use Rattle.jsh_decl.proofs.TableModifiers.{snippet_kind, member_kind, interface_kind}
use Rattle.jsh_decl.proofs.TableRuns.{joined, method_symbols}

-- ---- modifiers

pub modifiers_derived : {room : ℕ} {ts : List Token} {ms : List ModifierUse} → AreModifiers of_snippets ts ms → Whole table.modifiers room ts
modifiers_derived declared.no_modifiers = produced table.no_modifier none
modifiers_derived (declared.one_more_modifier {m = m} t is may ds) =
    produced table.one_more_modifier (among t (snippet_kind t.kind (m, is, may)) tt (at_last (modifiers_derived ds)))

pub member_modifiers_derived : {room : ℕ} {ts : List Token} {ms : List ModifierUse} → AreModifiers of_members ts ms →
    Whole table.member_modifiers room ts
member_modifiers_derived declared.no_modifiers = produced table.no_member_modifier none
member_modifiers_derived (declared.one_more_modifier {m = m} t is may ds) =
    produced table.one_more_member_modifier (among t (member_kind t.kind (m, is, may)) tt (at_last (member_modifiers_derived ds)))

pub interface_modifiers_derived : {room : ℕ} {ts : List Token} {ms : List ModifierUse} → AreModifiers of_interfaces ts ms →
    Whole table.interface_modifiers room ts
interface_modifiers_derived declared.no_modifiers = produced table.no_interface_modifier none
interface_modifiers_derived (declared.one_more_modifier {m = m} t is may ds) =
    produced table.one_more_interface_modifier (among t (interface_kind t.kind (m, is, may)) tt (at_last (interface_modifiers_derived ds)))

-- ---- names and imports

-- what stands behind the first of dotted names
more_dotted_derived : {text : List ℕ} {room : ℕ} {r : List Token} {rest : List Identifier} {on_demand : Bool} (d : Token) → d.kind ≡ token.Dot →
    AreDotted text r rest on_demand → Whole table.more_dotted room (d ∷ r)
more_dotted_derived d h (declared.last_part n hn) = produced table.last_name (one_of d h (one_of n hn none))
more_dotted_derived d h (declared.last_with_star n e s hn he hs) =
    produced table.one_more_name (one_of d h (one_of n hn (at_last (produced table.last_star (one_of e he (one_of s hs none))))))
more_dotted_derived d h (declared.one_more_part n e hn he ds) =
    produced table.one_more_name (one_of d h (one_of n hn (at_last (more_dotted_derived e he ds))))

pub dotted_derived : {text : List ℕ} {room : ℕ} {ts : List Token} {parts : List Identifier} {on_demand : Bool} → AreDotted text ts parts on_demand →
    (length parts ≡ 1 → on_demand ≡ true) → Whole table.dotted room ts
dotted_derived (declared.last_part n hn) some = let wrong : false ≡ true = some refl in cc
dotted_derived (declared.last_with_star n d s hn hd hs) some =
    produced table.of_dotted (one_of n hn (at_last (produced table.last_star (one_of d hd (one_of s hs none)))))
dotted_derived (declared.one_more_part n d hn hd ds) some = produced table.of_dotted (one_of n hn (at_last (more_dotted_derived d hd ds)))

pub import_derived : {text : List ℕ} {room : ℕ} {ts : List Token} {i : Import} → IsImport text ts i → Whole table.snippet room ts
import_derived (declared.imported t u h declared.not_static ds some hu) =
    produced table.of_import (one_of t h (in_part (dotted_derived ds some) (one_of u hu none)))
import_derived (declared.imported t u h (declared.static s hs) ds some hu) =
    produced table.of_static_import (one_of t h (one_of s hs (in_part (dotted_derived ds some) (one_of u hu none))))

pub names_derived : {text : List ℕ} {room : ℕ} {ts : List Token} {names : List Identifier} → AreNames text ts names → Whole table.names room ts
names_derived (declared.last_name n h) = produced table.last_listed_name (one_of n h none)
names_derived (declared.one_more_name n t h ht ds) = produced table.one_more_listed_name (one_of n h (one_of t ht (at_last (names_derived ds))))

pub names_behind_derived : {text : List ℕ} {room : ℕ} {word : TokenKind} {ts : List Token} {names : List Identifier} → AreNamesBehind text word ts names →
    Whole (table.names_behind word) room ts
names_behind_derived declared.no_names = produced table.no_names none
names_behind_derived (declared.some_names t h ds) = produced table.some_names (one_of t h (at_last (names_derived ds)))

pub superclass_derived : {text : List ℕ} {room : ℕ} {ts : List Token} {extends : Option Identifier} → IsSuperclass text ts extends →
    Whole table.superclass room ts
superclass_derived declared.no_superclass = produced table.no_superclass none
superclass_derived (declared.superclass t n h hn) = produced table.of_superclass (one_of t h (one_of n hn none))

-- ---- methods

pub parameter_derived : {text : List ℕ} {room : ℕ} {ts : List Token} {p : Parameter} → IsParameter text ts p → Whole table.parameter room ts
parameter_derived (declared.parameter n statements.not_final d h) = produced table.of_parameter (in_part (type_use_derived d) (one_of n h none))
parameter_derived (declared.parameter n (statements.final t ht) d h) =
    produced table.of_final_parameter (one_of t ht (in_part (type_use_derived d) (one_of n h none)))

pub parameters_listed_derived : {text : List ℕ} {room : ℕ} {ts : List Token} {ps : List Parameter} → AreParametersListed text ts ps →
    Whole table.parameters_listed room ts
parameters_listed_derived (declared.last_parameter d) = produced table.last_parameter (at_last (parameter_derived d))
parameters_listed_derived (declared.one_more_parameter t d h ds) =
    produced table.one_more_parameter (in_part (parameter_derived d) (one_of t h (at_last (parameters_listed_derived ds))))

pub parameters_derived : {text : List ℕ} {room : ℕ} {ts : List Token} {ps : List Parameter} → AreParameters text ts ps → Whole table.parameters room ts
parameters_derived (declared.no_parameters t u h hu) = produced table.no_parameters (one_of t h (one_of u hu none))
parameters_derived (declared.some_parameters t u h ds hu) =
    produced table.some_parameters (one_of t h (in_part (parameters_listed_derived ds) (one_of u hu none)))

pub result_derived : {text : List ℕ} {room : ℕ} {ts : List Token} {result : Option TypeUse} → IsResult text ts result → Whole table.result room ts
result_derived (declared.void t h) = produced table.of_void (one_of t h none)
result_derived (declared.typed d) = produced table.of_result (at_last (type_use_derived d))

pub method_with_body : {text : List ℕ} {room : ℕ} {modifiers : List ModifierUse} {ts : List Token} {m : MethodDeclaration} →
    IsMethod text modifiers room ts m → m.body ≢ None → AreWhole room (method_symbols (table.deep table.block ∷ [])) ts
method_with_body (declared.method n r h p t (declared.no_body u hu)) some = absurd (some refl)
method_with_body (declared.method n r h p t (declared.body b)) some =
    in_part (result_derived r)
    (one_of n h (in_part (parameters_derived p) (in_part (names_behind_derived t) (deeper_last (block_deeper b)))))

pub method_without_body : {text : List ℕ} {room : ℕ} {modifiers : List ModifierUse} {ts : List Token} {m : MethodDeclaration} →
    IsMethod text modifiers room ts m → m.body ≡ None → AreWhole room (method_symbols (table.a token.Semicolon ∷ [])) ts
method_without_body (declared.method n r h p t (declared.no_body u hu)) none_there =
    in_part (result_derived r) (one_of n h (in_part (parameters_derived p) (in_part (names_behind_derived t) (one_of u hu none))))
method_without_body (declared.method n r h p t (declared.body b)) none_there = cc

-- ---- members of classes

pub first_call_derived : {text : List ℕ} {room : ℕ} {ts : List Token} {first : Option ConstructorCall} → IsFirstCall text room ts first →
    Whole table.first_call room ts
first_call_derived declared.no_first_call = produced table.no_first_call none
first_call_derived (declared.this_call t u h d hu) = produced table.of_this_call (one_of t h (then_deeper (arguments_derived d) (one_of u hu none)))
first_call_derived (declared.super_call t u h d hu) = produced table.of_super_first_call (one_of t h (then_deeper (arguments_derived d) (one_of u hu none)))

-- a method, in front of further members
method_derived : {text : List ℕ} {room : ℕ} {q l r : List Token} {modifiers : List ModifierUse} {m : MethodDeclaration} →
    AreModifiers of_members q modifiers → IsMethod text modifiers room l m → Whole table.class_members room r →
    Whole table.class_members room ((q ++ l) ++ r)
method_derived {room = room} {q = q} {l = l} {r = r} {m = m} are d rest = at m.body refl
  where
    at : (inside : Option Block) → m.body ≡ inside → Whole table.class_members room ((q ++ l) ++ r)
    at None e =
        produced table.one_more_abstract_method (joined (in_part (member_modifiers_derived are) (method_without_body d e)) (at_last rest))
    at (Some b) e =
        produced table.one_more_method (joined (in_part (member_modifiers_derived are) (method_with_body d (λ c. cc))) (at_last rest))

-- a member, in front of further ones
pub member_derived : {text : List ℕ} {room : ℕ} {l r : List Token} {m : MemberDeclaration} → IsMember text room l m →
    Whole table.class_members room r → Whole table.class_members room (l ++ r)
member_derived (declared.field u q (statements.inferred v n t hv hn ht d) written hu) rest = cc
member_derived (declared.field u q (statements.bare n d hn) written hu) rest =
    produced table.one_more_bare_field
    (joined (in_part (member_modifiers_derived q) (joined (in_part (type_use_derived d) (one_of n hn none)) (one_of u hu none))) (at_last rest))
member_derived (declared.field u q (statements.initialized n t d hn ht i) written hu) rest =
    produced table.one_more_field
    (joined
    (in_part (member_modifiers_derived q)
    (joined (in_part (type_use_derived d) (one_of n hn (one_of t ht (at_last (initial_derived i))))) (one_of u hu none)))
    (at_last rest))
member_derived (declared.method_member q d) rest = method_derived q d rest
member_derived (declared.constructor n t u q hn p h ht c s hu) rest =
    let body = produced table.of_constructor_body
    (one_of t ht (in_part (first_call_derived c) (in_part (statements_derived s) (one_of u hu none)))) in
    produced table.one_more_constructor
    (joined
    (in_part (member_modifiers_derived q) (one_of n hn (in_part (parameters_derived p) (in_part (names_behind_derived h) (deep_last body)))))
    (at_last rest))

pub members_derived : {text : List ℕ} {room : ℕ} {ts : List Token} {ms : List MemberDeclaration} → AreMembers text room ts ms →
    Whole table.class_members room ts
members_derived declared.no_members = produced table.no_class_member none
members_derived (declared.one_more_semicolon u h ds) = produced table.one_more_semicolon (one_of u h (at_last (members_derived ds)))
members_derived (declared.one_more_member d ds) = member_derived d (members_derived ds)

-- ---- interfaces

pub interface_methods_derived : {text : List ℕ} {room : ℕ} {ts : List Token} {ms : List MethodDeclaration} → AreInterfaceMethods text room ts ms →
    Whole table.interface_methods room ts
interface_methods_derived declared.no_methods = produced table.no_interface_method none
interface_methods_derived (declared.one_more_method q d without ds) =
    produced table.one_more_interface_method
    (in_part (interface_modifiers_derived q) (joined (method_without_body d without) (at_last (interface_methods_derived ds))))

-- ---- snippets

class_derived : {text : List ℕ} {room : ℕ} {modifiers : List ModifierUse} {q l : List Token} {c : ClassDeclaration} →
    AreModifiers of_snippets q modifiers → IsClass text modifiers room l c → Whole table.snippet room (q ++ l)
class_derived q (declared.class c n t u hc hn x i ht m hu) =
    let body = produced table.of_class_body (one_of t ht (in_part (members_derived m) (one_of u hu none))) in
    produced table.of_class
    (in_part (modifiers_derived q) (one_of c hc (one_of n hn (in_part (superclass_derived x) (in_part (names_behind_derived i) (deep_last body))))))

interface_derived : {text : List ℕ} {room : ℕ} {modifiers : List ModifierUse} {q l : List Token} {i : InterfaceDeclaration} →
    AreModifiers of_snippets q modifiers → IsInterface text modifiers room l i → Whole table.snippet room (q ++ l)
interface_derived q (declared.interface c n t u hc hn x ht m hu) =
    let body = produced table.of_interface_body (one_of t ht (in_part (interface_methods_derived m) (one_of u hu none))) in
    produced table.of_interface (in_part (modifiers_derived q) (one_of c hc (one_of n hn (in_part (names_behind_derived x) (deep_last body)))))

pub snippet_derived : {text : List ℕ} {room : ℕ} {ts : List Token} {tree : Tree} → IsSnippet text room ts tree → Whole table.snippet room ts
snippet_derived (declared.import_snippet d) = import_derived d
snippet_derived (declared.class_snippet q d) = class_derived q d
snippet_derived (declared.interface_snippet q d) = interface_derived q d
snippet_derived (declared.method_snippet q d some) = produced table.of_method (in_part (modifiers_derived q) (method_with_body d some))
snippet_derived (declared.variable_snippet u q d hu) =
    produced table.of_variable (in_part (modifiers_derived q) (in_part (variable_derived d) (one_of u hu none)))
snippet_derived (declared.block_snippet d) = produced table.of_statement_snippet (at_last (stmt_derived (statements.block d)))
snippet_derived (declared.statement_snippet d other) = produced table.of_statement_snippet (at_last (stmt_derived d))
snippet_derived (declared.expression_snippet u d hu) = produced table.of_expression_snippet (in_part (expr_derived d) (one_of u hu none))
