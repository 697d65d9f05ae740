-- What the table derives for snippets, the grammar of snippets spells.
use Rattle.std.proofs.Common.{◌≡◌, ◌≢◌, ℕ, suc, Bool, List, [], ◌∷◌, ◌++◌, Option, sym, append-nil}
use Rattle.jsh_tree.specs.declared.token.Token.{Token}
use Rattle.jsh_tree.specs.declared.token.TokenKind.{TokenKind}
use Rattle.jsh_tree.specs.declared.token.TokenKind.TheVariants as token
use Rattle.jsh_tree.specs.declared.expression.Identifier.{Identifier}
use Rattle.jsh_tree.specs.declared.statement.Stmt.{Stmt}
use Rattle.jsh_tree.specs.declared.declaration.ModifierUse.{ModifierUse}
use Rattle.jsh_tree.specs.declared.tree.Tree.{Tree}
use Rattle.jsh_tree.specs.declared.tree.Tree.TheVariants as tree
use Rattle.jsh_grammar.specs.Productions.{Part, Symbol, IsProduction}
use Rattle.jsh_grammar.specs.Productions as table
use Rattle.jsh_grammar.specs.Fronts.{IsWhole}
use Rattle.jsh_parse.specs.Leaves.{identifier_of}
use Rattle.jsh_parse.specs.declared.forms.Form.TheVariants as form
use Rattle.jsh_parse.specs.Forms.{form_of}
use Rattle.jsh_parse.specs.Statements as statements
use Rattle.jsh_parse.specs.Statements.{IsStmt}
use Rattle.jsh_recognizer.specs.Recognizing.{kinds}
use Rattle.jsh_parse.proofs.TableSymbols.{none, one, in_part, in_deep, AllKnown, Whole, by_whole}
use Rattle.jsh_parse.proofs.TableValues.{HasValue}
use Rattle.jsh_parse.proofs.StatementTableSpelled.{statement_spelled}
use Rattle.jsh_decl.specs.Declarations as declared
use Rattle.jsh_decl.specs.Declarations.{of_snippets, AreModifiers, AreNamesBehind, IsSuperclass, IsSnippet}
use Rattle.jsh_decl.proofs.SoundStatements.{other_sound}
use Rattle.jsh_decl.proofs.TableRuns.{method_symbols}
use Rattle.jsh_decl.proofs.TableTrees.{IsClassBody, IsInterfaceBody, HasDeclared, Have, class_body, interface_body}
use Rattle.jsh_decl.proofs.TableNames.{no_modifier_tree, modifier_tree, no_member_modifier_tree, member_modifier_tree, no_interface_modifier_tree, interface_modifier_tree, dotted_tree, last_name_tree, last_star_tree, one_more_name_tree, import_tree, static_import_tree, last_listed_tree, more_listed_tree, no_names_tree, some_names_tree, no_superclass_tree, superclass_tree, void_tree, result_tree, no_parameters_tree, some_parameters_tree, last_parameter_tree, more_parameters_tree, parameter_tree, final_parameter_tree, method_with_body}
use Rattle.jsh_decl.proofs.TableMembers.{no_first_call_tree, this_call_tree, super_first_call_tree, constructor_body_tree, class_body_tree, bare_field_tree, field_tree, abstract_method_tree, method_tree, constructor_tree, no_member_tree, semicolon_tree, members_tree, interface_body_tree, no_interface_method_tree, interface_method_tree}

-- ---- snippets

class_with : (text : List ℕ) {room : ℕ} {q x i l : List Token} {modifiers : List ModifierUse} {extends : Option Identifier}
    {implements : List Identifier} (c n : Token) →
    AreModifiers of_snippets q modifiers → c.kind ≡ token.Class → n.kind ≡ token.Identifier → IsSuperclass text x extends →
    AreNamesBehind text token.Implements i implements → IsClassBody text room l →
    HasDeclared text table.snippet (suc room) (q ++ c ∷ n ∷ (x ++ (i ++ l)))
class_with text {modifiers = modifiers} {extends = extends} {implements = implements} c n q hc hn x i (class_body {members = members} t u ht m hu) = (
  tree.Class (record { modifiers = modifiers; name = identifier_of text n; extends = extends; implements = implements; members = members }),
  declared.class_snippet q (declared.class c n t u hc hn x i ht m hu),
)

class_tree : (text : List ℕ) {room : ℕ} {ts : List Token} →
    Have text room
    (table.part table.modifiers ∷ table.a token.Class ∷ table.a token.Identifier ∷ table.part table.superclass
    ∷ table.part (table.names_behind token.Implements) ∷ table.deep table.class_body ∷ []) ts →
    HasDeclared text table.snippet room ts
class_tree text (in_part (ms, q) (one c hc known (one n hn also (in_part (extends, x) (in_part (implements, i) (in_deep {l = l} body none)))))) =
    rw (append-nil l) (class_with text c n q hc hn x i body)

interface_with : (text : List ℕ) {room : ℕ} {q x l : List Token} {modifiers : List ModifierUse} {extends : List Identifier} (c n : Token) →
    AreModifiers of_snippets q modifiers → c.kind ≡ token.Interface → n.kind ≡ token.Identifier → AreNamesBehind text token.Extends x extends →
    IsInterfaceBody text room l → HasDeclared text table.snippet (suc room) (q ++ c ∷ n ∷ (x ++ l))
interface_with text {modifiers = modifiers} {extends = extends} c n q hc hn x (interface_body {methods = methods} t u ht m hu) = (
  tree.Interface (record { modifiers = modifiers; name = identifier_of text n; extends = extends; methods = methods }),
  declared.interface_snippet q (declared.interface c n t u hc hn x ht m hu),
)

interface_tree : (text : List ℕ) {room : ℕ} {ts : List Token} →
    Have text room
    (table.part table.modifiers ∷ table.a token.Interface ∷ table.a token.Identifier ∷ table.part (table.names_behind token.Extends)
    ∷ table.deep table.interface_body ∷ []) ts →
    HasDeclared text table.snippet room ts
interface_tree text (in_part (ms, q) (one c hc known (one n hn also (in_part (extends, x) (in_deep {l = l} body none))))) =
    rw (append-nil l) (interface_with text c n q hc hn x body)

method_snippet_tree : (text : List ℕ) {room : ℕ} {ts : List Token} →
    Have text room (table.part table.modifiers ∷ method_symbols (table.deep table.block ∷ [])) ts → HasDeclared text table.snippet room ts
method_snippet_tree text (in_part (ms, qs) rest) =
    let m = method_with_body text ms rest in
    (tree.Method m.0, declared.method_snippet qs m.1 m.2)

variable_tree : (text : List ℕ) {room : ℕ} {ts : List Token} →
    Have text room (table.part table.modifiers ∷ table.part table.variable ∷ table.a token.Semicolon ∷ []) ts → HasDeclared text table.snippet room ts
variable_tree text (in_part (ms, qs) (in_part (v, d) (one u hu known none))) = (tree.Variable ms v, declared.variable_snippet u qs d hu)

-- a statement that begins with a token of this kind, which begins neither a block nor an expression
begun_tree : {text : List ℕ} {room : ℕ} {dangling : Bool} {ts : List Token} {s : Stmt} {t : Token} (k : TokenKind) →
    t.kind ≡ k → form_of k ≢ form.Block → form_of k ≢ form.Expression → IsStmt text room dangling (t ∷ ts) s →
    (snippet : Tree) × IsSnippet text room (t ∷ ts) snippet
begun_tree {ts = ts} {s = s} {t = t} k h block expression d =
    (tree.Statement s, declared.statement_snippet d (other_sound d t ts [] (sym (append-nil (t ∷ ts))) (rw h block) (rw h expression)))

stated : {text : List ℕ} {room : ℕ} {dangling : Bool} {ts : List Token} {s : Stmt} → IsStmt text room dangling ts s →
    (snippet : Tree) × IsSnippet text room ts snippet
stated (statements.block {b = b} d) = (tree.Block b, declared.block_snippet d)
stated (statements.empty t h) = begun_tree token.Semicolon h (λ c. cc) (λ c. cc) (statements.empty t h)
stated (statements.expression {e = e} u d is hu) = (tree.Expression e, declared.expression_snippet u d hu)
stated (statements.if_alone t h c d) = begun_tree token.If h (λ c. cc) (λ c. cc) (statements.if_alone t h c d)
stated (statements.if_else t u h c d hu e) = begun_tree token.If h (λ c. cc) (λ c. cc) (statements.if_else t u h c d hu e)
stated (statements.while_do t h c d) = begun_tree token.While h (λ c. cc) (λ c. cc) (statements.while_do t h c d)
stated (statements.do_while t w u h d hw c hu) = begun_tree token.Do h (λ c. cc) (λ c. cc) (statements.do_while t w u h d hw c hu)
stated (statements.for_do t p u v q h hp a hu b hv c hq d) =
    begun_tree token.For h (λ c. cc) (λ c. cc) (statements.for_do t p u v q h hp a hu b hv c hq d)
stated (statements.for_each t p n u q h hp f l hn hu a hq d) =
    begun_tree token.For h (λ c. cc) (λ c. cc) (statements.for_each t p n u q h hp f l hn hu a hq d)
stated (statements.for_each_inferred t p v n u q h hp f hv hn hu a hq d) =
    begun_tree token.For h (λ c. cc) (λ c. cc) (statements.for_each_inferred t p v n u q h hp f hv hn hu a hq d)
stated (statements.switch t p q h c hp g hq) = begun_tree token.Switch h (λ c. cc) (λ c. cc) (statements.switch t p q h c hp g hq)
stated (statements.break_off t u h hu) = begun_tree token.Break h (λ c. cc) (λ c. cc) (statements.break_off t u h hu)
stated (statements.continue_on t u h hu) = begun_tree token.Continue h (λ c. cc) (λ c. cc) (statements.continue_on t u h hu)
stated (statements.return_from t u h d hu) = begun_tree token.Return h (λ c. cc) (λ c. cc) (statements.return_from t u h d hu)
stated (statements.throw_up t u h d hu) = begun_tree token.Throw h (λ c. cc) (λ c. cc) (statements.throw_up t u h d hu)
stated (statements.try_block t h b c some) = begun_tree token.Try h (λ c. cc) (λ c. cc) (statements.try_block t h b c some)

statement_tree : (text : List ℕ) {room : ℕ} {ts : List Token} → Have text room (table.part table.statement ∷ []) ts →
    HasDeclared text table.snippet room ts
statement_tree text (in_part {l = l} (dangling, s, d) none) = rw (append-nil l) (stated d)

expression_tree : (text : List ℕ) {room : ℕ} {ts : List Token} → Have text room (table.part table.expression ∷ table.a token.Semicolon ∷ []) ts →
    HasDeclared text table.snippet room ts
expression_tree text (in_part (e, d) (one u hu known none)) = (tree.Expression e, declared.expression_snippet u d hu)

-- ---- the productions

declared_of : (text : List ℕ) (n : Part) (p : List Symbol) (room : ℕ) (ts : List Token) → IsProduction n p → Whole n room ts →
    AllKnown (HasValue text) ts → Have text room p ts → HasDeclared text n room ts
declared_of text n p room ts table.of_import w known s = import_tree text s
declared_of text n p room ts table.of_static_import w known s = static_import_tree text s
declared_of text n p room ts table.of_class w known s = class_tree text s
declared_of text n p room ts table.of_interface w known s = interface_tree text s
declared_of text n p room ts table.of_method w known s = method_snippet_tree text s
declared_of text n p room ts table.of_variable w known s = variable_tree text s
declared_of text n p room ts table.of_statement_snippet w known s = statement_tree text s
declared_of text n p room ts table.of_expression_snippet w known s = expression_tree text s
declared_of text n p room ts table.of_dotted w known s = dotted_tree text s
declared_of text n p room ts table.last_name w known s = last_name_tree text s
declared_of text n p room ts table.last_star w known s = last_star_tree text s
declared_of text n p room ts table.one_more_name w known s = one_more_name_tree text s
declared_of text n p room ts table.no_modifier w known s = no_modifier_tree text s
declared_of text n p room ts table.one_more_modifier w known s = modifier_tree text s
declared_of text n p room ts table.no_member_modifier w known s = no_member_modifier_tree text s
declared_of text n p room ts table.one_more_member_modifier w known s = member_modifier_tree text s
declared_of text n p room ts table.no_interface_modifier w known s = no_interface_modifier_tree text s
declared_of text n p room ts table.one_more_interface_modifier w known s = interface_modifier_tree text s
declared_of text n p room ts table.no_superclass w known s = no_superclass_tree text s
declared_of text n p room ts table.of_superclass w known s = superclass_tree text s
declared_of text n p room ts table.no_names w known s = no_names_tree text s
declared_of text n p room ts table.some_names w known s = some_names_tree text s
declared_of text n p room ts table.last_listed_name w known s = last_listed_tree text s
declared_of text n p room ts table.one_more_listed_name w known s = more_listed_tree text s
declared_of text n p room ts table.of_void w known s = void_tree text s
declared_of text n p room ts table.of_result w known s = result_tree text s
declared_of text n p room ts table.no_parameters w known s = no_parameters_tree text s
declared_of text n p room ts table.some_parameters w known s = some_parameters_tree text s
declared_of text n p room ts table.last_parameter w known s = last_parameter_tree text s
declared_of text n p room ts table.one_more_parameter w known s = more_parameters_tree text s
declared_of text n p room ts table.of_parameter w known s = parameter_tree text s
declared_of text n p room ts table.of_final_parameter w known s = final_parameter_tree text s
declared_of text n p room ts table.of_class_body w known s = class_body_tree text s
declared_of text n p room ts table.no_class_member w known s = no_member_tree text s
declared_of text n p room ts table.one_more_semicolon w known s = semicolon_tree text s
declared_of text n p room ts table.one_more_bare_field w known s =
    members_tree text
    (table.part table.member_modifiers ∷ table.part table.type_use ∷ table.a token.Identifier ∷ table.a token.Semicolon ∷ [])
    (λ l t. bare_field_tree text t) s
declared_of text n p room ts table.one_more_field w known s =
    members_tree text
    (table.part table.member_modifiers ∷ table.part table.type_use ∷ table.a token.Identifier ∷ table.a token.Assign ∷ table.part table.initial
    ∷ table.a token.Semicolon ∷ [])
    (λ l t. field_tree text t) s
declared_of text n p room ts table.one_more_abstract_method w known s =
    members_tree text (table.part table.member_modifiers ∷ method_symbols (table.a token.Semicolon ∷ [])) (λ l t. abstract_method_tree text t) s
declared_of text n p room ts table.one_more_method w known s =
    members_tree text (table.part table.member_modifiers ∷ method_symbols (table.deep table.block ∷ [])) (λ l t. method_tree text t) s
declared_of text n p room ts table.one_more_constructor w known s =
    members_tree text
    (table.part table.member_modifiers ∷ table.a token.Identifier ∷ table.part table.parameters ∷ table.part (table.names_behind token.Throws)
    ∷ table.deep table.constructor_body ∷ [])
    (λ l t. constructor_tree text t) s
declared_of text n p room ts table.of_constructor_body w known s = constructor_body_tree text s
declared_of text n p room ts table.no_first_call w known s = no_first_call_tree text s
declared_of text n p room ts table.of_this_call w known s = this_call_tree text s
declared_of text n p room ts table.of_super_first_call w known s = super_first_call_tree text s
declared_of text n p room ts table.of_interface_body w known s = interface_body_tree text s
declared_of text n p room ts table.no_interface_method w known s = no_interface_method_tree text s
declared_of text n p room ts table.one_more_interface_method w known s = interface_method_tree text s
declared_of text n p room ts _ w known s = statement_spelled text n room ts w.is known

-- what is whole has a tree
pub declared_spelled : (text : List ℕ) (n : Part) (room : ℕ) (ts : List Token) → IsWhole n room (kinds ts) → AllKnown (HasValue text) ts →
    HasDeclared text n room ts
declared_spelled text n room ts w known = by_whole (declared_of text) n room ts w known
