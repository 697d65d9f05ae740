-- A reader of snippets: from the front of a list of tokens it takes what the parser takes, and gives what is left.
use Rattle.std.specs.Prelude.{ℕ, zero, suc, ◌==◌, Bool, true, false, not, ◌&&◌, ◌||◌, if◌then◌else◌, List, [], ◌∷◌, Option, Some, None, length}
use Rattle.jsh_tree.specs.declared.token.Token.{Token}
use Rattle.jsh_tree.specs.declared.token.TokenKind.{TokenKind}
use Rattle.jsh_tree.specs.declared.modifier.Modifier.{Modifier}
use Rattle.jsh_tree.specs.declared.expression.Identifier.{Identifier}
use Rattle.jsh_tree.specs.declared.expression.TypeUse.{TypeUse}
use Rattle.jsh_tree.specs.declared.statement.Block.{Block}
use Rattle.jsh_tree.specs.declared.statement.Variable.{Variable}
use Rattle.jsh_tree.specs.declared.declaration.ModifierUse.{ModifierUse}
use Rattle.jsh_tree.specs.declared.declaration.Import.{Import}
use Rattle.jsh_tree.specs.declared.declaration.Parameter.{Parameter}
use Rattle.jsh_tree.specs.declared.declaration.MethodDeclaration.{MethodDeclaration}
use Rattle.jsh_tree.specs.declared.declaration.ConstructorCall.{ConstructorCall}
use Rattle.jsh_tree.specs.declared.declaration.MemberDeclaration.{MemberDeclaration}
use Rattle.jsh_tree.specs.declared.declaration.MemberDeclaration.TheVariants as member
use Rattle.jsh_tree.specs.declared.declaration.ClassDeclaration.{ClassDeclaration}
use Rattle.jsh_tree.specs.declared.declaration.InterfaceDeclaration.{InterfaceDeclaration}
use Rattle.jsh_tree.specs.declared.tree.Tree.{Tree}
use Rattle.jsh_tree.specs.declared.tree.Tree.TheVariants as tree
use Rattle.jsh_parse.specs.Marks.{is_left_paren, is_right_paren, is_left_brace, is_right_brace, is_dot, is_comma, is_identifier, is_this, is_super}
use Rattle.jsh_parse.specs.Leaves.{identifier_of, is_primitive, names_type}
use Rattle.jsh_parse.specs.Forms.{is_semicolon, is_var, form_of}
use Rattle.jsh_parse.specs.declared.forms.Form.{Form}
use Rattle.jsh_parse.specs.declared.forms.Form.TheVariants as form
use Rattle.jsh_parse.specs.Reader.{Read, and_then, accept, sees, brackets, type_read}
use Rattle.jsh_parse.specs.Reading.{expr_at, arguments_at}
use Rattle.jsh_parse.specs.StatementReader.{final_read}
use Rattle.jsh_parse.specs.StatementReading.{stmt_at, block_at, statements_at, variable_at}
use Rattle.jsh_decl.specs.Words.{is_import, is_static, is_star, is_class, is_interface, is_void, is_extends, is_implements, is_throws}
use Rattle.jsh_decl.specs.Declarations.{modifier_of, of_snippets, of_members, of_interfaces}

-- {Modifier}, as many as stand there
abbrev pub modifiers_read : (Modifier → Bool) → List Token → List ModifierUse × List Token
modifiers_read allowed [] = ([], [])
modifiers_read allowed (t ∷ ts) = by (modifiers_read allowed ts) (modifier_of t.kind)
  where
    by : List ModifierUse × List Token → Option Modifier → List ModifierUse × List Token
    by behind None = ([], t ∷ ts)
    by behind (Some m) = if allowed m then (record { modifier = m; span = t.span } ∷ behind.0, behind.1) else ([], t ∷ ts)

-- [static]
abbrev pub static_read : List Token → Bool × List Token
static_read [] = (false, [])
static_read (t ∷ ts) = if is_static t.kind then (true, ts) else (false, t ∷ ts)

-- an identifier
abbrev pub name_read : List ℕ → List Token → Read Identifier
name_read text ts = and_then (accept is_identifier ts) (λ n rest. Some (identifier_of text n, rest))

-- Ident {"." Ident} ["." "*"], of at most so many parts, and whether it ends in a star
unfoldable pub dotted_read : ℕ → List ℕ → List Token → Read (List Identifier × Bool)
dotted_read zero text ts = None
dotted_read (suc most) text ts = and_then (name_read text ts) (λ n rest.
    if sees is_dot rest
    then and_then (accept is_dot rest) (λ d behind.
    if sees is_star behind
    then and_then (accept is_star behind) (λ s end. Some ((n ∷ [], true), end))
    else and_then (dotted_read most text behind) (λ more end. Some ((n ∷ more.0, more.1), end)))
    else Some ((n ∷ [], false), rest))

-- Import, behind its word
abbrev pub import_read : List ℕ → Token → List Token → Read Import
import_read text t ts = and_then (dotted_read (suc (length ts)) text (static_read ts).1) (λ found rest.
    if (length found.0 == 1) && not found.1 then None
    else and_then (accept is_semicolon rest)
    (λ u end. Some (record { span = t.span; is_static = (static_read ts).0; parts = found.0; on_demand = found.1 }, end)))

-- Ident {"," Ident}, of at most so many
unfoldable pub names_read : ℕ → List ℕ → List Token → Read (List Identifier)
names_read zero text ts = None
names_read (suc most) text ts = and_then (name_read text ts) (λ n rest.
    if sees is_comma rest
    then and_then (accept is_comma rest) (λ t behind. and_then (names_read most text behind) (λ names end. Some (n ∷ names, end)))
    else Some (n ∷ [], rest))

-- names behind a word, or nothing where it doesn't stand there
abbrev pub names_behind_read : (TokenKind → Bool) → List ℕ → List Token → Read (List Identifier)
names_behind_read word text ts =
    if sees word ts then and_then (accept word ts) (λ t rest. names_read (suc (length rest)) text rest) else Some ([], ts)

-- [extends Ident]
abbrev pub superclass_read : List ℕ → List Token → Read (Option Identifier)
superclass_read text ts =
    if sees is_extends ts
    then and_then (accept is_extends ts) (λ t rest. and_then (name_read text rest) (λ n end. Some (Some n, end)))
    else Some (None, ts)

-- Param
abbrev pub parameter_read : List ℕ → List Token → Read Parameter
parameter_read text ts = and_then (type_read text (final_read ts).1) (λ written rest. and_then (name_read text rest)
    (λ n end. Some (record { is_final = (final_read ts).0; written = written; name = n }, end)))

-- Param {"," Param}, of at most so many
unfoldable pub parameters_listed_read : ℕ → List ℕ → List Token → Read (List Parameter)
parameters_listed_read zero text ts = None
parameters_listed_read (suc most) text ts = and_then (parameter_read text ts) (λ p rest.
    if sees is_comma rest
    then and_then (accept is_comma rest) (λ t behind. and_then (parameters_listed_read most text behind) (λ ps end. Some (p ∷ ps, end)))
    else Some (p ∷ [], rest))

-- Params
abbrev pub parameters_read : List ℕ → List Token → Read (List Parameter)
parameters_read text ts = and_then (accept is_left_paren ts) (λ t rest.
    if sees is_right_paren rest
    then and_then (accept is_right_paren rest) (λ u end. Some ([], end))
    else and_then (parameters_listed_read (suc (length rest)) text rest) (λ ps behind. and_then (accept is_right_paren behind) (λ u end. Some (ps, end))))

-- Result
abbrev pub result_read : List ℕ → List Token → Read (Option TypeUse)
result_read text ts =
    if sees is_void ts then and_then (accept is_void ts) (λ t end. Some (None, end)) else and_then (type_read text ts) (λ written end. Some (Some written, end))

-- Block | ";"
abbrev pub body_read : List ℕ → ℕ → List Token → Read (Option Block)
body_read text room ts =
    if sees is_semicolon ts
    then and_then (accept is_semicolon ts) (λ u end. Some (None, end))
    else and_then (block_at text room ts) (λ b end. Some (Some b, end))

-- Result Ident Params [Throws] (Block | ";")
abbrev pub method_read : List ℕ → ℕ → List ModifierUse → List Token → Read MethodDeclaration
method_read text room modifiers ts = and_then (result_read text ts) (λ result rest. and_then (name_read text rest)
    (λ n behind. and_then (parameters_read text behind) (λ parameters more. and_then (names_behind_read is_throws text more)
    (λ throws last. and_then (body_read text room last) (λ inside end. Some (
      record {
        modifiers = modifiers;
        result = result;
        name = n;
        parameters = parameters;
        throws = throws;
        body = inside;
      },
      end,
    ))))))

-- a type and a name stand first, and behind them what passes
abbrev pub is_typed : (List Token → Bool) → List Token → Bool
is_typed behind [] = false
is_typed behind (t ∷ ts) = names_type t.kind && is_named (brackets ts).1
  where
    is_named : List Token → Bool
    is_named [] = false
    is_named (n ∷ ns) = is_identifier n.kind && behind ns

-- the tokens begin a method
abbrev pub begins_method : List Token → Bool
begins_method ts = sees is_void ts || is_typed (sees is_left_paren) ts

-- the tokens begin a constructor
abbrev pub begins_constructor : List Token → Bool
begins_constructor [] = false
begins_constructor (t ∷ ts) = is_identifier t.kind && sees is_left_paren ts

-- [(this | super) Args ";"]
abbrev pub first_call_read : List ℕ → ℕ → List Token → Read (Option ConstructorCall)
first_call_read text room [] = Some (None, [])
first_call_read text room (t ∷ ts) =
    if (is_this t.kind || is_super t.kind) && sees is_left_paren ts
    then and_then (arguments_at text room ts) (λ arguments rest. and_then (accept is_semicolon rest)
    (λ u end. Some (Some (record { span = t.span; is_super = is_super t.kind; arguments = arguments }), end)))
    else Some (None, t ∷ ts)

-- Ident Params [Throws] CtorBlock
abbrev pub constructor_read : List ℕ → ℕ → List ModifierUse → List Token → Read MemberDeclaration
constructor_read text zero modifiers ts = None
constructor_read text (suc room) modifiers ts = and_then (name_read text ts) (λ n rest. and_then (parameters_read text rest)
    (λ parameters behind. and_then (names_behind_read is_throws text behind) (λ throws more. and_then (accept is_left_brace more)
    (λ t inner. and_then (first_call_read text room inner) (λ first body. and_then (statements_at text room body)
    (λ inside last. and_then (accept is_right_brace last) (λ u end. Some (
      member.Constructor (record {
        modifiers = modifiers;
        name = n;
        parameters = parameters;
        throws = throws;
        brace = t.span;
        first = first;
        statements = inside;
      }),
      end,
    ))))))))

-- Type Ident ["=" VarInit] ";"
abbrev pub field_read : List ℕ → ℕ → List ModifierUse → List Token → Read MemberDeclaration
field_read text room modifiers ts = and_then (variable_at text room ts) (λ v rest. and_then (accept is_semicolon rest) (λ u end. of_type v v.written end))
  where
    of_type : Variable → Option TypeUse → List Token → Read MemberDeclaration
    of_type v None end = None
    of_type v (Some written) end =
        Some (member.Field (record { modifiers = modifiers; written = written; name = v.name; initial = v.initial }), end)

-- Member, but not a semicolon by itself, behind its modifiers
abbrev pub member_behind_read : List ℕ → ℕ → List ModifierUse → List Token → Read MemberDeclaration
member_behind_read text room modifiers ts =
    if begins_constructor ts then constructor_read text room modifiers ts
    else (if begins_method ts
    then and_then (method_read text room modifiers ts) (λ m end. Some (member.Method m, end))
    else (if sees is_var ts then None else field_read text room modifiers ts))

abbrev pub member_read : List ℕ → ℕ → List Token → Read MemberDeclaration
member_read text room ts = member_behind_read text room (modifiers_read of_members ts).0 (modifiers_read of_members ts).1

-- {Member}, of at most so many, up to a closing brace
unfoldable pub members_read : ℕ → List ℕ → ℕ → List Token → Read (List MemberDeclaration)
members_read zero text room ts = None
members_read (suc most) text room [] = Some ([], [])
members_read (suc most) text room (t ∷ ts) =
    if is_right_brace t.kind then Some ([], t ∷ ts)
    else (if is_semicolon t.kind then members_read most text room ts
    else and_then (member_read text room (t ∷ ts)) (λ m rest. and_then (members_read most text room rest) (λ others end. Some (m ∷ others, end))))

-- class Ident [extends Ident] [implements Ident {"," Ident}] "{" {Member} "}", behind its word
abbrev pub class_read : List ℕ → ℕ → List ModifierUse → List Token → Read ClassDeclaration
class_read text zero modifiers ts = None
class_read text (suc room) modifiers ts = and_then (name_read text ts) (λ n rest. and_then (superclass_read text rest)
    (λ extends behind. and_then (names_behind_read is_implements text behind) (λ implements more. and_then (accept is_left_brace more)
    (λ t inner. and_then (members_read (suc (length inner)) text room inner) (λ members last. and_then (accept is_right_brace last)
    (λ u end. Some (record { modifiers = modifiers; name = n; extends = extends; implements = implements; members = members }, end)))))))

-- one method of an interface
abbrev pub interface_method_read : List ℕ → ℕ → List Token → Read MethodDeclaration
interface_method_read text room ts =
    and_then (method_read text room (modifiers_read of_interfaces ts).0 (modifiers_read of_interfaces ts).1) (λ m end. without_body m m.body end)
  where
    without_body : MethodDeclaration → Option Block → List Token → Read MethodDeclaration
    without_body m None end = Some (m, end)
    without_body m (Some b) end = None

-- the methods of an interface, at most so many, up to a closing brace
unfoldable pub interface_methods_read : ℕ → List ℕ → ℕ → List Token → Read (List MethodDeclaration)
interface_methods_read zero text room ts = None
interface_methods_read (suc most) text room [] = Some ([], [])
interface_methods_read (suc most) text room (t ∷ ts) =
    if is_right_brace t.kind then Some ([], t ∷ ts)
    else and_then (interface_method_read text room (t ∷ ts)) (λ m rest. and_then (interface_methods_read most text room rest)
    (λ others end. Some (m ∷ others, end)))

-- interface Ident [extends Ident {"," Ident}] "{" methods "}", behind its word
abbrev pub interface_read : List ℕ → ℕ → List ModifierUse → List Token → Read InterfaceDeclaration
interface_read text zero modifiers ts = None
interface_read text (suc room) modifiers ts = and_then (name_read text ts) (λ n rest. and_then (names_behind_read is_extends text rest)
    (λ extends behind. and_then (accept is_left_brace behind) (λ t inner. and_then (interface_methods_read (suc (length inner)) text room inner)
    (λ methods last. and_then (accept is_right_brace last)
    (λ u end. Some (record { modifiers = modifiers; name = n; extends = extends; methods = methods }, end))))))

-- a method with a block
abbrev pub whole_method_read : List ℕ → ℕ → List ModifierUse → List Token → Read Tree
whole_method_read text room modifiers ts = and_then (method_read text room modifiers ts) (λ m end. with_body m m.body end)
  where
    with_body : MethodDeclaration → Option Block → List Token → Read Tree
    with_body m None end = None
    with_body m (Some b) end = Some (tree.Method m, end)

-- Class | Interface | Method | Var ";", behind its modifiers
abbrev pub declaration_read : List ℕ → ℕ → List ModifierUse → List Token → Read Tree
declaration_read text room modifiers ts =
    if sees is_class ts
    then and_then (accept is_class ts) (λ t rest. and_then (class_read text room modifiers rest) (λ c end. Some (tree.Class c, end)))
    else (if sees is_interface ts
    then and_then (accept is_interface ts) (λ t rest. and_then (interface_read text room modifiers rest) (λ i end. Some (tree.Interface i, end)))
    else (if begins_method ts then whole_method_read text room modifiers ts
    else and_then (variable_at text room ts) (λ v rest. and_then (accept is_semicolon rest) (λ u end. Some (tree.Variable modifiers v, end)))))

-- the tokens begin a declaration without modifiers
abbrev pub begins_declaration : List Token → Bool
begins_declaration [] = false
begins_declaration (t ∷ ts) =
    is_class t.kind || is_interface t.kind || is_void t.kind || is_var t.kind || is_primitive t.kind
    || (is_identifier t.kind && sees is_identifier (brackets ts).1)

-- Block | Stmt | Expr ";"
abbrev pub statement_read : List ℕ → ℕ → List Token → Read Tree
statement_read text room [] = None
statement_read text room (t ∷ ts) = by (form_of t.kind)
  where
    by : Form → Read Tree
    by form.Expression = and_then (expr_at text room (t ∷ ts)) (λ e rest. and_then (accept is_semicolon rest) (λ u end. Some (tree.Expression e, end)))
    by form.Block = and_then (block_at text room (t ∷ ts)) (λ b end. Some (tree.Block b, end))
    by _ = and_then (stmt_at text room (t ∷ ts)) (λ s end. Some (tree.Statement s, end))

-- Snippet
unfoldable pub snippet_at : List ℕ → ℕ → List Token → Read Tree
snippet_at text room ts =
    if sees is_import ts
    then and_then (accept is_import ts) (λ t rest. and_then (import_read text t rest) (λ i end. Some (tree.Import i, end)))
    else declared (modifiers_read of_snippets ts).0 (modifiers_read of_snippets ts).1
  where
    declared : List ModifierUse → List Token → Read Tree
    declared [] rest = if begins_declaration rest then declaration_read text room [] rest else statement_read text room rest
    declared (m ∷ ms) rest = declaration_read text room (m ∷ ms) rest
