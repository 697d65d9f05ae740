-- The grammar of snippets (JEP 222; JLS 7.5, 8, 9): which tokens of a text spell which tree, by cases. The number in front of the
-- tokens is that of the grammars of statements and expressions. The body of a type is one deeper than what it stands in, and so is
-- that of a method or a constructor.
use Rattle.std.specs.Prelude.{◌≡◌, ◌≢◌, ℕ, suc, Bool, true, false, List, [], ◌∷◌, ◌++◌, Option, Some, None, length}
use Rattle.jsh_tree.specs.declared.token.Token.{Token}
use Rattle.jsh_tree.specs.declared.token.TokenKind.{TokenKind}
use Rattle.jsh_tree.specs.declared.token.TokenKind.TheVariants as token
use Rattle.jsh_tree.specs.declared.modifier.Modifier.{Modifier}
use Rattle.jsh_tree.specs.declared.modifier.Modifier.TheVariants as modifier
use Rattle.jsh_tree.specs.declared.expression.Expr.{Expr}
use Rattle.jsh_tree.specs.declared.expression.Identifier.{Identifier}
use Rattle.jsh_tree.specs.declared.expression.TypeUse.{TypeUse}
use Rattle.jsh_tree.specs.declared.statement.Stmt.{Stmt, out-Stmt}
use Rattle.jsh_tree.specs.declared.statement.BlockStatement.TheOpen.{Stmt-F}
use Rattle.jsh_tree.specs.declared.statement.SwitchGroup.{SwitchGroup}
use Rattle.jsh_tree.specs.declared.statement.CatchClause.{CatchClause}
use Rattle.jsh_tree.specs.declared.statement.Block.{Block}
use Rattle.jsh_tree.specs.declared.statement.BlockStatement.{BlockStatement}
use Rattle.jsh_tree.specs.declared.statement.Variable.{Variable}
use Rattle.jsh_tree.specs.declared.declaration.ModifierUse.{ModifierUse}
use Rattle.jsh_tree.specs.declared.declaration.Import.{Import}
use Rattle.jsh_tree.specs.declared.declaration.Parameter.{Parameter}
use Rattle.jsh_tree.specs.declared.declaration.MethodDeclaration.{MethodDeclaration}
use Rattle.jsh_tree.specs.declared.declaration.ConstructorCall.{ConstructorCall}
use Rattle.jsh_tree.specs.declared.declaration.MemberDeclaration.{MemberDeclaration}
use Rattle.jsh_tree.specs.declared.declaration.MemberDeclaration.TheVariants as member
use Rattle.jsh_tree.specs.declared.declaration.ClassDeclaration.{ClassDeclaration}
use Rattle.jsh_tree.specs.declared.declaration.InterfaceDeclaration.{InterfaceDeclaration}
use Rattle.jsh_tree.specs.declared.tree.Tree.{Tree}
use Rattle.jsh_tree.specs.declared.tree.Tree.TheVariants as tree
use Rattle.jsh_parse.specs.Leaves.{identifier_of}
use Rattle.jsh_parse.specs.Grammar.{IsExpr, AreArguments}
use Rattle.jsh_parse.specs.Reading.{semicolon_at_end}
use Rattle.jsh_parse.specs.Statements.{IsFinal, IsType, IsVariable, IsStmt, IsBlock, AreStatements}

-- the modifier that a token is
abbrev pub modifier_of : TokenKind → Option Modifier
modifier_of token.Public = Some modifier.Public
modifier_of token.Protected = Some modifier.Protected
modifier_of token.Private = Some modifier.Private
modifier_of token.Static = Some modifier.Static
modifier_of token.Final = Some modifier.Final
modifier_of token.Volatile = Some modifier.Volatile
modifier_of token.Abstract = Some modifier.Abstract
modifier_of _ = None

-- what may stand before a declaration that is a snippet
abbrev pub of_snippets : Modifier → Bool
of_snippets _ = true

-- what may stand before a member of a class
abbrev pub of_members : Modifier → Bool
of_members modifier.Static = false
of_members _ = true

-- what may stand before a method of an interface
abbrev pub of_interfaces : Modifier → Bool
of_interfaces modifier.Public = true
of_interfaces modifier.Abstract = true
of_interfaces _ = false

-- {Modifier}, each of which is allowed, in any order
pub data AreModifiers (allowed : Modifier → Bool) : List Token → List ModifierUse → Type 0 where
  no_modifiers : AreModifiers allowed [] []
  one_more_modifier : {r : List Token} {rest : List ModifierUse} {m : Modifier} (t : Token) →
      modifier_of t.kind ≡ Some m → allowed m ≡ true → AreModifiers allowed r rest →
      AreModifiers allowed (t ∷ r) (record { modifier = m; span = t.span } ∷ rest)

-- [static]
pub data IsStatic : List Token → Bool → Type 0 where
  not_static : IsStatic [] false
  static : (t : Token) → t.kind ≡ token.Static → IsStatic (t ∷ []) true

-- Ident {"." Ident} ["." "*"]. The flag says whether it ends in a star.
pub data AreDotted (text : List ℕ) : List Token → List Identifier → Bool → Type 0 where
  last_part : (n : Token) → n.kind ≡ token.Identifier → AreDotted text (n ∷ []) (identifier_of text n ∷ []) false
  last_with_star : (n d s : Token) → n.kind ≡ token.Identifier → d.kind ≡ token.Dot → s.kind ≡ token.Star →
      AreDotted text (n ∷ d ∷ s ∷ []) (identifier_of text n ∷ []) true
  one_more_part : {r : List Token} {rest : List Identifier} {on_demand : Bool} (n d : Token) →
      n.kind ≡ token.Identifier → d.kind ≡ token.Dot → AreDotted text r rest on_demand →
      AreDotted text (n ∷ d ∷ r) (identifier_of text n ∷ rest) on_demand

-- Import = import [static] Ident "." Ident {"." Ident} ["." "*"] ";" | import [static] Ident "." "*" ";"
pub data IsImport (text : List ℕ) : List Token → Import → Type 0 where
  imported : {s p : List Token} {is_static on_demand : Bool} {parts : List Identifier} (t u : Token) →
      t.kind ≡ token.Import → IsStatic s is_static → AreDotted text p parts on_demand → (length parts ≡ 1 → on_demand ≡ true) →
      u.kind ≡ token.Semicolon →
      IsImport text (t ∷ (s ++ (p ++ u ∷ []))) (record { span = t.span; is_static = is_static; parts = parts; on_demand = on_demand })

-- Ident {"," Ident}
pub data AreNames (text : List ℕ) : List Token → List Identifier → Type 0 where
  last_name : (n : Token) → n.kind ≡ token.Identifier → AreNames text (n ∷ []) (identifier_of text n ∷ [])
  one_more_name : {r : List Token} {rest : List Identifier} (n t : Token) →
      n.kind ≡ token.Identifier → t.kind ≡ token.Comma → AreNames text r rest → AreNames text (n ∷ t ∷ r) (identifier_of text n ∷ rest)

-- a word and the names behind it, or nothing
pub data AreNamesBehind (text : List ℕ) (word : TokenKind) : List Token → List Identifier → Type 0 where
  no_names : AreNamesBehind text word [] []
  some_names : {l : List Token} {names : List Identifier} (t : Token) → t.kind ≡ word → AreNames text l names →
      AreNamesBehind text word (t ∷ l) names

-- [extends Ident], of a class
pub data IsSuperclass (text : List ℕ) : List Token → Option Identifier → Type 0 where
  no_superclass : IsSuperclass text [] None
  superclass : (t n : Token) → t.kind ≡ token.Extends → n.kind ≡ token.Identifier → IsSuperclass text (t ∷ n ∷ []) (Some (identifier_of text n))

-- Param = [final] Type Ident
pub data IsParameter (text : List ℕ) : List Token → Parameter → Type 0 where
  parameter : {f l : List Token} {is_final : Bool} {written : TypeUse} (n : Token) →
      IsFinal f is_final → IsType text l written → n.kind ≡ token.Identifier →
      IsParameter text (f ++ (l ++ n ∷ [])) (record { is_final = is_final; written = written; name = identifier_of text n })

-- Param {"," Param}
pub data AreParametersListed (text : List ℕ) : List Token → List Parameter → Type 0 where
  last_parameter : {ts : List Token} {p : Parameter} → IsParameter text ts p → AreParametersListed text ts (p ∷ [])
  one_more_parameter : {l r : List Token} {p : Parameter} {rest : List Parameter} (t : Token) →
      IsParameter text l p → t.kind ≡ token.Comma → AreParametersListed text r rest → AreParametersListed text (l ++ t ∷ r) (p ∷ rest)

-- Params = "(" [Param {"," Param}] ")"
pub data AreParameters (text : List ℕ) : List Token → List Parameter → Type 0 where
  no_parameters : (t u : Token) → t.kind ≡ token.LeftParen → u.kind ≡ token.RightParen → AreParameters text (t ∷ u ∷ []) []
  some_parameters : {l : List Token} {parameters : List Parameter} (t u : Token) →
      t.kind ≡ token.LeftParen → AreParametersListed text l parameters → u.kind ≡ token.RightParen →
      AreParameters text (t ∷ (l ++ u ∷ [])) parameters

-- Result = void | Type
pub data IsResult (text : List ℕ) : List Token → Option TypeUse → Type 0 where
  void : (t : Token) → t.kind ≡ token.Void → IsResult text (t ∷ []) None
  typed : {ts : List Token} {written : TypeUse} → IsType text ts written → IsResult text ts (Some written)

-- Block | ";"
pub data IsBody (text : List ℕ) : ℕ → List Token → Option Block → Type 0 where
  no_body : {room : ℕ} (u : Token) → u.kind ≡ token.Semicolon → IsBody text room (u ∷ []) None
  body : {room : ℕ} {ts : List Token} {b : Block} → IsBlock text room ts b → IsBody text room ts (Some b)

-- Result Ident Params [Throws] (Block | ";"), behind these modifiers
pub data IsMethod (text : List ℕ) (modifiers : List ModifierUse) : ℕ → List Token → MethodDeclaration → Type 0 where
  method : {room : ℕ} {l p h b : List Token} {result : Option TypeUse} {parameters : List Parameter} {throws : List Identifier} {inside : Option Block}
      (n : Token) → IsResult text l result → n.kind ≡ token.Identifier → AreParameters text p parameters →
      AreNamesBehind text token.Throws h throws → IsBody text room b inside →
      IsMethod text modifiers room (l ++ n ∷ (p ++ (h ++ b)))
      (record {
        modifiers = modifiers;
        result = result;
        name = identifier_of text n;
        parameters = parameters;
        throws = throws;
        body = inside;
      })

-- [(this | super) Args ";"]
pub data IsFirstCall (text : List ℕ) : ℕ → List Token → Option ConstructorCall → Type 0 where
  no_first_call : {room : ℕ} → IsFirstCall text room [] None
  this_call : {room : ℕ} {l : List Token} {arguments : List Expr} (t u : Token) →
      t.kind ≡ token.This → AreArguments text room l arguments → u.kind ≡ token.Semicolon →
      IsFirstCall text room (t ∷ (l ++ u ∷ [])) (Some (record { span = t.span; is_super = false; arguments = arguments }))
  super_call : {room : ℕ} {l : List Token} {arguments : List Expr} (t u : Token) →
      t.kind ≡ token.Super → AreArguments text room l arguments → u.kind ≡ token.Semicolon →
      IsFirstCall text room (t ∷ (l ++ u ∷ [])) (Some (record { span = t.span; is_super = true; arguments = arguments }))

-- Member, but not a semicolon by itself. A field is declared as a variable is, but not by `var`.
pub data IsMember (text : List ℕ) : ℕ → List Token → MemberDeclaration → Type 0 where
  field : {room : ℕ} {q l : List Token} {modifiers : List ModifierUse} {v : Variable} {written : TypeUse} (u : Token) →
      AreModifiers of_members q modifiers → IsVariable text room l v → v.written ≡ Some written → u.kind ≡ token.Semicolon →
      IsMember text room (q ++ (l ++ u ∷ []))
      (member.Field (record { modifiers = modifiers; written = written; name = v.name; initial = v.initial }))
  method_member : {room : ℕ} {q l : List Token} {modifiers : List ModifierUse} {m : MethodDeclaration} →
      AreModifiers of_members q modifiers → IsMethod text modifiers room l m → IsMember text room (q ++ l) (member.Method m)
  constructor : {room : ℕ} {q p h c s : List Token} {modifiers : List ModifierUse} {parameters : List Parameter} {throws : List Identifier}
      {first : Option ConstructorCall} {inside : List BlockStatement} (n t u : Token) →
      AreModifiers of_members q modifiers → n.kind ≡ token.Identifier → AreParameters text p parameters →
      AreNamesBehind text token.Throws h throws → t.kind ≡ token.LeftBrace → IsFirstCall text room c first →
      AreStatements text room s inside → u.kind ≡ token.RightBrace →
      IsMember text (suc room) (q ++ n ∷ (p ++ (h ++ t ∷ (c ++ (s ++ u ∷ [])))))
      (member.Constructor (record {
        modifiers = modifiers;
        name = identifier_of text n;
        parameters = parameters;
        throws = throws;
        brace = t.span;
        first = first;
        statements = inside;
      }))

-- {Member}. A semicolon by itself declares nothing.
pub data AreMembers (text : List ℕ) : ℕ → List Token → List MemberDeclaration → Type 0 where
  no_members : {room : ℕ} → AreMembers text room [] []
  one_more_semicolon : {room : ℕ} {r : List Token} {rest : List MemberDeclaration} (u : Token) →
      u.kind ≡ token.Semicolon → AreMembers text room r rest → AreMembers text room (u ∷ r) rest
  one_more_member : {room : ℕ} {l r : List Token} {m : MemberDeclaration} {rest : List MemberDeclaration} →
      IsMember text room l m → AreMembers text room r rest → AreMembers text room (l ++ r) (m ∷ rest)

-- class Ident [extends Ident] [implements Ident {"," Ident}] "{" {Member} "}", behind these modifiers
pub data IsClass (text : List ℕ) (modifiers : List ModifierUse) : ℕ → List Token → ClassDeclaration → Type 0 where
  class : {room : ℕ} {x i m : List Token} {extends : Option Identifier} {implements : List Identifier} {members : List MemberDeclaration}
      (c n t u : Token) → c.kind ≡ token.Class → n.kind ≡ token.Identifier → IsSuperclass text x extends →
      AreNamesBehind text token.Implements i implements → t.kind ≡ token.LeftBrace → AreMembers text room m members → u.kind ≡ token.RightBrace →
      IsClass text modifiers (suc room) (c ∷ n ∷ (x ++ (i ++ t ∷ (m ++ u ∷ []))))
      (record { modifiers = modifiers; name = identifier_of text n; extends = extends; implements = implements; members = members })

-- {{public | abstract} Result Ident Params [Throws] ";"}
pub data AreInterfaceMethods (text : List ℕ) : ℕ → List Token → List MethodDeclaration → Type 0 where
  no_methods : {room : ℕ} → AreInterfaceMethods text room [] []
  one_more_method : {room : ℕ} {q l r : List Token} {modifiers : List ModifierUse} {m : MethodDeclaration} {rest : List MethodDeclaration} →
      AreModifiers of_interfaces q modifiers → IsMethod text modifiers room l m → m.body ≡ None → AreInterfaceMethods text room r rest →
      AreInterfaceMethods text room (q ++ (l ++ r)) (m ∷ rest)

-- interface Ident [extends Ident {"," Ident}] "{" {{public | abstract} Result Ident Params [Throws] ";"} "}", behind these modifiers
pub data IsInterface (text : List ℕ) (modifiers : List ModifierUse) : ℕ → List Token → InterfaceDeclaration → Type 0 where
  interface : {room : ℕ} {x m : List Token} {extends : List Identifier} {methods : List MethodDeclaration} (c n t u : Token) →
      c.kind ≡ token.Interface → n.kind ≡ token.Identifier → AreNamesBehind text token.Extends x extends → t.kind ≡ token.LeftBrace →
      AreInterfaceMethods text room m methods → u.kind ≡ token.RightBrace →
      IsInterface text modifiers (suc room) (c ∷ n ∷ (x ++ t ∷ (m ++ u ∷ [])))
      (record { modifiers = modifiers; name = identifier_of text n; extends = extends; methods = methods })

-- a statement other than a block and an expression, which are snippets of their own
abbrev pub is_other_statement : Stmt → Bool
is_other_statement s = is_other (out-Stmt s)
  where
    is_other : Stmt-F BlockStatement Stmt Block CatchClause SwitchGroup → Bool
    is_other (Stmt-F.Block b) = false
    is_other (Stmt-F.Expression e) = false
    is_other _ = true

-- Snippet = Import | {Modifier} (Class | Interface | Method | Var ";") | Block | Stmt | Expr ";"
pub data IsSnippet (text : List ℕ) : ℕ → List Token → Tree → Type 0 where
  import_snippet : {room : ℕ} {ts : List Token} {i : Import} → IsImport text ts i → IsSnippet text room ts (tree.Import i)
  class_snippet : {room : ℕ} {q l : List Token} {modifiers : List ModifierUse} {c : ClassDeclaration} →
      AreModifiers of_snippets q modifiers → IsClass text modifiers room l c → IsSnippet text room (q ++ l) (tree.Class c)
  interface_snippet : {room : ℕ} {q l : List Token} {modifiers : List ModifierUse} {i : InterfaceDeclaration} →
      AreModifiers of_snippets q modifiers → IsInterface text modifiers room l i → IsSnippet text room (q ++ l) (tree.Interface i)
  method_snippet : {room : ℕ} {q l : List Token} {modifiers : List ModifierUse} {m : MethodDeclaration} →
      AreModifiers of_snippets q modifiers → IsMethod text modifiers room l m → m.body ≢ None → IsSnippet text room (q ++ l) (tree.Method m)
  variable_snippet : {room : ℕ} {q l : List Token} {modifiers : List ModifierUse} {v : Variable} (u : Token) →
      AreModifiers of_snippets q modifiers → IsVariable text room l v → u.kind ≡ token.Semicolon →
      IsSnippet text room (q ++ (l ++ u ∷ [])) (tree.Variable modifiers v)
  block_snippet : {room : ℕ} {ts : List Token} {b : Block} → IsBlock text room ts b → IsSnippet text room ts (tree.Block b)
  statement_snippet : {room : ℕ} {dangling : Bool} {ts : List Token} {s : Stmt} → IsStmt text room dangling ts s → is_other_statement s ≡ true →
      IsSnippet text room ts (tree.Statement s)
  expression_snippet : {room : ℕ} {l : List Token} {e : Expr} (u : Token) → IsExpr text room l e → u.kind ≡ token.Semicolon →
      IsSnippet text room (l ++ u ∷ []) (tree.Expression e)

-- A source is one snippet where its tokens are one, and else where these and a semicolon are one.
pub data IsSource (text : List ℕ) : ℕ → List Token → Tree → Type 0 where
  as_it_stands : {room : ℕ} {ts : List Token} {snippet : Tree} → IsSnippet text room ts snippet → IsSource text room ts snippet
  with_semicolon : {room : ℕ} {ts : List Token} {snippet : Tree} →
      ((other : Tree) → IsSnippet text room ts other → ⊥) → IsSnippet text room (ts ++ semicolon_at_end text ∷ []) snippet →
      IsSource text room ts snippet
