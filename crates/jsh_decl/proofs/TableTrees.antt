-- The trees that the tokens of each part of a declaration spell.
use Rattle.std.proofs.Common.{◌≡◌, ℕ, Bool, true, List, [], ◌∷◌, ◌++◌, Option, length}
use Rattle.jsh_tree.specs.declared.token.Token.{Token}
use Rattle.jsh_tree.specs.declared.token.TokenKind.TheVariants as token
use Rattle.jsh_tree.specs.declared.expression.Identifier.{Identifier}
use Rattle.jsh_tree.specs.declared.expression.TypeUse.{TypeUse}
use Rattle.jsh_tree.specs.declared.statement.BlockStatement.{BlockStatement}
use Rattle.jsh_tree.specs.declared.declaration.ModifierUse.{ModifierUse}
use Rattle.jsh_tree.specs.declared.declaration.Parameter.{Parameter}
use Rattle.jsh_tree.specs.declared.declaration.MethodDeclaration.{MethodDeclaration}
use Rattle.jsh_tree.specs.declared.declaration.ConstructorCall.{ConstructorCall}
use Rattle.jsh_tree.specs.declared.declaration.MemberDeclaration.{MemberDeclaration}
use Rattle.jsh_tree.specs.declared.tree.Tree.{Tree}
use Rattle.jsh_grammar.specs.Productions.{Part, Symbol}
use Rattle.jsh_grammar.specs.Productions as table
use Rattle.jsh_parse.specs.Statements.{AreStatements}
use Rattle.jsh_parse.proofs.TableSymbols.{AreSymbols}
use Rattle.jsh_parse.proofs.TableValues.{HasValue}
use Rattle.jsh_parse.proofs.StatementTableSpelled.{HasStatement}
use Rattle.jsh_decl.specs.Declarations.{of_snippets, of_members, of_interfaces, AreModifiers, AreDotted, AreNames, AreNamesBehind, IsSuperclass, IsParameter, AreParametersListed, AreParameters, IsResult, IsFirstCall, AreMembers, AreInterfaceMethods, IsSnippet}

-- what stands behind the first of dotted names
pub data IsBehindName (text : List ℕ) : List Token → Type 0 where
  star_behind : (d s : Token) → d.kind ≡ token.Dot → s.kind ≡ token.Star → IsBehindName text (d ∷ s ∷ [])
  names_behind : {r : List Token} {parts : List Identifier} {on_demand : Bool} (d : Token) → d.kind ≡ token.Dot → AreDotted text r parts on_demand →
      IsBehindName text (d ∷ r)

-- the members of a class in their braces
pub data IsClassBody (text : List ℕ) (room : ℕ) : List Token → Type 0 where
  class_body : {m : List Token} {members : List MemberDeclaration} (t u : Token) →
      t.kind ≡ token.LeftBrace → AreMembers text room m members → u.kind ≡ token.RightBrace → IsClassBody text room (t ∷ (m ++ u ∷ []))

-- the methods of an interface in their braces
pub data IsInterfaceBody (text : List ℕ) (room : ℕ) : List Token → Type 0 where
  interface_body : {m : List Token} {methods : List MethodDeclaration} (t u : Token) →
      t.kind ≡ token.LeftBrace → AreInterfaceMethods text room m methods → u.kind ≡ token.RightBrace →
      IsInterfaceBody text room (t ∷ (m ++ u ∷ []))

-- the statements of a constructor in their braces
pub data IsConstructorBody (text : List ℕ) (room : ℕ) : List Token → Type 0 where
  constructor_body : {c s : List Token} {first : Option ConstructorCall} {inside : List BlockStatement} (t u : Token) →
      t.kind ≡ token.LeftBrace → IsFirstCall text room c first → AreStatements text room s inside → u.kind ≡ token.RightBrace →
      IsConstructorBody text room (t ∷ (c ++ (s ++ u ∷ [])))

-- dotted names, which are more than one or end in a star
abbrev pub HasDotted : List ℕ → List Token → Type 0
HasDotted text ts = (parts : List Identifier) × (on_demand : Bool) × AreDotted text ts parts on_demand × (length parts ≡ 1 → on_demand ≡ true)

-- the trees that the tokens of a part spell, of all parts
abbrev pub HasDeclared : List ℕ → Part → ℕ → List Token → Type 0
HasDeclared text table.snippet room ts = (snippet : Tree) × IsSnippet text room ts snippet
HasDeclared text table.dotted room ts = HasDotted text ts
HasDeclared text table.more_dotted room ts = IsBehindName text ts
HasDeclared text table.modifiers room ts = (ms : List ModifierUse) × AreModifiers of_snippets ts ms
HasDeclared text table.member_modifiers room ts = (ms : List ModifierUse) × AreModifiers of_members ts ms
HasDeclared text table.interface_modifiers room ts = (ms : List ModifierUse) × AreModifiers of_interfaces ts ms
HasDeclared text table.class_body room ts = IsClassBody text room ts
HasDeclared text table.interface_body room ts = IsInterfaceBody text room ts
HasDeclared text table.class_members room ts = (ms : List MemberDeclaration) × AreMembers text room ts ms
HasDeclared text table.interface_methods room ts = (ms : List MethodDeclaration) × AreInterfaceMethods text room ts ms
HasDeclared text table.names room ts = (names : List Identifier) × AreNames text ts names
HasDeclared text table.superclass room ts = (extends : Option Identifier) × IsSuperclass text ts extends
HasDeclared text (table.names_behind word) room ts = (names : List Identifier) × AreNamesBehind text word ts names
HasDeclared text table.result room ts = (result : Option TypeUse) × IsResult text ts result
HasDeclared text table.parameters room ts = (ps : List Parameter) × AreParameters text ts ps
HasDeclared text table.parameters_listed room ts = (ps : List Parameter) × AreParametersListed text ts ps
HasDeclared text table.parameter room ts = (p : Parameter) × IsParameter text ts p
HasDeclared text table.constructor_body room ts = IsConstructorBody text room ts
HasDeclared text table.first_call room ts = (first : Option ConstructorCall) × IsFirstCall text room ts first
HasDeclared text n room ts = HasStatement text n room ts

-- tokens that stand for symbols, part by part with trees
abbrev pub Have : List ℕ → ℕ → List Symbol → List Token → Type 0
Have text room p ts = AreSymbols (HasValue text) (HasDeclared text) room p ts
