-- The grammar of statements (JLS 14): which tokens of a text spell which tree, by cases. The number in front of the tokens
-- is that of the grammar of expressions. A block, a statement in a statement and what stands between parentheses are each
-- one deeper than what they stand in.
use Rattle.std.specs.Prelude.{◌≡◌, ◌≢◌, ℕ, suc, Bool, true, false, ◌⊎◌, List, [], ◌∷◌, ◌++◌, Option, Some, None}
use Rattle.jsh_tree.specs.declared.token.Span.{Span}
use Rattle.jsh_tree.specs.declared.token.Token.{Token}
use Rattle.jsh_tree.specs.declared.token.TokenKind.{TokenKind}
use Rattle.jsh_tree.specs.declared.token.TokenKind.TheVariants as token
use Rattle.jsh_tree.specs.declared.expression.Expr.{Expr, out-Expr}
use Rattle.jsh_tree.specs.declared.expression.Expr.TheOpen.{Expr-F, PathPart-F}
use Rattle.jsh_tree.specs.declared.expression.PathPart.{PathPart, out-PathPart}
use Rattle.jsh_tree.specs.declared.expression.Initial.{Initial}
use Rattle.jsh_tree.specs.declared.expression.Initial.TheVariants as initial
use Rattle.jsh_tree.specs.declared.expression.Literal.{Literal}
use Rattle.jsh_tree.specs.declared.expression.TypeUse.{TypeUse}
use Rattle.jsh_tree.specs.declared.statement.Stmt.{Stmt}
use Rattle.jsh_tree.specs.declared.statement.Stmt.TheVariants as statement
use Rattle.jsh_tree.specs.declared.statement.Block.{Block, roll-Block}
use Rattle.jsh_tree.specs.declared.statement.BlockStatement.{BlockStatement}
use Rattle.jsh_tree.specs.declared.statement.BlockStatement.TheVariants as block_statement
use Rattle.jsh_tree.specs.declared.statement.SwitchGroup.{SwitchGroup, roll-SwitchGroup}
use Rattle.jsh_tree.specs.declared.statement.SwitchLabel.{SwitchLabel}
use Rattle.jsh_tree.specs.declared.statement.SwitchLabel.TheVariants as label
use Rattle.jsh_tree.specs.declared.statement.CatchClause.{CatchClause, roll-CatchClause}
use Rattle.jsh_tree.specs.declared.statement.Variable.{Variable}
use Rattle.jsh_tree.specs.declared.statement.ForStart.{ForStart}
use Rattle.jsh_tree.specs.declared.statement.ForStart.TheVariants as start
use Rattle.jsh_parse.specs.Leaves.{Layer, PartLayer, literal_of, identifier_of, names_type, type_of, AreBrackets, is_step}
use Rattle.jsh_parse.specs.Grammar.{IsExpr, IsInitial}

-- a run of members and indices ends in a call
abbrev pub ends_in_call : List PathPart → Bool
ends_in_call [] = false
ends_in_call (part ∷ []) = is_call (out-PathPart part)
  where
    is_call : PartLayer → Bool
    is_call (PathPart-F.PathPart::Call name arguments) = true
    is_call _ = false
ends_in_call (part ∷ more ∷ parts) = ends_in_call (more ∷ parts)

-- an assignment, a ++ or --, a call or a new object, which may be a statement (JLS 14.8)
abbrev pub is_statement : Expr → Bool
is_statement tree = is_statement_layer (out-Expr tree)
  where
    is_statement_layer : Layer → Bool
    is_statement_layer (Expr-F.Assign target operator value) = true
    is_statement_layer (Expr-F.Unary span operator operand) = is_step operator
    is_statement_layer (Expr-F.Postfix operand operator) = true
    is_statement_layer (Expr-F.Path first parts) = ends_in_call parts
    is_statement_layer (Expr-F.Expr::Call name arguments) = true
    is_statement_layer (Expr-F.SuperCall span name arguments) = true
    is_statement_layer (Expr-F.New span class arguments) = true
    is_statement_layer _ = false

-- one token of this kind
abbrev pub IsOne : TokenKind → List Token → Type 0
IsOne kind ts = (t : Token) × (t.kind ≡ kind) × (ts ≡ t ∷ [])

-- where what these tokens spell begins: the span of the first, where there is one
abbrev pub first_span : List Token → Span
first_span [] = record { from = 0; to = 0 }
first_span (t ∷ ts) = t.span

-- the word `final`, or nothing
pub data IsFinal : List Token → Bool → Type 0 where
  not_final : IsFinal [] false
  final : (t : Token) → t.kind ≡ token.Final → IsFinal (t ∷ []) true

-- Type
pub data IsType (text : List ℕ) : List Token → TypeUse → Type 0 where
  named : {b : List Token} {dims : ℕ} (n : Token) → names_type n.kind ≡ true → AreBrackets b dims → IsType text (n ∷ b) (type_of text n dims)

-- Var = var Ident "=" Expr | Type Ident ["=" VarInit]
pub data IsVariable (text : List ℕ) : ℕ → List Token → Variable → Type 0 where
  inferred : {room : ℕ} {l : List Token} {value : Expr} (v n t : Token) →
      v.kind ≡ token.Var → n.kind ≡ token.Identifier → t.kind ≡ token.Assign → IsExpr text room l value →
      IsVariable text room (v ∷ n ∷ t ∷ l) (record { written = None; name = identifier_of text n; initial = Some (initial.Value value) })
  bare : {room : ℕ} {l : List Token} {written : TypeUse} (n : Token) →
      IsType text l written → n.kind ≡ token.Identifier →
      IsVariable text room (l ++ n ∷ []) (record { written = Some written; name = identifier_of text n; initial = None })
  initialized : {room : ℕ} {l r : List Token} {written : TypeUse} {value : Initial} (n t : Token) →
      IsType text l written → n.kind ≡ token.Identifier → t.kind ≡ token.Assign → IsInitial text room r value →
      IsVariable text room (l ++ n ∷ t ∷ r) (record { written = Some written; name = identifier_of text n; initial = Some value })

-- an expression, or nothing
pub data IsOptional (text : List ℕ) : ℕ → List Token → Option Expr → Type 0 where
  absent : {room : ℕ} → IsOptional text room [] None
  present : {room : ℕ} {ts : List Token} {e : Expr} → IsExpr text room ts e → IsOptional text room ts (Some e)

-- an expression that may be a statement, or nothing
pub data IsUpdate (text : List ℕ) : ℕ → List Token → Option Expr → Type 0 where
  no_update : {room : ℕ} → IsUpdate text room [] None
  update : {room : ℕ} {ts : List Token} {e : Expr} → IsExpr text room ts e → is_statement e ≡ true → IsUpdate text room ts (Some e)

-- [[final] Var | StmtExpr]
pub data IsForStart (text : List ℕ) : ℕ → List Token → ForStart → Type 0 where
  nothing : {room : ℕ} → IsForStart text room [] start.Nothing
  local : {room : ℕ} {f l : List Token} {is_final : Bool} {v : Variable} →
      IsFinal f is_final → IsVariable text room l v → IsForStart text room (f ++ l) (start.Local (first_span (f ++ l)) is_final v)
  expression : {room : ℕ} {ts : List Token} {e : Expr} → IsExpr text room ts e → is_statement e ≡ true →
      IsForStart text room ts (start.Expression e)

-- Label = case ["-"] (IntLit | CharLit) ":" | default ":"
pub data IsLabel (text : List ℕ) : List Token → SwitchLabel → Type 0 where
  case_of : {value : Literal} (c l u : Token) →
      c.kind ≡ token.Case → (l.kind ≡ token.IntLiteral) ⊎ (l.kind ≡ token.CharLiteral) → literal_of text l ≡ Some value → u.kind ≡ token.Colon →
      IsLabel text (c ∷ l ∷ u ∷ []) (label.Case l.span false value)
  case_of_negative : {value : Literal} (c m l u : Token) →
      c.kind ≡ token.Case → m.kind ≡ token.Minus → (l.kind ≡ token.IntLiteral) ⊎ (l.kind ≡ token.CharLiteral) → literal_of text l ≡ Some value →
      u.kind ≡ token.Colon → IsLabel text (c ∷ m ∷ l ∷ u ∷ []) (label.Case m.span true value)
  default : (d u : Token) → d.kind ≡ token.Default → u.kind ≡ token.Colon → IsLabel text (d ∷ u ∷ []) (label.Default d.span)

-- Label {Label}
pub data AreLabels (text : List ℕ) : List Token → List SwitchLabel → Type 0 where
  last_label : {ts : List Token} {l : SwitchLabel} → IsLabel text ts l → AreLabels text ts (l ∷ [])
  one_more_label : {a b : List Token} {l : SwitchLabel} {rest : List SwitchLabel} →
      IsLabel text a l → AreLabels text b rest → AreLabels text (a ++ b) (l ∷ rest)

-- "(" Expr ")"
pub data IsCondition (text : List ℕ) : ℕ → List Token → Expr → Type 0 where
  condition : {room : ℕ} {l : List Token} {e : Expr} (t u : Token) →
      t.kind ≡ token.LeftParen → IsExpr text room l e → u.kind ≡ token.RightParen → IsCondition text (suc room) (t ∷ (l ++ u ∷ [])) e

mutual
  -- Stmt. The flag says whether it ends in an `if` without `else`: no `else` follows such a one (JLS 14.5).
  pub data IsStmt (text : List ℕ) : ℕ → Bool → List Token → Stmt → Type 0 where
    block : {room : ℕ} {ts : List Token} {b : Block} → IsBlock text room ts b → IsStmt text room false ts (statement.Block b)
    empty : {room : ℕ} (t : Token) → t.kind ≡ token.Semicolon → IsStmt text room false (t ∷ []) (statement.Empty t.span)
    expression : {room : ℕ} {l : List Token} {e : Expr} (u : Token) →
        IsExpr text room l e → is_statement e ≡ true → u.kind ≡ token.Semicolon → IsStmt text room false (l ++ u ∷ []) (statement.Expression e)
    if_alone : {room : ℕ} {dangling : Bool} {c s : List Token} {e : Expr} {then : Stmt} (t : Token) →
        t.kind ≡ token.If → IsCondition text (suc room) c e → IsStmt text room dangling s then →
        IsStmt text (suc room) true (t ∷ (c ++ s)) (statement.If t.span e then None)
    if_else : {room : ℕ} {dangling : Bool} {c s r : List Token} {e : Expr} {then otherwise : Stmt} (t u : Token) →
        t.kind ≡ token.If → IsCondition text (suc room) c e → IsStmt text room false s then → u.kind ≡ token.Else →
        IsStmt text room dangling r otherwise →
        IsStmt text (suc room) dangling (t ∷ (c ++ (s ++ u ∷ r))) (statement.If t.span e then (Some otherwise))
    while_do : {room : ℕ} {dangling : Bool} {c s : List Token} {e : Expr} {body : Stmt} (t : Token) →
        t.kind ≡ token.While → IsCondition text (suc room) c e → IsStmt text room dangling s body →
        IsStmt text (suc room) dangling (t ∷ (c ++ s)) (statement.While t.span e body)
    do_while : {room : ℕ} {dangling : Bool} {s c : List Token} {body : Stmt} {e : Expr} (t w u : Token) →
        t.kind ≡ token.Do → IsStmt text room dangling s body → w.kind ≡ token.While → IsCondition text (suc room) c e → u.kind ≡ token.Semicolon →
        IsStmt text (suc room) false (t ∷ (s ++ w ∷ (c ++ u ∷ []))) (statement.Do t.span body e)
    for_do : {room : ℕ} {dangling : Bool} {a b c s : List Token} {begins : ForStart} {e update : Option Expr} {body : Stmt} (t p u v q : Token) →
        t.kind ≡ token.For → p.kind ≡ token.LeftParen → IsForStart text room a begins → u.kind ≡ token.Semicolon → IsOptional text room b e →
        v.kind ≡ token.Semicolon → IsUpdate text room c update → q.kind ≡ token.RightParen → IsStmt text room dangling s body →
        IsStmt text (suc room) dangling (t ∷ p ∷ (a ++ u ∷ (b ++ v ∷ (c ++ q ∷ s)))) (statement.For t.span begins e update body)
    for_each : {room : ℕ} {dangling is_final : Bool} {f l a s : List Token} {written : TypeUse} {e : Expr} {body : Stmt} (t p n u q : Token) →
        t.kind ≡ token.For → p.kind ≡ token.LeftParen → IsFinal f is_final → IsType text l written → n.kind ≡ token.Identifier →
        u.kind ≡ token.Colon → IsExpr text room a e → q.kind ≡ token.RightParen → IsStmt text room dangling s body →
        IsStmt text (suc room) dangling (t ∷ p ∷ (f ++ (l ++ n ∷ u ∷ (a ++ q ∷ s))))
        (statement.ForEach t.span is_final (Some written) (identifier_of text n) e body)
    for_each_inferred : {room : ℕ} {dangling is_final : Bool} {f a s : List Token} {e : Expr} {body : Stmt} (t p v n u q : Token) →
        t.kind ≡ token.For → p.kind ≡ token.LeftParen → IsFinal f is_final → v.kind ≡ token.Var → n.kind ≡ token.Identifier →
        u.kind ≡ token.Colon → IsExpr text room a e → q.kind ≡ token.RightParen → IsStmt text room dangling s body →
        IsStmt text (suc room) dangling (t ∷ p ∷ (f ++ v ∷ n ∷ u ∷ (a ++ q ∷ s)))
        (statement.ForEach t.span is_final None (identifier_of text n) e body)
    switch : {room : ℕ} {c g : List Token} {e : Expr} {groups : List SwitchGroup} (t p q : Token) →
        t.kind ≡ token.Switch → IsCondition text (suc room) c e → p.kind ≡ token.LeftBrace → AreGroups text room g groups →
        q.kind ≡ token.RightBrace → IsStmt text (suc room) false (t ∷ (c ++ p ∷ (g ++ q ∷ []))) (statement.Switch t.span e groups)
    break_off : {room : ℕ} (t u : Token) → t.kind ≡ token.Break → u.kind ≡ token.Semicolon →
        IsStmt text room false (t ∷ u ∷ []) (statement.Break t.span)
    continue_on : {room : ℕ} (t u : Token) → t.kind ≡ token.Continue → u.kind ≡ token.Semicolon →
        IsStmt text room false (t ∷ u ∷ []) (statement.Continue t.span)
    return_from : {room : ℕ} {l : List Token} {e : Option Expr} (t u : Token) →
        t.kind ≡ token.Return → IsOptional text room l e → u.kind ≡ token.Semicolon →
        IsStmt text room false (t ∷ (l ++ u ∷ [])) (statement.Return t.span e)
    throw_up : {room : ℕ} {l : List Token} {e : Expr} (t u : Token) →
        t.kind ≡ token.Throw → IsExpr text room l e → u.kind ≡ token.Semicolon →
        IsStmt text room false (t ∷ (l ++ u ∷ [])) (statement.Throw t.span e)
    try_block : {room : ℕ} {b c : List Token} {inside : Block} {catches : List CatchClause} (t : Token) →
        t.kind ≡ token.Try → IsBlock text room b inside → AreCatches text room c catches → catches ≢ [] →
        IsStmt text room false (t ∷ (b ++ c)) (statement.Try t.span inside catches)

  -- Block = "{" {BlockStmt} "}"
  pub data IsBlock (text : List ℕ) : ℕ → List Token → Block → Type 0 where
    braces : {room : ℕ} {l : List Token} {inside : List BlockStatement} (t u : Token) →
        t.kind ≡ token.LeftBrace → AreStatements text room l inside → u.kind ≡ token.RightBrace →
        IsBlock text (suc room) (t ∷ (l ++ u ∷ [])) (roll-Block (record { span = t.span; statements = inside }))

  -- {BlockStmt}, where BlockStmt = [final] Var ";" | Stmt
  pub data AreStatements (text : List ℕ) : ℕ → List Token → List BlockStatement → Type 0 where
    no_statements : {room : ℕ} → AreStatements text room [] []
    one_more_local : {room : ℕ} {is_final : Bool} {f l r : List Token} {v : Variable} {rest : List BlockStatement} (u : Token) →
        IsFinal f is_final → IsVariable text room l v → u.kind ≡ token.Semicolon → AreStatements text room r rest →
        AreStatements text room (f ++ (l ++ u ∷ r)) (block_statement.Local (first_span (f ++ l)) is_final v ∷ rest)
    one_more_statement : {room : ℕ} {dangling : Bool} {l r : List Token} {s : Stmt} {rest : List BlockStatement} →
        IsStmt text room dangling l s → AreStatements text room r rest →
        AreStatements text room (l ++ r) (block_statement.Statement s ∷ rest)

  -- {Label {Label} {BlockStmt}}. Labels with nothing between them are of one group: only the last has no statements.
  pub data AreGroups (text : List ℕ) : ℕ → List Token → List SwitchGroup → Type 0 where
    no_groups : {room : ℕ} → AreGroups text room [] []
    one_more_group : {room : ℕ} {a b r : List Token} {labels : List SwitchLabel} {inside : List BlockStatement} {rest : List SwitchGroup} →
        AreLabels text a labels → AreStatements text room b inside → (inside ≡ [] → rest ≡ []) → AreGroups text room r rest →
        AreGroups text room (a ++ (b ++ r)) (roll-SwitchGroup (record { labels = labels; statements = inside }) ∷ rest)

  -- {Catch}, where Catch = catch "(" [final] Ident Ident ")" Block
  pub data AreCatches (text : List ℕ) : ℕ → List Token → List CatchClause → Type 0 where
    no_catches : {room : ℕ} → AreCatches text room [] []
    one_more_catch : {room : ℕ} {is_final : Bool} {f b r : List Token} {inside : Block} {rest : List CatchClause} (t p c n q : Token) →
        t.kind ≡ token.Catch → p.kind ≡ token.LeftParen → IsFinal f is_final → c.kind ≡ token.Identifier → n.kind ≡ token.Identifier →
        q.kind ≡ token.RightParen → IsBlock text room b inside → AreCatches text room r rest →
        AreCatches text room (t ∷ p ∷ (f ++ c ∷ n ∷ q ∷ (b ++ r)))
        (roll-CatchClause (record { is_final = is_final; class = identifier_of text c; name = identifier_of text n; block = inside }) ∷ rest)
