-- What the table derives for statements, the grammar of statements spells.
use Rattle.std.proofs.Common.{◌≡◌, ◌≢◌, ℕ, suc, Bool, true, false, ◌&&◌, inl, inr, ◌⊎◌, List, [], ◌∷◌, ◌++◌, Option, Some, None, refl, ◌∙◌, subst, arith, append_assoc, append-nil}
use Rattle.jsh_tree.specs.declared.token.Token.{Token}
use Rattle.jsh_tree.specs.declared.token.TokenKind.{TokenKind}
use Rattle.jsh_tree.specs.declared.token.TokenKind.TheVariants as token
use Rattle.jsh_tree.specs.declared.expression.UnaryOperator.{UnaryOperator}
use Rattle.jsh_tree.specs.declared.expression.UnaryOperator.TheVariants as unary
use Rattle.jsh_tree.specs.declared.expression.TypeUse.{TypeUse}
use Rattle.jsh_tree.specs.declared.expression.Expr.{Expr}
use Rattle.jsh_tree.specs.declared.expression.Expr.TheVariants as tree
use Rattle.jsh_tree.specs.declared.expression.PathPart.{PathPart}
use Rattle.jsh_tree.specs.declared.expression.PathPart.TheVariants as part
use Rattle.jsh_tree.specs.declared.expression.Initial.TheVariants as initial
use Rattle.jsh_tree.specs.declared.statement.Stmt.{Stmt}
use Rattle.jsh_tree.specs.declared.statement.Stmt.TheVariants as statement
use Rattle.jsh_tree.specs.declared.statement.Block.{Block, roll-Block}
use Rattle.jsh_tree.specs.declared.statement.BlockStatement.{BlockStatement}
use Rattle.jsh_tree.specs.declared.statement.BlockStatement.TheVariants as block_statement
use Rattle.jsh_tree.specs.declared.statement.SwitchGroup.{SwitchGroup, roll-SwitchGroup}
use Rattle.jsh_tree.specs.declared.statement.SwitchLabel.{SwitchLabel}
use Rattle.jsh_tree.specs.declared.statement.SwitchLabel.TheVariants as label
use Rattle.jsh_tree.specs.declared.statement.CatchClause.{CatchClause, roll-CatchClause}
use Rattle.jsh_tree.specs.declared.statement.Variable.{Variable}
use Rattle.jsh_tree.specs.declared.statement.ForStart.{ForStart}
use Rattle.jsh_tree.specs.declared.statement.ForStart.TheVariants as start
use Rattle.jsh_grammar.specs.Classes as class
use Rattle.jsh_grammar.specs.Productions.{Part, Symbol, IsProduction}
use Rattle.jsh_grammar.specs.Productions as table
use Rattle.jsh_grammar.specs.Fronts.{IsWhole}
use Rattle.jsh_parse.specs.Operators.{unary_operator}
use Rattle.jsh_parse.specs.Leaves.{identifier_of, is_step, is_open_creation, begins_with_index}
use Rattle.jsh_parse.specs.Grammar as expressions
use Rattle.jsh_parse.specs.Grammar.{IsExpr, IsUnary, IsPath, AreParts, IsPrimary, AreArguments}
use Rattle.jsh_parse.specs.Statements as grammar
use Rattle.jsh_parse.specs.Statements.{first_span, is_statement, IsFinal, IsType, IsVariable, IsOptional, IsUpdate, IsForStart, IsLabel, AreLabels, IsCondition, IsStmt, IsBlock, AreStatements, AreGroups, AreCatches}
use Rattle.jsh_recognizer.specs.Recognizing.{kinds}
use Rattle.jsh_parse.proofs.LayerLemmas.{index-Call}
use Rattle.jsh_parse.proofs.TableSymbols.{AreSymbols, none, one, among, in_part, in_deep, AllKnown, Whole, by_whole}
use Rattle.jsh_parse.proofs.TableValues.{HasValue}
use Rattle.jsh_parse.proofs.TableKinds.{assignment_of, step_of, postfix_of}
use Rattle.jsh_parse.proofs.TableSpelled.{HasTree, IsEnclosed, enclosed, created, parts_append, tree_spelled, not_open, both_not, begins_before}
use Rattle.jsh_parse.proofs.StatementTableLayers.{statement-Assign, statement-Unary, statement-Postfix, statement-Path, statement-Call, statement-SuperCall, statement-New, call-Call, call-behind}

-- ---- what the tokens of each part spell

-- what stands between the parentheses of a `for`
pub data IsForHead (text : List ℕ) : ℕ → List Token → Type 0 where
  for_head : {room : ℕ} {a b c : List Token} {begins : ForStart} {e update : Option Expr} (p u v q : Token) →
      p.kind ≡ token.LeftParen → IsForStart text room a begins → u.kind ≡ token.Semicolon → IsOptional text room b e →
      v.kind ≡ token.Semicolon → IsUpdate text room c update → q.kind ≡ token.RightParen →
      IsForHead text room (p ∷ (a ++ u ∷ (b ++ v ∷ (c ++ q ∷ []))))

-- the same of a `for` over elements
pub data IsEachHead (text : List ℕ) : ℕ → List Token → Type 0 where
  each_head : {room : ℕ} {is_final : Bool} {f l a : List Token} {written : TypeUse} {e : Expr} (p n u q : Token) →
      p.kind ≡ token.LeftParen → IsFinal f is_final → IsType text l written → n.kind ≡ token.Identifier → u.kind ≡ token.Colon →
      IsExpr text room a e → q.kind ≡ token.RightParen → IsEachHead text room (p ∷ (f ++ (l ++ n ∷ u ∷ (a ++ q ∷ []))))
  inferred_head : {room : ℕ} {is_final : Bool} {f a : List Token} {e : Expr} (p v n u q : Token) →
      p.kind ≡ token.LeftParen → IsFinal f is_final → v.kind ≡ token.Var → n.kind ≡ token.Identifier → u.kind ≡ token.Colon →
      IsExpr text room a e → q.kind ≡ token.RightParen → IsEachHead text room (p ∷ (f ++ v ∷ n ∷ u ∷ (a ++ q ∷ [])))

-- the groups of a `switch` in their braces
pub data IsSwitchBlock (text : List ℕ) : ℕ → List Token → Type 0 where
  switch_block : {room : ℕ} {g : List Token} {groups : List SwitchGroup} (p q : Token) →
      p.kind ≡ token.LeftBrace → AreGroups text room g groups → q.kind ≡ token.RightBrace → IsSwitchBlock text room (p ∷ (g ++ q ∷ []))

-- a statement of a block, in front of any others
abbrev pub IsFirst : List ℕ → ℕ → List Token → Type 0
IsFirst text room ts = (s : BlockStatement) × ((r : List Token) (rest : List BlockStatement) → AreStatements text room r rest →
    AreStatements text room (ts ++ r) (s ∷ rest))

-- the trees that the tokens of a part spell, of the parts of statements and of expressions
abbrev pub HasStatement : List ℕ → Part → ℕ → List Token → Type 0
HasStatement text table.statement room ts = (dangling : Bool) × (s : Stmt) × IsStmt text room dangling ts s
HasStatement text table.closed_statement room ts = (s : Stmt) × IsStmt text room false ts s
HasStatement text table.statement_expression room ts = (e : Expr) × IsExpr text room ts e × (is_statement e ≡ true)
HasStatement text table.block room ts = (b : Block) × IsBlock text (suc room) ts b
HasStatement text table.statements room ts = (inside : List BlockStatement) × AreStatements text room ts inside
HasStatement text table.block_statement room ts = IsFirst text room ts
HasStatement text table.variable room ts = (v : Variable) × IsVariable text room ts v
HasStatement text table.for_head room ts = IsForHead text room ts
HasStatement text table.for_start room ts = (begins : ForStart) × IsForStart text room ts begins
HasStatement text table.optional room ts = (e : Option Expr) × IsOptional text room ts e
HasStatement text table.update room ts = (e : Option Expr) × IsUpdate text room ts e
HasStatement text table.each_head room ts = IsEachHead text room ts
HasStatement text table.switch_block room ts = IsSwitchBlock text room ts
HasStatement text table.groups room ts = (groups : List SwitchGroup) × AreGroups text room ts groups
HasStatement text table.labels room ts = (ls : List SwitchLabel) × AreLabels text ts ls
HasStatement text table.label room ts = (l : SwitchLabel) × IsLabel text ts l
HasStatement text table.catches room ts = (catches : List CatchClause) × AreCatches text room ts catches × (catches ≢ [])
HasStatement text n room ts = HasTree text n room ts

-- tokens that stand for symbols, part by part with trees
abbrev pub HaveStatements : List ℕ → ℕ → List Symbol → List Token → Type 0
HaveStatements text room p ts = AreSymbols (HasValue text) (HasStatement text) room p ts

-- ---- expressions that may be statements

assignment_tree : (text : List ℕ) {room : ℕ} {ts : List Token} →
    HaveStatements text room (table.part table.target ∷ table.any class.is_assignment ∷ table.deep table.expression ∷ []) ts →
    HasStatement text table.statement_expression room ts
assignment_tree text (in_part (e, d, may) (among t is known (in_deep (v, g) none))) =
    let op = assignment_of t.kind is in
    (tree.Assign e op.0 v, rw append-nil (expressions.assignment t op.0 (expressions.unstepped d) may op.1 g), statement-Assign e op.0 v)

operand : {text : List ℕ} {room : ℕ} {ts : List Token} {e : Expr} → IsUnary text room ts e → IsExpr text room ts e
operand d =
    expressions.conditional (expressions.operators (expressions.next_level (omega arith) (expressions.next_level (omega arith)
    (expressions.next_level (omega arith) (expressions.next_level (omega arith) (expressions.next_level (omega arith) (expressions.next_level (omega arith)
    (expressions.next_level (omega arith) (expressions.next_level (omega arith) (expressions.next_level (omega arith) (expressions.next_level (omega arith)
    (expressions.single_operand d))))))))))))

path_alone : {text : List ℕ} {room : ℕ} {ts : List Token} {e : Expr} → IsPath text room ts e → IsExpr text room ts e
path_alone d = operand (expressions.postfix (expressions.unstepped d))

step_of_some : (o op : UnaryOperator) → Some o ≡ Some op → is_step o ≡ true → is_step op ≡ true
step_of_some o op e h =
    let same : o ≡ op = cc in
    subst (λ (p : UnaryOperator). is_step p ≡ true) same h

step_kept : (k : TokenKind) (op : UnaryOperator) → class.is_step k ≡ true → unary_operator k ≡ Some op → is_step op ≡ true
step_kept token.PlusPlus op h e = step_of_some unary.Increment op e refl
step_kept token.MinusMinus op h e = step_of_some unary.Decrement op e refl
step_kept _ op h e = cc

step_tree : (text : List ℕ) {room : ℕ} {ts : List Token} →
    HaveStatements text room (table.any class.is_step ∷ table.deep table.target ∷ []) ts → HasStatement text table.statement_expression room ts
step_tree text (among t is known (in_deep (e, d, may) none)) =
    let op = step_of t.kind is in (
      tree.Unary t.span op.0 e,
      rw append-nil (operand (expressions.prefixed t op.0 op.1 (expressions.postfix (expressions.unstepped d)) (λ s. may))),
      statement-Unary t.span op.0 e ∙ step_kept t.kind op.0 is op.1,
    )

stepped_tree : (text : List ℕ) {room : ℕ} {ts : List Token} →
    HaveStatements text room (table.part table.target ∷ table.any class.is_step ∷ []) ts → HasStatement text table.statement_expression room ts
stepped_tree text (in_part (e, d, may) (among t is known none)) =
    let op = postfix_of t.kind is in
    (tree.Postfix e op.0, operand (expressions.postfix (expressions.stepped t op.0 d may op.1)), statement-Postfix e op.0)

simple_call_tree : (text : List ℕ) {room : ℕ} {ts : List Token} →
    HaveStatements text room (table.a token.Identifier ∷ table.deep table.arguments ∷ []) ts → HasStatement text table.statement_expression room ts
simple_call_tree text (one n h known (in_deep (es, d) none)) = (
  tree.Call (identifier_of text n) es,
  rw append-nil (path_alone (expressions.alone (expressions.call n h d))),
  statement-Call (identifier_of text n) es,
)

super_call_tree : (text : List ℕ) {room : ℕ} {ts : List Token} →
    HaveStatements text room (table.a token.Super ∷ table.a token.Dot ∷ table.a token.Identifier ∷ table.deep table.arguments ∷ []) ts →
    HasStatement text table.statement_expression room ts
super_call_tree text (one t h known (one v hv also (one n hn more (in_deep (es, d) none)))) = (
  tree.SuperCall t.span (identifier_of text n) es,
  rw append-nil (path_alone (expressions.alone (expressions.super_call t v n h hv hn d))),
  statement-SuperCall t.span (identifier_of text n) es,
)

new_tree : (text : List ℕ) {room : ℕ} {ts : List Token} →
    HaveStatements text room (table.a token.New ∷ table.a token.Identifier ∷ table.deep table.arguments ∷ []) ts →
    HasStatement text table.statement_expression room ts
new_tree text (one t h known (one n hn also (in_deep (es, d) none))) = (
  tree.New t.span (identifier_of text n) es,
  rw append-nil (path_alone (expressions.alone (expressions.new_object t n h hn d))),
  statement-New t.span (identifier_of text n) es,
)

-- a call behind other members
called : (text : List ℕ) {room : ℕ} {l m r : List Token} {es : List Expr} (first : Expr) → IsPrimary text room l first →
    (ps : List PathPart) → AreParts text room m ps → (t n : Token) → t.kind ≡ token.Dot → n.kind ≡ token.Identifier → AreArguments text room r es →
    (is_open_creation first && begins_with_index (ps ++ part.Call (identifier_of text n) es ∷ [])) ≡ false →
    HasStatement text table.statement_expression room (l ++ (m ++ (t ∷ n ∷ (r ++ []))))
called text {es = es} first d ps ds t n h hn da free =
    let call = part.Call (identifier_of text n) es in (
      tree.Path first (ps ++ call ∷ []),
      path_alone (expressions.with_parts d (parts_append ds (expressions.one_more_call t n h hn da expressions.no_parts)) (some call ps) free),
      statement-Path first (ps ++ call ∷ []) ∙ (call-behind ps call ∙ call-Call (identifier_of text n) es),
    )
  where
    some : (p : PathPart) (ps : List PathPart) → ps ++ p ∷ [] ≢ []
    some p [] c = cc
    some p (q ∷ ps) c = cc

call_tree : (text : List ℕ) {room : ℕ} {ts : List Token} →
    HaveStatements text room
    (table.part table.primary ∷ table.part table.members ∷ table.a token.Dot ∷ table.a token.Identifier ∷ table.deep table.arguments ∷ []) ts →
    HasStatement text table.statement_expression room ts
call_tree text (in_part (e, d, free) (in_part (ps, ds) (one t h known (one n hn also (in_deep (es, da) none))))) =
    called text e d ps ds t n h hn da (not_open e _ free)

created_call_tree : (text : List ℕ) {room : ℕ} {ts : List Token} →
    HaveStatements text room (table.part table.open_creation ∷ table.a token.Dot ∷ table.a token.Identifier ∷ table.deep table.arguments ∷ []) ts →
    HasStatement text table.statement_expression room ts
created_call_tree text (in_part is (one t h known (one n hn also (in_deep (es, da) none)))) =
    let array = created text is in
    called text {m = []} array.0 array.1 [] expressions.no_parts t n h hn da (both_not (is_open_creation array.0) (index-Call (identifier_of text n) es []))

selected_call_tree : (text : List ℕ) {room : ℕ} {ts : List Token} →
    HaveStatements text room
    (table.part table.open_creation ∷ table.part table.selected ∷ table.a token.Dot ∷ table.a token.Identifier ∷ table.deep table.arguments ∷ []) ts →
    HasStatement text table.statement_expression room ts
selected_call_tree text (in_part is (in_part (ps, ds, some, free) (one t h known (one n hn also (in_deep (es, da) none))))) =
    let array = created text is in
    called text array.0 array.1 ps ds t n h hn da
    (both_not (is_open_creation array.0) (begins_before ps (part.Call (identifier_of text n) es ∷ []) some ∙ free))

-- ---- variables, and the parts of a `for`

inferred_tree : (text : List ℕ) {room : ℕ} {ts : List Token} →
    HaveStatements text room (table.a token.Var ∷ table.a token.Identifier ∷ table.a token.Assign ∷ table.part table.expression ∷ []) ts →
    HasStatement text table.variable room ts
inferred_tree text (one v h known (one n hn also (one t ht more (in_part (e, d) none)))) = (
  record { written = None; name = identifier_of text n; initial = Some (initial.Value e) },
  rw append-nil (grammar.inferred v n t h hn ht d),
)

bare_tree : (text : List ℕ) {room : ℕ} {ts : List Token} →
    HaveStatements text room (table.part table.type_use ∷ table.a token.Identifier ∷ []) ts → HasStatement text table.variable room ts
bare_tree text (in_part (written, d) (one n hn known none)) =
    (record { written = Some written; name = identifier_of text n; initial = None }, grammar.bare n d hn)

initialized_tree : (text : List ℕ) {room : ℕ} {ts : List Token} →
    HaveStatements text room (table.part table.type_use ∷ table.a token.Identifier ∷ table.a token.Assign ∷ table.part table.initial ∷ []) ts →
    HasStatement text table.variable room ts
initialized_tree text (in_part (written, d) (one n hn known (one t ht also (in_part (value, dv) none)))) = (
  record { written = Some written; name = identifier_of text n; initial = Some value },
  rw append-nil (grammar.initialized n t d hn ht dv),
)

local_start_tree : (text : List ℕ) {room : ℕ} {ts : List Token} → HaveStatements text room (table.part table.variable ∷ []) ts →
    HasStatement text table.for_start room ts
local_start_tree text (in_part {l = l} (v, d) none) = (start.Local (first_span l) false v, rw append-nil (grammar.local grammar.not_final d))

final_start_tree : (text : List ℕ) {room : ℕ} {ts : List Token} → HaveStatements text room (table.a token.Final ∷ table.part table.variable ∷ []) ts →
    HasStatement text table.for_start room ts
final_start_tree text (one t h known (in_part (v, d) none)) =
    (start.Local t.span true v, rw append-nil (grammar.local {f = t ∷ []} (grammar.final t h) d))

no_start_tree : (text : List ℕ) {room : ℕ} {ts : List Token} → HaveStatements text room [] ts → HasStatement text table.for_start room ts
no_start_tree text none = (start.Nothing, grammar.nothing)

expression_start_tree : (text : List ℕ) {room : ℕ} {ts : List Token} → HaveStatements text room (table.part table.statement_expression ∷ []) ts →
    HasStatement text table.for_start room ts
expression_start_tree text (in_part (e, d, may) none) = (start.Expression e, rw append-nil (IsForStart.expression d may))

not_there_tree : (text : List ℕ) {room : ℕ} {ts : List Token} → HaveStatements text room [] ts → HasStatement text table.optional room ts
not_there_tree text none = (None, grammar.absent)

there_tree : (text : List ℕ) {room : ℕ} {ts : List Token} → HaveStatements text room (table.part table.expression ∷ []) ts →
    HasStatement text table.optional room ts
there_tree text (in_part (e, d) none) = (Some e, rw append-nil (grammar.present d))

no_update_tree : (text : List ℕ) {room : ℕ} {ts : List Token} → HaveStatements text room [] ts → HasStatement text table.update room ts
no_update_tree text none = (None, grammar.no_update)

update_tree : (text : List ℕ) {room : ℕ} {ts : List Token} → HaveStatements text room (table.part table.statement_expression ∷ []) ts →
    HasStatement text table.update room ts
update_tree text (in_part (e, d, may) none) = (Some e, rw append-nil (grammar.update d may))

for_head_tree : (text : List ℕ) {room : ℕ} {ts : List Token} →
    HaveStatements text room
    (table.a token.LeftParen ∷ table.part table.for_start ∷ table.a token.Semicolon ∷ table.part table.optional ∷ table.a token.Semicolon
    ∷ table.part table.update ∷ table.a token.RightParen ∷ []) ts →
    IsForHead text room ts
for_head_tree text (one p hp known (in_part (begins, da) (one u hu also (in_part (e, db) (one v hv more (in_part (update, dc) (one q hq last none))))))) =
    for_head p u v q hp da hu db hv dc hq

each_head_tree : (text : List ℕ) {room : ℕ} {ts : List Token} →
    HaveStatements text room
    (table.a token.LeftParen ∷ table.part table.type_use ∷ table.a token.Identifier ∷ table.a token.Colon ∷ table.part table.expression
    ∷ table.a token.RightParen ∷ []) ts →
    IsEachHead text room ts
each_head_tree text (one p hp known (in_part (written, d) (one n hn also (one u hu more (in_part (e, da) (one q hq last none)))))) =
    each_head {f = []} p n u q hp grammar.not_final d hn hu da hq

final_each_tree : (text : List ℕ) {room : ℕ} {ts : List Token} →
    HaveStatements text room
    (table.a token.LeftParen ∷ table.a token.Final ∷ table.part table.type_use ∷ table.a token.Identifier ∷ table.a token.Colon
    ∷ table.part table.expression ∷ table.a token.RightParen ∷ []) ts →
    IsEachHead text room ts
final_each_tree text (one p hp known (one t h first (in_part (written, d) (one n hn also (one u hu more (in_part (e, da) (one q hq last none))))))) =
    each_head {f = t ∷ []} p n u q hp (grammar.final t h) d hn hu da hq

inferred_each_tree : (text : List ℕ) {room : ℕ} {ts : List Token} →
    HaveStatements text room
    (table.a token.LeftParen ∷ table.a token.Var ∷ table.a token.Identifier ∷ table.a token.Colon ∷ table.part table.expression
    ∷ table.a token.RightParen ∷ []) ts →
    IsEachHead text room ts
inferred_each_tree text (one p hp known (one v hv first (one n hn also (one u hu more (in_part (e, da) (one q hq last none)))))) =
    inferred_head {f = []} p v n u q hp grammar.not_final hv hn hu da hq

final_inferred_each_tree : (text : List ℕ) {room : ℕ} {ts : List Token} →
    HaveStatements text room
    (table.a token.LeftParen ∷ table.a token.Final ∷ table.a token.Var ∷ table.a token.Identifier ∷ table.a token.Colon ∷ table.part table.expression
    ∷ table.a token.RightParen ∷ []) ts →
    IsEachHead text room ts
final_inferred_each_tree text (one p hp known (one t h before (one v hv first (one n hn also (one u hu more (in_part (e, da) (one q hq last none))))))) =
    inferred_head {f = t ∷ []} p v n u q hp (grammar.final t h) hv hn hu da hq

-- ---- labels and groups

case_kind : (k : TokenKind) → class.is_case_value k ≡ true → (k ≡ token.IntLiteral) ⊎ (k ≡ token.CharLiteral)
case_kind token.IntLiteral h = inl refl
case_kind token.CharLiteral h = inr refl
case_kind _ h = cc

case_literal : (k : TokenKind) → class.is_case_value k ≡ true → class.is_literal k ≡ true
case_literal token.IntLiteral h = refl
case_literal token.CharLiteral h = refl
case_literal _ h = cc

case_tree : (text : List ℕ) {room : ℕ} {ts : List Token} →
    HaveStatements text room (table.a token.Case ∷ table.any class.is_case_value ∷ table.a token.Colon ∷ []) ts → HasStatement text table.label room ts
case_tree text (one c hc known (among l is value (one u hu last none))) =
    let found = value (case_literal l.kind is) in
    (label.Case l.span false found.0, grammar.case_of c l u hc (case_kind l.kind is) found.1 hu)

negative_case_tree : (text : List ℕ) {room : ℕ} {ts : List Token} →
    HaveStatements text room (table.a token.Case ∷ table.a token.Minus ∷ table.any class.is_case_value ∷ table.a token.Colon ∷ []) ts →
    HasStatement text table.label room ts
negative_case_tree text (one c hc known (one m hm also (among l is value (one u hu last none)))) =
    let found = value (case_literal l.kind is) in
    (label.Case m.span true found.0, grammar.case_of_negative c m l u hc hm (case_kind l.kind is) found.1 hu)

default_tree : (text : List ℕ) {room : ℕ} {ts : List Token} → HaveStatements text room (table.a token.Default ∷ table.a token.Colon ∷ []) ts →
    HasStatement text table.label room ts
default_tree text (one d hd known (one u hu last none)) = (label.Default d.span, grammar.default d u hd hu)

last_label_tree : (text : List ℕ) {room : ℕ} {ts : List Token} → HaveStatements text room (table.part table.label ∷ []) ts →
    HasStatement text table.labels room ts
last_label_tree text (in_part (l, d) none) = (l ∷ [], rw append-nil (grammar.last_label d))

more_labels_tree : (text : List ℕ) {room : ℕ} {ts : List Token} →
    HaveStatements text room (table.part table.label ∷ table.part table.labels ∷ []) ts → HasStatement text table.labels room ts
more_labels_tree text (in_part (l, d) (in_part (ls, ds) none)) = (l ∷ ls, rw append-nil (grammar.one_more_label d ds))

groups_tree : (text : List ℕ) {room : ℕ} {ts : List Token} →
    HaveStatements text room (table.a token.LeftBrace ∷ table.part table.groups ∷ table.a token.RightBrace ∷ []) ts → IsSwitchBlock text room ts
groups_tree text (one p hp known (in_part (groups, d) (one q hq last none))) = switch_block p q hp d hq

no_groups_tree : (text : List ℕ) {room : ℕ} {ts : List Token} → HaveStatements text room [] ts → HasStatement text table.groups room ts
no_groups_tree text none = ([], grammar.no_groups)

last_group_tree : (text : List ℕ) {room : ℕ} {ts : List Token} → HaveStatements text room (table.part table.labels ∷ []) ts →
    HasStatement text table.groups room ts
last_group_tree text (in_part (ls, d) none) = (
  roll-SwitchGroup (record { labels = ls; statements = [] }) ∷ [],
  grammar.one_more_group {b = []} {r = []} d grammar.no_statements (λ e. refl) grammar.no_groups,
)

more_groups_tree : (text : List ℕ) {room : ℕ} {ts : List Token} →
    HaveStatements text room
    (table.part table.labels ∷ table.part table.block_statement ∷ table.part table.statements ∷ table.part table.groups ∷ []) ts →
    HasStatement text table.groups room ts
more_groups_tree text {room = room} (in_part {l = a} (ls, d) (in_part {l = b} (s, put) (in_part {l = c} (inside, di) (in_part {l = r} (groups, ds) none)))) =
    let all = roll-SwitchGroup (record { labels = ls; statements = s ∷ inside }) ∷ groups in (
      all,
      subst (λ (ts : List Token). AreGroups text room (a ++ ts) all) (append_assoc b c (r ++ []))
          (grammar.one_more_group {b = b ++ c} d (put c inside di) (λ e. cc) (rw append-nil ds)),
    )

-- ---- blocks and statements in them

block_tree : (text : List ℕ) {room : ℕ} {ts : List Token} →
    HaveStatements text room (table.a token.LeftBrace ∷ table.part table.statements ∷ table.a token.RightBrace ∷ []) ts →
    HasStatement text table.block room ts
block_tree text (one t h known (in_part (inside, d) (one u hu last none))) =
    (roll-Block (record { span = t.span; statements = inside }), grammar.braces t u h d hu)

no_statements_tree : (text : List ℕ) {room : ℕ} {ts : List Token} → HaveStatements text room [] ts → HasStatement text table.statements room ts
no_statements_tree text none = ([], grammar.no_statements)

more_statements_tree : (text : List ℕ) {room : ℕ} {ts : List Token} →
    HaveStatements text room (table.part table.block_statement ∷ table.part table.statements ∷ []) ts → HasStatement text table.statements room ts
more_statements_tree text (in_part (s, put) (in_part {l = r} (inside, d) none)) = (s ∷ inside, rw append-nil (put r inside d))

local_tree : (text : List ℕ) {room : ℕ} {ts : List Token} →
    HaveStatements text room (table.part table.variable ∷ table.a token.Semicolon ∷ []) ts → IsFirst text room ts
local_tree text (in_part {l = l} (v, d) (one u hu last none)) = (
  block_statement.Local (first_span l) false v,
  λ r rest ds. rw (append_assoc l (u ∷ []) r) (grammar.one_more_local {f = []} u grammar.not_final d hu ds),
)

final_local_tree : (text : List ℕ) {room : ℕ} {ts : List Token} →
    HaveStatements text room (table.a token.Final ∷ table.part table.variable ∷ table.a token.Semicolon ∷ []) ts → IsFirst text room ts
final_local_tree text (one t h known (in_part {l = l} (v, d) (one u hu last none))) = (
  block_statement.Local t.span true v,
  λ r rest ds. rw (append_assoc l (u ∷ []) r) (grammar.one_more_local {f = t ∷ []} u (grammar.final t h) d hu ds),
)

statement_tree : (text : List ℕ) {room : ℕ} {ts : List Token} → HaveStatements text room (table.part table.statement ∷ []) ts → IsFirst text room ts
statement_tree text (in_part {l = l} (dangling, s, d) none) =
    (block_statement.Statement s, λ r rest ds. rw (append-nil l) (grammar.one_more_statement d ds))

-- ---- catches

last_catch_tree : (text : List ℕ) {room : ℕ} {ts : List Token} →
    HaveStatements text room
    (table.a token.Catch ∷ table.a token.LeftParen ∷ table.a token.Identifier ∷ table.a token.Identifier ∷ table.a token.RightParen
    ∷ table.deep table.block ∷ []) ts →
    HasStatement text table.catches room ts
last_catch_tree text (one t h known (one p hp first (one c hc second (one n hn third (one q hq last (in_deep (b, d) none)))))) = (
  roll-CatchClause (record { is_final = false; class = identifier_of text c; name = identifier_of text n; block = b }) ∷ [],
  grammar.one_more_catch {f = []} t p c n q h hp grammar.not_final hc hn hq d grammar.no_catches,
  λ e. cc,
)

last_final_catch_tree : (text : List ℕ) {room : ℕ} {ts : List Token} →
    HaveStatements text room
    (table.a token.Catch ∷ table.a token.LeftParen ∷ table.a token.Final ∷ table.a token.Identifier ∷ table.a token.Identifier
    ∷ table.a token.RightParen ∷ table.deep table.block ∷ []) ts →
    HasStatement text table.catches room ts
last_final_catch_tree text (one t h known (one p hp first (one w hw word (one c hc second (one n hn third (one q hq last (in_deep (b, d) none))))))) = (
  roll-CatchClause (record { is_final = true; class = identifier_of text c; name = identifier_of text n; block = b }) ∷ [],
  grammar.one_more_catch {f = w ∷ []} t p c n q h hp (grammar.final w hw) hc hn hq d grammar.no_catches,
  λ e. cc,
)

more_catches_tree : (text : List ℕ) {room : ℕ} {ts : List Token} →
    HaveStatements text room
    (table.a token.Catch ∷ table.a token.LeftParen ∷ table.a token.Identifier ∷ table.a token.Identifier ∷ table.a token.RightParen
    ∷ table.deep table.block ∷ table.part table.catches ∷ []) ts →
    HasStatement text table.catches room ts
more_catches_tree text
    (one t h known (one p hp first (one c hc second (one n hn third (one q hq last (in_deep (b, d) (in_part (catches, ds, some) none))))))) = (
      roll-CatchClause (record { is_final = false; class = identifier_of text c; name = identifier_of text n; block = b }) ∷ catches,
      rw append-nil (grammar.one_more_catch {f = []} t p c n q h hp grammar.not_final hc hn hq d ds),
      λ e. cc,
    )

more_final_catches_tree : (text : List ℕ) {room : ℕ} {ts : List Token} →
    HaveStatements text room
    (table.a token.Catch ∷ table.a token.LeftParen ∷ table.a token.Final ∷ table.a token.Identifier ∷ table.a token.Identifier
    ∷ table.a token.RightParen ∷ table.deep table.block ∷ table.part table.catches ∷ []) ts →
    HasStatement text table.catches room ts
more_final_catches_tree text
    (one t h known (one p hp first (one w hw word (one c hc second (one n hn third (one q hq last (in_deep (b, d) (in_part (catches, ds, some) none)))))))) = (
      roll-CatchClause (record { is_final = true; class = identifier_of text c; name = identifier_of text n; block = b }) ∷ catches,
      rw append-nil (grammar.one_more_catch {f = w ∷ []} t p c n q h hp (grammar.final w hw) hc hn hq d ds),
      λ e. cc,
    )

-- ---- statements

-- a condition, which stands one deeper
condition : {text : List ℕ} {room : ℕ} {ts : List Token} → IsEnclosed token.LeftParen token.RightParen text room ts →
    (e : Expr) × IsCondition text (suc room) ts e
condition (enclosed {inner = e} t u h d hu) = (e, grammar.condition t u h d hu)

for_behind : (text : List ℕ) {room : ℕ} {dangling : Bool} {h r : List Token} (t : Token) → t.kind ≡ token.For → IsForHead text room h → (body : Stmt) →
    IsStmt text room dangling r body → (s : Stmt) × IsStmt text (suc room) dangling (t ∷ (h ++ r)) s
for_behind text {r = r} t ht (for_head {a = a} {b = b} {c = c} {begins = begins} {e = e} {update = update} p u v q hp da hu db hv dc hq) body d = (
  statement.For t.span begins e update body,
  rw (append_assoc a (u ∷ (b ++ v ∷ (c ++ q ∷ []))) r, append_assoc b (v ∷ (c ++ q ∷ [])) r, append_assoc c (q ∷ []) r)
      (grammar.for_do t p u v q ht hp da hu db hv dc hq d),
)

each_behind : (text : List ℕ) {room : ℕ} {dangling : Bool} {h r : List Token} (t : Token) → t.kind ≡ token.For → IsEachHead text room h → (body : Stmt) →
    IsStmt text room dangling r body → (s : Stmt) × IsStmt text (suc room) dangling (t ∷ (h ++ r)) s
each_behind text {r = r} t ht
    (each_head {is_final = is_final} {f = f} {l = l} {a = a} {written = written} {e = e} p n u q hp modifier names hn hu da hq) body d = (
      statement.ForEach t.span is_final (Some written) (identifier_of text n) e body,
      rw (append_assoc f (l ++ n ∷ u ∷ (a ++ q ∷ [])) r, append_assoc l (n ∷ u ∷ (a ++ q ∷ [])) r, append_assoc a (q ∷ []) r)
          (grammar.for_each t p n u q ht hp modifier names hn hu da hq d),
    )
each_behind text {r = r} t ht (inferred_head {is_final = is_final} {f = f} {a = a} {e = e} p v n u q hp modifier hv hn hu da hq) body d = (
  statement.ForEach t.span is_final None (identifier_of text n) e body,
  rw (append_assoc f (v ∷ n ∷ u ∷ (a ++ q ∷ [])) r, append_assoc a (q ∷ []) r)
      (grammar.for_each_inferred t p v n u q ht hp modifier hv hn hu da hq d),
)

closed_tree : (text : List ℕ) {room : ℕ} {ts : List Token} → HaveStatements text room (table.part table.closed_statement ∷ []) ts →
    HasStatement text table.statement room ts
closed_tree text (in_part (s, d) none) = (false, s, rw append-nil d)

if_tree : (text : List ℕ) {room : ℕ} {ts : List Token} →
    HaveStatements text room (table.a token.If ∷ table.deep table.parenthesized ∷ table.deep table.statement ∷ []) ts →
    HasStatement text table.statement room ts
if_tree text (one t h known (in_deep is (in_deep (dangling, s, d) none))) =
    let c = condition is in (true, statement.If t.span c.0 s None, rw append-nil (grammar.if_alone t h c.1 d))

if_else_tree : (text : List ℕ) {room : ℕ} {ts : List Token} →
    HaveStatements text room
    (table.a token.If ∷ table.deep table.parenthesized ∷ table.deep table.closed_statement ∷ table.a token.Else ∷ table.deep table.statement ∷ []) ts →
    HasStatement text table.statement room ts
if_else_tree text (one t h known (in_deep is (in_deep (s, d) (one u hu last (in_deep (dangling, other, g) none))))) =
    let c = condition is in (dangling, statement.If t.span c.0 s (Some other), rw append-nil (grammar.if_else t u h c.1 d hu g))

closed_if_else_tree : (text : List ℕ) {room : ℕ} {ts : List Token} →
    HaveStatements text room
    (table.a token.If ∷ table.deep table.parenthesized ∷ table.deep table.closed_statement ∷ table.a token.Else ∷ table.deep table.closed_statement ∷ []) ts →
    HasStatement text table.closed_statement room ts
closed_if_else_tree text (one t h known (in_deep is (in_deep (s, d) (one u hu last (in_deep (other, g) none))))) =
    let c = condition is in (statement.If t.span c.0 s (Some other), rw append-nil (grammar.if_else t u h c.1 d hu g))

while_tree : (text : List ℕ) {room : ℕ} {ts : List Token} →
    HaveStatements text room (table.a token.While ∷ table.deep table.parenthesized ∷ table.deep table.statement ∷ []) ts →
    HasStatement text table.statement room ts
while_tree text (one t h known (in_deep is (in_deep (dangling, s, d) none))) =
    let c = condition is in (dangling, statement.While t.span c.0 s, rw append-nil (grammar.while_do t h c.1 d))

closed_while_tree : (text : List ℕ) {room : ℕ} {ts : List Token} →
    HaveStatements text room (table.a token.While ∷ table.deep table.parenthesized ∷ table.deep table.closed_statement ∷ []) ts →
    HasStatement text table.closed_statement room ts
closed_while_tree text (one t h known (in_deep is (in_deep (s, d) none))) =
    let c = condition is in (statement.While t.span c.0 s, rw append-nil (grammar.while_do t h c.1 d))

for_tree : (text : List ℕ) {room : ℕ} {ts : List Token} →
    HaveStatements text room (table.a token.For ∷ table.deep table.for_head ∷ table.deep table.statement ∷ []) ts →
    HasStatement text table.statement room ts
for_tree text (one t h known (in_deep head (in_deep {l = r} (dangling, s, d) none))) =
    let all = for_behind text t h head s d in (dangling, all.0, rw (append-nil r) all.1)

closed_for_tree : (text : List ℕ) {room : ℕ} {ts : List Token} →
    HaveStatements text room (table.a token.For ∷ table.deep table.for_head ∷ table.deep table.closed_statement ∷ []) ts →
    HasStatement text table.closed_statement room ts
closed_for_tree text (one t h known (in_deep head (in_deep {l = r} (s, d) none))) =
    let all = for_behind text t h head s d in (all.0, rw (append-nil r) all.1)

each_tree : (text : List ℕ) {room : ℕ} {ts : List Token} →
    HaveStatements text room (table.a token.For ∷ table.deep table.each_head ∷ table.deep table.statement ∷ []) ts →
    HasStatement text table.statement room ts
each_tree text (one t h known (in_deep head (in_deep {l = r} (dangling, s, d) none))) =
    let all = each_behind text t h head s d in (dangling, all.0, rw (append-nil r) all.1)

closed_each_tree : (text : List ℕ) {room : ℕ} {ts : List Token} →
    HaveStatements text room (table.a token.For ∷ table.deep table.each_head ∷ table.deep table.closed_statement ∷ []) ts →
    HasStatement text table.closed_statement room ts
closed_each_tree text (one t h known (in_deep head (in_deep {l = r} (s, d) none))) =
    let all = each_behind text t h head s d in (all.0, rw (append-nil r) all.1)

braced_tree : (text : List ℕ) {room : ℕ} {ts : List Token} → HaveStatements text room (table.deep table.block ∷ []) ts →
    HasStatement text table.closed_statement room ts
braced_tree text (in_deep (b, d) none) = (statement.Block b, rw append-nil (grammar.block d))

nothing_tree : (text : List ℕ) {room : ℕ} {ts : List Token} → HaveStatements text room (table.a token.Semicolon ∷ []) ts →
    HasStatement text table.closed_statement room ts
nothing_tree text (one t h known none) = (statement.Empty t.span, grammar.empty t h)

expression_tree : (text : List ℕ) {room : ℕ} {ts : List Token} →
    HaveStatements text room (table.part table.statement_expression ∷ table.a token.Semicolon ∷ []) ts → HasStatement text table.closed_statement room ts
expression_tree text (in_part (e, d, may) (one u hu last none)) = (statement.Expression e, IsStmt.expression u d may hu)

do_tree : (text : List ℕ) {room : ℕ} {ts : List Token} →
    HaveStatements text room
    (table.a token.Do ∷ table.deep table.statement ∷ table.a token.While ∷ table.deep table.parenthesized ∷ table.a token.Semicolon ∷ []) ts →
    HasStatement text table.closed_statement room ts
do_tree text (one t h known (in_deep (dangling, s, d) (one w hw also (in_deep is (one u hu last none))))) =
    let c = condition is in (statement.Do t.span s c.0, grammar.do_while t w u h d hw c.1 hu)

switched : (text : List ℕ) {room : ℕ} {c g : List Token} (t : Token) → t.kind ≡ token.Switch → IsEnclosed token.LeftParen token.RightParen text room c →
    IsSwitchBlock text room g → (s : Stmt) × IsStmt text (suc room) false (t ∷ (c ++ g)) s
switched text t h is (switch_block {groups = groups} p q hp d hq) =
    let c = condition is in (statement.Switch t.span c.0 groups, grammar.switch t p q h c.1 hp d hq)

switch_tree : (text : List ℕ) {room : ℕ} {ts : List Token} →
    HaveStatements text room (table.a token.Switch ∷ table.deep table.parenthesized ∷ table.deep table.switch_block ∷ []) ts →
    HasStatement text table.closed_statement room ts
switch_tree text (one t h known (in_deep is (in_deep {l = r} block none))) = rw (append-nil r) (switched text t h is block)

break_tree : (text : List ℕ) {room : ℕ} {ts : List Token} → HaveStatements text room (table.a token.Break ∷ table.a token.Semicolon ∷ []) ts →
    HasStatement text table.closed_statement room ts
break_tree text (one t h known (one u hu last none)) = (statement.Break t.span, grammar.break_off t u h hu)

continue_tree : (text : List ℕ) {room : ℕ} {ts : List Token} → HaveStatements text room (table.a token.Continue ∷ table.a token.Semicolon ∷ []) ts →
    HasStatement text table.closed_statement room ts
continue_tree text (one t h known (one u hu last none)) = (statement.Continue t.span, grammar.continue_on t u h hu)

return_tree : (text : List ℕ) {room : ℕ} {ts : List Token} →
    HaveStatements text room (table.a token.Return ∷ table.part table.optional ∷ table.a token.Semicolon ∷ []) ts →
    HasStatement text table.closed_statement room ts
return_tree text (one t h known (in_part (e, d) (one u hu last none))) = (statement.Return t.span e, grammar.return_from t u h d hu)

throw_tree : (text : List ℕ) {room : ℕ} {ts : List Token} →
    HaveStatements text room (table.a token.Throw ∷ table.part table.expression ∷ table.a token.Semicolon ∷ []) ts →
    HasStatement text table.closed_statement room ts
throw_tree text (one t h known (in_part (e, d) (one u hu last none))) = (statement.Throw t.span e, grammar.throw_up t u h d hu)

try_tree : (text : List ℕ) {room : ℕ} {ts : List Token} →
    HaveStatements text room (table.a token.Try ∷ table.deep table.block ∷ table.part table.catches ∷ []) ts →
    HasStatement text table.closed_statement room ts
try_tree text (one t h known (in_deep (b, d) (in_part (catches, ds, some) none))) =
    (statement.Try t.span b catches, rw append-nil (grammar.try_block t h d ds some))

-- ---- the productions

tree_of : (text : List ℕ) (n : Part) (p : List Symbol) (room : ℕ) (ts : List Token) → IsProduction n p → Whole n room ts → AllKnown (HasValue text) ts →
    HaveStatements text room p ts → HasStatement text n room ts
tree_of text n p room ts table.of_closed w known s = closed_tree text s
tree_of text n p room ts table.of_if w known s = if_tree text s
tree_of text n p room ts table.of_if_else w known s = if_else_tree text s
tree_of text n p room ts table.of_while w known s = while_tree text s
tree_of text n p room ts table.of_for w known s = for_tree text s
tree_of text n p room ts table.of_for_each w known s = each_tree text s
tree_of text n p room ts table.of_block w known s = braced_tree text s
tree_of text n p room ts table.of_nothing w known s = nothing_tree text s
tree_of text n p room ts table.of_expression w known s = expression_tree text s
tree_of text n p room ts table.of_closed_if_else w known s = closed_if_else_tree text s
tree_of text n p room ts table.of_closed_while w known s = closed_while_tree text s
tree_of text n p room ts table.of_do w known s = do_tree text s
tree_of text n p room ts table.of_closed_for w known s = closed_for_tree text s
tree_of text n p room ts table.of_closed_for_each w known s = closed_each_tree text s
tree_of text n p room ts table.of_switch w known s = switch_tree text s
tree_of text n p room ts table.of_break w known s = break_tree text s
tree_of text n p room ts table.of_continue w known s = continue_tree text s
tree_of text n p room ts table.of_return w known s = return_tree text s
tree_of text n p room ts table.of_throw w known s = throw_tree text s
tree_of text n p room ts table.of_try w known s = try_tree text s
tree_of text n p room ts table.of_assignment_statement w known s = assignment_tree text s
tree_of text n p room ts table.of_step_statement w known s = step_tree text s
tree_of text n p room ts table.of_stepped_statement w known s = stepped_tree text s
tree_of text n p room ts table.of_simple_call_statement w known s = simple_call_tree text s
tree_of text n p room ts table.of_super_call_statement w known s = super_call_tree text s
tree_of text n p room ts table.of_call_statement w known s = call_tree text s
tree_of text n p room ts table.of_created_call_statement w known s = created_call_tree text s
tree_of text n p room ts table.of_selected_call_statement w known s = selected_call_tree text s
tree_of text n p room ts table.of_new_statement w known s = new_tree text s
tree_of text n p room ts table.of_statements w known s = block_tree text s
tree_of text n p room ts table.no_statements w known s = no_statements_tree text s
tree_of text n p room ts table.one_more_statement w known s = more_statements_tree text s
tree_of text n p room ts table.of_local w known s = local_tree text s
tree_of text n p room ts table.of_final_local w known s = final_local_tree text s
tree_of text n p room ts table.of_statement w known s = statement_tree text s
tree_of text n p room ts table.of_inferred w known s = inferred_tree text s
tree_of text n p room ts table.of_bare w known s = bare_tree text s
tree_of text n p room ts table.of_initialized w known s = initialized_tree text s
tree_of text n p room ts table.of_for_parts w known s = for_head_tree text s
tree_of text n p room ts table.no_start w known s = no_start_tree text s
tree_of text n p room ts table.of_local_start w known s = local_start_tree text s
tree_of text n p room ts table.of_final_start w known s = final_start_tree text s
tree_of text n p room ts table.of_expression_start w known s = expression_start_tree text s
tree_of text n p room ts table.not_there w known s = not_there_tree text s
tree_of text n p room ts table.there w known s = there_tree text s
tree_of text n p room ts table.no_update w known s = no_update_tree text s
tree_of text n p room ts table.of_update w known s = update_tree text s
tree_of text n p room ts table.of_each w known s = each_head_tree text s
tree_of text n p room ts table.of_final_each w known s = final_each_tree text s
tree_of text n p room ts table.of_inferred_each w known s = inferred_each_tree text s
tree_of text n p room ts table.of_final_inferred_each w known s = final_inferred_each_tree text s
tree_of text n p room ts table.of_groups w known s = groups_tree text s
tree_of text n p room ts table.no_groups w known s = no_groups_tree text s
tree_of text n p room ts table.last_group w known s = last_group_tree text s
tree_of text n p room ts table.one_more_group w known s = more_groups_tree text s
tree_of text n p room ts table.last_label w known s = last_label_tree text s
tree_of text n p room ts table.one_more_label w known s = more_labels_tree text s
tree_of text n p room ts table.of_case w known s = case_tree text s
tree_of text n p room ts table.of_negative_case w known s = negative_case_tree text s
tree_of text n p room ts table.of_default w known s = default_tree text s
tree_of text n p room ts table.last_catch w known s = last_catch_tree text s
tree_of text n p room ts table.last_final_catch w known s = last_final_catch_tree text s
tree_of text n p room ts table.one_more_catch w known s = more_catches_tree text s
tree_of text n p room ts table.one_more_final_catch w known s = more_final_catches_tree text s
tree_of text n p room ts _ w known s = tree_spelled text n room ts w.is known

-- what is whole has a tree
pub statement_spelled : (text : List ℕ) (n : Part) (room : ℕ) (ts : List Token) → IsWhole n room (kinds ts) → AllKnown (HasValue text) ts →
    HasStatement text n room ts
statement_spelled text n room ts w known = by_whole (tree_of text) n room ts w known

pub stmt_spelled : (text : List ℕ) (room : ℕ) (ts : List Token) → AllKnown (HasValue text) ts → IsWhole table.statement room (kinds ts) →
    (dangling : Bool) × (s : Stmt) × IsStmt text room dangling ts s
stmt_spelled text room ts known w = statement_spelled text table.statement room ts w known

-- a statement that an `else` may follow
pub closed_spelled : (text : List ℕ) (room : ℕ) (ts : List Token) → AllKnown (HasValue text) ts → IsWhole table.closed_statement room (kinds ts) →
    (s : Stmt) × IsStmt text room false ts s
closed_spelled text room ts known w = statement_spelled text table.closed_statement room ts w known

pub block_spelled : (text : List ℕ) (room : ℕ) (ts : List Token) → AllKnown (HasValue text) ts → IsWhole table.block room (kinds ts) →
    (b : Block) × IsBlock text (suc room) ts b
block_spelled text room ts known w = statement_spelled text table.block room ts w known

pub statements_spelled : (text : List ℕ) (room : ℕ) (ts : List Token) → AllKnown (HasValue text) ts → IsWhole table.statements room (kinds ts) →
    (inside : List BlockStatement) × AreStatements text room ts inside
statements_spelled text room ts known w = statement_spelled text table.statements room ts w known

pub variable_spelled : (text : List ℕ) (room : ℕ) (ts : List Token) → AllKnown (HasValue text) ts → IsWhole table.variable room (kinds ts) →
    (v : Variable) × IsVariable text room ts v
variable_spelled text room ts known w = statement_spelled text table.variable room ts w known
