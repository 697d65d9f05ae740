-- A reader of statements: from the front of a list of tokens it takes what the parser takes, and gives what is left.
use Rattle.std.specs.Prelude.{ℕ, zero, suc, Bool, true, false, ◌&&◌, ◌||◌, if◌then◌else◌, List, [], ◌∷◌, Option, Some, None, length}
use Rattle.jsh_tree.specs.declared.token.Token.{Token}
use Rattle.jsh_tree.specs.declared.token.TokenKind.{TokenKind}
use Rattle.jsh_tree.specs.declared.expression.TypeUse.{TypeUse}
use Rattle.jsh_tree.specs.declared.expression.Literal.{Literal}
use Rattle.jsh_tree.specs.declared.expression.Expr.{Expr}
use Rattle.jsh_tree.specs.declared.expression.Initial.TheVariants as initial
use Rattle.jsh_tree.specs.declared.statement.Stmt.{Stmt}
use Rattle.jsh_tree.specs.declared.statement.Stmt.TheVariants as statement
use Rattle.jsh_tree.specs.declared.statement.Block.{Block, roll-Block}
use Rattle.jsh_tree.specs.declared.statement.BlockStatement.{BlockStatement}
use Rattle.jsh_tree.specs.declared.statement.BlockStatement.TheVariants as block_statement
use Rattle.jsh_tree.specs.declared.statement.SwitchGroup.{SwitchGroup, roll-SwitchGroup}
use Rattle.jsh_tree.specs.declared.statement.SwitchLabel.{SwitchLabel}
use Rattle.jsh_tree.specs.declared.statement.SwitchLabel.TheVariants as label
use Rattle.jsh_tree.specs.declared.statement.CatchClause.{CatchClause, roll-CatchClause}
use Rattle.jsh_tree.specs.declared.statement.Variable.{Variable}
use Rattle.jsh_tree.specs.declared.statement.ForStart.{ForStart}
use Rattle.jsh_tree.specs.declared.statement.ForStart.TheVariants as start
use Rattle.jsh_parse.specs.Marks.{is_left_paren, is_right_paren, is_left_brace, is_right_brace, is_colon, is_identifier}
use Rattle.jsh_parse.specs.Leaves.{literal_of, identifier_of, is_primitive, names_type}
use Rattle.jsh_parse.specs.Statements.{first_span, is_statement}
use Rattle.jsh_parse.specs.declared.forms.Form.{Form}
use Rattle.jsh_parse.specs.declared.forms.Form.TheVariants as form
use Rattle.jsh_parse.specs.Forms.{form_of, is_semicolon, is_assign, is_else, is_while, is_final, is_var, is_case, is_default, is_minus, is_catch, begins_label, ends_statements, is_case_value}
use Rattle.jsh_parse.specs.Reader.{Read, and_then, accept, sees, brackets, type_read, initial_read, Inner, readers_over}

-- the readers of what may stand one deeper
pub record Deeper : Type 0 where
  pub inner : Inner
  pub stmt : List Token → Read Stmt
  pub statements : List Token → Read (List BlockStatement)
  pub groups : List Token → Read (List SwitchGroup)

abbrev pub deeper_than : {A : Type 0} → Option Deeper → (Deeper → Read A) → Read A
deeper_than None f = None
deeper_than (Some d) f = f d

-- the expressions that may stand one deeper
abbrev pub inner_of : Option Deeper → Option Inner
inner_of None = None
inner_of (Some d) = Some d.inner

-- [final]
abbrev pub final_read : List Token → Bool × List Token
final_read [] = (false, [])
final_read (t ∷ ts) = if is_final t.kind then (true, ts) else (false, t ∷ ts)

-- the tokens begin a declaration of a local
abbrev pub begins_local : List Token → Bool
begins_local [] = false
begins_local (t ∷ ts) =
    is_final t.kind || is_var t.kind || is_primitive t.kind || (is_identifier t.kind && sees is_identifier (brackets ts).1)

-- [final] (Type | var) Ident ":"
abbrev pub is_for_each : List Token → Bool
is_for_each ts = is_named (final_read ts).1
  where
    ends : List Token → Bool
    ends [] = false
    ends (n ∷ ns) = is_identifier n.kind && sees is_colon ns

    is_named : List Token → Bool
    is_named [] = false
    is_named (t ∷ us) = if is_var t.kind then ends us else names_type t.kind && ends (brackets us).1

-- Var, over the readers of expressions of the same depth
abbrev pub variable_read : List ℕ → Inner → List Token → Read Variable
variable_read text i [] = None
variable_read text i (t ∷ ts) =
    if is_var t.kind
    then and_then (accept is_identifier ts) (λ n rest. and_then (accept is_assign rest) (λ a behind. and_then (i.expr behind)
    (λ e end. Some (record { written = None; name = identifier_of text n; initial = Some (initial.Value e) }, end))))
    else and_then (type_read text (t ∷ ts)) (λ written rest. and_then (accept is_identifier rest) (λ n behind.
    if sees is_assign behind
    then and_then (accept is_assign behind) (λ a more. and_then (initial_read i more)
    (λ value end. Some (record { written = Some written; name = identifier_of text n; initial = Some value }, end)))
    else Some (record { written = Some written; name = identifier_of text n; initial = None }, behind)))

-- an expression, or nothing where a token that ends it stands first
abbrev pub optional_read : (TokenKind → Bool) → Inner → List Token → Read (Option Expr)
optional_read ends i ts = if sees ends ts then Some (None, ts) else and_then (i.expr ts) (λ e rest. Some (Some e, rest))

-- the same of an expression that may be a statement
abbrev pub update_read : (TokenKind → Bool) → Inner → List Token → Read (Option Expr)
update_read ends i ts = if sees ends ts then Some (None, ts) else and_then (i.expr ts) (λ e rest. if is_statement e then Some (Some e, rest) else None)

abbrev pub start_read : List ℕ → Inner → List Token → Read ForStart
start_read text i ts =
    if sees is_semicolon ts then Some (start.Nothing, ts)
    else (if begins_local ts
    then and_then (variable_read text i (final_read ts).1) (λ v rest. Some (start.Local (first_span ts) (final_read ts).0 v, rest))
    else and_then (i.expr ts) (λ e rest. if is_statement e then Some (start.Expression e, rest) else None))

-- "(" Expr ")"
abbrev pub condition_read : Inner → List Token → Read Expr
condition_read i ts = and_then (accept is_left_paren ts) (λ t rest. and_then (i.expr rest) (λ e behind. and_then (accept is_right_paren behind) (λ u end. Some (e, end))))

abbrev pub block_read : Option Deeper → List Token → Read Block
block_read deeper ts = and_then (accept is_left_brace ts) (λ t rest. deeper_than deeper (λ d. and_then (d.statements rest)
    (λ inside behind. and_then (accept is_right_brace behind) (λ u end. Some (roll-Block (record { span = t.span; statements = inside }), end)))))

-- an expression that may be a statement, and its semicolon
abbrev pub expression_read : Inner → List Token → Read Stmt
expression_read i ts = and_then (i.expr ts) (λ e rest. if is_statement e then and_then (accept is_semicolon rest) (λ u end. Some (statement.Expression e, end)) else None)

abbrev pub if_read : Token → Deeper → List Token → Read Stmt
if_read t d ts = and_then (condition_read d.inner ts) (λ e rest. and_then (d.stmt rest) (λ first behind.
    if sees is_else behind
    then and_then (accept is_else behind) (λ u more. and_then (d.stmt more) (λ otherwise end. Some (statement.If t.span e first (Some otherwise), end)))
    else Some (statement.If t.span e first None, behind)))

abbrev pub while_read : Token → Deeper → List Token → Read Stmt
while_read t d ts = and_then (condition_read d.inner ts) (λ e rest. and_then (d.stmt rest) (λ body end. Some (statement.While t.span e body, end)))

abbrev pub do_read : Token → Deeper → List Token → Read Stmt
do_read t d ts = and_then (d.stmt ts) (λ body rest. and_then (accept is_while rest) (λ w behind. and_then (condition_read d.inner behind)
    (λ e more. and_then (accept is_semicolon more) (λ u end. Some (statement.Do t.span body e, end)))))

-- ":" Expr ")" Stmt
abbrev pub each_read : Token → Bool → Option TypeUse → List ℕ → Deeper → List Token → Read Stmt
each_read t is_final written text d ts = and_then (accept is_identifier ts) (λ n rest. and_then (accept is_colon rest) (λ u behind.
    and_then (d.inner.expr behind) (λ e more. and_then (accept is_right_paren more) (λ q last. and_then (d.stmt last)
    (λ body end. Some (statement.ForEach t.span is_final written (identifier_of text n) e body, end))))))

abbrev pub for_each_read : List ℕ → Token → Deeper → List Token → Read Stmt
for_each_read text t d ts =
    if sees is_var (final_read ts).1
    then and_then (accept is_var (final_read ts).1) (λ v rest. each_read t (final_read ts).0 None text d rest)
    else and_then (type_read text (final_read ts).1) (λ written rest. each_read t (final_read ts).0 (Some written) text d rest)

abbrev pub for_parts_read : List ℕ → Token → Deeper → List Token → Read Stmt
for_parts_read text t d ts = and_then (start_read text d.inner ts) (λ begins rest. and_then (accept is_semicolon rest) (λ u behind.
    and_then (optional_read is_semicolon d.inner behind) (λ e more. and_then (accept is_semicolon more) (λ v last.
    and_then (update_read is_right_paren d.inner last) (λ update closing. and_then (accept is_right_paren closing) (λ q inside.
    and_then (d.stmt inside) (λ body end. Some (statement.For t.span begins e update body, end))))))))

abbrev pub for_read : List ℕ → Token → Deeper → List Token → Read Stmt
for_read text t d ts = and_then (accept is_left_paren ts) (λ p rest. if is_for_each rest then for_each_read text t d rest else for_parts_read text t d rest)

abbrev pub switch_read : Token → Deeper → List Token → Read Stmt
switch_read t d ts = and_then (condition_read d.inner ts) (λ e rest. and_then (accept is_left_brace rest) (λ p behind.
    and_then (d.groups behind) (λ groups more. and_then (accept is_right_brace more) (λ q end. Some (statement.Switch t.span e groups, end)))))

-- {Catch}, of at most so many
unfoldable pub catches : ℕ → List ℕ → Option Deeper → List Token → Read (List CatchClause)
catches zero text deeper ts = None
catches (suc most) text deeper ts =
    if sees is_catch ts
    then and_then (accept is_catch ts) (λ t rest. and_then (accept is_left_paren rest) (λ p behind.
    and_then (accept is_identifier (final_read behind).1) (λ c more. and_then (accept is_identifier more) (λ n closing.
    and_then (accept is_right_paren closing) (λ q braces. and_then (block_read deeper braces) (λ inside next.
    and_then (catches most text deeper next) (λ others end. Some (
      roll-CatchClause (record {
        is_final = (final_read behind).0;
        class = identifier_of text c;
        name = identifier_of text n;
        block = inside;
      }) ∷ others,
      end,
    ))))))))
    else Some ([], ts)

abbrev pub try_read : List ℕ → Option Deeper → Token → List Token → Read Stmt
try_read text deeper t ts = and_then (block_read deeper ts) (λ inside rest. and_then (catches (suc (length rest)) text deeper rest) (caught inside))
  where
    caught : Block → List CatchClause → List Token → Read Stmt
    caught inside [] end = None
    caught inside (c ∷ cs) end = Some (statement.Try t.span inside (c ∷ cs), end)

-- a word, and its semicolon
abbrev pub jump_read : Stmt → List Token → Read Stmt
jump_read s ts = and_then (accept is_semicolon ts) (λ u end. Some (s, end))

-- Stmt
abbrev pub stmt_read : List ℕ → Option Deeper → List Token → Read Stmt
stmt_read text deeper [] = None
stmt_read text deeper (t ∷ ts) = by (form_of t.kind)
  where
    here : Inner
    here = readers_over text (inner_of deeper)

    by : Form → Read Stmt
    by form.Block = and_then (block_read deeper (t ∷ ts)) (λ b end. Some (statement.Block b, end))
    by form.Empty = Some (statement.Empty t.span, ts)
    by form.If = deeper_than deeper (λ d. if_read t d ts)
    by form.While = deeper_than deeper (λ d. while_read t d ts)
    by form.Do = deeper_than deeper (λ d. do_read t d ts)
    by form.For = deeper_than deeper (λ d. for_read text t d ts)
    by form.Switch = deeper_than deeper (λ d. switch_read t d ts)
    by form.Break = jump_read (statement.Break t.span) ts
    by form.Continue = jump_read (statement.Continue t.span) ts
    by form.Return = and_then (optional_read is_semicolon here ts) (λ e rest. jump_read (statement.Return t.span e) rest)
    by form.Throw = and_then (here.expr ts) (λ e rest. jump_read (statement.Throw t.span e) rest)
    by form.Try = try_read text deeper t ts
    by form.Expression = expression_read here (t ∷ ts)

-- one statement of a block
abbrev pub block_statement_read : List ℕ → Option Deeper → List Token → Read BlockStatement
block_statement_read text deeper ts =
    if begins_local ts
    then and_then (variable_read text (readers_over text (inner_of deeper)) (final_read ts).1) (λ v rest.
    and_then (accept is_semicolon rest) (λ u end. Some (block_statement.Local (first_span ts) (final_read ts).0 v, end)))
    else and_then (stmt_read text deeper ts) (λ s end. Some (block_statement.Statement s, end))

-- {BlockStmt}, of at most so many
unfoldable pub statements_read : ℕ → List ℕ → Option Deeper → List Token → Read (List BlockStatement)
statements_read zero text deeper ts = None
statements_read (suc most) text deeper [] = Some ([], [])
statements_read (suc most) text deeper (t ∷ ts) =
    if ends_statements t.kind then Some ([], t ∷ ts)
    else and_then (block_statement_read text deeper (t ∷ ts)) (λ s rest. and_then (statements_read most text deeper rest) (λ others end. Some (s ∷ others, end)))

-- Label
abbrev pub label_read : List ℕ → List Token → Read SwitchLabel
label_read text [] = None
label_read text (t ∷ ts) =
    if is_default t.kind then and_then (accept is_colon ts) (λ u end. Some (label.Default t.span, end))
    else (if is_case t.kind then (if sees is_minus ts then and_then (accept is_minus ts) (λ m rest. valued true m rest) else plain ts) else None)
  where
    of_literal : Bool → Token → Option Literal → List Token → Read SwitchLabel
    of_literal negative at None rest = None
    of_literal negative at (Some value) rest = and_then (accept is_colon rest) (λ u end. Some (label.Case at.span negative value, end))

    valued : Bool → Token → List Token → Read SwitchLabel
    valued negative at rest = and_then (accept is_case_value rest) (λ l behind. of_literal negative at (literal_of text l) behind)

    plain : List Token → Read SwitchLabel
    plain rest = and_then (accept is_case_value rest) (λ l behind. of_literal false l (literal_of text l) behind)

-- Label {Label}, of at most so many
unfoldable pub labels_read : ℕ → List ℕ → List Token → Read (List SwitchLabel)
labels_read zero text ts = None
labels_read (suc most) text ts = and_then (label_read text ts) (λ l rest.
    if sees begins_label rest then and_then (labels_read most text rest) (λ others end. Some (l ∷ others, end)) else Some (l ∷ [], rest))

-- {Label {Label} {BlockStmt}}, of at most so many
unfoldable pub groups_read : ℕ → List ℕ → Option Deeper → List Token → Read (List SwitchGroup)
groups_read zero text deeper ts = None
groups_read (suc most) text deeper ts =
    if sees begins_label ts
    then and_then (labels_read (suc (length ts)) text ts) (λ labels rest. and_then (statements_read (suc (length rest)) text deeper rest) (λ inside behind.
    and_then (groups_read most text deeper behind) (λ others end. Some (roll-SwitchGroup (record { labels = labels; statements = inside }) ∷ others, end))))
    else Some ([], ts)

-- the readers over those of one level deeper
abbrev pub deeper_over : List ℕ → Option Deeper → Deeper
deeper_over text deeper = record {
  inner = readers_over text (inner_of deeper);
  stmt = stmt_read text deeper;
  statements = λ ts. statements_read (suc (length ts)) text deeper ts;
  groups = λ ts. groups_read (suc (length ts)) text deeper ts;
}

-- the readers where at most so many constructs stand in one another
unfoldable pub statement_readers : List ℕ → ℕ → Deeper
statement_readers text zero = deeper_over text None
statement_readers text (suc room) = deeper_over text (Some (statement_readers text room))
