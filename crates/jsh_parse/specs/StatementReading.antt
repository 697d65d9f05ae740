-- What the functions of the parser of statements promise: that they give what the readers give.
use Rattle.std.specs.Prelude.{ℕ, zero, suc, Bool, true, false, ◌&&◌, if◌then◌else◌, List, [], ◌∷◌, Option, Some, None, length}
use Rattle.jsh_tree.specs.declared.token.Token.{Token}
use Rattle.jsh_tree.specs.declared.expression.TypeUse.{TypeUse}
use Rattle.jsh_tree.specs.declared.expression.Literal.{Literal}
use Rattle.jsh_tree.specs.declared.expression.Expr.{Expr}
use Rattle.jsh_tree.specs.declared.expression.Initial.TheVariants as initial
use Rattle.jsh_tree.specs.declared.statement.Stmt.{Stmt}
use Rattle.jsh_tree.specs.declared.statement.Stmt.TheVariants as statement
use Rattle.jsh_tree.specs.declared.statement.Block.{Block}
use Rattle.jsh_tree.specs.declared.statement.BlockStatement.{BlockStatement}
use Rattle.jsh_tree.specs.declared.statement.BlockStatement.TheVariants as block_statement
use Rattle.jsh_tree.specs.declared.statement.SwitchGroup.{SwitchGroup, roll-SwitchGroup}
use Rattle.jsh_tree.specs.declared.statement.SwitchLabel.{SwitchLabel}
use Rattle.jsh_tree.specs.declared.statement.SwitchLabel.TheVariants as label
use Rattle.jsh_tree.specs.declared.statement.CatchClause.{CatchClause, roll-CatchClause}
use Rattle.jsh_tree.specs.declared.statement.Variable.{Variable}
use Rattle.jsh_tree.specs.declared.statement.ForStart.{ForStart}
use Rattle.jsh_parse.specs.declared.heads.ForHead.{ForHead}
use Rattle.jsh_parse.specs.declared.heads.EachHead.{EachHead}
use Rattle.jsh_parse.specs.declared.heads.CatchHead.{CatchHead}
use Rattle.jsh_parse.specs.Leaves.{literal_of}
use Rattle.jsh_parse.specs.Marks.{is_left_paren, is_right_paren, is_colon, is_identifier}
use Rattle.jsh_parse.specs.Forms.{is_semicolon, is_assign, is_var, is_case_value, is_catch, is_minus, ends_statements}
use Rattle.jsh_parse.specs.Reader.{Read, and_then, accept, sees, type_read, readers}
use Rattle.jsh_parse.specs.Reading.{name_read, expr_at}
use Rattle.jsh_parse.specs.Statements.{first_span}
use Rattle.jsh_parse.specs.StatementReader as reader
use Rattle.jsh_parse.specs.StatementReader.{Deeper, deeper_than, statement_readers, final_read}

-- the readers of what may stand one deeper
abbrev pub statements_below : List ℕ → ℕ → Option Deeper
statements_below text zero = None
statements_below text (suc room) = Some (statement_readers text room)

-- a statement, where so many constructs may stand in one another
unfoldable pub stmt_at : List ℕ → ℕ → List Token → Read Stmt
stmt_at text room ts = reader.stmt_read text (statements_below text room) ts

-- a block
unfoldable pub block_at : List ℕ → ℕ → List Token → Read Block
block_at text room ts = reader.block_read (statements_below text room) ts

-- the statements up to a brace or a label
unfoldable pub statements_at : List ℕ → ℕ → List Token → Read (List BlockStatement)
statements_at text room ts = reader.statements_read (suc (length ts)) text (statements_below text room) ts

-- one statement of a block
unfoldable pub block_statement_at : List ℕ → ℕ → List Token → Read BlockStatement
block_statement_at text room ts = reader.block_statement_read text (statements_below text room) ts

-- the labels of a `switch` with their statements
unfoldable pub groups_at : List ℕ → ℕ → List Token → Read (List SwitchGroup)
groups_at text room ts = reader.groups_read (suc (length ts)) text (statements_below text room) ts

-- what catches the exceptions of a block
unfoldable pub catches_at : List ℕ → ℕ → List Token → Read (List CatchClause)
catches_at text room ts = reader.catches (suc (length ts)) text (statements_below text room) ts

-- one label or more
unfoldable pub labels_at : List ℕ → List Token → Read (List SwitchLabel)
labels_at text ts = reader.labels_read (suc (length ts)) text ts

-- one label
unfoldable pub label_at : List ℕ → List Token → Read SwitchLabel
label_at text ts = reader.label_read text ts

-- a variable, without its `final`
unfoldable pub variable_at : List ℕ → ℕ → List Token → Read Variable
variable_at text room ts = reader.variable_read text (readers text room) ts

-- an expression, or nothing where a semicolon stands
unfoldable pub optional_at : List ℕ → ℕ → List Token → Read (Option Expr)
optional_at text room ts = reader.optional_read is_semicolon (readers text room) ts

-- an expression that may be a statement, or nothing where a closing parenthesis stands
unfoldable pub update_at : List ℕ → ℕ → List Token → Read (Option Expr)
update_at text room ts = reader.update_read is_right_paren (readers text room) ts

-- what a `for` begins with
unfoldable pub start_at : List ℕ → ℕ → List Token → Read ForStart
start_at text room ts = reader.start_read text (readers text room) ts

-- an expression in parentheses
unfoldable pub condition_at : List ℕ → ℕ → List Token → Read Expr
condition_at text room ts = reader.condition_read (readers text room) ts

-- an `if`, behind the word
unfoldable pub if_at : List ℕ → ℕ → Token → List Token → Read Stmt
if_at text room t ts = deeper_than (statements_below text room) (λ d. reader.if_read t d ts)

-- a `while`, likewise
unfoldable pub while_at : List ℕ → ℕ → Token → List Token → Read Stmt
while_at text room t ts = deeper_than (statements_below text room) (λ d. reader.while_read t d ts)

-- a `do`, likewise
unfoldable pub do_at : List ℕ → ℕ → Token → List Token → Read Stmt
do_at text room t ts = deeper_than (statements_below text room) (λ d. reader.do_read t d ts)

-- a `for`, likewise
unfoldable pub for_at : List ℕ → ℕ → Token → List Token → Read Stmt
for_at text room t ts = deeper_than (statements_below text room) (λ d. reader.for_read text t d ts)

-- a `switch`, likewise
unfoldable pub switch_at : List ℕ → ℕ → Token → List Token → Read Stmt
switch_at text room t ts = deeper_than (statements_below text room) (λ d. reader.switch_read t d ts)

-- a `try`, likewise
unfoldable pub try_at : List ℕ → ℕ → Token → List Token → Read Stmt
try_at text room t ts = reader.try_read text (statements_below text room) t ts

-- a `return`, likewise
unfoldable pub return_at : List ℕ → ℕ → Token → List Token → Read Stmt
return_at text room t ts = and_then (optional_at text room ts) (λ e rest. reader.jump_read (statement.Return t.span e) rest)

-- a `throw`, likewise
unfoldable pub throw_at : List ℕ → ℕ → Token → List Token → Read Stmt
throw_at text room t ts = and_then (expr_at text room ts) (λ e rest. reader.jump_read (statement.Throw t.span e) rest)

-- an expression with its semicolon
unfoldable pub expression_at : List ℕ → ℕ → List Token → Read Stmt
expression_at text room ts = reader.expression_read (readers text room) ts

-- a block that is a statement
unfoldable pub braced_at : List ℕ → ℕ → List Token → Read Stmt
braced_at text room ts = and_then (block_at text room ts) (λ b end. Some (statement.Block b, end))

-- a block with what catches its exceptions, where anything does
abbrev pub tried : Token → Block → List CatchClause → List Token → Read Stmt
tried t inside [] rest = None
tried t inside (c ∷ cs) rest = Some (statement.Try t.span inside (c ∷ cs), rest)

-- a variable of a block, with its semicolon
unfoldable pub local_at : List ℕ → ℕ → List Token → Read BlockStatement
local_at text room ts = and_then (variable_at text room (final_read ts).1) (λ v rest.
    and_then (accept is_semicolon rest) (λ u end. Some (block_statement.Local (first_span ts) (final_read ts).0 v, end)))

-- a variable whose type is that of its value, behind the word `var`
unfoldable pub inferred_at : List ℕ → ℕ → List Token → Read Variable
inferred_at text room ts = and_then (name_read text ts) (λ n rest. and_then (accept is_assign rest) (λ a behind. and_then (expr_at text room behind)
    (λ e end. Some (record { written = None; name = n; initial = Some (initial.Value e) }, end))))

-- the type of a variable that goes over elements: none where it is theirs
abbrev pub element_type : List ℕ → List Token → Read (Option TypeUse)
element_type text ts =
    if sees is_var ts then and_then (accept is_var ts) (λ v rest. Some (None, rest))
    else and_then (type_read text ts) (λ written rest. Some (Some written, rest))

-- a name and a colon stand first
abbrev pub names_element : List Token → Bool
names_element [] = false
names_element (n ∷ ns) = is_identifier n.kind && sees is_colon ns

-- what stands between the parentheses of a `for`, with the closing one
unfoldable pub for_head_at : List ℕ → ℕ → List Token → Read ForHead
for_head_at text room ts = and_then (start_at text room ts) (λ begins rest. and_then (accept is_semicolon rest) (λ u behind.
    and_then (optional_at text room behind) (λ e more. and_then (accept is_semicolon more) (λ v last.
    and_then (update_at text room last) (λ update closing. and_then (accept is_right_paren closing)
    (λ q end. Some (record { start = begins; condition = e; update = update }, end)))))))

-- the same of a `for` that goes over elements
unfoldable pub each_head_at : List ℕ → ℕ → List Token → Read EachHead
each_head_at text room ts = and_then (element_type text (final_read ts).1) (λ written rest. and_then (name_read text rest) (λ n behind.
    and_then (accept is_colon behind) (λ u more. and_then (expr_at text room more) (λ e last. and_then (accept is_right_paren last)
    (λ q end. Some (record { is_final = (final_read ts).0; written = written; name = n; array = e }, end))))))

-- what a `catch` has in front of its block
unfoldable pub catch_head_at : List ℕ → List Token → Read CatchHead
catch_head_at text ts = and_then (accept is_catch ts) (λ t rest. and_then (accept is_left_paren rest) (λ p behind.
    and_then (name_read text (final_read behind).1) (λ c more. and_then (name_read text more) (λ n closing. and_then (accept is_right_paren closing)
    (λ q end. Some (record { is_final = (final_read behind).0; class = c; name = n }, end))))))

-- one `catch`
unfoldable pub catch_at : List ℕ → ℕ → List Token → Read CatchClause
catch_at text room ts = and_then (catch_head_at text ts) (λ head rest. and_then (block_at text room rest)
    (λ b end. Some (roll-CatchClause (record { is_final = head.is_final; class = head.class; name = head.name; block = b }), end)))

-- labels that stand together, with the statements behind them
unfoldable pub group_at : List ℕ → ℕ → List Token → Read SwitchGroup
group_at text room ts = and_then (labels_at text ts) (λ labels rest. and_then (statements_at text room rest)
    (λ inside end. Some (roll-SwitchGroup (record { labels = labels; statements = inside }), end)))

-- no statement more stands first
abbrev pub ends_block : List Token → Bool
ends_block [] = true
ends_block (t ∷ ts) = ends_statements t.kind

-- a literal with its sign, and the colon behind it
abbrev pub case_of : List ℕ → Bool → Token → Token → List Token → Read SwitchLabel
case_of text negative at l rest = valued (literal_of text l)
  where
    valued : Option Literal → Read SwitchLabel
    valued None = None
    valued (Some value) = and_then (accept is_colon rest) (λ u end. Some (label.Case at.span negative value, end))

-- what stands behind the word `case`
unfoldable pub case_at : List ℕ → List Token → Read SwitchLabel
case_at text ts =
    if sees is_minus ts
    then and_then (accept is_minus ts) (λ m rest. and_then (accept is_case_value rest) (λ l behind. case_of text true m l behind))
    else and_then (accept is_case_value ts) (λ l behind. case_of text false l l behind)
