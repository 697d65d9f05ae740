-- What the grammars of expressions and statements spell is read, also where more constructs may stand in one another.
use Rattle.std.proofs.Common.{◌≡◌, ℕ, zero, suc, ◌≤◌, Bool, List, ◌++◌, Option, Some, length, refl, sym, ap, ◌∙◌, arith, length-append}
use Rattle.jsh_tree.specs.declared.token.Token.{Token}
use Rattle.jsh_tree.specs.declared.expression.Expr.{Expr}
use Rattle.jsh_tree.specs.declared.statement.Stmt.{Stmt}
use Rattle.jsh_tree.specs.declared.statement.Block.{Block}
use Rattle.jsh_tree.specs.declared.statement.BlockStatement.{BlockStatement}
use Rattle.jsh_tree.specs.declared.statement.Variable.{Variable}
use Rattle.jsh_parse.specs.Grammar as grammar
use Rattle.jsh_parse.specs.Grammar.{IsExpr, AreArguments, AreListed}
use Rattle.jsh_parse.specs.Statements.{IsVariable, IsStmt, IsBlock, AreStatements}
use Rattle.jsh_parse.specs.Reader as reader
use Rattle.jsh_parse.specs.Reader.{Inner, readers, readers_over}
use Rattle.jsh_parse.specs.Reading.{below, expr_at, arguments_at}
use Rattle.jsh_parse.specs.StatementReader.{Deeper, inner_of, deeper_over, statement_readers, stmt_read, block_read, statements_read, variable_read}
use Rattle.jsh_parse.specs.StatementReading.{statements_below, stmt_at, block_at, statements_at, variable_at}
use Rattle.jsh_parse.proofs.Steps.{Reads}
use Rattle.jsh_parse.proofs.Pieces.{ReadsFree, ReadsList, read-no_arguments, read-arguments, read-last_listed, read-listed}
use Rattle.jsh_parse.proofs.Edges.{listed-front}
use Rattle.jsh_parse.proofs.Complete as expressions
use Rattle.jsh_parse.proofs.Complete.{reads-expr}
use Rattle.jsh_parse.proofs.StatementFronts.{Ended}
use Rattle.jsh_parse.proofs.StatementSteps.{ReadsStmt}
use Rattle.jsh_parse.proofs.StatementComplete.{deeper_of, here, reads-variable, reads-stmt, reads-block, reads-statements}

-- ---- the readers where more may stand in one another

statement_readers-over : (text : List ℕ) (n : ℕ) → statement_readers text n ≡ deeper_over text (statements_below text n)
unfolding statement_readers
statement_readers-over text zero = refl
statement_readers-over text (suc n) = refl

readers-over : (text : List ℕ) (n : ℕ) → readers text n ≡ readers_over text (below text n)
unfolding readers
readers-over text zero = refl
readers-over text (suc n) = refl

-- those where `room` may, over some that stand deeper still
base_of : (text : List ℕ) (room n : ℕ) → room ≤ n → (base : Option Deeper) × (deeper_of text base room ≡ statements_below text n)
base_of text zero n less = (statements_below text n, refl)
base_of text (suc room) zero less = absurd (omega arith)
base_of text (suc room) (suc n) less =
    let under = base_of text room n (omega arith) in
    (under.0, ap (λ d. Some (deeper_over text d)) under.1 ∙ ap (λ (d : Deeper). Some d) (sym (statement_readers-over text n)))

-- the expressions among them
below-inner : (text : List ℕ) (n : ℕ) → inner_of (statements_below text n) ≡ below text n
below-inner text zero = refl
below-inner text (suc n) =
    ap (λ (i : Inner). Some i)
    (ap (λ (d : Deeper). d.inner) (statement_readers-over text n) ∙ ap (readers_over text) (below-inner text n) ∙ sym (readers-over text n))

-- and for expressions alone
inner_base_of : (text : List ℕ) (room n : ℕ) → room ≤ n → (base : Option Inner) × (expressions.inner_of text base room ≡ below text n)
inner_base_of text zero n less = (below text n, refl)
inner_base_of text (suc room) zero less = absurd (omega arith)
inner_base_of text (suc room) (suc n) less =
    let under = inner_base_of text room n (omega arith) in
    (under.0, ap (λ i. Some (readers_over text i)) under.1 ∙ ap (λ (i : Inner). Some i) (sym (readers-over text n)))

-- ---- expressions

pub expr-below : {text : List ℕ} {room : ℕ} {ts : List Token} {e : Expr} → IsExpr text room ts e → (n : ℕ) → room ≤ n → Reads (expr_at text n) 1 ts e
unfolding expr_at
expr-below {text = text} {room = room} {ts = ts} d n less rest s =
    let base = inner_base_of text room n less in
    ap (λ i. reader.expr_read text i (ts ++ rest)) (sym base.1) ∙ reads-expr base.0 d rest s

reads-listed : (base : Option Inner) {text : List ℕ} {room : ℕ} {ts : List Token} {es : List Expr} → AreListed text room ts es →
    ReadsList (readers_over text (expressions.inner_of text base room)) ts es
reads-listed base {text = text} (grammar.last_listed {room = room} {ts = ts} {e = e} d) =
    read-last_listed (readers_over text (expressions.inner_of text base room)) ts e (reads-expr base d)
reads-listed base {text = text} (grammar.one_more_listed {room = room} {l = l} {r = r} {e = e} {rest = es} t d h ds) =
    read-listed (readers_over text (expressions.inner_of text base room)) l r e es t (reads-expr base d) h (reads-listed base ds)

reads-arguments : (base : Option Inner) {text : List ℕ} {room : ℕ} {ts : List Token} {es : List Expr} → AreArguments text room ts es →
    ReadsFree (reader.arguments (expressions.inner_of text base room)) ts es
reads-arguments base {text = text} (grammar.no_arguments {room = room} t u h hu) =
    read-no_arguments (readers_over text (expressions.inner_of text base room)) t u h hu
reads-arguments base {text = text} (grammar.some_arguments {room = room} {l = l} {arguments = es} t u h d hu) =
    read-arguments (readers_over text (expressions.inner_of text base room)) l es t u h (reads-listed base d) (listed-front d) hu

pub arguments-below : {text : List ℕ} {room : ℕ} {ts : List Token} {es : List Expr} → AreArguments text room ts es → (n : ℕ) → room ≤ n →
    ReadsFree (arguments_at text n) ts es
unfolding arguments_at
arguments-below {text = text} {room = room} {ts = ts} d n less rest =
    let base = inner_base_of text room n less in
    ap (λ i. reader.arguments i (ts ++ rest)) (sym base.1) ∙ reads-arguments base.0 d rest

-- ---- statements

pub variable-below : {text : List ℕ} {room : ℕ} {ts : List Token} {v : Variable} → IsVariable text room ts v → (n : ℕ) → room ≤ n →
    Reads (variable_at text n) 1 ts v
unfolding variable_at
variable-below {text = text} {room = room} {ts = ts} d n less rest s =
    let base = base_of text room n less in
    let same : readers text n ≡ here text base.0 room =
    readers-over text n ∙ ap (readers_over text) (sym (below-inner text n)) ∙ ap (λ b. readers_over text (inner_of b)) (sym base.1)
    in
    ap (λ i. variable_read text i (ts ++ rest)) same ∙ reads-variable base.0 d rest s

pub stmt-below : {text : List ℕ} {room : ℕ} {dangling : Bool} {ts : List Token} {s : Stmt} → IsStmt text room dangling ts s → (n : ℕ) → room ≤ n →
    ReadsStmt (stmt_at text n) dangling ts s
unfolding stmt_at
stmt-below {text = text} {room = room} {ts = ts} d n less rest clear =
    let base = base_of text room n less in
    ap (λ b. stmt_read text b (ts ++ rest)) (sym base.1) ∙ reads-stmt base.0 d rest clear

pub block-below : {text : List ℕ} {room : ℕ} {ts : List Token} {b : Block} → IsBlock text room ts b → (n : ℕ) → room ≤ n → ReadsFree (block_at text n) ts b
unfolding block_at
block-below {text = text} {room = room} {ts = ts} d n less rest =
    let base = base_of text room n less in
    ap (λ b. block_read b (ts ++ rest)) (sym base.1) ∙ reads-block base.0 d rest

pub statements-below : {text : List ℕ} {room : ℕ} {ts : List Token} {ss : List BlockStatement} → AreStatements text room ts ss → (n : ℕ) → room ≤ n →
    (rest : List Token) → Ended rest → statements_at text n (ts ++ rest) ≡ Some (ss, rest)
unfolding statements_at
statements-below {text = text} {room = room} {ts = ts} d n less rest e =
    let base = base_of text room n less in
    ap (λ b. statements_read (suc (length (ts ++ rest))) text b (ts ++ rest)) (sym base.1) ∙
    reads-statements base.0 d (suc (length (ts ++ rest))) (omega (arith, length-append ts rest)) rest e
