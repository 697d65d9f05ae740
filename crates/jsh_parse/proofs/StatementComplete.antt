-- Whatever is in the grammar of statements is read, also where something follows that doesn't go on with it; so it has one tree.
use Rattle.std.proofs.Common.{◌≡◌, ℕ, zero, suc, ◌+◌, Bool, true, false, List, [], ◌∷◌, ◌++◌, Option, Some, None, length, refl, sym, ap, ◌∙◌, subst, append-nil, length-append, arith, suc-add, zero-add, add_comm}
use Rattle.jsh_tree.specs.declared.token.Token.{Token}
use Rattle.jsh_tree.specs.declared.token.TokenKind.TheVariants as token
use Rattle.jsh_tree.specs.declared.expression.Expr.{Expr}
use Rattle.jsh_tree.specs.declared.expression.Initial.{Initial}
use Rattle.jsh_tree.specs.declared.statement.Stmt.{Stmt}
use Rattle.jsh_tree.specs.declared.statement.Block.{Block}
use Rattle.jsh_tree.specs.declared.statement.BlockStatement.{BlockStatement}
use Rattle.jsh_tree.specs.declared.statement.SwitchGroup.{SwitchGroup}
use Rattle.jsh_tree.specs.declared.statement.SwitchLabel.{SwitchLabel}
use Rattle.jsh_tree.specs.declared.statement.CatchClause.{CatchClause}
use Rattle.jsh_tree.specs.declared.statement.Variable.{Variable}
use Rattle.jsh_tree.specs.declared.statement.ForStart.{ForStart}
use Rattle.jsh_parse.specs.Marks.{is_right_paren}
use Rattle.jsh_parse.specs.Forms.{is_semicolon, is_else, is_catch}
use Rattle.jsh_parse.specs.Grammar.{IsExpr, IsInitial}
use Rattle.jsh_parse.specs.Statements as grammar
use Rattle.jsh_parse.specs.Statements.{IsFinal, IsVariable, IsOptional, IsUpdate, IsForStart, IsLabel, AreLabels, IsCondition, IsStmt, IsBlock, AreStatements, AreGroups, AreCatches}
use Rattle.jsh_parse.specs.Reader.{Read, Inner, sees, initial_read, readers_over}
use Rattle.jsh_parse.specs.StatementReader.{Deeper, inner_of, variable_read, optional_read, update_read, start_read, condition_read, block_read, stmt_read, label_read, deeper_over, statement_readers}
use Rattle.jsh_parse.proofs.Fronts.{front-expr}
use Rattle.jsh_parse.proofs.Steps.{Reads}
use Rattle.jsh_parse.proofs.Pieces.{ReadsFree}
use Rattle.jsh_parse.proofs.Complete as expressions
use Rattle.jsh_parse.proofs.Complete.{reads-expr, reads-initial}
use Rattle.jsh_parse.proofs.StatementFronts.{Ended, variable-no_final, declaration-begins, declaration-no_semicolon, declaration-local, start-no_each}
use Rattle.jsh_parse.proofs.StatementEdges.{block-opened, stmt-begins, stmt-no_local, statements-clear, label-length, labels-length, labels-begin, group-no_label, groups-end}
use Rattle.jsh_parse.proofs.StatementSteps.{ReadsTo, Declares, ReadsStmt, ReadsCatches, read-inferred, read-bare, read-initialized, read-condition, read-absent, read-present, read-no_update, read-update, read-nothing, read-local_start, read-expression_start, read-block_stmt, read-empty, read-expression_stmt, read-if_alone, read-if_else, read-while, read-do, read-for, read-for_each, read-for_each_inferred, read-switch, read-break, read-continue, read-return, read-throw, read-try}
use Rattle.jsh_parse.proofs.StatementPieces.{ReadsStatements, ReadsLabels, ReadsAllGroups, read-braces, read-no_statements, read-more_local, read-more_statement, read-case, read-case_negative, read-default, read-last_label, read-more_labels, read-no_groups, read-more_groups, read-no_catches, read-more_catches}

-- the readers of what stands so many deep, over those that stand deeper still
abbrev pub deeper_of : List ℕ → Option Deeper → ℕ → Option Deeper
deeper_of text base zero = base
deeper_of text base (suc room) = Some (deeper_over text (deeper_of text base room))

-- the expressions among them
deeper-inner : (text : List ℕ) (base : Option Deeper) (room : ℕ) → inner_of (deeper_of text base room) ≡ expressions.inner_of text (inner_of base) room
deeper-inner text base zero = refl
deeper-inner text base (suc room) = ap (λ i. Some (readers_over text i)) (deeper-inner text base room)

-- the readers of expressions that stand as deep
abbrev pub here : List ℕ → Option Deeper → ℕ → Inner
here text base room = readers_over text (inner_of (deeper_of text base room))

-- ---- expressions

here-expr : (base : Option Deeper) {text : List ℕ} {room : ℕ} {ts : List Token} {e : Expr} → IsExpr text room ts e → Reads (here text base room).expr 1 ts e
here-expr base {text = text} {room = room} {ts = ts} d rest s =
    ap (λ i. (readers_over text i).expr (ts ++ rest)) (deeper-inner text base room) ∙ reads-expr (inner_of base) d rest s

here-initial : (base : Option Deeper) {text : List ℕ} {room : ℕ} {ts : List Token} {value : Initial} → IsInitial text room ts value →
    Reads (initial_read (here text base room)) 1 ts value
here-initial base {text = text} {room = room} {ts = ts} d rest s =
    ap (λ i. initial_read (readers_over text i) (ts ++ rest)) (deeper-inner text base room) ∙ reads-initial (inner_of base) d rest s

pub reads-variable : (base : Option Deeper) {text : List ℕ} {room : ℕ} {ts : List Token} {v : Variable} → IsVariable text room ts v →
    Reads (variable_read text (here text base room)) 1 ts v
reads-variable base {text = text} {room = room} (grammar.inferred {l = l} {value = e} v n t hv hn ht d) =
    read-inferred text (here text base room) l e v n t hv hn ht (here-expr base d)
reads-variable base {text = text} {room = room} (grammar.bare n (grammar.named {b = b} {dims = dims} m hm pairs) hn) =
    read-bare text (here text base room) b dims m n hm pairs hn
reads-variable base {text = text} {room = room} (grammar.initialized {r = r} {value = value} n t (grammar.named {b = b} {dims = dims} m hm pairs) hn ht d) =
    read-initialized text (here text base room) b r dims value m n t hm pairs hn ht (here-initial base d)

pub reads-condition : (base : Option Deeper) {text : List ℕ} {room : ℕ} {ts : List Token} {e : Expr} → IsCondition text (suc room) ts e →
    ReadsFree (condition_read (here text base room)) ts e
reads-condition base {text = text} {room = room} (grammar.condition {l = l} {e = e} t u h d hu) =
    read-condition (here text base room) l e t u h (here-expr base d) hu

pub reads-optional : (base : Option Deeper) {text : List ℕ} {room : ℕ} {ts : List Token} {e : Option Expr} → IsOptional text room ts e →
    ReadsTo (optional_read is_semicolon (here text base room)) token.Semicolon ts e
reads-optional base {text = text} {room = room} grammar.absent = read-absent (here text base room)
reads-optional base {text = text} {room = room} (grammar.present {ts = ts} {e = e} d) =
    read-present (here text base room) ts e (front-expr d) (here-expr base d)

pub reads-update : (base : Option Deeper) {text : List ℕ} {room : ℕ} {ts : List Token} {e : Option Expr} → IsUpdate text room ts e →
    ReadsTo (update_read is_right_paren (here text base room)) token.RightParen ts e
reads-update base {text = text} {room = room} grammar.no_update = read-no_update (here text base room)
reads-update base {text = text} {room = room} (grammar.update {ts = ts} {e = e} d may) =
    read-update (here text base room) ts e (front-expr d) (here-expr base d) may

declares : {text : List ℕ} {room : ℕ} {f ts : List Token} {is : Bool} {v : Variable} → IsFinal f is → IsVariable text room ts v → Declares f ts
declares modifier d more = (declaration-no_semicolon modifier d more, declaration-local modifier d more, variable-no_final d more)

pub reads-start : (base : Option Deeper) {text : List ℕ} {room : ℕ} {ts : List Token} {s : ForStart} → IsForStart text room ts s →
    ReadsTo (start_read text (here text base room)) token.Semicolon ts s
reads-start base {text = text} {room = room} grammar.nothing = read-nothing text (here text base room)
reads-start base {text = text} {room = room} (grammar.local {f = f} {l = l} {is_final = is} {v = v} modifier d) =
    read-local_start text (here text base room) f l is v modifier (declares modifier d) (reads-variable base d)
reads-start base {text = text} {room = room} (grammar.expression {ts = ts} {e = e} d may) =
    read-expression_start text (here text base room) ts e (front-expr d) (here-expr base d) may

-- ---- labels

pub reads-label : {text : List ℕ} {ts : List Token} {l : SwitchLabel} → IsLabel text ts l → ReadsFree (label_read text) ts l
reads-label {text = text} (grammar.case_of {value = value} c l u hc hl is hu) = read-case text value c l u hc hl is hu
reads-label {text = text} (grammar.case_of_negative {value = value} c m l u hc hm hl is hu) = read-case_negative text value c m l u hc hm hl is hu
reads-label {text = text} (grammar.default d u hd hu) = read-default text d u hd hu

pub reads-labels : {text : List ℕ} {ts : List Token} {ls : List SwitchLabel} → AreLabels text ts ls → ReadsLabels text ts ls
reads-labels {text = text} (grammar.last_label {ts = ts} {l = l} d) = read-last_label text ts l (reads-label d)
reads-labels {text = text} (grammar.one_more_label {a = a} {b = b} {l = l} {rest = ls} d ds) =
    read-more_labels text a b l ls (label-length d) (reads-label d) (labels-begin ds) (reads-labels ds)

-- ---- statements

-- what is in the grammar is read, whatever reads what stands deeper still
mutual
  pub reads-stmt : (base : Option Deeper) {text : List ℕ} {room : ℕ} {dangling : Bool} {ts : List Token} {s : Stmt} → IsStmt text room dangling ts s →
      ReadsStmt (stmt_read text (deeper_of text base room)) dangling ts s
  reads-stmt base {text = text} (grammar.block {room = room} {ts = ts} {b = b} d) =
      read-block_stmt text (deeper_of text base room) ts b (block-opened d) (reads-block base d)
  reads-stmt base {text = text} (grammar.empty {room = room} t h) = read-empty text (deeper_of text base room) t h
  reads-stmt base {text = text} (grammar.expression {room = room} {l = l} {e = e} u d may hu) =
      read-expression_stmt text (deeper_of text base room) l e u (front-expr d) (here-expr base d) may hu
  reads-stmt base {text = text} (grammar.if_alone {room = room} {dangling = dangling} {c = c} {s = s} {e = e} {then = body} t h dc d) =
      read-if_alone text (deeper_over text (deeper_of text base room)) dangling c s e body t h (reads-condition base dc) (reads-stmt base d)
  reads-stmt base {text = text} (grammar.if_else {room = room} {dangling = dangling} {c = c} {s = s} {r = r} {e = e} {then = body} {otherwise = otherwise} t u h dc d hu other) =
      read-if_else text (deeper_over text (deeper_of text base room)) dangling c s r e body otherwise t u h (reads-condition base dc) (reads-stmt base d) hu
      (reads-stmt base other)
  reads-stmt base {text = text} (grammar.while_do {room = room} {dangling = dangling} {c = c} {s = s} {e = e} {body = body} t h dc d) =
      read-while text (deeper_over text (deeper_of text base room)) dangling c s e body t h (reads-condition base dc) (reads-stmt base d)
  reads-stmt base {text = text} (grammar.do_while {room = room} {dangling = dangling} {s = s} {c = c} {body = body} {e = e} t w u h d hw dc hu) =
      read-do text (deeper_over text (deeper_of text base room)) dangling s c body e t w u h (reads-stmt base d) hw (reads-condition base dc) hu
  reads-stmt base {text = text} (grammar.for_do {room = room} {dangling = dangling} {a = a} {b = b} {c = c} {s = s} {begins = begins} {e = e} {update = update} {body = body} t p u v q h hp da hu db hv dc hq d) =
      read-for text (deeper_over text (deeper_of text base room)) dangling a b c s begins e update body t p u v q h hp (reads-start base da) hu
      (reads-optional base db) hv (reads-update base dc) hq (reads-stmt base d) (start-no_each da u hu)
  reads-stmt base {text = text} (grammar.for_each {room = room} {dangling = dangling} {is_final = is} {f = f} {a = a} {s = s} {e = e} {body = body} t p n u q h hp modifier (grammar.named {b = b} {dims = dims} m hm pairs) hn hu da hq d) =
      read-for_each text (deeper_over text (deeper_of text base room)) dangling is f b a s dims e body t p m n u q h hp modifier hm pairs hn hu
      (here-expr base da) hq (reads-stmt base d)
  reads-stmt base {text = text} (grammar.for_each_inferred {room = room} {dangling = dangling} {is_final = is} {f = f} {a = a} {s = s} {e = e} {body = body} t p v n u q h hp modifier hv hn hu da hq d) =
      read-for_each_inferred text (deeper_over text (deeper_of text base room)) dangling is f a s e body t p v n u q h hp modifier hv hn hu
      (here-expr base da) hq (reads-stmt base d)
  reads-stmt base {text = text} (grammar.switch {room = room} {c = c} {g = g} {e = e} {groups = groups} t p q h dc hp d hq) =
      read-switch text (deeper_over text (deeper_of text base room)) c g e groups t p q h (reads-condition base dc) hp
      (λ u hu rest. reads-groups base d (suc (length (g ++ u ∷ rest))) (omega (arith, length-append g (u ∷ rest))) u hu rest) hq
  reads-stmt base {text = text} (grammar.break_off {room = room} t u h hu) = read-break text (deeper_of text base room) t u h hu
  reads-stmt base {text = text} (grammar.continue_on {room = room} t u h hu) = read-continue text (deeper_of text base room) t u h hu
  reads-stmt base {text = text} (grammar.return_from {room = room} {l = l} {e = e} t u h d hu) =
      read-return text (deeper_of text base room) l e t u h (reads-optional base d) hu
  reads-stmt base {text = text} (grammar.throw_up {room = room} {l = l} {e = e} t u h d hu) =
      read-throw text (deeper_of text base room) l e t u h (here-expr base d) hu
  reads-stmt base {text = text} (grammar.try_block {room = room} {b = b} {c = c} {inside = inside} {catches = cs} t h d dc some) =
      read-try text (deeper_of text base room) b c inside cs t h (reads-block base d) (reads-catches base dc) some

  pub reads-block : (base : Option Deeper) {text : List ℕ} {room : ℕ} {ts : List Token} {b : Block} → IsBlock text room ts b →
      ReadsFree (block_read (deeper_of text base room)) ts b
  reads-block base {text = text} (grammar.braces {room = room} {l = l} {inside = inside} t u h d hu) =
      read-braces text (deeper_over text (deeper_of text base room)) l inside t u h
      (λ rest e. reads-statements base d (suc (length (l ++ rest))) (omega (arith, length-append l rest)) rest e) hu

  pub reads-statements : (base : Option Deeper) {text : List ℕ} {room : ℕ} {ts : List Token} {ss : List BlockStatement} → AreStatements text room ts ss →
      ReadsStatements text (deeper_of text base room) ts ss
  reads-statements base {text = text} (grammar.no_statements {room = room}) = read-no_statements text (deeper_of text base room)
  reads-statements base {text = text} (grammar.one_more_local {room = room} {is_final = is} {f = f} {l = l} {r = r} {v = v} {rest = ss} u modifier d hu ds) =
      read-more_local text (deeper_of text base room) f l r is v ss u modifier (declares modifier d) (declaration-begins modifier d (u ∷ r))
      (reads-variable base d) hu (reads-statements base ds)
  reads-statements base {text = text} (grammar.one_more_statement {room = room} {dangling = dangling} {l = l} {r = r} {s = s} {rest = ss} d ds) =
      read-more_statement text (deeper_of text base room) dangling l r s ss (stmt-begins d) (stmt-no_local d) (statements-clear ds dangling)
      (reads-stmt base d) (reads-statements base ds)

  pub reads-groups : (base : Option Deeper) {text : List ℕ} {room : ℕ} {ts : List Token} {gs : List SwitchGroup} → AreGroups text room ts gs →
      ReadsAllGroups text (deeper_of text base room) ts gs
  reads-groups base {text = text} (grammar.no_groups {room = room}) = read-no_groups text (deeper_of text base room)
  reads-groups base {text = text} (grammar.one_more_group {room = room} {a = a} {b = b} {r = r} {labels = ls} {inside = ss} {rest = gs} dl ds last dg) =
      read-more_groups text (deeper_of text base room) a b r ls ss gs (labels-length dl) (labels-begin dl) (reads-labels dl) (reads-statements base ds)
      (reads-groups base dg) (λ u hu rest. (group-no_label ds last dg u hu rest, groups-end dg u hu rest))

  pub reads-catches : (base : Option Deeper) {text : List ℕ} {room : ℕ} {ts : List Token} {cs : List CatchClause} → AreCatches text room ts cs →
      ReadsCatches text (deeper_of text base room) ts cs
  reads-catches base {text = text} (grammar.no_catches {room = room}) = read-no_catches text (deeper_of text base room)
  reads-catches base {text = text} (grammar.one_more_catch {room = room} {is_final = is} {f = f} {b = b} {r = r} {inside = inside} {rest = cs} t p c n q h hp modifier hc hn hq d ds) =
      read-more_catches text (deeper_of text base room) f b r is inside cs t p c n q h hp modifier hc hn hq (reads-block base d) (reads-catches base ds)

-- the readers with so much room are those over none
readers-deeper : (text : List ℕ) (room : ℕ) → statement_readers text room ≡ deeper_over text (deeper_of text None room)
unfolding statement_readers
readers-deeper text zero = refl
readers-deeper text (suc room) = ap (λ d. deeper_over text (Some d)) (readers-deeper text room)

-- a statement is read, where nothing goes on with it
pub complete_stmt : (text : List ℕ) (room : ℕ) (dangling : Bool) (ts rest : List Token) (s : Stmt) → IsStmt text room dangling ts s →
    (dangling ≡ true → sees is_else rest ≡ false) → sees is_catch rest ≡ false → (statement_readers text room).stmt (ts ++ rest) ≡ Some (s, rest)
complete_stmt text room dangling ts rest s d no_else no_catch =
    ap (λ (d : Deeper). d.stmt (ts ++ rest)) (readers-deeper text room) ∙ reads-stmt None d rest (no_else, no_catch)

-- a block is read, whatever follows
pub complete_block : (text : List ℕ) (room : ℕ) (ts rest : List Token) (b : Block) → IsBlock text (suc room) ts b →
    block_read (Some (statement_readers text room)) (ts ++ rest) ≡ Some (b, rest)
complete_block text room ts rest b d = ap (λ r. block_read (Some r) (ts ++ rest)) (readers-deeper text room) ∙ reads-block None d rest

-- the statements of a block are read, where nothing follows or what ends them
pub complete_statements : (text : List ℕ) (room : ℕ) (ts rest : List Token) (ss : List BlockStatement) → AreStatements text room ts ss → Ended rest →
    (statement_readers text room).statements (ts ++ rest) ≡ Some (ss, rest)
complete_statements text room ts rest ss d e =
    ap (λ (d : Deeper). d.statements (ts ++ rest)) (readers-deeper text room) ∙
    reads-statements None d (suc (length (ts ++ rest))) (omega (arith, length-append ts rest)) rest e

-- the groups of a switch are read, where a brace closes them
pub complete_groups : (text : List ℕ) (room : ℕ) (ts rest : List Token) (gs : List SwitchGroup) (u : Token) → AreGroups text room ts gs → u.kind ≡ token.RightBrace →
    (statement_readers text room).groups (ts ++ u ∷ rest) ≡ Some (gs, u ∷ rest)
complete_groups text room ts rest gs u d hu =
    ap (λ (d : Deeper). d.groups (ts ++ u ∷ rest)) (readers-deeper text room) ∙
    reads-groups None d (suc (length (ts ++ u ∷ rest))) (omega (arith, length-append ts (u ∷ rest))) u hu rest

-- a statement is read to its end
pub complete_stmt_whole : (text : List ℕ) (room : ℕ) (dangling : Bool) (ts : List Token) (s : Stmt) → IsStmt text room dangling ts s →
    (statement_readers text room).stmt ts ≡ Some (s, [])
complete_stmt_whole text room dangling ts s d =
    subst (λ us. (statement_readers text room).stmt us ≡ Some (s, [])) (append-nil ts) (complete_stmt text room dangling ts [] s d (λ x. refl) refl)

-- rooms over one another are one room
deeper-add : (text : List ℕ) (base : Option Deeper) (r s : ℕ) → deeper_of text (deeper_of text base s) r ≡ deeper_of text base (r + s)
deeper-add text base zero s = ap (deeper_of text base) (sym (zero-add s))
deeper-add text base (suc r) s = ap (λ d. Some (deeper_over text d)) (deeper-add text base r s) ∙ ap (deeper_of text base) (sym (suc-add r s))

deeper-swap : (text : List ℕ) (r s : ℕ) → deeper_of text (deeper_of text None s) r ≡ deeper_of text (deeper_of text None r) s
deeper-swap text r s = deeper-add text None r s ∙ ap (deeper_of text None) (add_comm r s) ∙ sym (deeper-add text None s r)

-- what is read, or else this
abbrev read_or : Stmt → Read Stmt → Stmt
read_or s None = s
read_or s (Some found) = found.0

pub one_stmt : (text : List ℕ) (r s : ℕ) (c d : Bool) (ts : List Token) (a b : Stmt) → IsStmt text r c ts a → IsStmt text s d ts b → a ≡ b
one_stmt text r s c d ts a b da db =
    ap (read_or a)
    (sym (reads-stmt (deeper_of text None s) da [] (λ x. refl, refl)) ∙ ap (λ x. stmt_read text x (ts ++ [])) (deeper-swap text r s)
    ∙ reads-stmt (deeper_of text None r) db [] (λ x. refl, refl))
