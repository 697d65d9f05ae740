-- The steps of reading statements: each production is read, where its parts are.
use Rattle.std.proofs.Common.{◌≡◌, ◌≢◌, ℕ, suc, ◌<◌, Bool, true, false, List, [], ◌∷◌, ◌++◌, Option, Some, None, length, refl, arith, append_assoc, length-append}
use Rattle.jsh_tree.specs.declared.token.Token.{Token}
use Rattle.jsh_tree.specs.declared.token.TokenKind.{TokenKind}
use Rattle.jsh_tree.specs.declared.token.TokenKind.TheVariants as token
use Rattle.jsh_tree.specs.declared.expression.Expr.{Expr}
use Rattle.jsh_tree.specs.declared.expression.Initial.{Initial}
use Rattle.jsh_tree.specs.declared.expression.Initial.TheVariants as initial
use Rattle.jsh_tree.specs.declared.statement.Stmt.{Stmt}
use Rattle.jsh_tree.specs.declared.statement.Stmt.TheVariants as statement
use Rattle.jsh_tree.specs.declared.statement.Block.{Block}
use Rattle.jsh_tree.specs.declared.statement.SwitchGroup.{SwitchGroup}
use Rattle.jsh_tree.specs.declared.statement.CatchClause.{CatchClause}
use Rattle.jsh_tree.specs.declared.statement.Variable.{Variable}
use Rattle.jsh_tree.specs.declared.statement.ForStart.{ForStart}
use Rattle.jsh_tree.specs.declared.statement.ForStart.TheVariants as start
use Rattle.jsh_parse.specs.Leaves.{AreBrackets, identifier_of, names_type, type_of}
use Rattle.jsh_parse.specs.Forms.{form_of, is_semicolon, is_final, is_catch}
use Rattle.jsh_parse.specs.Marks.{is_right_paren}
use Rattle.jsh_parse.specs.declared.forms.Form.TheVariants as form
use Rattle.jsh_parse.specs.Statements.{first_span, IsFinal, is_statement}
use Rattle.jsh_parse.specs.Reader.{Read, sees, initial_read, Inner, readers_over}
use Rattle.jsh_parse.specs.StatementReader.{Deeper, inner_of, begins_local, is_for_each, variable_read, optional_read, update_read, start_read, condition_read, block_read, catches, stmt_read}
use Rattle.jsh_parse.proofs.Follow.{Stops}
use Rattle.jsh_parse.proofs.Fronts.{Front, opens-no-end}
use Rattle.jsh_parse.proofs.Steps.{Reads, brackets-all}
use Rattle.jsh_parse.proofs.Pieces.{ReadsFree}
use Rattle.jsh_parse.proofs.Edges.{Opened}
use Rattle.jsh_parse.proofs.StatementFronts.{opens-statement, type-word, Clear, stops-no_assign, name-no_brackets, read-final, expression-no_local, each-typed, each-inferred}

-- ---- variables

pub read-inferred : (text : List ℕ) (i : Inner) (l : List Token) (e : Expr) (v n t : Token) → v.kind ≡ token.Var → n.kind ≡ token.Identifier → t.kind ≡ token.Assign →
    Reads i.expr 1 l e → Reads (variable_read text i) 1 (v ∷ n ∷ t ∷ l) (record { written = None; name = identifier_of text n; initial = Some (initial.Value e) })
read-inferred text i l e v n t hv hn ht d rest s = rw (hv, hn, ht, d rest s) refl

pub read-bare : (text : List ℕ) (i : Inner) (b : List Token) (dims : ℕ) (m n : Token) → names_type m.kind ≡ true → AreBrackets b dims → n.kind ≡ token.Identifier →
    Reads (variable_read text i) 1 (m ∷ (b ++ n ∷ [])) (record { written = Some (type_of text m dims); name = identifier_of text n; initial = None })
read-bare text i b dims m n hm pairs hn rest s =
    let behind = brackets-all pairs (n ∷ rest) (name-no_brackets n rest hn) in
    rw (append_assoc b (n ∷ []) rest, (type-word m.kind hm).1, hm, behind, hn, stops-no_assign rest s) refl

pub read-initialized : (text : List ℕ) (i : Inner) (b r : List Token) (dims : ℕ) (value : Initial) (m n t : Token) → names_type m.kind ≡ true → AreBrackets b dims →
    n.kind ≡ token.Identifier → t.kind ≡ token.Assign → Reads (initial_read i) 1 r value →
    Reads (variable_read text i) 1 (m ∷ (b ++ n ∷ t ∷ r)) (record { written = Some (type_of text m dims); name = identifier_of text n; initial = Some value })
read-initialized text i b r dims value m n t hm pairs hn ht d rest s =
    let behind = brackets-all pairs (n ∷ t ∷ (r ++ rest)) (name-no_brackets n (t ∷ (r ++ rest)) hn) in
    rw (append_assoc b (n ∷ t ∷ r) rest, (type-word m.kind hm).1, hm, behind, hn, ht, d rest s) refl

-- ---- what stands between parentheses and semicolons

-- the tokens are read, where a token of this kind follows
abbrev pub ReadsTo : {A : Type 0} → (List Token → Read A) → TokenKind → List Token → A → Type 0
ReadsTo read kind ts a = (u : Token) → u.kind ≡ kind → (rest : List Token) → read (ts ++ u ∷ rest) ≡ Some (a, u ∷ rest)

pub read-condition : (i : Inner) (l : List Token) (e : Expr) (t u : Token) → t.kind ≡ token.LeftParen → Reads i.expr 1 l e → u.kind ≡ token.RightParen →
    ReadsFree (condition_read i) (t ∷ (l ++ u ∷ [])) e
read-condition i l e t u ht d hu rest =
    let inside = d (u ∷ rest) (rw hu (omega arith)) in
    rw (ht, append_assoc l (u ∷ []) rest, inside, hu) refl

pub read-absent : (i : Inner) → ReadsTo (optional_read is_semicolon i) token.Semicolon [] None
read-absent i u hu rest = rw hu refl

pub read-present : (i : Inner) (l : List Token) (e : Expr) → Front l → Reads i.expr 1 l e → ReadsTo (optional_read is_semicolon i) token.Semicolon l (Some e)
read-present i [] e f d u hu rest = absurd f
read-present i (n ∷ l) e f d u hu rest =
    let inside = d (u ∷ rest) (rw hu (omega arith)) in
    rw ((opens-statement n.kind f.0).1, inside) refl

pub read-no_update : (i : Inner) → ReadsTo (update_read is_right_paren i) token.RightParen [] None
read-no_update i u hu rest = rw hu refl

pub read-update : (i : Inner) (l : List Token) (e : Expr) → Front l → Reads i.expr 1 l e → is_statement e ≡ true →
    ReadsTo (update_read is_right_paren i) token.RightParen l (Some e)
read-update i [] e f d may u hu rest = absurd f
read-update i (n ∷ l) e f d may u hu rest =
    let inside = d (u ∷ rest) (rw hu (omega arith)) in
    rw ((opens-no-end n.kind f.0).0, inside, may) refl

pub read-nothing : (text : List ℕ) (i : Inner) → ReadsTo (start_read text i) token.Semicolon [] start.Nothing
read-nothing text i u hu rest = rw hu refl

-- a declaration is no semicolon, and begins as one
abbrev pub Declares : List Token → List Token → Type 0
Declares f l = (more : List Token) → (sees is_semicolon (f ++ (l ++ more)) ≡ false) × (begins_local (f ++ (l ++ more)) ≡ true) × (sees is_final (l ++ more) ≡ false)

-- it has a token, so what follows doesn't change where it begins
pub first-declared : (f l more : List Token) → Declares f l → first_span (f ++ (l ++ more)) ≡ first_span (f ++ l)
first-declared [] [] more declares = let h = (declares []).1 in cc
first-declared [] (t ∷ l) more declares = refl
first-declared (t ∷ f) l more declares = refl

pub read-local_start : (text : List ℕ) (i : Inner) (f l : List Token) (is : Bool) (v : Variable) → IsFinal f is → Declares f l → Reads (variable_read text i) 1 l v →
    ReadsTo (start_read text i) token.Semicolon (f ++ l) (start.Local (first_span (f ++ l)) is v)
read-local_start text i f l is v modifier declares d u hu rest =
    let first = declares (u ∷ rest) in
    let variable = d (u ∷ rest) (rw hu (omega arith)) in
    rw (append_assoc f l (u ∷ rest), first.0, first.1, read-final modifier (l ++ u ∷ rest) first.2, variable, first-declared f l (u ∷ rest) declares) refl

pub read-expression_start : (text : List ℕ) (i : Inner) (l : List Token) (e : Expr) → Front l → Reads i.expr 1 l e → is_statement e ≡ true →
    ReadsTo (start_read text i) token.Semicolon l (start.Expression e)
read-expression_start text i [] e f d may u hu rest = absurd f
read-expression_start text i (n ∷ l) e f d may u hu rest =
    let stop : Stops 1 (u ∷ rest) = rw hu (omega arith) in
    rw ((opens-statement n.kind f.0).1, expression-no_local (n ∷ l) (u ∷ rest) f stop, d (u ∷ rest) stop, may) refl

-- ---- statements

-- a statement is read, where what follows doesn't go on with it
abbrev pub ReadsStmt : (List Token → Read Stmt) → Bool → List Token → Stmt → Type 0
ReadsStmt read dangling ts s = (rest : List Token) → Clear dangling rest → read (ts ++ rest) ≡ Some (s, rest)

pub read-block_stmt : (text : List ℕ) (deeper : Option Deeper) (ts : List Token) (b : Block) → Opened ts → ReadsFree (block_read deeper) ts b →
    ReadsStmt (stmt_read text deeper) false ts (statement.Block b)
read-block_stmt text deeper [] b o d rest clear = absurd o
read-block_stmt text deeper (t ∷ ts) b o d rest clear =
    let is : form_of t.kind ≡ form.Block = rw o refl in
    rw (is, d rest) refl

pub read-empty : (text : List ℕ) (deeper : Option Deeper) (t : Token) → t.kind ≡ token.Semicolon → ReadsStmt (stmt_read text deeper) false (t ∷ []) (statement.Empty t.span)
read-empty text deeper t h rest clear = rw h refl

pub read-expression_stmt : (text : List ℕ) (deeper : Option Deeper) (l : List Token) (e : Expr) (u : Token) → Front l → Reads (readers_over text (inner_of deeper)).expr 1 l e →
    is_statement e ≡ true → u.kind ≡ token.Semicolon → ReadsStmt (stmt_read text deeper) false (l ++ u ∷ []) (statement.Expression e)
read-expression_stmt text deeper [] e u f d may hu rest clear = absurd f
read-expression_stmt text deeper (n ∷ l) e u f d may hu rest clear =
    let inside = d (u ∷ rest) (rw hu (omega arith)) in
    rw (append_assoc l (u ∷ []) rest, (opens-statement n.kind f.0).0, inside, may, hu) refl

pub read-if_alone : (text : List ℕ) (d : Deeper) (dangling : Bool) (c s : List Token) (e : Expr) (body : Stmt) (t : Token) → t.kind ≡ token.If →
    ReadsFree (condition_read d.inner) c e → ReadsStmt d.stmt dangling s body → ReadsStmt (stmt_read text (Some d)) true (t ∷ (c ++ s)) (statement.If t.span e body None)
read-if_alone text d dangling c s e body t h dc ds rest clear =
    let inside = ds rest (λ x. clear.0 refl, clear.1) in
    rw (h, append_assoc c s rest, dc (s ++ rest), inside, clear.0 refl) refl

pub read-if_else : (text : List ℕ) (d : Deeper) (dangling : Bool) (c s r : List Token) (e : Expr) (body otherwise : Stmt) (t u : Token) → t.kind ≡ token.If →
    ReadsFree (condition_read d.inner) c e → ReadsStmt d.stmt false s body → u.kind ≡ token.Else → ReadsStmt d.stmt dangling r otherwise →
    ReadsStmt (stmt_read text (Some d)) dangling (t ∷ (c ++ (s ++ u ∷ r))) (statement.If t.span e body (Some otherwise))
read-if_else text d dangling c s r e body otherwise t u h dc ds hu dr rest clear =
    let inside = ds (u ∷ (r ++ rest)) (λ x. cc, rw hu refl) in
    rw (h, append_assoc c (s ++ u ∷ r) rest, append_assoc s (u ∷ r) rest, dc (s ++ u ∷ (r ++ rest)), inside, hu, dr rest clear) refl

pub read-while : (text : List ℕ) (d : Deeper) (dangling : Bool) (c s : List Token) (e : Expr) (body : Stmt) (t : Token) → t.kind ≡ token.While →
    ReadsFree (condition_read d.inner) c e → ReadsStmt d.stmt dangling s body → ReadsStmt (stmt_read text (Some d)) dangling (t ∷ (c ++ s)) (statement.While t.span e body)
read-while text d dangling c s e body t h dc ds rest clear = rw (h, append_assoc c s rest, dc (s ++ rest), ds rest clear) refl

pub read-do : (text : List ℕ) (d : Deeper) (dangling : Bool) (s c : List Token) (body : Stmt) (e : Expr) (t w u : Token) → t.kind ≡ token.Do →
    ReadsStmt d.stmt dangling s body → w.kind ≡ token.While → ReadsFree (condition_read d.inner) c e → u.kind ≡ token.Semicolon →
    ReadsStmt (stmt_read text (Some d)) false (t ∷ (s ++ w ∷ (c ++ u ∷ []))) (statement.Do t.span body e)
read-do text d dangling s c body e t w u h ds hw dc hu rest clear =
    let inside = ds (w ∷ (c ++ u ∷ rest)) (λ x. rw hw refl, rw hw refl) in
    rw (h, append_assoc s (w ∷ (c ++ u ∷ [])) rest, append_assoc c (u ∷ []) rest, inside, hw, dc (u ∷ rest), hu) refl

pub read-for : (text : List ℕ) (d : Deeper) (dangling : Bool) (a b c s : List Token) (begins : ForStart) (e update : Option Expr) (body : Stmt) (t p u v q : Token) →
    t.kind ≡ token.For → p.kind ≡ token.LeftParen → ReadsTo (start_read text d.inner) token.Semicolon a begins → u.kind ≡ token.Semicolon →
    ReadsTo (optional_read is_semicolon d.inner) token.Semicolon b e → v.kind ≡ token.Semicolon → ReadsTo (update_read is_right_paren d.inner) token.RightParen c update →
    q.kind ≡ token.RightParen → ReadsStmt d.stmt dangling s body → ((more : List Token) → is_for_each (a ++ u ∷ more) ≡ false) →
    ReadsStmt (stmt_read text (Some d)) dangling (t ∷ p ∷ (a ++ u ∷ (b ++ v ∷ (c ++ q ∷ s)))) (statement.For t.span begins e update body)
read-for text d dangling a b c s begins e update body t p u v q h hp da hu db hv dc hq ds each rest clear =
    let third = c ++ q ∷ (s ++ rest) in
    let second = b ++ v ∷ third in
    rw (
      h,
      hp,
      append_assoc a (u ∷ (b ++ v ∷ (c ++ q ∷ s))) rest,
      append_assoc b (v ∷ (c ++ q ∷ s)) rest,
      append_assoc c (q ∷ s) rest,
      each second,
      da u hu second,
      hu,
      db v hv third,
      hv,
      dc q hq (s ++ rest),
      hq,
      ds rest clear,
    ) refl

pub read-for_each : (text : List ℕ) (d : Deeper) (dangling is : Bool) (f b a s : List Token) (dims : ℕ) (e : Expr) (body : Stmt) (t p m n u q : Token) →
    t.kind ≡ token.For → p.kind ≡ token.LeftParen → IsFinal f is → names_type m.kind ≡ true → AreBrackets b dims → n.kind ≡ token.Identifier →
    u.kind ≡ token.Colon → Reads d.inner.expr 1 a e → q.kind ≡ token.RightParen → ReadsStmt d.stmt dangling s body →
    ReadsStmt (stmt_read text (Some d)) dangling (t ∷ p ∷ (f ++ ((m ∷ b) ++ n ∷ u ∷ (a ++ q ∷ s))))
    (statement.ForEach t.span is (Some (type_of text m dims)) (identifier_of text n) e body)
read-for_each text d dangling is f b a s dims e body t p m n u q h hp modifier hm pairs hn hu da hq ds rest clear =
    let more = a ++ q ∷ (s ++ rest) in
    let word = type-word m.kind hm in
    let each = each-typed m n u modifier hm pairs hn hu more in
    let array = da (q ∷ (s ++ rest)) (rw hq (omega arith)) in
    let behind = brackets-all pairs (n ∷ u ∷ more) (name-no_brackets n (u ∷ more) hn) in
    rw (
      h,
      hp,
      append_assoc f ((m ∷ b) ++ n ∷ u ∷ (a ++ q ∷ s)) rest,
      append_assoc b (n ∷ u ∷ (a ++ q ∷ s)) rest,
      append_assoc a (q ∷ s) rest,
      each,
      read-final modifier (m ∷ (b ++ n ∷ u ∷ more)) word.0,
      word.1,
      hm,
      behind,
      hn,
      hu,
      array,
      hq,
      ds rest clear,
    ) refl

pub read-for_each_inferred : (text : List ℕ) (d : Deeper) (dangling is : Bool) (f a s : List Token) (e : Expr) (body : Stmt) (t p v n u q : Token) →
    t.kind ≡ token.For → p.kind ≡ token.LeftParen → IsFinal f is → v.kind ≡ token.Var → n.kind ≡ token.Identifier →
    u.kind ≡ token.Colon → Reads d.inner.expr 1 a e → q.kind ≡ token.RightParen → ReadsStmt d.stmt dangling s body →
    ReadsStmt (stmt_read text (Some d)) dangling (t ∷ p ∷ (f ++ v ∷ n ∷ u ∷ (a ++ q ∷ s))) (statement.ForEach t.span is None (identifier_of text n) e body)
read-for_each_inferred text d dangling is f a s e body t p v n u q h hp modifier hv hn hu da hq ds rest clear =
    let more = a ++ q ∷ (s ++ rest) in
    let none : sees is_final (v ∷ n ∷ u ∷ more) ≡ false = rw hv refl in
    let each = each-inferred v n u modifier hv hn hu more in
    let array = da (q ∷ (s ++ rest)) (rw hq (omega arith)) in
    rw (
      h,
      hp,
      append_assoc f (v ∷ n ∷ u ∷ (a ++ q ∷ s)) rest,
      append_assoc a (q ∷ s) rest,
      each,
      read-final modifier (v ∷ n ∷ u ∷ more) none,
      hv,
      hn,
      hu,
      array,
      hq,
      ds rest clear,
    ) refl

-- the groups are read, where a brace closes them
abbrev pub ReadsGroups : (List Token → Read (List SwitchGroup)) → List Token → List SwitchGroup → Type 0
ReadsGroups read ts gs = (u : Token) → u.kind ≡ token.RightBrace → (rest : List Token) → read (ts ++ u ∷ rest) ≡ Some (gs, u ∷ rest)

pub read-switch : (text : List ℕ) (d : Deeper) (c g : List Token) (e : Expr) (groups : List SwitchGroup) (t p q : Token) → t.kind ≡ token.Switch →
    ReadsFree (condition_read d.inner) c e → p.kind ≡ token.LeftBrace → ReadsGroups d.groups g groups → q.kind ≡ token.RightBrace →
    ReadsStmt (stmt_read text (Some d)) false (t ∷ (c ++ p ∷ (g ++ q ∷ []))) (statement.Switch t.span e groups)
read-switch text d c g e groups t p q h dc hp dg hq rest clear =
    rw (h, append_assoc c (p ∷ (g ++ q ∷ [])) rest, append_assoc g (q ∷ []) rest, dc (p ∷ (g ++ q ∷ rest)), hp, dg q hq rest, hq) refl

pub read-break : (text : List ℕ) (deeper : Option Deeper) (t u : Token) → t.kind ≡ token.Break → u.kind ≡ token.Semicolon →
    ReadsStmt (stmt_read text deeper) false (t ∷ u ∷ []) (statement.Break t.span)
read-break text deeper t u h hu rest clear = rw (h, hu) refl

pub read-continue : (text : List ℕ) (deeper : Option Deeper) (t u : Token) → t.kind ≡ token.Continue → u.kind ≡ token.Semicolon →
    ReadsStmt (stmt_read text deeper) false (t ∷ u ∷ []) (statement.Continue t.span)
read-continue text deeper t u h hu rest clear = rw (h, hu) refl

pub read-return : (text : List ℕ) (deeper : Option Deeper) (l : List Token) (e : Option Expr) (t u : Token) → t.kind ≡ token.Return →
    ReadsTo (optional_read is_semicolon (readers_over text (inner_of deeper))) token.Semicolon l e → u.kind ≡ token.Semicolon →
    ReadsStmt (stmt_read text deeper) false (t ∷ (l ++ u ∷ [])) (statement.Return t.span e)
read-return text deeper l e t u h d hu rest clear = rw (h, append_assoc l (u ∷ []) rest, d u hu rest, hu) refl

pub read-throw : (text : List ℕ) (deeper : Option Deeper) (l : List Token) (e : Expr) (t u : Token) → t.kind ≡ token.Throw →
    Reads (readers_over text (inner_of deeper)).expr 1 l e → u.kind ≡ token.Semicolon →
    ReadsStmt (stmt_read text deeper) false (t ∷ (l ++ u ∷ [])) (statement.Throw t.span e)
read-throw text deeper l e t u h d hu rest clear =
    let inside = d (u ∷ rest) (rw hu (omega arith)) in
    rw (h, append_assoc l (u ∷ []) rest, inside, hu) refl

-- the clauses are read by so many turns or more, where no other follows
abbrev pub ReadsCatches : List ℕ → Option Deeper → List Token → List CatchClause → Type 0
ReadsCatches text deeper ts cs = (most : ℕ) → length ts < most → (rest : List Token) → sees is_catch rest ≡ false → catches most text deeper (ts ++ rest) ≡ Some (cs, rest)

pub read-try : (text : List ℕ) (deeper : Option Deeper) (b c : List Token) (inside : Block) (cs : List CatchClause) (t : Token) → t.kind ≡ token.Try →
    ReadsFree (block_read deeper) b inside → ReadsCatches text deeper c cs → cs ≢ [] → ReadsStmt (stmt_read text deeper) false (t ∷ (b ++ c)) (statement.Try t.span inside cs)
read-try text deeper b c inside [] t h db dc some rest clear = absurd (some refl)
read-try text deeper b c inside (first ∷ cs) t h db dc some rest clear =
    let others = dc (suc (length (c ++ rest))) (omega (arith, length-append c rest)) rest clear.1 in
    rw (h, append_assoc b c rest, db (c ++ rest), others) refl
