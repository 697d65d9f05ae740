-- The steps of reading what statements are made of: each piece is read, where its parts are.
use Rattle.std.proofs.Common.{◌≡◌, ℕ, zero, suc, ◌<◌, ◌⊎◌, Bool, true, false, List, [], ◌∷◌, ◌++◌, Option, Some, length, inl, inr, refl, arith, append_assoc, length-append}
use Rattle.jsh_tree.specs.declared.token.Token.{Token}
use Rattle.jsh_tree.specs.declared.token.TokenKind.TheVariants as token
use Rattle.jsh_tree.specs.declared.expression.Literal.{Literal}
use Rattle.jsh_tree.specs.declared.statement.Stmt.{Stmt}
use Rattle.jsh_tree.specs.declared.statement.Block.{Block, roll-Block}
use Rattle.jsh_tree.specs.declared.statement.BlockStatement.{BlockStatement}
use Rattle.jsh_tree.specs.declared.statement.BlockStatement.TheVariants as block_statement
use Rattle.jsh_tree.specs.declared.statement.SwitchGroup.{SwitchGroup, roll-SwitchGroup}
use Rattle.jsh_tree.specs.declared.statement.SwitchLabel.{SwitchLabel}
use Rattle.jsh_tree.specs.declared.statement.SwitchLabel.TheVariants as label
use Rattle.jsh_tree.specs.declared.statement.CatchClause.{CatchClause, roll-CatchClause}
use Rattle.jsh_tree.specs.declared.statement.Variable.{Variable}
use Rattle.jsh_parse.specs.Leaves.{literal_of, identifier_of}
use Rattle.jsh_parse.specs.Forms.{is_minus, is_final, is_case_value, begins_label}
use Rattle.jsh_parse.specs.Statements.{first_span, IsFinal}
use Rattle.jsh_parse.specs.Reader.{sees, readers_over}
use Rattle.jsh_parse.specs.StatementReader.{Deeper, inner_of, begins_local, variable_read, block_read, catches, stmt_read, block_statement_read, statements_read, label_read, labels_read, groups_read}
use Rattle.jsh_parse.proofs.Steps.{Reads}
use Rattle.jsh_parse.proofs.Pieces.{ReadsFree}
use Rattle.jsh_parse.proofs.StatementFronts.{Begins, Ended, Clear, read-final}
use Rattle.jsh_parse.proofs.StatementSteps.{ReadsStmt, Declares, first-declared, ReadsCatches}

-- ---- blocks

-- the statements are read by so many turns or more, where nothing follows or what ends them
abbrev pub ReadsStatements : List ℕ → Option Deeper → List Token → List BlockStatement → Type 0
ReadsStatements text deeper ts ss = (most : ℕ) → length ts < most → (rest : List Token) → Ended rest → statements_read most text deeper (ts ++ rest) ≡ Some (ss, rest)

pub read-braces : (text : List ℕ) (d : Deeper) (l : List Token) (inside : List BlockStatement) (t u : Token) → t.kind ≡ token.LeftBrace →
    ((rest : List Token) → Ended rest → d.statements (l ++ rest) ≡ Some (inside, rest)) → u.kind ≡ token.RightBrace →
    ReadsFree (block_read (Some d)) (t ∷ (l ++ u ∷ [])) (roll-Block (record { span = t.span; statements = inside }))
read-braces text d l inside t u h ds hu rest =
    let read = ds (u ∷ rest) (rw hu refl) in
    rw (h, append_assoc l (u ∷ []) rest, read, hu) refl

pub read-no_statements : (text : List ℕ) (deeper : Option Deeper) → ReadsStatements text deeper [] []
unfolding statements_read
read-no_statements text deeper zero h rest e = absurd (omega arith)
read-no_statements text deeper (suc most) h [] e = refl
read-no_statements text deeper (suc most) h (t ∷ rest) e = rw e refl

-- a statement or declaration, and those behind it
read-more : (text : List ℕ) (deeper : Option Deeper) (ts r : List Token) (s : BlockStatement) (ss : List BlockStatement) → Begins ts → length r < length ts →
    ((rest : List Token) → Ended rest → block_statement_read text deeper (ts ++ rest) ≡ Some (s, r ++ rest)) → ReadsStatements text deeper r ss →
    ReadsStatements text deeper ts (s ∷ ss)
unfolding statements_read
read-more text deeper ts r s ss b less d ds zero h rest e = absurd (omega arith)
read-more text deeper [] r s ss b less d ds (suc most) h rest e = absurd b
read-more text deeper (t ∷ ts) r s ss b less d ds (suc most) h rest e = rw (b.0, d rest e, ds most (omega arith) rest e) refl

pub read-more_local : (text : List ℕ) (deeper : Option Deeper) (f l r : List Token) (is : Bool) (v : Variable) (ss : List BlockStatement) (u : Token) → IsFinal f is →
    Declares f l → Begins (f ++ (l ++ u ∷ r)) → Reads (variable_read text (readers_over text (inner_of deeper))) 1 l v → u.kind ≡ token.Semicolon →
    ReadsStatements text deeper r ss → ReadsStatements text deeper (f ++ (l ++ u ∷ r)) (block_statement.Local (first_span (f ++ l)) is v ∷ ss)
read-more_local text deeper f l r is v ss u modifier declares b d hu ds =
    read-more text deeper (f ++ (l ++ u ∷ r)) r (block_statement.Local (first_span (f ++ l)) is v) ss b (omega (arith, length-append f (l ++ u ∷ r), length-append l (u ∷ r))) one ds
  where
    one : (rest : List Token) → Ended rest → block_statement_read text deeper ((f ++ (l ++ u ∷ r)) ++ rest) ≡ Some (block_statement.Local (first_span (f ++ l)) is v, r ++ rest)
    one rest e =
        let first = declares (u ∷ (r ++ rest)) in
        let variable = d (u ∷ (r ++ rest)) (rw hu (omega arith)) in
        let begins = first-declared f l (u ∷ (r ++ rest)) declares in
        rw (append_assoc f (l ++ u ∷ r) rest, append_assoc l (u ∷ r) rest, first.1, begins, read-final modifier (l ++ u ∷ (r ++ rest)) first.2, variable, hu)
        refl

pub read-more_statement : (text : List ℕ) (deeper : Option Deeper) (dangling : Bool) (l r : List Token) (s : Stmt) (ss : List BlockStatement) → Begins l →
    ((more : List Token) → begins_local (l ++ more) ≡ false) → ((rest : List Token) → Ended rest → Clear dangling (r ++ rest)) →
    ReadsStmt (stmt_read text deeper) dangling l s → ReadsStatements text deeper r ss → ReadsStatements text deeper (l ++ r) (block_statement.Statement s ∷ ss)
read-more_statement text deeper dangling [] r s ss b no_local clear d ds = absurd b
read-more_statement text deeper dangling (t ∷ l) r s ss b no_local clear d ds =
    read-more text deeper (t ∷ (l ++ r)) r (block_statement.Statement s) ss b (omega (arith, length-append l r)) one ds
  where
    one : (rest : List Token) → Ended rest → block_statement_read text deeper (t ∷ ((l ++ r) ++ rest)) ≡ Some (block_statement.Statement s, r ++ rest)
    one rest e = rw (append_assoc l r rest, no_local (r ++ rest), d (r ++ rest) (clear rest e)) refl

-- ---- labels and groups

case_value : (l : Token) → (l.kind ≡ token.IntLiteral) ⊎ (l.kind ≡ token.CharLiteral) → (is_minus l.kind ≡ false) × (is_case_value l.kind ≡ true)
case_value l (inl h) = rw h (refl, refl)
case_value l (inr h) = rw h (refl, refl)

pub read-case : (text : List ℕ) (value : Literal) (c l u : Token) → c.kind ≡ token.Case → (l.kind ≡ token.IntLiteral) ⊎ (l.kind ≡ token.CharLiteral) →
    literal_of text l ≡ Some value → u.kind ≡ token.Colon → ReadsFree (label_read text) (c ∷ l ∷ u ∷ []) (label.Case l.span false value)
read-case text value c l u hc hl is hu rest = let written = case_value l hl in rw (hc, written.0, written.1, is, hu) refl

pub read-case_negative : (text : List ℕ) (value : Literal) (c m l u : Token) → c.kind ≡ token.Case → m.kind ≡ token.Minus →
    (l.kind ≡ token.IntLiteral) ⊎ (l.kind ≡ token.CharLiteral) → literal_of text l ≡ Some value → u.kind ≡ token.Colon →
    ReadsFree (label_read text) (c ∷ m ∷ l ∷ u ∷ []) (label.Case m.span true value)
read-case_negative text value c m l u hc hm hl is hu rest = rw (hc, hm, (case_value l hl).1, is, hu) refl

pub read-default : (text : List ℕ) (d u : Token) → d.kind ≡ token.Default → u.kind ≡ token.Colon → ReadsFree (label_read text) (d ∷ u ∷ []) (label.Default d.span)
read-default text d u hd hu rest = rw (hd, hu) refl

-- the labels are read by so many turns or more, where no other follows
abbrev pub ReadsLabels : List ℕ → List Token → List SwitchLabel → Type 0
ReadsLabels text ts ls = (most : ℕ) → length ts < most → (rest : List Token) → sees begins_label rest ≡ false → labels_read most text (ts ++ rest) ≡ Some (ls, rest)

pub read-last_label : (text : List ℕ) (ts : List Token) (l : SwitchLabel) → ReadsFree (label_read text) ts l → ReadsLabels text ts (l ∷ [])
unfolding labels_read
read-last_label text ts l d zero h rest none = absurd (omega arith)
read-last_label text ts l d (suc most) h rest none = rw (d rest, none) refl

pub read-more_labels : (text : List ℕ) (a b : List Token) (l : SwitchLabel) (ls : List SwitchLabel) → 0 < length a → ReadsFree (label_read text) a l →
    ((more : List Token) → sees begins_label (b ++ more) ≡ true) → ReadsLabels text b ls → ReadsLabels text (a ++ b) (l ∷ ls)
unfolding labels_read
read-more_labels text a b l ls some d begins ds zero h rest none = absurd (omega arith)
read-more_labels text a b l ls some d begins ds (suc most) h rest none =
    let others = ds most (omega (arith, length-append a b)) rest none in
    rw (append_assoc a b rest, d (b ++ rest), begins rest, others) refl

-- the groups are read by so many turns or more, where a brace closes them
abbrev pub ReadsAllGroups : List ℕ → Option Deeper → List Token → List SwitchGroup → Type 0
ReadsAllGroups text deeper ts gs = (most : ℕ) → length ts < most → (u : Token) → u.kind ≡ token.RightBrace → (rest : List Token) →
    groups_read most text deeper (ts ++ u ∷ rest) ≡ Some (gs, u ∷ rest)

pub read-no_groups : (text : List ℕ) (deeper : Option Deeper) → ReadsAllGroups text deeper [] []
unfolding groups_read
read-no_groups text deeper zero h u hu rest = absurd (omega arith)
read-no_groups text deeper (suc most) h u hu rest = rw hu refl

pub read-more_groups : (text : List ℕ) (deeper : Option Deeper) (a b r : List Token) (ls : List SwitchLabel) (ss : List BlockStatement) (gs : List SwitchGroup) →
    0 < length a → ((more : List Token) → sees begins_label (a ++ more) ≡ true) → ReadsLabels text a ls → ReadsStatements text deeper b ss → ReadsAllGroups text deeper r gs →
    ((u : Token) → u.kind ≡ token.RightBrace → (rest : List Token) → (sees begins_label (b ++ (r ++ u ∷ rest)) ≡ false) × Ended (r ++ u ∷ rest)) →
    ReadsAllGroups text deeper (a ++ (b ++ r)) (roll-SwitchGroup (record { labels = ls; statements = ss }) ∷ gs)
unfolding groups_read
read-more_groups text deeper a b r ls ss gs some begins da db dr ends zero h u hu rest = absurd (omega arith)
read-more_groups text deeper a b r ls ss gs some begins da db dr ends (suc most) h u hu rest =
    let third = r ++ u ∷ rest in
    let second = b ++ third in
    let labels = da (suc (length (a ++ second))) (omega (arith, length-append a second)) second (ends u hu rest).0 in
    let inside = db (suc (length second)) (omega (arith, length-append b third)) third (ends u hu rest).1 in
    let others = dr most (omega (arith, length-append a (b ++ r), length-append b r)) u hu rest in
    rw (append_assoc a (b ++ r) (u ∷ rest), append_assoc b r (u ∷ rest), begins second, labels, inside, others) refl

-- ---- catches

pub read-no_catches : (text : List ℕ) (deeper : Option Deeper) → ReadsCatches text deeper [] []
unfolding catches
read-no_catches text deeper zero h rest none = absurd (omega arith)
read-no_catches text deeper (suc most) h rest none = rw none refl

pub read-more_catches : (text : List ℕ) (deeper : Option Deeper) (f b r : List Token) (is : Bool) (inside : Block) (cs : List CatchClause) (t p c n q : Token) →
    t.kind ≡ token.Catch → p.kind ≡ token.LeftParen → IsFinal f is → c.kind ≡ token.Identifier → n.kind ≡ token.Identifier → q.kind ≡ token.RightParen →
    ReadsFree (block_read deeper) b inside → ReadsCatches text deeper r cs →
    ReadsCatches text deeper (t ∷ p ∷ (f ++ c ∷ n ∷ q ∷ (b ++ r)))
    (roll-CatchClause (record { is_final = is; class = identifier_of text c; name = identifier_of text n; block = inside }) ∷ cs)
unfolding catches
read-more_catches text deeper f b r is inside cs t p c n q ht hp modifier hc hn hq d ds zero h rest none = absurd (omega arith)
read-more_catches text deeper f b r is inside cs t p c n q ht hp modifier hc hn hq d ds (suc most) h rest none =
    let class : sees is_final (c ∷ n ∷ q ∷ (b ++ (r ++ rest))) ≡ false = rw hc refl in
    let others = ds most (omega (arith, length-append f (c ∷ n ∷ q ∷ (b ++ r)), length-append b r)) rest none in
    rw (
      ht,
      hp,
      append_assoc f (c ∷ n ∷ q ∷ (b ++ r)) rest,
      append_assoc b r rest,
      read-final modifier (c ∷ n ∷ q ∷ (b ++ (r ++ rest))) class,
      hc,
      hn,
      hq,
      d (r ++ rest),
      others,
    ) refl
