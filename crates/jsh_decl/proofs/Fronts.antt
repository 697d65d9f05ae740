-- What statements and expressions begin with, as the reader of snippets asks it.
use Rattle.std.proofs.Common.{◌≡◌, ℕ, ◌<◌, Bool, true, false, ◌&&◌, ◌||◌, List, [], ◌∷◌, ◌++◌, Some, None, refl, sym, arith}
use Rattle.jsh_tree.specs.declared.token.Token.{Token}
use Rattle.jsh_tree.specs.declared.token.TokenKind.{TokenKind}
use Rattle.jsh_tree.specs.declared.token.TokenKind.TheVariants as token
use Rattle.jsh_tree.specs.declared.expression.BinaryOperator.{BinaryOperator}
use Rattle.jsh_tree.specs.declared.expression.BinaryOperator.TheVariants as binary
use Rattle.jsh_tree.specs.declared.expression.UnaryOperator.{UnaryOperator}
use Rattle.jsh_tree.specs.declared.expression.Literal.{Literal}
use Rattle.jsh_tree.specs.declared.expression.Expr.{Expr}
use Rattle.jsh_tree.specs.declared.expression.Operation.{Operation}
use Rattle.jsh_tree.specs.declared.expression.PathPart.{PathPart}
use Rattle.jsh_tree.specs.declared.statement.Stmt.{Stmt, out-roll-Stmt}
use Rattle.jsh_tree.specs.declared.statement.Stmt.TheVariants as tree
use Rattle.jsh_tree.specs.declared.statement.BlockStatement.TheOpen.{Stmt-F}
use Rattle.jsh_tree.specs.declared.statement.Block.{Block}
use Rattle.jsh_parse.specs.Operators.{unary_operator, level_of}
use Rattle.jsh_parse.specs.Leaves.{spelling, value_of_kind, names_type}
use Rattle.jsh_parse.specs.Marks.{is_left_paren, is_this, is_super}
use Rattle.jsh_parse.specs.Forms.{is_final}
use Rattle.jsh_parse.specs.Grammar as expression
use Rattle.jsh_parse.specs.Grammar.{IsExpr, IsConditional, IsLevel, AreOperations, IsUnary, IsPostfix, IsPath, AreParts, IsPrimary}
use Rattle.jsh_parse.specs.Statements as statement
use Rattle.jsh_parse.specs.Statements.{IsFinal, IsVariable, IsStmt, AreStatements}
use Rattle.jsh_parse.specs.Reader.{sees}
use Rattle.jsh_parse.specs.StatementReader.{begins_local}
use Rattle.jsh_parse.proofs.Follow.{follow, assignment_follows, operator_follows, step_follows, no_part, no_call}
use Rattle.jsh_parse.proofs.Fronts.{opens}
use Rattle.jsh_parse.proofs.Pieces.{and-false}
use Rattle.jsh_decl.specs.Words.{is_import, is_class, is_interface, is_void}
use Rattle.jsh_decl.specs.Declarations.{modifier_of, is_other_statement}
use Rattle.jsh_decl.specs.DeclarationReader.{begins_declaration}

-- ---- kinds

-- what a statement begins with that is no block and no expression
abbrev pub is_keyword : TokenKind → Bool
is_keyword token.Semicolon = true
is_keyword token.If = true
is_keyword token.While = true
is_keyword token.Do = true
is_keyword token.For = true
is_keyword token.Switch = true
is_keyword token.Break = true
is_keyword token.Continue = true
is_keyword token.Return = true
is_keyword token.Throw = true
is_keyword token.Try = true
is_keyword _ = false

-- the token is no word that only declarations begin with, other than `var` and the names of types
abbrev pub IsBare : TokenKind → Type 0
IsBare k = (is_import k ≡ false) × (modifier_of k ≡ None) × (is_class k ≡ false) × (is_interface k ≡ false) × (is_void k ≡ false) × (is_final k ≡ false)

pub keyword-bare : (k : TokenKind) → is_keyword k ≡ true → IsBare k
keyword-bare token.If h = (refl, refl, refl, refl, refl, refl)
keyword-bare _ h = grind arith

pub opens-bare : (k : TokenKind) → opens k ≡ true → IsBare k
opens-bare token.Plus h = (refl, refl, refl, refl, refl, refl)
opens-bare _ h = grind arith

pub type-bare : (k : TokenKind) → names_type k ≡ true → IsBare k
type-bare token.Int h = (refl, refl, refl, refl, refl, refl)
type-bare _ h = grind arith

-- a word that a call of another constructor begins with
abbrev pub is_through : TokenKind → Bool
is_through k = is_this k || is_super k

pub type-through : (k : TokenKind) → names_type k ≡ true → is_through k ≡ false
type-through token.This h = cc
type-through _ h = grind arith

unary-through : (k : TokenKind) (op : UnaryOperator) → unary_operator k ≡ Some op → is_through k ≡ false
unary-through token.This op e = cc
unary-through _ op e = grind arith

literal-through : (k : TokenKind) (bytes : List ℕ) (v : Literal) → value_of_kind k bytes ≡ Some v → is_through k ≡ false
literal-through token.IntLiteral bytes v e = refl
literal-through token.LongLiteral bytes v e = refl
literal-through token.CharLiteral bytes v e = refl
literal-through token.StringLiteral bytes v e = refl
literal-through _ bytes v e = grind arith

-- what goes on with less than a primary is no parenthesis
no_paren : (k : TokenKind) → follow k < 14 → is_left_paren k ≡ false
no_paren k h = no_call k (no_part k h).2

few_levels : (op : BinaryOperator) → level_of op < 10
few_levels binary.OrElse = omega arith
few_levels _ = omega arith

-- ---- declarations

-- such a token stands first
abbrev pub Bare : List Token → Type 0
Bare [] = ⊥
Bare (t ∷ ts) = IsBare t.kind

-- then a declaration begins where one of a local does
pub bare-declares : (ts : List Token) → Bare ts → begins_declaration ts ≡ begins_local ts
bare-declares [] b = refl
bare-declares (t ∷ ts) b = rw (b.2, b.3, b.4, b.5) refl

-- ---- expressions that begin by `this` or `super`

-- the tokens begin with no call of another constructor
abbrev pub Uncalled : List Token → Type 0
Uncalled [] = ⊥
Uncalled (t ∷ ts) = (is_through t.kind && sees is_left_paren ts) ≡ false

pub uncalled-other : (t : Token) (ts : List Token) → is_through t.kind ≡ false → Uncalled (t ∷ ts)
uncalled-other t ts h = rw h refl

pub uncalled-append : (ts more : List Token) → Uncalled ts → sees is_left_paren more ≡ false → Uncalled (ts ++ more)
uncalled-append [] more u h = absurd u
uncalled-append (t ∷ []) more u h = rw h (and-false (is_through t.kind))
uncalled-append (t ∷ n ∷ ts) more u h = u

-- no parenthesis goes on with an operand
operations-no_paren : {text : List ℕ} {level room : ℕ} {ts : List Token} {os : List Operation} → AreOperations text level room ts os →
    sees is_left_paren ts ≡ false
operations-no_paren expression.no_operations = refl
operations-no_paren (expression.one_more_operand t op is level d ds) = no_paren t.kind (omega (arith, operator_follows t.kind op is, few_levels op))
operations-no_paren (expression.one_more_type t u h hu b ds) = rw h refl

parts-no_paren : {text : List ℕ} {room : ℕ} {ts : List Token} {ps : List PathPart} → AreParts text room ts ps → sees is_left_paren ts ≡ false
parts-no_paren expression.no_parts = refl
parts-no_paren (expression.one_more_field t n h hn ds) = rw h refl
parts-no_paren (expression.one_more_call t n h hn d ds) = rw h refl
parts-no_paren (expression.one_more_index t u h d hu ds) = rw h refl

uncalled-primary : {text : List ℕ} {room : ℕ} {ts : List Token} {e : Expr} → IsPrimary text room ts e → Uncalled ts
uncalled-primary {text = text} (expression.literal t value is) = uncalled-other t [] (literal-through t.kind (spelling text t) value is)
uncalled-primary (expression.this t h) = rw h refl
uncalled-primary (expression.parenthesized t u h d hu) = rw h refl
uncalled-primary (expression.name n h) = rw h refl
uncalled-primary (expression.call n h d) = rw h refl
uncalled-primary (expression.super_call t d n h hd hn ds) = rw (h, hd) refl
uncalled-primary (expression.new_object t n h hn d) = rw h refl
uncalled-primary (expression.new_array t n h hn d some b) = rw h refl
uncalled-primary (expression.new_array_of t n u h hn b few d) = rw h refl

uncalled-path : {text : List ℕ} {room : ℕ} {ts : List Token} {e : Expr} → IsPath text room ts e → Uncalled ts
uncalled-path (expression.alone d) = uncalled-primary d
uncalled-path (expression.with_parts {l = l} {r = r} d ds some free) = uncalled-append l r (uncalled-primary d) (parts-no_paren ds)

uncalled-postfix : {text : List ℕ} {room : ℕ} {ts : List Token} {e : Expr} → IsPostfix text room ts e → Uncalled ts
uncalled-postfix (expression.unstepped d) = uncalled-path d
uncalled-postfix (expression.stepped {l = l} t op d may is) =
    uncalled-append l (t ∷ []) (uncalled-path d) (no_paren t.kind (omega (arith, step_follows t.kind op is)))

uncalled-unary : {text : List ℕ} {room : ℕ} {ts : List Token} {e : Expr} → IsUnary text room ts e → Uncalled ts
uncalled-unary (expression.prefixed {ts = ts} t op is d may) = uncalled-other t ts (unary-through t.kind op is)
uncalled-unary (expression.cast t n u h hn b hu d sign) = rw h refl
uncalled-unary (expression.postfix d) = uncalled-postfix d

uncalled-level : {text : List ℕ} {level room : ℕ} {ts : List Token} {e : Expr} → IsLevel text level room ts e → Uncalled ts
uncalled-level (expression.next_level less d) = uncalled-level d
uncalled-level (expression.run {l = l} {r = r} d ds some) = uncalled-append l r (uncalled-level d) (operations-no_paren ds)
uncalled-level (expression.single_operand d) = uncalled-unary d

uncalled-conditional : {text : List ℕ} {room : ℕ} {ts : List Token} {e : Expr} → IsConditional text room ts e → Uncalled ts
uncalled-conditional (expression.operators d) = uncalled-level d
uncalled-conditional (expression.choice {l = l} {m = m} {r = r} t u d h dy hu dn) = uncalled-append l (t ∷ (m ++ u ∷ r)) (uncalled-level d) (rw h refl)

pub uncalled-expr : {text : List ℕ} {room : ℕ} {ts : List Token} {e : Expr} → IsExpr text room ts e → Uncalled ts
uncalled-expr (expression.conditional d) = uncalled-conditional d
uncalled-expr (expression.assignment {l = l} {r = r} t op d may is v) =
    uncalled-append l (t ∷ r) (uncalled-postfix d) (no_paren t.kind (omega (arith, assignment_follows t.kind op is)))

-- ---- statements

-- a word that only statements begin with stands first
abbrev pub Keyed : List Token → Type 0
Keyed [] = ⊥
Keyed (t ∷ ts) = is_keyword t.kind ≡ true

-- blocks and expressions are snippets of their own
no_other-Block : (b : Block) → is_other_statement (tree.Block b) ≡ false
no_other-Block b = rw (sym (tree.rolls-Block b), out-roll-Stmt (Stmt-F.Block b)) refl

no_other-Expression : (e : Expr) → is_other_statement (tree.Expression e) ≡ false
no_other-Expression e = rw (sym (tree.rolls-Expression e), out-roll-Stmt (Stmt-F.Expression e)) refl

-- a statement that is no block and no expression begins with a word of its own
pub other-keyed : {text : List ℕ} {room : ℕ} {dangling : Bool} {ts : List Token} {s : Stmt} → IsStmt text room dangling ts s →
    is_other_statement s ≡ true → Keyed ts
other-keyed (statement.block {b = b} d) other = let no = no_other-Block b in cc
other-keyed (statement.empty t h) other = rw h refl
other-keyed (statement.expression {e = e} u d may hu) other = let no = no_other-Expression e in cc
other-keyed (statement.if_alone t h c d) other = rw h refl
other-keyed (statement.if_else t u h c d hu r) other = rw h refl
other-keyed (statement.while_do t h c d) other = rw h refl
other-keyed (statement.do_while t w u h d hw c hu) other = rw h refl
other-keyed (statement.for_do t p u v q h hp da hu db hv dc hq d) other = rw h refl
other-keyed (statement.for_each t p n u q h hp modifier written hn hu da hq d) other = rw h refl
other-keyed (statement.for_each_inferred t p v n u q h hp modifier hv hn hu da hq d) other = rw h refl
other-keyed (statement.switch t p q h c hp d hq) other = rw h refl
other-keyed (statement.break_off t u h hu) other = rw h refl
other-keyed (statement.continue_on t u h hu) other = rw h refl
other-keyed (statement.return_from t u h d hu) other = rw h refl
other-keyed (statement.throw_up t u h d hu) other = rw h refl
other-keyed (statement.try_block t h d dc some) other = rw h refl
