-- What declarations begin with, and what tells them from one another.
use Rattle.std.proofs.Common.{◌≡◌, ℕ, Bool, true, false, ◌&&◌, List, [], ◌∷◌, ◌++◌, Option, Some, None, refl, ◌∙◌, arith, append_assoc}
use Rattle.jsh_tree.specs.declared.token.Token.{Token}
use Rattle.jsh_tree.specs.declared.token.TokenKind.{TokenKind}
use Rattle.jsh_tree.specs.declared.token.TokenKind.TheVariants as token
use Rattle.jsh_tree.specs.declared.expression.TypeUse.{TypeUse}
use Rattle.jsh_tree.specs.declared.statement.Stmt.{Stmt}
use Rattle.jsh_tree.specs.declared.statement.Block.{Block}
use Rattle.jsh_tree.specs.declared.statement.BlockStatement.{BlockStatement}
use Rattle.jsh_tree.specs.declared.statement.Variable.{Variable}
use Rattle.jsh_tree.specs.declared.declaration.Parameter.{Parameter}
use Rattle.jsh_parse.specs.Leaves.{AreBrackets, none, one_more, names_type}
use Rattle.jsh_parse.specs.Marks.{is_left_paren, is_right_brace, is_comma, is_identifier}
use Rattle.jsh_parse.specs.Forms.{is_semicolon, is_var}
use Rattle.jsh_parse.specs.Statements as statement
use Rattle.jsh_parse.specs.Statements.{IsFinal, IsVariable, IsStmt, AreStatements}
use Rattle.jsh_parse.specs.Reader.{sees}
use Rattle.jsh_parse.specs.StatementReader.{begins_local}
use Rattle.jsh_parse.proofs.Steps.{brackets-all}
use Rattle.jsh_parse.proofs.Edges.{Opened}
use Rattle.jsh_parse.proofs.StatementFronts.{type-word, type-declares, name-no_brackets, declaration-local}
use Rattle.jsh_parse.proofs.StatementEdges.{block-opened}
use Rattle.jsh_decl.specs.Words.{is_import, is_class, is_interface, is_throws}
use Rattle.jsh_decl.specs.Declarations as grammar
use Rattle.jsh_decl.specs.Declarations.{modifier_of, AreParameters, IsResult, IsBody}
use Rattle.jsh_decl.specs.DeclarationReader.{begins_method, begins_constructor, begins_declaration}
use Rattle.jsh_decl.proofs.Fronts.{Bare, type-bare, type-through, bare-declares, Uncalled, uncalled-other, uncalled-append, uncalled-expr}
use Rattle.jsh_decl.proofs.CompleteNames.{Unmodified}

-- ---- kinds

-- what a variable, a method or a constructor begins with
abbrev pub begins_typed : TokenKind → Bool
begins_typed token.Var = true
begins_typed token.Void = true
begins_typed kind = names_type kind

pub type-typed : (k : TokenKind) → names_type k ≡ true → begins_typed k ≡ true
type-typed token.Int h = refl
type-typed _ h = grind arith

-- the token begins no declaration by its word, and is no mark
abbrev pub IsTyped : TokenKind → Type 0
IsTyped k =
    (is_import k ≡ false) × (modifier_of k ≡ None) × (is_class k ≡ false) × (is_interface k ≡ false) × (is_right_brace k ≡ false) × (is_semicolon k ≡ false)

typed-kind : (k : TokenKind) → begins_typed k ≡ true → IsTyped k
typed-kind token.Var h = (refl, refl, refl, refl, refl, refl)
typed-kind token.Void h = (refl, refl, refl, refl, refl, refl)
typed-kind _ h = grind arith

-- ---- lists

-- a type stands first, or `var` or `void`
abbrev pub Typed : List Token → Type 0
Typed [] = ⊥
Typed (t ∷ ts) = begins_typed t.kind ≡ true

-- what the reader asks of the first token
abbrev pub Apart : List Token → Type 0
Apart ts =
    (sees is_import ts ≡ false) × Unmodified ts × (sees is_class ts ≡ false) × (sees is_interface ts ≡ false) × (sees is_right_brace ts ≡ false)
    × (sees is_semicolon ts ≡ false)

pub typed-apart : (ts : List Token) → Typed ts → Apart ts
typed-apart [] h = absurd h
typed-apart (t ∷ ts) h = typed-kind t.kind h

-- no parenthesis stands between a type and a name
brackets-no_paren : {b : List Token} {dims : ℕ} → AreBrackets b dims → (n : Token) → n.kind ≡ token.Identifier → (more : List Token) →
    sees is_left_paren (b ++ n ∷ more) ≡ false
brackets-no_paren none n hn more = rw hn refl
brackets-no_paren (one_more t u ht hu pairs) n hn more = rw ht refl

and-second : (a b : Bool) → b ≡ false → (a && b) ≡ false
and-second true b h = h
and-second false b h = refl

-- ---- variables

pub variable-typed : {text : List ℕ} {room : ℕ} {ts : List Token} {v : Variable} → IsVariable text room ts v → (more : List Token) → Typed (ts ++ more)
variable-typed (statement.inferred v n t hv hn ht d) more = rw hv refl
variable-typed (statement.bare n (statement.named m hm pairs) hn) more = type-typed m.kind hm
variable-typed (statement.initialized n t (statement.named m hm pairs) hn ht d) more = type-typed m.kind hm

variable-bare : {text : List ℕ} {room : ℕ} {ts : List Token} {v : Variable} → IsVariable text room ts v → (more : List Token) → Bare (ts ++ more)
variable-bare (statement.inferred v n t hv hn ht d) more = rw hv (refl, refl, refl, refl, refl, refl)
variable-bare (statement.bare n (statement.named m hm pairs) hn) more = type-bare m.kind hm
variable-bare (statement.initialized n t (statement.named m hm pairs) hn ht d) more = type-bare m.kind hm

-- a variable begins a declaration
pub variable-declares : {text : List ℕ} {room : ℕ} {ts : List Token} {v : Variable} → IsVariable text room ts v → (more : List Token) →
    begins_declaration (ts ++ more) ≡ true
variable-declares {ts = ts} d more = bare-declares (ts ++ more) (variable-bare d more) ∙ declaration-local statement.not_final d more

-- no parenthesis stands behind the name of a variable
pub variable-no_method : {text : List ℕ} {room : ℕ} {ts : List Token} {v : Variable} → IsVariable text room ts v → (u : Token) → u.kind ≡ token.Semicolon →
    (rest : List Token) → begins_method (ts ++ u ∷ rest) ≡ false
variable-no_method (statement.inferred v n t hv hn ht d) u hu rest = rw hv refl
variable-no_method (statement.bare n (statement.named {b = b} m hm pairs) hn) u hu rest =
    rw (
      append_assoc b (n ∷ []) (u ∷ rest),
      (type-bare m.kind hm).4,
      hm,
      brackets-all pairs (n ∷ u ∷ rest) (name-no_brackets n (u ∷ rest) hn),
      hn,
      hu,
    ) refl
variable-no_method (statement.initialized {r = r} n t (statement.named {b = b} m hm pairs) hn ht d) u hu rest =
    rw (
      append_assoc b (n ∷ t ∷ r) (u ∷ rest),
      (type-bare m.kind hm).4,
      hm,
      brackets-all pairs (n ∷ t ∷ (r ++ u ∷ rest)) (name-no_brackets n (t ∷ (r ++ u ∷ rest)) hn),
      hn,
      ht,
    ) refl

-- a name, and no parenthesis, stands behind the type of a variable
pub variable-no_constructor : {text : List ℕ} {room : ℕ} {ts : List Token} {v : Variable} → IsVariable text room ts v → (more : List Token) →
    begins_constructor (ts ++ more) ≡ false
variable-no_constructor (statement.inferred v n t hv hn ht d) more = rw hv refl
variable-no_constructor (statement.bare n (statement.named {b = b} m hm pairs) hn) more =
    rw (append_assoc b (n ∷ []) more) (and-second (is_identifier m.kind) (sees is_left_paren (b ++ n ∷ more)) (brackets-no_paren pairs n hn more))
variable-no_constructor (statement.initialized {r = r} n t (statement.named {b = b} m hm pairs) hn ht d) more =
    rw (append_assoc b (n ∷ t ∷ r) more)
    (and-second (is_identifier m.kind) (sees is_left_paren (b ++ n ∷ t ∷ (r ++ more))) (brackets-no_paren pairs n hn (t ∷ (r ++ more))))

-- a variable with a type isn't declared by `var`
pub variable-no_var : {text : List ℕ} {room : ℕ} {ts : List Token} {v : Variable} {written : TypeUse} → IsVariable text room ts v → v.written ≡ Some written →
    (more : List Token) → sees is_var (ts ++ more) ≡ false
variable-no_var (statement.inferred v n t hv hn ht d) is more = cc
variable-no_var (statement.bare n (statement.named m hm pairs) hn) is more = (type-word m.kind hm).1
variable-no_var (statement.initialized n t (statement.named m hm pairs) hn ht d) is more = (type-word m.kind hm).1

-- ---- methods

-- parameters begin with a parenthesis
pub parameters-front : {text : List ℕ} {ts : List Token} {ps : List Parameter} → AreParameters text ts ps → (more : List Token) →
    sees is_left_paren (ts ++ more) ≡ true
parameters-front (grammar.no_parameters t u h hu) more = rw h refl
parameters-front (grammar.some_parameters t u h d hu) more = rw h refl

pub result-typed : {text : List ℕ} {ts : List Token} {result : Option TypeUse} → IsResult text ts result → (more : List Token) → Typed (ts ++ more)
result-typed (grammar.void t h) more = rw h refl
result-typed (grammar.typed (statement.named m hm pairs)) more = type-typed m.kind hm

-- a method begins a declaration
pub result-declares : {text : List ℕ} {ts : List Token} {result : Option TypeUse} → IsResult text ts result → (n : Token) → n.kind ≡ token.Identifier →
    (rest : List Token) → begins_declaration (ts ++ n ∷ rest) ≡ true
result-declares (grammar.void t h) n hn rest = rw h refl
result-declares (grammar.typed (statement.named {b = b} m hm pairs)) n hn rest = bare-declares (m ∷ (b ++ n ∷ rest)) (type-bare m.kind hm) ∙ local
  where
    local : begins_local (m ∷ (b ++ n ∷ rest)) ≡ true
    local = rw (brackets-all pairs (n ∷ rest) (name-no_brackets n rest hn), hn) (type-declares m.kind hm)

-- a parenthesis stands behind the name of a method
pub result-method : {text : List ℕ} {ts : List Token} {result : Option TypeUse} → IsResult text ts result → (n : Token) → n.kind ≡ token.Identifier →
    (rest : List Token) → sees is_left_paren rest ≡ true → begins_method (ts ++ n ∷ rest) ≡ true
result-method (grammar.void t h) n hn rest paren = rw h refl
result-method (grammar.typed (statement.named m hm pairs)) n hn rest paren =
    rw ((type-bare m.kind hm).4, hm, brackets-all pairs (n ∷ rest) (name-no_brackets n rest hn), hn, paren) refl

-- likewise behind that of a method
pub result-no_constructor : {text : List ℕ} {ts : List Token} {result : Option TypeUse} → IsResult text ts result → (n : Token) → n.kind ≡ token.Identifier →
    (rest : List Token) → begins_constructor (ts ++ n ∷ rest) ≡ false
result-no_constructor (grammar.void t h) n hn rest = rw h refl
result-no_constructor (grammar.typed (statement.named {b = b} m hm pairs)) n hn rest =
    and-second (is_identifier m.kind) (sees is_left_paren (b ++ n ∷ rest)) (brackets-no_paren pairs n hn rest)

-- a brace goes on with no names, and is no semicolon
pub opened-apart : (ts more : List Token) → Opened ts →
    (sees is_throws (ts ++ more) ≡ false) × (sees is_comma (ts ++ more) ≡ false) × (sees is_semicolon (ts ++ more) ≡ false)
opened-apart [] more o = absurd o
opened-apart (t ∷ ts) more o = rw o (refl, refl, refl)

-- names end where a body begins
pub body-apart : {text : List ℕ} {room : ℕ} {ts : List Token} {b : Option Block} → IsBody text room ts b → (more : List Token) →
    (sees is_throws (ts ++ more) ≡ false) × (sees is_comma (ts ++ more) ≡ false)
body-apart (grammar.no_body u hu) more = rw hu (refl, refl)
body-apart (grammar.body {ts = ts} d) more = let apart = opened-apart ts more (block-opened d) in (apart.0, apart.1)

-- ---- what stands in a constructor

opened-uncalled : (ts more : List Token) → Opened ts → Uncalled (ts ++ more)
opened-uncalled [] more o = absurd o
opened-uncalled (t ∷ ts) more o = rw o refl

stmt-uncalled : {text : List ℕ} {room : ℕ} {dangling : Bool} {ts : List Token} {s : Stmt} → IsStmt text room dangling ts s →
    (more : List Token) → Uncalled (ts ++ more)
stmt-uncalled (statement.block {ts = ts} d) more = opened-uncalled ts more (block-opened d)
stmt-uncalled (statement.empty t h) more = rw h refl
stmt-uncalled (statement.expression {l = l} u d may hu) more = rw (append_assoc l (u ∷ []) more) (uncalled-append l (u ∷ more) (uncalled-expr d) (rw hu refl))
stmt-uncalled (statement.if_alone t h c d) more = rw h refl
stmt-uncalled (statement.if_else t u h c d hu r) more = rw h refl
stmt-uncalled (statement.while_do t h c d) more = rw h refl
stmt-uncalled (statement.do_while t w u h d hw c hu) more = rw h refl
stmt-uncalled (statement.for_do t p u v q h hp da hu db hv dc hq d) more = rw h refl
stmt-uncalled (statement.for_each t p n u q h hp modifier written hn hu da hq d) more = rw h refl
stmt-uncalled (statement.for_each_inferred t p v n u q h hp modifier hv hn hu da hq d) more = rw h refl
stmt-uncalled (statement.switch t p q h c hp d hq) more = rw h refl
stmt-uncalled (statement.break_off t u h hu) more = rw h refl
stmt-uncalled (statement.continue_on t u h hu) more = rw h refl
stmt-uncalled (statement.return_from t u h d hu) more = rw h refl
stmt-uncalled (statement.throw_up t u h d hu) more = rw h refl
stmt-uncalled (statement.try_block t h d dc some) more = rw h refl

variable-uncalled : {text : List ℕ} {room : ℕ} {ts : List Token} {v : Variable} → IsVariable text room ts v → (more : List Token) → Uncalled (ts ++ more)
variable-uncalled (statement.inferred v n t hv hn ht d) more = rw hv refl
variable-uncalled (statement.bare n (statement.named {b = b} m hm pairs) hn) more = uncalled-other m ((b ++ n ∷ []) ++ more) (type-through m.kind hm)
variable-uncalled (statement.initialized {r = r} n t (statement.named {b = b} m hm pairs) hn ht d) more =
    uncalled-other m ((b ++ n ∷ t ∷ r) ++ more) (type-through m.kind hm)

-- no statement begins with a call of another constructor
pub statements-uncalled : {text : List ℕ} {room : ℕ} {ts : List Token} {ss : List BlockStatement} → AreStatements text room ts ss → (u : Token) →
    u.kind ≡ token.RightBrace → (rest : List Token) → Uncalled (ts ++ u ∷ rest)
statements-uncalled statement.no_statements u hu rest = rw hu refl
statements-uncalled (statement.one_more_local {l = l} {r = r} v statement.not_final d hv ds) u hu rest =
    rw (append_assoc l (v ∷ r) (u ∷ rest)) (variable-uncalled d (v ∷ (r ++ u ∷ rest)))
statements-uncalled (statement.one_more_local v (statement.final t h) d hv ds) u hu rest = rw h refl
statements-uncalled (statement.one_more_statement {l = l} {r = r} d ds) u hu rest = rw (append_assoc l r (u ∷ rest)) (stmt-uncalled d (r ++ u ∷ rest))
