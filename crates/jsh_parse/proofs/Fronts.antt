-- What an expression begins with, and what can stand behind a name that it begins with.
use Rattle.std.proofs.Common.{◌≡◌, ℕ, ◌<◌, Bool, true, false, List, [], ◌∷◌, ◌++◌, Some, None, refl, arith}
use Rattle.jsh_tree.specs.declared.token.Token.{Token}
use Rattle.jsh_tree.specs.declared.token.TokenKind.{TokenKind}
use Rattle.jsh_tree.specs.declared.token.TokenKind.TheVariants as token
use Rattle.jsh_tree.specs.declared.expression.BinaryOperator.{BinaryOperator}
use Rattle.jsh_tree.specs.declared.expression.BinaryOperator.TheVariants as binary
use Rattle.jsh_tree.specs.declared.expression.UnaryOperator.{UnaryOperator}
use Rattle.jsh_tree.specs.declared.expression.Literal.{Literal}
use Rattle.jsh_tree.specs.declared.expression.Expr.{Expr}
use Rattle.jsh_tree.specs.declared.expression.Operation.{Operation}
use Rattle.jsh_tree.specs.declared.expression.PathPart.{PathPart}
use Rattle.jsh_parse.specs.Operators.{level_of, unary_operator}
use Rattle.jsh_parse.specs.Leaves.{value_of_kind, spelling}
use Rattle.jsh_parse.specs.Marks.{is_left_paren, is_right_paren, is_left_bracket, is_right_bracket, is_left_brace, is_right_brace, is_identifier, begins_operand}
use Rattle.jsh_parse.specs.Grammar as grammar
use Rattle.jsh_parse.specs.Grammar.{IsExpr, IsConditional, IsLevel, AreOperations, IsUnary, IsPostfix, IsPath, AreParts, IsPrimary, AreSizes, AreArguments, AreListed, AreBraces, AreInitials, IsInitial}
use Rattle.jsh_parse.proofs.Follow.{follow, assignment_follows, operator_follows, step_follows}

-- what an expression may begin with
abbrev pub opens : TokenKind → Bool
opens token.Plus = true
opens token.Minus = true
opens token.PlusPlus = true
opens token.MinusMinus = true
opens kind = begins_operand kind

-- behind an opening bracket that stands behind a name
abbrev pub Third : List Token → Type 0
Third [] = ⊥
Third (t ∷ ts) = is_right_bracket t.kind ≡ false

-- behind a name that an expression begins with
abbrev pub Second : List Token → Type 0
Second [] = Unit {0}
Second (t ∷ ts) = (is_right_paren t.kind ≡ false) × (is_left_bracket t.kind ≡ true → Third ts) × (is_identifier t.kind ≡ false)

-- the tokens begin as an expression does
abbrev pub Front : List Token → Type 0
Front [] = ⊥
Front (t ∷ ts) = (opens t.kind ≡ true) × (is_identifier t.kind ≡ true → Second ts)

-- ---- kinds

pub opens-no-end : (k : TokenKind) → opens k ≡ true → (is_right_paren k ≡ false) × (is_right_bracket k ≡ false) × (is_right_brace k ≡ false) × (is_left_brace k ≡ false)
opens-no-end token.RightParen h = grind arith
opens-no-end _ h = grind arith

unary-opens : (k : TokenKind) (op : UnaryOperator) → unary_operator k ≡ Some op → (opens k ≡ true) × (is_identifier k ≡ false)
unary-opens token.Plus op e = grind arith
unary-opens _ op e = grind arith

pub literal-opens : (k : TokenKind) (bytes : List ℕ) (v : Literal) → value_of_kind k bytes ≡ Some v →
    (opens k ≡ true) × (is_identifier k ≡ false) × (unary_operator k ≡ None) × (is_left_paren k ≡ false)
literal-opens token.IntLiteral bytes v e = (refl, refl, refl, refl)
literal-opens token.LongLiteral bytes v e = (refl, refl, refl, refl)
literal-opens token.CharLiteral bytes v e = (refl, refl, refl, refl)
literal-opens token.StringLiteral bytes v e = (refl, refl, refl, refl)
literal-opens _ bytes v e = grind arith

few_levels : (op : BinaryOperator) → level_of op < 10
few_levels binary.OrElse = omega arith
few_levels _ = omega arith

middle : (k : TokenKind) → 0 < follow k → follow k < 14 → (is_right_paren k ≡ false) × (is_left_bracket k ≡ false) × (is_identifier k ≡ false)
middle token.RightParen h l = grind arith
middle _ h l = grind arith

-- ---- lists

second-middle : (t : Token) (ts : List Token) → 0 < follow t.kind → follow t.kind < 14 → Second (t ∷ ts)
second-middle t ts h l = let m = middle t.kind h l in (m.0, λ b. cc, m.2)

second-append : (ts more : List Token) → Second ts → Second more → Second (ts ++ more)
second-append [] more s m = m
second-append (t ∷ []) more s m = (s.0, λ b. absurd (s.1 b), s.2)
second-append (t ∷ u ∷ us) more s m = s

pub front-append : (ts more : List Token) → Front ts → Second more → Front (ts ++ more)
front-append [] more f m = absurd f
front-append (t ∷ ts) more f m = (f.0, λ n. second-append ts more (f.1 n) m)

third-front : (ts more : List Token) → Front ts → Third (ts ++ more)
third-front [] more f = absurd f
third-front (t ∷ ts) more f = (opens-no-end t.kind f.0).1

front-other : (t : Token) (ts : List Token) → opens t.kind ≡ true → is_identifier t.kind ≡ false → Front (t ∷ ts)
front-other t ts o i = (o, λ n. cc)

-- ---- productions

second-arguments : {text : List ℕ} {room : ℕ} {ts : List Token} {es : List Expr} → AreArguments text room ts es → Second ts
second-arguments (grammar.no_arguments t u h hu) = rw h (refl, λ b. cc, refl)
second-arguments (grammar.some_arguments t u h d hu) = rw h (refl, λ b. cc, refl)

second-operations : {text : List ℕ} {level room : ℕ} {ts : List Token} {os : List Operation} → AreOperations text level room ts os → Second ts
second-operations grammar.no_operations = tt
second-operations (grammar.one_more_operand {l = l} {r = r} t op is level d ds) =
    second-middle t (l ++ r) (omega (arith, operator_follows t.kind op is)) (omega (arith, operator_follows t.kind op is, few_levels op))
second-operations (grammar.one_more_type t u h hu b ds) = rw h (refl, λ b. cc, refl)

mutual
  pub front-expr : {text : List ℕ} {room : ℕ} {ts : List Token} {e : Expr} → IsExpr text room ts e → Front ts
  front-expr (grammar.conditional d) = front-conditional d
  front-expr (grammar.assignment {l = l} {r = r} t op d may is v) =
      front-append l (t ∷ r) (front-postfix d) (second-middle t r (omega (arith, assignment_follows t.kind op is)) (omega (arith, assignment_follows t.kind op is)))

  pub front-conditional : {text : List ℕ} {room : ℕ} {ts : List Token} {e : Expr} → IsConditional text room ts e → Front ts
  front-conditional (grammar.operators d) = front-level d
  front-conditional (grammar.choice {l = l} {m = m} {r = r} t u d h dy hu dn) = front-append l (t ∷ (m ++ u ∷ r)) (front-level d) (rw h (refl, λ b. cc, refl))

  pub front-level : {text : List ℕ} {level room : ℕ} {ts : List Token} {e : Expr} → IsLevel text level room ts e → Front ts
  front-level (grammar.next_level less d) = front-level d
  front-level (grammar.run {l = l} {r = r} d ds some) = front-append l r (front-level d) (second-operations ds)
  front-level (grammar.single_operand d) = front-unary d

  pub front-unary : {text : List ℕ} {room : ℕ} {ts : List Token} {e : Expr} → IsUnary text room ts e → Front ts
  front-unary (grammar.prefixed {ts = ts} t op is d may) = let o = unary-opens t.kind op is in front-other t ts o.0 o.1
  front-unary (grammar.cast t n u h hn b hu d sign) = rw h (refl, λ i. cc)
  front-unary (grammar.postfix d) = front-postfix d

  pub front-postfix : {text : List ℕ} {room : ℕ} {ts : List Token} {e : Expr} → IsPostfix text room ts e → Front ts
  front-postfix (grammar.unstepped d) = front-path d
  front-postfix (grammar.stepped {l = l} t op d may is) =
      front-append l (t ∷ []) (front-path d) (second-middle t [] (omega (arith, step_follows t.kind op is)) (omega (arith, step_follows t.kind op is)))

  pub front-path : {text : List ℕ} {room : ℕ} {ts : List Token} {e : Expr} → IsPath text room ts e → Front ts
  front-path (grammar.alone d) = front-primary d
  front-path (grammar.with_parts {l = l} {r = r} d ds some free) = front-append l r (front-primary d) (second-parts ds)

  pub second-parts : {text : List ℕ} {room : ℕ} {ts : List Token} {ps : List PathPart} → AreParts text room ts ps → Second ts
  second-parts grammar.no_parts = tt
  second-parts (grammar.one_more_field t n h hn ds) = rw h (refl, λ b. cc, refl)
  second-parts (grammar.one_more_call t n h hn d ds) = rw h (refl, λ b. cc, refl)
  second-parts (grammar.one_more_index {l = l} {r = r} t u h d hu ds) = rw h (refl, λ b. third-front l (u ∷ r) (front-expr d), refl)

  pub front-primary : {text : List ℕ} {room : ℕ} {ts : List Token} {e : Expr} → IsPrimary text room ts e → Front ts
  front-primary {text = text} (grammar.literal t value is) = let o = literal-opens t.kind (spelling text t) value is in front-other t [] o.0 o.1
  front-primary (grammar.this t h) = rw h (refl, λ i. cc)
  front-primary (grammar.parenthesized t u h d hu) = rw h (refl, λ i. cc)
  front-primary (grammar.name n h) = rw h (refl, λ i. tt)
  front-primary (grammar.call n h d) = rw h (refl, λ i. second-arguments d)
  front-primary (grammar.super_call t d n h hd hn ds) = rw h (refl, λ i. cc)
  front-primary (grammar.new_object t n h hn ds) = rw h (refl, λ i. cc)
  front-primary (grammar.new_array t n h hn d some b) = rw h (refl, λ i. cc)
  front-primary (grammar.new_array_of t n u h hn b few d) = rw h (refl, λ i. cc)
