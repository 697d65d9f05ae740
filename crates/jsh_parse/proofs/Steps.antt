-- The steps of reading operators: each production is read, where its parts are.
use Rattle.std.proofs.Common.{◌≡◌, ◌≢◌, ℕ, zero, suc, ◌+◌, ◌-◌, ◌<◌, Bool, true, false, not, ◌&&◌, if◌then◌else◌, List, [], ◌∷◌, ◌++◌, Option, Some, None, length, refl, sym, ◌∙◌, arith, append_assoc, length-append, eq-eqb}
use Rattle.jsh_tree.specs.declared.token.Token.{Token}
use Rattle.jsh_tree.specs.declared.token.Span.{Span}
use Rattle.jsh_tree.specs.declared.token.TokenKind.{TokenKind}
use Rattle.jsh_tree.specs.declared.token.TokenKind.TheVariants as token
use Rattle.jsh_tree.specs.declared.expression.BinaryOperator.{BinaryOperator}
use Rattle.jsh_tree.specs.declared.expression.UnaryOperator.{UnaryOperator}
use Rattle.jsh_tree.specs.declared.expression.PostfixOperator.{PostfixOperator}
use Rattle.jsh_tree.specs.declared.expression.Expr.{Expr}
use Rattle.jsh_tree.specs.declared.expression.Expr.TheVariants as tree
use Rattle.jsh_tree.specs.declared.expression.Operation.{Operation}
use Rattle.jsh_tree.specs.declared.expression.Operation.TheVariants as operation
use Rattle.jsh_parse.specs.Operators.{binary_operator, level_of, comparison_level, operand_level, assign_operator, unary_operator, postfix_operator}
use Rattle.jsh_parse.specs.Leaves.{AreBrackets, none, one_more, is_primitive, names_type, type_of, is_step, is_target, begins_with_sign}
use Rattle.jsh_parse.specs.Marks.{is_left_paren, begins_operand}
use Rattle.jsh_parse.specs.Reader.{Read, sees, sees_brackets, brackets, is_cast, Inner, path, postfix_read, unary_read, operations, level_read, conditional_read, expr_read}
use Rattle.jsh_parse.proofs.Fronts.{opens, Front}
use Rattle.jsh_parse.proofs.Follow.{Stops, stops-less, no_assignment, assignment_follows, no_question, no_step, step_follows, no_part, no_operator, no_instanceof, operator_no_instanceof}

-- the tokens are read, where something follows that goes on with less than this
abbrev pub Reads : {A : Type 0} → (List Token → Read A) → ℕ → List Token → A → Type 0
Reads read n ts a = (rest : List Token) → Stops n rest → read (ts ++ rest) ≡ Some (a, rest)

pub read-conditional : (text : List ℕ) (inner : Option Inner) (ts : List Token) (e : Expr) →
    Reads (conditional_read text inner) 2 ts e → Reads (expr_read text inner) 1 ts e
read-conditional text inner ts e c [] s = rw (c [] tt) refl
read-conditional text inner ts e c (t ∷ rest) s = rw (c (t ∷ rest) (omega arith), no_assignment t.kind s) refl

pub read-assignment : (text : List ℕ) (i : Inner) (l r : List Token) (target value : Expr) (t : Token) (op : Option BinaryOperator) →
    Reads (conditional_read text (Some i)) 2 l target → is_target target ≡ true → assign_operator t.kind ≡ Some op → Reads i.expr 1 r value →
    Reads (expr_read text (Some i)) 1 (l ++ t ∷ r) (tree.Assign target op value)
read-assignment text i l r target value t op c may is v rest s =
    let first = c (t ∷ (r ++ rest)) (omega (arith, assignment_follows t.kind op is)) in
    rw (append_assoc l (t ∷ r) rest, first, is, may, v rest s) refl

-- ---- choices

pub read-operators : (text : List ℕ) (inner : Option Inner) (ts : List Token) (e : Expr) →
    Reads (level_read operand_level text inner) 3 ts e → Reads (conditional_read text inner) 2 ts e
read-operators text inner ts e c [] s = rw (c [] tt) refl
read-operators text inner ts e c (t ∷ rest) s = rw (c (t ∷ rest) (omega arith), no_question t.kind s) refl

pub read-choice : (text : List ℕ) (i : Inner) (l m r : List Token) (condition yes_tree no_tree : Expr) (t u : Token) →
    Reads (level_read operand_level text (Some i)) 3 l condition → t.kind ≡ token.Question → Reads i.expr 1 m yes_tree → u.kind ≡ token.Colon →
    Reads i.conditional 2 r no_tree → Reads (conditional_read text (Some i)) 2 (l ++ t ∷ (m ++ u ∷ r)) (tree.Conditional condition yes_tree no_tree)
read-choice text i l m r condition yes_tree no_tree t u c h y hu n rest s =
    let first = c (t ∷ (m ++ (u ∷ (r ++ rest)))) (rw h (omega arith)) in
    let second = y (u ∷ (r ++ rest)) (rw hu (omega arith)) in
    rw (append_assoc l (t ∷ (m ++ u ∷ r)) rest, append_assoc m (u ∷ r) rest, first, h, second, hu, n rest s) refl

-- ---- levels

pub no-operations : (most : ℕ) (text : List ℕ) (level : ℕ) (operand : List Token → Read Expr) (rest : List Token) → Stops (3 + level) rest →
    operations (suc most) text level operand rest ≡ Some ([], rest)
unfolding operations
no-operations most text level operand [] s = refl
no-operations most text level operand (t ∷ rest) s = go (binary_operator t.kind) refl
  where
    go : (o : Option BinaryOperator) → binary_operator t.kind ≡ o → operations (suc most) text level operand (t ∷ rest) ≡ Some ([], t ∷ rest)
    go None is = rw (no_instanceof t.kind level s, is) refl
    go (Some op) is = rw (no_instanceof t.kind level s, is, no_operator t.kind level op s is) refl

-- all of these tokens are read by so many turns of a loop or more
abbrev pub ReadsAll : {A : Type 0} → (ℕ → List Token → Read A) → ℕ → List Token → A → Type 0
ReadsAll read n ts a = (most : ℕ) → length ts < most → Reads (read most) n ts a

pub read-last_level : (text : List ℕ) (inner : Option Inner) (height : ℕ) (ts : List Token) (e : Expr) → height + operand_level ≡ operand_level →
    Reads (unary_read text inner) 13 ts e → Reads (level_read height text inner) 13 ts e
unfolding level_read
read-last_level text inner zero ts e h u = u
read-last_level text inner (suc height) ts e h u = absurd (omega arith)

read-level_above : (text : List ℕ) (inner : Option Inner) (height level : ℕ) (ts : List Token) (e : Expr) → height + suc level ≡ operand_level →
    Reads (level_read height text inner) (3 + suc level) ts e → Reads (level_read (suc height) text inner) (3 + level) ts e
unfolding level_read
read-level_above text inner height level ts e h u rest s =
    let first = u rest (stops-less (3 + level) (3 + suc level) rest (omega arith) s) in
    let same : 9 - height ≡ level = omega arith in
    rw (first, same, no-operations (length rest) text level (level_read height text inner) rest s) refl

pub read-next_level : (text : List ℕ) (inner : Option Inner) (height level : ℕ) (ts : List Token) (e : Expr) → height + level ≡ operand_level → level < operand_level →
    ((under : ℕ) → under + suc level ≡ operand_level → Reads (level_read under text inner) (3 + suc level) ts e) →
    Reads (level_read height text inner) (3 + level) ts e
read-next_level text inner zero level ts e h less u = absurd (omega arith)
read-next_level text inner (suc height) level ts e h less u = read-level_above text inner height level ts e (omega arith) (u height (omega arith))

-- an operand alone is of every level
read-level : (text : List ℕ) (inner : Option Inner) (height level : ℕ) (ts : List Token) (e : Expr) → height + level ≡ operand_level →
    Reads (unary_read text inner) 13 ts e → Reads (level_read height text inner) (3 + level) ts e
unfolding level_read
read-level text inner zero level ts e h u = λ rest s. u rest (stops-less (3 + level) 13 rest (omega arith) s)
read-level text inner (suc height) level ts e h u = read-level_above text inner height level ts e (omega arith) (read-level text inner height (suc level) ts e (omega arith) u)

pub read-run : (text : List ℕ) (inner : Option Inner) (height level : ℕ) (l r : List Token) (first : Expr) (os : List Operation) →
    height + level ≡ operand_level → level < operand_level →
    ((under : ℕ) → under + suc level ≡ operand_level → Reads (level_read under text inner) (3 + suc level) l first) →
    ((under : ℕ) → under + suc level ≡ operand_level → ReadsAll (λ most. operations most text level (level_read under text inner)) (3 + level) r os) →
    ((rest : List Token) → Stops (3 + level) rest → Stops (3 + suc level) (r ++ rest)) → os ≢ [] →
    Reads (level_read height text inner) (3 + level) (l ++ r) (tree.Binary first os)
unfolding level_read
read-run text inner zero level l r first os h less u v stop some rest s = absurd (omega arith)
read-run text inner (suc height) level l r first [] h less u v stop some rest s = absurd (some refl)
read-run text inner (suc height) level l r first (o ∷ os) h less u v stop some rest s =
    let front = u height (omega arith) (r ++ rest) (stop rest s) in
    let same : 9 - height ≡ level = omega arith in
    let others = v height (omega arith) (suc (length (r ++ rest))) (omega (arith, length-append r rest)) rest s in
    rw (append_assoc l r rest, front, same, others) refl

-- ---- operations

pub read-no_operations : (text : List ℕ) (level : ℕ) (operand : List Token → Read Expr) → ReadsAll (λ most. operations most text level operand) (3 + level) [] []
read-no_operations text level operand zero h rest s = absurd (omega arith)
read-no_operations text level operand (suc most) h rest s = no-operations most text level operand rest s

pub read-operand : (text : List ℕ) (level : ℕ) (operand : List Token → Read Expr) (l r : List Token) (right : Expr) (os : List Operation) (t : Token) (op : BinaryOperator) →
    binary_operator t.kind ≡ Some op → level_of op ≡ level → Reads operand (3 + suc level) l right →
    ReadsAll (λ most. operations most text level operand) (3 + level) r os →
    ((rest : List Token) → Stops (3 + level) rest → Stops (3 + suc level) (r ++ rest)) →
    ReadsAll (λ most. operations most text level operand) (3 + level) (t ∷ (l ++ r)) (operation.Operator op right ∷ os)
unfolding operations
read-operand text level operand l r right os t op is same d ds stop zero h rest s = absurd (omega arith)
read-operand text level operand l r right os t op is same d ds stop (suc most) h rest s =
    let others = ds most (omega (arith, length-append l r)) rest s in
    rw (operator_no_instanceof t.kind op is, is, eq-eqb (level_of op) level same, append_assoc l r rest, d (r ++ rest) (stop rest s), others) refl

pub brackets-none : (ts : List Token) → sees_brackets ts ≡ false → brackets ts ≡ (0, ts)
brackets-none [] h = refl
brackets-none (t ∷ []) h = refl
brackets-none (t ∷ u ∷ ts) h = rw h refl

pub brackets-all : {b : List Token} {dims : ℕ} → AreBrackets b dims → (rest : List Token) → sees_brackets rest ≡ false → brackets (b ++ rest) ≡ (dims, rest)
brackets-all none rest h = brackets-none rest h
brackets-all (one_more t u ht hu more) rest h = rw (ht, hu, brackets-all more rest h) refl

pub stops-brackets : (n : ℕ) (ts : List Token) → n < 15 → Stops n ts → sees_brackets ts ≡ false
stops-brackets n [] less s = refl
stops-brackets n (t ∷ ts) less s = let free = no_part t.kind (omega arith) in rw free.1 refl

pub read-type : (text : List ℕ) (operand : List Token → Read Expr) (b r : List Token) (os : List Operation) (dims : ℕ) (t u : Token) →
    t.kind ≡ token.Instanceof → names_type u.kind ≡ true → AreBrackets b dims →
    ReadsAll (λ most. operations most text comparison_level operand) (3 + comparison_level) r os →
    ((rest : List Token) → Stops (3 + comparison_level) rest → Stops (3 + suc comparison_level) (r ++ rest)) →
    ReadsAll (λ most. operations most text comparison_level operand) (3 + comparison_level) (t ∷ u ∷ (b ++ r)) (operation.InstanceOf (type_of text u dims) ∷ os)
unfolding operations
read-type text operand b r os dims t u ht hu pairs ds stop zero h rest s = absurd (omega arith)
read-type text operand b r os dims t u ht hu pairs ds stop (suc most) h rest s =
    let others = ds most (omega (arith, length-append b r)) rest s in
    let behind = brackets-all pairs (r ++ rest) (stops-brackets 10 (r ++ rest) (omega arith) (stop rest s)) in
    rw (ht, hu, append_assoc b r rest, behind, others) refl

-- ---- operands

pub read-prefixed : (text : List ℕ) (i : Inner) (ts : List Token) (e : Expr) (t : Token) (op : UnaryOperator) →
    unary_operator t.kind ≡ Some op → Reads i.unary 13 ts e → (is_step op ≡ true → is_target e ≡ true) →
    Reads (unary_read text (Some i)) 13 (t ∷ ts) (tree.Unary t.span op e)
read-prefixed text i ts e t op is d may rest s = rw (is, d rest s, allowed (is_step op) (is_target e) may) refl
  where
    allowed : (step target : Bool) → (step ≡ true → target ≡ true) → (step && not target) ≡ false
    allowed false target may = refl
    allowed true true may = refl
    allowed true false may = sym (may refl)

-- what has no sign in front begins an operand
unsigned : (k : TokenKind) (span : Span) (ts : List Token) → opens k ≡ true → begins_with_sign (record { kind = k; span = span } ∷ ts) ≡ false → begins_operand k ≡ true
unsigned token.Plus span ts o h = cc
unsigned token.Minus span ts o h = cc
unsigned token.PlusPlus span ts o h = cc
unsigned token.MinusMinus span ts o h = cc
unsigned _ span ts o h = o

pub operand-behind : (r rest : List Token) (n : TokenKind) → Front r → (is_primitive n ≡ false → begins_with_sign r ≡ false) →
    (if is_primitive n then true else sees begins_operand (r ++ rest)) ≡ true
operand-behind [] rest n f sign = absurd f
operand-behind (t ∷ r) rest n f sign = go (is_primitive n) sign
  where
    go : (p : Bool) → (p ≡ false → begins_with_sign (t ∷ r) ≡ false) → (if p then true else begins_operand t.kind) ≡ true
    go true sign = refl
    go false sign = unsigned t.kind t.span r f.0 (sign refl)

pub closing-brackets : (u : Token) (ts : List Token) → u.kind ≡ token.RightParen → sees_brackets (u ∷ ts) ≡ false
closing-brackets u ts h = rw h refl

pub read-cast : (text : List ℕ) (i : Inner) (b r : List Token) (dims : ℕ) (e : Expr) (t n u : Token) →
    t.kind ≡ token.LeftParen → names_type n.kind ≡ true → AreBrackets b dims → u.kind ≡ token.RightParen → Reads i.unary 13 r e → Front r →
    (is_primitive n.kind ≡ false → begins_with_sign r ≡ false) →
    Reads (unary_read text (Some i)) 13 (t ∷ n ∷ (b ++ u ∷ r)) (tree.Cast t.span (type_of text n dims) e)
read-cast text i b r dims e t n u ht hn pairs hu d f sign rest s =
    let behind = brackets-all pairs (u ∷ (r ++ rest)) (closing-brackets u (r ++ rest) hu) in
    rw (append_assoc b (u ∷ r) rest, ht, hn, behind, hu, operand-behind r rest n.kind f sign, d rest s) refl

-- no operator stands in front, and no cast
abbrev pub Plain : List Token → Type 0
Plain [] = ⊥
Plain (t ∷ ts) = (unary_operator t.kind ≡ None) × ((is_left_paren t.kind && is_cast ts) ≡ false)

plain-read : (text : List ℕ) (inner : Option Inner) (ts : List Token) → Plain ts → unary_read text inner ts ≡ postfix_read text inner ts
plain-read text inner [] p = absurd p
plain-read text inner (t ∷ ts) p = rw (p.0, p.1) refl

pub read-postfix : (text : List ℕ) (inner : Option Inner) (ts : List Token) (e : Expr) → ((rest : List Token) → Stops 13 rest → Plain (ts ++ rest)) →
    Reads (postfix_read text inner) 13 ts e → Reads (unary_read text inner) 13 ts e
read-postfix text inner ts e p d rest s = plain-read text inner (ts ++ rest) (p rest s) ∙ d rest s

-- ---- steps behind an operand

pub read-unstepped : (text : List ℕ) (inner : Option Inner) (ts : List Token) (e : Expr) → Reads (path text inner) 14 ts e → Reads (postfix_read text inner) 13 ts e
read-unstepped text inner ts e d [] s = rw (d [] tt) refl
read-unstepped text inner ts e d (t ∷ rest) s = rw (d (t ∷ rest) (omega arith), no_step t.kind s) refl

pub read-stepped : (text : List ℕ) (inner : Option Inner) (l : List Token) (e : Expr) (t : Token) (op : PostfixOperator) → Reads (path text inner) 14 l e →
    is_target e ≡ true → postfix_operator t.kind ≡ Some op → Reads (postfix_read text inner) 13 (l ++ t ∷ []) (tree.Postfix e op)
read-stepped text inner l e t op d may is rest s =
    let first = d (t ∷ rest) (omega (arith, step_follows t.kind op is)) in
    rw (append_assoc l (t ∷ []) rest, first, is, may) refl

-- an operand, where it is no cast, is a whole condition
pub read-target : (text : List ℕ) (inner : Option Inner) (ts : List Token) (e : Expr) → ((rest : List Token) → Stops 13 rest → Plain (ts ++ rest)) →
    Reads (postfix_read text inner) 13 ts e → Reads (conditional_read text inner) 2 ts e
read-target text inner ts e p d = read-operators text inner ts e (read-level text inner operand_level 0 ts e refl (read-postfix text inner ts e p d))
