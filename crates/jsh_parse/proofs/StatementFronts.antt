-- What statements begin with, and what tells declarations and expressions from one another.
use Rattle.std.proofs.Common.{◌≡◌, ℕ, ◌<◌, Bool, true, false, ◌&&◌, ◌||◌, List, [], ◌∷◌, ◌++◌, refl, arith, append_assoc}
use Rattle.jsh_tree.specs.declared.token.Token.{Token}
use Rattle.jsh_tree.specs.declared.token.TokenKind.{TokenKind}
use Rattle.jsh_tree.specs.declared.token.TokenKind.TheVariants as token
use Rattle.jsh_tree.specs.declared.statement.Variable.{Variable}
use Rattle.jsh_tree.specs.declared.statement.ForStart.{ForStart}
use Rattle.jsh_parse.specs.Leaves.{AreBrackets, is_primitive, names_type}
use Rattle.jsh_parse.specs.Marks.{is_colon, is_identifier}
use Rattle.jsh_parse.specs.declared.forms.Form.TheVariants as form
use Rattle.jsh_parse.specs.Forms.{form_of, is_semicolon, is_assign, is_else, is_final, is_var, is_catch, begins_label, ends_statements}
use Rattle.jsh_parse.specs.Statements as grammar
use Rattle.jsh_parse.specs.Statements.{IsFinal, IsVariable, IsForStart, IsLabel, AreLabels, IsStmt, IsBlock, AreStatements, AreGroups}
use Rattle.jsh_parse.specs.Reader.{sees, sees_brackets, brackets}
use Rattle.jsh_parse.specs.StatementReader.{final_read, begins_local, is_for_each}
use Rattle.jsh_parse.proofs.Follow.{follow, Stops}
use Rattle.jsh_parse.proofs.Fronts.{opens, Second, Front, front-expr}
use Rattle.jsh_parse.proofs.Steps.{brackets-none, brackets-all, stops-brackets}
use Rattle.jsh_parse.proofs.Pieces.{and-false}
use Rattle.jsh_parse.proofs.Edges.{Opened, named_type, no_pair}

-- ---- kinds

-- the token begins a statement or a declaration: it ends none, and goes on with none
abbrev pub Starts : TokenKind → Type 0
Starts k = (ends_statements k ≡ false) × (is_else k ≡ false) × (is_catch k ≡ false)

-- the token begins no declaration
abbrev pub IsPlain : TokenKind → Type 0
IsPlain k = (is_final k ≡ false) × (is_var k ≡ false) × (is_primitive k ≡ false)

pub opens-statement : (k : TokenKind) → opens k ≡ true → (form_of k ≡ form.Expression) × (is_semicolon k ≡ false)
opens-statement token.Semicolon o = cc
opens-statement _ o = grind arith

pub opens-starts : (k : TokenKind) → opens k ≡ true → Starts k
opens-starts token.RightBrace o = cc
opens-starts _ o = grind arith

pub opens-plain : (k : TokenKind) → opens k ≡ true → IsPlain k
opens-plain token.Final o = cc
opens-plain _ o = grind arith

pub type-word : (k : TokenKind) → names_type k ≡ true → (is_final k ≡ false) × (is_var k ≡ false) × (is_semicolon k ≡ false)
type-word token.Final n = cc
type-word _ n = grind arith

pub type-starts : (k : TokenKind) → names_type k ≡ true → Starts k
type-starts token.RightBrace n = cc
type-starts _ n = grind arith

-- a type begins a declaration, where a name stands behind it
pub type-declares : (k : TokenKind) → names_type k ≡ true → (is_final k || is_var k || is_primitive k || (is_identifier k && true)) ≡ true
type-declares token.Identifier n = refl
type-declares _ n = grind arith

pub end-starts_nothing : (k : TokenKind) → ends_statements k ≡ true → (is_else k ≡ false) × (is_catch k ≡ false)
end-starts_nothing token.Else e = cc
end-starts_nothing _ e = grind arith

pub no_end-no_label : (k : TokenKind) → ends_statements k ≡ false → begins_label k ≡ false
no_end-no_label token.Case e = cc
no_end-no_label _ e = grind arith

stop-no_name : (k : TokenKind) → follow k < 1 → is_identifier k ≡ false
stop-no_name token.Identifier h = grind arith
stop-no_name _ h = grind arith

pub stop-no_assign : (k : TokenKind) → follow k < 1 → is_assign k ≡ false
stop-no_assign token.Assign h = grind arith
stop-no_assign _ h = grind arith

-- ---- lists

-- the tokens begin a statement or a declaration
abbrev pub Begins : List Token → Type 0
Begins [] = ⊥
Begins (t ∷ ts) = Starts t.kind

pub begins-append : (ts more : List Token) → Begins ts → Begins (ts ++ more)
begins-append [] more b = absurd b
begins-append (t ∷ ts) more b = b

pub front-begins : (ts : List Token) → Front ts → Begins ts
front-begins [] f = absurd f
front-begins (t ∷ ts) f = opens-starts t.kind f.0

pub opened-begins : (ts : List Token) → Opened ts → Begins ts
opened-begins [] o = absurd o
opened-begins (t ∷ ts) o = rw o (refl, refl, refl)

-- nothing stands behind the statements, or what ends them
abbrev pub Ended : List Token → Type 0
Ended [] = Unit {0}
Ended (t ∷ ts) = ends_statements t.kind ≡ true

-- what follows doesn't go on with a statement, which ends in an `if` without `else` or doesn't
abbrev pub Clear : Bool → List Token → Type 0
Clear dangling rest = (dangling ≡ true → sees is_else rest ≡ false) × (sees is_catch rest ≡ false)

pub begins-clear : (dangling : Bool) (ts : List Token) → Begins ts → Clear dangling ts
begins-clear dangling [] b = absurd b
begins-clear dangling (t ∷ ts) b = (λ e. b.1, b.2)

pub ended-clear : (dangling : Bool) (ts : List Token) → Ended ts → Clear dangling ts
ended-clear dangling [] e = (λ d. refl, refl)
ended-clear dangling (t ∷ ts) e = let nothing = end-starts_nothing t.kind e in (λ d. nothing.0, nothing.1)

pub stops-no_assign : (rest : List Token) → Stops 1 rest → sees is_assign rest ≡ false
stops-no_assign [] s = refl
stops-no_assign (t ∷ rest) s = stop-no_assign t.kind s

stops-no_name : (rest : List Token) → Stops 1 rest → sees is_identifier rest ≡ false
stops-no_name [] s = refl
stops-no_name (t ∷ rest) s = stop-no_name t.kind s

-- a name has no brackets
pub name-no_brackets : (n : Token) (ts : List Token) → n.kind ≡ token.Identifier → sees_brackets (n ∷ ts) ≡ false
name-no_brackets n ts h = rw h refl

pub read-final : {f : List Token} {is : Bool} → IsFinal f is → (ts : List Token) → sees is_final ts ≡ false → final_read (f ++ ts) ≡ (is, ts)
read-final grammar.not_final [] h = refl
read-final grammar.not_final (t ∷ ts) h = rw h refl
read-final (grammar.final t is) ts h = rw is refl

-- ---- expressions

-- behind a name that an expression begins with stands no other
no-name : (us rest : List Token) → Second us → Stops 1 rest → (brackets (us ++ rest) ≡ (0, us ++ rest)) × (sees is_identifier (us ++ rest) ≡ false)
no-name [] rest s stop = (brackets-none rest (stops-brackets 1 rest (omega arith) stop), stops-no_name rest stop)
no-name (t ∷ us) rest s stop = (brackets-none (t ∷ (us ++ rest)) (no_pair t us rest s.1), s.2)

pub expression-no_local : (ts rest : List Token) → Front ts → Stops 1 rest → begins_local (ts ++ rest) ≡ false
expression-no_local [] rest f stop = absurd f
expression-no_local (n ∷ ts) rest f stop = go (is_identifier n.kind) refl
  where
    go : (b : Bool) → is_identifier n.kind ≡ b → begins_local (n ∷ (ts ++ rest)) ≡ false
    go false e = let plain = opens-plain n.kind f.0 in rw (plain.0, plain.1, plain.2, e) refl
    go true e =
        let plain = opens-plain n.kind f.0 in
        let none = no-name ts rest (f.1 e) stop in
        rw (plain.0, plain.1, plain.2, none.0, none.1) (and-false (is_identifier n.kind))

pub expression-no_each : (ts rest : List Token) → Front ts → Stops 1 rest → is_for_each (ts ++ rest) ≡ false
expression-no_each [] rest f stop = absurd f
expression-no_each (n ∷ ts) rest f stop = go (names_type n.kind) refl
  where
    behind : (us : List Token) → brackets us ≡ (0, us) → sees is_identifier us ≡ false → is_for_each (n ∷ us) ≡ false
    behind [] none free = let plain = opens-plain n.kind f.0 in rw (plain.0, plain.1) (and-false (names_type n.kind))
    behind (u ∷ us) none free = let plain = opens-plain n.kind f.0 in rw (plain.0, plain.1, none, free) (and-false (names_type n.kind))

    go : (b : Bool) → names_type n.kind ≡ b → is_for_each (n ∷ (ts ++ rest)) ≡ false
    go false e = let plain = opens-plain n.kind f.0 in rw (plain.0, plain.1, e) refl
    go true e = let none = no-name ts rest (f.1 (named_type n.kind f.0 e).0) stop in behind (ts ++ rest) none.0 none.1

-- ---- declarations

pub variable-begins : {text : List ℕ} {room : ℕ} {ts : List Token} {v : Variable} → IsVariable text room ts v → Begins ts
variable-begins (grammar.inferred v n t hv hn ht d) = rw hv (refl, refl, refl)
variable-begins (grammar.bare n (grammar.named m hm pairs) hn) = type-starts m.kind hm
variable-begins (grammar.initialized n t (grammar.named m hm pairs) hn ht d) = type-starts m.kind hm

pub variable-no_final : {text : List ℕ} {room : ℕ} {ts : List Token} {v : Variable} → IsVariable text room ts v → (more : List Token) → sees is_final (ts ++ more) ≡ false
variable-no_final (grammar.inferred v n t hv hn ht d) more = rw hv refl
variable-no_final (grammar.bare n (grammar.named m hm pairs) hn) more = (type-word m.kind hm).0
variable-no_final (grammar.initialized n t (grammar.named m hm pairs) hn ht d) more = (type-word m.kind hm).0

pub variable-no_semicolon : {text : List ℕ} {room : ℕ} {ts : List Token} {v : Variable} → IsVariable text room ts v → (more : List Token) → sees is_semicolon (ts ++ more) ≡ false
variable-no_semicolon (grammar.inferred v n t hv hn ht d) more = rw hv refl
variable-no_semicolon (grammar.bare n (grammar.named m hm pairs) hn) more = (type-word m.kind hm).2
variable-no_semicolon (grammar.initialized n t (grammar.named m hm pairs) hn ht d) more = (type-word m.kind hm).2

pub declaration-begins : {text : List ℕ} {room : ℕ} {f ts : List Token} {is : Bool} {v : Variable} → IsFinal f is → IsVariable text room ts v →
    (more : List Token) → Begins (f ++ (ts ++ more))
declaration-begins {ts = ts} grammar.not_final d more = begins-append ts more (variable-begins d)
declaration-begins (grammar.final t h) d more = rw h (refl, refl, refl)

pub declaration-no_semicolon : {text : List ℕ} {room : ℕ} {f ts : List Token} {is : Bool} {v : Variable} → IsFinal f is → IsVariable text room ts v →
    (more : List Token) → sees is_semicolon (f ++ (ts ++ more)) ≡ false
declaration-no_semicolon grammar.not_final d more = variable-no_semicolon d more
declaration-no_semicolon (grammar.final t h) d more = rw h refl

variable-local : {text : List ℕ} {room : ℕ} {ts : List Token} {v : Variable} → IsVariable text room ts v → (more : List Token) → begins_local (ts ++ more) ≡ true
variable-local (grammar.inferred v n t hv hn ht d) more = rw hv refl
variable-local (grammar.bare n (grammar.named {b = b} m hm pairs) hn) more =
    rw (append_assoc b (n ∷ []) more, brackets-all pairs (n ∷ more) (name-no_brackets n more hn), hn) (type-declares m.kind hm)
variable-local (grammar.initialized {r = r} n t (grammar.named {b = b} m hm pairs) hn ht d) more =
    rw (append_assoc b (n ∷ t ∷ r) more, brackets-all pairs (n ∷ t ∷ (r ++ more)) (name-no_brackets n (t ∷ (r ++ more)) hn), hn) (type-declares m.kind hm)

pub declaration-local : {text : List ℕ} {room : ℕ} {f ts : List Token} {is : Bool} {v : Variable} → IsFinal f is → IsVariable text room ts v →
    (more : List Token) → begins_local (f ++ (ts ++ more)) ≡ true
declaration-local grammar.not_final d more = variable-local d more
declaration-local (grammar.final t h) d more = rw h refl

-- ---- what a `for` has between its parentheses

-- a name and a colon stand behind a type
pub each-typed : {f b : List Token} {is : Bool} {dims : ℕ} (m n u : Token) → IsFinal f is → names_type m.kind ≡ true → AreBrackets b dims →
    n.kind ≡ token.Identifier → u.kind ≡ token.Colon → (more : List Token) → is_for_each (f ++ m ∷ (b ++ n ∷ u ∷ more)) ≡ true
each-typed {b = b} m n u modifier hm pairs hn hu more =
    let word = type-word m.kind hm in
    rw (read-final modifier (m ∷ (b ++ n ∷ u ∷ more)) word.0, word.1, hm, brackets-all pairs (n ∷ u ∷ more) (name-no_brackets n (u ∷ more) hn), hn, hu) refl

pub each-inferred : {f : List Token} {is : Bool} (v n u : Token) → IsFinal f is → v.kind ≡ token.Var →
    n.kind ≡ token.Identifier → u.kind ≡ token.Colon → (more : List Token) → is_for_each (f ++ v ∷ n ∷ u ∷ more) ≡ true
each-inferred v n u modifier hv hn hu more =
    let none : sees is_final (v ∷ n ∷ u ∷ more) ≡ false = rw hv refl in
    rw (read-final modifier (v ∷ n ∷ u ∷ more) none, hv, hn, hu) refl

semicolon-no_colon : (u : Token) (rest : List Token) → u.kind ≡ token.Semicolon → sees is_colon (u ∷ rest) ≡ false
semicolon-no_colon u rest h = rw h refl

declaration-no_each : {text : List ℕ} {room : ℕ} {f ts : List Token} {is : Bool} {v : Variable} → IsFinal f is → IsVariable text room ts v →
    (u : Token) → u.kind ≡ token.Semicolon → (rest : List Token) → is_for_each (f ++ (ts ++ u ∷ rest)) ≡ false
declaration-no_each modifier (grammar.inferred {l = l} v n t hv hn ht d) u hu rest =
    let none : sees is_final (v ∷ n ∷ t ∷ (l ++ u ∷ rest)) ≡ false = rw hv refl in
    rw (read-final modifier (v ∷ n ∷ t ∷ (l ++ u ∷ rest)) none, hv, hn, ht) refl
declaration-no_each modifier (grammar.bare n (grammar.named {b = b} m hm pairs) hn) u hu rest =
    let word = type-word m.kind hm in
    rw (
      append_assoc b (n ∷ []) (u ∷ rest),
      read-final modifier (m ∷ (b ++ n ∷ u ∷ rest)) word.0,
      word.1,
      hm,
      brackets-all pairs (n ∷ u ∷ rest) (name-no_brackets n (u ∷ rest) hn),
      hn,
      hu,
    ) refl
declaration-no_each modifier (grammar.initialized {r = r} n t (grammar.named {b = b} m hm pairs) hn ht d) u hu rest =
    let word = type-word m.kind hm in
    rw (
      append_assoc b (n ∷ t ∷ r) (u ∷ rest),
      read-final modifier (m ∷ (b ++ n ∷ t ∷ (r ++ u ∷ rest))) word.0,
      word.1,
      hm,
      brackets-all pairs (n ∷ t ∷ (r ++ u ∷ rest)) (name-no_brackets n (t ∷ (r ++ u ∷ rest)) hn),
      hn,
      ht,
    ) refl

pub start-no_each : {text : List ℕ} {room : ℕ} {ts : List Token} {s : ForStart} → IsForStart text room ts s → (u : Token) → u.kind ≡ token.Semicolon →
    (rest : List Token) → is_for_each (ts ++ u ∷ rest) ≡ false
start-no_each grammar.nothing u hu rest = rw hu refl
start-no_each (grammar.local {f = f} {l = l} modifier d) u hu rest = rw (append_assoc f l (u ∷ rest)) (declaration-no_each modifier d u hu rest)
start-no_each (grammar.expression {ts = ts} d may) u hu rest = expression-no_each ts (u ∷ rest) (front-expr d) (rw hu (omega arith))
