-- What stands at the edges of a production, as the steps of reading ask it.
use Rattle.std.proofs.Common.{◌≡◌, ◌≢◌, ℕ, suc, ◌+◌, ◌≤◌, Bool, true, false, ◌&&◌, List, [], ◌∷◌, ◌++◌, refl, arith, append_assoc}
use Rattle.jsh_tree.specs.declared.token.Token.{Token}
use Rattle.jsh_tree.specs.declared.token.TokenKind.{TokenKind}
use Rattle.jsh_tree.specs.declared.token.TokenKind.TheVariants as token
use Rattle.jsh_tree.specs.declared.expression.Expr.{Expr}
use Rattle.jsh_tree.specs.declared.expression.Expr.TheViews.{outs-Index}
use Rattle.jsh_tree.specs.declared.expression.Operation.{Operation}
use Rattle.jsh_tree.specs.declared.expression.PathPart.{PathPart}
use Rattle.jsh_tree.specs.declared.expression.Initial.{Initial}
use Rattle.jsh_parse.specs.Operators.{operand_level}
use Rattle.jsh_parse.specs.Leaves.{spelling, is_primitive, names_type, is_open_creation, begins_with_index}
use Rattle.jsh_parse.specs.Marks.{is_left_paren, is_left_bracket, is_right_bracket, is_identifier, begins_operand}
use Rattle.jsh_parse.specs.Grammar as grammar
use Rattle.jsh_parse.specs.Grammar.{IsExpr, IsLevel, AreOperations, IsPostfix, IsPath, AreParts, IsPrimary, AreSizes, AreArguments, AreListed, AreBraces, AreInitials, IsInitial}
use Rattle.jsh_parse.specs.Reader.{sees, sees_brackets, is_cast}
use Rattle.jsh_parse.proofs.Follow.{Stops, stops-less, operator_follows, step_follows, no_part}
use Rattle.jsh_parse.proofs.Fronts.{opens, Third, Second, Front, opens-no-end, literal-opens, front-append, front-expr}
use Rattle.jsh_parse.proofs.Steps.{Plain, brackets-none, closing-brackets}
use Rattle.jsh_parse.proofs.Pieces.{Behind, Unclosed, and-false, stops-behind, no_empty_brackets}

-- ---- operators

pub operations-stop : {text : List ℕ} {level room : ℕ} {ts : List Token} {os : List Operation} → AreOperations text level room ts os →
    (rest : List Token) → Stops (3 + level) rest → Stops (3 + suc level) (ts ++ rest)
operations-stop {level = level} grammar.no_operations rest s = stops-less (3 + level) (3 + suc level) rest (omega arith) s
operations-stop (grammar.one_more_operand t op is level d ds) rest s = omega (arith, operator_follows t.kind op is)
operations-stop (grammar.one_more_type t u h hu b ds) rest s = rw h (omega arith)

pub level-bound : {text : List ℕ} {level room : ℕ} {ts : List Token} {e : Expr} → IsLevel text level room ts e → level ≤ operand_level
level-bound (grammar.next_level less d) = omega arith
level-bound (grammar.run d ds some) = let under = level-bound d in omega arith
level-bound (grammar.single_operand d) = omega arith

-- ---- members and indices

pub parts-free : {text : List ℕ} {room : ℕ} {ts : List Token} {ps : List PathPart} → AreParts text room ts ps → (rest : List Token) → Stops 14 rest →
    sees begins_operand (ts ++ rest) ≡ false
parts-free grammar.no_parts [] s = refl
parts-free grammar.no_parts (t ∷ rest) s = (no_part t.kind s).2
parts-free (grammar.one_more_field t n h hn ds) rest s = rw h refl
parts-free (grammar.one_more_call t n h hn d ds) rest s = rw h refl
parts-free (grammar.one_more_index t u h d hu ds) rest s = rw h refl

pub parts-behind : {text : List ℕ} {room : ℕ} {ts : List Token} {ps : List PathPart} → AreParts text room ts ps → (e : Expr) →
    (is_open_creation e && begins_with_index ps) ≡ false → (rest : List Token) → Stops 14 rest → Behind e (ts ++ rest)
parts-behind grammar.no_parts e free rest s = stops-behind e rest s
parts-behind (grammar.one_more_field t n h hn ds) e free rest s = rw h (refl, refl, and-false (is_open_creation e))
parts-behind (grammar.one_more_call t n h hn d ds) e free rest s = rw h (refl, refl, and-false (is_open_creation e))
parts-behind (grammar.one_more_index {l = l} {r = r} {inner = inner} t u h d hu ds) e free rest s =
    let none = no_empty_brackets t l (u ∷ (r ++ rest)) (front-expr d) in
    let closed = rw (outs-Index inner) at free in
    (rw h refl, rw (append_assoc l (u ∷ r) rest) none, rw h closed)

-- ---- arguments and sizes

pub arguments-front : {text : List ℕ} {room : ℕ} {ts : List Token} {es : List Expr} → AreArguments text room ts es → (more : List Token) → sees is_left_paren (ts ++ more) ≡ true
arguments-front (grammar.no_arguments t u h hu) more = rw h refl
arguments-front (grammar.some_arguments t u h d hu) more = rw h refl

pub sizes-front : {text : List ℕ} {room : ℕ} {ts : List Token} {es : List Expr} → AreSizes text room ts es → es ≢ [] → (more : List Token) →
    (sees is_left_paren (ts ++ more) ≡ false) × (sees_brackets (ts ++ more) ≡ false)
sizes-front grammar.no_sizes some more = absurd (some refl)
sizes-front (grammar.one_more_size {l = l} {r = r} t u h d hu ds) some more =
    (rw h refl, rw (append_assoc l (u ∷ r) more) (no_empty_brackets t l (u ∷ (r ++ more)) (front-expr d)))

pub listed-front : {text : List ℕ} {room : ℕ} {ts : List Token} {es : List Expr} → AreListed text room ts es → Front ts
listed-front (grammar.last_listed d) = front-expr d
listed-front (grammar.one_more_listed {l = l} {r = r} t d h ds) = front-append l (t ∷ r) (front-expr d) (rw h (refl, λ b. cc, refl))

-- ---- array initializers

-- an opening brace stands first
abbrev pub Opened : List Token → Type 0
Opened [] = ⊥
Opened (t ∷ ts) = t.kind ≡ token.LeftBrace

pub braces-opened : {text : List ℕ} {room : ℕ} {ts : List Token} {values : List Initial} → AreBraces text room ts values → Opened ts
braces-opened (grammar.no_values t u h hu) = h
braces-opened (grammar.some_values t u h d hu) = h

unclosed-append : (ts more : List Token) → Unclosed ts → Unclosed (ts ++ more)
unclosed-append [] more f = absurd f
unclosed-append (t ∷ ts) more f = f

front-unclosed : (ts : List Token) → Front ts → Unclosed ts
front-unclosed [] f = f
front-unclosed (t ∷ ts) f = (opens-no-end t.kind f.0).2

initial-unclosed : {text : List ℕ} {room : ℕ} {ts : List Token} {value : Initial} → IsInitial text room ts value → Unclosed ts
initial-unclosed (grammar.initial_value {ts = ts} d) = front-unclosed ts (front-expr d)
initial-unclosed (grammar.initial_array t d) = rw (braces-opened d) refl

pub initials-unclosed : {text : List ℕ} {room : ℕ} {ts : List Token} {values : List Initial} → AreInitials text room ts values → Unclosed ts
initials-unclosed (grammar.last_initial d) = initial-unclosed d
initials-unclosed (grammar.last_with_comma {l = l} t d h) = unclosed-append l (t ∷ []) (initial-unclosed d)
initials-unclosed (grammar.one_more_initial {l = l} {r = r} t d h ds) = unclosed-append l (t ∷ r) (initial-unclosed d)

-- ---- no cast

pub named_type : (k : TokenKind) → opens k ≡ true → names_type k ≡ true → (is_identifier k ≡ true) × (is_primitive k ≡ false)
named_type token.Identifier o n = (refl, refl)
named_type _ o n = grind arith

pub no_pair : (t : Token) (ts more : List Token) → (is_left_bracket t.kind ≡ true → Third ts) → sees_brackets (t ∷ (ts ++ more)) ≡ false
no_pair t ts more third = go (is_left_bracket t.kind) refl
  where
    inside : (us : List Token) → Third us → sees is_right_bracket (us ++ more) ≡ false
    inside [] f = absurd f
    inside (u ∷ us) f = f

    go : (b : Bool) → is_left_bracket t.kind ≡ b → sees_brackets (t ∷ (ts ++ more)) ≡ false
    go false e = rw e refl
    go true e = rw (inside ts (third e)) (and-false (is_left_bracket t.kind))

-- what stands in parentheses is no cast to a type, where no operand stands behind
no_cast : (ts rest : List Token) (u : Token) → Front ts → u.kind ≡ token.RightParen → sees begins_operand rest ≡ false → is_cast (ts ++ u ∷ rest) ≡ false
no_cast [] rest u f hu free = absurd f
no_cast (n ∷ ts) rest u f hu free = go (names_type n.kind) refl
  where
    behind_name : (us : List Token) → Second us → is_primitive n.kind ≡ false → is_cast (n ∷ (us ++ u ∷ rest)) ≡ false
    behind_name [] s p = rw (brackets-none (u ∷ rest) (closing-brackets u rest hu), p, hu, free) (and-false (names_type n.kind))
    behind_name (t ∷ us) s p = rw (brackets-none (t ∷ (us ++ u ∷ rest)) (no_pair t us (u ∷ rest) s.1), s.0) (and-false (names_type n.kind))

    go : (b : Bool) → names_type n.kind ≡ b → is_cast (n ∷ (ts ++ u ∷ rest)) ≡ false
    go false e = rw e refl
    go true e = let named = named_type n.kind f.0 e in behind_name ts (f.1 named.0) named.1

plain-primary : {text : List ℕ} {room : ℕ} {ts : List Token} {e : Expr} → IsPrimary text room ts e → (rest : List Token) → sees begins_operand rest ≡ false → Plain (ts ++ rest)
plain-primary {text = text} (grammar.literal t value is) rest free = let o = literal-opens t.kind (spelling text t) value is in (o.2, rw o.3 refl)
plain-primary (grammar.this t h) rest free = rw h (refl, refl)
plain-primary (grammar.parenthesized {l = l} t u h d hu) rest free =
    (rw h refl, rw (append_assoc l (u ∷ []) rest, no_cast l rest u (front-expr d) hu free) (and-false (is_left_paren t.kind)))
plain-primary (grammar.name n h) rest free = rw h (refl, refl)
plain-primary (grammar.call n h d) rest free = rw h (refl, refl)
plain-primary (grammar.super_call t d n h hd hn ds) rest free = rw h (refl, refl)
plain-primary (grammar.new_object t n h hn ds) rest free = rw h (refl, refl)
plain-primary (grammar.new_array t n h hn d some b) rest free = rw h (refl, refl)
plain-primary (grammar.new_array_of t n u h hn b few d) rest free = rw h (refl, refl)

plain-path : {text : List ℕ} {room : ℕ} {ts : List Token} {e : Expr} → IsPath text room ts e → (rest : List Token) → Stops 14 rest → Plain (ts ++ rest)
plain-path (grammar.alone {e = e} d) rest s = plain-primary d rest (stops-behind e rest s).0
plain-path (grammar.with_parts {l = l} {r = r} d ds some free) rest s = rw (append_assoc l r rest) (plain-primary d (r ++ rest) (parts-free ds rest s))

pub plain-postfix : {text : List ℕ} {room : ℕ} {ts : List Token} {e : Expr} → IsPostfix text room ts e → (rest : List Token) → Stops 13 rest → Plain (ts ++ rest)
plain-postfix (grammar.unstepped d) rest s = plain-path d rest (stops-less 13 14 rest (omega arith) s)
plain-postfix (grammar.stepped {l = l} t op d may is) rest s =
    rw (append_assoc l (t ∷ []) rest) (plain-path d (t ∷ rest) (omega (arith, step_follows t.kind op is)))
