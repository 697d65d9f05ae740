-- The steps of reading what an operand is made of: each piece is read, where its parts are.
use Rattle.std.proofs.Common.{◌≡◌, ◌≢◌, ℕ, zero, suc, ◌+◌, ◌<◌, ◌==◌, Bool, true, false, not, ◌&&◌, List, [], ◌∷◌, ◌++◌, Option, Some, length, refl, arith, append_assoc, length-append, eq-eqb}
use Rattle.jsh_tree.specs.declared.token.Token.{Token}
use Rattle.jsh_tree.specs.declared.token.TokenKind.TheVariants as token
use Rattle.jsh_tree.specs.declared.expression.Literal.{Literal}
use Rattle.jsh_tree.specs.declared.expression.Expr.{Expr}
use Rattle.jsh_tree.specs.declared.expression.Expr.TheVariants as tree
use Rattle.jsh_tree.specs.declared.expression.Expr.TheViews.{outs-NewArray}
use Rattle.jsh_tree.specs.declared.expression.PathPart.{PathPart}
use Rattle.jsh_tree.specs.declared.expression.PathPart.TheVariants as part
use Rattle.jsh_tree.specs.declared.expression.Initial.{Initial}
use Rattle.jsh_tree.specs.declared.expression.Initial.TheVariants as initial
use Rattle.jsh_parse.specs.Leaves.{AreBrackets, none, one_more, literal_of, identifier_of, names_type, type_of, is_open_creation}
use Rattle.jsh_parse.specs.Marks.{is_left_paren, is_left_bracket, is_right_brace, begins_operand}
use Rattle.jsh_parse.specs.Reader.{Read, sees, sees_brackets, Inner, listed, arguments, sizes, initial_read, initials, braces, primary, parts, path}
use Rattle.jsh_parse.proofs.Fronts.{Front, opens-no-end}
use Rattle.jsh_parse.proofs.Follow.{Stops, no_part, no_call}
use Rattle.jsh_parse.proofs.Steps.{Reads, ReadsAll, brackets-all}

-- ---- members and indices

-- what stands behind a primary doesn't go on with it
abbrev pub Behind : Expr → List Token → Type 0
Behind e rest = (sees begins_operand rest ≡ false) × (sees_brackets rest ≡ false) × ((is_open_creation e && sees is_left_bracket rest) ≡ false)

-- a primary is read, where what stands behind doesn't go on with it
abbrev pub ReadsPrimary : (List Token → Read Expr) → List Token → Expr → Type 0
ReadsPrimary read ts e = (rest : List Token) → Behind e rest → read (ts ++ rest) ≡ Some (e, rest)

-- the tokens are read, whatever follows
abbrev pub ReadsFree : {A : Type 0} → (List Token → Read A) → List Token → A → Type 0
ReadsFree read ts a = (rest : List Token) → read (ts ++ rest) ≡ Some (a, rest)

pub and-false : (b : Bool) → (b && false) ≡ false
and-false true = refl
and-false false = refl

pub stops-behind : (e : Expr) (rest : List Token) → Stops 14 rest → Behind e rest
stops-behind e [] s = (refl, refl, and-false (is_open_creation e))
stops-behind e (t ∷ rest) s = let free = no_part t.kind s in (free.2, rw free.1 refl, rw free.1 (and-false (is_open_creation e)))

sees-no_call : (ts : List Token) → sees begins_operand ts ≡ false → sees is_left_paren ts ≡ false
sees-no_call [] h = refl
sees-no_call (t ∷ ts) h = no_call t.kind h

no-parts : (most : ℕ) (text : List ℕ) (inner : Option Inner) (rest : List Token) → Stops 14 rest → parts (suc most) text inner rest ≡ Some ([], rest)
unfolding parts
no-parts most text inner [] s = refl
no-parts most text inner (t ∷ rest) s = let free = no_part t.kind s in rw (free.0, free.1) refl

pub read-alone : (text : List ℕ) (inner : Option Inner) (ts : List Token) (e : Expr) → ReadsPrimary (primary text inner) ts e → Reads (path text inner) 14 ts e
read-alone text inner ts e d rest s = rw (d rest (stops-behind e rest s), no-parts (length rest) text inner rest s) refl

pub read-path : (text : List ℕ) (inner : Option Inner) (l r : List Token) (first : Expr) (ps : List PathPart) → ReadsPrimary (primary text inner) l first →
    ReadsAll (λ most. parts most text inner) 14 r ps → ps ≢ [] → ((rest : List Token) → Stops 14 rest → Behind first (r ++ rest)) →
    Reads (path text inner) 14 (l ++ r) (tree.Path first ps)
read-path text inner l r first [] d ds some behind rest s = absurd (some refl)
read-path text inner l r first (p ∷ ps) d ds some behind rest s =
    let others = ds (suc (length (r ++ rest))) (omega (arith, length-append r rest)) rest s in
    rw (append_assoc l r rest, d (r ++ rest) (behind rest s), others) refl

pub read-no_parts : (text : List ℕ) (inner : Option Inner) → ReadsAll (λ most. parts most text inner) 14 [] []
read-no_parts text inner zero h rest s = absurd (omega arith)
read-no_parts text inner (suc most) h rest s = no-parts most text inner rest s

pub read-field : (text : List ℕ) (inner : Option Inner) (r : List Token) (ps : List PathPart) (t n : Token) → t.kind ≡ token.Dot → n.kind ≡ token.Identifier →
    ReadsAll (λ most. parts most text inner) 14 r ps → ((rest : List Token) → Stops 14 rest → sees begins_operand (r ++ rest) ≡ false) →
    ReadsAll (λ most. parts most text inner) 14 (t ∷ n ∷ r) (part.Field (identifier_of text n) ∷ ps)
unfolding parts
read-field text inner r ps t n ht hn ds free zero h rest s = absurd (omega arith)
read-field text inner r ps t n ht hn ds free (suc most) h rest s =
    rw (ht, hn, sees-no_call (r ++ rest) (free rest s), ds most (omega arith) rest s) refl

pub read-part_call : (text : List ℕ) (inner : Option Inner) (l r : List Token) (es : List Expr) (ps : List PathPart) (t n : Token) →
    t.kind ≡ token.Dot → n.kind ≡ token.Identifier → ReadsFree (arguments inner) l es → ((more : List Token) → sees is_left_paren (l ++ more) ≡ true) →
    ReadsAll (λ most. parts most text inner) 14 r ps →
    ReadsAll (λ most. parts most text inner) 14 (t ∷ n ∷ (l ++ r)) (part.Call (identifier_of text n) es ∷ ps)
unfolding parts
read-part_call text inner l r es ps t n ht hn d call ds zero h rest s = absurd (omega arith)
read-part_call text inner l r es ps t n ht hn d call ds (suc most) h rest s =
    let others = ds most (omega (arith, length-append l r)) rest s in
    rw (ht, hn, append_assoc l r rest, call (r ++ rest), d (r ++ rest), others) refl

pub read-index : (text : List ℕ) (i : Inner) (l r : List Token) (e : Expr) (ps : List PathPart) (t u : Token) →
    t.kind ≡ token.LeftBracket → Reads i.expr 1 l e → u.kind ≡ token.RightBracket → ReadsAll (λ most. parts most text (Some i)) 14 r ps →
    ReadsAll (λ most. parts most text (Some i)) 14 (t ∷ (l ++ u ∷ r)) (part.Index e ∷ ps)
unfolding parts
read-index text i l r e ps t u ht d hu ds zero h rest s = absurd (omega arith)
read-index text i l r e ps t u ht d hu ds (suc most) h rest s =
    let inside = d (u ∷ (r ++ rest)) (rw hu (omega arith)) in
    let others = ds most (omega (arith, length-append l (u ∷ r))) rest s in
    rw (ht, append_assoc l (u ∷ r) rest, inside, hu, others) refl

-- ---- primaries

pub read-literal : (text : List ℕ) (inner : Option Inner) (t : Token) (value : Literal) → literal_of text t ≡ Some value →
    ReadsPrimary (primary text inner) (t ∷ []) (tree.Literal t.span value)
read-literal text inner t value is rest b = rw is refl

pub read-this : (text : List ℕ) (inner : Option Inner) (t : Token) → t.kind ≡ token.This → ReadsPrimary (primary text inner) (t ∷ []) (tree.This t.span)
read-this text inner t h rest b = rw h refl

pub read-parenthesized : (text : List ℕ) (i : Inner) (l : List Token) (e : Expr) (t u : Token) → t.kind ≡ token.LeftParen → Reads i.expr 1 l e →
    u.kind ≡ token.RightParen → ReadsPrimary (primary text (Some i)) (t ∷ (l ++ u ∷ [])) (tree.Parenthesized t.span e)
read-parenthesized text i l e t u h d hu rest b =
    let inside = d (u ∷ rest) (rw hu (omega arith)) in
    rw (h, append_assoc l (u ∷ []) rest, inside, hu) refl

pub read-name : (text : List ℕ) (inner : Option Inner) (n : Token) → n.kind ≡ token.Identifier → ReadsPrimary (primary text inner) (n ∷ []) (tree.Name (identifier_of text n))
read-name text inner n h rest b = rw (h, sees-no_call rest b.0) refl

pub read-call : (text : List ℕ) (inner : Option Inner) (l : List Token) (es : List Expr) (n : Token) → n.kind ≡ token.Identifier → ReadsFree (arguments inner) l es →
    ((more : List Token) → sees is_left_paren (l ++ more) ≡ true) → ReadsPrimary (primary text inner) (n ∷ l) (tree.Call (identifier_of text n) es)
read-call text inner l es n h d call rest b = rw (h, call rest, d rest) refl

pub read-super_call : (text : List ℕ) (inner : Option Inner) (l : List Token) (es : List Expr) (t d n : Token) → t.kind ≡ token.Super → d.kind ≡ token.Dot →
    n.kind ≡ token.Identifier → ReadsFree (arguments inner) l es →
    ReadsPrimary (primary text inner) (t ∷ d ∷ n ∷ l) (tree.SuperCall t.span (identifier_of text n) es)
read-super_call text inner l es t d n ht hd hn args rest b = rw (ht, hd, hn, args rest) refl

pub read-new : (text : List ℕ) (inner : Option Inner) (l : List Token) (es : List Expr) (t n : Token) → t.kind ≡ token.New → n.kind ≡ token.Identifier →
    ReadsFree (arguments inner) l es → ((more : List Token) → sees is_left_paren (l ++ more) ≡ true) →
    ReadsPrimary (primary text inner) (t ∷ n ∷ l) (tree.New t.span (identifier_of text n) es)
read-new text inner l es t n ht hn args call rest b = rw (ht, hn, call rest, args rest) refl

-- ---- new arrays

-- sizes are read, where no further size stands behind them
abbrev pub ReadsSizes : Option Inner → List Token → List Expr → Type 0
ReadsSizes inner ts es = (most : ℕ) → length ts < most → (rest : List Token) → (sees is_left_bracket rest && not (sees_brackets rest)) ≡ false →
    sizes most inner (ts ++ rest) ≡ Some (es, rest)

brackets-stop : {b : List Token} {dims : ℕ} → AreBrackets b dims → (count : ℕ) (rest : List Token) → ((count == count + dims) && sees is_left_bracket rest) ≡ false →
    (sees is_left_bracket (b ++ rest) && not (sees_brackets (b ++ rest))) ≡ false
brackets-stop none count rest h = go (sees is_left_bracket rest) (sees_brackets rest) (rw (eq-eqb count (count + 0) (omega arith)) at h)
  where
    go : (x y : Bool) → x ≡ false → (x && not y) ≡ false
    go x y e = rw e refl
brackets-stop (one_more {b = b} t u ht hu more) count rest h = rw (ht, hu) refl

some_brackets : {b : List Token} {dims : ℕ} → AreBrackets b dims → 0 < dims → (rest : List Token) →
    (sees is_left_paren (b ++ rest) ≡ false) × (sees_brackets (b ++ rest) ≡ true)
some_brackets none h rest = absurd (omega arith)
some_brackets (one_more t u ht hu more) h rest = rw (ht, hu) (refl, refl)

pub read-new_array : (text : List ℕ) (inner : Option Inner) (l b : List Token) (es : List Expr) (dims : ℕ) (t n : Token) → t.kind ≡ token.New → names_type n.kind ≡ true →
    ReadsSizes inner l es → ((more : List Token) → (sees is_left_paren (l ++ more) ≡ false) × (sees_brackets (l ++ more) ≡ false)) → es ≢ [] → AreBrackets b dims →
    ReadsPrimary (primary text inner) (t ∷ n ∷ (l ++ b)) (tree.NewArray t.span (type_of text n (length es + dims)) es)
read-new_array text inner l b [] dims t n ht hn d front some pairs rest behind = absurd (some refl)
read-new_array text inner l b (e ∷ es) dims t n ht hn d front some pairs rest behind =
    let f = front (b ++ rest) in
    let closed = rw (outs-NewArray t.span (type_of text n (length (e ∷ es) + dims)) (e ∷ es)) at behind.2 in
    let read = d (suc (length (l ++ (b ++ rest)))) (omega (arith, length-append l (b ++ rest))) (b ++ rest) (brackets-stop pairs (length (e ∷ es)) rest closed) in
    rw (ht, hn, append_assoc l b rest, f.0, f.1, read, brackets-all pairs rest behind.1) refl

pub read-new_array_of : (text : List ℕ) (inner : Option Inner) (b l : List Token) (values : List Initial) (dims : ℕ) (t n u : Token) → t.kind ≡ token.New → names_type n.kind ≡ true →
    AreBrackets b dims → 0 < dims → u.kind ≡ token.LeftBrace → ReadsFree (braces inner) (u ∷ l) values →
    ReadsPrimary (primary text inner) (t ∷ n ∷ (b ++ u ∷ l)) (tree.NewArrayOf t.span (type_of text n dims) u.span values)
read-new_array_of text inner b l values dims t n u ht hn pairs some hu d rest behind =
    let f = some_brackets pairs some (u ∷ (l ++ rest)) in
    let no_more : sees_brackets (u ∷ (l ++ rest)) ≡ false = rw hu refl in
    rw (ht, hn, append_assoc b (u ∷ l) rest, f.0, f.1, brackets-all pairs (u ∷ (l ++ rest)) no_more, d rest) refl

pub read-no_sizes : (inner : Option Inner) → ReadsSizes inner [] []
unfolding sizes
read-no_sizes inner zero h rest stop = absurd (omega arith)
read-no_sizes inner (suc most) h rest stop = rw stop refl

pub no_empty_brackets : (t : Token) (l r : List Token) → Front l → sees_brackets (t ∷ (l ++ r)) ≡ false
no_empty_brackets t [] r f = absurd f
no_empty_brackets t (n ∷ l) r f = rw (opens-no-end n.kind f.0).1 (and-false (is_left_bracket t.kind))

pub read-size : (i : Inner) (l r : List Token) (e : Expr) (es : List Expr) (t u : Token) → t.kind ≡ token.LeftBracket → Reads i.expr 1 l e → Front l →
    u.kind ≡ token.RightBracket → ReadsSizes (Some i) r es → ReadsSizes (Some i) (t ∷ (l ++ u ∷ r)) (e ∷ es)
unfolding sizes
read-size i l r e es t u ht d f hu ds zero h rest stop = absurd (omega arith)
read-size i l r e es t u ht d f hu ds (suc most) h rest stop =
    let inside = d (u ∷ (r ++ rest)) (rw hu (omega arith)) in
    let others = ds most (omega (arith, length-append l (u ∷ r))) rest stop in
    rw (append_assoc l (u ∷ r) rest, no_empty_brackets t l (u ∷ (r ++ rest)) f, ht, inside, hu, others) refl

-- ---- arguments

-- the list is read, where a parenthesis closes it
abbrev pub ReadsList : Inner → List Token → List Expr → Type 0
ReadsList i ts es = (most : ℕ) → length ts < most → (u : Token) → u.kind ≡ token.RightParen → (rest : List Token) → listed most i (ts ++ u ∷ rest) ≡ Some (es, u ∷ rest)

pub read-no_arguments : (i : Inner) (t u : Token) → t.kind ≡ token.LeftParen → u.kind ≡ token.RightParen → ReadsFree (arguments (Some i)) (t ∷ u ∷ []) []
read-no_arguments i t u ht hu rest = rw (ht, hu) refl

pub read-arguments : (i : Inner) (l : List Token) (es : List Expr) (t u : Token) → t.kind ≡ token.LeftParen → ReadsList i l es → Front l → u.kind ≡ token.RightParen →
    ReadsFree (arguments (Some i)) (t ∷ (l ++ u ∷ [])) es
read-arguments i [] es t u ht d f hu rest = absurd f
read-arguments i (n ∷ l) es t u ht d f hu rest =
    let read = d (suc (length (n ∷ (l ++ u ∷ rest)))) (omega (arith, length-append l (u ∷ rest))) u hu rest in
    rw (ht, append_assoc l (u ∷ []) rest, (opens-no-end n.kind f.0).0, read, hu) refl

pub read-last_listed : (i : Inner) (ts : List Token) (e : Expr) → Reads i.expr 1 ts e → ReadsList i ts (e ∷ [])
unfolding listed
read-last_listed i ts e d zero h u hu rest = absurd (omega arith)
read-last_listed i ts e d (suc most) h u hu rest = rw (d (u ∷ rest) (rw hu (omega arith)), hu) refl

pub read-listed : (i : Inner) (l r : List Token) (e : Expr) (es : List Expr) (t : Token) → Reads i.expr 1 l e → t.kind ≡ token.Comma → ReadsList i r es →
    ReadsList i (l ++ t ∷ r) (e ∷ es)
unfolding listed
read-listed i l r e es t d ht ds zero h u hu rest = absurd (omega arith)
read-listed i l r e es t d ht ds (suc most) h u hu rest =
    let first = d (t ∷ (r ++ u ∷ rest)) (rw ht (omega arith)) in
    let others = ds most (omega (arith, length-append l (t ∷ r))) u hu rest in
    rw (append_assoc l (t ∷ r) (u ∷ rest), first, ht, others) refl

-- ---- array initializers

-- the values are read, with the brace that closes them
abbrev pub ReadsValues : Inner → List Token → List Initial → Type 0
ReadsValues i ts values = (most : ℕ) → length ts < most → (u : Token) → u.kind ≡ token.RightBrace → (rest : List Token) → initials most i (ts ++ u ∷ rest) ≡ Some (values, rest)

-- no closing brace stands first
abbrev pub Unclosed : List Token → Type 0
Unclosed [] = ⊥
Unclosed (t ∷ ts) = is_right_brace t.kind ≡ false

unclosed-sees : (ts more : List Token) → Unclosed ts → sees is_right_brace (ts ++ more) ≡ false
unclosed-sees [] more f = absurd f
unclosed-sees (t ∷ ts) more f = f

pub read-no_values : (i : Inner) (t u : Token) → t.kind ≡ token.LeftBrace → u.kind ≡ token.RightBrace → ReadsFree (braces (Some i)) (t ∷ u ∷ []) []
read-no_values i t u ht hu rest = rw (ht, hu) refl

pub read-values : (i : Inner) (l : List Token) (values : List Initial) (t u : Token) → t.kind ≡ token.LeftBrace → ReadsValues i l values → Unclosed l → u.kind ≡ token.RightBrace →
    ReadsFree (braces (Some i)) (t ∷ (l ++ u ∷ [])) values
read-values i [] values t u ht d f hu rest = absurd f
read-values i (n ∷ l) values t u ht d f hu rest =
    let read = d (suc (length (n ∷ (l ++ u ∷ rest)))) (omega (arith, length-append l (u ∷ rest))) u hu rest in
    rw (ht, append_assoc l (u ∷ []) rest, f, read) refl

pub read-last_value : (i : Inner) (ts : List Token) (value : Initial) → Reads (initial_read i) 1 ts value → ReadsValues i ts (value ∷ [])
unfolding initials
read-last_value i ts value d zero h u hu rest = absurd (omega arith)
read-last_value i ts value d (suc most) h u hu rest = rw (d (u ∷ rest) (rw hu (omega arith)), hu) refl

pub read-last_comma : (i : Inner) (l : List Token) (value : Initial) (t : Token) → Reads (initial_read i) 1 l value → t.kind ≡ token.Comma → ReadsValues i (l ++ t ∷ []) (value ∷ [])
unfolding initials
read-last_comma i l value t d ht zero h u hu rest = absurd (omega arith)
read-last_comma i l value t d ht (suc most) h u hu rest =
    let first = d (t ∷ u ∷ rest) (rw ht (omega arith)) in
    rw (append_assoc l (t ∷ []) (u ∷ rest), first, ht, hu) refl

pub read-value : (i : Inner) (l r : List Token) (value : Initial) (values : List Initial) (t : Token) → Reads (initial_read i) 1 l value → t.kind ≡ token.Comma →
    ReadsValues i r values → Unclosed r → ReadsValues i (l ++ t ∷ r) (value ∷ values)
unfolding initials
read-value i l r value values t d ht ds f zero h u hu rest = absurd (omega arith)
read-value i l r value values t d ht ds f (suc most) h u hu rest =
    let first = d (t ∷ (r ++ u ∷ rest)) (rw ht (omega arith)) in
    let others = ds most (omega (arith, length-append l (t ∷ r))) u hu rest in
    rw (append_assoc l (t ∷ r) (u ∷ rest), first, ht, unclosed-sees r (u ∷ rest) f, others) refl

pub read-initial_value : (i : Inner) (ts : List Token) (e : Expr) → Reads i.expr 1 ts e → Front ts → Reads (initial_read i) 1 ts (initial.Value e)
read-initial_value i [] e d f rest s = absurd f
read-initial_value i (t ∷ ts) e d f rest s = rw ((opens-no-end t.kind f.0).3, d rest s) refl

pub read-initial_array : (i : Inner) (ts : List Token) (values : List Initial) (t : Token) → t.kind ≡ token.LeftBrace → ReadsFree i.braces (t ∷ ts) values →
    Reads (initial_read i) 1 (t ∷ ts) (initial.Array t.span values)
read-initial_array i ts values t ht d rest s = rw (d rest, ht) refl
