-- Whatever is in the grammar is read, also where something follows that doesn't go on with it; so it has one tree.
use Rattle.std.proofs.Common.{◌≡◌, ℕ, zero, suc, ◌+◌, List, [], ◌++◌, Option, Some, None, refl, sym, ap, ◌∙◌, subst, append-nil, suc-add, zero-add, add_comm}
use Rattle.jsh_tree.specs.declared.token.Token.{Token}
use Rattle.jsh_tree.specs.declared.expression.Expr.{Expr}
use Rattle.jsh_tree.specs.declared.expression.Operation.{Operation}
use Rattle.jsh_tree.specs.declared.expression.PathPart.{PathPart}
use Rattle.jsh_tree.specs.declared.expression.Initial.{Initial}
use Rattle.jsh_parse.specs.Operators.{operand_level}
use Rattle.jsh_parse.specs.Grammar as grammar
use Rattle.jsh_parse.specs.Grammar.{IsExpr, IsConditional, IsLevel, AreOperations, IsUnary, IsPostfix, IsPath, AreParts, IsPrimary, AreSizes, AreArguments, AreListed, AreBraces, AreInitials, IsInitial}
use Rattle.jsh_parse.specs.Reader.{Read, Inner, arguments, initial_read, braces, primary, parts, path, postfix_read, unary_read, operations, level_read, conditional_read, expr_read, readers_over, readers}
use Rattle.jsh_parse.proofs.Follow.{Stops}
use Rattle.jsh_parse.proofs.Fronts.{front-expr, front-unary}
use Rattle.jsh_parse.proofs.Steps.{Reads, ReadsAll, read-conditional, read-assignment, read-operators, read-choice, read-last_level, read-next_level, read-run, read-no_operations, read-operand, read-type, read-prefixed, read-cast, read-postfix, read-unstepped, read-stepped, read-target}
use Rattle.jsh_parse.proofs.Pieces.{ReadsFree, ReadsPrimary, ReadsSizes, ReadsList, ReadsValues, read-alone, read-path, read-no_parts, read-field, read-part_call, read-index, read-literal, read-this, read-parenthesized, read-name, read-call, read-super_call, read-new, read-new_array, read-new_array_of, read-no_sizes, read-size, read-no_arguments, read-arguments, read-last_listed, read-listed, read-no_values, read-values, read-last_value, read-last_comma, read-value, read-initial_value, read-initial_array}
use Rattle.jsh_parse.proofs.Edges.{operations-stop, level-bound, parts-free, parts-behind, arguments-front, sizes-front, listed-front, braces-opened, initials-unclosed, plain-postfix}

-- the readers of what stands so many deep, over those that stand deeper still
abbrev pub inner_of : List ℕ → Option Inner → ℕ → Option Inner
inner_of text base zero = base
inner_of text base (suc room) = Some (readers_over text (inner_of text base room))

-- what is in the grammar is read, whatever reads what stands deeper still
mutual
  pub reads-expr : (base : Option Inner) {text : List ℕ} {room : ℕ} {ts : List Token} {e : Expr} → IsExpr text room ts e →
      Reads (expr_read text (inner_of text base room)) 1 ts e
  reads-expr base {text = text} (grammar.conditional {room = room} {ts = ts} {e = e} d) =
      read-conditional text (inner_of text base room) ts e (reads-conditional base d)
  reads-expr base {text = text} (grammar.assignment {room = room} {l = l} {r = r} {target = target} {value = value} t op d may is v) =
      read-assignment text (readers_over text (inner_of text base room)) l r target value t op
      (read-target text (inner_of text base (suc room)) l target (plain-postfix d) (reads-postfix base d)) may is (reads-expr base v)

  reads-conditional : (base : Option Inner) {text : List ℕ} {room : ℕ} {ts : List Token} {e : Expr} → IsConditional text room ts e →
      Reads (conditional_read text (inner_of text base room)) 2 ts e
  reads-conditional base {text = text} (grammar.operators {room = room} {ts = ts} {e = e} d) =
      read-operators text (inner_of text base room) ts e (reads-level base d operand_level refl)
  reads-conditional base {text = text} (grammar.choice {room = room} {l = l} {m = m} {r = r} {condition = c} {yes = y} {no = n} t u d h dy hu dn) =
      read-choice text (readers_over text (inner_of text base room)) l m r c y n t u (reads-level base d operand_level refl) h (reads-expr base dy) hu
      (reads-conditional base dn)

  reads-level : (base : Option Inner) {text : List ℕ} {level room : ℕ} {ts : List Token} {e : Expr} → IsLevel text level room ts e →
      (height : ℕ) → height + level ≡ operand_level → Reads (level_read height text (inner_of text base room)) (3 + level) ts e
  reads-level base {text = text} (grammar.next_level {level = level} {room = room} {ts = ts} {e = e} less d) height same =
      read-next_level text (inner_of text base room) height level ts e same less (reads-level base d)
  reads-level base {text = text} (grammar.run {level = level} {room = room} {l = l} {r = r} {first = first} {rest = os} d ds some) height same =
      read-run text (inner_of text base room) height level l r first os same (level-bound d) (reads-level base d) (reads-operations base ds)
      (operations-stop ds) some
  reads-level base {text = text} (grammar.single_operand {room = room} {ts = ts} {e = e} d) height same =
      read-last_level text (inner_of text base room) height ts e same (reads-unary base d)

  reads-operations : (base : Option Inner) {text : List ℕ} {level room : ℕ} {ts : List Token} {os : List Operation} → AreOperations text level room ts os →
      (under : ℕ) → under + suc level ≡ operand_level →
      ReadsAll (λ most. operations most text level (level_read under text (inner_of text base room))) (3 + level) ts os
  reads-operations base {text = text} (grammar.no_operations {level = level} {room = room}) under same =
      read-no_operations text level (level_read under text (inner_of text base room))
  reads-operations base {text = text} (grammar.one_more_operand {level = level} {room = room} {l = l} {r = r} {right = right} {rest = os} t op is at d ds) under same =
      read-operand text level (level_read under text (inner_of text base room)) l r right os t op is at (reads-level base d under same)
      (reads-operations base ds under same) (operations-stop ds)
  reads-operations base {text = text} (grammar.one_more_type {room = room} {dims = dims} {b = b} {r = r} {rest = os} t u h hu pairs ds) under same =
      read-type text (level_read under text (inner_of text base room)) b r os dims t u h hu pairs (reads-operations base ds under same) (operations-stop ds)

  reads-unary : (base : Option Inner) {text : List ℕ} {room : ℕ} {ts : List Token} {e : Expr} → IsUnary text room ts e →
      Reads (unary_read text (inner_of text base room)) 13 ts e
  reads-unary base {text = text} (grammar.prefixed {room = room} {ts = ts} {inner = e} t op is d may) =
      read-prefixed text (readers_over text (inner_of text base room)) ts e t op is (reads-unary base d) may
  reads-unary base {text = text} (grammar.cast {room = room} {dims = dims} {b = b} {r = r} {inner = e} t n u h hn pairs hu d sign) =
      read-cast text (readers_over text (inner_of text base room)) b r dims e t n u h hn pairs hu (reads-unary base d) (front-unary d) sign
  reads-unary base {text = text} (grammar.postfix {room = room} {ts = ts} {e = e} d) =
      read-postfix text (inner_of text base room) ts e (plain-postfix d) (reads-postfix base d)

  reads-postfix : (base : Option Inner) {text : List ℕ} {room : ℕ} {ts : List Token} {e : Expr} → IsPostfix text room ts e →
      Reads (postfix_read text (inner_of text base room)) 13 ts e
  reads-postfix base {text = text} (grammar.unstepped {room = room} {ts = ts} {e = e} d) = read-unstepped text (inner_of text base room) ts e (reads-path base d)
  reads-postfix base {text = text} (grammar.stepped {room = room} {l = l} {inner = e} t op d may is) =
      read-stepped text (inner_of text base room) l e t op (reads-path base d) may is

  reads-path : (base : Option Inner) {text : List ℕ} {room : ℕ} {ts : List Token} {e : Expr} → IsPath text room ts e →
      Reads (path text (inner_of text base room)) 14 ts e
  reads-path base {text = text} (grammar.alone {room = room} {ts = ts} {e = e} d) = read-alone text (inner_of text base room) ts e (reads-primary base d)
  reads-path base {text = text} (grammar.with_parts {room = room} {l = l} {r = r} {first = first} {rest = ps} d ds some free) =
      read-path text (inner_of text base room) l r first ps (reads-primary base d) (reads-parts base ds) some (parts-behind ds first free)

  reads-parts : (base : Option Inner) {text : List ℕ} {room : ℕ} {ts : List Token} {ps : List PathPart} → AreParts text room ts ps →
      ReadsAll (λ most. parts most text (inner_of text base room)) 14 ts ps
  reads-parts base {text = text} (grammar.no_parts {room = room}) = read-no_parts text (inner_of text base room)
  reads-parts base {text = text} (grammar.one_more_field {room = room} {r = r} {rest = ps} t n h hn ds) =
      read-field text (inner_of text base room) r ps t n h hn (reads-parts base ds) (parts-free ds)
  reads-parts base {text = text} (grammar.one_more_call {room = room} {l = l} {r = r} {arguments = es} {rest = ps} t n h hn d ds) =
      read-part_call text (inner_of text base room) l r es ps t n h hn (reads-arguments base d) (arguments-front d) (reads-parts base ds)
  reads-parts base {text = text} (grammar.one_more_index {room = room} {l = l} {r = r} {inner = e} {rest = ps} t u h d hu ds) =
      read-index text (readers_over text (inner_of text base room)) l r e ps t u h (reads-expr base d) hu (reads-parts base ds)

  reads-primary : (base : Option Inner) {text : List ℕ} {room : ℕ} {ts : List Token} {e : Expr} → IsPrimary text room ts e →
      ReadsPrimary (primary text (inner_of text base room)) ts e
  reads-primary base {text = text} (grammar.literal {room = room} t value is) = read-literal text (inner_of text base room) t value is
  reads-primary base {text = text} (grammar.this {room = room} t h) = read-this text (inner_of text base room) t h
  reads-primary base {text = text} (grammar.parenthesized {room = room} {l = l} {inner = e} t u h d hu) =
      read-parenthesized text (readers_over text (inner_of text base room)) l e t u h (reads-expr base d) hu
  reads-primary base {text = text} (grammar.name {room = room} n h) = read-name text (inner_of text base room) n h
  reads-primary base {text = text} (grammar.call {room = room} {l = l} {arguments = es} n h d) =
      read-call text (inner_of text base room) l es n h (reads-arguments base d) (arguments-front d)
  reads-primary base {text = text} (grammar.super_call {room = room} {l = l} {arguments = es} t d n h hd hn ds) =
      read-super_call text (inner_of text base room) l es t d n h hd hn (reads-arguments base ds)
  reads-primary base {text = text} (grammar.new_object {room = room} {l = l} {arguments = es} t n h hn d) =
      read-new text (inner_of text base room) l es t n h hn (reads-arguments base d) (arguments-front d)
  reads-primary base {text = text} (grammar.new_array {room = room} {dims = dims} {l = l} {b = b} {sizes = es} t n h hn d some pairs) =
      read-new_array text (inner_of text base room) l b es dims t n h hn (reads-sizes base d) (sizes-front d some) some pairs
  reads-primary base {text = text} (grammar.new_array_of {room = room} {dims = dims} {b = b} {l = l} {values = values} t n u h hn pairs few d) =
      read-new_array_of text (inner_of text base room) b l values dims t n u h hn pairs few (braces-opened d) (reads-braces base d)

  reads-sizes : (base : Option Inner) {text : List ℕ} {room : ℕ} {ts : List Token} {es : List Expr} → AreSizes text room ts es →
      ReadsSizes (inner_of text base room) ts es
  reads-sizes base {text = text} (grammar.no_sizes {room = room}) = read-no_sizes (inner_of text base room)
  reads-sizes base {text = text} (grammar.one_more_size {room = room} {l = l} {r = r} {size = e} {rest = es} t u h d hu ds) =
      read-size (readers_over text (inner_of text base room)) l r e es t u h (reads-expr base d) (front-expr d) hu (reads-sizes base ds)

  reads-arguments : (base : Option Inner) {text : List ℕ} {room : ℕ} {ts : List Token} {es : List Expr} → AreArguments text room ts es →
      ReadsFree (arguments (inner_of text base room)) ts es
  reads-arguments base {text = text} (grammar.no_arguments {room = room} t u h hu) = read-no_arguments (readers_over text (inner_of text base room)) t u h hu
  reads-arguments base {text = text} (grammar.some_arguments {room = room} {l = l} {arguments = es} t u h d hu) =
      read-arguments (readers_over text (inner_of text base room)) l es t u h (reads-listed base d) (listed-front d) hu

  reads-listed : (base : Option Inner) {text : List ℕ} {room : ℕ} {ts : List Token} {es : List Expr} → AreListed text room ts es →
      ReadsList (readers_over text (inner_of text base room)) ts es
  reads-listed base {text = text} (grammar.last_listed {room = room} {ts = ts} {e = e} d) =
      read-last_listed (readers_over text (inner_of text base room)) ts e (reads-expr base d)
  reads-listed base {text = text} (grammar.one_more_listed {room = room} {l = l} {r = r} {e = e} {rest = es} t d h ds) =
      read-listed (readers_over text (inner_of text base room)) l r e es t (reads-expr base d) h (reads-listed base ds)

  reads-braces : (base : Option Inner) {text : List ℕ} {room : ℕ} {ts : List Token} {values : List Initial} → AreBraces text room ts values →
      ReadsFree (braces (inner_of text base room)) ts values
  reads-braces base {text = text} (grammar.no_values {room = room} t u h hu) = read-no_values (readers_over text (inner_of text base room)) t u h hu
  reads-braces base {text = text} (grammar.some_values {room = room} {l = l} {values = values} t u h d hu) =
      read-values (readers_over text (inner_of text base room)) l values t u h (reads-initials base d) (initials-unclosed d) hu

  reads-initials : (base : Option Inner) {text : List ℕ} {room : ℕ} {ts : List Token} {values : List Initial} → AreInitials text room ts values →
      ReadsValues (readers_over text (inner_of text base room)) ts values
  reads-initials base {text = text} (grammar.last_initial {room = room} {ts = ts} {value = value} d) =
      read-last_value (readers_over text (inner_of text base room)) ts value (reads-initial base d)
  reads-initials base {text = text} (grammar.last_with_comma {room = room} {l = l} {value = value} t d h) =
      read-last_comma (readers_over text (inner_of text base room)) l value t (reads-initial base d) h
  reads-initials base {text = text} (grammar.one_more_initial {room = room} {l = l} {r = r} {value = value} {rest = values} t d h ds) =
      read-value (readers_over text (inner_of text base room)) l r value values t (reads-initial base d) h (reads-initials base ds) (initials-unclosed ds)

  pub reads-initial : (base : Option Inner) {text : List ℕ} {room : ℕ} {ts : List Token} {value : Initial} → IsInitial text room ts value →
      Reads (initial_read (readers_over text (inner_of text base room))) 1 ts value
  reads-initial base {text = text} (grammar.initial_value {room = room} {ts = ts} {e = e} d) =
      read-initial_value (readers_over text (inner_of text base room)) ts e (reads-expr base d) (front-expr d)
  reads-initial base {text = text} (grammar.initial_array {room = room} {ts = ts} {values = values} t d) =
      read-initial_array (readers_over text (inner_of text base room)) ts values t (braces-opened d) (reads-braces base d)

-- the readers with so much room are those over none
readers-inner : (text : List ℕ) (room : ℕ) → readers text room ≡ readers_over text (inner_of text None room)
unfolding readers
readers-inner text zero = refl
readers-inner text (suc room) = ap (λ i. readers_over text (Some i)) (readers-inner text room)

-- an expression is read, where nothing goes on with it
pub complete : (text : List ℕ) (room : ℕ) (ts rest : List Token) (e : Expr) → IsExpr text room ts e → Stops 1 rest → (readers text room).expr (ts ++ rest) ≡ Some (e, rest)
complete text room ts rest e d s = ap (λ (i : Inner). i.expr (ts ++ rest)) (readers-inner text room) ∙ reads-expr None d rest s

pub complete-conditional : (text : List ℕ) (room : ℕ) (ts rest : List Token) (e : Expr) → IsConditional text room ts e → Stops 2 rest →
    (readers text room).conditional (ts ++ rest) ≡ Some (e, rest)
complete-conditional text room ts rest e d s = ap (λ (i : Inner). i.conditional (ts ++ rest)) (readers-inner text room) ∙ reads-conditional None d rest s

pub complete-unary : (text : List ℕ) (room : ℕ) (ts rest : List Token) (e : Expr) → IsUnary text room ts e → Stops 13 rest →
    (readers text room).unary (ts ++ rest) ≡ Some (e, rest)
complete-unary text room ts rest e d s = ap (λ (i : Inner). i.unary (ts ++ rest)) (readers-inner text room) ∙ reads-unary None d rest s

pub complete-braces : (text : List ℕ) (room : ℕ) (ts rest : List Token) (values : List Initial) → AreBraces text room ts values →
    (readers text room).braces (ts ++ rest) ≡ Some (values, rest)
complete-braces text room ts rest values d = ap (λ (i : Inner). i.braces (ts ++ rest)) (readers-inner text room) ∙ reads-braces None d rest

-- an expression is read to its end
pub complete-whole : (text : List ℕ) (room : ℕ) (ts : List Token) (e : Expr) → IsExpr text room ts e → (readers text room).expr ts ≡ Some (e, [])
complete-whole text room ts e d = subst (λ us. (readers text room).expr us ≡ Some (e, [])) (append-nil ts) (complete text room ts [] e d tt)

-- rooms over one another are one room
inner-add : (text : List ℕ) (base : Option Inner) (r s : ℕ) → inner_of text (inner_of text base s) r ≡ inner_of text base (r + s)
inner-add text base zero s = ap (inner_of text base) (sym (zero-add s))
inner-add text base (suc r) s = ap (λ i. Some (readers_over text i)) (inner-add text base r s) ∙ ap (inner_of text base) (sym (suc-add r s))

inner-swap : (text : List ℕ) (r s : ℕ) → inner_of text (inner_of text None s) r ≡ inner_of text (inner_of text None r) s
inner-swap text r s = inner-add text None r s ∙ ap (inner_of text None) (add_comm r s) ∙ sym (inner-add text None s r)

-- what is read, or else this
abbrev read_or : Expr → Read Expr → Expr
read_or e None = e
read_or e (Some found) = found.0

pub one_tree : (text : List ℕ) (r s : ℕ) (ts : List Token) (a b : Expr) → IsExpr text r ts a → IsExpr text s ts b → a ≡ b
one_tree text r s ts a b da db =
    ap (read_or a)
    (sym (reads-expr (inner_of text None s) da [] tt) ∙ ap (λ (i : Option Inner). expr_read text i (ts ++ [])) (inner-swap text r s)
    ∙ reads-expr (inner_of text None r) db [] tt)
