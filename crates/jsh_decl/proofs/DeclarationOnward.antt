-- How the readers of names and of heads go on, step by step, in the words of the contracts.
use Rattle.std.proofs.Common.{◌≡◌, ℕ, zero, suc, ◌<◌, ◌==◌, Bool, true, false, not, ◌&&◌, if◌then◌else◌, List, [], ◌∷◌, ◌++◌, Some, None, length, drop, refl, sym, ap, ◌∙◌, append_assoc, arith}
use Rattle.jsh_tree.specs.declared.token.Token.{Token}
use Rattle.jsh_tree.specs.declared.token.TokenKind.{TokenKind}
use Rattle.jsh_tree.specs.declared.expression.Identifier.{Identifier}
use Rattle.jsh_parse.specs.Leaves.{identifier_of}
use Rattle.jsh_parse.specs.Marks.{is_dot, is_identifier, is_left_paren, is_right_paren}
use Rattle.jsh_parse.specs.Forms.{is_semicolon}
use Rattle.jsh_parse.specs.Reader.{Read, and_then, accept, sees, type_read}
use Rattle.jsh_parse.specs.Reading.{name_read}
use Rattle.jsh_parse.specs.StatementReading.{block_at}
use Rattle.jsh_parse.proofs.Onward.{prepend, prepend_none}
use Rattle.jsh_decl.specs.Words.{is_static, is_star, is_extends, is_void}
use Rattle.jsh_decl.specs.DeclarationReader.{static_read, dotted_read, names_read, parameters_listed_read}
use Rattle.jsh_decl.specs.DeclarationReading.{dotted_at, import_at, names_at, names_behind_at, superclass_at, parameter_at, listed_at, parameters_at, result_at, body_at}
use Rattle.jsh_decl.proofs.DeclarationTurns.{behind_comma}

-- names with dots between them

-- what is read behind these parts
abbrev pub with_parts : List Identifier → Read (List Identifier × Bool) → Read (List Identifier × Bool)
with_parts items r = and_then r (λ more end. Some ((items ++ more.0, more.1), end))

one_part : (items : List Identifier) (n : Identifier) (r : Read (List Identifier × Bool)) →
    with_parts items (and_then r (λ more end. Some ((n ∷ more.0, more.1), end))) ≡ with_parts (items ++ n ∷ []) r
one_part items n None = refl
one_part items n (Some found) = ap (λ more. Some ((more, found.0.1), found.1)) (sym (append_assoc items (n ∷ []) found.0.0))

no_parts : (r : Read (List Identifier × Bool)) → with_parts [] r ≡ r
no_parts None = refl
no_parts (Some found) = refl

pub dotted_by : (text : List ℕ) (ts : List Token) → dotted_at text ts ≡ with_parts [] (dotted_read (suc (length ts)) text ts)
unfolding dotted_at
dotted_by text ts = sym (no_parts (dotted_read (suc (length ts)) text ts))

module _ (text : List ℕ) (items : List Identifier) where
  pub dotted_zero : (ts : List Token) → with_parts items (dotted_read zero text ts) ≡ None
  unfolding dotted_read
  dotted_zero ts = refl

  pub dotted_fails : (k : ℕ) (ts : List Token) → name_read text ts ≡ None → with_parts items (dotted_read (suc k) text ts) ≡ None
  unfolding dotted_read
  dotted_fails k ts h = simp h

  pub dotted_ends : (k : ℕ) (ts rest : List Token) (n : Identifier) → name_read text ts ≡ Some (n, rest) → sees is_dot rest ≡ false →
      with_parts items (dotted_read (suc k) text ts) ≡ Some ((items ++ n ∷ [], false), rest)
  unfolding dotted_read
  dotted_ends k ts rest n h d = simp (h, d)

  pub dotted_star : (k : ℕ) (ts rest : List Token) (n : Identifier) → name_read text ts ≡ Some (n, rest) → sees is_dot rest ≡ true →
      sees is_star (drop 1 rest) ≡ true → with_parts items (dotted_read (suc k) text ts) ≡ Some ((items ++ n ∷ [], true), drop 2 rest)
  unfolding dotted_read
  dotted_star k ts [] n h d s = cc
  dotted_star k ts (t ∷ []) n h d s = cc
  dotted_star k ts (t ∷ u ∷ rest) n h d s = simp (h, d, s)

  pub dotted_more : (k : ℕ) (ts rest : List Token) (n : Identifier) → name_read text ts ≡ Some (n, rest) → sees is_dot rest ≡ true →
      sees is_star (drop 1 rest) ≡ false →
      with_parts items (dotted_read (suc k) text ts) ≡ with_parts (items ++ n ∷ []) (dotted_read k text (drop 1 rest))
  unfolding dotted_read
  dotted_more k ts [] n h d s = cc
  dotted_more k ts (t ∷ rest) n h d s = simp (h, d, s) (one_part items n (dotted_read k text rest))

-- one turn more changes nothing where it changes nothing behind the first name
one_turn_more : (text : List ℕ) (m : ℕ) (n d : Token) (ts : List Token) → dotted_read m text ts ≡ dotted_read (suc m) text ts →
    dotted_read (suc m) text (n ∷ d ∷ ts) ≡ dotted_read (suc (suc m)) text (n ∷ d ∷ ts)
unfolding dotted_read
one_turn_more text m n d ts further = of_name (is_identifier n.kind) refl
  where
    of_star : (b : Bool) → is_identifier n.kind ≡ true → is_dot d.kind ≡ true → sees is_star ts ≡ b →
        dotted_read (suc m) text (n ∷ d ∷ ts) ≡ dotted_read (suc (suc m)) text (n ∷ d ∷ ts)
    of_star true h k s = rw (h, k, s) refl
    of_star false h k s = rw (h, k, s) (ap (λ r. and_then r (λ more end. Some ((identifier_of text n ∷ more.0, more.1), end))) further)

    of_dot : (b : Bool) → is_identifier n.kind ≡ true → is_dot d.kind ≡ b →
        dotted_read (suc m) text (n ∷ d ∷ ts) ≡ dotted_read (suc (suc m)) text (n ∷ d ∷ ts)
    of_dot true h k = of_star (sees is_star ts) h k refl
    of_dot false h k = rw (h, k) refl

    of_name : (b : Bool) → is_identifier n.kind ≡ b → dotted_read (suc m) text (n ∷ d ∷ ts) ≡ dotted_read (suc (suc m)) text (n ∷ d ∷ ts)
    of_name true h = of_dot (is_dot d.kind) h refl
    of_name false h = rw h refl

one_name : (text : List ℕ) (m : ℕ) (n : Token) → dotted_read (suc m) text (n ∷ []) ≡ dotted_read (suc (suc m)) text (n ∷ [])
unfolding dotted_read
one_name text m n = of_name (is_identifier n.kind) refl
  where
    of_name : (b : Bool) → is_identifier n.kind ≡ b → dotted_read (suc m) text (n ∷ []) ≡ dotted_read (suc (suc m)) text (n ∷ [])
    of_name true h = rw h refl
    of_name false h = rw h refl

no_name : (text : List ℕ) (m : ℕ) → dotted_read (suc m) text [] ≡ dotted_read (suc (suc m)) text []
unfolding dotted_read
no_name text m = refl

-- as many turns as there are tokens are enough
dotted_enough : (text : List ℕ) (m : ℕ) (ts : List Token) → length ts < m → dotted_read m text ts ≡ dotted_read (suc m) text ts
dotted_enough text zero ts l = absurd (omega arith)
dotted_enough text (suc m) [] l = no_name text m
dotted_enough text (suc m) (n ∷ []) l = one_name text m n
dotted_enough text (suc m) (n ∷ d ∷ ts) l = one_turn_more text m n d ts (dotted_enough text m ts (omega arith))

-- the word `static` takes no turn
behind_static : (text : List ℕ) (ts : List Token) → dotted_read (suc (length ts)) text (static_read ts).1 ≡ dotted_at text (static_read ts).1
unfolding dotted_at
behind_static text [] = refl
behind_static text (t ∷ ts) = of_word (is_static t.kind) refl
  where
    of_word : (b : Bool) → is_static t.kind ≡ b →
        dotted_read (suc (length (t ∷ ts))) text (static_read (t ∷ ts)).1 ≡ dotted_read (suc (length (static_read (t ∷ ts)).1)) text (static_read (t ∷ ts)).1
    of_word true h = rw h (sym (dotted_enough text (suc (length ts)) ts (omega arith)))
    of_word false h = rw h refl

pub import_by : (text : List ℕ) (t : Token) (ts : List Token) → import_at text t ts ≡ and_then (dotted_at text (static_read ts).1) (λ found rest.
    if (length found.0 == 1) && not found.1 then None
    else and_then (accept is_semicolon rest)
    (λ u end. Some (record { span = t.span; is_static = (static_read ts).0; parts = found.0; on_demand = found.1 }, end)))
unfolding import_at
import_by text t ts = rw (behind_static text ts) refl

module _ (text : List ℕ) (t : Token) (ts rest : List Token) (parts : List Identifier) (on_demand : Bool) where
  pub import_bare : dotted_at text (static_read ts).1 ≡ Some ((parts, on_demand), rest) → (length parts == 1) && not on_demand ≡ true →
      import_at text t ts ≡ None
  import_bare h b = import_by text t ts ∙ rw (h, b) refl

  pub import_whole : dotted_at text (static_read ts).1 ≡ Some ((parts, on_demand), rest) → (length parts == 1) && not on_demand ≡ false →
      import_at text t ts ≡ and_then (accept is_semicolon rest)
      (λ u end. Some (record { span = t.span; is_static = (static_read ts).0; parts = parts; on_demand = on_demand }, end))
  import_whole h b = import_by text t ts ∙ rw (h, b) refl

-- names with commas between them

pub names_by : (text : List ℕ) (ts : List Token) → names_at text ts ≡ prepend [] (names_read (suc (length ts)) text ts)
unfolding names_at
names_by text ts = sym (prepend_none (names_read (suc (length ts)) text ts))

pub names_zero : (text : List ℕ) (ts : List Token) → names_read zero text ts ≡ None
unfolding names_read
names_zero text ts = refl

pub names_more : (text : List ℕ) (k : ℕ) (ts : List Token) → names_read (suc k) text ts ≡ and_then (name_read text ts) (behind_comma (names_read k text))
unfolding names_read
names_more text k ts = refl

module _ (test : TokenKind → Bool) (text : List ℕ) where
  pub names_absent : (ts : List Token) → sees test ts ≡ false → names_behind_at test text ts ≡ Some ([], ts)
  unfolding names_behind_at
  names_absent ts h = rw h refl

  pub names_stand : (ts : List Token) → sees test ts ≡ true → names_behind_at test text ts ≡ names_at text (drop 1 ts)
  unfolding names_behind_at names_at
  names_stand [] h = cc
  names_stand (t ∷ ts) h = rw h refl

module _ (text : List ℕ) where
  pub superclass_absent : (ts : List Token) → sees is_extends ts ≡ false → superclass_at text ts ≡ Some (None, ts)
  unfolding superclass_at
  superclass_absent ts h = rw h refl

  pub superclass_stands : (ts : List Token) → sees is_extends ts ≡ true →
      superclass_at text ts ≡ and_then (name_read text (drop 1 ts)) (λ n end. Some (Some n, end))
  unfolding superclass_at
  superclass_stands [] h = cc
  superclass_stands (t ∷ ts) h = rw h refl

-- parameters

pub listed_by : (text : List ℕ) (ts : List Token) → listed_at text ts ≡ prepend [] (parameters_listed_read (suc (length ts)) text ts)
unfolding listed_at
listed_by text ts = sym (prepend_none (parameters_listed_read (suc (length ts)) text ts))

pub listed_zero : (text : List ℕ) (ts : List Token) → parameters_listed_read zero text ts ≡ None
unfolding parameters_listed_read
listed_zero text ts = refl

pub listed_more : (text : List ℕ) (k : ℕ) (ts : List Token) →
    parameters_listed_read (suc k) text ts ≡ and_then (parameter_at text ts) (behind_comma (parameters_listed_read k text))
unfolding parameters_listed_read parameter_at
listed_more text k ts = refl

module _ (text : List ℕ) (ts : List Token) where
  pub parameters_fail : accept is_left_paren ts ≡ None → parameters_at text ts ≡ None
  unfolding parameters_at
  parameters_fail h = rw h refl

  pub parameters_none : (t : Token) (rest : List Token) → accept is_left_paren ts ≡ Some (t, rest) → sees is_right_paren rest ≡ true →
      parameters_at text ts ≡ Some ([], drop 1 rest)
  unfolding parameters_at
  parameters_none t [] h s = cc
  parameters_none t (u ∷ rest) h s = simp (h, s)

  pub parameters_some : (t : Token) (rest : List Token) → accept is_left_paren ts ≡ Some (t, rest) → sees is_right_paren rest ≡ false →
      parameters_at text ts ≡ and_then (listed_at text rest) (λ ps behind. and_then (accept is_right_paren behind) (λ u end. Some (ps, end)))
  unfolding parameters_at listed_at
  parameters_some t rest h s = simp (h, s)

  pub result_void : sees is_void ts ≡ true → result_at text ts ≡ Some (None, drop 1 ts)
  unfolding result_at
  result_void h = voids ts h
    where
      voids : (us : List Token) → sees is_void us ≡ true → result_at text us ≡ Some (None, drop 1 us)
      voids [] h = cc
      voids (u ∷ us) h = rw h refl

  pub result_typed : sees is_void ts ≡ false → result_at text ts ≡ and_then (type_read text ts) (λ written end. Some (Some written, end))
  unfolding result_at
  result_typed h = rw h refl

pub body_absent : (text : List ℕ) (room : ℕ) (ts : List Token) → sees is_semicolon ts ≡ true → body_at text room ts ≡ Some (None, drop 1 ts)
unfolding body_at
body_absent text room [] h = cc
body_absent text room (u ∷ us) h = rw h refl

pub body_stands : (text : List ℕ) (room : ℕ) (ts : List Token) → sees is_semicolon ts ≡ false →
    body_at text room ts ≡ and_then (block_at text room ts) (λ b end. Some (Some b, end))
unfolding body_at
body_stands text room ts h = rw h refl
