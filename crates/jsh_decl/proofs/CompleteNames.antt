-- Modifiers, names, parameters and imports are read, where something follows that doesn't go on with them.
use Rattle.std.proofs.Common.{◌≡◌, ℕ, zero, suc, ◌<◌, ◌==◌, Bool, true, false, not, ◌&&◌, List, [], ◌∷◌, ◌++◌, Option, Some, None, length, refl, arith, append_assoc, length-append, ne_eqb}
use Rattle.jsh_tree.specs.declared.token.Token.{Token}
use Rattle.jsh_tree.specs.declared.token.TokenKind.{TokenKind}
use Rattle.jsh_tree.specs.declared.token.TokenKind.TheVariants as token
use Rattle.jsh_tree.specs.declared.modifier.Modifier.{Modifier}
use Rattle.jsh_tree.specs.declared.expression.Identifier.{Identifier}
use Rattle.jsh_tree.specs.declared.expression.TypeUse.{TypeUse}
use Rattle.jsh_tree.specs.declared.declaration.ModifierUse.{ModifierUse}
use Rattle.jsh_tree.specs.declared.declaration.Import.{Import}
use Rattle.jsh_tree.specs.declared.declaration.Parameter.{Parameter}
use Rattle.jsh_tree.specs.declared.tree.Tree.TheVariants as tree
use Rattle.jsh_parse.specs.Leaves.{names_type}
use Rattle.jsh_parse.specs.Marks.{is_right_paren, is_dot, is_comma}
use Rattle.jsh_parse.specs.Statements as statement
use Rattle.jsh_parse.specs.Statements.{IsFinal, IsType}
use Rattle.jsh_parse.specs.Reader.{and_then, accept, sees}
use Rattle.jsh_parse.proofs.Steps.{brackets-all}
use Rattle.jsh_parse.proofs.Pieces.{ReadsFree}
use Rattle.jsh_parse.proofs.StatementFronts.{type-word, name-no_brackets, read-final}
use Rattle.jsh_decl.specs.Words.{is_import, is_static, is_star, is_extends}
use Rattle.jsh_decl.specs.Declarations as grammar
use Rattle.jsh_decl.specs.Declarations.{modifier_of, AreModifiers, IsStatic, AreDotted, IsImport, AreNames, AreNamesBehind, IsSuperclass, IsParameter, AreParametersListed, AreParameters, IsResult}
use Rattle.jsh_decl.specs.DeclarationReader.{modifiers_read, static_read, dotted_read, import_read, names_read, names_behind_read, superclass_read, parameter_read, parameters_listed_read, parameters_read, result_read}
use Rattle.jsh_decl.proofs.Fronts.{type-bare}

-- ---- modifiers

-- the tokens begin with no modifier
abbrev pub Unmodified : List Token → Type 0
Unmodified [] = Unit {0}
Unmodified (t ∷ ts) = modifier_of t.kind ≡ None

pub reads-modifiers : {allowed : Modifier → Bool} {q : List Token} {ms : List ModifierUse} → AreModifiers allowed q ms → (rest : List Token) → Unmodified rest →
    modifiers_read allowed (q ++ rest) ≡ (ms, rest)
reads-modifiers grammar.no_modifiers [] none = refl
reads-modifiers grammar.no_modifiers (t ∷ rest) none = rw none refl
reads-modifiers (grammar.one_more_modifier t is may d) rest none = rw (is, may, reads-modifiers d rest none) refl

-- ---- imports

reads-static : {s : List Token} {is : Bool} → IsStatic s is → (rest : List Token) → sees is_static rest ≡ false → static_read (s ++ rest) ≡ (is, rest)
reads-static grammar.not_static [] none = refl
reads-static grammar.not_static (t ∷ rest) none = rw none refl
reads-static (grammar.static t h) rest none = rw h refl

-- a name stands first
dotted-named : {text : List ℕ} {ts : List Token} {parts : List Identifier} {star : Bool} → AreDotted text ts parts star → (more : List Token) →
    (sees is_static (ts ++ more) ≡ false) × (sees is_star (ts ++ more) ≡ false)
dotted-named (grammar.last_part n hn) more = rw hn (refl, refl)
dotted-named (grammar.last_with_star n d s hn hd hs) more = rw hn (refl, refl)
dotted-named (grammar.one_more_part n d hn hd ds) more = rw hn (refl, refl)

reads-dotted : {text : List ℕ} {ts : List Token} {parts : List Identifier} {star : Bool} → AreDotted text ts parts star → (most : ℕ) → length ts < most →
    (rest : List Token) → sees is_dot rest ≡ false → dotted_read most text (ts ++ rest) ≡ Some ((parts, star), rest)
unfolding dotted_read
reads-dotted d zero h rest none = absurd (omega arith)
reads-dotted (grammar.last_part n hn) (suc most) h rest none = rw (hn, none) refl
reads-dotted (grammar.last_with_star n d s hn hd hs) (suc most) h rest none = rw (hn, hd, hs) refl
reads-dotted (grammar.one_more_part {r = r} n d hn hd ds) (suc most) h rest none =
    rw (hn, hd, (dotted-named ds rest).1, reads-dotted {ts = r} ds most (omega arith) rest none) refl

-- one name alone is imported only with a star
not_alone : (count : ℕ) (star : Bool) → (count ≡ 1 → star ≡ true) → ((count == 1) && not star) ≡ false
not_alone zero star h = refl
not_alone (suc zero) star h = rw (h refl) refl
not_alone (suc (suc count)) star h = let more = ne_eqb (suc (suc count)) 1 (omega arith) in rw more refl

pub import-front : {text : List ℕ} {ts : List Token} {i : Import} → IsImport text ts i → (more : List Token) → sees is_import (ts ++ more) ≡ true
import-front (grammar.imported t u h ds dp alone hu) more = rw h refl

pub reads-import : {text : List ℕ} {ts : List Token} {i : Import} → IsImport text ts i → (rest : List Token) →
    and_then (accept is_import (ts ++ rest)) (λ t behind. and_then (import_read text t behind) (λ found end. Some (tree.Import found, end))) ≡
    Some (tree.Import i, rest)
reads-import {text = text} (grammar.imported {s = s} {p = p} {is_static = is} {on_demand = star} {parts = parts} t u h ds dp alone hu) rest =
    let last : sees is_dot (u ∷ rest) ≡ false = rw hu refl in
    let behind = s ++ (p ++ u ∷ rest) in
    let names = reads-dotted dp (suc (length behind)) (omega (arith, length-append s (p ++ u ∷ rest), length-append p (u ∷ rest))) (u ∷ rest) last in
    rw (
      h,
      append_assoc s (p ++ u ∷ []) rest,
      append_assoc p (u ∷ []) rest,
      reads-static ds (p ++ u ∷ rest) (dotted-named dp (u ∷ rest)).0,
      names,
      not_alone (length parts) star alone,
      hu,
    ) refl

-- ---- names

reads-names : {text : List ℕ} {ts : List Token} {names : List Identifier} → AreNames text ts names → (most : ℕ) → length ts < most →
    (rest : List Token) → sees is_comma rest ≡ false → names_read most text (ts ++ rest) ≡ Some (names, rest)
unfolding names_read
reads-names d zero h rest none = absurd (omega arith)
reads-names (grammar.last_name n hn) (suc most) h rest none = rw (hn, none) refl
reads-names (grammar.one_more_name {r = r} n t hn ht ds) (suc most) h rest none = rw (hn, ht, reads-names {ts = r} ds most (omega arith) rest none) refl

-- names behind a word are read, where neither the word nor a comma follows
pub reads-names_behind : {text : List ℕ} {word : TokenKind} {ts : List Token} {names : List Identifier} → AreNamesBehind text word ts names →
    (test : TokenKind → Bool) → test word ≡ true → (rest : List Token) → sees test rest ≡ false → sees is_comma rest ≡ false →
    names_behind_read test text (ts ++ rest) ≡ Some (names, rest)
reads-names_behind grammar.no_names test is rest no_word no_comma = rw no_word refl
reads-names_behind (grammar.some_names {l = l} t h d) test is rest no_word no_comma =
    let names = reads-names d (suc (length (l ++ rest))) (omega (arith, length-append l rest)) rest no_comma in
    rw (h, is, names) refl

pub reads-superclass : {text : List ℕ} {ts : List Token} {extends : Option Identifier} → IsSuperclass text ts extends → (rest : List Token) →
    sees is_extends rest ≡ false → superclass_read text (ts ++ rest) ≡ Some (extends, rest)
reads-superclass grammar.no_superclass rest none = rw none refl
reads-superclass (grammar.superclass t n h hn) rest none = rw (h, hn) refl

-- ---- parameters

reads-parameter : {text : List ℕ} {ts : List Token} {p : Parameter} → IsParameter text ts p → ReadsFree (parameter_read text) ts p
reads-parameter (grammar.parameter {f = f} n modifier (statement.named {b = b} m hm pairs) hn) rest =
    rw (
      append_assoc f ((m ∷ b) ++ n ∷ []) rest,
      append_assoc b (n ∷ []) rest,
      read-final modifier (m ∷ (b ++ n ∷ rest)) (type-word m.kind hm).0,
      hm,
      brackets-all pairs (n ∷ rest) (name-no_brackets n rest hn),
      hn,
    ) refl

type-no_paren : (k : TokenKind) → names_type k ≡ true → is_right_paren k ≡ false
type-no_paren token.RightParen h = cc
type-no_paren _ h = grind arith

parameter-no_paren : {text : List ℕ} {ts : List Token} {p : Parameter} → IsParameter text ts p → (more : List Token) → sees is_right_paren (ts ++ more) ≡ false
parameter-no_paren (grammar.parameter n statement.not_final (statement.named m hm pairs) hn) more = type-no_paren m.kind hm
parameter-no_paren (grammar.parameter n (statement.final t h) written hn) more = rw h refl

parameters-no_paren : {text : List ℕ} {ts : List Token} {ps : List Parameter} → AreParametersListed text ts ps → (more : List Token) →
    sees is_right_paren (ts ++ more) ≡ false
parameters-no_paren (grammar.last_parameter d) more = parameter-no_paren d more
parameters-no_paren (grammar.one_more_parameter {l = l} {r = r} t d h ds) more = rw (append_assoc l (t ∷ r) more) (parameter-no_paren d (t ∷ (r ++ more)))

reads-parameters_listed : {text : List ℕ} {ts : List Token} {ps : List Parameter} → AreParametersListed text ts ps → (most : ℕ) → length ts < most →
    (rest : List Token) → sees is_comma rest ≡ false → parameters_listed_read most text (ts ++ rest) ≡ Some (ps, rest)
unfolding parameters_listed_read
reads-parameters_listed d zero h rest none = absurd (omega arith)
reads-parameters_listed (grammar.last_parameter d) (suc most) h rest none = rw (reads-parameter d rest, none) refl
reads-parameters_listed (grammar.one_more_parameter {l = l} {r = r} t d ht ds) (suc most) h rest none =
    let others = reads-parameters_listed ds most (omega (arith, length-append l (t ∷ r))) rest none in
    rw (append_assoc l (t ∷ r) rest, reads-parameter d (t ∷ (r ++ rest)), ht, others) refl

pub reads-parameters : {text : List ℕ} {ts : List Token} {ps : List Parameter} → AreParameters text ts ps → ReadsFree (parameters_read text) ts ps
reads-parameters (grammar.no_parameters t u h hu) rest = rw (h, hu) refl
reads-parameters (grammar.some_parameters {l = l} t u h d hu) rest =
    let last : sees is_comma (u ∷ rest) ≡ false = rw hu refl in
    let listed = reads-parameters_listed d (suc (length (l ++ u ∷ rest))) (omega (arith, length-append l (u ∷ rest))) (u ∷ rest) last in
    rw (h, append_assoc l (u ∷ []) rest, parameters-no_paren d (u ∷ rest), listed, hu) refl

-- ---- results

-- a result is read, where a name follows
pub reads-result : {text : List ℕ} {ts : List Token} {result : Option TypeUse} → IsResult text ts result → (n : Token) → n.kind ≡ token.Identifier →
    (rest : List Token) → result_read text (ts ++ n ∷ rest) ≡ Some (result, n ∷ rest)
reads-result (grammar.void t h) n hn rest = rw h refl
reads-result (grammar.typed (statement.named m hm pairs)) n hn rest =
    rw ((type-bare m.kind hm).4, hm, brackets-all pairs (n ∷ rest) (name-no_brackets n rest hn)) refl
