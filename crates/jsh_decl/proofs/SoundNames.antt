-- The modifiers, names and imports that the reader takes are in the grammar.
use Rattle.std.proofs.Common.{◌≡◌, ℕ, zero, suc, ◌==◌, Bool, true, false, not, ◌&&◌, if◌then◌else◌, List, [], ◌∷◌, ◌++◌, Option, Some, None, length, refl, ap, ◌∙◌, subst}
use Rattle.jsh_tree.specs.declared.token.Token.{Token}
use Rattle.jsh_tree.specs.declared.token.TokenKind.{TokenKind}
use Rattle.jsh_tree.specs.declared.token.TokenKind.TheVariants as token
use Rattle.jsh_tree.specs.declared.modifier.Modifier.{Modifier}
use Rattle.jsh_tree.specs.declared.expression.Identifier.{Identifier}
use Rattle.jsh_tree.specs.declared.declaration.ModifierUse.{ModifierUse}
use Rattle.jsh_parse.specs.Leaves.{identifier_of}
use Rattle.jsh_parse.specs.Marks.{is_dot, is_comma, is_identifier}
use Rattle.jsh_parse.specs.Forms.{is_semicolon}
use Rattle.jsh_parse.specs.Reader.{Read, and_then, sees}
use Rattle.jsh_parse.proofs.Gives.{Gives, given, nothing, weaker_given, then_given, choose, accepts}
use Rattle.jsh_parse.proofs.MarkLemmas.{dot, comma, identifier}
use Rattle.jsh_parse.proofs.FormLemmas.{semicolon}
use Rattle.jsh_parse.proofs.SoundLists.{Front, behind_front, with_last}
use Rattle.jsh_decl.specs.Words.{is_static, is_star, is_extends}
use Rattle.jsh_decl.specs.Declarations.{modifier_of, AreModifiers, IsStatic, AreDotted, IsImport, AreNames, AreNamesBehind, IsSuperclass}
use Rattle.jsh_decl.specs.DeclarationReader.{modifiers_read, static_read, name_read, dotted_read, import_read, names_read, names_behind_read, superclass_read}
use Rattle.jsh_decl.proofs.SoundWords.{static_word, star, extends_word}

-- ---- modifiers

-- modifiers that are allowed stand in front
abbrev pub ModifiersFront : (Modifier → Bool) → List Token → List ModifierUse × List Token → Type 0
ModifiersFront allowed ts found = Front (λ pre. AreModifiers allowed pre found.0) ts found.1

choose_modifiers : (allowed : Modifier → Bool) (ts : List Token) (b : Bool) (x y : List ModifierUse × List Token) →
    (b ≡ true → ModifiersFront allowed ts x) → (b ≡ false → ModifiersFront allowed ts y) → ModifiersFront allowed ts (if b then x else y)
choose_modifiers allowed ts true x y f g = f refl
choose_modifiers allowed ts false x y f g = g refl

by_modifier : (allowed : Modifier → Bool) (ts : List Token) (o : Option Modifier) (x : List ModifierUse × List Token)
    (y : Modifier → List ModifierUse × List Token) →
    (o ≡ None → ModifiersFront allowed ts x) → ((m : Modifier) → o ≡ Some m → ModifiersFront allowed ts (y m)) →
    ModifiersFront allowed ts (elim o [ None ↦ x | Some m ↦ y m ])
by_modifier allowed ts None x y f g = f refl
by_modifier allowed ts (Some m) x y f g = g m refl

pub modifiers_sound : (allowed : Modifier → Bool) (ts : List Token) → ModifiersFront allowed ts (modifiers_read allowed ts)
modifiers_sound allowed [] = ([], refl, AreModifiers.no_modifiers)
modifiers_sound allowed (t ∷ ts) =
    let more = modifiers_sound allowed ts in
    by_modifier allowed (t ∷ ts) (modifier_of t.kind) _ _
    (λ none. ([], refl, AreModifiers.no_modifiers))
    (λ m some. choose_modifiers allowed (t ∷ ts) (allowed m) _ _
    (λ a. (t ∷ more.0, ap (λ x. t ∷ x) more.1, AreModifiers.one_more_modifier t some a more.2))
    (λ a. ([], refl, AreModifiers.no_modifiers)))

-- ---- names

-- what is read behind a name
pub then_name : {B : Type 0} {P : B → List Token → Type 0} (text : List ℕ) (ts : List Token) (f : Identifier → List Token → Read B) →
    ((n : Token) (rest : List Token) → ts ≡ n ∷ rest → n.kind ≡ token.Identifier → Gives P (f (identifier_of text n) rest)) →
    Gives P (and_then (name_read text ts) f)
then_name text [] f g = nothing
then_name {P = P} text (n ∷ rest) f g = at (is_identifier n.kind) refl
  where
    at : (b : Bool) → is_identifier n.kind ≡ b → Gives P (and_then (name_read text (n ∷ rest)) f)
    at true e = rw e (g n rest refl (identifier n.kind e))
    at false e = rw e nothing

pub names_sound : (most : ℕ) (text : List ℕ) (ts : List Token) →
    Gives (λ names rest. Front (λ pre. AreNames text pre names) ts rest) (names_read most text ts)
unfolding names_read
names_sound zero text ts = nothing
names_sound (suc most) text ts =
    then_name text ts _ (λ n rest e k. choose (sees is_comma rest) _ _
    (λ a. then_given _ _ _ (accepts is_comma rest) (λ t behind g. then_given _ _ _ (names_sound most text behind) (λ names end h. given _ _ (
      n ∷ t ∷ h.0,
      e ∙ ap (λ x. n ∷ x) (g.0 ∙ ap (λ x. t ∷ x) h.1),
      AreNames.one_more_name n t k (comma t.kind g.1) h.2,
    ))))
    (λ a. given _ _ (n ∷ [], e, AreNames.last_name n k)))

-- the test is one for the word
pub names_behind_sound : (word : TokenKind) (test : TokenKind → Bool) → ((k : TokenKind) → test k ≡ true → k ≡ word) → (text : List ℕ) (ts : List Token) →
    Gives (λ names rest. Front (λ pre. AreNamesBehind text word pre names) ts rest) (names_behind_read test text ts)
names_behind_sound word test is_word text ts =
    choose (sees test ts) _ _
    (λ a. then_given _ _ _ (accepts test ts) (λ t rest g.
    weaker_given _ _ (names_sound (suc (length rest)) text rest) (λ names end h. (
      t ∷ h.0,
      g.0 ∙ ap (λ x. t ∷ x) h.1,
      AreNamesBehind.some_names t (is_word t.kind g.1) h.2,
    ))))
    (λ a. given _ _ ([], refl, AreNamesBehind.no_names))

pub superclass_sound : (text : List ℕ) (ts : List Token) →
    Gives (λ extends rest. Front (λ pre. IsSuperclass text pre extends) ts rest) (superclass_read text ts)
superclass_sound text ts =
    choose (sees is_extends ts) _ _
    (λ a. then_given _ _ _ (accepts is_extends ts) (λ t rest g. then_name text rest _ (λ n end e k. given _ _ (
      t ∷ n ∷ [],
      g.0 ∙ ap (λ x. t ∷ x) e,
      IsSuperclass.superclass t n (extends_word t.kind g.1) k,
    ))))
    (λ a. given _ _ ([], refl, IsSuperclass.no_superclass))

-- ---- imports

choose_static : (ts : List Token) (b : Bool) (x y : Bool × List Token) → (b ≡ true → Front (λ pre. IsStatic pre x.0) ts x.1) →
    (b ≡ false → Front (λ pre. IsStatic pre y.0) ts y.1) → Front (λ pre. IsStatic pre (if b then x else y).0) ts (if b then x else y).1
choose_static ts true x y f g = f refl
choose_static ts false x y f g = g refl

pub static_sound : (ts : List Token) → Front (λ pre. IsStatic pre (static_read ts).0) ts (static_read ts).1
static_sound [] = ([], refl, IsStatic.not_static)
static_sound (t ∷ ts) = choose_static (t ∷ ts) (is_static t.kind) (true, ts) (false, t ∷ ts)
    (λ a. (t ∷ [], refl, IsStatic.static t (static_word t.kind a)))
    (λ a. ([], refl, IsStatic.not_static))

pub dotted_sound : (most : ℕ) (text : List ℕ) (ts : List Token) →
    Gives (λ found rest. Front (λ pre. AreDotted text pre found.0 found.1) ts rest) (dotted_read most text ts)
unfolding dotted_read
dotted_sound zero text ts = nothing
dotted_sound (suc most) text ts =
    then_name text ts _ (λ n rest e k. choose (sees is_dot rest) _ _
    (λ a. then_given _ _ _ (accepts is_dot rest) (λ d behind g. choose (sees is_star behind) _ _
    (λ b. then_given _ _ _ (accepts is_star behind) (λ s end h. given _ _ (
      n ∷ d ∷ s ∷ [],
      e ∙ ap (λ x. n ∷ x) (g.0 ∙ ap (λ x. d ∷ x) h.0),
      AreDotted.last_with_star n d s k (dot d.kind g.1) (star s.kind h.1),
    )))
    (λ b. then_given _ _ _ (dotted_sound most text behind) (λ more end h. given _ _ (
      n ∷ d ∷ h.0,
      e ∙ ap (λ x. n ∷ x) (g.0 ∙ ap (λ x. d ∷ x) h.1),
      AreDotted.one_more_part n d k (dot d.kind g.1) h.2,
    )))))
    (λ a. given _ _ (n ∷ [], e, AreDotted.last_part n k)))

-- a single name has a star behind it
starred : (parts : ℕ) (on_demand : Bool) → ((parts == 1) && not on_demand) ≡ false → parts ≡ 1 → on_demand ≡ true
starred parts on_demand h e = one on_demand (subst (λ n. ((n == 1) && not on_demand) ≡ false) e h)
  where
    one : (b : Bool) → not b ≡ false → b ≡ true
    one true h = refl
    one false h = cc

pub import_sound : (text : List ℕ) (t : Token) → t.kind ≡ token.Import → (ts : List Token) →
    Gives (λ i rest. Front (λ pre. IsImport text pre i) (t ∷ ts) rest) (import_read text t ts)
import_sound text t word ts =
    let s = static_sound ts in
    then_given _ _ _ (dotted_sound (suc (length ts)) text (static_read ts).1) (λ found rest p.
    choose ((length found.0 == 1) && not found.1) _ _
    (λ a. nothing)
    (λ a. then_given _ _ _ (accepts is_semicolon rest) (λ u end g. given _ _ (
      t ∷ (s.0 ++ (p.0 ++ u ∷ [])),
      ap (λ x. t ∷ x) (behind_front s.0 (p.0 ++ u ∷ []) ts (static_read ts).1 end s.1
          (with_last p.0 (static_read ts).1 end u (p.1 ∙ ap (λ x. p.0 ++ x) g.0))),
      IsImport.imported t u word s.2 p.2 (starred (length found.0) found.1 a) (semicolon u.kind g.1),
    ))))
