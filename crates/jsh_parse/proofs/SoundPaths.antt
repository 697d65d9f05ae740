-- The primary expressions that the reader takes, and what it takes behind them, are in the grammar.
use Rattle.std.proofs.Common.{◌≡◌, ℕ, zero, suc, ◌+◌, ◌==◌, ◌<◌, Bool, true, false, not, ◌&&◌, if◌then◌else◌, List, [], ◌∷◌, ◌++◌, Option, refl, ap, sym, ◌∙◌, length, arith, eqb-true}
use Rattle.jsh_tree.specs.declared.token.Token.{Token}
use Rattle.jsh_tree.specs.declared.token.TokenKind.TheVariants as token
use Rattle.jsh_tree.specs.declared.expression.Expr.{Expr}
use Rattle.jsh_tree.specs.declared.expression.Expr.TheVariants as tree
use Rattle.jsh_tree.specs.declared.expression.Initial.{Initial}
use Rattle.jsh_tree.specs.declared.expression.PathPart.{PathPart}
use Rattle.jsh_tree.specs.declared.expression.PathPart.TheVariants as part
use Rattle.jsh_parse.specs.Operators.{postfix_operator}
use Rattle.jsh_parse.specs.Marks.{is_left_paren, is_right_paren, is_left_bracket, is_right_bracket, is_dot, is_identifier, is_this, is_super, is_new}
use Rattle.jsh_parse.specs.Leaves.{literal_of, identifier_of, names_type, type_of, AreBrackets, is_target, is_open_creation, begins_with_index}
use Rattle.jsh_parse.specs.Grammar.{IsExpr, IsPostfix, IsPath, AreParts, IsPrimary, AreBraces}
use Rattle.jsh_parse.specs.Reader.{sees, sees_brackets, brackets, Inner, creation, primary, parts, path, postfix_read}
use Rattle.jsh_parse.proofs.Gives.{Gives, given, nothing, then_given, choose, by_option, by_list, accepts}
use Rattle.jsh_parse.proofs.MarkLemmas.{left_paren, right_paren, left_bracket, dot, identifier, this, super, new}
use Rattle.jsh_parse.proofs.LayerLemmas.{open-Literal, open-This, open-Parenthesized, open-Name, open-Call, open-SuperCall, open-New, open-NewArray, open-NewArrayOf, index-Field, index-Call}
use Rattle.jsh_parse.proofs.SoundLists.{Front, AreSound, nested_given, brackets_sound, EndsSizes, arguments_sound, sizes_sound, index_sound, braces_first, braces_sound, and_both, behind_front, behind_token, with_last}

-- a primary stands in front, and no bracket behind it if it is a creation that would have taken it
pub record PrimaryFront (text : List ℕ) (room : ℕ) (ts : List Token) (e : Expr) (rest : List Token) : Type 0 where
  pub pre : List Token
  pub parts : ts ≡ pre ++ rest
  pub holds : IsPrimary text room pre e
  pub ends : is_open_creation e ≡ true → sees is_left_bracket rest ≡ false

-- what is false doesn't hold
pub impossible : {P : Type 0} (b : Bool) → b ≡ false → b ≡ true → P
impossible b k h = cc

some_pair : (ts : List Token) → sees_brackets ts ≡ true → 0 < (brackets ts).0
some_pair [] h = cc
some_pair (t ∷ []) h = let no = (and_both (is_left_bracket t.kind) false h).1 in cc
some_pair (t ∷ u ∷ ts) h = rw h (omega arith)

no_pair : (n dims : ℕ) → (suc n == suc n + dims) ≡ true → dims ≡ 0
no_pair n dims h = let same = eqb-true (suc n) (suc n + dims) h in omega arith

-- where no pair of brackets stands, and no size, no bracket does
no_bracket : (ts : List Token) → (brackets ts).0 ≡ 0 → EndsSizes ts → sees is_left_bracket (brackets ts).1 ≡ false
no_bracket [] none ends = refl
no_bracket (t ∷ []) none ends = go (is_left_bracket t.kind) ends
  where
    go : (b : Bool) → (b && not (b && false)) ≡ false → b ≡ false
    go true h = cc
    go false h = refl
no_bracket (t ∷ u ∷ ts) none ends = go (is_left_bracket t.kind) refl (is_right_bracket u.kind) none ends
  where
    taken : Bool → ℕ × List Token
    taken b = if b then (suc (brackets ts).0, (brackets ts).1) else (0, t ∷ u ∷ ts)

    go : (a : Bool) → is_left_bracket t.kind ≡ a → (b : Bool) → (taken (a && b)).0 ≡ 0 → (a && not (a && b)) ≡ false → sees is_left_bracket (taken (a && b)).1 ≡ false
    go true e true z h = cc
    go true e false z h = cc
    go false e b z h = e

array_of : {text : List ℕ} {room dims : ℕ} {b pre : List Token} {values : List Initial} (t n u : Token) →
    t.kind ≡ token.New → names_type n.kind ≡ true → AreBrackets b dims → 0 < dims → AreBraces text room pre values →
    (us rest : List Token) → u ∷ us ≡ pre ++ rest → IsPrimary text room (t ∷ n ∷ (b ++ pre)) (tree.NewArrayOf t.span (type_of text n dims) u.span values)
array_of t n u word names b some h us rest e = let first = braces_first h u us rest e in rw first.1 (IsPrimary.new_array_of t n u word names b some (rw first.1 at h))

creation_sound : (text : List ℕ) (room : ℕ) (inner : Option Inner) → AreSound text room inner → (t n : Token) → t.kind ≡ token.New → names_type n.kind ≡ true →
    (all ts : List Token) → all ≡ t ∷ n ∷ ts → Gives (PrimaryFront text room all) (creation text inner t n ts)
creation_sound text room inner s t n word names all ts e =
    choose (sees is_left_paren ts) _ _
    (λ a. choose (is_identifier n.kind) _ _
    (λ b. then_given _ _ _ (arguments_sound text room inner s ts) (λ es rest g. given _ _ (record {
      pre = t ∷ n ∷ g.0;
      parts = e ∙ ap (λ x. t ∷ n ∷ x) g.1;
      holds = IsPrimary.new_object t n word (identifier n.kind b) g.2;
      ends = impossible _ (open-New t.span (identifier_of text n) es);
    })))
    (λ b. nothing))
    (λ a. choose (sees_brackets ts) _ _
    (λ b. let found = brackets_sound ts in
    by_list (brackets ts).1 _ _ (λ c. nothing) (λ u us c. then_given _ _ _ (braces_sound text room inner s (u ∷ us)) (λ values rest g. given _ _ (record {
      pre = t ∷ n ∷ (found.0 ++ g.0);
      parts = e ∙ ap (λ x. t ∷ n ∷ x) (behind_front found.0 g.0 ts (u ∷ us) rest (found.1 ∙ ap (λ x. found.0 ++ x) c) g.1);
      holds = array_of t n u word names found.2 (some_pair ts b) g.2 us rest g.1;
      ends = impossible _ (open-NewArrayOf t.span (type_of text n (brackets ts).0) u.span values);
    }))))
    (λ b. then_given _ _ _ (sizes_sound (suc (length ts)) text room inner s ts) (elim [
      | [] ↦ λ rest g. nothing
      | size ∷ sizes ↦ λ rest g. let found = brackets_sound rest in
          given _ _ (record {
            pre = t ∷ n ∷ (g.0 ++ found.0);
            parts = e ∙ ap (λ x. t ∷ n ∷ x) (behind_front g.0 found.0 ts rest (brackets rest).1 g.1 found.1);
            holds = IsPrimary.new_array t n word names g.2 (λ d. cc) found.2;
            ends = λ d. no_bracket rest
                (no_pair (length sizes) (brackets rest).0 (sym (open-NewArray t.span (type_of text n (suc (length sizes) + (brackets rest).0)) (size ∷ sizes)) ∙ d)) g.3;
          })
    ])))

primary_sound : (text : List ℕ) (room : ℕ) (inner : Option Inner) → AreSound text room inner → (ts : List Token) →
    Gives (PrimaryFront text room ts) (primary text inner ts)
primary_sound text room inner s [] = nothing
primary_sound text room inner s (t ∷ ts) =
    by_option (literal_of text t) _ _
    (λ none. choose (is_identifier t.kind) _ _
    (λ a. choose (sees is_left_paren ts) _ _
    (λ b. then_given _ _ _ (arguments_sound text room inner s ts) (λ es rest g. given _ _ (record {
      pre = t ∷ g.0;
      parts = ap (λ x. t ∷ x) g.1;
      holds = IsPrimary.call t (identifier t.kind a) g.2;
      ends = impossible _ (open-Call (identifier_of text t) es);
    })))
    (λ b. given _ _ (record {
      pre = t ∷ [];
      parts = refl;
      holds = IsPrimary.name t (identifier t.kind a);
      ends = impossible _ (open-Name (identifier_of text t));
    })))
    (λ a. choose (is_left_paren t.kind) _ _
    (λ b. nested_given text Given room inner _ s (λ r i same d. then_given _ _ _ (d.expr ts) (λ e rest g.
    then_given _ _ _ (accepts is_right_paren rest) (λ u behind h. given _ _ (record {
      pre = t ∷ (g.0 ++ u ∷ []);
      parts = ap (λ x. t ∷ x) (with_last g.0 ts behind u (g.1 ∙ ap (λ x. g.0 ++ x) h.0));
      holds = IsPrimary.parenthesized t u (left_paren t.kind b) g.2 (right_paren u.kind h.1);
      ends = impossible _ (open-Parenthesized t.span e);
    })))))
    (λ b. choose (is_this t.kind) _ _
    (λ c. given _ _ (record { pre = t ∷ []; parts = refl; holds = IsPrimary.this t (this t.kind c); ends = impossible _ (open-This t.span) }))
    (λ c. choose (is_super t.kind) _ _
    (λ d. then_given _ _ _ (accepts is_dot ts) (λ u rest g. then_given _ _ _ (accepts is_identifier rest) (λ n behind h.
    then_given _ _ _ (arguments_sound text room inner s behind) (λ es end k. given _ _ (record {
      pre = t ∷ u ∷ n ∷ k.0;
      parts = ap (λ x. t ∷ x) (g.0 ∙ ap (λ x. u ∷ x) (h.0 ∙ ap (λ x. n ∷ x) k.1));
      holds = IsPrimary.super_call t u n (super t.kind d) (dot u.kind g.1) (identifier n.kind h.1) k.2;
      ends = impossible _ (open-SuperCall t.span (identifier_of text n) es);
    })))))
    (λ d. choose (is_new t.kind) _ _
    (λ f. then_given _ _ _ (accepts names_type ts) (λ n rest g.
    creation_sound text room inner s t n (new t.kind f) g.1 (t ∷ ts) rest (ap (λ x. t ∷ x) g.0)))
    (λ f. nothing))))))
    (λ value some. given _ _ (record { pre = t ∷ []; parts = refl; holds = IsPrimary.literal t value some; ends = impossible _ (open-Literal t.span value) }))
  where
    Given : ℕ → Expr → List Token → Type 0
    Given k e rest = PrimaryFront text k (t ∷ ts) e rest

-- ---- what stands behind a primary

one_index : {text : List ℕ} {l more : List Token} {inner : Expr} {parts : List PathPart} (room r : ℕ) → room ≡ suc r → (t u : Token) →
    t.kind ≡ token.LeftBracket → IsExpr text r l inner → u.kind ≡ token.RightBracket → AreParts text room more parts →
    AreParts text room (t ∷ (l ++ u ∷ more)) (part.Index inner ∷ parts)
one_index room r same t u a e b more = rw same (AreParts.one_more_index t u a e b (rw same at more))

parts_sound : (most : ℕ) (text : List ℕ) (room : ℕ) (inner : Option Inner) → AreSound text room inner → (ts : List Token) →
    Gives (λ ps rest. (pre : List Token) × (ts ≡ pre ++ rest) × AreParts text room pre ps × (begins_with_index ps ≡ true → sees is_left_bracket ts ≡ true)) (parts most text inner ts)
unfolding parts
parts_sound zero text room inner s ts = nothing
parts_sound (suc most) text room inner s [] = given _ _ ([], refl, AreParts.no_parts, λ c. impossible _ refl c)
parts_sound (suc most) text room inner s (t ∷ ts) =
    choose (is_dot t.kind) _ _
    (λ a. then_given _ _ _ (accepts is_identifier ts) (λ n rest h. choose (sees is_left_paren rest) _ _
    (λ b. then_given _ _ _ (arguments_sound text room inner s rest) (λ es behind g. then_given _ _ _ (parts_sound most text room inner s behind) (λ more end k.
    given _ _ (
      t ∷ n ∷ (g.0 ++ k.0),
      ap (λ x. t ∷ x) (h.0 ∙ ap (λ x. n ∷ x) (behind_front g.0 k.0 rest behind end g.1 k.1)),
      AreParts.one_more_call t n (dot t.kind a) (identifier n.kind h.1) g.2 k.2,
      impossible _ (index-Call (identifier_of text n) es more),
    ))))
    (λ b. then_given _ _ _ (parts_sound most text room inner s rest) (λ more end k.
    given _ _ (
      t ∷ n ∷ k.0,
      ap (λ x. t ∷ x) (h.0 ∙ ap (λ x. n ∷ x) k.1),
      AreParts.one_more_field t n (dot t.kind a) (identifier n.kind h.1) k.2,
      impossible _ (index-Field (identifier_of text n) more),
    )))))
    (λ a. choose (is_left_bracket t.kind) _ _
    (λ b. then_given _ _ _ (index_sound text room inner s ts) (λ e behind g. then_given _ _ _ (parts_sound most text room inner s behind) (λ more end k.
    given _ _ (
      t ∷ (g.2.pre ++ g.2.last ∷ k.0),
      ap (λ x. t ∷ x) (behind_token g.2.pre k.0 ts behind end g.2.last g.2.parts k.1),
      one_index room g.0 g.1 t g.2.last (left_bracket t.kind b) g.2.holds g.2.closes k.2,
      λ c. b,
    ))))
    (λ b. given _ _ ([], refl, AreParts.no_parts, λ c. impossible _ refl c)))

no_part : {text : List ℕ} {room : ℕ} {ts : List Token} → AreParts text room ts [] → ts ≡ []
no_part AreParts.no_parts = refl

-- no index behind a creation that would have taken it
apart : (a b bracket : Bool) → (a ≡ true → bracket ≡ false) → (b ≡ true → bracket ≡ true) → (a && b) ≡ false
apart true true bracket f g = sym (g refl) ∙ f refl
apart true false bracket f g = refl
apart false b bracket f g = refl

pub path_sound : (text : List ℕ) (room : ℕ) (inner : Option Inner) → AreSound text room inner → (ts : List Token) →
    Gives (λ e rest. Front (λ pre. IsPath text room pre e) ts rest) (path text inner ts)
path_sound text room inner s ts =
    then_given _ _ _ (primary_sound text room inner s ts) (λ first rest h.
    then_given _ _ _ (parts_sound (suc (length rest)) text room inner s rest) (elim [
      | [] ↦ λ behind g. given _ _ (h.pre, h.parts ∙ ap (λ x. h.pre ++ x) (g.1 ∙ ap (λ x. x ++ behind) (no_part g.2)), IsPath.alone h.holds)
      | p ∷ ps ↦ λ behind g. given _ _ (
        h.pre ++ g.0,
        behind_front h.pre g.0 ts rest behind h.parts g.1,
        IsPath.with_parts h.holds g.2 (λ c. cc) (apart (is_open_creation first) (begins_with_index (p ∷ ps)) (sees is_left_bracket rest) h.ends g.3),
      )
    ]))

pub postfix_sound : (text : List ℕ) (room : ℕ) (inner : Option Inner) → AreSound text room inner → (ts : List Token) →
    Gives (λ e rest. Front (λ pre. IsPostfix text room pre e) ts rest) (postfix_read text inner ts)
postfix_sound text room inner s ts =
    then_given _ _ _ (path_sound text room inner s ts) (λ e. elim [
      | [] ↦ λ h. given _ _ (h.0, h.1, IsPostfix.unstepped h.2)
      | t ∷ rest ↦ λ h. by_option (postfix_operator t.kind) _ _
          (λ a. given _ _ (h.0, h.1, IsPostfix.unstepped h.2))
          (λ op a. choose (is_target e) _ _
          (λ b. given _ _ (h.0 ++ t ∷ [], with_last h.0 ts rest t h.1, IsPostfix.stepped t op h.2 b a))
          (λ b. nothing))
    ])
