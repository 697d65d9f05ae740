-- The types, arguments, sizes and array initializers that the reader takes are in the grammar.
use Rattle.std.proofs.Common.{◌≡◌, ℕ, zero, suc, Bool, true, false, not, ◌&&◌, if◌then◌else◌, List, [], ◌∷◌, ◌++◌, Option, Some, None, refl, ap, sym, ◌∙◌, append_assoc, length}
use Rattle.jsh_tree.specs.declared.token.Token.{Token}
use Rattle.jsh_tree.specs.declared.token.TokenKind.{TokenKind}
use Rattle.jsh_tree.specs.declared.token.TokenKind.TheVariants as token
use Rattle.jsh_tree.specs.declared.expression.TypeUse.{TypeUse}
use Rattle.jsh_tree.specs.declared.expression.Expr.{Expr}
use Rattle.jsh_tree.specs.declared.expression.Initial.{Initial}
use Rattle.jsh_tree.specs.declared.expression.Initial.TheVariants as initial
use Rattle.jsh_parse.specs.Marks.{is_left_paren, is_right_paren, is_left_bracket, is_right_bracket, is_left_brace, is_right_brace, is_comma, begins_operand}
use Rattle.jsh_parse.specs.Leaves.{is_primitive, names_type, type_of, AreBrackets}
use Rattle.jsh_parse.specs.Grammar.{IsExpr, IsConditional, IsUnary, AreSizes, AreArguments, AreListed, AreBraces, AreInitials, IsInitial}
use Rattle.jsh_parse.specs.Reader.{Read, sees, sees_brackets, brackets, type_read, is_cast, Inner, nested, listed, closed_list, arguments, bracketed, sizes, initial_read, initials, braces}
use Rattle.jsh_parse.proofs.Gives.{Gives, given, nothing, weaker_given, then_given, choose, accepts}
use Rattle.jsh_parse.proofs.MarkLemmas.{left_paren, right_paren, left_bracket, right_bracket, left_brace, right_brace, comma}

-- a front of the tokens, of which something holds
abbrev pub Front : (List Token → Type 0) → List Token → List Token → Type 0
Front Is ts rest = (pre : List Token) × (ts ≡ pre ++ rest) × Is pre

-- a front of the tokens, of which something holds, and one more token
pub record Closed (Is : List Token → Type 0) (kind : TokenKind) (ts rest : List Token) : Type 0 where
  pub pre : List Token
  pub last : Token
  pub parts : ts ≡ pre ++ last ∷ rest
  pub closes : last.kind ≡ kind
  pub holds : Is pre

-- what the readers take is in the grammar
pub record IsSound (text : List ℕ) (room : ℕ) (i : Inner) : Type 0 where
  pub expr : (ts : List Token) → Gives (λ e rest. Front (λ pre. IsExpr text room pre e) ts rest) (i.expr ts)
  pub conditional : (ts : List Token) → Gives (λ e rest. Front (λ pre. IsConditional text room pre e) ts rest) (i.conditional ts)
  pub unary : (ts : List Token) → Gives (λ e rest. Front (λ pre. IsUnary text room pre e) ts rest) (i.unary ts)
  pub braces : (ts : List Token) → Gives (λ values rest. Front (λ pre. AreBraces text room pre values) ts rest) (i.braces ts)

-- so it is with what may stand one deeper, where there is room for anything
abbrev pub AreSound : List ℕ → ℕ → Option Inner → Type 0
AreSound text room None = Unit {0}
AreSound text zero (Some i) = ⊥
AreSound text (suc room) (Some i) = IsSound text room i

pub nested_given : {A : Type 0} (text : List ℕ) (P : ℕ → A → List Token → Type 0) (room : ℕ) (inner : Option Inner) (f : Inner → Read A) →
    AreSound text room inner → ((r : ℕ) (i : Inner) → room ≡ suc r → IsSound text r i → Gives (P (suc r)) (f i)) → Gives (P room) (nested inner f)
nested_given text P room None f s g = nothing
nested_given text P zero (Some i) f s g = absurd s
nested_given text P (suc r) (Some i) f s g = g r i refl s

-- ---- how fronts are joined

pub behind_front : (l r ts middle rest : List Token) → ts ≡ l ++ middle → middle ≡ r ++ rest → ts ≡ (l ++ r) ++ rest
behind_front l r ts middle rest e f = e ∙ (ap (λ x. l ++ x) f ∙ sym (append_assoc l r rest))

pub behind_token : (l r ts middle rest : List Token) (t : Token) → ts ≡ l ++ t ∷ middle → middle ≡ r ++ rest → ts ≡ (l ++ t ∷ r) ++ rest
behind_token l r ts middle rest t e f = e ∙ (ap (λ x. l ++ t ∷ x) f ∙ sym (append_assoc l (t ∷ r) rest))

pub with_last : (l ts rest : List Token) (t : Token) → ts ≡ l ++ t ∷ rest → ts ≡ (l ++ t ∷ []) ++ rest
with_last l ts rest t e = e ∙ sym (append_assoc l (t ∷ []) rest)

pub first_then : (ts middle l : List Token) (t : Token) → ts ≡ t ∷ middle → middle ≡ l → ts ≡ t ∷ l
first_then ts middle l t e f = e ∙ ap (λ x. t ∷ x) f

-- ---- types

choose_brackets : (ts : List Token) (b : Bool) (x y : ℕ × List Token) → (b ≡ true → Front (λ pre. AreBrackets pre x.0) ts x.1) →
    (b ≡ false → Front (λ pre. AreBrackets pre y.0) ts y.1) → Front (λ pre. AreBrackets pre (if b then x else y).0) ts (if b then x else y).1
choose_brackets ts true x y f g = f refl
choose_brackets ts false x y f g = g refl

pub and_both : (a b : Bool) → (a && b) ≡ true → (a ≡ true) × (b ≡ true)
and_both true true h = (refl, refl)
and_both true false h = cc
and_both false b h = cc

pub brackets_sound : (ts : List Token) → Front (λ pre. AreBrackets pre (brackets ts).0) ts (brackets ts).1
brackets_sound [] = ([], refl, AreBrackets.none)
brackets_sound (t ∷ []) = ([], refl, AreBrackets.none)
brackets_sound (t ∷ u ∷ ts) =
    choose_brackets (t ∷ u ∷ ts) (is_left_bracket t.kind && is_right_bracket u.kind) (suc (brackets ts).0, (brackets ts).1) (0, t ∷ u ∷ ts)
    (λ h. let more = brackets_sound ts in
    let both = and_both (is_left_bracket t.kind) (is_right_bracket u.kind) h in
    (t ∷ u ∷ more.0, ap (λ x. t ∷ u ∷ x) more.1, AreBrackets.one_more t u (left_bracket t.kind both.0) (right_bracket u.kind both.1) more.2))
    (λ h. ([], refl, AreBrackets.none))

-- a type stands in front
pub record TypeFront (text : List ℕ) (ts : List Token) (target : TypeUse) (rest : List Token) : Type 0 where
  pub word : Token
  pub pairs : List Token
  pub dims : ℕ
  pub parts : ts ≡ word ∷ (pairs ++ rest)
  pub names : names_type word.kind ≡ true
  pub brackets : AreBrackets pairs dims
  pub same : target ≡ type_of text word dims
  pub operand : is_cast ts ≡ true → (u : Token) (us : List Token) → rest ≡ u ∷ us → is_primitive word.kind ≡ false → sees begins_operand us ≡ true

operand_begins : (t : Token) (ts : List Token) → is_cast (t ∷ ts) ≡ true → (u : Token) (us : List Token) → (brackets ts).1 ≡ u ∷ us →
    is_primitive t.kind ≡ false → sees begins_operand us ≡ true
operand_begins t ts h u us e p =
    let closes = (and_both (names_type t.kind) _ (rw (e, p) at h)).1 in
    (and_both (is_right_paren u.kind) (sees begins_operand us) closes).1

pub type_sound : (text : List ℕ) (ts : List Token) → Gives (TypeFront text ts) (type_read text ts)
type_sound text [] = nothing
type_sound text (t ∷ ts) =
    let found = brackets_sound ts in
    choose (names_type t.kind) _ _
    (λ h. given _ _ (record {
      word = t;
      pairs = found.0;
      dims = (brackets ts).0;
      parts = ap (λ x. t ∷ x) found.1;
      names = h;
      brackets = found.2;
      same = refl;
      operand = operand_begins t ts;
    }))
    (λ h. nothing)

-- ---- lists of expressions

listed_sound : (most : ℕ) (text : List ℕ) (room : ℕ) (i : Inner) → IsSound text room i → (ts : List Token) →
    Gives (λ es rest. Front (λ pre. AreListed text room pre es) ts rest) (listed most i ts)
unfolding listed
listed_sound zero text room i s ts = nothing
listed_sound (suc most) text room i s ts =
    then_given _ (i.expr ts) _ (s.expr ts) (λ e. elim [
      | [] ↦ λ h. given _ _ (h.0, h.1, AreListed.last_listed h.2)
      | t ∷ behind ↦ λ h. choose (is_comma t.kind) _ _
          (λ c. then_given _ _ _ (listed_sound most text room i s behind)
          (λ es end g. given _ _ (h.0 ++ t ∷ g.0, behind_token h.0 g.0 ts behind end t h.1 g.1, AreListed.one_more_listed t h.2 (comma t.kind c) g.2)))
          (λ c. given _ _ (h.0, h.1, AreListed.last_listed h.2))
    ])

closed_list_sound : (text : List ℕ) (room : ℕ) (i : Inner) → IsSound text room i → (ts : List Token) →
    Gives (λ es rest. Closed (λ pre. AreListed text room pre es) token.RightParen ts rest) (closed_list i ts)
closed_list_sound text room i s ts =
    then_given _ _ _ (listed_sound (suc (length ts)) text room i s ts) (λ es rest h. then_given _ _ _ (accepts is_right_paren rest) (λ u behind g.
    given _ _ (record { pre = h.0; last = u; parts = h.1 ∙ ap (λ x. h.0 ++ x) g.0; closes = right_paren u.kind g.1; holds = h.2 })))

pub arguments_sound : (text : List ℕ) (room : ℕ) (inner : Option Inner) → AreSound text room inner → (ts : List Token) →
    Gives (λ es rest. Front (λ pre. AreArguments text room pre es) ts rest) (arguments inner ts)
arguments_sound text room inner s ts =
    then_given _ _ _ (accepts is_left_paren ts) (λ t. elim [
      | [] ↦ λ h. nested_given text Given room inner _ s (λ r i same d. nothing)
      | u ∷ us ↦ λ h. nested_given text Given room inner _ s (λ r i same d. choose (is_right_paren u.kind) _ _
          (λ c. given _ _ (t ∷ u ∷ [], h.0, AreArguments.no_arguments t u (left_paren t.kind h.1) (right_paren u.kind c)))
          (λ c. weaker_given _ _ (closed_list_sound text r i d (u ∷ us)) (λ es rest g. (
            t ∷ (g.pre ++ g.last ∷ []),
            first_then ts (u ∷ us) _ t h.0 (with_last g.pre (u ∷ us) rest g.last g.parts),
            AreArguments.some_arguments t g.last (left_paren t.kind h.1) g.holds g.closes,
          ))))
    ])
  where
    Given : ℕ → List Expr → List Token → Type 0
    Given k es rest = Front (λ pre. AreArguments text k pre es) ts rest

pub bracketed_sound : (text : List ℕ) (room : ℕ) (i : Inner) → IsSound text room i → (ts : List Token) →
    Gives (λ e rest. Closed (λ pre. IsExpr text room pre e) token.RightBracket ts rest) (bracketed i ts)
bracketed_sound text room i s ts =
    then_given _ _ _ (s.expr ts) (λ e rest h. then_given _ _ _ (accepts is_right_bracket rest) (λ u behind g.
    given _ _ (record { pre = h.0; last = u; parts = h.1 ∙ ap (λ x. h.0 ++ x) g.0; closes = right_bracket u.kind g.1; holds = h.2 })))

-- the same one deeper, where there is room for it
pub index_sound : (text : List ℕ) (room : ℕ) (inner : Option Inner) → AreSound text room inner → (ts : List Token) →
    Gives (λ e rest. (r : ℕ) × (room ≡ suc r) × Closed (λ pre. IsExpr text r pre e) token.RightBracket ts rest) (nested inner (λ i. bracketed i ts))
index_sound text room inner s ts =
    nested_given text Given room inner _ s (λ r i same d. weaker_given _ _ (bracketed_sound text r i d ts) (λ e rest h. (r, refl, h)))
  where
    Given : ℕ → Expr → List Token → Type 0
    Given k e rest = (r : ℕ) × (k ≡ suc r) × Closed (λ pre. IsExpr text r pre e) token.RightBracket ts rest

-- ---- sizes

-- behind the sizes stands no bracket, or an empty pair
abbrev pub EndsSizes : List Token → Type 0
EndsSizes ts = (sees is_left_bracket ts && not (sees_brackets ts)) ≡ false

one_size : {text : List ℕ} {l more : List Token} {size : Expr} {sizes : List Expr} (room r : ℕ) → room ≡ suc r → (t u : Token) →
    t.kind ≡ token.LeftBracket → IsExpr text r l size → u.kind ≡ token.RightBracket → AreSizes text room more sizes →
    AreSizes text room (t ∷ (l ++ u ∷ more)) (size ∷ sizes)
one_size room r same t u a e b more = rw same (AreSizes.one_more_size t u a e b (rw same at more))

pub sizes_sound : (most : ℕ) (text : List ℕ) (room : ℕ) (inner : Option Inner) → AreSound text room inner → (ts : List Token) →
    Gives (λ es rest. (pre : List Token) × (ts ≡ pre ++ rest) × AreSizes text room pre es × EndsSizes rest) (sizes most inner ts)
unfolding sizes
sizes_sound zero text room inner s ts = nothing
sizes_sound (suc most) text room inner s ts =
    choose (sees is_left_bracket ts && not (sees_brackets ts)) _ _
    (λ more. then_given _ _ _ (accepts is_left_bracket ts) (λ t middle a.
    then_given _ _ _ (index_sound text room inner s middle) (λ e behind g. then_given _ _ _ (sizes_sound most text room inner s behind) (λ es end h.
    given _ _ (
      t ∷ (g.2.pre ++ g.2.last ∷ h.0),
      first_then ts middle _ t a.0 (behind_token g.2.pre h.0 middle behind end g.2.last g.2.parts h.1),
      one_size room g.0 g.1 t g.2.last (left_bracket t.kind a.1) g.2.holds g.2.closes h.2,
      h.3,
    )))))
    (λ ends. given _ _ ([], refl, AreSizes.no_sizes, ends))

-- ---- array initializers

head_same : (t u : Token) (ts us : List Token) → t ∷ ts ≡ u ∷ us → t ≡ u
head_same t u ts us e = cc

-- values in braces begin with the first token
pub braces_first : {text : List ℕ} {room : ℕ} {pre : List Token} {values : List Initial} → AreBraces text room pre values →
    (t : Token) (ts rest : List Token) → t ∷ ts ≡ pre ++ rest → (l : List Token) × (pre ≡ t ∷ l)
braces_first (AreBraces.no_values first last a b) t ts rest e = (last ∷ [], rw (head_same t first ts _ e) refl)
braces_first (AreBraces.some_values {l = l} first last a h b) t ts rest e = (l ++ last ∷ [], rw (head_same t first ts _ e) refl)

array_initial : {text : List ℕ} {room : ℕ} {pre : List Token} {values : List Initial} → AreBraces text room pre values →
    (t : Token) (ts rest : List Token) → t ∷ ts ≡ pre ++ rest → IsInitial text room pre (initial.Array t.span values)
array_initial h t ts rest e = let first = braces_first h t ts rest e in rw first.1 (IsInitial.initial_array t (rw first.1 at h))

pub initial_sound : (text : List ℕ) (room : ℕ) (i : Inner) → IsSound text room i → (ts : List Token) →
    Gives (λ value rest. Front (λ pre. IsInitial text room pre value) ts rest) (initial_read i ts)
initial_sound text room i s [] = nothing
initial_sound text room i s (t ∷ ts) =
    choose (is_left_brace t.kind) _ _
    (λ c. then_given _ _ _ (s.braces (t ∷ ts)) (λ values rest h. given _ _ (h.0, h.1, array_initial h.2 t ts rest h.1)))
    (λ c. then_given _ _ _ (s.expr (t ∷ ts)) (λ e rest h. given _ _ (h.0, h.1, IsInitial.initial_value h.2)))

initials_sound : (most : ℕ) (text : List ℕ) (room : ℕ) (i : Inner) → IsSound text room i → (ts : List Token) →
    Gives (λ values rest. Closed (λ pre. AreInitials text room pre values) token.RightBrace ts rest) (initials most i ts)
unfolding initials
initials_sound zero text room i s ts = nothing
initials_sound (suc most) text room i s ts =
    then_given _ _ _ (initial_sound text room i s ts) (λ value. elim [
      | [] ↦ λ h. nothing
      | t ∷ behind ↦ λ h. choose (is_right_brace t.kind) _ _
          (λ b. given _ _ (record { pre = h.0; last = t; parts = h.1; closes = right_brace t.kind b; holds = AreInitials.last_initial h.2 }))
          (λ b. choose (is_comma t.kind) _ _
          (λ c. choose (sees is_right_brace behind) _ _
          (λ d. then_given _ _ _ (accepts is_right_brace behind) (λ u end g. given _ _ (record {
            pre = h.0 ++ t ∷ [];
            last = u;
            parts = with_last h.0 ts behind t h.1 ∙ ap (λ x. (h.0 ++ t ∷ []) ++ x) g.0;
            closes = right_brace u.kind g.1;
            holds = AreInitials.last_with_comma t h.2 (comma t.kind c);
          })))
          (λ d. then_given _ _ _ (initials_sound most text room i s behind) (λ values end g. given _ _ (record {
            pre = h.0 ++ t ∷ g.pre;
            last = g.last;
            parts = behind_token h.0 g.pre ts behind (g.last ∷ end) t h.1 g.parts;
            closes = g.closes;
            holds = AreInitials.one_more_initial t h.2 (comma t.kind c) g.holds;
          }))))
          (λ c. nothing))
    ])

pub braces_sound : (text : List ℕ) (room : ℕ) (inner : Option Inner) → AreSound text room inner → (ts : List Token) →
    Gives (λ values rest. Front (λ pre. AreBraces text room pre values) ts rest) (braces inner ts)
braces_sound text room inner s ts =
    then_given _ _ _ (accepts is_left_brace ts) (λ t. elim [
      | [] ↦ λ h. nested_given text Given room inner _ s (λ r i same d. nothing)
      | u ∷ us ↦ λ h. nested_given text Given room inner _ s (λ r i same d. choose (is_right_brace u.kind) _ _
          (λ c. given _ _ (t ∷ u ∷ [], h.0, AreBraces.no_values t u (left_brace t.kind h.1) (right_brace u.kind c)))
          (λ c. weaker_given _ _ (initials_sound (suc (length (u ∷ us))) text r i d (u ∷ us)) (λ values rest g. (
            t ∷ (g.pre ++ g.last ∷ []),
            first_then ts (u ∷ us) _ t h.0 (with_last g.pre (u ∷ us) rest g.last g.parts),
            AreBraces.some_values t g.last (left_brace t.kind h.1) g.holds g.closes,
          ))))
    ])
  where
    Given : ℕ → List Initial → List Token → Type 0
    Given k values rest = Front (λ pre. AreBraces text k pre values) ts rest
