-- What the reader takes is in the grammar.
use Rattle.std.proofs.Common.{◌≡◌, ℕ, zero, suc, ◌+◌, ◌-◌, ◌==◌, ◌<◌, Bool, true, false, not, ◌&&◌, ◌≢◌, List, [], ◌∷◌, ◌++◌, Option, Some, None, refl, ap, ◌∙◌, length, arith, eqb-true, append-nil, length-append}
use Rattle.jsh_tree.specs.declared.token.Token.{Token}
use Rattle.jsh_tree.specs.declared.token.TokenKind.TheVariants as token
use Rattle.jsh_tree.specs.declared.expression.TypeUse.{TypeUse}
use Rattle.jsh_tree.specs.declared.expression.Expr.{Expr}
use Rattle.jsh_tree.specs.declared.expression.Operation.{Operation}
use Rattle.jsh_tree.specs.declared.expression.Operation.TheVariants as operation
use Rattle.jsh_tree.specs.declared.expression.Initial.{Initial}
use Rattle.jsh_parse.specs.Operators.{binary_operator, level_of, comparison_level, operand_level, assign_operator, unary_operator}
use Rattle.jsh_parse.specs.Marks.{is_left_paren, is_right_paren, is_question, is_colon, is_instanceof}
use Rattle.jsh_parse.specs.Leaves.{type_of, is_step, is_target}
use Rattle.jsh_parse.specs.Grammar.{IsExpr, IsConditional, IsLevel, AreOperations, IsUnary, IsPostfix, IsPath, IsPrimary, AreBraces}
use Rattle.jsh_parse.specs.Reader.{Read, is_cast, Inner, unary_read, operations, level_read, conditional_read, expr_read, readers_over, readers}
use Rattle.jsh_parse.proofs.Gives.{Gives, given, nothing, of_given, weaker_given, then_given, choose, by_option, accepts}
use Rattle.jsh_parse.proofs.MarkLemmas.{left_paren, right_paren, question, colon, instanceof, without_sign}
use Rattle.jsh_parse.proofs.LayerLemmas.{target-Conditional, target-Binary, target-Unary, target-Cast}
use Rattle.jsh_parse.proofs.SoundLists.{Front, IsSound, AreSound, nested_given, TypeFront, type_sound, braces_sound, and_both, behind_front, behind_token}
use Rattle.jsh_parse.proofs.SoundPaths.{impossible, postfix_sound}

-- ---- one operand

steps_target : (step target : Bool) → (step && not target) ≡ false → step ≡ true → target ≡ true
steps_target true true h e = refl
steps_target true false h e = cc
steps_target false target h e = cc

pub unary_sound : (text : List ℕ) (room : ℕ) (inner : Option Inner) → AreSound text room inner → (ts : List Token) →
    Gives (λ e rest. Front (λ pre. IsUnary text room pre e) ts rest) (unary_read text inner ts)
unary_sound text room inner s [] = nothing
unary_sound text room inner s (t ∷ ts) =
    by_option (unary_operator t.kind) _ _
    (λ none. choose (is_left_paren t.kind && is_cast ts) _ _
    (λ a. let both = and_both (is_left_paren t.kind) (is_cast ts) a in
    nested_given text Given room inner _ s (λ r i same d. then_given _ _ _ (type_sound text ts) (λ target rest h.
    then_given _ _ _ (accepts is_right_paren rest) (λ u behind g. then_given _ _ _ (d.unary behind) (λ e end k. given _ _ (
      t ∷ h.word ∷ (h.pairs ++ u ∷ k.0),
      ap (λ x. t ∷ x) (h.parts ∙ ap (λ x. h.word ∷ x) (behind_token h.pairs k.0 (h.pairs ++ rest) behind end u (ap (λ x. h.pairs ++ x) g.0) k.1)),
      rw h.same (IsUnary.cast t h.word u (left_paren t.kind both.0) h.names h.brackets (right_paren u.kind g.1) k.2
          (λ p. without_sign k.0 end behind k.1 (h.operand both.1 u behind g.0 p))),
    ))))))
    (λ a. weaker_given _ _ (postfix_sound text room inner s (t ∷ ts)) (λ e rest h. (h.0, h.1, IsUnary.postfix h.2))))
    (λ op some. nested_given text Given room inner _ s (λ r i same d. then_given _ _ _ (d.unary ts) (λ e rest h.
    choose (is_step op && not (is_target e)) _ _
    (λ a. nothing)
    (λ a. given _ _ (t ∷ h.0, ap (λ x. t ∷ x) h.1, IsUnary.prefixed t op some h.2 (steps_target (is_step op) (is_target e) a))))))
  where
    Given : ℕ → Expr → List Token → Type 0
    Given k e rest = Front (λ pre. IsUnary text k pre e) (t ∷ ts) rest

-- ---- the levels of operators

one_type : {text : List ℕ} {room : ℕ} {r : List Token} {rest : List Operation} (level : ℕ) → level ≡ comparison_level → (t : Token) → t.kind ≡ token.Instanceof →
    {ts behind : List Token} {target : TypeUse} (found : TypeFront text ts target behind) → AreOperations text level room r rest →
    AreOperations text level room (t ∷ found.word ∷ (found.pairs ++ r)) (operation.InstanceOf target ∷ rest)
one_type level same t kind found more = rw (same, found.same) (AreOperations.one_more_type t found.word kind found.names found.brackets (rw same at more))

operations_sound : (most : ℕ) (text : List ℕ) (level room : ℕ) (operand : List Token → Read Expr) →
    ((ts : List Token) → Gives (λ e rest. Front (λ pre. IsLevel text (suc level) room pre e) ts rest) (operand ts)) → (ts : List Token) →
    Gives (λ os rest. Front (λ pre. AreOperations text level room pre os) ts rest) (operations most text level operand ts)
unfolding operations
operations_sound zero text level room operand f ts = nothing
operations_sound (suc most) text level room operand f [] = given _ _ ([], refl, AreOperations.no_operations)
operations_sound (suc most) text level room operand f (t ∷ ts) =
    choose (is_instanceof t.kind && level == comparison_level) _ _
    (λ a. let both = and_both (is_instanceof t.kind) (level == comparison_level) a in
    then_given _ _ _ (type_sound text ts) (λ target rest h. then_given _ _ _ (operations_sound most text level room operand f rest) (λ more end k.
    given _ _ (
      t ∷ h.word ∷ (h.pairs ++ k.0),
      ap (λ x. t ∷ x) (h.parts ∙ ap (λ x. h.word ∷ x) (behind_front h.pairs k.0 (h.pairs ++ rest) rest end refl k.1)),
      one_type level (eqb-true level comparison_level both.1) t (instanceof t.kind both.0) h k.2,
    ))))
    (λ a. by_option (binary_operator t.kind) _ _
    (λ b. given _ _ ([], refl, AreOperations.no_operations))
    (λ op b. choose (level_of op == level) _ _
    (λ c. then_given _ _ _ (f ts) (λ e rest h. then_given _ _ _ (operations_sound most text level room operand f rest) (λ more end k.
    given _ _ (
      t ∷ (h.0 ++ k.0),
      ap (λ x. t ∷ x) (behind_front h.0 k.0 ts rest end h.1 k.1),
      AreOperations.one_more_operand t op b (eqb-true (level_of op) level c) h.2 k.2,
    ))))
    (λ c. given _ _ ([], refl, AreOperations.no_operations))))

no_operation : {text : List ℕ} {level room : ℕ} {ts : List Token} → AreOperations text level room ts [] → ts ≡ []
no_operation AreOperations.no_operations = refl

-- what stands at a level, behind those that bind more
level_sound : (height level : ℕ) → height + level ≡ operand_level → (text : List ℕ) (room : ℕ) (inner : Option Inner) → AreSound text room inner → (ts : List Token) →
    Gives (λ e rest. Front (λ pre. IsLevel text level room pre e) ts rest) (level_read height text inner ts)
unfolding level_read
level_sound zero level sum text room inner s ts =
    let same : level ≡ operand_level = omega arith in
    rw same (weaker_given _ _ (unary_sound text room inner s ts) (λ e rest h. (h.0, h.1, IsLevel.single_operand h.2)))
level_sound (suc height) level sum text room inner s ts =
    let same : level ≡ 9 - height = omega arith in
    let deeper : height + suc (9 - height) ≡ operand_level = omega arith in
    let below : 9 - height < operand_level = omega arith in
    let operand = level_sound height (suc (9 - height)) deeper text room inner s in
    rw same (then_given _ _ _ (operand ts) (λ first rest h.
    then_given _ _ _ (operations_sound (suc (length rest)) text (9 - height) room (level_read height text inner) operand rest) (elim [
      | [] ↦ λ behind g. given _ _ (h.0, h.1 ∙ ap (λ x. h.0 ++ x) (g.1 ∙ ap (λ x. x ++ behind) (no_operation g.2)), IsLevel.next_level below h.2)
      | o ∷ os ↦ λ behind g. given _ _ (h.0 ++ g.0, behind_front h.0 g.0 ts rest behind h.1 g.1, IsLevel.run h.2 g.2 (λ c. cc))
    ])))

-- ---- conditionals and assignments

pub conditional_sound : (text : List ℕ) (room : ℕ) (inner : Option Inner) → AreSound text room inner → (ts : List Token) →
    Gives (λ e rest. Front (λ pre. IsConditional text room pre e) ts rest) (conditional_read text inner ts)
conditional_sound text room inner s ts =
    then_given _ _ _ (level_sound operand_level 0 (omega arith) text room inner s ts) (λ condition. elim [
      | [] ↦ λ h. given _ _ (h.0, h.1, IsConditional.operators h.2)
      | t ∷ middle ↦ λ h. choose (is_question t.kind) _ _
          (λ a. nested_given text Given room inner _ s (λ r i same d. then_given _ _ _ (d.expr middle) (λ left rest g.
          then_given _ _ _ (accepts is_colon rest) (λ u behind k. then_given _ _ _ (d.conditional behind) (λ right end l. given _ _ (
            h.0 ++ t ∷ (g.0 ++ u ∷ l.0),
            behind_token h.0 (g.0 ++ u ∷ l.0) ts middle end t h.1 (behind_token g.0 l.0 middle behind end u (g.1 ∙ ap (λ x. g.0 ++ x) k.0) l.1),
            IsConditional.choice t u (rw same at h.2) (question t.kind a) g.2 (colon u.kind k.1) l.2,
          ))))))
          (λ a. given _ _ (h.0, h.1, IsConditional.operators h.2))
    ])
  where
    Given : ℕ → Expr → List Token → Type 0
    Given k e rest = Front (λ pre. IsConditional text k pre e) ts rest

-- an expression that may be assigned to is one of a postfix
target_of_unary : {text : List ℕ} {room : ℕ} {ts : List Token} {e : Expr} → IsUnary text room ts e → is_target e ≡ true → IsPostfix text room ts e
target_of_unary (IsUnary.prefixed {inner = inner} t op a h b) target = impossible _ (target-Unary t.span op inner) target
target_of_unary (IsUnary.cast {dims = dims} {inner = inner} t n u a b c d h f) target = impossible _ (target-Cast t.span (type_of _ n dims) inner) target
target_of_unary (IsUnary.postfix h) target = h

target_of_level : {text : List ℕ} {level room : ℕ} {ts : List Token} {e : Expr} → IsLevel text level room ts e → is_target e ≡ true → IsPostfix text room ts e
target_of_level (IsLevel.next_level below h) target = target_of_level h target
target_of_level (IsLevel.run {first = first} {rest = rest} h more some) target = impossible _ (target-Binary first rest) target
target_of_level (IsLevel.single_operand h) target = target_of_unary h target

pub target_of_conditional : {text : List ℕ} {room : ℕ} {ts : List Token} {e : Expr} → IsConditional text room ts e → is_target e ≡ true → IsPostfix text room ts e
target_of_conditional (IsConditional.operators h) target = target_of_level h target
target_of_conditional (IsConditional.choice {condition = condition} {yes = left} {no = right} t u a b c d f) target =
    impossible _ (target-Conditional condition left right) target

pub expr_sound : (text : List ℕ) (room : ℕ) (inner : Option Inner) → AreSound text room inner → (ts : List Token) →
    Gives (λ e rest. Front (λ pre. IsExpr text room pre e) ts rest) (expr_read text inner ts)
expr_sound text room inner s ts =
    then_given _ _ _ (conditional_sound text room inner s ts) (λ target. elim [
      | [] ↦ λ h. given _ _ (h.0, h.1, IsExpr.conditional h.2)
      | t ∷ middle ↦ λ h. by_option (assign_operator t.kind) _ _
          (λ a. given _ _ (h.0, h.1, IsExpr.conditional h.2))
          (λ op a. choose (is_target target) _ _
          (λ b. nested_given text Given room inner _ s (λ r i same d. then_given _ _ _ (d.expr middle) (λ value end g. given _ _ (
            h.0 ++ t ∷ g.0,
            behind_token h.0 g.0 ts middle end t h.1 g.1,
            IsExpr.assignment t op (rw same at (target_of_conditional h.2 b)) b a g.2,
          ))))
          (λ b. nothing))
    ])
  where
    Given : ℕ → Expr → List Token → Type 0
    Given k e rest = Front (λ pre. IsExpr text k pre e) ts rest

-- ---- all readers

pub over_sound : (text : List ℕ) (room : ℕ) (inner : Option Inner) → AreSound text room inner → IsSound text room (readers_over text inner)
over_sound text room inner s = record {
  expr = expr_sound text room inner s;
  conditional = conditional_sound text room inner s;
  unary = unary_sound text room inner s;
  braces = braces_sound text room inner s;
}

pub readers_sound : (text : List ℕ) (room : ℕ) → IsSound text room (readers text room)
unfolding readers
readers_sound text zero = over_sound text zero None tt
readers_sound text (suc room) = over_sound text (suc room) (Some (readers text room)) (readers_sound text room)

-- what a reader gives is in the grammar
pub sound : (text : List ℕ) (room : ℕ) (ts rest : List Token) (e : Expr) → (readers text room).expr ts ≡ Some (e, rest) →
    (pre : List Token) × (ts ≡ pre ++ rest) × IsExpr text room pre e
sound text room ts rest e h = of_given _ ((readers text room).expr ts) e rest ((readers_sound text room).expr ts) h

pub sound_conditional : (text : List ℕ) (room : ℕ) (ts rest : List Token) (e : Expr) → (readers text room).conditional ts ≡ Some (e, rest) →
    (pre : List Token) × (ts ≡ pre ++ rest) × IsConditional text room pre e
sound_conditional text room ts rest e h = of_given _ ((readers text room).conditional ts) e rest ((readers_sound text room).conditional ts) h

pub sound_unary : (text : List ℕ) (room : ℕ) (ts rest : List Token) (e : Expr) → (readers text room).unary ts ≡ Some (e, rest) →
    (pre : List Token) × (ts ≡ pre ++ rest) × IsUnary text room pre e
sound_unary text room ts rest e h = of_given _ ((readers text room).unary ts) e rest ((readers_sound text room).unary ts) h

pub sound_braces : (text : List ℕ) (room : ℕ) (ts rest : List Token) (values : List Initial) → (readers text room).braces ts ≡ Some (values, rest) →
    (pre : List Token) × (ts ≡ pre ++ rest) × AreBraces text room pre values
sound_braces text room ts rest values h = of_given _ ((readers text room).braces ts) values rest ((readers_sound text room).braces ts) h

-- where nothing is left behind, the whole list spells the expression
pub sound_whole : (text : List ℕ) (room : ℕ) (ts : List Token) (e : Expr) → (readers text room).expr ts ≡ Some (e, []) → IsExpr text room ts e
sound_whole text room ts e h = let found = sound text room ts [] e h in rw (found.1, append-nil found.0) found.2

-- ---- no expression is without tokens

pub joined_some : (l r : List Token) → l ≢ [] → l ++ r ≢ []
joined_some [] r h e = h refl
joined_some (t ∷ l) r h e = cc

pub split_some : (l r : List Token) (t : Token) → l ++ t ∷ r ≢ []
split_some [] r t e = cc
split_some (u ∷ l) r t e = cc

primary_some : {text : List ℕ} {room : ℕ} {ts : List Token} {e : Expr} → IsPrimary text room ts e → ts ≢ []
primary_some (IsPrimary.literal t value a) e = cc
primary_some (IsPrimary.this t a) e = cc
primary_some (IsPrimary.parenthesized t u a h b) e = cc
primary_some (IsPrimary.name n a) e = cc
primary_some (IsPrimary.call n a h) e = cc
primary_some (IsPrimary.super_call t d n a b c h) e = cc
primary_some (IsPrimary.new_object t n a b h) e = cc
primary_some (IsPrimary.new_array t n a b h c d) e = cc
primary_some (IsPrimary.new_array_of t n u a b c d h) e = cc

path_some : {text : List ℕ} {room : ℕ} {ts : List Token} {e : Expr} → IsPath text room ts e → ts ≢ []
path_some (IsPath.alone h) = primary_some h
path_some (IsPath.with_parts {l = l} {r = r} h more a b) = joined_some l r (primary_some h)

pub postfix_some : {text : List ℕ} {room : ℕ} {ts : List Token} {e : Expr} → IsPostfix text room ts e → ts ≢ []
postfix_some (IsPostfix.unstepped h) = path_some h
postfix_some (IsPostfix.stepped {l = l} t op h a b) = split_some l [] t

pub unary_some : {text : List ℕ} {room : ℕ} {ts : List Token} {e : Expr} → IsUnary text room ts e → ts ≢ []
unary_some (IsUnary.prefixed t op a h b) e = cc
unary_some (IsUnary.cast t n u a b c d h f) e = cc
unary_some (IsUnary.postfix h) e = postfix_some h e

pub level_some : {text : List ℕ} {level room : ℕ} {ts : List Token} {e : Expr} → IsLevel text level room ts e → ts ≢ []
level_some (IsLevel.next_level below h) = level_some h
level_some (IsLevel.run {l = l} {r = r} h more some) = joined_some l r (level_some h)
level_some (IsLevel.single_operand h) = unary_some h

pub conditional_some : {text : List ℕ} {room : ℕ} {ts : List Token} {e : Expr} → IsConditional text room ts e → ts ≢ []
conditional_some (IsConditional.operators h) = level_some h
conditional_some (IsConditional.choice {l = l} {m = m} {r = r} t u a b c d f) = split_some l (m ++ u ∷ r) t

pub expr_some : {text : List ℕ} {room : ℕ} {ts : List Token} {e : Expr} → IsExpr text room ts e → ts ≢ []
expr_some (IsExpr.conditional h) = conditional_some h
expr_some (IsExpr.assignment {l = l} {r = r} t operator h a b value) = split_some l r t

pub shorter : (pre rest : List Token) → pre ≢ [] → length rest < length (pre ++ rest)
shorter [] rest h = absurd (h refl)
shorter (t ∷ pre) rest h = simp length-append (omega arith)

-- fewer tokens are left than there were
pub consumes : (text : List ℕ) (room : ℕ) (ts rest : List Token) (e : Expr) → (readers text room).expr ts ≡ Some (e, rest) → length rest < length ts
consumes text room ts rest e h = let found = sound text room ts rest e h in rw found.1 (shorter found.0 rest (expr_some found.2))
