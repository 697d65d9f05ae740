-- Levels of operators leave no more tokens than there were, and an operation leaves fewer.
use Rattle.std.proofs.Common.{◌≡◌, ℕ, zero, suc, ◌+◌, ◌-◌, ◌==◌, ◌<◌, ◌≤◌, ◌&&◌, List, [], ◌∷◌, ◌++◌, Option, Some, None, length, drop, refl, sym, subst, arith, length-append}
use Rattle.jsh_tree.specs.declared.token.Token.{Token}
use Rattle.jsh_tree.specs.declared.expression.BinaryOperator.{BinaryOperator}
use Rattle.jsh_tree.specs.declared.expression.Expr.{Expr}
use Rattle.jsh_tree.specs.declared.expression.Operation.{Operation}
use Rattle.jsh_tree.specs.declared.expression.Operation.TheVariants as operation
use Rattle.jsh_parse.specs.Operators.{binary_operator, level_of, comparison_level}
use Rattle.jsh_parse.specs.Marks.{is_instanceof}
use Rattle.jsh_parse.specs.Reader.{Read, and_then, type_read, operations, level_read, with_operations, readers}
use Rattle.jsh_parse.specs.Reading.{below, operator_at, operation_at, level_at}
use Rattle.jsh_parse.proofs.Gives.{Gives, given, nothing, weaker_given, then_given, choose, by_option}
use Rattle.jsh_parse.proofs.SoundLists.{AreSound, TypeFront, type_sound}
use Rattle.jsh_parse.proofs.Sound.{unary_sound, readers_sound}
use Rattle.jsh_parse.proofs.Onward.{operation_none, operation_type, operation_operator}

behind_type : (ts pairs rest : List Token) (word : Token) → ts ≡ word ∷ (pairs ++ rest) → length rest < length ts
behind_type ts pairs rest word e = rw e (simp length-append (omega arith))

behind_front : (ts pre rest : List Token) → ts ≡ pre ++ rest → length rest ≤ length ts
behind_front ts pre rest e = rw e (simp length-append (omega arith))

operations_shorten : (most : ℕ) (text : List ℕ) (level : ℕ) (operand : List Token → Read Expr) → ((ts : List Token) → Gives (λ e rest. length rest ≤ length ts) (operand ts)) →
    (ts : List Token) → Gives (λ os rest. length rest ≤ length ts) (operations most text level operand ts)
unfolding operations
operations_shorten zero text level operand f ts = nothing
operations_shorten (suc most) text level operand f [] = given _ _ (omega arith)
operations_shorten (suc most) text level operand f (t ∷ ts) =
    choose (is_instanceof t.kind && level == comparison_level) _ _
    (λ a. then_given _ _ _ (type_sound text ts) (λ target rest h. then_given _ _ _ (operations_shorten most text level operand f rest) (λ more end k.
    let fewer : length rest < length ts = behind_type ts h.pairs rest h.word h.parts in
    given _ _ (omega arith))))
    (λ a. by_option (binary_operator t.kind) _ _
    (λ b. given _ _ (omega arith))
    (λ op b. choose (level_of op == level) _ _
    (λ c. then_given _ _ _ (f ts) (λ e rest h. then_given _ _ _ (operations_shorten most text level operand f rest) (λ more end k. given _ _ (omega arith))))
    (λ c. given _ _ (omega arith))))

below_sound : (text : List ℕ) (room : ℕ) → AreSound text room (below text room)
below_sound text zero = tt
below_sound text (suc r) = readers_sound text r

level_read_shortens : (height : ℕ) (text : List ℕ) (room : ℕ) (ts : List Token) → Gives (λ e rest. length rest ≤ length ts) (level_read height text (below text room) ts)
unfolding level_read
level_read_shortens zero text room ts = weaker_given _ _ (unary_sound text room (below text room) (below_sound text room) ts) (λ e rest h. behind_front ts h.0 rest h.1)
level_read_shortens (suc height) text room ts =
    then_given _ _ _ (level_read_shortens height text room ts) (λ first rest h.
    then_given _ _ _ (operations_shorten (suc (length rest)) text (9 - height) (level_read height text (below text room)) (level_read_shortens height text room) rest)
    (λ os behind k. given _ _ (omega arith)))

pub level_shortens : (text : List ℕ) (room height : ℕ) (ts : List Token) → Gives (λ e rest. length rest ≤ length ts) (level_at text room height ts)
unfolding level_at
level_shortens text room height ts = level_read_shortens height text room ts

-- fewer tokens are left behind an item, if there is one
abbrev pub Fewer : {A : Type 0} → ℕ → Option A → List Token → Type 0
Fewer n None rest = Unit {0}
Fewer n (Some a) rest = length rest < n

pub operation_shortens : (text : List ℕ) (room height : ℕ) (ts : List Token) → Gives (Fewer (length ts)) (operation_at text room height ts)
operation_shortens text room height [] = subst (λ (r : Read (Option Operation)). Gives (Fewer 0) r) (sym (operation_none text room height [] refl)) (given None [] tt)
operation_shortens text room height (t ∷ ts) = at (operator_at height (t ∷ ts)) refl
  where
    at : (o : Option (Option BinaryOperator)) → operator_at height (t ∷ ts) ≡ o → Gives (Fewer (suc (length ts))) (operation_at text room height (t ∷ ts))
    at None h = subst (λ (r : Read (Option Operation)). Gives (Fewer (suc (length ts))) r) (sym (operation_none text room height (t ∷ ts) h)) (given None (t ∷ ts) tt)
    at (Some None) h = subst (λ (r : Read (Option Operation)). Gives (Fewer (suc (length ts))) r) (sym (operation_type text room height (t ∷ ts) h))
        (then_given _ _ _ (type_sound text ts) (λ target rest f.
        let fewer : length rest < length ts = behind_type ts f.pairs rest f.word f.parts in
        let least : length rest < suc (length ts) = omega arith in
        given (Some (operation.InstanceOf target)) rest least))
    at (Some (Some op)) h = subst (λ (r : Read (Option Operation)). Gives (Fewer (suc (length ts))) r) (sym (operation_operator text room height (t ∷ ts) op h))
        (then_given _ _ _ (level_shortens text room height ts) (λ e rest k.
        let least : length rest < suc (length ts) = omega arith in
        given (Some (operation.Operator op e)) rest least))
