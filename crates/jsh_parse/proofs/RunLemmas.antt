-- How runs of operators are read on, turn by turn.
use Rattle.std.proofs.Common.{◌≡◌, ℕ, zero, suc, ◌+◌, ◌-◌, ◌<◌, ◌≤◌, List, [], ◌∷◌, ◌++◌, Option, Some, None, length, drop, refl, sym, ap, ◌∙◌, subst, arith, add-one, append-nil, append_assoc}
use Rattle.std.specs.Prelude.{Result, Ok, Err}
use Rattle.std.specs.Result.{IsErrAnd}
use Rattle.jsh_tree.specs.declared.token.Token.{Token}
use Rattle.jsh_tree.specs.declared.expression.BinaryOperator.{BinaryOperator}
use Rattle.jsh_tree.specs.declared.expression.Expr.{Expr}
use Rattle.jsh_tree.specs.declared.expression.Operation.{Operation}
use Rattle.jsh_tree.specs.declared.expression.Operation.TheVariants as operation
use Rattle.jsh_parse.specs.declared.error.ParseError.{ParseError}
use Rattle.jsh_parse.specs.declared.error.ParseError.TheVariants as error
use Rattle.jsh_parse.specs.declared.runs.Run.{Run}
use Rattle.jsh_parse.specs.declared.runs.Waiting.{Waiting}
use Rattle.jsh_parse.specs.Reader.{Read, and_then, type_read, operations, with_operations}
use Rattle.jsh_parse.specs.Reading.{Reads, operator_at, operation_at, operations_at, level_at, unary_at}
use Rattle.jsh_parse.specs.Runs.{begun, type_tested, with_further, with_operand, raised, rising, risen, resumed, levels, Leaves}
use Rattle.jsh_parse.proofs.Gives.{Gives}
use Rattle.jsh_parse.proofs.Onward.{further, assoc, same, operations_more, operation_none, operation_type, operation_operator, level_zero, level_suc}
use Rattle.jsh_parse.proofs.Shortening.{Fewer, operation_shortens}

-- the operations of a level, one after another, however many are allowed

same_further : {A : Type 0} (r : Read (Option A)) (n : ℕ) (f g : List Token → Read (List A)) → Gives (Fewer n) r →
    ((rest : List Token) → length rest < n → f rest ≡ g rest) → and_then r (further f) ≡ and_then r (further g)
same_further None n f g h k = refl
same_further (Some (None, rest)) n f g h k = refl
same_further (Some (Some a, rest)) n f g h k = ap (λ r. and_then r (λ items end. Some (a ∷ items, end))) (k rest h.holds)

enough : (text : List ℕ) (room height m n : ℕ) (ts : List Token) → length ts < m → length ts < n →
    operations m text (9 - height) (level_at text room height) ts ≡ operations n text (9 - height) (level_at text room height) ts
enough text room height zero n ts a b = absurd (omega arith)
enough text room height (suc m) zero ts a b = absurd (omega arith)
enough text room height (suc m) (suc n) ts a b =
    operations_more text room height m ts ∙
    same_further (operation_at text room height ts) (length ts) (operations m text (9 - height) (level_at text room height)) (operations n text (9 - height) (level_at text room height))
    (operation_shortens text room height ts) (λ rest l. enough text room height m n rest (omega arith) (omega arith)) ∙
    sym (operations_more text room height n ts)

plain : (text : List ℕ) (room height : ℕ) (ts : List Token) → operations_at text room height ts ≡ operations (suc (length ts)) text (9 - height) (level_at text room height) ts
unfolding operations_at
plain text room height ts = refl

operations_on : (text : List ℕ) (room height : ℕ) (ts : List Token) →
    operations_at text room height ts ≡ and_then (operation_at text room height ts) (further (operations_at text room height))
operations_on text room height ts =
    plain text room height ts ∙ operations_more text room height (length ts) ts ∙
    same_further (operation_at text room height ts) (length ts) (operations (length ts) text (9 - height) (level_at text room height)) (operations_at text room height)
    (operation_shortens text room height ts) (λ rest l. enough text room height (length ts) (suc (length rest)) rest l (omega arith) ∙ sym (plain text room height rest))

-- one turn of a run

rising_zero : (text : List ℕ) (room : ℕ) (first : Expr) (rest : List Operation) (lower : ℕ) (ts : List Token) → rising text room zero first rest lower ts ≡ Some (first, ts)
unfolding rising
rising_zero text room first rest lower ts = refl

rising_more : (text : List ℕ) (room more : ℕ) (first : Expr) (rest : List Operation) (lower : ℕ) (ts : List Token) →
    rising text room (suc more) first rest lower ts
    ≡ and_then (operations_at text room lower ts) (λ others behind. rising text room more (with_operations first (rest ++ others)) [] (lower + 1) behind)
unfolding rising
rising_more text room more first rest lower ts = refl

module _ (text : List ℕ) (room more : ℕ) (first : Expr) (rest : List Operation) (lower : ℕ) where
  -- what is read behind an operation, or behind the last one
  abbrev risen_by : Option Operation → List Token → Read Expr
  risen_by None behind = rising text room more (with_operations first rest) [] (lower + 1) behind
  risen_by (Some o) behind = rising text room (suc more) first (rest ++ o ∷ []) lower behind

  abbrev all_by : List Operation → List Token → Read Expr
  all_by others behind = rising text room more (with_operations first (rest ++ others)) [] (lower + 1) behind

  one_by : (o : Operation) (r : Read (List Operation)) →
      and_then (and_then r (λ items end. Some (o ∷ items, end))) all_by
      ≡ and_then r (λ others behind. rising text room more (with_operations first ((rest ++ o ∷ []) ++ others)) [] (lower + 1) behind)
  one_by o None = refl
  one_by o (Some found) = ap (λ os. rising text room more (with_operations first os) [] (lower + 1) found.1) (sym (append_assoc rest (o ∷ []) found.0))

  turned : (r : Read (Option Operation)) → and_then (and_then r (further (operations_at text room lower))) all_by ≡ and_then r risen_by
  turned None = refl
  turned (Some (None, behind)) = ap (λ os. rising text room more (with_operations first os) [] (lower + 1) behind) (append-nil rest)
  turned (Some (Some o, behind)) = one_by o (operations_at text room lower behind) ∙ sym (rising_more text room more first (rest ++ o ∷ []) lower behind)

  rises : (ts : List Token) → rising text room (suc more) first rest lower ts ≡ and_then (operation_at text room lower ts) risen_by
  rises ts = rising_more text room more first rest lower ts ∙ ap (λ r. and_then r all_by) (operations_on text room lower ts) ∙ turned (operation_at text room lower ts)

module _ (text : List ℕ) (room : ℕ) (run : Run) (ts : List Token) where
  risen_by_one : run.lower < run.height →
      risen text room run ts ≡ and_then (operation_at text room run.lower ts) (risen_by text room (run.height - (run.lower + 1)) run.first run.rest run.lower)
  risen_by_one l =
      let whole : run.height - run.lower ≡ suc (run.height - (run.lower + 1)) = omega arith in
      ap (λ n. rising text room n run.first run.rest run.lower ts) whole ∙ rises text room (run.height - (run.lower + 1)) run.first run.rest run.lower ts

  pub risen_complete : run.height ≤ run.lower → risen text room run ts ≡ Some (run.first, ts)
  risen_complete l =
      let none : run.height - run.lower ≡ 0 = omega arith in
      ap (λ n. rising text room n run.first run.rest run.lower ts) none ∙ rising_zero text room run.first run.rest run.lower ts

  pub risen_raised : run.lower < run.height → operator_at run.lower ts ≡ None → risen text room run ts ≡ risen text room (raised run) ts
  risen_raised l h = risen_by_one l ∙
      ap (λ r. and_then r (risen_by text room (run.height - (run.lower + 1)) run.first run.rest run.lower)) (operation_none text room run.lower ts h)

  pub risen_tested : run.lower < run.height → operator_at run.lower ts ≡ Some None →
      risen text room run ts ≡ and_then (type_tested text (drop 1 ts)) (λ o behind. risen text room (with_further run o) behind)
  risen_tested l h =
      let whole : suc (run.height - (run.lower + 1)) ≡ run.height - run.lower = omega arith in
      risen_by_one l ∙
      ap (λ r. and_then r (risen_by text room (run.height - (run.lower + 1)) run.first run.rest run.lower)) (operation_type text room run.lower ts h) ∙
      assoc (type_read text (drop 1 ts)) (λ target rest. Some (Some (operation.InstanceOf target), rest)) (risen_by text room (run.height - (run.lower + 1)) run.first run.rest run.lower) ∙
      ap (λ n. and_then (type_read text (drop 1 ts)) (λ target behind. rising text room n run.first (run.rest ++ operation.InstanceOf target ∷ []) run.lower behind)) whole ∙
      sym (assoc (type_read text (drop 1 ts)) (λ target rest. Some (operation.InstanceOf target, rest)) (λ o behind. risen text room (with_further run o) behind))

  pub risen_pushed : (op : BinaryOperator) → run.lower < run.height → operator_at run.lower ts ≡ Some (Some op) →
      risen text room run ts ≡ and_then (level_at text room run.lower (drop 1 ts)) (λ operand behind. risen text room (with_further run (operation.Operator op operand)) behind)
  risen_pushed op l h =
      let whole : suc (run.height - (run.lower + 1)) ≡ run.height - run.lower = omega arith in
      risen_by_one l ∙
      ap (λ r. and_then r (risen_by text room (run.height - (run.lower + 1)) run.first run.rest run.lower)) (operation_operator text room run.lower ts op h) ∙
      assoc (level_at text room run.lower (drop 1 ts)) (λ operand rest. Some (Some (operation.Operator op operand), rest)) (risen_by text room (run.height - (run.lower + 1)) run.first run.rest run.lower) ∙
      ap (λ n. and_then (level_at text room run.lower (drop 1 ts)) (λ operand behind. rising text room n run.first (run.rest ++ operation.Operator op operand ∷ []) run.lower behind)) whole

-- a level begins with an operand

kept : {A : Type 0} (r : Read A) → and_then r (λ a rest. Some (a, rest)) ≡ r
kept None = refl
kept (Some found) = refl

module _ (text : List ℕ) (room more lower : ℕ) where
  abbrev one_level : Expr → List Token → Read Expr
  one_level first rest = and_then (operations_at text room lower rest) (λ os behind. Some (with_operations first os, behind))

  abbrev above : Expr → List Token → Read Expr
  above first rest = rising text room more first [] (lower + 1) rest

  climbs_one : (ts : List Token) →
      and_then (level_at text room lower ts) (λ first rest. rising text room (suc more) first [] lower rest) ≡ and_then (level_at text room (lower + 1) ts) above
  climbs_one ts =
      same (level_at text room lower ts) (λ first rest. rising text room (suc more) first [] lower rest) (λ first rest. and_then (one_level first rest) above)
      (λ first rest. rising_more text room more first [] lower rest ∙ sym (assoc (operations_at text room lower rest) (λ os behind. Some (with_operations first os, behind)) above)) ∙
      sym (assoc (level_at text room lower ts) one_level above) ∙
      ap (λ r. and_then r above) (sym (level_suc text room lower ts) ∙ ap (λ n. level_at text room n ts) (sym (add-one lower)))

climbs : (text : List ℕ) (room more lower : ℕ) (ts : List Token) →
    and_then (level_at text room lower ts) (λ first rest. rising text room more first [] lower rest) ≡ level_at text room (lower + more) ts
climbs text room zero lower ts =
    let all : lower ≡ lower + zero = omega arith in
    same (level_at text room lower ts) (λ first rest. rising text room zero first [] lower rest) (λ first rest. Some (first, rest)) (λ first rest. rising_zero text room first [] lower rest) ∙
    kept (level_at text room lower ts) ∙ ap (λ n. level_at text room n ts) all
climbs text room (suc more) lower ts =
    let all : (lower + 1) + more ≡ lower + suc more = omega arith in
    climbs_one text room more lower ts ∙ climbs text room more (lower + 1) ts ∙ ap (λ n. level_at text room n ts) all

pub level_by : (text : List ℕ) (room height : ℕ) (ts : List Token) →
    level_at text room height ts ≡ and_then (unary_at text room ts) (λ operand rest. risen text room (begun operand height) rest)
level_by text room height ts =
    let whole : height ≡ 0 + height = omega arith in
    let most : height ≡ height - 0 = omega arith in
    ap (λ n. level_at text room n ts) whole ∙ sym (climbs text room height 0 ts) ∙
    ap (λ r. and_then r (λ operand rest. rising text room height operand [] 0 rest)) (level_zero text room ts) ∙
    ap (λ n. and_then (unary_at text room ts) (λ operand rest. rising text room n operand [] 0 rest)) most

-- runs that wait

pub resumed_none : (text : List ℕ) (room : ℕ) (ws : List Waiting) → resumed text room ws None ≡ None
resumed_none text room [] = refl
resumed_none text room (w ∷ ws) = ap (λ r. and_then r (λ operand behind. risen text room (with_operand w operand) behind)) (resumed_none text room ws)

pub resumed_push : (text : List ℕ) (room : ℕ) (ws : List Waiting) (w : Waiting) (read : Read Expr) →
    resumed text room (ws ++ w ∷ []) read ≡ resumed text room ws (and_then read (λ operand behind. risen text room (with_operand w operand) behind))
resumed_push text room [] w read = refl
resumed_push text room (v ∷ ws) w read = ap (λ r. and_then r (λ operand behind. risen text room (with_operand v operand) behind)) (resumed_push text room ws w read)

pub levels_push : (ws : List Waiting) (w : Waiting) → levels (ws ++ w ∷ []) ≡ levels ws + (w.run.height - w.run.lower + 1)
levels_push [] w = omega arith
levels_push (v ∷ ws) w = let more = levels_push ws w in omega (arith, more)

-- the answers of calls

fails_as : {A B : Type 0} (tokens : List Token) (at : ℕ) (left : A → Read Expr) (whole : Read Expr) (Y : Read B) (e : ParseError) →
    (Y ≡ None → whole ≡ None) → Reads tokens at Y (Err e) → Leaves left whole (Err e)
fails_as tokens at left whole Y error.NoMemory h y = tt
fails_as tokens at left whole Y (error.Wanted place wanted) h y = h y
fails_as tokens at left whole Y (error.TooDeep limit) h y = (h y.0, y.1)

-- where what is left to be read fails because another reader does
pub fails : {A B : Type 0} (tokens : List Token) (at : ℕ) (left : A → Read Expr) (whole : Read Expr) (Y : Read B) (e : ParseError) (r : Result A ParseError) →
    IsErrAnd r (λ f. f ≡ e) → (Y ≡ None → whole ≡ None) → Reads tokens at Y (Err e) → Leaves left whole r
fails tokens at left whole Y e (Ok a) is h y = absurd is
fails tokens at left whole Y e (Err f) is h y = subst (λ f. Leaves left whole (Err f)) (sym is) (fails_as tokens at left whole Y e h y)

-- want of memory
pub leaves_nothing : {A : Type 0} (left : A → Read Expr) (whole : Read Expr) (r : Result A ParseError) → IsErrAnd r (λ f. f ≡ error.NoMemory) → Leaves left whole r
leaves_nothing left whole (Ok a) is = absurd is
leaves_nothing left whole (Err f) is = subst (λ f. Leaves left whole (Err f)) (sym is) tt

passes_as : {A B : Type 0} (left : A → Read Expr) (next : B → Read Expr) (x y : Read Expr) (e : ParseError) → x ≡ y → Leaves left y (Err e) → Leaves next x (Err e)
passes_as left next x y error.NoMemory s h = tt
passes_as left next x y (error.Wanted place wanted) s h = s ∙ h
passes_as left next x y (error.TooDeep limit) s h = (s ∙ h.0, h.1)

-- an error that is handed on
pub passes : {A B : Type 0} (left : A → Read Expr) (next : B → Read Expr) (x y : Read Expr) (e : ParseError) (r : Result B ParseError) →
    IsErrAnd r (λ f. f ≡ e) → x ≡ y → Leaves left y (Err e) → Leaves next x r
passes left next x y e (Ok b) is s h = absurd is
passes left next x y e (Err f) is s h = subst (λ f. Leaves next x (Err f)) (sym is) (passes_as left next x y e s h)

ends_as : {A : Type 0} (tokens : List Token) (at : ℕ) (left : A → Read Expr) (x y : Read Expr) (e : ParseError) → x ≡ y → Leaves left y (Err e) → Reads tokens at x (Err e)
ends_as tokens at left x y error.NoMemory s h = tt
ends_as tokens at left x y (error.Wanted place wanted) s h = s ∙ h
ends_as tokens at left x y (error.TooDeep limit) s h = (s ∙ h.0, h.1)

-- an error of what is left to be read is one of the whole
pub ends : {A : Type 0} (tokens : List Token) (at : ℕ) (left : A → Read Expr) (x y : Read Expr) (e : ParseError) (r : Result (Expr × ℕ) ParseError) →
    IsErrAnd r (λ f. f ≡ e) → x ≡ y → Leaves left y (Err e) → Reads tokens at x r
ends tokens at left x y e (Ok found) is s h = absurd is
ends tokens at left x y e (Err f) is s h = subst (λ f. Reads tokens at x (Err f)) (sym is) (ends_as tokens at left x y e s h)
