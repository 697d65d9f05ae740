-- Runs of statements, of groups and of catches, and the loops that take them.
use Rattle.std.proofs.Common.{◌≡◌, ℕ, zero, suc, ◌+◌, ◌-◌, ◌<◌, Bool, true, false, not, if◌then◌else◌, List, [], ◌∷◌, ◌++◌, Some, None, length, refl, sym, ap, ◌∙◌, arith}
use Rattle.jsh_tree.specs.declared.token.Token.{Token}
use Rattle.jsh_tree.specs.declared.statement.BlockStatement.{BlockStatement}
use Rattle.jsh_tree.specs.declared.statement.SwitchGroup.{SwitchGroup, roll-SwitchGroup}
use Rattle.jsh_tree.specs.declared.statement.CatchClause.{CatchClause, roll-CatchClause}
use Rattle.jsh_parse.specs.Marks.{is_left_paren, is_right_paren, is_identifier}
use Rattle.jsh_parse.specs.Forms.{is_catch, begins_label}
use Rattle.jsh_parse.specs.Reader.{Read, and_then, accept, sees}
use Rattle.jsh_parse.specs.StatementReader.{statements_read, groups_read, catches, final_read}
use Rattle.jsh_parse.specs.StatementReading.{statements_below, block_at, statements_at, block_statement_at, groups_at, group_at, catches_at, catch_at, catch_head_at, labels_at, ends_block}
use Rattle.jsh_parse.proofs.Onward.{prepend, prepend_none, prepend_one, append_nil}
use Rattle.jsh_parse.proofs.Pieced.{left_turn}
use Rattle.jsh_parse.proofs.StatementHeads.{along, along_twice, along_thrice}

-- an item and those behind it, where the run has not ended
abbrev pub run_on : {A : Type 0} → Bool → Read A → (List Token → Read (List A)) → List Token → Read (List A)
run_on ended item more ts = if ended then Some ([], ts) else and_then item (λ a rest. and_then (more rest) (λ others end. Some (a ∷ others, end)))

-- a turn of a loop that takes one item after another
module _ {A : Type 0} (run : ℕ → List Token → Read (List A)) (ends : List Token → Bool) (item : List Token → Read A)
    (onward : (most : ℕ) (ts : List Token) → run (suc most) ts ≡ run_on (ends ts) (item ts) (run most) ts)
    (whole : Read (List A)) (most turn : ℕ) (items : List A) (ts : List Token) where
  in_turn : whole ≡ prepend items (run (most - turn) ts) → turn < most → whole ≡ prepend items (run_on (ends ts) (item ts) (run (most - (turn + 1))) ts)
  in_turn h l = h ∙ ap (λ n. prepend items (run n ts)) (left_turn most turn l) ∙ ap (prepend items) (onward (most - (turn + 1)) ts)

  pub run_ends : whole ≡ prepend items (run (most - turn) ts) → turn < most → ends ts ≡ true → whole ≡ Some (items, ts)
  run_ends h l e = in_turn h l ∙ rw e (ap (λ all. Some (all, ts)) (append_nil items))

  pub run_fails : whole ≡ prepend items (run (most - turn) ts) → turn < most → ends ts ≡ false → item ts ≡ None → whole ≡ None
  run_fails h l e i = in_turn h l ∙ rw (e, i)

  pub run_goes_on : whole ≡ prepend items (run (most - turn) ts) → turn < most → ends ts ≡ false → (a : A) (rest : List Token) → item ts ≡ Some (a, rest) →
      (more : List A) → more ≡ items ++ a ∷ [] → whole ≡ prepend more (run (most - (turn + 1)) rest)
  run_goes_on h l e a rest i more m = in_turn h l ∙ rw (e, i) (prepend_one items a (run (most - (turn + 1)) rest))
      ∙ ap (λ all. prepend all (run (most - (turn + 1)) rest)) (sym m)

  pub run_exhausted : whole ≡ prepend items (run (most - turn) ts) → most - turn ≡ zero → run zero ts ≡ None → whole ≡ None
  run_exhausted h z n = h ∙ ap (λ k. prepend items (run k ts)) z ∙ ap (prepend items) n

-- the first turn
pub run_begins : {A : Type 0} (run : ℕ → List Token → Read (List A)) (whole : Read (List A)) (ts : List Token) (left : ℕ) (items : List A) →
    whole ≡ prepend [] (run (suc (length ts)) ts) → left ≡ length ts → items ≡ [] → whole ≡ prepend items (run (left + 1 - 0) ts)
run_begins run whole ts left items h l i =
    let all : suc (length ts) ≡ left + 1 - 0 = omega (arith, l) in
    h ∙ ap (λ n. prepend [] (run n ts)) all ∙ ap (λ none. prepend none (run (left + 1 - 0) ts)) (sym i)

-- statements

abbrev pub statements_run : List ℕ → ℕ → ℕ → List Token → Read (List BlockStatement)
statements_run text room most ts = statements_read most text (statements_below text room) ts

pub statements_by : (text : List ℕ) (room : ℕ) (ts : List Token) →
    statements_at text room ts ≡ prepend [] (statements_read (suc (length ts)) text (statements_below text room) ts)
unfolding statements_at
statements_by text room ts = sym (prepend_none (statements_read (suc (length ts)) text (statements_below text room) ts))

pub statements_zero : (text : List ℕ) (room : ℕ) (ts : List Token) → statements_read zero text (statements_below text room) ts ≡ None
unfolding statements_read
statements_zero text room ts = refl

pub statements_onward : (text : List ℕ) (room most : ℕ) (ts : List Token) → statements_read (suc most) text (statements_below text room) ts
    ≡ run_on (ends_block ts) (block_statement_at text room ts) (statements_read most text (statements_below text room)) ts
unfolding statements_read block_statement_at
statements_onward text room most [] = refl
statements_onward text room most (t ∷ ts) = refl

-- groups

abbrev pub groups_run : List ℕ → ℕ → ℕ → List Token → Read (List SwitchGroup)
groups_run text room most ts = groups_read most text (statements_below text room) ts

pub groups_by : (text : List ℕ) (room : ℕ) (ts : List Token) → groups_at text room ts ≡ prepend [] (groups_read (suc (length ts)) text (statements_below text room) ts)
unfolding groups_at
groups_by text room ts = sym (prepend_none (groups_read (suc (length ts)) text (statements_below text room) ts))

pub groups_zero : (text : List ℕ) (room : ℕ) (ts : List Token) → groups_read zero text (statements_below text room) ts ≡ None
unfolding groups_read
groups_zero text room ts = refl

pub group_by : (text : List ℕ) (room : ℕ) (ts : List Token) → group_at text room ts ≡ and_then (labels_at text ts) (λ labels rest.
    and_then (statements_at text room rest) (λ inside end. Some (roll-SwitchGroup (record { labels = labels; statements = inside }), end)))
unfolding group_at
group_by text room ts = refl

pub groups_onward : (text : List ℕ) (room most : ℕ) (ts : List Token) → groups_read (suc most) text (statements_below text room) ts
    ≡ run_on (not (sees begins_label ts)) (group_at text room ts) (groups_read most text (statements_below text room)) ts
unfolding groups_read group_at labels_at statements_at
groups_onward text room most ts = at (sees begins_label ts) refl
  where
    at : (b : Bool) → sees begins_label ts ≡ b → groups_read (suc most) text (statements_below text room) ts
        ≡ run_on (not (sees begins_label ts)) (group_at text room ts) (groups_read most text (statements_below text room)) ts
    at true h = rw h (along (labels_at text ts) _ _ _ (λ labels rest. along (statements_at text room rest) _ _ _ (λ inside behind. refl)))
    at false h = rw h

-- catches

abbrev pub catches_run : List ℕ → ℕ → ℕ → List Token → Read (List CatchClause)
catches_run text room most ts = catches most text (statements_below text room) ts

pub catches_by : (text : List ℕ) (room : ℕ) (ts : List Token) → catches_at text room ts ≡ prepend [] (catches (suc (length ts)) text (statements_below text room) ts)
unfolding catches_at
catches_by text room ts = sym (prepend_none (catches (suc (length ts)) text (statements_below text room) ts))

pub catches_zero : (text : List ℕ) (room : ℕ) (ts : List Token) → catches zero text (statements_below text room) ts ≡ None
unfolding catches
catches_zero text room ts = refl

pub catch_by : (text : List ℕ) (room : ℕ) (ts : List Token) → catch_at text room ts ≡ and_then (catch_head_at text ts) (λ head rest. and_then (block_at text room rest)
    (λ b end. Some (roll-CatchClause (record { is_final = head.is_final; class = head.class; name = head.name; block = b }), end)))
unfolding catch_at
catch_by text room ts = refl

pub catches_onward : (text : List ℕ) (room most : ℕ) (ts : List Token) → catches (suc most) text (statements_below text room) ts
    ≡ run_on (not (sees is_catch ts)) (catch_at text room ts) (catches most text (statements_below text room)) ts
unfolding catches catch_at catch_head_at block_at
catches_onward text room most ts = at (sees is_catch ts) refl
  where
    at : (b : Bool) → sees is_catch ts ≡ b → catches (suc most) text (statements_below text room) ts
        ≡ run_on (not (sees is_catch ts)) (catch_at text room ts) (catches most text (statements_below text room)) ts
    at true h = rw h (along_twice (accept is_catch ts) _ _ _ _ (λ t rest. along_twice (accept is_left_paren rest) _ _ _ _
        (λ p behind. along_thrice (accept is_identifier (final_read behind).1) _ _ _ _ _ (λ c more. along_thrice (accept is_identifier more) _ _ _ _ _
        (λ n closing. along_twice (accept is_right_paren closing) _ _ _ _ (λ q braces. along (block_at text room braces) _ _ _ (λ inside next. refl)))))))
    at false h = rw h
