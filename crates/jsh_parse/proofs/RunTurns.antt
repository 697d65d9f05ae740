-- What each kind of turn leaves to be read, and how much is to be done behind it.
use Rattle.std.proofs.Common.{◌≡◌, ℕ, zero, suc, ◌+◌, ◌-◌, ◌<◌, ◌≤◌, List, [], ◌∷◌, ◌++◌, Option, Some, None, length, drop, refl, sym, ap, ◌∙◌, subst, arith}
use Rattle.std.proofs.Math.Nat.{le_trans}
use Rattle.std.specs.Prelude.{Result, Ok, Err, IfOk}
use Rattle.jsh_tree.specs.declared.token.Token.{Token}
use Rattle.jsh_tree.specs.declared.expression.BinaryOperator.{BinaryOperator}
use Rattle.jsh_tree.specs.declared.expression.Expr.{Expr}
use Rattle.jsh_tree.specs.declared.expression.Operation.{Operation}
use Rattle.jsh_tree.specs.declared.expression.Operation.TheVariants as operation
use Rattle.jsh_parse.specs.declared.error.ParseError.{ParseError}
use Rattle.jsh_parse.specs.declared.error.ParseError.TheVariants as error
use Rattle.jsh_parse.specs.declared.runs.Run.{Run}
use Rattle.jsh_parse.specs.declared.runs.Waiting.{Waiting}
use Rattle.jsh_parse.specs.declared.runs.Next.{Next}
use Rattle.jsh_parse.specs.declared.runs.Next.TheVariants as next
use Rattle.jsh_parse.specs.declared.runs.Turn.{Turn}
use Rattle.jsh_parse.specs.declared.runs.Turn.TheVariants as turn
use Rattle.jsh_parse.specs.Reader.{Read, and_then}
use Rattle.jsh_parse.specs.Reading.{operator_at, level_at, unary_at}
use Rattle.jsh_parse.specs.Runs.{begun, type_tested, with_further, with_operand, raised, risen, resumed, after, after_turn, levels, work, Leaves, Completes, GoesOn, TurnGoesOn}
use Rattle.jsh_parse.proofs.Passing as passing
use Rattle.jsh_parse.proofs.RunLemmas.{risen_complete, risen_raised, risen_tested, risen_pushed, level_by, resumed_none, resumed_push, levels_push}

module _ (text : List ℕ) (room : ℕ) (tokens : List Token) where
  pub completes : (before behind : List Waiting) (run : Run) (at : ℕ) (result : Result Turn ParseError) → run.height ≤ run.lower → Completes before behind run at result →
      Leaves (after_turn text room tokens behind) (resumed text room before (risen text room run (drop at tokens))) result
  completes before behind run at (Ok (turn.Onward longer end)) l h =
      ap (resumed text room before) (risen_complete text room run (drop at tokens) l) ∙
      ap (λ ws. resumed text room ws (Some (run.first, drop at tokens))) h.1 ∙
      resumed_push text room behind h.0 (Some (run.first, drop at tokens)) ∙
      ap (λ r. resumed text room behind (risen text room r (drop at tokens))) (sym h.2) ∙
      ap (λ n. resumed text room behind (risen text room longer (drop n tokens))) (sym h.3)
  completes before behind run at (Ok (turn.Ends (next.Whole e end))) l h =
      ap (resumed text room before) (risen_complete text room run (drop at tokens) l) ∙
      ap (λ ws. resumed text room ws (Some (run.first, drop at tokens))) h.0 ∙
      ap (λ f. Some (f, drop at tokens)) (sym h.1) ∙
      ap (λ n. Some (e, drop n tokens)) (sym h.2)
  completes before behind run at (Ok (turn.Ends (next.Operand place height))) l h = absurd h
  completes before behind run at (Err e) l h = subst (λ f. Leaves (after_turn text room tokens behind) (resumed text room before (risen text room run (drop at tokens))) (Err f)) (sym h) tt

  pub turn_raises : (ws : List Waiting) (run higher : Run) (at : ℕ) → run.lower < run.height → operator_at run.lower (drop at tokens) ≡ None → higher ≡ raised run →
      resumed text room ws (risen text room run (drop at tokens)) ≡ resumed text room ws (risen text room higher (drop at tokens))
  turn_raises ws run higher at l h e =
      ap (resumed text room ws) (risen_raised text room run (drop at tokens) l h) ∙
      ap (λ r. resumed text room ws (risen text room r (drop at tokens))) (sym e)

  tests : (ws : List Waiting) (run : Run) (at : ℕ) → run.lower < run.height → operator_at run.lower (drop at tokens) ≡ Some None →
      resumed text room ws (risen text room run (drop at tokens))
      ≡ resumed text room ws (and_then (type_tested text (drop (at + 1) tokens)) (λ o behind. risen text room (with_further run o) behind))
  tests ws run at l h =
      ap (resumed text room ws) (risen_tested text room run (drop at tokens) l h) ∙
      ap (λ ts. resumed text room ws (and_then (type_tested text ts) (λ o behind. risen text room (with_further run o) behind))) (passing.next tokens at)

  pub turn_fails : (ws : List Waiting) (run : Run) (at : ℕ) → run.lower < run.height → operator_at run.lower (drop at tokens) ≡ Some None →
      type_tested text (drop (at + 1) tokens) ≡ None → resumed text room ws (risen text room run (drop at tokens)) ≡ None
  turn_fails ws run at l h n =
      tests ws run at l h ∙
      ap (λ r. resumed text room ws (and_then r (λ o behind. risen text room (with_further run o) behind))) n ∙
      resumed_none text room ws

  pub turn_tests : (ws : List Waiting) (run longer : Run) (o : Operation) (at end : ℕ) → run.lower < run.height → operator_at run.lower (drop at tokens) ≡ Some None →
      type_tested text (drop (at + 1) tokens) ≡ Some (o, drop end tokens) → longer ≡ with_further run o →
      resumed text room ws (risen text room run (drop at tokens)) ≡ resumed text room ws (risen text room longer (drop end tokens))
  turn_tests ws run longer o at end l h n e =
      tests ws run at l h ∙
      ap (λ r. resumed text room ws (and_then r (λ o behind. risen text room (with_further run o) behind))) n ∙
      ap (λ r. resumed text room ws (risen text room r (drop end tokens))) (sym e)

  pub turn_waits : (ws further : List Waiting) (run : Run) (op : BinaryOperator) (at : ℕ) → run.lower < run.height → operator_at run.lower (drop at tokens) ≡ Some (Some op) →
      further ≡ ws ++ record { run = run; operator = op } ∷ [] →
      resumed text room ws (risen text room run (drop at tokens)) ≡ resumed text room further (level_at text room run.lower (drop (at + 1) tokens))
  turn_waits ws further run op at l h e =
      ap (resumed text room ws) (risen_pushed text room run (drop at tokens) op l h) ∙
      sym (resumed_push text room ws (record { run = run; operator = op }) (level_at text room run.lower (drop 1 (drop at tokens)))) ∙
      ap (λ vs. resumed text room vs (level_at text room run.lower (drop 1 (drop at tokens)))) (sym e) ∙
      ap (λ ts. resumed text room further (level_at text room run.lower ts)) (passing.next tokens at)

  -- an operand of a level was read
  pub reads_operand : (whole : Read Expr) (ws : List Waiting) (operand : Expr) (height at end : ℕ) → whole ≡ resumed text room ws (level_at text room height (drop at tokens)) →
      unary_at text room (drop at tokens) ≡ Some (operand, drop end tokens) → whole ≡ resumed text room ws (risen text room (begun operand height) (drop end tokens))
  reads_operand whole ws operand height at end h u =
      h ∙ ap (resumed text room ws) (level_by text room height (drop at tokens)) ∙
      ap (λ r. resumed text room ws (and_then r (λ e rest. risen text room (begun e height) rest))) u

  pub no_operand : (whole : Read Expr) (ws : List Waiting) (height at : ℕ) → whole ≡ resumed text room ws (level_at text room height (drop at tokens)) →
      unary_at text room (drop at tokens) ≡ None → whole ≡ None
  no_operand whole ws height at h u =
      h ∙ ap (resumed text room ws) (level_by text room height (drop at tokens)) ∙
      ap (λ r. resumed text room ws (and_then r (λ e rest. risen text room (begun e height) rest))) u ∙
      resumed_none text room ws

-- what is to be done

pub done_complete : (n : ℕ) (before behind : List Waiting) (run : Run) (at : ℕ) (result : Result Turn ParseError) → run.height ≤ run.lower → Completes before behind run at result →
    IfOk result (TurnGoesOn n at (work n before run at) behind)
done_complete n before behind run at (Ok (turn.Onward longer end)) l h =
    let same : end ≡ at = h.3 in
    let high : longer.height ≡ h.0.run.height = ap (λ (r : Run). r.height) h.2 in
    let low : longer.lower ≡ h.0.run.lower = ap (λ (r : Run). r.lower) h.2 in
    let more : levels before ≡ levels behind + (h.0.run.height - h.0.run.lower + 1) = ap levels h.1 ∙ levels_push behind h.0 in
    (omega arith, omega arith)
done_complete n before behind run at (Ok (turn.Ends (next.Whole e end))) l h = let same : end ≡ at = h.2 in let reached : at ≤ end = omega arith in reached
done_complete n before behind run at (Ok (turn.Ends (next.Operand place height))) l h = absurd h
done_complete n before behind run at (Err e) l h = tt

pub goes_on : (n from at : ℕ) (further : Next) → from ≤ at → GoesOn n at further → GoesOn n from further
goes_on n from at (next.Whole e end) l h = le_trans l h
goes_on n from at (next.Operand place height) l h = let behind : at < place = h.0 in (omega arith, h.1)
