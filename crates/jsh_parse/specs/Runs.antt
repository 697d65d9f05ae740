-- What is still read behind an operand, and for what waits for it.
use Rattle.std.specs.Prelude.{◌≡◌, ℕ, zero, suc, ◌+◌, ◌-◌, ◌<◌, ◌≤◌, List, [], ◌∷◌, ◌++◌, Option, Some, None, Result, Ok, Err, drop}
use Rattle.jsh_tree.specs.declared.token.Token.{Token}
use Rattle.jsh_tree.specs.declared.expression.Expr.{Expr}
use Rattle.jsh_tree.specs.declared.expression.Operation.{Operation}
use Rattle.jsh_tree.specs.declared.expression.Operation.TheVariants as operation
use Rattle.jsh_parse.specs.declared.error.ParseError.{ParseError}
use Rattle.jsh_parse.specs.declared.error.ParseError.TheVariants as error
use Rattle.jsh_parse.specs.declared.runs.Run.{Run}
use Rattle.jsh_parse.specs.declared.runs.Waiting.{Waiting}
use Rattle.jsh_parse.specs.declared.runs.Next.{Next}
use Rattle.jsh_parse.specs.declared.runs.Next.TheVariants as next
use Rattle.jsh_parse.specs.declared.runs.Turn.{Turn}
use Rattle.jsh_parse.specs.declared.runs.Turn.TheVariants as turn
use Rattle.jsh_parse.specs.Reader.{Read, and_then, type_read, with_operations}
use Rattle.jsh_parse.specs.Reading.{level_at, operations_at}

-- an operand alone
abbrev pub begun : Expr → ℕ → Run
begun operand height = record { first = operand; rest = []; lower = 0; height = height }

abbrev pub with_further : Run → Operation → Run
with_further run o = record { first = run.first; rest = run.rest ++ o ∷ []; lower = run.lower; height = run.height }

-- a run with the operand that it waits for
abbrev pub with_operand : Waiting → Expr → Run
with_operand w operand = with_further w.run (operation.Operator w.operator operand)

-- the run of the next level
abbrev pub raised : Run → Run
raised run = record { first = with_operations run.first run.rest; rest = []; lower = run.lower + 1; height = run.height }

-- what the value so far may be an instance of, from behind the word
abbrev pub type_tested : List ℕ → List Token → Read Operation
type_tested text ts = and_then (type_read text ts) (λ target rest. Some (operation.InstanceOf target, rest))

-- the further operations of a level, and those of the levels behind it, of so many in all
unfoldable pub rising : List ℕ → ℕ → ℕ → Expr → List Operation → ℕ → List Token → Read Expr
rising text room zero first rest lower ts = Some (first, ts)
rising text room (suc more) first rest lower ts =
    and_then (operations_at text room lower ts) (λ others behind. rising text room more (with_operations first (rest ++ others)) [] (lower + 1) behind)

-- what a run becomes, with the tokens behind it
abbrev pub risen : List ℕ → ℕ → Run → List Token → Read Expr
risen text room run ts = rising text room (run.height - run.lower) run.first run.rest run.lower ts

-- what becomes of runs, of which each waits for the one behind it, and the last one for what is read
abbrev pub resumed : List ℕ → ℕ → List Waiting → Read Expr → Read Expr
resumed text room [] read = read
resumed text room (w ∷ ws) read = and_then (resumed text room ws read) (λ operand behind. risen text room (with_operand w operand) behind)

-- what is still to be read
abbrev pub after : List ℕ → ℕ → List Token → List Waiting → Next → Read Expr
after text room tokens waiting (next.Whole e end) = Some (e, drop end tokens)
after text room tokens waiting (next.Operand at height) = resumed text room waiting (level_at text room height (drop at tokens))

abbrev pub after_turn : List ℕ → ℕ → List Token → List Waiting → Turn → Read Expr
after_turn text room tokens waiting (turn.Onward run at) = resumed text room waiting (risen text room run (drop at tokens))
after_turn text room tokens waiting (turn.Ends n) = after text room tokens waiting n

-- what is still to be read gives what was to be read before
abbrev pub Leaves : {A : Type 0} → (A → Read Expr) → Read Expr → Result A ParseError → Type 0
Leaves left whole (Ok a) = whole ≡ left a
Leaves left whole (Err error.NoMemory) = Unit {0}
Leaves left whole (Err (error.Wanted place wanted)) = whole ≡ None
Leaves left whole (Err (error.TooDeep limit)) = (whole ≡ None) × (limit ≡ 256)

-- the run that waits last has its operand, or none waits
abbrev pub Completes : List Waiting → List Waiting → Run → ℕ → Result Turn ParseError → Type 0
Completes before behind run at (Ok (turn.Onward longer end)) = (w : Waiting) × (before ≡ behind ++ w ∷ []) × (longer ≡ with_operand w run.first) × (end ≡ at)
Completes before behind run at (Ok (turn.Ends (next.Whole e end))) = (before ≡ []) × (e ≡ run.first) × (end ≡ at)
Completes before behind run at (Ok (turn.Ends (next.Operand place height))) = ⊥
Completes before behind run at (Err e) = e ≡ error.NoMemory

-- how many levels are still to be read
abbrev pub levels : List Waiting → ℕ
levels [] = 0
levels (w ∷ ws) = (w.run.height - w.run.lower + 1) + levels ws

-- a bound on the turns to come
abbrev pub work : ℕ → List Waiting → Run → ℕ → ℕ
work end waiting run at = (end - at) + (levels waiting + (run.height - run.lower))

-- the place goes forward
abbrev pub GoesOn : ℕ → ℕ → Next → Type 0
GoesOn end from (next.Whole e at) = from ≤ at
GoesOn end from (next.Operand at height) = (from < at) × (at ≤ end)

-- likewise, or less is to be done
abbrev pub TurnGoesOn : ℕ → ℕ → ℕ → List Waiting → Turn → Type 0
TurnGoesOn end from before waiting (turn.Onward run at) = (from ≤ at) × (work end waiting run at < before)
TurnGoesOn end from before waiting (turn.Ends n) = GoesOn end from n
