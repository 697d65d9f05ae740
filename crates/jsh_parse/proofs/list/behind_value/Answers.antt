use Rattle.std.proofs.Common.{sym, arith}
use Rattle.jsh_parse.proofs.Pieced.{value_end}
use Rattle.jsh_parse.proofs.list.behind_value.Goals as goal

pub returns-then-sees_right_brace : goal.returns-then-sees_right_brace
returns-then-sees_right_brace c =
    (omega arith, value_end c.args.input.now.tokens.now c.args.at c.in-Some.token c.in-Some.ensures.found (sym c.if-is_right_brace.ensures) (sym c.if-not-is_comma.ensures) (sym c.if-sees_right_brace.ensures.value))
