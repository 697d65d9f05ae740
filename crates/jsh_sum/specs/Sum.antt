-- What a sum's value is.
use Rattle.std.specs.Prelude.{ℤ, fold}
use Rattle.std.specs.Int.{w32, int_wrapping_add, int_wrapping_sub}
use Rattle.jsh_sum.specs.declared.sums.Sum.{Sum}
use Rattle.jsh_sum.specs.declared.sums.Part.{Part}
use Rattle.jsh_sum.specs.declared.sums.AdditiveOperator.{AdditiveOperator}
use Rattle.jsh_sum.specs.declared.sums.AdditiveOperator.TheVariants.{Plus, Minus}

-- one step from the left, in 32 bits: what doesn't fit wraps (JLS 15.18.2)
abbrev pub value_with : ℤ → Part → ℤ
value_with value part = applied part.operator value part.operand
  where
    applied : AdditiveOperator → ℤ → ℤ → ℤ
    applied Plus value operand = int_wrapping_add w32 value operand
    applied Minus value operand = int_wrapping_sub w32 value operand

abbrev pub value_of : Sum → ℤ
value_of sum = fold value_with sum.first sum.rest
