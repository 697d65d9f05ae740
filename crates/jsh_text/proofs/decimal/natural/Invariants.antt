use Rattle.std.proofs.Common.{◌≡◌, true, take, ◌<◌, ◌^◌}
use Rattle.std.specs.Str.{all_ascii_digits}
use Rattle.std.specs.Str.Parse.{digits_value}
use Rattle.jsh_text.proofs.decimal.natural.Given as goal

abbrev pub invariant-loop-unit : goal.invariant-loop-unit
invariant-loop-unit l =
    (all_ascii_digits (take l.unit-index l.units) ≡ true)
    × (l.number ≡ digits_value 10 (take l.unit-index l.units))
    × (l.number < 2 ^ 64)
