use Rattle.std.proofs.Common.{◌≡◌, ◌+◌, length, take, ap, sym, ◌∙◌, arith, take_all, ◌<◌, Some}
use Rattle.std.proofs.lemmas.Int.Digits.{digits_value_more}
use Rattle.std.proofs.lemmas.Bool.Decides.{nat_tests}
use Rattle.std.specs.Option.{option_and_then}
use Rattle.std.specs.Str.Parse.{digits_value}
use Rattle.jsh_text.specs.Decimal.{within_64_bits}
use Rattle.jsh_text.proofs.Digits.{all_ascii_digits-more, natural_value-no_digit, natural_value-too_large, natural_value-digits, test_failed, test_passed}
use Rattle.jsh_text.proofs.decimal.natural.Goals as goal

pub returns-in_err-digit : goal.returns-in_err-digit
returns-in_err-digit c =
    c.from_residual.ensures
    ∙ sym (ap (option_and_then within_64_bits) (natural_value-no_digit c.args.units.now c.loop-unit.unit-index (omega arith) (test_failed _ _ c.in_err-digit.ensures)))

pub returns-in_err-checked_mul : goal.returns-in_err-checked_mul
returns-in_err-checked_mul c =
    let step = digits_value_more 10 c.args.units.now c.loop-unit.unit-index (omega arith) in
    c.from_residual-in_err-checked_mul.ensures
    ∙ sym (natural_value-too_large c.args.units.now (c.loop-unit.unit-index + 1) (omega arith))

pub returns-in_err-number : goal.returns-in_err-number
returns-in_err-number c =
    let step = digits_value_more 10 c.args.units.now c.loop-unit.unit-index (omega arith) in
    let here = (test_passed _ _ _ c.in_ok-digit.ensures).1 in
    c.from_residual-in_err-number.ensures
    ∙ sym (natural_value-too_large c.args.units.now (c.loop-unit.unit-index + 1) (omega arith))

pub loop-unit-preserved : goal.loop-unit-preserved
loop-unit-preserved c =
    let step = digits_value_more 10 c.args.units.now c.loop-unit.unit-index (omega arith) in
    let here = test_passed _ _ _ c.in_ok-digit.ensures in
    (all_ascii_digits-more c.args.units.now c.loop-unit.unit-index (omega arith) c.loop-unit.invariant.0 here.0, omega arith, omega arith)

pub returns : goal.returns
returns c =
    let us = c.args.units.now in
    let all : take c.loop-unit.unit-index us ≡ us = take_all _ us c.loop-unit-test.false in
    let number : c.loop-unit.number ≡ digits_value 10 us = c.loop-unit.invariant.1 ∙ ap (digits_value 10) all in
    let some : 0 < length us = grind (arith, nat_tests) in
    ap Some number
    ∙ sym (natural_value-digits us some (rw all at c.loop-unit.invariant.0) (omega arith))
