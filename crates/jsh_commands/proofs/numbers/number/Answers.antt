use Rattle.std.proofs.Common.{◌≡◌, true, sym, ap, ◌∙◌}
use Rattle.std.specs.Prelude.{Ok, Err}
use Rattle.jsh_commands.specs.Numbers.{is_decimal}
use Rattle.jsh_commands.proofs.Decimals.{parsed, no_number}
use Rattle.jsh_commands.proofs.numbers.number.Goals as goal

pub returns-then-not-is_decimal : goal.returns-then-not-is_decimal
returns-then-not-is_decimal c =
    sym (no_number c.args.text.now (ap is_decimal (sym c.as_bytes.ensures.value) ∙ (sym c.is_decimal.ensures ∙ c.if-not-is_decimal.true)))

pub returns-in-Ok : goal.returns-in-Ok
returns-in-Ok c =
    let is : is_decimal c.args.text.now ≡ true =
    ap is_decimal (sym c.as_bytes.ensures.value) ∙ (sym c.is_decimal.ensures ∙ c.if-not-is_decimal.false) in
    sym (parsed {E = Unit {0}} c.args.text.now (Ok c.in-Ok.number) c.in-Ok.ensures.value.0 is)

pub returns-in-Err : goal.returns-in-Err
returns-in-Err c =
    let is : is_decimal c.args.text.now ≡ true =
    ap is_decimal (sym c.as_bytes.ensures.value) ∙ (sym c.is_decimal.ensures ∙ c.if-not-is_decimal.false) in
    sym (parsed c.args.text.now (Err c.in-Err.field-0) c.in-Err.ensures.value.0 is)
