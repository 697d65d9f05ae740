use Rattle.std.proofs.Common.{◌≡◌, Some, ap, ◌∙◌, rules}
use Rattle.std.proofs.lemmas.Result.{IfOk-weaker}
use Rattle.std.specs.Fmt.{signed_decimal}
use Rattle.jsh_text.specs.Decimal.{int_value}
use Rattle.jsh_text.proofs.Agree.{int_value-signed_decimal}
use Rattle.jsh_text.proofs.decimal.print_int.Goals as goal

pub returns-clause-reads_back : goal.returns-clause-reads_back
returns-clause-reads_back c =
    IfOk-weaker _ (λ text. text ≡ signed_decimal c.args.value) (λ text. int_value text ≡ Some c.args.value)
    (λ text same. ap int_value same ∙ int_value-signed_decimal c.args.value c.ranges.value.sfits)
    (search rules)
