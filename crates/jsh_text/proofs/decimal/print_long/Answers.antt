use Rattle.std.proofs.Common.{◌≡◌, Some, ap, ◌∙◌, w64}
use Rattle.std.proofs.lemmas.Int.{to_z-of_z}
use Rattle.std.proofs.lemmas.Result.{IfOk-weaker}
use Rattle.std.specs.Fmt.{signed_decimal}
use Rattle.jsh_text.specs.Decimal.{long_value}
use Rattle.jsh_text.proofs.Agree.{long_value-signed_decimal}
use Rattle.jsh_text.proofs.decimal.print_long.Goals as goal

pub returns-clause-reads_back : goal.returns-clause-reads_back
returns-clause-reads_back c =
    let printed : c.as_bytes.result.now ≡ signed_decimal c.args.value =
    c.as_bytes.ensures.value ∙ c.format.ensures.text ∙ ap signed_decimal (to_z-of_z w64 c.args.value c.ranges.value) in
    IfOk-weaker c.from_latin1.result (λ text. text ≡ c.as_bytes.result.now) (λ text. long_value text ≡ Some c.args.value)
    (λ text same. ap long_value (same ∙ printed) ∙ long_value-signed_decimal c.args.value c.ranges.value.sfits)
    c.from_latin1.ensures
