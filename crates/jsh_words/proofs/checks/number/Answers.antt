use Rattle.std.proofs.Common.{◌≡◌, true, rules, sym, arith}
use Rattle.std.specs.Prelude.{Err}
use Rattle.jsh_words.specs.Meant.{is_number}
use Rattle.jsh_words.proofs.Numbers.{parsed, too_large}
use Rattle.jsh_words.proofs.checks.number.Goals as goal

pub returns-in_default : goal.returns-in_default
returns-in_default c =
    let is : is_number c.args.text.now ≡ true = search rules in
    let large = parsed c.args.text.now (Err c.in_default.field-0) c.in_default.ensures.value.0 is in
    sym (too_large c.args.least c.args.most c.args.text.now (omega (arith, large, c.ranges.most.fits)))
