use Rattle.std.proofs.Common.{rules, ◌≡◌, ap₂, ◌∙◌}
use Rattle.std.proofs.lemmas.Result.{IfOk-weaker}
use Rattle.clap.specs.Words.{app_of, with_rule}
use Rattle.jsh_words.specs.Clap.{bare_app}
use Rattle.jsh_words.proofs.reading.command.Goals as goal

pub returns : goal.returns
returns c =
    let bare : app_of c.disable_help_flag.result ≡ bare_app = search rules in
    let one = c.in_ok-arg.ensures.shape c.option.ensures.local ∙ ap₂ with_rule bare c.option.ensures.rule in
    let two = c.in_ok-arg-2.ensures.shape c.option-2.ensures.local ∙ ap₂ with_rule one c.option-2.ensures.rule in
    let three = c.in_ok-arg-3.ensures.shape c.option-3.ensures.local ∙ ap₂ with_rule two c.option-3.ensures.rule in
    let four = c.in_ok-arg-4.ensures.shape c.option-4.ensures.local ∙ ap₂ with_rule three c.option-4.ensures.rule in
    let five = c.in_ok-arg-5.ensures.shape c.option-5.ensures.local ∙ ap₂ with_rule four c.option-5.ensures.rule in
    let six = c.in_ok-arg-6.ensures.shape c.option-6.ensures.local ∙ ap₂ with_rule five c.option-6.ensures.rule in
    IfOk-weaker c.arg-7.result _ _ (λ made added. added.shape c.scripts.ensures.local ∙ ap₂ with_rule six c.scripts.ensures.rule) c.arg-7.ensures
