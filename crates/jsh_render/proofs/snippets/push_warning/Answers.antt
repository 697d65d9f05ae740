use Rattle.std.proofs.Common.{◌++◌, ap, ◌∙◌}
use Rattle.std.specs.Prelude.{codes}
use Rattle.jsh_render.specs.Words.{modifier_word}
use Rattle.jsh_render.proofs.Pushes.{three}
use Rattle.jsh_render.proofs.snippets.push_warning.Goals as goal

pub returns : goal.returns
returns c =
    let before = c.push.new.bytes.items in
    three c.push-3.result c.args.bytes.now.items (codes "|  Warning: modifier ") (modifier_word c.args.modifier) (codes " ignored\n")
    before c.push-2.new.bytes.items c.push-3.new.bytes.items c.in_ok-push.ensures
    (c.in_ok-push-2.ensures ∙ ap (λ word. before ++ word) (c.as_bytes.ensures.value ∙ c.modifier_word.ensures)) c.push-3.ensures
