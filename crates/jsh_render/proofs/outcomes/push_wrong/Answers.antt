use Rattle.std.proofs.Common.{◌++◌, ap, ◌∙◌}
use Rattle.std.specs.Prelude.{codes}
use Rattle.jsh_text.specs.Value.{kind_text}
use Rattle.jsh_render.proofs.Pushes.{five}
use Rattle.jsh_render.proofs.outcomes.push_wrong.Goals as goal

pub returns : goal.returns
returns c =
    let one = c.push.new.bytes.items in
    let three = c.push-3.new.bytes.items in
    five c.push-5.result c.args.bytes.now.items (codes "|  wrong kind: ") (kind_text c.args.wanted) (codes ", ") (kind_text c.args.found) (codes "\n")
    one c.push-2.new.bytes.items three c.push-4.new.bytes.items c.push-5.new.bytes.items c.in_ok-push.ensures
    (c.in_ok-push-2.ensures ∙ ap (λ word. one ++ word) (c.as_bytes.ensures.value ∙ c.as_str.ensures)) c.in_ok-push-3.ensures
    (c.in_ok-push-4.ensures ∙ ap (λ word. three ++ word) (c.as_bytes-2.ensures.value ∙ c.as_str-2.ensures)) c.push-5.ensures
