use Rattle.std.specs.Prelude.{codes}
use Rattle.jsh_text.specs.Utf.{utf8}
use Rattle.jsh_render.specs.Outcomes.{message_text}
use Rattle.jsh_render.proofs.Pushes.{four}
use Rattle.jsh_render.proofs.outcomes.push_thrown.Goals as goal

pub returns : goal.returns
returns c =
    four c.push-2.result c.args.bytes.now.items (codes "|  Exception ") (utf8 c.args.class.now) (message_text c.args.message.now) (codes "\n")
    c.push.new.bytes.items c.push_text.new.bytes.items c.push_message.new.bytes.items c.push-2.new.bytes.items
    c.in_ok-push.ensures c.in_ok-push_text.ensures c.in_ok-push_message.ensures c.push-2.ensures
