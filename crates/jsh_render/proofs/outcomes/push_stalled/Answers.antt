use Rattle.std.specs.Prelude.{codes}
use Rattle.jsh_render.specs.Outcomes.{numbers_text}
use Rattle.jsh_render.proofs.Pushes.{three}
use Rattle.jsh_render.proofs.outcomes.push_stalled.Goals as goal

pub returns : goal.returns
returns c =
    three c.push-2.result c.args.bytes.now.items (codes "|  stalled: ") (numbers_text c.args.threads.now) (codes "\n")
    c.push.new.bytes.items c.push_numbers.new.bytes.items c.push-2.new.bytes.items c.in_ok-push.ensures c.in_ok-push_numbers.ensures c.push-2.ensures
