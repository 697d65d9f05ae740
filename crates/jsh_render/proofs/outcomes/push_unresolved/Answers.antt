use Rattle.std.specs.Prelude.{codes}
use Rattle.jsh_render.specs.Outcomes.{attempt, reason}
use Rattle.jsh_render.proofs.Pushes.{five}
use Rattle.jsh_render.proofs.outcomes.push_unresolved.Goals as goal

pub returns : goal.returns
returns c =
    five c.push-3.result c.args.bytes.now.items (codes "|  attempted to ") (attempt c.args.name.now) (codes " ") (reason c.args.missing.now) (codes "\n")
    c.push.new.bytes.items c.push_attempt.new.bytes.items c.push-2.new.bytes.items c.push_reason.new.bytes.items c.push-3.new.bytes.items
    c.in_ok-push.ensures c.in_ok-push_attempt.ensures c.in_ok-push-2.ensures c.in_ok-push_reason.ensures c.push-3.ensures
