use Rattle.std.specs.String.{string_bytes}
use Rattle.jsh_lines.proofs.Texts.{pushed-all, pushed-fault}
use Rattle.jsh_lines.proofs.push_front.Goals as goal

pub returns-then-valid-bytes-clause-value : goal.returns-then-valid-bytes-clause-value
returns-then-valid-bytes-clause-value c =
    pushed-all (string_bytes c.args.text.now) c.args.bytes.now c.valid_front-valid.result.now (string_bytes c.push_str.new.self)
    c.valid_front-valid.ensures c.if-valid-bytes.true c.in_ok-push_str.ensures.bytes

pub returns-clause-value : goal.returns-clause-value
returns-clause-value c =
    pushed-fault (string_bytes c.args.text.now) c.args.bytes.now c.valid_front-valid.result.now (string_bytes c.push_str.new.self)
    (string_bytes c.push.new.self) c.valid_front-valid.ensures c.if-valid-bytes.false c.in_ok-push_str.ensures.bytes c.in_ok-push.ensures.bytes
