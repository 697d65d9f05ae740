-- The bytes are tested as the definition tests them.
use Rattle.std.proofs.Common.{subst, sym, ◌∙◌, arith}
use Rattle.std.specs.Str.{IsUtf8}
use Rattle.jsh_replay.proofs.FieldLaws.{text_of-given, text_of-refused}
use Rattle.jsh_replay.proofs.fields.text_of.Goals as goal

pub returns-in-Ok : goal.returns-in-Ok
returns-in-Ok c =
    text_of-given c.args.len c.args.bytes.now c.in-Ok.text.now c.split_at.result.1.now (omega arith) (omega arith) (c.in-Ok.ensures.cases.0 ∙ c.split_at.ensures.front) c.split_at.ensures.back
    (subst IsUtf8 c.split_at.ensures.front c.in-Ok.ensures.cases.1)

pub returns-in-Err : goal.returns-in-Err
returns-in-Err c =
    text_of-refused c.args.len c.args.bytes.now (omega arith) (omega arith) (λ utf8. c.in-Err.ensures.cases.0 (subst IsUtf8 (sym c.split_at.ensures.front) utf8))
